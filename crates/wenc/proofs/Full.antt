-- Lines with an empty word say nothing: where it is no name, no bytes and no number is empty.
use Rattle.std.proofs.Common.{◌≡◌, ℕ, Bool, true, false, cond, List, [], ◌∷◌, Option, Some, None, refl, ap, ◌∙◌, option_map, option_and_then, arith}
use Rattle.std.proofs.lemmas.Grind.{common_steps}
use Rattle.wenc_parts.specs.declared.exports.ComponentExportKind.{ComponentExportKind}
use Rattle.wenc_canon.specs.Canonicals.{Field, Index, Flag, Zero, Builtin, row, builtins}
use Rattle.wenc_parts.specs.Imports.{plain_name}
use Rattle.wenc.specs.Fields.{numbers, reference_word}
use Rattle.wenc.specs.Builtins.{said, word_is_over, values_said, one_of, builtin_said}
use Rattle.wasm_encoder.specs.Command.{CommandTree, Add}
use Rattle.wenc_builder.specs.Entry.{import_entry, alias_export_entry, canonical_tree_entry}
use Rattle.wenc.specs.Script.{has_empty, import_command, alias_command, start_command, append_names_command, command_by, command_of}
use Rattle.std.specs.Prelude.{codes}
use Rattle.std.specs.Str.{bytes_eq}
use Rattle.std.proofs.lemmas.Slice.Eq.{bytes_eq-Decides}
use Rattle.wenc.specs.inside.Full.{unless_word_empty, kind_and_index}
use Rattle.wenc.proofs.Lines.{false_without}

-- what says nothing where a word is empty says the same of full words
full_same : {A : Type 0} (b : Bool) (x : Option A) → (b ≡ true → x ≡ None) → cond b None x ≡ x
full_same b x h = grind arith

-- ---- items with a name

pub full_import : (name k i : List ℕ) (s : ComponentExportKind × ℕ) → Some s ≡ kind_and_index name k i
    → unless_word_empty import_command (name ∷ k ∷ i ∷ []) ≡ Some (Add (import_entry (plain_name name) (reference_word s.0 s.1)))
full_import name k i s h = grind (arith, common_steps)

pub full_alias : (i k name : List ℕ) (s : ComponentExportKind × ℕ) → Some s ≡ kind_and_index name k i
    → unless_word_empty alias_command (i ∷ k ∷ name ∷ []) ≡ Some (Add (alias_export_entry s.1 name s.0))
full_alias i k name s h = grind (arith, common_steps)

-- ---- what follows the first word

numbers_none : (words : List (List ℕ)) → has_empty words ≡ true → numbers words ≡ None
numbers_none [] h = absurd cc
numbers_none ([] ∷ words) h = refl
numbers_none ((b ∷ word) ∷ words) h = grind (arith, numbers_none words h)

start_none : (words : List (List ℕ)) → has_empty words ≡ true → start_command words ≡ None
start_none words h = grind (arith, common_steps, numbers_none)

full_names : (words : List (List ℕ)) → unless_word_empty append_names_command words ≡ append_names_command words
full_names words = grind arith

-- ---- builtins

-- what is left has an empty word too
abbrev IsLeft : {T : Type 0} → Option (T × List (List ℕ)) → Type 0
IsLeft None = Unit {0}
IsLeft (Some s) = has_empty s.1 ≡ true

said_left : (f : Field) (words : List (List ℕ)) → has_empty words ≡ true → IsLeft (said f words)
said_left Index ((b ∷ word) ∷ words) h = grind arith
said_left Flag ((b ∷ word) ∷ words) h = grind arith
said_left Zero words h = h
said_left f words h = tt

then_none : {S T : Type 0} (o : Option (S × List (List ℕ))) (f : S × List (List ℕ) → Option T) → IsLeft o
    → ((s : S × List (List ℕ)) → has_empty s.1 ≡ true → f s ≡ None)
    → option_and_then f o ≡ None
then_none o f h none = grind arith

over_none : {T : Type 0} (s : T × List (List ℕ)) → has_empty s.1 ≡ true → word_is_over s ≡ None
over_none s h = grind arith

values_none : (fs : List Field) (words : List (List ℕ)) → has_empty words ≡ true → values_said fs words ≡ None
values_none [] words h = over_none (tt, words) h
values_none (f ∷ []) words h = then_none (said f words) _ (said_left f words h) over_none
values_none (f ∷ g ∷ fs) words h = then_none (said f words) _ (said_left f words h) (λ s left. ap (option_map _) (values_none (g ∷ fs) s.1 left))

one_none : (is : List Builtin) (verb : List ℕ) (words : List (List ℕ)) → has_empty words ≡ true → one_of is verb words ≡ None
one_none [] verb words h = refl
one_none (i ∷ is) verb words h = grind (arith, values_none (row i).fields words h, one_none is verb words h)

none_said : (verb : List ℕ) (words : List (List ℕ)) → has_empty (verb ∷ words) ≡ true → builtin_said verb words ≡ None
none_said [] words h = refl
none_said (b ∷ verb) words h = one_none builtins (b ∷ verb) words h

-- ---- lines, by the first word

differ : (a b : List ℕ) → ¬ (a ≡ b) → bytes_eq a b ≡ false
differ a b h = false_without (bytes_eq a b) (a ≡ b) (bytes_eq-Decides a b).0 h

module _ (all : List (List ℕ)) (verb : List ℕ) (words : List (List ℕ)) (is : all ≡ verb ∷ words) where
  pub start_said : verb ≡ codes "start" → unless_word_empty command_of all ≡ start_command words
  start_said v = rw (is, v) (full_same (has_empty words) (start_command words) (start_none words))

  pub names_said : verb ≡ codes "append-names" → unless_word_empty command_of all ≡ append_names_command words
  names_said v = rw (is, v) (full_names words)

  -- one that begins with another word is for a builtin
  pub other_said : ¬ (verb ≡ codes "import") → ¬ (verb ≡ codes "export") → ¬ (verb ≡ codes "alias-export") → ¬ (verb ≡ codes "core-module")
      → ¬ (verb ≡ codes "start") → ¬ (verb ≡ codes "append-names")
      → unless_word_empty command_of all ≡ option_map (λ function. Add (canonical_tree_entry None function)) (builtin_said verb words)
  other_said h1 h2 h3 h4 h5 h6 =
      let same : command_by verb words ≡ option_map (λ function. Add (canonical_tree_entry None function)) (builtin_said verb words) =
      rw (differ verb _ h1, differ verb _ h2, differ verb _ h3, differ verb _ h4, differ verb _ h5, differ verb _ h6) refl in
      ap (unless_word_empty command_of) is ∙ ap (λ (c : Option CommandTree). cond (has_empty (verb ∷ words)) None c) same ∙ full_same _ _
      (λ e. ap (option_map _) (none_said verb words e))
