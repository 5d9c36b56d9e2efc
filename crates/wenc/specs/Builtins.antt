-- Scripts' words for builtins: the name, and a word for each field. A fixed byte has no word, and a
-- builtin with options, a core type or a result can't be said.
use Rattle.std.specs.Prelude.{ℕ, if◌then◌else◌, List, [], ◌∷◌, Option, Some, None, option_map}
use Rattle.std.specs.Option.{option_and_then}
use Rattle.std.specs.Str.{bytes_eq}
use Rattle.wenc_canon.specs.Canonicals.{Field, Index, Flag, Zero, Value, Values, Builtin, row}
use Rattle.wenc_canon.specs.Canonicals.{builtins, Canonical, OfBuiltin}
use Rattle.wenc.specs.Fields.{number_word, flag_word}

-- what words say of a field, and the words after it
abbrev pub said : (f : Field) → List (List ℕ) → Option (Value f × List (List ℕ))
said Index (word ∷ words) = option_map (λ n. (n, words)) (number_word word)
said Flag (word ∷ words) = option_map (λ b. (b, words)) (flag_word word)
said Zero words = Some (tt, words)
said f words = None

-- what no words follow
abbrev pub word_is_over : {T : Type 0} → T × List (List ℕ) → Option T
word_is_over (v, []) = Some v
word_is_over (v, word ∷ words) = None

-- what words say of the fields, all of them
abbrev pub values_said : (fs : List Field) → List (List ℕ) → Option (Values fs)
values_said [] words = word_is_over (tt, words)
values_said (f ∷ []) words = option_and_then word_is_over (said f words)
values_said (f ∷ g ∷ fs) words =
    option_and_then (λ s. option_map (λ vs. (s.0, vs)) (values_said (g ∷ fs) s.1)) (said f words)

-- one of these builtins
abbrev pub one_of : List Builtin → List ℕ → List (List ℕ) → Option Canonical
one_of [] verb words = None
one_of (i ∷ is) verb words =
    if bytes_eq verb (row i).name then option_map (OfBuiltin i) (values_said (row i).fields words)
    else one_of is verb words

abbrev pub builtin_said : List ℕ → List (List ℕ) → Option Canonical
builtin_said = one_of builtins
