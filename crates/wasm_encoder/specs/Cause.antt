-- What a command adds after entries, what it returns, and why it is refused.
use Rattle.std.specs.Prelude.{ℕ, List, [], ◌∷◌, ◌++◌, Option, None, option_to_list}
use Rattle.wenc_base.specs.Fault.{first_of}
use Rattle.wenc_base.specs.declared.fault.Fault.{Fault}
use Rattle.wenc_builder.specs.Entry.{Entry, entry, items, EntryCause}
use Rattle.wenc_builder.specs.Item.{ComponentItem}
use Rattle.wenc_builder.specs.DebugNames.{names_entry}
use Rattle.wenc_builder.specs.Sections.{whole}
use Rattle.wenc_builder.specs.Space.{index_of}
use Rattle.wasm_encoder.specs.Command.{CommandTree, Add, Nest, AppendNames, Commands, no_more, then}

abbrev mutual
  -- what a command adds after these entries, where it is accepted
  pub added : List Entry → CommandTree → List Entry
  added es (Add x) = x ∷ []
  added es (Nest name cs) = entry (ComponentItem (whole (items (led [] cs)))) name ∷ []
  added es AppendNames = option_to_list (names_entry es)

  -- the entries after these and after commands that are all accepted
  pub led : List Entry → Commands → List Entry
  led es no_more = es
  led es (then c cs) = led (es ++ added es c) cs

-- the index of the added item, if it has one
abbrev pub index_added : List Entry → List Entry → Option ℕ
index_added es [] = None
index_added es (x ∷ xs) = index_of (items es) x.item

-- what an accepted command returns
abbrev pub answer_of : List Entry → CommandTree → Option ℕ
answer_of es c = index_added es (added es c)

-- why an addition after these entries is refused
abbrev pub added_cause : List Entry → List Entry → Fault → Type 0
added_cause es [] = λ fault. ⊥
added_cause es (x ∷ xs) = EntryCause es x

abbrev mutual
  -- why a command is refused after these entries: a nested component because of the first inner
  -- command that has a cause, and any command because of what it adds
  pub cause : List Entry → CommandTree → Fault → Type 0
  cause es (Nest name cs) = first_of (first_cause [] cs) (added_cause es (added es (Nest name cs)))
  cause es c = added_cause es (added es c)

  -- the cause of the first of the commands that has one, after these entries and what those before
  -- it add
  pub first_cause : List Entry → Commands → Fault → Type 0
  first_cause es no_more = λ fault. ⊥
  first_cause es (then c cs) = first_of (cause es c) (first_cause (es ++ added es c) cs)
