-- The section of debug names that a builder adds (component model, binary format, "Name Section").
use Rattle.std.specs.Prelude.{◌≡◌, ◌↔◌, List, [], ◌∷◌, map, nat_eq, if◌then◌else◌, Bool, true}
use Rattle.std.specs.Prelude.{false, Option, Some, None, Result, Ok, Err, OnErr}
use Rattle.std.specs.List.{flat_map}
use Rattle.std.specs.Option.{MatchOption}
use Rattle.wenc_base.specs.Names.{NameAssociation}
use Rattle.wenc_base.specs.Piece.{Piece, Form, nothing, each}
use Rattle.wenc_base.specs.Holder.{HolderState, holding}
use Rattle.wenc_base.specs.declared.fault.Fault.{Fault}
use Rattle.wenc_base.specs.declared.fault.Fault.TheVariants.{Unfinished}
use Rattle.wenc_sections.specs.Names.{Subsection, subsections_text, item_names}
use Rattle.wenc_sections.specs.Names.{names_label, held_subsection}
use Rattle.wenc_builder.specs.Entry.{Entry, custom_entry, names}
use Rattle.wenc_builder.specs.Builder.{Namespace, namespace_at, State, builder_is_finished}
use Rattle.wenc_builder.specs.Enters.{EntersWithoutIndex}
use Rattle.wenc_builder.specs.Holds.{Holds}
use Rattle.wenc_sections.specs.declared.space.Space.{Space}
use Rattle.wenc_sections.specs.declared.space.Space.TheVariants.{CoreModules, CoreFuncs, CoreTypes}
use Rattle.wenc_sections.specs.declared.space.Space.TheVariants.{CoreMemories, CoreTables}
use Rattle.wenc_sections.specs.declared.space.Space.TheVariants.{CoreInstances, CoreTags}
use Rattle.wenc_sections.specs.declared.space.Space.TheVariants.{CoreGlobals, Funcs, Instances}
use Rattle.wenc_sections.specs.declared.space.Space.TheVariants.{Values, Components, Types}

-- the spaces, in the order in which their names are written
abbrev pub named_spaces : List Space
named_spaces =
    CoreFuncs ∷ CoreTables ∷ CoreMemories ∷ CoreGlobals ∷ CoreTags ∷ CoreTypes ∷ CoreModules ∷
    CoreInstances ∷ Instances ∷ Funcs ∷ Types ∷ Components ∷ Values ∷ []

-- a subsection for each space that has names
abbrev pub name_subsections : (Space → List NameAssociation) → List Subsection
name_subsections names = flat_map (λ space. item_names space (names space)) named_spaces

-- the entry of these subsections, where there are any
abbrev pub named_entry : List Subsection → Option Entry
named_entry [] = None
named_entry (s ∷ ss) = Some (custom_entry names_label (subsections_text (s ∷ ss)))

-- the entry of the names of all entries
abbrev pub names_entry : List Entry → Option Entry
names_entry es = named_entry (name_subsections (names es))

-- ---- as they are kept

-- what each space has
abbrev pub by_space : {A : Type 0} → (Space → A) → List (Space × A)
by_space at = map (λ space. (space, at space)) named_spaces

-- the names in a space
abbrev pub names_held : Namespace → HolderState
names_held s = holding [] s.named s.names

-- a piece, where there is something in it
abbrev pub unless_empty : Bool → Piece → Piece
unless_empty true p = nothing
unless_empty false p = p

-- the subsection of names that are kept, where there are some
abbrev pub space_names : Form (Space × HolderState)
space_names p =
    unless_empty (nat_eq p.1.count 0) (held_subsection p.0 p.1)

-- there is no name at all
abbrev pub none_named : List (Space × HolderState) → Bool
none_named [] = true
none_named (p ∷ ps) = if nat_eq p.1.count 0 then none_named ps else false

-- the names that are kept of each space
abbrev pub kept_names : State → List (Space × HolderState)
kept_names s = by_space (λ k. names_held (namespace_at s.settled.spaces k))

-- ---- the call

-- It adds that entry to every list that was held or, if there is none, changes nothing and is never
-- refused. The same holds for the entry of the names that are kept, whatever was held.
pub record AddsNames (old new : State) (result : Result (Unit {0}) Fault) : Type 0 where
  pub held : (es : List Entry) → Holds old es
      → MatchOption (names_entry es) ((result ≡ Ok tt) × (new ≡ old))
      (λ x. EntersWithoutIndex old new result x)
  pub none : none_named (kept_names old) ≡ true → builder_is_finished old ≡ true
      → (result ≡ Ok tt) × (new ≡ old)
  pub some : none_named (kept_names old) ≡ false
      → EntersWithoutIndex old new result
      (custom_entry names_label (each space_names (kept_names old)).text)
  pub err : OnErr result (new ≡ old)
  pub unfinished : (builder_is_finished old ≡ false) ↔ (result ≡ Err Unfinished)
