-- The invariant of a type with declarations.
use Rattle.std.specs.Prelude.{◌≡◌, ℕ, ◌+◌, ◌≤◌, length, Option, Some, None}
use Rattle.wenc_base.specs.Piece.{Form}
use Rattle.wenc_base.specs.Openings.{OpeningStands}
use Rattle.wenc_base.specs.declared.holder.openings.Opening.{Opening}
use Rattle.wenc_types.specs.Declarations.{TypeState, DeclaresSome, type_given_up}
use Rattle.wenc_types.specs.declared.counts.Counts.{Counts}
use Rattle.wenc_types.specs.declared.counts.IndexSpace.{IndexSpace}
use Rattle.wenc_types.specs.declared.counts.IndexSpace.TheVariants.{CoreType, «Type» as TypeSpace}
use Rattle.wenc_types.specs.declared.counts.IndexSpace.TheVariants.{Instance}

-- there is one of this space
abbrev pub HasOne : Option IndexSpace → Counts → Type 0
HasOne None n = ⊥
HasOne (Some CoreType) n = 1 ≤ n.core_types
HasOne (Some TypeSpace) n = 1 ≤ n.types
HasOne (Some Instance) n = 1 ≤ n.instances

-- what is being written is counted
abbrev pub OpenedIsIn : Option Opening → Option IndexSpace → Counts → Type 0
OpenedIsIn None space n = space ≡ None
OpenedIsIn (Some o) space n = HasOne space n

abbrev pub total : Counts → ℕ
total n = n.core_types + n.types + n.instances

-- It has some declarations, but for a type that is being written.
pub record IsTypeState {D : Type 0} (form : Form D) (space : D → Option IndexSpace)
    (t : TypeState) : Type 0 where
  pub enough : total t.counts ≤ t.held.count
  pub counted : OpenedIsIn t.held.opening t.begun t.counts
  pub opening : OpeningStands t.held.opening t.held.count (length t.held.body)
  pub settled : ∥ DeclaresSome form space (type_given_up t) ∥₁
