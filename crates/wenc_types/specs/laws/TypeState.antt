-- What module types, component types and instance types stay through all calls.
use Rattle.std.proofs.Common.{◌≡◌, ℕ, ◌+◌, ◌-◌, ◌≤◌, Bool, true, false, is_none, List, [], ◌∷◌}
use Rattle.std.proofs.Common.{◌++◌, Option, Some, None, refl, ap, sym, subst, arith}
use Rattle.std.proofs.Math.Logic.{∥∥₁_map, ∥∥₁_map₂}
use Rattle.wenc_base.specs.Prelude.{EncodeCause, Form, HasForm, Serves, closed_as_it_is}
use Rattle.wenc_base.specs.Prelude.{held_members, held_text, is_finished, member_text, refused_for}
use Rattle.wenc_base.specs.Prelude.{with_member, ◌▸◌}
use Rattle.wenc_base.specs.declared.holder.openings.Opening.{Opening}
use Rattle.wenc_base.specs.laws.Members.{finished_back, closed_as_more, within_finished}
use Rattle.wenc_types.specs.ComponentTypes.{ComponentType, InstanceType, components_of}
use Rattle.wenc_types.specs.ComponentTypes.{instances_of, def_type, component_declaration}
use Rattle.wenc_types.specs.ComponentTypes.{instance_declaration}
use Rattle.wenc_types.specs.CoreTypes.{module_declaration, Module, core_type}
use Rattle.wenc_types.specs.Declarations.{module_space, component_space, instance_space, TypeState}
use Rattle.wenc_types.specs.Declarations.{NoneBegun, Declares, IsDeclaration, DeclaresSome}
use Rattle.wenc_types.specs.Declarations.{one_more, one_less, type_ended, type_given_up}
use Rattle.wenc_types.specs.inside.TypeState.{IsTypeState, HasOne, OpenedIsIn, total}
use Rattle.wenc_types.specs.laws.Declarations.{declares_next, module_serves, component_serves, instance_serves}
use Rattle.wenc_types.specs.declared.counts.Counts.{Counts}
use Rattle.wenc_types.specs.declared.counts.IndexSpace.{IndexSpace}
use Rattle.wenc_types.specs.declared.counts.IndexSpace.TheVariants.{CoreType, «Type» as TypeSpace, Instance}

-- ---- counts

-- one more of a space makes one more at most
total_counted : (space : Option IndexSpace) (n : Counts) → total (one_more space n) ≤ total n + 1
total_counted None n = omega arith
total_counted (Some CoreType) n = omega arith
total_counted (Some TypeSpace) n = omega arith
total_counted (Some Instance) n = omega arith

counted_uncounted : (space : Option IndexSpace) (n : Counts) → HasOne space n → one_more space (one_less space n) ≡ n
counted_uncounted None n one = absurd one
counted_uncounted (Some CoreType) n one = let e : n.core_types - 1 + 1 ≡ n.core_types = omega arith in rw e refl
counted_uncounted (Some TypeSpace) n one = let e : n.types - 1 + 1 ≡ n.types = omega arith in rw e refl
counted_uncounted (Some Instance) n one = let e : n.instances - 1 + 1 ≡ n.instances = omega arith in rw e refl

-- what is being written is one of the spaces
one_at : (o : Option Opening) (space : Option IndexSpace) (n : Counts) → is_none o ≡ false
    → OpenedIsIn o space n → HasOne space n
one_at None space n e c = cc
one_at (Some o) space n e c = c

none_at : (o : Option Opening) (space : Option IndexSpace) (n : Counts) → is_none o ≡ true
    → OpenedIsIn o space n → space ≡ None
none_at None space n e c = c
none_at (Some o) space n e c = cc

still_none : (o : Option Opening) (space : Option IndexSpace) (n m : Counts) → is_none o ≡ true
    → space ≡ None → OpenedIsIn o space m
still_none None space n m e s = s
still_none (Some o) space n m e s = cc

-- ---- declarations

module _ {D : Type 0} (form : Form D) (space : D → Option IndexSpace) where
  abbrev HasSome : TypeState → Type 0
  HasSome t = ∥ DeclaresSome form space t ∥₁

  some_more : (t : TypeState) (text : List ℕ) (s : Option IndexSpace) → DeclaresSome form space t
      → IsDeclaration form space text s
      → DeclaresSome form space (record
      { held = with_member t.held text; counts = one_more s t.counts; begun = t.begun })
  some_more t text s some one = record {
    declarations = some.declarations ++ one.declaration ∷ [];
    declared = rw one.space_is (declares_next form space t
        (with_member t.held text) one.declaration some.declarations
        (ap (with_member t.held) one.text_is) one.fits some.declared);
  }

  pub settled : (t : TypeState) → is_finished t.held ≡ true → IsTypeState form space t → NoneBegun t
  settled t finished d = record {
    finished = finished;
    none_begun =
        none_at t.held.opening t.begun t.counts finished d.counted;
  }

  settled_back : (t : TypeState) → NoneBegun t → type_given_up t ≡ t
  settled_back t s = rw (finished_back t.held s.finished, s.none_begun) refl

  -- what is finished declares some
  pub declares_some : (t : TypeState) → is_finished t.held ≡ true → IsTypeState form space t
      → ∥ DeclaresSome form space t ∥₁
  declares_some t finished d = subst HasSome (settled_back t (settled t finished d)) d.settled

  -- a declaration is added
  pub declaring_added : (t : TypeState) (text : List ℕ) (s : Option IndexSpace)
      → is_finished t.held ≡ true → IsDeclaration form space text s → IsTypeState form space t
      → IsTypeState form space (record {
        held = with_member t.held text;
        counts =
            one_more s t.counts;
        begun = t.begun;
      })
  declaring_added t text s finished one d =
      let none = settled t finished d in
      let next : TypeState = record { held = with_member t.held text; counts = one_more s t.counts; begun = t.begun } in
      let some : ∥ DeclaresSome form space next ∥₁ =
      ∥∥₁_map₂ (declares_some t finished d) ∣ one ∣₁ (some_more t text s) in
      record {
        enough = omega (arith, d.enough, total_counted s t.counts);
        counted = still_none t.held.opening t.begun t.counts (one_more s t.counts) finished none.none_begun;
        opening = within_finished (with_member t.held text) finished;
        settled =
            subst HasSome (sym (settled_back next
            (record { finished = finished; none_begun = none.none_begun }))) some;
      }

  -- it is ended, as a declaration
  pub declaring_ended : (t : TypeState) → ∥ IsDeclaration form space (member_text t.held) t.begun ∥₁
      → IsTypeState form space t → IsTypeState form space (type_ended t)
  declaring_ended t whole d = at (is_finished t.held) refl
    where
      at : (b : Bool) → is_finished t.held ≡ b → IsTypeState form space (type_ended t)
      at true finished =
          let none = settled t finished d in
          let same : type_ended t ≡ t = rw (closed_as_it_is t.held finished, ← none.none_begun) refl in
          subst (IsTypeState form space) (sym same) d
      at false unfinished =
          let back : TypeState = type_given_up t in
          let more : ∥ DeclaresSome form space
          (record {
            held = with_member back.held (member_text t.held);
            counts =
                one_more t.begun back.counts;
            begun = None;
          }) ∥₁ =
          ∥∥₁_map₂ d.settled whole (some_more back (member_text t.held) t.begun) in
          let one : HasOne t.begun t.counts = one_at t.held.opening t.begun t.counts unfinished d.counted in
          record {
            enough = d.enough;
            counted = refl;
            opening = tt;
            settled = rw (closed_as_more t.held unfinished d.opening, counted_uncounted t.begun t.counts one) at more;
          }

-- ---- the texts of what is finished

has_form : {D V : Type 0} (form : Form D) (space : D → Option IndexSpace) (b : ℕ) (whole : Form V)
    (value : List D → V) (t : TypeState)
    → ((ds : List D) → Declares form space t ds → Serves (b ▸ held_members t.held)
    (refused_for (EncodeCause t.held) (whole (value ds)))) → (held_members t.held).Fits
    → ∥ DeclaresSome form space t ∥₁ → ∥ HasForm whole (b ∷ held_text t.held) ∥₁
has_form form space b whole value t serve fits some = ∥∥₁_map some (λ s.
    let serves = serve s.declarations s.declared in
    record { value = value s.declarations; fits = serves.fits fits; is = serves.text })

pub module_has_form : (t : TypeState) → (held_members t.held).Fits
    → ∥ DeclaresSome module_declaration module_space t ∥₁
    → ∥ HasForm core_type (0x50 ∷ held_text t.held) ∥₁
module_has_form t = has_form module_declaration module_space 0x50 core_type Module t (module_serves t)

pub component_has_form : (t : TypeState) → (held_members t.held).Fits
    → ∥ DeclaresSome component_declaration component_space t ∥₁
    → ∥ HasForm def_type (0x41 ∷ held_text t.held) ∥₁
component_has_form t = has_form component_declaration component_space 0x41 def_type
    (λ ds. ComponentType (components_of ds)) t (component_serves t)

pub instance_has_form : (t : TypeState) → (held_members t.held).Fits
    → ∥ DeclaresSome instance_declaration instance_space t ∥₁
    → ∥ HasForm def_type (0x42 ∷ held_text t.held) ∥₁
instance_has_form t = has_form instance_declaration instance_space 0x42 def_type
    (λ ds. InstanceType (instances_of ds)) t (instance_serves t)
