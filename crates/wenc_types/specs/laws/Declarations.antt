-- What follows for the declarations of module types, component types and instance types.
use Rattle.std.proofs.Common.{◌≡◌, ℕ, ◌+◌, ◌-◌, List, [], ◌∷◌, ◌++◌, Option, Some, None, refl, ap, Result, sym, ◌∙◌, arith}
use Rattle.wenc_base.specs.Prelude.{EncodeCause, Form, HolderState, Piece, Serves, contains_next}
use Rattle.wenc_base.specs.Prelude.{contains_opened, given_up_is_before, held_members, list}
use Rattle.wenc_base.specs.Prelude.{member_appended_twice, refused_for, serves_itself, serves_then}
use Rattle.wenc_base.specs.Prelude.{with_member, ◌▸◌}
use Rattle.wenc_base.specs.declared.fault.Fault.{Fault}
use Rattle.wenc_types.specs.ComponentTypes.{InstanceDeclaration, ComponentDeclaration}
use Rattle.wenc_types.specs.ComponentTypes.{ComponentType, InstanceType, instances_of}
use Rattle.wenc_types.specs.ComponentTypes.{components_of, def_type, instance_declaration}
use Rattle.wenc_types.specs.ComponentTypes.{component_declaration}
use Rattle.wenc_types.specs.CoreTypes.{ModuleDeclaration, module_declaration, Module, core_type}
use Rattle.wenc_types.specs.laws.ComponentTypes.{instances_serve, components_serve}
use Rattle.wenc_types.specs.Declarations.{ModuleDeclares, InstanceDeclares, ComponentDeclares}
use Rattle.wenc_types.specs.Declarations.{one_more, one_less, counts_of, module_space}
use Rattle.wenc_types.specs.Declarations.{instance_space, component_space, TypeState, NoneBegun}
use Rattle.wenc_types.specs.Declarations.{Declares, DeclaredAs, IsDeclaration, AddsDeclaration}
use Rattle.wenc_types.specs.Declarations.{AddsDeclared, lead_of, with_held, type_begun}
use Rattle.wenc_types.specs.Declarations.{type_appended, type_ended, type_given_up}
use Rattle.wenc_types.specs.declared.counts.Counts.{Counts}
use Rattle.wenc_types.specs.declared.counts.IndexSpace.{IndexSpace}
use Rattle.wenc_types.specs.declared.counts.IndexSpace.TheVariants.{CoreType, «Type» as TypeSpace, Instance}

-- the order in which two are counted is the same
counted_swapped : (a b : Option IndexSpace) (n : Counts) → one_more a (one_more b n) ≡ one_more b (one_more a n)
counted_swapped None b n = refl
counted_swapped (Some s) None n = refl
counted_swapped (Some CoreType) (Some CoreType) n = refl
counted_swapped (Some CoreType) (Some TypeSpace) n = refl
counted_swapped (Some CoreType) (Some Instance) n = refl
counted_swapped (Some TypeSpace) (Some CoreType) n = refl
counted_swapped (Some TypeSpace) (Some TypeSpace) n = refl
counted_swapped (Some TypeSpace) (Some Instance) n = refl
counted_swapped (Some Instance) (Some CoreType) n = refl
counted_swapped (Some Instance) (Some TypeSpace) n = refl
counted_swapped (Some Instance) (Some Instance) n = refl

pub counts_next : {D : Type 0} (space : D → Option IndexSpace) (ds : List D) (d : D)
    → counts_of space (ds ++ d ∷ []) ≡ one_more (space d) (counts_of space ds)
counts_next space [] d = refl
counts_next space (e ∷ ds) d = ap (one_more (space e)) (counts_next space ds d)
    ∙ counted_swapped (space e) (space d) (counts_of space ds)

-- What is written of a declaration is its text.
pub is_declaration : {D : Type 0} (form : Form D) (space : D → Option IndexSpace) {p : Piece}
    {s : Option IndexSpace} (d : D) → Serves p (form d) → s ≡ space d → p.Fits
    → IsDeclaration form space p.text s
is_declaration form space d serves e fits =
    record { declaration = d; fits = serves.fits fits; text_is = serves.text; space_is = e }

module _ {D : Type 0} (form : Form D) (space : D → Option IndexSpace) (own : InstanceDeclaration)
    {p : Piece} {s : Option IndexSpace} (serves : Serves p (instance_declaration own))
    (e : s ≡ instance_space own) where
  -- What is written of a declaration of an instance type is its text in another type.
  pub is_declared : (o : Option D) → DeclaredAs form space o own → p.Fits
      → IsDeclaration form space p.text s
  is_declared None same = absurd same
  is_declared (Some d) same = is_declaration form space d (serves_then serves same.0) (e ∙ same.1)

  -- A call that adds what is written adds it as a declaration of the other type.
  pub adds_declared : (old new : TypeState) (outcome : Result (Unit {0}) Fault) (o : Option D)
      → DeclaredAs form space o own → ((d : D) → Serves p (form d) → s ≡ space d
      → AddsDeclaration form space old new outcome d) → AddsDeclared form space old new outcome o
  adds_declared old new outcome None same adds = absurd same
  adds_declared old new outcome (Some d) same adds =
      adds d (serves_then serves same.0) (e ∙ same.1)

-- a member more is a declaration more
pub declares_next : {D : Type 0} (form : Form D) (space : D → Option IndexSpace) (t : TypeState)
    (new : HolderState) (d : D) (ds : List D) → new ≡ with_member t.held (form d).text
    → (form d).Fits → Declares form space t ds
    → Declares form space (record { held = new; counts = one_more (space d) t.counts; begun = t.begun }) (ds ++ d ∷ [])
declares_next form space t new d ds e fits h = record {
  contained = contains_next form t.held new d ds e fits h.contained;
  counts = rw h.counts (sym (counts_next space ds d));
}

-- ---- a type that is written by an encoder

-- bytes and then more are all of them
pub type_appended_twice : (t : TypeState) (text more : List ℕ)
    → type_appended (type_appended t text) more ≡ type_appended t (text ++ more)
type_appended_twice t text more = ap (λ (h : HolderState). with_held t h) (member_appended_twice t.held text more)

-- what is ended is one declaration more
pub declares_ended : {D : Type 0} (form : Form D) (space : D → Option IndexSpace) (t : TypeState)
    (s : IndexSpace) (d : D) (ds : List D) (text : List ℕ)
    → (form d).text ≡ lead_of s ++ text → (form d).Fits → space d ≡ Some s
    → Declares form space t ds → Declares form space
    (type_ended (type_appended (type_begun s t) text)) (ds ++ d ∷ [])
declares_ended form space t s d ds text e fits is h = record {
  contained = contains_opened form t.held d ds (lead_of s) text e fits h.contained;
  counts = rw h.counts (sym (counts_next space ds d ∙ ap
      (λ (o : Option IndexSpace). one_more o (counts_of space ds)) is));
}

pub back_again : (s : IndexSpace) (n : Counts) → one_less (Some s) (one_more (Some s) n) ≡ n
back_again CoreType n = let e : n.core_types + 1 - 1 ≡ n.core_types = omega arith in rw e refl
back_again TypeSpace n = let e : n.types + 1 - 1 ≡ n.types = omega arith in rw e refl
back_again Instance n = let e : n.instances + 1 - 1 ≡ n.instances = omega arith in rw e refl

-- what is given up leaves no trace
pub type_given_up_is_before : (t : TypeState) (s : IndexSpace) (text : List ℕ) → NoneBegun t
    → type_given_up (type_appended (type_begun s t) text) ≡ t
type_given_up_is_before t s text settled =
    rw (back_again s t.counts, given_up_is_before t.held (lead_of s) text settled.finished, ← settled.none_begun) refl

-- ---- what they serve as

-- a byte and the declarations serve as what the byte and their list serve as
declared_serves : {D : Type 0} (form : Form D) (space : D → Option IndexSpace) (b : ℕ) (q : Piece)
    (t : TypeState) (ds : List D) → Serves (b ▸ list form ds) q → Declares form space t ds
    → Serves (b ▸ held_members t.held) (refused_for (EncodeCause t.held) q)
declared_serves form space b q t ds serves h =
    let c = h.contained in
    record {
      text = rw (← c.count, c.body) serves.text;
      fits = λ fits. serves.fits (rw c.count fits.0, c.fit);
      among = λ fault cause. cause;
      free = λ none. none;
    }

pub module_serves : (t : TypeState) (ds : List ModuleDeclaration) → ModuleDeclares t ds
    → Serves (0x50 ▸ held_members t.held) (refused_for (EncodeCause t.held) (core_type (Module ds)))
module_serves t ds = declared_serves module_declaration module_space 0x50 (core_type (Module ds)) t ds serves_itself

pub instance_serves : (t : TypeState) (ds : List InstanceDeclaration) → InstanceDeclares t ds
    → Serves (0x42 ▸ held_members t.held) (refused_for (EncodeCause t.held) (def_type (InstanceType (instances_of ds))))
instance_serves t ds = declared_serves instance_declaration instance_space 0x42
    (def_type (InstanceType (instances_of ds))) t ds (instances_serve ds)

pub component_serves : (t : TypeState) (ds : List ComponentDeclaration) → ComponentDeclares t ds
    → Serves (0x41 ▸ held_members t.held)
    (refused_for (EncodeCause t.held) (def_type (ComponentType (components_of ds))))
component_serves t ds = declared_serves component_declaration component_space 0x41
    (def_type (ComponentType (components_of ds))) t ds (components_serve ds)
