use Rattle.std.proofs.Common.{ℕ, ◌≡◌, List, Option, Some, refl, subst, sym}
use Rattle.std.specs.Option.{option_copied}
use Rattle.std.specs.Prelude.{Vec}
use Rattle.wenc_sections.specs.Prelude.{canon_view}
use Rattle.wenc_canon.specs.Prelude.{builtin_name}
use Rattle.wenc_base.specs.declared.types.ValType.{ValType}
use Rattle.wenc_sections.specs.declared.canon_tree.CanonOf.{CanonOf}
use Rattle.wenc_canon.specs.declared.canonicals.CanonicalOption.{CanonicalOption}
use Rattle.wenc_sections.specs.declared.canon_tree.CanonOf.TheVariants as trees
use Rattle.wenc_builder.specs.Prelude.{Enters, Entry, canonical_entry, canonical_tree_entry}
use Rattle.wenc_builder.proofs.builder.ComponentBuilder.canonical_tree.Goals as goal

pub returns-in-ContextGet : goal.returns-in-ContextGet
returns-in-ContextGet g c = rw c.in-ContextGet.is c.context_get.ensures

pub returns-in-ContextSet : goal.returns-in-ContextSet
returns-in-ContextSet g c = rw c.in-ContextSet.is c.context_set.ensures

-- what is provided and has no slot has its own name
own : {A : Type 0} (t : CanonOf (Vec CanonicalOption A)) (debug_name : Option (List ℕ))
    → ((f ty : ℕ) (options : Vec CanonicalOption A) → t ≡ trees.Lift f ty options → ⊥)
    → ((f : ℕ) (options : Vec CanonicalOption A) → t ≡ trees.Lower f options → ⊥) → ((ty : ValType) (n : ℕ) → t ≡ trees.ContextGet ty n → ⊥)
    → ((ty : ValType) (n : ℕ) → t ≡ trees.ContextSet ty n → ⊥) → canonical_tree_entry debug_name (canon_view t)
    ≡ canonical_entry (Some (builtin_name (canon_view t))) (canon_view t)
own (trees.Lift f ty options) debug_name lifts lowers gets sets = absurd (lifts f ty options refl)
own (trees.Lower f options) debug_name lifts lowers gets sets = absurd (lowers f options refl)
own (trees.ContextGet ty n) debug_name lifts lowers gets sets = absurd (gets ty n refl)
own (trees.ContextSet ty n) debug_name lifts lowers gets sets = absurd (sets ty n refl)
own other debug_name lifts lowers gets sets = refl

pub returns-in_default : goal.returns-in_default
returns-in_default g c =
    let entered : Enters c.args.self.now c.add_canonical-in_default.new.self c.add_canonical-in_default.result
    (canonical_entry (Some (builtin_name (canon_view c.args.function.now))) (canon_view c.args.function.now)) =
    rw (← c.name.ensures) c.add_canonical-in_default.ensures in
    subst (λ (e : Entry). Enters c.args.self.now c.add_canonical-in_default.new.self c.add_canonical-in_default.result e)
    (sym (own c.args.function.now (option_copied c.args.debug_name) c.in_default.not-Lift c.in_default.not-Lower
    c.in_default.not-ContextGet c.in_default.not-ContextSet)) entered
