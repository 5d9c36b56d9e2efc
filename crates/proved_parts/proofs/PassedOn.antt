-- A component that imports a type of resources and exports a type, by its items.
use Rattle.std.proofs.Common.{◌≡◌, ℕ, List, [], ◌∷◌, None, refl}
use Rattle.wenc_parts.specs.declared.exports.ComponentExportKind.TheVariants as kinds
use Rattle.wenc_parts.specs.declared.imports.ComponentTypeRef.TheVariants as refs
use Rattle.wenc_parts.specs.declared.imports.TypeBounds.TheVariants.{SubResource}
use Rattle.wenc_parts.specs.Prelude.{ExternName}
use Rattle.wenc_builder.specs.Prelude.{Item, export_entry, import_entry, items}

abbrev pub both : ExternName → ExternName → ℕ → List Item
both f h i = items (import_entry f (refs.«Type» SubResource) ∷ export_entry h kinds.«Type» i None ∷ [])

pub same : (f f' h h' : ExternName) (i j : ℕ) → f ≡ f' → h ≡ h' → i ≡ j → both f h i ≡ both f' h' j
same f f' h h' i j e d k = rw (e, d, k) refl
