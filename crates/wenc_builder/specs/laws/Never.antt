-- What can be encoded has no cause, and no item is unfinished.
use Rattle.std.specs.Prelude.{ℕ}
use Rattle.wenc_base.specs.Prelude.{Lawful, NoCause, Piece, Reader, byte_list_lawful, custom_lawful}
use Rattle.wenc_base.specs.declared.fault.Fault.TheVariants.{Unfinished}
use Rattle.wenc_builder.specs.Item.{Item, ModuleItem, CoreInstanceItem, CoreTypeItem, ComponentItem}
use Rattle.wenc_builder.specs.Item.{InstanceItem, AliasItem, TypeItem, CanonItem, StartItem}
use Rattle.wenc_builder.specs.Item.{ImportItem, ExportItem, CustomItem, RawItem, item}
use Rattle.wenc_canon.specs.Prelude.{canonical_lawful}
use Rattle.wenc_parts.specs.Prelude.{alias_lawful}
use Rattle.wenc_sections.specs.Prelude.{core_instance_lawful, import_lawful, inline_export_lawful}
use Rattle.wenc_sections.specs.Prelude.{instance_lawful, start_lawful}
use Rattle.wenc_types.specs.Prelude.{core_type_lawful, type_lawful}

-- what the laws of a piece say of its cause
abbrev OfCause : Piece → Type 0
OfCause p = (p.Fits → NoCause p.Cause) × (p.Cause Unfinished → ⊥)

of : {A : Type 0} {p : Piece} {read : ℕ → Reader A} {v : A} → Lawful p read v → OfCause p
of l = (l.free, l.never)

of_item : (x : Item) → OfCause (item x)
of_item (ModuleItem bytes) = of (byte_list_lawful bytes)
of_item (CoreInstanceItem i) = of (core_instance_lawful i)
of_item (CoreTypeItem t) = of (core_type_lawful t)
of_item (ComponentItem bytes) = of (byte_list_lawful bytes)
of_item (InstanceItem i) = of (instance_lawful i)
of_item (AliasItem to) = of (alias_lawful to)
of_item (TypeItem t) = of (type_lawful t)
of_item (CanonItem f) = of (canonical_lawful f)
of_item (StartItem s) = of (start_lawful s)
of_item (ImportItem i) = of (import_lawful i)
of_item (ExportItem e) = of (inline_export_lawful e)
of_item (CustomItem c) = of (custom_lawful c)
of_item (RawItem bytes) = (λ fits fault c. c, λ c. c)

pub fits_is_free : (x : Item) → (item x).Fits → NoCause (item x).Cause
fits_is_free x = (of_item x).0

pub never_unfinished : (x : Item) → (item x).Cause Unfinished → ⊥
never_unfinished x = (of_item x).1
