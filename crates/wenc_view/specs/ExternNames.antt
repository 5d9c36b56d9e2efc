-- Borrowed names as pure ones.
use Rattle.std.specs.Prelude.{ℕ, List, Option}
use Rattle.std.specs.Option.{option_map}
use Rattle.std.specs.Borrow.{Bor}
use Rattle.wenc_parts.specs.Imports.{ExternName}
use Rattle.wenc_view.specs.declared.extern_names.NameView.{NameView}

abbrev pub text_seen : Option (Bor (List ℕ)) → Option (List ℕ)
text_seen = option_map (λ s. s.now)

abbrev pub name_seen : NameView → ExternName
name_seen n = record {
  name = n.name.now;
  implements = text_seen n.implements;
  version_suffix = text_seen n.version_suffix;
  external_id = text_seen n.external_id;
}
