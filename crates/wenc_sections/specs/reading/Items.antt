-- Readers of instances and of starts.
use Rattle.std.specs.Prelude.{[], ◌∷◌}
use Rattle.wenc_base.specs.Readers.{Reader, ◌>>=◌, give, nowhere, choose, done}
use Rattle.wenc_base.specs.reading.Numbers.{read_u32}
use Rattle.wenc_base.specs.reading.Forms.{read_name, read_list, read_sized}
use Rattle.wenc_sections.specs.reading.Pairs.{read_pair, read_triple}
use Rattle.wenc_base.specs.reading.Exports.{read_core_export_kind as read_core_kind}
use Rattle.wenc_parts.specs.reading.Exports.{read_component_export_kind}
use Rattle.wenc_parts.specs.reading.Imports.{read_extern_name}
use Rattle.wenc_parts.specs.reading.Instances.{read_module_argument}
use Rattle.wenc_sections.specs.Instances.{CoreInstance, CoreInstantiate, CoreExports}
use Rattle.wenc_sections.specs.Instances.{Instance, Instantiate, Exports}
use Rattle.wenc_sections.specs.Start.{Start, started}

-- ---- instances of core modules

abbrev pub read_core_instance : Reader CoreInstance
read_core_instance = choose ((
  0x00,
  read_u32 >>= λ n. read_list (read_pair read_name read_module_argument) >>= λ args.
      give (CoreInstantiate n args),
) ∷ (
  0x01,
  read_list (read_triple read_name read_core_kind read_u32) >>= λ exports.
      give (CoreExports exports),
) ∷ []
    ) nowhere

-- ---- instances of components

abbrev pub read_instance : Reader Instance
read_instance = choose ((
  0x00,
  read_u32 >>= λ n.
      read_list (read_triple read_name read_component_export_kind read_u32) >>= λ args.
      give (Instantiate n args),
) ∷ (
  0x01,
  read_list (read_triple read_extern_name read_component_export_kind read_u32) >>=
      λ exports. give (Exports exports),
) ∷ []
    ) nowhere

-- ---- sections

abbrev pub read_start_content : Reader Start
read_start_content =
    read_u32 >>= λ function. read_list read_u32 >>= λ arguments. read_u32 >>= λ results.
    give (started function arguments results)

abbrev pub read_start : Reader Start
read_start = read_sized (done read_start_content)
