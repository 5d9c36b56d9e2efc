-- How the options of a name are read, one after the other.
use Rattle.std.specs.Prelude.{ℕ, List, Ok, Err, cond}
use Rattle.wenc_base.specs.Readers.{Bad, Reader, ◌>>=◌, times}
use Rattle.wenc_parts.specs.Imports.{ExternName, NameOption, Implements, VersionSuffix, ExternalId}
use Rattle.wenc_parts.specs.reading.Imports.{read_name_option, with_options, ascend_from}
use Rattle.wenc_view.specs.declared.extern_names.NameOptionView.{NameOptionView}
use Rattle.wenc_view.specs.declared.extern_names.NameOptionView.TheVariants as kinds

abbrev pub option_seen : NameOptionView → NameOption
option_seen (kinds.Implements text) = Implements text.now
option_seen (kinds.VersionSuffix text) = VersionSuffix text.now
option_seen (kinds.ExternalId text) = ExternalId text.now

-- where they ascend from this number on
abbrev pub ascending : List ℕ → ℕ → List NameOption → Reader ExternName
ascending text least options bytes =
    cond (ascend_from least options) (Ok (with_options text options, bytes)) (Err Bad)

-- this many options of a name
abbrev pub read_options : List ℕ → ℕ → ℕ → Reader ExternName
read_options text least count = times read_name_option count >>= ascending text least
