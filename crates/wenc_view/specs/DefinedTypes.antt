-- Borrowed types as pure ones.
use Rattle.std.specs.Prelude.{ℕ, List, [], ◌∷◌}
use Rattle.std.specs.Borrow.{Bor}
use Rattle.wenc_base.specs.reading.Forms.{read_name}
use Rattle.wenc_parts.specs.declared.types.ComponentValType.{ComponentValType}
use Rattle.wenc_parts.specs.reading.Types.{read_value_type}
use Rattle.wenc_types.specs.DefinedTypes.{LabelledType, Case, DefValType}
use Rattle.wenc_types.specs.DefinedTypes as pure
use Rattle.wenc_types.specs.reading.DefinedTypes.{read_labelled_type, read_case}
use Rattle.wenc_view.specs.declared.defined_types.CaseView.{CaseView}
use Rattle.wenc_view.specs.declared.defined_types.DefinedView.{DefinedView}
use Rattle.wenc_view.specs.declared.defined_types.DefinedView.TheVariants as views
use Rattle.wenc_view.specs.Members.{Place, list_view, place_of}

abbrev pub labelled_seen : Bor (List ℕ) × ComponentValType → LabelledType
labelled_seen f = record { name = f.0.now; ty = f.1 }

abbrev pub case_seen : CaseView → Case
case_seen c = record { name = c.name.now; ty = c.ty }

abbrev pub defined_seen : DefinedView → DefValType
defined_seen (views.Primitive ty) = pure.Primitive ty
defined_seen (views.Record fields) = pure.Record (list_view read_labelled_type fields)
defined_seen (views.Variant cases) = pure.Variant (list_view read_case cases)
defined_seen (views.List element) = pure.ListOf element
defined_seen (views.Map key value) = pure.MapOf key value
defined_seen (views.FixedLengthList element length) = pure.FixedLengthList element length
defined_seen (views.Tuple elements) = pure.Tuple (list_view read_value_type elements)
defined_seen (views.Flags names) = pure.Flags (list_view read_name names)
defined_seen (views.Enum names) = pure.Enumeration (list_view read_name names)
defined_seen (views.Option ty) = pure.OptionOf ty
defined_seen (views.Result ok error) = pure.ResultOf ok error
defined_seen (views.Own number) = pure.Own number
defined_seen (views.Borrow number) = pure.Borrow number
defined_seen (views.Future ty) = pure.Future ty
defined_seen (views.Stream ty) = pure.Stream ty

-- where its list is
abbrev pub defined_lists : DefinedView → List Place
defined_lists (views.Record fields) = place_of read_labelled_type fields ∷ []
defined_lists (views.Variant cases) = place_of read_case cases ∷ []
defined_lists (views.Tuple elements) = place_of read_value_type elements ∷ []
defined_lists (views.Flags names) = place_of read_name names ∷ []
defined_lists (views.Enum names) = place_of read_name names ∷ []
defined_lists other = []
