use Rattle.wenc_base.specs.Prelude.{appends_as, appends_finished, fits_as, option, u32}
use Rattle.wenc_parts.specs.Prelude.{value_type}
use Rattle.wenc_types.proofs.Serving.{pair_serves, record_tree_serves, variant_tree_serves, names_tree_serves, tuple_tree_serves}
use Rattle.wenc_types.proofs.defined_tree.DefinedTreeEncode.encode.Goals as goal

pub returns-in-Record-clause-appended : goal.returns-in-Record-clause-appended
returns-in-Record-clause-appended g c = rw c.in-Record.is
    (appends_as _ _ _ _ (record_tree_serves c.in-Record.fields.items) (rw c.as_slice.ensures.value at c.encode-in-Record.ensures.appended))

pub returns-in-Record-clause-fits : goal.returns-in-Record-clause-fits
returns-in-Record-clause-fits g c = rw c.in-Record.is
    (fits_as _ (record_tree_serves c.in-Record.fields.items) (rw c.as_slice.ensures.value at c.encode-in-Record.ensures.fits))

pub returns-in-Variant-clause-appended : goal.returns-in-Variant-clause-appended
returns-in-Variant-clause-appended g c = rw c.in-Variant.is
    (appends_as _ _ _ _ (variant_tree_serves c.in-Variant.cases.items)
    (rw c.as_slice-in-Variant.ensures.value at c.encode-in-Variant.ensures.appended))

pub returns-in-Variant-clause-fits : goal.returns-in-Variant-clause-fits
returns-in-Variant-clause-fits g c = rw c.in-Variant.is
    (fits_as _ (variant_tree_serves c.in-Variant.cases.items) (rw c.as_slice-in-Variant.ensures.value at c.encode-in-Variant.ensures.fits))

pub returns-in-Map-clause-appended : goal.returns-in-Map-clause-appended
returns-in-Map-clause-appended g c = rw c.in-Map.is
    (appends_as _ _ _ _ (pair_serves 0x63 (value_type c.in-Map.key) (value_type c.in-Map.value)) c.encode-in-Map.ensures.appended)

pub returns-in-FixedLengthList-clause-appended : goal.returns-in-FixedLengthList-clause-appended
returns-in-FixedLengthList-clause-appended g c = rw c.in-FixedLengthList.is
    (appends_as _ _ _ _ (pair_serves 0x67 (value_type c.in-FixedLengthList.element) (u32 c.in-FixedLengthList.length))
    c.encode-in-FixedLengthList.ensures.appended)

pub returns-in-Tuple-clause-appended : goal.returns-in-Tuple-clause-appended
returns-in-Tuple-clause-appended g c = rw c.in-Tuple.is
    (appends_as _ _ _ _ (tuple_tree_serves c.in-Tuple.elements.items)
    (rw c.as_slice-in-Tuple.ensures.value at c.encode-in-Tuple.ensures.appended))

pub returns-in-Flags-clause-appended : goal.returns-in-Flags-clause-appended
returns-in-Flags-clause-appended g c = rw c.in-Flags.is
    (appends_as _ _ _ _ (names_tree_serves 0x6e c.in-Flags.names.items)
    (rw c.as_slice-in-Flags.ensures.value at c.encode-in-Flags.ensures.appended))

pub returns-in-Flags-clause-fits : goal.returns-in-Flags-clause-fits
returns-in-Flags-clause-fits g c = rw c.in-Flags.is
    (fits_as _ (names_tree_serves 0x6e c.in-Flags.names.items) (rw c.as_slice-in-Flags.ensures.value at c.encode-in-Flags.ensures.fits))

pub returns-in-Enum-clause-appended : goal.returns-in-Enum-clause-appended
returns-in-Enum-clause-appended g c = rw c.in-Enum.is
    (appends_as _ _ _ _ (names_tree_serves 0x6d c.in-Enum.names.items)
    (rw c.as_slice-in-Enum.ensures.value at c.encode-in-Enum.ensures.appended))

pub returns-in-Enum-clause-fits : goal.returns-in-Enum-clause-fits
returns-in-Enum-clause-fits g c = rw c.in-Enum.is
    (fits_as _ (names_tree_serves 0x6d c.in-Enum.names.items) (rw c.as_slice-in-Enum.ensures.value at c.encode-in-Enum.ensures.fits))

pub returns-in-Result-clause-appended : goal.returns-in-Result-clause-appended
returns-in-Result-clause-appended g c = rw c.in-Result.is
    (appends_finished _ _ _ _ _ (λ u. u) (appends_as _ _ _ _
    (pair_serves 0x6a (option value_type c.in-Result.ok) (option value_type c.in-Result.err)) c.encode-in-Result.ensures.appended))
