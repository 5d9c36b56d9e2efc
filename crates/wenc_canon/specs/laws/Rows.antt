-- What is written of a row is the builtin that its opcode and values say.
use Rattle.std.proofs.Common.{◌≡◌, ℕ, List, [], ◌∷◌, refl, ap, subst, sym, append_assoc, ◌++◌, inl, inr}
use Rattle.std.specs.Prelude.{codes, decimal}
use Rattle.wenc_base.specs.Prelude.{Piece, Serves, behind_bytes, behind_is, both_serve, either_free}
use Rattle.wenc_base.specs.Prelude.{in_order, left_free, list, listed, nothing, order_serves}
use Rattle.wenc_base.specs.Prelude.{right_free, serves_itself, serves_then, tagged_serves, u32}
use Rattle.wenc_base.specs.Prelude.{with_nothing, ◌▸◌, ◌⨾◌}
use Rattle.wenc_base.specs.declared.types.ValType.{ValType}
use Rattle.wenc_canon.specs.declared.canonicals.CanonicalOption.{CanonicalOption}
use Rattle.wenc_canon.specs.Canonicals.{canonical_option, Field, Index, Options, Flag, Zero}
use Rattle.wenc_canon.specs.Canonicals.{CoreType, Results, Value, field, Values, fields, Builtin}
use Rattle.wenc_canon.specs.Canonicals.{ContextGet, ContextSet, Row, ◌is◌takes◌, row, name_of, Lift}
use Rattle.wenc_canon.specs.Canonicals.{Lower, canonical}
use Rattle.wenc_canon.specs.inside.Rows.{row_with, as_value, as_values, builtin_by, and_options}
use Rattle.wenc_canon.specs.inside.Rows.{values_then, row_then, builtin_with}

same_value : (f : Field) (v : Value f) → as_value f f v ≡ v
same_value Index n = refl
same_value other v = refl

pub same_values : (fs : List Field) (vs : Values fs) → as_values fs fs vs ≡ vs
same_values [] vs = refl
same_values (f ∷ []) v = same_value f v
same_values (f ∷ g ∷ fs) vs = rw (same_value f vs.0, same_values (g ∷ fs) vs.1) refl

-- in a row that takes these fields
pub builtin_serves : {p : Piece} (name : List ℕ) (opcode : ℕ) (fs : List Field) (vs : Values fs)
    → Serves p (fields fs vs) → row_with opcode ≡ (name is opcode takes fs)
    → Serves (opcode ▸ p) (canonical (builtin_by opcode fs vs))
builtin_serves {p} name opcode fs vs s e =
    let own : Serves (opcode ▸ p) (opcode ▸ fields fs (as_values fs fs vs)) =
    rw (same_values fs vs) (tagged_serves opcode s) in
    subst (λ (r : Row). Serves (opcode ▸ p) (r.opcode ▸ fields r.fields (as_values fs r.fields vs))) (sym e) own

-- the number of a slot is in the name of the two builtins that take these fields
pub slot_named : (i : Builtin) (name : List ℕ) (opcode : ℕ) (t : ValType) (n : ℕ)
    → row i ≡ (name is opcode takes CoreType ∷ Index ∷ [])
    → name_of i (as_values (CoreType ∷ Index ∷ []) (row i).fields (t, n)) ≡ name
    ++ (codes " " ++ decimal n)
slot_named ContextGet name opcode t n e = ap (λ (r : Row). r.name ++ (codes " " ++ decimal n)) e
slot_named ContextSet name opcode t n e = ap (λ (r : Row). r.name ++ (codes " " ++ decimal n)) e
slot_named other name opcode t n e = let f : (row other).fields ≡ CoreType ∷ Index ∷ [] =
    ap (λ (r : Row). r.fields) e in absurd (cc)

-- two fields in their order
pub two_fields : (f g : Field) (v : Value f) (w : Value g)
    → Serves (in_order (field f v) (field g w)) (fields (f ∷ g ∷ []) (v, w))
two_fields f g v w = order_serves {p = field f v} {q = field g w} {p' = field f v} {q' = field g w}
    serves_itself serves_itself

-- ---- options

-- bytes in front of two pieces are in front of the first
pub front_serves : (front : List ℕ) (p q : Piece) → Serves (behind_bytes front p ⨾ q) (behind_bytes front (p ⨾ q))
front_serves [] p q = serves_itself
front_serves (b ∷ front) p q =
    let s = front_serves front p q in
    record { text = ap (λ (t : List ℕ). b ∷ t) s.text; fits = s.fits; among = s.among; free = s.free }

regrouped : (p q r : Piece) → Serves ((p ⨾ q) ⨾ r) (p ⨾ (q ⨾ r))
regrouped p q r = record {
  text = append_assoc p.text q.text r.text;
  fits = λ h. (h.0.0, (h.0.1, h.1));
  among = λ fault c. elim c [
    | inl front ↦ elim front [ inl one ↦ inl one | inr two ↦ inr (inl two) ]
    | inr three ↦ inr (inr three)
  ];
  free = λ none. either_free (left_free (left_free none)) (either_free (right_free (left_free none)) (right_free none));
}

-- fields, and options after them, are fields
fields_then : (fs : List Field) (vs : Values fs) (os : List CanonicalOption)
    → Serves (fields fs vs ⨾ list canonical_option os)
    (fields (and_options fs) (values_then fs vs os))
fields_then [] vs os = behind_is [] (list canonical_option os)
fields_then (f ∷ []) v os = serves_itself
fields_then (f ∷ g ∷ fs) vs os = serves_then
    (regrouped (field f vs.0) (fields (g ∷ fs) vs.1) (list canonical_option os))
    (both_serve {p = field f vs.0} {p' = field f vs.0} serves_itself (fields_then (g ∷ fs) vs.1 os))

pub row_serves : {p : Piece} (opcode : ℕ) (fs : List Field) (vs : Values fs)
    (os : List CanonicalOption) → Serves p (fields fs vs)
    → Serves ((opcode ▸ p) ⨾ list canonical_option os) (row_then opcode fs vs os)
row_serves {p} opcode fs vs os s = serves_then
    (front_serves (opcode ∷ []) p (list canonical_option os))
    (tagged_serves opcode (serves_then (both_serve s serves_itself) (fields_then fs vs os)))

-- ---- what a holder is given

-- a row with options
pub builtin_with_serves : {p : Piece} (name : List ℕ) (opcode : ℕ) (fs : List Field)
    (vs : Values fs) → Serves p (fields fs vs) → row_with opcode
    ≡ (name is opcode takes and_options fs) → (os : List CanonicalOption)
    → Serves (listed (opcode ▸ p) canonical_option nothing os) (canonical (builtin_with opcode fs vs os))
builtin_with_serves {p} name opcode fs vs s e os = serves_then
    (both_serve {p = opcode ▸ p} {p' = opcode ▸ p} serves_itself
    (with_nothing {p = list canonical_option os}))
    (serves_then (row_serves opcode fs vs os s)
    (builtin_serves name opcode (and_options fs) (values_then fs vs os) serves_itself e))

pub lift_serves : (function type_index : ℕ) (os : List CanonicalOption)
    → Serves (listed (0x00 ▸ 0x00 ▸ u32 function) canonical_option (u32 type_index) os)
    (canonical (Lift function os type_index))
lift_serves function type_index os =
    front_serves (0x00 ∷ 0x00 ∷ []) (u32 function) (list canonical_option os ⨾ u32 type_index)

pub lower_serves : (function : ℕ) (os : List CanonicalOption)
    → Serves (listed (0x01 ▸ 0x00 ▸ u32 function) canonical_option nothing os)
    (canonical (Lower function os))
lower_serves function os = serves_then
    (both_serve {p = 0x01 ▸ 0x00 ▸ u32 function} {p' = 0x01 ▸ 0x00 ▸ u32 function} serves_itself
    (with_nothing {p = list canonical_option os}))
    (front_serves (0x01 ∷ 0x00 ∷ []) (u32 function) (list canonical_option os))
