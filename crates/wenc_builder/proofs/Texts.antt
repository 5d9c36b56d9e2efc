-- What the calls of a builder write serves as items.
use Rattle.std.proofs.Common.{◌≡◌, ℕ, ◌+◌, ◌<◌, ◌^◌, List, [], ◌∷◌, ◌++◌, length, Option, Result, Ok, Err, OnOk, refl, ap, inl, inr, arith}
use Rattle.std.proofs.Common.{append_assoc, length-append}
use Rattle.std.proofs.lemmas.List.{append-nil}
use Rattle.wenc_base.specs.Prelude.{Piece, Serves, byte_list, content_size, in_order, name, nothing}
use Rattle.wenc_base.specs.Prelude.{option, order_serves, serves_itself, size, u32, unsigned_text}
use Rattle.wenc_base.specs.Prelude.{◌▸◌}
use Rattle.wenc_parts.specs.Prelude.{ExternName, component_export_kind, extern_name, type_reference}
use Rattle.wenc_base.specs.declared.fault.Fault.{Fault}
use Rattle.wenc_parts.specs.declared.exports.ComponentExportKind.{ComponentExportKind}
use Rattle.wenc_parts.specs.declared.imports.ComponentTypeRef.{ComponentTypeRef}
use Rattle.wenc_builder.specs.Prelude.{CustomItem, ExportItem, IsItemPiece, Item, RawItem}
use Rattle.wenc_builder.specs.Prelude.{collected, custom_lead, defines, item, with_bytes}

-- a piece that serves as an item is one
pub item_piece : {p : Piece} (x : Item) → Serves p (item x) → IsItemPiece (collected x) (defines x) p
item_piece x s fits = ∣ record { value = x; collects = refl; takes = refl; fits = s.fits fits; is = s.text } ∣₁

-- a lead without bytes after it
pub plain_serves : {p : Piece} → Serves (with_bytes p []) p
plain_serves {p} = record {
  text = append-nil p.text;
  fits = λ h. h.0;
  among = λ fault c. elim c [ inl own ↦ own | inr never ↦ absurd never ];
  free = λ none fault c. none fault (inl c);
}

-- bytes after their number
pub bytes_serve : (id : ℕ) (bytes : List ℕ) → Serves (with_bytes (id ▸ size (length bytes)) bytes) (id ▸ byte_list bytes)
bytes_serve id bytes = record { text = refl; fits = λ h. h; among = λ fault c. c; free = λ none. none }

-- the data of a custom section after its size and its name
pub custom_serves : (label bytes : List ℕ) → Serves (with_bytes (0x00 ▸ custom_lead label bytes) bytes)
    (item (CustomItem (record { label = label; bytes = bytes })))
custom_serves label bytes = record {
  text = ap (λ (text : List ℕ). 0x00 ∷ text) (append_assoc (unsigned_text (length ((name label).text ++ bytes))) (name label).text bytes);
  fits = λ h. (h.0.0, (h.0.1, h.1));
  among = λ fault c. elim c [ inl own ↦ elim own [ inl large ↦ inl large | inr long ↦ inr (inl long) ] | inr never ↦ absurd never ];
  free = λ none fault c. elim c [
    | inl large ↦ none fault (inl (inl large))
    | inr more ↦
        elim more [ inl long ↦ none fault (inl (inr long)) | inr never ↦ never ]
  ];
}

-- and what is before them fits where it was written
pub lead_fits : (label bytes : List ℕ) (name_len n : ℕ) (outcome : Result (Unit {0}) Fault) → name_len ≡ length label
    → (n ≡ content_size name_len (name_len + length bytes)) × (n < 2 ^ 32) → OnOk outcome ((n < 2 ^ 32) × (name label).Fits)
    → OnOk outcome (custom_lead label bytes).Fits
lead_fits label bytes name_len n (Ok u) e s fits =
    let small : content_size (length label) (length label + length bytes) < 2 ^ 32 = rw (s.0, e) at s.1 in
    (omega (arith, small, length-append (unsigned_text (length label) ++ label) bytes, length-append (unsigned_text (length label)) label), fits.1)
lead_fits label bytes name_len n (Err fault) e s fits = tt

-- the bytes of a raw section
pub raw_serves : (bytes : List ℕ) → Serves (with_bytes (0x00 ▸ nothing) bytes) (item (RawItem bytes))
raw_serves bytes = record {
  text = refl;
  fits = λ h. tt;
  among = λ fault c. elim c [ inl never ↦ never | inr never ↦ never ];
  free = λ none fault c. c;
}

-- an export's name, kind, index and type
pub export_serves : (n : ExternName) (kind : ComponentExportKind) (index : ℕ) (what : Option ComponentTypeRef)
    → Serves (in_order (extern_name n) (in_order (component_export_kind kind) (in_order (u32 index) (option type_reference what))))
    (item (ExportItem (record { name = n; kind = kind; index = index; ty = what })))
export_serves n kind index what =
    order_serves (serves_itself {p = extern_name n})
    (order_serves (serves_itself {p = component_export_kind kind})
    (order_serves (serves_itself {p = u32 index}) (serves_itself {p = option type_reference what})))
