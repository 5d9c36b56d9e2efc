-- What the code writes of a name, for the name's form.
use Rattle.std.proofs.Common.{◌≡◌, ℕ, ◌≢◌, ◌<◌, ◌≤◌, ◌^◌, List, [], ◌∷◌, ◌++◌, length, length-append, Option, Some, None, refl, sym, inl, inr, lit≤, arith}
use Rattle.std.proofs.lemmas.List.{append-nil}
use Rattle.wenc_base.specs.Prelude.{NoCause, Piece, Serves, count, count_cause, each, either_free}
use Rattle.wenc_base.specs.Prelude.{in_order, list, name, order_serves, serves_itself, serves_then}
use Rattle.wenc_base.specs.Prelude.{tagged_serves, u32, ◌▸◌, ◌⨾◌}
use Rattle.wenc_base.specs.declared.fault.Fault.TheVariants.{Memory, TooMany, TooLarge, Unfinished}
use Rattle.wenc_parts.specs.Prelude.{ExternName, ExternalId, Implements, NameOption, VersionSuffix}
use Rattle.wenc_parts.specs.Prelude.{extern_name, name_option, name_options, name_with}
use Rattle.wenc_parts.specs.Prelude.{option_entry, present}

-- ---- options

-- an option, or none, then others
entry_serves : (number : ℕ) (make : List ℕ → NameOption) (o : Option (List ℕ)) {p : Piece} (others : List NameOption)
    → ((text : List ℕ) → Serves (number ▸ name text) (name_option (make text)))
    → Serves p (each name_option others) → Serves (in_order (option_entry number o) p) (each name_option (present make o ++ others))
entry_serves number make None others one s = record {
  text = s.text;
  fits = λ h. s.fits h.1;
  among = λ fault c. elim c [ inl none ↦ absurd none | inr k ↦ s.among fault k.1 ];
  free = λ none. s.free (λ fault k. none fault (inr ((λ f c. c), k)));
}
entry_serves number make (Some text) others one s = order_serves (one text) s

last_serves : (o : Option (List ℕ)) → Serves (option_entry 0x02 o) (each name_option (present ExternalId o))
last_serves None = serves_itself
last_serves (Some text) = record {
  text = sym (append-nil (0x02 ∷ (name text).text));
  fits = λ h. (h, tt);
  among = λ fault c. inl c;
  free = λ none. either_free none (λ fault c. c);
}

-- ---- their number

at_most_one : (make : List ℕ → NameOption) (o : Option (List ℕ)) → length (present make o) ≤ 1
at_most_one make None = lit≤ tt
at_most_one make (Some text) = lit≤ tt

few_options : (n : ExternName) → length (name_options n) < 2 ^ 32
few_options n =
    let tail : List NameOption = present VersionSuffix n.version_suffix ++ present ExternalId n.external_id in
    omega (
      arith,
      length-append (present Implements n.implements) tail,
      length-append (present VersionSuffix n.version_suffix) (present ExternalId n.external_id),
      at_most_one Implements n.implements,
      at_most_one VersionSuffix n.version_suffix,
      at_most_one ExternalId n.external_id,
    )

-- a number of 32 bits, as a count
count_serves : (k : ℕ) → k < 2 ^ 32 → Serves (u32 k) (count k)
count_serves k few = record { text = refl; fits = λ h. h; among = λ fault c. absurd c; free = λ none. free }
  where
    free : NoCause (count_cause k)
    free (Memory e) c = c
    free TooMany c = absurd (omega (arith, few, c))
    free TooLarge c = c
    free Unfinished c = c

-- ---- names

plain_with : (text : List ℕ) (options : List NameOption) → length options ≡ 0 → Serves (0x00 ▸ name text) (name_with text options)
plain_with text [] none = record { text = refl; fits = λ h. h; among = λ fault c. c; free = λ none. none }
plain_with text (o ∷ options) none = absurd (omega (arith, none))

optioned_with : (text : List ℕ) (options : List NameOption) → length options ≢ 0 → Serves (0x02 ▸ name text ⨾ list name_option options) (name_with text options)
optioned_with text [] some = absurd (some refl)
optioned_with text (o ∷ options) some = serves_itself

pub plain_serves : (n : ExternName) → length (name_options n) ≡ 0 → Serves (0x00 ▸ name n.name) (extern_name n)
plain_serves n none = plain_with n.name (name_options n) none

abbrev pub entries : ExternName → Piece
entries n = in_order (option_entry 0x00 n.implements) (in_order (option_entry 0x01 n.version_suffix) (option_entry 0x02 n.external_id))

pub optioned_serves : (n : ExternName) → length (name_options n) ≢ 0 → Serves
    (0x02 ▸ in_order (name n.name) (in_order (u32 (length (name_options n))) (entries n))) (extern_name n)
optioned_serves n some =
    let last = last_serves n.external_id in
    let two = entry_serves 0x01 VersionSuffix n.version_suffix (present ExternalId n.external_id) (λ text. serves_itself) last in
    let three = entry_serves 0x00 Implements n.implements _ (λ text. serves_itself) two in
    let counted = order_serves (count_serves (length (name_options n)) (few_options n)) three in
    serves_then (tagged_serves 0x02 (order_serves serves_itself counted)) (optioned_with n.name (name_options n) some)
