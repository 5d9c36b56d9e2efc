-- Value types that take one byte each are encoded as those bytes.
use Rattle.std.proofs.Common.{◌≡◌, ℕ, ◌≤◌, List, [], ◌∷◌, length, map, inl, inr, refl, arith}
use Rattle.std.specs.List.{AllByRecursion}
use Rattle.wenc_base.specs.Prelude.{AnyCause, IsByteType, NoCause, Serves, byte_list, count_cause}
use Rattle.wenc_base.specs.Prelude.{each, list, of_byte, size_cause, val_type}
use Rattle.wenc_base.specs.declared.fault.Fault.TheVariants.{Memory, TooMany, TooLarge, Unfinished}
use Rattle.std.proofs.lemmas.List.{length-map}

pub each_text : (bs : List ℕ) → AllByRecursion IsByteType bs → (each val_type (map of_byte bs)).text ≡ bs
each_text [] h = refl
each_text (b ∷ bs) h = rw (← h.0.text, each_text bs h.1) refl

each_fits : (bs : List ℕ) → AllByRecursion IsByteType bs → (each val_type (map of_byte bs)).Fits
each_fits [] h = tt
each_fits (b ∷ bs) h = (h.0.fits tt, each_fits bs h.1)

each_free : (bs : List ℕ) → AllByRecursion IsByteType bs → NoCause (AnyCause (λ t. (val_type t).Cause) (map of_byte bs))
each_free [] h fault c = c
each_free (b ∷ bs) h fault (inl c) = h.0.free (λ f k. k) fault c
each_free (b ∷ bs) h fault (inr c) = each_free bs h.1 fault c

short_size : (n : ℕ) → n ≤ 11 → NoCause (size_cause n)
short_size n few TooLarge c = omega (arith, few, c)
short_size n few TooMany c = c
short_size n few (Memory e) c = c
short_size n few Unfinished c = c

short_count : (n : ℕ) → n ≤ 11 → NoCause (count_cause n)
short_count n few TooMany c = omega (arith, few, c)
short_count n few TooLarge c = c
short_count n few (Memory e) c = c
short_count n few Unfinished c = c

pub bytes_serve : (bs : List ℕ) → AllByRecursion IsByteType bs → length bs ≤ 11 → Serves (byte_list bs) (list val_type (map of_byte bs))
bytes_serve bs h few = record {
  text = rw (length-map bs of_byte, each_text bs h) refl;
  fits = λ f. (rw (length-map bs of_byte) (omega (arith, few)), each_fits bs h);
  among = λ fault c. absurd (none fault c);
  free = λ n. free;
}
  where
    none : NoCause (byte_list bs).Cause
    none fault (inl c) = short_size (length bs) few fault c
    none fault (inr c) = c

    free : NoCause (list val_type (map of_byte bs)).Cause
    free fault (inl c) = short_count (length bs) few fault (rw (length-map bs of_byte) at c)
    free fault (inr c) = each_free bs h fault c
