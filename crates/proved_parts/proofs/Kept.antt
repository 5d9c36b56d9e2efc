-- Bytes that are kept, and what is behind them.
use Rattle.std.specs.Prelude.{drop}
use Rattle.std.proofs.Common.{◌≡◌, ℕ, ◌+◌, ◌-◌, ◌<◌, false, is_none, List, length, Option, Some, None, Ok, Err, sym, subst, refl, arith, lit<, length-append}
use Rattle.std.proofs.Math.Seq.{drop-length}
use Rattle.std.proofs.lemmas.Bool.{lt-ltb}
use Rattle.std.proofs.lemmas.List.{take_at}
use Rattle.wenc_base.specs.Prelude.{ContainsSome, HasMembers, HolderState, content_size}
use Rattle.wenc_base.specs.Prelude.{is_finished, member_begun, member_given_up, number_size}
use Rattle.wenc_base.specs.declared.holder.openings.Opening.{Opening}
use Rattle.wenc_base.specs.declared.fault.Fault.TheVariants.{Unfinished}

-- nothing is behind bytes that are kept whole
pub kept_whole : (n : ℕ) (bytes : List ℕ) → n ≡ length bytes → content_size 0 (length (drop n bytes)) < 4294967296
unfolding Rattle.wenc_base.specs.Number.groups
kept_whole n bytes e = rw (e, drop-length bytes) (lit< tt)

-- a number below 128 is one byte
pub one_byte_long : (n : ℕ) → n < 128 → number_size n ≡ 1
unfolding Rattle.wenc_base.specs.Number.groups
one_byte_long n h = rw (lt-ltb n 128 h) refl

-- Where one more member was begun, the members before it stay.
pub still_has : {T : Type 0} (P : List ℕ → Type 0) (h : HolderState) (x : T) (lead : List ℕ)
    → (is_finished h ≡ false → Ok x ≡ Err Unfinished) → HasMembers P h → HasMembers P (member_begun h lead)
still_has P h x lead refused has = at h.opening refused has
  where
    held : Option Opening → HolderState
    held o = record { kept = h.kept; count = h.count; body = h.body; opening = o }

    at : (o : Option Opening) → (is_none o ≡ false → Ok x ≡ Err Unfinished) → HasMembers P (held o) → HasMembers P (member_begun (held o) lead)
    at None r k =
        let counts : h.count + 1 - 1 ≡ h.count = omega arith in
        let back : member_given_up (member_begun (held None) lead) ≡ held None = rw (counts, take_at h.body lead (length h.body) refl) refl in
        record {
          settled = subst (λ (s : HolderState). ∥ ContainsSome P s ∥₁) (sym back) k.settled;
          opening =
              (omega (arith, length-append h.body lead), omega arith);
        }
    at (Some o) r k = let e = r refl in absurd cc
