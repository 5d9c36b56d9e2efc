use Rattle.std.specs.Str.{IsUtf8}
use Rattle.std.proofs.Common.{[], ◌∷◌, refl, inr, lit<, lit≤}
use Rattle.wenc_base.specs.Number.{last, more}
use Rattle.proved_parts.proofs.values.parts.parts.Goals as goal

pub returns-clause-padded_index : goal.returns-clause-padded_index
returns-clause-padded_index c = (
  lit< tt,
  inr (
    tt,
    more {high = 0} (lit≤ tt) (lit< tt) refl
        (more {high = 0} (lit≤ tt) (lit< tt) refl (more {high = 0} (lit≤ tt) (lit< tt) refl
        (more {high = 0} (lit≤ tt) (lit< tt) refl (last (lit< tt))))),
  ),
)

letter_is_text : IsUtf8 (0x66 ∷ [])
unfolding lib.Utf8.encode
letter_is_text = (0x66 ∷ [], (refl, refl))

pub returns-clause-older_name : goal.returns-clause-older_name
returns-clause-older_name c = inr (tt, (_, refl, (_, (lit< tt, inr (tt, last (lit< tt))), (letter_is_text, refl))))
