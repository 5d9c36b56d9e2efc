use Rattle.std.proofs.Common.{[], ◌∷◌, refl, arith}
use Rattle.std.specs.Str.{IsUtf8}
use Rattle.wenc_base.specs.Number.{groups}
use Rattle.wenc_parts.specs.Aliases.{InstanceExport}
use Rattle.wenc_parts.specs.declared.exports.ComponentExportKind.TheVariants.{Func}
use Rattle.proved_parts.proofs.holders.alias_kept.Goals as goal

letter_is_text : IsUtf8 (0x66 ∷ [])
unfolding lib.Utf8.encode
letter_is_text = (0x66 ∷ [], (refl, refl))

pub returns : goal.returns
unfolding groups
returns g c = rw (c.over.ensures, c.in_ok-from_array.ensures.items) (record {
  settled = ∣ record {
    members = (1 ∷ 0 ∷ 0 ∷ 1 ∷ 0x66 ∷ []) ∷ [];
    contained = record { finished = refl; count = refl; body = refl; fit = (tt, tt) };
    each = (record { value = InstanceExport 0 Func (0x66 ∷ []); fits = (tt, (omega arith, (omega arith, letter_is_text))); is = refl }, tt);
  } ∣₁;
  opening = tt;
})
