use Rattle.std.proofs.Common.{arith, ap, sym, ◌∙◌, List, ℕ, ◌++◌}
use Rattle.wenc_base.specs.laws.Numbers.{size_free}
use Rattle.wenc_base.proofs.Groups.{one_byte}
use Rattle.wenc_base.proofs.encode.encode_bytes.Goals as goal

pub returns-then-has_room-clause-appended : goal.returns-then-has_room-clause-appended
returns-then-has_room-clause-appended g c = record {
  ok = c.extend_in_room.ensures.items ∙ ap (λ (text : List ℕ). c.args.sink.now.items ++ text)
      (sym (one_byte c.args.bytes.now c.in-len1.len_at_least c.in-len1.len_below));
  encodable = size_free _ (omega (arith, c.in-len1.len_below));
  err = tt;
  warranted = tt;
  unfinished_first = λ u. absurd u;
}
