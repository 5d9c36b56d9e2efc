use Rattle.std.proofs.Common.{rules, arith, ◌≡◌, ◌+◌, length, length-append, ◌++◌, ◌<◌, ◌^◌}
use Rattle.wenc_base.specs.Number.{unsigned_text, number_size}
use Rattle.wenc_base.proofs.Bytes.{bytes_below, last_below}
use Rattle.wenc_base.proofs.custom.CustomSectionEncode.encode.Goals as goal

pub returns-clause-fits : goal.returns-clause-fits
returns-clause-fits g c =
    let label = c.args.self.now.name.now in
    let bytes = c.args.self.now.data.now in
    let len : c.in-Ok.name_len ≡ length label = search rules in
    let size : number_size c.in-Ok.name_len + (c.in-Ok.name_len + length bytes) < 2 ^ 32 = search rules in
    let small : number_size (length label) + (length label + length bytes) < 2 ^ 32 = rw len at size in (
      omega (arith, small, length-append (unsigned_text (length label) ++ label) bytes, length-append (unsigned_text (length label)) label),
      (
        (omega (arith, small), rw c.as_bytes-name.ensures.value at c.as_bytes-name.ensures.utf8),
        last_below c.extend_in_room-2.new.sink.items bytes
            (rw c.extend_in_room-3.ensures.items at (bytes_below c.extend_in_room-3.new.sink.items (λ i lt. c.type_inv.sink i 0 lt))),
      ),
    )
