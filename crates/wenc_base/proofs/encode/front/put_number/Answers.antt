use Rattle.std.proofs.Common.{◌≡◌, ℕ, ◌++◌, ◌∷◌, [], List, append_assoc, length, take, drop, refl, ◌∙◌, arith, ap, length-append}
use Rattle.std.proofs.lemmas.List.{length-take-le, take-append-drop, take_at}
use Rattle.wenc_base.specs.Number.{unsigned_text}
use Rattle.wenc_base.proofs.Groups.{size_of_u32, groups_below}
use Rattle.wenc_base.proofs.encode.front.put_number.Goals as goal

pub unsigned-requires : goal.unsigned-requires
unsigned-requires g c = rw (c.new-text.ensures, c.from.ensures) (omega (arith, size_of_u32 c.args.number c.ranges.number.fits))

pub returns-in-Ok-clause-ok : goal.returns-in-Ok-clause-ok
returns-in-Ok-clause-ok g c =
    let old : List ℕ = c.args.sink.now.items in
    let start : ℕ = c.args.start in
    let text : List ℕ = unsigned_text c.args.number in
    let written : c.as_slice-text.result.now ≡ text = rw (c.as_slice-text.ensures.same, c.unsigned.ensures, c.new-text.ensures, c.from.ensures) refl in
    let items : c.extend_from_slice.new.self.items ≡ take start old ++ drop start old ++ text =
    rw (c.in-Ok.ensures.items, written, take-append-drop start old) refl in
    let put : c.put_in_front.new.bytes ≡ take start old ++ text ++ drop start old =
    rw (← written) (c.put_in_front.ensures (take start old) (drop start old) text (c.as_mut_slice.ensures.value ∙ items)
    (length-take-le start old c.requires) (rw written refl)) in
    let same : length c.put_in_front.new.bytes ≡ length c.extend_from_slice.new.self.items =
    rw (put, items) (omega (
      arith,
      length-append (take start old ++ text) (drop start old),
      length-append (take start old) text,
      length-append (take start old ++ drop start old) text,
      length-append (take start old) (drop start old),
    )) in
    take_at c.put_in_front.new.bytes _ _ (omega (arith, same, c.as_mut_slice.ensures.len, ap length c.as_mut_slice.ensures.value)) ∙ put

pub returns-then-number-clause-ok : goal.returns-then-number-clause-ok
returns-then-number-clause-ok g c =
    let old : List ℕ = c.args.sink.now.items in
    rw (
      groups_below 128 9 c.args.number c.if-number.true,
      append_assoc (take c.args.start old) (c.args.number ∷ []) (drop c.args.start old),
    ) c.insert_before.ensures.ok
