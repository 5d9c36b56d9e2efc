use Rattle.std.proofs.Common.{rules, ◌≡◌, ◌++◌, ◌∙◌, refl, length, arith, append_assoc, ap, List, ℕ}
use Rattle.wenc_base.specs.Prelude.{NameAssociation, unsigned_text}
use Rattle.wenc_base.proofs.ShortNames.{short_name_added}
use Rattle.wenc_base.proofs.names.NameMap.append.Goals as goal

pub returns-then-has_room : goal.returns-then-has_room
returns-then-has_room g c =
    let entry : NameAssociation = record { index = c.args.idx; name = c.args.name.now } in
    let old : List ℕ = c.self.inside.names.items in
    let index : List ℕ = unsigned_text c.args.idx in
    let size : List ℕ = unsigned_text (length c.args.name.now) in
    let items : c.extend_in_room.new.sink.items ≡ old ++ (index ++ (size ++ c.args.name.now)) =
    c.extend_in_room.ensures.items ∙ rw (c.as_bytes.ensures.value, c.short_numbers_in_room.ensures.items)
    (append_assoc old (index ++ size) c.args.name.now ∙ ap (λ (text : List ℕ). old ++ text) (append_assoc index size c.args.name.now)) in
    rw (← c.self.view_is) (short_name_added _ _ entry (rw items refl) refl c.if-self-lt4294967295.true
    (omega (arith, c.if-len-lt-NEARLY_FULL.true, c.len.ensures)) (omega (arith, c.if-name.true)) c.ranges.idx.fits (search rules))
