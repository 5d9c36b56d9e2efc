use Rattle.std.proofs.Common.{◌++◌, ◌∷◌, [], rules}
use Rattle.std.proofs.lemmas.Result.{err_from_is_err_and}
use Rattle.wenc_list.specs.Prelude.{IsSpent, item_section, item_seen}
use Rattle.proved_lists.proofs.taken.all_items.Goals as goal

pub returns-in_err-_item-clause-fault : goal.returns-in_err-_item-clause-fault
returns-in_err-_item-clause-fault c ends bytes rest o =
    let t = c.loop-item.invariant in
    let p = err_from_is_err_and c.from_residual.result c.from_residual.ensures.1 in
    rw (p.1, p.2) (c.what_was_taken.ensures.fault ends bytes rest c.args.items c.loop-item.left t.0 o t.1 c.in_err-_item.field-0.0 c.in_err-_item.ensures.fault)

pub loop-item-preserved : goal.loop-item-preserved
loop-item-preserved c =
    let before = c.loop-item.invariant in
    let x = c.in-Some._item in (
      before.0 ++ item_seen x ∷ [],
      c.what_was_taken.ensures.more c.args.items c.loop-item.left c.next.new.self before.0
          (item_seen x) before.1 (rw c.in-Some.is at c.in_ok-_item.ensures.taken),
    )

pub returns-clause-read : goal.returns-clause-read
returns-clause-read c ends bytes rest o =
    let t = c.loop-item.invariant in
    let spent : IsSpent c.loop-item.left = search rules in
    let read = c.what_was_taken.ensures.read ends bytes rest c.args.items c.loop-item.left t.0 o t.1 spent in
    (item_section c.args.items.id t.0, read.0, read.1)
