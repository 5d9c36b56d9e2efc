use Rattle.std.proofs.Common.{◌≡◌, ◌++◌, ◌∷◌, [], map, refl}
use Rattle.std.proofs.lemmas.List.{map_push}
use Rattle.std.proofs.lemmas.Result.{err_from_is_err_and}
use Rattle.wenc_list.specs.Cursor.{HasTaken, IsRefusedIn}
use Rattle.wenc_list.specs.Items.{item_view}
use Rattle.wenc_list.proofs.Taken.{none_taken, one_more_taken}
use Rattle.wenc_list.proofs.listing.section.Goals as goal

pub returns-in_err-items-clause-fault : goal.returns-in_err-items-clause-fault
returns-in_err-items-clause-fault g c =
    let p = err_from_is_err_and c.from_residual.result c.from_residual.ensures.1 in
    rw (p.1, p.2) (record { xs = []; left = c.args.from; taken = none_taken c.args.from; cause = tt })

pub returns-in-Err-clause-fault : goal.returns-in-Err-clause-fault
returns-in-Err-clause-fault g c =
    let left = c.next_or_refusal.new.self in
    let refused : IsRefusedIn left c.in-Err.refusal = rw (← c.in-Err.ensures.refused) at c.in-Err.ensures.fault in record {
      xs = map item_view c.loop-item.items.items;
      left = left;
      taken = rw (← c.in-Err.ensures.refused) at c.loop-item.invariant;
      cause = refused.cause;
    }

pub returns-in-Err-clause-stopped : goal.returns-in-Err-clause-stopped
returns-in-Err-clause-stopped g c =
    let left = c.next_or_refusal.new.self in
    let xs = map item_view c.loop-item.items.items in
    let refused : IsRefusedIn left c.in-Err.refusal = rw (← c.in-Err.ensures.refused) at c.in-Err.ensures.fault in
    let taken : HasTaken c.args.from xs left = rw (← c.in-Err.ensures.refused) at c.loop-item.invariant in
    (refl, (xs, taken), refused)

pub loop-item-preserved : goal.loop-item-preserved
loop-item-preserved g c =
    let before = c.loop-item.items.items in
    let x = c.in_ok-item-in-Ok-Some.item in
    let views : map item_view c.push.new.self.items ≡ map item_view before ++ item_view x ∷ [] = rw c.in_ok-push-in-Ok-Some.ensures.items (map_push item_view before x) in
    rw views (one_more_taken c.args.from c.loop-item.left c.next_or_refusal.new.self (map item_view before) (item_view x) c.loop-item.invariant
    (rw (← c.in_ok-item-in-Ok-Some.ensures) at (rw c.in-Ok-Some.field-0-is at c.in-Ok-Some.ensures.taken)))

pub loop-item-init : goal.loop-item-init
loop-item-init g c = rw c.in_ok-items.ensures.items (none_taken c.args.from)
