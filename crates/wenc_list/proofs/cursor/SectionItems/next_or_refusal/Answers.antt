use Rattle.std.proofs.Common.{refl, arith}
use Rattle.std.proofs.lemmas.Result.{err_from_is_err_and}
use Rattle.wenc_list.specs.Items.{item_seen}
use Rattle.wenc_list.proofs.Taken.{item_found, item_leaves, next_fault}
use Rattle.wenc_list.proofs.cursor.SectionItems.next_or_refusal.Goals as goal

pub returns-clause-taken : goal.returns-clause-taken
returns-clause-taken c =
    let f = item_found c.args.self.now.id c.args.self.now.rest.now (item_seen c.in_ok-item.item) c.in_ok-item.rest.now c.in_ok-item.ensures.found in
    record {
      read = (c.in_ok-item.rest.now, f.1, refl);
      leaves = item_leaves c.args.self.now.id (item_seen c.in_ok-item.item) c.args.self.now.rest.now c.in_ok-item.rest.now f.1;
      within = (f.0, tt);
      counted = omega arith;
      same_id = refl;
      same_place = refl;
      same_end = refl;
    }

pub returns-in_err-item-clause-fault : goal.returns-in_err-item-clause-fault
returns-in_err-item-clause-fault c =
    let p = err_from_is_err_and c.from_residual.result c.from_residual.ensures.1 in
    rw (p.1, p.2) (record {
      cause = next_fault c.args.self.now c.in_err-item.field-0.0 c.if-self-eq0.false c.are_bytes.ensures c.in_err-item.ensures.found;
      at_end = λ e. absurd (c.if-self-eq0.false e);
      within = c.in_err-item.ensures.place;
    })
