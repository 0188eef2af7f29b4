use Rattle.std.proofs.Common.{◌≡◌, ◌+◌, ◌-◌, length, arith, rules}
use Rattle.reshaping.proofs.Laws.{copied, join-run}
use Rattle.reshaping.proofs.join_nodes.Goals as goal

pub returns : goal.returns
returns c =
    let a = c.args in
    let x : length a.r.bounds ≡ 7 = search rules in
    let y : length a.r.sons ≡ 8 = search rules in
    join-run a.l a.down a.r
    (copied _ a.l.count _ a.r.bounds (a.r.count - 1) c.copy_from_slice.ensures.after (omega arith) (omega arith))
    (copied a.l.sons a.l.count (a.l.count + a.r.count - a.l.count) a.r.sons a.r.count c.copy_from_slice-2.ensures.after (omega arith) (omega arith))
