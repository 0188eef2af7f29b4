use Rattle.std.proofs.lemmas.Result.{err_from_is_err_and}
use mathlib.Core.Path.{refl}
use Rattle.sound.proofs.Turns.{walked, refused, fault-entries, fault-lowest, fault-tree, fault-go}
use Rattle.sound.proofs.fault_in.Goals as goal

pub returns-then-not-entries_ok : goal.returns-then-not-entries_ok
returns-then-not-entries_ok c = fault-entries _ _ _ _ c.begun_mask-begun.ensures c.entries_ok.ensures c.if-not-entries_ok.true refl

pub returns-then-not-lowest_ok : goal.returns-then-not-lowest_ok
returns-then-not-lowest_ok c = fault-lowest _ _ _ _ c.begun_mask-begun.ensures c.entries_ok.ensures c.if-not-entries_ok.false c.lowest_ok.ensures c.if-not-lowest_ok.true refl

pub returns-in_err-w : goal.returns-in_err-w
returns-in_err-w c =
    let p = err_from_is_err_and c.from_residual.result c.from_residual.ensures.1 in
    let q = refused _ _ _ c.or.ensures c.in_err-w.was in rw (p.1, p.2, q.2) (fault-tree _ _ _ _ c.begun_mask-begun.ensures c.entries_ok.ensures c.if-not-entries_ok.false c.lowest_ok.ensures c.if-not-lowest_ok.false c.walk_root-walked.ensures _ q.1)

pub returns : goal.returns
returns c = fault-go _ _ _ _ c.begun_mask-begun.ensures c.entries_ok.ensures c.if-not-entries_ok.false c.lowest_ok.ensures c.if-not-lowest_ok.false c.walk_root-walked.ensures _ (walked _ _ _ c.or.ensures c.in_ok-w.was) c.parties_then.ensures
