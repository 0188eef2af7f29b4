use Rattle.std.proofs.lemmas.Result.{err_from_is_err_and}
use Rattle.lists.proofs.Turns.{lists-stop, lists-run}
use Rattle.lists.proofs.walk_lists.Goals as goal

pub returns-in_err-more : goal.returns-in_err-more
returns-in_err-more c =
    let p = err_from_is_err_and c.from_residual.result c.from_residual.ensures.1 in
    rw (p.1, p.2) (lists-stop _ _ _ _ _ _ _ _ c.descriptor_first-first.ensures c.walk_members.ensures c.in_err-more.was)

pub returns-then-not-undo_group : goal.returns-then-not-undo_group
returns-then-not-undo_group c = lists-run _ _ _ _ _ _ _ _ c.descriptor_first-first.ensures c.walk_members.ensures c.in_ok-more.was c.filed-undo.ensures c.undo_group.ensures (simp c.if-not-undo_group.true)

pub returns : goal.returns
returns c = lists-run _ _ _ _ _ _ _ _ c.descriptor_first-first.ensures c.walk_members.ensures c.in_ok-more.was c.filed-undo.ensures c.undo_group.ensures (simp c.if-not-undo_group.false)
