use Rattle.std.proofs.lemmas.Result.{err_from_is_err_and}
use Rattle.sound.proofs.Turns.{walked, refused, undos-bad, undos-go}
use Rattle.sound.proofs.chains_then.Goals as goal

pub returns-in_err-more : goal.returns-in_err-more
returns-in_err-more c =
    let p = err_from_is_err_and c.from_residual.result c.from_residual.ensures.1 in
    let q = refused _ _ _ c.or.ensures c.in_err-more.was in rw (p.1, p.2, q.2) (undos-bad _ _ _ _ _ _ _ _ _ _ c.all_undos-walked.ensures q.1)

pub returns : goal.returns
returns c = undos-go _ _ _ _ _ _ _ _ _ _ c.all_undos-walked.ensures _ (walked _ _ _ c.or.ensures c.in_ok-more.was) c.groups_then.ensures
