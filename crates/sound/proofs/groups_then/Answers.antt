use Rattle.std.proofs.lemmas.Result.{err_from_is_err_and}
use Rattle.sound.proofs.Turns.{walked, refused, groups-many, groups-bad, groups-go}
use Rattle.sound.proofs.groups_then.Goals as goal

pub returns-then-count-gt4097 : goal.returns-then-count-gt4097
returns-then-count-gt4097 c = groups-many _ _ _ _ _ _ _ _ _ _ _ c.if-count-gt4097.true

pub returns-in_err-more : goal.returns-in_err-more
returns-in_err-more c =
    let p = err_from_is_err_and c.from_residual.result c.from_residual.ensures.1 in
    let q = refused _ _ _ c.or.ensures c.in_err-more.was in rw (p.1, p.2, q.2) (groups-bad _ _ _ _ _ _ _ _ _ _ _ c.if-count-gt4097.false c.walk_groups-walked.ensures q.1)

pub returns : goal.returns
returns c = groups-go _ _ _ _ _ _ _ _ _ _ _ c.if-count-gt4097.false c.walk_groups-walked.ensures _ (walked _ _ _ c.or.ensures c.in_ok-more.was) c.finish.ensures
