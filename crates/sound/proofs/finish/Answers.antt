use Rattle.std.proofs.lemmas.Result.{err_from_is_err_and}
use Rattle.sound.proofs.Turns.{walked, refused, free-bad, free-short, free-good}
use Rattle.sound.proofs.finish.Goals as goal

pub returns-in_err-more : goal.returns-in_err-more
returns-in_err-more c =
    let p = err_from_is_err_and c.from_residual.result c.from_residual.ensures.1 in
    let q = refused _ _ _ c.or.ensures c.in_err-more.was in rw (p.1, p.2, q.2) (free-bad _ _ _ _ _ c.free-first.ensures c.walk_free.ensures q.1)

pub returns-then-more-ne0 : goal.returns-then-more-ne0
returns-then-more-ne0 c = free-short _ _ _ _ _ c.free-first.ensures c.walk_free.ensures _ (walked _ _ _ c.or.ensures c.in_ok-more.was) c.if-more-ne0.true

pub returns : goal.returns
returns c = free-good _ _ _ _ _ c.free-first.ensures c.walk_free.ensures _ (walked _ _ _ c.or.ensures c.in_ok-more.was) c.if-more-ne0.false
