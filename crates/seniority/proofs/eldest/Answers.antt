use native.Mathlib.Omega.{arith}
use borrow.Author.Rules.{rules}
use Rattle.seniority.proofs.Walk.{left_less}
use Rattle.seniority.proofs.Turns.{find-start, find_first, find-more, find-stop, find-end}
use Rattle.seniority.proofs.eldest.Goals as goal

pub loop-rest-init : goal.loop-rest-init
loop-rest-init c = find-start _ _ (search rules)

pub returns-then-at-ge-PARTIES : goal.returns-then-at-ge-PARTIES
returns-then-at-ge-PARTIES c = find-stop c.loop-rest.invariant (find_first c.loop-rest.invariant c.loop-rest-test.true c.first_session-p.ensures) (let h = c.if-at-ge-PARTIES.true in omega (arith, h))

pub elder-best-requires : goal.elder-best-requires
elder-best-requires c = let f = find_first c.loop-rest.invariant c.loop-rest-test.true c.first_session-p.ensures in (c.loop-rest.invariant.few, f.from, let h = c.if-at-ge-PARTIES.false in omega (arith, h))

pub without_session-rest-requires : goal.without_session-rest-requires
without_session-rest-requires c = let f = find_first c.loop-rest.invariant c.loop-rest-test.true c.first_session-p.ensures in (f.from, f.within)

pub loop-rest-smaller : goal.loop-rest-smaller
loop-rest-smaller c = let h = left_less (find_first c.loop-rest.invariant c.loop-rest-test.true c.first_session-p.ensures) in let e = c.without_session-rest.ensures in omega (arith, h, e)

pub loop-rest-preserved : goal.loop-rest-preserved
loop-rest-preserved c = find-more c.loop-rest.invariant (find_first c.loop-rest.invariant c.loop-rest-test.true c.first_session-p.ensures) (let h = c.if-at-ge-PARTIES.false in omega (arith, h)) c.elder-best.ensures c.without_session-rest.ensures

pub returns : goal.returns
returns c = find-end c.loop-rest.invariant c.loop-rest-test.false
