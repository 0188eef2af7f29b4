use mathlib.Core.Path.{refl}
use native.Mathlib.Omega.{arith}
use Rattle.std.proofs.lemmas.Result.{err_from_is_err_and}
use borrow.Author.Rules.{rules}
use Rattle.marks.specs.Steps.{has_one}
use Rattle.marks.specs.Trail.{go-end, go-stop, go-more}
use Rattle.sound.specs.Sound.{free_from}
use Rattle.sound.proofs.Turns.{free-turned, at_ahead}
use Rattle.sound.proofs.walk_free.Goals as goal

pub loop-i-init : goal.loop-i-init
unfolding free_from
loop-i-init c = (refl, record { is = refl })

pub returns-in_err-more : goal.returns-in_err-more
returns-in_err-more c =
    let p = err_from_is_err_and c.from_residual.result c.from_residual.ensures.1 in
    rw (p.1, p.2) (go-stop c.loop-i.invariant.1 c.loop-i-test.true c.meet.ensures c.in_err-more.was)

pub word-i-requires : goal.word-i-requires
word-i-requires c = (has_one c.args.records.inside (c.meet.ensures.inside _ c.in_ok-more.was), search rules)

pub returns-in_err-more-2 : goal.returns-in_err-more-2
returns-in_err-more-2 c =
    let p = err_from_is_err_and c.from_residual-in_err-more-2.result c.from_residual-in_err-more-2.ensures.1 in
    rw (p.1, p.2) (go-stop (at_ahead c.if-i-ahead.true (go-more c.loop-i.invariant.1 c.loop-i-test.true c.meet.ensures c.in_ok-more.was (free-turned _ _ _) c.word-i.ensures)) (λ e. absurd (omega (arith, e))) c.meet-then-i-ahead.ensures c.in_err-more-2.was)

pub word-i-requires-then-i-ahead : goal.word-i-requires-then-i-ahead
word-i-requires-then-i-ahead c = (has_one c.args.records.inside (c.meet-then-i-ahead.ensures.inside _ c.in_ok-more-2.was), search rules)

pub loop-i-smaller-then-i-ahead : goal.loop-i-smaller-then-i-ahead
loop-i-smaller-then-i-ahead c = omega (arith, c.meet-then-i-ahead.ensures.one _ c.in_ok-more-2.was, c.meet.ensures.one _ c.in_ok-more.was)

pub loop-i-preserved-then-i-ahead : goal.loop-i-preserved-then-i-ahead
loop-i-preserved-then-i-ahead c = (search rules, go-more (at_ahead c.if-i-ahead.true (go-more c.loop-i.invariant.1 c.loop-i-test.true c.meet.ensures c.in_ok-more.was (free-turned _ _ _) c.word-i.ensures)) (λ e. absurd (omega (arith, e))) c.meet-then-i-ahead.ensures c.in_ok-more-2.was (free-turned _ _ _) c.word-i-then-i-ahead.ensures)

pub loop-i-smaller : goal.loop-i-smaller
loop-i-smaller c = omega (arith, c.meet.ensures.one _ c.in_ok-more.was)

pub loop-i-preserved : goal.loop-i-preserved
loop-i-preserved c = (search rules, go-more c.loop-i.invariant.1 c.loop-i-test.true c.meet.ensures c.in_ok-more.was (free-turned _ _ _) c.word-i.ensures)

pub returns : goal.returns
returns c = go-end c.loop-i.invariant.1 c.loop-i-test.false
