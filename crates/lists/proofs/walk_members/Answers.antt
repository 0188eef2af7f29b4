use mathlib.Core.Path.{refl}
use native.Mathlib.Omega.{arith}
use Rattle.std.proofs.lemmas.Result.{err_from_is_err_and}
use borrow.Author.Rules.{rules}
use Rattle.marks.specs.Steps.{has_one}
use Rattle.marks.specs.Trail.{go-end, go-stop, go-bad, go-more}
use Rattle.lists.specs.Lists.{members_from}
use Rattle.lists.proofs.Turns.{member-turned, listed}
use Rattle.lists.proofs.walk_members.Goals as goal

pub loop-i-init : goal.loop-i-init
unfolding members_from
loop-i-init c = (refl, refl, record { is = refl })

pub returns-in_err-more : goal.returns-in_err-more
returns-in_err-more c =
    let p = err_from_is_err_and c.from_residual.result c.from_residual.ensures.1 in
    rw (p.1, p.2) (listed (go-stop c.loop-i.invariant.2 c.loop-i-test.true c.meet.ensures c.in_err-more.was))

pub member_one-requires : goal.member_one-requires
member_one-requires c = (has_one c.args.records.inside (c.meet.ensures.inside _ c.in_ok-more.was), search rules, c.requires.2)

pub returns-then-not-member_one : goal.returns-then-not-member_one
returns-then-not-member_one c = listed (go-bad c.loop-i.invariant.2 c.loop-i-test.true c.meet.ensures c.in_ok-more.was (member-turned _ _ _ _ _ _ _ c.member_one.ensures c.if-not-member_one.true))

pub membership_next-i-requires : goal.membership_next-i-requires
membership_next-i-requires c = has_one c.args.records.inside (c.meet.ensures.inside _ c.in_ok-more.was)

pub loop-i-smaller : goal.loop-i-smaller
loop-i-smaller c = omega (arith, c.meet.ensures.one _ c.in_ok-more.was)

pub loop-i-preserved : goal.loop-i-preserved
loop-i-preserved c = (search rules, search rules, go-more c.loop-i.invariant.2 c.loop-i-test.true c.meet.ensures c.in_ok-more.was (member-turned _ _ _ _ _ _ _ c.member_one.ensures c.if-not-member_one.false) c.membership_next-i.ensures)

pub returns : goal.returns
returns c = listed (go-end c.loop-i.invariant.2 c.loop-i-test.false)
