use mathlib.Core.Path.{◌≡◌, ◌∙◌}
use native.Mathlib.Omega.{arith}
use Rattle.groups.specs.Membership.{decode_membership}
use Rattle.scans.proofs.Turns.{all_turns, one_turn, walk-none, walk-one, count-end, count-more}
use Rattle.scans.proofs.count_members.Goals as goal

pub loop-n-init : goal.loop-n-init
loop-n-init c = rw (all_turns c.args.r) (record { walk = c.requires; is = omega arith })

pub returns-then-at-eq0 : goal.returns-then-at-eq0
returns-then-at-eq0 c = count-end c.loop-n.invariant c.if-at-eq0.true

pub membership_next-at-requires : goal.membership_next-at-requires
membership_next-at-requires c = (walk-one _ c.loop-n.invariant.walk c.if-at-eq0.false).has

pub loop-n-preserved : goal.loop-n-preserved
unfolding decode_membership
loop-n-preserved c = rw (one_turn c.args.r c.loop-n.n) (count-more c.loop-n.invariant c.if-at-eq0.false c.membership_next-at.ensures)

pub returns : goal.returns
returns c =
    let e : c.args.r ≡ c.loop-n.n = omega arith in
    e ∙ count-end c.loop-n.invariant (walk-none _ _ _ _ c.loop-n.invariant.walk (omega arith))
