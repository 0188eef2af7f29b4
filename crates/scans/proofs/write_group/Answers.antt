use mathlib.Core.Path.{◌≡◌, ◌∙◌}
use native.Mathlib.Omega.{arith}
use Rattle.groups.specs.Membership.{decode_membership}
use Rattle.scans.proofs.Pairs.{group-start, group-end, group-count, group-fits, group-more}
use Rattle.scans.proofs.Turns.{all_turns, one_turn, walk-none, walk-one}
use Rattle.scans.proofs.write_group.Goals as goal

pub loop-n-init : goal.loop-n-init
loop-n-init c = rw (all_turns c.args.r) (group-start _ _ _ _ _ _ c.requires.walk)

pub returns-then-at-eq0 : goal.returns-then-at-eq0
returns-then-at-eq0 c = record { count = group-count c.loop-n.invariant c.if-at-eq0.true; words = group-end c.loop-n.invariant c.if-at-eq0.true }

pub membership_entry-e-requires : goal.membership_entry-e-requires
membership_entry-e-requires c = (walk-one _ c.loop-n.invariant.walk c.if-at-eq0.false).has

pub insert_pair-requires : goal.insert_pair-requires
insert_pair-requires c = let z = group-fits c.loop-n.invariant c.if-at-eq0.false in let h = c.requires.room in omega arith

pub membership_next-at-requires : goal.membership_next-at-requires
membership_next-at-requires c = (walk-one _ c.loop-n.invariant.walk c.if-at-eq0.false).has

pub loop-n-preserved : goal.loop-n-preserved
unfolding decode_membership
loop-n-preserved c =
    rw (one_turn c.args.r c.loop-n.n)
    (group-more c.loop-n.invariant c.if-at-eq0.false c.membership_entry-e.ensures c.insert_pair.ensures c.membership_next-at.ensures)

pub returns : goal.returns
returns c =
    let z = walk-none _ _ _ _ c.loop-n.invariant.walk (omega arith) in
    let e : c.args.r ≡ c.loop-n.n = omega arith in
    record { count = e ∙ group-count c.loop-n.invariant z; words = group-end c.loop-n.invariant z }
