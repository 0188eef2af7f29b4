use mathlib.Core.Path.{refl, ◌∙◌}
use native.Mathlib.Omega.{arith}
use Rattle.groups.specs.Membership.{decode_membership}
use Rattle.scans.proofs.Turns.{all_turns, one_turn, walk-none, walk-one, find-end, find-stop, find-more}
use Rattle.scans.proofs.find_member.Goals as goal
use Rattle.scans.proofs.find_member.Goals.{then-at-eq0-via-then-at-eq0, then-at-eq0-via-else-at-eq0+then-membership_entry-e}

pub loop-turn-init : goal.loop-turn-init
loop-turn-init c = rw (all_turns c.args.r) (record { walk = c.requires; is = refl })

pub membership_entry-requires : goal.membership_entry-requires
membership_entry-requires c = (walk-one _ c.loop-turn.invariant.walk c.if-at-eq0.false).has

pub returns-then-at-eq0 : goal.returns-then-at-eq0
unfolding decode_membership
returns-then-at-eq0 c =
    let f = c.loop-turn.invariant in
    elim c.then-at-eq0.branch [
      | then-at-eq0-via-then-at-eq0 w ↦ w.if-at-eq0.true ∙ find-end f w.if-at-eq0.true
      | then-at-eq0-via-else-at-eq0+then-membership_entry-e w ↦ find-stop f w.if-at-eq0.false w.membership_entry.ensures w.if-membership_entry-e.true
    ]

pub membership_next-at-requires : goal.membership_next-at-requires
membership_next-at-requires c = (walk-one _ c.loop-turn.invariant.walk c.if-at-eq0.false).has

pub loop-turn-preserved : goal.loop-turn-preserved
unfolding decode_membership
loop-turn-preserved c =
    rw (one_turn c.args.r c.loop-turn._turn)
    (find-more c.loop-turn.invariant c.if-at-eq0.false c.membership_entry.ensures c.if-membership_entry-e.false c.membership_next-at.ensures)

pub returns : goal.returns
returns c = find-end c.loop-turn.invariant (walk-none _ _ _ _ c.loop-turn.invariant.walk (omega arith))
