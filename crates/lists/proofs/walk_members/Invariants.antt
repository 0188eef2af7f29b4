use mathlib.Core.Path.{◌≡◌}
use lib.ListN.{length}
use Rattle.groups.specs.Membership.{membership_at}
use Rattle.marks.specs.Marks.{membership_mark}
use Rattle.marks.specs.Trail.{Going}
use Rattle.lists.specs.Lists.{members_from, member_turn, holding, Held}
use Rattle.lists.proofs.walk_members.Given as goal

abbrev pub invariant-loop-i : goal.invariant-loop-i
invariant-loop-i l = (length l.seen ≡ length l.initial.seen) × (length l.lists ≡ length l.initial.lists) × Going Held (members_from l.records.store.now l.records.m l.records.r l.d l.initial.seen l.initial.lists l.first l.left) (λ j. (membership_at l.records.store.now l.records.m j).next) l.records.r membership_mark (member_turn l.records.store.now l.records.m l.d) l.seen (holding l.lists l.before) l.i l.more

abbrev pub decreases-loop-i : goal.decreases-loop-i
decreases-loop-i l = l.more
