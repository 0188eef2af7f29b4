use Rattle.std.proofs.Common.{rules}
use Rattle.replay.specs.Members.{place-more, place-stop, place_end}
use Rattle.replay.proofs.place.Goals as goal

pub returns-then-not-is_before : goal.returns-then-not-is_before
returns-then-not-is_before c = place-stop _ _ _ _ _ c.requires c.loop-i.invariant _ (search rules) c.is_before.ensures (search rules)

pub loop-i-preserved : goal.loop-i-preserved
loop-i-preserved c = place-more _ _ _ _ _ c.requires c.loop-i.invariant _ (search rules) c.is_before.ensures (search rules)

pub returns : goal.returns
returns c = place_end _ _ _ _ _ c.requires c.loop-i.invariant (search rules)
