use Rattle.std.proofs.Common.{rules}
use Rattle.replay.specs.Members.{removes-none, removes-one}
use Rattle.replay.proofs.remove.Goals as goal

pub returns-then-not-is_at : goal.returns-then-not-is_at
returns-then-not-is_at c = removes-none _ _ _ _ _ _ _ c.requires c.place-p.ensures c.is_at.ensures (search rules)

pub returns : goal.returns
returns c = removes-one _ _ _ _ _ _ _ c.requires c.place-p.ensures c.is_at.ensures _ _ (search rules) c.remove_in.ensures c.remove_in-2.ensures
