use Rattle.std.proofs.Common.{rules, le-ltb}
use Rattle.replay.specs.Members.{finds_past, finds-both}
use Rattle.replay.proofs.is_at.Goals as goal

pub returns-then-p-count : goal.returns-then-p-count
returns-then-p-count c = rw c.eq.ensures (finds-both _ _ _ _ _ _ c.requires.0 (search rules) c.if-p-count.true)

pub returns-else-p-count : goal.returns-else-p-count
returns-else-p-count c = rw (le-ltb c.args.p c.args.count c.if-p-count.false) (finds_past _ _ _ _ _ _ c.requires.0 (search rules) c.if-p-count.false)
