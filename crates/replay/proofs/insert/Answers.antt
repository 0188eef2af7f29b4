use Rattle.std.proofs.Common.{arith, rules}
use Rattle.replay.specs.Members.{place-upto, inserts-none, inserts-one}
use Rattle.replay.proofs.insert.Goals as goal

pub returns-then-is_at : goal.returns-then-is_at
returns-then-is_at c = inserts-none _ _ _ _ _ _ _ c.requires.0 c.place-p.ensures c.is_at.ensures (search rules)

pub insert_in-requires : goal.insert_in-requires
insert_in-requires c = omega (arith, place-upto _ _ _ _ _ _ c.requires.0 c.place-p.ensures)

pub insert_in-requires-2 : goal.insert_in-requires-2
insert_in-requires-2 c = omega (arith, place-upto _ _ _ _ _ _ c.requires.0 c.place-p.ensures)

pub returns : goal.returns
returns c = inserts-one _ _ _ _ _ _ _ c.requires.0 c.place-p.ensures c.is_at.ensures _ _ (search rules) (search rules) c.insert_in.ensures c.insert_in-2.ensures
