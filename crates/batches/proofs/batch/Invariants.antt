use Rattle.batches.specs.Making.{Batching}
use Rattle.batches.proofs.batch.Given as goal

abbrev pub invariant-loop-i : goal.invariant-loop-i
invariant-loop-i l = Batching l.asks l.initial.store l.initial.at.table l.initial.list l.initial.answers l.store l.at.table l.list l.answers l.at.from l.i l.at.on
