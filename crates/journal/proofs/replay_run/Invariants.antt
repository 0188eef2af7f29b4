use Rattle.std.proofs.Common.{◌-◌}
use Rattle.journal.specs.Loops.{Going}
use Rattle.journal.proofs.replay_run.Given as goal

abbrev pub invariant-loop-passed : goal.invariant-loop-passed
invariant-loop-passed l =
    let d₀ = l.initial.db in
    Going l.bytes l.run d₀.values d₀.keys d₀.entries d₀.count l.db.values l.db.keys l.db.entries l.db.count l.at (l.records - l.passed)
