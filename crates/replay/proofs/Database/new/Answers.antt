use Rattle.replay.specs.Empty.{zeros-ready, zeros-empty}
use Rattle.replay.proofs.Database.new.Goals as goal

pub returns-clause-model : goal.returns-clause-model
returns-clause-model c = zeros-empty

pub invariant_of-result : goal.invariant_of-result
invariant_of-result c = record { ready = zeros-ready }
