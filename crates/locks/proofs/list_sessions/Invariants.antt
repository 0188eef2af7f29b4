use Rattle.locks.specs.Holders.{holders, padded}
use Rattle.locks.proofs.Lowest.{Walking}
use Rattle.locks.proofs.list_sessions.Given as goal

abbrev pub invariant-loop-n : goal.invariant-loop-n
invariant-loop-n l = Walking (padded 32 (holders 32 l.word)) l.list l.n l.rest
