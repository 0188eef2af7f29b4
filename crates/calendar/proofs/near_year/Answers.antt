use Rattle.std.proofs.Common.{arith}
use Rattle.calendar.proofs.Starts.{near}
use Rattle.calendar.proofs.near_year.Goals as goal

pub returns : goal.returns
returns c = near (omega arith) (omega arith) (omega arith)
