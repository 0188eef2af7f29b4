use native.Mathlib.Omega.{arith}
use Rattle.calendar.proofs.Starts.{starts_first}
use Rattle.calendar.proofs.first_day.Goals as goal

pub returns : goal.returns
returns c = (starts_first c.args.year (omega arith) (omega arith), omega arith)
