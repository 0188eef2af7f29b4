use Rattle.locks.specs.Rule.{agrees_of}
use mathlib.Core.Path.{refl}
use native.Mathlib.Omega.{arith}
use Rattle.locks.proofs.Table.{cell}
use Rattle.locks.proofs.agrees.Goals as goal

pub returns : goal.returns
unfolding agrees_of
returns c = cell _ refl c.args.kind c.args.held c.args.asked (omega arith) (omega arith) (omega arith)
