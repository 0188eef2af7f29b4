use native.Mathlib.Omega.{arith}
use Rattle.day_calls.specs.Ways.{step-way}
use borrow.Author.Rules.{rules}
use Rattle.day_calls.proofs.day_step.Goals as goal

pub returns : goal.returns
returns c = step-way _ _ _ _ _ _ _ _ _ _ (omega arith) c.step-z.ensures c.rename.ensures
