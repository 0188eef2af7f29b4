use mathlib.Core.Path.{sym}
use native.Mathlib.Omega.{arith}
use lib.ListN.{get_or-eq_default}
use Rattle.lists.proofs.filed.Goals as goal

-- The proof of `filed`.
pub returns-then-files-at : goal.returns-then-files-at
returns-then-files-at c = sym (get_or-eq_default c.args.files.now 0 c.if-files-at.true)

pub overflow_cast-result : goal.overflow_cast-result
overflow_cast-result c = omega (arith, c.shared_slice_known-1.given c.args.at)
