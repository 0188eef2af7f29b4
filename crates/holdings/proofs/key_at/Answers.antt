use mathlib.Core.Path.{sym}
use native.Mathlib.Omega.{arith}
use borrow.Author.Tests.{le-ltb, lt-ltb}
use borrow.Author.Rules.{rules}
use Rattle.holdings.specs.Holdings.{key_at}
use Rattle.holdings.proofs.key_at.Goals as goal

-- The proof of `key_at`.
pub returns-then-count-k : goal.returns-then-count-k
unfolding key_at
returns-then-count-k c = simp (le-ltb _ _ c.if-count-k.true)

pub overflow_cast-d : goal.overflow_cast-d
overflow_cast-d c = omega (arith, c.shared_slice_known-2-1.given c.args.k)

pub returns : goal.returns
unfolding key_at
returns c = simp (lt-ltb _ _ c.if-count-k.false, sym c.key_of.ensures)
