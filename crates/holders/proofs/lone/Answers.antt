use mathlib.Core.Path.{refl, sym}
use borrow.Author.Rules.{rules}
use Rattle.locks.specs.Holders.{word_bits}
use Rattle.locks.specs.Blockers.{none-holds}
use Rattle.holders.specs.Holders.{lone}
use Rattle.holders.proofs.lone.Goals as goal

-- The proof of `lone`.
pub returns-then-word-eq0 : goal.returns-then-word-eq0
unfolding lone
returns-then-word-eq0 c = rw (c.if-word-eq0.true, none-holds word_bits) refl

pub returns : goal.returns
unfolding lone
returns c = simp (sym c.lock_count.ensures)
