use mathlib.Core.Path.{sym}
use borrow.Author.Tests.{le-leb, lt-leb}
use Rattle.descents.specs.Descents.{beside}
use Rattle.descents.proofs.put_beside.Goals as goal

pub returns-then-key-k : goal.returns-then-key-k
unfolding beside
returns-then-key-k c = simp (le-leb _ _ c.if-key-k.true, sym c.insert_before.ensures)

pub returns-else-key-k : goal.returns-else-key-k
unfolding beside
returns-else-key-k c = simp (lt-leb _ _ c.if-key-k.false, sym c.insert_behind.ensures)
