use mathlib.Core.Path.{sym}
use borrow.Author.Tests.{eq-eqb, le-leb, lt-leb, ne_eqb}
use borrow.Author.Rules.{rules}
use Rattle.holdings.specs.Holdings.{descriptor_ok}
use Rattle.holdings.proofs.descriptor_ok.Goals as goal

-- The proof of `descriptor_ok`.
pub returns-then-d-eq0 : goal.returns-then-d-eq0
unfolding descriptor_ok
returns-then-d-eq0 c = simp (eq-eqb _ _ c.if-d-eq0.true)

pub returns-then-r-d : goal.returns-then-r-d
unfolding descriptor_ok
returns-then-r-d c = simp (ne_eqb _ _ c.if-d-eq0.false, lt-leb _ _ c.if-r-d.true)

pub returns : goal.returns
unfolding descriptor_ok
returns c = simp (ne_eqb _ _ c.if-d-eq0.false, le-leb _ _ c.if-r-d.false, sym c.group_ok.ensures, sym c.load-words.ensures)
