use mathlib.Core.Path.{sym}
use borrow.Author.Tests.{eq-eqb, le-leb, lt-leb, ne_eqb}
use borrow.Author.Rules.{rules}
use Rattle.holdings.specs.Holdings.{key_of}
use Rattle.holdings.proofs.key_of.Goals as goal

-- The proof of `key_of`.
pub returns-then-d-eq0 : goal.returns-then-d-eq0
unfolding key_of
returns-then-d-eq0 c = simp (eq-eqb _ _ c.if-d-eq0.true)

pub returns-then-r-d : goal.returns-then-r-d
unfolding key_of
returns-then-r-d c = simp (ne_eqb _ _ c.if-d-eq0.false, lt-leb _ _ c.if-r-d.true)

pub returns : goal.returns
unfolding key_of
returns c = simp (ne_eqb _ _ c.if-d-eq0.false, le-leb _ _ c.if-r-d.false, sym c.descriptor_key.ensures)
