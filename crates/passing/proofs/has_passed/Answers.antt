use mathlib.Core.Path.{refl}
use borrow.Author.Tests.{eq-eqb, le-leb, lt-leb, ne_eqb}
use Rattle.passing.specs.Asked.{has_passed}
use Rattle.passing.proofs.has_passed.Goals as goal

-- The proof of `has_passed`.
pub returns-then-s : goal.returns-then-s
unfolding has_passed
returns-then-s c = simp (ne_eqb _ _ c.if-s.true)

pub returns-then-s-eq0 : goal.returns-then-s-eq0
unfolding has_passed
returns-then-s-eq0 c = simp (eq-eqb _ _ c.if-s.false, eq-eqb _ _ c.if-s-eq0.true)

pub returns-then-key-s : goal.returns-then-key-s
unfolding has_passed
returns-then-key-s c = simp (eq-eqb _ _ c.if-s.false, ne_eqb _ _ c.if-s-eq0.false, lt-leb _ _ c.if-key-s.true)

pub returns : goal.returns
unfolding has_passed
returns c = rw (eq-eqb _ _ c.if-s.false, ne_eqb _ _ c.if-s-eq0.false, le-leb _ _ c.if-key-s.false) refl
