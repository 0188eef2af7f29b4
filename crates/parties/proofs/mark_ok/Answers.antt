use mathlib.Core.Path.{refl}
use borrow.Author.Tests.{eq-eqb, ne_eqb}
use Rattle.parties.specs.Parties.{mark_ok}
use Rattle.parties.proofs.mark_ok.Goals as goal

-- The proof of `mark_ok`.
pub returns-then-s-eq0 : goal.returns-then-s-eq0
unfolding mark_ok
returns-then-s-eq0 c = simp (eq-eqb _ _ c.if-s-eq0.true)

pub returns-then-p-eq0 : goal.returns-then-p-eq0
unfolding mark_ok
returns-then-p-eq0 c = simp (ne_eqb _ _ c.if-s-eq0.false, eq-eqb _ _ c.if-p-eq0.true)

pub returns-then-s-eq0-2 : goal.returns-then-s-eq0-2
unfolding mark_ok
returns-then-s-eq0-2 c = simp (ne_eqb _ _ c.if-s-eq0.false, ne_eqb _ _ c.if-p-eq0.false, eq-eqb _ _ c.if-s-eq0-2.true)

pub returns : goal.returns
unfolding mark_ok
returns c = rw (ne_eqb _ _ c.if-s-eq0.false, ne_eqb _ _ c.if-p-eq0.false, ne_eqb _ _ c.if-s-eq0-2.false) refl
