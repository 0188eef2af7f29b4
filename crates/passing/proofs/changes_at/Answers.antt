use mathlib.Core.Path.{sym}
use borrow.Author.Tests.{eq-eqb, le-leb, le-ltb, lt-leb, lt-ltb, ne_eqb}
use borrow.Author.Rules.{rules}
use Rattle.passing.specs.Passed.{changes_at}
use Rattle.passing.proofs.changes_at.Goals as goal

-- The proof of `changes_at`.
pub returns-then-s : goal.returns-then-s
unfolding changes_at
returns-then-s c = simp (ne_eqb _ _ c.if-s.true)

pub returns-then-last-eq0 : goal.returns-then-last-eq0
unfolding changes_at
returns-then-last-eq0 c = simp (eq-eqb _ _ c.if-s.false, eq-eqb _ _ c.if-last-eq0.true)

pub returns-then-last-key : goal.returns-then-last-key
unfolding changes_at
returns-then-last-key c = simp (eq-eqb _ _ c.if-s.false, ne_eqb _ _ c.if-last-eq0.false, lt-leb _ _ c.if-last-key.true)

pub returns-then-key-first : goal.returns-then-key-first
unfolding changes_at
returns-then-key-first c = simp (eq-eqb _ _ c.if-s.false, ne_eqb _ _ c.if-last-eq0.false, le-leb _ _ c.if-last-key.false, lt-ltb _ _ c.if-key-first.true)

pub returns : goal.returns
unfolding changes_at
returns c = simp (eq-eqb _ _ c.if-s.false, ne_eqb _ _ c.if-last-eq0.false, le-leb _ _ c.if-last-key.false, le-ltb _ _ c.if-key-first.false, sym c.after.ensures)
