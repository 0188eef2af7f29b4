use mathlib.Core.Path.{sym}
use Prim.Native.Nat.{◌<◌}
use borrow.Author.Tests.{eq-eqb, le-leb, lt-leb, ne_eqb}
use borrow.Author.Rules.{rules}
use Rattle.standing.specs.Standing.{son_on}
use Rattle.standing.proofs.Turns.{son-place}
use Rattle.standing.proofs.son_on.Goals as goal

-- The proof of `son_on`.
pub returns-then-n-eq0 : goal.returns-then-n-eq0
unfolding son_on
returns-then-n-eq0 c = simp (eq-eqb _ _ c.if-n-eq0.true)

pub returns-then-n-gt8 : goal.returns-then-n-gt8
unfolding son_on
returns-then-n-gt8 c = simp (ne_eqb _ _ c.if-n-eq0.false, lt-leb _ _ c.if-n-gt8.true)

pub offset_bounds-sons-k : goal.offset_bounds-sons-k
offset_bounds-sons-k c = let h : c.find_son-k.result < 8 = rw c.find_son-k.ensures (son-place _ _ c.if-n-gt8.false) in search rules

pub bounds-sons-k : goal.bounds-sons-k
bounds-sons-k c = rw c.find_son-k.ensures (son-place _ _ c.if-n-gt8.false)

pub returns : goal.returns
unfolding son_on
returns c = simp (ne_eqb _ _ c.if-n-eq0.false, le-leb _ _ c.if-n-gt8.false, sym c.find_son-k.ensures)
