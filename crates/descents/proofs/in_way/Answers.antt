use Rattle.std.proofs.Common.{sym, ◌∙◌, true≢false}
use borrow.Author.Tests.{eq-eqb, ne_eqb}
use Rattle.descents.specs.Descents.{in_way}
use Rattle.descents.proofs.in_way.Goals as goal
use Rattle.descents.proofs.in_way.Goals.{then-w-eq0, else-w-eq0}

pub returns-then-w-p : goal.returns-then-w-p
unfolding in_way
returns-then-w-p c =
    elim c.if-w-eq0.branch [
      | then-w-eq0 w ↦ simp (eq-eqb _ _ w.if-w-eq0.true)
      | else-w-eq0 w ↦ simp (ne_eqb _ _ w.if-w-eq0.false, sym w.value-is ∙ c.if-w-p.true)
    ]

pub returns-else-w-p : goal.returns-else-w-p
unfolding in_way
returns-else-w-p c =
    elim c.if-w-eq0.branch [
      | then-w-eq0 w ↦ absurd (true≢false (sym (eq-eqb _ _ w.if-w-eq0.true) ∙ sym w.value-is ∙ c.if-w-p.false))
      | else-w-eq0 w ↦ simp (ne_eqb _ _ w.if-w-eq0.false, sym w.value-is ∙ c.if-w-p.false)
    ]
