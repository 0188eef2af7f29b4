use Rattle.seniority.proofs.Turns.{best-first, best-elder, best-stays}
use Rattle.seniority.proofs.elder.Goals as goal
use Rattle.seniority.proofs.elder.Goals.{then-best-eq0-via-then-best-eq0, then-best-eq0-via-else-best-eq0+then-t-p}

pub returns-then-best-eq0 : goal.returns-then-best-eq0
returns-then-best-eq0 c =
    elim c.then-best-eq0.branch [
      | then-best-eq0-via-then-best-eq0 w ↦ best-first _ _ _ w.if-best-eq0.true
      | then-best-eq0-via-else-best-eq0+then-t-p w ↦ best-elder _ _ _ w.if-best-eq0.false w.if-t-p.true
    ]

pub returns : goal.returns
returns c = best-stays _ _ _ c.if-best-eq0.false c.if-t-p.false
