use mathlib.Core.Path.{sym, ◌∙◌, ap}
use native.Mathlib.Omega.{arith}
use Rattle.sessions.specs.Sessions.{numbered}
use Rattle.seniority.specs.Laws.{ranked-begun, ranked-idle}
use Rattle.seniority.proofs.Turns.{earlier-le}
use Rattle.seniority.proofs.ranked.Goals as goal

pub overflow_add-s : goal.overflow_add-s
overflow_add-s c = let h = earlier-le _ _ c.earlier.ensures in record { fits = omega (arith, h) }

pub returns-then-is_begun : goal.returns-then-is_begun
returns-then-is_begun c = ap (λ k. numbered k c.args.s) (let e = c.earlier.ensures in omega (arith, e)) ∙ sym (ranked-begun _ _ (sym c.is_begun.ensures ∙ c.if-is_begun.true))

pub returns-else-is_begun : goal.returns-else-is_begun
returns-else-is_begun c = sym (ranked-idle _ _ (sym c.is_begun.ensures ∙ c.if-is_begun.false))
