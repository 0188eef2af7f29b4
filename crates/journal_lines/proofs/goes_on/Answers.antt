use Rattle.std.proofs.Common.{ℕ, refl, subst, arith, rules}
use Rattle.journal_lines.specs.Loops.{Seeking, seeking-left, seeking-found, seeking-more, seeking-end}
use Rattle.journal_lines.specs.Ends.{at-end}
use Rattle.journal_lines.proofs.goes_on.Goals as goal

pub loop-passed-init : goal.loop-passed-init
loop-passed-init c =
    subst (λ (left : ℕ). Seeking c.args.bytes.now c.args.many c.args.start c.args.run left c.args.start) (omega arith) (record { readable = search rules; is = refl })

pub returns-then-at-eq0 : goal.returns-then-at-eq0
returns-then-at-eq0 c = seeking-end c.loop-passed.invariant c.if-at-eq0.true

pub returns-then-r-run : goal.returns-then-r-run
returns-then-r-run c = seeking-found c.loop-passed.invariant _ c.if-at-eq0.false c.read-r.ensures c.if-r-run.true

pub loop-passed-preserved : goal.loop-passed-preserved
loop-passed-preserved c =
    subst (λ (left : ℕ). Seeking c.args.bytes.now c.args.many c.args.start c.args.run left c.read-r.result.next) (omega arith) (seeking-more c.loop-passed.invariant _ c.if-at-eq0.false c.read-r.ensures c.if-r-run.false)

pub returns : goal.returns
returns c = let i = c.loop-passed.invariant in seeking-end i (at-end _ _ (seeking-left i) (omega arith))
