use Rattle.std.proofs.Common.{ℕ, refl, subst, arith, rules}
use Rattle.journal_lines.specs.Loops.{Chaining, chaining-end, chaining-out, chaining-long, chaining-more}
use Rattle.journal_lines.specs.Ends.{tells-end}
use Rattle.journal_lines.proofs.is_chain.Goals as goal

pub loop-passed-init : goal.loop-passed-init
loop-passed-init c = subst (λ (left : ℕ). Chaining c.args.bytes.now c.args.start left c.args.start) (omega arith) (record { is = refl })

pub returns-then-at-eq0 : goal.returns-then-at-eq0
returns-then-at-eq0 c = chaining-end c.loop-passed.invariant c.if-at-eq0.true

pub returns-then-records-at : goal.returns-then-records-at
returns-then-records-at c = chaining-out c.loop-passed.invariant c.if-at-eq0.false (search rules)

pub loop-passed-preserved : goal.loop-passed-preserved
loop-passed-preserved c =
    subst (λ (left : ℕ). Chaining c.args.bytes.now c.args.start left c.follow-at.result) (omega arith) (chaining-more c.loop-passed.invariant _ c.if-at-eq0.false (search rules) (omega arith) c.follow-at.ensures)

pub returns : goal.returns
returns c = let i = c.loop-passed.invariant in tells-end _ (chaining-end i) (λ n. chaining-long i n (omega arith))
