use Rattle.std.proofs.Common.{ℕ, subst, arith, rules}
use Rattle.journal_lines.specs.Loops.{Reading, reading-start, reading-end, reading-out, reading-long, reading-no, reading-more}
use Rattle.journal_lines.specs.Ends.{tells-end}
use Rattle.journal_lines.proofs.are_lines.Goals as goal

pub loop-passed-init : goal.loop-passed-init
loop-passed-init c = subst (λ (left : ℕ). Reading c.args.bytes.now left 1) (omega arith) (reading-start _)

pub returns-then-at-eq0 : goal.returns-then-at-eq0
returns-then-at-eq0 c = reading-end c.loop-passed.invariant c.if-at-eq0.true

pub returns-then-records-at : goal.returns-then-records-at
returns-then-records-at c = reading-out c.loop-passed.invariant c.if-at-eq0.false (search rules)

pub returns-then-not-is_list : goal.returns-then-not-is_list
returns-then-not-is_list c = reading-no c.loop-passed.invariant _ _ c.if-at-eq0.false (search rules) (omega arith) c.read-r.ensures c.is_list.ensures (search rules)

pub loop-passed-preserved : goal.loop-passed-preserved
loop-passed-preserved c =
    subst (λ (left : ℕ). Reading c.args.bytes.now left c.read-r.result.next) (omega arith)
    (reading-more c.loop-passed.invariant _ _ c.if-at-eq0.false (search rules) (omega arith) c.read-r.ensures c.is_list.ensures (search rules))

pub returns : goal.returns
returns c = let i = c.loop-passed.invariant in tells-end _ (reading-end i) (λ n. reading-long i n (omega arith))
