use Rattle.std.proofs.Common.{ℕ, subst, arith, rules}
use Rattle.journal_lines.specs.Loops.{Going, going_start, going-left, going_on, going-no, going_more, going_end}
use Rattle.journal_lines.specs.Ends.{at-end}
use Rattle.journal_lines.proofs.is_orderly.Goals as goal

pub loop-passed-init : goal.loop-passed-init
loop-passed-init c = subst (λ (left : ℕ). Going c.args.bytes.now left 1) (omega arith) (going_start _ c.requires)

pub returns-then-at-eq0 : goal.returns-then-at-eq0
returns-then-at-eq0 c = going_end c.loop-passed.invariant c.if-at-eq0.true

pub is_in_order-requires : goal.is_in_order-requires
is_in_order-requires c = going_on c.loop-passed.invariant _ c.if-at-eq0.false c.read-r.ensures

pub returns-then-not-is_in_order : goal.returns-then-not-is_in_order
returns-then-not-is_in_order c = going-no c.loop-passed.invariant _ c.if-at-eq0.false c.read-r.ensures _ c.is_in_order.ensures (search rules)

pub loop-passed-preserved : goal.loop-passed-preserved
loop-passed-preserved c =
    subst (λ (left : ℕ). Going c.args.bytes.now left c.read-r.result.next) (omega arith) (going_more c.loop-passed.invariant _ c.if-at-eq0.false c.read-r.ensures _ c.is_in_order.ensures (search rules))

pub returns : goal.returns
returns c = let i = c.loop-passed.invariant in going_end i (at-end _ _ (going-left i) (omega arith))
