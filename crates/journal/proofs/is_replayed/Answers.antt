use Rattle.std.proofs.Common.{ℕ, refl, subst, arith, rules}
use Rattle.serial.specs.Model.{empty}
use Rattle.journal_lines.specs.Ends.{at-end}
use Rattle.journal.specs.Loops.{GoingOn, going-on-left, going-on-end}
use Rattle.journal.proofs.Loops.{going-on-new, going-on-close, going-on-apart, going-on-more}
use Rattle.journal.proofs.is_replayed.Goals as goal

pub loop-passed-init : goal.loop-passed-init
loop-passed-init c = going-on-new _ c.new-db.result _ c.requires c.new-db.result.ready c.new-db.ensures.nothing c.new-db.ensures.model (omega arith)

pub returns-then-at-eq0 : goal.returns-then-at-eq0
returns-then-at-eq0 c = going-on-end _ _ _ _ _ _ _ _ c.loop-passed.invariant c.if-at-eq0.true

pub close_run-requires : goal.close_run-requires
close_run-requires c = going-on-close _ _ _ _ _ _ _ _ c.loop-passed.invariant _ c.if-at-eq0.false c.read-r.ensures

pub returns-then-not-close_run : goal.returns-then-not-close_run
returns-then-not-close_run c = going-on-apart _ _ _ _ _ _ _ _ c.loop-passed.invariant _ c.if-at-eq0.false c.read-r.ensures _ _ _ _ c.close_run.ensures (search rules)

pub loop-passed-preserved : goal.loop-passed-preserved
loop-passed-preserved c =
    let e = c.close_run.new.db in
    subst (λ (left : ℕ). GoingOn c.args.bytes.now empty e.values e.keys e.entries e.count c.read-r.result.next left) (omega arith)
    (going-on-more _ _ _ _ _ _ _ _ c.loop-passed.invariant _ c.if-at-eq0.false c.read-r.ensures _ _ _ _ c.close_run.ensures (search rules))

pub returns : goal.returns
returns c =
    let i = c.loop-passed.invariant in
    going-on-end _ _ _ _ _ _ _ _ i (at-end _ _ (λ n. going-on-left _ _ _ _ _ _ _ _ i _ n refl) (omega arith))
