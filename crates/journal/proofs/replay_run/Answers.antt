use Rattle.std.proofs.Common.{ℕ, refl, subst, arith}
use Rattle.journal_lines.specs.Ends.{at-end}
use Rattle.journal.specs.Loops.{Going, going_start, going-left, going-turn, going-apart, going_more, going_end}
use Rattle.journal.proofs.replay_run.Goals as goal

pub loop-passed-init : goal.loop-passed-init
loop-passed-init c = going_start _ _ _ _ _ _ _ c.requires (omega arith)

pub returns-then-at-eq0 : goal.returns-then-at-eq0
returns-then-at-eq0 c = going_end _ _ _ _ _ _ _ _ _ _ _ _ c.loop-passed.invariant c.if-at-eq0.true

pub turn-requires : goal.turn-requires
turn-requires c = going-turn _ _ _ _ _ _ _ _ _ _ _ _ c.loop-passed.invariant _ c.if-at-eq0.false c.read-r.ensures

pub returns-then-not-turn : goal.returns-then-not-turn
returns-then-not-turn c =
    rw c.if-not-turn.true at
    (going-apart _ _ _ _ _ _ _ _ _ _ _ _ c.loop-passed.invariant _ c.if-at-eq0.false c.read-r.ensures _ _ _ _ c.turn.ensures c.if-not-turn.true)

pub loop-passed-preserved : goal.loop-passed-preserved
loop-passed-preserved c =
    let d = c.args.db.now in
    let e = c.turn.new.db in
    subst (λ (left : ℕ). Going c.args.bytes.now c.args.run d.values d.keys d.entries d.count e.values e.keys e.entries e.count c.read-r.result.next left) (omega arith)
    (going_more _ _ _ _ _ _ _ _ _ _ _ _ c.loop-passed.invariant _ c.if-at-eq0.false c.read-r.ensures _ _ _ _ c.turn.ensures c.if-not-turn.false)

pub returns : goal.returns
returns c =
    let i = c.loop-passed.invariant in
    going_end _ _ _ _ _ _ _ _ _ _ _ _ i (at-end _ _ (λ n. going-left _ _ _ _ _ _ _ _ _ _ _ _ i _ n refl) (omega arith))
