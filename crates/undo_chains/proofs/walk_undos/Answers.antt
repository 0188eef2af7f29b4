use mathlib.Core.Path.{refl, sym, ◌∙◌}
use Rattle.std.proofs.lemmas.Result.{err_from_is_err_and}
use borrow.Author.Rules.{rules}
use Rattle.marks.specs.Trail.{go-end, go-stop, go-bad, go-more}
use Rattle.undo_chains.specs.UndoChains.{undos_from}
use Rattle.undo_chains.proofs.Turns.{turn-bad, turn-good}
use Rattle.undo_chains.proofs.walk_undos.Goals as goal

pub loop-i-init : goal.loop-i-init
unfolding undos_from
loop-i-init c = (refl, refl, record { is = refl })

pub returns : goal.returns
returns c = go-end c.loop-i.invariant.2 c.loop-i-test.false

pub returns-in_err-more : goal.returns-in_err-more
returns-in_err-more c =
    let p = err_from_is_err_and c.from_residual.result c.from_residual.ensures.1 in
    rw (p.1, p.2) (go-stop c.loop-i.invariant.2 c.loop-i-test.true c.meet.ensures c.in_err-more.was)

pub returns-then-not-undo_ok : goal.returns-then-not-undo_ok
returns-then-not-undo_ok c = go-bad c.loop-i.invariant.2 c.loop-i-test.true c.meet.ensures c.in_ok-more.was (turn-bad _ _ _ _ _ _ _ (sym c.undo_ok.ensures ∙ c.if-not-undo_ok.true))

pub loop-i-preserved : goal.loop-i-preserved
loop-i-preserved c = (search rules, search rules, go-more c.loop-i.invariant.2 c.loop-i-test.true c.meet.ensures c.in_ok-more.was (turn-good _ _ _ _ _ _ _ (sym c.undo_ok.ensures ∙ c.if-not-undo_ok.false) c.file_undo.ensures) c.undo_next-i.ensures)
