use mathlib.Core.Path.{sym}
use borrow.Author.Tests.{eq-eqb, le-leb, lt-leb, ne_eqb}
use Rattle.undo_chains.specs.UndoChains.{file_undo}
use Rattle.undo_chains.proofs.file_undo.Goals as goal

pub returns-then-undo_kind-eq-VALUE : goal.returns-then-undo_kind-eq-VALUE
unfolding file_undo
returns-then-undo_kind-eq-VALUE c = simp (eq-eqb _ _ c.if-undo_kind-eq-VALUE.true, sym c.undo_kind.ensures)

pub returns-then-d-gt4096 : goal.returns-then-d-gt4096
unfolding file_undo
returns-then-d-gt4096 c = simp (ne_eqb _ _ c.if-undo_kind-eq-VALUE.false, lt-leb _ _ c.if-d-gt4096.true, sym c.undo_descriptor-d.ensures, sym c.undo_kind.ensures)

pub returns : goal.returns
unfolding file_undo
returns c = simp (ne_eqb _ _ c.if-undo_kind-eq-VALUE.false, le-leb _ _ c.if-d-gt4096.false, sym c.append.ensures, sym c.undo_descriptor-d.ensures, sym c.undo_kind.ensures)
