use mathlib.Core.Path.{◌∙◌, sym}
use native.Mathlib.Omega.{arith}
use borrow.Author.Tests.{eq-eqb, ne_eqb}
use Rattle.marks.specs.Trail.{turned, turned-to}
use Rattle.marks.specs.Steps.{entry_in}
use Rattle.lists.specs.Lists.{undo_one}
use Rattle.lists.proofs.undo_one.Goals as goal

pub returns-then-not-entry_ok : goal.returns-then-not-entry_ok
unfolding undo_one
returns-then-not-entry_ok c = turned (simp (sym c.entry_ok.ensures ∙ c.if-not-entry_ok.true, sym c.undo_entry-entry.ensures))

pub unlist_entry-requires : goal.unlist_entry-requires
unlist_entry-requires c = let k = entry_in _ _ (sym c.entry_ok.ensures ∙ c.if-not-entry_ok.false) in let h = c.requires.0.entries in (c.requires.1, omega arith)

pub returns-then-undo_kind-eq-ADDED : goal.returns-then-undo_kind-eq-ADDED
unfolding undo_one
returns-then-undo_kind-eq-ADDED c = turned-to c.unlist_entry.ensures (simp (sym c.entry_ok.ensures ∙ c.if-not-entry_ok.false, eq-eqb _ _ c.if-undo_kind-eq-ADDED.true, sym c.undo_entry-entry.ensures, sym c.undo_kind.ensures, sym c.undo_saved-place.ensures))

pub list_entry-requires : goal.list_entry-requires
list_entry-requires c = let k = entry_in _ _ (sym c.entry_ok.ensures ∙ c.if-not-entry_ok.false) in let h = c.requires.0.entries in (c.requires.1, c.requires.2, omega arith, c.requires.0.last)

pub returns : goal.returns
unfolding undo_one
returns c = turned-to c.list_entry.ensures (simp (sym c.entry_ok.ensures ∙ c.if-not-entry_ok.false, ne_eqb _ _ c.if-undo_kind-eq-ADDED.false, sym c.undo_entry-entry.ensures, sym c.undo_kind.ensures))
