use mathlib.Core.Path.{◌∙◌, refl, sym}
use borrow.Author.Tests.{eq-eqb, ne_eqb}
use borrow.Author.Rules.{rules}
use Rattle.marks.specs.Steps.{has-entry, entry_in}
use Rattle.undo_chains.specs.UndoChains.{undo_ok}
use Rattle.undo_chains.proofs.undo_ok.Goals as goal

pub returns-then-not-entry_ok : goal.returns-then-not-entry_ok
unfolding undo_ok
returns-then-not-entry_ok c = simp (sym c.entry_ok.ensures ∙ c.if-not-entry_ok.true, sym c.undo_entry-entry.ensures)

pub returns-then-not-kind_ok : goal.returns-then-not-kind_ok
unfolding undo_ok
returns-then-not-kind_ok c = simp (sym c.entry_ok.ensures ∙ c.if-not-entry_ok.false, sym c.kind_ok.ensures ∙ c.if-not-kind_ok.true, sym c.undo_kind-kind.ensures, sym c.undo_entry-entry.ensures)

pub entry_word-exclusive-requires : goal.entry_word-exclusive-requires
entry_word-exclusive-requires c = has-entry c.args.records.inside (entry_in _ _ (sym c.entry_ok.ensures ∙ c.if-not-entry_ok.false))

pub returns-then-not-holds_session : goal.returns-then-not-holds_session
unfolding undo_ok
returns-then-not-holds_session c = rw (sym c.undo_entry-entry.ensures, sym c.undo_kind-kind.ensures, sym c.entry_ok.ensures ∙ c.if-not-entry_ok.false, sym c.kind_ok.ensures ∙ c.if-not-kind_ok.false, sym c.entry_word-exclusive.ensures, sym c.holds_session.ensures ∙ c.if-not-holds_session.true) refl

pub returns-then-kind-eq-VALUE : goal.returns-then-kind-eq-VALUE
unfolding undo_ok
returns-then-kind-eq-VALUE c = rw (sym c.undo_entry-entry.ensures, sym c.undo_kind-kind.ensures, sym c.entry_ok.ensures ∙ c.if-not-entry_ok.false, sym c.kind_ok.ensures ∙ c.if-not-kind_ok.false, sym c.entry_word-exclusive.ensures, sym c.holds_session.ensures ∙ c.if-not-holds_session.false, eq-eqb _ _ c.if-kind-eq-VALUE.true) refl

pub returns : goal.returns
unfolding undo_ok
returns c = rw (sym c.undo_entry-entry.ensures, sym c.undo_kind-kind.ensures, sym c.entry_ok.ensures ∙ c.if-not-entry_ok.false, sym c.kind_ok.ensures ∙ c.if-not-kind_ok.false, sym c.entry_word-exclusive.ensures, sym c.holds_session.ensures ∙ c.if-not-holds_session.false, ne_eqb _ _ c.if-kind-eq-VALUE.false, sym c.undo_descriptor-d.ensures, sym c.group_held.ensures) refl
