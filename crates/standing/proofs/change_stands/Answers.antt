use mathlib.Core.Path.{◌∙◌, refl, sym}
use borrow.Author.Tests.{eq-eqb, ne_eqb, not-false, not-true}
use borrow.Author.Rules.{rules}
use Rattle.marks.specs.Trail.{turned, turned-to}
use Rattle.marks.specs.Steps.{has-entry, entry_in}
use Rattle.standing.specs.Standing.{change_stands}
use Rattle.standing.proofs.change_stands.Goals as goal

-- The proof of `change_stands`.
pub returns-then-s : goal.returns-then-s
unfolding change_stands
returns-then-s c = turned (simp (eq-eqb _ _ c.if-s.true))

pub returns-then-p-eq0 : goal.returns-then-p-eq0
unfolding change_stands
returns-then-p-eq0 c = turned (simp (ne_eqb _ _ c.if-s.false, eq-eqb _ _ c.if-p-eq0.true))

pub returns-then-not-entry_ok : goal.returns-then-not-entry_ok
unfolding change_stands
returns-then-not-entry_ok c = turned (simp (ne_eqb _ _ c.if-s.false, ne_eqb _ _ c.if-p-eq0.false, sym c.entry_ok.ensures ∙ c.if-not-entry_ok.true))

pub entry_word-exclusive-requires : goal.entry_word-exclusive-requires
entry_word-exclusive-requires c = has-entry c.args.records.inside (entry_in _ _ (sym c.entry_ok.ensures ∙ c.if-not-entry_ok.false))

pub returns-then-not-holds_session : goal.returns-then-not-holds_session
unfolding change_stands
returns-then-not-holds_session c = turned (rw (ne_eqb _ _ c.if-s.false, ne_eqb _ _ c.if-p-eq0.false, sym c.entry_ok.ensures ∙ c.if-not-entry_ok.false, sym c.entry_word-exclusive.ensures, sym c.holds_session.ensures ∙ c.if-not-holds_session.true) refl)

pub returns-then-s-2 : goal.returns-then-s-2
unfolding change_stands
returns-then-s-2 c = turned (rw (ne_eqb _ _ c.if-s.false, ne_eqb _ _ c.if-p-eq0.false, sym c.entry_ok.ensures ∙ c.if-not-entry_ok.false, sym c.entry_word-exclusive.ensures, sym c.holds_session.ensures ∙ c.if-not-holds_session.false, ne_eqb _ _ c.if-s-2.true) refl)

pub returns : goal.returns
unfolding change_stands
returns c = turned-to c.count_pin.ensures (rw (ne_eqb _ _ c.if-s.false, ne_eqb _ _ c.if-p-eq0.false, sym c.entry_ok.ensures ∙ c.if-not-entry_ok.false, sym c.entry_word-exclusive.ensures, sym c.holds_session.ensures ∙ c.if-not-holds_session.false, eq-eqb _ _ c.if-s-2.false) refl)
