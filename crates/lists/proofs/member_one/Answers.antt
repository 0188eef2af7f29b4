use mathlib.Core.Path.{◌∙◌, sym}
use native.Mathlib.Omega.{arith}
use borrow.Author.Tests.{eq-eqb, ne_eqb}
use Rattle.marks.specs.Trail.{turned, turned-to}
use Rattle.marks.specs.Steps.{entry_in}
use Rattle.lists.specs.Lists.{member_one}
use Rattle.lists.proofs.member_one.Goals as goal

pub returns-then-named-before : goal.returns-then-named-before
unfolding member_one
returns-then-named-before c = turned (simp (ne_eqb _ _ c.if-named-before.true, sym c.membership_before-named.ensures))

pub returns-then-not-entry_ok : goal.returns-then-not-entry_ok
unfolding member_one
returns-then-not-entry_ok c = turned (simp (eq-eqb _ _ c.if-named-before.false, sym c.entry_ok.ensures ∙ c.if-not-entry_ok.true, sym c.membership_entry-entry.ensures, sym c.membership_before-named.ensures))

pub list_entry-requires : goal.list_entry-requires
list_entry-requires c = let k = entry_in _ _ (sym c.entry_ok.ensures ∙ c.if-not-entry_ok.false) in let h = c.requires.0.entries in (c.requires.1, c.requires.2, omega arith, c.requires.0.last)

pub returns : goal.returns
unfolding member_one
returns c = turned-to c.list_entry.ensures (simp (eq-eqb _ _ c.if-named-before.false, sym c.entry_ok.ensures ∙ c.if-not-entry_ok.false, sym c.membership_before-named.ensures, sym c.membership_entry-entry.ensures))
