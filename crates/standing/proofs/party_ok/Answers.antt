use mathlib.Core.Path.{◌∙◌, sym}
use borrow.Author.Tests.{eq-eqb, not-false, not-true, ne_eqb}
use borrow.Author.Rules.{rules}
use Rattle.marks.specs.Trail.{turned, turned-to}
use Rattle.standing.specs.Standing.{party_ok}
use Rattle.standing.proofs.party_ok.Goals as goal

pub returns-then-not-request_ok : goal.returns-then-not-request_ok
unfolding party_ok
returns-then-not-request_ok c = turned (simp (sym c.request_ok.ensures ∙ c.if-not-request_ok.true))

pub returns-then-s : goal.returns-then-s
unfolding party_ok
returns-then-s c = turned (simp (sym c.request_ok.ensures ∙ c.if-not-request_ok.false, eq-eqb _ _ c.if-s.true))

pub returns : goal.returns
unfolding party_ok
returns c = turned-to c.stands.ensures (simp (sym c.request_ok.ensures ∙ c.if-not-request_ok.false, ne_eqb _ _ c.if-s.false))
