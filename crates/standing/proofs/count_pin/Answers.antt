use mathlib.Core.Path.{◌∙◌, sym}
use native.Mathlib.Omega.{arith}
use borrow.Author.Tests.{eq-eqb, ne_eqb, not-false, not-true}
use borrow.Author.Rules.{rules}
use Rattle.marks.specs.Trail.{turned}
use Rattle.marks.specs.Steps.{has_one, met-in}
use Rattle.standing.specs.Standing.{pins_in}
use Rattle.standing.proofs.count_pin.Goals as goal

pub returns-then-not-is_met : goal.returns-then-not-is_met
unfolding pins_in
returns-then-not-is_met c = turned (simp (sym c.is_met.ensures ∙ c.if-not-is_met.true))

pub descriptor_key-found-requires : goal.descriptor_key-found-requires
descriptor_key-found-requires c = has_one c.args.records.inside (met-in _ _ _ _ (sym c.is_met.ensures ∙ c.if-not-is_met.false))

pub returns-then-found-key : goal.returns-then-found-key
unfolding pins_in
returns-then-found-key c = turned (simp (sym c.is_met.ensures ∙ c.if-not-is_met.false, ne_eqb _ _ c.if-found-key.true, sym c.descriptor_key-found.ensures))

pub bounds-tally-i : goal.bounds-tally-i
bounds-tally-i c = let k = met-in _ _ _ _ (sym c.is_met.ensures ∙ c.if-not-is_met.false) in let h = c.requires.1 in omega arith

pub bounds-tally-i-2 : goal.bounds-tally-i-2
bounds-tally-i-2 c = let k = met-in _ _ _ _ (sym c.is_met.ensures ∙ c.if-not-is_met.false) in let h = c.requires.1 in omega arith

pub returns : goal.returns
unfolding pins_in
returns c = turned (simp (sym c.is_met.ensures ∙ c.if-not-is_met.false, eq-eqb _ _ c.if-found-key.false, sym c.one_more.ensures, sym c.descriptor_key-found.ensures, sym c.is_met.ensures))
