use mathlib.Core.Path.{sym, ◌∙◌}
use native.Mathlib.Omega.{arith}
use Rattle.std.proofs.lemmas.Result.{err_from_is_err_and}
use Rattle.sound.specs.Sound.{first_fault}
use Rattle.sound.specs.Sizes.{sizes-has}
use Rattle.sound.proofs.Turns.{first-broken, first-orders, first-asked, first-none}
use Rattle.sound.proofs.first_fault.Goals as goal

pub returns-then-not-sizes_ok : goal.returns-then-not-sizes_ok
unfolding first_fault
returns-then-not-sizes_ok c = simp (sym c.sizes_ok.ensures ∙ c.if-not-sizes_ok.true)

pub entries-m-requires : goal.entries-m-requires
entries-m-requires c = let h = (sizes-has _ (sym c.sizes_ok.ensures ∙ c.if-not-sizes_ok.false)).inside in omega arith

pub records-r-requires : goal.records-r-requires
records-r-requires c = let h = (sizes-has _ (sym c.sizes_ok.ensures ∙ c.if-not-sizes_ok.false)).inside in omega arith

pub invariant_of-fault_in : goal.invariant_of-fault_in
invariant_of-fault_in c =
    record { inside = rw (c.entries-m.ensures, c.records-r.ensures) (sizes-has _ (sym c.sizes_ok.ensures ∙ c.if-not-sizes_ok.false)) }

pub returns-in_err-free : goal.returns-in_err-free
returns-in_err-free c =
    let p = err_from_is_err_and c.from_residual.result c.from_residual.ensures.1 in
    rw (p.1, p.2) (first-broken _ _ c.entries-m.ensures c.records-r.ensures (sym c.sizes_ok.ensures ∙ c.if-not-sizes_ok.false) _ c.in_err-free.ensures)

pub returns-then-not-distinct : goal.returns-then-not-distinct
returns-then-not-distinct c = first-orders _ _ c.entries-m.ensures c.records-r.ensures (sym c.sizes_ok.ensures ∙ c.if-not-sizes_ok.false) _ c.in_ok-free.ensures (sym c.distinct.ensures ∙ c.if-not-distinct.true)

pub returns-then-not-marks_ok : goal.returns-then-not-marks_ok
returns-then-not-marks_ok c = first-asked _ _ c.entries-m.ensures c.records-r.ensures (sym c.sizes_ok.ensures ∙ c.if-not-sizes_ok.false) _ c.in_ok-free.ensures (sym c.distinct.ensures ∙ c.if-not-distinct.false) (sym c.marks_ok.ensures ∙ c.if-not-marks_ok.true)

pub returns : goal.returns
returns c = first-none _ _ c.entries-m.ensures c.records-r.ensures (sym c.sizes_ok.ensures ∙ c.if-not-sizes_ok.false) _ c.in_ok-free.ensures (sym c.distinct.ensures ∙ c.if-not-distinct.false) (sym c.marks_ok.ensures ∙ c.if-not-marks_ok.false)
