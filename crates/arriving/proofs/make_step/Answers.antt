use mathlib.Core.Path.{sym, ◌∙◌}
use Rattle.arriving.specs.Runs.{full-run, make-full, make-makes}
use Rattle.arriving.proofs.make_step.Goals as goal

pub refuse_request-requires : goal.refuse_request-requires
refuse_request-requires c = c.requires.full (sym c.free.ensures ∙ c.if-free-eq0.true)

pub returns-then-free-eq0 : goal.returns-then-free-eq0
returns-then-free-eq0 c = make-full _ _ _ _ _ c.free.ensures c.if-free-eq0.true (full-run _ _ _ c.refuse_request.ensures)

pub made_step-requires : goal.made_step-requires
made_step-requires c = c.requires.makes (λ e. c.if-free-eq0.false (c.free.ensures ∙ e))

pub returns : goal.returns
returns c = make-makes _ _ _ _ _ c.free.ensures c.if-free-eq0.false c.made_step.ensures
