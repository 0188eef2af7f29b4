use mathlib.Core.Path.{sym, ◌∙◌}
use Rattle.walking.specs.Runs.{free-none, free-some}
use Rattle.walking.specs.Walking.{split_step}
use Rattle.walking.proofs.split_step.Goals as goal

pub refuse_request-requires : goal.refuse_request-requires
refuse_request-requires c =
    c.requires.full (free-none _ _ (sym c.has_free.ensures ∙ c.if-not-has_free.true))

pub returns-then-not-has_free : goal.returns-then-not-has_free
unfolding split_step
returns-then-not-has_free c =
    rw (sym c.has_free.ensures ∙ c.if-not-has_free.true) c.refuse_request.ensures

pub halved_step-requires : goal.halved_step-requires
halved_step-requires c =
    (c.requires.walker, c.requires.split (free-some _ _ (sym c.has_free.ensures ∙ c.if-not-has_free.false)))

pub returns : goal.returns
unfolding split_step
returns c =
    rw (sym c.has_free.ensures ∙ c.if-not-has_free.false) c.halved_step.ensures
