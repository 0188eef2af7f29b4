use Rattle.std.proofs.Common.{ap, ◌∙◌}
use Rattle.sessions.specs.declared.Session.{Session}
use Rattle.arriving.specs.Arriving.{staged}
use Rattle.arriving.specs.Runs.{take_same, take-other}
use Rattle.arriving.proofs.to_take.Goals as goal
use Rattle.arriving.proofs.to_take.Goals.{then-x, else-x}

pub returns : goal.returns
returns c =
    elim c.if-x.branch [
      | then-x w ↦ ap (λ (y : Session). staged y 5 y.target y.low y.high 0) w.x-is ∙ take_same _ _ w.if-x.true
      | else-x w ↦ ap (λ (y : Session). staged y 5 y.target y.low y.high 0) w.x-is ∙ take-other _ _ w.if-x.false
    ]
