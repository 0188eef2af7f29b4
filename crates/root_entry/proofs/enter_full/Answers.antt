use mathlib.Core.Path.{ap as by_ap}
use mathlib.Core.Bool.{not as negated}
use Rattle.root_entry.specs.Runs.{refused-run, halves_run, ended-run}
use Rattle.root_entry.proofs.enter_full.Goals as goal

pub returns-then-not-enough : goal.returns-then-not-enough
returns-then-not-enough c = refused-run _ _ _ _ _ _ c.has_two-enough.ensures (by_ap negated c.if-not-enough.true) (ended-run _ _ _ c.refuse_request.ensures)

pub returns : goal.returns
returns c = halves_run _ _ _ _ _ _ c.has_two-enough.ensures (by_ap negated c.if-not-enough.false) c.drop_lone.ensures c.enter_halves.ensures
