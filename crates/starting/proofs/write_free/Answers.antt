use mathlib.Core.Path.{◌∙◌}
use Rattle.starting.specs.Runs.{none-run, some-run}
use Rattle.starting.proofs.write_free.Goals as goal

pub returns-then-free-eq0 : goal.returns-then-free-eq0
returns-then-free-eq0 c = none-run _ _ _ _ _ c.free.ensures c.if-free-eq0.true c.idle_session.ensures

pub write_done-requires : goal.write_done-requires
write_done-requires c = record { held = c.requires.held; log = record { header = c.requires.header; first = c.requires.free (λ e. c.if-free-eq0.false (c.free.ensures ∙ e)) } }

pub returns : goal.returns
returns c = some-run _ _ _ _ _ _ c.free.ensures c.if-free-eq0.false c.write_done.ensures
