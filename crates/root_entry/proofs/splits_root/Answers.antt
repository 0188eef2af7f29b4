use mathlib.Core.Path.{ap as by_ap, ◌∙◌}
use mathlib.Core.Bool.{not as negated}
use borrow.Author.Tests.{eq-eqb}
use Rattle.root_entry.specs.Runs.{keeper-run, session-run}
use Rattle.root_entry.proofs.splits_root.Goals as goal

pub returns-then-p-ne0 : goal.returns-then-p-ne0
returns-then-p-ne0 c = session-run _ _ _ c.if-p-ne0.true c.entered_node.ensures c.node_count.ensures

pub returns-else-p-ne0 : goal.returns-else-p-ne0
returns-else-p-ne0 c = by_ap negated (eq-eqb _ _ c.if-p-ne0.false) ∙ keeper-run _ _ _ c.if-p-ne0.false
