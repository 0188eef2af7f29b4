use mathlib.Core.Path.{ap as by_ap}
use mathlib.Core.Bool.{not as negated}
use Rattle.root_entry.specs.Runs.{stay-run, can-drop, drop-run}
use Rattle.root_entry.proofs.drop_lone.Goals as goal

pub drop_root-requires : goal.drop_root-requires
drop_root-requires c = can-drop c.requires c.drops_root.ensures (by_ap negated c.if-drops_root.true)

pub returns-then-drops_root : goal.returns-then-drops_root
returns-then-drops_root c = drop-run _ _ c.drops_root.ensures (by_ap negated c.if-drops_root.true) c.drop_root.ensures

pub returns-else-drops_root : goal.returns-else-drops_root
returns-else-drops_root c = stay-run _ _ c.drops_root.ensures (by_ap negated c.if-drops_root.false)
