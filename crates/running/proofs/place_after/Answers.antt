use mathlib.Core.Path.{ap as by_ap}
use mathlib.Core.Bool.{not as negated}
use Rattle.running.specs.Scans.{place_none, place-some}
use borrow.Author.Rules.{rules}
use Rattle.running.proofs.place_after.Goals as goal

pub returns-then-not-is_more : goal.returns-then-not-is_more
returns-then-not-is_more c = place_none _ _ _ c.args.a c.is_more.ensures (by_ap negated c.if-not-is_more.true)

pub returns : goal.returns
returns c = place-some _ _ _ c.args.a c.is_more.ensures (by_ap negated c.if-not-is_more.false) c.descriptor_next.ensures
