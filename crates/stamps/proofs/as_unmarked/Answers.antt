use Rattle.std.proofs.Common.{sym, rules}
use Rattle.stamps.specs.Settled.{unmarked-out}
use Rattle.stamps.proofs.Cases.{before-spring, skipped, in-summer, doubled, after-autumn}
use Rattle.stamps.proofs.as_unmarked.Goals as goal

pub returns-then-not-covers : goal.returns-then-not-covers
returns-then-not-covers c = sym (unmarked-out _ (search rules))

pub returns-then-w-s : goal.returns-then-w-s
returns-then-w-s c = before-spring _ (search rules) c.switches_at-s.ensures.0 c.switches_at-s.ensures.1 c.if-w-s.true

pub returns-then-w-s-lt60 : goal.returns-then-w-s-lt60
returns-then-w-s-lt60 c = skipped _ (search rules) c.switches_at-s.ensures.0 c.switches_at-s.ensures.1 c.if-w-s.false c.if-w-s-lt60.true

pub returns-then-w-s-2 : goal.returns-then-w-s-2
returns-then-w-s-2 c = in-summer _ (search rules) c.switches_at-s.ensures.0 c.switches_at-s.ensures.1 c.if-w-s.false c.if-w-s-lt60.false c.if-w-s-2.true

pub returns-then-w-s-lt60-2 : goal.returns-then-w-s-lt60-2
returns-then-w-s-lt60-2 c = doubled _ (search rules) c.switches_at-s.ensures.0 c.switches_at-s.ensures.1 c.if-w-s-2.false c.if-w-s-lt60-2.true

pub returns-else-w-s-lt60-2 : goal.returns-else-w-s-lt60-2
returns-else-w-s-lt60-2 c = after-autumn _ (search rules) c.switches_at-s.ensures.0 c.switches_at-s.ensures.1 c.if-w-s-2.false c.if-w-s-lt60-2.false
