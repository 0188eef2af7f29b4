use Rattle.day_calls.specs.Ways.{number-entry, number-many, number-driver, number-high, number-start, number-none}
use borrow.Author.Rules.{rules}
use Rattle.day_calls.proofs.check_numbers.Goals as goal

pub returns-then-entry-eq0 : goal.returns-then-entry-eq0
returns-then-entry-eq0 c = number-entry c.args.m c.args.n c.args.driver c.args.start c.args.entry (search rules)

pub returns-then-m-entry : goal.returns-then-m-entry
returns-then-m-entry c = number-many c.args.m c.args.n c.args.driver c.args.start c.args.entry (search rules) (search rules)

pub returns-then-driver-eq0 : goal.returns-then-driver-eq0
returns-then-driver-eq0 c = number-driver c.args.m c.args.n c.args.driver c.args.start c.args.entry (search rules) (search rules) (search rules)

pub returns-then-driver-gt-DRIVERS : goal.returns-then-driver-gt-DRIVERS
returns-then-driver-gt-DRIVERS c = number-high c.args.m c.args.n c.args.driver c.args.start c.args.entry (search rules) (search rules) (search rules) (search rules)

pub returns-then-start-gt-LATEST : goal.returns-then-start-gt-LATEST
returns-then-start-gt-LATEST c = number-start c.args.m c.args.n c.args.driver c.args.start c.args.entry (search rules) (search rules) (search rules) (search rules) (search rules)

pub returns : goal.returns
returns c = number-none c.args.m c.args.n c.args.driver c.args.start c.args.entry (search rules) (search rules) (search rules) (search rules) (search rules)
