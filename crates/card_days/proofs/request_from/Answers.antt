use Rattle.std.proofs.Common.{rules}
use Rattle.card_days.specs.Ways.{write-from, insert-from}
use Rattle.card_days.proofs.request_from.Goals as goal

pub returns-then-j-eq0 : goal.returns-then-j-eq0
returns-then-j-eq0 c = rw (c.from.ensures, c.from-2.ensures, c.from-then-j-eq0.ensures) (write-from _ _ _ _ _ (search rules) (search rules))

pub returns : goal.returns
returns c = rw (c.from.ensures, c.from-2.ensures, c.from-3.ensures, c.from-4.ensures, c.from-5.ensures) (insert-from _ _ _ _ _ (search rules))
