-- `check_journal::text` is `text_of`.
use Rattle.std.proofs.Common.{refl, rules}
use Rattle.check_journal.specs.Text.{text_of, text-other}
use Rattle.check_journal.proofs.text.Goals as goal

pub returns-in-0 : goal.returns-in-0
unfolding text_of
returns-in-0 c = rw c.in-0.is refl

pub returns-in-15 : goal.returns-in-15
unfolding text_of
returns-in-15 c = rw c.in-15.is refl

pub returns-in-16 : goal.returns-in-16
unfolding text_of
returns-in-16 c = rw c.in-16.is refl

pub returns-in_default : goal.returns-in_default
returns-in_default c = text-other _ (search rules) (search rules) (search rules)
