use mathlib.Core.Path.{◌∙◌}
use native.Mathlib.Omega.{arith}
use Rattle.asking.specs.Asks.{at_rest, at_words}
use borrow.Author.Rules.{rules}
use Rattle.asking.proofs.asking_of.Reads as asking-of-reads
use Rattle.asking.proofs.asking_at.Goals as goal

pub returns-then-asks-at-lt-WORDS : goal.returns-then-asks-at-lt-WORDS
returns-then-asks-at-lt-WORDS c = at_rest _ _ (omega arith)

pub returns : goal.returns
returns c = c.asking_of.ensures ∙ at_words _ _ (omega arith)
