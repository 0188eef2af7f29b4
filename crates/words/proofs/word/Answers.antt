use Rattle.words.specs.Store.{word-place}
use mathlib.Core.Path.{sym}
use borrow.Author.Rules.{rules}
use Rattle.words.proofs.word.Goals as goal

pub returns : goal.returns
returns c = rw c.base.ensures (sym (word-place _ _ _ _ (search rules)))
