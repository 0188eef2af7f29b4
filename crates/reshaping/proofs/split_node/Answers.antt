use mathlib.Core.Path.{refl}
use Rattle.words.specs.Window.{words_at}
use Rattle.reshaping.specs.Ops.{split_node}
use Rattle.reshaping.proofs.split_node.Goals as goal

pub returns : goal.returns
unfolding split_node words_at
returns c = refl
