use Rattle.std.proofs.Common.{ap, ◌∙◌, length}
use Rattle.words.specs.Store.{length-record}
use Rattle.kinds.proofs.Record.load.Goals as goal

pub from_words-requires : goal.from_words-requires
from_words-requires g c = ap length c.record_words.ensures ∙ length-record _ _ _
