use Rattle.std.proofs.Common.{refl}
use Rattle.replay.specs.Feeding.{feeds-read}
use Rattle.replay.proofs.Database.read.Goals as goal

pub returns : goal.returns
returns c = λ first. feeds-read _ _ first _ _ _ _ c.args.self.now.ready _ refl refl
