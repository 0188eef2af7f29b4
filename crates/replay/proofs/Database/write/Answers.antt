use Rattle.std.proofs.Common.{refl}
use Rattle.replay.specs.Feeding.{feeds-write}
use Rattle.replay.proofs.Database.write.Goals as goal

pub returns : goal.returns
returns c = feeds-write _ _ _ _ _ _ _ c.args.self.now.ready _ _ refl c.requires.1 refl refl
