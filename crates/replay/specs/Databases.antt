-- The logical model in a Database.
use Rattle.std.specs.Prelude.{ℕ}
use Rattle.serial.specs.Model.{Db}
use Rattle.replay.specs.declared.Fed.{Fed}
use Rattle.replay.specs.declared.Database.{Database}
use Rattle.replay.specs.Held.{held, Ready, Feeds}

abbrev pub model_of : Database → Db
model_of d = held d.values d.keys d.entries d.count

abbrev pub IsReady : Database → Type 0
IsReady d = Ready d.values d.keys d.entries d.count

abbrev pub fed_of : ℕ → Database → Fed
fed_of a d = record { answer = a; count = d.count }

-- A request of code 1 to 4 with the answer a.
abbrev pub FeedsTo : ℕ → ℕ → ℕ → Database → ℕ → Database → Type 0
FeedsTo code entry first d a d' = Feeds code entry first d.values d.keys d.entries d.count (fed_of a d') d'.values d'.keys d'.entries
