-- Theorems of specs/Traces: what it defines is there.
use Rattle.std.specs.Prelude.{map}
use Rattle.serial.specs.Calls.{nothing, told, Demand3}
use Rattle.serial.specs.Example.{blank, example}
use Rattle.serial.proofs.ExampleLaws.{example-demand-3}
use Rattle.serial.specs.Traces.{played, turns_of, after, unfinished, recovery}

-- ---- the machine

-- Demand 3 of this run.
unfinished-demand-3 : Demand3 example (told nothing (turns_of unfinished)) (after unfinished)
unfinished-demand-3 = example-demand-3 (turns_of unfinished) (after unfinished) (played (map (λ p. p.0) unfinished) blank)

-- ---- ask and recover

recovery-demand-3 : Demand3 example (told nothing (turns_of recovery)) (after recovery)
recovery-demand-3 = example-demand-3 (turns_of recovery) (after recovery) (played (map (λ p. p.0) recovery) blank)
