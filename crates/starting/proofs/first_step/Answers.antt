use mathlib.Core.Path.{refl}
use native.Mathlib.Omega.{arith}
use Rattle.starting.specs.Runs.{read-run, write-run, entry-run, tidied-run}
use Rattle.starting.proofs.first_step.Goals as goal

-- The proof of `first_step`.
pub read_step-requires : goal.read_step-requires
read_step-requires c = c.requires.held (omega (arith, c.in-1.is))

pub returns-in-1 : goal.returns-in-1
returns-in-1 c = read-run _ _ _ _ _ _ c.in-1.is c.read_step.ensures

pub write_step-requires : goal.write_step-requires
write_step-requires c = record { held = c.requires.held (omega (arith, c.in-2.is)); header = c.requires.header; free = c.requires.free }

pub returns-in-2 : goal.returns-in-2
returns-in-2 c = write-run _ _ _ _ _ _ c.in-2.is c.write_step.ensures

pub returns-in-3 : goal.returns-in-3
returns-in-3 c =
    entry-run _ _ _ _ _ _ (omega arith) (omega arith) c.entry_step.ensures

pub returns-in-0 : goal.returns-in-0
returns-in-0 c = tidied-run _ _ _ _ _ _ (omega arith) refl c.tidied_none.ensures
