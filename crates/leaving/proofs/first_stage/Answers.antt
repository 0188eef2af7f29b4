use native.Mathlib.Omega.{arith}
use Rattle.leaving.specs.Words.{aim-locate, aim-tidy, aim-start}
use Rattle.leaving.proofs.first_stage.Goals as goal

pub returns-in-5 : goal.returns-in-5
returns-in-5 c = aim-locate _ _ _ _ c.in-5.is

pub returns-in-6 : goal.returns-in-6
returns-in-6 c = aim-tidy _ _ _ _ c.in-6.is c.tidy_aim.ensures

pub returns-in-0-to-4 : goal.returns-in-0-to-4
returns-in-0-to-4 c = aim-start _ _ _ _ (omega arith) (omega arith)
