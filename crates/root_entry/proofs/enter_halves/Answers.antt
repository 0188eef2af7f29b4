use native.Mathlib.Omega.{arith}
use Rattle.root_entry.specs.Runs.{split-run, half-small}
use Rattle.root_entry.proofs.enter_halves.Goals as goal

pub overflow_cast-half : goal.overflow_cast-half
overflow_cast-half c = let h = half-small _ _ _ c.requires.0 c.split_root-half.ensures.0 in omega (arith, h)

pub returns : goal.returns
returns c = split-run _ _ _ _ c.height-height.ensures c.split_root-half.ensures c.stand.ensures
