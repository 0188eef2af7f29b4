use Prim.Native.Nat.{ℕ}
use mathlib.Core.Path.{ap, ◌∙◌}
use Rattle.locks.specs.Holders.{first_of, holders}
use Rattle.locks.specs.Blockers.{conflicts-holders}
use Rattle.locks.proofs.lowest_blocker.Goals as goal

pub returns : goal.returns
returns c = c.first_session.ensures ∙ ap (λ (w : ℕ). first_of (holders 32 w)) c.conflicting.ensures ∙ ap first_of (conflicts-holders 32 _ _ _ _ _)
