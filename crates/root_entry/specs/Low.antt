-- The tree of a sound store has at most 8 levels of nodes.
use Rattle.std.specs.Prelude.{◌≤◌, ℕ, List}
use Rattle.std.proofs.Common.{arith}
use Rattle.sessions.specs.declared.Session.{Session}
use Rattle.machine.specs.State.{top}
use Rattle.machine.specs.Sound as S
use Rattle.meaning.specs.Heights.{height-low}
use Rattle.layout.specs.Layout.{Lay, Holds, means}
use Rattle.layout.specs.Short.{tree-short}
use Rattle.layout.specs.Room.{sizes-of}

pub low-tree : (s : List ℕ) (t : List Session) (L : Lay) → Holds s t L → S.Sound (means L t) → L.height ≤ 7
unfolding means
low-tree s t L H A = height-low L.height 0 top L.tree A.shaped (omega (arith, tree-short L H.owned, (sizes-of L t A).most))
