-- The two turns of a walk along a chain of undo records.
use mathlib.Core.Path.{◌≡◌}
use mathlib.Core.List.{List}
use mathlib.Core.Bool.{true, false}
use Prim.Native.Nat.{ℕ}
use Rattle.marks.specs.Trail.{turn}
use Rattle.undo_chains.specs.UndoChains.{undo_ok, file_undo, undo_turn}

module _ (s : List ℕ) (m r p : ℕ) (seen f : List ℕ) (i : ℕ) where
  pub turn-bad : undo_ok s seen m r p i ≡ false → undo_turn s m r p seen f i ≡ turn false f
  unfolding undo_turn
  turn-bad e = simp e

  pub turn-good : {g : List ℕ} → undo_ok s seen m r p i ≡ true → g ≡ file_undo s f m i → undo_turn s m r p seen f i ≡ turn true g
  unfolding undo_turn
  turn-good e q = simp (e, q)
