-- Theorems of specs/OneUndone: what it defines is there.
use Rattle.std.specs.Prelude.{◌≡◌, refl, List, ◌∷◌, map, ℕ, zero, suc, ◌≤◌}
use Rattle.std.proofs.Common.{subst, ◌∙◌, arith}
use Rattle.words.specs.Store.{word_of}
use Rattle.sessions.specs.declared.Session.{Session}
use Rattle.sessions.specs.Sessions.{session_at}
use Rattle.machine.specs.Holders.{width}
use Rattle.machine.specs.State.{Undo, value, added, taken}
use Rattle.machine.specs.Sound as S
use Rattle.machine.specs.Sound.{cells, Undoable}
use Rattle.meaning.specs.Reading.{M-of}
use Rattle.layout.specs.Layout.{Lay, Undone, leaves_in, means, Holds, Named, NamedAs, lists_in}
use Rattle.layout.specs.Ordering.{Rising, key_in, rising-of}
use Rattle.layout.specs.Room.{Sizes}
use Rattle.undo_log.specs.Undoing.{undo_one}
use Rattle.undoing.specs.Rows.{with_undo, entry_in, AptAs, Apt, OthersOff, Onward, mine-named}
use Rattle.undoing.specs.OneUndone.{mine, cell-some, cell-none}
use Rattle.undoing.proofs.ValueUndone.{value_row}
use Rattle.undoing.proofs.GroupUndone.{added-row, taken-row}

pub undo-one-row : (s : List ℕ) (t : List Session) (L : Lay) → Holds s t L → Rising L → Sizes L → (p : ℕ) → 1 ≤ p → p ≤ width → (u : Undone) (us : List Undone) → L.undos p ≡ u ∷ us
    → Apt L u → OthersOff L p (entry_in u.undo) → Onward s t L p u us (undo_one s (M-of s) u.num) (with_undo (session_at t p) (word_of s (M-of s) u.num 0))
undo-one-row s t L H O Z p least party u us chain apt off = go u.undo refl apt off
  where
    names : (x : Undo) → u.undo ≡ x → NamedAs (leaves_in L) (Named (leaves_in L) us) (lists_in L) u.num u.saved u.descriptor x
    names x w = subst (NamedAs (leaves_in L) (Named (leaves_in L) us) (lists_in L) u.num u.saved u.descriptor) w (mine-named s t L H Z p least party u us chain)

    go : (x : Undo) → u.undo ≡ x → AptAs L u.saved u.descriptor x → OthersOff L p (entry_in x)
        → Onward s t L p u us (undo_one s (M-of s) u.num) (with_undo (session_at t p) (word_of s (M-of s) u.num 0))
    go (value zero v) w apt off = absurd (omega (arith, apt.0))
    go (value (suc j) v) w apt off = value_row s t L H O Z p least party u us chain j v w apt.1
    go (added e k) w apt off = added-row s t L H O Z p least party u us chain k (key_in L O k u.descriptor (names (added e k) w).0) e w apt off
    go (taken e k) w apt off = taken-row s t L H O Z p least party u us chain k (key_in L O k u.descriptor (names (taken e k) w).0) e w apt off

-- ---- from a sound state

module _ (s : List ℕ) (t : List Session) (L : Lay) (H : Holds s t L) (A : S.Sound (means L t)) where
  module _ (p : ℕ) (least : 1 ≤ p) (party : p ≤ width) (u : Undone) (us : List Undone) (chain : L.undos p ≡ u ∷ us) (Z : Sizes L) where
    pub sound-apt : Apt L u
    unfolding means
    sound-apt = go u.undo (mine s t L H A p least party u us chain Z) (mine-named s t L H Z p least party u us chain)
      where
        O : Rising L
        O = rising-of L t A

        go : (x : Undo) → Undoable p (means L t) (x ∷ map (λ y. y.undo) us) (cells (means L t))
            → NamedAs (leaves_in L) (Named (leaves_in L) us) (lists_in L) u.num u.saved u.descriptor x → AptAs L u.saved u.descriptor x
        go (value e v) w n = w.1
        go (added e k) w n = λ z. cell-some s t L H k u.descriptor (key_in L O k u.descriptor n.0) e w.1 (n.1 ∙ z)
        go (taken e k) w n = cell-none s t L H k u.descriptor (key_in L O k u.descriptor n.0) e w.1
