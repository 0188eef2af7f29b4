-- Theorems that rest on theorems of specs/: the rest of specs/Blocking.antt.
use Rattle.std.specs.Prelude.{◌≡◌, true, [], ◌↔◌, ◌⊎◌, zero, suc, ◌≤◌, ℕ, length}
use Rattle.std.proofs.Math.Path.{refl}
use Rattle.std.proofs.Common.{sym, ◌∙◌, subst, ap, inl, inr}
use Rattle.std.proofs.Math.Decide.{ℕ_discrete}
use Rattle.serial.specs.Serial.{true≢false}
use Rattle.serial.specs.Locks.{Kind, Mode, lock_rule}
use Rattle.serial.specs.Locks as L
use Rattle.machine.specs.Holders.{blockers, elem}
use Rattle.machine.specs.Tree.{Seg}
use Rattle.machine.specs.State.{Desc, Tree, Request, State, entry_of}
use Rattle.machine.specs.Descent.{Sons, pick_pair, sons_of}
use Rattle.machine.specs.Steps.{entry_blockers, group_blockers, level_blockers, son-at}
use Rattle.machine.specs.InTheWay.{Son, Neighbour, Involved, Free}
use Rattle.machine.specs.Blocking.{Blocks, blocks, Agrees, none-agree, son-hit, son-found, words_of, pair_found, level-blocks}

-- ---- long locks

-- The guards of reads, writes and first steps; of changes and locates.
pub entry-blocks : (m : Mode) (p : ℕ) (r : Request) (s : State) (q : ℕ)
    → (elem q (entry_blockers m p r s) ≡ true) ↔ Blocks L.entry m p (entry_of r.entry s).share (entry_of r.entry s).exclusive q
unfolding entry_blockers
entry-blocks m p r s q = blocks L.entry m p (entry_of r.entry s).share (entry_of r.entry s).exclusive q

pub group-blocks : (m : Mode) (p : ℕ) (d : Desc) (q : ℕ) → (elem q (group_blockers m p d) ≡ true) ↔ Blocks L.group m p d.locate d.update q
unfolding group_blockers
group-blocks m p d q = blocks L.group m p d.locate d.update q

pub unblocked : (k : Kind) (m : Mode) (p hw hs : ℕ) → blockers lock_rule k m p hw hs ≡ [] → (q : ℕ) → Agrees k m p hw hs q
unblocked k m p hw hs e q = none-agree k m p hw hs q (λ h. true≢false (sym (ap (elem q) e) ∙ (blocks k m p hw hs q).1 h) refl)

pub group-free : (m : Mode) (p : ℕ) (d : Desc) → group_blockers m p d ≡ [] → (q : ℕ) → Agrees L.group m p d.locate d.update q
group-free m p d e q = none-agree L.group m p d.locate d.update q (λ h. true≢false (sym (ap (elem q) e) ∙ (group-blocks m p d q).1 h) refl)

-- ---- one level down

module _ (Q : (h : ℕ) → ℕ → ℕ → Tree (suc h) → Type 0) (le : (h l u : ℕ) (a : Tree (suc h)) → Q h l u a → l ≤ suc u) where
  -- Nobody in the way: the nodes that take part have no latch, or the party's own.
  module _ (p x h lo e : ℕ) (es : Sons (suc h)) (s : Seg (Q h) lo e es) (n : p ≡ 0 → ¬ (length es ≡ 1)) (nobody : level_blockers p x h es (son-at x h es) ≡ []) where
    involved-free : (t : Tree (suc h)) → Involved p x h es t → Free p t.latch
    involved-free t I = go t.latch refl
      where
        go : (w : ℕ) → t.latch ≡ w → Free p w
        go zero i = inl refl
        go (suc q) i = at (ℕ_discrete q p)
          where
            at : Dec (q ≡ p) → Free p (suc q)
            at (yes j) = inr (ap suc j)
            at (no j) = absurd (true≢false ((level-blocks Q le p x h lo e es s n q).1 (j, (t, I, i))) (ap (elem q) nobody))

    pub son-free : Free p (son-at x h es).latch
    son-free = go (son-at x h es).latch refl
      where
        go : (w : ℕ) → (son-at x h es).latch ≡ w → Free p w
        go zero i = inl refl
        go (suc q) i = let S = son-found x h q es i in subst (Free p) i (involved-free (son-at x h es) (S, inl (son-hit x h es S)))

    pub pair-free : p ≡ 0 → sons_of (son-at x h es) ≡ 3 → (w : ℕ) → elem w (pick_pair x [] (words_of h) es) ≡ true → Free p w
    pair-free z three w i = let o = pair_found Q le x h w lo e es s i in subst (Free p) o.2 (involved-free o.1 (o.0, which o.0 o.1 o.3))
      where
        which : (S : Son x es) (t : Tree (suc h)) → (t ≡ S.son) ⊎ Neighbour S t → (t ≡ S.son) ⊎ ((p ≡ 0) × (sons_of S.son ≡ 3) × Neighbour S t)
        which S t (inl j) = inl j
        which S t (inr j) = inr (z, ap (λ y. sons_of y) (sym (son-hit x h es S)) ∙ three, j)
