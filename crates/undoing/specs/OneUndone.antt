-- One undo record undone: of any kind; and that a sound state has what is asked.
use Rattle.std.specs.Prelude.{◌≡◌, true, false, List, [], ◌∷◌, map, ℕ, zero, suc, ◌≤◌, ◌<◌, length}
use Rattle.std.proofs.Common.{sym, ap, subst, ◌∙◌, arith}
use Rattle.std.proofs.lemmas.List.{map-append}
use Rattle.words.specs.Store.{word_of}
use Rattle.sessions.specs.declared.Session.{Session}
use Rattle.serial.specs.Locks.{strong}
use Rattle.serial.specs.Locks as K
use Rattle.machine.specs.Holders.{width, elem}
use Rattle.machine.specs.State.{Undo, value, added, taken, session_of}
use Rattle.machine.specs.View.{holders, group_in, seen}
use Rattle.machine.specs.Housekeeping.{lvs}
use Rattle.machine.specs.Keys.{shown-group}
use Rattle.machine.specs.Looks.{excludes-alone}
use Rattle.machine.specs.Sound as S
use Rattle.machine.specs.Sound.{Cells, cells, Undoable}
use Rattle.meaning.specs.Reading.{gather, Leaf, M-of}
use Rattle.meaning.specs.Sound.{All}
use Rattle.meaning.specs.Numbers.{all-as, all_right}
use Rattle.meaning.specs.Lens.{descs, leaves-erase, leaves_before, leaves_behind}
use Rattle.meaning.specs.Grouping.{chained-some}
use Rattle.layout.specs.Layout.{Lay, Undone, leaves_in, firsts, seconds, means, GroupFits, Holds, Named, NamedAs, lists_in, member_of}
use Rattle.layout.specs.Groups.{hole-leaves, left_leaves, right_leaves}
use Rattle.layout.specs.Ordering.{Rising, key_in, rising-of}
use Rattle.layout.specs.Places.{AtKey, session-means}
use Rattle.layout.specs.Room.{Sizes}
use Rattle.grouping.specs.GroupWords.{elem-some, elem-none}
use Rattle.undoing.specs.Rows.{entry_in, AptAs, Apt, Off, OthersOff, mine-named}

-- ---- from a sound state

-- The group of a key, as the layout has it.
pub group_at : (L : Lay) (t : List Session) (k d : ℕ) (A : AtKey L k d) → group_in k (seen (means L t)) ≡ A.leaf.desc.members
group_at L t k d A = shown-group {k = k} {t = means L t} (record {
  A = descs (leaves_before A.around);
  d = A.leaf.desc;
  B = descs (leaves_behind A.around);
  key = A.key;
  low = A.below;
  leaves = lvs-are ∙ ap descs A.was ∙ map-append (λ x. x.desc) (leaves_before A.around) (A.leaf ∷ leaves_behind A.around);
})
  where
    lvs-are : lvs (means L t) ≡ descs (leaves_in L)
    lvs-are = unfold means in (leaves-erase (suc L.height) L.tree)

module _ (s : List ℕ) (t : List Session) (L : Lay) (H : Holds s t L) (k d : ℕ) (A : AtKey L k d) where
  group-fit : GroupFits s (M-of s) (L.members A.leaf.num) A.leaf
  group-fit =
      let Q : Leaf → Type 0 = λ y. GroupFits s (M-of s) (L.members y.num) y in
      (all_right Q (left_leaves A.around) (A.leaf ∷ right_leaves A.around) (subst (All Q) (hole-leaves L H.owned A.around A.leaf A.is) H.fits.groups)).0

  cells_are : (e : ℕ) → cells (means L t) k e ≡ elem e (gather (seconds (L.members A.leaf.num)))
  cells_are e = ap (elem e) (group_at L t k d A ∙ sym group-fit.gathered)

  firsts-one : All (λ j. 1 ≤ j) (firsts (L.members A.leaf.num))
  firsts-one =
      all-as {P = λ j. j ≡ 0 → ⊥} {Q = λ j. 1 ≤ j} (λ j n. omega (arith, n)) (firsts (L.members A.leaf.num))
      (chained-some s (M-of s) (word_of s (M-of s) A.leaf.num 6) (firsts (L.members A.leaf.num)) group-fit.chained)

  pub cell-some : (e : ℕ) → cells (means L t) k e ≡ true → ¬ (member_of e (L.members d) ≡ 0)
  cell-some e c = subst (λ y. ¬ (member_of e (L.members y) ≡ 0)) A.num (elem-some e (L.members A.leaf.num) firsts-one (sym (cells_are e) ∙ c))

  pub cell-none : (e : ℕ) → cells (means L t) k e ≡ false → member_of e (L.members d) ≡ 0
  cell-none e c = subst (λ y. member_of e (L.members y) ≡ 0) A.num (elem-none e (L.members A.leaf.num) (sym (cells_are e) ∙ c))

-- The undo records of a session in the state.
pub undos-means : (L : Lay) (t : List Session) (p : ℕ) → 1 ≤ p → p < length t → (session_of p (means L t)).undos ≡ map (λ y. y.undo) (L.undos p)
undos-means L t zero a l = absurd (omega (arith, a))
undos-means L t (suc p) a l = ap (λ x. x.undos) (session-means L t (suc p) l)

module _ (s : List ℕ) (t : List Session) (L : Lay) (H : Holds s t L) (A : S.Sound (means L t)) where
  undoable-at : (p : ℕ) → 1 ≤ p → p ≤ width → Undoable p (means L t) (map (λ y. y.undo) (L.undos p)) (cells (means L t))
  undoable-at p a b = subst (λ ys. Undoable p (means L t) ys (cells (means L t))) (undos-means L t p a (omega (arith, H.seats, b))) (A.undoable p)

  -- Another session's undo records are not of an entry that p excludes.
  off-from : (p q e : ℕ) → ¬ (q ≡ p) → holders (means L t) K.entry strong p e ≡ true → (ys : List Undone) (c : Cells) → Undoable q (means L t) (map (λ y. y.undo) ys) c
      → All (λ y. Off e y.undo) ys
  off-from p q e n h [] c w = tt
  off-from p q e n h (y ∷ ys) c w = go y.undo w (off-from p q e n h ys)
    where
      apart : (f : ℕ) → holders (means L t) K.entry strong q f ≡ true → ¬ (f ≡ e)
      apart f g z = n (sym (excludes-alone A p q e h (subst (λ x. holders (means L t) K.entry strong q x ≡ true) z g)))

      go : (x : Undo) → Undoable q (means L t) (x ∷ map (λ y. y.undo) ys) c → ((c : Cells) → Undoable q (means L t) (map (λ y. y.undo) ys) c → All (λ y. Off e y.undo) ys)
          → Off e x × All (λ y. Off e y.undo) ys
      go (value f v) w r = (tt, r c w.2)
      go (added f j) w r = (apart f w.0.entry_held, r (S.set_cell j f false c) w.2)
      go (taken f j) w r = (apart f w.0.entry_held, r (S.set_cell j f true c) w.2)

  module _ (p : ℕ) (least : 1 ≤ p) (party : p ≤ width) (u : Undone) (us : List Undone) (chain : L.undos p ≡ u ∷ us) (Z : Sizes L) where
    pub mine : Undoable p (means L t) (u.undo ∷ map (λ y. y.undo) us) (cells (means L t))
    mine = subst (λ ys. Undoable p (means L t) (map (λ y. y.undo) ys) (cells (means L t))) chain (undoable-at p least party)

    pub sound-off : OthersOff L p (entry_in u.undo)
    sound-off q a b n = off-from p q (entry_in u.undo) n (go u.undo mine) (L.undos q) (cells (means L t)) (undoable-at q a b)
      where
        go : (x : Undo) → Undoable p (means L t) (x ∷ map (λ y. y.undo) us) (cells (means L t)) → holders (means L t) K.entry strong p (entry_in x) ≡ true
        go (value e v) w = w.0
        go (added e k) w = w.0.entry_held
        go (taken e k) w = w.0.entry_held
