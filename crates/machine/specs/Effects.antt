-- A call that leaves the others alone (Effect) and pays what it owes of its own (Own) keeps the part of soundness that is read at keys, entries and the
-- session table.
use Rattle.std.specs.Prelude.{◌≡◌, refl, Bool, true, false, cond, List, [], ◌∷◌, ◌⊎◌, zero, suc, ◌-◌, ◌≤◌, ℕ, eqb, length}
use Rattle.std.proofs.Common.{sym, ◌∙◌, subst, ap, inl, inr, arith}
use Rattle.std.proofs.Math.Option.{none, some}
use Rattle.std.proofs.Math.Decide.{ℕ_discrete}
use Rattle.serial.specs.Serial.{true≢false}
use Rattle.serial.specs.Locks.{Kind, Mode, weak, strong}
use Rattle.serial.specs.Locks as L
use Rattle.machine.specs.Holders.{holds}
use Rattle.machine.specs.State.{Stage, start, enter, change, take, Request, Undo, value, added, taken, State, session_of, at}
use Rattle.machine.specs.Calls.{bad_code, request_checks}
use Rattle.machine.specs.View.{holders, update_word, seen}
use Rattle.machine.specs.Sound.{gap_word, stored_in, Passes, Changing, Choice, Descends, to-change, to_first, to_choice, Stands, Cells, cells, set_cell, Holding, Undoable, Keyed, to-second}
use Rattle.machine.specs.Effect.{Effect, Own}
use Rattle.machine.specs.Bits.{holds-none}
use Rattle.machine.specs.Table.{tenure}
use Rattle.machine.specs.Housekeeping.{lvs}
use Rattle.machine.specs.Checks.{tidy-zero, checks-kept}

-- ---- what lets party q go on

-- From s to t: entries, party q's locks, and the keys that its request or its undo records need.
pub record Remains (q : ℕ) (s t : State) : Type 0 where
  pub many : length t.entries ≡ length s.entries
  pub held : (k : Kind) (m : Mode) (z : ℕ) → holders s k m q z ≡ true → holders t k m q z ≡ true
  pub gaps : (z : ℕ) → holds (gap_word z (seen s)) q ≡ true → holds (gap_word z (seen t)) q ≡ true
  pub chosen : q ≡ 0 → (z : ℕ) → stored_in z (lvs s) ≡ true → stored_in z (lvs t) ≡ true
  pub updated : (z : ℕ) → holders s L.group strong q z ≡ true → stored_in z (lvs s) ≡ true → stored_in z (lvs t) ≡ true

module _ (q : ℕ) (s t : State) (R : Remains q s t) where
  changing-kept : (r : Request) → Changing q s r → Changing q t r
  changing-kept r C = record { code_3_4 = C.code_3_4; excludes = R.held L.entry strong r.entry C.excludes }

  choice-kept : (r : Request) (x : ℕ) → bad_code q r.code ≡ false → Choice s r x → Choice t r x
  choice-kept r x b C = record { code_6 = C.code_6; above = C.above; stored = R.chosen (tidy-zero q r.code b C.code_6) x C.stored }

  descends-kept : (r : Request) (x : ℕ) → bad_code q r.code ≡ false → Descends q s r x → Descends q t r x
  descends-kept r x b (to-change C e) = to-change (changing-kept r C) e
  descends-kept r x b (to_first c e) = to_first c e
  descends-kept r x b (to-second c e) = to-second c e
  descends-kept r x b (to_choice C) = to_choice (choice-kept r x b C)

  pub stands-kept : (r : Request) (g : Stage) → bad_code q r.code ≡ false → Stands q s r g → Stands q t r g
  stands-kept r start b h = h
  stands-kept r (enter x) b h = descends-kept r x b h
  stands-kept r (at x) b h = descends-kept r x b h
  stands-kept r change b h = changing-kept r h
  stands-kept r (take x) b h = record {
    code_5 = h.code_5;
    from_first = h.from_first;
    to-second = h.to-second;
    held = λ k l u. R.held L.group weak k (h.held k l u);
    ahead = λ l. R.gaps (x - 1) (h.ahead l);
  }

  in-store-kept : (e : ℕ) → (1 ≤ e) × (e ≤ length s.entries) → (1 ≤ e) × (e ≤ length t.entries)
  in-store-kept e i = (i.0, subst (λ m. e ≤ m) (sym R.many) i.1)

  pub holding-kept : (e k : ℕ) → Holding q s e k → Holding q t e k
  holding-kept e k H = record {
    entry_held = R.held L.entry strong e H.entry_held;
    in_store = in-store-kept e H.in_store;
    proper_key = H.proper_key;
    key_stored = R.updated k H.group-held H.key_stored;
    group-held = R.held L.group strong k H.group-held;
  }

  -- Cells that agree where the session excludes the entry.
  abbrev pub Alike : Cells → Cells → Type 0
  Alike c d = (k e : ℕ) → holders s L.entry strong q e ≡ true → d k e ≡ c k e

  set-alike : (k e : ℕ) (b : Bool) (c d : Cells) → Alike c d → Alike (set_cell k e b c) (set_cell k e b d)
  set-alike k e b c d a j f h = ap (λ x. cond (eqb j k) (cond (eqb f e) b x) x) (a j f h)

  pub undoable-kept : (us : List Undo) (c d : Cells) → Alike c d → Undoable q s us c → Undoable q t us d
  undoable-kept [] c d a u = tt
  undoable-kept (value e v ∷ us) c d a u = (R.held L.entry strong e u.0, in-store-kept e u.1, undoable-kept us c d a u.2)
  undoable-kept (added e k ∷ us) c d a u =
      (holding-kept e k u.0, a k e u.0.entry_held ∙ u.1, undoable-kept us (set_cell k e false c) (set_cell k e false d) (set-alike k e false c d a) u.2)
  undoable-kept (taken e k ∷ us) c d a u =
      (holding-kept e k u.0, a k e u.0.entry_held ∙ u.1, undoable-kept us (set_cell k e true c) (set_cell k e true d) (set-alike k e true c d a) u.2)

-- Another party's call lets q go on.
pub effect-remains : (p q : ℕ) (s t : State) → Effect p s t → ¬ (p ≡ q) → Remains q s t
effect-remains p q s t E n = record {
  many = E.many;
  held = λ k m z h. E.held_others k m q z n ∙ h;
  gaps = λ z h. E.gaps_others q z n ∙ h;
  chosen = λ e z h. chosen e z (E.stays z h);
  updated = λ z u h. updated z u (E.stays z h);
}
  where
    chosen : q ≡ 0 → (z : ℕ) → (stored_in z (lvs t) ≡ true) ⊎ ((p ≡ 0) × (update_word z (seen s) ≡ 0)) → stored_in z (lvs t) ≡ true
    chosen e z (inl h) = h
    chosen e z (inr h) = absurd (n (h.0 ∙ sym e))

    updated : (z : ℕ) → holders s L.group strong q z ≡ true → (stored_in z (lvs t) ≡ true) ⊎ ((p ≡ 0) × (update_word z (seen s) ≡ 0)) → stored_in z (lvs t) ≡ true
    updated z u (inl h) = h
    updated z u (inr h) = absurd (true≢false u (ap (λ w. holds w q) h.1 ∙ holds-none q))

-- ---- the whole

-- A fact of the party itself, and of every other.
each : (p : ℕ) (P : ℕ → Type 0) → P p → ((q : ℕ) → ¬ (p ≡ q) → P q) → (q : ℕ) → P q
each p P own others q = go (ℕ_discrete p q)
  where
    go : Dec (p ≡ q) → P q
    go (yes e) = subst P e own
    go (no n) = others q n

-- A party that keeps its mark and its number has it alone, as before.
pub apart-kept : (p : ℕ) (s t : State) → ((a b : ℕ) → (session_of a s).begun ≡ true → (session_of b s).begun ≡ true → (session_of a s).order ≡ (session_of b s).order → a ≡ b)
    → ((q : ℕ) → ¬ (p ≡ q) → session_of q t ≡ session_of q s) → tenure (session_of p t) ≡ tenure (session_of p s)
    → (q : ℕ) → ¬ (p ≡ q) → (session_of p t).begun ≡ true → (session_of q t).begun ≡ true → ¬ ((session_of p t).order ≡ (session_of q t).order)
apart-kept p s t k others own q n u v e =
    n (k p q (sym (ap (λ x. x.0) own) ∙ u) (sym (ap (λ x. x.begun) (others q n)) ∙ v) (sym (ap (λ x. x.1) own) ∙ e ∙ ap (λ x. x.order) (others q n)))

-- So no two share one.
orders-after : (p : ℕ) (s t : State) → Keyed s → Effect p s t → Own p t
    → (a b : ℕ) → (session_of a t).begun ≡ true → (session_of b t).begun ≡ true → (session_of a t).order ≡ (session_of b t).order → a ≡ b
orders-after p s t K E O a b = go (ℕ_discrete p a) (ℕ_discrete p b)
  where
    Shares : ℕ → ℕ → Type 0
    Shares x y = (session_of x t).begun ≡ true → (session_of y t).begun ≡ true → (session_of x t).order ≡ (session_of y t).order → x ≡ y

    go : Dec (p ≡ a) → Dec (p ≡ b) → Shares a b
    go (yes e) (yes f) = λ u v w. sym e ∙ f
    go (yes e) (no n) = subst (λ x. Shares x b) e (λ u v w. absurd (O.apart b n u v w))
    go (no n) (yes f) = subst (Shares a) f (λ u v w. absurd (O.apart a n v u (sym w)))
    go (no m) (no n) = λ u v w.
        let x = E.others a m in
        let y = E.others b n in
        K.orders a b (sym (ap (λ z. z.begun) x) ∙ u) (sym (ap (λ z. z.begun) y) ∙ v) (sym (ap (λ z. z.order) x) ∙ w ∙ ap (λ z. z.order) y)

pub keyed-after : (p : ℕ) (s t : State) → Keyed s → Effect p s t → Own p t → Keyed t
keyed-after p s t K E O = record {
  sizes = subst (λ m. (1 ≤ m) × (m ≤ 1024) × (8 ≤ t.records) × (t.records ≤ 4096)) (sym E.many)
      (subst (λ r. (1 ≤ length s.entries) × (length s.entries ≤ 1024) × (8 ≤ r) × (r ≤ 4096)) (sym E.records_same) K.sizes);
  seats = E.seats_same ∙ K.seats;
  zero_stored = O.zero_stored;
  zero_empty = O.zero_empty;
  top_free = O.top_free;
  listed = O.listed;
  only_begun = λ k m q z. each p (λ x. holders t k m x z ≡ true → (session_of x t).begun ≡ true) (O.holds_begun k m z)
      (λ x n h. ap (λ y. y.begun) (E.others x n) ∙ K.only_begun k m x z (sym (E.held_others k m x z n) ∙ h)) q;
  only_begun_gaps = λ q z. each p (λ x. holds (gap_word z (seen t)) x ≡ true → (session_of x t).begun ≡ true) (O.gaps_begun z)
      (λ x n h. ap (λ y. y.begun) (E.others x n) ∙ K.only_begun_gaps x z (sym (E.gaps_others x z n) ∙ h)) q;
  agree = O.agree;
  unbegun_hand = λ m. each p (λ x. ¬ (x ≡ 0) → (session_of x t).begun ≡ false → (session_of x t).hand ≡ none) O.hand_begun
      (λ x n z h. ap (λ y. y.hand) (E.others x n) ∙ unbegun x z (sym (ap (λ y. y.begun) (E.others x n)) ∙ h)) (suc m) (λ z. omega (arith, z));
  unbegun_undos = each p (λ x. (session_of x t).begun ≡ false → (session_of x t).undos ≡ []) O.undos_begun
      (λ x n h. ap (λ y. y.undos) (E.others x n) ∙ K.unbegun_undos x (sym (ap (λ y. y.begun) (E.others x n)) ∙ h));
  zero_unmarked = each p (λ x. x ≡ 0 → (session_of x t).begun ≡ false) O.zero_unmarked
      (λ x n z. ap (λ y. y.begun) (E.others x n) ∙ subst (λ y. (session_of y s).begun ≡ false) (sym z) K.zero_unmarked) 0 refl;
  orders = orders-after p s t K E O;
  only_asked = each p (λ x. (session_of x t).asked ≡ true → ((session_of x t).begun ≡ true) × ((session_of x t).hand ≡ none)) O.asked_idle
      (λ x n h. subst (λ y. (y.begun ≡ true) × (y.hand ≡ none)) (sym (E.others x n)) (K.only_asked x (sym (ap (λ y. y.asked) (E.others x n)) ∙ h)));
  pins_match = O.pins_match;
  checked = each p (λ x. (r : Request) → (session_of x t).hand ≡ some r → Passes (request_checks x r.code r.entry r.first r.second t)) O.checked
      (λ x n r h. checks-kept x r.code r.entry r.first r.second s t E.many (K.checked x r (sym (ap (λ y. y.hand) (E.others x n)) ∙ h)));
  standing = each p (λ x. (r : Request) → (session_of x t).hand ≡ some r → Stands x t r r.stage) O.standing
      (λ x n r h. let q : (session_of x s).hand ≡ some r = sym (ap (λ y. y.hand) (E.others x n)) ∙ h in
      stands-kept x s t (effect-remains p x s t E n) r r.stage (K.checked x r q).0 (K.standing x r q));
  undoable = each p (λ x. Undoable x t (session_of x t).undos (cells t)) O.undoable
      (λ x n. subst (λ y. Undoable x t y.undos (cells t)) (sym (E.others x n))
      (undoable-kept x s t (effect-remains p x s t E n) (session_of x s).undos (cells s) (cells t) (λ k e h. E.cells_others x k e n h) (K.undoable x)));
}
  where
    unbegun : (x : ℕ) → ¬ (x ≡ 0) → (session_of x s).begun ≡ false → (session_of x s).hand ≡ none
    unbegun zero z h = absurd (z refl)
    unbegun (suc m) z h = K.unbegun_hand m h
