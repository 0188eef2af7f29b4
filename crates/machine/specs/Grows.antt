-- Every step of a request changes the holders of entries and keys by just the locks that the ledger says it grants.
use Rattle.std.specs.Prelude.{◌≡◌, Bool, true, false, cond, ◌&&◌, ◌||◌, ◌⊎◌, leb}
use Rattle.std.proofs.Math.Path.{refl, sym, ap₂, subst, ap}
use Rattle.std.proofs.Common.{◌∙◌, inl, inr, arith}
use Rattle.std.proofs.Math.Bool.{or-false, or-true, and-true, and-false}
use mathlib.Core.List.{List, [], ◌∷◌, ◌++◌, map}
use Rattle.std.proofs.Math.Option.{Option, none, some}
use Prim.Native.Nat.{suc, ◌*◌, ◌≤◌, ◌<◌, ℕ}
use Rattle.std.proofs.Math.Decide.{ℕ_discrete}
use Rattle.std.proofs.Math.Dec.{ltb, eqb}
use Rattle.std.proofs.Math.ListN.{length}
use Rattle.serial.specs.Serial.{true≢false}
use Rattle.serial.specs.Rising.{Tri, less, equal, greater}
use Rattle.serial.specs.Model.{ℕ-tri}
use Rattle.serial.specs.Locks.{Kind, Mode, weak, strong}
use Rattle.serial.specs.Locks as L
use Rattle.machine.specs.Logic.{leb_yes, leb_no, eqb_yes, eqb_no, either}
use Rattle.machine.specs.Holders.{holds, held_by, elem}
use Rattle.machine.specs.State.{Entry, Desc, Stage, start, enter, change, take, Request, State, wait, refused, top, or_none, entry_of, stored, lowest_from, desc_of, on_entry, on_session, on_tree, on_desc, hold_desc, group_desc, same, with_member, without_member, add_undo, Outcome, at}
use Rattle.machine.specs.Steps.{share_by, exclude_by, ended, goes_on, finished, guarded, read-step, written, write_step, entry-step, updating_state, inserted_state, removed_state, insert-step, remove-step, located_state, last_take, answer}
use Rattle.machine.specs.Gaps.{by_tri, locators}
use Rattle.machine.specs.View.{seen, locate_word, update_word, holders, same_refl, same-holders, ended_same, frame-holders, entry-holders}
use Rattle.machine.specs.Sound.{stored_in, of_hand}
use Rattle.machine.specs.Bits.{held_same, held-other}
use Rattle.machine.specs.Descents.{guard-cases, goes_same, finished-same}
use Rattle.machine.specs.Order.{In}
use Rattle.machine.specs.Groups.{words}
use Rattle.machine.specs.Housekeeping.{Like, like-unseen, lvs}
use Rattle.machine.specs.Keys.{Kept, put-locate, put-update, was-update, put-update-other, was-locate, was_shown, put_shown, put-locate-here, put-locate-below, put-update-kept, above-locate}
use Rattle.machine.specs.Looks.{stored-range, stored-parts}
use Rattle.machine.specs.Entries.{word, grant, holders_word, entry-cases, exclude-words}
use Rattle.machine.specs.Events.{asked}
use Rattle.machine.specs.Ledger.{Ledger, no_locks, same_mode, lock, lock_one, keys, key_from, upon, step_grants}

-- ---- words

-- From e to below e + 1 there is e alone.
one-is : (e z : ℕ) → (leb e z && ltb z (suc e)) ≡ eqb e z
one-is e z = go (ℕ-tri e z)
  where
    go : Tri ◌<◌ e z → (leb e z && ltb z (suc e)) ≡ eqb e z
    go (less h) = ap₂ (λ a b. a && b) (leb_yes e z (omega (arith, h))) (leb_no (suc z) (suc e) (omega (arith, h))) ∙ sym (eqb_no e z (λ q. omega (arith, h, q)))
    go (equal h) = ap₂ (λ a b. a && b) (leb_yes e z (omega (arith, h))) (leb_yes (suc z) (suc e) (omega (arith, h))) ∙ sym (eqb_yes e z h)
    go (greater h) = ap (λ a. a && ltb z (suc e)) (leb_no e z h) ∙ sym (eqb_no e z (λ q. omega (arith, h, q)))

-- Who holds a word with session m + 1 added.
held_word : (m q w : ℕ) → holds (held_by (suc m) w) q ≡ (holds w q || eqb (suc m) q)
held_word m q w = go (ℕ_discrete (suc m) q)
  where
    go : Dec (suc m ≡ q) → holds (held_by (suc m) w) q ≡ (holds w q || eqb (suc m) q)
    go (yes e) = subst (λ n. holds (held_by (suc m) w) n ≡ true) e (held_same m w) ∙ sym (ap (λ b. holds w q || b) (eqb_yes (suc m) q e) ∙ or-true (holds w q))
    go (no n) = held-other (suc m) q w n ∙ sym (or-false (holds w q)) ∙ sym (ap (λ b. holds w q || b) (eqb_no (suc m) q n))

-- ---- states that grow by some locks

abbrev pub GrowsBy : State → State → Ledger → Type 0
GrowsBy s t g = (k : Kind) (m : Mode) (q z : ℕ) → holders t k m q z ≡ (holders s k m q z || g k m q z)

pub alike-grows : (s t : State) → ((k : Kind) (m : Mode) (q z : ℕ) → holders t k m q z ≡ holders s k m q z) → GrowsBy s t no_locks
alike-grows s t h k m q z = h k m q z ∙ sym (or-false (holders s k m q z))

grows_then : (s t u : State) (g : Ledger) → GrowsBy s t g → ((k : Kind) (m : Mode) (q z : ℕ) → holders u k m q z ≡ holders t k m q z) → GrowsBy s u g
grows_then s t u g a h k m q z = h k m q z ∙ a k m q z

-- ---- an entry's lock

grant-holds : (mode n : Mode) (m q : ℕ) (e : Entry) → holds (word n (grant mode (suc m) e)) q ≡ (holds (word n e) q || (same_mode mode n && (eqb (suc m) q && true)))
grant-holds weak weak m q e = held_word m q e.share ∙ ap (λ b. holds e.share q || b) (sym (and-true (eqb (suc m) q)))
grant-holds weak strong m q e = sym (or-false (holds e.exclusive q))
grant-holds strong weak m q e = sym (or-false (holds e.share q))
grant-holds strong strong m q e = held_word m q e.exclusive ∙ ap (λ b. holds e.exclusive q || b) (sym (and-true (eqb (suc m) q)))

-- f gives the lock, and perhaps another value.
entry-grows : (mode : Mode) (m i : ℕ) (f : Entry → Entry) (s : State) → i < length s.entries → ((n : Mode) (e : Entry) → word n (f e) ≡ word n (grant mode (suc m) e))
    → GrowsBy s (on_entry (suc i) f s) (lock_one L.entry mode (suc m) (suc i))
unfolding on_entry
entry-grows mode m i f s h w L.group weak q z = sym (or-false _)
entry-grows mode m i f s h w L.group strong q z = sym (or-false _)
entry-grows mode m i f s h w L.entry n q z = holders_word (on_entry (suc i) f s) n q z
    ∙ entry-cases i f s h (λ y x. holds (word n x) q ≡ (holds (word n (entry_of y s)) q || lock_one L.entry mode (suc m) (suc i) L.entry n q y))
    (ap (λ x. holds x q) (w n (entry_of (suc i) s)) ∙ grant-holds mode n m q (entry_of (suc i) s)
    ∙ ap (λ b. holds (word n (entry_of (suc i) s)) q || (same_mode mode n && (eqb (suc m) q && b))) (sym (one-is (suc i) (suc i) ∙ eqb_yes (suc i) (suc i) refl)))
    (λ y e. sym (or-false (holds (word n (entry_of y s)) q)) ∙ ap (λ b. holds (word n (entry_of y s)) q || b)
    (sym (ap (λ b. same_mode mode n && (eqb (suc m) q && b)) (one-is (suc i) y ∙ eqb_no (suc i) y e) ∙ ap (λ b. same_mode mode n && b) (and-false (eqb (suc m) q)) ∙ and-false (same_mode mode n)))) z
    ∙ ap (λ b. b || lock_one L.entry mode (suc m) (suc i) L.entry n q z) (sym (holders_word s n q z))

-- ---- a group's update lock

-- f gives the lock, and perhaps other members.
module _ (m k : ℕ) (s : State) (K : Kept k s) (f : Desc → Desc) (fk : (f K.d).key ≡ K.d.key) (fl : (f K.d).locate ≡ K.d.locate) (fg : (f K.d).gap ≡ K.d.gap)
    (fu : (f K.d).update ≡ held_by (suc m) K.d.update) where
  update-grows : GrowsBy s (on_desc k f s) (lock_one L.group strong (suc m) k)
  unfolding on_tree
  update-grows L.entry n q z = entry-holders s (on_desc k f s) refl n q z ∙ sym (or-false _)
  update-grows L.group weak q z = ap (λ w. holds w q) (put-locate k s K f fk fl fg z) ∙ sym (or-false _)
  update-grows L.group strong q z = at (ℕ_discrete k z)
    where
      at : Dec (k ≡ z) → holds (update_word z (seen (on_desc k f s))) q ≡ (holds (update_word z (seen s)) q || (eqb (suc m) q && (leb k z && ltb z (suc k))))
      at (yes e) = subst (λ y. holds (update_word y (seen (on_desc k f s))) q ≡ (holds (update_word y (seen s)) q || (eqb (suc m) q && (leb k y && ltb y (suc k))))) e
          (ap (λ w. holds w q) (put-update k s K f fk ∙ fu ∙ ap (held_by (suc m)) (sym (was-update k s K))) ∙ held_word m q (update_word k (seen s))
          ∙ ap (λ b. holds (update_word k (seen s)) q || b) (sym (ap (λ b. eqb (suc m) q && b) (one-is k k ∙ eqb_yes k k refl) ∙ and-true (eqb (suc m) q))))
      at (no n) = ap (λ w. holds w q) (put-update-other k s K f fk z n) ∙ sym (or-false (holds (update_word z (seen s)) q))
          ∙ ap (λ b. holds (update_word z (seen s)) q || b) (sym (ap (λ b. eqb (suc m) q && b) (one-is k z ∙ eqb_no k z n) ∙ and-false (eqb (suc m) q)))

-- ---- a group's locate lock, and its gap's

abbrev pub first_key : List Desc → ℕ
first_key [] = top
first_key (d ∷ l) = d.key

-- Above d the gap reaches to below the next descriptor.
gap-word-held : (m q z g : ℕ) (b : Desc) (B : List Desc) → holds (locators (held_by (suc m) g) (words (b ∷ B)) z) q ≡ (holds (locators g (words (b ∷ B)) z) q || (eqb (suc m) q && ltb z b.key))
gap-word-held m q z g b B = at (ℕ-tri z b.key)
  where
    beyond : (w : ℕ) → b.key ≤ z → holds w q ≡ (holds w q || (eqb (suc m) q && ltb z b.key))
    beyond w h = sym (or-false (holds w q)) ∙ ap (λ x. holds w q || x) (sym (ap (λ x. eqb (suc m) q && x) (leb_no (suc z) b.key (omega (arith, h))) ∙ and-false (eqb (suc m) q)))

    at : (t : Tri ◌<◌ z b.key) → holds (by_tri t (held_by (suc m) g) b.locate (locators b.gap (words B) z)) q
        ≡ (holds (by_tri t g b.locate (locators b.gap (words B) z)) q || (eqb (suc m) q && ltb z b.key))
    at (less h) = held_word m q g ∙ ap (λ x. holds g q || x) (sym (ap (λ x. eqb (suc m) q && x) (leb_yes (suc z) b.key h) ∙ and-true (eqb (suc m) q)))
    at (equal h) = beyond b.locate (omega (arith, h))
    at (greater h) = beyond (locators b.gap (words B) z) (omega (arith, h))

-- The descriptor gets session m + 1 as locate holder, and γ of its gap holders: the session comes to hold the keys from k to below hi.
module _ (m k hi : ℕ) (s : State) (K : Kept k s) (γ : ℕ → ℕ) (lt : k < hi) where
  abbrev pub f : Desc → Desc
  f d = hold_desc (held_by (suc m)) same γ d

  abbrev t : State
  t = on_desc k f s

  locate-grows : ((q z : ℕ) → k < z → holds (locators (γ K.d.gap) (words K.B) z) q ≡ (holds (locators K.d.gap (words K.B) z) q || (eqb (suc m) q && ltb z hi)))
      → GrowsBy s t (lock L.group weak (suc m) k hi)
  unfolding on_tree
  locate-grows above L.entry n q z = entry-holders s t refl n q z ∙ sym (or-false _)
  locate-grows above L.group strong q z = ap (λ w. holds w q) (put-update-kept k s K f refl refl z) ∙ sym (or-false _)
  locate-grows above L.group weak q z = at (ℕ-tri z k)
    where
      at : Tri ◌<◌ z k → holds (locate_word z (seen t)) q ≡ (holds (locate_word z (seen s)) q || (eqb (suc m) q && (leb k z && ltb z hi)))
      at (less h) = ap (λ w. holds w q) (put-locate-below k s K f refl z h) ∙ sym (or-false (holds (locate_word z (seen s)) q))
          ∙ ap (λ b. holds (locate_word z (seen s)) q || b) (sym (ap (λ x. eqb (suc m) q && (x && ltb z hi)) (leb_no k z h) ∙ and-false (eqb (suc m) q)))
      at (equal h) = subst (λ y. holds (locate_word y (seen t)) q ≡ (holds (locate_word y (seen s)) q || (eqb (suc m) q && (leb k y && ltb y hi)))) (sym h)
          (ap (λ w. holds w q) (put-locate-here k s K f refl ∙ ap (held_by (suc m)) (sym (was-locate k s K))) ∙ held_word m q (locate_word k (seen s))
          ∙ ap (λ b. holds (locate_word k (seen s)) q || b) (sym (ap₂ (λ x y. eqb (suc m) q && (x && y)) (leb_yes k k (omega arith)) (leb_yes (suc k) hi lt) ∙ and-true (eqb (suc m) q))))
      at (greater h) = ap (λ w. holds w q) (above-locate (put_shown k s K f refl) z h) ∙ above q z h
          ∙ ap₂ (λ w b. holds w q || (eqb (suc m) q && (b && ltb z hi))) (sym (above-locate (was_shown k s K) z h)) (sym (leb_yes k z (omega (arith, h))))

-- At second: the key alone.
located-grows : (m k : ℕ) (s : State) (K : Kept k s) → GrowsBy s (on_desc k (hold_desc (held_by (suc m)) same same) s) (lock_one L.group weak (suc m) k)
located-grows m k s K = locate-grows m k (suc k) s K same (omega arith) λ q z h.
    sym (or-false _) ∙ ap (λ x. holds (locators K.d.gap (words K.B) z) q || x) (sym (ap (λ x. eqb (suc m) q && x) (leb_no (suc z) (suc k) (omega (arith, h))) ∙ and-false (eqb (suc m) q)))

-- Below second: every key to below the next stored one, which there is.
pub passed-grows : (m k : ℕ) (s : State) (K : Kept k s) (b : Desc) (B : List Desc) → K.B ≡ b ∷ B → k < b.key
    → GrowsBy s (on_desc k (hold_desc (held_by (suc m)) same (held_by (suc m))) s) (lock L.group weak (suc m) k b.key)
passed-grows m k s K b B e lt = locate-grows m k b.key s K (held_by (suc m)) lt λ q z h.
    subst (λ l. holds (locators (held_by (suc m) K.d.gap) (words l) z) q ≡ (holds (locators K.d.gap (words l) z) q || (eqb (suc m) q && ltb z b.key))) (sym e) (gap-word-held m q z K.d.gap b B)

-- ---- the stored keys

pub key-from-is : (x : ℕ) (l : List Desc) → key_from x (map (λ d. d.key) l) ≡ (or_none (lowest_from x l)).key
unfolding key_from lowest_from
key-from-is x [] = refl
key-from-is x (d ∷ l) = go (leb x d.key) (key-from-is x l)
  where
    go : (b : Bool) → key_from x (map (λ d. d.key) l) ≡ (or_none (lowest_from x l)).key
        → cond b d.key (key_from x (map (λ d. d.key) l)) ≡ (or_none (cond b (some d) (lowest_from x l))).key
    go true ih = refl
    go false ih = ih

-- The next one behind a descriptor.
pub next_key : (k : ℕ) (d : Desc) → d.key ≡ k → (A B : List Desc) → In 0 k A → In (suc k) (suc top) B → key_from (suc k) (map (λ x. x.key) (A ++ d ∷ B)) ≡ first_key B
unfolding key_from
next_key k d e [] [] i j = ap (λ b. cond b d.key top) (leb_no (suc k) d.key (omega (arith, e)))
next_key k d e [] (b ∷ B) i j =
    ap₂ (λ x y. cond x d.key (cond y b.key (key_from (suc k) (map (λ x. x.key) B)))) (leb_no (suc k) d.key (omega (arith, e))) (leb_yes (suc k) b.key j.0.0)
next_key k d e (a ∷ A) B i j =
    ap (λ b. cond b a.key (key_from (suc k) (map (λ x. x.key) (A ++ d ∷ B)))) (leb_no (suc k) a.key (omega (arith, i.0.1))) ∙ next_key k d e A B i.1 j

-- A stored key above a descriptor lies behind it.
pub behind : (k g : ℕ) (s : State) (K : Kept k s) → stored_in g (lvs s) ≡ true → k < g → (b : Desc) × (B : List Desc) × (K.B ≡ b ∷ B)
unfolding stored_in
behind k g s K h lt = go K.B refl (stored-parts g K.A K.d K.B (subst (λ l. stored_in g l ≡ true) K.was h))
  where
    go : (C : List Desc) → K.B ≡ C → (stored_in g K.A ≡ true) ⊎ ((K.d.key ≡ g) ⊎ (stored_in g K.B ≡ true)) → (b : Desc) × (B : List Desc) × (K.B ≡ b ∷ B)
    go (b ∷ B) e p = (b, B, e)
    go [] e (inl p) = absurd (omega (arith, (stored-range g 0 k K.A K.low p).1, lt))
    go [] e (inr (inl p)) = absurd (omega (arith, p, K.key, lt))
    go [] e (inr (inr p)) = absurd (true≢false p (ap (stored_in g) e))

-- ---- the steps of a session

-- Waits and refusals grant nothing.
pub guard-grows : (d g : Ledger) (bs : List ℕ) (need p : ℕ) (r : Request) (s : State) (o : Outcome) → GrowsBy s o.next (upon o.answer d g)
    → GrowsBy s (guarded bs need p r s o).next (upon (guarded bs need p r s o).answer d g)
guard-grows d g bs need p r s o h = guard-cases (λ x. GrowsBy s x.next (upon x.answer d g)) bs need p r s o
    (λ b l. alike-grows s s (λ k m q z. refl)) (alike-grows s (ended p r s) (same-holders s (ended p r s) (ended_same p r s))) h

-- A step done, or gone on with, from a state that has grown.
finished-grows : (p : ℕ) (r : Request) (ns : List ℕ) (s t : State) (g : Ledger) → GrowsBy s t g → GrowsBy s (finished p r ns t).next g
finished-grows p r ns s t g h = grows_then s t (finished p r ns t).next g h (same-holders t (finished p r ns t).next (finished-same p r ns t t (same_refl t)))

pub goes-grows : (p : ℕ) (r : Request) (st : Stage) (s t : State) (g : Ledger) → GrowsBy s t g → GrowsBy s (goes_on p r st t).next g
goes-grows p r st s t g h = grows_then s t (goes_on p r st t).next g h (same-holders t (goes_on p r st t).next (goes_same p r st t t (same_refl t)))

abbrev pub StepGrows : ℕ → Request → State → Outcome → Type 0
StepGrows p r s o = GrowsBy s o.next (step_grants p r (keys s) r.stage o.answer)

pub read-grows : (m i f g : ℕ) (s : State) → i < length s.entries → StepGrows (suc m) (asked 1 (suc i) f g start) s (read-step (suc m) (asked 1 (suc i) f g start) s)
unfolding step_grants read-step finished
read-grows m i f g s h = guard-grows _ no_locks _ 0 (suc m) (asked 1 (suc i) f g start) s _
    (finished-grows (suc m) (asked 1 (suc i) f g start) ((entry_of (suc i) s).value ∷ []) s (on_entry (suc i) (share_by (suc m)) s) _
    (entry-grows weak m i (share_by (suc m)) s h (λ n e. refl)))

pub write-grows : (m i f g : ℕ) (s : State) → i < length s.entries → StepGrows (suc m) (asked 2 (suc i) f g start) s (write_step (suc m) (asked 2 (suc i) f g start) s)
unfolding step_grants write_step finished written add_undo on_session
write-grows m i f g s h = guard-grows _ no_locks _ 1 (suc m) r s _
    (finished-grows (suc m) r (0 ∷ []) s (written (suc m) r s) _ (grows_then s t (written (suc m) r s) _ (entry-grows strong m i (exclude_by (suc m) f) s h (exclude-words (suc m) f))
    (frame-holders t (written (suc m) r s) refl refl)))
  where
    r : Request
    r = asked 2 (suc i) f g start

    t : State
    t = on_entry (suc i) (exclude_by (suc m) f) s

-- The first step of an insert or remove.
pub exclude-grows : (m c i f g : ℕ) (s : State) → i < length s.entries → (eqb c 3 || eqb c 4) ≡ true
    → StepGrows (suc m) (asked c (suc i) f g start) s (entry-step (suc m) (asked c (suc i) f g start) s)
unfolding step_grants entry-step goes_on
exclude-grows m c i f g s h e = guard-grows _ _ _ 0 (suc m) (asked c (suc i) f g start) s _
    (goes-grows (suc m) (asked c (suc i) f g start) (enter f) s t _
    (subst (λ b. GrowsBy s t (cond b (lock_one L.entry strong (suc m) (suc i)) no_locks)) (sym e) (entry-grows strong m i (grant strong (suc m)) s h (λ n x. refl))))
  where
    t : State
    t = on_entry (suc i) (grant strong (suc m)) s

-- The change, with a member more or less, or none.
module _ (m e f g : ℕ) (s : State) (K : Kept f s) where
  abbrev change_lock : Ledger
  change_lock = lock_one L.group strong (suc m) f

  hold-grows : GrowsBy s (on_desc f (hold_desc same (held_by (suc m)) same) s) change_lock
  hold-grows = update-grows m f s K (hold_desc same (held_by (suc m)) same) refl refl refl refl

  group-grows : (M : List ℕ → List ℕ) → GrowsBy s (on_desc f (λ d. group_desc M (hold_desc same (held_by (suc m)) same d)) s) change_lock
  group-grows M = update-grows m f s K (λ d. group_desc M (hold_desc same (held_by (suc m)) same d)) refl refl refl refl

  pub insert-grows : StepGrows (suc m) (asked 3 e f g change) s (insert-step (suc m) (asked 3 e f g change) (desc_of f s) s)
  unfolding step_grants insert-step finished add_undo on_session
  insert-grows =
      either (StepGrows (suc m) r s) (elem e (desc_of f s).members) _ _
      (guard-grows change_lock no_locks _ 0 (suc m) r s _ (finished-grows (suc m) r (0 ∷ []) s (updating_state (suc m) r s) change_lock hold-grows))
      (guard-grows change_lock no_locks _ 2 (suc m) r s _ (finished-grows (suc m) r (1 ∷ []) s (inserted_state (suc m) r s) change_lock
      (grows_then s _ (inserted_state (suc m) r s) change_lock (group-grows (with_member e)) (frame-holders _ (inserted_state (suc m) r s) refl refl))))
    where
      r : Request
      r = asked 3 e f g change

  pub remove-grows : StepGrows (suc m) (asked 4 e f g change) s (remove-step (suc m) (asked 4 e f g change) (desc_of f s) s)
  unfolding step_grants remove-step finished add_undo on_session
  remove-grows = guard-grows change_lock no_locks _ 0 (suc m) r s _
      (either (λ (o : Outcome). GrowsBy s o.next (upon o.answer change_lock no_locks)) (elem e (desc_of f s).members) _ _
      (finished-grows (suc m) r (1 ∷ []) s (removed_state (suc m) r s) change_lock
      (grows_then s _ (removed_state (suc m) r s) change_lock (group-grows (without_member e)) (frame-holders _ (removed_state (suc m) r s) refl refl)))
      (finished-grows (suc m) r (0 ∷ []) s (updating_state (suc m) r s) change_lock hold-grows))
    where
      r : Request
      r = asked 4 e f g change

-- A locate at its next descriptor d, the lowest stored from x on, where second, g, is stored.
module _ (n m e f g x : ℕ) (s : State) (d : Desc) (q : or_none (lowest_from x (stored s)) ≡ d) (K : Kept d.key s) (upto : d.key ≤ g) (stays : stored_in g (lvs s) ≡ true) where
  abbrev pub r : Request
  r = asked 5 e f g (take x)

  abbrev pub from_key : ℕ → Ledger
  from_key k = lock L.group weak (suc m) k (key_from (suc k) (keys s))

  abbrev pub second_lock : Ledger
  second_lock = lock_one L.group weak (suc m) g

  pub last-grows : d.key ≡ g → (l : List (ℕ × ℕ)) → GrowsBy s (last_take n (suc m) r l d s).next (upon (last_take n (suc m) r l d s).answer second_lock (from_key (key_from x (keys s))))
  unfolding last_take
  last-grows w l = either (λ (o : Outcome). GrowsBy s o.next (upon o.answer second_lock (from_key (key_from x (keys s))))) (leb (2 * length l) n) _ _
      (grows_then s (located_state (suc m) d s) (ended (suc m) r (located_state (suc m) d s)) second_lock
      (subst (λ k. GrowsBy s (located_state (suc m) d s) (lock_one L.group weak (suc m) k)) w (located-grows m d.key s K))
      (same-holders (located_state (suc m) d s) (ended (suc m) r (located_state (suc m) d s)) (ended_same (suc m) r (located_state (suc m) d s))))
      (alike-grows s (ended (suc m) r s) (same-holders s (ended (suc m) r s) (ended_same (suc m) r s)))

pub like-grows : (s t : State) → Like s t → GrowsBy s t no_locks
like-grows s t h = alike-grows s t (λ k m q z. ((like-unseen s t h).stays q).holds_kept k m z)

-- A wait grants nothing.
pub wait-grows : (p : ℕ) (r : Request) (s : State) (b : ℕ) → StepGrows p r s (answer (wait (b ∷ [])) s)
unfolding step_grants
wait-grows p r s b = go r.stage
  where
    go : (g : Stage) → GrowsBy s s (step_grants p r (keys s) g (wait (b ∷ [])))
    go start = alike-grows s s (λ k m q z. refl)
    go (enter x) = alike-grows s s (λ k m q z. refl)
    go (at x) = alike-grows s s (λ k m q z. refl)
    go change = alike-grows s s (λ k m q z. refl)
    go (take x) = alike-grows s s (λ k m q z. refl)

pub refused-grants : (p n b : ℕ) (s : State) (h : Option Request) (k : Kind) (m : Mode) (q z : ℕ) → of_hand no_locks (λ r. step_grants p r (keys s) r.stage (refused n b)) h k m q z ≡ false
unfolding step_grants
refused-grants p n b s none k m q z = refl
refused-grants p n b s (some r) k m q z = go r.stage
  where
    go : (g : Stage) → step_grants p r (keys s) g (refused n b) k m q z ≡ false
    go start = refl
    go (enter x) = refl
    go (at x) = refl
    go change = refl
    go (take x) = refl
