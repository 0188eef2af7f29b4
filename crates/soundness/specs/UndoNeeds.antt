-- What an undo record needs of locks and groups to be undone: what the test asks of it, and what the machine's `Undoable` asks in the meaning.
use Rattle.std.specs.Prelude.{◌≡◌, Bool, true, ◌&&◌, ◌||◌, List, [], ◌∷◌, map, ◌⊎◌, ℕ, ◌≤◌, eqb, leb, length}
use Rattle.std.proofs.Common.{sym, subst, ◌∙◌, arith}
use Rattle.std.proofs.Math.Path.{ap}
use Rattle.std.proofs.Math.Bool.{not}
use Rattle.std.proofs.Math.Logic.{inl, inr}
use Rattle.std.proofs.Math.Decide.{ℕ_discrete}
use borrow.Author.Tests.{eq-eqb, ne_eqb, eqb-true, eqb-false, le-leb, leb-true, not-true}
use Rattle.serial.specs.Locks.{strong}
use Rattle.serial.specs.Locks as L
use Rattle.words.specs.Store.{word_of}
use Rattle.words.specs.Entries.{entry_word}
use Rattle.groups.specs.Descriptor.{decode_descriptor}
use Rattle.undos.specs.Undo.{decode_undo}
use Rattle.locks.specs.Holders.{holds}
use Rattle.sessions.specs.declared.Session.{Session}
use Rattle.machine.specs.State.{Entry, value, added, taken, State}
use Rattle.machine.specs.View.{holders, seen, group_in}
use Rattle.machine.specs.Groups.{Rises}
use Rattle.machine.specs.Housekeeping.{lvs}
use Rattle.machine.specs.Sound.{stored_in, Cells, Holding, Undoable}
use Rattle.meaning.specs.Reading.{desc_at, undo_at, M-of, R-of, meaning}
use Rattle.meaning.specs.Sound.{All, leaves_of, record_of, Lists, UndoWords}
use Rattle.marks.specs.Marks.{entry_ok, is_met, descriptor_mark}
use Rattle.marks.specs.Steps.{entry_in}
use Rattle.undo_chains.specs.UndoChains.{group_held, kind_ok, undo_ok}
use Rattle.soundness.specs.Marking.{In}
use Rattle.soundness.specs.HoldersTests.{and_both, or-either}
use Rattle.soundness.specs.HeldTests.{entry-meaning}
use Rattle.soundness.specs.Leaves.{stored_records, entries-meaning}
use Rattle.soundness.specs.UndoLeaves.{descs, leaves-meant, leaves-read, key_at, leaf-found, record-leaf, leaf-stored, leaf-update, leaf-group}
use Rattle.soundness.specs.UndoCells.{kind_of, entry-of, saved_of, group_of}

-- ---- what a record needs

kind-range : (k : ℕ) → kind_ok k ≡ true → (1 ≤ k) × (k ≤ 3)
unfolding kind_ok
kind-range k o =
    let x = (and_both (not (eqb k 0)) (leb k 3)).0 o in
    let n : ¬ (k ≡ 0) = eqb-false k 0 (not-true (eqb k 0) x.0) in
    (omega arith, leb-true k 3 x.1)

range-kind : (k : ℕ) → 1 ≤ k → k ≤ 3 → kind_ok k ≡ true
unfolding kind_ok
range-kind k a b = simp (ne_eqb k 0 (λ z. omega (arith, z)), le-leb k 3 b)

range-entry : (e m : ℕ) → 1 ≤ e → e ≤ m → entry_ok e m ≡ true
unfolding entry_ok
range-entry e m a b = simp (ne_eqb e 0 (λ z. omega (arith, z)), le-leb e m b)

module _ (s : List ℕ) where
  abbrev m : ℕ
  m = M-of s

  abbrev r : ℕ
  r = R-of s

  -- Record d is a stored descriptor's.
  abbrev pub Stored : ℕ → Type 0
  Stored d = In d (stored_records s)

  -- Session p has the update lock of record d, the descriptor of a proper key.
  pub record Updates (p d : ℕ) : Type 0 where
    pub stored : Stored d
    pub proper : ¬ (key_at s m d ≡ 0)
    pub updated : holds (word_of s m d 3) p ≡ true

  -- Session p has the exclusive lock of the entry of record i and, unless that undoes a write, the update lock of its group.
  pub record Secured (p i : ℕ) : Type 0 where
    pub kind : (1 ≤ kind_of s m i) × (kind_of s m i ≤ 3)
    pub entry : (1 ≤ entry-of s m i) × (entry-of s m i ≤ m)
    pub excluded : holds (entry_word s (entry-of s m i) 2) p ≡ true
    pub group : ¬ (kind_of s m i ≡ 1) → Updates p (group_of s m i)

  -- The marks tell the stored descriptors.
  pub record Tells (marks : List ℕ) : Type 0 where
    pub met : (d : ℕ) → is_met marks r d descriptor_mark ≡ true → Stored d
    pub marked : (d : ℕ) → Stored d → is_met marks r d descriptor_mark ≡ true

  module _ (marks : List ℕ) (tells : Tells marks) (p : ℕ) where
    held-updates : (d : ℕ) → group_held s marks m r p d ≡ true → Updates p d
    unfolding group_held decode_descriptor
    held-updates d h =
        let x = (and_both (is_met marks r d descriptor_mark && not (eqb (key_at s m d) 0)) (holds (word_of s m d 3) p)).0 h in
        let y = (and_both (is_met marks r d descriptor_mark) (not (eqb (key_at s m d) 0))).0 x.0 in
        record { stored = tells.met d y.0; proper = eqb-false (key_at s m d) 0 (not-true (eqb (key_at s m d) 0) y.1); updated = x.1 }

    updates-held : (d : ℕ) → Updates p d → group_held s marks m r p d ≡ true
    unfolding group_held decode_descriptor
    updates-held d u =
        (and_both (is_met marks r d descriptor_mark && not (eqb (key_at s m d) 0)) (holds (word_of s m d 3) p)).1
        ((and_both (is_met marks r d descriptor_mark) (not (eqb (key_at s m d) 0))).1 (tells.marked d u.stored, ap not (ne_eqb (key_at s m d) 0 u.proper)), u.updated)

    module _ (i : ℕ) where
      abbrev asked : Bool
      asked = eqb (kind_of s m i) 1 || group_held s marks m r p (group_of s m i)

      -- That is what the test asks of each record.
      pub needed-secured : undo_ok s marks m r p i ≡ true → Secured p i
      unfolding undo_ok decode_undo
      needed-secured o =
          let x = (and_both (entry_ok (entry-of s m i) m && kind_ok (kind_of s m i) && holds (entry_word s (entry-of s m i) 2) p) asked).0 o in
          let y = (and_both (entry_ok (entry-of s m i) m && kind_ok (kind_of s m i)) (holds (entry_word s (entry-of s m i) 2) p)).0 x.0 in
          let z = (and_both (entry_ok (entry-of s m i) m) (kind_ok (kind_of s m i))).0 y.0 in
          record {
            kind = kind-range (kind_of s m i) z.1;
            entry = entry_in (entry-of s m i) m z.0;
            excluded = y.1;
            group = λ n. go n ((or-either (eqb (kind_of s m i) 1) (group_held s marks m r p (group_of s m i))).0 x.1);
          }
        where
          go : ¬ (kind_of s m i ≡ 1) → (eqb (kind_of s m i) 1 ≡ true) ⊎ (group_held s marks m r p (group_of s m i) ≡ true) → Updates p (group_of s m i)
          go n (inl e) = absurd (n (eqb-true (kind_of s m i) 1 e))
          go n (inr e) = held-updates (group_of s m i) e

      pub secured-needed : Secured p i → undo_ok s marks m r p i ≡ true
      unfolding undo_ok decode_undo
      secured-needed S =
          (and_both (entry_ok (entry-of s m i) m && kind_ok (kind_of s m i) && holds (entry_word s (entry-of s m i) 2) p) asked).1 (
            (and_both (entry_ok (entry-of s m i) m && kind_ok (kind_of s m i)) (holds (entry_word s (entry-of s m i) 2) p)).1 (
              (and_both (entry_ok (entry-of s m i) m) (kind_ok (kind_of s m i))).1
                  (range-entry (entry-of s m i) m S.entry.0 S.entry.1, range-kind (kind_of s m i) S.kind.0 S.kind.1),
              S.excluded,
            ),
            (or-either (eqb (kind_of s m i) 1) (group_held s marks m r p (group_of s m i))).1 (go (ℕ_discrete (kind_of s m i) 1)),
          )
        where
          go : Dec (kind_of s m i ≡ 1) → (eqb (kind_of s m i) 1 ≡ true) ⊎ (group_held s marks m r p (group_of s m i) ≡ true)
          go (yes e) = inl (eq-eqb (kind_of s m i) 1 e)
          go (no n) = inr (updates-held (group_of s m i) (S.group n))

  -- ---- in the meaning

  module _ (t : List Session) where
    abbrev σ : State
    σ = meaning s t

    -- Who excludes an entry.
    pub excluder : (p e : ℕ) → 1 ≤ e → e ≤ m → holders σ L.entry strong p e ≡ holds (entry_word s e 2) p
    excluder p e a b = ap (λ (x : Entry). holds x.exclusive p) (entry-meaning s t e a b)

    range-found : (p e : ℕ) → (1 ≤ e) × (e ≤ length σ.entries) → holders σ L.entry strong p e ≡ true → ((1 ≤ e) × (e ≤ m)) × (holds (entry_word s e 2) p ≡ true)
    range-found p e h x = let b : e ≤ m = omega (arith, h.1, entries-meaning s t) in ((h.0, b), sym (excluder p e h.0 b) ∙ x)

    pub range-meant : (p e : ℕ) → (1 ≤ e) × (e ≤ m) → holds (entry_word s e 2) p ≡ true → ((1 ≤ e) × (e ≤ length σ.entries)) × (holders σ L.entry strong p e ≡ true)
    range-meant p e h x = ((h.0, omega (arith, h.1, entries-meaning s t)), excluder p e h.0 h.1 ∙ x)

    -- What the meaning undoes by a record.
    pub data Sort (i : ℕ) : Type 0 where
      writes : kind_of s m i ≡ 1 → undo_at s m i ≡ value (entry-of s m i) (saved_of s m i) → Sort i
      adds : ¬ (kind_of s m i ≡ 1) → kind_of s m i ≡ 2 → undo_at s m i ≡ added (entry-of s m i) (key_at s m (group_of s m i)) → Sort i
      takes : ¬ (kind_of s m i ≡ 1) → ¬ (kind_of s m i ≡ 2) → undo_at s m i ≡ taken (entry-of s m i) (key_at s m (group_of s m i)) → Sort i

    pub sort : (i : ℕ) → Sort i
    sort i = go (ℕ_discrete (kind_of s m i) 1) (ℕ_discrete (kind_of s m i) 2)
      where
        go : Dec (kind_of s m i ≡ 1) → Dec (kind_of s m i ≡ 2) → Sort i
        go (yes a) b = writes a (simp (eq-eqb (kind_of s m i) 1 a))
        go (no a) (yes b) = adds a b (simp (ne_eqb (kind_of s m i) 1 a, eq-eqb (kind_of s m i) 2 b))
        go (no a) (no b) = takes a b (simp (ne_eqb (kind_of s m i) 1 a, ne_eqb (kind_of s m i) 2 b))

    module _ (lo hi : ℕ) (rises : Rises lo hi (lvs (meaning s t))) where
      leaves-rise : Rises lo hi (descs (leaves_of s))
      leaves-rise = subst (Rises lo hi) (leaves-meant s t) rises

      -- A stored descriptor is that of its key.
      pub stored-named : (d : ℕ) → Stored d → record_of (key_at s m d) (leaves_of s) ≡ d
      stored-named d w = (leaf-found s m r lo hi (leaves_of s) (leaves-read s) leaves-rise d w).named

      -- Who has the update lock of its group.
      updater : (p d : ℕ) → Stored d → holders σ L.group strong p (key_at s m d) ≡ holds (word_of s m d 3) p
      updater p d w = ap (λ (x : ℕ). holds x p) (leaf-update s m r (leaves_of s) (leaves-read s) lo hi leaves-rise σ (leaves-meant s t) d w)

      -- The group of its key.
      pub group-meant : (d : ℕ) → Stored d → group_in (key_at s m d) (seen σ) ≡ (desc_at s m r d).members
      group-meant d w = leaf-group s m r (leaves_of s) (leaves-read s) lo hi leaves-rise σ (leaves-meant s t) d w

      pub secured-holding : (p i : ℕ) → Secured p i → ¬ (kind_of s m i ≡ 1) → Holding p σ (entry-of s m i) (key_at s m (group_of s m i))
      secured-holding p i S n =
          let e = range-meant p (entry-of s m i) S.entry S.excluded in
          let u = S.group n in
          let d = group_of s m i in
          record {
            entry_held = e.1;
            in_store = e.0;
            proper_key = let z = u.proper in omega arith;
            key_stored = leaf-stored s m r (leaves_of s) (leaves-read s) lo hi leaves-rise σ (leaves-meant s t) d u.stored;
            group-held = updater p d u.stored ∙ u.updated;
          }

      holding-updates : (p e d : ℕ) → d ≡ record_of (key_at s m d) (leaves_of s) → Holding p σ e (key_at s m d) → Updates p d
      holding-updates p e d q H =
          let w : Stored d = subst Stored (sym q) (record-leaf s m r (key_at s m d) (leaves_of s) (leaves-read s) (subst (λ x. stored_in (key_at s m d) x ≡ true) (leaves-meant s t) H.key_stored)).0 in
          record { stored = w; proper = λ z. omega (arith, z, H.proper_key); updated = sym (updater p d w) ∙ H.group-held }

      -- A chain that can be undone has what its records need.
      pub words-secured : (p : ℕ) (l : List ℕ) (g : Lists) (c : Cells) → UndoWords s l g → Undoable p σ (map (undo_at s m) l) c → All (Secured p) l
      words-secured p [] g c w u = tt
      words-secured p (i ∷ l) g c w u = go (sort i) (λ b. words-secured p l _ b w.3)
        where
          held : Holding p σ (entry-of s m i) (key_at s m (group_of s m i)) → ¬ (kind_of s m i ≡ 1) → Secured p i
          held H n =
              let e = range-found p (entry-of s m i) H.in_store H.entry_held in
              record { kind = w.0; entry = e.0; excluded = e.1; group = λ z. holding-updates p (entry-of s m i) (group_of s m i) (w.1 n) H }

          go : Sort i → ((b : Cells) → Undoable p σ (map (undo_at s m) l) b → All (Secured p) l) → Secured p i × All (Secured p) l
          go (writes k q) ih =
              let v = subst (λ x. Undoable p σ (x ∷ map (undo_at s m) l) c) q u in
              let e = range-found p (entry-of s m i) v.1 v.0 in
              (record { kind = w.0; entry = e.0; excluded = e.1; group = λ n. absurd (n k) }, ih c v.2)
          go (adds n k q) ih =
              let v = subst (λ x. Undoable p σ (x ∷ map (undo_at s m) l) c) q u in (held v.0 n, ih _ v.2)
          go (takes n k q) ih =
              let v = subst (λ x. Undoable p σ (x ∷ map (undo_at s m) l) c) q u in (held v.0 n, ih _ v.2)
