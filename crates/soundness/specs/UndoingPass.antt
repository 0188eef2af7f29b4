-- The test undoes the undo records group by group, on stamps; document 01 undoes each session's chain, newest first. The two are the same: the records of
-- one cell (a group and an entry) belong to one session, which alone excludes the entry, and each way of undoing is a condition on each cell alone.
use Rattle.std.specs.Prelude.{◌≡◌, Bool, true, false, cond, ◌⊎◌, ◌↔◌, ℕ, zero, suc, ◌+◌, ◌≤◌, ◌<◌, length, get_or}
use Rattle.std.proofs.Math.Path.{refl}
use Rattle.std.proofs.Common.{sym, ap, subst, ◌∙◌, inl, inr, arith}
use Rattle.std.proofs.lemmas.Bool.{false≢true}
use mathlib.Core.List.{List, [], ◌∷◌, ◌++◌, map}
use Rattle.std.proofs.Math.Decide.{ℕ_discrete, dec_le}
use Rattle.std.proofs.Math.ListN.{get_or-eq_default}
use Rattle.serial.specs.Locks.{strong}
use Rattle.serial.specs.Locks as L
use Rattle.locks.specs.Holders.{width}
use Rattle.sessions.specs.declared.Session.{Session}
use Rattle.sessions.specs.Sessions.{idle_session, session_at}
use Rattle.machine.specs.State.{State, idle, session_of}
use Rattle.machine.specs.View.{holders}
use Rattle.machine.specs.Groups.{Rises}
use Rattle.machine.specs.Housekeeping.{lvs}
use Rattle.machine.specs.Steps.{rule}
use Rattle.machine.specs.Sound.{cells, Undoable}
use Rattle.meaning.specs.Reading.{Leaf, chain, Chained, undo_at, sessions_of, M-of, R-of, meaning}
use Rattle.meaning.specs.Sound.{All, leaves_of, Members, lists, UndoWords}
use Rattle.marks.specs.Marks.{descriptor_mark}
use Rattle.marks.specs.Steps.{met-in}
use Rattle.soundness.specs.Marking.{all_append, all-as, all_in, all_from}
use Rattle.soundness.specs.Chains.{chain-is}
use Rattle.soundness.specs.HeldTests.{EntriesHeld}
use Rattle.soundness.specs.UndosPass.{of_group, Needed, chain-of, chains_from, EachSession}
use Rattle.soundness.specs.Leaves.{stored_records}
use Rattle.soundness.specs.MembersHeld.{chained-some, all_map}
use Rattle.soundness.specs.GroupsHeld.{GroupUndoes}
use Rattle.soundness.specs.UndoCells.{entry-of, changes, cell, Fits, fits-append, append-fits, cell-of, undoes-fits, fits-undoes}
use Rattle.soundness.specs.UndoNeeds.{Stored, Secured, Tells, needed-secured, secured-needed, excluder, words-secured}
use Rattle.soundness.specs.UndoChanges.{Alike, alike-meant, EachFits, words-fit, fit_words, fit-undoable}

module _ (s : List ℕ) (t : List Session) where
  abbrev m : ℕ
  m = M-of s

  abbrev r : ℕ
  r = R-of s

  abbrev σ : State
  σ = meaning s t

  -- Session p's chain.
  abbrev us : ℕ → List ℕ
  us p = chain-of s m r t p

  -- Every session's chain can be undone, newest first,
  abbrev pub BySession : Type 0
  BySession = (p : ℕ) → 1 ≤ p → p ≤ width → UndoWords s (us p) (lists s) × Undoable p σ (session_of p σ).undos (cells σ)

  -- and every group's undo records, in the order of the sessions.
  abbrev pub ByGroup : m ≤ 1024 → Type 0
  ByGroup small = All (GroupUndoes s small (λ d. of_group s m d (chains_from s m r t 1 width))) (stored_records s)

  -- ---- the sessions' undo records in the meaning

  undos_from : (p : ℕ) (x : List Session) (q : ℕ) → (get_or (sessions_of s m r (suc p) x) q idle).undos ≡ map (undo_at s m) (chain s m r (session_at x q).undo)
  undos_from p [] q = ap (map (undo_at s m)) (sym (chain-is s m r 0 [] refl (omega arith)))
  undos_from p (y ∷ x) zero = refl
  undos_from p (y ∷ x) (suc q) = undos_from (suc p) x q

  pub undos-meant : (p : ℕ) → (session_of (suc p) σ).undos ≡ map (undo_at s m) (us (suc p))
  unfolding meaning session_of
  undos-meant p = go t
    where
      go : (x : List Session) → (get_or (sessions_of s m r 0 x) (suc p) idle).undos ≡ map (undo_at s m) (chain s m r (session_at x (suc p)).undo)
      go [] = undos_from 0 [] p
      go (y ∷ x) = undos_from 0 x p

  undos-zero : (session_of 0 σ).undos ≡ []
  unfolding meaning session_of
  undos-zero = go t
    where
      go : (x : List Session) → (get_or (sessions_of s m r 0 x) 0 idle).undos ≡ []
      go [] = refl
      go (y ∷ x) = refl

  -- No other party has any.
  pub undos-none : length t ≤ suc width → (p : ℕ) → (1 ≤ p → p ≤ width → ⊥) → (session_of p σ).undos ≡ []
  undos-none few zero n = undos-zero
  undos-none few (suc k) n =
      undos-meant k ∙ ap (λ (x : Session). map (undo_at s m) (chain s m r x.undo)) (get_or-eq_default t idle_session (beyond (dec_le (suc k) width)))
      ∙ ap (map (undo_at s m)) (chain-is s m r 0 [] refl (omega arith))
    where
      beyond : Dec (suc k ≤ width) → length t ≤ suc k
      beyond (yes l) = absurd (n (omega arith) l)
      beyond (no l) = omega arith

  -- So all parties' can be undone if the sessions' can.
  undoable-all : length t ≤ suc width → ((p : ℕ) → 1 ≤ p → p ≤ width → Undoable p σ (session_of p σ).undos (cells σ)) → (p : ℕ) → Undoable p σ (session_of p σ).undos (cells σ)
  undoable-all few f p = go (dec_le 1 p) (dec_le p width)
    where
      idle-undoes : (1 ≤ p → p ≤ width → ⊥) → Undoable p σ (session_of p σ).undos (cells σ)
      idle-undoes n = subst (λ x. Undoable p σ x (cells σ)) (sym (undos-none few p n)) tt

      go : Dec (1 ≤ p) → Dec (p ≤ width) → Undoable p σ (session_of p σ).undos (cells σ)
      go (yes a) (yes b) = f p a b
      go (no a) b = idle-undoes (λ x y. a x)
      go (yes a) (no b) = idle-undoes (λ x y. b y)

  -- The fields of `Sound` that say so.
  pub sound-sessions : ((p : ℕ) → suc p ≤ width → UndoWords s (us (suc p)) (lists s)) → ((p : ℕ) → Undoable p σ (session_of p σ).undos (cells σ)) → BySession
  sound-sessions w u zero a b = absurd (omega arith)
  sound-sessions w u (suc p) a b = (w p b, u (suc p))

  pub sessions-sound : length t ≤ suc width → BySession → ((p : ℕ) → suc p ≤ width → UndoWords s (us (suc p)) (lists s)) × ((p : ℕ) → Undoable p σ (session_of p σ).undos (cells σ))
  sessions-sound few f = (λ p b. (f (suc p) (omega arith) b).0, undoable-all few (λ p a b. (f p a b).1))

  -- ---- the pass over the chains

  abbrev pub SessionNeeds : List ℕ → ℕ → Type 0
  SessionNeeds marks p = Chained s m (session_at t p).undo (us p) × All (Needed s m r p marks) (us p)

  each_at : (marks : List ℕ) (n p : ℕ) → EachSession s m r t marks p n → (q : ℕ) → p ≤ q → q < p + n → SessionNeeds marks q
  each_at marks zero p x q a b = absurd (omega (arith, a, b))
  each_at marks (suc n) p x q a b = go (ℕ_discrete p q) (λ c. each_at marks n (p + 1) x.2 q c (omega arith))
    where
      go : Dec (p ≡ q) → (p + 1 ≤ q → SessionNeeds marks q) → SessionNeeds marks q
      go (yes e) ih = subst (SessionNeeds marks) e (x.0, x.1)
      go (no n) ih = ih (omega (arith, n))

  each_from : (marks : List ℕ) (n p : ℕ) → ((q : ℕ) → p ≤ q → q < p + n → SessionNeeds marks q) → EachSession s m r t marks p n
  each_from marks zero p f = tt
  each_from marks (suc n) p f = let x = f p (omega arith) (omega arith) in (x.0, x.1, each_from marks n (p + 1) (λ q a b. f q (omega arith) (omega arith)))

  -- The pass session by session.
  pub each-is : (marks : List ℕ) → EachSession s m r t marks 1 width ↔ ((p : ℕ) → 1 ≤ p → p ≤ width → SessionNeeds marks p)
  each-is marks = (λ x p a b. each_at marks width 1 x p a (omega arith), λ f. each_from marks width 1 (λ p a b. f p a (omega arith)))

  -- Each chain ends, and each of its records has what it needs.
  pub each-secured : (marks : List ℕ) → Tells s marks → EachSession s m r t marks 1 width
      ↔ (((p : ℕ) → suc p ≤ width → Chained s m (session_at t (suc p)).undo (us (suc p))) × ((p : ℕ) → suc p ≤ width → All (Secured s (suc p)) (us (suc p))))
  each-secured marks tells = (
    λ e. (
      λ p h. ((each-is marks).0 e (suc p) (omega arith) h).0,
      λ p h. all-as (needed-secured s marks tells (suc p)) (us (suc p)) ((each-is marks).0 e (suc p) (omega arith) h).1,
    ),
    λ f. (each-is marks).1 (needs f),
  )
    where
      needs : ((p : ℕ) → suc p ≤ width → Chained s m (session_at t (suc p)).undo (us (suc p))) × ((p : ℕ) → suc p ≤ width → All (Secured s (suc p)) (us (suc p)))
          → (p : ℕ) → 1 ≤ p → p ≤ width → SessionNeeds marks p
      needs f zero a b = absurd (omega arith)
      needs f (suc p) a b = (f.0 p b, all-as (secured-needed s marks tells (suc p)) (us (suc p)) (f.1 p b))

  -- Chains that can be undone have what their records need.
  pub sessions-secured : (lo hi : ℕ) → Rises lo hi (lvs σ) → BySession → (p : ℕ) → suc p ≤ width → All (Secured s (suc p)) (us (suc p))
  sessions-secured lo hi rises f p h =
      let x = f (suc p) (omega arith) h in
      words-secured s t lo hi rises (suc p) (us (suc p)) (lists s) (cells σ) x.0 (subst (λ y. Undoable (suc p) σ y (cells σ)) (undos-meant p) x.1)

  -- What the other passes tell: keys rise, the marks tell the descriptors, no two sessions exclude one entry, and the chains of members end.
  pub record Setting (marks : List ℕ) : Type 0 where
    pub rises : Rises 0 4294967296 (lvs σ)
    pub tells : Tells s marks
    pub held : EntriesHeld σ
    pub members : All (λ l. Members s l.num) (leaves_of s)

  module _ (marks : List ℕ) (S : Setting marks) (each : EachSession s m r t marks 1 width) where
    secured : (p : ℕ) → 1 ≤ p → p ≤ width → All (Secured s p) (us p)
    secured p a b = all-as (needed-secured s marks S.tells p) (us p) ((each-is marks).0 each p a b).1

    some-undo : (p : ℕ) → 1 ≤ p → p ≤ width → All (λ i. ¬ (i ≡ 0)) (us p)
    some-undo p a b = chained-some s m (session_at t p).undo (us p) ((each-is marks).0 each p a b).0

    -- ---- one session for each cell

    -- Session p excludes entry e.
    abbrev Owns : ℕ → ℕ → Type 0
    Owns e p = holders σ L.entry strong p e ≡ true

    one-owner : (e p q : ℕ) → Owns e p → Owns e q → p ≡ q
    one-owner e p q a b = go (S.held.agrees strong strong p q e a b)
      where
        go : (p ≡ q) ⊎ (rule L.entry strong strong ≡ true) → p ≡ q
        go (inl z) = z
        go (inr z) = absurd (false≢true z)

    module _ (d e : ℕ) where
      cell-append : (a b : List ℕ) → cell s m d e (a ++ b) ≡ cell s m d e a ++ cell s m d e b
      cell-append [] b = refl
      cell-append (i ∷ a) b = go (changes s m d e i) (cell-append a b)
        where
          go : (o : Bool) → cell s m d e (a ++ b) ≡ cell s m d e a ++ cell s m d e b
              → cond o (i ∷ cell s m d e (a ++ b)) (cell s m d e (a ++ b)) ≡ cond o (i ∷ cell s m d e a) (cell s m d e a) ++ cell s m d e b
          go true q = ap (λ x. i ∷ x) q
          go false q = q

      -- A session that has a record of the cell excludes the entry.
      cell-owned : (p : ℕ) (l : List ℕ) → All (Secured s p) l → (cell s m d e l ≡ []) ⊎ Owns e p
      cell-owned p [] a = inl refl
      cell-owned p (i ∷ l) a = go (changes s m d e i) refl (cell-owned p l a.1)
        where
          go : (o : Bool) → changes s m d e i ≡ o → (cell s m d e l ≡ []) ⊎ Owns e p → (cond o (i ∷ cell s m d e l) (cell s m d e l) ≡ []) ⊎ Owns e p
          go true q ih =
              let z = (cell-of s m d e i q).2 in
              inr (subst (λ x. Owns x p) (sym z) (excluder s t p (entry-of s m i) a.0.entry.0 a.0.entry.1 ∙ a.0.excluded))
          go false q ih = ih

      rest-owned : (n p : ℕ) → 1 ≤ p → p + n ≤ suc width → (cell s m d e (chains_from s m r t p n) ≡ []) ⊎ ((q : ℕ) × (p ≤ q) × Owns e q)
      rest-owned zero p a b = inl refl
      rest-owned (suc n) p a b = go (cell-owned p (us p) (secured p a (omega arith))) (rest-owned n (p + 1) (omega arith) (omega arith))
        where
          go : (cell s m d e (us p) ≡ []) ⊎ Owns e p → (cell s m d e (chains_from s m r t (p + 1) n) ≡ []) ⊎ ((q : ℕ) × (p + 1 ≤ q) × Owns e q)
              → (cell s m d e (us p ++ chains_from s m r t (p + 1) n) ≡ []) ⊎ ((q : ℕ) × (p ≤ q) × Owns e q)
          go (inr o) k = inr (p, omega arith, o)
          go (inl x) (inr k) = inr (k.0, omega (arith, k.1), k.2)
          go (inl x) (inl y) = inl (cell-append (us p) (chains_from s m r t (p + 1) n) ∙ ap (λ z. z ++ cell s m d e (chains_from s m r t (p + 1) n)) x ∙ y)

      parted : (n p : ℕ) → 1 ≤ p → p + suc n ≤ suc width → (cell s m d e (us p) ≡ []) ⊎ (cell s m d e (chains_from s m r t (p + 1) n) ≡ [])
      parted n p a b = go (cell-owned p (us p) (secured p a (omega arith))) (rest-owned n (p + 1) (omega arith) (omega arith))
        where
          go : (cell s m d e (us p) ≡ []) ⊎ Owns e p → (cell s m d e (chains_from s m r t (p + 1) n) ≡ []) ⊎ ((q : ℕ) × (p + 1 ≤ q) × Owns e q)
              → (cell s m d e (us p) ≡ []) ⊎ (cell s m d e (chains_from s m r t (p + 1) n) ≡ [])
          go (inl x) k = inl x
          go (inr o) (inl y) = inr y
          go (inr o) (inr k) = absurd (omega (arith, one-owner e p k.0 o k.2, k.1))

      -- So all records of a cell can be undone exactly if each session's can.
      all-each : (n p w : ℕ) → 1 ≤ p → p + n ≤ suc width → Fits s m (cell s m d e (chains_from s m r t p n)) w → (q : ℕ) → p ≤ q → q < p + n → Fits s m (cell s m d e (us q)) w
      all-each zero p w a b f q x y = absurd (omega (arith, x, y))
      all-each (suc n) p w a b f q x y =
          let rest = chains_from s m r t (p + 1) n in
          let k = fits-append s m (cell s m d e (us p)) (cell s m d e rest) w (parted n p a b) (subst (λ z. Fits s m z w) (cell-append (us p) rest) f) in
          go (ℕ_discrete p q) k.0 (λ z. all-each n (p + 1) w (omega arith) (omega arith) k.1 q z (omega arith))
        where
          go : Dec (p ≡ q) → Fits s m (cell s m d e (us p)) w → (p + 1 ≤ q → Fits s m (cell s m d e (us q)) w) → Fits s m (cell s m d e (us q)) w
          go (yes z) g h = subst (λ j. Fits s m (cell s m d e (us j)) w) z g
          go (no z) g h = h (omega (arith, z))

      each_all : (n p w : ℕ) → 1 ≤ p → p + n ≤ suc width → ((q : ℕ) → p ≤ q → q < p + n → Fits s m (cell s m d e (us q)) w) → Fits s m (cell s m d e (chains_from s m r t p n)) w
      each_all zero p w a b f = tt
      each_all (suc n) p w a b f =
          let rest = chains_from s m r t (p + 1) n in
          subst (λ z. Fits s m z w) (sym (cell-append (us p) rest))
          (append-fits s m (cell s m d e (us p)) (cell s m d e rest) w (parted n p a b) (f p (omega arith) (omega arith))
          (each_all n (p + 1) w (omega arith) (omega arith) (λ q x y. f q (omega arith) (omega arith))))

    inside : (n p : ℕ) → 1 ≤ p → p + n ≤ suc width → All (λ i. (1 ≤ entry-of s m i) × (entry-of s m i ≤ m)) (chains_from s m r t p n)
    inside zero p a b = tt
    inside (suc n) p a b =
        all_append (λ i. (1 ≤ entry-of s m i) × (entry-of s m i ≤ m)) (us p) (chains_from s m r t (p + 1) n)
        (all-as (λ i x. x.entry) (us p) (secured p a (omega arith))) (inside n (p + 1) (omega arith) (omega arith))

    -- ---- the theorem

    alike : Alike s (cells σ) (lists s)
    alike = alike-meant s t 0 4294967296 S.rises (λ d w. (all_in (Members s) (stored_records s) ((all_map (Members s) (λ (l : Leaf). l.num) (leaves_of s)).1 S.members) d w).ends)

    module _ (small : m ≤ 1024) where
      -- The groups, undone one by one, make each session's chain undoable,
      groups-sessions : ByGroup small → BySession
      groups-sessions f zero a b = absurd (omega arith)
      groups-sessions f (suc k) a b = (
        fit_words s t 0 4294967296 S.rises (suc k) (us (suc k)) (lists s) (secured (suc k) a b) fits,
        subst (λ x. Undoable (suc k) σ x (cells σ)) (sym (undos-meant k))
            (fit-undoable s t 0 4294967296 S.rises (suc k) (us (suc k)) (lists s) (cells σ) (some-undo (suc k) a b) (secured (suc k) a b) alike fits),
      )
        where
          fits : EachFits s (us (suc k)) (lists s)
          fits d w e =
              let G = all_in (GroupUndoes s small (λ c. of_group s m c (chains_from s m r t 1 width))) (stored_records s) f d w in
              all-each d e width 1 (lists s d e) (omega arith) (omega arith) (undoes-fits s m d small G.some (chains_from s m r t 1 width) (lists s d) G.undoes e) (suc k) a (omega arith)

      -- and the sessions' chains, if they can be undone, make each group so.
      sessions-groups : BySession → ByGroup small
      sessions-groups f = all_from (stored_records s) group
        where
          fits : (p : ℕ) → 1 ≤ p → p ≤ width → EachFits s (us p) (lists s)
          fits zero a b = absurd (omega arith)
          fits (suc k) a b =
              words-fit s t 0 4294967296 S.rises (suc k) (us (suc k)) (lists s) (cells σ) (some-undo (suc k) a b) (secured (suc k) a b) alike (f (suc k) a b).0
              (subst (λ x. Undoable (suc k) σ x (cells σ)) (undos-meant k) (f (suc k) a b).1)

          group : (d : ℕ) → Stored s d → GroupUndoes s small (λ c. of_group s m c (chains_from s m r t 1 width)) d
          group d w =
              let nd : ¬ (d ≡ 0) = λ z. omega (arith, z, (met-in marks r d descriptor_mark (S.tells.marked d w)).0) in
              record {
                some = nd;
                undoes = fits-undoes s m d small nd (chains_from s m r t 1 width) (lists s d) (inside width 1 (omega arith) (omega arith))
                    (λ e. each_all d e width 1 (lists s d e) (omega arith) (omega arith) (λ p a b. fits p a (omega arith) d w e));
              }

      -- So the two are the same.
      pub undoing-is : ByGroup small ↔ BySession
      undoing-is = (groups-sessions, sessions-groups)
