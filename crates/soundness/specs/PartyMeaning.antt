-- One party's request as the machine's state has it: the checks of put, where it stands, and the machine's clauses for both.
use Rattle.std.specs.Prelude.{◌≡◌, refl, Bool, true, false, cond, not, ◌&&◌, ◌||◌, List, [], ◌∷◌, ◌⊎◌, ℕ, zero, suc, ◌+◌, ◌-◌, ◌≤◌, ◌<◌, eqb, leb, ltb, length, get_or}
use Rattle.std.proofs.Common.{sym, ap, subst, ◌∙◌, inl, inr, arith, eq-eqb, ne_eqb, lt-ltb, le-ltb, eqb-true, leb-true, ltb-false}
use Rattle.std.proofs.Math.Option.{none, some}
use Rattle.std.proofs.Math.Decide.{ℕ_discrete, dec_le}
use Rattle.std.proofs.lemmas.Bool.{lt-leb, eqb-false, not-false}
use Rattle.words.specs.Entries.{entry_word}
use Rattle.sessions.specs.declared.Session.{Session}
use Rattle.sessions.specs.Sessions.{session_at, idle_session}
use Rattle.locks.specs.Holders.{holds}
use Rattle.serial.specs.Locks.{weak, strong}
use Rattle.serial.specs.Locks as L
use Rattle.machine.specs.State.{Stage, start, enter, at, change, take, Request, State, top, no_entry, idle, entry_of, session_of}
use Rattle.machine.specs.Calls.{bad_code, bad_entry, bad_key, infinite, request_checks}
use Rattle.machine.specs.View.{holders, seen}
use Rattle.machine.specs.Housekeeping.{lvs}
use Rattle.machine.specs.Sound.{gap_word, stored_in, Passes, Changing, Descends, to-change, to_first, to-second, to_choice, Stands}
use Rattle.machine.specs.Checks.{checked-entry, checked-first, checked-second, checked-order}
use Rattle.meaning.specs.Reading.{entries_of, sessions_of, hand_of, stage_of, M-of, R-of, meaning}
use Rattle.marks.specs.Steps.{no as never, both}
use Rattle.soundness.specs.PartyRequests.{ChangeStage, LocateStage, TidyStage, Proper, EntryIn, Walking, Last, Asks, asks_value, asks_change, asks_locate, asks_tidy, walking-range}

-- ---- the state that the words mean

entries-get : (s : List ℕ) (n e i j : ℕ) → i < n → e + i ≡ j → (get_or (entries_of s e n) i no_entry).exclusive ≡ entry_word s j 2
entries-get s zero e i j h q = absurd (omega (arith, h))
entries-get s (suc n) e zero j h q = ap (λ (k : ℕ). entry_word s k 2) (omega (arith, q))
entries-get s (suc n) e (suc i) j h q = entries-get s n (suc e) i j (omega (arith, h)) (omega (arith, q))

pub meaning-exclusive : (s : List ℕ) (t : List Session) (e : ℕ) → EntryIn e (M-of s) → (entry_of e (meaning s t)).exclusive ≡ entry_word s e 2
unfolding entry_of meaning
meaning-exclusive s t zero h = absurd (omega (arith, h.0))
meaning-exclusive s t (suc e) h = entries-get s (M-of s) 1 e (suc e) (omega (arith, h.1)) (omega arith)

module _ (s : List ℕ) (m r : ℕ) where
  hands-get : (t : List Session) (q p : ℕ) → (get_or (sessions_of s m r q t) p idle).hand ≡ hand_of (get_or t p idle_session)
  hands-get [] q p = refl
  hands-get (x ∷ t) zero zero = refl
  hands-get (x ∷ t) (suc q) zero = refl
  hands-get (x ∷ t) q (suc p) = hands-get t (suc q) p

  begun-get : (t : List Session) (q p : ℕ) → (get_or (sessions_of s m r (suc q) t) p idle).begun ≡ not (eqb (get_or t p idle_session).begun 0)
  begun-get [] q p = refl
  begun-get (x ∷ t) q zero = refl
  begun-get (x ∷ t) q (suc p) = begun-get t (suc q) p

  begun-next : (t : List Session) (p : ℕ) → (get_or (sessions_of s m r zero t) (suc p) idle).begun ≡ not (eqb (get_or t (suc p) idle_session).begun 0)
  begun-next [] p = refl
  begun-next (x ∷ t) p = begun-get t zero p

pub meaning-hand : (s : List ℕ) (t : List Session) (p : ℕ) → (session_of p (meaning s t)).hand ≡ hand_of (session_at t p)
unfolding session_of meaning
meaning-hand s t p = hands-get s (M-of s) (R-of s) t zero p

pub meaning-begun : (s : List ℕ) (t : List Session) (p : ℕ) → (session_of (suc p) (meaning s t)).begun ≡ not (eqb (session_at t (suc p)).begun 0)
unfolding session_of meaning
meaning-begun s t p = begun-next s (M-of s) (R-of s) t p

-- ---- stages

abbrev pub request_of : Session → Request
request_of x = record { code = x.code; entry = x.entry; first = x.first; second = x.second; stage = stage_of x }

-- Where a locate's scan is next.
abbrev pub next_of : Session → ℕ
next_of x = cond (eqb x.last 0) x.first (suc x.last)

pub hand-some : (x : Session) → ¬ (x.stage ≡ 0) → hand_of x ≡ some (request_of x)
hand-some x n = simp (ne_eqb x.stage 0 n)

pub hand-none : (x : Session) → x.stage ≡ 0 → hand_of x ≡ none
hand-none x e = simp (eq-eqb x.stage 0 e)

module _ (x : Session) where
  pub stage-1 : x.stage ≡ 1 → stage_of x ≡ start
  stage-1 e = simp (eq-eqb x.stage 1 e)

  pub stage-2 : x.stage ≡ 2 → stage_of x ≡ enter x.target
  stage-2 e = simp (ne_eqb x.stage 1 (λ q. omega (arith, q, e)), eq-eqb x.stage 2 e)

  pub stage-3 : x.stage ≡ 3 → stage_of x ≡ at x.target
  stage-3 e = simp (ne_eqb x.stage 1 (λ q. omega (arith, q, e)), ne_eqb x.stage 2 (λ q. omega (arith, q, e)), eq-eqb x.stage 3 e)

  pub stage-4 : x.stage ≡ 4 → stage_of x ≡ change
  stage-4 e =
      simp (ne_eqb x.stage 1 (λ q. omega (arith, q, e)), ne_eqb x.stage 2 (λ q. omega (arith, q, e)), ne_eqb x.stage 3 (λ q. omega (arith, q, e)), eq-eqb x.stage 4 e)

  pub stage-5 : x.stage ≡ 5 → stage_of x ≡ take (next_of x)
  stage-5 e =
      simp (ne_eqb x.stage 1 (λ q. omega (arith, q, e)), ne_eqb x.stage 2 (λ q. omega (arith, q, e)), ne_eqb x.stage 3 (λ q. omega (arith, q, e)), ne_eqb x.stage 4 (λ q. omega (arith, q, e)))

pub data Staged (x : Session) : Type 0 where
  staged_1 : x.stage ≡ 1 → Staged x
  staged_2 : x.stage ≡ 2 → Staged x
  staged_3 : x.stage ≡ 3 → Staged x
  staged_4 : x.stage ≡ 4 → Staged x
  staged_5 : x.stage ≡ 5 → Staged x

pub staged : (x : Session) → ¬ (x.stage ≡ 0) → x.stage ≤ 5 → Staged x
staged x n few = go (omega (arith, n)) (dec_le x.stage 1) (dec_le x.stage 2) (dec_le x.stage 3) (dec_le x.stage 4)
  where
    go : 1 ≤ x.stage → Dec (x.stage ≤ 1) → Dec (x.stage ≤ 2) → Dec (x.stage ≤ 3) → Dec (x.stage ≤ 4) → Staged x
    go l (yes a) b c d = staged_1 (omega (arith, l, a))
    go l (no a) (yes b) c d = staged_2 (omega (arith, a, b))
    go l (no a) (no b) (yes c) d = staged_3 (omega (arith, b, c))
    go l (no a) (no b) (no c) (yes d) = staged_4 (omega (arith, c, d))
    go l (no a) (no b) (no c) (no d) = staged_5 (omega (arith, d, few))

-- ---- the checks of put

pub neither : (a b : Bool) → (a || b) ≡ false → (a ≡ false) × (b ≡ false)
neither true b e = never (sym e)
neither false b e = (refl, e)

pub neither-is : (a b : Bool) → a ≡ false → b ≡ false → (a || b) ≡ false
neither-is true b e q = never (sym e)
neither-is false b e q = q

not-both : (a b : Bool) → (a ≡ true → b ≡ false) → (a && b) ≡ false
not-both true b f = f refl
not-both false b f = refl

-- A test that is false, or else its number is as said.
eq-or : (a b : ℕ) (c : Bool) → (a ≡ b → c ≡ false) → (eqb a b && c) ≡ false
eq-or a b c f = not-both (eqb a b) c (λ e. f (eqb-true a b e))

-- What the check of the code says.
pub record Coded (p c : ℕ) : Type 0 where
  pub least : 1 ≤ c
  pub most : c ≤ 6
  pub keeper : c ≡ 6 → p ≡ 0
  pub session : c < 6 → ¬ (p ≡ 0)

code_of : (p c : ℕ) → bad_code p c ≡ false → Coded p c
code_of p c e =
    let u = neither (eqb c 0 || ltb 6 c || (eqb c 6 && not (eqb p 0))) (ltb c 6 && eqb p 0) e in
    let v = neither (eqb c 0 || ltb 6 c) (eqb c 6 && not (eqb p 0)) u.0 in
    let w = neither (eqb c 0) (ltb 6 c) v.0 in
    record {
      least = let z : c ≡ 0 → ⊥ = eqb-false c 0 w.0 in omega (arith, z);
      most = ltb-false 6 c w.1;
      keeper = λ q. eqb-true p 0 (not-false (eqb p 0) (first (eqb c 6) (not (eqb p 0)) (eq-eqb c 6 q) v.1));
      session = λ h. eqb-false p 0 (first (ltb c 6) (eqb p 0) (lt-ltb c 6 h) u.1);
    }
  where
    first : (a b : Bool) → a ≡ true → (a && b) ≡ false → b ≡ false
    first true b q k = k
    first false b q k = never q

code_is : (p c : ℕ) → Coded p c → bad_code p c ≡ false
code_is p c C =
    neither-is (eqb c 0 || ltb 6 c || (eqb c 6 && not (eqb p 0))) (ltb c 6 && eqb p 0)
    (neither-is (eqb c 0 || ltb 6 c) (eqb c 6 && not (eqb p 0))
    (neither-is (eqb c 0) (ltb 6 c) (ne_eqb c 0 (λ q. omega (arith, q, C.least))) (le-ltb 6 c C.most))
    (eq-or c 6 (not (eqb p 0)) (λ q. ap not (eq-eqb p 0 (C.keeper q)))))
    (go (ℕ_discrete c 6))
  where
    go : Dec (c ≡ 6) → (ltb c 6 && eqb p 0) ≡ false
    go (yes q) = not-both (ltb c 6) (eqb p 0) (λ h. never (sym (le-ltb c 6 (omega (arith, q))) ∙ h))
    go (no n) = not-both (ltb c 6) (eqb p 0) (λ h. ne_eqb p 0 (C.session (omega (arith, n, C.most))))

proper_is : (k : ℕ) → Proper k → infinite k ≡ false
proper_is k p = neither-is (eqb k 0) (leb top k) (ne_eqb k 0 (λ q. omega (arith, q, p.0))) (lt-leb top k p.1)

-- The checks of put, for a request in hand.
abbrev pub Checked : ℕ → Session → State → Type 0
Checked p x S = Passes (request_checks p x.code x.entry x.first x.second S)

pub record Argued (p : ℕ) (x : Session) (m : ℕ) : Type 0 where
  pub coded : Coded p x.code
  pub entry : x.code ≤ 4 → EntryIn x.entry m
  pub first : 3 ≤ x.code → x.code ≤ 5 → Proper x.first
  pub second : x.code ≡ 5 → Proper x.second
  pub order : x.code ≡ 5 → x.first ≤ x.second

module _ (p : ℕ) (x : Session) (S : State) (m : ℕ) (many : length S.entries ≡ m) where
  pub argued : Checked p x S → Argued p x m
  argued c = record {
    coded = code_of p x.code c.0;
    entry = λ h. subst (EntryIn x.entry) many (checked-entry p x.code x.entry x.first x.second S c h);
    first = λ a b. checked-first p x.code x.entry x.first x.second S c a b;
    second = λ q. checked-second p x.code x.entry x.first x.second S c q;
    order = λ q. checked-order p x.code x.entry x.first x.second S c q;
  }

  pub checks : Argued p x m → Checked p x S
  checks a = (code_is p x.code a.coded, (entry-ok, (keys-ok, (order-ok, tt))))
    where
      entry-ok : bad_entry x.code x.entry S ≡ false
      entry-ok = not-both (leb x.code 4) _ (λ h.
          let e = a.entry (leb-true x.code 4 h) in
          neither-is (eqb x.entry 0) (ltb (length S.entries) x.entry) (ne_eqb x.entry 0 (λ q. omega (arith, q, e.0)))
          (le-ltb (length S.entries) x.entry (omega (arith, e.1, many))))

      keys-ok : bad_key x.code x.first x.second ≡ false
      keys-ok =
          neither-is (leb 3 x.code && leb x.code 5 && infinite x.first) (eqb x.code 5 && infinite x.second)
          (not-both (leb 3 x.code && leb x.code 5) (infinite x.first) (λ h.
          let u = both (leb 3 x.code) (leb x.code 5) h in
          proper_is x.first (a.first (leb-true 3 x.code u.0) (leb-true x.code 5 u.1))))
          (eq-or x.code 5 (infinite x.second) (λ q. proper_is x.second (a.second q)))

      order-ok : (eqb x.code 5 && ltb x.second x.first) ≡ false
      order-ok = eq-or x.code 5 _ (λ q. le-ltb x.second x.first (a.order q))

-- ---- where a request stands, but for what a locate holds of the keys that it has passed

pub record Scans (r : Request) (x : ℕ) : Type 0 where
  pub code_5 : r.code ≡ 5
  pub from_first : r.first ≤ x
  pub to-second : x ≤ r.second

abbrev pub StandsBut : ℕ → State → Request → Stage → Type 0
StandsBut p S r start = ¬ (r.code ≡ 5)
StandsBut p S r (enter x) = Descends p S r x
StandsBut p S r (at x) = Descends p S r x
StandsBut p S r change = Changing p S r
StandsBut p S r (take x) = Scans r x

pub stands-but : (p : ℕ) (S : State) (r : Request) (g : Stage) → Stands p S r g → StandsBut p S r g
stands-but p S r start d = d
stands-but p S r (enter x) d = d
stands-but p S r (at x) d = d
stands-but p S r change d = d
stands-but p S r (take x) d = record { code_5 = d.code_5; from_first = d.from_first; to-second = d.to-second }

-- What is held of the keys passed.
pub record HoldsPassed (p : ℕ) (S : State) (r : Request) (x : ℕ) : Type 0 where
  pub held : (k : ℕ) → r.first ≤ k → k < x → holders S L.group weak p k ≡ true
  pub ahead : r.first < x → holds (gap_word (x - 1) (seen S)) p ≡ true

pub stands_from : (p : ℕ) (S : State) (r : Request) (g : Stage) → StandsBut p S r g → ((x : ℕ) → g ≡ take x → HoldsPassed p S r x) → Stands p S r g
stands_from p S r start d h = d
stands_from p S r (enter x) d h = d
stands_from p S r (at x) d h = d
stands_from p S r change d h = d
stands_from p S r (take x) d h = record { code_5 = d.code_5; from_first = d.from_first; to-second = d.to-second; held = (h x refl).held; ahead = (h x refl).ahead }

-- ---- the two forms of a request that stands where its steps can bring it

-- What is asked beside code, arguments and stage: an insert or remove past its start has its entry's exclusive lock, a choice is stored.
pub record Backed (p : ℕ) (x : Session) (S : State) : Type 0 where
  pub excludes : 3 ≤ x.code → x.code ≤ 4 → ¬ (x.stage ≡ 1) → holders S L.entry strong p x.entry ≡ true
  pub chosen : x.code ≡ 6 → ¬ (x.stage ≡ 1) → stored_in x.target (lvs S) ≡ true

-- The last key that a locate took is none, or from first on.
abbrev pub Lasting : Session → Type 0
Lasting x = x.stage ≡ 5 → (x.last ≡ 0) ⊎ (x.first ≤ x.last)

module _ (p : ℕ) (x : Session) (S : State) (m : ℕ) (in_hand : ¬ (x.stage ≡ 0)) where
  sessions-code : Argued p x m → 3 ≤ x.code → x.code ≤ 5 → ¬ (p ≡ 0)
  sessions-code a l h = a.coded.session (omega (arith, h))

  changes-from : Argued p x m → 3 ≤ x.code → x.code ≤ 4 → ChangeStage x → Asks p x m
  changes-from a l h g =
      asks_change (sessions-code a l (omega (arith, h))) (record { least = l; most = h; entry = a.entry h; key = a.first l (omega (arith, h)); stands = g })

  locates-from : Argued p x m → x.code ≡ 5 → LocateStage x → Asks p x m
  locates-from a c g =
      asks_locate (sessions-code a (omega (arith, c)) (omega (arith, c)))
      (record { code = c; first = a.first (omega (arith, c)) (omega (arith, c)); second = a.second c; order = a.order c; stands = g })

  tidies-from : Argued p x m → x.code ≡ 6 → TidyStage x → Asks p x m
  tidies-from a c g = asks_tidy (a.coded.keeper c) (record { code = c; stands = g })

  starts : Argued p x m → x.stage ≡ 1 → ¬ (x.code ≡ 5) → Asks p x m
  starts a e n = go (ℕ_discrete x.code 6) (dec_le x.code 2)
    where
      go : Dec (x.code ≡ 6) → Dec (x.code ≤ 2) → Asks p x m
      go (yes c) d = tidies-from a c (inl e)
      go (no c) (yes d) =
          asks_value (a.coded.session (omega (arith, d))) (record { least = a.coded.least; most = d; entry = a.entry (omega (arith, d)); stage = e })
      go (no c) (no d) = changes-from a (omega (arith, d)) (omega (arith, c, n, a.coded.most)) (inl e)

  descends : Argued p x m → Walking x → Descends p S (request_of x) x.target → Asks p x m
  descends a g (to-change c e) = changes-from a c.code_3_4.0 c.code_3_4.1 (inr (inr (g, e)))
  descends a g (to_first c e) = locates-from a c (inr (g, inl e))
  descends a g (to-second c e) = locates-from a c (inr (g, inr e))
  descends a g (to_choice c) = tidies-from a c.code_6 (inr (g, c.above))

  scans : Argued p x m → x.stage ≡ 5 → Lasting x → Scans (request_of x) (next_of x) → Asks p x m
  scans a e l c = locates-from a c.code_5 (inl (e, go (ℕ_discrete x.last 0) (l e)))
    where
      past : ¬ (x.last ≡ 0) → next_of x ≡ suc x.last
      past n = simp (ne_eqb x.last 0 n)

      go : Dec (x.last ≡ 0) → (x.last ≡ 0) ⊎ (x.first ≤ x.last) → Last x
      go (yes z) o = inl z
      go (no n) (inl z) = inl z
      go (no n) (inr o) = inr (o, omega (arith, past n, c.to-second))

  pub asks-from : x.stage ≤ 5 → Argued p x m → StandsBut p S (request_of x) (stage_of x) → Lasting x → Asks p x m
  asks-from few a d l = go (staged x in_hand few)
    where
      stood : (g : Stage) → stage_of x ≡ g → StandsBut p S (request_of x) g
      stood g e = subst (StandsBut p S (request_of x)) e d

      go : Staged x → Asks p x m
      go (staged_1 e) = starts a e (stood start (stage-1 x e))
      go (staged_2 e) = descends a (inl e) (stood (enter x.target) (stage-2 x e))
      go (staged_3 e) = descends a (inr e) (stood (at x.target) (stage-3 x e))
      go (staged_4 e) = let c = stood change (stage-4 x e) in changes-from a c.code_3_4.0 c.code_3_4.1 (inr (inl e))
      go (staged_5 e) = scans a e l (stood (take (next_of x)) (stage-5 x e))

  -- ---- and back

  pub asks-argued : Asks p x m → Argued p x m
  asks-argued (asks_value n v) = record {
    coded = record { least = v.least; most = omega (arith, v.most); keeper = λ q. absurd (omega (arith, q, v.most)); session = λ h. n };
    entry = λ h. v.entry;
    first = λ a b. absurd (omega (arith, a, v.most));
    second = λ q. absurd (omega (arith, q, v.most));
    order = λ q. absurd (omega (arith, q, v.most));
  }
  asks-argued (asks_change n c) = record {
    coded = record { least = omega (arith, c.least); most = omega (arith, c.most); keeper = λ q. absurd (omega (arith, q, c.most)); session = λ h. n };
    entry = λ h. c.entry;
    first = λ a b. c.key;
    second = λ q. absurd (omega (arith, q, c.most));
    order = λ q. absurd (omega (arith, q, c.most));
  }
  asks-argued (asks_locate n l) = let e = l.code in record {
    coded = record { least = omega (arith, e); most = omega (arith, e); keeper = λ q. absurd (omega (arith, q, e)); session = λ h. n };
    entry = λ h. absurd (omega (arith, h, e));
    first = λ a b. l.first;
    second = λ q. l.second;
    order = λ q. l.order;
  }
  asks-argued (asks_tidy z d) = let e = d.code in record {
    coded = record { least = omega (arith, e); most = omega (arith, e); keeper = λ q. z; session = λ h. absurd (omega (arith, h, e)) };
    entry = λ h. absurd (omega (arith, h, e));
    first = λ a b. absurd (omega (arith, b, e));
    second = λ q. absurd (omega (arith, q, e));
    order = λ q. absurd (omega (arith, q, e));
  }

  pub asks-few : Asks p x m → x.stage ≤ 5
  asks-few (asks_value n v) = omega (arith, v.stage)
  asks-few (asks_change n c) = go c.stands
    where
      go : ChangeStage x → x.stage ≤ 5
      go (inl e) = omega (arith, e)
      go (inr (inl e)) = omega (arith, e)
      go (inr (inr e)) = omega (arith, (walking-range x e.0).1)
  asks-few (asks_locate n l) = go l.stands
    where
      go : LocateStage x → x.stage ≤ 5
      go (inl e) = omega (arith, e.0)
      go (inr e) = omega (arith, (walking-range x e.0).1)
  asks-few (asks_tidy z d) = go d.stands
    where
      go : TidyStage x → x.stage ≤ 5
      go (inl e) = omega (arith, e)
      go (inr e) = omega (arith, (walking-range x e.0).1)

  pub asks-last : Asks p x m → Lasting x
  asks-last (asks_value n v) e = absurd (omega (arith, e, v.stage))
  asks-last (asks_change n c) e = go c.stands
    where
      go : ChangeStage x → (x.last ≡ 0) ⊎ (x.first ≤ x.last)
      go (inl q) = absurd (omega (arith, e, q))
      go (inr (inl q)) = absurd (omega (arith, e, q))
      go (inr (inr q)) = absurd (omega (arith, e, (walking-range x q.0).1))
  asks-last (asks_locate n l) e = go l.stands
    where
      last : Last x → (x.last ≡ 0) ⊎ (x.first ≤ x.last)
      last (inl z) = inl z
      last (inr h) = inr h.0

      go : LocateStage x → (x.last ≡ 0) ⊎ (x.first ≤ x.last)
      go (inl q) = last q.1
      go (inr q) = absurd (omega (arith, e, (walking-range x q.0).1))
  asks-last (asks_tidy z d) e = go d.stands
    where
      go : TidyStage x → (x.last ≡ 0) ⊎ (x.first ≤ x.last)
      go (inl q) = absurd (omega (arith, e, q))
      go (inr q) = absurd (omega (arith, e, (walking-range x q.0).1))

  stood : (g : Stage) → stage_of x ≡ g → StandsBut p S (request_of x) g → StandsBut p S (request_of x) (stage_of x)
  stood g e d = subst (StandsBut p S (request_of x)) (sym e) d

  walks-to : Walking x → Descends p S (request_of x) x.target → StandsBut p S (request_of x) (stage_of x)
  walks-to (inl e) d = stood (enter x.target) (stage-2 x e) d
  walks-to (inr e) d = stood (at x.target) (stage-3 x e) d

  past-start : Walking x → ¬ (x.stage ≡ 1)
  past-start g q = omega (arith, q, (walking-range x g).0)

  pub asks-stand : Asks p x m → Backed p x S → StandsBut p S (request_of x) (stage_of x)
  asks-stand (asks_value n v) b = stood start (stage-1 x v.stage) (λ q. omega (arith, q, v.most))
  asks-stand (asks_change n c) b = go c.stands
    where
      changing : ¬ (x.stage ≡ 1) → Changing p S (request_of x)
      changing k = record { code_3_4 = (c.least, c.most); excludes = b.excludes c.least c.most k }

      go : ChangeStage x → StandsBut p S (request_of x) (stage_of x)
      go (inl e) = stood start (stage-1 x e) (λ q. omega (arith, q, c.most))
      go (inr (inl e)) = stood change (stage-4 x e) (changing (λ q. omega (arith, q, e)))
      go (inr (inr e)) = walks-to e.0 (to-change (changing (past-start e.0)) e.1)
  asks-stand (asks_locate n l) b = go l.stands
    where
      next : Last x → Scans (request_of x) (next_of x)
      next (inl z) = let e : next_of x ≡ x.first = simp (eq-eqb x.last 0 z) in record { code_5 = l.code; from_first = omega (arith, e); to-second = omega (arith, e, l.order) }
      next (inr h) = one (ℕ_discrete x.last 0)
        where
          one : Dec (x.last ≡ 0) → Scans (request_of x) (next_of x)
          one (yes z) = absurd (omega (arith, z, h.0, l.first.0))
          one (no k) = let e : next_of x ≡ suc x.last = simp (ne_eqb x.last 0 k) in record { code_5 = l.code; from_first = omega (arith, e, h.0); to-second = omega (arith, e, h.1) }

      to : (x.target ≡ x.first) ⊎ (x.target ≡ x.second) → Descends p S (request_of x) x.target
      to (inl e) = to_first l.code e
      to (inr e) = to-second l.code e

      go : LocateStage x → StandsBut p S (request_of x) (stage_of x)
      go (inl e) = stood (take (next_of x)) (stage-5 x e.0) (next e.1)
      go (inr e) = walks-to e.0 (to e.1)
  asks-stand (asks_tidy z d) b = go d.stands
    where
      go : TidyStage x → StandsBut p S (request_of x) (stage_of x)
      go (inl e) = stood start (stage-1 x e) (λ q. omega (arith, q, d.code))
      go (inr e) = walks-to e.0 (to_choice (record { code_6 = d.code; above = e.1; stored = b.chosen d.code (past-start e.0) }))

  pub stand-backed : x.stage ≤ 5 → StandsBut p S (request_of x) (stage_of x) → Backed p x S
  stand-backed few d = record { excludes = λ a b n. excludes a b n (staged x in_hand few); chosen = λ c n. chosen c n (staged x in_hand few) }
    where
      at_stage : (g : Stage) → stage_of x ≡ g → StandsBut p S (request_of x) g
      at_stage g e = subst (StandsBut p S (request_of x)) e d

      held : 3 ≤ x.code → x.code ≤ 4 → Descends p S (request_of x) x.target → holders S L.entry strong p x.entry ≡ true
      held a b (to-change c e) = c.excludes
      held a b (to_first c e) = absurd (omega (arith, b, c))
      held a b (to-second c e) = absurd (omega (arith, b, c))
      held a b (to_choice c) = absurd (omega (arith, b, c.code_6))

      excludes : 3 ≤ x.code → x.code ≤ 4 → ¬ (x.stage ≡ 1) → Staged x → holders S L.entry strong p x.entry ≡ true
      excludes a b n (staged_1 e) = absurd (n e)
      excludes a b n (staged_2 e) = held a b (at_stage (enter x.target) (stage-2 x e))
      excludes a b n (staged_3 e) = held a b (at_stage (at x.target) (stage-3 x e))
      excludes a b n (staged_4 e) = (at_stage change (stage-4 x e)).excludes
      excludes a b n (staged_5 e) = absurd (omega (arith, b, (at_stage (take (next_of x)) (stage-5 x e)).code_5))

      choice : x.code ≡ 6 → Descends p S (request_of x) x.target → stored_in x.target (lvs S) ≡ true
      choice c (to-change k e) = absurd (omega (arith, c, k.code_3_4.1))
      choice c (to_first k e) = absurd (omega (arith, c, k))
      choice c (to-second k e) = absurd (omega (arith, c, k))
      choice c (to_choice k) = k.stored

      chosen : x.code ≡ 6 → ¬ (x.stage ≡ 1) → Staged x → stored_in x.target (lvs S) ≡ true
      chosen c n (staged_1 e) = absurd (n e)
      chosen c n (staged_2 e) = choice c (at_stage (enter x.target) (stage-2 x e))
      chosen c n (staged_3 e) = choice c (at_stage (at x.target) (stage-3 x e))
      chosen c n (staged_4 e) = absurd (omega (arith, c, (at_stage change (stage-4 x e)).code_3_4.1))
      chosen c n (staged_5 e) = absurd (omega (arith, c, (at_stage (take (next_of x)) (stage-5 x e)).code_5))
