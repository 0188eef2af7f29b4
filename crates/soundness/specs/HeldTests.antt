-- What the computed tests of the session table and of the words of entries and descriptors say: who is begun, who holds an entry, whose locate has
-- passed a key.
use Rattle.std.specs.Prelude.{◌≡◌, refl, Bool, true, false, cond, not, ◌&&◌, List, [], ◌∷◌, ◌⊎◌, ◌↔◌, ℕ, zero, suc, ◌+◌, ◌^◌, ◌≤◌, ◌<◌, eqb, leb, length, get_or}
use Rattle.std.proofs.Common.{sym, ap, subst, ◌∙◌, inl, inr, arith, eq-eqb, ne_eqb, eqb-true, leb-true, le-leb}
use Rattle.std.proofs.lemmas.Bool.{false≢true, eqb-false, not-true}
use Rattle.std.proofs.Math.Decide.{ℕ_discrete, dec_le}
use Rattle.std.proofs.Math.ListN.{get_or-eq_default}
use Rattle.serial.specs.Locks.{Kind, Mode, weak, strong}
use Rattle.serial.specs.Locks as L
use Rattle.locks.specs.Holders.{width, word_bits, holds, held_by}
use Rattle.locks.specs.Bits.{held_same, held-other, holds-none}
use Rattle.words.specs.Entries.{entry_word}
use Rattle.groups.specs.declared.Descriptor.{Descriptor}
use Rattle.sessions.specs.declared.Session.{Session}
use Rattle.sessions.specs.Sessions.{idle_session, session_at, is_begun}
use Rattle.machine.specs.State.{Entry, State, no_entry, idle, entry_of, session_of}
use Rattle.machine.specs.Steps.{rule}
use Rattle.machine.specs.View.{holders}
use Rattle.meaning.specs.Reading.{entries_of, sessions_of, M-of, R-of, meaning}
use Rattle.passing.specs.declared.Asked.{Asked}
use Rattle.holders.specs.Holders.{within, holders_ok, with_from, sessions_with, begun_mask, entries_from}
use Rattle.passing.specs.Asked.{has_passed, needs_gap, asked_at}
use Rattle.holdings.specs.Holdings.{group_ok}
use Rattle.soundness.specs.HoldersTests.{same_test, and_both, Within, within-is, few-less, in_mode, HoldersFit, holders-is}

-- ---- the sessions of a table that have a property

with-one : (b : Bool) (word p q : ℕ) → 1 ≤ p → (holds (cond b (held_by p word) word) q ≡ true) ↔ ((holds word q ≡ true) ⊎ ((q ≡ p) × (b ≡ true)))
with-one b word zero q h = absurd (omega arith)
with-one false word (suc k) q h = (λ e. inl e, back)
  where
    back : (holds word q ≡ true) ⊎ ((q ≡ suc k) × (false ≡ true)) → holds word q ≡ true
    back (inl e) = e
    back (inr e) = absurd (false≢true e.1)
with-one true word (suc k) q h = by (ℕ_discrete q (suc k))
  where
    other : ¬ (q ≡ suc k) → holds (held_by (suc k) word) q ≡ holds word q
    other n = held-other (suc k) q word (λ e. n (sym e))

    back : ¬ (q ≡ suc k) → (holds word q ≡ true) ⊎ ((q ≡ suc k) × (true ≡ true)) → holds (held_by (suc k) word) q ≡ true
    back n (inl e) = other n ∙ e
    back n (inr e) = absurd (n e.0)

    by : Dec (q ≡ suc k) → (holds (held_by (suc k) word) q ≡ true) ↔ ((holds word q ≡ true) ⊎ ((q ≡ suc k) × (true ≡ true)))
    by (yes e) = (λ x. inr (e, refl), λ x. ap (holds (held_by (suc k) word)) e ∙ held_same k word)
    by (no n) = (λ x. inl (sym (other n) ∙ x), back n)

with-is : (f : Session → Bool) (t : List Session) (word p n q : ℕ) → 1 ≤ p
    → (holds (with_from f t word p n) q ≡ true) ↔ ((holds word q ≡ true) ⊎ ((p ≤ q) × (q < p + n) × (f (session_at t q) ≡ true)))
unfolding with_from
with-is f t word p zero q h = (λ e. inl e, back)
  where
    back : (holds word q ≡ true) ⊎ ((p ≤ q) × (q < p + 0) × (f (session_at t q) ≡ true)) → holds word q ≡ true
    back (inl e) = e
    back (inr e) = absurd (omega (arith, e.0, e.1))
with-is f t word p (suc n) q h =
    let ih = with-is f t (cond (f (session_at t p)) (held_by p word) word) (p + 1) n q (omega arith) in (λ e. there (ih.0 e), λ e. ih.1 (back e (ℕ_discrete q p)))
  where
    next : ℕ
    next = cond (f (session_at t p)) (held_by p word) word

    one : (holds next q ≡ true) ↔ ((holds word q ≡ true) ⊎ ((q ≡ p) × (f (session_at t p) ≡ true)))
    one = with-one (f (session_at t p)) word p q h

    here : (holds word q ≡ true) ⊎ ((q ≡ p) × (f (session_at t p) ≡ true)) → (holds word q ≡ true) ⊎ ((p ≤ q) × (q < p + suc n) × (f (session_at t q) ≡ true))
    here (inl e) = inl e
    here (inr e) = inr (omega (arith, e.0), omega (arith, e.0), ap (λ (i : ℕ). f (session_at t i)) e.0 ∙ e.1)

    there : (holds next q ≡ true) ⊎ ((p + 1 ≤ q) × (q < p + 1 + n) × (f (session_at t q) ≡ true)) → (holds word q ≡ true) ⊎ ((p ≤ q) × (q < p + suc n) × (f (session_at t q) ≡ true))
    there (inl e) = here (one.0 e)
    there (inr e) = inr (omega (arith, e.0), omega (arith, e.1), e.2)

    back : (holds word q ≡ true) ⊎ ((p ≤ q) × (q < p + suc n) × (f (session_at t q) ≡ true)) → Dec (q ≡ p)
        → (holds next q ≡ true) ⊎ ((p + 1 ≤ q) × (q < p + 1 + n) × (f (session_at t q) ≡ true))
    back (inl e) d = inl (one.1 (inl e))
    back (inr e) (yes d) = inl (one.1 (inr (d, ap (λ (i : ℕ). f (session_at t i)) (sym d) ∙ e.2)))
    back (inr e) (no d) = inr (omega (arith, e.0, d), omega (arith, e.1), e.2)

pub sessions-is : (f : Session → Bool) (t : List Session) (p : ℕ) → (holds (sessions_with f t) p ≡ true) ↔ ((1 ≤ p) × (p ≤ width) × (f (session_at t p) ≡ true))
unfolding sessions_with
sessions-is f t p = (λ e. there ((with-is f t 0 1 width p (omega arith)).0 e), λ e. (with-is f t 0 1 width p (omega arith)).1 (inr (e.0, omega (arith, e.1), e.2)))
  where
    there : (holds 0 p ≡ true) ⊎ ((1 ≤ p) × (p < 1 + width) × (f (session_at t p) ≡ true)) → (1 ≤ p) × (p ≤ width) × (f (session_at t p) ≡ true)
    there (inl e) = absurd (false≢true (sym (holds-none p) ∙ e))
    there (inr e) = (e.0, omega (arith, e.1), e.2)

-- The same of a property that says P.
pub sessions-that : (f : Session → Bool) (P : Session → Type 0) → ((x : Session) → (f x ≡ true) ↔ P x) → (t : List Session) (p : ℕ)
    → (holds (sessions_with f t) p ≡ true) ↔ ((1 ≤ p) × (p ≤ width) × P (session_at t p))
sessions-that f P i t p =
    (λ e. let x = (sessions-is f t p).0 e in (x.0, x.1, (i (session_at t p)).0 x.2), λ x. (sessions-is f t p).1 (x.0, x.1, (i (session_at t p)).1 x.2))

pub sessions-less : (f : Session → Bool) (t : List Session) → sessions_with f t < 2 ^ word_bits
sessions-less f t = few-less word_bits (sessions_with f t) (λ p h. omega (arith, ((sessions-is f t p).0 h).1))

-- ---- begun sessions

begun-test : (x : Session) → (is_begun x ≡ true) ↔ ((x.begun ≡ 0) → ⊥)
unfolding is_begun
begun-test x = (λ e. eqb-false x.begun 0 (not-true (eqb x.begun 0) e), λ n. ap not (ne_eqb x.begun 0 n))

pub begun-less : (t : List Session) → begun_mask t < 2 ^ word_bits
unfolding begun_mask
begun-less t = sessions-less is_begun t

marks-from : (s : List ℕ) (m r p : ℕ) (t : List Session) (q : ℕ) → (get_or (sessions_of s m r (suc p) t) q idle).begun ≡ is_begun (session_at t q)
unfolding is_begun
marks-from s m r p [] q = refl
marks-from s m r p (x ∷ t) zero = refl
marks-from s m r p (x ∷ t) (suc q) = marks-from s m r (suc p) t q

pub begun-meaning : (s : List ℕ) (t : List Session) (p : ℕ) → (session_of (suc p) (meaning s t)).begun ≡ is_begun (session_at t (suc p))
unfolding meaning session_of is_begun
begun-meaning s [] p = refl
begun-meaning s (x ∷ t) p = marks-from s (M-of s) (R-of s) 0 t p

pub zero-meaning : (s : List ℕ) (t : List Session) → (session_of 0 (meaning s t)).begun ≡ false
unfolding meaning session_of
zero-meaning s [] = refl
zero-meaning s (x ∷ t) = refl

-- The begun sessions of the meaning, where the table has no more records than there are parties.
pub begun-held : (s : List ℕ) (t : List Session) → length t ≤ suc width → (p : ℕ) → holds (begun_mask t) p ≡ (session_of p (meaning s t)).begun
unfolding begun_mask
begun-held s t l zero = sym (zero-meaning s t)
begun-held s t l (suc p) = same_test (holds (begun_mask t) (suc p)) (is_begun (session_at t (suc p))) (λ e. (is.0 e).2) (λ e. is.1 (omega arith, few e (dec_le (suc p) width), e)) ∙ sym (begun-meaning s t p)
  where
    is : (holds (begun_mask t) (suc p) ≡ true) ↔ ((1 ≤ suc p) × (suc p ≤ width) × (is_begun (session_at t (suc p)) ≡ true))
    is = sessions-is is_begun t (suc p)

    few : is_begun (session_at t (suc p)) ≡ true → Dec (suc p ≤ width) → suc p ≤ width
    few e (yes d) = d
    few e (no d) = absurd ((begun-test (session_at t (suc p))).0 e (ap (λ x. x.begun) (get_or-eq_default t idle_session (omega (arith, l, d)))))

-- ---- entries

entries-each : (s : List ℕ) (begun e n : ℕ)
    → (entries_from s begun e n ≡ true) ↔ ((i : ℕ) → e ≤ i → i < e + n → holders_ok 0 (entry_word s i 1) (entry_word s i 2) begun ≡ true)
unfolding entries_from
entries-each s begun e zero = (λ h i a b. absurd (omega (arith, a, b)), λ h. refl)
entries-each s begun e (suc n) =
    let ih = entries-each s begun (e + 1) n in
    (λ h i a b. let x = all.0 h in there x.0 (ih.0 x.1) i a b (ℕ_discrete e i), λ h. all.1 (h e (omega arith) (omega arith), ih.1 (λ i a b. h i (omega (arith, a)) (omega (arith, b)))))
  where
    ok : ℕ → Bool
    ok i = holders_ok 0 (entry_word s i 1) (entry_word s i 2) begun

    all : ((ok e && entries_from s begun (e + 1) n) ≡ true) ↔ ((ok e ≡ true) × (entries_from s begun (e + 1) n ≡ true))
    all = and_both (ok e) (entries_from s begun (e + 1) n)

    there : ok e ≡ true → ((i : ℕ) → e + 1 ≤ i → i < e + 1 + n → ok i ≡ true) → (i : ℕ) → e ≤ i → i < e + suc n → Dec (e ≡ i) → ok i ≡ true
    there h f i a b (yes d) = ap ok (sym d) ∙ h
    there h f i a b (no d) = f i (omega (arith, a, d)) (omega (arith, b))

-- The words of an entry.
abbrev pub entry_words : List ℕ → ℕ → Entry
entry_words s e = record { value = entry_word s e 0; share = entry_word s e 1; exclusive = entry_word s e 2 }

entries_at : (s : List ℕ) (e n i : ℕ) → i < n → get_or (entries_of s e n) i no_entry ≡ entry_words s (e + i)
entries_at s e zero i h = absurd (omega (arith, h))
entries_at s e (suc n) zero h = ap (entry_words s) (let z : e ≡ e + 0 = omega arith in z)
entries_at s e (suc n) (suc i) h = entries_at s (suc e) n i (omega (arith, h)) ∙ ap (entry_words s) (let z : suc e + i ≡ e + suc i = omega arith in z)

entries-many : (s : List ℕ) (e n : ℕ) → length (entries_of s e n) ≡ n
entries-many s e zero = refl
entries-many s e (suc n) = ap suc (entries-many s (suc e) n)

pub entry-meaning : (s : List ℕ) (t : List Session) (e : ℕ) → 1 ≤ e → e ≤ M-of s → entry_of e (meaning s t) ≡ entry_words s e
unfolding entry_of meaning
entry-meaning s t zero h l = absurd (omega arith)
entry-meaning s t (suc i) h l = entries_at s 1 (M-of s) i (omega arith) ∙ ap (entry_words s) (let z : 1 + i ≡ suc i = omega arith in z)

pub no-entry-meaning : (s : List ℕ) (t : List Session) (e : ℕ) → (1 ≤ e → e ≤ M-of s → ⊥) → entry_of e (meaning s t) ≡ no_entry
unfolding entry_of meaning
no-entry-meaning s t zero n = refl
no-entry-meaning s t (suc i) n = get_or-eq_default (entries_of s 1 (M-of s)) no_entry (omega (arith, entries-many s 1 (M-of s), few (dec_le (suc i) (M-of s))))
  where
    few : Dec (suc i ≤ M-of s) → M-of s ≤ i
    few (yes d) = absurd (n (omega arith) d)
    few (no d) = omega (arith, d)

-- What `Sound` of the machine says of the holders of entries.
pub record EntriesHeld (s : State) : Type 0 where
  pub only_begun : (m : Mode) (p e : ℕ) → holders s L.entry m p e ≡ true → (session_of p s).begun ≡ true
  pub agrees : (m n : Mode) (p q e : ℕ) → holders s L.entry m p e ≡ true → holders s L.entry n q e ≡ true → (p ≡ q) ⊎ (rule L.entry m n ≡ true)

entry-holders : (s : State) (m : Mode) (p e : ℕ) → holders s L.entry m p e ≡ holds (in_mode m (entry_of e s).share (entry_of e s).exclusive) p
entry-holders s weak p e = refl
entry-holders s strong p e = refl

held-each : (begun : ℕ) (s : State) → ((p : ℕ) → holds begun p ≡ (session_of p s).begun)
    → EntriesHeld s ↔ ((e : ℕ) → HoldersFit begun L.entry (entry_of e s).share (entry_of e s).exclusive)
held-each begun s b = (there, back)
  where
    there : EntriesHeld s → (e : ℕ) → HoldersFit begun L.entry (entry_of e s).share (entry_of e s).exclusive
    there h e = record {
      only_begun = λ m p x. b p ∙ h.only_begun m p e (entry-holders s m p e ∙ x);
      agrees = λ m n p q x y. h.agrees m n p q e (entry-holders s m p e ∙ x) (entry-holders s n q e ∙ y);
    }

    back : ((e : ℕ) → HoldersFit begun L.entry (entry_of e s).share (entry_of e s).exclusive) → EntriesHeld s
    back h = record {
      only_begun = λ m p e x. sym (b p) ∙ (h e).only_begun m p (sym (entry-holders s m p e) ∙ x);
      agrees = λ m n p q e x y. (h e).agrees m n p q (sym (entry-holders s m p e) ∙ x) (sym (entry-holders s n q e) ∙ y);
    }

-- Nobody holds.
nobody-holds : (begun : ℕ) (k : Kind) → HoldersFit begun k 0 0
nobody-holds begun k = record { only_begun = λ m p x. none m p x; agrees = λ m n p q x y. none m p x }
  where
    none : (m : Mode) (p : ℕ) {A : Type 0} → holds (in_mode m 0 0) p ≡ true → A
    none weak p x = absurd (false≢true (sym (holds-none p) ∙ x))
    none strong p x = absurd (false≢true (sym (holds-none p) ∙ x))

pub entries-is : (s : List ℕ) (t : List Session) → length t ≤ suc width → (entries_from s (begun_mask t) 1 (M-of s) ≡ true) ↔ EntriesHeld (meaning s t)
entries-is s t l = (λ h. each.1 (λ e. there h e (dec_le 1 e) (dec_le e (M-of s))), λ h. all.1 (λ i a b. back (each.0 h) i a (omega (arith, b))))
  where
    begun : ℕ
    begun = begun_mask t

    Held : Entry → Type 0
    Held x = HoldersFit begun L.entry x.share x.exclusive

    each : EntriesHeld (meaning s t) ↔ ((e : ℕ) → Held (entry_of e (meaning s t)))
    each = held-each begun (meaning s t) (begun-held s t l)

    all : (entries_from s begun 1 (M-of s) ≡ true) ↔ ((i : ℕ) → 1 ≤ i → i < 1 + M-of s → holders_ok 0 (entry_word s i 1) (entry_word s i 2) begun ≡ true)
    all = entries-each s begun 1 (M-of s)

    one : (e : ℕ) → (holders_ok 0 (entry_word s e 1) (entry_word s e 2) begun ≡ true) ↔ Held (entry_words s e)
    one e = holders-is begun L.entry (entry_word s e 1) (entry_word s e 2) (begun-less t)

    there : entries_from s begun 1 (M-of s) ≡ true → (e : ℕ) → Dec (1 ≤ e) → Dec (e ≤ M-of s) → Held (entry_of e (meaning s t))
    there h e (yes a) (yes b) = subst Held (sym (entry-meaning s t e a b)) ((one e).0 (all.0 h e a (omega (arith, b))))
    there h e (no a) b = subst Held (sym (no-entry-meaning s t e (λ x y. a x))) (nobody-holds begun L.entry)
    there h e (yes a) (no b) = subst Held (sym (no-entry-meaning s t e (λ x y. b y))) (nobody-holds begun L.entry)

    back : ((e : ℕ) → Held (entry_of e (meaning s t))) → (i : ℕ) → 1 ≤ i → i ≤ M-of s → holders_ok 0 (entry_word s i 1) (entry_word s i 2) begun ≡ true
    back h i a b = (one i).1 (subst Held (entry-meaning s t i a b) (h i))

-- ---- the keys that locates have passed

-- A locate that takes, and has taken a key, has passed the keys from first to the last one taken.
pub record Passed (key : ℕ) (x : Session) : Type 0 where
  pub takes : x.stage ≡ 5
  pub taken : x.last ≡ 0 → ⊥
  pub from_first : x.first ≤ key
  pub to_last : key ≤ x.last

pub passed_is : (key : ℕ) (x : Session) → (has_passed key x ≡ true) ↔ Passed key x
unfolding has_passed
passed_is key x = (there, back)
  where
    a : Bool
    a = eqb x.stage 5

    b : Bool
    b = not (eqb x.last 0)

    c : Bool
    c = leb x.first key

    d : Bool
    d = leb key x.last

    there : (a && b && c && d) ≡ true → Passed key x
    there h =
        let u = (and_both (a && b && c) d).0 h in
        let v = (and_both (a && b) c).0 u.0 in
        let w = (and_both a b).0 v.0 in
        record {
          takes = eqb-true x.stage 5 w.0;
          taken = eqb-false x.last 0 (not-true (eqb x.last 0) w.1);
          from_first = leb-true x.first key v.1;
          to_last = leb-true key x.last u.1;
        }

    back : Passed key x → (a && b && c && d) ≡ true
    back h =
        (and_both (a && b && c) d).1 (
          (and_both (a && b) c).1
              ((and_both a b).1 (eq-eqb x.stage 5 h.takes, ap not (ne_eqb x.last 0 h.taken)), le-leb x.first key h.from_first),
          le-leb key x.last h.to_last,
        )

pub locate-asked : (t : List Session) (key next p : ℕ) → (holds (asked_at t key next).locate p ≡ true) ↔ ((1 ≤ p) × (p ≤ width) × Passed key (session_at t p))
unfolding asked_at
locate-asked t key next p = sessions-that (has_passed key) (Passed key) (passed_is key) t p

-- It needs the gap behind a stored key too, but for a gap that has no key where it has passed the next stored key as well.
pub record NeedsGap (key next : ℕ) (x : Session) : Type 0 where
  pub passed : Passed key x
  pub ahead : next ≡ key + 1 → Passed next x → ⊥

pub needs-is : (key next : ℕ) (x : Session) → (needs_gap key next x ≡ true) ↔ NeedsGap key next x
unfolding needs_gap
needs-is key next x = (there, back)
  where
    both : ((eqb next (key + 1) && has_passed next x) ≡ true) ↔ ((eqb next (key + 1) ≡ true) × (has_passed next x ≡ true))
    both = and_both (eqb next (key + 1)) (has_passed next x)

    all : ((has_passed key x && not (eqb next (key + 1) && has_passed next x)) ≡ true) ↔ ((has_passed key x ≡ true) × (not (eqb next (key + 1) && has_passed next x) ≡ true))
    all = and_both (has_passed key x) (not (eqb next (key + 1) && has_passed next x))

    there : (has_passed key x && not (eqb next (key + 1) && has_passed next x)) ≡ true → NeedsGap key next x
    there h =
        let u = all.0 h in
        record {
          passed = (passed_is key x).0 u.0;
          ahead = λ e q.
              false≢true (sym (not-true (eqb next (key + 1) && has_passed next x) u.1) ∙ both.1 (eq-eqb next (key + 1) e, (passed_is next x).1 q));
        }

    fails : (b : Bool) → (b ≡ true → ⊥) → not b ≡ true
    fails true n = absurd (n refl)
    fails false n = refl

    back : NeedsGap key next x → (has_passed key x && not (eqb next (key + 1) && has_passed next x)) ≡ true
    back h =
        all.1 (
          (passed_is key x).1 h.passed,
          fails (eqb next (key + 1) && has_passed next x) (λ e. let u = both.0 e in
              h.ahead (eqb-true next (key + 1) u.0) ((passed_is next x).0 u.1)),
        )

pub gap-asked : (t : List Session) (key next p : ℕ) → (holds (asked_at t key next).gap p ≡ true) ↔ ((1 ≤ p) × (p ≤ width) × NeedsGap key next (session_at t p))
unfolding asked_at
gap-asked t key next p = sessions-that (needs_gap key next) (NeedsGap key next) (needs-is key next) t p

-- ---- a descriptor's words

pub record GroupHeld (d : Descriptor) (begun : ℕ) (asked : Asked) (pinned : ℕ) : Type 0 where
  pub held : HoldersFit begun L.group d.locate d.update
  pub gap_begun : Within d.gap begun
  pub counted : d.pins ≡ pinned
  pub located : Within asked.locate d.locate
  pub gap_located : Within asked.gap d.gap

pub group-is : (d : Descriptor) (begun : ℕ) (asked : Asked) (pinned : ℕ) → begun < 2 ^ word_bits → (group_ok d begun asked pinned ≡ true) ↔ GroupHeld d begun asked pinned
unfolding group_ok
group-is d begun asked pinned hb = (there, back)
  where
    a : Bool
    a = holders_ok 1 d.locate d.update begun

    b : Bool
    b = within d.gap begun

    c : Bool
    c = eqb d.pins pinned

    e : Bool
    e = within asked.locate d.locate

    f : Bool
    f = within asked.gap d.gap

    there : (a && b && c && e && f) ≡ true → GroupHeld d begun asked pinned
    there h =
        let u = (and_both (a && b && c && e) f).0 h in
        let v = (and_both (a && b && c) e).0 u.0 in
        let w = (and_both (a && b) c).0 v.0 in
        let z = (and_both a b).0 w.0 in
        record {
          held = (holders-is begun L.group d.locate d.update hb).0 z.0;
          gap_begun = (within-is d.gap begun).0 z.1;
          counted = eqb-true d.pins pinned w.1;
          located = (within-is asked.locate d.locate).0 v.1;
          gap_located = (within-is asked.gap d.gap).0 u.1;
        }

    back : GroupHeld d begun asked pinned → (a && b && c && e && f) ≡ true
    back h =
        (and_both (a && b && c && e) f).1 (
          (and_both (a && b && c) e).1 (
            (and_both (a && b) c).1
                ((and_both a b).1 ((holders-is begun L.group d.locate d.update hb).1 h.held, (within-is d.gap begun).1 h.gap_begun), eq-eqb d.pins pinned h.counted),
            (within-is asked.locate d.locate).1 h.located,
          ),
          (within-is asked.gap d.gap).1 h.gap_located,
        )
