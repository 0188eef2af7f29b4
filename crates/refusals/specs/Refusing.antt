-- The refusals of each call as they are read from the session table, in document 01's order: the first number whose test is true, 0 if none is.
use Rattle.std.specs.Prelude.{◌≡◌, Bool, true, false, cond, not, ◌&&◌, ◌||◌, List, [], ◌∷◌, leb, ltb, length}
use Rattle.std.proofs.Math.Path.{refl, ap}
use Rattle.std.proofs.Common.{sym, ◌∙◌, arith, ne_eqb}
use Rattle.std.proofs.Math.Option.{none}
use Prim.Native.Nat.{ℕ, zero, suc, ◌<◌}
use Rattle.std.proofs.Math.Dec.{eqb, eqb-suc-zero}
use Rattle.sessions.specs.declared.Session.{Session}
use Rattle.sessions.specs.Sessions.{session_at}
use Rattle.machine.specs.Logic.{leb-not}
use Rattle.machine.specs.Holders.{width}
use Rattle.machine.specs.State.{State, Outcome, refused}
use Rattle.machine.specs.Steps.{answer}
use Rattle.machine.specs.Calls.{refusing, has_begun, is_asked, in_hand, is_some, no_party, no_session, bad_code, bad_key, put_checks, step_checks, begin_checks, commit_checks, abort_checks, ask_checks}
use Rattle.meaning.specs.Reading.{hand_of, M-of, meaning}
use Rattle.meaning.specs.Sound.{Sound}
use Rattle.meaning.specs.Parts.{entries-are, entries-many}
use Rattle.meaning.specs.Table.{session_is, table-many}

-- ---- the first refusal

unfoldable pub first_of : List (ℕ × Bool) → ℕ
first_of [] = 0
first_of (c ∷ cs) = let rest = first_of cs in cond c.1 c.0 rest

-- ---- what the table says

-- 0 always counts as begun.
unfoldable pub is_begun_in : List Session → ℕ → Bool
is_begun_in t p = eqb p 0 || not (eqb (session_at t p).begun 0)

unfoldable pub hand_in : List Session → ℕ → Bool
hand_in t p = not (eqb (session_at t p).stage 0)

-- asked
unfoldable pub asked_in : List Session → ℕ → Bool
asked_in t p = not (eqb (session_at t p).asked 0)

-- ---- the lists

abbrev pub begin_list : List Session → ℕ → List (ℕ × Bool)
begin_list t p = (4, no_session p) ∷ (5, is_begun_in t p) ∷ []

abbrev pub step_list : List Session → ℕ → List (ℕ × Bool)
step_list t p = (4, no_party p) ∷ (5, not (is_begun_in t p)) ∷ (7, not (hand_in t p)) ∷ []

abbrev pub commit_list : List Session → ℕ → List (ℕ × Bool)
commit_list t p = (4, no_session p) ∷ (5, not (is_begun_in t p)) ∷ (7, hand_in t p) ∷ []

abbrev pub abort_list : List Session → ℕ → List (ℕ × Bool)
abort_list t p = (4, no_session p) ∷ (5, not (is_begun_in t p)) ∷ []

abbrev pub ask_list : List Session → ℕ → List (ℕ × Bool)
ask_list t p = (4, no_session p) ∷ (5, not (is_begun_in t p)) ∷ (21, asked_in t p) ∷ (7, hand_in t p) ∷ []

-- What refuses a request of party p before it is looked at.
abbrev pub party_list : List Session → ℕ → List (ℕ × Bool)
party_list t p = (4, no_party p) ∷ (5, not (is_begun_in t p)) ∷ (21, asked_in t p) ∷ []

-- M entries.
abbrev pub entry_out : ℕ → ℕ → ℕ → Bool
entry_out m c e = leb c 4 && (eqb e 0 || ltb m e)

abbrev pub request_list : ℕ → ℕ → ℕ → ℕ → ℕ → ℕ → List (ℕ × Bool)
request_list m p c e f g = (6, bad_code p c) ∷ (8, entry_out m c e) ∷ (9, bad_key c f g) ∷ (10, eqb c 5 && ltb g f) ∷ []

abbrev pub put_list : ℕ → List Session → ℕ → ℕ → ℕ → ℕ → ℕ → List (ℕ × Bool)
put_list m t p c e f g = (4, no_party p) ∷ (5, not (is_begun_in t p)) ∷ (21, asked_in t p) ∷ (7, hand_in t p) ∷ request_list m p c e f g

-- Its number is that of the longer list, where there is one,
pub party-refused : (t : List Session) (p : ℕ) (cs : List (ℕ × Bool)) {n : ℕ} → n ≡ first_of (party_list t p) → ¬ (n ≡ 0)
    → n ≡ first_of ((4, no_party p) ∷ (5, not (is_begun_in t p)) ∷ (21, asked_in t p) ∷ cs)
unfolding first_of
party-refused t p cs {n} e z = e ∙ go (no_party p) (not (is_begun_in t p)) (asked_in t p) (λ q. z (e ∙ q))
  where
    go : (a b c : Bool) → ¬ (◌≡◌ {A = ℕ} (cond a 4 (cond b 5 (cond c 21 0))) 0) → ◌≡◌ {A = ℕ} (cond a 4 (cond b 5 (cond c 21 0))) (cond a 4 (cond b 5 (cond c 21 (first_of cs))))
    go true b c k = refl
    go false true c k = refl
    go false false true k = refl
    go false false false k = absurd (k refl)

-- and where there is none, the rest of the longer list decides.
pub party-passed : (t : List Session) (p : ℕ) (cs : List (ℕ × Bool)) {n : ℕ} → n ≡ first_of (party_list t p) → n ≡ 0
    → first_of cs ≡ first_of ((4, no_party p) ∷ (5, not (is_begun_in t p)) ∷ (21, asked_in t p) ∷ cs)
unfolding first_of
party-passed t p cs e z = go (no_party p) (not (is_begun_in t p)) (asked_in t p) (sym e ∙ z)
  where
    go : (a b c : Bool) → ◌≡◌ {A = ℕ} (cond a 4 (cond b 5 (cond c 21 0))) 0 → ◌≡◌ {A = ℕ} (first_of cs) (cond a 4 (cond b 5 (cond c 21 (first_of cs))))
    go true b c k = absurd (omega (arith, k))
    go false true c k = absurd (omega (arith, k))
    go false false true k = absurd (omega (arith, k))
    go false false false k = refl

-- One check more, in front.
pub check-holds : (k : ℕ) (b : Bool) (cs : List (ℕ × Bool)) → b ≡ true → k ≡ first_of ((k, b) ∷ cs)
unfolding first_of
check-holds k b cs e = sym (ap (λ z. cond z k (first_of cs)) e)

pub check-passed : (k : ℕ) (b : Bool) (cs : List (ℕ × Bool)) {n : ℕ} → b ≡ false → n ≡ first_of cs → n ≡ first_of ((k, b) ∷ cs)
unfolding first_of
check-passed k b cs e h = h ∙ sym (ap (λ z. cond z k (first_of cs)) e)

-- ---- they are the machine's

-- Two lists of checks that agree up to the first true test are refused alike; so a later test may be asked only where the earlier ones are false.
abbrev Alike : List (ℕ × Bool) → List (ℕ × Bool) → Type 0
Alike [] [] = Unit {0}
Alike [] (d ∷ ds) = ⊥
Alike (c ∷ cs) [] = ⊥
Alike (c ∷ cs) (d ∷ ds) = (c.0 ≡ d.0) × (c.1 ≡ d.1) × (c.1 ≡ false → Alike cs ds)

abbrev Proper : List (ℕ × Bool) → Type 0
Proper [] = Unit {0}
Proper (c ∷ cs) = ¬ (c.0 ≡ 0) × Proper cs

pub refusing-first : (cs ds : List (ℕ × Bool)) → Alike cs ds → Proper ds → (s : State) (o : Outcome)
    → refusing cs s o ≡ cond (eqb (first_of ds) 0) o (answer (refused (first_of ds) 0) s)
unfolding refusing first_of
refusing-first [] [] a q s o = refl
refusing-first [] (d ∷ ds) a q s o = absurd a
refusing-first (c ∷ cs) [] a q s o = absurd a
refusing-first (c ∷ cs) (d ∷ ds) a q s o = go c.1 refl (λ f. refusing-first cs ds (a.2 f) q.1 s o)
  where
    go : (b : Bool) → c.1 ≡ b → (c.1 ≡ false → refusing cs s o ≡ cond (eqb (first_of ds) 0) o (answer (refused (first_of ds) 0) s))
        → cond c.1 (answer (refused c.0 0) s) (refusing cs s o)
        ≡ cond (eqb (cond d.1 d.0 (first_of ds)) 0) o (answer (refused (cond d.1 d.0 (first_of ds)) 0) s)
    go true e f = let g : d.1 ≡ true = sym a.1 ∙ e in rw (e, g, ne_eqb d.0 0 q.0) (ap (λ n. answer (refused n 0) s) a.0)
    go false e f = let g : d.1 ≡ false = sym a.1 ∙ e in rw (e, g) (f e)

hand-some : (x : Session) → is_some (hand_of x) ≡ not (eqb x.stage 0)
hand-some x = go (eqb x.stage 0) refl
  where
    go : (b : Bool) → eqb x.stage 0 ≡ b → is_some (hand_of x) ≡ not (eqb x.stage 0)
    go true e = rw (e) refl
    go false e = rw (e) refl

module _ (s : List ℕ) (t : List Session) (A : Sound s t) where
  abbrev σ : State
  σ = meaning s t

  seat : (p : ℕ) → no_party p ≡ false → p < length t
  seat p n = omega (arith, table-many s t A.state, leb-not (suc width) p n)

  begun-are : (p : ℕ) → no_party p ≡ false → has_begun p σ ≡ is_begun_in t p
  unfolding is_begun_in
  begun-are zero n = refl
  begun-are (suc p) n = ap (λ z. eqb (suc p) 0 || z.begun) (session_is s t (suc p) (seat (suc p) n))

  hand-are : (p : ℕ) → no_party p ≡ false → in_hand p σ ≡ hand_in t p
  unfolding hand_in
  hand-are zero n = ap (λ z. is_some z.hand) (session_is s t zero (seat zero n)) ∙ hand-some (session_at t zero)
  hand-are (suc p) n = ap (λ z. is_some z.hand) (session_is s t (suc p) (seat (suc p) n)) ∙ hand-some (session_at t (suc p))

  asked-are : (p : ℕ) → no_party p ≡ false → is_asked p σ ≡ asked_in t p
  unfolding asked_in
  asked-are zero n = ap (λ z. z.asked) (session_is s t zero (seat zero n))
  asked-are (suc p) n = ap (λ z. z.asked) (session_is s t (suc p) (seat (suc p) n))

  party-of : (p : ℕ) → no_session p ≡ false → no_party p ≡ false
  party-of zero n = refl
  party-of (suc p) n = sym (ap (λ b. b || no_party (suc p)) (eqb-suc-zero p)) ∙ n

  entries-count : length σ.entries ≡ M-of s
  entries-count = ap length (entries-are s t) ∙ entries-many s 1 (M-of s)

  pub step-refused : (p : ℕ) (o : Outcome) → refusing (step_checks p (meaning s t)) (meaning s t) o ≡ cond (eqb (first_of (step_list t p)) 0) o (answer (refused (first_of (step_list t p)) 0) (meaning s t))
  step-refused p o = refusing-first (step_checks p (meaning s t)) (step_list t p)
      (refl, refl, λ n. (refl, ap not (begun-are p n), λ b. (refl, ap not (hand-are p n), λ h. tt))) ((λ e. omega (arith, e)), ((λ e. omega (arith, e)), ((λ e. omega (arith, e)), tt))) (meaning s t) o

  pub begin-refused : (p : ℕ) (o : Outcome) → refusing (begin_checks p (meaning s t)) (meaning s t) o ≡ cond (eqb (first_of (begin_list t p)) 0) o (answer (refused (first_of (begin_list t p)) 0) (meaning s t))
  begin-refused p o = refusing-first (begin_checks p (meaning s t)) (begin_list t p)
      (refl, refl, λ n. (refl, begun-are p (party-of p n), λ b. tt)) ((λ e. omega (arith, e)), ((λ e. omega (arith, e)), tt)) (meaning s t) o

  pub commit-refused : (p : ℕ) (o : Outcome) → refusing (commit_checks p (meaning s t)) (meaning s t) o ≡ cond (eqb (first_of (commit_list t p)) 0) o (answer (refused (first_of (commit_list t p)) 0) (meaning s t))
  commit-refused p o = refusing-first (commit_checks p (meaning s t)) (commit_list t p)
      (refl, refl, λ n. (refl, ap not (begun-are p (party-of p n)), λ b. (refl, hand-are p (party-of p n), λ h. tt))) ((λ e. omega (arith, e)), ((λ e. omega (arith, e)), ((λ e. omega (arith, e)), tt))) (meaning s t) o

  pub ask-refused : (p : ℕ) (o : Outcome) → refusing (ask_checks p (meaning s t)) (meaning s t) o ≡ cond (eqb (first_of (ask_list t p)) 0) o (answer (refused (first_of (ask_list t p)) 0) (meaning s t))
  ask-refused p o = refusing-first (ask_checks p (meaning s t)) (ask_list t p)
      (refl, refl, λ n. (refl, ap not (begun-are p (party-of p n)), λ b. (refl, asked-are p (party-of p n), λ a. (refl, hand-are p (party-of p n), λ h. tt))))
      ((λ e. omega (arith, e)), ((λ e. omega (arith, e)), ((λ e. omega (arith, e)), ((λ e. omega (arith, e)), tt)))) (meaning s t) o

  pub abort_refused : (p : ℕ) (o : Outcome) → refusing (abort_checks p (meaning s t)) (meaning s t) o ≡ cond (eqb (first_of (abort_list t p)) 0) o (answer (refused (first_of (abort_list t p)) 0) (meaning s t))
  abort_refused p o = refusing-first (abort_checks p (meaning s t)) (abort_list t p)
      (refl, refl, λ n. (refl, ap not (begun-are p (party-of p n)), λ b. tt)) ((λ e. omega (arith, e)), ((λ e. omega (arith, e)), tt)) (meaning s t) o

  pub put_refused : (p c e f g : ℕ) (o : Outcome)
      → refusing (put_checks p c e f g (meaning s t)) (meaning s t) o ≡ cond (eqb (first_of (put_list (M-of s) t p c e f g)) 0) o (answer (refused (first_of (put_list (M-of s) t p c e f g)) 0) (meaning s t))
  put_refused p c e f g o = refusing-first (put_checks p c e f g (meaning s t)) (put_list (M-of s) t p c e f g)
      (refl, refl, λ n. (refl, ap not (begun-are p n), λ b. (refl, asked-are p n, λ a. (refl, hand-are p n, λ h. (refl, refl, λ i. (refl, ap (λ m. leb c 4 && (eqb e 0 || ltb m e)) entries-count, λ j. (refl, refl, λ k. (refl, refl, λ l. tt))))))))
      ((λ e. omega (arith, e)), ((λ e. omega (arith, e)), ((λ e. omega (arith, e)), ((λ e. omega (arith, e)), ((λ e. omega (arith, e)), ((λ e. omega (arith, e)), ((λ e. omega (arith, e)), ((λ e. omega (arith, e)), tt)))))))) (meaning s t) o
