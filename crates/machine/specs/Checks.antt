-- What the checks of a call tell: a refusal by its number, or of the party and of its request what they ask for.
use Rattle.std.specs.Prelude.{◌≡◌, refl, Bool, true, false, cond, not, ◌&&◌, ◌||◌, List, [], ◌∷◌, suc, ◌≤◌, ◌<◌, ℕ, leb, ltb, eqb, length}
use Rattle.std.proofs.Common.{sym, ◌∙◌, ap, arith}
use Rattle.std.proofs.Math.Bool.{and_comm}
use Rattle.std.proofs.Math.Option.{Option, none, some}
use Rattle.serial.specs.Serial.{true≢false}
use Rattle.machine.specs.Logic.{neither, not-both, not-false, leb_yes, leb-not, eqb_yes, eqb_no, eqb_is, eqb-not}
use Rattle.machine.specs.Holders.{width}
use Rattle.machine.specs.State.{Request, State, refused, Outcome, top, session_of}
use Rattle.machine.specs.Steps.{answer}
use Rattle.machine.specs.Calls.{refusing, has_begun, is_some, in_hand, infinite, no_party, no_session, bad_code, request_checks}
use Rattle.machine.specs.Sound.{Passes}

-- ---- refusals

abbrev pub AllNumbers : (ℕ → Type 0) → List (ℕ × Bool) → Type 0
AllNumbers P [] = Unit {0}
AllNumbers P (c ∷ cs) = P c.0 × AllNumbers P cs

-- Each refusal by its number.
pub refusing-numbers : (P : Outcome → Type 0) (cs : List (ℕ × Bool)) (s : State) (o : Outcome) → AllNumbers (λ n. P (answer (refused n 0) s)) cs → (Passes cs → P o)
    → P (refusing cs s o)
unfolding refusing
refusing-numbers P [] s o r d = d tt
refusing-numbers P (c ∷ cs) s o r d = go c.1 refl (refusing-numbers P cs s o r.1)
  where
    go : (b : Bool) → c.1 ≡ b → ((Passes cs → P o) → P (refusing cs s o)) → P (cond b (answer (refused c.0 0) s) (refusing cs s o))
    go true e f = r.0
    go false e f = f (λ q. d (e, q))

-- All refusals alike.
pub refusing-cases : (P : Outcome → Type 0) (cs : List (ℕ × Bool)) (s : State) (o : Outcome) → ((n : ℕ) → P (answer (refused n 0) s)) → (Passes cs → P o) → P (refusing cs s o)
refusing-cases P cs s o r d = refusing-numbers P cs s o (all cs) d
  where
    all : (l : List (ℕ × Bool)) → AllNumbers (λ n. P (answer (refused n 0) s)) l
    all [] = tt
    all (c ∷ l) = (r c.0, all l)

-- ---- the party

pub party-number : (p : ℕ) → no_party p ≡ false → p ≤ width
party-number p e = let w = leb-not (suc width) p e in omega arith

pub session-number : (p : ℕ) → no_session p ≡ false → ¬ (p ≡ 0) × (p ≤ width)
session-number p e = let n = neither (eqb p 0) (no_party p) e in (eqb-not p 0 n.0, party-number p n.1)

pub party-seat : (p : ℕ) (s : State) → length s.table ≡ suc width → p ≤ width → p < length s.table
party-seat p s n h = omega arith

pub session-begun : (p : ℕ) (s : State) → ¬ (p ≡ 0) → has_begun p s ≡ true → (session_of p s).begun ≡ true
session-begun p s n b = sym (ap (λ z. z || (session_of p s).begun) (eqb_no p 0 n)) ∙ b

pub session-unbegun : (p : ℕ) (s : State) → has_begun p s ≡ false → (session_of p s).begun ≡ false
session-unbegun p s b = (neither (eqb p 0) (session_of p s).begun b).1

pub empty_hand : (p : ℕ) (s : State) → in_hand p s ≡ false → (session_of p s).hand ≡ none
empty_hand p s e = go (session_of p s).hand e
  where
    go : (o : Option Request) → is_some o ≡ false → o ≡ none
    go none e = refl
    go (some r) e = absurd (true≢false refl e)

-- ---- the request

-- Code 6, a tidy, is the housekeeper's, and its only one.
pub code-range : (p c : ℕ) → bad_code p c ≡ false → (1 ≤ c) × (c ≤ 6) × (c ≡ 6 → p ≡ 0) × (p ≡ 0 → c ≡ 6)
code-range p c h =
    let a = neither (eqb c 0 || ltb 6 c || (eqb c 6 && not (eqb p 0))) (ltb c 6 && eqb p 0) h in
    let b = neither (eqb c 0 || ltb 6 c) (eqb c 6 && not (eqb p 0)) a.0 in
    let d = neither (eqb c 0) (ltb 6 c) b.0 in
    let least = eqb-not c 0 d.0 in
    let most = leb-not 7 c d.1 in (
      omega (arith, least),
      omega (arith, most),
      (λ q. eqb_is p 0 (not-false (eqb p 0) (not-both (eqb c 6) (not (eqb p 0)) (eqb_yes c 6 q) b.1))),
      (λ q. omega (arith, most, leb-not (suc c) 6 (not-both (eqb p 0) (ltb c 6) (eqb_yes p 0 q) (and_comm (eqb p 0) (ltb c 6) ∙ a.1)))),
    )

pub keeper-code : (c : ℕ) → bad_code 0 c ≡ false → c ≡ 6
keeper-code c h = (code-range 0 c h).3 refl

pub tidy-zero : (p c : ℕ) → bad_code p c ≡ false → c ≡ 6 → p ≡ 0
tidy-zero p c h = (code-range p c h).2

pub session-code : (m c : ℕ) → bad_code (suc m) c ≡ false → (1 ≤ c) × (c ≤ 5)
session-code m c h =
    let n = code-range (suc m) c h in
    let six : ¬ (c ≡ 6) = λ e. omega (arith, n.2 e) in
    (n.0, omega (arith, n.1, six))

pub checked-entry : (p c e f g : ℕ) (s : State) → Passes (request_checks p c e f g s) → c ≤ 4 → (1 ≤ e) × (e ≤ length s.entries)
checked-entry p c e f g s h le =
    let n = neither (eqb e 0) (ltb (length s.entries) e) (not-both (leb c 4) (eqb e 0 || ltb (length s.entries) e) (leb_yes c 4 le) h.1.0) in
    let z = eqb-not e 0 n.0 in
    let u = leb-not (suc (length s.entries)) e n.1 in
    (omega (arith, z), omega (arith, u))

proper : (k : ℕ) → infinite k ≡ false → (1 ≤ k) × (k < top)
proper k i =
    let n = neither (eqb k 0) (leb top k) i in
    let z = eqb-not k 0 n.0 in
    (omega (arith, z), leb-not top k n.1)

-- The keys of an insert, a remove and a locate lie between 0 and the upper infinity.
pub checked-first : (p c e f g : ℕ) (s : State) → Passes (request_checks p c e f g s) → 3 ≤ c → c ≤ 5 → (1 ≤ f) × (f < top)
checked-first p c e f g s h lo hi =
    let n = (neither (leb 3 c && leb c 5 && infinite f) (eqb c 5 && infinite g) h.1.1.0).0 in
    proper f (not-both (leb 3 c && leb c 5) (infinite f) (rw (leb_yes 3 c lo, leb_yes c 5 hi) refl) n)

pub checked-second : (p c e f g : ℕ) (s : State) → Passes (request_checks p c e f g s) → c ≡ 5 → (1 ≤ g) × (g < top)
checked-second p c e f g s h q = proper g
    (not-both (eqb c 5) (infinite g) (eqb_yes c 5 q) (neither (leb 3 c && leb c 5 && infinite f) (eqb c 5 && infinite g) h.1.1.0).1)

pub checked-order : (p c e f g : ℕ) (s : State) → Passes (request_checks p c e f g s) → c ≡ 5 → f ≤ g
checked-order p c e f g s h q = let u = leb-not (suc g) f (not-both (eqb c 5) (ltb g f) (eqb_yes c 5 q) h.1.1.1.0) in omega (arith, u)

-- The checks read of a state the number of entries alone.
pub checks-kept : (p c e f g : ℕ) (s t : State) → length t.entries ≡ length s.entries → Passes (request_checks p c e f g s) → Passes (request_checks p c e f g t)
checks-kept p c e f g s t l h = (h.0, (ap (λ n. leb c 4 && (eqb e 0 || ltb n e)) l ∙ h.1.0, h.1.1))
