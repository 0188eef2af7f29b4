-- The checks of a request by its code: what is left of put's list where the code is known.
use Rattle.std.specs.Prelude.{◌≡◌, refl, Bool, cond, not, ◌||◌, List, [], ◌∷◌, ℕ, zero, suc, ◌≤◌, ◌<◌, eqb, ltb}
use Rattle.std.proofs.Math.Bool.{or-false, or-true}
use Rattle.std.proofs.Common.{arith, eq-eqb, lt-ltb}
use Rattle.machine.specs.Calls.{infinite, format_checks, refusing}
use Rattle.machine.specs.State.{State, Outcome, refused}
use Rattle.machine.specs.Steps.{answer}
use Rattle.refusals.specs.Refusing.{first_of, request_list, refusing-first}

-- codes 1 and 2
abbrev pub value_list : ℕ → ℕ → ℕ → List (ℕ × Bool)
value_list m p e = (6, eqb p 0) ∷ (8, eqb e 0 || ltb m e) ∷ []

-- codes 3 and 4
abbrev pub change_list : ℕ → ℕ → ℕ → ℕ → List (ℕ × Bool)
change_list m p e f = (6, eqb p 0) ∷ (8, eqb e 0 || ltb m e) ∷ (9, infinite f) ∷ []

-- code 5
abbrev pub locate_list : ℕ → ℕ → ℕ → List (ℕ × Bool)
locate_list p f g = (6, eqb p 0) ∷ (9, infinite f || infinite g) ∷ (10, ltb g f) ∷ []

-- code 6
abbrev pub tidy_list : ℕ → List (ℕ × Bool)
tidy_list p = (6, not (eqb p 0)) ∷ []

pub value-first : (m p c e f g : ℕ) → ¬ (c ≡ 0) → c < 3 → first_of (value_list m p e) ≡ first_of (request_list m p c e f g)
unfolding first_of
value-first m p zero e f g n h = absurd (n refl)
value-first m p (suc zero) e f g n h = refl
value-first m p (suc (suc zero)) e f g n h = refl
value-first m p (suc (suc (suc c))) e f g n h = absurd (omega (arith, h))

pub change-first : (m p c e f g : ℕ) → 3 ≤ c → c < 5 → first_of (change_list m p e f) ≡ first_of (request_list m p c e f g)
unfolding first_of
change-first m p zero e f g l h = absurd (omega (arith, l))
change-first m p (suc zero) e f g l h = absurd (omega (arith, l))
change-first m p (suc (suc zero)) e f g l h = absurd (omega (arith, l))
change-first m p (suc (suc (suc zero))) e f g l h = rw (or-false (infinite f)) refl
change-first m p (suc (suc (suc (suc zero)))) e f g l h = rw (or-false (infinite f)) refl
change-first m p (suc (suc (suc (suc (suc c))))) e f g l h = absurd (omega (arith, h))

pub locate-first : (m p c e f g : ℕ) → c ≡ 5 → first_of (locate_list p f g) ≡ first_of (request_list m p c e f g)
unfolding first_of
locate-first m p c e f g h = rw (h) refl

pub tidy-first : (m p c e f g : ℕ) → c ≡ 6 → first_of (tidy_list p) ≡ first_of (request_list m p c e f g)
unfolding first_of
tidy-first m p c e f g h = rw (h, or-false (not (eqb p 0))) refl

-- no request has code 0, or one above 6

pub none_first : (m p c e f g : ℕ) → c ≡ 0 → 6 ≡ first_of (request_list m p c e f g)
unfolding first_of
none_first m p c e f g h = simp (eq-eqb c 0 h)

pub above-first : (m p c e f g : ℕ) → ¬ (c ≡ 5) → ¬ (c ≡ 6) → 5 ≤ c → 6 ≡ first_of (request_list m p c e f g)
unfolding first_of
above-first m p c e f g n k h = simp (lt-ltb 6 c (omega (arith, h, n, k)), or-true (eqb c 0))

-- ---- format's list is the machine's as it stands

pub format-refused : (m words : ℕ) (s : State) (o : Outcome)
    → refusing (format_checks m words) s o ≡ cond (eqb (first_of (format_checks m words)) 0) o (answer (refused (first_of (format_checks m words)) 0) s)
format-refused m words s o = refusing-first (format_checks m words) (format_checks m words) (refl, refl, λ _. tt) ((λ e. omega (arith, e)), tt) s o
