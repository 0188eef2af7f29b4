-- Totals: over a list, and over the session table (undo records, pins), after a change at one place.
use Rattle.std.specs.Prelude.{◌≡◌, refl, List, [], ◌∷◌, ◌++◌, map, zero, suc, ◌+◌, ◌≤◌, ◌<◌, ℕ, length, get_or, set, replicate}
use Rattle.std.proofs.Math.Option.{Option}
use Rattle.std.proofs.Common.{arith}
use Rattle.machine.specs.State.{Request, Undo, Session, State, idle, session_of, on_session, set_hand, add_undo}
use Rattle.machine.specs.Sound.{total, undos_many, pins_by}
use Rattle.machine.specs.Table.{with_hand, with_undo}

pub total-append : {A : Type 0} (F : A → ℕ) (a b : List A) → total F (a ++ b) ≡ total F a + total F b
total-append F [] b = omega arith
total-append F (x ∷ a) b = omega (arith, total-append F a b)

pub total-put : {X : Type 0} (F : X → ℕ) (d c : X) (A B : List X) → total F (A ++ c ∷ B) + F d ≡ total F (A ++ d ∷ B) + F c
total-put F d c [] B = omega arith
total-put F d c (a ∷ A) B = omega (arith, total-put F d c A B)

pub total-set : {A : Type 0} (F : A → ℕ) (l : List A) (p : ℕ) (x z : A) → p < length l → total F (set l p x) + F (get_or l p z) ≡ total F l + F x
total-set F [] p x z h = absurd (omega (arith, h))
total-set F (y ∷ l) zero x z h = omega arith
total-set F (y ∷ l) (suc p) x z h = omega (arith, total-set F l p x z (omega (arith, h)))

pub total_kept : {A : Type 0} (F : A → ℕ) (f : A → A) → ((x : A) → F (f x) ≡ F x) → (l : List A) (p : ℕ) (z : A) → total F (set l p (f (get_or l p z))) ≡ total F l
total_kept F f e [] p z = refl
total_kept F f e (y ∷ l) zero z = omega (arith, e y)
total_kept F f e (y ∷ l) (suc p) z = omega (arith, total_kept F f e l p z)

pub total-map : {A : Type 0} (F : A → ℕ) (f : A → A) → ((x : A) → F (f x) ≡ F x) → (l : List A) → total F (map f l) ≡ total F l
total-map F f e [] = refl
total-map F f e (x ∷ l) = omega (arith, e x, total-map F f e l)

pub total-least : {A : Type 0} (F : A → ℕ) (l : List A) (p : ℕ) (z : A) → p < length l → F (get_or l p z) ≤ total F l
total-least F [] p z h = absurd (omega (arith, h))
total-least F (y ∷ l) zero z h = omega arith
total-least F (y ∷ l) (suc p) z h = omega (arith, total-least F l p z (omega (arith, h)))

pub total-none : {A : Type 0} (F : A → ℕ) (a : A) → F a ≡ 0 → (n : ℕ) → total F (replicate n a) ≡ 0
total-none F a e zero = refl
total-none F a e (suc n) = omega (arith, e, total-none F a e n)

-- ---- over the session table

pub session-total : (F : Session → ℕ) (p : ℕ) (f : Session → Session) (s : State) → p < length s.table
    → total F (on_session p f s).table + F (session_of p s) ≡ total F s.table + F (f (session_of p s))
unfolding on_session session_of
session-total F p f s h = total-set F s.table p (f (get_or s.table p idle)) idle h

pub session-total-kept : (F : Session → ℕ) (p : ℕ) (f : Session → Session) (s : State) → ((x : Session) → F (f x) ≡ F x) → total F (on_session p f s).table ≡ total F s.table
unfolding on_session session_of
session-total-kept F p f s e = total_kept F f e s.table p idle

pub hand-pins : (k p : ℕ) (r : Option Request) (s : State) → p < length s.table
    → total (pins_by k) (set_hand p r s).table + pins_by k (session_of p s) ≡ total (pins_by k) s.table + pins_by k (with_hand r (session_of p s))
unfolding set_hand
hand-pins k p r s h = session-total (pins_by k) p (with_hand r) s h

pub hand-undos : (p : ℕ) (r : Option Request) (s : State) → undos_many (set_hand p r s).table ≡ undos_many s.table
unfolding set_hand
hand-undos p r s = session-total-kept (λ t. length t.undos) p (with_hand r) s (λ x. refl)

pub undo-pins : (k p : ℕ) (b : Undo) (s : State) → total (pins_by k) (add_undo p b s).table ≡ total (pins_by k) s.table
unfolding add_undo
undo-pins k p b s = session-total-kept (pins_by k) p (with_undo b) s (λ x. refl)

pub undo-undos : (p : ℕ) (b : Undo) (s : State) → p < length s.table → undos_many (add_undo p b s).table ≡ suc (undos_many s.table)
unfolding add_undo
undo-undos p b s h = omega (arith, session-total (λ t. length t.undos) p (with_undo b) s h)
