-- A change logged: the layout has another undo record of its session, one free record less and other entries; and what that means.
use Rattle.std.specs.Prelude.{◌≡◌, refl, eqb, length, get_or, set}
use Rattle.std.proofs.Math.Path.{sym, ap, ap₂}
use Rattle.std.proofs.Common.{◌∙◌, arith, get_or-set_same, set-set}
use Rattle.std.proofs.Math.Bool.{not}
use mathlib.Core.List.{List, [], ◌∷◌, map}
use Rattle.std.proofs.Math.Option.{Option}
use Prim.Native.Nat.{ℕ, zero, suc, ◌+◌, ◌-◌, ◌≤◌, ◌<◌}
use Rattle.sessions.specs.declared.Session.{Session}
use Rattle.sessions.specs.Sessions.{session_at, tenure}
use Rattle.machine.specs.State.{Entry, Request, Undo, State, idle, session_of, set_hand, add_undo, on_session, with_entries, with_free, with_table}
use Rattle.machine.specs.State as M
use Rattle.meaning.specs.Reading.{hand_of}
use Rattle.layout.specs.Layout.{Lay, Undone, means, session_in, sessions_in}
use Rattle.layout.specs.Groups.{put_at, put-here, put-there, with_log}
use Rattle.layout.specs.Places.{session-means}

-- ---- the table

module _ (u : ℕ → List Undone) (p : ℕ) (us : List Undone) where
  session-there : (q : ℕ) (x : Session) → ¬ (q ≡ p) → session_in (put_at p us u) q x ≡ session_in u q x
  session-there zero x n = refl
  session-there (suc q) x n = ap (λ l. record { begun = not (eqb x.begun 0); order = x.order; hand = hand_of x; undos = map (λ y. y.undo) l; asked = not (eqb x.asked 0) }) (put-there p us u (suc q) n)

  later-there : (q : ℕ) (t : List Session) → p < q → sessions_in (put_at p us u) q t ≡ sessions_in u q t
  later-there q [] l = refl
  later-there q (x ∷ t) l = ap₂ (λ a b. a ∷ b) (session-there q x (λ e. omega (arith, e, l))) (later-there (suc q) t (omega (arith, l)))

  sessions-put : (q j : ℕ) (t : List Session) (x : Session) → p ≡ q + j → sessions_in (put_at p us u) q (set t j x) ≡ set (sessions_in u q t) j (session_in (put_at p us u) p x)
  sessions-put q zero [] x e = refl
  sessions-put q (suc j) [] x e = refl
  sessions-put q zero (y ∷ t) x e =
      let z : q ≡ p = omega (arith, e) in
      ap₂ (λ a b. a ∷ b) (ap (λ i. session_in (put_at p us u) i x) z) (later-there (suc q) t (omega (arith, e)))
  sessions-put q (suc j) (y ∷ t) x e = ap₂ (λ a b. a ∷ b) (session-there q y (λ z. omega (arith, e, z))) (sessions-put (suc q) j t x (omega (arith, e)))

pub means-log : (L : Lay) (t : List Session) (p : ℕ) (us : List Undone) (f : List ℕ) (E : List Entry) (x' : Session)
    → means (with_log L p us f E) (set t p x') ≡ on_session p (λ _. session_in (put_at p us L.undos) p x') (with_free (length f) (with_entries E (means L t)))
unfolding means on_session
means-log L t p us f E x' = ap (λ l. with_table l (with_free (length f) (with_entries E (means L t)))) (sessions-put L.undos p us 0 p t x' (omega arith))

-- ---- the session

on-twice : (p : ℕ) (f g : M.Session → M.Session) (σ : State) → p < length σ.table → on_session p f (on_session p g σ) ≡ on_session p (λ x. f (g x)) σ
unfolding on_session session_of
on-twice p f g σ l =
    ap (λ x. with_table (set (set σ.table p (g (get_or σ.table p idle))) p (f x)) σ) (get_or-set_same σ.table p (g (get_or σ.table p idle)) idle l)
    ∙ ap (λ m. with_table m σ) (set-set σ.table p (g (get_or σ.table p idle)) (f (g (get_or σ.table p idle))))

same-on : (p : ℕ) (f g : M.Session → M.Session) (σ : State) → f (session_of p σ) ≡ g (session_of p σ) → on_session p f σ ≡ on_session p g σ
unfolding on_session
same-on p f g σ e = ap (λ z. with_table (set σ.table p z) σ) e

-- Another undo record, and another request in hand.
pub log-session : (p : ℕ) (b : Undo) (h : Option Request) (σ : State) → p < length σ.table
    → set_hand p h (add_undo p b σ) ≡ on_session p (λ x. record { begun = x.begun; order = x.order; hand = h; undos = b ∷ x.undos; asked = x.asked }) σ
unfolding set_hand add_undo
log-session p b h σ l = on-twice p (λ x. record { begun = x.begun; order = x.order; hand = h; undos = x.undos; asked = x.asked }) (λ x. record { begun = x.begun; order = x.order; hand = x.hand; undos = b ∷ x.undos; asked = x.asked }) σ l

many-sessions : (u : ℕ → List Undone) (q : ℕ) (t : List Session) → length (sessions_in u q t) ≡ length t
many-sessions u q [] = refl
many-sessions u q (x ∷ t) = ap suc (many-sessions u (suc q) t)

pub many-means : (L : Lay) (t : List Session) → length (means L t).table ≡ length t
unfolding means
many-means L t = many-sessions L.undos 0 t

-- The whole: session p logs the record a for the change b.
pub log-means : (L : Lay) (t : List Session) (p : ℕ) (a : Undone) (f : List ℕ) (E : List Entry) (x' : Session) → 1 ≤ p → p < length t → tenure x' ≡ tenure (session_at t p)
    → length L.free ≡ suc (length f)
    → means (with_log L p (a ∷ L.undos p) f E) (set t p x') ≡ set_hand p (hand_of x') (add_undo p a.undo (with_free ((means L t).free - 1) (with_entries E (means L t))))
log-means L t zero a f E x' least seat b free = absurd (omega (arith, least))
log-means L t (suc k) a f E x' least seat b free =
    let p = suc k in
    let us = a ∷ L.undos p in
    let σ = with_free (length f) (with_entries E (means L t)) in
    let n : length f ≡ (means L t).free - 1 = unfold means in (omega (arith, free)) in
    let new : session_in (put_at p us L.undos) p x' ≡ record { begun = (session_in L.undos p (session_at t p)).begun; order = (session_in L.undos p (session_at t p)).order; hand = hand_of x'; undos = a.undo ∷ (session_in L.undos p (session_at t p)).undos; asked = (session_in L.undos p (session_at t p)).asked } =
    ap₂ (λ (m : ℕ × ℕ × ℕ) l. record { begun = not (eqb m.0 0); order = m.1; hand = hand_of x'; undos = map (λ y. y.undo) l; asked = not (eqb m.2 0) }) b (put-here p us L.undos) in
    let old : session_of p σ ≡ session_in L.undos p (session_at t p) = unfold session_of in (session-means L t p seat) in
    let table = same-on p (λ _. session_in (put_at p us L.undos) p x') (λ y. record { begun = y.begun; order = y.order; hand = hand_of x'; undos = a.undo ∷ y.undos; asked = y.asked }) σ
    (new ∙ ap (λ y. record { begun = y.begun; order = y.order; hand = hand_of x'; undos = a.undo ∷ y.undos; asked = y.asked }) (sym old)) in
    means-log L t p us f E x'
    ∙ table
    ∙ sym (log-session p a.undo (hand_of x') σ (omega (arith, many-means L t, seat)))
    ∙ ap (λ i. set_hand p (hand_of x') (add_undo p a.undo (with_free i (with_entries E (means L t))))) n
