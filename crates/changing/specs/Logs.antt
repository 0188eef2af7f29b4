-- A state in which a descriptor is changed twice, and what a layout means where a session has one undo record more and no request in hand.
use Rattle.std.specs.Prelude.{◌≡◌, refl, Bool, true, false, cond, not, List, [], ◌∷◌, map, ℕ, zero, suc, ◌+◌, ◌<◌, leb, eqb, length, get_or, set}
use Rattle.std.proofs.Common.{sym, ap, ap₂, subst, ◌∙◌, arith, get_or-set_same, set-set}
use Rattle.std.proofs.Math.Option.{none, some}
use Rattle.sessions.specs.declared.Session.{Session}
use Rattle.sessions.specs.Sessions.{session_at, tenure}
use Rattle.machine.specs.Tree.{onp, leaf_at, pick-hit}
use Rattle.machine.specs.State.{Entry, Desc, Tree, State, session_of, desc_of, or_none, idle, with_root, on_session, on_tree, on_leaf, on_desc, set_hand, add_undo}
use Rattle.machine.specs.State as M
use Rattle.machine.specs.Context.{Ctx, hole, down, plug, OnWay}
use Rattle.meaning.specs.Reading.{Numbered, erase, hand_of}
use Rattle.meaning.specs.Around.{erase_ctx, erase-fill, way-erase}
use Rattle.layout.specs.Layout.{Lay, Undone, means, session_in, sessions_in}
use Rattle.layout.specs.Groups.{put_at, put-here, put-there, with_group}
use Rattle.layout.specs.Places.{AtKey, session-means}

-- ---- a descriptor changed twice

onp-twice : {A : Type 0} (x : ℕ) (f g : A → A) (es : List (A × ℕ))
    → onp x (λ a b. (f a, b) ∷ []) (onp x (λ a b. (g a, b) ∷ []) es) ≡ onp x (λ a b. (f (g a), b) ∷ []) es
onp-twice x f g [] = refl
onp-twice {A} x f g (p ∷ es) = go (leb x p.1) refl (onp-twice x f g es)
  where
    F : A → ℕ → List (A × ℕ)
    F = λ a b. (f a, b) ∷ []

    G : A → ℕ → List (A × ℕ)
    G = λ a b. (g a, b) ∷ []

    FG : A → ℕ → List (A × ℕ)
    FG = λ a b. (f (g a), b) ∷ []

    go : (c : Bool) → leb x p.1 ≡ c → onp x F (onp x G es) ≡ onp x FG es
        → onp x F (cond c ((g p.0, p.1) ∷ es) (p ∷ onp x G es)) ≡ cond c ((f (g p.0), p.1) ∷ es) (p ∷ onp x FG es)
    go true e i = ap (λ b. cond b ((f (g p.0), p.1) ∷ es) ((g p.0, p.1) ∷ onp x F es)) e
    go false e i = ap (λ b. cond b ((f p.0, p.1) ∷ onp x G es) (p ∷ onp x F (onp x G es))) e ∙ ap (λ l. p ∷ l) i

onp-as : {A : Type 0} (x : ℕ) (f g : A → A) → ((a : A) → f a ≡ g a) → (es : List (A × ℕ)) → onp x (λ a b. (f a, b) ∷ []) es ≡ onp x (λ a b. (g a, b) ∷ []) es
onp-as x f g h [] = refl
onp-as x f g h (p ∷ es) = ap₂ (λ a l. cond (leb x p.1) ((a, p.1) ∷ es) (p ∷ l)) (h p.0) (onp-as x f g h es)

leaf-twice : (k : ℕ) (f g : Desc → Desc) (h : ℕ) (t : Tree h) → on_leaf k f h (on_leaf k g h t) ≡ on_leaf k (λ d. f (g d)) h t
unfolding on_leaf
leaf-twice k f g zero t = refl
leaf-twice k f g (suc h) t =
    ap (λ l. record { latch = t.latch; sons = l })
    (onp-twice k (on_leaf k f h) (on_leaf k g h) t.sons ∙ onp-as k (λ a. on_leaf k f h (on_leaf k g h a)) (on_leaf k (λ d. f (g d)) h) (leaf-twice k f g h) t.sons)

pub desc-twice : (k : ℕ) (f g : Desc → Desc) (s : State) → on_desc k f (on_desc k g s) ≡ on_desc k (λ d. f (g d)) s
unfolding on_tree
desc-twice k f g s = ap (λ n. with_root (record { height = s.root.height; node = n }) s) (leaf-twice k f g (suc s.root.height) s.root.node)

-- ---- the descriptor of a key, as the machine finds it

leaf-there : (k : ℕ) {h : ℕ} (c : Ctx 0 h) (d : Desc) → OnWay k c → leaf_at Desc ℕ k h (plug c d) ≡ some d
unfolding leaf_at
leaf-there k hole d o = refl
leaf-there k (down {h = h} v pre c b post) d o = pick-hit k none (leaf_at Desc ℕ k h) pre (plug c d) b post o.0 o.1 ∙ leaf-there k c d o.2

pub key-desc : (L : Lay) (t : List Session) (k d : ℕ) (P : AtKey L k d) → desc_of k (means L t) ≡ P.leaf.desc
unfolding means desc_of erase
key-desc L t k d P =
    let h = suc L.height in
    ap (λ z. or_none (leaf_at Desc ℕ k h z)) (ap (erase h) P.is ∙ erase-fill P.around P.leaf)
    ∙ ap or_none (leaf-there k (erase_ctx P.around) P.leaf.desc (way-erase k P.around P.way))

-- ---- the session table

module _ (u : ℕ → List Undone) (us : List Undone) where
  undos-other : (p j : ℕ) (x : Session) → ¬ (j ≡ p) → session_in (put_at p us u) j x ≡ session_in u j x
  undos-other p zero x n = refl
  undos-other p (suc j) x n =
      ap (λ v. record { begun = not (eqb x.begun 0); order = x.order; hand = hand_of x; undos = map (λ y. y.undo) v; asked = not (eqb x.asked 0) }) (put-there p us u (suc j) n)

  sessions-beyond : (p q : ℕ) (t : List Session) → p < q → sessions_in (put_at p us u) q t ≡ sessions_in u q t
  sessions-beyond p q [] l = refl
  sessions-beyond p q (x ∷ t) l = ap₂ (λ a b. a ∷ b) (undos-other p q x (λ e. omega (arith, e, l))) (sessions-beyond p (suc q) t (omega (arith, l)))

  sessions-log : (q p : ℕ) (t : List Session) (y : Session)
      → sessions_in (put_at (q + p) us u) q (set t p y) ≡ set (sessions_in u q t) p (session_in (put_at (q + p) us u) (q + p) y)
  sessions-log q zero [] y = refl
  sessions-log q (suc p) [] y = refl
  sessions-log q zero (x ∷ t) y =
      let e : q ≡ q + 0 = omega arith in
      ap₂ (λ a b. a ∷ b) (ap (λ n. session_in (put_at (q + 0) us u) n y) e) (sessions-beyond (q + 0) (suc q) t (omega arith))
  sessions-log q (suc p) (x ∷ t) y =
      let e : suc q + p ≡ q + suc p = omega arith in
      let ih = subst (λ n. sessions_in (put_at n us u) (suc q) (set t p y) ≡ set (sessions_in u (suc q) t) p (session_in (put_at n us u) n y)) e (sessions-log (suc q) p t y) in
      ap₂ (λ a b. a ∷ b) (undos-other (q + suc p) q x (λ z. omega (arith, z))) ih

-- One undo record more, and no request.
pub logged-state : (L : Lay) (t : List Session) (T : Numbered (suc L.height)) (d : ℕ) (ms : List (ℕ × ℕ)) (p : ℕ) (new : Undone) (f : List ℕ) (E : List Entry) (y : Session)
    → suc p < length t → tenure y ≡ tenure (session_at t (suc p)) → hand_of y ≡ none
    → means (with_group L T d ms (suc p) (new ∷ L.undos (suc p)) f E) (set t (suc p) y)
    ≡ set_hand (suc p) none (add_undo (suc p) new.undo
    (record { entries = E; root = record { height = L.height; node = erase (suc L.height) T }; free = length f; table = (means L t).table; records = L.records }))
unfolding means set_hand add_undo on_session session_of
logged-state L t T d ms p new f E y l b h =
    let P = suc p in
    let us = new ∷ L.undos P in
    let U = put_at P us L.undos in
    let table = sessions_in L.undos 0 t in
    let old = get_or table P idle in
    let one : M.Session = record { begun = old.begun; order = old.order; hand = old.hand; undos = new.undo ∷ old.undos; asked = old.asked } in
    let was : old ≡ session_in L.undos P (session_at t P) = session-means L t P l in
    let z : 0 + P ≡ P = omega arith in
    let a : sessions_in U 0 (set t P y) ≡ set table P (session_in U P y) =
    subst (λ n. sessions_in (put_at n us L.undos) 0 (set t P y) ≡ set table P (session_in (put_at n us L.undos) n y)) z (sessions-log L.undos us 0 P t y) in
    let c : session_in U P y ≡ record { begun = not (eqb (session_at t P).begun 0); order = (session_at t P).order; hand = none; undos = new.undo ∷ map (λ q. q.undo) (L.undos P); asked = not (eqb (session_at t P).asked 0) } =
    ap (λ v. record { begun = not (eqb y.begun 0); order = y.order; hand = hand_of y; undos = map (λ q. q.undo) v; asked = not (eqb y.asked 0) }) (put-here P us L.undos)
    ∙ ap₂ (λ (v : ℕ × ℕ × ℕ) w. record { begun = not (eqb v.0 0); order = v.1; hand = w; undos = new.undo ∷ map (λ q. q.undo) (L.undos P); asked = not (eqb v.2 0) }) b h in
    let e : session_in U P y ≡ record { begun = old.begun; order = old.order; hand = none; undos = new.undo ∷ old.undos; asked = old.asked } =
    c ∙ ap (λ (v : M.Session). record { begun = v.begun; order = v.order; hand = none; undos = new.undo ∷ v.undos; asked = v.asked }) (sym was) in
    let many : P < length table = tabled L t p l in
    let g : get_or (set table P one) P idle ≡ one = get_or-set_same table P one idle many in
    ap (λ v. record { entries = E; root = record { height = L.height; node = erase (suc L.height) T }; free = length f; table = v; records = L.records })
    (a ∙ ap (set table P) e
    ∙ sym (set-set table P one (record { begun = old.begun; order = old.order; hand = none; undos = new.undo ∷ old.undos; asked = old.asked }))
    ∙ ap (λ (v : M.Session). set (set table P one) P (record { begun = v.begun; order = v.order; hand = none; undos = v.undos; asked = v.asked })) (sym g))
  where
    many-in : (u : ℕ → List Undone) (q : ℕ) (t : List Session) → length (sessions_in u q t) ≡ length t
    many-in u q [] = refl
    many-in u q (x ∷ t) = ap suc (many-in u (suc q) t)

    tabled : (L : Lay) (t : List Session) (p : ℕ) → suc p < length t → suc p < length (sessions_in L.undos 0 t)
    tabled L t p l = omega (arith, l, many-in L.undos 0 t)
