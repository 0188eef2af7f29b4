-- Theorems of specs/Moving: what it defines is there.
use Rattle.std.specs.Prelude.{◌≡◌, Bool, List, [], ◌∷◌, length}
use Rattle.std.proofs.Math.Path.{refl, ap, subst}
use Rattle.std.proofs.Common.{sym, ◌∙◌, arith, eq-eqb, ne_eqb}
use Rattle.std.proofs.Math.Bool.{true, false, cond}
use Prim.Native.Nat.{ℕ, zero, suc, ◌≤◌}
use Rattle.std.proofs.Math.Decide.{ℕ_discrete}
use Rattle.std.proofs.Math.Dec.{eqb}
use Rattle.words.specs.Store.{word_of}
use Rattle.words.specs.Header.{header_word, free_place}
use Rattle.sessions.specs.declared.Session.{Session}
use Rattle.sessions.specs.Sessions.{session_at}
use Rattle.serial.specs.Calls as C
use Rattle.machine.specs.Logic.{eqb_is, eqb-not, leb_yes, leb_no}
use Rattle.machine.specs.Tree.{map_e, map_e-append, pick, pick-hit}
use Rattle.machine.specs.Holders.{width}
use Rattle.machine.specs.State.{Desc, Request, State, no_desc, same, more, refused}
use Rattle.machine.specs.Steps.{answer, goes_on, guarded, ended, pin-step, make-step, lowest_step, stand_step, at_step, arrived, made_state}
use Rattle.meaning.specs.Reading.{Chained, Leaf, erase, M-of, R-of}
use Rattle.meaning.specs.Around.{below-erase}
use Rattle.meaning.specs.Latched.{at_request}
use Rattle.layout.specs.Layout.{Lay, means}
use Rattle.layout.specs.Row.{Stands, Moves}
use Rattle.layout.specs.Asked.{request_in}
use Rattle.outcomes.specs.declared.Answer.TheVariants.{More, Refused}
use Rattle.endings.specs.Table.{idled}
use Rattle.finishing.specs.Finishing.{end_request}
use Rattle.finishing.proofs.Ended.{refused-moves}
use Rattle.nodes.specs.Paths.{son_toward}
use Rattle.arriving.specs.Arriving.{pin_step, make_words, made_step, full_step, make_step, session_step, lowest_step_of, arrived_at}
use Rattle.arriving.specs.Lowest.{Lowest}
use Rattle.arriving.proofs.Made.{make-becomes}
use Rattle.arriving.specs.Moving.{Steps, request_at, pin-moves, tidy-moves, key_word, lowest-of}

-- ---- each step's cases, and the machine's

make-full : (s : List ℕ) (m r : ℕ) (x : Session) → header_word s free_place ≡ 0 → make_step s m r x ≡ record { words = end_request s m x; session = idled x; answer = Refused 11 0 }
unfolding make_step full_step
make-full s m r x z = rw (eq-eqb (header_word s free_place) 0 z) refl

make-made : (s : List ℕ) (m r : ℕ) (x : Session) → ¬ (header_word s free_place ≡ 0) → make_step s m r x ≡ record { words = make_words s m r x; session = arrived_at x (header_word s free_place); answer = More }
unfolding make_step made_step
make-made s m r x z = rw (ne_eqb (header_word s free_place) 0 z) refl

step-full : (p : ℕ) (r : Request) (x : ℕ) (σ : State) → σ.free ≡ 0 → make-step p r x σ ≡ answer (refused 11 0) (ended p r σ)
unfolding make-step guarded
step-full p r x σ z = rw (leb_no 1 σ.free (omega (arith, z))) refl

step-made : (p : ℕ) (r : Request) (x : ℕ) (σ : State) → 1 ≤ σ.free → make-step p r x σ ≡ goes_on p r (arrived r x) (made_state p x σ)
unfolding make-step guarded
step-made p r x σ z = rw (leb_yes 1 σ.free z) refl

free-none : (s : List ℕ) (m i : ℕ) (l : List ℕ) → Chained s m i l → i ≡ 0 → length l ≡ 0
free-none s m i [] c z = refl
free-none s m i (j ∷ l) c z = absurd (c.1 z)

free-some : (s : List ℕ) (m i : ℕ) (l : List ℕ) → Chained s m i l → ¬ (i ≡ 0) → 1 ≤ length l
free-some s m i [] c z = absurd (z c)
free-some s m i (j ∷ l) c z = omega arith

free_is : (L : Lay) (t : List Session) → (means L t).free ≡ length L.free
unfolding means
free_is L t = refl

session-step : (s : List ℕ) (m r p : ℕ) (x : Session) → ¬ (p ≡ 0)
    → lowest_step_of s m r p x ≡ cond (eqb (word_of s m (son_toward s m x.at x.target) 1) x.target) (pin_step s m x) (make_step s m r x)
unfolding lowest_step_of session_step
session-step s m r p x nz = rw (ne_eqb p 0 nz) refl

session-row : (p : ℕ) (r : Request) (x : ℕ) (σ : State) (d : Desc) → ¬ (p ≡ 0) → lowest_step p r x σ d ≡ cond (eqb d.key x) (pin-step p r x σ) (make-step p r x σ)
unfolding lowest_step
session-row p r x σ d nz = rw (ne_eqb p 0 nz) refl

module _ (s : List ℕ) (t : List Session) (A : Stands s t) where
  -- ---- a session

  full-moves : (p : ℕ) → p ≤ width → (session_at t p).stage ≡ 3 → header_word s free_place ≡ 0
      → Steps s t p (make_step s (M-of s) (R-of s) (session_at t p)) (make-step p (at_request (session_at t p)) (session_at t p).target (means A.lay t))
  full-moves p l e z =
      let x = session_at t p in
      let σ = means A.lay t in
      let n = free_is A.lay t ∙ free-none s (M-of s) (header_word s free_place) A.lay.free A.holds.fits.free z in
      subst (λ y. Steps s t p y (make-step p (at_request x) x.target σ)) (sym (make-full s (M-of s) (R-of s) x z))
      (subst (λ o. Steps s t p (record { words = end_request s (M-of s) x; session = idled x; answer = Refused 11 0 }) o) (sym (step-full p (at_request x) x.target σ n))
      (subst (λ r. Moves s t p (end_request s (M-of s) x) (idled x) (C.refused 11 0) (answer (refused 11 0) (ended p r σ))) (request_at x e)
      (refused-moves s t A.lay A.holds A.sound p l (λ q. omega (arith, q, e)) 11 0)))

  some-moves : (p : ℕ) → p ≤ width → ¬ (p ≡ 0) → (session_at t p).stage ≡ 3 → (N : Lowest A.lay t p) → ¬ (N.leaf.desc.key ≡ (session_at t p).target) → ¬ (header_word s free_place ≡ 0)
      → Steps s t p (make_step s (M-of s) (R-of s) (session_at t p)) (make-step p (at_request (session_at t p)) (session_at t p).target (means A.lay t))
  unfolding goes_on
  some-moves p l nz e N k z =
      let x = session_at t p in
      let σ = means A.lay t in
      let n = subst (λ i. 1 ≤ i) (sym (free_is A.lay t)) (free-some s (M-of s) (header_word s free_place) A.lay.free A.holds.fits.free z) in
      subst (λ y. Steps s t p y (make-step p (at_request x) x.target σ)) (sym (make-made s (M-of s) (R-of s) x z))
      (subst (λ o. Steps s t p (record { words = make_words s (M-of s) (R-of s) x; session = arrived_at x (header_word s free_place); answer = More }) o) (sym (step-made p (at_request x) x.target σ n))
      (record { becomes = make-becomes s t A p l nz e N k z; tells = refl }))

  pub make-moves : (p : ℕ) → p ≤ width → ¬ (p ≡ 0) → (session_at t p).stage ≡ 3 → (N : Lowest A.lay t p) → ¬ (N.leaf.desc.key ≡ (session_at t p).target)
      → Steps s t p (make_step s (M-of s) (R-of s) (session_at t p)) (make-step p (at_request (session_at t p)) (session_at t p).target (means A.lay t))
  make-moves p l nz e N k = go (ℕ_discrete (header_word s free_place) 0)
    where
      go : Dec (header_word s free_place ≡ 0) → Steps s t p (make_step s (M-of s) (R-of s) (session_at t p)) (make-step p (at_request (session_at t p)) (session_at t p).target (means A.lay t))
      go (yes z) = full-moves p l e z
      go (no z) = some-moves p l nz e N k z

  -- ---- both

  step-at : (p : ℕ) (r : Request) (N : Lowest A.lay t p) → at_step p r (session_at t p).target (means A.lay t) ≡ lowest_step p r (session_at t p).target (means A.lay t) N.leaf.desc
  unfolding at_step stand_step erase
  step-at p r N =
      let x = (session_at t p).target in
      let σ = means A.lay t in
      let f : Leaf → Desc = λ l. l.desc in
      N.focus.answers (answer more σ) (stand_step p r x σ)
      ∙ ap (lowest_step p r x σ) (ap (pick x no_desc same) (map_e-append f N.pre ((N.leaf, N.bound) ∷ N.post))
      ∙ pick-hit x no_desc same (map_e f N.pre) N.leaf.desc N.bound (map_e f N.post) (below-erase f x N.pre N.below) N.upto)

  low-moves : (p : ℕ) → p ≤ width → (session_at t p).stage ≡ 3 → (N : Lowest A.lay t p)
      → Steps s t p (lowest_step_of s (M-of s) (R-of s) p (session_at t p)) (lowest_step p (at_request (session_at t p)) (session_at t p).target (means A.lay t) N.leaf.desc)
  unfolding lowest_step_of lowest_step
  low-moves zero l e N = tidy-moves s t A e N
  low-moves (suc k) l e N =
      let p = suc k in
      let x = session_at t (suc k) in
      let σ = means A.lay t in
      let nz : ¬ (suc k ≡ 0) = λ z. omega (arith, z) in
      subst (λ z. Steps s t p z (lowest_step p (at_request x) x.target σ N.leaf.desc))
      (sym (session-step s (M-of s) (R-of s) p x nz ∙ ap (λ i. cond (eqb i x.target) (pin_step s (M-of s) x) (make_step s (M-of s) (R-of s) x))
      (key_word s t A p N)))
      (subst (Steps s t p (cond (eqb N.leaf.desc.key x.target) (pin_step s (M-of s) x) (make_step s (M-of s) (R-of s) x))) (sym (session-row p (at_request x) x.target σ N.leaf.desc nz))
      (go (eqb N.leaf.desc.key x.target) refl))
    where
      go : (c : Bool) → eqb N.leaf.desc.key (session_at t (suc k)).target ≡ c
          → Steps s t (suc k) (cond c (pin_step s (M-of s) (session_at t (suc k))) (make_step s (M-of s) (R-of s) (session_at t (suc k))))
          (cond c (pin-step (suc k) (at_request (session_at t (suc k))) (session_at t (suc k)).target (means A.lay t)) (make-step (suc k) (at_request (session_at t (suc k))) (session_at t (suc k)).target (means A.lay t)))
      go true q = pin-moves s t A (suc k) l (λ z. omega (arith, z)) e N (eqb_is N.leaf.desc.key (session_at t (suc k)).target q)
      go false q = make-moves (suc k) l (λ z. omega (arith, z)) e N (eqb-not N.leaf.desc.key (session_at t (suc k)).target q)

  pub lowest-moves : (p : ℕ) → p ≤ width → (session_at t p).stage ≡ 3 → (session_at t p).level ≡ 1
      → Steps s t p (lowest_step_of s (M-of s) (R-of s) p (session_at t p)) (at_step p (request_in (session_at t p)) (session_at t p).target (means A.lay t))
  lowest-moves p l e one =
      let N = lowest-of s t A p l e one in
      subst (λ r. Steps s t p (lowest_step_of s (M-of s) (R-of s) p (session_at t p)) (at_step p r (session_at t p).target (means A.lay t))) (sym (request_at (session_at t p) e))
      (subst (Steps s t p (lowest_step_of s (M-of s) (R-of s) p (session_at t p))) (sym (step-at p (at_request (session_at t p)) N)) (low-moves p l e N))
