-- A session pins the stored descriptor of its key, and its node is released.
use Rattle.std.specs.Prelude.{◌≡◌, refl, Bool, true, false, cond, List, [], ◌∷◌, ℕ, zero, suc, ◌≤◌, eqb, leb, set}
use Rattle.std.proofs.Common.{sym, ap, ap₂, subst, add-one, arith}
use Rattle.groups.specs.Descriptor.{descriptor_at, put_pins}
use Rattle.sessions.specs.declared.Session.{Session}
use Rattle.sessions.specs.Sessions.{session_at}
use Rattle.machine.specs.Tree.{onp}
use Rattle.machine.specs.Holders.{width, latch_word}
use Rattle.machine.specs.State.{Desc, Tree, State, on_tree, on_leaf, on_desc, pin_desc, set_hand, with_root}
use Rattle.machine.specs.Descent.{on_latch, unlatched}
use Rattle.machine.specs.Steps.{unlatch, goes_on, pin-step, pinned_state}
use Rattle.meaning.specs.Reading.{M-of}
use Rattle.meaning.specs.Latched.{at_request}
use Rattle.layout.specs.Layout.{Lay, leaves_in, Has, Holds, means}
use Rattle.layout.specs.Row.{Stands, Becomes}
use Rattle.layout.specs.Ordering.{Rising}
use Rattle.layout.specs.Room.{Sizes}
use Rattle.layout.specs.Left.{Left, left-then, left-pins}
use Rattle.nodes.specs.Paths.{son_toward}
use Rattle.nodes.specs.Ops.{latch_at}
use Rattle.members.specs.Members.{pin_at}
use Rattle.endings.specs.Table.{idled}
use Rattle.arriving.specs.Arriving.{pin_words, arrived_at}
use Rattle.arriving.specs.Lowest.{Lowest}
use Rattle.arriving.specs.Site.{site-has}
use Rattle.finishing.specs.Ended.{end-latch}
use Rattle.arriving.specs.Handed.{left-hand}
use Rattle.arriving.specs.Standing.{descends-at, session-code}
use Rattle.arriving.specs.Arrived.{arrived-undo, arrived-tenure, arrived-hand, arrived-fits}

-- ---- a descriptor and the node's latch are changed in either order

onp-swap : {A : Type 0} (x : ℕ) (f g : A → A) → ((a : A) → f (g a) ≡ g (f a)) → (es : List (A × ℕ))
    → onp x (λ a b. (f a, b) ∷ []) (onp x (λ a b. (g a, b) ∷ []) es) ≡ onp x (λ a b. (g a, b) ∷ []) (onp x (λ a b. (f a, b) ∷ []) es)
onp-swap x f g e [] = refl
onp-swap {A} x f g e (p ∷ es) = go (leb x p.1) refl (onp-swap x f g e es)
  where
    by : (A → A) → List (A × ℕ) → List (A × ℕ)
    by k l = onp x (λ a b. (k a, b) ∷ []) l

    go : (c : Bool) → leb x p.1 ≡ c → by f (by g es) ≡ by g (by f es)
        → by f (cond c ((g p.0, p.1) ∷ es) (p ∷ by g es)) ≡ by g (cond c ((f p.0, p.1) ∷ es) (p ∷ by f es))
    go true q ih = rw q (ap (λ a. (a, p.1) ∷ es) (e p.0))
    go false q ih = rw q (ap (λ l. p ∷ l) ih)

leaf-latch : (w x : ℕ) (f : Desc → Desc) (h : ℕ) (t : Tree h) → on_leaf x f h (on_latch w x unlatched h t) ≡ on_latch w x unlatched h (on_leaf x f h t)
unfolding on_leaf on_latch unlatched
leaf-latch w x f zero t = refl
leaf-latch w x f (suc h) t = go (leaf-latch w x f h) (eqb t.latch w)
  where
    go : ((a : Tree h) → on_leaf x f h (on_latch w x unlatched h a) ≡ on_latch w x unlatched h (on_leaf x f h a)) → (c : Bool)
        → on_leaf x f (suc h) (cond c (record { latch = 0; sons = t.sons }) (record { latch = t.latch; sons = onp x (λ a b. (on_latch w x unlatched h a, b) ∷ []) t.sons }))
        ≡ cond c (record { latch = 0; sons = onp x (λ a b. (on_leaf x f h a, b) ∷ []) t.sons })
        (record { latch = t.latch; sons = onp x (λ a b. (on_latch w x unlatched h a, b) ∷ []) (onp x (λ a b. (on_leaf x f h a, b) ∷ []) t.sons) })
    go ih true = refl
    go ih false = ap (λ l. record { latch = t.latch; sons = l }) (onp-swap x (on_leaf x f h) (on_latch w x unlatched h) ih t.sons)

pinned-same : (p x : ℕ) (σ : State) → on_desc x (pin_desc suc) (on_tree (on_latch (latch_word p) x unlatched) σ) ≡ pinned_state p x σ
unfolding unlatch on_tree
pinned-same p x σ = ap (λ n. with_root (record { height = σ.root.height; node = n }) σ) (leaf-latch (latch_word p) x (pin_desc suc) (suc σ.root.height) σ.root.node)

-- ---- one pin more, with the header as it was before

pin-left : (s : List ℕ) (t : List Session) (L : Lay) → Holds s t L → Sizes L → Rising L → (m : ℕ) → M-of s ≡ m → (k d : ℕ) → Has k d (leaves_in L)
    → Left s t L (pin_at s m d) (on_desc k (pin_desc suc))
unfolding pin_at
pin-left s t L H Z o m e k d h =
    subst (λ n. Left s t L (put_pins s m d n) (on_desc k (pin_desc suc))) (sym (add-one (descriptor_at s m d).pins)) (left-pins suc s t L H Z o m e k d h)

-- ---- the row

pub pin-becomes : (s : List ℕ) (t : List Session) (A : Stands s t) (p : ℕ) → p ≤ width → ¬ (p ≡ 0) → (session_at t p).stage ≡ 3 → (N : Lowest A.lay t p)
    → N.leaf.desc.key ≡ (session_at t p).target
    → Becomes s (pin_words s (M-of s) (session_at t p)) (set t p (arrived_at (session_at t p) (son_toward s (M-of s) (session_at t p).at (session_at t p).target)))
    (pin-step p (at_request (session_at t p)) (session_at t p).target (means A.lay t)).next
unfolding pin_words idled pin-step goes_on
pin-becomes s t A p l nz e N key =
    let x = session_at t p in
    let L = A.lay in
    let m = M-of s in
    let k = x.target in
    let d = son_toward s m x.at k in
    let σ = means L t in
    let s₁ = latch_at s m x.at 0 in
    let s₂ = pin_at s₁ m d in
    let f = on_tree (on_latch (latch_word p) k unlatched) in
    let g = on_desc k (pin_desc suc) in
    let R = end-latch s t L A.holds A.sound p l e (idled x) refl refl in
    let had = site-has s t L A.holds p N key in
    let P = pin-left s₁ (set t p (idled x)) R.lay R.holds R.sizes R.rising m R.written.entries k d (R.has k d had) in
    let B = left-then s (set t p (idled x)) L s₁ s₂ f g R P in
    let own = arrived-fits x d B.lay p σ e (session-code L t A.holds.seats A.sound p l nz e) (descends-at L t A.holds.seats A.sound p l e) (B.has k d had)
    (λ q. B.has x.first x.low ((A.holds.hands p l).low (λ z. omega (arith, z, e)) q)) in
    subst (Becomes s s₂ (set t p (arrived_at x d))) (ap₂ (λ r v. set_hand p r v) (arrived-hand x d) (pinned-same p k σ))
    (left-hand s t L s₂ (λ z. g (f z)) p (idled x) (arrived_at x d) B A.holds.seats l (arrived-undo x d) (arrived-tenure x d) own)
