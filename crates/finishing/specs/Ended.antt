-- A request in hand that ends, on words, is the machine's `ended`.
use Rattle.std.specs.Prelude.{◌≡◌, Bool, true, false, cond, not, ◌&&◌, List, [], ◌∷◌, ◌++◌, ℕ, zero, suc, ◌-◌, ◌≤◌, eqb, set}
use Rattle.std.proofs.Math.Path.{refl, ap, subst}
use Rattle.std.proofs.Common.{sym, ◌∙◌, inl, inr, arith}
use borrow.Author.Tests.{eq-eqb, ne_eqb}
use Rattle.serial.specs.Serial.{true≢false}
use Rattle.sessions.specs.declared.Session.{Session}
use Rattle.sessions.specs.Sessions.{session_at}
use Rattle.machine.specs.Logic.{eqb_is}
use Rattle.machine.specs.Tree.{leaves}
use Rattle.machine.specs.Holders.{width, latch_word}
use Rattle.machine.specs.State.{Stage, start, enter, change, take, State, on_desc, on_tree, with_root, pin_desc, top}
use Rattle.machine.specs.Descent.{on_latch, unlatched}
use Rattle.machine.specs.Steps.{pinned, unpin, unlatch}
use Rattle.machine.specs.Sound as S
use Rattle.machine.specs.Context.{plug}
use Rattle.machine.specs.Order.{Ord}
use Rattle.meaning.specs.Reading.{Leaf, Mark, Numbered, erase, stage_of, M-of}
use Rattle.meaning.specs.Sound.{pins_first}
use Rattle.meaning.specs.Around.{NCtx, fill, erase-fill, leaves-fill}
use Rattle.layout.specs.Layout.{Lay, leaves_in, Has, Marked, Holds, means}
use Rattle.layout.specs.Keep.{with_tree, Hands, table-row, marked-fill}
use Rattle.layout.specs.Places.{Erased, AtMark, at_mark}
use Rattle.layout.specs.Ordering.{Rising, rising-of, ord-sons}
use Rattle.layout.specs.Room.{Sizes, sizes-of}
use Rattle.layout.specs.Asked.{request_in, hand-means}
use Rattle.layout.specs.LatchRows.{relatched, latch-written, latch-put}
use Rattle.layout.specs.Left.{Left, idle-fits, left-then, left-none, left-pins}
use Rattle.nodes.specs.Ops.{latch_at}
use Rattle.members.specs.Members.{unpin_at}
use Rattle.finishing.specs.Finishing.{end_latch, end_low, end_high}

-- ---- the latch

-- The same node in a tree, whatever the session table.
unlatched-tree : (L : Lay) (t : List Session) (p : ℕ) (A : AtMark L t p) (u : List Session)
    → means (with_tree L L.height (fill A.around (relatched A.k 0 A.node)) L.free) u ≡ on_tree (on_latch (latch_word p) (session_at t p).target unlatched) (means L u)
unfolding means on_tree unlatched erase Erased
unlatched-tree L t p A u =
    ap (λ n. with_root (record { height = L.height; node = n }) (means L u))
    (erase-fill A.around (relatched A.k 0 A.node)
    ∙ ap (λ c. plug c (erase (suc A.k) (relatched A.k 0 A.node))) (sym A.erased)
    ∙ sym (A.focus.changes unlatched))

other-marked : (j n w k : ℕ) (u : Numbered (suc k)) (v : ℕ) → u.latch.word ≡ v → ¬ (v ≡ w) → Marked j n w (suc k) u → Marked j n w (suc k) (relatched k 0 u)
unfolding Marked
other-marked j n w k u v e ne (inl m) = absurd (ne (sym e ∙ m.2))
other-marked j n w k u v e ne (inr m) = inr m

latched-leaves : {k h : ℕ} (c : NCtx (suc k) h) (u : Numbered (suc k)) (w : ℕ) → leaves Leaf Mark h (fill c u) ≡ leaves Leaf Mark h (fill c (relatched k w u))
unfolding leaves
latched-leaves {k} c u w = leaves-fill c u ∙ sym (leaves-fill c (relatched k w u))

-- ---- the pins

unfoldable pub lows : Session → List ℕ
lows x = cond (pins_first x) (x.first ∷ []) []

unfoldable pub highs : Session → List ℕ
highs x = cond (eqb x.stage 5) (cond (eqb x.first x.second) [] (x.second ∷ [])) []

unpin-append : (a b : List ℕ) (s : State) → unpin (a ++ b) s ≡ unpin b (unpin a s)
unfolding unpin
unpin-append [] b s = refl
unpin-append (k ∷ a) b s = unpin-append a b (on_desc k (pin_desc (λ n. n - 1)) s)

-- What a request has pinned, by its session record.
descent-pins : (a b : Bool) (k : ℕ) → cond (a && not b) (k ∷ []) [] ≡ cond (cond a (cond b false true) false) (k ∷ []) [] ++ []
descent-pins true true k = refl
descent-pins true false k = refl
descent-pins false b k = refl

take-pins : (b : Bool) (i k : ℕ) → cond b (i ∷ []) (i ∷ k ∷ []) ≡ (i ∷ []) ++ cond b [] (k ∷ [])
take-pins true i k = refl
take-pins false i k = refl

pub data StageIs (n : ℕ) : Type 0 where
  is_1 : n ≡ 1 → StageIs n
  is_2 : n ≡ 2 → StageIs n
  is_3 : n ≡ 3 → StageIs n
  is_4 : n ≡ 4 → StageIs n
  is_5 : n ≡ 5 → StageIs n

pub stage_is : (n : ℕ) → ¬ (n ≡ 0) → n ≤ 5 → StageIs n
stage_is zero a b = absurd (a refl)
stage_is (suc zero) a b = is_1 refl
stage_is (suc (suc zero)) a b = is_2 refl
stage_is (suc (suc (suc zero))) a b = is_3 refl
stage_is (suc (suc (suc (suc zero)))) a b = is_4 refl
stage_is (suc (suc (suc (suc (suc zero))))) a b = is_5 refl
stage_is (suc (suc (suc (suc (suc (suc n)))))) a b = absurd (omega (arith, b))

not-1 : (x : Session) (n k : ℕ) → x.stage ≡ n → ¬ (n ≡ k) → eqb x.stage k ≡ false
not-1 x n k e d = ne_eqb x.stage k (λ q. d (sym e ∙ q))

pub pins-are : (x : Session) → StageIs x.stage → (x.stage ≡ 1 → ¬ (x.code ≡ 5)) → pinned (request_in x) (stage_of x) ≡ lows x ++ highs x
unfolding pinned request_in lows highs
pins-are x (is_1 e) c =
    rw (eq-eqb x.stage 1 e, not-1 x 1 4 e (λ q. omega (arith, q)), not-1 x 1 5 e (λ q. omega (arith, q)), ne_eqb x.code 5 (c e)) refl
pins-are x (is_2 e) c =
    rw (not-1 x 2 1 e (λ q. omega (arith, q)), eq-eqb x.stage 2 e, not-1 x 2 4 e (λ q. omega (arith, q)), not-1 x 2 5 e (λ q. omega (arith, q)))
    (descent-pins (eqb x.code 5) (eqb x.target x.first) x.first)
pins-are x (is_3 e) c =
    rw (not-1 x 3 1 e (λ q. omega (arith, q)), not-1 x 3 2 e (λ q. omega (arith, q)), eq-eqb x.stage 3 e, not-1 x 3 4 e (λ q. omega (arith, q)), not-1 x 3 5 e (λ q. omega (arith, q)))
    (descent-pins (eqb x.code 5) (eqb x.target x.first) x.first)
pins-are x (is_4 e) c =
    rw (not-1 x 4 1 e (λ q. omega (arith, q)), not-1 x 4 2 e (λ q. omega (arith, q)), not-1 x 4 3 e (λ q. omega (arith, q)), eq-eqb x.stage 4 e, not-1 x 4 5 e (λ q. omega (arith, q))) refl
pins-are x (is_5 e) c =
    rw (not-1 x 5 1 e (λ q. omega (arith, q)), not-1 x 5 2 e (λ q. omega (arith, q)), not-1 x 5 3 e (λ q. omega (arith, q)), not-1 x 5 4 e (λ q. omega (arith, q)), eq-eqb x.stage 5 e)
    (take-pins (eqb x.first x.second) x.first x.second)

-- One pin less, with the header as it was before.
one-pin : (s : List ℕ) (t : List Session) (L : Lay) → Holds s t L → Sizes L → Rising L → (m : ℕ) → M-of s ≡ m → (k d : ℕ) → Has k d (leaves_in L)
    → Left s t L (unpin_at s m d) (on_desc k (pin_desc (λ n. n - 1)))
unfolding unpin_at
one-pin s t L H Z o m e k d h = left-pins (λ n. n - 1) s t L H Z o m e k d h

-- The same change, said otherwise.
left_as : (s : List ℕ) (t : List Session) (L : Lay) (s' : List ℕ) (f g : State → State) → ((z : State) → f z ≡ g z) → Left s t L s' f → Left s t L s' g
left_as s t L s' f g e A = record { lay = A.lay; holds = A.holds; rising = A.rising; sizes = A.sizes; has = A.has; is = λ u. A.is u ∙ e (means L u); among = A.among; written = A.written }

pin-left : (s : List ℕ) (t : List Session) (L : Lay) → Holds s t L → Sizes L → Rising L → (m : ℕ) → M-of s ≡ m → (k d : ℕ) → Has k d (leaves_in L) → Left s t L (unpin_at s m d) (unpin (k ∷ []))
unfolding unpin
pin-left s t L H Z o m e k d h = left_as s t L (unpin_at s m d) (on_desc k (pin_desc (λ n. n - 1))) (unpin (k ∷ [])) (λ z. refl) (one-pin s t L H Z o m e k d h)

no-left : (s : List ℕ) (t : List Session) (L : Lay) → Holds s t L → Sizes L → Rising L → Left s t L s (unpin [])
unfolding unpin
no-left s t L H Z o = left_as s t L s (λ z. z) (unpin []) (λ z. refl) (left-none s t L H o Z)

pub low-left : (s : List ℕ) (t : List Session) (L : Lay) → Holds s t L → Sizes L → Rising L → (m : ℕ) → M-of s ≡ m → (x : Session)
    → (pins_first x ≡ true → Has x.first x.low (leaves_in L)) → Left s t L (end_low s m x) (unpin (lows x))
unfolding end_low lows
low-left s t L H Z o m e x has = go (pins_first x) has
  where
    go : (b : Bool) → (b ≡ true → Has x.first x.low (leaves_in L)) → Left s t L (cond b (unpin_at s m x.low) s) (unpin (cond b (x.first ∷ []) []))
    go true f = pin-left s t L H Z o m e x.first x.low (f refl)
    go false f = no-left s t L H Z o

high-left : (s : List ℕ) (t : List Session) (L : Lay) → Holds s t L → Sizes L → Rising L → (m : ℕ) → M-of s ≡ m → (x : Session)
    → (x.stage ≡ 5 → ¬ (x.first ≡ x.second) → Has x.second x.high (leaves_in L)) → Left s t L (end_high s m x) (unpin (highs x))
unfolding end_high highs
high-left s t L H Z o m e x has = go (eqb x.stage 5) refl (eqb x.first x.second) refl
  where
    go : (b : Bool) → eqb x.stage 5 ≡ b → (c : Bool) → eqb x.first x.second ≡ c
        → Left s t L (cond b (cond c s (unpin_at s m x.high)) s) (unpin (cond b (cond c [] (x.second ∷ [])) []))
    go true q true r = no-left s t L H Z o
    go true q false r = pin-left s t L H Z o m e x.second x.high (has (eqb_is x.stage 5 q) (λ z. true≢false (eq-eqb x.first x.second z) r))
    go false q c r = no-left s t L H Z o

-- The pins that a session record x names go, whatever record the table has.
pub pins-left : (s : List ℕ) (t : List Session) (L : Lay) → Holds s t L → Sizes L → Rising L → (m : ℕ) → M-of s ≡ m → (x : Session)
    → (pins_first x ≡ true → Has x.first x.low (leaves_in L)) → (x.stage ≡ 5 → ¬ (x.first ≡ x.second) → Has x.second x.high (leaves_in L))
    → Left s t L (end_high (end_low s m x) m x) (unpin (lows x ++ highs x))
pins-left s t L H Z o m e x low high =
    let A = low-left s t L H Z o m e x low in
    let B = high-left (end_low s m x) t A.lay A.holds A.sizes A.rising m (A.written.entries ∙ e) x (λ f n. A.has x.second x.high (high f n)) in
    left_as s t L (end_high (end_low s m x) m x) (λ z. unpin (highs x) (unpin (lows x) z)) (unpin (lows x ++ highs x)) (λ z. sym (unpin-append (lows x) (highs x) z))
    (left-then s t L (end_low s m x) (end_high (end_low s m x) m x) (unpin (lows x)) (unpin (highs x)) A B)

-- ---- the whole

module _ (s : List ℕ) (t : List Session) (L : Lay) (H : Holds s t L) (sound : S.Sound (means L t)) (p : ℕ) (l : p ≤ width) where
  abbrev x : Session
  x = session_at t p

  -- With a record that has no request in hand, the latch is gone.
  pub end-latch : x.stage ≡ 3 → (y : Session) → y.stage ≡ 0 → y.undo ≡ x.undo
      → Left s (set t p y) L (latch_at s (M-of s) x.at 0) (on_tree (on_latch (latch_word p) x.target unlatched))
  end-latch e y idle undo =
      let A = at_mark L t H.seats sound p l e (H.hands p l) in
      let c = A.around in
      let u = A.node in
      let Z = sizes-of L t sound in
      let n = suc L.height in
      let T = fill c (relatched A.k 0 u) in
      let hands : Hands L t (with_tree L L.height T L.free) p y = record {
        party = l;
        undo = undo;
        own = idle-fits (with_tree L L.height T L.free) p y idle;
        others = λ q ne k f m. marked-fill (session_at t q).level (session_at t q).at (latch_word q) c u (relatched A.k 0 u)
            (other-marked (session_at t q).level (session_at t q).at (latch_word q) A.k u (latch_word p) A.word (λ z. ne (omega (arith, z))))
            (subst (Marked (session_at t q).level (session_at t q).at (latch_word q) n) A.is m);
      } in
      subst (λ i. Left s (set t p y) L (latch_at s (M-of s) i 0) (on_tree (on_latch (latch_word p) x.target unlatched))) A.num
      record {
        lay = with_tree L L.height T L.free;
        holds = latch-put s t L H c u A.is Z 0 p y hands;
        rising = ord-sons c u (relatched A.k 0 u) refl 0 top (subst (λ z. Ord n 0 top (erase n z)) A.is (rising-of L t sound));
        sizes = record { some = Z.some; entries = Z.entries; least = Z.least; most = Z.most };
        has = λ k d h. subst (Has k d) (latched-leaves c u 0) (subst (λ z. Has k d (leaves Leaf Mark n z)) A.is h);
        is = unlatched-tree L t p A;
        among = u.latch.num ∷ [];
        written = latch-written s t L H c u A.is Z 0;
      }

  idle-left : (y : Session) → y.stage ≡ 0 → y.undo ≡ x.undo → (g : Stage) → ((z : State) → z ≡ unlatch p g z) → Left s (set t p y) L s (unlatch p g)
  idle-left y idle undo g e =
      left_as s (set t p y) L s (λ z. z) (unlatch p g) e
      (left-none s (set t p y) L (table-row s t L H p y l undo (idle-fits L p y idle)) (rising-of L t sound) (sizes-of L t sound))

  -- The latch, where there is one, and the request is no more in hand.
  pub first-left : (y : Session) → y.stage ≡ 0 → y.undo ≡ x.undo → StageIs x.stage → Left s (set t p y) L (end_latch s (M-of s) x) (unlatch p (stage_of x))
  unfolding end_latch unlatch
  first-left y idle undo (is_1 e) = rw (not-1 x 1 3 e (λ q. omega (arith, q)), eq-eqb x.stage 1 e) (idle-left y idle undo start (λ z. refl))
  first-left y idle undo (is_2 e) =
      rw (not-1 x 2 3 e (λ q. omega (arith, q)), not-1 x 2 1 e (λ q. omega (arith, q)), eq-eqb x.stage 2 e) (idle-left y idle undo (enter x.target) (λ z. refl))
  first-left y idle undo (is_3 e) =
      rw (eq-eqb x.stage 3 e, not-1 x 3 1 e (λ q. omega (arith, q)), not-1 x 3 2 e (λ q. omega (arith, q))) (end-latch e y idle undo)
  first-left y idle undo (is_4 e) =
      rw (not-1 x 4 3 e (λ q. omega (arith, q)), not-1 x 4 1 e (λ q. omega (arith, q)), not-1 x 4 2 e (λ q. omega (arith, q)), eq-eqb x.stage 4 e) (idle-left y idle undo change (λ z. refl))
  first-left y idle undo (is_5 e) =
      rw (not-1 x 5 3 e (λ q. omega (arith, q)), not-1 x 5 1 e (λ q. omega (arith, q)), not-1 x 5 2 e (λ q. omega (arith, q)), not-1 x 5 4 e (λ q. omega (arith, q)))
      (idle-left y idle undo (take (cond (eqb x.last 0) x.first (suc x.last))) (λ z. refl))

  -- A request that stands before its first step is no locate.
  pub first_code : ¬ (x.stage ≡ 0) → x.stage ≡ 1 → ¬ (x.code ≡ 5)
  unfolding request_in
  first_code n e =
      let g : stage_of x ≡ start = rw (eq-eqb x.stage 1 e) refl in
      subst (λ g. S.Stands p (means L t) (request_in x) g) g (sound.standing p (request_in x) (hand-means L t p (omega (arith, l, H.seats)) n))
