-- Pins (document 01's seize counts) counted: what the tally has for a descriptor is how often its key is pinned.
use Rattle.std.specs.Prelude.{◌≡◌, refl, Bool, true, false, cond, not, ◌&&◌, List, [], ◌∷◌, ◌++◌, eqb, length, get_or}
use Rattle.std.proofs.Common.{sym, ap, ◌∙◌, arith, length-append, length-set, get_or-set_same, get_or-set_other, ne_eqb}
use Rattle.std.proofs.Math.Path.{subst}
use Rattle.std.proofs.Math.Option.{Option, none, some}
use Prim.Native.Nat.{ℕ, zero, suc, ◌+◌, ◌*◌, ◌≤◌, ◌<◌}
use Rattle.std.proofs.Math.Decide.{ℕ_discrete}
use Rattle.sessions.specs.declared.Session.{Session}
use Rattle.sessions.specs.Sessions.{session_at}
use Rattle.machine.specs.State.{Stage, start, enter, at, change, take, Request, top}
use Rattle.machine.specs.Steps.{pinned}
use Rattle.machine.specs.Sound.{stored_in, total, of_hand, times, pins_by}
use Rattle.machine.specs.Latched.{bit-yes, bit-no}
use Rattle.meaning.specs.Reading.{Leaf, hand_of, session-of, sessions_of, M-of, R-of, meaning}
use Rattle.meaning.specs.Sound.{All, leaves_of, record_of}
use Rattle.standing.specs.Standing.{one_more_of}
use Rattle.soundness.specs.Marking.{In, times-append, all_append, all_left, all_right}
use Rattle.soundness.specs.UndoLeaves.{descs, nums}
use Rattle.soundness.specs.TreeKnown.{TreeKnown, key_word, stored_low, record-key, record-only}
use Rattle.soundness.specs.PartyPass.{tally_one, tally_pins, pins_of}

-- ---- the keys that a table's requests pin

-- Those of the parties from p on, n of them.
unfoldable pub pins_from : List Session → ℕ → ℕ → List ℕ
pins_from t p zero = []
pins_from t p (suc n) = pins_of (session_at t p) ++ pins_from t (suc p) n

abbrev pub all_pins : List Session → List ℕ
all_pins [] = []
all_pins (x ∷ t) = pins_of x ++ all_pins t

pins-tail : (x : Session) (t : List Session) (p n : ℕ) → pins_from (x ∷ t) (suc p) n ≡ pins_from t p n
unfolding pins_from
pins-tail x t p zero = refl
pins-tail x t p (suc n) = ap (λ (l : List ℕ). pins_of (session_at t p) ++ l) (pins-tail x t (suc p) n)

pub pins-whole : (t : List Session) → pins_from t 0 (length t) ≡ all_pins t
unfolding pins_from
pins-whole [] = refl
pins-whole (x ∷ t) = ap (λ (l : List ℕ). pins_of x ++ l) (pins-tail x t 0 (length t) ∙ pins-whole t)

-- All of them have P exactly if those of each party have.
module _ (P : ℕ → Type 0) (t : List Session) where
  pub pins-each : (n p : ℕ) → ((q : ℕ) → p ≤ q → q < p + n → All P (pins_of (session_at t q))) → All P (pins_from t p n)
  unfolding pins_from
  pins-each zero p f = tt
  pins-each (suc n) p f =
      all_append P (pins_of (session_at t p)) (pins_from t (suc p) n) (f p (omega arith) (omega arith)) (pins-each n (suc p) (λ q l h. f q (omega (arith, l)) (omega (arith, h))))

  pub each_pins : (n p : ℕ) → All P (pins_from t p n) → (q : ℕ) → p ≤ q → q < p + n → All P (pins_of (session_at t q))
  unfolding pins_from
  each_pins zero p a q l h = absurd (omega (arith, l, h))
  each_pins (suc n) p a q l h = go (ℕ_discrete p q) (each_pins n (suc p) (all_right P (pins_of (session_at t p)) (pins_from t (suc p) n) a) q)
    where
      go : Dec (p ≡ q) → (suc p ≤ q → q < suc p + n → All P (pins_of (session_at t q))) → All P (pins_of (session_at t q))
      go (yes e) ih = subst (λ (i : ℕ). All P (pins_of (session_at t i))) e (all_left P (pins_of (session_at t p)) (pins_from t (suc p) n) a)
      go (no k) ih = ih (omega (arith, k, l)) (omega (arith, h))

-- At most two each.
one-few : (k : ℕ) (b : Bool) → length (cond b (k ∷ []) []) ≤ 2
one-few k true = omega arith
one-few k false = omega arith

two-few : (j k : ℕ) (b : Bool) → length (cond b (j ∷ []) (j ∷ k ∷ [])) ≤ 2
two-few j k true = omega arith
two-few j k false = omega arith

pinned-few : (r : Request) (g : Stage) → length (pinned r g) ≤ 2
unfolding pinned
pinned-few r start = omega arith
pinned-few r (enter x) = one-few r.first (eqb r.code 5 && not (eqb x r.first))
pinned-few r (at x) = one-few r.first (eqb r.code 5 && not (eqb x r.first))
pinned-few r change = omega arith
pinned-few r (take x) = two-few r.first r.second (eqb r.first r.second)

pins-few : (x : Session) → length (pins_of x) ≤ 2
pins-few x = go (hand_of x)
  where
    go : (o : Option Request) → length (of_hand [] (λ r. pinned r r.stage) o) ≤ 2
    go none = omega arith
    go (some r) = pinned-few r r.stage

pub all-few : (t : List Session) → length (all_pins t) ≤ 2 * length t
all-few [] = omega arith
all-few (x ∷ t) = omega (arith, length-append (pins_of x) (all_pins t), pins-few x, all-few t)

-- ---- as the machine counts them

hand-times : (k : ℕ) (o : Option Request) → of_hand 0 (λ r. times k (pinned r r.stage)) o ≡ times k (of_hand [] (λ r. pinned r r.stage) o)
hand-times k none = refl
hand-times k (some r) = refl

module _ (s : List ℕ) (m r k : ℕ) where
  pins-session : (p : ℕ) (x : Session) → pins_by k (session-of s m r p x) ≡ times k (pins_of x)
  pins-session zero x = hand-times k (hand_of x)
  pins-session (suc p) x = hand-times k (hand_of x)

  pins-table : (t : List Session) (p : ℕ) → total (pins_by k) (sessions_of s m r p t) ≡ times k (all_pins t)
  pins-table [] p = refl
  pins-table (x ∷ t) p = omega (arith, pins-session p x, pins-table t (suc p), times-append k (pins_of x) (all_pins t))

pub meaning-pins : (s : List ℕ) (t : List Session) (k : ℕ) → total (pins_by k) (meaning s t).table ≡ times k (all_pins t)
unfolding meaning
meaning-pins s t k = pins-table s (M-of s) (R-of s) k t zero

-- ---- the tally

one_more : (n : ℕ) → n < 255 → one_more_of n ≡ n + 1
unfolding one_more_of
one_more n h = simp (ne_eqb n 255 (λ e. omega (arith, e, h)))

pub tally-append : (l : List Leaf) (a b tally : List ℕ) → tally_pins l (a ++ b) tally ≡ tally_pins l b (tally_pins l a tally)
tally-append l [] b tally = refl
tally-append l (k ∷ a) b tally = tally-append l a b (tally_one (record_of k l) tally)

module _ (s seen : List ℕ) (K : TreeKnown s seen) (i : ℕ) (leaf : In i (nums (leaves_of s))) where
  -- A stored key is counted at i exactly if it is the key of i.
  counted-at : (k : ℕ) → stored_in k (descs (leaves_of s)) ≡ true → (tally : List ℕ) → i < length tally → get_or tally i 0 < 255
      → get_or (tally_one (record_of k (leaves_of s)) tally) i 0 ≡ get_or tally i 0 + cond {A = ℕ} (eqb k (key_word s i)) 1 0
  counted-at k e tally h few = go (ℕ_discrete k (key_word s i))
    where
      high : k ≤ top
      high = stored_low s seen K k e

      go : Dec (k ≡ (key_word s i)) → get_or (tally_one (record_of k (leaves_of s)) tally) i 0 ≡ get_or tally i 0 + cond {A = ℕ} (eqb k (key_word s i)) 1 0
      go (yes q) =
          subst (λ (j : ℕ). get_or (tally_one j tally) i 0 ≡ get_or tally i 0 + cond {A = ℕ} (eqb k (key_word s i)) 1 0) (record-only s seen K k high i leaf (sym q)).1
          (get_or-set_same tally i (one_more_of (get_or tally i 0)) 0 h ∙ one_more (get_or tally i 0) few ∙ omega (arith, bit-yes k (key_word s i) q))
      go (no n) =
          get_or-set_other tally (record_of k (leaves_of s)) i (one_more_of (get_or tally (record_of k (leaves_of s)) 0)) 0
          (λ q. n (sym (record-key s seen K k high e) ∙ ap (λ (j : ℕ). key_word s j) (sym q)))
          ∙ omega (arith, bit-no k (key_word s i) n)

  pub tally-at : (ks : List ℕ) → All (λ k. stored_in k (descs (leaves_of s)) ≡ true) ks → (tally : List ℕ) → i < length tally → get_or tally i 0 + length ks ≤ 255
      → get_or (tally_pins (leaves_of s) ks tally) i 0 ≡ get_or tally i 0 + times (key_word s i) ks
  tally-at [] a tally h few = omega arith
  tally-at (k ∷ ks) a tally h few =
      let c = counted-at k a.0 tally h (omega (arith, few)) in
      let b = bit-few k in
      let ih = tally-at ks a.1 (tally_one (record_of k (leaves_of s)) tally) (subst (λ (n : ℕ). i < n) (sym (length-set tally (record_of k (leaves_of s)) (one_more_of (get_or tally (record_of k (leaves_of s)) 0)))) h) (omega (arith, c, b, few)) in
      omega (arith, ih, c)
    where
      bit-few : (k : ℕ) → cond {A = ℕ} (eqb k (key_word s i)) 1 0 ≤ 1
      bit-few k = go (eqb k (key_word s i))
        where
          go : (b : Bool) → cond {A = ℕ} b 1 0 ≤ 1
          go true = omega arith
          go false = omega arith
