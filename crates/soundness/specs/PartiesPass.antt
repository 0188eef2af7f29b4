-- The pass over the session table: true exactly if the requests in hand, their descents, latches and pins are as Sound says, but for what a locate holds
-- of the keys that it has passed; and the tally that it leaves.
use Rattle.std.specs.Prelude.{◌≡◌, refl, Bool, true, false, cond, not, ◌⊎◌, ◌↔◌, eqb, length, get_or, replicate}
use Rattle.std.proofs.Math.Path.{sym, ap, subst}
use Rattle.std.proofs.Common.{◌∙◌, inl, inr, eq-eqb, ne_eqb, eqb-true}
use mathlib.Core.List.{List}
use Rattle.std.proofs.Math.Option.{Option, none, some}
use Prim.Native.Nat.{ℕ, zero, suc, ◌+◌, ◌≤◌, ◌<◌}
use Rattle.std.proofs.Math.Decide.{ℕ_discrete, dec_le}
use native.Mathlib.Omega.{arith}
use Rattle.std.proofs.lemmas.List.{length-replicate, get_or-replicate}
use Rattle.std.proofs.Math.ListN.{get_or-eq_default}
use Rattle.std.proofs.lemmas.Bool.{not-false}
use Rattle.words.specs.Store.{word_of}
use Rattle.sessions.specs.declared.Session.{Session}
use Rattle.sessions.specs.Sessions.{session_at, idle_session, parties}
use Rattle.machine.specs.Holders.{width, latch_word}
use Rattle.machine.specs.State.{Stage, start, enter, at, change, take, Request, State, Tree, session_of}
use Rattle.machine.specs.Descent.{sons_of}
use Rattle.machine.specs.Housekeeping.{lvs}
use Rattle.machine.specs.Calls.{request_checks}
use Rattle.machine.specs.Sound.{stored_in, total, of_hand, times, pins_by, latch_count, stands, Latched, Room, Passes}
use Rattle.meaning.specs.Reading.{Leaf, erase, hand_of, stage_of, M-of, R-of, height_of, tree_of, meaning}
use Rattle.meaning.specs.Sound.{All, leaves_of, number_at, StandsAtNode, Hand}
use Rattle.marks.specs.Trail.{Turn, then_turn}
use Rattle.standing.specs.Standing.{party_ok}
use Rattle.parties.specs.Parties.{parties_from, parties_ok, one_at_node, standing_from, standing_at_nodes}
use Rattle.soundness.specs.UndoLeaves.{descs, nums, leaves-meant}
use Rattle.soundness.specs.Marking.{In, all-as, all_in, all_from, times-in, in-times}
use Rattle.soundness.specs.TreeRecords.{latched_many}
use Rattle.soundness.specs.TreePaths.{NodeAt, Reads}
use Rattle.soundness.specs.TreeLeaves.{each_leaf}
use Rattle.soundness.specs.TreeKnown.{TreeKnown, level-node, says, leaf-among}
use Rattle.soundness.specs.PartyMeaning.{meaning-hand, meaning-begun, request_of, hand-some, hand-none, stage-3, StandsBut}
use Rattle.soundness.specs.PartyLatch.{Fits, Stood, RoomAt, node-as, node-both}
use Rattle.soundness.specs.PartyPass.{Does, does-yes, does-as, does-then, tally_pins, pins_of, Party, Worded, does-party}
use Rattle.soundness.specs.PartyLatches.{sums, sums-zero, sums-le, sums-tight, sums_same, sums-past, latches-few, latches-many, Has, Fit, node_counts, latched-at, at-latched, root-has, root-only}
use Rattle.soundness.specs.PartyTally.{pins_from, all_pins, pins-whole, pins-each, each_pins, all-few, meaning-pins, tally-append, tally-at}

-- ---- the machine's clauses for requests in hand

-- One latch for each request that stands at a node, and no other.
abbrev pub LatchesMatch : List ℕ → List Session → Type 0
LatchesMatch s t =
    (p : ℕ) → latch_count (latch_word p) (suc (meaning s t).root.height) (meaning s t).root.node ≡ of_hand 0 (λ r. stands r.stage) (session_of p (meaning s t)).hand

-- What Sound says of the requests in hand, their descents, latches and pinned keys.
pub record Requests (s : List ℕ) (t : List Session) : Type 0 where
  pub unbegun_hand : (p : ℕ) → (session_of (suc p) (meaning s t)).begun ≡ false → (session_of (suc p) (meaning s t)).hand ≡ none
  pub latches_match : LatchesMatch s t
  pub placed : (p : ℕ) (r : Request) (x : ℕ) → (session_of p (meaning s t)).hand ≡ some r → r.stage ≡ at x
      → Latched (latch_word p) x (Room (meaning s t) p) (suc (meaning s t).root.height) (meaning s t).root.node
  pub checked : (p : ℕ) (r : Request) → (session_of p (meaning s t)).hand ≡ some r → Passes (request_checks p r.code r.entry r.first r.second (meaning s t))
  pub standing : (p : ℕ) (r : Request) → (session_of p (meaning s t)).hand ≡ some r → StandsBut p (meaning s t) r r.stage
  pub hands : (p : ℕ) → p ≤ width → Hand s p (session_at t p)
  pub pins_stored : (k : ℕ) → 1 ≤ total (pins_by k) (meaning s t).table → stored_in k (lvs (meaning s t)) ≡ true

-- ---- stages and hands

-- One for a party at a node.
abbrev pub stand : List Session → ℕ → ℕ
stand t p = cond (eqb (session_at t p).stage 3) 1 0

stand-yes : (t : List Session) (p : ℕ) → (session_at t p).stage ≡ 3 → stand t p ≡ 1
stand-yes t p e = ap (λ (b : Bool). cond {A = ℕ} b 1 0) (eq-eqb (session_at t p).stage 3 e)

stand-no : (t : List Session) (p : ℕ) → ¬ ((session_at t p).stage ≡ 3) → stand t p ≡ 0
stand-no t p n = ap (λ (b : Bool). cond {A = ℕ} b 1 0) (ne_eqb (session_at t p).stage 3 n)

stage-stands : (x : Session) → ¬ (x.stage ≡ 3) → stands (stage_of x) ≡ 0
stage-stands x n = ap (λ (b : Bool). stands (cond (eqb x.stage 1) start (cond (eqb x.stage 2) (enter x.target) (cond b (at x.target) (cond (eqb x.stage 4) change (take y))))))
    (ne_eqb x.stage 3 n) ∙ go (eqb x.stage 1) (eqb x.stage 2) (eqb x.stage 4)
  where
    y : ℕ
    y = cond (eqb x.last 0) x.first (suc x.last)

    go : (a b c : Bool) → stands (cond a start (cond b (enter x.target) (cond c change (take y)))) ≡ 0
    go true b c = refl
    go false true c = refl
    go false false true = refl
    go false false false = refl

hand_stands : (x : Session) → of_hand 0 (λ r. stands r.stage) (hand_of x) ≡ cond {A = ℕ} (eqb x.stage 3) 1 0
hand_stands x = go (ℕ_discrete x.stage 0) (ℕ_discrete x.stage 3)
  where
    f : Option Request → ℕ
    f = of_hand 0 (λ r. stands r.stage)

    go : Dec (x.stage ≡ 0) → Dec (x.stage ≡ 3) → f (hand_of x) ≡ cond {A = ℕ} (eqb x.stage 3) 1 0
    go (yes e) d = ap f (hand-none x e) ∙ sym (ap (λ (b : Bool). cond {A = ℕ} b 1 0) (ne_eqb x.stage 3 (λ q. omega (arith, e, q))))
    go (no n) (yes q) = ap f (hand-some x n) ∙ ap stands (stage-3 x q) ∙ sym (ap (λ (b : Bool). cond {A = ℕ} b 1 0) (eq-eqb x.stage 3 q))
    go (no n) (no k) = ap f (hand-some x n) ∙ stage-stands x k ∙ sym (ap (λ (b : Bool). cond {A = ℕ} b 1 0) (ne_eqb x.stage 3 k))

some-hand : (x : Session) (r : Request) → hand_of x ≡ some r → ¬ (x.stage ≡ 0) × (request_of x ≡ r)
some-hand x r e = (none_of, ap (of_hand (request_of x) (λ q. q)) (sym (hand-some x none_of) ∙ e))
  where
    none_of : ¬ (x.stage ≡ 0)
    none_of z = let q : ◌≡◌ {A = ℕ} 0 1 = ap (of_hand 0 (λ (k : Request). 1)) (sym (hand-none x z) ∙ e) in omega (arith, q)

target-of : Stage → ℕ
target-of start = 0
target-of (enter x) = x
target-of (at x) = x
target-of change = 0
target-of (take x) = x

-- A request at a node is a session's at stage 3.
at_stage : (x : Session) (y : ℕ) → stage_of x ≡ at y → (x.stage ≡ 3) × (x.target ≡ y)
unfolding target-of
at_stage x y e = go (ℕ_discrete x.stage 3)
  where
    go : Dec (x.stage ≡ 3) → (x.stage ≡ 3) × (x.target ≡ y)
    go (yes q) = (q, ap target-of (sym (stage-3 x q) ∙ e))
    go (no n) = absurd (let z : ◌≡◌ {A = ℕ} 0 1 = sym (stage-stands x n) ∙ ap stands e in omega (arith, z))

-- No request beyond the table.
beyond : (t : List Session) → length t ≡ parties → (p : ℕ) → parties ≤ p → (session_at t p).stage ≡ 0
beyond t e p h = ap (λ (x : Session). x.stage) (get_or-eq_default t idle_session (omega (arith, e, h)))

-- ---- how many parties are at a node

standing-sums : (t : List Session) (n p : ℕ) → standing_from t p n + sums (stand t) p ≡ sums (stand t) (p + n)
unfolding standing_from one_at_node sums
standing-sums t zero p =
    let e : p ≡ p + 0 = omega arith in
    let q : sums (stand t) p ≡ sums (stand t) (p + 0) = ap (sums (stand t)) e in
    omega (arith, q)
standing-sums t (suc n) p =
    let e : p + 1 ≡ suc p = omega arith in
    let q : suc p + n ≡ p + suc n = omega arith in
    let a : standing_from t (p + 1) n ≡ standing_from t (suc p) n = ap (λ (j : ℕ). standing_from t j n) e in
    let b : sums (stand t) (suc p + n) ≡ sums (stand t) (p + suc n) = ap (sums (stand t)) q in
    omega (arith, a, b, standing-sums t n (suc p))

pub standing-is : (t : List Session) → standing_at_nodes t ≡ sums (stand t) parties
unfolding standing_at_nodes
standing-is t = omega (arith, standing-sums t parties 0, sums-zero (stand t))

-- ---- room at a node

abbrev pub levels : List ℕ → ℕ
levels s = suc (height_of s)

abbrev pub shape : (s : List ℕ) → Tree (levels s)
shape s = erase (levels s) (tree_of s)

module _ (s : List ℕ) (t : List Session) (k x : ℕ) where
  -- A node that party p stands at has room, as the machine says it.
  room_of : (p : ℕ) → NodeAt k x (Stood s p) (levels s) (shape s) → NodeAt k x (Fit (latch_word p) k x (Room (meaning s t) p)) (levels s) (shape s)
  unfolding meaning
  room_of zero o =
      node-as k x (Stood s 0) (Fit (latch_word 0) k x (Room (meaning s t) 0)) (λ h u e q. (q.0, go h (sons_of u) e q.1)) (levels s) (shape s) o
    where
      has : NodeAt k x (Has (latch_word 0) k x) (levels s) (shape s)
      has = node-as k x (Stood s 0) (Has (latch_word 0) k x) (λ h u e q. q.0) (levels s) (shape s) o

      alone : (h n : ℕ) → (suc h ≡ 1) ⊎ (2 ≤ n) → (h ≡ 0) ⊎ ¬ (n ≡ 1)
      alone h n (inl e) = inl (omega (arith, e))
      alone h n (inr l) = inr (λ q. omega (arith, q, l))

      go : (h n : ℕ) → suc h ≡ k → Fits 0 (suc h) (levels s) n → Room (meaning s t) 0 h n
      go h n e (inl l) = inl l
      go h n e (inr l) = inr (root-has (latch_word 0) k x (height_of s) (shape s) (sym l.0 ∙ e) has, alone h n l.1)
  room_of (suc p) o = node-as k x (Stood s (suc p)) (Fit (latch_word (suc p)) k x (Room (meaning s t) (suc p))) (λ h u e q. q) (levels s) (shape s) o

  -- And back, where it has the party's only latch.
  of_room : (p j : ℕ) → latch_count (latch_word p) (levels s) (shape s) ≤ 1 → NodeAt k x (Reads s (M-of s) (R-of s) j) (levels s) (shape s)
      → NodeAt k x (Fit (latch_word p) k x (Room (meaning s t) p)) (levels s) (shape s) → NodeAt k x (Stood s p) (levels s) (shape s)
  unfolding meaning
  of_room zero j c d o =
      node-as k x (λ h u. Fit (latch_word 0) k x (Room (meaning s t) 0) h u × Reads s (M-of s) (R-of s) j h u) (Stood s 0)
      (λ h u e q. (q.0.0, go h (sons_of u) e q.1.2 q.0.1)) (levels s) (shape s)
      (node-both k x (Fit (latch_word 0) k x (Room (meaning s t) 0)) (Reads s (M-of s) (R-of s) j) (levels s) (shape s) o d)
    where
      has : NodeAt k x (Has (latch_word 0) k x) (levels s) (shape s)
      has = node-as k x (Fit (latch_word 0) k x (Room (meaning s t) 0)) (Has (latch_word 0) k x) (λ h u e q. q.0) (levels s) (shape s) o

      alone : (h n : ℕ) → 1 ≤ n → (h ≡ 0) ⊎ ¬ (n ≡ 1) → (suc h ≡ 1) ⊎ (2 ≤ n)
      alone h n l (inl e) = inl (omega (arith, e))
      alone h n l (inr q) = inr (omega (arith, q, l))

      go : (h n : ℕ) → suc h ≡ k → 1 ≤ n → Room (meaning s t) 0 h n → Fits 0 (suc h) (levels s) n
      go h n e l (inl q) = inl q
      go h n e l (inr q) = inr (e ∙ sym (root-only (latch_word 0) k x (height_of s) (shape s) c has q.0), alone h n l q.1)
  of_room (suc p) j c d o = node-as k x (Fit (latch_word (suc p)) k x (Room (meaning s t) (suc p))) (Stood s (suc p)) (λ h u e q. q) (levels s) (shape s) o

-- ---- the whole table

-- What is counted for each descriptor is how often its key is pinned.
abbrev pub Tallied : List ℕ → List Session → List ℕ → Type 0
Tallied s t tally = All (λ l. get_or tally l.num 0 ≡ total (pins_by l.desc.key) (meaning s t).table) (leaves_of s)

-- Every party is as it should be, and so are n parties from p on.
abbrev pub Parties : List ℕ → List Session → Type 0
Parties s t = (p : ℕ) → p ≤ width → Party s t p (session_at t p)

abbrev Those : List ℕ → List Session → ℕ → ℕ → Type 0
Those s t p n = (q : ℕ) → p ≤ q → q < p + n → Party s t q (session_at t q)

-- The pass.
abbrev pub passed : List ℕ → List ℕ → List Session → Turn (List ℕ)
passed s seen t = parties_ok s seen (M-of s) (R-of s) t (replicate 4097 0)

module _ (s seen : List ℕ) (t : List Session) (K : TreeKnown s seen) (seats : length t ≡ parties) (words : (p : ℕ) → p ≤ width → Worded (session_at t p)) where
  abbrev m : ℕ
  m = M-of s

  abbrev r : ℕ
  r = R-of s

  abbrev S : State
  S = meaning s t

  next-turn : (p n : ℕ) (tally : List ℕ) → parties_from s seen m r t tally p (suc n) ≡ then_turn (party_ok s seen m r p (session_at t p) tally) (λ k. parties_from s seen m r t k (suc p) n)
  unfolding parties_from
  next-turn p n tally =
      let e : p + 1 ≡ suc p = omega arith in
      ap (λ (j : ℕ). then_turn (party_ok s seen m r p (session_at t p) tally) (λ k. parties_from s seen m r t k j n)) e

  first-party : (p n : ℕ) → Party s t p (session_at t p) × Those s t (suc p) n → Those s t p (suc n)
  first-party p n (a, b) q l h = go (ℕ_discrete p q)
    where
      go : Dec (p ≡ q) → Party s t q (session_at t q)
      go (yes e) = subst (λ (i : ℕ). Party s t i (session_at t i)) e a
      go (no k) = b q (omega (arith, k, l)) (omega (arith, h))

  does-from : (n p : ℕ) → p + n ≤ parties → (tally : List ℕ) → Does (parties_from s seen m r t tally p n) (Those s t p n) (tally_pins (leaves_of s) (pins_from t p n) tally)
  unfolding parties_from pins_from
  does-from zero p few tally = does-as (λ u q l h. absurd (omega (arith, l, h))) (λ f. tt) (does-yes tally)
  does-from (suc n) p few tally =
      let v = tally_pins (leaves_of s) (pins_of (session_at t p)) tally in
      let w = tally_pins (leaves_of s) (pins_from t (suc p) n) v in
      subst (λ (u : Turn (List ℕ)). Does u (Those s t p (suc n)) (tally_pins (leaves_of s) (pins_from t p (suc n)) tally)) (sym (next-turn p n tally))
      (subst (Does (then_turn (party_ok s seen m r p (session_at t p) tally) (λ k. parties_from s seen m r t k (suc p) n)) (Those s t p (suc n)))
      (sym (tally-append (leaves_of s) (pins_of (session_at t p)) (pins_from t (suc p) n) tally))
      (does-as (first-party p n) (λ f. (f p (omega arith) (omega arith), λ q l h. f q (omega (arith, l)) (omega (arith, h))))
      (does-then (λ k. parties_from s seen m r t k (suc p) n) v w
      (does-party s seen t K p (session_at t p) (words p (omega (arith, few))) tally)
      (does-from n (suc p) (omega (arith, few)) v))))

  pins-all : pins_from t 0 parties ≡ all_pins t
  pins-all = ap (pins_from t 0) (sym seats) ∙ pins-whole t

  -- The turns of all parties.
  pub does-parties : (tally : List ℕ) → Does (parties_ok s seen (M-of s) (R-of s) t tally) (Parties s t) (tally_pins (leaves_of s) (all_pins t) tally)
  unfolding parties_ok
  does-parties tally =
      subst (λ (l : List ℕ). Does (parties_from s seen m r t tally 0 parties) (Parties s t) (tally_pins (leaves_of s) l tally)) pins-all
      (does-as (λ f q h. f q (omega arith) (omega (arith, h))) (λ f q l h. f q (omega (arith, h))) (does-from parties 0 (omega arith) tally))

  -- ---- latches

  abbrev count : ℕ → ℕ
  count p = latch_count (latch_word p) (levels s) (shape s)

  -- A party is in the table, or it has no request.
  idle-past : (p : ℕ) → ¬ (p ≤ width) → (session_at t p).stage ≡ 0
  idle-past p n = beyond t seats p (omega (arith, n))

  stood-has : (p : ℕ) (x : Session) → RoomAt s p x → NodeAt x.level x.target (Has (latch_word p) x.level x.target) (levels s) (shape s)
  stood-has p x o = node-as x.level x.target (Stood s p) (Has (latch_word p) x.level x.target) (λ h u e q. q.0) (levels s) (shape s) o

  stands-count : Parties s t → (p : ℕ) → p < parties → stand t p ≤ count p
  stands-count f p h = go (ℕ_discrete (session_at t p).stage 3)
    where
      x : Session
      x = session_at t p

      go : Dec (x.stage ≡ 3) → stand t p ≤ count p
      go (yes e) = omega (arith, stand-yes t p e, node_counts (latch_word p) x.level x.target (levels s) (shape s) (stood-has p x ((f p (omega (arith, h))).room e)))
      go (no n) = omega (arith, stand-no t p n)

  module _ (f : Parties s t) (many : standing_at_nodes t ≡ latched_many (levels s) (shape s)) where
    tight : sums count parties ≤ sums (stand t) parties
    tight = omega (arith, standing-is t, many, latches-few parties (levels s) (shape s))

    counts : (p : ℕ) → count p ≡ stand t p
    counts p = go (dec_le p width)
      where
        go : Dec (p ≤ width) → count p ≡ stand t p
        go (yes h) = sym (sums-tight (stand t) count parties (stands-count f) tight p (omega (arith, h)))
        go (no n) =
            let a = sums-past count parties p (omega (arith, n)) in
            let b = latches-few (suc p) (levels s) (shape s) in
            let c = sums-le (stand t) count parties (stands-count f) in
            let d = idle-past p n in
            omega (arith, a, b, c, many, standing-is t, stand-no t p (λ q. omega (arith, d, q)))

  -- ---- as Sound says it

  in_table : (p : ℕ) (q : Request) → (session_of p S).hand ≡ some q → (p ≤ width) × ¬ ((session_at t p).stage ≡ 0) × (request_of (session_at t p) ≡ q)
  in_table p q e = go (dec_le p width)
    where
      h : ¬ ((session_at t p).stage ≡ 0) × (request_of (session_at t p) ≡ q)
      h = some-hand (session_at t p) q (sym (meaning-hand s t p) ∙ e)

      go : Dec (p ≤ width) → (p ≤ width) × ¬ ((session_at t p).stage ≡ 0) × (request_of (session_at t p) ≡ q)
      go (yes l) = (l, h.0, h.1)
      go (no n) = absurd (h.0 (idle-past p n))

  abbrev Stored : ℕ → Type 0
  Stored k = stored_in k (lvs S) ≡ true

  all-stored : Parties s t → All Stored (all_pins t)
  all-stored f = subst (All Stored) pins-all (pins-each Stored t parties 0 (λ q l h. (f q (omega (arith, h))).stored))

  -- What is pinned is stored.
  pub parties-pinned : Parties s t → (k : ℕ) → 1 ≤ total (pins_by k) S.table → stored_in k (lvs S) ≡ true
  parties-pinned f k h = all_in Stored (all_pins t) (all-stored f) k (in-times k (all_pins t) (omega (arith, h, meaning-pins s t k)))

  found-unbegun : Parties s t → (p : ℕ) → (session_of (suc p) S).begun ≡ false → (session_of (suc p) S).hand ≡ none
  found-unbegun f p e = go (dec_le (suc p) width) (ℕ_discrete (session_at t (suc p)).stage 0)
    where
      x : Session
      x = session_at t (suc p)

      unbegun : x.begun ≡ 0
      unbegun = eqb-true x.begun 0 (not-false (eqb x.begun 0) (sym (meaning-begun s t p) ∙ e))

      none-at : x.stage ≡ 0 → (session_of (suc p) S).hand ≡ none
      none-at z = meaning-hand s t (suc p) ∙ hand-none x z

      go : Dec (suc p ≤ width) → Dec (x.stage ≡ 0) → (session_of (suc p) S).hand ≡ none
      go d (yes z) = none-at z
      go (no n) (no k) = absurd (k (idle-past (suc p) n))
      go (yes h) (no k) = absurd ((f (suc p) h).begun (λ q. omega (arith, q)) k unbegun)

  module _ (f : Parties s t) (many : standing_at_nodes t ≡ latched_many (levels s) (shape s)) where
    found-latches : (p : ℕ) → latch_count (latch_word p) (suc S.root.height) S.root.node ≡ of_hand 0 (λ q. stands q.stage) (session_of p S).hand
    unfolding meaning
    found-latches p =
        counts f many p
        ∙ sym (ap (of_hand 0 (λ (q : Request). stands q.stage)) (meaning-hand s t p) ∙ hand_stands (session_at t p))

    placed_at : (p : ℕ) → p ≤ width → (session_at t p).stage ≡ 3 → Latched (latch_word p) (session_at t p).target (Room S p) (suc S.root.height) S.root.node
    unfolding meaning
    placed_at p h e =
        let x = session_at t p in
        latched-at (latch_word p) x.level x.target (Room S p) (levels s) (shape s) (omega (arith, counts f many p, stand-yes t p e)) (room_of s t x.level x.target p ((f p h).room e))

    found-placed : (p : ℕ) (q : Request) (y : ℕ) → (session_of p S).hand ≡ some q → q.stage ≡ at y → Latched (latch_word p) y (Room S p) (suc S.root.height) S.root.node
    found-placed p q y e g =
        let k = in_table p q e in
        let z = at_stage (session_at t p) y (ap (λ (o : Request). o.stage) k.2 ∙ g) in
        subst (λ (j : ℕ). Latched (latch_word p) j (Room S p) (suc S.root.height) S.root.node) z.1 (placed_at p k.0 z.0)

    requests-from : Requests s t
    requests-from = record {
      unbegun_hand = found-unbegun f;
      latches_match = found-latches;
      placed = found-placed;
      checked = λ p q e. let k = in_table p q e in subst (λ (o : Request). Passes (request_checks p o.code o.entry o.first o.second S)) k.2 ((f p k.0).checked k.1);
      standing = λ p q e. let k = in_table p q e in subst (λ (o : Request). StandsBut p S o o.stage) k.2 ((f p k.0).standing k.1);
      hands = λ p h. (f p h).hand;
      pins_stored = parties-pinned f;
    }

  -- ---- and back

  module _ (L : LatchesMatch s t) where
    kept-count : (p : ℕ) → count p ≡ stand t p
    unfolding meaning
    kept-count p = L p ∙ ap (of_hand 0 (λ (q : Request). stands q.stage)) (meaning-hand s t p) ∙ hand_stands (session_at t p)

    standing-from : standing_at_nodes t ≡ latched_many (levels s) (shape s)
    standing-from =
        let a = latches-few parties (levels s) (shape s) in
        let b = latches-many parties (levels s) (shape s) (λ p h. kept-count p ∙ stand-no t p (λ q. let z = beyond t seats p h in omega (arith, z, q))) in
        omega (arith, a, b, standing-is t, sums_same count (stand t) parties (λ p h. kept-count p))

  module _ (Q : Requests s t) where
    kept-begun : (p : ℕ) → ¬ (p ≡ 0) → ¬ ((session_at t p).stage ≡ 0) → ¬ ((session_at t p).begun ≡ 0)
    kept-begun zero n k z = n refl
    kept-begun (suc p) n k z =
        let e = Q.unbegun_hand p (meaning-begun s t p ∙ ap not (eq-eqb (session_at t (suc p)).begun 0 z)) in
        let q : ◌≡◌ {A = ℕ} 0 1 = ap (of_hand 0 (λ (o : Request). 1)) (sym e ∙ meaning-hand s t (suc p) ∙ hand-some (session_at t (suc p)) k) in
        omega (arith, q)

    module _ (p : ℕ) (h : p ≤ width) where
      abbrev x : Session
      x = session_at t p

      in_hand : ¬ (x.stage ≡ 0) → (session_of p S).hand ≡ some (request_of x)
      in_hand n = meaning-hand s t p ∙ hand-some x n

      kept-placed : x.stage ≡ 3 → Latched (latch_word p) x.target (Room S p) (levels s) (shape s)
      unfolding meaning
      kept-placed e = Q.placed p (request_of x) x.target (in_hand (λ z. omega (arith, z, e))) (stage-3 x e)

      kept-room : x.stage ≡ 3 → RoomAt s p x
      kept-room e =
          of_room s t x.level x.target p node one reads
          (at-latched (latch_word p) x.level x.target (Room S p) (levels s) (shape s) one has (kept-placed e))
        where
          A : StandsAtNode s p x
          A = (Q.hands p h).at-node e

          node : ℕ
          node = number_at x.level x.target (levels s) (tree_of s)

          one : latch_count (latch_word p) (levels s) (shape s) ≤ 1
          one = omega (arith, kept-count Q.latches_match p, stand-yes t p e)

          reads : NodeAt x.level x.target (Reads s m r node) (levels s) (shape s)
          reads = level-node s seen K x.target x.level (words p h).target A.lowest (omega (arith, A.highest, K.rooted))

          has : NodeAt x.level x.target (Has (latch_word p) x.level x.target) (levels s) (shape s)
          has =
              node-as x.level x.target (Reads s m r node) (Has (latch_word p) x.level x.target)
              (λ j u q k. k.0 ∙ ap (λ (i : ℕ). word_of s m i 0) (sym A.node) ∙ A.latched) (levels s) (shape s) reads

      party-from : Party s t p x
      party-from = record {
        hand = Q.hands p h;
        begun = kept-begun p;
        checked = λ n. Q.checked p (request_of x) (in_hand n);
        standing = λ n. Q.standing p (request_of x) (in_hand n);
        room = kept-room;
        stored = each_pins Stored t parties 0 (subst (All Stored) (sym pins-all) all-kept) p (omega arith) (omega (arith, h));
      }
        where
          all-kept : All Stored (all_pins t)
          all-kept = all_from (all_pins t) (λ k i. Q.pins_stored k (omega (arith, meaning-pins s t k, times-in k (all_pins t) i)))

  -- ---- the tally

  tallied : R-of s ≤ 4096 → Parties s t → (tally : List ℕ) → length tally ≡ 4097 → ((i : ℕ) → i < 4097 → get_or tally i 0 ≡ 0) → Tallied s t (tally_pins (leaves_of s) (all_pins t) tally)
  tallied few f tally long zeros =
      each_leaf (λ l. l.desc.key ≡ word_of s m l.num 1) (λ l. get_or (tally_pins (leaves_of s) (all_pins t) tally) l.num 0 ≡ total (pins_by l.desc.key) S.table) (leaves_of s) (says s seen K) one
    where
      stored : All (λ k. stored_in k (descs (leaves_of s)) ≡ true) (all_pins t)
      stored = all-as (λ k e. sym (ap (stored_in k) (leaves-meant s t)) ∙ e) (all_pins t) (all-stored f)

      one : (l : Leaf) → In l.num (nums (leaves_of s)) → l.desc.key ≡ word_of s m l.num 1
          → get_or (tally_pins (leaves_of s) (all_pins t) tally) l.num 0 ≡ total (pins_by l.desc.key) S.table
      one l n e =
          let a = leaf-among s seen K l.num n in
          let z = zeros l.num (omega (arith, few, a.1)) in
          let c = tally-at s seen K l.num n (all_pins t) stored tally (omega (arith, long, few, a.1)) (omega (arith, z, seats, all-few t)) in
          c ∙ ap (λ (i : ℕ). i + times (word_of s m l.num 1) (all_pins t)) z
          ∙ sym (meaning-pins s t l.desc.key ∙ ap (λ (k : ℕ). times k (all_pins t)) e ∙ zero-plus (times (word_of s m l.num 1) (all_pins t)))
        where
          zero-plus : (i : ℕ) → i ≡ 0 + i
          zero-plus i = omega arith

  -- ---- the theorem

  module _ (few : R-of s ≤ 4096) where
    fresh-tally : (i : ℕ) → i < 4097 → ◌≡◌ {A = ℕ} (get_or (replicate 4097 0) i 0) 0
    fresh-tally i h = get_or-replicate 4097 i 0 0 h

    pub parties-tallied : Parties s t → Tallied s t (passed s seen t).held
    parties-tallied f =
        subst (Tallied s t) (sym (ap (λ (v : Turn (List ℕ)). v.held) ((does-parties (replicate 4097 0)).walks f)))
        (tallied few f (replicate 4097 0) (length-replicate {A = ℕ} 4097 0) fresh-tally)

  -- The pass is true exactly if every party is as it should be,
  pub parties-pass : ((passed s seen t).ok ≡ true) ↔ Parties s t
  parties-pass = (λ o. ((does-parties (replicate 4097 0)).found o).0, λ f. ap (λ (v : Turn (List ℕ)). v.ok) ((does-parties (replicate 4097 0)).walks f))

  -- and then there are as many latched nodes as parties at a node exactly if the latches match.
  pub latches-pass : Parties s t → (standing_at_nodes t ≡ latched_many (levels s) (shape s)) ↔ LatchesMatch s t
  latches-pass f = (found-latches f, standing-from)

  -- Both together are what Sound says of the requests in hand.
  pub parties-requests : Parties s t → LatchesMatch s t → Requests s t
  parties-requests f L = requests-from f (standing-from L)

  pub requests-parties : Requests s t → Parties s t
  requests-parties = party-from
