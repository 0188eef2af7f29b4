-- The test of one party: true exactly if its request, if it has one, is as Sound says, but for what a locate holds of the keys that it has passed; and
-- what is counted for the keys that it pins.
use Rattle.std.specs.Prelude.{◌≡◌, ◌&&◌, ◌||◌, get_or, set}
use Rattle.std.proofs.Math.Path.{refl, sym, ap}
use Rattle.std.proofs.Common.{subst, ◌∙◌, inl, inr, arith, eq-eqb, ne_eqb, eqb-true}
use Rattle.std.proofs.Math.Bool.{Bool, true, false, cond, not}
use mathlib.Core.List.{List, [], ◌∷◌, ◌++◌}
use Rattle.std.proofs.Math.Option.{Option}
use Prim.Native.Nat.{ℕ, ◌≤◌}
use Rattle.std.proofs.Math.Decide.{ℕ_discrete}
use Rattle.std.proofs.Math.Dec.{eqb}
use Rattle.std.proofs.lemmas.Bool.{eqb-false, not-true}
use Rattle.words.specs.Entries.{entry_word}
use Rattle.groups.specs.Descriptor.{descriptor_at}
use Rattle.locks.specs.Holders.{holds}
use Rattle.serial.specs.Locks.{strong}
use Rattle.serial.specs.Locks as L
use Rattle.sessions.specs.declared.Session.{Session}
use Rattle.machine.specs.State.{Stage, start, enter, at, change, take, Request, State, top}
use Rattle.machine.specs.Steps.{pinned}
use Rattle.machine.specs.View.{holders}
use Rattle.machine.specs.Housekeeping.{lvs}
use Rattle.machine.specs.Sound.{stored_in, of_hand}
use Rattle.meaning.specs.Reading.{Leaf, hand_of, stage_of, M-of, R-of, meaning}
use Rattle.meaning.specs.Sound.{All, leaves_of, record_of, pins_first, Hand}
use Rattle.marks.specs.Marks.{is_met, descriptor_mark}
use Rattle.marks.specs.Steps.{no as never, both}
use Rattle.marks.specs.Trail.{Turn, turn, then_turn}
use Rattle.requests.specs.Requests.{tidy_ok, code_ok, request_ok}
use Rattle.standing.specs.Standing.{is_stored, latch_ok, one_more_of, pins_in, stands_at, party_ok}
use Rattle.soundness.specs.Leaves.{entries-meaning}
use Rattle.soundness.specs.Marking.{all_append, all_left, all_right}
use Rattle.soundness.specs.UndoLeaves.{descs, leaves-meant}
use Rattle.soundness.specs.TreeKnown.{TreeKnown, stored_is, pin-found, pin-walks}
use Rattle.soundness.specs.PartyRequests.{LocateStage, EntryIn, Asks, asks_value, asks_change, asks_locate, asks_tidy, request-found, request-walks, walking-range}
use Rattle.soundness.specs.PartyMeaning.{meaning-exclusive, request_of, next_of, hand-some, hand-none, stage-1, stage-2, stage-3, stage-4, stage-5, Staged, staged_1, staged_2, staged_3, staged_4, staged_5, staged, Checked, argued, checks, StandsBut, Backed, asks-from, asks-argued, asks-few, asks-last, asks-stand, stand-backed}
use Rattle.soundness.specs.PartyLatch.{RoomAt, Latching, latch-found, latch-walks}
use Rattle.soundness.specs.PartyTurn.{pins_second, first-none, first_walk, first-4, first-5, second_none, second-5, backing, pin_turn, party_turn, back_start, back-change, back-locate, back-tidy, stands-turn}

-- ---- turns

-- A turn is in order exactly if P, and leaves w then.
pub record Does (v : Turn (List ℕ)) (P : Type 0) (w : List ℕ) : Type 0 where
  pub found : v.ok ≡ true → P × (v.held ≡ w)
  pub walks : P → v ≡ turn true w

pub does-yes : (l : List ℕ) → Does (turn true l) (Unit {0}) l
does-yes l = record { found = λ e. (tt, refl); walks = λ u. refl }

pub does-as : {v : Turn (List ℕ)} {P Q : Type 0} {w : List ℕ} → (P → Q) → (Q → P) → Does v P w → Does v Q w
does-as f g d = record { found = λ e. let p = d.found e in (f p.0, p.1); walks = λ q. d.walks (g q) }

-- A test, and then a turn.
pub does-test : {c : Bool} {v : Turn (List ℕ)} {P Q : Type 0} {w : List ℕ} (l : List ℕ) → (c ≡ true → P) → (P → c ≡ true) → Does v Q w → Does (cond c v (turn false l)) (P × Q) w
does-test {c} {v} {P} {Q} {w} l f g d = record { found = here c refl; walks = λ p. simp (g p.0) (d.walks p.1) }
  where
    here : (b : Bool) → c ≡ b → (cond b v (turn false l)).ok ≡ true → (P × Q) × ((cond b v (turn false l)).held ≡ w)
    here true q e = let k = d.found e in ((f q, k.0), k.1)
    here false q e = never e

-- A turn, and then another.
pub does-then : {u : Turn (List ℕ)} {P Q : Type 0} (g : List ℕ → Turn (List ℕ)) (v w : List ℕ) → Does u P v → Does (g v) Q w → Does (then_turn u g) (P × Q) w
does-then {u} {P} {Q} g v w d e = record { found = here u.ok refl; walks = λ p. ap (λ (t : Turn (List ℕ)). then_turn t g) (d.walks p.0) ∙ e.walks p.1 }
  where
    here : (b : Bool) → u.ok ≡ b → (cond b (g u.held) u).ok ≡ true → (P × Q) × ((cond b (g u.held) u).held ≡ w)
    here true q o =
        let k = d.found q in
        let n = e.found (subst (λ (l : List ℕ). (g l).ok ≡ true) k.1 o) in
        ((k.0, n.0), ap (λ (l : List ℕ). (g l).held) k.1 ∙ n.1)
    here false q o = never (sym q ∙ o)

-- A turn that is made if a test is true, else none.
pub does-if : {v : Turn (List ℕ)} {P : Type 0} {w : List ℕ} (c : Bool) (l : List ℕ) → Does v P w → Does (cond c v (turn true l)) (c ≡ true → P) (cond c w l)
does-if true l d = does-as (λ p e. p) (λ f. f refl) d
does-if {v} {P} {w} false l d = record { found = λ e. (λ q. never q, refl); walks = λ f. refl }

-- ---- what is counted

abbrev pub tally_one : ℕ → List ℕ → List ℕ
tally_one i tally = set tally i (one_more_of (get_or tally i 0))

-- The descriptor of each key once more.
abbrev pub tally_pins : List Leaf → List ℕ → List ℕ → List ℕ
tally_pins l [] tally = tally
tally_pins l (k ∷ ks) tally = tally_pins l ks (tally_one (record_of k l) tally)

-- The keys that a party's request pins.
abbrev pub pins_of : Session → List ℕ
pins_of x = of_hand [] (λ r. pinned r r.stage) (hand_of x)

abbrev one_if : Bool → ℕ → List ℕ
one_if b k = cond b (k ∷ []) []

-- The same, by the session's words.
abbrev pins_list : Session → List ℕ
pins_list x = one_if (pins_first x) x.first ++ one_if (pins_second x) x.second

tally-if : (l : List Leaf) (b c : Bool) (j k : ℕ) (tally : List ℕ)
    → tally_pins l (one_if b j ++ one_if c k) tally ≡ cond c (tally_one (record_of k l) (cond b (tally_one (record_of j l) tally) tally)) (cond b (tally_one (record_of j l) tally) tally)
tally-if l true true j k tally = refl
tally-if l true false j k tally = refl
tally-if l false true j k tally = refl
tally-if l false false j k tally = refl

-- ---- the keys pinned

module _ (x : Session) (in_hand : ¬ (x.stage ≡ 0)) where
  pins-some : pins_of x ≡ pinned (request_of x) (stage_of x)
  pins-some = ap (of_hand [] (λ (r : Request). pinned r r.stage)) (hand-some x in_hand)

  pins-at : (g : Stage) → stage_of x ≡ g → pins_of x ≡ pinned (request_of x) g
  pins-at g e = pins-some ∙ ap (pinned (request_of x)) e

  listed : (b c : Bool) → pins_first x ≡ b → pins_second x ≡ c → pins_list x ≡ one_if b x.first ++ one_if c x.second
  listed b c e q = ap (λ (o : Bool). one_if o x.first ++ one_if (pins_second x) x.second) e ∙ ap (λ (o : Bool). one_if b x.first ++ one_if o x.second) q

  pins-start : x.stage ≡ 1 → ¬ (x.code ≡ 5) → pins_of x ≡ pins_list x
  unfolding pinned
  pins-start e n = pins-at start (stage-1 x e) ∙ sym (listed false false (first-none x (λ q. omega (arith, q, e)) (λ q. omega (arith, q, e)) n) (second_none x (λ q. omega (arith, q, e))))

  pins-walk : (g : Stage) → stage_of x ≡ g → pinned (request_of x) g ≡ one_if (eqb x.code 5 && not (eqb x.target x.first)) x.first → ¬ (x.stage ≡ 4) → ¬ (x.stage ≡ 5) → pins_of x ≡ pins_list x
  pins-walk g e q n4 n5 = pins-at g e ∙ q ∙ go (ℕ_discrete x.code 5) (ℕ_discrete x.target x.first)
    where
      go : Dec (x.code ≡ 5) → Dec (x.target ≡ x.first) → one_if (eqb x.code 5 && not (eqb x.target x.first)) x.first ≡ pins_list x
      go (no c) d =
          ap (λ (o : Bool). one_if (o && not (eqb x.target x.first)) x.first) (ne_eqb x.code 5 c)
          ∙ sym (listed false false (first-none x n4 n5 c) (second_none x n5))
      go (yes c) (yes d) =
          ap (λ (o : Bool). one_if (o && not (eqb x.target x.first)) x.first) (eq-eqb x.code 5 c) ∙ ap (λ (o : Bool). one_if (not o) x.first) (eq-eqb x.target x.first d)
          ∙ sym (listed false false (first_walk x n4 n5 c ∙ ap (λ (o : Bool). cond o false true) (eq-eqb x.target x.first d)) (second_none x n5))
      go (yes c) (no d) =
          ap (λ (o : Bool). one_if (o && not (eqb x.target x.first)) x.first) (eq-eqb x.code 5 c) ∙ ap (λ (o : Bool). one_if (not o) x.first) (ne_eqb x.target x.first d)
          ∙ sym (listed true false (first_walk x n4 n5 c ∙ ap (λ (o : Bool). cond o false true) (ne_eqb x.target x.first d)) (second_none x n5))

  pins-change : x.stage ≡ 4 → pins_of x ≡ pins_list x
  unfolding pinned
  pins-change e = pins-at change (stage-4 x e) ∙ sym (listed true false (first-4 x e) (second_none x (λ q. omega (arith, q, e))))

  pins-take : x.stage ≡ 5 → pins_of x ≡ pins_list x
  unfolding pinned
  pins-take e = pins-at (take (next_of x)) (stage-5 x e) ∙ go (ℕ_discrete x.first x.second)
    where
      go : Dec (x.first ≡ x.second) → cond (eqb x.first x.second) (x.first ∷ []) (x.first ∷ x.second ∷ []) ≡ pins_list x
      go (yes q) =
          ap (λ (o : Bool). cond o (x.first ∷ []) (x.first ∷ x.second ∷ [])) (eq-eqb x.first x.second q)
          ∙ sym (listed true false (first-5 x e) (second-5 x e ∙ ap not (eq-eqb x.first x.second q)))
      go (no n) =
          ap (λ (o : Bool). cond o (x.first ∷ []) (x.first ∷ x.second ∷ [])) (ne_eqb x.first x.second n)
          ∙ sym (listed true true (first-5 x e) (second-5 x e ∙ ap not (ne_eqb x.first x.second n)))

  pub pins-are : x.stage ≤ 5 → (x.stage ≡ 1 → ¬ (x.code ≡ 5)) → pins_of x ≡ pins_list x
  unfolding pinned
  pins-are few n = go (staged x in_hand few)
    where
      go : Staged x → pins_of x ≡ pins_list x
      go (staged_1 e) = pins-start e (n e)
      go (staged_2 e) = pins-walk (enter x.target) (stage-2 x e) refl (λ q. omega (arith, q, e)) (λ q. omega (arith, q, e))
      go (staged_3 e) = pins-walk (at x.target) (stage-3 x e) refl (λ q. omega (arith, q, e)) (λ q. omega (arith, q, e))
      go (staged_4 e) = pins-change e
      go (staged_5 e) = pins-take e

-- ---- one party

-- Party p's request is as Sound says, but for what a locate holds of the keys that it has passed.
pub record Party (s : List ℕ) (t : List Session) (p : ℕ) (x : Session) : Type 0 where
  -- The words of its record name the records that they stand for.
  pub hand : Hand s p x
  -- A session that has a request is begun.
  pub begun : ¬ (p ≡ 0) → ¬ (x.stage ≡ 0) → ¬ (x.begun ≡ 0)
  -- The request passes the checks that put makes on code and arguments,
  pub checked : ¬ (x.stage ≡ 0) → Checked p x (meaning s t)
  -- and stands where its own steps can bring it.
  pub standing : ¬ (x.stage ≡ 0) → StandsBut p (meaning s t) (request_of x) (stage_of x)
  -- The node at which it stands, on the path to its key, has its latch and room for it.
  pub room : x.stage ≡ 3 → RoomAt s p x
  -- What it pins is stored.
  pub stored : All (λ k. stored_in k (lvs (meaning s t)) ≡ true) (pins_of x)

-- Its keys are words.
pub record Worded (x : Session) : Type 0 where
  pub first : x.first ≤ top
  pub second : x.second ≤ top
  pub target : x.target ≤ top

module _ (s seen : List ℕ) (t : List Session) (K : TreeKnown s seen) where
  abbrev m : ℕ
  m = M-of s

  abbrev r : ℕ
  r = R-of s

  abbrev S : State
  S = meaning s t

  abbrev Pin : ℕ → ℕ → Type 0
  Pin key i = (stored_in key (descs (leaves_of s)) ≡ true) × (i ≡ record_of key (leaves_of s))

  does-pin : (key i : ℕ) (tally : List ℕ) → key ≤ top → Does (pins_in s seen m r i key tally) (Pin key i) (tally_one (record_of key (leaves_of s)) tally)
  unfolding pins_in
  does-pin key i tally h = record { found = here _ refl; walks = λ q. there q.0 q.1 }
    where
      met : ℕ → Bool
      met j = is_met seen r j descriptor_mark && eqb (descriptor_at s m j).key key

      turned : ℕ → Turn (List ℕ)
      turned j = cond (met j) (turn true (set tally j (one_more_of (get_or tally j 0)))) (turn false tally)

      here : (b : Bool) → met i ≡ b → (cond b (turn true (set tally i (one_more_of (get_or tally i 0)))) (turn false tally)).ok ≡ true
          → Pin key i × ((cond b (turn true (set tally i (one_more_of (get_or tally i 0)))) (turn false tally)).held ≡ tally_one (record_of key (leaves_of s)) tally)
      here true q e = let k = pin-found s seen K key h i q in (k, ap (λ (j : ℕ). tally_one j tally) k.1)
      here false q e = never e

      there : stored_in key (descs (leaves_of s)) ≡ true → i ≡ record_of key (leaves_of s) → turned i ≡ turn true (tally_one (record_of key (leaves_of s)) tally)
      there st e = ap turned e ∙ ap (λ (b : Bool). cond b (turn true (tally_one (record_of key (leaves_of s)) tally)) (turn false tally)) (pin-walks s seen K key h st)

  module _ (p : ℕ) (x : Session) (W : Worded x) (in_hand : ¬ (x.stage ≡ 0)) where
    abbrev Pins : Type 0
    Pins = (pins_first x ≡ true → Pin x.first x.low) × (pins_second x ≡ true → Pin x.second x.high)

    does-pins : (tally : List ℕ) → Does (pin_turn s seen m r p x tally) Pins (tally_pins (leaves_of s) (pins_list x) tally)
    does-pins tally =
        let v = cond (pins_first x) (tally_one (record_of x.first (leaves_of s)) tally) tally in
        subst (Does (pin_turn s seen m r p x tally) Pins) (sym (tally-if (leaves_of s) (pins_first x) (pins_second x) x.first x.second tally))
        (does-then (λ k. cond (pins_second x) (pins_in s seen m r x.high x.second k) (turn true k)) v (cond (pins_second x) (tally_one (record_of x.second (leaves_of s)) v) v)
        (does-if (pins_first x) tally (does-pin x.first x.low tally W.first))
        (does-if (pins_second x) v (does-pin x.second x.high v W.second)))

    -- ---- locks and choices

    excludes-same : EntryIn x.entry m → holders S L.entry strong p x.entry ≡ holds (entry_word s x.entry 2) p
    excludes-same e = ap (λ (w : ℕ). holds w p) (meaning-exclusive s t x.entry e)

    chosen-same : is_stored s m r x.target ≡ stored_in x.target (lvs S)
    chosen-same = stored_is s seen K x.target W.target ∙ ap (stored_in x.target) (sym (leaves-meant s t))

    back_found : Asks p x m → backing s seen m r p x ≡ true → Backed p x S
    back_found a e = record {
      excludes = λ l h n. excludes-same ((asks-argued p x S m in_hand a).entry h) ∙ sym (back-change s seen m r p x n l h) ∙ e;
      chosen = λ c n. sym chosen-same ∙ sym (back-tidy s seen m r p x n c) ∙ e;
    }

    back-walks : Asks p x m → Backed p x S → backing s seen m r p x ≡ true
    back-walks a b = go (ℕ_discrete x.stage 1) a
      where
        go : Dec (x.stage ≡ 1) → Asks p x m → backing s seen m r p x ≡ true
        go (yes e) o = back_start s seen m r p x e
        go (no n) (asks_value k v) = absurd (n v.stage)
        go (no n) (asks_change k c) = back-change s seen m r p x n c.least c.most ∙ sym (excludes-same c.entry) ∙ b.excludes c.least c.most n
        go (no n) (asks_locate k l) = back-locate s seen m r p x n l.code
        go (no n) (asks_tidy z d) = back-tidy s seen m r p x n d.code ∙ chosen-same ∙ b.chosen d.code n

    -- ---- the whole turn

    abbrev Rest : Type 0
    Rest = (x.stage ≡ 3 → Latching s p x) × (Backed p x S × Pins)

    start-code : Asks p x m → x.stage ≡ 1 → ¬ (x.code ≡ 5)
    start-code (asks_value n v) e q = omega (arith, q, v.most)
    start-code (asks_change n c) e q = omega (arith, q, c.most)
    start-code (asks_locate n l) e q = go l.stands
      where
        go : LocateStage x → ⊥
        go (inl k) = omega (arith, e, k.0)
        go (inr k) = omega (arith, e, (walking-range x k.0).0)
    start-code (asks_tidy z d) e q = omega (arith, q, d.code)

    pins-asked : Asks p x m → pins_of x ≡ pins_list x
    pins-asked a = pins-are x in_hand (asks-few p x S m in_hand a) (start-code a)

    does-stand : (tally : List ℕ) → Asks p x m → Does (stands_at s seen m r p x tally) Rest (tally_pins (leaves_of s) (pins_of x) tally)
    does-stand tally a =
        subst (λ (v : Turn (List ℕ)). Does v Rest (tally_pins (leaves_of s) (pins_of x) tally)) (sym (stands-turn s seen m r p x tally a))
        (subst (λ (l : List ℕ). Does (cond (latch_ok s m r p x) (party_turn s seen m r p x tally) (turn false tally)) Rest (tally_pins (leaves_of s) l tally)) (sym (pins-asked a))
        (does-test tally (latch-found s seen K p x W.target) (latch-walks s seen K p x W.target)
        (does-test tally (back_found a) (back-walks a) (does-pins tally))))

    -- ---- as Sound says it

    stored_same : (k : ℕ) → stored_in k (descs (leaves_of s)) ≡ true → stored_in k (lvs S) ≡ true
    stored_same k e = ap (stored_in k) (leaves-meant s t) ∙ e

    same-stored : (k : ℕ) → stored_in k (lvs S) ≡ true → stored_in k (descs (leaves_of s)) ≡ true
    same-stored k e = sym (ap (stored_in k) (leaves-meant s t)) ∙ e

    all-if : (P : ℕ → Type 0) (b : Bool) (k : ℕ) → (b ≡ true → P k) → All P (one_if b k)
    all-if P true k f = (f refl, tt)
    all-if P false k f = tt

    if-all : (P : ℕ → Type 0) (b : Bool) (k : ℕ) → All P (one_if b k) → b ≡ true → P k
    if-all P true k a e = a.0
    if-all P false k a e = never e

    is-second : x.stage ≡ 5 → ¬ (x.first ≡ x.second) → pins_second x ≡ true
    is-second e n = second-5 x e ∙ ap not (ne_eqb x.first x.second n)

    second_is : pins_second x ≡ true → (x.stage ≡ 5) × ¬ (x.first ≡ x.second)
    second_is e =
        let b = both (eqb x.stage 5) (not (eqb x.first x.second)) e in
        (eqb-true x.stage 5 b.0, eqb-false x.first x.second (not-true _ b.1))

    party-from : Asks p x m → (¬ (p ≡ 0) → ¬ (x.begun ≡ 0)) → Rest → Party s t p x
    party-from a b d = record {
      hand = record {
        stage = asks-few p x S m in_hand a;
        at-node = λ e. (d.0 e).at-node;
        low = λ n e. (d.1.1.0 e).1;
        high = λ e n. (d.1.1.1 (is-second e n)).1;
        last = asks-last p x S m in_hand a;
      };
      begun = λ np n. b np;
      checked = λ n. checks p x S m (entries-meaning s t) (asks-argued p x S m in_hand a);
      standing = λ n. asks-stand p x S m in_hand a d.1.0;
      room = λ e. (d.0 e).room;
      stored = subst (All (λ k. stored_in k (lvs S) ≡ true)) (sym (pins-asked a))
          (all_append (λ k. stored_in k (lvs S) ≡ true) (one_if (pins_first x) x.first) (one_if (pins_second x) x.second)
          (all-if (λ k. stored_in k (lvs S) ≡ true) (pins_first x) x.first (λ e. stored_same x.first (d.1.1.0 e).0))
          (all-if (λ k. stored_in k (lvs S) ≡ true) (pins_second x) x.second (λ e. stored_same x.second (d.1.1.1 e).0)));
    }

    party-asks : Party s t p x → Asks p x m
    party-asks P = asks-from p x S m in_hand P.hand.stage (argued p x S m (entries-meaning s t) (P.checked in_hand)) (P.standing in_hand) P.hand.last

    party-rest : Party s t p x → Rest
    party-rest P =
        (λ e. record { at-node = P.hand.at-node e; room = P.room e }, (stand-backed p x S m in_hand P.hand.stage (P.standing in_hand), (low, high)))
      where
        stored : All (λ k. stored_in k (lvs S) ≡ true) (pins_list x)
        stored = subst (All (λ k. stored_in k (lvs S) ≡ true)) (pins-asked (party-asks P)) P.stored

        low : pins_first x ≡ true → Pin x.first x.low
        low e = (
          same-stored x.first (if-all (λ k. stored_in k (lvs S) ≡ true) (pins_first x) x.first
              (all_left (λ k. stored_in k (lvs S) ≡ true) (one_if (pins_first x) x.first) (one_if (pins_second x) x.second) stored) e),
          P.hand.low in_hand e,
        )

        high : pins_second x ≡ true → Pin x.second x.high
        high e =
            let q = second_is e in (
              same-stored x.second (if-all (λ k. stored_in k (lvs S) ≡ true) (pins_second x) x.second
                  (all_right (λ k. stored_in k (lvs S) ≡ true) (one_if (pins_first x) x.first) (one_if (pins_second x) x.second) stored) e),
              P.hand.high q.0 q.1,
            )

    hand-turn : (tally : List ℕ) → party_ok s seen m r p x tally ≡ cond (request_ok p x m) (stands_at s seen m r p x tally) (turn false tally)
    unfolding party_ok
    hand-turn tally = ap (λ (b : Bool). cond (request_ok p x m) (cond b (turn true tally) (stands_at s seen m r p x tally)) (turn false tally)) (ne_eqb x.stage 0 in_hand)

    does-hand : (tally : List ℕ) → Does (party_ok s seen m r p x tally) (Party s t p x) (tally_pins (leaves_of s) (pins_of x) tally)
    does-hand tally = subst (λ (v : Turn (List ℕ)). Does v (Party s t p x) w) (sym (hand-turn tally)) (record { found = here (request_ok p x m) refl; walks = there })
      where
        w : List ℕ
        w = tally_pins (leaves_of s) (pins_of x) tally

        here : (b : Bool) → request_ok p x m ≡ b → (cond b (stands_at s seen m r p x tally) (turn false tally)).ok ≡ true
            → Party s t p x × ((cond b (stands_at s seen m r p x tally) (turn false tally)).held ≡ w)
        here true q e =
            let k = request-found p x m in_hand W.first W.second q in
            let d = (does-stand tally k.0).found e in
            (party-from k.0 k.1 d.0, d.1)
        here false q e = never e

        there : Party s t p x → cond (request_ok p x m) (stands_at s seen m r p x tally) (turn false tally) ≡ turn true w
        there P =
            ap (λ (b : Bool). cond b (stands_at s seen m r p x tally) (turn false tally)) (request-walks p x m in_hand (party-asks P) (λ n. P.begun n in_hand))
            ∙ (does-stand tally (party-asks P)).walks (party-rest P)

  -- A party without a request.
  module _ (p : ℕ) (x : Session) (e : x.stage ≡ 0) where
    party-idle : Party s t p x
    party-idle = record {
      hand = record { stage = omega (arith, e); at-node = λ q. absurd (omega (arith, e, q)); low = λ n. absurd (n e); high = λ q. absurd (omega (arith, e, q)); last = λ q. absurd (omega (arith, e, q)) };
      begun = λ np n. absurd (n e);
      checked = λ n. absurd (n e);
      standing = λ n. absurd (n e);
      room = λ q. absurd (omega (arith, e, q));
      stored = subst (All (λ k. stored_in k (lvs S) ≡ true)) (sym no_pins) tt;
    }
      where
        no_pins : pins_of x ≡ []
        no_pins = ap (of_hand [] (λ (q : Request). pinned q q.stage)) (hand-none x e)

    idle-turn : (tally : List ℕ) → party_ok s seen m r p x tally ≡ turn true (tally_pins (leaves_of s) (pins_of x) tally)
    unfolding party_ok request_ok
    idle-turn tally =
        ap (λ (b : Bool). cond (b || cond (eqb p 0) (tidy_ok x) (not (eqb x.begun 0) && code_ok x m)) (cond b (turn true tally) (stands_at s seen m r p x tally)) (turn false tally)) (eq-eqb x.stage 0 e)
        ∙ sym (ap (λ (o : Option Request). turn true (tally_pins (leaves_of s) (of_hand [] (λ (q : Request). pinned q q.stage) o) tally)) (hand-none x e))

  -- ---- the test of one party

  pub does-party : (p : ℕ) (x : Session) → Worded x → (tally : List ℕ) → Does (party_ok s seen (M-of s) (R-of s) p x tally) (Party s t p x) (tally_pins (leaves_of s) (pins_of x) tally)
  does-party p x W tally = go (ℕ_discrete x.stage 0)
    where
      go : Dec (x.stage ≡ 0) → Does (party_ok s seen m r p x tally) (Party s t p x) (tally_pins (leaves_of s) (pins_of x) tally)
      go (yes e) = record { found = λ o. (party-idle p x e, ap (λ (v : Turn (List ℕ)). v.held) (idle-turn p x e tally)); walks = λ P. idle-turn p x e tally }
      go (no n) = does-hand p x W n tally
