-- The turn of one party with a request in hand: what it tests beside the request itself, and what it counts.
use Rattle.std.specs.Prelude.{◌≡◌, refl, Bool, true, not, ◌&&◌, List, ℕ, ◌≤◌, eqb, leb}
use Rattle.std.proofs.Math.Path.{sym, ap}
use Rattle.std.proofs.Common.{◌∙◌, inl, inr, arith}
use Rattle.std.proofs.Math.Bool.{false, cond}
use Rattle.std.proofs.Math.Decide.{ℕ_discrete}
use borrow.Author.Tests.{eq-eqb, ne_eqb, le-leb, lt-leb}
use Rattle.words.specs.Entries.{entry_word}
use Rattle.locks.specs.Holders.{holds}
use Rattle.sessions.specs.declared.Session.{Session}
use Rattle.meaning.specs.Sound.{pins_first}
use Rattle.marks.specs.Trail.{Turn, turn, then_turn}
use Rattle.standing.specs.Standing.{is_stored, latch_ok, pins_in, change_stands, locate_stands, tidy_stands, stands_at}
use Rattle.soundness.specs.PartyRequests.{ChangeStage, LocateStage, TidyStage, EntryIn, Walking, Change, Locate, Tidy, Asks, asks_value, asks_change, asks_locate, asks_tidy, walking-range, entry-walks}

then_same : (b : Bool) (l : List ℕ) → then_turn (turn b l) (λ k. turn true k) ≡ turn b l
then_same true l = refl
then_same false l = refl

turn-as : (b : Bool) (l : List ℕ) → turn b l ≡ cond b (turn true l) (turn false l)
turn-as true l = refl
turn-as false l = refl

-- A scan has also pinned second.
abbrev pub pins_second : Session → Bool
pins_second x = eqb x.stage 5 && not (eqb x.first x.second)

module _ (x : Session) where
  pub first-none : ¬ (x.stage ≡ 4) → ¬ (x.stage ≡ 5) → ¬ (x.code ≡ 5) → pins_first x ≡ false
  first-none a b c = simp (ne_eqb x.stage 4 a, ne_eqb x.stage 5 b, ne_eqb x.code 5 c)

  pub first_walk : ¬ (x.stage ≡ 4) → ¬ (x.stage ≡ 5) → x.code ≡ 5 → pins_first x ≡ cond (eqb x.target x.first) false true
  first_walk a b c = simp (ne_eqb x.stage 4 a, ne_eqb x.stage 5 b, eq-eqb x.code 5 c)

  pub first-4 : x.stage ≡ 4 → pins_first x ≡ true
  first-4 e = simp (eq-eqb x.stage 4 e)

  pub first-5 : x.stage ≡ 5 → pins_first x ≡ true
  first-5 e = simp (ne_eqb x.stage 4 (λ q. omega (arith, q, e)), eq-eqb x.stage 5 e)

  pub second_none : ¬ (x.stage ≡ 5) → pins_second x ≡ false
  second_none n = simp (ne_eqb x.stage 5 n)

  pub second-5 : x.stage ≡ 5 → pins_second x ≡ not (eqb x.first x.second)
  second-5 e = simp (eq-eqb x.stage 5 e)

module _ (s seen : List ℕ) (m r p : ℕ) (x : Session) where
  -- What is tested beside latch and pins.
  abbrev pub backing : Bool
  backing =
      cond (eqb x.stage 1) true
      (cond (leb 3 x.code && leb x.code 4) (holds (entry_word s x.entry 2) p) (cond (eqb x.code 6) (is_stored s m r x.target) true))

  abbrev pub pin_turn : List ℕ → Turn (List ℕ)
  pin_turn tally =
      then_turn (cond (pins_first x) (pins_in s seen m r x.low x.first tally) (turn true tally))
      (λ k. cond (pins_second x) (pins_in s seen m r x.high x.second k) (turn true k))

  abbrev pub party_turn : List ℕ → Turn (List ℕ)
  party_turn tally = cond backing (pin_turn tally) (turn false tally)

  pub back_start : x.stage ≡ 1 → backing ≡ true
  back_start e = simp (eq-eqb x.stage 1 e)

  pub back-change : ¬ (x.stage ≡ 1) → 3 ≤ x.code → x.code ≤ 4 → backing ≡ holds (entry_word s x.entry 2) p
  back-change n a b = simp (ne_eqb x.stage 1 n, le-leb 3 x.code a, le-leb x.code 4 b)

  pub back-locate : ¬ (x.stage ≡ 1) → x.code ≡ 5 → backing ≡ true
  back-locate n c = simp (ne_eqb x.stage 1 n, lt-leb x.code 4 (omega (arith, c)), le-leb 3 x.code (omega (arith, c)), ne_eqb x.code 6 (λ q. omega (arith, q, c)))

  pub back-tidy : ¬ (x.stage ≡ 1) → x.code ≡ 6 → backing ≡ is_stored s m r x.target
  back-tidy n c = simp (ne_eqb x.stage 1 n, lt-leb x.code 4 (omega (arith, c)), le-leb 3 x.code (omega (arith, c)), eq-eqb x.code 6 c)

  -- A party that pins nothing; one that pins first; a scan.
  pins-none : (tally : List ℕ) → pins_first x ≡ false → pins_second x ≡ false → pin_turn tally ≡ turn true tally
  pins-none tally a b = simp (a, b)

  pins-one : (tally : List ℕ) → pins_first x ≡ true → pins_second x ≡ false → pin_turn tally ≡ pins_in s seen m r x.low x.first tally
  pins-one tally a b = let v = pins_in s seen m r x.low x.first tally in simp (a, b) (then_same v.ok v.held)

  pins-both : (tally : List ℕ) → pins_first x ≡ true → pins_second x ≡ true
      → pin_turn tally ≡ then_turn (pins_in s seen m r x.low x.first tally) (λ k. pins_in s seen m r x.high x.second k)
  pins-both tally a b = simp (a, b)

  abbrev inner : List ℕ → Turn (List ℕ)
  inner tally =
      cond (leb x.code 2) (turn true tally)
      (cond (leb x.code 4) (change_stands s seen m r p x tally)
      (cond (eqb x.code 5) (locate_stands s seen m r x tally) (turn (tidy_stands s m r x) tally)))

  -- A party that is tested no further.
  unasked : (tally : List ℕ) → backing ≡ true → pins_first x ≡ false → pins_second x ≡ false → party_turn tally ≡ turn true tally
  unasked tally b f g = ap (λ (c : Bool). cond c (pin_turn tally) (turn false tally)) b ∙ pins-none tally f g

  -- The turns by code.
  inner-value : (tally : List ℕ) → x.code ≤ 2 → inner tally ≡ turn true tally
  inner-value tally h = simp (le-leb x.code 2 h)

  inner-change : (tally : List ℕ) → 3 ≤ x.code → x.code ≤ 4 → inner tally ≡ change_stands s seen m r p x tally
  inner-change tally a b = simp (lt-leb x.code 2 a, le-leb x.code 4 b)

  inner-locate : (tally : List ℕ) → x.code ≡ 5 → inner tally ≡ locate_stands s seen m r x tally
  inner-locate tally c = simp (lt-leb x.code 2 (omega (arith, c)), lt-leb x.code 4 (omega (arith, c)), eq-eqb x.code 5 c)

  inner-tidy : (tally : List ℕ) → x.code ≡ 6 → inner tally ≡ turn (tidy_stands s m r x) tally
  inner-tidy tally c = simp (lt-leb x.code 2 (omega (arith, c)), lt-leb x.code 4 (omega (arith, c)), ne_eqb x.code 5 (λ q. omega (arith, q, c)))

  change-start : (tally : List ℕ) → x.stage ≡ 1 → change_stands s seen m r p x tally ≡ turn true tally
  unfolding change_stands
  change-start tally e = simp (eq-eqb x.stage 1 e)

  change-past : (tally : List ℕ) → ¬ (p ≡ 0) → EntryIn x.entry m → ¬ (x.stage ≡ 1)
      → change_stands s seen m r p x tally ≡ cond (holds (entry_word s x.entry 2) p) (cond (eqb x.stage 4) (pins_in s seen m r x.low x.first tally) (turn true tally)) (turn false tally)
  unfolding change_stands
  change-past tally np en n = simp (ne_eqb x.stage 1 n, ne_eqb p 0 np, entry-walks x.entry m en)

  locate-take : (tally : List ℕ) → x.stage ≡ 5 → locate_stands s seen m r x tally
      ≡ then_turn (pins_in s seen m r x.low x.first tally) (λ k. cond (eqb x.first x.second) (turn true k) (pins_in s seen m r x.high x.second k))
  unfolding locate_stands
  locate-take tally e = simp (eq-eqb x.stage 5 e)

  locate-walk : (tally : List ℕ) → ¬ (x.stage ≡ 5) → locate_stands s seen m r x tally ≡ cond (eqb x.target x.first) (turn true tally) (pins_in s seen m r x.low x.first tally)
  unfolding locate_stands
  locate-walk tally n = simp (ne_eqb x.stage 5 n)

  tidy-start : x.stage ≡ 1 → tidy_stands s m r x ≡ true
  unfolding tidy_stands
  tidy-start e = simp (eq-eqb x.stage 1 e)

  tidy-walk : ¬ (x.stage ≡ 1) → tidy_stands s m r x ≡ is_stored s m r x.target
  unfolding tidy_stands
  tidy-walk n = simp (ne_eqb x.stage 1 n)

  -- And as one.
  at-start : (tally : List ℕ) → x.stage ≡ 1 → ¬ (x.code ≡ 5) → party_turn tally ≡ turn true tally
  at-start tally e n =
      unasked tally (back_start e) (first-none x (λ q. omega (arith, q, e)) (λ q. omega (arith, q, e)) n) (second_none x (λ q. omega (arith, q, e)))

  change-turn : (tally : List ℕ) → ¬ (p ≡ 0) → Change x m → inner tally ≡ party_turn tally
  change-turn tally np c = inner-change tally c.least c.most ∙ go c.stands
    where
      not-5 : ¬ (x.code ≡ 5)
      not-5 q = omega (arith, q, c.most)

      past : (v : Turn (List ℕ)) → ¬ (x.stage ≡ 1) → cond (eqb x.stage 4) (pins_in s seen m r x.low x.first tally) (turn true tally) ≡ v → pin_turn tally ≡ v
          → change_stands s seen m r p x tally ≡ party_turn tally
      past v n d e =
          change-past tally np c.entry n
          ∙ ap (λ (u : Turn (List ℕ)). cond (holds (entry_word s x.entry 2) p) u (turn false tally)) (d ∙ sym e)
          ∙ sym (ap (λ (b : Bool). cond b (pin_turn tally) (turn false tally)) (back-change n c.least c.most))

      go : ChangeStage x → change_stands s seen m r p x tally ≡ party_turn tally
      go (inl e) = change-start tally e ∙ sym (at-start tally e not-5)
      go (inr (inl e)) =
          past (pins_in s seen m r x.low x.first tally) (λ q. omega (arith, q, e)) (simp (eq-eqb x.stage 4 e)) (pins-one tally (first-4 x e) (second_none x (λ q. omega (arith, q, e))))
      go (inr (inr e)) =
          let g = walking-range x e.0 in
          let n4 : ¬ (x.stage ≡ 4) = λ q. omega (arith, q, g.1) in
          let n5 : ¬ (x.stage ≡ 5) = λ q. omega (arith, q, g.1) in
          past (turn true tally) (λ q. omega (arith, q, g.0)) (simp (ne_eqb x.stage 4 n4)) (pins-none tally (first-none x n4 n5 not-5) (second_none x n5))

  locate-turn : (tally : List ℕ) → Locate x → inner tally ≡ party_turn tally
  locate-turn tally l = inner-locate tally l.code ∙ go l.stands
    where
      backed : ¬ (x.stage ≡ 1) → {v : Turn (List ℕ)} → locate_stands s seen m r x tally ≡ v → pin_turn tally ≡ v → locate_stands s seen m r x tally ≡ party_turn tally
      backed n e q = e ∙ sym (ap (λ (b : Bool). cond b (pin_turn tally) (turn false tally)) (back-locate n l.code) ∙ q)

      scan : x.stage ≡ 5 → Dec (x.first ≡ x.second) → locate_stands s seen m r x tally ≡ party_turn tally
      scan e (yes q) =
          let v = pins_in s seen m r x.low x.first tally in
          backed (λ z. omega (arith, z, e)) {v = v} (locate-take tally e ∙ simp (eq-eqb x.first x.second q) (then_same v.ok v.held))
          (pins-one tally (first-5 x e) (second-5 x e ∙ ap not (eq-eqb x.first x.second q)))
      scan e (no n) =
          let v = pins_in s seen m r x.low x.first tally in
          backed (λ z. omega (arith, z, e)) {v = then_turn v (λ k. pins_in s seen m r x.high x.second k)} (locate-take tally e ∙ simp (ne_eqb x.first x.second n))
          (pins-both tally (first-5 x e) (second-5 x e ∙ ap not (ne_eqb x.first x.second n)))

      walk : Walking x → Dec (x.target ≡ x.first) → locate_stands s seen m r x tally ≡ party_turn tally
      walk w d =
          let g = walking-range x w in
          at_target (λ q. omega (arith, q, g.0)) (λ q. omega (arith, q, g.1)) (λ q. omega (arith, q, g.1)) d
        where
          at_target : ¬ (x.stage ≡ 1) → ¬ (x.stage ≡ 4) → ¬ (x.stage ≡ 5) → Dec (x.target ≡ x.first) → locate_stands s seen m r x tally ≡ party_turn tally
          at_target n1 n4 n5 (yes q) =
              backed n1 {v = turn true tally} (locate-walk tally n5 ∙ simp (eq-eqb x.target x.first q))
              (pins-none tally (first_walk x n4 n5 l.code ∙ simp (eq-eqb x.target x.first q)) (second_none x n5))
          at_target n1 n4 n5 (no n) =
              backed n1 {v = pins_in s seen m r x.low x.first tally} (locate-walk tally n5 ∙ simp (ne_eqb x.target x.first n))
              (pins-one tally (first_walk x n4 n5 l.code ∙ simp (ne_eqb x.target x.first n)) (second_none x n5))

      go : LocateStage x → locate_stands s seen m r x tally ≡ party_turn tally
      go (inl e) = scan e.0 (ℕ_discrete x.first x.second)
      go (inr e) = walk e.0 (ℕ_discrete x.target x.first)

  tidy-turn : (tally : List ℕ) → Tidy x → inner tally ≡ party_turn tally
  tidy-turn tally d = inner-tidy tally d.code ∙ go d.stands
    where
      not-5 : ¬ (x.code ≡ 5)
      not-5 q = omega (arith, q, d.code)

      go : TidyStage x → turn (tidy_stands s m r x) tally ≡ party_turn tally
      go (inl e) = ap (λ (b : Bool). turn b tally) (tidy-start e) ∙ sym (at-start tally e not-5)
      go (inr e) =
          let g = walking-range x e.0 in
          let n1 : ¬ (x.stage ≡ 1) = λ q. omega (arith, q, g.0) in
          let n4 : ¬ (x.stage ≡ 4) = λ q. omega (arith, q, g.1) in
          let n5 : ¬ (x.stage ≡ 5) = λ q. omega (arith, q, g.1) in
          ap (λ (b : Bool). turn b tally) (tidy-walk n1) ∙ turn-as (is_stored s m r x.target) tally
          ∙ sym (ap (λ (b : Bool). cond b (pin_turn tally) (turn false tally)) (back-tidy n1 d.code)
          ∙ ap (λ (u : Turn (List ℕ)). cond (is_stored s m r x.target) u (turn false tally)) (pins-none tally (first-none x n4 n5 not-5) (second_none x n5)))

  pub stands-turn : (tally : List ℕ) → Asks p x m → stands_at s seen m r p x tally ≡ cond (latch_ok s m r p x) (party_turn tally) (turn false tally)
  unfolding stands_at
  stands-turn tally a = ap (λ (u : Turn (List ℕ)). cond (latch_ok s m r p x) u (turn false tally)) (go a)
    where
      go : Asks p x m → inner tally ≡ party_turn tally
      go (asks_value n v) = inner-value tally v.most ∙ sym (at-start tally v.stage (λ q. omega (arith, q, v.most)))
      go (asks_change n c) = change-turn tally n c
      go (asks_locate n l) = locate-turn tally l
      go (asks_tidy z d) = tidy-turn tally d
