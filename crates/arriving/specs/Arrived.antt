-- The session record after a descent: its words name what they should, and its request is in the machine's next stage.
use Rattle.std.specs.Prelude.{◌≡◌, Bool, cond, ℕ}
use Rattle.std.proofs.Math.Path.{refl}
use Rattle.std.proofs.Common.{sym, subst, ◌∙◌, inl, arith, eq-eqb, ne_eqb}
use Rattle.std.proofs.Math.Bool.{true, false}
use Rattle.std.proofs.Math.Option.{some}
use Rattle.std.proofs.Math.Dec.{eqb}
use Rattle.sessions.specs.declared.Session.{Session}
use Rattle.sessions.specs.Sessions.{tenure}
use Rattle.machine.specs.Logic.{eqb_is, eqb-not}
use Rattle.machine.specs.State.{State, enter, change, take, in_stage}
use Rattle.machine.specs.Steps.{arrived}
use Rattle.machine.specs.Sound.{Descends, to-change, to_first, to-second, to_choice}
use Rattle.meaning.specs.Reading.{hand_of}
use Rattle.meaning.specs.Sound.{pins_first}
use Rattle.meaning.specs.Latched.{at_request}
use Rattle.layout.specs.Layout.{Lay, leaves_in, Has, HandFits}
use Rattle.arriving.specs.Arriving.{staged, to_change, to_second, to_take, arrived_at}

module _ (x : Session) (d : ℕ) where
  -- ---- what stays

  pub arrived-undo : (arrived_at x d).undo ≡ x.undo
  unfolding arrived_at to_take to_second to_change
  arrived-undo = go (eqb x.code 5) (eqb x.target x.second) (eqb x.first x.second)
    where
      go : (a b c : Bool) → (cond a (cond b (cond c (staged x 5 x.target d x.high 0) (staged x 5 x.target x.low d 0)) (staged x 2 x.second d x.high x.last)) (staged x 4 x.target d x.high x.last)).undo ≡ x.undo
      go true true true = refl
      go true true false = refl
      go true false c = refl
      go false b c = refl

  pub arrived-tenure : tenure (arrived_at x d) ≡ tenure x
  unfolding arrived_at to_take to_second to_change
  arrived-tenure = go (eqb x.code 5) (eqb x.target x.second) (eqb x.first x.second)
    where
      go : (a b c : Bool)
          → tenure (cond a (cond b (cond c (staged x 5 x.target d x.high 0) (staged x 5 x.target x.low d 0)) (staged x 2 x.second d x.high x.last)) (staged x 4 x.target d x.high x.last)) ≡ tenure x
      go true true true = refl
      go true true false = refl
      go true false c = refl
      go false b c = refl

  -- ---- the request

  pub arrived-hand : hand_of (arrived_at x d) ≡ some (in_stage (arrived (at_request x) x.target) (at_request x))
  unfolding arrived_at to_take to_second to_change arrived
  arrived-hand = go (eqb x.code 5) (eqb x.target x.second) (eqb x.first x.second)
    where
      go : (a b c : Bool)
          → hand_of (cond a (cond b (cond c (staged x 5 x.target d x.high 0) (staged x 5 x.target x.low d 0)) (staged x 2 x.second d x.high x.last)) (staged x 4 x.target d x.high x.last))
          ≡ some (in_stage (cond a (cond b (take x.first) (enter x.second)) change) (at_request x))
      go true true true = refl
      go true true false = refl
      go true false c = refl
      go false b c = refl

  -- ---- what it names

  module _ (L : Lay) (p : ℕ) where
    fits-change : Has x.first d (leaves_in L) → HandFits L p (to_change x d)
    unfolding to_change
    fits-change h = record {
      stage = omega arith;
      at-node = λ e. absurd (omega (arith, e));
      low = λ n e. h;
      high = λ e n. absurd (omega (arith, e));
      last = λ e. absurd (omega (arith, e));
    }

    fits-second : Has x.first d (leaves_in L) → HandFits L p (to_second x d)
    unfolding to_second
    fits-second h = record {
      stage = omega arith;
      at-node = λ e. absurd (omega (arith, e));
      low = λ n e. h;
      high = λ e n. absurd (omega (arith, e));
      last = λ e. absurd (omega (arith, e));
    }

    fits_one : x.first ≡ x.second → Has x.first d (leaves_in L) → HandFits L p (staged x 5 x.target d x.high 0)
    fits_one q h = record {
      stage = omega arith;
      at-node = λ e. absurd (omega (arith, e));
      low = λ n e. h;
      high = λ e n. absurd (n q);
      last = λ e. inl refl;
    }

    fits-two : Has x.first x.low (leaves_in L) → Has x.second d (leaves_in L) → HandFits L p (staged x 5 x.target x.low d 0)
    fits-two g h = record {
      stage = omega arith;
      at-node = λ e. absurd (omega (arith, e));
      low = λ n e. g;
      high = λ e n. h;
      last = λ e. inl refl;
    }

    fits-take : Has x.second d (leaves_in L) → (¬ (x.first ≡ x.second) → Has x.first x.low (leaves_in L)) → HandFits L p (to_take x d)
    unfolding to_take
    fits-take h g = go (eqb x.first x.second) refl
      where
        go : (c : Bool) → eqb x.first x.second ≡ c → HandFits L p (cond c (staged x 5 x.target d x.high 0) (staged x 5 x.target x.low d 0))
        go true e = let q = eqb_is x.first x.second e in fits_one q (subst (λ k. Has k d (leaves_in L)) (sym q) h)
        go false e = fits-two (g (eqb-not x.first x.second e)) h

    -- A locate on its way to second has pinned first.
    pinned-first : x.stage ≡ 3 → x.code ≡ 5 → ¬ (x.target ≡ x.first) → pins_first x ≡ true
    pinned-first e c n =
        rw (ne_eqb x.stage 4 (λ q. omega (arith, e, q)), ne_eqb x.stage 5 (λ q. omega (arith, e, q)), eq-eqb x.code 5 c, ne_eqb x.target x.first n) refl

    pub arrived-fits : (s : State) → x.stage ≡ 3 → ¬ (x.code ≡ 6) → Descends p s (at_request x) x.target → Has x.target d (leaves_in L)
        → (pins_first x ≡ true → Has x.first x.low (leaves_in L)) → HandFits L p (arrived_at x d)
    unfolding arrived_at
    arrived-fits s e other D h low = go (eqb x.code 5) refl (eqb x.target x.second) refl D
      where
        go : (a : Bool) → eqb x.code 5 ≡ a → (b : Bool) → eqb x.target x.second ≡ b → Descends p s (at_request x) x.target
            → HandFits L p (cond a (cond b (to_take x d) (to_second x d)) (to_change x d))
        go true c true q D =
            let z = eqb_is x.target x.second q in
            fits-take (subst (λ k. Has k d (leaves_in L)) z h) (λ n. low (pinned-first e (eqb_is x.code 5 c) (λ w. n (sym w ∙ z))))
        go true c false q (to-change C w) = absurd (omega (arith, eqb_is x.code 5 c, C.code_3_4.1))
        go true c false q (to_first k w) = fits-second (subst (λ k. Has k d (leaves_in L)) w h)
        go true c false q (to-second k w) = absurd (eqb-not x.target x.second q w)
        go true c false q (to_choice C) = absurd (other C.code_6)
        go false c b q (to-change C w) = fits-change (subst (λ k. Has k d (leaves_in L)) w h)
        go false c b q (to_first k w) = absurd (eqb-not x.code 5 c k)
        go false c b q (to-second k w) = absurd (eqb-not x.code 5 c k)
        go false c b q (to_choice C) = absurd (other C.code_6)
