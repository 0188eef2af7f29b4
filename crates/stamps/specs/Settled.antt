-- Laws of readings, over the local minute less the base offset, which the base offset does not enter.
use Rattle.std.specs.Prelude.{◌≡◌, refl, Bool, true, false, cond, not, ◌&&◌, ℕ, ◌+◌, ◌-◌, ◌≤◌, ◌<◌, leb, ltb, Ok, Err}
use Rattle.std.proofs.Common.{sym, ap, subst, ◌∙◌, arith, leb-true, ltb-true, ltb-false, le-leb, lt-ltb, le-ltb}
use Rattle.std.proofs.Math.Path.{subst₃}
use Rattle.std.proofs.lemmas.Bool.{lt-leb}
use Rattle.switches.specs.Switches.{spring, autumn}
use Rattle.switches.specs.Years.{Clear, clear_at}
use Rattle.calendar.specs.Tests.{and_left, and_right}
use Rattle.stamps.specs.Stamps.{Reading, first_minute, end_minute, covered, year, summer, as_summer, as_winter, hour_from, unmarked}
use Rattle.stamps.specs.Minutes.{In, has-year, one-year, in-year-of, covered-yes, covered-is, in-covered, summer-in, Summer, summer-is, by-spring}
use Rattle.stamps.specs.declared.Refusal.TheVariants.{Outside, Skipped, Doubled}

-- the tests of an interval
inside : (a e x : ℕ) → a ≤ x → x < e → (leb a x && ltb x e) ≡ true
inside a e x l h = ap {A = Bool} (λ b. b && ltb x e) (le-leb a x l) ∙ lt-ltb x e h

below : (a e x : ℕ) → x < a → (leb a x && ltb x e) ≡ false
below a e x h = ap {A = Bool} (λ b. b && ltb x e) (lt-leb a x h)

above : (a e x : ℕ) → a ≤ x → e ≤ x → (leb a x && ltb x e) ≡ false
above a e x l h = ap {A = Bool} (λ b. b && ltb x e) (le-leb a x l) ∙ le-ltb x e h

-- ---- with the mark of summer

pub summer-yes : {w y : ℕ} → 2002 ≤ y → y ≤ 2105 → spring y + 60 ≤ w → w < autumn y + 60 → as_summer w ≡ Ok (w - 60)
unfolding as_summer
summer-yes {w} {y} a b l h = ap {A = Bool} (λ c. cond c (Ok (w - 60)) (Err Outside)) (ap {A = Bool} (λ c. c && summer (w - 60)) (covered-yes (in-covered lies).0 (in-covered lies).1) ∙ summer-in lies ∙ inside (spring y) (autumn y) (w - 60) (omega arith) (omega arith))
  where
    lies : In (w - 60) y
    lies = by-spring a b (omega arith) (omega arith)

pub summer-no : (w : ℕ) → (Summer (w - 60) → ⊥) → as_summer w ≡ Err Outside
unfolding as_summer
summer-no w n = go (covered (w - 60)) (summer (w - 60)) refl refl
  where
    go : (a b : Bool) → covered (w - 60) ≡ a → summer (w - 60) ≡ b → cond (a && b) (Ok (w - 60)) (Err Outside) ≡ Err Outside
    go true true p q = absurd (n (summer-is (w - 60) p q))
    go true false p q = refl
    go false b p q = refl

pub summer-of : (w t : ℕ) → as_summer w ≡ Ok t → (t ≡ w - 60) × (covered t ≡ true) × (summer t ≡ true)
unfolding as_summer
summer-of w t e = go (covered (w - 60)) (summer (w - 60)) refl refl e
  where
    go : (a b : Bool) → covered (w - 60) ≡ a → summer (w - 60) ≡ b → cond (a && b) (Ok (w - 60)) (Err Outside) ≡ Ok t → (t ≡ w - 60) × (covered t ≡ true) × (summer t ≡ true)
    go true true p q e = let z : t ≡ w - 60 = cc in (z, ap covered z ∙ p, ap summer z ∙ q)
    go true false p q e = let z : ◌≡◌ {A = ℕ} 0 1 = cc in absurd (omega arith)
    go false b p q e = let z : ◌≡◌ {A = ℕ} 0 1 = cc in absurd (omega arith)

-- ---- with the mark of winter

winter-if : {w : ℕ} {b : Bool} → first_minute ≤ w → w < end_minute → summer w ≡ b → as_winter w ≡ cond (not b) (Ok w) (Err Outside)
unfolding as_winter
winter-if {w} {b} l h e = ap {A = Bool} (λ c. cond (c && not (summer w)) (Ok w) (Err Outside)) (covered-yes l h) ∙ ap {A = Bool} (λ c. cond (not c) (Ok w) (Err Outside)) e

pub winter-out : (w : ℕ) → covered w ≡ false → as_winter w ≡ Err Outside
unfolding as_winter
winter-out w e = ap {A = Bool} (λ c. cond (c && not (summer w)) (Ok w) (Err Outside)) e

pub winter-of : (w t : ℕ) → as_winter w ≡ Ok t → (t ≡ w) × (covered t ≡ true) × (summer t ≡ false)
unfolding as_winter
winter-of w t e = go (covered w) (summer w) refl refl e
  where
    go : (a b : Bool) → covered w ≡ a → summer w ≡ b → cond (a && not b) (Ok w) (Err Outside) ≡ Ok t → (t ≡ w) × (covered t ≡ true) × (summer t ≡ false)
    go true false p q e = let z : t ≡ w = cc in (z, ap covered z ∙ p, ap summer z ∙ q)
    go true true p q e = let z : ◌≡◌ {A = ℕ} 0 1 = cc in absurd (omega arith)
    go false b p q e = let z : ◌≡◌ {A = ℕ} 0 1 = cc in absurd (omega arith)

-- ---- with no mark

abbrev told : Bool → Bool → Bool → ℕ → Reading
told a b c w = cond a (Err Skipped) (cond b (Err Doubled) (cond c (Ok (w - 60)) (Ok w)))

told-as : {a b c x y z : Bool} (w : ℕ) → a ≡ x → b ≡ y → c ≡ z → told a b c w ≡ told x y z w
told-as w p q r = cc

unmarked-in : {w y : ℕ} → In w y → unmarked w ≡ told (hour_from (spring y) w) (hour_from (autumn y) w) (leb (spring y) w && ltb w (autumn y)) w
unfolding unmarked
unmarked-in {w} {y} i =
    ap {A = Bool} (λ c. cond c (told (hour_from (spring (year w)) w) (hour_from (autumn (year w)) w) (summer w) w) (Err Outside)) (covered-yes (in-covered i).0 (in-covered i).1)
    ∙ told-as w (ap (λ (n : ℕ). hour_from (spring n) w) (has-year i)) (ap (λ (n : ℕ). hour_from (autumn n) w) (has-year i)) (summer-in i)

pub unmarked-out : (w : ℕ) → covered w ≡ false → unmarked w ≡ Err Outside
unfolding unmarked
unmarked-out w e = ap {A = Bool} (λ c. cond c (told (hour_from (spring (year w)) w) (hour_from (autumn (year w)) w) (summer w) w) (Err Outside)) e

module _ {w y : ℕ} (i : In w y) where
  clear : Clear y
  clear = clear_at y i.from i.upto

  -- the five parts of a year
  pub unmarked-1 : w < spring y → unmarked w ≡ Ok w
  unmarked-1 h = let c = clear.apart in unmarked-in i ∙ told-as w (below (spring y) (spring y + 60) w h) (below (autumn y) (autumn y + 60) w (omega arith)) (below (spring y) (autumn y) w h)

  pub unmarked-2 : spring y ≤ w → w < spring y + 60 → unmarked w ≡ Err Skipped
  unmarked-2 l h = let c = clear.apart in unmarked-in i ∙ told-as w (inside (spring y) (spring y + 60) w l h) (below (autumn y) (autumn y + 60) w (omega arith)) (inside (spring y) (autumn y) w l (omega arith))

  pub unmarked-3 : spring y + 60 ≤ w → w < autumn y → unmarked w ≡ Ok (w - 60)
  unmarked-3 l h = unmarked-in i ∙ told-as w (above (spring y) (spring y + 60) w (omega arith) l) (below (autumn y) (autumn y + 60) w h) (inside (spring y) (autumn y) w (omega arith) h)

  pub unmarked-4 : autumn y ≤ w → w < autumn y + 60 → unmarked w ≡ Err Doubled
  unmarked-4 l h = let c = clear.apart in unmarked-in i ∙ told-as w (above (spring y) (spring y + 60) w (omega arith) (omega arith)) (inside (autumn y) (autumn y + 60) w l h) (above (spring y) (autumn y) w (omega arith) l)

  pub unmarked-5 : autumn y + 60 ≤ w → unmarked w ≡ Ok w
  unmarked-5 l = let c = clear.apart in unmarked-in i ∙ told-as w (above (spring y) (spring y + 60) w (omega arith) (omega arith)) (above (autumn y) (autumn y + 60) w (omega arith) l) (above (spring y) (autumn y) w (omega arith) (omega arith))

  pub winter-low : w < spring y → as_winter w ≡ Ok w
  winter-low h = winter-if (in-covered i).0 (in-covered i).1 (summer-in i ∙ below (spring y) (autumn y) w h)

  pub winter-high : autumn y ≤ w → as_winter w ≡ Ok w
  winter-high h = let c = clear.apart in winter-if (in-covered i).0 (in-covered i).1 (summer-in i ∙ above (spring y) (autumn y) w (omega arith) h)

  pub winter-no : spring y ≤ w → w < autumn y → as_winter w ≡ Err Outside
  winter-no l h = winter-if (in-covered i).0 (in-covered i).1 (summer-in i ∙ inside (spring y) (autumn y) w l h)

  -- a summer minute an hour earlier lies in the same year
  earlier : Summer (w - 60) → (spring y + 60 ≤ w) × (w < autumn y + 60)
  earlier s = go (one-year (by-spring s.lies.from s.lies.upto (omega (arith, s.after)) (omega (arith, s.before))) i)
    where
      go : s.y ≡ y → (spring y + 60 ≤ w) × (w < autumn y + 60)
      go e = subst (λ (n : ℕ). (spring n + 60 ≤ w) × (w < autumn n + 60)) e (let a = s.after in let b = s.before in let g = (in-covered i).0 in (omega arith, omega arith))

-- ---- the three readings of a minute, with no mark, with that of summer, with that of winter

pub data Agree : Reading → Reading → Reading → Type 0 where
  summer_alone : {t : ℕ} → Agree (Ok t) (Ok t) (Err Outside)
  winter_alone : {t : ℕ} → Agree (Ok t) (Err Outside) (Ok t)
  an_hour_apart : {t : ℕ} → Agree (Err Doubled) (Ok t) (Ok (t + 60))
  none_skipped : Agree (Err Skipped) (Err Outside) (Err Outside)
  none : Agree (Err Outside) (Err Outside) (Err Outside)

agreed : {a b c x y z : Reading} → a ≡ x → b ≡ y → c ≡ z → Agree x y z → Agree a b c
agreed p q r h = subst₃ Agree (sym p) (sym q) (sym r) h

agree-in : {w y : ℕ} → In w y → Agree (unmarked w) (as_summer w) (as_winter w)
agree-in {w} {y} i = one (ltb w (spring y)) refl
  where
    from : 2002 ≤ y
    from = i.from

    upto : y ≤ 2105
    upto = i.upto

    cl : Clear y
    cl = clear_at y from upto

    four : (b : Bool) → ltb w (autumn y + 60) ≡ b → autumn y ≤ w → Agree (unmarked w) (as_summer w) (as_winter w)
    four true e l =
        agreed (unmarked-4 i l (ltb-true _ _ e)) (summer-yes from upto (let c = cl.apart in omega arith) (ltb-true _ _ e)) (winter-high i l ∙ ap Ok over) an_hour_apart
      where
        over : w ≡ w - 60 + 60
        over = let g = (in-covered i).0 in omega arith
    four false e l =
        let h = ltb-false _ _ e in
        agreed (unmarked-5 i h) (summer-no w (λ s. let z = (earlier i s).1 in omega arith)) (winter-high i l) winter_alone

    three : (b : Bool) → ltb w (autumn y) ≡ b → spring y + 60 ≤ w → Agree (unmarked w) (as_summer w) (as_winter w)
    three true e l =
        let h = ltb-true _ _ e in
        agreed (unmarked-3 i l h) (summer-yes from upto l (omega arith)) (winter-no i (omega arith) h) summer_alone
    three false e l = four (ltb w (autumn y + 60)) refl (ltb-false _ _ e)

    two : (b : Bool) → ltb w (spring y + 60) ≡ b → spring y ≤ w → Agree (unmarked w) (as_summer w) (as_winter w)
    two true e l =
        let h = ltb-true _ _ e in
        agreed (unmarked-2 i l h) (summer-no w (λ s. let z = (earlier i s).0 in omega arith)) (winter-no i l (let c = cl.apart in omega arith)) none_skipped
    two false e l = three (ltb w (autumn y)) refl (ltb-false _ _ e)

    one : (b : Bool) → ltb w (spring y) ≡ b → Agree (unmarked w) (as_summer w) (as_winter w)
    one true e =
        let h = ltb-true _ _ e in
        agreed (unmarked-1 i h) (summer-no w (λ s. let z = (earlier i s).0 in omega arith)) (winter-low i h) winter_alone
    one false e = two (ltb w (spring y + 60)) refl (ltb-false _ _ e)

pub agree : (w : ℕ) → Agree (unmarked w) (as_summer w) (as_winter w)
agree w = go (covered w) refl
  where
    go : (b : Bool) → covered w ≡ b → Agree (unmarked w) (as_summer w) (as_winter w)
    go true e = agree-in (in-year-of w (covered-is w e).0 (covered-is w e).1)
    go false e = agreed (unmarked-out w e) (summer-no w far) (winter-out w e) none
      where
        far : Summer (w - 60) → ⊥
        far s =
            let a = s.after in
            let b = s.before in
            let g = (in-covered s.lies).0 in
            let i = in-covered (by-spring {t = w} s.lies.from s.lies.upto (omega arith) (omega arith)) in
            let z : ◌≡◌ {A = ℕ} 0 1 = cc (covered-yes i.0 i.1) in
            omega arith

-- ---- the hours skipped and doubled

-- w lies in the hour from a year's switch on
pub record Hour (switch : ℕ → ℕ) (w : ℕ) : Type 0 where
  pub y : ℕ
  pub from : 2002 ≤ y
  pub upto : y ≤ 2105
  pub after : switch y ≤ w
  pub before : w < switch y + 60

pub skipped-in : (w : ℕ) → Hour spring w → unmarked w ≡ Err Skipped
skipped-in w h = unmarked-2 (by-spring h.from h.upto (omega (arith, h.after)) (let c = clear_at h.y h.from h.upto in let a = c.apart in let b = h.before in omega arith)) h.after h.before

pub doubled-in : (w : ℕ) → Hour autumn w → unmarked w ≡ Err Doubled
doubled-in w h = unmarked-4 (by-spring h.from h.upto (let c = clear_at h.y h.from h.upto in let a = c.apart in let b = h.after in omega arith) (omega (arith, h.before))) h.after h.before

-- and in no other hour: what a reading with no mark says
data Says (w : ℕ) : Reading → Type 0 where
  minute : {t : ℕ} → Says w (Ok t)
  left : covered w ≡ false → Says w (Err Outside)
  in_spring : Hour spring w → Says w (Err Skipped)
  in_autumn : Hour autumn w → Says w (Err Doubled)

says : (w : ℕ) → Says w (unmarked w)
unfolding unmarked
says w = go (covered w) (hour_from (spring (year w)) w) (hour_from (autumn (year w)) w) (summer w) refl refl refl
  where
    hour : (switch : ℕ → ℕ) → covered w ≡ true → hour_from (switch (year w)) w ≡ true → Hour switch w
    hour switch p q =
        let i = in-year-of w (covered-is w p).0 (covered-is w p).1 in
        record { y = year w; from = i.from; upto = i.upto; after = leb-true _ _ (and_left (leb (switch (year w)) w) _ q); before = ltb-true _ _ (and_right (leb (switch (year w)) w) _ q) }

    go : (k a b c : Bool) → covered w ≡ k → hour_from (spring (year w)) w ≡ a → hour_from (autumn (year w)) w ≡ b → Says w (cond k (told a b c w) (Err Outside))
    go true true b c p q r = in_spring (hour spring p q)
    go true false true c p q r = in_autumn (hour autumn p r)
    go true false false true p q r = minute
    go true false false false p q r = minute
    go false a b c p q r = left p

module _ (w : ℕ) where
  pub in-skipped : unmarked w ≡ Err Skipped → Hour spring w
  in-skipped e = go (subst (Says w) e (says w))
    where
      go : Says w (Err Skipped) → Hour spring w
      go (in_spring h) = h

  pub in-doubled : unmarked w ≡ Err Doubled → Hour autumn w
  in-doubled e = go (subst (Says w) e (says w))
    where
      go : Says w (Err Doubled) → Hour autumn w
      go (in_autumn h) = h

  pub unmarked-left : unmarked w ≡ Err Outside → covered w ≡ false
  unmarked-left e = go (subst (Says w) e (says w))
    where
      go : Says w (Err Outside) → covered w ≡ false
      go (left c) = c
