-- The test of one party's request by itself: true exactly if its code, arguments and stage are among those that its steps can have.
use Rattle.std.specs.Prelude.{◌≡◌, refl, Bool, not, ◌&&◌, ◌||◌, ◌⊎◌, ℕ, ◌≤◌, ◌<◌}
use Rattle.std.proofs.Common.{sym, ◌∙◌, arith}
use Rattle.std.proofs.Math.Bool.{true, false, cond}
use Rattle.std.proofs.Math.Logic.{inl, inr}
use Rattle.std.proofs.Math.Decide.{ℕ_discrete}
use Rattle.std.proofs.Math.Dec.{eqb, leb, ltb}
use borrow.Author.Tests.{eq-eqb, ne_eqb, le-leb, lt-leb, lt-ltb, eqb-true, eqb-false, leb-true, leb-false, ltb-true, not-true}
use Rattle.sessions.specs.declared.Session.{Session}
use Rattle.machine.specs.State.{top}
use Rattle.marks.specs.Marks.{key_ok, entry_ok}
use Rattle.marks.specs.Steps.{no as never, both, entry_in}
use Rattle.requests.specs.Requests.{value_ok, change_ok, locate_stage, locate_ok, tidy_ok, code_ok, request_ok}

-- Between the two infinities.
abbrev pub Proper : ℕ → Type 0
Proper k = (1 ≤ k) × (k < top)

abbrev pub EntryIn : ℕ → ℕ → Type 0
EntryIn e m = (1 ≤ e) × (e ≤ m)

-- On a descent.
abbrev pub Walking : Session → Type 0
Walking x = (x.stage ≡ 2) ⊎ (x.stage ≡ 3)

-- Where an insert or remove, a locate and a tidy may stand.
abbrev pub ChangeStage : Session → Type 0
ChangeStage x = (x.stage ≡ 1) ⊎ ((x.stage ≡ 4) ⊎ (Walking x × (x.target ≡ x.first)))

abbrev pub Last : Session → Type 0
Last x = (x.last ≡ 0) ⊎ ((x.first ≤ x.last) × (x.last < x.second))

abbrev pub LocateStage : Session → Type 0
LocateStage x = ((x.stage ≡ 5) × Last x) ⊎ (Walking x × ((x.target ≡ x.first) ⊎ (x.target ≡ x.second)))

abbrev pub TidyStage : Session → Type 0
TidyStage x = (x.stage ≡ 1) ⊎ (Walking x × (x.first < x.target))

-- A read or a write.
pub record Value (x : Session) (m : ℕ) : Type 0 where
  pub least : 1 ≤ x.code
  pub most : x.code ≤ 2
  pub entry : EntryIn x.entry m
  pub stage : x.stage ≡ 1

-- An insert or a remove.
pub record Change (x : Session) (m : ℕ) : Type 0 where
  pub least : 3 ≤ x.code
  pub most : x.code ≤ 4
  pub entry : EntryIn x.entry m
  pub key : Proper x.first
  pub stands : ChangeStage x

pub record Locate (x : Session) : Type 0 where
  pub code : x.code ≡ 5
  pub first : Proper x.first
  pub second : Proper x.second
  pub order : x.first ≤ x.second
  pub stands : LocateStage x

pub record Tidy (x : Session) : Type 0 where
  pub code : x.code ≡ 6
  pub stands : TidyStage x

pub data Asks (p : ℕ) (x : Session) (m : ℕ) : Type 0 where
  asks_value : ¬ (p ≡ 0) → Value x m → Asks p x m
  asks_change : ¬ (p ≡ 0) → Change x m → Asks p x m
  asks_locate : ¬ (p ≡ 0) → Locate x → Asks p x m
  asks_tidy : p ≡ 0 → Tidy x → Asks p x m

-- ---- tests

pub some_of : (a b : Bool) → (a || b) ≡ true → (a ≡ true) ⊎ (b ≡ true)
some_of true b e = inl refl
some_of false b e = inr e

pub first_of : (a b : Bool) → a ≡ true → (a || b) ≡ true
first_of true b e = refl
first_of false b e = never e

pub second-of : (a b : Bool) → b ≡ true → (a || b) ≡ true
second-of true b e = refl
second-of false b e = e

pub both-are : (a b : Bool) → a ≡ true → b ≡ true → (a && b) ≡ true
both-are true b e q = q
both-are false b e q = never e

pub which : (b x y : Bool) → cond b x y ≡ true → ((b ≡ true) × (x ≡ true)) ⊎ ((b ≡ false) × (y ≡ true))
which true x y e = inl (refl, e)
which false x y e = inr (refl, e)

key-found : (k : ℕ) → k ≤ top → key_ok k ≡ true → Proper k
unfolding key_ok
key-found k h e =
    let p = both (not (eqb k 0)) (not (eqb k 4294967295)) e in
    let a : k ≡ 0 → ⊥ = eqb-false k 0 (not-true _ p.0) in
    let b : k ≡ 4294967295 → ⊥ = eqb-false k 4294967295 (not-true _ p.1) in
    (omega (arith, a), omega (arith, b, h))

key_walks : (k : ℕ) → Proper k → key_ok k ≡ true
unfolding key_ok
key_walks k p = simp (ne_eqb k 0 (λ q. omega (arith, q, p.0)), ne_eqb k 4294967295 (λ q. omega (arith, q, p.1)))

pub entry-walks : (e m : ℕ) → EntryIn e m → entry_ok e m ≡ true
unfolding entry_ok
entry-walks e m p = simp (ne_eqb e 0 (λ q. omega (arith, q, p.0)), le-leb e m p.1)

-- Between 2 and 3.
walking : (x : Session) → 2 ≤ x.stage → x.stage ≤ 3 → Walking x
walking x a b = go (ℕ_discrete x.stage 2)
  where
    go : Dec (x.stage ≡ 2) → Walking x
    go (yes e) = inl e
    go (no n) = inr (omega (arith, n, a, b))

pub walking-range : (x : Session) → Walking x → (2 ≤ x.stage) × (x.stage ≤ 3)
walking-range x (inl e) = (omega (arith, e), omega (arith, e))
walking-range x (inr e) = (omega (arith, e), omega (arith, e))

-- ---- each kind of request

module _ (x : Session) (m : ℕ) (some : ¬ (x.stage ≡ 0)) where
  value_found : value_ok x m ≡ true → 1 ≤ x.code → x.code ≤ 2 → Value x m
  unfolding value_ok
  value_found e a b =
      let p = both (entry_ok x.entry m) (eqb x.stage 1) e in
      record { least = a; most = b; entry = entry_in x.entry m p.0; stage = eqb-true x.stage 1 p.1 }

  value-walks : Value x m → value_ok x m ≡ true
  unfolding value_ok
  value-walks v = simp (entry-walks x.entry m v.entry, eq-eqb x.stage 1 v.stage)

  change-found : x.first ≤ top → change_ok x m ≡ true → 3 ≤ x.code → x.code ≤ 4 → Change x m
  unfolding change_ok
  change-found w e a b =
      let p = both (entry_ok x.entry m && key_ok x.first && leb x.stage 4) _ e in
      let q = both (entry_ok x.entry m && key_ok x.first) (leb x.stage 4) p.0 in
      let u = both (entry_ok x.entry m) (key_ok x.first) q.0 in
      record {
        least = a;
        most = b;
        entry = entry_in x.entry m u.0;
        key = key-found x.first w u.1;
        stands = go (leb-true x.stage 4 q.1) (ℕ_discrete x.stage 1) (ℕ_discrete x.stage 4) (some_of (eqb x.stage 1 || eqb x.stage 4) (eqb x.target x.first) p.1);
      }
    where
      none_of : ¬ (x.stage ≡ 1) → ¬ (x.stage ≡ 4) → (eqb x.stage 1 || eqb x.stage 4) ≡ false
      none_of n k = simp (ne_eqb x.stage 1 n, ne_eqb x.stage 4 k)

      go : x.stage ≤ 4 → Dec (x.stage ≡ 1) → Dec (x.stage ≡ 4) → ((eqb x.stage 1 || eqb x.stage 4) ≡ true) ⊎ (eqb x.target x.first ≡ true) → ChangeStage x
      go h (yes q) d o = inl q
      go h (no n) (yes q) o = inr (inl q)
      go h (no n) (no k) (inl o) = never (sym (none_of n k) ∙ o)
      go h (no n) (no k) (inr o) = inr (inr (walking x (omega (arith, n, some)) (omega (arith, k, h)), eqb-true x.target x.first o))

  change-walks : Change x m → change_ok x m ≡ true
  unfolding change_ok
  change-walks c =
      both-are (entry_ok x.entry m && key_ok x.first && leb x.stage 4) _
      (simp (entry-walks x.entry m c.entry, key_walks x.first c.key, le-leb x.stage 4 (few c.stands))) (stage c.stands)
    where
      few : ChangeStage x → x.stage ≤ 4
      few (inl e) = omega (arith, e)
      few (inr (inl e)) = omega (arith, e)
      few (inr (inr e)) = omega (arith, (walking-range x e.0).1)

      stage : ChangeStage x → (eqb x.stage 1 || eqb x.stage 4 || eqb x.target x.first) ≡ true
      stage (inl e) = first_of (eqb x.stage 1 || eqb x.stage 4) _ (first_of (eqb x.stage 1) _ (eq-eqb x.stage 1 e))
      stage (inr (inl e)) = first_of (eqb x.stage 1 || eqb x.stage 4) _ (second-of (eqb x.stage 1) _ (eq-eqb x.stage 4 e))
      stage (inr (inr e)) = second-of (eqb x.stage 1 || eqb x.stage 4) _ (eq-eqb x.target x.first e.1)

  stage-found : locate_stage x ≡ true → LocateStage x
  unfolding locate_stage
  stage-found e = go (which (eqb x.stage 5) _ _ e)
    where
      last : (eqb x.last 0 ≡ true) ⊎ ((leb x.first x.last && ltb x.last x.second) ≡ true) → Last x
      last (inl q) = inl (eqb-true x.last 0 q)
      last (inr q) = let p = both (leb x.first x.last) (ltb x.last x.second) q in inr (leb-true x.first x.last p.0, ltb-true x.last x.second p.1)

      target : (eqb x.target x.first ≡ true) ⊎ (eqb x.target x.second ≡ true) → (x.target ≡ x.first) ⊎ (x.target ≡ x.second)
      target (inl q) = inl (eqb-true x.target x.first q)
      target (inr q) = inr (eqb-true x.target x.second q)

      go : ((eqb x.stage 5 ≡ true) × ((eqb x.last 0 || (leb x.first x.last && ltb x.last x.second)) ≡ true))
          ⊎ ((eqb x.stage 5 ≡ false) × ((leb 2 x.stage && leb x.stage 3 && (eqb x.target x.first || eqb x.target x.second)) ≡ true))
          → LocateStage x
      go (inl q) = inl (eqb-true x.stage 5 q.0, last (some_of (eqb x.last 0) _ q.1))
      go (inr q) =
          let p = both (leb 2 x.stage && leb x.stage 3) (eqb x.target x.first || eqb x.target x.second) q.1 in
          let u = both (leb 2 x.stage) (leb x.stage 3) p.0 in
          inr (walking x (leb-true 2 x.stage u.0) (leb-true x.stage 3 u.1), target (some_of (eqb x.target x.first) _ p.1))

  stage-walks : LocateStage x → locate_stage x ≡ true
  unfolding locate_stage
  stage-walks (inl q) = simp (eq-eqb x.stage 5 q.0) (last q.1)
    where
      last : Last x → (eqb x.last 0 || (leb x.first x.last && ltb x.last x.second)) ≡ true
      last (inl e) = first_of (eqb x.last 0) _ (eq-eqb x.last 0 e)
      last (inr e) = second-of (eqb x.last 0) _ (simp (le-leb x.first x.last e.0, lt-ltb x.last x.second e.1))
  stage-walks (inr q) =
      let g = walking-range x q.0 in
      simp (ne_eqb x.stage 5 (λ e. omega (arith, e, g.1)), le-leb 2 x.stage g.0, le-leb x.stage 3 g.1) (target q.1)
    where
      target : (x.target ≡ x.first) ⊎ (x.target ≡ x.second) → (eqb x.target x.first || eqb x.target x.second) ≡ true
      target (inl e) = first_of (eqb x.target x.first) _ (eq-eqb x.target x.first e)
      target (inr e) = second-of (eqb x.target x.first) _ (eq-eqb x.target x.second e)

  locate-found : x.first ≤ top → x.second ≤ top → locate_ok x ≡ true → x.code ≡ 5 → Locate x
  unfolding locate_ok
  locate-found v w e c =
      let p = both (key_ok x.first && key_ok x.second && leb x.first x.second) (locate_stage x) e in
      let q = both (key_ok x.first && key_ok x.second) (leb x.first x.second) p.0 in
      let u = both (key_ok x.first) (key_ok x.second) q.0 in
      record { code = c; first = key-found x.first v u.0; second = key-found x.second w u.1; order = leb-true x.first x.second q.1; stands = stage-found p.1 }

  locate-walks : Locate x → locate_ok x ≡ true
  unfolding locate_ok
  locate-walks l =
      simp (key_walks x.first l.first, key_walks x.second l.second, le-leb x.first x.second l.order, stage-walks l.stands)

  tidy-found : tidy_ok x ≡ true → Tidy x
  unfolding tidy_ok
  tidy-found e = let p = both (eqb x.code 6) _ e in record { code = eqb-true x.code 6 p.0; stands = go (ℕ_discrete x.stage 1) (some_of (eqb x.stage 1) _ p.1) }
    where
      go : Dec (x.stage ≡ 1) → (eqb x.stage 1 ≡ true) ⊎ ((leb x.stage 3 && ltb x.first x.target) ≡ true) → TidyStage x
      go (yes q) o = inl q
      go (no n) (inl o) = inl (eqb-true x.stage 1 o)
      go (no n) (inr o) =
          let p = both (leb x.stage 3) (ltb x.first x.target) o in
          inr (walking x (omega (arith, n, some)) (leb-true x.stage 3 p.0), ltb-true x.first x.target p.1)

  tidy-walks : Tidy x → tidy_ok x ≡ true
  unfolding tidy_ok
  tidy-walks d = simp (eq-eqb x.code 6 d.code) (go d.stands)
    where
      go : TidyStage x → (eqb x.stage 1 || (leb x.stage 3 && ltb x.first x.target)) ≡ true
      go (inl e) = first_of (eqb x.stage 1) _ (eq-eqb x.stage 1 e)
      go (inr e) = second-of (eqb x.stage 1) _ (simp (le-leb x.stage 3 (walking-range x e.0).1, lt-ltb x.first x.target e.1))

-- ---- the request in hand

module _ (p : ℕ) (x : Session) (m : ℕ) (some : ¬ (x.stage ≡ 0)) where
  code-found : ¬ (p ≡ 0) → x.first ≤ top → x.second ≤ top → code_ok x m ≡ true → Asks p x m
  unfolding code_ok
  code-found np v w e = zero? (which (eqb x.code 0) _ _ e)
    where
      locate? : 4 < x.code → ((eqb x.code 5 ≡ true) × (locate_ok x ≡ true)) ⊎ ((eqb x.code 5 ≡ false) × (false ≡ true)) → Asks p x m
      locate? n (inl q) = asks_locate np (locate-found x m some v w q.1 (eqb-true x.code 5 q.0))
      locate? n (inr q) = never q.1

      change? : 2 < x.code → ((leb x.code 4 ≡ true) × (change_ok x m ≡ true)) ⊎ ((leb x.code 4 ≡ false) × (cond (eqb x.code 5) (locate_ok x) false ≡ true)) → Asks p x m
      change? n (inl q) = asks_change np (change-found x m some v q.1 n (leb-true x.code 4 q.0))
      change? n (inr q) = locate? (leb-false x.code 4 q.0) (which (eqb x.code 5) _ _ q.1)

      value? : ¬ (x.code ≡ 0) → ((leb x.code 2 ≡ true) × (value_ok x m ≡ true))
          ⊎ ((leb x.code 2 ≡ false) × (cond (leb x.code 4) (change_ok x m) (cond (eqb x.code 5) (locate_ok x) false) ≡ true)) → Asks p x m
      value? n (inl q) = asks_value np (value_found x m some q.1 (omega (arith, n)) (leb-true x.code 2 q.0))
      value? n (inr q) = change? (leb-false x.code 2 q.0) (which (leb x.code 4) _ _ q.1)

      zero? : ((eqb x.code 0 ≡ true) × (false ≡ true))
          ⊎ ((eqb x.code 0 ≡ false) × (cond (leb x.code 2) (value_ok x m) (cond (leb x.code 4) (change_ok x m) (cond (eqb x.code 5) (locate_ok x) false)) ≡ true)) → Asks p x m
      zero? (inl q) = never q.1
      zero? (inr q) = value? (eqb-false x.code 0 q.0) (which (leb x.code 2) _ _ q.1)

  code-walks : ¬ (p ≡ 0) → Asks p x m → code_ok x m ≡ true
  unfolding code_ok
  code-walks np (asks_value n v) =
      simp (ne_eqb x.code 0 (λ q. omega (arith, q, v.least)), le-leb x.code 2 v.most) (value-walks x m some v)
  code-walks np (asks_change n c) =
      simp (ne_eqb x.code 0 (λ q. omega (arith, q, c.least)), lt-leb x.code 2 c.least, le-leb x.code 4 c.most) (change-walks x m some c)
  code-walks np (asks_locate n l) =
      let e = l.code in
      simp (ne_eqb x.code 0 (λ q. omega (arith, q, e)), lt-leb x.code 2 (omega (arith, e)), lt-leb x.code 4 (omega (arith, e)), eq-eqb x.code 5 e) (locate-walks x m some l)
  code-walks np (asks_tidy e d) = absurd (np e)

  pub request-found : x.first ≤ top → x.second ≤ top → request_ok p x m ≡ true → Asks p x m × (¬ (p ≡ 0) → ¬ (x.begun ≡ 0))
  unfolding request_ok
  request-found v w e = go (some_of (eqb x.stage 0) _ e)
    where
      party : ((eqb p 0 ≡ true) × (tidy_ok x ≡ true)) ⊎ ((eqb p 0 ≡ false) × ((not (eqb x.begun 0) && code_ok x m) ≡ true)) → Asks p x m × (¬ (p ≡ 0) → ¬ (x.begun ≡ 0))
      party (inl q) = let z = eqb-true p 0 q.0 in (asks_tidy z (tidy-found x m some q.1), λ n. absurd (n z))
      party (inr q) =
          let b = both (not (eqb x.begun 0)) (code_ok x m) q.1 in
          (code-found (eqb-false p 0 q.0) v w b.1, λ n. eqb-false x.begun 0 (not-true _ b.0))

      go : (eqb x.stage 0 ≡ true) ⊎ (cond (eqb p 0) (tidy_ok x) (not (eqb x.begun 0) && code_ok x m) ≡ true) → Asks p x m × (¬ (p ≡ 0) → ¬ (x.begun ≡ 0))
      go (inl q) = absurd (some (eqb-true x.stage 0 q))
      go (inr q) = party (which (eqb p 0) _ _ q)

  pub request-walks : Asks p x m → (¬ (p ≡ 0) → ¬ (x.begun ≡ 0)) → request_ok p x m ≡ true
  unfolding request_ok
  request-walks a b = second-of (eqb x.stage 0) _ (go (ℕ_discrete p 0) a)
    where
      go : Dec (p ≡ 0) → Asks p x m → cond (eqb p 0) (tidy_ok x) (not (eqb x.begun 0) && code_ok x m) ≡ true
      go (yes z) (asks_value n v) = absurd (n z)
      go (yes z) (asks_change n v) = absurd (n z)
      go (yes z) (asks_locate n v) = absurd (n z)
      go (yes z) (asks_tidy e d) = simp (eq-eqb p 0 z) (tidy-walks x m some d)
      go (no n) o = simp (ne_eqb p 0 n, ne_eqb x.begun 0 (b n)) (code-walks n o)
