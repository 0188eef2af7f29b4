-- Ranks: of a list of sessions, how many that are begun have a lower number.
use Rattle.std.specs.Prelude.{◌≡◌, refl, Bool, true, false, cond, ◌&&◌, List, [], ◌∷◌, map, ◌⊎◌, zero, suc, ◌+◌, ◌≤◌, ◌<◌, ℕ, leb, ltb, length, get_or, set}
use Rattle.std.proofs.Common.{sym, ◌∙◌, ap, inl, inr, arith}
use Rattle.std.proofs.Math.Decide.{ℕ_discrete}
use Rattle.serial.specs.Serial.{true≢false}
use Rattle.machine.specs.Logic.{leb_yes, leb_no, leb-is, leb-not}
use Rattle.machine.specs.State.{Session, idle}
use Rattle.machine.specs.Calls.{earlier, begun_many}

-- ---- more, by a higher number

-- A session in front of the list.
cons-more : (t : Session) (l : List Session) (m n k : ℕ) → m ≤ n → k + earlier m l ≤ earlier n l → k + earlier m (t ∷ l) ≤ earlier n (t ∷ l)
unfolding earlier
cons-more t l m n k h i = go t.begun (ltb t.order m) refl (ltb t.order n) refl
  where
    go : (b x : Bool) → ltb t.order m ≡ x → (y : Bool) → ltb t.order n ≡ y → k + cond (b && x) (suc (earlier m l)) (earlier m l) ≤ cond (b && y) (suc (earlier n l)) (earlier n l)
    go false x e y f = i
    go true true e true f = omega (arith, i)
    go true true e false f = absurd (omega (arith, h, leb-is (suc t.order) m e, leb-not (suc t.order) n f))
    go true false e true f = omega (arith, i)
    go true false e false f = i

pub earlier_more : (m n : ℕ) (l : List Session) → m ≤ n → earlier m l ≤ earlier n l
unfolding earlier
earlier_more m n [] h = omega arith
earlier_more m n (t ∷ l) h = let i = cons-more t l m n 0 h (let j = earlier_more m n l h in omega arith) in omega arith

-- One more at least, if a begun session has the lower number.
pub earlier-below : (l : List Session) (q n : ℕ) → (get_or l q idle).begun ≡ true → (get_or l q idle).order < n → suc (earlier (get_or l q idle).order l) ≤ earlier n l
unfolding earlier
earlier-below [] q n b h = absurd (true≢false b refl)
earlier-below (t ∷ l) zero n b h = rw (b, leb_no (suc t.order) t.order (omega arith), leb_yes (suc t.order) n h) (omega (arith, earlier_more t.order n l (omega (arith, h))))
earlier-below (t ∷ l) (suc q) n b h =
    let o = (get_or l q idle).order in
    let i = cons-more t l o n 1 (omega (arith, h)) (let j = earlier-below l q n b h in omega arith) in
    omega arith

-- ---- all that are begun

pub earlier-most : (n : ℕ) (l : List Session) → earlier n l ≤ begun_many l
unfolding earlier begun_many
earlier-most n [] = omega arith
earlier-most n (t ∷ l) = go t.begun (ltb t.order n) (earlier-most n l)
  where
    go : (b x : Bool) → earlier n l ≤ begun_many l → cond (b && x) (suc (earlier n l)) (earlier n l) ≤ cond b (suc (begun_many l)) (begun_many l)
    go false x i = i
    go true true i = omega (arith, i)
    go true false i = omega (arith, i)

-- A begun session's rank is at most their number.
pub rank_most : (l : List Session) (q : ℕ) → (get_or l q idle).begun ≡ true → suc (earlier (get_or l q idle).order l) ≤ begun_many l
rank_most l q b =
    let o = (get_or l q idle).order in
    omega (arith, earlier-below l q (suc o) b (omega arith), earlier-most (suc o) l)

-- Some number is above all.
earlier-all : (l : List Session) → (n : ℕ) × (earlier n l ≡ begun_many l)
unfolding earlier begun_many
earlier-all [] = (0, refl)
earlier-all (t ∷ l) = let r = earlier-all l in let n = suc t.order + r.0 in (n, rw (leb_yes (suc t.order) n (omega arith)) (go t.begun n (same r n (omega arith))))
  where
    same : (r : (n : ℕ) × (earlier n l ≡ begun_many l)) (n : ℕ) → r.0 ≤ n → earlier n l ≡ begun_many l
    same r n h = omega (arith, earlier_more r.0 n l h, earlier-most n l, r.1)

    go : (b : Bool) (n : ℕ) → earlier n l ≡ begun_many l → cond (b && true) (suc (earlier n l)) (earlier n l) ≡ cond b (suc (begun_many l)) (begun_many l)
    go true n e = ap suc e
    go false n e = e

-- ---- every rank is met

-- No two begun sessions of the list share a number.
abbrev pub Apart : List Session → Type 0
Apart l = (p q : ℕ) → (get_or l p idle).begun ≡ true → (get_or l q idle).begun ≡ true → (get_or l p idle).order ≡ (get_or l q idle).order → p ≡ q

apart-rest : (t : Session) (l : List Session) → Apart (t ∷ l) → Apart l
apart-rest t l A p q u v e = omega (arith, A (suc p) (suc q) u v e)

-- Numbers below n, and n itself.
abbrev AtMost : ℕ → Session → List Session → Type 0
AtMost n t l = earlier (suc n) (t ∷ l) ≡ cond (t.begun && ltb t.order n) (suc (earlier (suc n) l)) (earlier (suc n) l)

head-alike : (n : ℕ) (t : Session) (l : List Session) → (t.begun ≡ true → ¬ (t.order ≡ n)) → AtMost n t l
unfolding earlier
head-alike n t l h = go t.begun refl (ltb t.order n) refl (ltb t.order (suc n)) refl
  where
    e : ℕ
    e = earlier (suc n) l

    go : (b : Bool) → t.begun ≡ b → (x : Bool) → ltb t.order n ≡ x → (y : Bool) → ltb t.order (suc n) ≡ y → cond (b && y) (suc e) e ≡ cond (b && x) (suc e) e
    go false b x u y v = refl
    go true b true u true v = refl
    go true b true u false v = absurd (omega (arith, leb-is (suc t.order) n u, leb-not (suc t.order) (suc n) v))
    go true b false u true v = let k = h b in absurd (omega (arith, k, leb-not (suc t.order) n u, leb-is (suc t.order) (suc n) v))
    go true b false u false v = refl

none-at : (n : ℕ) (l : List Session) → ((q : ℕ) → (get_or l q idle).begun ≡ true → ¬ ((get_or l q idle).order ≡ n)) → earlier (suc n) l ≡ earlier n l
unfolding earlier
none-at n [] h = refl
none-at n (t ∷ l) h = head-alike n t l (h 0) ∙ ap (λ e. cond (t.begun && ltb t.order n) (suc e) e) (none-at n l (λ q. h (suc q)))

-- A begun session has number n, or none has.
pub record Has (n : ℕ) (l : List Session) : Type 0 where
  pub who : ℕ
  pub begun : (get_or l who idle).begun ≡ true
  pub number : (get_or l who idle).order ≡ n
  pub counts : earlier (suc n) l ≡ suc (earlier n l)

one_at : (n : ℕ) (l : List Session) → Apart l → (earlier (suc n) l ≡ earlier n l) ⊎ Has n l
unfolding earlier
one_at n [] A = inl refl
one_at n (t ∷ l) A = go t.begun refl (ℕ_discrete t.order n) (one_at n l (apart-rest t l A))
  where
    counted : Bool
    counted = t.begun && ltb t.order n

    later : (b : Bool) (e : ℕ) → cond b (suc (suc e)) (suc e) ≡ suc (cond b (suc e) e)
    later true e = refl
    later false e = refl

    rest : AtMost n t l → (earlier (suc n) l ≡ earlier n l) ⊎ Has n l → (earlier (suc n) (t ∷ l) ≡ earlier n (t ∷ l)) ⊎ Has n (t ∷ l)
    rest a (inl e) = inl (a ∙ ap (λ k. cond counted (suc k) k) e)
    rest a (inr H) = inr (record {
      who = suc H.who;
      begun = H.begun;
      number = H.number;
      counts = a ∙ ap (λ k. cond counted (suc k) k) H.counts ∙ later counted (earlier n l);
    })

    here : t.begun ≡ true → t.order ≡ n → Has n (t ∷ l)
    here b e = record {
      who = 0;
      begun = b;
      number = e;
      counts = rw (b, leb_yes (suc t.order) (suc n) (omega (arith, e)), leb_no (suc t.order) n (omega (arith, e)))
          (ap suc (none-at n l (λ q u v. let z = A 0 (suc q) b u (e ∙ sym v) in omega (arith, z))));
    }

    go : (b : Bool) → t.begun ≡ b → Dec (t.order ≡ n) → (earlier (suc n) l ≡ earlier n l) ⊎ Has n l → (earlier (suc n) (t ∷ l) ≡ earlier n (t ∷ l)) ⊎ Has n (t ∷ l)
    go true b (yes e) r = inr (here b e)
    go true b (no m) r = rest (head-alike n t l (λ _. m)) r
    go false b d r = rest (head-alike n t l (λ c. absurd (true≢false c b))) r

earlier-none : (l : List Session) → earlier 0 l ≡ 0
unfolding earlier
earlier-none [] = refl
earlier-none (t ∷ l) = rw (leb_no (suc t.order) 0 (omega arith)) (go t.begun (earlier-none l))
  where
    go : (b : Bool) → earlier 0 l ≡ 0 → cond (b && false) (suc (earlier 0 l)) (earlier 0 l) ≡ 0
    go true e = e
    go false e = e

-- A begun session before which just k began.
pub record Ranked (k : ℕ) (l : List Session) : Type 0 where
  pub who : ℕ
  pub begun : (get_or l who idle).begun ≡ true
  pub rank : earlier (get_or l who idle).order l ≡ k

met-below : (n k : ℕ) (l : List Session) → Apart l → k < earlier n l → Ranked k l
met-below zero k l A h = absurd (omega (arith, h, earlier-none l))
met-below (suc n) k l A h = go (met-below n k l A) (one_at n l A) (leb (suc k) (earlier n l)) refl
  where
    found : Has n l → earlier n l ≤ k → Ranked k l
    found H i = record { who = H.who; begun = H.begun; rank = ap (λ o. earlier o l) H.number ∙ (let c = H.counts in omega arith) }

    go : (k < earlier n l → Ranked k l) → (earlier (suc n) l ≡ earlier n l) ⊎ Has n l → (b : Bool) → leb (suc k) (earlier n l) ≡ b → Ranked k l
    go rest (inl e) b w = rest (omega (arith, h, e))
    go rest (inr H) true w = rest (leb-is (suc k) (earlier n l) w)
    go rest (inr H) false w = found H (let j = leb-not (suc k) (earlier n l) w in omega arith)

pub rank-met : (k : ℕ) (l : List Session) → Apart l → k < begun_many l → Ranked k l
rank-met k l A h = let r = earlier-all l in met-below r.0 k l A (omega (arith, h, r.1))

-- ---- how many are begun, after a change

pub begun-map : (f : Session → Session) → ((x : Session) → (f x).begun ≡ x.begun) → (l : List Session) → begun_many (map f l) ≡ begun_many l
unfolding begun_many
begun-map f e [] = refl
begun-map f e (t ∷ l) = ap (λ b. cond b (suc (begun_many (map f l))) (begun_many (map f l))) (e t) ∙ ap (λ n. cond t.begun (suc n) n) (begun-map f e l)

pub begun-set : (l : List Session) (p : ℕ) (x : Session) → p < length l → (get_or l p idle).begun ≡ false → x.begun ≡ true → begun_many (set l p x) ≡ suc (begun_many l)
unfolding begun_many
begun-set [] p x h u v = absurd (omega (arith, h))
begun-set (t ∷ l) zero x h u v = rw (u, v) refl
begun-set (t ∷ l) (suc p) x h u v = ap (λ n. cond t.begun (suc n) n) (begun-set l p x (omega (arith, h)) u v) ∙ later t.begun (begun_many l)
  where
    later : (b : Bool) (e : ℕ) → cond b (suc (suc e)) (suc e) ≡ suc (cond b (suc e) e)
    later true e = refl
    later false e = refl
