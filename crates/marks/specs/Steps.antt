-- Lemmas of the tests: what one that passes tells, and the two ways of meeting a record.
use Rattle.std.specs.Prelude.{◌≡◌, refl, Result, Ok, Err, List, Bool, true, false, not, ◌&&◌, ℕ, suc, ◌-◌, ◌≤◌, eqb, leb, set}
use Rattle.std.proofs.Common.{ap, ◌∙◌, arith, leb-true}
use Rattle.std.proofs.lemmas.Bool.{eqb-false, not-true}
use Rattle.words.specs.Store.{HasRecord}
use Rattle.words.specs.Entries.{HasEntry}
use Rattle.marks.specs.Marks.{HasRecords, Visit, start, is_new, meet, left_if, Says, Met, is_met, entry_ok}

pub no : {A : Type 0} → ◌≡◌ {A = Bool} false true → A
no e = let z : ◌≡◌ {A = ℕ} 0 1 = cc in absurd (omega arith)

-- an answer is not Err and Ok at once
pub err-ok : {A E : Type 0} {e : E} {x : A} → ◌≡◌ {A = Result A E} (Err e) (Ok x) → ⊥
err-ok q = no cc

-- both of two tests pass
pub both : (a b : Bool) → (a && b) ≡ true → (a ≡ true) × (b ≡ true)
both true b e = (refl, e)
both false b e = no e

-- ---- numbers in range

from_one : (k n : ℕ) → not (eqb k 0) ≡ true → leb k n ≡ true → (1 ≤ k) × (k ≤ n)
from_one k n e h = let z : k ≡ 0 → ⊥ = eqb-false k 0 (not-true _ e) in (omega arith, leb-true k n h)

pub met-in : (seen : List ℕ) (r i k : ℕ) → is_met seen r i k ≡ true → (1 ≤ i) × (i ≤ r)
unfolding is_met
met-in seen r i k e =
    let p = both (not (eqb i 0)) (leb i r) (both (not (eqb i 0) && leb i r) _ e).0 in from_one i r p.0 p.1

pub entry_in : (e m : ℕ) → entry_ok e m ≡ true → (1 ≤ e) × (e ≤ m)
unfolding entry_ok
entry_in e m h = let p = both (not (eqb e 0)) (leb e m) h in from_one e m p.0 p.1

pub has_one : {s : List ℕ} {m r i : ℕ} → HasRecords s m r → (1 ≤ i) × (i ≤ r) → HasRecord s m i
has_one h k =
    let a = k.0 in
    let b = k.1 in
    let e = h.entries in
    let l = h.records in
    let n = h.inside in record { entries = e; first = a; last = omega arith; inside = omega arith }

pub has-entry : {s : List ℕ} {m r e : ℕ} → HasRecords s m r → (1 ≤ e) × (e ≤ m) → HasEntry s e
has-entry h b =
    let a = b.0 in
    let c = b.1 in
    let e = h.entries in
    let n = h.inside in record { first = a; last = omega arith; inside = omega arith }

-- ---- meeting a record

said : {v : Visit} {b : Bool} {n : ℕ} {seen : List ℕ} → record { ok = b; left = n; seen = seen } ≡ v → Says v (left_if b n) seen
said e = record { left = ap (λ (v : Visit). left_if v.ok v.left) e; marks = ap (λ (v : Visit). v.seen) e }

-- what may be met is some record, and not the last that may be
pub new_in : (seen : List ℕ) (r i left : ℕ) → is_new seen r i left ≡ true → (1 ≤ i) × (i ≤ r) × (left ≡ suc (left - 1))
unfolding is_new
new_in seen r i left e =
    let p = (both (not (eqb left 0) && not (eqb i 0) && leb i r) _ e).0 in
    let q = both (not (eqb left 0) && not (eqb i 0)) (leb i r) p in
    let a = both (not (eqb left 0)) (not (eqb i 0)) q.0 in
    let b = from_one i r a.1 q.1 in
    let n : left ≡ 0 → ⊥ = eqb-false left 0 (not-true _ a.0) in (b.0, b.1, omega arith)

module _ (r kind left : ℕ) (seen : List ℕ) (i : ℕ) where
  pub met-not : is_new seen r i left ≡ false → Met r i left (meet r kind (start left seen) i) (Err left) seen
  unfolding meet
  met-not e = record { says = said {b = false} {n = left} (simp e); inside = λ n o. absurd (err-ok o); one = λ n o. absurd (err-ok o) }

  pub met-new : is_new seen r i left ≡ true → Met r i left (meet r kind (start left seen) i) (Ok (left - 1)) (set seen i kind)
  unfolding meet
  met-new e =
      let n = new_in seen r i left e in
      record {
        says = said {b = true} {n = left - 1} (simp e);
        inside = λ k o. (n.0, n.1);
        one = λ k o. let z : left - 1 ≡ k = cc in n.2 ∙ ap suc z;
      }
