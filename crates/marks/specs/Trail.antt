-- A walk along a chain of records that meets each and keeps something beside: one definition and its turns, for every chain.
use Rattle.std.proofs.Math.Path.{◌≡◌, refl, sym, ap}
use Rattle.std.proofs.Common.{◌∙◌, eq-eqb, ne_eqb}
use Rattle.std.specs.Prelude.{Result, Ok, Err, List, Bool, cond, eqb}
use Rattle.std.proofs.Math.Bool.{true, false}
use Prim.Native.Nat.{ℕ, zero, suc}
use native.Mathlib.Omega.{arith}
use Rattle.marks.specs.Marks.{Visit, start, is_new, meet, left_if, Says, Met}
use Rattle.marks.specs.Steps.{err-ok}

-- ---- a turn, and then more

-- what is done at one place: whether it is in order, and what is kept then
pub record Turn (A : Type 0) : Type 0 where
  pub ok : Bool
  pub held : A

abbrev pub turn : {A : Type 0} → Bool → A → Turn A
turn b a = record { ok = b; held = a }

-- a turn, and the next one if it is in order
abbrev pub then_turn : {A : Type 0} → Turn A → (A → Turn A) → Turn A
then_turn t g = cond t.ok (g t.held) t

-- what a function answers and leaves is what the turn says
pub record Turned (v : Turn (List ℕ)) (b : Bool) (l : List ℕ) : Type 0 where
  pub ok : b ≡ v.ok
  pub held : l ≡ v.held

pub turned : {v : Turn (List ℕ)} {b : Bool} {l : List ℕ} → turn b l ≡ v → Turned v b l
turned e = record { ok = ap (λ (v : Turn (List ℕ)). v.ok) e; held = ap (λ (v : Turn (List ℕ)). v.held) e }

pub turned_as : {v : Turn (List ℕ)} {b c : Bool} {l : List ℕ} → Turned v b l → b ≡ c → v ≡ turn c l
turned_as {v} {b} {c} {l} t o = sym (ap (λ (x : Bool). turn x l) (sym o ∙ t.ok) ∙ ap (turn v.ok) t.held)

pub turned-to : {u v : Turn (List ℕ)} {b : Bool} {l : List ℕ} → Turned u b l → v ≡ u → Turned v b l
turned-to t e = rw e t

-- ---- a chain

-- how a walk ends: whether all is in order, how many records may still be met, the marks, and what was kept
pub record Trail (A : Type 0) : Type 0 where
  pub ok : Bool
  pub left : ℕ
  pub seen : List ℕ
  pub held : A

abbrev pub ends : {A : Type 0} → Bool → ℕ → List ℕ → A → Trail A
ends b n seen a = record { ok = b; left = n; seen = seen; held = a }

-- a walk, and the next one if it is in order
abbrev pub then_trail : {A : Type 0} → Trail A → (Trail A → Trail A) → Trail A
then_trail v g = cond v.ok (g v) v

-- after a record was met: the turn, and then the rest
unfoldable pub after : {A : Type 0} → (List ℕ → A → ℕ → Turn A) → (List ℕ → A → Trail A) → Visit → A → ℕ → Trail A
after f rest v a i =
    cond v.ok
    (cond (f v.seen a i).ok (rest v.seen (f v.seen a i).held) (ends false v.left v.seen (f v.seen a i).held))
    (ends false v.left v.seen a)

-- from record i, with at most `left` records still to be met, each as one of a kind; 0 ends the chain
unfoldable pub chain_of : {A : Type 0} → (ℕ → ℕ) → ℕ → ℕ → (List ℕ → A → ℕ → Turn A) → List ℕ → A → ℕ → ℕ → Trail A
chain_of next r kind f seen a i zero = ends (eqb i 0) 0 seen a
chain_of next r kind f seen a i (suc n) =
    cond (eqb i 0) (ends true (suc n) seen a)
    (after f (λ s b. chain_of next r kind f s b (next i) n) (meet r kind (start (suc n) seen) i) a i)

-- what a function answers and leaves is what the walk says
pub record Ends (A : Type 0) (v : Trail A) (w : Result ℕ ℕ) (seen : List ℕ) (a : A) : Type 0 where
  pub left : w ≡ left_if v.ok v.left
  pub marks : seen ≡ v.seen
  pub held : a ≡ v.held

pub ended-as : {A : Type 0} {v : Trail A} {b : Bool} {n : ℕ} {seen : List ℕ} {a : A} → ends b n seen a ≡ v → Ends A v (left_if b n) seen a
ended-as {A} e =
    record {
      left = ap (λ (v : Trail A). left_if v.ok v.left) e;
      marks = ap (λ (v : Trail A). v.seen) e;
      held = ap (λ (v : Trail A). v.held) e;
    }

-- what an answer tells whose value is the same in both cases: whether all is in order, and the value
pub ok-of : {A : Type 0} (b : Bool) (x y : A) {w : Result A A} → w ≡ cond b (Ok x) (Err x) → w ≡ Ok y → (b ≡ true) × (x ≡ y)
ok-of true x y e o = (refl, cc)
ok-of false x y e o = absurd (err-ok (sym e ∙ o))

pub err-of : {A : Type 0} (b : Bool) (x y : A) {w : Result A A} → w ≡ cond b (Ok x) (Err x) → w ≡ Err y → (b ≡ false) × (x ≡ y)
err-of true x y e o = absurd (err-ok (sym o ∙ e))
err-of false x y e o = (refl, cc)

trail-of : {A : Type 0} {v : Trail A} {w : Result ℕ ℕ} {b : Bool} {n : ℕ} {seen : List ℕ} {a : A} → Ends A v w seen a → (v.ok ≡ b) × (v.left ≡ n) → v ≡ ends b n seen a
trail-of {A} {v} {w} {b} {n} {seen} {a} k t =
    ap (λ (x : Bool). ends x v.left v.seen v.held) t.0
    ∙ ap (λ (x : ℕ). ends b x v.seen v.held) t.1
    ∙ ap (λ (x : List ℕ). ends b n x v.held) (sym k.marks)
    ∙ ap (ends b n seen) (sym k.held)

pub trail-as : {A : Type 0} {v : Trail A} {w : Result ℕ ℕ} {n : ℕ} {seen : List ℕ} {a : A} → Ends A v w seen a → w ≡ Ok n → v ≡ ends true n seen a
trail-as {A} {v} {w} {n} k o = trail-of k (ok-of v.ok v.left n k.left o)

pub trail-err : {A : Type 0} {v : Trail A} {w : Result ℕ ℕ} {n : ℕ} {seen : List ℕ} {a : A} → Ends A v w seen a → w ≡ Err n → v ≡ ends false n seen a
trail-err {A} {v} {w} {n} k o = trail-of k (err-of v.ok v.left n k.left o)

pub to-ends : {A : Type 0} {u v : Trail A} {w : Result ℕ ℕ} {seen : List ℕ} {a : A} → Ends A u w seen a → v ≡ u → Ends A v w seen a
to-ends k e = rw e k

-- ---- the turns of a loop along a chain

-- what is left of a walk, done, gives the whole
pub record Going (A : Type 0) (whole : Trail A) (next : ℕ → ℕ) (r kind : ℕ) (f : List ℕ → A → ℕ → Turn A) (seen : List ℕ) (a : A) (i left : ℕ) : Type 0 where
  pub is : chain_of next r kind f seen a i left ≡ whole

abbrev visit : Bool → ℕ → List ℕ → Visit
visit b n seen = record { ok = b; left = n; seen = seen }

visit-of : {v : Visit} {w : Result ℕ ℕ} {b : Bool} {n : ℕ} {seen : List ℕ} → Says v w seen → (v.ok ≡ b) × (v.left ≡ n) → v ≡ visit b n seen
visit-of {v} {w} {b} {n} s t =
    ap (λ (x : Bool). visit x v.left v.seen) t.0 ∙ ap (λ (x : ℕ). visit b x v.seen) t.1 ∙ ap (visit b n) (sym s.marks)

pub visit-as : {v : Visit} {w : Result ℕ ℕ} {n : ℕ} {seen : List ℕ} → Says v w seen → w ≡ Ok n → v ≡ record { ok = true; left = n; seen = seen }
visit-as {v} {w} {n} s o = visit-of s (ok-of v.ok v.left n s.left o)

pub visit-err : {v : Visit} {w : Result ℕ ℕ} {n : ℕ} {seen : List ℕ} → Says v w seen → w ≡ Err n → v ≡ record { ok = false; left = n; seen = seen }
visit-err {v} {w} {n} s o = visit-of s (err-of v.ok v.left n s.left o)

meet-none : (r kind : ℕ) (seen : List ℕ) (i : ℕ) → meet r kind (start 0 seen) i ≡ record { ok = false; left = 0; seen = seen }
unfolding meet is_new
meet-none r kind seen i = refl

module _ {A : Type 0} {whole : Trail A} {next : ℕ → ℕ} {r kind : ℕ} {f : List ℕ → A → ℕ → Turn A} {seen : List ℕ} {a : A} {i : ℕ} where
  pub go-end : {left : ℕ} → Going A whole next r kind f seen a i left → i ≡ 0 → Ends A whole (Ok left) seen a
  unfolding chain_of
  go-end {left} g e = ended-as (sym (at-end left) ∙ g.is)
    where
      at-end : (k : ℕ) → chain_of next r kind f seen a i k ≡ ends true k seen a
      at-end zero = simp (eq-eqb i 0 e)
      at-end (suc k) = simp (eq-eqb i 0 e)

  pub go-stop : {left n : ℕ} {w : Result ℕ ℕ} {seen' : List ℕ} → Going A whole next r kind f seen a i left → (i ≡ 0 → ⊥)
      → Met r i left (meet r kind (start left seen) i) w seen' → w ≡ Err n → Ends A whole (Err n) seen' a
  unfolding chain_of after
  go-stop {left} {n} {w} {seen'} g ne k o = ended-as (sym (at-stop left (visit-err k.says o)) ∙ g.is)
    where
      at-stop : (l : ℕ) → meet r kind (start l seen) i ≡ record { ok = false; left = n; seen = seen' } → chain_of next r kind f seen a i l ≡ ends false n seen' a
      at-stop zero q =
          let u : ◌≡◌ {A = Visit} (record { ok = false; left = 0; seen = seen }) (record { ok = false; left = n; seen = seen' }) = sym (meet-none r kind seen i) ∙ q in
          simp (ne_eqb i 0 ne) (ap (λ (v : Visit). ends false v.left v.seen a) u)
      at-stop (suc l) q = simp (ne_eqb i 0 ne, q)

  pub go-bad : {left n : ℕ} {w : Result ℕ ℕ} {seen' : List ℕ} {a' : A} → Going A whole next r kind f seen a i left → (i ≡ 0 → ⊥)
      → Met r i left (meet r kind (start left seen) i) w seen' → w ≡ Ok n → f seen' a i ≡ turn false a' → Ends A whole (Err n) seen' a'
  unfolding chain_of after
  go-bad {left} {n} {w} {seen'} {a'} g ne k o t = ended-as (sym (at-bad left (k.one n o) (visit-as k.says o)) ∙ g.is)
    where
      at-bad : (l : ℕ) → l ≡ suc n → meet r kind (start l seen) i ≡ record { ok = true; left = n; seen = seen' } → chain_of next r kind f seen a i l ≡ ends false n seen' a'
      at-bad zero z q = absurd (omega arith)
      at-bad (suc l) z q = simp (ne_eqb i 0 ne, q, t)

  pub go-more : {left n : ℕ} {w : Result ℕ ℕ} {seen' : List ℕ} {a' : A} {j : ℕ} → Going A whole next r kind f seen a i left → (i ≡ 0 → ⊥)
      → Met r i left (meet r kind (start left seen) i) w seen' → w ≡ Ok n → f seen' a i ≡ turn true a' → j ≡ next i
      → Going A whole next r kind f seen' a' j n
  unfolding chain_of after
  go-more {left} {n} {w} {seen'} {a'} {j} g ne k o t e = record { is = sym (at_more left (k.one n o) (visit-as k.says o)) ∙ g.is }
    where
      at_more : (l : ℕ) → l ≡ suc n → meet r kind (start l seen) i ≡ record { ok = true; left = n; seen = seen' } → chain_of next r kind f seen a i l ≡ chain_of next r kind f seen' a' j n
      at_more zero z q = absurd (omega arith)
      at_more (suc l) z q =
          let y : l ≡ n = omega arith in
          let p : chain_of next r kind f seen a i (suc l) ≡ chain_of next r kind f seen' a' (next i) l = simp (ne_eqb i 0 ne, q, t) in
          p ∙ ap (λ (x : ℕ). chain_of next r kind f seen' a' x l) (sym e) ∙ ap (chain_of next r kind f seen' a' j) y
