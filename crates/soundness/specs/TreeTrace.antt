-- What a walk of the tree meets, in order, and what it leaves of that: once for a descriptor, a node and any run of them.
use Rattle.std.specs.Prelude.{◌≡◌, Bool, true, false, List, [], ◌∷◌, ◌++◌, ◌⊎◌, ℕ, zero, suc, ◌+◌, ◌-◌, ◌≤◌, ◌<◌, length, get_or, set}
use Rattle.std.proofs.Math.Path.{refl, sym}
use Rattle.std.proofs.Common.{ap, subst, ◌∙◌, inl, inr, length-set, get_or-set_same, get_or-set_other}
use native.Mathlib.Omega.{arith}
use Rattle.std.proofs.Math.ListN.{length-append}
use Rattle.words.specs.Store.{word_of}
use Rattle.meaning.specs.Reading.{Chained}
use Rattle.meaning.specs.Sound.{All}
use Rattle.marks.specs.Steps.{no}
use Rattle.tree_walk.specs.TreeWalk.{Tour, tour, then_tour}
use Rattle.soundness.specs.Marking.{Fresh, Among, fresh-none, fresh-left, fresh-right, fresh-append}

-- The records met, each with its kind; those of them that are descriptors; and how many nodes have a latch.
pub record Trace : Type 0 where
  pub marks : List (ℕ × ℕ)
  pub leaves : List ℕ
  pub latched : ℕ

abbrev pub join : Trace → Trace → Trace
join x y = record { marks = x.marks ++ y.marks; leaves = x.leaves ++ y.leaves; latched = x.latched + y.latched }

abbrev pub nothing : Trace
nothing = record { marks = []; leaves = []; latched = 0 }

-- ---- marks

-- The records of a list of marks.
abbrev pub nums : List (ℕ × ℕ) → List ℕ
nums [] = []
nums (p ∷ l) = p.0 ∷ nums l

abbrev pub mark_each : List ℕ → List (ℕ × ℕ) → List ℕ
mark_each seen [] = seen
mark_each seen (p ∷ l) = mark_each (set seen p.0 p.1) l

-- Each is among 1 to r and not marked when its turn comes.
abbrev pub Unmet : ℕ → List ℕ → List (ℕ × ℕ) → Type 0
Unmet r seen [] = Unit {0}
Unmet r seen (p ∷ l) = Fresh seen r (p.0 ∷ []) × Unmet r (set seen p.0 p.1) l

-- A kind is not 0.
abbrev pub Kinds : List (ℕ × ℕ) → Type 0
Kinds l = All (λ p. p.1 ≡ 0 → ⊥) l

pub nums-append : (a b : List (ℕ × ℕ)) → nums (a ++ b) ≡ nums a ++ nums b
nums-append [] b = refl
nums-append (p ∷ a) b = ap (λ (l : List ℕ). p.0 ∷ l) (nums-append a b)

pub nums-length : (a : List (ℕ × ℕ)) → length (nums a) ≡ length a
nums-length [] = refl
nums-length (p ∷ a) = ap suc (nums-length a)

pub each-length : (seen : List ℕ) (l : List (ℕ × ℕ)) → length (mark_each seen l) ≡ length seen
each-length seen [] = refl
each-length seen (p ∷ l) = each-length (set seen p.0 p.1) l ∙ length-set seen p.0 p.1

each_append : (seen : List ℕ) (a b : List (ℕ × ℕ)) → mark_each seen (a ++ b) ≡ mark_each (mark_each seen a) b
each_append seen [] b = refl
each_append seen (p ∷ a) b = each_append (set seen p.0 p.1) a b

unmet-left : (r : ℕ) (seen : List ℕ) (a b : List (ℕ × ℕ)) → Unmet r seen (a ++ b) → Unmet r seen a
unmet-left r seen [] b u = tt
unmet-left r seen (p ∷ a) b u = (u.0, unmet-left r (set seen p.0 p.1) a b u.1)

unmet-right : (r : ℕ) (seen : List ℕ) (a b : List (ℕ × ℕ)) → Unmet r seen (a ++ b) → Unmet r (mark_each seen a) b
unmet-right r seen [] b u = u
unmet-right r seen (p ∷ a) b u = unmet-right r (set seen p.0 p.1) a b u.1

unmet-append : (r : ℕ) (seen : List ℕ) (a b : List (ℕ × ℕ)) → Unmet r seen a → Unmet r (mark_each seen a) b → Unmet r seen (a ++ b)
unmet-append r seen [] b u v = v
unmet-append r seen (p ∷ a) b u v = (u.0, unmet-append r (set seen p.0 p.1) a b u.1 v)

pub unmet-fresh : (r : ℕ) (seen : List ℕ) (l : List (ℕ × ℕ)) → Kinds l → r < length seen → Unmet r seen l → Fresh seen r (nums l)
unmet-fresh r seen [] k h u = fresh-none seen r
unmet-fresh r seen (p ∷ l) k h u =
    fresh-append seen r (p.0 ∷ []) (nums l) p.1 k.0 h u.0
    (unmet-fresh r (set seen p.0 p.1) l k.1 (subst (λ n. r < n) (sym (length-set seen p.0 p.1)) h) u.1)

pub fresh-unmet : (r : ℕ) (seen : List ℕ) (l : List (ℕ × ℕ)) → Fresh seen r (nums l) → Unmet r seen l
fresh-unmet r seen [] f = tt
fresh-unmet r seen (p ∷ l) f =
    (fresh-left seen r (p.0 ∷ []) (nums l) f, fresh-unmet r (set seen p.0 p.1) l (fresh-right seen r (p.0 ∷ []) (nums l) p.1 f))

-- ---- the order of descriptors

-- A list written from place c on.
abbrev pub fill : List ℕ → ℕ → List ℕ → List ℕ
fill order c [] = order
fill order c (i ∷ l) = fill (set order c i) (c + 1) l

fill-append : (order : List ℕ) (c : ℕ) (a b : List ℕ) → fill order c (a ++ b) ≡ fill (fill order c a) (c + length a) b
fill-append order c [] b = ap (λ (n : ℕ). fill order n b) (omega arith)
fill-append order c (i ∷ a) b = fill-append (set order c i) (c + 1) a b ∙ ap (λ (n : ℕ). fill (fill (set order c i) (c + 1) a) n b) (omega arith)

-- Outside its places nothing is changed, and at them stands the list.
pub fill-out : (order : List ℕ) (c : ℕ) (l : List ℕ) (j : ℕ) → (j < c) ⊎ (c + length l ≤ j) → get_or (fill order c l) j 0 ≡ get_or order j 0
fill-out order c [] j h = refl
fill-out order c (i ∷ l) j h = fill-out (set order c i) (c + 1) l j (go h) ∙ get_or-set_other order c j i 0 (ne h)
  where
    go : (j < c) ⊎ (c + length (i ∷ l) ≤ j) → (j < c + 1) ⊎ (c + 1 + length l ≤ j)
    go (inl a) = inl (omega arith)
    go (inr b) = inr (omega arith)

    ne : (j < c) ⊎ (c + length (i ∷ l) ≤ j) → j ≡ c → ⊥
    ne (inl a) e = omega arith
    ne (inr b) e = omega arith

pub fill-in : (order : List ℕ) (c : ℕ) (l : List ℕ) (j : ℕ) → c + length l ≤ length order → j < length l → get_or (fill order c l) (c + j) 0 ≡ get_or l j 0
fill-in order c [] j h k = absurd (omega arith)
fill-in order c (i ∷ l) zero h k =
    let e : c + 0 ≡ c = omega arith in
    ap (λ (n : ℕ). get_or (fill (set order c i) (c + 1) l) n 0) e ∙ fill-out (set order c i) (c + 1) l c (inl (omega arith)) ∙ get_or-set_same order c i 0 (omega arith)
fill-in order c (i ∷ l) (suc j) h k =
    let e : c + suc j ≡ c + 1 + j = omega arith in
    ap (λ (n : ℕ). get_or (fill (set order c i) (c + 1) l) n 0) e ∙ fill-in (set order c i) (c + 1) l j (omega (arith, length-set order c i)) (omega arith)

-- ---- the chain of descriptors

-- Where the chain stands after the records of l.
abbrev pub thread_end : List ℕ → ℕ → ℕ → List ℕ → ℕ
thread_end s m a [] = a
thread_end s m a (i ∷ l) = thread_end s m (word_of s m i 0) l

-- Word 0 of each is the next; a names the first, and the last names b.
abbrev pub Threads : List ℕ → ℕ → ℕ → List ℕ → ℕ → Type 0
Threads s m a [] b = a ≡ b
Threads s m a (i ∷ l) b = (a ≡ i) × Threads s m (word_of s m i 0) l b

abbrev pub Threaded : List ℕ → ℕ → ℕ → List ℕ → Type 0
Threaded s m a l = Threads s m a l (thread_end s m a l)

pub threads_end : (s : List ℕ) (m a : ℕ) (l : List ℕ) (b : ℕ) → Threads s m a l b → thread_end s m a l ≡ b
threads_end s m a [] b t = t
threads_end s m a (i ∷ l) b t = threads_end s m (word_of s m i 0) l b t.1

pub threads-chained : (s : List ℕ) (m r a : ℕ) (l : List ℕ) → All (Among r) l → Threads s m a l 0 → Chained s m a l
threads-chained s m r a [] h t = t
threads-chained s m r a (i ∷ l) h t =
    (t.0, λ e. omega (arith, e, t.0, h.0.0), subst (λ (j : ℕ). Chained s m (word_of s m j 0) l) (sym t.0) (threads-chained s m r (word_of s m i 0) l h.1 t.1))

pub chained-threads : (s : List ℕ) (m a : ℕ) (l : List ℕ) → Chained s m a l → Threads s m a l 0
chained-threads s m a [] c = c
chained-threads s m a (i ∷ l) c = (c.0, chained-threads s m (word_of s m i 0) l (subst (λ (j : ℕ). Chained s m (word_of s m j 0) l) c.0 c.2))

module _ (s : List ℕ) (m : ℕ) where
  end-append : (a : ℕ) (l k : List ℕ) → thread_end s m a (l ++ k) ≡ thread_end s m (thread_end s m a l) k
  end-append a [] k = refl
  end-append a (i ∷ l) k = end-append (word_of s m i 0) l k

  threaded-left : (a : ℕ) (l k : List ℕ) → Threaded s m a (l ++ k) → Threaded s m a l
  threaded-left a [] k t = refl
  threaded-left a (i ∷ l) k t = (t.0, threaded-left (word_of s m i 0) l k t.1)

  threaded-right : (a : ℕ) (l k : List ℕ) → Threaded s m a (l ++ k) → Threaded s m (thread_end s m a l) k
  threaded-right a [] k t = t
  threaded-right a (i ∷ l) k t = threaded-right (word_of s m i 0) l k t.1

  threaded-append : (a : ℕ) (l k : List ℕ) → Threaded s m a l → Threaded s m (thread_end s m a l) k → Threaded s m a (l ++ k)
  threaded-append a [] k t u = u
  threaded-append a (i ∷ l) k t u = (t.0, threaded-append (word_of s m i 0) l k t.1 u)

-- ---- what a walk leaves

pub same-tour : {a a' b b' c c' d d' e e' : ℕ} {p p' q q' : List ℕ} → a ≡ a' → b ≡ b' → c ≡ c' → d ≡ d' → e ≡ e' → p ≡ p' → q ≡ q'
    → tour (record { ok = true; left = a; latches = b; next = c; count = d; low = e }) p q ≡ tour (record { ok = true; left = a'; latches = b'; next = c'; count = d'; low = e' }) p' q'
same-tour f g h j k u v = λ i. tour (record { ok = true; left = f i; latches = g i; next = h i; count = j i; low = k i }) (u i) (v i)

-- A tour from which no counter gets full.
pub record Ready (r : ℕ) (t : Tour) : Type 0 where
  pub ok : t.walk.ok ≡ true
  pub long : r < length t.seen
  pub latch_room : t.walk.latches + t.walk.left ≤ 4096
  pub leaf_room : t.walk.count + t.walk.left ≤ 4097

-- No more latches, and no more descriptors, than records.
pub record Fits (x : Trace) : Type 0 where
  pub latches : x.latched ≤ length x.marks
  pub leaves : length x.leaves ≤ length x.marks

module _ (s : List ℕ) (m : ℕ) where
  -- The tour after what x says was met, the next key being at least low.
  unfoldable pub after : Tour → Trace → ℕ → Tour
  after t x low =
      tour
      (record {
        ok = true;
        left = t.walk.left - length x.marks;
        latches = t.walk.latches + x.latched;
        next = thread_end s m t.walk.next x.leaves;
        count = t.walk.count + length x.leaves;
        low = low;
      })
      (mark_each t.seen x.marks) (fill t.order t.walk.count x.leaves)

  pub ok-after : (t : Tour) (x : Trace) (k : ℕ) → (after t x k).walk.ok ≡ true
  unfolding after
  ok-after t x k = refl

  after_none : (t : Tour) → t.walk.ok ≡ true → after t nothing t.walk.low ≡ t
  unfolding after
  after_none t e = λ i. tour (record { ok = sym e i; left = l i; latches = a i; next = t.walk.next; count = c i; low = t.walk.low }) t.seen t.order
    where
      l : t.walk.left - 0 ≡ t.walk.left
      l = omega arith

      a : t.walk.latches + 0 ≡ t.walk.latches
      a = omega arith

      c : t.walk.count + 0 ≡ t.walk.count
      c = omega arith

  pub after-join : (t : Tour) (x y : Trace) (k low : ℕ) → after (after t x k) y low ≡ after t (join x y) low
  unfolding after
  after-join t x y k low =
      same-tour
      (omega (arith, length-append x.marks y.marks))
      (omega arith)
      (sym (end-append s m t.walk.next x.leaves y.leaves))
      (omega (arith, length-append x.leaves y.leaves))
      refl
      (sym (each_append t.seen x.marks y.marks))
      (sym (fill-append t.order t.walk.count x.leaves y.leaves))

module _ (s : List ℕ) (m r : ℕ) where
  -- What x says can be met from t on.
  pub record Passes (t : Tour) (x : Trace) : Type 0 where
    pub unmet : Unmet r t.seen x.marks
    pub enough : length x.marks ≤ t.walk.left
    pub threaded : Threaded s m t.walk.next x.leaves

  -- The walk of what x says gives w: it is in order exactly if P and x can be met, and then it leaves what x says.
  pub record Walked (t w : Tour) (x : Trace) (low : ℕ) (P : Type 0) : Type 0 where
    pub found : w.walk.ok ≡ true → P × Passes t x
    pub walks : P → Passes t x → w ≡ after s m t x low

  pub passes_none : (t : Tour) → Passes t nothing
  passes_none t = record { unmet = tt; enough = omega arith; threaded = refl }

  pub passes-left : (t : Tour) (x y : Trace) → Passes t (join x y) → Passes t x
  passes-left t x y p = record {
    unmet = unmet-left r t.seen x.marks y.marks p.unmet;
    enough = omega (arith, p.enough, length-append x.marks y.marks);
    threaded = threaded-left s m t.walk.next x.leaves y.leaves p.threaded;
  }

  pub passes-right : (t : Tour) (x y : Trace) (k : ℕ) → Passes t (join x y) → Passes (after s m t x k) y
  unfolding after
  passes-right t x y k p = record {
    unmet = unmet-right r t.seen x.marks y.marks p.unmet;
    enough = omega (arith, p.enough, length-append x.marks y.marks);
    threaded = threaded-right s m t.walk.next x.leaves y.leaves p.threaded;
  }

  pub passes-join : (t : Tour) (x y : Trace) (k : ℕ) → Passes t x → Passes (after s m t x k) y → Passes t (join x y)
  unfolding after
  passes-join t x y k p q = record {
    unmet = unmet-append r t.seen x.marks y.marks p.unmet q.unmet;
    enough = omega (arith, p.enough, q.enough, length-append x.marks y.marks);
    threaded = threaded-append s m t.walk.next x.leaves y.leaves p.threaded q.threaded;
  }

  pub ready-after : (t : Tour) (x : Trace) (k : ℕ) → Ready r t → Fits x → Passes t x → Ready r (after s m t x k)
  unfolding after
  ready-after t x k b f p = record {
    ok = refl;
    long = omega (arith, b.long, each-length t.seen x.marks);
    latch_room = omega (arith, b.latch_room, f.latches, p.enough);
    leaf_room = omega (arith, b.leaf_room, f.leaves, p.enough);
  }

  -- ---- runs

  -- The same walk, otherwise said.
  pub walked_as : {t w w' : Tour} {x : Trace} {low : ℕ} {P Q : Type 0} → (P → Q) → (Q → P) → w ≡ w' → Walked t w x low P → Walked t w' x low Q
  walked_as f g e k =
      record {
        found = λ o. let p = k.found (ap (λ (v : Tour). v.walk.ok) e ∙ o) in (f p.0, p.1);
        walks = λ q p. sym e ∙ k.walks (g q) p;
      }

  pub walked_same : {t w : Tour} {x y : Trace} {low : ℕ} {P : Type 0} → x ≡ y → Walked t w x low P → Walked t w y low P
  walked_same {t} {w} {x} {y} {low} {P} e k = subst (λ (z : Trace). Walked t w z low P) e k

  pub walked_none : (t : Tour) → t.walk.ok ≡ true → Walked t t nothing t.walk.low (Unit {0})
  walked_none t e = record { found = λ o. (tt, passes_none t); walks = λ q p. sym (after_none s m t e) }

  -- One walk and then another.
  pub walked_then : {t w : Tour} {x y : Trace} {k low : ℕ} {P Q : Type 0} (g : Tour → Tour) (j : ℕ) → Walked t w x k P → (P → Passes t x → Walked (after s m t x j) (g w) y low Q)
      → Walked t (then_tour w g) (join x y) low (P × Q)
  walked_then {t} {w} {x} {y} {k} {low} {P} {Q} g j a b = record { found = go w.walk.ok refl; walks = there }
    where
      go : (o : Bool) → w.walk.ok ≡ o → (then_tour w g).walk.ok ≡ true → (P × Q) × Passes t (join x y)
      go true e z =
          let p = a.found e in
          let q = (b p.0 p.1).found (simp e at z) in
          ((p.0, q.0), passes-join t x y j p.1 q.1)
      go false e z = no (simp e at z)

      there : P × Q → Passes t (join x y) → then_tour w g ≡ after s m t (join x y) low
      there pq p =
          let l = passes-left t x y p in
          let e : w.walk.ok ≡ true = ap (λ (v : Tour). v.walk.ok) (a.walks pq.0 l) ∙ ok-after s m t x k in
          simp e ((b pq.0 l).walks pq.1 (passes-right t x y j p) ∙ after-join s m t x y j low)
