-- What the guards of the steps say, in the words of InTheWay: long locks by the lock rule, latches by the nodes that a step locks, drops, joins or takes from.
use Rattle.std.specs.Prelude.{◌≡◌, Bool, true, false, cond, not, ◌&&◌, ◌||◌, List, [], ◌∷◌, ◌++◌, ◌↔◌, ◌⊎◌, zero, suc, ◌+◌, ◌-◌, ◌≤◌, ◌<◌, ℕ, length}
use Rattle.std.proofs.Math.Path.{refl}
use Rattle.std.proofs.Common.{sym, ◌∙◌, subst, ap, inl, inr, arith}
use Rattle.std.proofs.Math.Decide.{ℕ_discrete}
use Rattle.std.proofs.Math.Dec.{eqb}
use Rattle.serial.specs.Serial.{true≢false}
use Rattle.serial.specs.Locks.{Kind, Mode, weak, strong, lock_rule}
use Rattle.machine.specs.Logic.{both, eqb_yes, eqb_no, eqb_is, eqb-not, leb_yes, leb_no}
use Rattle.machine.specs.Holders.{width, holds, count_from, filter, in_the_way, blockers, latch_word, elem, latch_blockers}
use Rattle.machine.specs.Tree.{pick, Seg, Below, Cmp, cmp, low, high, pick-hit}
use Rattle.machine.specs.State.{Tree, State, same}
use Rattle.machine.specs.Descent.{Sons, pick_pair, sons_of, node, lone_son, drop_lone}
use Rattle.machine.specs.Steps.{root_blockers, root_left, taking_part, level_blockers, son-at}
use Rattle.machine.specs.InTheWay.{Son, Neighbour, Involved, LoneLatched}

-- ---- long locks

-- Session q holds in a mode that conflicts with the mode m asked, where weak and strong holders are given.
abbrev pub Clash : Kind → Mode → ℕ → ℕ → ℕ → Type 0
Clash k m hw hs q = ((holds hw q ≡ true) × (lock_rule k weak m ≡ false)) ⊎ ((holds hs q ≡ true) × (lock_rule k strong m ≡ false))

abbrev pub Blocks : Kind → Mode → ℕ → ℕ → ℕ → ℕ → Type 0
Blocks k m p hw hs q = (1 ≤ q) × (q ≤ width) × ¬ (q ≡ p) × Clash k m hw hs q

elem-filter : (f : ℕ → Bool) (q : ℕ) (l : List ℕ) → elem q (filter f l) ≡ (f q && elem q l)
elem-filter f q [] = none_of (f q)
  where
    none_of : (b : Bool) → false ≡ (b && false)
    none_of true = refl
    none_of false = refl
elem-filter f q (x ∷ l) = go (f x) refl (eqb q x) refl (f q) refl (elem-filter f q l)
  where
    go : (b : Bool) → f x ≡ b → (c : Bool) → eqb q x ≡ c → (d : Bool) → f q ≡ d → elem q (filter f l) ≡ (d && elem q l) → elem q (cond b (x ∷ filter f l) (filter f l)) ≡ (d && (c || elem q l))
    go true e true i true j ih = rw i refl
    go true e true i false j ih = absurd (true≢false (ap f (eqb_is q x i) ∙ e) j)
    go false e true i true j ih = absurd (true≢false j (ap f (eqb_is q x i) ∙ e))
    go false e true i false j ih = ih
    go true e false i d j ih = rw i ih
    go false e false i d j ih = ih

elem-count : (q k n : ℕ) → (elem q (count_from k n) ≡ true) ↔ ((k ≤ q) × (q < k + n))
elem-count q k zero = ((λ e. absurd (true≢false e refl)), λ h. absurd (omega (arith, h.0, h.1)))
elem-count q k (suc n) = go (eqb q k) refl (elem-count q (suc k) n)
  where
    go : (b : Bool) → eqb q k ≡ b → (elem q (count_from (suc k) n) ≡ true) ↔ ((suc k ≤ q) × (q < suc k + n)) → ((b || elem q (count_from (suc k) n)) ≡ true) ↔ ((k ≤ q) × (q < k + suc n))
    go true e ih = ((λ _. let z = eqb_is q k e in (omega (arith, z), omega (arith, z))), λ _. refl)
    go false e ih = ((λ i. let z = ih.0 i in (omega (arith, z.0), omega (arith, z.1))), λ h. let z = eqb-not q k e in ih.1 (omega (arith, h.0, z), omega (arith, h.1)))

not_is : (b : Bool) → not b ≡ true → b ≡ false
not_is true e = absurd (true≢false e refl)
not_is false e = refl

one_of : (a b : Bool) → (a || b) ≡ true → (a ≡ true) ⊎ (b ≡ true)
one_of true b e = inl refl
one_of false b e = inr e

pub blocks : (k : Kind) (m : Mode) (p hw hs q : ℕ) → (elem q (blockers lock_rule k m p hw hs) ≡ true) ↔ Blocks k m p hw hs q
unfolding blockers
blocks k m p hw hs q = (into, back)
  where
    w : Bool
    w = holds hw q && not (lock_rule k weak m)

    s : Bool
    s = holds hs q && not (lock_rule k strong m)

    clash : (w ≡ true) ⊎ (s ≡ true) → Clash k m hw hs q
    clash (inl e) = let z = both (holds hw q) (not (lock_rule k weak m)) e in inl (z.0, not_is (lock_rule k weak m) z.1)
    clash (inr e) = let z = both (holds hs q) (not (lock_rule k strong m)) e in inr (z.0, not_is (lock_rule k strong m) z.1)

    into : elem q (filter (in_the_way lock_rule k m p hw hs) (count_from 1 width)) ≡ true → Blocks k m p hw hs q
    into e =
        let a = both (in_the_way lock_rule k m p hw hs q) (elem q (count_from 1 width)) (sym (elem-filter (in_the_way lock_rule k m p hw hs) q (count_from 1 width)) ∙ e) in
        let b = (elem-count q 1 width).0 a.1 in
        let c = both (not (eqb q p)) (w || s) a.0 in
        (b.0, omega (arith, b.1), eqb-not q p (not_is (eqb q p) c.0), clash (one_of w s c.1))

    hits : Clash k m hw hs q → (w || s) ≡ true
    hits (inl e) = rw (e.0, e.1) refl
    hits (inr e) = late w s (rw (e.0, e.1) refl)
      where
        late : (a b : Bool) → b ≡ true → (a || b) ≡ true
        late true b i = refl
        late false b i = i

    back : Blocks k m p hw hs q → elem q (filter (in_the_way lock_rule k m p hw hs) (count_from 1 width)) ≡ true
    back h = elem-filter (in_the_way lock_rule k m p hw hs) q (count_from 1 width)
        ∙ ap (λ b. (not b && (w || s)) && elem q (count_from 1 width)) (eqb_no q p h.2) ∙ ap (λ b. b && elem q (count_from 1 width)) (hits h.3)
        ∙ (elem-count q 1 width).1 (h.0, omega (arith, h.1))

-- Nobody in the way: whoever else holds, agrees.
abbrev pub Agrees : Kind → Mode → ℕ → ℕ → ℕ → ℕ → Type 0
Agrees k m p hw hs q = 1 ≤ q → q ≤ width → ¬ (p ≡ q) → (holds hw q ≡ true → lock_rule k weak m ≡ true) × (holds hs q ≡ true → lock_rule k strong m ≡ true)

pub none-agree : (k : Kind) (m : Mode) (p hw hs q : ℕ) → ¬ Blocks k m p hw hs q → Agrees k m p hw hs q
none-agree k m p hw hs q e a b n = ((λ h. agrees (lock_rule k weak m) (λ c. inl (h, c))), λ h. agrees (lock_rule k strong m) (λ c. inr (h, c)))
  where
    agrees : (c : Bool) → (c ≡ false → Clash k m hw hs q) → c ≡ true
    agrees true f = refl
    agrees false f = absurd (e (a, b, (λ i. n (sym i)), f refl))

-- ---- latches

pub latch-blocks : (p q : ℕ) (ws : List ℕ) → (elem q (latch_blockers p ws) ≡ true) ↔ (¬ (q ≡ p) × (elem (latch_word q) ws ≡ true))
unfolding latch_blockers
latch-blocks p q [] = ((λ e. absurd (true≢false e refl)), λ h. absurd (true≢false h.1 refl))
latch-blocks p q (w ∷ ws) = go (eqb w 0) refl (eqb w (latch_word p)) refl (elem (w - 1) l) refl (ℕ_discrete (latch_word q) w) (latch-blocks p q ws)
  where
    l : List ℕ
    l = latch_blockers p ws

    Goal : Bool → Bool → Bool → Type 0
    Goal a b c = (elem q (cond (a || b || c) l ((w - 1) ∷ l)) ≡ true) ↔ (¬ (q ≡ p) × ((eqb (latch_word q) w || elem (latch_word q) ws) ≡ true))

    later : ¬ (latch_word q ≡ w) → (elem q l ≡ true) ↔ (¬ (q ≡ p) × (elem (latch_word q) ws ≡ true))
        → (elem q l ≡ true) ↔ (¬ (q ≡ p) × ((eqb (latch_word q) w || elem (latch_word q) ws) ≡ true))
    later n ih = subst (λ b. (elem q l ≡ true) ↔ (¬ (q ≡ p) × ((b || elem (latch_word q) ws) ≡ true))) (sym (eqb_no (latch_word q) w n)) ih

    first : latch_word q ≡ w → (eqb (latch_word q) w || elem (latch_word q) ws) ≡ true
    first e = rw (eqb_yes (latch_word q) w e) refl

    go : (a : Bool) → eqb w 0 ≡ a → (b : Bool) → eqb w (latch_word p) ≡ b → (c : Bool) → elem (w - 1) l ≡ c → Dec (latch_word q ≡ w)
        → (elem q l ≡ true) ↔ (¬ (q ≡ p) × (elem (latch_word q) ws ≡ true)) → Goal a b c
    go true e b f c k (yes d) ih = absurd (omega (arith, eqb_is w 0 e, d))
    go true e b f c k (no d) ih = later d ih
    go false e true f c k (yes d) ih =
        let z : q ≡ p = omega (arith, eqb_is w (latch_word p) f, d) in ((λ i. absurd ((ih.0 i).0 z)), λ h. absurd (h.0 z))
    go false e true f c k (no d) ih = later d ih
    go false e false f true k (yes d) ih =
        let z : w - 1 ≡ q = omega (arith, d) in let i : elem q l ≡ true = ap (λ y. elem y l) (sym z) ∙ k in ((λ _. ((ih.0 i).0, first d)), λ _. i)
    go false e false f true k (no d) ih = later d ih
    go false e false f false k (yes d) ih = (
      (λ _. ((λ z. eqb-not w (latch_word p) f (sym d ∙ ap latch_word z)), first d)),
      λ _. rw (eqb_yes q (w - 1) (omega (arith, d))) refl,
    )
    go false e false f false k (no d) ih =
        let n = eqb-not w 0 e in rw (eqb_no q (w - 1) (λ z. d (omega (arith, z, n)))) (later d ih)

pub two-are : (w a b : ℕ) → elem w (a ∷ b ∷ []) ≡ true → (a ≡ w) ⊎ (b ≡ w)
two-are w a b e = at (eqb w a) refl (eqb w b) refl e
  where
    at : (c : Bool) → eqb w a ≡ c → (d : Bool) → eqb w b ≡ d → (c || (d || false)) ≡ true → (a ≡ w) ⊎ (b ≡ w)
    at true i d j k = inl (sym (eqb_is w a i))
    at false i true j k = inr (sym (eqb_is w b j))
    at false i false j k = absurd (true≢false k refl)

two-first : (w a b : ℕ) → a ≡ w → elem w (a ∷ b ∷ []) ≡ true
two-first w a b e = rw (eqb_yes w a (sym e)) refl

two-second : (w a b : ℕ) → b ≡ w → elem w (a ∷ b ∷ []) ≡ true
two-second w a b e = rw (eqb_yes w b (sym e)) (at (eqb w a))
  where
    at : (c : Bool) → (c || true) ≡ true
    at true = refl
    at false = refl

-- The guard at the root.
pub root-blocks : (p : ℕ) (s : State) (q : ℕ) → (elem q (root_blockers p s) ≡ true) ↔ (¬ (q ≡ p) × ((s.root.node.latch ≡ latch_word q) ⊎ LoneLatched s.root.height s.root.node q))
root-blocks p s q = let b = latch-blocks p q (s.root.node.latch ∷ (root_left s).node.latch ∷ []) in
    ((λ e. let z = b.0 e in (z.0, into s.root.height s.root.node z.1)), λ h. b.1 (h.0, back s.root.height s.root.node h.1))
  where
    word : ℕ
    word = latch_word q

    twice : {A : Type 0} → A ⊎ A → A
    twice (inl a) = a
    twice (inr a) = a

    into : (h : ℕ) (t : Tree (suc h)) → elem word (t.latch ∷ (drop_lone h t).node.latch ∷ []) ≡ true → (t.latch ≡ word) ⊎ LoneLatched h t q
    into zero t e = inl (twice (two-are word t.latch t.latch e))
    into (suc h) t e = at t.sons refl e
      where
        keep : {A : Type 0} → (t.latch ≡ word) ⊎ (t.latch ≡ word) → (t.latch ≡ word) ⊎ A
        keep (inl i) = inl i
        keep (inr i) = inl i

        at : (es : Sons (suc h)) → t.sons ≡ es → elem word (t.latch ∷ (lone_son h es t).node.latch ∷ []) ≡ true → (t.latch ≡ word) ⊎ LoneLatched (suc h) t q
        at [] k e = keep (two-are word t.latch t.latch e)
        at (a ∷ []) k e = up (two-are word t.latch a.0.latch e)
          where
            up : (t.latch ≡ word) ⊎ (a.0.latch ≡ word) → (t.latch ≡ word) ⊎ LoneLatched (suc h) t q
            up (inl i) = inl i
            up (inr i) = inr (a.0, a.1, k, i)
        at (a ∷ b ∷ es) k e = keep (two-are word t.latch t.latch e)

    back : (h : ℕ) (t : Tree (suc h)) → (t.latch ≡ word) ⊎ LoneLatched h t q → elem word (t.latch ∷ (drop_lone h t).node.latch ∷ []) ≡ true
    back h t (inl i) = two-first word t.latch (drop_lone h t).node.latch i
    back zero t (inr i) = absurd i
    back (suc h) t (inr i) = rw i.2 (two-second word t.latch i.0.latch i.3)

-- ---- one level down

-- The son that a descent finds is the son on the path, where there is one.
pub son-hit : (x h : ℕ) (es : Sons (suc h)) (S : Son x es) → son-at x h es ≡ S.son
son-hit x h es S = ap (pick x (node 0 []) same) S.among ∙ pick-hit x (node 0 []) same S.before S.son S.bound S.behind S.passed S.reached

abbrev behind_one : {A : Type 0} {x : ℕ} {es : List (A × ℕ)} (a : A × ℕ) → a.1 < x → Son x es → Son x (a ∷ es)
behind_one a n S = record {
  before = a ∷ S.before;
  son = S.son;
  bound = S.bound;
  behind = S.behind;
  among = ap (λ l. a ∷ l) S.among;
  passed = (n, S.passed);
  reached = S.reached;
}

-- A son that has a party's latch was found.
pub son-found : (x h q : ℕ) (es : Sons (suc h)) → (son-at x h es).latch ≡ latch_word q → Son x es
son-found x h q [] e = absurd (omega (arith, e))
son-found x h q (a ∷ es) e = go (cmp x a.1) e (son-found x h q es)
  where
    go : Cmp x a.1 → (son-at x h (a ∷ es)).latch ≡ latch_word q → ((son-at x h es).latch ≡ latch_word q → Son x es) → Son x (a ∷ es)
    go (low k) e f = record { before = []; son = a.0; bound = a.1; behind = es; among = refl; passed = tt; reached = k }
    go (high k) e f = behind_one a k (f (rw (leb_no x a.1 k) at e))

-- The latch words of two neighbours.
abbrev pub words_of : (h : ℕ) → (Tree (suc h) × ℕ) → (Tree (suc h) × ℕ) → List ℕ
words_of h a b = a.0.latch ∷ b.0.latch ∷ []

words_are : (h w : ℕ) (a b : Tree (suc h) × ℕ) → elem w (words_of h a b) ≡ true → (a.0.latch ≡ w) ⊎ (b.0.latch ≡ w)
words_are h w a b e = at (eqb w a.0.latch) refl (eqb w b.0.latch) refl
  where
    at : (c : Bool) → eqb w a.0.latch ≡ c → (d : Bool) → eqb w b.0.latch ≡ d → (a.0.latch ≡ w) ⊎ (b.0.latch ≡ w)
    at true i d j = inl (sym (eqb_is w a.0.latch i))
    at false i true j = inr (sym (eqb_is w b.0.latch j))
    at false i false j = absurd (true≢false e (rw (i, j) refl))

pub words_left : (h : ℕ) (a b : Tree (suc h) × ℕ) → elem a.0.latch (words_of h a b) ≡ true
words_left h a b = at (eqb a.0.latch b.0.latch) refl
  where
    at : (c : Bool) → eqb a.0.latch b.0.latch ≡ c → elem a.0.latch (words_of h a b) ≡ true
    at true i = simp (eqb_yes a.0.latch a.0.latch refl, i)
    at false i = simp (eqb_yes a.0.latch a.0.latch refl, i)

pub words_right : (h : ℕ) (a b : Tree (suc h) × ℕ) → elem b.0.latch (words_of h a b) ≡ true
words_right h a b = at (eqb b.0.latch a.0.latch) refl
  where
    at : (c : Bool) → eqb b.0.latch a.0.latch ≡ c → elem b.0.latch (words_of h a b) ≡ true
    at true i = simp (eqb_yes b.0.latch b.0.latch refl, i)
    at false i = simp (eqb_yes b.0.latch b.0.latch refl, i)

-- Of the pair, one is the son on the path and the other its neighbour.
abbrev pub OfPair : (x h w : ℕ) (es : Sons (suc h)) → Type 0
OfPair x h w es = (S : Son x es) × (t : Tree (suc h)) × (t.latch ≡ w) × ((t ≡ S.son) ⊎ Neighbour S t)

pub snoc_of : {X : Type 0} (a : X) (l : List X) → (pre : List X) × (c : X) × (a ∷ l ≡ pre ++ c ∷ [])
snoc_of a [] = ([], a, refl)
snoc_of a (b ∷ l) = let z = snoc_of b l in (a ∷ z.0, z.1, ap (λ k. a ∷ k) z.2)

module _ (Q : (h : ℕ) → ℕ → ℕ → Tree (suc h) → Type 0) (le : (h l u : ℕ) (a : Tree (suc h)) → Q h l u a → l ≤ suc u) where
  pub pair_found : (x h w lo e : ℕ) (es : Sons (suc h)) → Seg (Q h) lo e es → elem w (pick_pair x [] (words_of h) es) ≡ true → OfPair x h w es
  pair_found x h w lo e [] s i = absurd (true≢false i refl)
  pair_found x h w lo e (a ∷ []) s i = absurd (true≢false i refl)
  pair_found x h w lo e (a ∷ b ∷ es) s i = go (cmp x b.1) i (pair_found x h w (suc a.1) e (b ∷ es) s.1)
    where
      here : Cmp x a.1 → x ≤ b.1 → (a.0.latch ≡ w) ⊎ (b.0.latch ≡ w) → OfPair x h w (a ∷ b ∷ es)
      here (low j) k (inl c) = (record { before = []; son = a.0; bound = a.1; behind = b ∷ es; among = refl; passed = tt; reached = j }, a.0, c, inl refl)
      here (low j) k (inr c) = (record { before = []; son = a.0; bound = a.1; behind = b ∷ es; among = refl; passed = tt; reached = j }, b.0, c, inr (inr (refl, (b.1, es, refl))))
      here (high j) k (inl c) = (record { before = a ∷ []; son = b.0; bound = b.1; behind = es; among = refl; passed = (j, tt); reached = k }, a.0, c, inr (inl ([], a.1, refl)))
      here (high j) k (inr c) = (record { before = a ∷ []; son = b.0; bound = b.1; behind = es; among = refl; passed = (j, tt); reached = k }, b.0, c, inl refl)

      first-bound : ℕ → Sons (suc h) → ℕ
      first-bound z [] = z
      first-bound z (c ∷ l) = c.1

      past : b.1 < x → OfPair x h w (b ∷ es) → OfPair x h w (a ∷ b ∷ es)
      past k o = (behind_one a (omega (arith, le h (suc a.1) b.1 b.0 s.1.0, k)) o.0, o.1, o.2, which o.3)
        where
          which : (o.1 ≡ o.0.son) ⊎ Neighbour o.0 o.1 → (o.1 ≡ o.0.son) ⊎ Neighbour (behind_one a (omega (arith, le h (suc a.1) b.1 b.0 s.1.0, k)) o.0) o.1
          which (inl c) = inl c
          which (inr (inl c)) = inr (inl (a ∷ c.0, c.1, ap (λ l. a ∷ l) c.2))
          which (inr (inr c)) = absurd (omega (arith, k, o.0.reached, ap (first-bound 0) (o.0.among ∙ ap (λ l. l ++ (o.0.son, o.0.bound) ∷ o.0.behind) c.0)))

      go : Cmp x b.1 → elem w (pick_pair x [] (words_of h) (a ∷ b ∷ es)) ≡ true → (elem w (pick_pair x [] (words_of h) (b ∷ es)) ≡ true → OfPair x h w (b ∷ es)) → OfPair x h w (a ∷ b ∷ es)
      go (low k) i f = here (cmp x a.1) k (words_are h w a b (rw (leb_yes x b.1 k) at i))
      go (high k) i f = past k (f (rw (leb_no x b.1 k) at i))

  -- The pair that the housekeeper mends: with the left neighbour, or for the first son the right one.
  pub left-pair : (x h : ℕ) (pre : Sons (suc h)) (c d : Tree (suc h) × ℕ) (post : Sons (suc h)) → Below x (pre ++ c ∷ []) → x ≤ d.1
      → pick_pair x [] (words_of h) ((pre ++ c ∷ []) ++ d ∷ post) ≡ words_of h c d
  left-pair x h [] c d post b k = rw (leb_yes x d.1 k) refl
  left-pair x h (a ∷ []) c d post b k = rw (leb_no x c.1 b.1.0) (left-pair x h [] c d post b.1 k)
  left-pair x h (a ∷ e ∷ pre) c d post b k = rw (leb_no x e.1 b.1.0) (left-pair x h (e ∷ pre) c d post b.1 k)

  pub right-pair : (x h lo e : ℕ) (c d : Tree (suc h) × ℕ) (post : Sons (suc h)) → Seg (Q h) lo e (c ∷ d ∷ post) → x ≤ c.1 → pick_pair x [] (words_of h) (c ∷ d ∷ post) ≡ words_of h c d
  right-pair x h lo e c d post s k = rw (leb_yes x d.1 (omega (arith, le h (suc c.1) d.1 d.0 s.1.0, k))) refl

  pair-back : (x h lo e : ℕ) (es : Sons (suc h)) → Seg (Q h) lo e es → ¬ (length es ≡ 1) → (S : Son x es) (t : Tree (suc h)) → (t ≡ S.son) ⊎ Neighbour S t
      → elem t.latch (pick_pair x [] (words_of h) es) ≡ true
  pair-back x h lo e es s n S t k = subst (λ l. elem t.latch (pick_pair x [] (words_of h) l) ≡ true) (sym S.among) (go k)
    where
      b : Sons (suc h)
      b = S.before

      d : Tree (suc h) × ℕ
      d = (S.son, S.bound)

      rest : Sons (suc h)
      rest = S.behind

      s' : Seg (Q h) lo e (b ++ d ∷ rest)
      s' = subst (Seg (Q h) lo e) S.among s

      -- The son is one of the two.
      own : (l m : Sons (suc h)) → b ≡ l → rest ≡ m → elem S.son.latch (pick_pair x [] (words_of h) (l ++ d ∷ m)) ≡ true
      own [] [] i j = absurd (n (ap length S.among ∙ ap (λ l. length (l ++ d ∷ rest)) i ∙ ap (λ l. length (d ∷ l)) j))
      own [] (c ∷ m) i j = ap (elem S.son.latch) (right-pair x h lo e d c m (subst (λ l. Seg (Q h) lo e (d ∷ l)) j (subst (λ l. Seg (Q h) lo e (l ++ d ∷ rest)) i s')) S.reached)
          ∙ words_left h d c
      own (a ∷ l) m i j = let z = snoc_of a l in
          ap (λ y. elem S.son.latch (pick_pair x [] (words_of h) (y ++ d ∷ m))) z.2
          ∙ ap (elem S.son.latch) (left-pair x h z.0 z.1 d m (subst (Below x) (i ∙ z.2) S.passed) S.reached)
          ∙ words_right h z.1 d

      go : (t ≡ S.son) ⊎ Neighbour S t → elem t.latch (pick_pair x [] (words_of h) (b ++ d ∷ rest)) ≡ true
      go (inl i) = subst (λ y. elem y.latch (pick_pair x [] (words_of h) (b ++ d ∷ rest)) ≡ true) (sym i) (own b rest refl refl)
      go (inr (inl c)) =
          ap (λ y. elem t.latch (pick_pair x [] (words_of h) (y ++ d ∷ rest))) c.2
          ∙ ap (elem t.latch) (left-pair x h c.0 (t, c.1) d rest (subst (Below x) c.2 S.passed) S.reached) ∙ words_left h (t, c.1) d
      go (inr (inr c)) =
          let v : ℕ = c.1.0 in
          let post : Sons (suc h) = c.1.1 in
          let f : b ++ d ∷ rest ≡ d ∷ (t, v) ∷ post = ap (λ y. y ++ d ∷ rest) c.0 ∙ ap (λ y. d ∷ y) c.1.2 in
          ap (λ y. elem t.latch (pick_pair x [] (words_of h) y)) f
          ∙ ap (elem t.latch) (right-pair x h lo e d (t, v) post (subst (Seg (Q h) lo e) f s') S.reached) ∙ words_right h d (t, v)

  -- The guard of a level. The housekeeper's parent has no lone son.
  pub level-blocks : (p x h lo e : ℕ) (es : Sons (suc h)) → Seg (Q h) lo e es → (p ≡ 0 → ¬ (length es ≡ 1)) → (q : ℕ)
      → (elem q (level_blockers p x h es (son-at x h es)) ≡ true) ↔ (¬ (q ≡ p) × ((t : Tree (suc h)) × Involved p x h es t × (t.latch ≡ latch_word q)))
  unfolding taking_part
  level-blocks p x h lo e es s n q = let b = latch-blocks p q (taking_part p x h (son-at x h es) es) in
      ((λ i. let z = b.0 i in (z.0, into (eqb p 0 && eqb (sons_of (son-at x h es)) 3) refl z.1)), λ k. b.1 (k.0, back (eqb p 0 && eqb (sons_of (son-at x h es)) 3) refl k.1.0 k.1.1 k.1.2))
    where
      u : Tree (suc h)
      u = son-at x h es

      w : ℕ
      w = latch_word q

      parts : Bool → List ℕ
      parts c = cond c (pick_pair x [] (words_of h) es) (u.latch ∷ [])

      alone : (a c : ℕ) → (eqb a c || false) ≡ true → c ≡ a
      alone a c i = at (eqb a c) refl i
        where
          at : (d : Bool) → eqb a c ≡ d → (d || false) ≡ true → c ≡ a
          at true j k = sym (eqb_is a c j)
          at false j k = absurd (true≢false k refl)

      into : (c : Bool) → (eqb p 0 && eqb (sons_of u) 3) ≡ c → elem w (parts c) ≡ true → (t : Tree (suc h)) × Involved p x h es t × (t.latch ≡ w)
      into true c i = let z = both (eqb p 0) (eqb (sons_of u) 3) c in let o = pair_found x h w lo e es s i in
          (o.1, (o.0, which o.0 o.1 (eqb_is p 0 z.0) (eqb_is (sons_of u) 3 z.1) o.3), o.2)
        where
          which : (S : Son x es) (t : Tree (suc h)) → p ≡ 0 → sons_of u ≡ 3 → (t ≡ S.son) ⊎ Neighbour S t → (t ≡ S.son) ⊎ ((p ≡ 0) × (sons_of S.son ≡ 3) × Neighbour S t)
          which S t a b (inl j) = inl j
          which S t a b (inr j) = inr (a, ap (λ y. sons_of y) (sym (son-hit x h es S)) ∙ b, j)
      into false c i = let l = alone w u.latch i in let S = son-found x h q es l in (u, (S, inl (son-hit x h es S)), l)

      back : (c : Bool) → (eqb p 0 && eqb (sons_of u) 3) ≡ c → (t : Tree (suc h)) → Involved p x h es t → t.latch ≡ w → elem w (parts c) ≡ true
      back true c t I l = ap (λ y. elem y (parts true)) (sym l) ∙ pair-back x h lo e es s (n (eqb_is p 0 (both (eqb p 0) (eqb (sons_of u) 3) c).0)) I.0 t (near I.1)
        where
          near : (t ≡ I.0.son) ⊎ ((p ≡ 0) × (sons_of I.0.son ≡ 3) × Neighbour I.0 t) → (t ≡ I.0.son) ⊎ Neighbour I.0 t
          near (inl j) = inl j
          near (inr j) = inr j.2
      back false c t I l = only I.1
        where
          only : (t ≡ I.0.son) ⊎ ((p ≡ 0) × (sons_of I.0.son ≡ 3) × Neighbour I.0 t) → elem w (parts false) ≡ true
          only (inl j) = rw (eqb_yes w u.latch (sym (ap (λ y. y.latch) (son-hit x h es I.0 ∙ sym j) ∙ l))) refl
          only (inr j) = absurd (true≢false {b = eqb p 0 && eqb (sons_of u) 3} (rw (eqb_yes p 0 j.0, eqb_yes (sons_of u) 3 (ap (λ y. sons_of y) (son-hit x h es I.0) ∙ j.1)) refl) c)
