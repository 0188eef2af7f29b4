-- Demand 2, waiting: whom a wait names (document 02, M-101). From a sound state a step waits exactly if some party is in the way (InTheWay), and names one party, the only one that is Named:
-- of long locks the session that began first, of latches the one who has the highest node's, then the leftmost's.
use Rattle.std.specs.Prelude.{◌≡◌, Bool, ◌&&◌, ◌||◌, ◌↔◌, ◌⊎◌, zero, suc, ◌-◌, ◌≤◌, ℕ}
use Rattle.std.proofs.Math.Path.{refl, sym, ap}
use Rattle.std.proofs.Common.{◌∙◌, subst, arith}
use Rattle.std.proofs.Math.Bool.{true, false, cond}
use mathlib.Core.List.{List, [], ◌∷◌, ◌++◌}
use Rattle.std.proofs.Math.Logic.{inl, inr}
use Rattle.std.proofs.Math.Option.{some}
use Rattle.std.proofs.Math.Decide.{ℕ_discrete}
use Rattle.std.proofs.Math.Dec.{ltb, eqb}
use Rattle.std.proofs.Math.ListN.{length}
use Rattle.serial.specs.Serial.{true≢false}
use Rattle.machine.specs.Logic.{both, eqb_yes, eqb_is, eqb-not, leb-is, leb-not}
use Rattle.machine.specs.Holders.{latch_word, elem, latch_blockers}
use Rattle.machine.specs.Tree.{Seg, Below}
use Rattle.machine.specs.State.{Tree, Stage, start, enter, change, take, Request, State, wait, Outcome, session_of, at}
use Rattle.machine.specs.Descent.{Sons, pick_pair, sons_of, lone_son, drop_lone}
use Rattle.machine.specs.Steps.{son-at, is_empty, oldest}
use Rattle.machine.specs.Sound.{Sound, Shaped}
use Rattle.machine.specs.InTheWay.{LongLock, Son, LeftOf, RightOf, ShortLock, InTheWay, RootWords, Mends, LevelWords, Latching, Free, AllFree, FirstOf, Named}
use Rattle.machine.specs.Blocking.{latch-blocks, two-are, words_of, son-hit, left-pair, right-pair, snoc_of}
use Rattle.machine.specs.Looks.{shaped-le}
use Rattle.machine.specs.Waits.{elem-first, elem-later, whom}
use Rattle.machine.specs.Conflicts.{sons-follow, not_lone}

-- ---- of long locks: the session that began first

alone : (q b : ℕ) → elem q (b ∷ []) ≡ true → q ≡ b
alone q b i = go (eqb q b) refl i
  where
    go : (c : Bool) → eqb q b ≡ c → (c || false) ≡ true → q ≡ b
    go true j k = eqb_is q b j
    go false j k = absurd (true≢false k refl)

module _ (s : State) where
  abbrev pub place : ℕ → ℕ
  place q = (session_of q s).order

  -- Nobody has a lower number.
  pub least : (b : ℕ) (bs : List ℕ) (q : ℕ) → elem q (b ∷ bs) ≡ true → place (oldest s b bs) ≤ place q
  unfolding oldest
  least b [] q i = let z = ap place (alone q b i) in omega (arith, z)
  least b (c ∷ cs) q i = go (ltb (place c) (place b)) refl (least (cond (ltb (place c) (place b)) c b) cs) (eqb q b) refl (eqb q c) refl i
    where
      go : (d : Bool) → ltb (place c) (place b) ≡ d → ((z : ℕ) → elem z (cond d c b ∷ cs) ≡ true → place (oldest s (cond d c b) cs) ≤ place z)
          → (u : Bool) → eqb q b ≡ u → (v : Bool) → eqb q c ≡ v → (u || (v || elem q cs)) ≡ true → place (oldest s (cond d c b) cs) ≤ place q
      go true l f true j v k m = let w = f c (elem-first c cs) in let z = ap place (eqb_is q b j) in omega (arith, w, leb-is (suc (place c)) (place b) l, z)
      go true l f false j true k m = let w = f c (elem-first c cs) in let z = ap place (eqb_is q c k) in omega (arith, w, z)
      go true l f false j false k m = f q (elem-later q c cs m)
      go false l f true j v k m = let w = f b (elem-first b cs) in let z = ap place (eqb_is q b j) in omega (arith, w, z)
      go false l f false j true k m = let w = f b (elem-first b cs) in let z = ap place (eqb_is q c k) in omega (arith, w, leb-not (suc (place c)) (place b) l, z)
      go false l f false j false k m = f q (elem-later q b cs m)

-- ---- of latches: the first

-- The latch of the first party that is found is there.
head-there : (p : ℕ) (ws : List ℕ) (b : ℕ) (bs : List ℕ) → latch_blockers p ws ≡ b ∷ bs → elem (latch_word b) ws ≡ true
head-there p ws b bs e = ((latch-blocks p b ws).0 (ap (elem b) e ∙ elem-first b bs)).1

first_one : (p v b : ℕ) (bs : List ℕ) → latch_blockers p (v ∷ []) ≡ b ∷ bs → FirstOf p (v ∷ []) b
first_one p v b bs e = ([], [], ap (λ w. w ∷ []) (sym (alone (latch_word b) v (head-there p (v ∷ []) b bs e))), tt)

first_two : (p v w b : ℕ) (bs : List ℕ) → latch_blockers p (v ∷ w ∷ []) ≡ b ∷ bs → FirstOf p (v ∷ w ∷ []) b
unfolding latch_blockers
first_two p v w b bs e = go (eqb v 0) refl (eqb v (latch_word p)) refl (elem (v - 1) l) refl e
  where
    l : List ℕ
    l = latch_blockers p (w ∷ [])

    second : Free p v → l ≡ b ∷ bs → FirstOf p (v ∷ w ∷ []) b
    second f i = (v ∷ [], [], ap (λ z. v ∷ z ∷ []) (sym (alone (latch_word b) w (head-there p (w ∷ []) b bs i))), (f, tt))

    first : v ≡ latch_word b → FirstOf p (v ∷ w ∷ []) b
    first i = ([], w ∷ [], ap (λ z. z ∷ w ∷ []) i, tt)

    head : (a : ℕ) (m : List ℕ) → a ∷ m ≡ b ∷ bs → a ≡ b
    head a m i = cc

    go : (x : Bool) → eqb v 0 ≡ x → (y : Bool) → eqb v (latch_word p) ≡ y → (z : Bool) → elem (v - 1) l ≡ z → cond (x || y || z) l ((v - 1) ∷ l) ≡ b ∷ bs → FirstOf p (v ∷ w ∷ []) b
    go true i y j z k m = second (inl (eqb_is v 0 i)) m
    go false i true j z k m = second (inr (eqb_is v (latch_word p) j)) m
    go false i false j true k m =
        let n = eqb-not v 0 i in
        let u = alone (latch_word (v - 1)) w ((latch-blocks p (v - 1) (w ∷ [])).0 k).1 in
        let o = alone (latch_word b) w (head-there p (w ∷ []) b bs m) in
        first (omega (arith, n, u, o))
    go false i false j false k m = let n = eqb-not v 0 i in let u = head (v - 1) l m in first (omega (arith, n, u))

pub first_short : (p : ℕ) (ws : List ℕ) → length ws ≤ 2 → (b : ℕ) (bs : List ℕ) → latch_blockers p ws ≡ b ∷ bs → FirstOf p ws b
unfolding latch_blockers
first_short p [] n b bs e = absurd (true≢false {b = true} refl (ap is_empty e))
first_short p (v ∷ []) n b bs e = first_one p v b bs e
first_short p (v ∷ w ∷ []) n b bs e = first_two p v w b bs e
first_short p (v ∷ w ∷ x ∷ ws) n b bs e = absurd (omega (arith, n))

-- The root.

not-dropped : (h : ℕ) (t : Tree (suc (suc h))) → ¬ (sons_of t ≡ 1) → (drop_lone (suc h) t).node.latch ≡ t.latch
not-dropped h t n = go t.sons refl
  where
    go : (es : Sons (suc h)) → t.sons ≡ es → (lone_son h es t).node.latch ≡ t.latch
    go [] i = refl
    go (a ∷ []) i = absurd (n (ap length i))
    go (a ∷ b ∷ es) i = refl

first-same : (p v b : ℕ) (bs : List ℕ) → latch_blockers p (v ∷ v ∷ []) ≡ b ∷ bs → FirstOf p (v ∷ []) b
first-same p v b bs e = ([], [], ap (λ w. w ∷ []) (twice (two-are (latch_word b) v v (head-there p (v ∷ v ∷ []) b bs e))), tt)
  where
    twice : (v ≡ latch_word b) ⊎ (v ≡ latch_word b) → v ≡ latch_word b
    twice (inl i) = i
    twice (inr i) = i

pub root-first : (p h : ℕ) (t : Tree (suc h)) (ws : List ℕ) → RootWords h t ws → (b : ℕ) (bs : List ℕ) → latch_blockers p (t.latch ∷ (drop_lone h t).node.latch ∷ []) ≡ b ∷ bs → FirstOf p ws b
root-first p zero t ws i b bs e = subst (λ l. FirstOf p l b) (sym i) (first-same p t.latch b bs e)
root-first p (suc h) t ws (inl i) b bs e = subst (λ l. FirstOf p l b) (sym i.3) (first_two p t.latch i.0.latch b bs (rw i.2 at e))
root-first p (suc h) t ws (inr i) b bs e =
    subst (λ l. FirstOf p l b) (sym i.1) (first-same p t.latch b bs (sym (ap (λ w. latch_blockers p (t.latch ∷ w ∷ [])) (not-dropped h t i.0)) ∙ e))

-- One level down: the guard looks at these words, in this order.
module _ (p x h lo hi : ℕ) (es : Sons (suc h)) (G : Seg (Shaped (suc h) 3) lo hi es) where
  abbrev pub u : Tree (suc h)
  u = son-at x h es

  pub mends-is : (S : Son x es) → Mends p x h S → (eqb p 0 && eqb (sons_of u) 3) ≡ true
  mends-is S m = rw (eqb_yes p 0 m.0, eqb_yes (sons_of u) 3 (ap (λ t. sons_of t) (son-hit x h es S) ∙ m.1)) refl

  pub mends-not : (S : Son x es) → ¬ Mends p x h S → (eqb p 0 && eqb (sons_of u) 3) ≡ false
  mends-not S n = go (eqb p 0 && eqb (sons_of u) 3) refl
    where
      go : (c : Bool) → (eqb p 0 && eqb (sons_of u) 3) ≡ c → c ≡ false
      go true i = let z = both (eqb p 0) (eqb (sons_of u) 3) i in absurd (n (eqb_is p 0 z.0, ap (λ t. sons_of t) (sym (son-hit x h es S)) ∙ eqb_is (sons_of u) 3 z.1))
      go false i = refl

  abbrev pub pair_words : Sons (suc h) → List ℕ
  pair_words l = pick_pair x [] (words_of h) l

  pub pair_is : (S : Son x es) (t : Tree (suc h)) (ws : List ℕ)
      → (LeftOf S t × (ws ≡ t.latch ∷ S.son.latch ∷ [])) ⊎ (RightOf S t × (ws ≡ S.son.latch ∷ t.latch ∷ [])) → pair_words es ≡ ws
  pair_is S t ws (inl (c, i)) =
      ap pair_words (S.among ∙ ap (λ l. l ++ (S.son, S.bound) ∷ S.behind) c.2)
      ∙ left-pair (λ h. Shaped (suc h) 3) (λ h. shaped-le (suc h) 3) x h c.0 (t, c.1) (S.son, S.bound) S.behind (subst (Below x) c.2 S.passed) S.reached ∙ sym i
  pair_is S t ws (inr (c, i)) =
      let d : Tree (suc h) × ℕ = (S.son, S.bound) in
      let f : es ≡ d ∷ (t, c.1.0) ∷ c.1.1 = S.among ∙ ap (λ l. l ++ d ∷ S.behind) c.0 ∙ ap (λ l. d ∷ l) c.1.2 in
      ap pair_words f
      ∙ right-pair (λ h. Shaped (suc h) 3) (λ h. shaped-le (suc h) 3) x h lo hi d (t, c.1.0) c.1.1 (subst (Seg (Shaped (suc h) 3) lo hi) f G) S.reached ∙ sym i

  -- There are such words.
  level-words : (p ≡ 0 → ¬ (length es ≡ 1)) → Son x es → (ws : List ℕ) × LevelWords p x h es ws
  level-words n S = go (eqb p 0 && eqb (sons_of S.son) 3) refl
    where
      near : Mends p x h S → (l m : Sons (suc h)) → S.before ≡ l → S.behind ≡ m → (ws : List ℕ) × LevelWords p x h es ws
      near m [] [] i j = absurd (n m.0 (ap length S.among ∙ ap (λ l. length (l ++ (S.son, S.bound) ∷ S.behind)) i ∙ ap (λ l. length ((S.son, S.bound) ∷ l)) j))
      near m [] (c ∷ k) i j = (S.son.latch ∷ c.0.latch ∷ [], (S, inr (m, (c.0, inr ((i, (c.1, k, j)), refl)))))
      near m (a ∷ l) k i j = let z = snoc_of a l in (z.1.0.latch ∷ S.son.latch ∷ [], (S, inr (m, (z.1.0, inl ((z.0, z.1.1, i ∙ z.2), refl)))))

      go : (c : Bool) → (eqb p 0 && eqb (sons_of S.son) 3) ≡ c → (ws : List ℕ) × LevelWords p x h es ws
      go true i = let z = both (eqb p 0) (eqb (sons_of S.son) 3) i in near (eqb_is p 0 z.0, eqb_is (sons_of S.son) 3 z.1) S.before S.behind refl refl
      go false i = (S.son.latch ∷ [], (S, inl ((λ m. true≢false {b = eqb p 0 && eqb (sons_of S.son) 3} (rw (eqb_yes p 0 m.0, eqb_yes (sons_of S.son) 3 m.1) refl) i), refl)))

root_words : (h : ℕ) (t : Tree (suc h)) → (ws : List ℕ) × RootWords h t ws
root_words zero t = (t.latch ∷ [], refl)
root_words (suc h) t = go t.sons refl
  where
    go : (es : Sons (suc h)) → t.sons ≡ es → (ws : List ℕ) × RootWords (suc h) t ws
    go [] i = (t.latch ∷ [], inr ((λ n. absurd (omega (arith, n, ap length i))), refl))
    go (a ∷ []) i = (t.latch ∷ a.0.latch ∷ [], inl (a.0, a.1, i, refl))
    go (a ∷ b ∷ es) i = (t.latch ∷ [], inr ((λ n. absurd (omega (arith, n, ap length i))), refl))

-- Only one party can have the first.
first-same-party : (p q z : ℕ) → ¬ (q ≡ p) → ¬ (z ≡ p) → (pre post pre' post' : List ℕ) → pre ++ latch_word q ∷ post ≡ pre' ++ latch_word z ∷ post' → AllFree p pre → AllFree p pre' → q ≡ z
first-same-party p q z m n [] post [] post' e f g = cc
first-same-party p q z m n [] post (w ∷ pre') post' e f g = absurd (others g.0)
  where
    word : latch_word q ≡ w
    word = cc

    others : Free p w → ⊥
    others (inl i) = omega (arith, word, i)
    others (inr i) = m (omega (arith, word, i))
first-same-party p q z m n (w ∷ pre) post [] post' e f g = absurd (others f.0)
  where
    word : w ≡ latch_word z
    word = cc

    others : Free p w → ⊥
    others (inl i) = omega (arith, word, i)
    others (inr i) = n (omega (arith, word, i))
first-same-party p q z m n (w ∷ pre) post (v ∷ pre') post' e f g = first-same-party p q z m n pre post pre' post' rest f.1 g.1
  where
    rest : pre ++ latch_word q ∷ post ≡ pre' ++ latch_word z ∷ post'
    rest = cc

one-first : (p q z : ℕ) (ws : List ℕ) → ¬ (q ≡ p) → ¬ (z ≡ p) → FirstOf p ws q → FirstOf p ws z → q ≡ z
one-first p q z ws m n (pre, post, e, f) (pre', post', e', f') = first-same-party p q z m n pre post pre' post' (sym e ∙ e') f f'

-- ---- every step

module _ {s : State} (S : Sound s) (p : ℕ) (r : Request) (e : (session_of p s).hand ≡ some r) where
  pub holder-begun : (g : Stage) (q : ℕ) → LongLock r s g q → (session_of q s).begun ≡ true
  holder-begun g q l = S.only_begun l.kind l.held q l.what l.holding

  -- ---- and only that one

  -- Of two sessions with long locks each would have begun before the other.
  one-began : (g : Stage) → ((q : ℕ) → ShortLock p s g q → ⊥) → (q z : ℕ) → Named p r s g q → Named p r s g z → q ≡ z
  one-began g short q z N M = go (ℕ_discrete z q)
    where
      long : (y : ℕ) → LongLock r s g y ⊎ ShortLock p s g y → LongLock r s g y
      long y (inl l) = l
      long y (inr l) = absurd (short y l)

      go : Dec (z ≡ q) → q ≡ z
      go (yes d) = sym d
      go (no d) =
          let a = N.began_first z M.in_the_way.another (long z M.in_the_way.lock) d in
          let b = M.began_first q N.in_the_way.another (long q N.in_the_way.lock) (λ k. d (sym k)) in
          absurd (omega (arith, a, b))

  one-latched : (g : Stage) → (ws : List ℕ) × Latching p s g ws → (q z : ℕ) → Named p r s g q → Named p r s g z → q ≡ z
  one-latched g W q z N M = one-first p q z W.0 N.in_the_way.another M.in_the_way.another (N.first_latch W.0 W.1) (M.first_latch W.0 W.1)

  -- The nodes of a step that somebody's latch stops.
  node-words : (x q : ℕ) → r.stage ≡ at x → LongLock r s (at x) q ⊎ ShortLock p s (at x) q → (ws : List ℕ) × Latching p s (at x) ws
  node-words x q i (inl l) = absurd l.asks
  node-words x q i (inr (h, u, A, (t, I, l))) =
      let Z = sons-follow S p r e x i h u A in
      let w = level-words p x h Z.0 Z.1 u.sons Z.2 (not_lone S p r e x i h u A) I.0 in
      (w.0, (h, u, A, w.1))

  one_at : (g : Stage) → r.stage ≡ g → (q z : ℕ) → Named p r s g q → Named p r s g z → q ≡ z
  one_at start i q z N M = one-began start (λ y l. l) q z N M
  one_at (enter x) i q z N M = one-latched (enter x) (root_words s.root.height s.root.node) q z N M
  one_at (at x) i q z N M = one-latched (at x) (node-words x q i N.in_the_way.lock) q z N M
  one_at change i q z N M = one-began change (λ y l. l) q z N M
  one_at (take x) i q z N M = one-began (take x) (λ y l. l) q z N M

  pub named-one : (q z : ℕ) → Named p r s r.stage q → Named p r s r.stage z → q ≡ z
  named-one = one_at r.stage refl

-- An outcome of the next step of party p: it waits exactly if some party is in the way; then it names one, who is Named, and nothing is changed.
pub record WaitsNamed (p : ℕ) (r : Request) (s : State) (o : Outcome) : Type 0 where
  pub waits : ((ps : List ℕ) × (o.answer ≡ wait ps)) ↔ ((q : ℕ) × InTheWay p r s r.stage q)
  pub names : (ps : List ℕ) → o.answer ≡ wait ps → ps ≡ whom p r s ∷ []
  pub longest : (ps : List ℕ) → o.answer ≡ wait ps → Named p r s r.stage (whom p r s)
  pub unchanged : (ps : List ℕ) → o.answer ≡ wait ps → o.next ≡ s
