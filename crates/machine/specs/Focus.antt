-- The node at which a party stands, and the laws of a tree with a hole: what is in the hole is taken out, and another node put back.
use Rattle.std.specs.Prelude.{◌≡◌, refl, cond, List, [], ◌∷◌, ◌++◌, ◌⊎◌, zero, suc, ◌+◌, ◌≤◌, ℕ, eqb}
use Rattle.std.proofs.Common.{sym, ◌∙◌, subst, ap, append_assoc, append-nil, inl, inr, arith}
use Rattle.machine.specs.Logic.{eqb_yes, eqb_no, length-put}
use Rattle.machine.specs.Holders.{latch_word}
use Rattle.machine.specs.Tree.{onp, pick, flat, flat_append, sum_e, sum_e-append, Seg, seg-append, seg_cut, seg_below, Below, leaves, onp-hit, pick-hit}
use Rattle.machine.specs.State.{Desc, Tree, State, Outcome}
use Rattle.machine.specs.Descent.{Sons, sons_of, at_latch, on_latch}
use Rattle.machine.specs.Sound.{nodes, EndsWell, Shaped, latch_count, OnPath, Latched, Room}
use Rattle.machine.specs.Context.{Ctx, hole, down, plug, OnWay, Clear, Focus, Focused}

-- ---- a latched node is a focus

-- The sons cut at the one on the path to x, which has P.
pub record Parted {A : Type 0} (x : ℕ) (P : A → Type 0) (es : List (A × ℕ)) : Type 0 where
  pub pre : List (A × ℕ)
  pub a : A
  pub b : ℕ
  pub post : List (A × ℕ)
  pub is : es ≡ pre ++ (a, b) ∷ post
  pub below : Below x pre
  pub upto : x ≤ b
  pub holds : P a

pub parted : {A : Type 0} (x : ℕ) (P : A → Type 0) (es : List (A × ℕ)) → OnPath x P es → Parted x P es
parted x P [] o = absurd o
parted x P (p ∷ es) (inl o) = record { pre = []; a = p.0; b = p.1; post = es; is = refl; below = tt; upto = o.0; holds = o.1 }
parted x P (p ∷ es) (inr o) = let r = parted x P es o.1 in
    record { pre = p ∷ r.pre; a = r.a; b = r.b; post = r.post; is = ap (λ l. p ∷ l) r.is; below = (o.0, r.below); upto = r.upto; holds = r.holds }

-- The latch word w is at the node u of t, on the path to x.
record Located (w x : ℕ) (F : ℕ → ℕ → Type 0) (h : ℕ) (t : Tree h) : Type 0 where
  level : ℕ
  u : Tree (suc level)
  around : Ctx (suc level) h
  is : t ≡ plug around u
  way : OnWay x around
  clear : Clear w around
  latch : u.latch ≡ w
  room : F level (sons_of u)
  answers : (z : Outcome) (g : (h : ℕ) → Tree (suc h) → Outcome) → at_latch w x z g h t ≡ g level u
  changes : (f : (h : ℕ) → Tree (suc h) → Tree (suc h)) → on_latch w x f h t ≡ plug around (f level u)

located : (w x : ℕ) (F : ℕ → ℕ → Type 0) (h : ℕ) (t : Tree h) → Latched w x F h t → Located w x F h t
unfolding Latched at_latch on_latch
located w x F zero t l = absurd l
located w x F (suc h) t (inl l) = record {
  level = h;
  u = t;
  around = hole;
  is = refl;
  way = tt;
  clear = tt;
  latch = l.0;
  room = l.1;
  answers = λ z g. rw (eqb_yes t.latch w l.0) refl;
  changes = λ f. rw (eqb_yes t.latch w l.0) refl;
}
located w x F (suc h) t (inr l) = let c = parted x (Latched w x F h) t.sons l.1 in go c (located w x F h c.a c.holds)
  where
    go : (c : Parted x (Latched w x F h) t.sons) → Located w x F h c.a → Located w x F (suc h) t
    go c r = record {
      level = r.level;
      u = r.u;
      around = down t.latch c.pre r.around c.b c.post;
      is = ap (λ l. record { latch = t.latch; sons = l }) (c.is ∙ ap (λ a. c.pre ++ (a, c.b) ∷ c.post) r.is);
      way = (c.below, c.upto, r.way);
      clear = (l.0, r.clear);
      latch = r.latch;
      room = r.room;
      answers = λ z g. rw (eqb_no t.latch w l.0) (ap (pick x z (at_latch w x z g h)) c.is
          ∙ pick-hit x z (at_latch w x z g h) c.pre c.a c.b c.post c.below c.upto ∙ r.answers z g);
      changes = λ f. rw (eqb_no t.latch w l.0) (ap (λ l. record { latch = t.latch; sons = l })
          (ap (onp x (λ a b. (on_latch w x f h a, b) ∷ [])) c.is
          ∙ onp-hit x (λ a b. (on_latch w x f h a, b) ∷ []) c.pre c.a c.b c.post c.below c.upto
          ∙ ap (λ a. c.pre ++ (a, c.b) ∷ c.post) (r.changes f)));
    }

pub focused : (p x : ℕ) (s : State) → Latched (latch_word p) x (Room s p) (suc s.root.height) s.root.node → Focused p x s
focused p x s l =
    let r = located (latch_word p) x (Room s p) (suc s.root.height) s.root.node l in
    record {
      level = r.level;
      node = r.u;
      focus = record { around = r.around; is = r.is; way = r.way; clear = r.clear; latch = r.latch; room = r.room; answers = r.answers; changes = r.changes };
    }

-- ---- shape: out of the hole, and back

-- The least number of sons in the hole: the tree's own at its root, else 3.
abbrev pub least_in : {k h : ℕ} → Ctx k h → ℕ → ℕ
least_in hole least = least
least_in (down w pre c b post) least = 3

pub least-in-hole : {k h : ℕ} (c : Ctx k h) → (1 ≤ least_in c 1) × (least_in c 1 ≤ 3)
least-in-hole hole = (omega arith, omega arith)
least-in-hole (down v pre c b post) = (omega arith, omega arith)

-- The hole is the whole tree.
abbrev pub Whole : {k h : ℕ} → Ctx k h → Type 0
Whole hole = Unit {0}
Whole (down w pre c b post) = ⊥

pub whole-least : {k h : ℕ} (c : Ctx k h) (least : ℕ) → Whole c → least_in c least ≡ least
whole-least hole least w = refl
whole-least (down v pre c b post) least w = absurd w

pub record Lens {k h : ℕ} (c : Ctx (suc k) h) (least lo hi : ℕ) (u : Tree (suc k)) : Type 0 where
  pub lo' : ℕ
  pub hi' : ℕ
  pub sub : Shaped (suc k) (least_in c least) lo' hi' u
  pub inside : (x : ℕ) → OnWay x c → lo ≤ x → x ≤ hi → (lo' ≤ x) × (x ≤ hi')
  pub back : (u' : Tree (suc k)) → Shaped (suc k) (least_in c least) lo' hi' u' → Shaped h least lo hi (plug c u')

-- Above a node, the sons' own keys are not looked at.
ends-free : {k h : ℕ} (c : Ctx (suc k) h) (es : Sons h) → EndsWell h es
ends-free hole es = tt
ends-free (down v pre c b post) es = tt

pub shaped-plug : {k h : ℕ} (c : Ctx (suc k) h) (least lo hi : ℕ) (u : Tree (suc k)) → Shaped h least lo hi (plug c u) → Lens c least lo hi u
unfolding Shaped
shaped-plug hole least lo hi u S = record { lo' = lo; hi' = hi; sub = S; inside = λ x o a b. (a, b); back = λ u' S'. S' }
shaped-plug {k = k} (down {h = h} v pre c b post) least lo hi u S =
    let z = seg_cut (Shaped h 3) lo (suc hi) pre ((plug c u, b) ∷ post) S.3 in
    go z.0 z.1 z.2.1 (shaped-plug c 3 z.0 b u z.2.0)
  where
    go : (m : ℕ) → Seg (Shaped h 3) lo m pre → Seg (Shaped h 3) (suc b) (suc hi) post → Lens c 3 m b u → Lens (down v pre c b post) least lo hi u
    go m before behind r = record {
      lo' = r.lo';
      hi' = r.hi';
      sub = subst (λ n. Shaped (suc k) n r.lo' r.hi' u) (three c) r.sub;
      inside = λ x o p q. r.inside x o.2 (seg_below (Shaped h 3) x lo m pre before o.0 p) o.1;
      back = λ u' S'. (
        subst (λ n. least ≤ n) (length-put (plug c u', b) (plug c u, b) pre post) S.0,
        subst (λ n. n ≤ 8) (length-put (plug c u', b) (plug c u, b) pre post) S.1,
        ends-free c (pre ++ (plug c u', b) ∷ post),
        seg-append (Shaped h 3) lo m (suc hi) pre ((plug c u', b) ∷ post) before (r.back u' (subst (λ n. Shaped (suc k) n r.lo' r.hi' u') (sym (three c)) S'), behind),
      );
    }
      where
        three : {j i : ℕ} (e : Ctx j i) → least_in e 3 ≡ 3
        three hole = refl
        three (down w l e d r) = refl

-- ---- counts and leaves

unfoldable pub nodes_around : {k h : ℕ} → Ctx k h → ℕ
nodes_around hole = 0
nodes_around (down {h = h} v pre c b post) = suc (sum_e (nodes h) pre + nodes_around c + sum_e (nodes h) post)

pub nodes-plug : {k h : ℕ} (c : Ctx k h) (u : Tree k) → nodes h (plug c u) ≡ nodes_around c + nodes k u
unfolding nodes nodes_around
nodes-plug hole u = omega arith
nodes-plug (down {h = h} v pre c b post) u = omega (arith, sum_e-append (nodes h) pre ((plug c u, b) ∷ post), nodes-plug c u)

unfoldable pub latches_around : {k h : ℕ} → ℕ → Ctx k h → ℕ
latches_around w hole = 0
latches_around w (down {h = h} v pre c b post) = cond (eqb v w) 1 0 + (sum_e (latch_count w h) pre + latches_around w c + sum_e (latch_count w h) post)

pub latches-plug : {k h : ℕ} (w : ℕ) (c : Ctx k h) (u : Tree k) → latch_count w h (plug c u) ≡ latches_around w c + latch_count w k u
unfolding latch_count latches_around
latches-plug w hole u = omega arith
latches-plug w (down {h = h} v pre c b post) u = omega (arith, sum_e-append (latch_count w h) pre ((plug c u, b) ∷ post), latches-plug w c u)

-- The leaves on both sides of the hole.
unfoldable pub before : {k h : ℕ} → Ctx k h → List Desc
before hole = []
before (down {h = h} v pre c b post) = flat (leaves Desc ℕ h) pre ++ before c

unfoldable pub behind : {k h : ℕ} → Ctx k h → List Desc
behind hole = []
behind (down {h = h} v pre c b post) = behind c ++ flat (leaves Desc ℕ h) post

pub leaves-plug : {k h : ℕ} (c : Ctx k h) (u : Tree k) → leaves Desc ℕ h (plug c u) ≡ before c ++ (leaves Desc ℕ k u ++ behind c)
unfolding before behind leaves
leaves-plug {k} hole u = sym (append-nil (leaves Desc ℕ k u))
leaves-plug {k} (down {h = h} v pre c b post) u = rw (flat_append (leaves Desc ℕ h) pre ((plug c u, b) ∷ post), leaves-plug c u) (simp append_assoc)

-- ---- the housekeeper's node

-- It has at least 4 sons, or it is the root and has no lone node for a son.
pub keeper-room : (x : ℕ) (s : State) (k : ℕ) (u : Tree (suc k)) (F : Focus 0 x s k u)
    → (4 ≤ sons_of u) ⊎ (Whole F.around × ((k ≡ 0) ⊎ ¬ (sons_of u ≡ 1)))
keeper-room x s k u F = go F.room
  where
    at-root : {i j : ℕ} (c : Ctx (suc i) (suc j)) (t : Tree (suc j)) (v : Tree (suc i)) → t ≡ plug c v → Clear (latch_word 0) c → t.latch ≡ latch_word 0 → Whole c
    at-root hole t v e cl l = tt
    at-root (down w pre c b post) t v e cl l = cl.0 (sym (ap (λ n. n.latch) e) ∙ l)

    go : (4 ≤ sons_of u) ⊎ ((s.root.node.latch ≡ latch_word 0) × ((k ≡ 0) ⊎ ¬ (sons_of u ≡ 1)))
        → (4 ≤ sons_of u) ⊎ (Whole F.around × ((k ≡ 0) ⊎ ¬ (sons_of u ≡ 1)))
    go (inl m) = inl m
    go (inr r) = inr (at-root F.around s.root.node u F.is F.clear r.0, r.1)
