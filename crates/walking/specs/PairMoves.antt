-- One level down for the housekeeper where the son on the path has 3 sons; and one level down, whole: the step on words is the machine's.
use Rattle.std.specs.Prelude.{◌≡◌, Bool, ◌&&◌, ◌⊎◌, eqb}
use Rattle.std.proofs.Math.Path.{refl, subst}
use Rattle.std.proofs.Common.{sym, ap, ◌∙◌, inl, inr, add-one, eq-eqb, ne_eqb}
use Rattle.std.proofs.Math.Bool.{true, false, cond}
use mathlib.Core.List.{List, [], ◌∷◌, ◌++◌, append_assoc}
use Prim.Native.Nat.{ℕ, suc, ◌+◌, ◌-◌, ◌≤◌, ◌<◌}
use native.Mathlib.Omega.{arith}
use Rattle.std.proofs.Math.Dec.{leb}
use Rattle.std.proofs.Math.ListN.{length, length-append}
use Rattle.nodes.specs.Node.{node_at}
use Rattle.nodes.specs.Ops.{son_for}
use Rattle.sessions.specs.declared.Session.{Session}
use Rattle.sessions.specs.Sessions.{session_at}
use Rattle.machine.specs.Logic.{leb-is, leb-not, eqb_is, both}
use Rattle.machine.specs.Tree.{map_e, map_e-append, Below}
use Rattle.machine.specs.Holders.{width, latch_word, latch_blockers}
use Rattle.machine.specs.State.{Tree, Request, State, Outcome, at, more}
use Rattle.machine.specs.Descent.{Sons, sons_of, joins, pick_pair}
use Rattle.machine.specs.Steps.{answer, goes_on, guarded, small, fills, son-at, taking_part, level_blockers, level_need, level_state, level-step, stand_step, at_step, next_step}
use Rattle.machine.specs.InTheWay.{Free}
use Rattle.machine.specs.Parts.{free-words}
use Rattle.machine.specs.Context.{Focus}
use Rattle.machine.specs.Sound.{Room}
use Rattle.meaning.specs.Reading.{Mark, Numbered, erase, stage_of, M-of}
use Rattle.meaning.specs.Around.{NCtx, fill, num_of, below-erase}
use Rattle.layout.specs.Layout.{Lay, Each, Holds, means}
use Rattle.layout.specs.Row.{Stands}
use Rattle.layout.specs.Places.{Erased}
use Rattle.layout.specs.Asked.{request_in, wait-moves}
use Rattle.layout.specs.Room.{Sizes, sizes-of}
use Rattle.outcomes.specs.Said.{Stepped}
use Rattle.nodes.specs.Paths.{son_at, son_toward}
use Rattle.descents.specs.Descents.{first_in_way}
use Rattle.joins.specs.Joins.{pair_place, down_bound, join_sons, move_right, move_left}
use Rattle.walking.specs.Hands.{nd}
use Rattle.walking.specs.Levels.{length-map_e}
use Rattle.walking.specs.Pairs.{down_num, AtPair, pair-pick, A-count, B-count, A-latch, B-latch, left_son, right_son, pair-place-is, first-is, down_is, join_is, join-becomes, right-words-is, right-becomes, left-words-is, left-becomes}
use Rattle.walking.specs.Sites.{Site, site-of}
use Rattle.walking.specs.Ways.{Way, clear, shut, way-two}
use Rattle.walking.specs.AloneMoves.{Steps, guard_shut, guard-open, site_son, picked, step-level, count_is, many_is, alone-moves}
use Rattle.walking.specs.Walking.{waits_for, stands_at, mend_step, pair_step, alone_step, level_step}

-- ---- lists by their last

pub data Snoc {A : Type 0} (es : List (A × ℕ)) : Type 0 where
  empty : es ≡ [] → Snoc es
  last : (init : List (A × ℕ)) (z : A) (b : ℕ) → es ≡ init ++ (z, b) ∷ [] → Snoc es

pub snoc_of : {A : Type 0} (es : List (A × ℕ)) → Snoc es
snoc_of [] = empty refl
snoc_of (e ∷ es) = go (snoc_of es)
  where
    go : Snoc es → Snoc (e ∷ es)
    go (empty q) = last [] e.0 e.1 (ap (λ l. e ∷ l) q)
    go (last init z b q) = last (e ∷ init) z b (ap (λ l. e ∷ l) q)

-- ---- the pair

pub record PairSite (L : Lay) (t : List Session) (p : ℕ) : Type 0 where
  pub k : ℕ
  pub around : NCtx (suc (suc k)) (suc L.height)
  pub mark : Mark
  pub pre : List (Numbered (suc k) × ℕ)
  pub wa : Mark
  pub ai : List (Numbered k × ℕ)
  pub z : Numbered k
  pub zb : ℕ
  pub va : ℕ
  pub b : Numbered (suc k)
  pub vb : ℕ
  pub post : List (Numbered (suc k) × ℕ)
  pub is : L.tree ≡ fill around (nd mark (pre ++ (nd wa (ai ++ (z, zb) ∷ []), va) ∷ (b, vb) ∷ post))
  pub num : mark.num ≡ (session_at t p).at
  pub word : mark.word ≡ latch_word p
  pub level : (session_at t p).level ≡ suc (suc k)
  pub low : Below (session_at t p).target pre
  pub which : ((pre ≡ []) × ((session_at t p).target ≤ va)) ⊎ (va < (session_at t p).target)
  pub upto : (session_at t p).target ≤ vb
  pub some_a : 3 ≤ suc (length ai)
  pub some_b : 3 ≤ length b.sons
  pub three : ((session_at t p).target ≤ va → suc (length ai) ≡ 3) × (va < (session_at t p).target → length b.sons ≡ 3)
  pub focus : Focus p (session_at t p).target (means L t) (suc k) (erase (suc (suc k)) (nd mark (pre ++ (nd wa (ai ++ (z, zb) ∷ []), va) ∷ (b, vb) ∷ post)))
  pub erased : Erased L t p (session_at t p).target (suc k) (erase (suc (suc k)) (nd mark (pre ++ (nd wa (ai ++ (z, zb) ∷ []), va) ∷ (b, vb) ∷ post))) focus around
  pub small_son : sons_of (son-at (session_at t p).target k (map_e (erase (suc k)) (pre ++ (nd wa (ai ++ (z, zb) ∷ []), va) ∷ (b, vb) ∷ post))) ≡ 3

module _ (L : Lay) (t : List Session) (p : ℕ) where
  record Seat (k : ℕ) (c : NCtx (suc (suc k)) (suc L.height)) (n : Numbered (suc (suc k))) : Type 0 where
    is : L.tree ≡ fill c n
    focus : Focus p (session_at t p).target (means L t) (suc k) (erase (suc (suc k)) n)
    erased : Erased L t p (session_at t p).target (suc k) (erase (suc (suc k)) n) focus c
    small_son : sons_of (son-at (session_at t p).target k (map_e (erase (suc k)) n.sons)) ≡ 3

  below_parts : {A : Type 0} (x : ℕ) (es : List (A × ℕ)) (a : A) (v : ℕ) → Below x (es ++ (a, v) ∷ []) → Below x es × (v < x)
  below_parts x [] a v b = (tt, b.0)
  below_parts x (e ∷ es) a v b = let r = below_parts x es a v b.1 in ((b.0, r.0), r.1)

  each-parts : {A : Type 0} (P : ℕ → A → Type 0) (es : List (A × ℕ)) (a : A) (v : ℕ) → Each P (es ++ (a, v) ∷ []) → P v a
  each-parts P [] a v e = e.0
  each-parts P (q ∷ es) a v e = each-parts P es a v e.1

  -- The left one by its last son.
  pub pair-site : (N : Site L t p) → 2 ≤ length (N.pre ++ (N.son, N.bound) ∷ N.post) → length N.son.sons ≡ 3
      → sons_of (son-at (session_at t p).target N.k (map_e (erase (suc N.k)) (N.pre ++ (N.son, N.bound) ∷ N.post))) ≡ 3 → PairSite L t p
  pair-site N two three small = by (snoc_of N.pre)
    where
      T₀ : Seat N.k N.around (nd N.mark (N.pre ++ (N.son, N.bound) ∷ N.post))
      T₀ = record { is = N.is; focus = N.focus; erased = N.erased; small_son = small }

      first : N.pre ≡ [] → (b : Numbered (suc N.k)) (vb : ℕ) (post : List (Numbered (suc N.k) × ℕ)) → N.post ≡ (b, vb) ∷ post → (session_at t p).target ≤ vb → Snoc N.son.sons → PairSite L t p
      first e b vb post q u (empty z) = absurd (omega (arith, three, ap length z))
      first e b vb post q u (last ai z zb d) =
          let a : Numbered (suc N.k) = nd N.son.latch (ai ++ (z, zb) ∷ []) in
          let son_is : N.son ≡ a = ap (λ l. record { latch = N.son.latch; sons = l }) d in
          let eq : nd N.mark (N.pre ++ (N.son, N.bound) ∷ N.post) ≡ nd N.mark ([] ++ (a, N.bound) ∷ (b, vb) ∷ post) = λ j. nd N.mark (e j ++ (son_is j, N.bound) ∷ q j) in
          let T = subst (Seat N.k N.around) eq T₀ in
          let many : suc (length ai) ≡ 3 = omega (arith, three, ap length d, length-append ai ((z, zb) ∷ [])) in
          record {
            k = N.k;
            around = N.around;
            mark = N.mark;
            pre = [];
            wa = N.son.latch;
            ai = ai;
            z = z;
            zb = zb;
            va = N.bound;
            b = b;
            vb = vb;
            post = post;
            is = T.is;
            num = N.num;
            word = N.word;
            level = N.level;
            low = tt;
            which = inl (refl, N.upto);
            upto = u;
            some_a = omega (arith, many);
            some_b = (subst (Each (λ u a. 3 ≤ length a.sons)) q N.some_post).0;
            three = (λ _. many, λ o. absurd (omega (arith, o, N.upto)));
            focus = T.focus;
            erased = T.erased;
            small_son = T.small_son;
          }

      second : (pre : List (Numbered (suc N.k) × ℕ)) (a₀ : Numbered (suc N.k)) (va : ℕ) → N.pre ≡ pre ++ (a₀, va) ∷ [] → Snoc a₀.sons → PairSite L t p
      second pre a₀ va e (empty z) = absurd (omega (arith, each-parts (λ u a. 3 ≤ length a.sons) pre a₀ va (subst (Each (λ u a. 3 ≤ length a.sons)) e N.some_pre), ap length z))
      second pre a₀ va e (last ai z zb d) =
          let some₀ = each-parts (λ u a. 3 ≤ length a.sons) pre a₀ va (subst (Each (λ u a. 3 ≤ length a.sons)) e N.some_pre) in
          let a : Numbered (suc N.k) = nd a₀.latch (ai ++ (z, zb) ∷ []) in
          let a-is : a₀ ≡ a = ap (λ l. record { latch = a₀.latch; sons = l }) d in
          let eq : nd N.mark (N.pre ++ (N.son, N.bound) ∷ N.post) ≡ nd N.mark (pre ++ (a, va) ∷ (N.son, N.bound) ∷ N.post) =
          ap (nd N.mark) (ap (λ es. es ++ (N.son, N.bound) ∷ N.post) e ∙ append_assoc pre ((a₀, va) ∷ []) ((N.son, N.bound) ∷ N.post) ∙ ap (λ o. pre ++ (o, va) ∷ (N.son, N.bound) ∷ N.post) a-is) in
          let T = subst (Seat N.k N.around) eq T₀ in
          let low = below_parts (session_at t p).target pre a₀ va (subst (Below (session_at t p).target) e N.low) in
          record {
            k = N.k;
            around = N.around;
            mark = N.mark;
            pre = pre;
            wa = a₀.latch;
            ai = ai;
            z = z;
            zb = zb;
            va = va;
            b = N.son;
            vb = N.bound;
            post = N.post;
            is = T.is;
            num = N.num;
            word = N.word;
            level = N.level;
            low = low.0;
            which = inr low.1;
            upto = N.upto;
            some_a = omega (arith, some₀, ap length d, length-append ai ((z, zb) ∷ []));
            some_b = N.some_sons;
            three = (λ o. absurd (omega (arith, o, low.1)), λ _. three);
            focus = T.focus;
            erased = T.erased;
            small_son = T.small_son;
          }

      behind : N.pre ≡ [] → (es : List (Numbered (suc N.k) × ℕ)) → N.post ≡ es → PairSite L t p
      behind e [] q = absurd (omega (arith, two, length-append N.pre ((N.son, N.bound) ∷ N.post), ap length e, ap length q))
      behind e (o ∷ es) q = first e o.0 o.1 es q (omega (arith, N.upto, N.rising o.0 o.1 es q)) (snoc_of N.son.sons)

      by : Snoc N.pre → PairSite L t p
      by (empty e) = behind e N.post refl
      by (last pre a₀ va e) = second pre a₀ va e (snoc_of a₀.sons)

-- ---- the step

module _ (s : List ℕ) (t : List Session) (A : Stands s t) (p : ℕ) (lp : p ≤ width) (st : (session_at t p).stage ≡ 3) (N : PairSite A.lay t p) (zero-p : p ≡ 0) where
  abbrev L : Lay
  L = A.lay

  abbrev H : Holds s t A.lay
  H = A.holds

  abbrev m : ℕ
  m = M-of s

  abbrev x : Session
  x = session_at t p

  abbrev key : ℕ
  key = (session_at t p).target

  abbrev σ : State
  σ = means A.lay t

  abbrev Z : Sizes A.lay
  Z = sizes-of A.lay t A.sound

  abbrev a : Numbered (suc N.k)
  a = nd N.wa (N.ai ++ (N.z, N.zb) ∷ [])

  abbrev l : ℕ
  l = N.wa.num

  abbrev q : ℕ
  q = N.b.latch.num

  abbrev i₀ : ℕ
  i₀ = length (map_e (num_of (suc N.k)) N.pre)

  abbrev dn : ℕ
  dn = down_num N.k N.z N.zb

  abbrev ES : Sons (suc N.k)
  ES = map_e (erase (suc N.k)) (N.pre ++ (a, N.va) ∷ (N.b, N.vb) ∷ N.post)

  abbrev S : Tree (suc N.k)
  S = son-at key N.k ES

  abbrev rq : Request
  rq = request_in x

  pub some_b : 1 ≤ length N.b.sons
  some_b = omega (arith, N.some_b)

  small_is : small p N.k S ≡ true
  small_is = rw (eq-eqb p 0 zero-p, eq-eqb (sons_of S) 3 N.small_son) refl

  fills-is : fills p N.k S ≡ false
  fills-is = rw (eq-eqb p 0 zero-p) refl

  at_pair : AtPair s t L H Z N.around N.mark N.pre N.wa N.ai N.z N.zb N.va N.b N.vb N.post N.is some_b key
  at_pair = record { low = below-erase (erase (suc N.k)) key N.pre N.low; left = λ n. by N.which n; upto = N.upto }
    where
      by : ((N.pre ≡ []) × (key ≤ N.va)) ⊎ (N.va < key) → 1 ≤ length (map_e (erase (suc N.k)) N.pre) → N.va < key
      by (inl e) n = absurd (omega (arith, n, ap (λ es. length (map_e (erase (suc N.k)) es)) e.0))
      by (inr u) n = u

  step-pair : at_step p rq key σ ≡ level-step p rq key σ N.k ES S
  unfolding at_step stand_step erase
  step-pair = N.focus.answers (answer more σ) (stand_step p rq key σ)

  -- ---- the words' own

  here-is : x.at ≡ N.mark.num
  here-is = sym N.num

  pub place : pair_place (node_at s m x.at) key ≡ i₀
  place = subst (λ i. pair_place (node_at s m i) key ≡ i₀) N.num
      (pair-place-is s t L H Z N.around N.mark N.pre N.wa N.ai N.z N.zb N.va N.b N.vb N.post N.is some_b key N.low N.which N.upto)

  pub lo-is : son_at s m N.mark.num i₀ ≡ l
  lo-is = left_son s t L H Z N.around N.mark N.pre N.wa N.ai N.z N.zb N.va N.b N.vb N.post N.is some_b

  pub qo-is : son_at s m N.mark.num (i₀ + 1) ≡ q
  qo-is = right_son s t L H Z N.around N.mark N.pre N.wa N.ai N.z N.zb N.va N.b N.vb N.post N.is some_b

  pub first : eqb (son_for (node_at s m N.mark.num) key) 0 ≡ leb key N.va
  first = first-is s t L H Z N.around N.mark N.pre N.wa N.ai N.z N.zb N.va N.b N.vb N.post N.is some_b key N.low N.which N.upto

  pub count-a : (node_at s m l).count ≡ suc (length N.ai)
  count-a = A-count s t L H Z N.around N.mark N.pre N.wa N.ai N.z N.zb N.va N.b N.vb N.post N.is some_b

  pub count-b : (node_at s m q).count ≡ length N.b.sons
  count-b = B-count s t L H Z N.around N.mark N.pre N.wa N.ai N.z N.zb N.va N.b N.vb N.post N.is some_b

  level-down : x.level - 1 ≡ suc N.k
  level-down = omega (arith, N.level)

  down-now : down_bound s m (suc N.k) N.mark.num i₀ ≡ dn
  down-now = down_is s t L H Z N.around N.mark N.pre N.wa N.ai N.z N.zb N.va N.b N.vb N.post N.is some_b

  -- The mending, of what its parts are.
  chosen : Bool → ℕ → ℕ → ℕ → ℕ → ℕ → ℕ → ℕ → ℕ → ℕ → Stepped
  chosen f ca cb h i lo qo d w lv =
      cond (leb (cond f cb ca) 5) (stands_at (join_sons s m h i d w) x lo lv) (cond f (stands_at (move_left s m h i d w) x lo lv) (stands_at (move_right s m h i d w) x qo lv))

  mend-is : mend_step s m p x ≡ chosen (leb key N.va) (suc (length N.ai)) (length N.b.sons) N.mark.num i₀ l q dn (latch_word p) (suc N.k)
  unfolding mend_step chosen
  mend-is =
      (λ j. chosen (eqb (son_for (node_at s m (here-is j)) key) 0) (node_at s m (son_at s m (here-is j) (place j))).count (node_at s m (son_at s m (here-is j) (place j + 1))).count (here-is j) (place j)
      (son_at s m (here-is j) (place j)) (son_at s m (here-is j) (place j + 1)) (down_bound s m (level-down j) (here-is j) (place j)) (add-one p j) (level-down j))
      ∙ (λ j. chosen (first j) (node_at s m (lo-is j)).count (node_at s m (qo-is j)).count N.mark.num i₀ (lo-is j) (qo-is j) (down-now j) (latch_word p) (suc N.k))
      ∙ (λ j. chosen (leb key N.va) (count-a j) (count-b j) N.mark.num i₀ l q dn (latch_word p) (suc N.k))

  abbrev goal : Outcome
  goal = goes_on p (request_in (session_at t p)) (at (session_at t p).target) (level_state p (session_at t p).target (means A.lay t) N.k ES S)

  joins-is : joins key N.k (erase (suc N.k) a, N.va) (erase (suc N.k) N.b, N.vb) ≡ leb (cond (leb key N.va) (length N.b.sons) (suc (length N.ai))) 5
  unfolding erase
  joins-is =
      let e₁ = length-map_e (erase N.k) N.b.sons in
      let e₂ : length (map_e (erase N.k) (N.ai ++ (N.z, N.zb) ∷ [])) ≡ suc (length N.ai) = length-map_e (erase N.k) (N.ai ++ (N.z, N.zb) ∷ []) ∙ length-append N.ai ((N.z, N.zb) ∷ []) ∙ omega arith in
      λ j. leb (cond (leb key N.va) (e₁ j) (e₂ j)) 5

  module _ (fa : Free p N.wa.word) (fb : Free p N.b.latch.word) where
    join-moves : leb (cond (leb key N.va) (length N.b.sons) (suc (length N.ai))) 5 ≡ true
        → Steps s t p (stands_at (join_sons s m N.mark.num i₀ dn (latch_word p)) x l (suc N.k)) goal
    join-moves e =
        let room = by (leb key N.va) refl e in
        subst (λ z. Steps s t p (stands_at z x l (suc N.k)) goal)
        (sym (join_is s t L H Z N.around N.mark N.pre N.wa N.ai N.z N.zb N.va N.b N.vb N.post N.is some_b (latch_word p) room))
        (record {
          becomes = join-becomes s t L H Z N.around N.mark N.pre N.wa N.ai N.z N.zb N.va N.b N.vb N.post N.is some_b p lp st N.word fa fb at_pair small_is fills-is N.focus N.erased room (joins-is ∙ e);
          tells = unfold goes_on in refl;
        })
      where
        by : (c : Bool) → leb key N.va ≡ c → leb (cond c (length N.b.sons) (suc (length N.ai))) 5 ≡ true → suc (length N.ai) + length N.b.sons ≤ 8
        by true c e = omega (arith, N.three.0 (leb-is key N.va c), leb-is (length N.b.sons) 5 e)
        by false c e = omega (arith, N.three.1 (leb-not key N.va c), leb-is (suc (length N.ai)) 5 e)

    left-moves : leb (cond (leb key N.va) (length N.b.sons) (suc (length N.ai))) 5 ≡ false → leb key N.va ≡ true
        → Steps s t p (stands_at (move_left s m N.mark.num i₀ dn (latch_word p)) x l (suc N.k)) goal
    left-moves e c = by N.b.sons refl
      where
        many : 5 < length N.b.sons
        many = leb-not (length N.b.sons) 5 (subst (λ o. leb (cond o (length N.b.sons) (suc (length N.ai))) 5 ≡ false) c e)

        by : (es : List (Numbered N.k × ℕ)) → N.b.sons ≡ es → Steps s t p (stands_at (move_left s m N.mark.num i₀ dn (latch_word p)) x l (suc N.k)) goal
        by [] q = absurd (omega (arith, many, ap length q))
        by (y ∷ []) q = absurd (omega (arith, many, ap length q))
        by (y ∷ y₂ ∷ bs) q =
            let room : suc (length N.ai) < 8 = omega (arith, N.three.0 (leb-is key N.va c)) in
            subst (λ z. Steps s t p (stands_at z x l (suc N.k)) goal)
            (sym (left-words-is s t L H Z N.around N.mark N.pre N.wa N.ai N.z N.zb N.va N.b N.vb N.post N.is some_b (latch_word p) y.0 y.1 y₂.0 y₂.1 bs q room))
            (record {
              becomes = left-becomes s t L H Z N.around N.mark N.pre N.wa N.ai N.z N.zb N.va N.b N.vb N.post N.is some_b p lp st N.word fa fb at_pair small_is fills-is N.focus N.erased
                  y.0 y.1 y₂.0 y₂.1 bs q room (joins-is ∙ e) c;
              tells = unfold goes_on in refl;
            })

    right-moves : leb (cond (leb key N.va) (length N.b.sons) (suc (length N.ai))) 5 ≡ false → leb key N.va ≡ false
        → Steps s t p (stands_at (move_right s m N.mark.num i₀ dn (latch_word p)) x q (suc N.k)) goal
    right-moves e c = by (snoc_of N.ai)
      where
        many : 5 < suc (length N.ai)
        many = leb-not (suc (length N.ai)) 5 (subst (λ o. leb (cond o (length N.b.sons) (suc (length N.ai))) 5 ≡ false) c e)

        by : Snoc N.ai → Steps s t p (stands_at (move_right s m N.mark.num i₀ dn (latch_word p)) x q (suc N.k)) goal
        by (empty q) = absurd (omega (arith, many, ap length q))
        by (last ay y yb ai-is) =
            let room : length N.b.sons < 8 = omega (arith, N.three.1 (leb-not key N.va c)) in
            subst (λ z. Steps s t p (stands_at z x q (suc N.k)) goal)
            (sym (right-words-is s t L H Z N.around N.mark N.pre N.wa N.ai N.z N.zb N.va N.b N.vb N.post N.is some_b (latch_word p) ay y yb ai-is room))
            (record {
              becomes = right-becomes s t L H Z N.around N.mark N.pre N.wa N.ai N.z N.zb N.va N.b N.vb N.post N.is some_b p lp st N.word fa fb at_pair small_is fills-is N.focus N.erased
                  ay y yb ai-is room (joins-is ∙ e) c;
              tells = unfold goes_on in refl;
            })

    mend-moves : Steps s t p (mend_step s m p x) goal
    unfolding chosen
    mend-moves = subst (λ z. Steps s t p z goal) (sym mend-is) (go (leb (cond (leb key N.va) (length N.b.sons) (suc (length N.ai))) 5) refl)
      where
        pick : leb (cond (leb key N.va) (length N.b.sons) (suc (length N.ai))) 5 ≡ false → (f : Bool) → leb key N.va ≡ f
            → Steps s t p (cond f (stands_at (move_left s m N.mark.num i₀ dn (latch_word p)) x l (suc N.k)) (stands_at (move_right s m N.mark.num i₀ dn (latch_word p)) x q (suc N.k))) goal
        pick e true c = left-moves e c
        pick e false c = right-moves e c

        go : (o : Bool) → leb (cond (leb key N.va) (length N.b.sons) (suc (length N.ai))) 5 ≡ o
            → Steps s t p (cond o (stands_at (join_sons s m N.mark.num i₀ dn (latch_word p)) x l (suc N.k))
            (cond (leb key N.va) (stands_at (move_left s m N.mark.num i₀ dn (latch_word p)) x l (suc N.k)) (stands_at (move_right s m N.mark.num i₀ dn (latch_word p)) x q (suc N.k)))) goal
        go true e = join-moves e
        go false e = pick e (leb key N.va) refl

  part-is : level_blockers p key N.k ES S ≡ latch_blockers p (N.wa.word ∷ N.b.latch.word ∷ [])
  unfolding taking_part erase
  part-is =
      let E = erase (suc N.k) in
      rw (small_is)
      (ap (latch_blockers p)
      (ap (pick_pair key [] (λ a b. a.0.latch ∷ b.0.latch ∷ [])) (map_e-append E N.pre ((a, N.va) ∷ (N.b, N.vb) ∷ N.post))
      ∙ pair-pick key [] (λ a b. a.0.latch ∷ b.0.latch ∷ []) (map_e E N.pre) (E a, N.va) (E N.b, N.vb) (map_e E N.post) at_pair.low at_pair.left at_pair.upto))

  word-a : (node_at s m (son_at s m x.at (pair_place (node_at s m x.at) key))).latch ≡ N.wa.word
  word-a =
      (λ j. (node_at s m (son_at s m (here-is j) (place j))).latch) ∙ ap (λ i. (node_at s m i).latch) lo-is
      ∙ A-latch s t L H Z N.around N.mark N.pre N.wa N.ai N.z N.zb N.va N.b N.vb N.post N.is some_b

  word-b : (node_at s m (son_at s m x.at (pair_place (node_at s m x.at) key + 1))).latch ≡ N.b.latch.word
  word-b =
      (λ j. (node_at s m (son_at s m (here-is j) (place j + 1))).latch) ∙ ap (λ i. (node_at s m i).latch) qo-is
      ∙ B-latch s t L H Z N.around N.mark N.pre N.wa N.ai N.z N.zb N.va N.b N.vb N.post N.is some_b

  pair_is : pair_step s m p x ≡ cond (eqb (first_in_way p N.wa.word N.b.latch.word) 0) (mend_step s m p x) (waits_for s x (first_in_way p N.wa.word N.b.latch.word))
  unfolding pair_step
  pair_is = λ j. cond (eqb (first_in_way p (word-a j) (word-b j)) 0) (mend_step s m p x) (waits_for s x (first_in_way p (word-a j) (word-b j)))

  pub pair-moves : Steps s t p (pair_step s m p x) (level-step p rq key σ N.k ES S)
  unfolding level-step
  pair-moves = subst (λ y. Steps s t p y (guarded (level_blockers p key N.k ES S) (level_need p N.k S) p rq σ goal)) (sym pair_is) (go (way-two p N.wa.word N.b.latch.word))
    where
      go : Way (first_in_way p N.wa.word N.b.latch.word) (latch_blockers p (N.wa.word ∷ N.b.latch.word ∷ []))
          → Steps s t p (cond (eqb (first_in_way p N.wa.word N.b.latch.word) 0) (mend_step s m p x) (waits_for s x (first_in_way p N.wa.word N.b.latch.word))) (guarded (level_blockers p key N.k ES S) (level_need p N.k S) p rq σ goal)
      go (clear e f) =
          let fs = free-words p (N.wa.word ∷ N.b.latch.word ∷ []) f in
          let need : level_need p N.k S ≡ 0 = rw (fills-is) refl in
          rw (eq-eqb (first_in_way p N.wa.word N.b.latch.word) 0 e)
          (subst (λ y. Steps s t p (mend_step s m p x) y) (sym (guard-open (level_need p N.k S) p rq σ goal (level_blockers p key N.k ES S) (part-is ∙ f) (omega (arith, need)))) (mend-moves fs.0 fs.1.0))
      go (shut n c cs f g) =
          rw (ne_eqb (first_in_way p N.wa.word N.b.latch.word) 0 n)
          (subst (λ y. Steps s t p (waits_for s x (first_in_way p N.wa.word N.b.latch.word)) y) (sym (guard_shut c cs (level_need p N.k S) p rq σ goal (level_blockers p key N.k ES S) (part-is ∙ f)))
          (wait-moves s t A p (first_in_way p N.wa.word N.b.latch.word - 1) c cs g))

-- ---- one level down, whole

-- The housekeeper's node has a neighbour for each son.
pub site-many : (L : Lay) (t : List Session) (p : ℕ) (N : Site L t p) → p ≡ 0 → 2 ≤ length (N.pre ++ (N.son, N.bound) ∷ N.post)
unfolding erase
site-many L t p N e = at_least (subst (λ q. Room (means L t) q (suc N.k) (length (map_e (erase (suc N.k)) (N.pre ++ (N.son, N.bound) ∷ N.post)))) e N.focus.room)
  where
    at_least : Room (means L t) 0 (suc N.k) (length (map_e (erase (suc N.k)) (N.pre ++ (N.son, N.bound) ∷ N.post))) → 2 ≤ length (N.pre ++ (N.son, N.bound) ∷ N.post)
    at_least (inl n) = omega (arith, n, length-map_e (erase (suc N.k)) (N.pre ++ (N.son, N.bound) ∷ N.post))
    at_least (inr (e, inl z)) = absurd (omega (arith, z))
    at_least (inr (e, inr n)) = go (length-map_e (erase (suc N.k)) (N.pre ++ (N.son, N.bound) ∷ N.post)) (length-append N.pre ((N.son, N.bound) ∷ N.post))
      where
        go : length (map_e (erase (suc N.k)) (N.pre ++ (N.son, N.bound) ∷ N.post)) ≡ length (N.pre ++ (N.son, N.bound) ∷ N.post)
            → length (N.pre ++ (N.son, N.bound) ∷ N.post) ≡ length N.pre + suc (length N.post) → 2 ≤ length (N.pre ++ (N.son, N.bound) ∷ N.post)
        go a b = omega (arith, a, b, n)

pub level-moves : (s : List ℕ) (t : List Session) (A : Stands s t) (p : ℕ) → p ≤ width → (session_at t p).stage ≡ 3 → 2 ≤ (session_at t p).level
    → Steps s t p (level_step s (M-of s) p (session_at t p)) (at_step p (request_in (session_at t p)) (session_at t p).target (means A.lay t))
unfolding level_step
level-moves s t A p l st two = rw (test) (go (small p N.k (site_son s t A p l st N)) refl)
  where
    N : Site A.lay t p
    N = site-of A.lay t p A.holds.seats A.sound l st two (A.holds.hands p l)

    test : eqb p 0 && eqb (node_at s (M-of s) (son_toward s (M-of s) (session_at t p).at (session_at t p).target)).count 3 ≡ small p N.k (site_son s t A p l st N)
    test = ap (λ n. eqb p 0 && eqb n 3) (count_is s t A p l st N ∙ sym (many_is s t A p l st N))

    go : (c : Bool) → small p N.k (site_son s t A p l st N) ≡ c
        → Steps s t p (cond c (pair_step s (M-of s) p (session_at t p)) (alone_step s (M-of s) p (session_at t p))) (at_step p (request_in (session_at t p)) (session_at t p).target (means A.lay t))
    go false e = subst (λ o. Steps s t p (alone_step s (M-of s) p (session_at t p)) o) (sym (step-level s t A p l st N (request_in (session_at t p)))) (alone-moves s t A p l st N e)
    go true e =
        let b = both (eqb p 0) (eqb (sons_of (site_son s t A p l st N)) 3) e in
        let z = eqb_is p 0 b.0 in
        let n = eqb_is (sons_of (site_son s t A p l st N)) 3 b.1 in
        let Q = pair-site A.lay t p N (site-many A.lay t p N z) (sym (many_is s t A p l st N) ∙ n) (ap sons_of (picked s t A p l st N) ∙ n) in
        subst (λ o. Steps s t p (pair_step s (M-of s) p (session_at t p)) o) (sym (step-pair s t A p l st Q z)) (pair-moves s t A p l st Q z)

-- As the step of a request that stands at a node.
pub level-next : (n : ℕ) (s : List ℕ) (t : List Session) (A : Stands s t) (p : ℕ) → p ≤ width → (session_at t p).stage ≡ 3 → 2 ≤ (session_at t p).level
    → Steps s t p (level_step s (M-of s) p (session_at t p)) (next_step n p (request_in (session_at t p)) (means A.lay t) (request_in (session_at t p)).stage)
unfolding next_step request_in
level-next n s t A p l st two =
    let x = session_at t p in
    let k : (j : ℕ) → (3 ≡ j → ⊥) → eqb x.stage j ≡ false = λ j f. ne_eqb x.stage j (λ z. f (sym st ∙ z)) in
    let g : stage_of x ≡ at x.target = rw (k 1 (λ z. omega arith), k 2 (λ z. omega arith), eq-eqb x.stage 3 st) refl in
    subst (λ o. Steps s t p (level_step s (M-of s) p x) (next_step n p (request_in x) (means A.lay t) o)) (sym g) (level-moves s t A p l st two)
