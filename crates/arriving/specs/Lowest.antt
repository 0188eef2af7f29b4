-- The lowest node, where a party's descent ends, cut at the descriptor on the path to its key; and the keys on both sides.
use Rattle.std.specs.Prelude.{◌≡◌, refl, List, [], ◌∷◌, ◌++◌, map, ℕ, zero, suc, ◌≤◌, length}
use Rattle.std.proofs.Common.{sym, ap, subst, arith}
use Rattle.std.proofs.lemmas.List.{map-append}
use Rattle.sessions.specs.declared.Session.{Session}
use Rattle.sessions.specs.Sessions.{session_at}
use Rattle.machine.specs.Tree.{flat, map_e, map_e-append, Below, Seg, seg_cut, seg_below, Hit, hit, leaves}
use Rattle.machine.specs.Holders.{width, latch_word}
use Rattle.machine.specs.State.{top}
use Rattle.machine.specs.Sound as S
use Rattle.machine.specs.Context.{Focus}
use Rattle.machine.specs.Order.{Ord, In, in-append, in-wide, ord-le, seg-le}
use Rattle.meaning.specs.Reading.{Leaf, Mark, Numbered, erase}
use Rattle.meaning.specs.Around.{NCtx, here, under, fill, Way, below-erase}
use Rattle.meaning.specs.Lens.{descs, leaves_before, leaves_behind, keys-around}
use Rattle.layout.specs.Layout.{Lay, HandFits, means}
use Rattle.layout.specs.Places.{at_mark, Erased, ordered_of}

-- A lowest node cut at one of its sons.
abbrev pub lowest : Mark → List (Leaf × ℕ) → Leaf → ℕ → List (Leaf × ℕ) → Numbered 1
lowest w pre l b post = record { latch = w; sons = pre ++ (l, b) ∷ post }

-- The descriptors of some sons.
abbrev pub leaves_of : List (Leaf × ℕ) → List Leaf
leaves_of es = map (λ e. e.0) es

pub flat-leaves : (es : List (Leaf × ℕ)) → flat (leaves Leaf Mark 0) es ≡ leaves_of es
unfolding leaves
flat-leaves [] = refl
flat-leaves (e ∷ es) = ap (λ l. e.0 ∷ l) (flat-leaves es)

-- ---- the order of keys in a hole

record Inside (k x lo hi : ℕ) (u : Numbered k) : Type 0 where
  low : ℕ
  high : ℕ
  ord : Ord k low high (erase k u)
  from : low ≤ x
  upto : x ≤ high
  high_top : high ≤ hi

ord-open : {k h : ℕ} (c : NCtx k h) (u : Numbered k) (x lo hi : ℕ) → Ord h lo hi (erase h (fill c u)) → lo ≤ x → x ≤ hi → Way x c → Inside k x lo hi u
unfolding Ord erase
ord-open here u x lo hi o a b w = record { low = lo; high = hi; ord = o; from = a; upto = b; high_top = omega arith }
ord-open {k} (under {h = h} v pre c d post) u x lo hi o a b w =
    let z = seg_cut (Ord h) lo (suc hi) (map_e (erase h) pre) ((erase h (fill c u), d) ∷ map_e (erase h) post) (subst (Seg (Ord h) lo (suc hi)) (map_e-append (erase h) pre ((fill c u, d) ∷ post)) o) in
    let m = z.0 in
    let mx : m ≤ x = seg_below (Ord h) x lo m (map_e (erase h) pre) z.1 (below-erase (erase h) x pre w.0) a in
    let r : Inside k x m d u = ord-open c u x m d z.2.0 mx w.1 w.2 in
    let dh : suc d ≤ suc hi = seg-le (Ord h) (ord-le h) (suc d) (suc hi) (map_e (erase h) post) z.2.1 in
    let q = r.high_top in
    record { low = r.low; high = r.high; ord = r.ord; from = r.from; upto = r.upto; high_top = omega arith }

-- ---- the keys of some sons

-- A son's key lies from lo to u.
abbrev Keyed : ℕ → ℕ → Leaf → Type 0
Keyed lo u a = (lo ≤ a.desc.key) × (a.desc.key ≤ u)

keyed-sons : (lo hi : ℕ) (w : Mark) (es : List (Leaf × ℕ)) → Ord 1 lo hi (erase 1 (record { latch = w; sons = es })) → Seg Keyed lo (suc hi) es
unfolding Ord erase
keyed-sons lo hi w es o = go lo es o
  where
    go : (lo : ℕ) (es : List (Leaf × ℕ)) → Seg (λ l u d. (l ≤ d.key) × (d.key ≤ u)) lo (suc hi) (map_e (λ l. l.desc) es) → Seg Keyed lo (suc hi) es
    go lo [] o = o
    go lo (e ∷ es) o = (o.0, go (suc e.1) es o.1)

keyed-le : (lo u : ℕ) (a : Leaf) → Keyed lo u a → lo ≤ suc u
keyed-le lo u a k = omega (arith, k.0, k.1)

sons-in : (lo e : ℕ) (es : List (Leaf × ℕ)) → Seg Keyed lo e es → In lo e (descs (leaves_of es))
sons-in lo e [] q = tt
sons-in lo e (p ∷ es) q =
    let u = seg-le Keyed keyed-le (suc p.1) e es q.1 in
    let a = q.0.0 in
    let b = q.0.1 in
    ((a, omega (arith, b, u)), in-wide (suc p.1) e lo e (descs (leaves_of es)) (sons-in (suc p.1) e es q.1) (omega (arith, a, b)) (omega arith))

-- ---- the whole

pub record Lowest (L : Lay) (t : List Session) (p : ℕ) : Type 0 where
  pub mark : Mark
  pub pre : List (Leaf × ℕ)
  pub leaf : Leaf
  pub bound : ℕ
  pub post : List (Leaf × ℕ)
  pub around : NCtx 1 (suc L.height)
  pub is : L.tree ≡ fill around (lowest mark pre leaf bound post)
  pub way : Way (session_at t p).target around
  pub num : mark.num ≡ (session_at t p).at
  pub word : mark.word ≡ latch_word p
  pub below : Below (session_at t p).target pre
  pub upto : (session_at t p).target ≤ bound
  pub focus : Focus p (session_at t p).target (means L t) 0 (erase 1 (lowest mark pre leaf bound post))
  pub erased : Erased L t p (session_at t p).target 0 (erase 1 (lowest mark pre leaf bound post)) focus around
  pub keys_low : In 0 (session_at t p).target (descs (leaves_before around ++ leaves_of pre))
  pub keys_high : In (suc (session_at t p).target) (suc top) (descs (leaves_of post ++ leaves_behind around))
  pub key_most : leaf.desc.key ≤ top

in_both : (lo e : ℕ) (a b : List Leaf) → In lo e (descs a) → In lo e (descs b) → In lo e (descs (a ++ b))
in_both lo e a b p q = subst (In lo e) (sym (map-append (λ x. x.desc) a b)) (in-append lo e (descs a) (descs b) p q)

-- The node where a party stands at level 1.
module _ (L : Lay) (t : List Session) (p : ℕ) where
  -- A node in a hole, with what is said of it.
  record Seat (c : NCtx 1 (suc L.height)) (n : Numbered 1) : Type 0 where
    is : L.tree ≡ fill c n
    num : n.latch.num ≡ (session_at t p).at
    word : n.latch.word ≡ latch_word p
    focus : Focus p (session_at t p).target (means L t) 0 (erase 1 n)
    erased : Erased L t p (session_at t p).target 0 (erase 1 n) focus c

  cut_at : Ord (suc L.height) 0 top (erase (suc L.height) L.tree) → (session_at t p).target ≤ top → (c : NCtx 1 (suc L.height)) → Way (session_at t p).target c → (n : Numbered 1) → Seat c n
      → Lowest L t p
  cut_at o most c way n S =
      let x = (session_at t p).target in
      let h = suc L.height in
      let o' = subst (λ z. Ord h 0 top (erase h z)) S.is o in
      let I = ord-open c n x 0 top o' (omega arith) most way in
      let q = keyed-sons I.low I.high n.latch n.sons I.ord in
      let K = keys-around c n x 0 top o' (omega arith) most way in
      go (hit Keyed x I.low (suc I.high) n.sons q I.from (let z = I.upto in omega arith)) K.0 K.1 I.high_top I.from
    where
      go : {lo hi : ℕ} (H : Hit Keyed (session_at t p).target lo (suc hi) n.sons) → In 0 (session_at t p).target (descs (leaves_before c))
          → In (suc (session_at t p).target) (suc top) (descs (leaves_behind c)) → hi ≤ top → lo ≤ (session_at t p).target → Lowest L t p
      go {lo} {hi} H below above ht lx =
          let x = (session_at t p).target in
          let e : n ≡ lowest n.latch H.pre H.a H.u H.post = ap (λ l. record { latch = n.latch; sons = l }) H.eq in
          let T = subst (Seat c) e S in
          let u : suc H.u ≤ suc hi = seg-le Keyed keyed-le (suc H.u) (suc hi) H.post H.spost in
          let up = H.upto in
          let fr = H.from in
          record {
            mark = n.latch;
            pre = H.pre;
            leaf = H.a;
            bound = H.u;
            post = H.post;
            around = c;
            is = T.is;
            way = way;
            num = T.num;
            word = T.word;
            below = H.below;
            upto = H.upto;
            focus = T.focus;
            erased = T.erased;
            keys_low = in_both 0 x (leaves_before c) (leaves_of H.pre) below
                (in-wide lo H.m 0 x (descs (leaves_of H.pre)) (sons-in lo H.m H.pre H.spre) (omega arith) fr);
            keys_high = in_both (suc x) (suc top) (leaves_of H.post) (leaves_behind c)
                (in-wide (suc H.u) (suc hi) (suc x) (suc top) (descs (leaves_of H.post)) (sons-in (suc H.u) (suc hi) H.post H.spost) (omega arith) (omega arith)) above;
            key_most = omega (arith, H.here.1, u, ht);
          }

  level-one : Ord (suc L.height) 0 top (erase (suc L.height) L.tree) → (session_at t p).target ≤ top → (session_at t p).level ≡ 1
      → (k : ℕ) (n : Numbered (suc k)) (c : NCtx (suc k) (suc L.height)) → L.tree ≡ fill c n → Way (session_at t p).target c → (session_at t p).level ≡ suc k
      → n.latch.num ≡ (session_at t p).at → n.latch.word ≡ latch_word p
      → (F : Focus p (session_at t p).target (means L t) k (erase (suc k) n)) → Erased L t p (session_at t p).target k (erase (suc k) n) F c → Lowest L t p
  level-one o most one zero n c is way e num word F E = cut_at o most c way n (record { is = is; num = num; word = word; focus = F; erased = E })
  level-one o most one (suc k) n c is way e num word F E = absurd (omega (arith, one, e))

pub at-lowest : (L : Lay) (t : List Session) → length t ≡ suc width → S.Sound (means L t) → (p : ℕ) → p ≤ width → (session_at t p).stage ≡ 3 → (session_at t p).level ≡ 1 → HandFits L p (session_at t p)
    → (session_at t p).target ≤ top → Lowest L t p
at-lowest L t n A p l e one H most =
    let M = at_mark L t n A p l e H in
    level-one L t p (ordered_of L t A) most one M.k M.node M.around M.is M.way M.level M.num M.word M.focus M.erased
