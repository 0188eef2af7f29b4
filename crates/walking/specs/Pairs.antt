-- One level down for the housekeeper, where the son on the path has 3 sons: it is joined with its neighbour, or takes one son from it.
use Rattle.std.specs.Prelude.{◌≡◌, Bool, true, ◌⊎◌, leb, eqb, set, get_or, drop}
use Rattle.std.proofs.Math.Path.{refl, sym, ap, subst}
use Rattle.std.proofs.Common.{◌∙◌, inl, inr, arith, lit<, eq-eqb, ne_eqb, length-append, length-set}
use Rattle.std.proofs.Math.Bool.{false, cond}
use mathlib.Core.List.{List, [], ◌∷◌, ◌++◌, append_assoc, append-nil}
use Prim.Native.Nat.{ℕ, zero, suc, ◌+◌, ◌-◌, ◌≤◌, ◌<◌}
use Rattle.std.proofs.Math.ListN.{length, take}
use Rattle.words.specs.Store.{HasRecord, record_at, put_record, word_of, length-record, record-other}
use Rattle.words.specs.Header.{header_word, free_place}
use Rattle.words.specs.Frames.{header-record}
use Rattle.nodes.specs.declared.Node.{Node}
use Rattle.reshaping.specs.declared.Neighbours.{Neighbours}
use Rattle.nodes.specs.Node.{node_at, put_node, decode_node, Sized}
use Rattle.nodes.specs.Ops.{son_for, with_latch}
use Rattle.reshaping.specs.Ops.{remove_behind, drop_son, set_bound, join_nodes, move_from_left, move_from_right}
use Rattle.nodes.specs.Live.{Usable}
use Rattle.reshaping.specs.Live.{drop-usable, set-usable, join-usable, from-left-usable, from-right-usable}
use Rattle.nodes.specs.Entries as N
use Rattle.nodes.specs.Entries.{latch-entries, entries-length, find-here, son-here, entries-upto, last-bound}
use Rattle.reshaping.specs.Entries.{right-out, bound-set, bound-between, join-entries, from-left-left, from-left-up, from-left-right, from-right-left, from-right-up, from-right-right}
use Rattle.chain.specs.Free.{push_free}
use Rattle.nodes.specs.Paths.{son_at}
use Rattle.joins.specs.Joins.{pair_place, last_of_left, down_bound, join_sons, move_right, move_left}
use Rattle.sessions.specs.declared.Session.{Session}
use Rattle.sessions.specs.Sessions.{session_at}
use Rattle.machine.specs.Logic.{leb_yes, leb_no}
use Rattle.machine.specs.Tree.{map_e, map_e-append, flat, flat_append, leaves, Below}
use Rattle.machine.specs.Holders.{width, latch_word}
use Rattle.machine.specs.State.{top, at, with_free, on_tree}
use Rattle.machine.specs.Descent.{Sons, node, down_to, on_last, last_of, but_last, bound_of, joined, moved_right, moved_left, on_pair, pick_pair, joins, mended, on_latch}
use Rattle.machine.specs.Steps.{small, fills, son-at, stepped, descended, level_state, goes_on}
use Rattle.machine.specs.Context.{Focus}
use Rattle.machine.specs.InTheWay.{Free}
use Rattle.machine.specs.Parts.{free_other}
use Rattle.machine.specs.Sound.{times}
use Rattle.meaning.specs.Reading.{Leaf, Mark, Numbered, erase, numbers, node_numbers, M-of, R-of}
use Rattle.meaning.specs.Numbers.{one-is, times-append, apart-times}
use Rattle.meaning.specs.Around.{NCtx, fill, num_of, bound_in, leaves-fill, before, behind, nothing}
use Rattle.layout.specs.Layout.{Lay, Each, NodeFits, TreeFits, SomeSon, Marked, Holds, means}
use Rattle.layout.specs.Row.{Becomes}
use Rattle.layout.specs.Keep.{with_tree, each-cut, each-join, chained-keep, marked-fill}
use Rattle.layout.specs.Places.{Erased}
use Rattle.layout.specs.Puts.{node-latch, node-fits}
use Rattle.layout.specs.Room.{Sizes}
use Rattle.layout.specs.Asked.{request_in}
use Rattle.walking.specs.Traces.{Trace, trace-none, trace-node, trace-push, trace-has, two-first, two-second, three-first, three-second, three_third}
use Rattle.walking.specs.Holes.{fits-usable, Ours, hole-most, in-has, ours-has, ours_in, proper, part-keep, sons-keep, hole-fits, hole-row}
use Rattle.walking.specs.Hands.{nd, standing_at, own-hand, some-mid, some_left, some_right, some-cut, marked-into, marked-below, marked-under, marked-self, node-times, flat-times, one-self, means-level, becomes-at}
use Rattle.walking.specs.Levels.{length-map_e, below-nodes, numbers-law, nodes-law, sized-latch, latch-fits}
use Rattle.walking.specs.Enters.{pushed-chain}

-- ---- the bound that comes down

-- At a lowest node the son's own key, else the bound that it has.
unfoldable pub down_num : (h : ℕ) → Numbered h → ℕ → ℕ
down_num zero t b = t.desc.key
down_num (suc h) t b = b

down-erase : (h : ℕ) (t : Numbered h) (b : ℕ) → down_to h (erase h t) b ≡ down_num h t b
unfolding down_num erase
down-erase zero t b = refl
down-erase (suc h) t b = refl

on-last-snoc : {A : Type 0} (g : A → ℕ → ℕ) (es : List (A × ℕ)) (z : A) (b : ℕ) → on_last g (es ++ (z, b) ∷ []) ≡ es ++ (z, g z b) ∷ []
on-last-snoc g [] z b = refl
on-last-snoc g (e ∷ []) z b = refl
on-last-snoc g (e ∷ e' ∷ es) z b = ap (λ l. e ∷ l) (on-last-snoc g (e' ∷ es) z b)

last_snoc : {A : Type 0} (es : List (A × ℕ)) (z : A) (b : ℕ) → last_of (es ++ (z, b) ∷ []) ≡ (z, b) ∷ []
last_snoc [] z b = refl
last_snoc (e ∷ []) z b = refl
last_snoc (e ∷ e' ∷ es) z b = last_snoc (e' ∷ es) z b

but-last-snoc : {A : Type 0} (es : List (A × ℕ)) (z : A) (b : ℕ) → but_last (es ++ (z, b) ∷ []) ≡ es
but-last-snoc [] z b = refl
but-last-snoc (e ∷ []) z b = refl
but-last-snoc (e ∷ e' ∷ es) z b = ap (λ l. e ∷ l) (but-last-snoc (e' ∷ es) z b)

bound-snoc : {A : Type 0} (u : ℕ) (es : List (A × ℕ)) (z : A) (b : ℕ) → bound_of u (es ++ (z, b) ∷ []) ≡ b
bound-snoc u [] z b = refl
bound-snoc u (e ∷ es) z b = bound-snoc e.1 es z b

-- ---- the machine's pair

module _ {A : Type 0} (x : ℕ) where
  pair-on : (g : (A × ℕ) → (A × ℕ) → List (A × ℕ)) (pre : List (A × ℕ)) (p q : A × ℕ) (post : List (A × ℕ)) → Below x pre → (1 ≤ length pre → p.1 < x) → x ≤ q.1
      → on_pair x g (pre ++ p ∷ q ∷ post) ≡ pre ++ (g p q ++ post)
  pair-on g [] p q post low u v = rw (leb_yes x q.1 v) refl
  pair-on g (e ∷ []) p q post low u v = rw (leb_no x p.1 (u (omega arith))) (ap (λ l. e ∷ l) (pair-on g [] p q post tt (λ n. absurd (omega (arith, n))) v))
  pair-on g (e ∷ e' ∷ pre) p q post low u v = rw (leb_no x e'.1 low.1.0) (ap (λ l. e ∷ l) (pair-on g (e' ∷ pre) p q post low.1 (λ n. u (omega arith)) v))

  pub pair-pick : {B : Type 0} (z : B) (g : (A × ℕ) → (A × ℕ) → B) (pre : List (A × ℕ)) (p q : A × ℕ) (post : List (A × ℕ)) → Below x pre → (1 ≤ length pre → p.1 < x) → x ≤ q.1
      → pick_pair x z g (pre ++ p ∷ q ∷ post) ≡ g p q
  pair-pick z g [] p q post low u v = rw (leb_yes x q.1 v) refl
  pair-pick z g (e ∷ []) p q post low u v = rw (leb_no x p.1 (u (omega arith))) (pair-pick z g [] p q post tt (λ n. absurd (omega (arith, n))) v)
  pair-pick z g (e ∷ e' ∷ pre) p q post low u v = rw (leb_no x e'.1 low.1.0) (pair-pick z g (e' ∷ pre) p q post low.1 (λ n. u (omega arith)) v)

-- A record given back leaves the others.
push-node : (s : List ℕ) (m q i : ℕ) → HasRecord s m q → 1 ≤ i → ¬ (i ≡ q) → node_at (push_free s m q) m i ≡ node_at s m i
unfolding push_free
push-node s m q i has l n =
    let w = set (record_at s m q) 0 (header_word s free_place) in
    let whole : length w ≡ 20 = length-set (record_at s m q) 0 (header_word s free_place) ∙ length-record s m q in
    ap decode_node (header-record (put_record s m q w) free_place q (lit< tt) m i ∙ record-other s m q w has whole i l (λ e. n (sym e)))

-- ---- how often a record stands in a node cut at two neighbours

module _ (k : ℕ) (v : Mark) (pre : List (Numbered (suc k) × ℕ)) (a : Numbered (suc k)) (va : ℕ) (b : Numbered (suc k)) (vb : ℕ) (post : List (Numbered (suc k) × ℕ)) (i : ℕ) where
  pub pair-numbers : times i (numbers (suc (suc k)) (nd v (pre ++ (a, va) ∷ (b, vb) ∷ post)))
      ≡ times i (v.num ∷ []) + (times i (flat (numbers (suc k)) pre) + (times i (a.latch.num ∷ []) + times i (flat (numbers k) a.sons)
      + (times i (b.latch.num ∷ []) + times i (flat (numbers k) b.sons) + times i (flat (numbers (suc k)) post))))
  pair-numbers =
      omega (
        arith,
        node-times numbers numbers-law (suc k) (nd v (pre ++ (a, va) ∷ (b, vb) ∷ post)) i,
        flat-times (numbers (suc k)) pre ((a, va) ∷ (b, vb) ∷ post) i,
        times-append i (numbers (suc k) a) (numbers (suc k) b ++ flat (numbers (suc k)) post),
        times-append i (numbers (suc k) b) (flat (numbers (suc k)) post),
        node-times numbers numbers-law k a i,
        node-times numbers numbers-law k b i,
      )

  pub pair-nodes : times i (node_numbers (suc (suc k)) (nd v (pre ++ (a, va) ∷ (b, vb) ∷ post)))
      ≡ times i (v.num ∷ []) + (times i (flat (node_numbers (suc k)) pre) + (times i (a.latch.num ∷ []) + times i (flat (node_numbers k) a.sons)
      + (times i (b.latch.num ∷ []) + times i (flat (node_numbers k) b.sons) + times i (flat (node_numbers (suc k)) post))))
  pair-nodes =
      omega (
        arith,
        node-times node_numbers nodes-law (suc k) (nd v (pre ++ (a, va) ∷ (b, vb) ∷ post)) i,
        flat-times (node_numbers (suc k)) pre ((a, va) ∷ (b, vb) ∷ post) i,
        times-append i (node_numbers (suc k) a) (node_numbers (suc k) b ++ flat (node_numbers (suc k)) post),
        times-append i (node_numbers (suc k) b) (flat (node_numbers (suc k)) post),
        node-times node_numbers nodes-law k a i,
        node-times node_numbers nodes-law k b i,
      )

-- A tree's own record is one of its records.
self-times : (k : ℕ) (z : Numbered k) → 1 ≤ times (num_of k z) (numbers k z)
unfolding num_of numbers
self-times zero z = omega (arith, one-self z.num)
self-times (suc k) z = omega (arith, one-is z.latch.num z.latch.num refl)

-- One son with another bound.
flat-bound : {A B : Type 0} (g : A → List B) (es : List (A × ℕ)) (z : A) (b d : ℕ) → flat g (es ++ (z, b) ∷ []) ≡ flat g (es ++ (z, d) ∷ [])
flat-bound g es z b d = flat_append g es ((z, b) ∷ []) ∙ sym (flat_append g es ((z, d) ∷ []))

each_last : {A : Type 0} (P : ℕ → A → Type 0) (es : List (A × ℕ)) (z : A) (b d : ℕ) → (P b z → P d z) → Each P (es ++ (z, b) ∷ []) → Each P (es ++ (z, d) ∷ [])
each_last P [] z b d f e = (f e.0, tt)
each_last P (p ∷ es) z b d f e = (e.0, each_last P es z b d f e.1)

each_append : {A : Type 0} (P : ℕ → A → Type 0) (es fs : List (A × ℕ)) → Each P es → Each P fs → Each P (es ++ fs)
each_append P [] fs e f = f
each_append P (p ∷ es) fs e f = (e.0, each_append P es fs e.1 f)

each_left : {A : Type 0} (P : ℕ → A → Type 0) (es fs : List (A × ℕ)) → Each P (es ++ fs) → Each P es
each_left P [] fs e = tt
each_left P (p ∷ es) fs e = (e.0, each_left P es fs e.1)

each_right : {A : Type 0} (P : ℕ → A → Type 0) (es fs : List (A × ℕ)) → Each P (es ++ fs) → Each P fs
each_right P [] fs e = e
each_right P (p ∷ es) fs e = each_right P es fs e.1

-- What comes down, as the words have it: d is the record of the left one's last son, w the boundary of the parent.
down-cases : (s : List ℕ) (m k : ℕ) (z : Numbered k) (zb va d w : ℕ) → TreeFits s m k zb z → d ≡ num_of k z → va ≡ zb → w ≡ va → cond (eqb (suc k) 1) (word_of s m d 1) w ≡ down_num k z zb
unfolding TreeFits num_of down_num
down-cases s m zero z zb va d w f e q b = ap (λ i. word_of s m i 1) e ∙ f.key
down-cases s m (suc k) z zb va d w f e q b = rw (ne_eqb (suc (suc k)) 1 (λ o. omega (arith, o))) (b ∙ q)

below_both : {A : Type 0} (x : ℕ) (es : List (A × ℕ)) (a : A) (v : ℕ) → N.Below x es → v < x → N.Below x (es ++ (a, v) ∷ [])
below_both x [] a v b l = (l, tt)
below_both x (e ∷ es) a v b l = (b.0, below_both x es a v b.1 l)

-- A tree's words ask of its bound only at a node, whose last bound it is.
low-bound : (s : List ℕ) (m h : ℕ) (t : Numbered h) (b : ℕ) → TreeFits s m h b t → TreeFits s m h (down_num h t b) t
unfolding TreeFits down_num
low-bound s m zero t b f = f
low-bound s m (suc h) t b f = f

module _ (s : List ℕ) (t : List Session) (L : Lay) (H : Holds s t L) (Z : Sizes L) {k : ℕ} (c : NCtx (suc (suc k)) (suc L.height))
    (v : Mark) (pre : List (Numbered (suc k) × ℕ)) (wa : Mark) (ai : List (Numbered k × ℕ)) (z : Numbered k) (zb va : ℕ) (b : Numbered (suc k)) (vb : ℕ) (post : List (Numbered (suc k) × ℕ))
    (is : L.tree ≡ fill c (nd v (pre ++ (nd wa (ai ++ (z, zb) ∷ []), va) ∷ (b, vb) ∷ post))) (some : 1 ≤ length b.sons) where
  abbrev a : Numbered (suc k)
  a = nd wa (ai ++ (z, zb) ∷ [])

  abbrev U : Numbered (suc (suc k))
  U = nd v (pre ++ (a, va) ∷ (b, vb) ∷ post)

  abbrev m : ℕ
  m = M-of s

  abbrev hi : ℕ
  hi = bound_in c top

  abbrev here : ℕ
  here = v.num

  abbrev l : ℕ
  l = wa.num

  abbrev q : ℕ
  q = b.latch.num

  abbrev PRE : List (ℕ × ℕ)
  PRE = map_e (num_of (suc k)) pre

  abbrev POST : List (ℕ × ℕ)
  POST = map_e (num_of (suc k)) post

  -- The boundary that comes down.
  abbrev pub down : ℕ
  down = down_num k z zb

  record Opened : Type 0 where
    parent : NodeFits s m hi v (PRE ++ (l, va) ∷ (q, vb) ∷ POST)
    front : Each (TreeFits s m (suc k)) pre
    node_a : NodeFits s m va wa (map_e (num_of k) ai ++ (num_of k z, zb) ∷ [])
    sons_a : Each (TreeFits s m k) (ai ++ (z, zb) ∷ [])
    node_b : NodeFits s m vb b.latch (map_e (num_of k) b.sons)
    sons_b : Each (TreeFits s m k) b.sons
    back : Each (TreeFits s m (suc k)) post

  opened : Opened
  unfolding TreeFits num_of
  opened =
      let f = hole-fits s t L H c U is in
      let e = each-cut (TreeFits s m (suc k)) pre a va ((b, vb) ∷ post) f.1 in
      record {
        parent = subst (NodeFits s m hi v) (map_e-append (num_of (suc k)) pre ((a, va) ∷ (b, vb) ∷ post)) f.0;
        front = e.0;
        node_a = subst (NodeFits s m va wa) (map_e-append (num_of k) ai ((z, zb) ∷ [])) e.1.0;
        sons_a = e.1.1;
        node_b = e.2.0.0;
        sons_b = e.2.0.1;
        back = e.2.1;
      }

  abbrev cut : (i : ℕ) → times i (numbers (suc (suc k)) U)
      ≡ times i (here ∷ []) + (times i (flat (numbers (suc k)) pre) + (times i (l ∷ []) + times i (flat (numbers k) a.sons) + (times i (q ∷ []) + times i (flat (numbers k) b.sons) + times i (flat (numbers (suc k)) post))))
  cut i = pair-numbers k v pre a va b vb post i

  most : (i : ℕ) → times i (numbers (suc (suc k)) U) + times i L.free ≤ 1
  most = hole-most s t L H c U is

  here-ours : Ours L (suc (suc k)) U here
  here-ours = omega (arith, pair-nodes k v pre a va b vb post here, one-self here)

  l-ours : Ours L (suc (suc k)) U l
  l-ours = omega (arith, pair-nodes k v pre a va b vb post l, one-self l)

  q-ours : Ours L (suc (suc k)) U q
  q-ours = omega (arith, pair-nodes k v pre a va b vb post q, one-self q)

  here-l : ¬ (here ≡ l)
  here-l e = omega (arith, cut here, most here, one-self here, ap (λ j. times here (j ∷ [])) (sym e))

  here-q : ¬ (here ≡ q)
  here-q e = omega (arith, cut here, most here, one-self here, ap (λ j. times here (j ∷ [])) (sym e))

  l-q : ¬ (l ≡ q)
  l-q e = omega (arith, cut l, most l, one-self l, ap (λ j. times l (j ∷ [])) (sym e))

  record Missing (i : ℕ) : Type 0 where
    front : times i (flat (numbers (suc k)) pre) ≡ 0
    in_a : times i (flat (numbers k) a.sons) ≡ 0
    in_b : times i (flat (numbers k) b.sons) ≡ 0
    back : times i (flat (numbers (suc k)) post) ≡ 0
    free : times i L.free ≡ 0

  missing : (i : ℕ) → 1 ≤ times i (here ∷ []) + (times i (l ∷ []) + times i (q ∷ [])) → Missing i
  missing i o =
      let e = cut i in
      let n = most i in
      record { front = omega (arith, e, n, o); in_a = omega (arith, e, n, o); in_b = omega (arith, e, n, o); back = omega (arith, e, n, o); free = omega (arith, e, n, o) }

  at_here : Missing here
  at_here = missing here (omega (arith, one-self here))

  at-l : Missing l
  at-l = missing l (omega (arith, one-self l))

  at-q : Missing q
  at-q = missing q (omega (arith, one-self q))

  has : (i : ℕ) → Ours L (suc (suc k)) U i → HasRecord s m i
  has = ours-has s t L H c U is Z

  inside : (i : ℕ) → Ours L (suc (suc k)) U i → i ≤ R-of s
  inside = ours_in s t L H c U is Z

  abbrev P : Node
  P = node_at s m here

  abbrev A : Node
  A = node_at s m l

  abbrev B : Node
  B = node_at s m q

  P-usable : Usable P
  P-usable = fits-usable s m hi v (PRE ++ (l, va) ∷ (q, vb) ∷ POST) opened.parent (omega (arith, length-append PRE ((l, va) ∷ (q, vb) ∷ POST)))

  A-usable : Usable A
  A-usable = fits-usable s m va wa (map_e (num_of k) ai ++ (num_of k z, zb) ∷ []) opened.node_a (omega (arith, length-append (map_e (num_of k) ai) ((num_of k z, zb) ∷ [])))

  B-usable : Usable B
  B-usable = fits-usable s m vb b.latch (map_e (num_of k) b.sons) opened.node_b (omega (arith, length-map_e (num_of k) b.sons, some))

  P-count : P.count ≡ length pre + suc (suc (length post))
  P-count =
      sym (entries-length P-usable hi) ∙ ap length opened.parent.sons ∙ length-append PRE ((l, va) ∷ (q, vb) ∷ POST)
      ∙ omega (arith, length-map_e (num_of (suc k)) pre, length-map_e (num_of (suc k)) post)

  pub A-count : A.count ≡ suc (length ai)
  A-count =
      sym (entries-length A-usable va) ∙ ap length opened.node_a.sons ∙ length-append (map_e (num_of k) ai) ((num_of k z, zb) ∷ [])
      ∙ omega (arith, length-map_e (num_of k) ai)

  pub B-count : B.count ≡ length b.sons
  B-count = sym (entries-length B-usable vb) ∙ ap length opened.node_b.sons ∙ length-map_e (num_of k) b.sons

  -- The bound of the left one's last son is the left one's own.
  pub last-is : va ≡ zb
  last-is = last-bound A-usable va (map_e (num_of k) ai) (num_of k z) zb opened.node_a.sons

  -- The left one's sons, up to the bound that comes down.
  A-down : N.entries A down ≡ map_e (num_of k) (ai ++ (z, down) ∷ [])
  A-down = entries-upto A-usable va (map_e (num_of k) ai) (num_of k z) zb opened.node_a.sons down ∙ sym (map_e-append (num_of k) ai ((z, down) ∷ []))

  front-part : (j : ℕ) → times j (flat (numbers (suc k)) pre) ≤ times j (numbers (suc (suc k)) U)
  front-part j = omega (arith, cut j)

  back-part : (j : ℕ) → times j (flat (numbers (suc k)) post) ≤ times j (numbers (suc (suc k)) U)
  back-part j = omega (arith, cut j)

  a-part : (j : ℕ) → times j (flat (numbers k) a.sons) ≤ times j (numbers (suc (suc k)) U)
  a-part j = omega (arith, cut j)

  -- ---- both as one

  module _ (w : ℕ) (room : suc (length ai) + length b.sons ≤ 8) where
    one-room : A.count + B.count ≤ 8
    one-room = omega (arith, A-count, B-count, room)

    abbrev one : Node
    one = join_nodes A down B

    abbrev fewer : Node
    fewer = remove_behind P (length PRE)

    abbrev s₂ : List ℕ
    s₂ = put_node (put_node s m l (with_latch one w)) m here (with_latch fewer 0)

    abbrev pub join_words : List ℕ
    join_words = push_free s₂ m q

    abbrev pub join_son : Numbered (suc k)
    join_son = nd (record { num = l; word = w }) ((ai ++ (z, down) ∷ []) ++ b.sons)

    abbrev pub join_node : Numbered (suc (suc k))
    join_node = nd (record { num = here; word = 0 }) (pre ++ (join_son, vb) ∷ post)

    abbrev Wj : List ℕ
    Wj = l ∷ here ∷ q ∷ []

    trace₂ : Trace s s₂ (l ∷ here ∷ []) (header_word s free_place)
    trace₂ =
        let f = header_word s free_place in
        trace-node s (put_node s m l (with_latch one w)) (l ∷ []) f (trace-node s s [] f (trace-none s) l (with_latch one w) (has l l-ours) (inside l l-ours)) here (with_latch fewer 0) (has here here-ours) (inside here here-ours)

    pub join-trace : Trace s join_words Wj q
    join-trace = trace-push s s₂ (l ∷ here ∷ []) (header_word s free_place) trace₂ q H.fits.header (has q q-ours) (inside q q-ours)

    fewer-usable : Usable fewer
    fewer-usable =
        let e = length-map_e (num_of (suc k)) pre in
        drop-usable P-usable (length PRE) (length PRE + 1) (omega (arith, P-count, e)) (omega (arith, P-count, e))

    one-usable : Usable one
    one-usable = join-usable A-usable B-usable down one-room

    fewer-entries : N.entries fewer hi ≡ map_e (num_of (suc k)) (pre ++ (join_son, vb) ∷ post)
    unfolding num_of
    fewer-entries = right-out P-usable hi PRE l va q vb POST opened.parent.sons ∙ sym (map_e-append (num_of (suc k)) pre ((join_son, vb) ∷ post))

    one-entries : N.entries one vb ≡ map_e (num_of k) ((ai ++ (z, down) ∷ []) ++ b.sons)
    one-entries =
        join-entries A-usable B-usable one-room down vb
        ∙ (λ j. A-down j ++ opened.node_b.sons j)
        ∙ sym (map_e-append (num_of k) (ai ++ (z, down) ∷ []) b.sons)

    joined-times : (j : ℕ) → times j (flat (numbers k) ((ai ++ (z, down) ∷ []) ++ b.sons)) ≡ times j (flat (numbers k) a.sons) + times j (flat (numbers k) b.sons)
    joined-times j = omega (arith, flat-times (numbers k) (ai ++ (z, down) ∷ []) b.sons j, ap (times j) (flat-bound (numbers k) ai z zb down))

    join-fits : TreeFits join_words m (suc (suc k)) hi join_node
    unfolding TreeFits num_of
    join-fits =
        let keep = sons-keep s t L H c U is join_words Wj join-trace.written in
        let O = opened in
        let hl = has l l-ours in
        let hh = has here here-ours in
        let nh : ¬ (l ≡ here) = λ e. here-l (sym e) in
        let h₂ : HasRecord s₂ m q = trace-has s s₂ (l ∷ here ∷ []) (header_word s free_place) trace₂ (has q q-ours) in
        let il = push-node s₂ m q l h₂ hl.first l-q ∙ two-first s m l here (with_latch one w) (with_latch fewer 0) hl hh nh (sized-latch one w one-usable.sized) in
        let ih = push-node s₂ m q here h₂ hh.first here-q ∙ two-second s m l here (with_latch one w) (with_latch fewer 0) hl hh nh (sized-latch fewer 0 fewer-usable.sized) in (
          latch-fits join_words m here hi fewer 0 (map_e (num_of (suc k)) (pre ++ (join_son, vb) ∷ post)) ih fewer-usable.most fewer-entries,
          each-join (TreeFits join_words m (suc k)) pre join_son vb post
              (keep (suc k) pre front-part (at-l.front, (at_here.front, (at-q.front, tt))) O.front) (
                latch-fits join_words m l vb one w (map_e (num_of k) ((ai ++ (z, down) ∷ []) ++ b.sons)) il one-usable.most one-entries,
                keep k ((ai ++ (z, down) ∷ []) ++ b.sons) (λ j. omega (arith, joined-times j, cut j))
                    (omega (arith, joined-times l, at-l.in_a, at-l.in_b), (omega (arith, joined-times here, at_here.in_a, at_here.in_b), (omega (arith, joined-times q, at-q.in_a, at-q.in_b), tt)))
                    (each_append (TreeFits s m k) (ai ++ (z, down) ∷ []) b.sons (each_last (TreeFits s m k) ai z zb down (low-bound s m k z zb) O.sons_a) O.sons_b),
              )
              (keep (suc k) post back-part (at-l.back, (at_here.back, (at-q.back, tt))) O.back),
        )

    join-leaves : leaves Leaf Mark (suc (suc k)) join_node ≡ leaves Leaf Mark (suc (suc k)) U
    unfolding leaves
    join-leaves =
        let g = leaves Leaf Mark (suc k) in
        let g₀ = leaves Leaf Mark k in
        flat_append g pre ((join_son, vb) ∷ post)
        ∙ ap (λ x. flat g pre ++ x)
        (ap (λ x. x ++ flat g post) (flat_append g₀ (ai ++ (z, down) ∷ []) b.sons ∙ ap (λ x. x ++ flat g₀ b.sons) (flat-bound g₀ ai z down zb))
        ∙ append_assoc (flat g₀ (ai ++ (z, zb) ∷ [])) (flat g₀ b.sons) (flat g post))
        ∙ sym (flat_append g pre ((a, va) ∷ (b, vb) ∷ post))

    join-count : (i : ℕ) → times i (numbers (suc (suc k)) join_node) + times i (q ∷ L.free) ≡ times i (numbers (suc (suc k)) U) + times i L.free
    join-count i =
        omega (
          arith,
          cut i,
          node-times numbers numbers-law (suc k) join_node i,
          flat-times (numbers (suc k)) pre ((join_son, vb) ∷ post) i,
          times-append i (numbers (suc k) join_son) (flat (numbers (suc k)) post),
          node-times numbers numbers-law k join_son i,
          joined-times i,
        )

    join-marked : (p o j n : ℕ) → ¬ (o ≡ p) → v.word ≡ latch_word p → Free p wa.word → Free p b.latch.word → Marked j n (latch_word o) (suc (suc k)) U → Marked j n (latch_word o) (suc (suc k)) join_node
    join-marked p o j n ne e fa fb M =
        let Q = Marked j n (latch_word o) (suc k) in
        marked-under j n (latch_word o) (suc k) join_node
        (some-mid Q pre ((a, va) ∷ (b, vb) ∷ []) ((join_son, vb) ∷ []) post go (marked-below j n (latch_word o) (suc k) U (λ g. ne (omega (arith, e, g))) M))
      where
        go : SomeSon (Marked j n (latch_word o) (suc k)) ((a, va) ∷ (b, vb) ∷ []) → SomeSon (Marked j n (latch_word o) (suc k)) ((join_son, vb) ∷ [])
        go (inl M) = inl (marked-under j n (latch_word o) k join_son
            (some_left (Marked j n (latch_word o) k) (ai ++ (z, down) ∷ []) b.sons (some-mid (Marked j n (latch_word o) k) ai ((z, zb) ∷ []) ((z, down) ∷ []) [] (λ x. x) (marked-below j n (latch_word o) k a (free_other p o wa.word (λ g. ne (sym g)) fa) M))))
        go (inr (inl M)) = inl (marked-under j n (latch_word o) k join_son
            (some_right (Marked j n (latch_word o) k) (ai ++ (z, down) ∷ []) b.sons (marked-below j n (latch_word o) k b (free_other p o b.latch.word (λ g. ne (sym g)) fb) M)))
        go (inr (inr M)) = absurd M

    pub join-holds : (p : ℕ) → p ≤ width → w ≡ latch_word p → v.word ≡ latch_word p → Free p wa.word → Free p b.latch.word → (session_at t p).stage ≡ 3
        → Holds join_words (set t p (standing_at (session_at t p) l (suc k))) (with_tree L L.height (fill c join_node) (q ∷ L.free))
    unfolding num_of
    join-holds p lp we e fa fb st =
        let L' = with_tree L L.height (fill c join_node) (q ∷ L.free) in
        let M : Marked (suc k) l w (suc (suc k)) join_node = marked-under (suc k) l w (suc k) join_node
        (some_right (Marked (suc k) l w (suc k)) pre ((join_son, vb) ∷ post) (inl (marked-self l w k ((ai ++ (z, down) ∷ []) ++ b.sons)))) in
        let kept = part-keep s t L H c U is s₂ (l ∷ here ∷ []) trace₂.written L.free (λ j. omega arith) (at-l.free, (at_here.free, tt)) in
        hole-row s t L H c U is join_words Wj q join-trace (l-ours, (here-ours, (q-ours, tt))) join_node (q ∷ L.free) refl join-leaves join-fits
        (pushed-chain s s₂ (l ∷ here ∷ []) trace₂.written (header_word s free_place) trace₂.free L.free (chained-keep s s₂ m (header_word s free_place) L.free kept H.fits.free)
        q (has q q-ours) (proper s t L H c U is L.free (λ j. omega arith)) (apart-times q L.free at-q.free))
        join-count p (standing_at (session_at t p) l (suc k))
        record {
          party = lp;
          undo = refl;
          own = own-hand L L' p (session_at t p) l (suc k) (inr st)
              (leaves-fill c join_node ∙ ap (λ y. before nothing (leaves Leaf Mark) c ++ (y ++ behind nothing (leaves Leaf Mark) c)) join-leaves ∙ sym (ap (leaves Leaf Mark (suc L.height)) is ∙ leaves-fill c U))
              (subst (λ g. Marked (suc k) l g (suc L.height) (fill c join_node)) we (marked-into (suc k) l w c join_node M)) (H.hands p lp);
          others = λ o ne k3 g N. marked-fill (session_at t o).level (session_at t o).at (latch_word o) c U join_node
              (join-marked p o (session_at t o).level (session_at t o).at ne e fa fb) (subst (Marked (session_at t o).level (session_at t o).at (latch_word o) (suc L.height)) is N);
        }

    join-erase-son : joined w k (erase (suc k) a) (erase (suc k) b) vb ≡ (erase (suc k) join_son, vb) ∷ []
    unfolding joined erase
    join-erase-son =
        let E = erase k in
        ap (λ es. (node w es, vb) ∷ [])
        (ap (λ es. es ++ map_e E b.sons)
        (ap (on_last (down_to k)) (map_e-append E ai ((z, zb) ∷ [])) ∙ on-last-snoc (down_to k) (map_e E ai) (E z) zb
        ∙ ap (λ d. map_e E ai ++ (E z, d) ∷ []) (down-erase k z zb) ∙ sym (map_e-append E ai ((z, down) ∷ [])))
        ∙ sym (map_e-append E (ai ++ (z, down) ∷ []) b.sons))

  -- ---- the sons of both dealt out anew

  -- The sons of both, from left to right, are those of xs and bs; nl and nq are the two nodes then.
  pub record Dealt (xs bs : List (Numbered k × ℕ)) (mid w₁ w₂ : ℕ) (nl nq : Node) : Type 0 where
    pub sized_l : Sized nl
    pub sized_q : Sized nq
    pub few_l : nl.count ≤ 8
    pub few_q : nq.count ≤ 8
    pub latch_l : nl.latch ≡ w₁
    pub latch_q : nq.latch ≡ w₂
    pub entries_l : N.entries nl mid ≡ map_e (num_of k) xs
    pub entries_q : N.entries nq vb ≡ map_e (num_of k) bs
    pub each_xs : Each (TreeFits s m k) xs
    pub each_bs : Each (TreeFits s m k) bs
    pub count : (i : ℕ) → times i (flat (numbers k) xs) + times i (flat (numbers k) bs) ≡ times i (flat (numbers k) a.sons) + times i (flat (numbers k) b.sons)
    pub leaf : flat (leaves Leaf Mark k) xs ++ flat (leaves Leaf Mark k) bs ≡ flat (leaves Leaf Mark k) a.sons ++ flat (leaves Leaf Mark k) b.sons
    pub marks : (j n w : ℕ) → SomeSon (Marked j n w k) a.sons ⊎ SomeSon (Marked j n w k) b.sons → SomeSon (Marked j n w k) xs ⊎ SomeSon (Marked j n w k) bs

  module _ (xs bs : List (Numbered k × ℕ)) (mid w₁ w₂ : ℕ) (nl nq : Node) (D : Dealt xs bs mid w₁ w₂ nl nq) where
    abbrev np : Node
    np = set_bound P (length PRE) mid

    abbrev pub dealt_words : List ℕ
    dealt_words = put_node (put_node (put_node s m l nl) m q nq) m here (with_latch np 0)

    abbrev left_one : Numbered (suc k)
    left_one = nd (record { num = l; word = w₁ }) xs

    abbrev right_one : Numbered (suc k)
    right_one = nd (record { num = q; word = w₂ }) bs

    abbrev pub dealt_node : Numbered (suc (suc k))
    dealt_node = nd (record { num = here; word = 0 }) (pre ++ (left_one, mid) ∷ (right_one, vb) ∷ post)

    abbrev Wd : List ℕ
    Wd = l ∷ q ∷ here ∷ []

    pub dealt-trace : Trace s dealt_words Wd (header_word s free_place)
    dealt-trace =
        let f = header_word s free_place in
        let t₁ = trace-node s s [] f (trace-none s) l nl (has l l-ours) (inside l l-ours) in
        let t₂ = trace-node s (put_node s m l nl) (l ∷ []) f t₁ q nq (has q q-ours) (inside q q-ours) in
        trace-node s (put_node (put_node s m l nl) m q nq) (l ∷ q ∷ []) f t₂ here (with_latch np 0) (has here here-ours) (inside here here-ours)

    np-entries : N.entries np hi ≡ map_e (num_of (suc k)) (pre ++ (left_one, mid) ∷ (right_one, vb) ∷ post)
    unfolding num_of
    np-entries = bound-set P-usable hi PRE l va q vb POST opened.parent.sons mid ∙ sym (map_e-append (num_of (suc k)) pre ((left_one, mid) ∷ (right_one, vb) ∷ post))

    np-usable : Usable np
    np-usable = set-usable P-usable (length PRE) mid

    dealt-fits : TreeFits dealt_words m (suc (suc k)) hi dealt_node
    unfolding TreeFits num_of
    dealt-fits =
        let keep = sons-keep s t L H c U is dealt_words Wd dealt-trace.written in
        let O = opened in
        let hl = has l l-ours in
        let hq = has q q-ours in
        let hh = has here here-ours in
        let nh : ¬ (l ≡ here) = λ e. here-l (sym e) in
        let nf : ¬ (q ≡ here) = λ e. here-q (sym e) in
        let il = three-first s m l q nl nq hl hq l-q here (with_latch np 0) hh nh nf D.sized_l in
        let iq = three-second s m l q nl nq hl hq l-q here (with_latch np 0) hh nh nf D.sized_q in
        let ih = three_third s m l q nl nq hl hq l-q here (with_latch np 0) hh nh nf (sized-latch np 0 np-usable.sized) in (
          latch-fits dealt_words m here hi np 0 (map_e (num_of (suc k)) (pre ++ (left_one, mid) ∷ (right_one, vb) ∷ post)) ih np-usable.most np-entries,
          each-join (TreeFits dealt_words m (suc k)) pre left_one mid ((right_one, vb) ∷ post)
              (keep (suc k) pre front-part (at-l.front, (at-q.front, (at_here.front, tt))) O.front) (
                subst (λ w. NodeFits dealt_words m mid (record { num = l; word = w }) (map_e (num_of k) xs)) D.latch_l
                    (subst (NodeFits dealt_words m mid (record { num = l; word = nl.latch })) D.entries_l (node-fits dealt_words m l mid nl il D.few_l)),
                keep k xs (λ j. omega (arith, D.count j, cut j))
                    (omega (arith, D.count l, at-l.in_a, at-l.in_b), (omega (arith, D.count q, at-q.in_a, at-q.in_b), (omega (arith, D.count here, at_here.in_a, at_here.in_b), tt)))
                    D.each_xs,
              ) (
                (
                  subst (λ w. NodeFits dealt_words m vb (record { num = q; word = w }) (map_e (num_of k) bs)) D.latch_q
                      (subst (NodeFits dealt_words m vb (record { num = q; word = nq.latch })) D.entries_q (node-fits dealt_words m q vb nq iq D.few_q)),
                  keep k bs (λ j. omega (arith, D.count j, cut j))
                      (omega (arith, D.count l, at-l.in_a, at-l.in_b), (omega (arith, D.count q, at-q.in_a, at-q.in_b), (omega (arith, D.count here, at_here.in_a, at_here.in_b), tt)))
                      D.each_bs,
                ),
                keep (suc k) post back-part (at-l.back, (at-q.back, (at_here.back, tt))) O.back,
              ),
        )

    dealt-leaves : leaves Leaf Mark (suc (suc k)) dealt_node ≡ leaves Leaf Mark (suc (suc k)) U
    unfolding leaves
    dealt-leaves =
        let g = leaves Leaf Mark (suc k) in
        let g₀ = leaves Leaf Mark k in
        flat_append g pre ((left_one, mid) ∷ (right_one, vb) ∷ post)
        ∙ ap (λ x. flat g pre ++ x)
        (sym (append_assoc (flat g₀ xs) (flat g₀ bs) (flat g post)) ∙ ap (λ x. x ++ flat g post) D.leaf ∙ append_assoc (flat g₀ a.sons) (flat g₀ b.sons) (flat g post))
        ∙ sym (flat_append g pre ((a, va) ∷ (b, vb) ∷ post))

    dealt-count : (i : ℕ) → times i (numbers (suc (suc k)) dealt_node) + times i L.free ≡ times i (numbers (suc (suc k)) U) + times i L.free
    dealt-count i = omega (arith, cut i, pair-numbers k (record { num = here; word = 0 }) pre left_one mid right_one vb post i, D.count i)

    dealt-marked : (p o j n : ℕ) → ¬ (o ≡ p) → v.word ≡ latch_word p → Free p wa.word → Free p b.latch.word → Marked j n (latch_word o) (suc (suc k)) U → Marked j n (latch_word o) (suc (suc k)) dealt_node
    dealt-marked p o j n ne e fa fb M =
        let Q = Marked j n (latch_word o) (suc k) in
        marked-under j n (latch_word o) (suc k) dealt_node
        (some-mid Q pre ((a, va) ∷ (b, vb) ∷ []) ((left_one, mid) ∷ (right_one, vb) ∷ []) post go (marked-below j n (latch_word o) (suc k) U (λ g. ne (omega (arith, e, g))) M))
      where
        deal : SomeSon (Marked j n (latch_word o) k) xs ⊎ SomeSon (Marked j n (latch_word o) k) bs → SomeSon (Marked j n (latch_word o) (suc k)) ((left_one, mid) ∷ (right_one, vb) ∷ [])
        deal (inl y) = inl (marked-under j n (latch_word o) k left_one y)
        deal (inr y) = inr (inl (marked-under j n (latch_word o) k right_one y))

        go : SomeSon (Marked j n (latch_word o) (suc k)) ((a, va) ∷ (b, vb) ∷ []) → SomeSon (Marked j n (latch_word o) (suc k)) ((left_one, mid) ∷ (right_one, vb) ∷ [])
        go (inl M) = deal (D.marks j n (latch_word o) (inl (marked-below j n (latch_word o) k a (free_other p o wa.word (λ g. ne (sym g)) fa) M)))
        go (inr (inl M)) = deal (D.marks j n (latch_word o) (inr (marked-below j n (latch_word o) k b (free_other p o b.latch.word (λ g. ne (sym g)) fb) M)))
        go (inr (inr M)) = absurd M

    -- The party's node is one of the two.
    own-marked : (i w : ℕ) → ((i ≡ l) × (w₁ ≡ w)) ⊎ ((i ≡ q) × (w₂ ≡ w)) → SomeSon (Marked (suc k) i w (suc k)) ((left_one, mid) ∷ (right_one, vb) ∷ post)
    own-marked i w (inl e) = inl (subst (λ x. Marked (suc k) x w (suc k) left_one) (sym e.0) (subst (λ x. Marked (suc k) l x (suc k) left_one) e.1 (marked-self l w₁ k xs)))
    own-marked i w (inr e) = inr (inl (subst (λ x. Marked (suc k) x w (suc k) right_one) (sym e.0) (subst (λ x. Marked (suc k) q x (suc k) right_one) e.1 (marked-self q w₂ k bs))))

    pub dealt-holds : (p i : ℕ) → p ≤ width → ((i ≡ l) × (w₁ ≡ latch_word p)) ⊎ ((i ≡ q) × (w₂ ≡ latch_word p)) → v.word ≡ latch_word p → Free p wa.word → Free p b.latch.word
        → (session_at t p).stage ≡ 3
        → Holds dealt_words (set t p (standing_at (session_at t p) i (suc k))) (with_tree L L.height (fill c dealt_node) L.free)
    unfolding num_of
    dealt-holds p i lp which e fa fb st =
        let L' = with_tree L L.height (fill c dealt_node) L.free in
        let w = latch_word p in
        let M : Marked (suc k) i w (suc (suc k)) dealt_node = marked-under (suc k) i w (suc k) dealt_node
        (some_right (Marked (suc k) i w (suc k)) pre ((left_one, mid) ∷ (right_one, vb) ∷ post) (own-marked i w which)) in
        hole-row s t L H c U is dealt_words Wd (header_word s free_place) dealt-trace (l-ours, (q-ours, (here-ours, tt))) dealt_node L.free refl dealt-leaves dealt-fits
        (chained-keep s dealt_words m (header_word s free_place) L.free
        (part-keep s t L H c U is dealt_words Wd dealt-trace.written L.free (λ j. omega arith) (at-l.free, (at-q.free, (at_here.free, tt)))) H.fits.free)
        dealt-count p (standing_at (session_at t p) i (suc k))
        record {
          party = lp;
          undo = refl;
          own = own-hand L L' p (session_at t p) i (suc k) (inr st)
              (leaves-fill c dealt_node ∙ ap (λ y. before nothing (leaves Leaf Mark) c ++ (y ++ behind nothing (leaves Leaf Mark) c)) dealt-leaves ∙ sym (ap (leaves Leaf Mark (suc L.height)) is ∙ leaves-fill c U))
              (marked-into (suc k) i w c dealt_node M) (H.hands p lp);
          others = λ o ne k3 g N. marked-fill (session_at t o).level (session_at t o).at (latch_word o) c U dealt_node
              (dealt-marked p o (session_at t o).level (session_at t o).at ne e fa fb) (subst (Marked (session_at t o).level (session_at t o).at (latch_word o) (suc L.height)) is N);
        }

  pub A-latch : A.latch ≡ wa.word
  A-latch = node-latch s m l ∙ opened.node_a.latch

  pub B-latch : B.latch ≡ b.latch.word
  B-latch = node-latch s m q ∙ opened.node_b.latch

  -- ---- the left one's last son goes right

  module _ (w : ℕ) (ay : List (Numbered k × ℕ)) (y : Numbered k) (yb : ℕ) (ai-is : ai ≡ ay ++ (y, yb) ∷ []) (room : length b.sons < 8) where
    abbrev moved_r : Neighbours
    moved_r = move_from_left A down B

    a-entries : N.entries A va ≡ map_e (num_of k) ay ++ (num_of k y, yb) ∷ (num_of k z, zb) ∷ []
    a-entries =
        opened.node_a.sons ∙ ap (λ x. x ++ (num_of k z, zb) ∷ []) (ap (map_e (num_of k)) ai-is ∙ map_e-append (num_of k) ay ((y, yb) ∷ []))
        ∙ append_assoc (map_e (num_of k) ay) ((num_of k y, yb) ∷ []) ((num_of k z, zb) ∷ [])

    r-room : B.count < 8
    r-room = omega (arith, B-count, room)

    r-usable : Usable moved_r.left × Usable moved_r.right
    r-usable = from-left-usable A-usable B-usable down (omega (arith, A-count, ap length ai-is, length-append ay ((y, yb) ∷ []))) r-room

    right-latch : moved_r.left.latch ≡ A.latch
    unfolding move_from_left drop_son
    right-latch = refl

    right-word : (with_latch moved_r.right w).latch ≡ w
    unfolding with_latch
    right-word = refl

    right-few : (with_latch moved_r.right w).count ≤ 8
    unfolding with_latch
    right-few = r-usable.1.most

    pub right-dealt : Dealt ai ((z, down) ∷ b.sons) yb wa.word w moved_r.left (with_latch moved_r.right w)
    right-dealt =
        let i = map_e (num_of k) ay in
        record {
          sized_l = r-usable.0.sized;
          sized_q = sized-latch moved_r.right w r-usable.1.sized;
          few_l = r-usable.0.most;
          few_q = right-few;
          latch_l = right-latch ∙ A-latch;
          latch_q = right-word;
          entries_l = from-left-left A-usable B-usable r-room down va i (num_of k y) yb (num_of k z) zb a-entries
              ∙ sym (ap (map_e (num_of k)) ai-is ∙ map_e-append (num_of k) ay ((y, yb) ∷ []));
          entries_q = latch-entries moved_r.right w vb ∙ from-left-right A-usable B-usable r-room down va i (num_of k y) yb (num_of k z) zb a-entries vb
              ∙ ap (λ x. (num_of k z, down) ∷ x) opened.node_b.sons;
          each_xs = each_left (TreeFits s m k) ai ((z, zb) ∷ []) opened.sons_a;
          each_bs = (low-bound s m k z zb (each_right (TreeFits s m k) ai ((z, zb) ∷ []) opened.sons_a).0, opened.sons_b);
          count = λ i. omega (arith, flat-times (numbers k) ai ((z, zb) ∷ []) i, times-append i (numbers k z) (flat (numbers k) b.sons), times-append i (numbers k z) []);
          leaf = let g = leaves Leaf Mark k in sym (ap (λ x. x ++ flat g b.sons) (flat_append g ai ((z, zb) ∷ []) ∙ ap (λ x. flat g ai ++ x) (append-nil (g z))) ∙ append_assoc (flat g ai) (g z) (flat g b.sons));
          marks = λ j n o. deal j n o;
        }
      where
        left : (j n o : ℕ) → SomeSon (Marked j n o k) ai ⊎ SomeSon (Marked j n o k) ((z, zb) ∷ []) → SomeSon (Marked j n o k) ai ⊎ SomeSon (Marked j n o k) ((z, down) ∷ b.sons)
        left j n o (inl x) = inl x
        left j n o (inr (inl x)) = inr (inl x)
        left j n o (inr (inr x)) = absurd x

        deal : (j n o : ℕ) → SomeSon (Marked j n o k) (ai ++ (z, zb) ∷ []) ⊎ SomeSon (Marked j n o k) b.sons → SomeSon (Marked j n o k) ai ⊎ SomeSon (Marked j n o k) ((z, down) ∷ b.sons)
        deal j n o (inl x) = left j n o (some-cut (Marked j n o k) ai ((z, zb) ∷ []) x)
        deal j n o (inr x) = inr (inr x)

    pub right-up : moved_r.up ≡ yb
    right-up = from-left-up A-usable B-usable r-room down va (map_e (num_of k) ay) (num_of k y) yb (num_of k z) zb a-entries

    pub right-erase : moved_right w k (erase (suc k) a) (erase (suc k) b) vb ≡ (erase (suc k) (nd wa ai), yb) ∷ (erase (suc k) (nd (record { num = q; word = w }) ((z, down) ∷ b.sons)), vb) ∷ []
    unfolding moved_right erase
    right-erase =
        let E = erase k in
        let made : Sons k → ℕ → Sons k → Sons (suc k) = λ x n o. (node wa.word x, n) ∷ (node w (on_last (down_to k) o ++ map_e E b.sons), vb) ∷ [] in
        let sons-is = map_e-append E ai ((z, zb) ∷ []) in
        let e₁ = ap but_last sons-is ∙ but-last-snoc (map_e E ai) (E z) zb in
        let e₂ = ap (bound_of 0) (e₁ ∙ ap (map_e E) ai-is ∙ map_e-append E ay ((y, yb) ∷ [])) ∙ bound-snoc 0 (map_e E ay) (E y) yb in
        let e₃ = ap last_of sons-is ∙ last_snoc (map_e E ai) (E z) zb in
        (λ j. made (e₁ j) (e₂ j) (e₃ j))
        ∙ ap (λ d. (node wa.word (map_e E ai), yb) ∷ (node w ((E z, d) ∷ map_e E b.sons), vb) ∷ []) (down-erase k z zb)

  -- ---- the right one's first son goes left

  module _ (w : ℕ) (y : Numbered k) (yb : ℕ) (y₂ : Numbered k) (yb₂ : ℕ) (bs : List (Numbered k × ℕ)) (b-is : b.sons ≡ (y, yb) ∷ (y₂, yb₂) ∷ bs) (room : suc (length ai) < 8) where
    abbrev moved_l : Neighbours
    moved_l = move_from_right A down B

    b-entries : N.entries B vb ≡ (num_of k y, yb) ∷ (num_of k y₂, yb₂) ∷ map_e (num_of k) bs
    b-entries = opened.node_b.sons ∙ ap (map_e (num_of k)) b-is

    l-room : A.count < 8
    l-room = omega (arith, A-count, room)

    l-usable : Usable moved_l.left × Usable moved_l.right
    l-usable = from-right-usable A-usable B-usable down l-room (omega (arith, B-count, ap length b-is))

    left-latch : moved_l.right.latch ≡ B.latch
    unfolding move_from_right drop_son
    left-latch = refl

    left_word : (with_latch moved_l.left w).latch ≡ w
    unfolding with_latch
    left_word = refl

    left-few : (with_latch moved_l.left w).count ≤ 8
    unfolding with_latch
    left-few = l-usable.0.most

    b-each : Each (TreeFits s m k) ((y, yb) ∷ (y₂, yb₂) ∷ bs)
    b-each = subst (Each (TreeFits s m k)) b-is opened.sons_b

    pub left-dealt : Dealt ((ai ++ (z, down) ∷ []) ++ (y, yb) ∷ []) ((y₂, yb₂) ∷ bs) yb w b.latch.word (with_latch moved_l.left w) moved_l.right
    left-dealt = record {
      sized_l = sized-latch moved_l.left w l-usable.0.sized;
      sized_q = l-usable.1.sized;
      few_l = left-few;
      few_q = l-usable.1.most;
      latch_l = left_word;
      latch_q = left-latch ∙ B-latch;
      entries_l = latch-entries moved_l.left w yb ∙ from-right-left A-usable B-usable l-room down vb (num_of k y) yb (num_of k y₂) yb₂ (map_e (num_of k) bs) b-entries
          ∙ ap (λ x. x ++ (num_of k y, yb) ∷ []) A-down ∙ sym (map_e-append (num_of k) (ai ++ (z, down) ∷ []) ((y, yb) ∷ []));
      entries_q = from-right-right A-usable B-usable l-room down vb (num_of k y) yb (num_of k y₂) yb₂ (map_e (num_of k) bs) b-entries;
      each_xs = each_append (TreeFits s m k) (ai ++ (z, down) ∷ []) ((y, yb) ∷ []) (each_last (TreeFits s m k) ai z zb down (low-bound s m k z zb) opened.sons_a) (b-each.0, tt);
      each_bs = b-each.1;
      count = λ i. omega (
        arith,
        flat-times (numbers k) (ai ++ (z, down) ∷ []) ((y, yb) ∷ []) i,
        ap (times i) (flat-bound (numbers k) ai z zb down),
        times-append i (numbers k y) [],
        ap (λ es. times i (flat (numbers k) es)) b-is ∙ times-append i (numbers k y) (flat (numbers k) ((y₂, yb₂) ∷ bs)),
      );
      leaf =
          let g = leaves Leaf Mark k in
          let X = flat g (ai ++ (z, down) ∷ []) in
          let Y = flat g ((y₂, yb₂) ∷ bs) in
          ap (λ x. x ++ Y) (flat_append g (ai ++ (z, down) ∷ []) ((y, yb) ∷ []) ∙ ap (λ x. X ++ x) (append-nil (g y))) ∙ append_assoc X (g y) Y
          ∙ (λ j. flat-bound g ai z down zb j ++ flat g (sym b-is j));
      marks = λ j n o. deal j n o;
    }
      where
        right : (j n o : ℕ) → SomeSon (Marked j n o k) ((y, yb) ∷ (y₂, yb₂) ∷ bs) → SomeSon (Marked j n o k) ((ai ++ (z, down) ∷ []) ++ (y, yb) ∷ []) ⊎ SomeSon (Marked j n o k) ((y₂, yb₂) ∷ bs)
        right j n o (inl x) = inl (some_right (Marked j n o k) (ai ++ (z, down) ∷ []) ((y, yb) ∷ []) (inl x))
        right j n o (inr x) = inr x

        deal : (j n o : ℕ) → SomeSon (Marked j n o k) (ai ++ (z, zb) ∷ []) ⊎ SomeSon (Marked j n o k) b.sons
            → SomeSon (Marked j n o k) ((ai ++ (z, down) ∷ []) ++ (y, yb) ∷ []) ⊎ SomeSon (Marked j n o k) ((y₂, yb₂) ∷ bs)
        deal j n o (inl x) = inl (some_left (Marked j n o k) (ai ++ (z, down) ∷ []) ((y, yb) ∷ []) (some-mid (Marked j n o k) ai ((z, zb) ∷ []) ((z, down) ∷ []) [] (λ g. g) x))
        deal j n o (inr x) = right j n o (subst (SomeSon (Marked j n o k)) b-is x)

    pub left_up : moved_l.up ≡ yb
    left_up = from-right-up A-usable B-usable l-room down vb (num_of k y) yb (num_of k y₂) yb₂ (map_e (num_of k) bs) b-entries

    pub left-erase : moved_left w k (erase (suc k) a) (erase (suc k) b) vb
        ≡ (erase (suc k) (nd (record { num = l; word = w }) ((ai ++ (z, down) ∷ []) ++ (y, yb) ∷ [])), yb) ∷ (erase (suc k) (nd b.latch ((y₂, yb₂) ∷ bs)), vb) ∷ []
    unfolding moved_left erase
    left-erase =
        let E = erase k in
        let made : Sons k → Sons k → Sons (suc k) = λ x o. (node w (on_last (down_to k) x ++ take 1 o), bound_of 0 (take 1 o)) ∷ (node b.latch.word (drop 1 o), vb) ∷ [] in
        let e₁ = map_e-append E ai ((z, zb) ∷ []) in
        let e₂ = ap (map_e E) b-is in
        (λ j. made (e₁ j) (e₂ j))
        ∙ ap (λ x. (node w (x ++ (E y, yb) ∷ []), yb) ∷ (node b.latch.word (map_e E ((y₂, yb₂) ∷ bs)), vb) ∷ [])
        (on-last-snoc (down_to k) (map_e E ai) (E z) zb ∙ ap (λ d. map_e E ai ++ (E z, d) ∷ []) (down-erase k z zb) ∙ sym (map_e-append E ai ((z, down) ∷ [])))
        ∙ ap (λ x. (node w x, yb) ∷ (node b.latch.word (map_e E ((y₂, yb₂) ∷ bs)), vb) ∷ []) (sym (map_e-append E (ai ++ (z, down) ∷ []) ((y, yb) ∷ [])))

  -- ---- what the machine does

  abbrev ES : Sons (suc k)
  ES = map_e (erase (suc k)) (pre ++ (a, va) ∷ (b, vb) ∷ post)

  -- The pair is at the path to x.
  pub record AtPair (x : ℕ) : Type 0 where
    pub low : Below x (map_e (erase (suc k)) pre)
    pub left : 1 ≤ length (map_e (erase (suc k)) pre) → va < x
    pub upto : x ≤ vb

  pair-stepped : (p x : ℕ) → AtPair x → small p k (son-at x k ES) ≡ true
      → stepped p x k (son-at x k ES) ES ≡ map_e (erase (suc k)) pre ++ (mended (latch_word p) x k (erase (suc k) a, va) (erase (suc k) b, vb) ++ map_e (erase (suc k)) post)
  unfolding stepped
  pair-stepped p x T sm =
      rw (sm)
      (ap (on_pair x (mended (latch_word p) x k)) (map_e-append (erase (suc k)) pre ((a, va) ∷ (b, vb) ∷ post))
      ∙ pair-on x (mended (latch_word p) x k) (map_e (erase (suc k)) pre) (erase (suc k) a, va) (erase (suc k) b, vb) (map_e (erase (suc k)) post) T.low T.left T.upto)

  -- The node after, where the sons of the pair are those of new.
  pair-erase : (p x : ℕ) → AtPair x → small p k (son-at x k ES) ≡ true → (new : List (Numbered (suc k) × ℕ)) → mended (latch_word p) x k (erase (suc k) a, va) (erase (suc k) b, vb) ≡ map_e (erase (suc k)) new
      → erase (suc (suc k)) (nd (record { num = here; word = 0 }) (pre ++ (new ++ post))) ≡ descended p x (suc k) (erase (suc (suc k)) U)
  unfolding descended erase
  pair-erase p x T sm new e =
      ap (node 0) (map_e-append (erase (suc k)) pre (new ++ post) ∙ ap (λ g. map_e (erase (suc k)) pre ++ g) (map_e-append (erase (suc k)) new post)
      ∙ sym (pair-stepped p x T sm ∙ ap (λ g. map_e (erase (suc k)) pre ++ (g ++ map_e (erase (suc k)) post)) e))

  pair-free : (p x : ℕ) → AtPair x → small p k (son-at x k ES) ≡ true → fills p k (son-at x k ES) ≡ false → (o : Bool) → joins x k (erase (suc k) a, va) (erase (suc k) b, vb) ≡ o
      → (n : ℕ) → n ≡ length L.free + cond o 1 0
      → with_free n (on_tree (on_latch (latch_word p) x (descended p x)) (means L t)) ≡ level_state p x (means L t) k ES (son-at x k ES)
  unfolding means
  pair-free p x T sm fl o jn n e =
      let j : pick_pair x false (joins x k) ES ≡ o =
      ap (pick_pair x false (joins x k)) (map_e-append (erase (suc k)) pre ((a, va) ∷ (b, vb) ∷ post))
      ∙ pair-pick x false (joins x k) (map_e (erase (suc k)) pre) (erase (suc k) a, va) (erase (suc k) b, vb) (map_e (erase (suc k)) post) T.low T.left T.upto ∙ jn in
      let z : n ≡ length L.free + cond o 1 0 - 0 = omega (arith, e) in
      rw (sm, fl, j) (ap (λ y. with_free y (on_tree (on_latch (latch_word p) x (descended p x)) (means L t))) z)

  module _ (p : ℕ) (lp : p ≤ width) (st : (session_at t p).stage ≡ 3) (e : v.word ≡ latch_word p) (fa : Free p wa.word) (fb : Free p b.latch.word) (T : AtPair (session_at t p).target)
      (sm : small p k (son-at (session_at t p).target k ES) ≡ true) (fl : fills p k (son-at (session_at t p).target k ES) ≡ false)
      (F : Focus p (session_at t p).target (means L t) (suc k) (erase (suc (suc k)) U)) (er : Erased L t p (session_at t p).target (suc k) (erase (suc (suc k)) U) F c) where
    abbrev key : ℕ
    key = (session_at t p).target

    join-mended : (room : suc (length ai) + length b.sons ≤ 8) → joins key k (erase (suc k) a, va) (erase (suc k) b, vb) ≡ true
        → mended (latch_word p) key k (erase (suc k) a, va) (erase (suc k) b, vb) ≡ map_e (erase (suc k)) ((join_son (latch_word p) room, vb) ∷ [])
    unfolding mended
    join-mended room jn = rw (jn) (join-erase-son (latch_word p) room)

    pub join-becomes : (room : suc (length ai) + length b.sons ≤ 8) → joins key k (erase (suc k) a, va) (erase (suc k) b, vb) ≡ true
        → Becomes s (join_words (latch_word p) room) (set t p (standing_at (session_at t p) l (suc k)))
        (goes_on p (request_in (session_at t p)) (at key) (level_state p key (means L t) k ES (son-at key k ES))).next
    join-becomes room jn =
        let w = latch_word p in
        let n : suc (length L.free) ≡ length L.free + 1 = omega arith in
        becomes-at s (join_words w room) t (l ∷ here ∷ q ∷ []) q (join-trace w room) p (omega (arith, H.seats, lp)) l (suc k) (with_tree L L.height (fill c (join_node w room)) (q ∷ L.free))
        (level_state p key (means L t) k ES (son-at key k ES))
        (means-level L t p key (suc k) U (join_node w room) c F er (q ∷ L.free) (pair-erase p key T sm ((join_son w room, vb) ∷ []) (join-mended room jn)) ∙ pair-free p key T sm fl true jn (suc (length L.free)) n)
        (join-holds w room p lp refl e fa fb st)

    -- Two nodes that have the sons of both.
    dealt-becomes : (xs bs : List (Numbered k × ℕ)) (mid w₁ w₂ : ℕ) (nl nq : Node) (D : Dealt xs bs mid w₁ w₂ nl nq) (i : ℕ) → ((i ≡ l) × (w₁ ≡ latch_word p)) ⊎ ((i ≡ q) × (w₂ ≡ latch_word p))
        → joins key k (erase (suc k) a, va) (erase (suc k) b, vb) ≡ false
        → mended (latch_word p) key k (erase (suc k) a, va) (erase (suc k) b, vb) ≡ map_e (erase (suc k)) ((nd (record { num = l; word = w₁ }) xs, mid) ∷ (nd (record { num = q; word = w₂ }) bs, vb) ∷ [])
        → Becomes s (dealt_words xs bs mid w₁ w₂ nl nq D) (set t p (standing_at (session_at t p) i (suc k)))
        (goes_on p (request_in (session_at t p)) (at key) (level_state p key (means L t) k ES (son-at key k ES))).next
    dealt-becomes xs bs mid w₁ w₂ nl nq D i which jn same-sons =
        let n : length L.free ≡ length L.free + 0 = omega arith in
        let new : List (Numbered (suc k) × ℕ) = (nd (record { num = l; word = w₁ }) xs, mid) ∷ (nd (record { num = q; word = w₂ }) bs, vb) ∷ [] in
        let T' = dealt_node xs bs mid w₁ w₂ nl nq D in
        becomes-at s (dealt_words xs bs mid w₁ w₂ nl nq D) t (l ∷ q ∷ here ∷ []) (header_word s free_place) (dealt-trace xs bs mid w₁ w₂ nl nq D) p (omega (arith, H.seats, lp)) i (suc k)
        (with_tree L L.height (fill c T') L.free) (level_state p key (means L t) k ES (son-at key k ES))
        (means-level L t p key (suc k) U T' c F er L.free (pair-erase p key T sm new same-sons) ∙ pair-free p key T sm fl false jn (length L.free) n)
        (dealt-holds xs bs mid w₁ w₂ nl nq D p i lp which e fa fb st)

    module _ (ay : List (Numbered k × ℕ)) (y : Numbered k) (yb : ℕ) (ai-is : ai ≡ ay ++ (y, yb) ∷ []) (room : length b.sons < 8) (jn : joins key k (erase (suc k) a, va) (erase (suc k) b, vb) ≡ false)
        (over : leb key va ≡ false) where
      right-mended : mended (latch_word p) key k (erase (suc k) a, va) (erase (suc k) b, vb)
          ≡ map_e (erase (suc k)) ((nd (record { num = l; word = wa.word }) ai, yb) ∷ (nd (record { num = q; word = latch_word p }) ((z, down) ∷ b.sons), vb) ∷ [])
      unfolding mended
      right-mended = rw (jn, over) (right-erase (latch_word p) ay y yb ai-is room)

      pub right-becomes : Becomes s
          (dealt_words ai ((z, down) ∷ b.sons) yb wa.word (latch_word p) (moved_r (latch_word p) ay y yb ai-is room).left (with_latch (moved_r (latch_word p) ay y yb ai-is room).right (latch_word p)) (right-dealt (latch_word p) ay y yb ai-is room))
          (set t p (standing_at (session_at t p) q (suc k)))
          (goes_on p (request_in (session_at t p)) (at key) (level_state p key (means L t) k ES (son-at key k ES))).next
      right-becomes =
          let w = latch_word p in
          dealt-becomes ai ((z, down) ∷ b.sons) yb wa.word w (moved_r w ay y yb ai-is room).left (with_latch (moved_r w ay y yb ai-is room).right w) (right-dealt w ay y yb ai-is room) q (inr (refl, refl)) jn right-mended

    module _ (y : Numbered k) (yb : ℕ) (y₂ : Numbered k) (yb₂ : ℕ) (bs : List (Numbered k × ℕ)) (b-is : b.sons ≡ (y, yb) ∷ (y₂, yb₂) ∷ bs) (room : suc (length ai) < 8)
        (jn : joins key k (erase (suc k) a, va) (erase (suc k) b, vb) ≡ false) (under : leb key va ≡ true) where
      left-mended : mended (latch_word p) key k (erase (suc k) a, va) (erase (suc k) b, vb)
          ≡ map_e (erase (suc k)) ((nd (record { num = l; word = latch_word p }) ((ai ++ (z, down) ∷ []) ++ (y, yb) ∷ []), yb) ∷ (nd (record { num = q; word = b.latch.word }) ((y₂, yb₂) ∷ bs), vb) ∷ [])
      unfolding mended
      left-mended = rw (jn, under) (left-erase (latch_word p) y yb y₂ yb₂ bs b-is room)

      pub left-becomes : Becomes s
          (dealt_words ((ai ++ (z, down) ∷ []) ++ (y, yb) ∷ []) ((y₂, yb₂) ∷ bs) yb (latch_word p) b.latch.word (with_latch (moved_l (latch_word p) y yb y₂ yb₂ bs b-is room).left (latch_word p))
          (moved_l (latch_word p) y yb y₂ yb₂ bs b-is room).right (left-dealt (latch_word p) y yb y₂ yb₂ bs b-is room))
          (set t p (standing_at (session_at t p) l (suc k)))
          (goes_on p (request_in (session_at t p)) (at key) (level_state p key (means L t) k ES (son-at key k ES))).next
      left-becomes =
          let w = latch_word p in
          dealt-becomes ((ai ++ (z, down) ∷ []) ++ (y, yb) ∷ []) ((y₂, yb₂) ∷ bs) yb w b.latch.word (with_latch (moved_l w y yb y₂ yb₂ bs b-is room).left w)
          (moved_l w y yb y₂ yb₂ bs b-is room).right (left-dealt w y yb y₂ yb₂ bs b-is room) l (inl (refl, refl)) jn left-mended

  -- ---- as the words have it

  -- The son on the path is the left one, and the first; or it is the right one.
  abbrev pub Which : ℕ → Type 0
  Which x = ((pre ≡ []) × (x ≤ va)) ⊎ (va < x)

  abbrev i₀ : ℕ
  i₀ = length (map_e (num_of (suc k)) pre)

  both-sons : N.entries P hi ≡ (PRE ++ (l, va) ∷ []) ++ (q, vb) ∷ POST
  both-sons = opened.parent.sons ∙ sym (append_assoc PRE ((l, va) ∷ []) ((q, vb) ∷ POST))

  pub left_son : son_at s m here i₀ ≡ l
  left_son = son-here P-usable hi PRE l va ((q, vb) ∷ POST) opened.parent.sons

  pub right_son : son_at s m here (i₀ + 1) ≡ q
  right_son = ap (λ i. get_or P.sons i 0) (sym (length-append PRE ((l, va) ∷ []))) ∙ son-here P-usable hi (PRE ++ (l, va) ∷ []) q vb POST both-sons

  pub pair-room : i₀ < 7
  pair-room = omega (arith, P-count, P-usable.most, length-map_e (num_of (suc k)) pre)

  pub A-few : (1 ≤ A.count) × (A.count ≤ 8)
  A-few = (A-usable.least, A-usable.most)

  -- The records are there.
  pub pair-has : HasRecord s m here × HasRecord s m l × HasRecord s m q
  pair-has = (has here here-ours, has l l-ours, has q q-ours)

  module _ (x : ℕ) (low : Below x pre) (which : Which x) (up : x ≤ vb) where
    place-first : pre ≡ [] → x ≤ va → son_for P x ≡ 0
    place-first e u = find-here P-usable hi [] l va ((q, vb) ∷ POST) (opened.parent.sons ∙ ap (λ es. map_e (num_of (suc k)) es ++ (l, va) ∷ (q, vb) ∷ POST) e) x tt (inl u)

    place-second : va < x → son_for P x ≡ i₀ + 1
    place-second u = find-here P-usable hi (PRE ++ (l, va) ∷ []) q vb POST both-sons x (below_both x PRE l va (below-nodes (num_of (suc k)) x pre low) u) (inl up) ∙ length-append PRE ((l, va) ∷ [])

    pub pair-place-is : pair_place P x ≡ i₀
    unfolding pair_place
    pair-place-is = go which
      where
        go : Which x → cond (eqb (son_for P x) 0) 0 (son_for P x - 1) ≡ i₀
        go (inl e) = rw (eq-eqb (son_for P x) 0 (place-first e.0 e.1)) (ap (λ es. length (map_e (num_of (suc k)) es)) (sym e.0))
        go (inr u) = let z = place-second u in rw (ne_eqb (son_for P x) 0 (λ o. omega (arith, o, z))) (omega (arith, z))

    pub first-is : eqb (son_for P x) 0 ≡ leb x va
    first-is = go which
      where
        go : Which x → eqb (son_for P x) 0 ≡ leb x va
        go (inl e) = eq-eqb (son_for P x) 0 (place-first e.0 e.1) ∙ sym (leb_yes x va e.1)
        go (inr u) = let z = place-second u in ne_eqb (son_for P x) 0 (λ o. omega (arith, o, z)) ∙ sym (leb_no x va u)

  pub last-left : last_of_left s m here i₀ ≡ num_of k z
  last-left =
      (λ j. get_or (node_at s m (left_son j)).sons ((node_at s m (left_son j)).count - 1) 0)
      ∙ ap (λ i. get_or A.sons i 0) (omega (arith, A-count, length-map_e (num_of k) ai))
      ∙ son-here A-usable va (map_e (num_of k) ai) (num_of k z) zb [] opened.node_a.sons

  pub down_is : down_bound s m (suc k) here i₀ ≡ down
  unfolding down_bound
  down_is =
      down-cases s m k z zb va (last_of_left s m here i₀) (get_or P.bounds i₀ 0) (each_right (TreeFits s m k) ai ((z, zb) ∷ []) opened.sons_a).0 last-left last-is
      (bound-between P-usable hi PRE l va q vb POST opened.parent.sons)

  pub last_has : HasRecord s m (num_of k z)
  last_has = go (times-ours (num_of k z))
    where
      times-ours : (i : ℕ) → times i (flat (numbers k) a.sons) ≤ times i (numbers (suc (suc k)) U)
      times-ours i = a-part i

      go : times (num_of k z) (flat (numbers k) a.sons) ≤ times (num_of k z) (numbers (suc (suc k)) U) → HasRecord s m (num_of k z)
      go le = in-has s t L H c U is Z (num_of k z) (omega (arith, le, flat-times (numbers k) ai ((z, zb) ∷ []) (num_of k z), times-append (num_of k z) (numbers k z) [], self-times k z))

  pub join_is : (w : ℕ) (room : suc (length ai) + length b.sons ≤ 8) → join_sons s m here i₀ down w ≡ join_words w room
  unfolding join_sons
  join_is w room =
      λ j. push_free (put_node (put_node s m (left_son j) (with_latch (join_nodes (node_at s m (left_son j)) down (node_at s m (right_son j))) w)) m here (with_latch (remove_behind P i₀) 0)) m (right_son j)

  pub right-words-is : (w : ℕ) (ay : List (Numbered k × ℕ)) (y : Numbered k) (yb : ℕ) (ai-is : ai ≡ ay ++ (y, yb) ∷ []) (room : length b.sons < 8)
      → move_right s m here i₀ down w
      ≡ dealt_words ai ((z, down) ∷ b.sons) yb wa.word w (moved_r w ay y yb ai-is room).left (with_latch (moved_r w ay y yb ai-is room).right w) (right-dealt w ay y yb ai-is room)
  unfolding move_right
  right-words-is w ay y yb ai-is room =
      let made : ℕ → ℕ → ℕ → List ℕ = λ lo qo d.
      put_node (put_node (put_node s m lo (move_from_left (node_at s m lo) down (node_at s m qo)).left) m qo (with_latch (move_from_left (node_at s m lo) down (node_at s m qo)).right w)) m here (with_latch (set_bound P i₀ d) 0) in
      (λ j. made (left_son j) (right_son j) (move_from_left (node_at s m (left_son j)) down (node_at s m (right_son j))).up) ∙ ap (made l q) (right-up w ay y yb ai-is room)

  pub left-words-is : (w : ℕ) (y : Numbered k) (yb : ℕ) (y₂ : Numbered k) (yb₂ : ℕ) (bs : List (Numbered k × ℕ)) (b-is : b.sons ≡ (y, yb) ∷ (y₂, yb₂) ∷ bs) (room : suc (length ai) < 8)
      → move_left s m here i₀ down w
      ≡ dealt_words ((ai ++ (z, down) ∷ []) ++ (y, yb) ∷ []) ((y₂, yb₂) ∷ bs) yb w b.latch.word (with_latch (moved_l w y yb y₂ yb₂ bs b-is room).left w) (moved_l w y yb y₂ yb₂ bs b-is room).right
      (left-dealt w y yb y₂ yb₂ bs b-is room)
  unfolding move_left
  left-words-is w y yb y₂ yb₂ bs b-is room =
      let made : ℕ → ℕ → ℕ → List ℕ = λ lo qo d.
      put_node (put_node (put_node s m lo (with_latch (move_from_right (node_at s m lo) down (node_at s m qo)).left w)) m qo (move_from_right (node_at s m lo) down (node_at s m qo)).right) m here (with_latch (set_bound P i₀ d) 0) in
      (λ j. made (left_son j) (right_son j) (move_from_right (node_at s m (left_son j)) down (node_at s m (right_son j))).up) ∙ ap (made l q) (left_up w y yb y₂ yb₂ bs b-is room)
