-- What writes leave of a layout: the words of records that are not written fit as before; a tree with a hole; and whole rows: nodes and free records others, a
-- descriptor's holders or pins others, an entry's words others, a session record another.
use Rattle.std.specs.Prelude.{◌≡◌, List, [], ◌∷◌, ◌++◌, ◌⊎◌, ℕ, zero, suc, ◌+◌, ◌≤◌, ◌<◌, length, get_or, set}
use Rattle.std.proofs.Math.Path.{refl, sym, ap}
use Rattle.std.proofs.Common.{ap₂, subst, ◌∙◌, inl, inr, arith, length-set, get_or-set_same, get_or-set_other}
use Rattle.std.proofs.Math.Decide.{ℕ_discrete}
use Rattle.words.specs.Store.{word_of}
use Rattle.words.specs.Header.{header_word, root_place, height_place, first_place, free_place}
use Rattle.nodes.specs.Node.{decode_node}
use Rattle.nodes.specs.Entries as N
use Rattle.sessions.specs.declared.Session.{Session}
use Rattle.sessions.specs.Sessions.{session_at, idle_session}
use Rattle.machine.specs.Tree.{map_e, map_e-append, flat, leaves}
use Rattle.machine.specs.Holders.{width, latch_word}
use Rattle.machine.specs.State.{Entry, Undo, value, added, taken, top}
use Rattle.machine.specs.Calls.{records_for}
use Rattle.machine.specs.Sound.{times}
use Rattle.meaning.specs.Reading.{Chained, Leaf, Mark, Numbered, numbers, M-of, entries_of}
use Rattle.meaning.specs.Sound.{All, Apart, Linked, Lists, set_list}
use Rattle.meaning.specs.Numbers.{all_append, all_left, all_right, all-as, all_both, all_map, map-all, In, in?, not_in, apart_from, all_in, all_from, times-append, times-apart, times-in, apart-times, in-times}
use Rattle.meaning.specs.Frame.{SameAt, SameWords, leaf_records, numbers-leaves, chain_words, all_words, chained_same}
use Rattle.meaning.specs.Parts.{entry_at, entries_same}
use Rattle.meaning.specs.Around.{NCtx, here, under, fill, num_of, bound_in, before, behind, number_of, nothing, numbers-fill, leaves-fill, numbers_around, times-fill}
use Rattle.layout.specs.Written.{Written}
use Rattle.layout.specs.Layout.{Lay, Undone, leaves_in, firsts, undo_numbers, members_of, undos_from, all_records, Owned, Each, DescFits, NodeFits, TreeFits, GroupFits, UndoFits, UndosFit, Fits, Has, SomeSon, Marked, HandFits, NamedAs, Named, lists_in, Holds}

-- ---- parts

pub desc-keep : (s s' : List ℕ) (m : ℕ) (l : Leaf) → SameAt s s' m l.num → DescFits s m l → DescFits s' m l
desc-keep s s' m l e f = record {
  key = sym (ap (λ v. get_or v 1 0) e) ∙ f.key;
  locate = sym (ap (λ v. get_or v 2 0) e) ∙ f.locate;
  update = sym (ap (λ v. get_or v 3 0) e) ∙ f.update;
  gap = sym (ap (λ v. get_or v 4 0) e) ∙ f.gap;
  pins = sym (ap (λ v. get_or v 5 0) e) ∙ f.pins;
}

pub node-keep : (s s' : List ℕ) (m hi : ℕ) (w : Mark) (es : List (ℕ × ℕ)) → SameAt s s' m w.num → NodeFits s m hi w es → NodeFits s' m hi w es
node-keep s s' m hi w es e f = record {
  latch = sym (ap (λ v. get_or v 0 0) e) ∙ f.latch;
  few = subst (λ v. get_or v 1 0 ≤ 8) e f.few;
  sons = ap (λ v. N.entries (decode_node v) hi) (sym e) ∙ f.sons;
}

pub each_keep : {A : Type 0} (P Q : ℕ → A → Type 0) (g : A → List ℕ) (R : ℕ → Type 0) → ((b : ℕ) (a : A) → All R (g a) → P b a → Q b a) → (es : List (A × ℕ))
    → All R (flat g es) → Each P es → Each Q es
each_keep P Q g R k [] a f = tt
each_keep P Q g R k (p ∷ es) a f =
    (k p.1 p.0 (all_left R (g p.0) (flat g es) a) f.0, each_keep P Q g R k es (all_right R (g p.0) (flat g es) a) f.1)

pub tree-keep : (s s' : List ℕ) (m h hi : ℕ) (t : Numbered h) → All (SameAt s s' m) (numbers h t) → TreeFits s m h hi t → TreeFits s' m h hi t
unfolding TreeFits numbers
tree-keep s s' m zero hi t a f = desc-keep s s' m t a.0 f
tree-keep s s' m (suc h) hi t a f = (
  node-keep s s' m hi t.latch (map_e (num_of h) t.sons) a.0 f.0,
  each_keep (TreeFits s m h) (TreeFits s' m h) (numbers h) (SameAt s s' m) (λ b u. tree-keep s s' m h b u) t.sons a.1 f.1,
)

pub chained-keep : (s s' : List ℕ) (m i : ℕ) (l : List ℕ) → All (SameAt s s' m) l → Chained s m i l → Chained s' m i l
chained-keep s s' m i l a c = chained_same s s' m i l (all_words s s' m chain_words l a) c

linked-keep : (s s' : List ℕ) (m b : ℕ) (l : List ℕ) → All (SameAt s s' m) l → Linked s m b l → Linked s' m b l
linked-keep s s' m b [] a f = tt
linked-keep s s' m b (i ∷ l) a f = (sym (ap (λ v. get_or v 1 0) a.0) ∙ f.0, linked-keep s s' m i l a.1 f.1)

pub group-keep : (s s' : List ℕ) (m : ℕ) (c : List (ℕ × ℕ)) (l : Leaf) → word_of s m l.num 6 ≡ word_of s' m l.num 6 → All (SameAt s s' m) (firsts c) → GroupFits s m c l → GroupFits s' m c l
group-keep s s' m c l e a f = record {
  chained = subst (λ i. Chained s' m i (firsts c)) e (chained-keep s s' m (word_of s m l.num 6) (firsts c) a f.chained);
  linked = linked-keep s s' m 0 (firsts c) a f.linked;
  entries = all_both {P = λ q. SameAt s s' m q.0} {Q = λ q. word_of s m q.0 2 ≡ q.1} {R = λ q. word_of s' m q.0 2 ≡ q.1}
      (λ q x y. sym (ap (λ v. get_or v 2 0) x) ∙ y) c (all_map (λ q. q.0) (SameAt s s' m) c a) f.entries;
  once = f.once;
  gathered = f.gathered;
}

undo-keep : (s s' : List ℕ) (m i saved d : ℕ) (x : Undo) → SameAt s s' m i → UndoFits s m i saved d x → UndoFits s' m i saved d x
undo-keep s s' m i saved d (value e v) q f = (sym (ap (λ r. get_or r 1 0) q) ∙ f.0, sym (ap (λ r. get_or r 2 0) q) ∙ f.1, sym (ap (λ r. get_or r 3 0) q) ∙ f.2)
undo-keep s s' m i saved d (added e k) q f =
    (sym (ap (λ r. get_or r 1 0) q) ∙ f.0, sym (ap (λ r. get_or r 2 0) q) ∙ f.1, sym (ap (λ r. get_or r 3 0) q) ∙ f.2, sym (ap (λ r. get_or r 4 0) q) ∙ f.3)
undo-keep s s' m i saved d (taken e k) q f = (sym (ap (λ r. get_or r 1 0) q) ∙ f.0, sym (ap (λ r. get_or r 2 0) q) ∙ f.1, sym (ap (λ r. get_or r 4 0) q) ∙ f.2)

pub undos-keep : (s s' : List ℕ) (m i : ℕ) (us : List Undone) → All (SameAt s s' m) (undo_numbers us) → UndosFit s m i us → UndosFit s' m i us
undos-keep s s' m i us a f = record {
  chained = chained-keep s s' m i (undo_numbers us) a f.chained;
  words = all_both {P = λ u. SameAt s s' m u.num} {Q = λ u. UndoFits s m u.num u.saved u.descriptor u.undo} {R = λ u. UndoFits s' m u.num u.saved u.descriptor u.undo}
      (λ u x y. undo-keep s s' m u.num u.saved u.descriptor u.undo x y) us (all_map (λ u. u.num) (SameAt s s' m) us a) f.words;
}

-- ---- a tree with a hole: n is the record in the hole

-- The record of the tree's root.
unfoldable pub num_in : {k h : ℕ} → NCtx k h → ℕ → ℕ
num_in here n = n
num_in (under w pre c b post) n = w.num

pub num-fill : {k h : ℕ} (c : NCtx k h) (u : Numbered k) → num_of h (fill c u) ≡ num_in c (num_of k u)
unfolding num_in num_of
num-fill here u = refl
num-fill (under w pre c b post) u = refl

unfoldable pub CtxFits : List ℕ → ℕ → {k h : ℕ} → NCtx k h → ℕ → ℕ → Type 0
CtxFits s m here hi n = Unit {0}
CtxFits s m (under {h = h} w pre c b post) hi n =
    NodeFits s m hi w (map_e (num_of h) pre ++ (num_in c n, b) ∷ map_e (num_of h) post) × Each (TreeFits s m h) pre × Each (TreeFits s m h) post × CtxFits s m c b n

pub each-cut : {A : Type 0} (P : ℕ → A → Type 0) (pre : List (A × ℕ)) (a : A) (b : ℕ) (post : List (A × ℕ)) → Each P (pre ++ (a, b) ∷ post) → Each P pre × P b a × Each P post
each-cut P [] a b post f = (tt, f.0, f.1)
each-cut P (p ∷ pre) a b post f = let r = each-cut P pre a b post f.1 in ((f.0, r.0), r.1, r.2)

pub each-join : {A : Type 0} (P : ℕ → A → Type 0) (pre : List (A × ℕ)) (a : A) (b : ℕ) (post : List (A × ℕ)) → Each P pre → P b a → Each P post → Each P (pre ++ (a, b) ∷ post)
each-join P [] a b post x y z = (y, z)
each-join P (p ∷ pre) a b post x y z = (x.0, each-join P pre a b post x.1 y z)

sons-fill : {k h : ℕ} (pre : List (Numbered h × ℕ)) (c : NCtx k h) (u : Numbered k) (b : ℕ) (post : List (Numbered h × ℕ))
    → map_e (num_of h) (pre ++ (fill c u, b) ∷ post) ≡ map_e (num_of h) pre ++ (num_in c (num_of k u), b) ∷ map_e (num_of h) post
sons-fill {k} {h} pre c u b post =
    map_e-append (num_of h) pre ((fill c u, b) ∷ post) ∙ ap (λ i. map_e (num_of h) pre ++ (i, b) ∷ map_e (num_of h) post) (num-fill c u)

pub fits-open : (s : List ℕ) (m : ℕ) {k h : ℕ} (c : NCtx k h) (u : Numbered k) (hi : ℕ) → TreeFits s m h hi (fill c u) → CtxFits s m c hi (num_of k u) × TreeFits s m k (bound_in c hi) u
unfolding TreeFits CtxFits bound_in
fits-open s m here u hi f = (tt, f)
fits-open s m (under {h = h} w pre c b post) u hi f =
    let e = each-cut (TreeFits s m h) pre (fill c u) b post f.1 in
    let r = fits-open s m c u b e.1 in
    ((subst (NodeFits s m hi w) (sons-fill pre c u b post) f.0, e.0, e.2, r.0), r.1)

pub fits-close : (s : List ℕ) (m : ℕ) {k h : ℕ} (c : NCtx k h) (u : Numbered k) (hi : ℕ) → CtxFits s m c hi (num_of k u) → TreeFits s m k (bound_in c hi) u → TreeFits s m h hi (fill c u)
unfolding TreeFits CtxFits bound_in
fits-close s m here u hi f g = g
fits-close s m (under {h = h} w pre c b post) u hi f g =
    (subst (NodeFits s m hi w) (sym (sons-fill pre c u b post)) f.0, each-join (TreeFits s m h) pre (fill c u) b post f.1 (fits-close s m c u b f.3 g) f.2)

pub ctx-keep : (s s' : List ℕ) (m : ℕ) {k h : ℕ} (c : NCtx k h) (hi n : ℕ) → All (SameAt s s' m) (numbers_around c) → CtxFits s m c hi n → CtxFits s' m c hi n
unfolding CtxFits before behind
ctx-keep s s' m here hi n a f = tt
ctx-keep s s' m (under {h = h} w pre c b post) hi n a f =
    let P = SameAt s s' m in
    let A = before number_of numbers c in
    let B = behind number_of numbers c in
    let x = all_left P (w.num ∷ (flat (numbers h) pre ++ A)) (B ++ flat (numbers h) post) a in
    let y = all_right P (w.num ∷ (flat (numbers h) pre ++ A)) (B ++ flat (numbers h) post) a in
    let keep = each_keep (TreeFits s m h) (TreeFits s' m h) (numbers h) P (λ v u. tree-keep s s' m h v u) in (
      node-keep s s' m hi w (map_e (num_of h) pre ++ (num_in c n, b) ∷ map_e (num_of h) post) x.0 f.0,
      keep pre (all_left P (flat (numbers h) pre) A x.1) f.1,
      keep post (all_right P B (flat (numbers h) post) y) f.2,
      ctx-keep s s' m c b n (all_append P A B (all_right P (flat (numbers h) pre) A x.1) (all_left P B (flat (numbers h) post) y)) f.3,
    )

some-swap : {A : Type 0} (P : A → Type 0) (pre : List (A × ℕ)) (a a' : A) (b : ℕ) (post : List (A × ℕ)) → (P a → P a') → SomeSon P (pre ++ (a, b) ∷ post) → SomeSon P (pre ++ (a', b) ∷ post)
some-swap P [] a a' b post f (inl x) = inl (f x)
some-swap P [] a a' b post f (inr x) = inr x
some-swap P (p ∷ pre) a a' b post f (inl x) = inl x
some-swap P (p ∷ pre) a a' b post f (inr x) = inr (some-swap P pre a a' b post f x)

or_as : {A B C : Type 0} → (B → C) → A ⊎ B → A ⊎ C
or_as f (inl x) = inl x
or_as f (inr x) = inr (f x)

-- A marked node around the hole, or in it.
pub marked-fill : (j n w : ℕ) {k h : ℕ} (c : NCtx k h) (u u' : Numbered k) → (Marked j n w k u → Marked j n w k u') → Marked j n w h (fill c u) → Marked j n w h (fill c u')
unfolding Marked
marked-fill j n w here u u' f x = f x
marked-fill j n w (under {h = h} v pre c b post) u u' f x = or_as (some-swap (Marked j n w h) pre (fill c u) (fill c u') b post (marked-fill j n w c u u' f)) x

-- ---- owners

times-four : (i : ℕ) (a b c d : List ℕ) → times i (a ++ (b ++ (c ++ d))) ≡ times i a + (times i b + (times i c + times i d))
times-four i a b c d = omega (arith, times-append i a (b ++ (c ++ d)), times-append i b (c ++ d), times-append i c d)

pub records-times : (L : Lay) (i : ℕ) → times i (all_records L)
    ≡ times i (numbers (suc L.height) L.tree) + (times i (members_of L.members (leaves_in L)) + (times i (undos_from L.undos 1 width) + times i L.free))
records-times L i = times-four i (numbers (suc L.height) L.tree) (members_of L.members (leaves_in L)) (undos_from L.undos 1 width) L.free

-- No record stands twice.
pub owned-most : (L : Lay) → Owned L → (i : ℕ) → times i (all_records L) ≤ 1
owned-most L O i = go (in? i (all_records L))
  where
    go : In i (all_records L) ⊎ Apart i (all_records L) → times i (all_records L) ≤ 1
    go (inl h) = let b = all_in (λ j. (1 ≤ j) × (j ≤ L.records)) (all_records L) O.no_other i h in omega (arith, O.once i b.0 b.1)
    go (inr a) = omega (arith, times-apart i (all_records L) a)

-- The same records have an owner.
pub owned-again : (L L' : Lay) → L'.records ≡ L.records → ((i : ℕ) → times i (all_records L') ≡ times i (all_records L)) → Owned L → Owned L'
owned-again L L' r e O = record {
  once = λ i a b. e i ∙ O.once i a (subst (λ n. i ≤ n) r b);
  no_other = all_from (all_records L') (λ i h.
      let b = all_in (λ j. (1 ≤ j) × (j ≤ L.records)) (all_records L) O.no_other i (in-times i (all_records L) (subst (λ n. 1 ≤ n) (e i) (times-in i (all_records L') h))) in
      (b.0, subst (λ n. i ≤ n) (sym r) b.1));
}

-- Records are numbered from 1.
pub own-all : (L : Lay) → Owned L → All (λ i. 1 ≤ i) (all_records L)
own-all L O = all-as {P = λ j. (1 ≤ j) × (j ≤ L.records)} {Q = λ i. 1 ≤ i} (λ i x. x.0) (all_records L) O.no_other

pub own-tree : (L : Lay) → Owned L → All (λ i. 1 ≤ i) (numbers (suc L.height) L.tree)
own-tree L O = all_left (λ i. 1 ≤ i) (numbers (suc L.height) L.tree) (members_of L.members (leaves_in L) ++ (undos_from L.undos 1 width ++ L.free)) (own-all L O)

pub own-rest : (L : Lay) → Owned L → All (λ i. 1 ≤ i) (members_of L.members (leaves_in L) ++ (undos_from L.undos 1 width ++ L.free))
own-rest L O = all_right (λ i. 1 ≤ i) (numbers (suc L.height) L.tree) (members_of L.members (leaves_in L) ++ (undos_from L.undos 1 width ++ L.free)) (own-all L O)

pub own-leaves : (L : Lay) → Owned L → All (λ i. 1 ≤ i) (leaf_records (leaves_in L))
own-leaves L O = map-all (λ l. l.num) (λ i. 1 ≤ i) (leaves_in L) (numbers-leaves (λ i. 1 ≤ i) (suc L.height) L.tree (own-tree L O))

-- ---- rows

-- The layout with other parts.
abbrev pub with_tree : (L : Lay) (h : ℕ) → Numbered (suc h) → List ℕ → Lay
with_tree L h T f = record { entries = L.entries; height = h; tree = T; members = L.members; undos = L.undos; free = f; records = L.records }

abbrev pub with_entries_in : Lay → List Entry → Lay
with_entries_in L E = record { entries = E; height = L.height; tree = L.tree; members = L.members; undos = L.undos; free = L.free; records = L.records }

-- What a row asks of session records: party p has another, with the same undo chain; its request's words name what they should; and every other party that
-- stands at a node stands there still.
pub record Hands (L : Lay) (t : List Session) (L' : Lay) (p : ℕ) (x' : Session) : Type 0 where
  pub party : p ≤ width
  pub undo : x'.undo ≡ (session_at t p).undo
  pub own : HandFits L' p x'
  pub others : (q : ℕ) → ¬ (q ≡ p) → q ≤ width → (session_at t q).stage ≡ 3
      → Marked (session_at t q).level (session_at t q).at (latch_word q) (suc L.height) L.tree → Marked (session_at t q).level (session_at t q).at (latch_word q) (suc L'.height) L'.tree

-- ---- parts of rows

-- Records apart from those written are the same.
pub same-apart : (s s' W : List ℕ) → Written s s' W → (X : List ℕ) → All (λ i. 1 ≤ i) X → All (λ i. Apart i X) W → All (SameAt s s' (M-of s)) X
same-apart s s' W only X a f =
    all_from X (λ j h. only.same j (all_in (λ i. 1 ≤ i) X a j h) (apart_from j W (λ k. not_in j X (all_in (λ i. Apart i X) W f j k) h)))

-- A table with another record for party p.
pub table_here : (t : List Session) (p : ℕ) (x : Session) → length t ≡ suc width → p ≤ width → session_at (set t p x) p ≡ x
table_here t p x e l = get_or-set_same t p x idle_session (omega (arith, e, l))

pub table-there : (t : List Session) (p q : ℕ) (x : Session) → ¬ (q ≡ p) → session_at (set t p x) q ≡ session_at t q
table-there t p q x n = get_or-set_other t p q x idle_session n

pub table-undo : (t : List Session) (p : ℕ) (x : Session) → length t ≡ suc width → p ≤ width → x.undo ≡ (session_at t p).undo → (q : ℕ) → (session_at (set t p x) q).undo ≡ (session_at t q).undo
table-undo t p x e l u q = go (ℕ_discrete q p)
  where
    go : Dec (q ≡ p) → (session_at (set t p x) q).undo ≡ (session_at t q).undo
    go (yes z) = subst (λ j. (session_at (set t p x) j).undo ≡ (session_at t j).undo) (sym z) (ap (λ y. y.undo) (table_here t p x e l) ∙ u)
    go (no n) = ap (λ y. y.undo) (table-there t p q x n)

-- The undo records of one of n sessions from p on.
pub undos_part : (P : ℕ → Type 0) (u : ℕ → List Undone) (p n q : ℕ) → p ≤ q → q < p + n → All P (undos_from u p n) → All P (undo_numbers (u q))
undos_part P u p zero q a b f = absurd (omega (arith, a, b))
undos_part P u p (suc n) q a b f = go (ℕ_discrete p q) (λ c d. undos_part P u (suc p) n q c d (all_right P (undo_numbers (u p)) (undos_from u (suc p) n) f))
  where
    go : Dec (p ≡ q) → (suc p ≤ q → q < suc p + n → All P (undo_numbers (u q))) → All P (undo_numbers (u q))
    go (yes e) k = subst (λ j. All P (undo_numbers (u j))) e (all_left P (undo_numbers (u p)) (undos_from u (suc p) n) f)
    go (no e) k = k (omega (arith, a, e)) (omega (arith, b))

pub undos-row : (s s' : List ℕ) (t t' : List Session) (m : ℕ) (u : ℕ → List Undone) → All (SameAt s s' m) (undos_from u 1 width)
    → ((q : ℕ) → (session_at t' q).undo ≡ (session_at t q).undo) → ((q : ℕ) → suc q ≤ width → UndosFit s m (session_at t (suc q)).undo (u (suc q)))
    → (q : ℕ) → suc q ≤ width → UndosFit s' m (session_at t' (suc q)).undo (u (suc q))
undos-row s s' t t' m u a e f q l =
    subst (λ i. UndosFit s' m i (u (suc q))) (sym (e (suc q)))
    (undos-keep s s' m (session_at t (suc q)).undo (u (suc q)) (undos_part (SameAt s s' m) u 1 width (suc q) (omega arith) (omega (arith, l)) a) (f q l))

pub groups-row : (s s' : List ℕ) (m : ℕ) (g : ℕ → List (ℕ × ℕ)) (ls : List Leaf) → All (λ l. word_of s m l.num 6 ≡ word_of s' m l.num 6) ls → All (SameAt s s' m) (members_of g ls)
    → All (λ l. GroupFits s m (g l.num) l) ls → All (λ l. GroupFits s' m (g l.num) l) ls
groups-row s s' m g [] e a f = tt
groups-row s s' m g (l ∷ ls) e a f = (
  group-keep s s' m (g l.num) l e.0 (all_left (SameAt s s' m) (firsts (g l.num)) (members_of g ls) a) f.0,
  groups-row s s' m g ls e.1 (all_right (SameAt s s' m) (firsts (g l.num)) (members_of g ls) a) f.1,
)

-- Undo records and session records name descriptors that stand where they stood.
pub named-as : (ls ls' : List Leaf) → ((k d : ℕ) → Has k d ls → Has k d ls') → (us : List Undone) (g : Lists) → Named ls us g → Named ls' us g
named-as ls ls' h [] g f = tt
named-as ls ls' h (u ∷ us) g f = go u.undo (named-as ls ls' h us) f
  where
    go : (x : Undo) → ((c : Lists) → Named ls us c → Named ls' us c) → NamedAs ls (Named ls us) g u.num u.saved u.descriptor x → NamedAs ls' (Named ls' us) g u.num u.saved u.descriptor x
    go (value e v) k f = k g f
    go (added e i) k f = (h i u.descriptor f.0, f.1, k (set_list u.descriptor e 0 g) f.2)
    go (taken e i) k f = (h i u.descriptor f.0, k (set_list u.descriptor e u.num g) f.1)

pub hand-as : (L L' : Lay) (p : ℕ) (x : Session) → ((k d : ℕ) → Has k d (leaves_in L) → Has k d (leaves_in L'))
    → (x.stage ≡ 3 → Marked x.level x.at (latch_word p) (suc L.height) L.tree → Marked x.level x.at (latch_word p) (suc L'.height) L'.tree)
    → HandFits L p x → HandFits L' p x
hand-as L L' p x h m f = record {
  stage = f.stage;
  at-node = λ e. m e (f.at-node e);
  low = λ n e. h x.first x.low (f.low n e);
  high = λ e n. h x.second x.high (f.high e n);
  last = f.last;
}

-- The words of a layout, with M of the words before.
pub fits-row : (s : List ℕ) (t : List Session) (L : Lay) → Fits s t L → (s' W : List ℕ) → Written s s' W → (t' : List Session) (L' : Lay) → L'.records ≡ L.records
    → entries_of s' 1 (M-of s) ≡ L'.entries → header_word s' height_place ≡ suc L'.height → header_word s' root_place ≡ num_of (suc L'.height) L'.tree
    → TreeFits s' (M-of s) (suc L'.height) top L'.tree → Chained s' (M-of s) (header_word s' first_place) (leaf_records (leaves_in L'))
    → All (λ l. GroupFits s' (M-of s) (L'.members l.num) l) (leaves_in L') → Chained s' (M-of s) (header_word s' free_place) L'.free
    → ((p : ℕ) → suc p ≤ width → UndosFit s' (M-of s) (session_at t' (suc p)).undo (L'.undos (suc p))) → Fits s' t' L'
fits-row s t L F s' W only t' L' records entries height root tree chained groups free undos =
    let e : M-of s ≡ M-of s' = sym only.entries in
    record {
      header = subst (λ n. 16 ≤ n) (sym only.long) F.header;
      sized = only.records ∙ F.sized ∙ ap₂ records_for e (sym only.long);
      records = only.records ∙ F.records ∙ sym records;
      entries = ap (entries_of s' 1) only.entries ∙ entries;
      height = height;
      root = root;
      tree = subst (λ m. TreeFits s' m (suc L'.height) top L'.tree) e tree;
      chained = subst (λ m. Chained s' m (header_word s' first_place) (leaf_records (leaves_in L'))) e chained;
      groups = subst (λ m. All (λ l. GroupFits s' m (L'.members l.num) l) (leaves_in L')) e groups;
      free = subst (λ m. Chained s' m (header_word s' free_place) L'.free) e free;
      undos = λ p l. subst (λ m. UndosFit s' m (session_at t' (suc p)).undo (L'.undos (suc p))) e (undos p l);
    }

-- The whole: the words fit, the same records have an owner, and the records that words name are those that they named.
pub holds_row : (s : List ℕ) (t : List Session) (L : Lay) → Holds s t L → (s' : List ℕ) (L' : Lay) (p : ℕ) (x' : Session) → p ≤ width → Fits s' (set t p x') L' → L'.records ≡ L.records
    → ((i : ℕ) → times i (all_records L') ≡ times i (all_records L)) → HandFits L' p x'
    → ((q : ℕ) → ¬ (q ≡ p) → q ≤ width → HandFits L q (session_at t q) → HandFits L' q (session_at t q))
    → ((q : ℕ) → suc q ≤ width → Named (leaves_in L) (L.undos (suc q)) (lists_in L) → Named (leaves_in L') (L'.undos (suc q)) (lists_in L')) → Holds s' (set t p x') L'
holds_row s t L H s' L' p x' l F r e own others named = record {
  seats = length-set t p x' ∙ H.seats;
  fits = F;
  owned = owned-again L L' r e H.owned;
  hands = λ q k. go q k (ℕ_discrete q p);
  named = λ q k. named q k (H.named q k);
}
  where
    go : (q : ℕ) → q ≤ width → Dec (q ≡ p) → HandFits L' q (session_at (set t p x') q)
    go q k (yes z) = subst (λ j. HandFits L' j (session_at (set t p x') j)) (sym z) (subst (HandFits L' p) (sym (table_here t p x' H.seats l)) own)
    go q k (no n) = subst (HandFits L' q) (sym (table-there t p q x' n)) (others q n k (H.hands q k))

-- ---- rows

-- Nodes and free records are others: every descriptor stands where it stood.
pub tree-row : (s : List ℕ) (t : List Session) (L : Lay) → Holds s t L → (s' : List ℕ) (W : List ℕ) → Written s s' W
    → ((e : ℕ) → 1 ≤ e → e ≤ M-of s → entry_at s e ≡ entry_at s' e) → header_word s' first_place ≡ header_word s first_place
    → All (λ i. Apart i (leaf_records (leaves_in L) ++ (members_of L.members (leaves_in L) ++ undos_from L.undos 1 width))) W
    → (h' : ℕ) (T' : Numbered (suc h')) (f' : List ℕ) → leaves Leaf Mark (suc h') T' ≡ leaves_in L
    → header_word s' height_place ≡ suc h' → header_word s' root_place ≡ num_of (suc h') T' → TreeFits s' (M-of s) (suc h') top T'
    → Chained s' (M-of s) (header_word s' free_place) f'
    → ((i : ℕ) → times i (numbers (suc h') T') + times i f' ≡ times i (numbers (suc L.height) L.tree) + times i L.free)
    → (p : ℕ) (x' : Session) → Hands L t (with_tree L h' T' f') p x' → Holds s' (set t p x') (with_tree L h' T' f')
tree-row s t L H s' W only ents first far h' T' f' e height root tree free count p x' hands =
    let F = H.fits in
    let m = M-of s in
    let P = SameAt s s' m in
    let ls = leaves_in L in
    let X = leaf_records ls in
    let Y = members_of L.members ls in
    let Z = undos_from L.undos 1 width in
    let one : ℕ → Type 0 = λ i. 1 ≤ i in
    let rest = own-rest L H.owned in
    let from = all_append one X (Y ++ Z) (own-leaves L H.owned)
    (all_append one Y Z (all_left one Y (Z ++ L.free) rest) (all_left one Z L.free (all_right one Y (Z ++ L.free) rest))) in
    let a = same-apart s s' W only (X ++ (Y ++ Z)) from far in
    let x = all_left P X (Y ++ Z) a in
    let y = all_left P Y Z (all_right P X (Y ++ Z) a) in
    let z = all_right P Y Z (all_right P X (Y ++ Z) a) in
    let L' = with_tree L h' T' f' in
    holds_row s t L H s' L' p x' hands.party
    (fits-row s t L F s' W only (set t p x') L' refl (entries_same s s' 1 m (λ d i j. ents d i (omega (arith, j))) ∙ F.entries) height root tree
    (subst (λ k. Chained s' m (header_word s' first_place) (leaf_records k)) (sym e) (subst (λ i. Chained s' m i X) (sym first) (chained-keep s s' m (header_word s first_place) X x F.chained)))
    (subst (λ k. All (λ l. GroupFits s' m (L.members l.num) l) k) (sym e)
    (groups-row s s' m L.members ls (all-as {P = λ l. SameAt s s' m l.num} {Q = λ l. word_of s m l.num 6 ≡ word_of s' m l.num 6} (λ l q. ap (λ v. get_or v 6 0) q) ls (all_map (λ l. l.num) P ls x)) y F.groups))
    free (undos-row s s' t (set t p x') m L.undos z (table-undo t p x' H.seats hands.party hands.undo) F.undos))
    refl (λ i. let q = ap (λ k. times i (members_of L.members k)) e in omega (arith, records-times L' i, records-times L i, count i, q)) hands.own
    (λ q n k f. hand-as L L' q (session_at t q) (λ c d. subst (Has c d) (sym e)) (λ g. hands.others q n k g) f)
    (λ q k f. subst (λ w. Named w (L.undos (suc q)) (lists_in L)) (sym e) f)

-- A list with one leaf replaced by another of the same record and key.
module _ (A : List Leaf) (l l' : Leaf) (B : List Leaf) (num : l'.num ≡ l.num) where
  pub records-swap : leaf_records (A ++ l' ∷ B) ≡ leaf_records (A ++ l ∷ B)
  records-swap = go A
    where
      go : (C : List Leaf) → leaf_records (C ++ l' ∷ B) ≡ leaf_records (C ++ l ∷ B)
      go [] = ap (λ i. i ∷ leaf_records B) num
      go (x ∷ C) = ap (λ k. x.num ∷ k) (go C)

  pub members-swap : (g : ℕ → List (ℕ × ℕ)) → members_of g (A ++ l' ∷ B) ≡ members_of g (A ++ l ∷ B)
  members-swap g = go A
    where
      go : (C : List Leaf) → members_of g (C ++ l' ∷ B) ≡ members_of g (C ++ l ∷ B)
      go [] = ap (λ i. firsts (g i) ++ members_of g B) num
      go (x ∷ C) = ap (λ k. firsts (g x.num) ++ k) (go C)

  pub has-swap : l'.desc.key ≡ l.desc.key → (k d : ℕ) → Has k d (A ++ l ∷ B) → Has k d (A ++ l' ∷ B)
  has-swap key k d = go A
    where
      go : (C : List Leaf) → Has k d (C ++ l ∷ B) → Has k d (C ++ l' ∷ B)
      go [] (inl e) = inl (key ∙ e.0, num ∙ e.1)
      go [] (inr h) = inr h
      go (x ∷ C) (inl e) = inl e
      go (x ∷ C) (inr h) = inr (go C h)

pub all-swap : (P : Leaf → Type 0) (A : List Leaf) (l l' : Leaf) (B : List Leaf) → (P l → P l') → All P (A ++ l ∷ B) → All P (A ++ l' ∷ B)
all-swap P [] l l' B f a = (f a.0, a.1)
all-swap P (x ∷ A) l l' B f a = (a.0, all-swap P A l l' B f a.1)

pub leaves-one : {h : ℕ} (c : NCtx 0 h) (l : Leaf) → leaves Leaf Mark h (fill c l) ≡ before nothing (leaves Leaf Mark) c ++ l ∷ behind nothing (leaves Leaf Mark) c
leaves-one c l =
    let e : leaves Leaf Mark 0 l ≡ l ∷ [] = unfold leaves in refl in
    leaves-fill c l ∙ ap (λ k. before nothing (leaves Leaf Mark) c ++ (k ++ behind nothing (leaves Leaf Mark) c)) e

pub around-all : (P : ℕ → Type 0) {k h : ℕ} (c : NCtx k h) (u : Numbered k) → All P (numbers h (fill c u)) → All P (numbers_around c)
around-all P {k} c u a =
    let A = before number_of numbers c in
    let B = behind number_of numbers c in
    let x : All P (A ++ (numbers k u ++ B)) = subst (All P) (numbers-fill c u) a in
    all_append P A B (all_left P A (numbers k u ++ B) x) (all_right P (numbers k u) B (all_right P A (numbers k u ++ B) x))

pub group-as : (s : List ℕ) (m : ℕ) (g : ℕ → List (ℕ × ℕ)) (l l' : Leaf) → l'.num ≡ l.num → l'.desc.members ≡ l.desc.members → GroupFits s m (g l.num) l → GroupFits s m (g l'.num) l'
group-as s m g l l' n e f = subst (λ i. GroupFits s m (g i) l') (sym n) (record {
  chained = subst (λ i. Chained s m (word_of s m i 6) (firsts (g l.num))) (sym n) f.chained;
  linked = f.linked;
  entries = f.entries;
  once = f.once;
  gathered = f.gathered ∙ sym e;
})

-- A word that is the same in the record written is the same in all.
pub word_row : (s s' : List ℕ) (d : ℕ) → Written s s' (d ∷ []) → (k : ℕ) → word_of s (M-of s) d k ≡ word_of s' (M-of s) d k → (j : ℕ) → 1 ≤ j → word_of s (M-of s) j k ≡ word_of s' (M-of s) j k
word_row s s' d only k e j l = go (ℕ_discrete j d)
  where
    go : Dec (j ≡ d) → word_of s (M-of s) j k ≡ word_of s' (M-of s) j k
    go (yes z) = subst (λ i. word_of s (M-of s) i k ≡ word_of s' (M-of s) i k) (sym z) e
    go (no n) = ap (λ v. get_or v k 0) (only.same j l (n, tt))

-- A descriptor that is in the tree is there still.
pub hole-has : {h : ℕ} (c : NCtx 0 h) (l l' : Leaf) → l'.num ≡ l.num → l'.desc.key ≡ l.desc.key → (k d : ℕ) → Has k d (leaves Leaf Mark h (fill c l)) → Has k d (leaves Leaf Mark h (fill c l'))
hole-has c l l' num key k d x =
    subst (Has k d) (sym (leaves-one c l'))
    (has-swap (before nothing (leaves Leaf Mark) c) l l' (behind nothing (leaves Leaf Mark) c) num key k d (subst (Has k d) (leaves-one c l) x))

-- The record of a descriptor in the hole is nowhere else.
module _ (L : Lay) (O : Owned L) (c : NCtx 0 (suc L.height)) (l : Leaf) (is : L.tree ≡ fill c l) where
  pub hole-times : (i : ℕ) → times i (numbers (suc L.height) L.tree) ≡ times i (numbers_around c) + times i (l.num ∷ [])
  hole-times i =
      let e : numbers 0 l ≡ l.num ∷ [] = unfold numbers in refl in
      ap (λ t. times i (numbers (suc L.height) t)) is ∙ times-fill c l i ∙ ap (λ k. times i (numbers_around c) + times i k) e

  pub hole-around : (i : ℕ) → In i (numbers_around c) → ¬ (i ≡ l.num)
  hole-around i h e = omega (arith, hole-times i, times-in i (numbers_around c) h, times-in i (l.num ∷ []) (inl e), records-times L i, owned-most L O i)

  pub hole-rest : Apart l.num (members_of L.members (leaves_in L) ++ (undos_from L.undos 1 width ++ L.free))
  hole-rest = apart-times l.num (members_of L.members (leaves_in L) ++ (undos_from L.undos 1 width ++ L.free))
      (omega (
        arith,
        hole-times l.num,
        times-in l.num (l.num ∷ []) (inl refl),
        owned-most L O l.num,
        times-append l.num (numbers (suc L.height) L.tree) (members_of L.members (leaves_in L) ++ (undos_from L.undos 1 width ++ L.free)),
      ))

  pub hole-one : (i : ℕ) → In i (numbers_around c) → 1 ≤ i
  hole-one i h = all_in (λ j. 1 ≤ j) (numbers_around c) (around-all (λ j. 1 ≤ j) c l (subst (λ t. All (λ j. 1 ≤ j) (numbers (suc L.height) t)) is (own-tree L O))) i h

-- The tree with another descriptor at the same record in the hole.
pub hole-tree : (s s' : List ℕ) (m : ℕ) {h : ℕ} (c : NCtx 0 h) (l l' : Leaf) → l'.num ≡ l.num → All (SameAt s s' m) (numbers_around c) → DescFits s' m l' → TreeFits s m h top (fill c l) → TreeFits s' m h top (fill c l')
hole-tree s s' m c l l' n a d f =
    let e : num_of 0 l ≡ num_of 0 l' = unfold num_of in (sym n) in
    fits-close s' m c l' top (subst (CtxFits s' m c top) e (ctx-keep s s' m c top (num_of 0 l) a (fits-open s m c l top f).0)) (unfold TreeFits in d)

pub hole-root : {h : ℕ} (c : NCtx 0 h) (l l' : Leaf) → l'.num ≡ l.num → num_of h (fill c l) ≡ num_of h (fill c l')
hole-root c l l' n = let e : num_of 0 l ≡ num_of 0 l' = unfold num_of in (sym n) in num-fill c l ∙ ap (num_in c) e ∙ sym (num-fill c l')

pub hole-numbers : {h : ℕ} (c : NCtx 0 h) (l l' : Leaf) → l'.num ≡ l.num → (i : ℕ) → times i (numbers h (fill c l')) ≡ times i (numbers h (fill c l))
hole-numbers c l l' n i =
    let e : numbers 0 l' ≡ numbers 0 l = unfold numbers in (ap (λ j. j ∷ []) n) in
    times-fill c l' i ∙ ap (λ k. times i (numbers_around c) + times i k) e ∙ sym (times-fill c l i)

-- No node is in the hole.
pub hole-marked : (j n w : ℕ) {h : ℕ} (c : NCtx 0 h) (l l' : Leaf) → Marked j n w h (fill c l) → Marked j n w h (fill c l')
unfolding Marked
hole-marked j n w c l l' = marked-fill j n w c l l' (λ x. x)

-- The holders or pins of the descriptor l in the hole are others.
pub desc-row : (s : List ℕ) (t : List Session) (L : Lay) → Holds s t L → (c : NCtx 0 (suc L.height)) (l l' : Leaf) → L.tree ≡ fill c l
    → l'.num ≡ l.num → l'.desc.key ≡ l.desc.key → l'.desc.members ≡ l.desc.members
    → (s' : List ℕ) → Written s s' (l.num ∷ []) → ((e : ℕ) → 1 ≤ e → e ≤ M-of s → entry_at s e ≡ entry_at s' e) → ((k : ℕ) → k < 16 → header_word s' k ≡ header_word s k)
    → DescFits s' (M-of s) l' → word_of s (M-of s) l.num 0 ≡ word_of s' (M-of s) l.num 0 → word_of s (M-of s) l.num 6 ≡ word_of s' (M-of s) l.num 6
    → (p : ℕ) (x' : Session) → p ≤ width → x'.undo ≡ (session_at t p).undo → HandFits (with_tree L L.height (fill c l') L.free) p x'
    → Holds s' (set t p x') (with_tree L L.height (fill c l') L.free)
desc-row s t L H c l l' is num key members s' only ents head desc w0 w6 p x' party undo own =
    let F = H.fits in
    let O = H.owned in
    let m = M-of s in
    let h = suc L.height in
    let P = SameAt s s' m in
    let ls = leaves_in L in
    let A = before nothing (leaves Leaf Mark) c in
    let B = behind nothing (leaves Leaf Mark) c in
    let old : ls ≡ A ++ l ∷ B = ap (leaves Leaf Mark h) is ∙ leaves-one c l in
    let new : leaves Leaf Mark h (fill c l') ≡ A ++ l' ∷ B = leaves-one c l' in
    let Y = members_of L.members ls in
    let Z = undos_from L.undos 1 width in
    let rest = same-apart s s' (l.num ∷ []) only (Y ++ (Z ++ L.free)) (own-rest L O) (hole-rest L O c l is, tt) in
    let around = all_from {P = P} (numbers_around c) (λ j i. only.same j (hole-one L O c l is j i) (hole-around L O c l is j i, tt)) in
    let behind-members = all_right P Y (Z ++ L.free) rest in
    let L' = with_tree L L.height (fill c l') L.free in
    let Q : Leaf → Type 0 = λ k. GroupFits s' m (L.members k.num) k in
    let chained = chained_same s s' m (header_word s first_place) (leaf_records ls)
    (all-as {P = λ i. 1 ≤ i} {Q = SameWords s s' m chain_words} (λ j i. (word_row s s' l.num only 0 w0 j i, tt)) (leaf_records ls) (own-leaves L O)) F.chained in
    let groups = groups-row s s' m L.members ls
    (all-as {P = λ k. 1 ≤ k.num} {Q = λ k. word_of s m k.num 6 ≡ word_of s' m k.num 6} (λ k i. word_row s s' l.num only 6 w6 k.num i) ls (all_map (λ k. k.num) (λ i. 1 ≤ i) ls (own-leaves L O)))
    (all_left P Y (Z ++ L.free) rest) F.groups in
    let has : (k d : ℕ) → Has k d ls → Has k d (leaves Leaf Mark h (fill c l')) = λ k d x. subst (Has k d) (sym new) (has-swap A l l' B num key k d (subst (Has k d) old x)) in
    let same-records : leaf_records ls ≡ leaf_records (leaves Leaf Mark h (fill c l')) = ap leaf_records old ∙ sym (records-swap A l l' B num) ∙ ap leaf_records (sym new) in
    let same-members : members_of L.members (leaves Leaf Mark h (fill c l')) ≡ Y = ap (members_of L.members) new ∙ members-swap A l l' B num L.members ∙ ap (members_of L.members) (sym old) in
    holds_row s t L H s' L' p x' party
    (fits-row s t L F s' (l.num ∷ []) only (set t p x') L' refl (entries_same s s' 1 m (λ d i j. ents d i (omega (arith, j))) ∙ F.entries)
    (head 3 (omega arith) ∙ F.height) (head 2 (omega arith) ∙ F.root ∙ ap (num_of h) is ∙ hole-root c l l' num)
    (hole-tree s s' m c l l' num around desc (subst (TreeFits s m h top) is F.tree))
    (subst (λ i. Chained s' m i (leaf_records (leaves Leaf Mark h (fill c l')))) (sym (head 4 (omega arith))) (subst (Chained s' m (header_word s first_place)) same-records chained))
    (subst (All Q) (sym new) (all-swap Q A l l' B (group-as s' m L.members l l' num members) (subst (All Q) old groups)))
    (subst (λ i. Chained s' m i L.free) (sym (head 5 (omega arith))) (chained-keep s s' m (header_word s free_place) L.free (all_right P Z L.free behind-members) F.free))
    (undos-row s s' t (set t p x') m L.undos (all_left P Z L.free behind-members) (table-undo t p x' H.seats party undo) F.undos))
    refl
    (λ i.
    let q = ap (times i) same-members in
    let r = hole-numbers c l l' num i ∙ ap (λ u. times i (numbers h u)) (sym is) in
    omega (arith, records-times L' i, records-times L i, q, r))
    own
    (λ q n k f. hand-as L L' q (session_at t q) has
    (λ g x. hole-marked (session_at t q).level (session_at t q).at (latch_word q) c l l' (subst (Marked (session_at t q).level (session_at t q).at (latch_word q) h) is x)) f)
    (λ q k f. named-as ls (leaves Leaf Mark h (fill c l')) has (L.undos (suc q)) (lists_in L) f)

-- Entries are others.
pub entry_row : (s : List ℕ) (t : List Session) (L : Lay) → Holds s t L → (s' : List ℕ) → Written s s' [] → ((k : ℕ) → k < 16 → header_word s' k ≡ header_word s k)
    → (E' : List Entry) → entries_of s' 1 (M-of s) ≡ E'
    → (p : ℕ) (x' : Session) → p ≤ width → x'.undo ≡ (session_at t p).undo → HandFits L p x' → Holds s' (set t p x') (with_entries_in L E')
entry_row s t L H s' only head E' ents p x' party undo own =
    let F = H.fits in
    let O = H.owned in
    let m = M-of s in
    let h = suc L.height in
    let P = SameAt s s' m in
    let ls = leaves_in L in
    let Y = members_of L.members ls in
    let Z = undos_from L.undos 1 width in
    let same : (X : List ℕ) → All (λ i. 1 ≤ i) X → All P X = λ X a. same-apart s s' [] only X a tt in
    let rest = same (Y ++ (Z ++ L.free)) (own-rest L O) in
    let x = same (leaf_records ls) (own-leaves L O) in
    let L' = with_entries_in L E' in
    holds_row s t L H s' L' p x' party
    (fits-row s t L F s' [] only (set t p x') L' refl ents (head 3 (omega arith) ∙ F.height) (head 2 (omega arith) ∙ F.root)
    (tree-keep s s' m h top L.tree (same (numbers h L.tree) (own-tree L O)) F.tree)
    (subst (λ i. Chained s' m i (leaf_records ls)) (sym (head 4 (omega arith))) (chained-keep s s' m (header_word s first_place) (leaf_records ls) x F.chained))
    (groups-row s s' m L.members ls (all-as {P = λ l. SameAt s s' m l.num} {Q = λ l. word_of s m l.num 6 ≡ word_of s' m l.num 6} (λ l q. ap (λ v. get_or v 6 0) q) ls (all_map (λ l. l.num) P ls x))
    (all_left P Y (Z ++ L.free) rest) F.groups)
    (subst (λ i. Chained s' m i L.free) (sym (head 5 (omega arith))) (chained-keep s s' m (header_word s free_place) L.free (all_right P Z L.free (all_right P Y (Z ++ L.free) rest)) F.free))
    (undos-row s s' t (set t p x') m L.undos (all_left P Z L.free (all_right P Y (Z ++ L.free) rest)) (table-undo t p x' H.seats party undo) F.undos))
    refl (λ i. refl) (hand-as L L' p x' (λ k d y. y) (λ g y. y) own) (λ q n k f. hand-as L L' q (session_at t q) (λ c d y. y) (λ g y. y) f) (λ q k f. f)

-- Only a session record is another.
pub table-row : (s : List ℕ) (t : List Session) (L : Lay) → Holds s t L → (p : ℕ) (x' : Session) → p ≤ width → x'.undo ≡ (session_at t p).undo → HandFits L p x' → Holds s (set t p x') L
table-row s t L H p x' party undo own =
    entry_row s t L H s (record { long = refl; entries = refl; records = refl; same = λ j a b. refl; rest = refl }) (λ k a. refl) L.entries H.fits.entries p x' party undo own
