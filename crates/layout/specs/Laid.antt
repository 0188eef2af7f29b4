-- A sound store holds the layout that is read from its words, and means what the layout means.
use Rattle.std.specs.Prelude.{◌≡◌, Bool, not, ◌&&◌, eqb, length}
use Rattle.std.proofs.Math.Path.{refl, sym, ap, subst}
use Rattle.std.proofs.Common.{ap₂, ◌∙◌, inl, inr, arith, ne_eqb}
use Rattle.std.proofs.Math.Bool.{true, false, cond}
use mathlib.Core.List.{List, [], ◌∷◌, ◌++◌, map, append_assoc, append-nil}
use Rattle.std.proofs.Math.Option.{some}
use Prim.Native.Nat.{ℕ, zero, suc, ◌+◌, ◌≤◌, ◌<◌}
use Rattle.serial.specs.Serial.{true≢false}
use Rattle.words.specs.Store.{word_of}
use Rattle.words.specs.Header.{header_word, root_place}
use Rattle.nodes.specs.Node.{node_at}
use Rattle.nodes.specs.Entries as N
use Rattle.sessions.specs.declared.Session.{Session}
use Rattle.sessions.specs.Sessions.{session_at}
use Rattle.machine.specs.Logic.{eqb_is, eqb-not}
use Rattle.machine.specs.Tree.{flat, map_e, leaves}
use Rattle.machine.specs.Holders.{width, latch_word}
use Rattle.machine.specs.State.{Desc, value, added, taken, State, top, session_of, Stage, start, enter, at, change, take, Request}
use Rattle.machine.specs.Steps.{pinned}
use Rattle.machine.specs.Housekeeping.{lvs}
use Rattle.machine.specs.Sound.{times, stored_in, Cells, cells, set_cell, Undoable}
use Rattle.machine.specs.Sound as S
use Rattle.machine.specs.Looks.{hand-pinned}
use Rattle.meaning.specs.Reading.{chain, Chained, gather, member_chain, member_entries, desc_at, Leaf, Mark, Numbered, read_sons, read_tree, erase, numbers, node_numbers, undo_at, hand_of, session-of, sessions_of, entries_of, M-of, R-of, height_of, tree_of, free_chain, meaning}
use Rattle.meaning.specs.Sound.{leaves_of, joined, undo_chains, owners, All, Once, Linked, Members, record_of, pins_first, Lists, member_record, lists, set_list, UndoWords, Sound}
use Rattle.meaning.specs.Numbers.{all_append, all_left, all_right, all_both, one-is}
use Rattle.meaning.specs.Around.{NCtx, here, under, fill, num_of, num-read}
use Rattle.meaning.specs.Lens.{descs, leaves-erase}
use Rattle.meaning.specs.Table.{session_is, table-many}
use Rattle.meaning.specs.Latched.{at-node}
use Rattle.layout.specs.Layout.{Undone, Lay, leaves_in, firsts, seconds, undo_numbers, session_in, sessions_in, means, Each, TreeFits, GroupFits, UndoFits, Fits, members_of, undos_from, all_records, Owned, Has, SomeSon, Marked, HandFits, member_of, lists_in, NamedAs, Named, Holds}
use Rattle.layout.specs.Row.{Stands}

-- ---- the layout that is read

abbrev pub undone_at : List ℕ → ℕ → ℕ → Undone
undone_at s m i = record { num = i; undo = undo_at s m i; saved = word_of s m i 3; descriptor = word_of s m i 4 }

-- Members by record and entry.
abbrev pub members_at : List ℕ → ℕ → List ℕ → List (ℕ × ℕ)
members_at s m l = map (λ i. (i, word_of s m i 2)) l

unfoldable pub layout_of : List ℕ → List Session → Lay
layout_of s t = record {
  entries = entries_of s 1 (M-of s);
  height = height_of s;
  tree = tree_of s;
  members = λ d. members_at s (M-of s) (member_chain s (M-of s) (R-of s) d);
  undos = λ p. map (undone_at s (M-of s)) (chain s (M-of s) (R-of s) (session_at t p).undo);
  free = free_chain s;
  records = R-of s;
}

-- ---- lists of members and of undo records

module _ (s : List ℕ) (m : ℕ) where
  firsts-are : (l : List ℕ) → firsts (members_at s m l) ≡ l
  firsts-are [] = refl
  firsts-are (i ∷ l) = ap (λ k. i ∷ k) (firsts-are l)

  seconds-are : (l : List ℕ) → seconds (members_at s m l) ≡ member_entries s m l
  seconds-are [] = refl
  seconds-are (i ∷ l) = ap (λ k. word_of s m i 2 ∷ k) (seconds-are l)

  entries-said : (l : List ℕ) → All (λ (q : ℕ × ℕ). word_of s m q.0 2 ≡ q.1) (members_at s m l)
  entries-said [] = tt
  entries-said (i ∷ l) = (refl, entries-said l)

  members-found : (e : ℕ) (l : List ℕ) → member_of e (members_at s m l) ≡ member_record s m e l
  unfolding member_of member_record
  members-found e [] = refl
  members-found e (i ∷ l) = ap (λ x. cond (eqb (word_of s m i 2) e) i x) (members-found e l)

  undo-numbers-are : (l : List ℕ) → undo_numbers (map (undone_at s m) l) ≡ l
  undo-numbers-are [] = refl
  undo-numbers-are (i ∷ l) = ap (λ k. i ∷ k) (undo-numbers-are l)

  undos-are : (l : List ℕ) → map (λ (y : Undone). y.undo) (map (undone_at s m) l) ≡ map (undo_at s m) l
  undos-are [] = refl
  undos-are (i ∷ l) = ap (λ k. undo_at s m i ∷ k) (undos-are l)

-- ---- what it means

session-same : (s : List ℕ) (m r : ℕ) (u : ℕ → List Undone) (p : ℕ) (x : Session) → u p ≡ map (undone_at s m) (chain s m r x.undo) → session-of s m r p x ≡ session_in u p x
session-same s m r u zero x e = refl
session-same s m r u (suc p) x e =
    ap (λ l. record { begun = not (eqb x.begun 0); order = x.order; hand = hand_of x; undos = l; asked = not (eqb x.asked 0) })
    (sym (undos-are s m (chain s m r x.undo)) ∙ sym (ap (λ l. map (λ (y : Undone). y.undo) l) e))

sessions-same : (s : List ℕ) (m r : ℕ) (t : List Session) (q : ℕ) (v : List Session) → ((j : ℕ) → session_at t (q + j) ≡ session_at v j)
    → sessions_of s m r q v ≡ sessions_in (λ p. map (undone_at s m) (chain s m r (session_at t p).undo)) q v
sessions-same s m r t q [] f = refl
sessions-same s m r t q (x ∷ v) f =
    let u : ℕ → List Undone = λ p. map (undone_at s m) (chain s m r (session_at t p).undo) in
    let z : q ≡ q + 0 = omega arith in
    let e : u q ≡ map (undone_at s m) (chain s m r x.undo) = ap u z ∙ ap (λ (y : Session). map (undone_at s m) (chain s m r y.undo)) (f 0) in
    ap₂ (λ a b. a ∷ b) (session-same s m r u q x e)
    (sessions-same s m r t (suc q) v (λ j. let k : suc q + j ≡ q + suc j = omega arith in ap (session_at t) k ∙ f (suc j)))

pub layout-means : (s : List ℕ) (t : List Session) → meaning s t ≡ means (layout_of s t) t
unfolding meaning means layout_of
layout-means s t =
    ap (λ l. record {
      entries = entries_of s 1 (M-of s);
      root = record { height = height_of s; node = erase (suc (height_of s)) (tree_of s) };
      free = length (free_chain s);
      table = l;
      records = R-of s;
    })
    (sessions-same s (M-of s) (R-of s) t 0 t (λ j. let k : 0 + j ≡ j = omega arith in ap (session_at t) k))

pub sound-means : (s : List ℕ) (t : List Session) → Sound s t → meaning s t ≡ means (layout_of s t) t
sound-means s t A = layout-means s t

-- ---- the words of the tree

module _ (s : List ℕ) (m r : ℕ) where
  -- The sons that are read are those of the node.
  sons-said : (h : ℕ) (es : List (ℕ × ℕ)) → map_e (num_of h) (read_sons (read_tree s m r h) es) ≡ es
  sons-said h [] = refl
  sons-said h (p ∷ es) = ap₂ (λ a b. (a, p.1) ∷ b) (num-read s m r h p.0 p.1) (sons-said h es)

  tree-fits : (h i hi : ℕ) → All (λ j. word_of s m j 1 ≤ 8) (node_numbers h (read_tree s m r h i hi)) → TreeFits s m h hi (read_tree s m r h i hi)
  unfolding TreeFits read_tree node_numbers
  tree-fits zero i hi a = record { key = refl; locate = refl; update = refl; gap = refl; pins = refl }
  tree-fits (suc h) i hi a = (
    record { latch = refl; few = a.0; sons = sym (sons-said h (N.entries (node_at s m i) hi)) },
    each (N.entries (node_at s m i) hi) (tree-fits h) a.1,
  )
    where
      each : (es : List (ℕ × ℕ)) → ((j u : ℕ) → All (λ k. word_of s m k 1 ≤ 8) (node_numbers h (read_tree s m r h j u)) → TreeFits s m h u (read_tree s m r h j u))
          → All (λ k. word_of s m k 1 ≤ 8) (flat (node_numbers h) (read_sons (read_tree s m r h) es)) → Each (TreeFits s m h) (read_sons (read_tree s m r h) es)
      each [] f a = tt
      each (p ∷ es) f a =
          let x = node_numbers h (read_tree s m r h p.0 p.1) in
          let y = flat (node_numbers h) (read_sons (read_tree s m r h) es) in
          (f p.0 p.1 (all_left (λ k. word_of s m k 1 ≤ 8) x y a), each es f (all_right (λ k. word_of s m k 1 ≤ 8) x y a))

  -- A leaf that is read has the descriptor at its record.
  leaves-read : (h i hi : ℕ) → All (λ (l : Leaf). l.desc ≡ desc_at s m r l.num) (leaves Leaf Mark h (read_tree s m r h i hi))
  unfolding leaves read_tree
  leaves-read zero i hi = (refl, tt)
  leaves-read (suc h) i hi = each (N.entries (node_at s m i) hi) (leaves-read h)
    where
      each : (es : List (ℕ × ℕ)) → ((j u : ℕ) → All (λ (l : Leaf). l.desc ≡ desc_at s m r l.num) (leaves Leaf Mark h (read_tree s m r h j u)))
          → All (λ (l : Leaf). l.desc ≡ desc_at s m r l.num) (flat (leaves Leaf Mark h) (read_sons (read_tree s m r h) es))
      each [] f = tt
      each (p ∷ es) f =
          all_append (λ (l : Leaf). l.desc ≡ desc_at s m r l.num) (leaves Leaf Mark h (read_tree s m r h p.0 p.1)) (flat (leaves Leaf Mark h) (read_sons (read_tree s m r h) es))
          (f p.0 p.1) (each es f)

-- ---- groups and undo records

group-fits : (s : List ℕ) (l : Leaf) → Members s l.num → l.desc ≡ desc_at s (M-of s) (R-of s) l.num
    → GroupFits s (M-of s) (members_at s (M-of s) (member_chain s (M-of s) (R-of s) l.num)) l
group-fits s l G e =
    let m = M-of s in
    let c = member_chain s m (R-of s) l.num in
    record {
      chained = subst (Chained s m (word_of s m l.num 6)) (sym (firsts-are s m c)) G.ends;
      linked = subst (Linked s m 0) (sym (firsts-are s m c)) G.linked;
      entries = entries-said s m c;
      once = subst Once (sym (seconds-are s m c)) G.once;
      gathered = ap gather (seconds-are s m c) ∙ sym (ap (λ (d : Desc). d.members) e);
    }

undo-fits : (s : List ℕ) (m i : ℕ) → 1 ≤ word_of s m i 1 → word_of s m i 1 ≤ 3 → UndoFits s m i (word_of s m i 3) (word_of s m i 4) (undo_at s m i)
undo-fits s m i a b = go (eqb (word_of s m i 1) 1) refl (eqb (word_of s m i 1) 2) refl
  where
    k : ℕ
    k = word_of s m (word_of s m i 4) 1

    go : (c : Bool) → eqb (word_of s m i 1) 1 ≡ c → (d : Bool) → eqb (word_of s m i 1) 2 ≡ d
        → UndoFits s m i (word_of s m i 3) (word_of s m i 4) (cond c (value (word_of s m i 2) (word_of s m i 3)) (cond d (added (word_of s m i 2) k) (taken (word_of s m i 2) k)))
    go true p d q = (eqb_is (word_of s m i 1) 1 p, refl, refl)
    go false p true q = (eqb_is (word_of s m i 1) 2 q, refl, refl, refl)
    go false p false q =
        let x = eqb-not (word_of s m i 1) 1 p in
        let y = eqb-not (word_of s m i 1) 2 q in
        let z : word_of s m i 1 ≡ 3 = omega (arith, x, y, a, b) in
        (z, refl, refl)

undos-said : (s : List ℕ) (l : List ℕ) (g : Lists) → UndoWords s l g
    → All (λ (u : Undone). UndoFits s (M-of s) u.num u.saved u.descriptor u.undo) (map (undone_at s (M-of s)) l)
undos-said s [] g w = tt
undos-said s (i ∷ l) g w = (undo-fits s (M-of s) i w.0.0 w.0.1, undos-said s l _ w.3)

-- ---- all words

module _ (s : List ℕ) (t : List Session) (A : Sound s t) where
  sound-fits : Fits s t (layout_of s t)
  unfolding layout_of
  sound-fits = record {
    header = A.header;
    sized = A.sized;
    records = refl;
    entries = refl;
    height = (let e = A.rooted in omega arith);
    root = unfold tree_of in (sym (num-read s (M-of s) (R-of s) (suc (height_of s)) (header_word s root_place) top));
    tree = unfold tree_of in (tree-fits s (M-of s) (R-of s) (suc (height_of s)) (header_word s root_place) top A.few);
    chained = A.chained;
    groups = all_both (group-fits s) (leaves_of s) A.members (unfold tree_of in (leaves-read s (M-of s) (R-of s) (suc (height_of s)) (header_word s root_place) top));
    free = A.free_ends;
    undos = λ p l. record {
      chained = subst (Chained s (M-of s) (session_at t (suc p)).undo) (sym (undo-numbers-are s (M-of s) (chain s (M-of s) (R-of s) (session_at t (suc p)).undo))) (A.undos_end p l);
      words = undos-said s (chain s (M-of s) (R-of s) (session_at t (suc p)).undo) (lists s) (A.undo_words p l);
    };
  }

-- ---- each record has one owner

joined-append : (a b : List (List ℕ)) → joined (a ++ b) ≡ joined a ++ joined b
joined-append [] b = refl
joined-append (l ∷ a) b = ap (λ x. l ++ x) (joined-append a b) ∙ sym (append_assoc l (joined a) (joined b))

module _ (s : List ℕ) (m r : ℕ) where
  members-joined : (ls : List Leaf) → members_of (λ d. members_at s m (member_chain s m r d)) ls ≡ joined (map (λ l. member_chain s m r l.num) ls)
  members-joined [] = refl
  members-joined (l ∷ ls) = ap₂ (λ a b. a ++ b) (firsts-are s m (member_chain s m r l.num)) (members-joined ls)

  undos-joined : (t : List Session) (q : ℕ) (v : List Session) → ((j : ℕ) → session_at t (q + j) ≡ session_at v j)
      → undos_from (λ p. map (undone_at s m) (chain s m r (session_at t p).undo)) q (length v) ≡ joined (map (λ y. chain s m r y.undo) v)
  undos-joined t q [] f = refl
  undos-joined t q (x ∷ v) f =
      let z : q ≡ q + 0 = omega arith in
      let e : chain s m r (session_at t q).undo ≡ chain s m r x.undo = ap (λ p. chain s m r (session_at t p).undo) z ∙ ap (λ (y : Session). chain s m r y.undo) (f 0) in
      ap₂ (λ a b. a ++ b) (undo-numbers-are s m (chain s m r (session_at t q).undo) ∙ e)
      (undos-joined t (suc q) v (λ j. let k : suc q + j ≡ q + suc j = omega arith in ap (session_at t) k ∙ f (suc j)))

undos-owned : (s : List ℕ) (t : List Session) (n : ℕ) → length t ≡ suc n
    → undos_from (λ p. map (undone_at s (M-of s)) (chain s (M-of s) (R-of s) (session_at t p).undo)) 1 n ≡ joined (undo_chains s t)
undos-owned s [] n e = absurd (omega (arith, e))
undos-owned s (x ∷ t) n e =
    let l : n ≡ length t = omega (arith, e) in
    ap (undos_from (λ p. map (undone_at s (M-of s)) (chain s (M-of s) (R-of s) (session_at (x ∷ t) p).undo)) 1) l
    ∙ undos-joined s (M-of s) (R-of s) (x ∷ t) 1 t (λ j. let k : 1 + j ≡ suc j = omega arith in ap (session_at (x ∷ t)) k)

owners-joined : (s : List ℕ) (t : List Session) → length t ≡ suc width → joined (owners s t) ≡ all_records (layout_of s t)
unfolding layout_of
owners-joined s t e =
    let B = map (λ (l : Leaf). member_chain s (M-of s) (R-of s) l.num) (leaves_of s) in
    let C = undo_chains s t in
    let D = free_chain s in
    ap (λ x. numbers (suc (height_of s)) (tree_of s) ++ x)
    (joined-append B (C ++ (D ∷ []))
    ∙ ap₂ (λ a b. a ++ b) (sym (members-joined s (M-of s) (R-of s) (leaves_of s)))
    (joined-append C (D ∷ []) ∙ ap₂ (λ a b. a ++ b) (sym (undos-owned s t width e)) (append-nil D)))

module _ (s : List ℕ) (t : List Session) (A : Sound s t) where
  sound-owned : Owned (layout_of s t)
  unfolding layout_of
  sound-owned =
      let e = owners-joined s t (table-many s t A.state) in
      record {
        once = λ i a b. ap (times i) (sym e) ∙ A.once i a b;
        no_other = subst (All (λ i. (1 ≤ i) × (i ≤ R-of s))) e A.no_other;
      }

-- ---- the descriptors of stored keys

stored-has : (k : ℕ) (ls : List Leaf) → stored_in k (descs ls) ≡ true → Has k (record_of k ls) ls
unfolding stored_in record_of
stored-has k [] e = true≢false e refl
stored-has k (l ∷ ls) e = go (eqb l.desc.key k) refl e (stored-has k ls)
  where
    go : (b : Bool) → eqb l.desc.key k ≡ b → cond b true (stored_in k (descs ls)) ≡ true → (stored_in k (descs ls) ≡ true → Has k (record_of k ls) ls)
        → Has k (cond b l.num (record_of k ls)) (l ∷ ls)
    go true q e f = inl (eqb_is l.desc.key k q, refl)
    go false q e f = inr (f e)

key_has : (s : List ℕ) (t : List Session) (k : ℕ) → stored_in k (lvs (meaning s t)) ≡ true → Has k (record_of k (leaves_of s)) (leaves_of s)
unfolding meaning
key_has s t k e = stored-has k (leaves_of s) (sym (ap (stored_in k) (leaves-erase (suc (height_of s)) (tree_of s))) ∙ e)

-- ---- what session records name

some-mid : {A : Type 0} (P : A → Type 0) (pre : List (A × ℕ)) (a : A) (b : ℕ) (post : List (A × ℕ)) → P a → SomeSon P (pre ++ (a, b) ∷ post)
some-mid P [] a b post p = inl p
some-mid P (q ∷ pre) a b post p = inr (some-mid P pre a b post p)

-- A node in the hole is one of the tree.
pub marked-fill : (j n w : ℕ) {k h : ℕ} (c : NCtx k h) (u : Numbered k) → Marked j n w k u → Marked j n w h (fill c u)
unfolding Marked
marked-fill j n w here u q = q
marked-fill j n w (under {h = h} v pre c b post) u q = inr (some-mid (Marked j n w h) pre (fill c u) b post (marked-fill j n w c u q))

marked-read : (s : List ℕ) (m r j n w k i hi : ℕ) → suc k ≡ j → i ≡ n → word_of s m i 0 ≡ w → Marked j n w (suc k) (read_tree s m r (suc k) i hi)
unfolding Marked read_tree
marked-read s m r j n w k i hi a b c = inl (a, b, c)

-- Where a session stands, by the word of its stage.
abbrev stage_with : (n target first last : ℕ) → Stage
stage_with n x f y =
    cond (eqb n 1) start (cond (eqb n 2) (enter x) (cond (eqb n 3) (at x) (cond (eqb n 4) change (take (cond (eqb y 0) f (suc y))))))

abbrev request_with : (n code entry first second target last : ℕ) → Request
request_with n c e f g x y = record { code = c; entry = e; first = f; second = g; stage = stage_with n x f y }

module _ (p : ℕ) (σ : State) (c e f g x y : ℕ) where
  pins-on : (a b : Bool) → cond a (cond b false true) false ≡ true → 0 < times f (cond (a && not b) (f ∷ []) [])
  pins-on true true q = absurd (true≢false q refl)
  pins-on true false q = omega (arith, one-is f f refl)
  pins-on false b q = absurd (true≢false q refl)

  no_start : (a : Bool) → eqb c 5 ≡ a → ¬ (c ≡ 5) → (b : Bool) → cond a b false ≡ true → ⊥
  no_start true q n b z = n (eqb_is c 5 q)
  no_start false q n b z = true≢false z refl

  -- What pins first pins it in the machine.
  low-pinned : (n : ℕ) → n ≤ 5 → ¬ (n ≡ 0) → S.Stands p σ (request_with n c e f g x y) (stage_with n x f y)
      → cond (eqb n 4) true (cond (eqb n 5) true (cond (eqb c 5) (cond (eqb x f) false true) false)) ≡ true
      → 0 < times f (pinned (request_with n c e f g x y) (stage_with n x f y))
  unfolding pinned
  low-pinned zero l o k q = absurd (o refl)
  low-pinned (suc zero) l o k q = absurd (no_start (eqb c 5) refl k (cond (eqb x f) false true) q)
  low-pinned (suc (suc zero)) l o k q = pins-on (eqb c 5) (eqb x f) q
  low-pinned (suc (suc (suc zero))) l o k q = pins-on (eqb c 5) (eqb x f) q
  low-pinned (suc (suc (suc (suc zero)))) l o k q = omega (arith, one-is f f refl)
  low-pinned (suc (suc (suc (suc (suc zero))))) l o k q = go (eqb f g)
    where
      go : (b : Bool) → 0 < times f (cond b (f ∷ []) (f ∷ g ∷ []))
      go true = omega (arith, one-is f f refl)
      go false = omega (arith, one-is f f refl)
  low-pinned (suc (suc (suc (suc (suc (suc n)))))) l o k q = absurd (omega (arith, l))

  high-pinned : (n : ℕ) → n ≡ 5 → ¬ (f ≡ g) → 0 < times g (pinned (request_with n c e f g x y) (stage_with n x f y))
  unfolding pinned
  high-pinned n q o = subst (λ n. 0 < times g (pinned (request_with n c e f g x y) (stage_with n x f y))) (sym q) (rw (ne_eqb f g o) (omega (arith, one-is g g refl)))

module _ (s : List ℕ) (t : List Session) (A : Sound s t) (p : ℕ) (l : p ≤ width) where
  hand-read : (session_of p (meaning s t)).hand ≡ hand_of (session_at t p)
  hand-read = ap (λ z. z.hand) (session_is s t p (omega (arith, table-many s t A.state, l))) ∙ hand-is p (session_at t p)
    where
      hand-is : (p : ℕ) (x : Session) → (session-of s (M-of s) (R-of s) p x).hand ≡ hand_of x
      hand-is zero x = refl
      hand-is (suc p) x = refl

  abbrev in_hand : Session → Request
  in_hand x = request_with x.stage x.code x.entry x.first x.second x.target x.last

  some-hand : ¬ ((session_at t p).stage ≡ 0) → (session_of p (meaning s t)).hand ≡ some (in_hand (session_at t p))
  some-hand n = hand-read ∙ rw (ne_eqb (session_at t p).stage 0 n) refl

  sound-marked : (session_at t p).stage ≡ 3 → Marked (session_at t p).level (session_at t p).at (latch_word p) (suc (height_of s)) (tree_of s)
  unfolding tree_of
  sound-marked e =
      let N = at-node s t A p l e in
      let x = session_at t p in
      let w = ap (λ j. word_of s (M-of s) j 0) N.num ∙ ((A.hands p l).at-node e).latched in
      subst (Marked x.level x.at (latch_word p) (suc (height_of s))) (sym N.place.is)
      (marked-fill x.level x.at (latch_word p) N.place.around (read_tree s (M-of s) (R-of s) (suc N.k) N.place.num N.place.bound)
      (marked-read s (M-of s) (R-of s) x.level x.at (latch_word p) N.k N.place.num N.place.bound (sym N.level) N.num w))

  sound-low : ¬ ((session_at t p).stage ≡ 0) → pins_first (session_at t p) ≡ true → Has (session_at t p).first (session_at t p).low (leaves_of s)
  sound-low n q =
      let x = session_at t p in
      let H = A.hands p l in
      let h = some-hand n in
      let z = low-pinned p (meaning s t) x.code x.entry x.first x.second x.target x.last x.stage H.stage n (A.state.standing p (in_hand x) h) q in
      subst (λ d. Has x.first d (leaves_of s)) (sym (H.low n q)) (key_has s t x.first (hand-pinned A.state p (in_hand x) x.first h z))

  sound-high : (session_at t p).stage ≡ 5 → ¬ ((session_at t p).first ≡ (session_at t p).second) → Has (session_at t p).second (session_at t p).high (leaves_of s)
  sound-high q n =
      let x = session_at t p in
      let H = A.hands p l in
      let h = some-hand (λ z. omega (arith, q, z)) in
      let z = high-pinned p (meaning s t) x.code x.entry x.first x.second x.target x.last x.stage q n in
      subst (λ d. Has x.second d (leaves_of s)) (sym (H.high q n)) (key_has s t x.second (hand-pinned A.state p (in_hand x) x.second h z))

  sound-hands : HandFits (layout_of s t) p (session_at t p)
  unfolding layout_of
  sound-hands = let H = A.hands p l in
      record { stage = H.stage; at-node = sound-marked; low = sound-low; high = sound-high; last = H.last }

-- ---- what undo records name

named-chain : (s : List ℕ) (t : List Session) (p : ℕ) (l : List ℕ) (g : Lists) (c : Cells) → UndoWords s l g → Undoable p (meaning s t) (map (undo_at s (M-of s)) l) c
    → Named (leaves_of s) (map (undone_at s (M-of s)) l) g
named-chain s t p [] g c w u = tt
named-chain s t p (i ∷ l) g c w u = go (eqb kind 1) refl (eqb kind 2) refl w.3 u (named-chain s t p l)
  where
    kind : ℕ
    kind = word_of s (M-of s) i 1

    e : ℕ
    e = word_of s (M-of s) i 2

    d : ℕ
    d = word_of s (M-of s) i 4

    k : ℕ
    k = word_of s (M-of s) d 1

    older : List Undone
    older = map (undone_at s (M-of s)) l

    has : ¬ (kind ≡ 1) → stored_in k (lvs (meaning s t)) ≡ true → Has k d (leaves_of s)
    has n z = subst (λ x. Has k x (leaves_of s)) (sym (w.1 n)) (key_has s t k z)

    go : (a : Bool) → eqb kind 1 ≡ a → (b : Bool) → eqb kind 2 ≡ b → UndoWords s l (cond a g (set_list d e (cond b 0 i) g))
        → Undoable p (meaning s t) (cond a (value e (word_of s (M-of s) i 3)) (cond b (added e k) (taken e k)) ∷ map (undo_at s (M-of s)) l) c
        → ((g : Lists) (c : Cells) → UndoWords s l g → Undoable p (meaning s t) (map (undo_at s (M-of s)) l) c → Named (leaves_of s) older g)
        → NamedAs (leaves_of s) (Named (leaves_of s) older) g i (word_of s (M-of s) i 3) d (cond a (value e (word_of s (M-of s) i 3)) (cond b (added e k) (taken e k)))
    go true x b y v u f = f g c v u.2
    go false x true y v u f = (has (eqb-not kind 1 x) u.0.key_stored, w.2 (eqb_is kind 2 y), f (set_list d e 0 g) (set_cell k e false c) v u.2)
    go false x false y v u f = (has (eqb-not kind 1 x) u.0.key_stored, f (set_list d e i g) (set_cell k e true c) v u.2)

module _ (s : List ℕ) (t : List Session) (A : Sound s t) where
  lists-are : lists s ≡ lists_in (layout_of s t)
  unfolding layout_of
  lists-are = λ z d e. sym (members-found s (M-of s) e (member_chain s (M-of s) (R-of s) d)) z

  sound-named : (p : ℕ) → suc p ≤ width → Named (leaves_in (layout_of s t)) ((layout_of s t).undos (suc p)) (lists_in (layout_of s t))
  unfolding layout_of
  sound-named p l =
      let c = chain s (M-of s) (R-of s) (session_at t (suc p)).undo in
      let e = ap (λ x. x.undos) (session_is s t (suc p) (omega (arith, table-many s t A.state, l))) in
      subst (Named (leaves_of s) (map (undone_at s (M-of s)) c)) lists-are
      (named-chain s t (suc p) c (lists s) (cells (meaning s t)) (A.undo_words p l)
      (subst (λ us. Undoable (suc p) (meaning s t) us (cells (meaning s t))) e (A.state.undoable (suc p))))

-- ---- the whole

pub sound-holds : (s : List ℕ) (t : List Session) → Sound s t → Holds s t (layout_of s t)
sound-holds s t A = record {
  seats = table-many s t A.state;
  fits = sound-fits s t A;
  owned = sound-owned s t A;
  hands = sound-hands s t A;
  named = sound-named s t A;
}

pub sound-stands : (s : List ℕ) (t : List Session) → Sound s t → Stands s t
sound-stands s t A = record { lay = layout_of s t; holds = sound-holds s t A; sound = subst S.Sound (sound-means s t A) A.state }
