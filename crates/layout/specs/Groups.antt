-- Rows in which records go from one owner to another: a descriptor's members, a session's undo records and the free records are others.
use Rattle.std.specs.Prelude.{◌≡◌, refl, Bool, cond, List, [], ◌∷◌, ◌++◌, ℕ, zero, suc, ◌+◌, ◌≤◌, ◌<◌, eqb, length, get_or, set}
use Rattle.std.proofs.Common.{sym, ap, ap₂, subst, ◌∙◌, inl, arith, eq-eqb, ne_eqb}
use Rattle.std.proofs.lemmas.List.{map-append}
use Rattle.std.proofs.Math.Decide.{ℕ_discrete}
use Rattle.words.specs.Store.{word_of}
use Rattle.words.specs.Header.{header_word, first_place, free_place}
use Rattle.sessions.specs.declared.Session.{Session}
use Rattle.sessions.specs.Sessions.{session_at}
use Rattle.machine.specs.Tree.{leaves}
use Rattle.machine.specs.Holders.{width, latch_word}
use Rattle.machine.specs.State.{Entry, top}
use Rattle.machine.specs.Sound.{times}
use Rattle.meaning.specs.Reading.{Chained, Leaf, Mark, Numbered, numbers, M-of, entries_of}
use Rattle.meaning.specs.Sound.{All, Apart}
use Rattle.meaning.specs.Numbers.{all_append, all_left, all_right, all-as, all_map, In, in-times, all_in, all_from, times-append, times-in, apart-times}
use Rattle.meaning.specs.Frame.{SameAt, SameWords, leaf_records, numbers-times, chain_words, all_words, chained_same}
use Rattle.meaning.specs.Around.{NCtx, fill, num_of, before, behind, nothing, numbers_around}
use Rattle.layout.specs.Layout.{Lay, Undone, leaves_in, firsts, undo_numbers, members_of, undos_from, all_records, Owned, DescFits, TreeFits, GroupFits, UndosFit, Has, Marked, HandFits, Named, lists_in, Holds}
use Rattle.layout.specs.Written.{Written}
use Rattle.layout.specs.Keep.{tree-keep, chained-keep, undos-keep, records-times, owned-most, own-all, same-apart, table_here, table-there, undos_part, groups-row, hand-as, fits-row, holds_row, leaves-one, records-swap, hole-has, hole-times, hole-tree, hole-root, hole-numbers, hole-marked}

-- ---- one of many is another

abbrev pub put_at : {A : Type 0} → ℕ → A → (ℕ → A) → ℕ → A
put_at i x f j = cond (eqb j i) x (f j)

pub put-here : {A : Type 0} (i : ℕ) (x : A) (f : ℕ → A) → put_at i x f i ≡ x
put-here i x f = ap (λ (b : Bool). cond b x (f i)) (eq-eqb i i refl)

pub put-there : {A : Type 0} (i : ℕ) (x : A) (f : ℕ → A) (j : ℕ) → ¬ (j ≡ i) → put_at i x f j ≡ f j
put-there i x f j n = ap (λ (b : Bool). cond b x (f j)) (ne_eqb j i n)

-- The layout with other undo records of session p, free records and entries.
abbrev pub with_log : Lay → ℕ → List Undone → List ℕ → List Entry → Lay
with_log L p us f E = record { entries = E; height = L.height; tree = L.tree; members = L.members; undos = put_at p us L.undos; free = f; records = L.records }

-- And with another tree of the same height and other members of the descriptor at d.
abbrev pub with_group : (L : Lay) → Numbered (suc L.height) → ℕ → List (ℕ × ℕ) → ℕ → List Undone → List ℕ → List Entry → Lay
with_group L T d ms p us f E =
    record { entries = E; height = L.height; tree = T; members = put_at d ms L.members; undos = put_at p us L.undos; free = f; records = L.records }

-- ---- undo records of one session

module _ (u : ℕ → List Undone) (p : ℕ) (us : List Undone) where
  undos-later : (a n : ℕ) → p < a → undos_from (put_at p us u) a n ≡ undos_from u a n
  undos-later a zero l = refl
  undos-later a (suc n) l = ap₂ (λ x y. undo_numbers x ++ y) (put-there p us u a (λ e. omega (arith, e, l))) (undos-later (suc a) n (omega (arith, l)))

  pub undos-count : (i a n : ℕ) → a ≤ p → p < a + n → times i (undos_from (put_at p us u) a n) + times i (undo_numbers (u p)) ≡ times i (undos_from u a n) + times i (undo_numbers us)
  undos-count i a zero l k = absurd (omega (arith, l, k))
  undos-count i a (suc n) l k = go (ℕ_discrete a p) (undos-count i (suc a) n)
    where
      new : List ℕ
      new = undos_from (put_at p us u) (suc a) n

      old : List ℕ
      old = undos_from u (suc a) n

      go : Dec (a ≡ p) → (suc a ≤ p → p < suc a + n → times i new + times i (undo_numbers (u p)) ≡ times i old + times i (undo_numbers us))
          → times i (undo_numbers (put_at p us u a) ++ new) + times i (undo_numbers (u p)) ≡ times i (undo_numbers (u a) ++ old) + times i (undo_numbers us)
      go (yes e) f =
          let x = ap (λ y. times i (undo_numbers y)) (subst (λ j. put_at p us u j ≡ us) (sym e) (put-here p us u)) in
          let y = ap (λ j. times i (undo_numbers (u j))) e in
          let z = ap (times i) (undos-later (suc a) n (omega (arith, e))) in
          omega (arith, x, y, z, times-append i (undo_numbers (put_at p us u a)) new, times-append i (undo_numbers (u a)) old)
      go (no e) f =
          let x = ap (λ y. times i (undo_numbers y)) (put-there p us u a e) in
          omega (arith, x, f (omega (arith, l, e)) (omega (arith, k)), times-append i (undo_numbers (put_at p us u a)) new, times-append i (undo_numbers (u a)) old)

-- The undo records of all sessions but p.
abbrev pub undos_but : ℕ → (ℕ → List Undone) → List ℕ
undos_but p u = undos_from (put_at p [] u) 1 width

pub undos-split : (u : ℕ → List Undone) (p i : ℕ) → 1 ≤ p → p ≤ width → times i (undos_from u 1 width) ≡ times i (undo_numbers (u p)) + times i (undos_but p u)
undos-split u p i a b = omega (arith, undos-count u p [] i 1 width a (omega (arith, b)))

undos-put : (s s' : List ℕ) (t : List Session) (m : ℕ) (u : ℕ → List Undone) (p : ℕ) (x' : Session) (us : List Undone) → length t ≡ suc width → p ≤ width
    → All (SameAt s s' m) (undos_but p u) → ((q : ℕ) → suc q ≤ width → UndosFit s m (session_at t (suc q)).undo (u (suc q))) → UndosFit s' m x'.undo us
    → (q : ℕ) → suc q ≤ width → UndosFit s' m (session_at (set t p x') (suc q)).undo (put_at p us u (suc q))
undos-put s s' t m u p x' us seats party a old new q l = go (ℕ_discrete (suc q) p)
  where
    go : Dec (suc q ≡ p) → UndosFit s' m (session_at (set t p x') (suc q)).undo (put_at p us u (suc q))
    go (yes e) = subst (λ j. UndosFit s' m (session_at (set t p x') j).undo (put_at p us u j)) (sym e)
        (subst (λ y. UndosFit s' m y.undo (put_at p us u p)) (sym (table_here t p x' seats party)) (subst (UndosFit s' m x'.undo) (sym (put-here p us u)) new))
    go (no n) =
        let same = subst (λ y. All (SameAt s s' m) (undo_numbers y)) (put-there p [] u (suc q) n)
        (undos_part (SameAt s s' m) (put_at p [] u) 1 width (suc q) (omega arith) (omega (arith, l)) a) in
        subst (λ y. UndosFit s' m y.undo (put_at p us u (suc q))) (sym (table-there t p (suc q) x' n))
        (subst (UndosFit s' m (session_at t (suc q)).undo) (sym (put-there p us u (suc q) n)) (undos-keep s s' m (session_at t (suc q)).undo (u (suc q)) same (old q l)))

-- ---- members of one descriptor

module _ (g : ℕ → List (ℕ × ℕ)) (d : ℕ) (ms : List (ℕ × ℕ)) where
  members-put : (ls : List Leaf) → Apart d (leaf_records ls) → members_of (put_at d ms g) ls ≡ members_of g ls
  members-put [] a = refl
  members-put (l ∷ ls) a = ap₂ (λ x y. firsts x ++ y) (put-there d ms g l.num (λ e. a.0 (sym e))) (members-put ls a.1)

  groups-put : (s : List ℕ) (m : ℕ) (ls : List Leaf) → Apart d (leaf_records ls) → All (λ l. GroupFits s m (g l.num) l) ls → All (λ l. GroupFits s m (put_at d ms g l.num) l) ls
  groups-put s m [] a f = tt
  groups-put s m (l ∷ ls) a f = (subst (λ x. GroupFits s m x l) (sym (put-there d ms g l.num (λ e. a.0 (sym e)))) f.0, groups-put s m ls a.1 f.1)

members-times : (g : ℕ → List (ℕ × ℕ)) (i : ℕ) (A : List Leaf) (l : Leaf) (B : List Leaf)
    → times i (members_of g (A ++ l ∷ B)) ≡ times i (members_of g A) + (times i (firsts (g l.num)) + times i (members_of g B))
members-times g i [] l B = omega (arith, times-append i (firsts (g l.num)) (members_of g B))
members-times g i (x ∷ A) l B =
    omega (arith, members-times g i A l B, times-append i (firsts (g x.num)) (members_of g (A ++ l ∷ B)), times-append i (firsts (g x.num)) (members_of g A))

leaf-times : (i : ℕ) (A : List Leaf) (l : Leaf) (B : List Leaf) → times i (leaf_records (A ++ l ∷ B)) ≡ times i (leaf_records A) + (times i (l.num ∷ []) + times i (leaf_records B))
leaf-times i [] l B = omega arith
leaf-times i (x ∷ A) l B = omega (arith, leaf-times i A l B)

-- ---- records of other owners

-- Only records of own are written: those of the others are the same.
pub same-others : (s s' W : List ℕ) → Written s s' W → (L : Lay) → Owned L → (own others : List ℕ) → ((i : ℕ) → times i (all_records L) ≡ times i own + times i others)
    → All (λ i. In i own) W → All (SameAt s s' (M-of s)) others
same-others s s' W only L O own others count inside =
    same-apart s s' W only others
    (all_from others (λ j h. all_in (λ i. 1 ≤ i) (all_records L) (own-all L O) j (in-times j (all_records L) (omega (arith, count j, times-in j others h)))))
    (all-as {P = λ i. In i own} {Q = λ i. Apart i others} (λ i h. apart-times i others (omega (arith, count i, times-in i own h, owned-most L O i))) W inside)

-- The records of the descriptors of a tree.
leaves_same : (s s' : List ℕ) (m h : ℕ) (T : Numbered h) → All (SameAt s s' m) (numbers h T) → All (SameAt s s' m) (leaf_records (leaves Leaf Mark h T))
leaves_same s s' m h T a =
    all_from (leaf_records (leaves Leaf Mark h T)) (λ j i. all_in (SameAt s s' m) (numbers h T) a j (in-times j (numbers h T) (omega (arith, numbers-times j h T, times-in j (leaf_records (leaves Leaf Mark h T)) i))))

words-six : (s s' : List ℕ) (m : ℕ) (ls : List Leaf) → All (SameAt s s' m) (leaf_records ls) → All (λ l. word_of s m l.num 6 ≡ word_of s' m l.num 6) ls
words-six s s' m ls a = all-as {P = λ l. SameAt s s' m l.num} {Q = λ l. word_of s m l.num 6 ≡ word_of s' m l.num 6} (λ l q. ap (λ v. get_or v 6 0) q) ls (all_map (λ l. l.num) (SameAt s s' m) ls a)

-- ---- rows

-- The undo records of session p, free records and entries are others.
pub log-row : (s : List ℕ) (t : List Session) (L : Lay) → Holds s t L → (p : ℕ) (x' : Session) → 1 ≤ p → p ≤ width
    → (s' W : List ℕ) → Written s s' W → ((k : ℕ) → k < 16 → ¬ (k ≡ free_place) → header_word s' k ≡ header_word s k) → All (λ i. In i (undo_numbers (L.undos p) ++ L.free)) W
    → (us : List Undone) (f : List ℕ) (E : List Entry) → UndosFit s' (M-of s) x'.undo us → Chained s' (M-of s) (header_word s' free_place) f → entries_of s' 1 (M-of s) ≡ E
    → ((i : ℕ) → times i (undo_numbers us) + times i f ≡ times i (undo_numbers (L.undos p)) + times i L.free) → HandFits (with_log L p us f E) p x'
    → ((q : ℕ) → 1 ≤ q → q ≤ width → Named (leaves_in L) ((with_log L p us f E).undos q) (lists_in L)) → Holds s' (set t p x') (with_log L p us f E)
log-row s t L H p x' least party s' W only head inside us f E undos free ents count own named =
    let F = H.fits in
    let O = H.owned in
    let m = M-of s in
    let h = suc L.height in
    let P = SameAt s s' m in
    let ls = leaves_in L in
    let N = numbers h L.tree in
    let Y = members_of L.members ls in
    let Z = undos_but p L.undos in
    let mine = undo_numbers (L.undos p) in
    let L' = with_log L p us f E in
    let a = same-others s s' W only L O (mine ++ L.free) (N ++ (Y ++ Z))
    (λ i. omega (arith, records-times L i, undos-split L.undos p i least party, times-append i mine L.free, times-append i N (Y ++ Z), times-append i Y Z)) inside in
    let n = all_left P N (Y ++ Z) a in
    let y = all_left P Y Z (all_right P N (Y ++ Z) a) in
    let z = all_right P Y Z (all_right P N (Y ++ Z) a) in
    let x = leaves_same s s' m h L.tree n in
    holds_row s t L H s' L' p x' party
    (fits-row s t L F s' W only (set t p x') L' refl ents (head 3 (omega arith) (λ e. omega (arith, e)) ∙ F.height) (head 2 (omega arith) (λ e. omega (arith, e)) ∙ F.root)
    (tree-keep s s' m h top L.tree n F.tree)
    (subst (λ i. Chained s' m i (leaf_records ls)) (sym (head 4 (omega arith) (λ e. omega (arith, e)))) (chained-keep s s' m (header_word s first_place) (leaf_records ls) x F.chained))
    (groups-row s s' m L.members ls (words-six s s' m ls x) y F.groups) free (undos-put s s' t m L.undos p x' us H.seats party z F.undos undos))
    refl (λ i. omega (arith, records-times L' i, records-times L i, count i, undos-count L.undos p us i 1 width least (omega (arith, party)))) own
    (λ q n k w. hand-as L L' q (session_at t q) (λ c d v. v) (λ g v. v) w) (λ q k w. named (suc q) (omega arith) k)

-- The descriptors on both sides of the hole.
abbrev pub left_leaves : {h : ℕ} → NCtx 0 h → List Leaf
left_leaves c = before nothing (leaves Leaf Mark) c

abbrev pub right_leaves : {h : ℕ} → NCtx 0 h → List Leaf
right_leaves c = behind nothing (leaves Leaf Mark) c

-- What lies outside the hole and belongs neither to the descriptor in it nor to session p: around it, and members of other descriptors.
module _ (L : Lay) (O : Owned L) (c : NCtx 0 (suc L.height)) (l : Leaf) (is : L.tree ≡ fill c l) where
  pub hole-leaves : leaves_in L ≡ left_leaves c ++ l ∷ right_leaves c
  hole-leaves = ap (leaves Leaf Mark (suc L.height)) is ∙ leaves-one c l

  -- A descriptor's record, other than that in the hole, is around it.
  leaves-around : (i : ℕ) → times i (leaf_records (left_leaves c)) + times i (leaf_records (right_leaves c)) ≤ times i (numbers_around c)
  leaves-around i =
      let e = ap (λ k. times i (leaf_records k)) hole-leaves ∙ leaf-times i (left_leaves c) l (right_leaves c) in
      omega (arith, e, numbers-times i (suc L.height) L.tree, hole-times L O c l is i)

  hole-apart : Apart l.num (leaf_records (left_leaves c)) × Apart l.num (leaf_records (right_leaves c))
  hole-apart =
      let i = l.num in
      let one = times-in i (l.num ∷ []) (inl refl) in
      let a = leaves-around i in
      let b = hole-times L O c l is i in
      let d = owned-most L O i in
      let r = records-times L i in
      (apart-times i (leaf_records (left_leaves c)) (omega (arith, one, a, b, d, r)), apart-times i (leaf_records (right_leaves c)) (omega (arith, one, a, b, d, r)))

  module _ (P : ℕ → Type 0) (a : All P (numbers_around c)) where
    around-left : All P (leaf_records (left_leaves c))
    around-left = all_from (leaf_records (left_leaves c)) (λ j h. all_in P (numbers_around c) a j (in-times j (numbers_around c) (omega (arith, leaves-around j, times-in j (leaf_records (left_leaves c)) h))))

    around-right : All P (leaf_records (right_leaves c))
    around-right = all_from (leaf_records (right_leaves c)) (λ j h. all_in P (numbers_around c) a j (in-times j (numbers_around c) (omega (arith, leaves-around j, times-in j (leaf_records (right_leaves c)) h))))

  hole-count : (i : ℕ) → times i (all_records L)
      ≡ times i (numbers_around c) + times i (l.num ∷ []) + (times i (members_of L.members (left_leaves c)) + (times i (firsts (L.members l.num)) + times i (members_of L.members (right_leaves c))))
      + (times i (undos_from L.undos 1 width) + times i L.free)
  hole-count i =
      let e = ap (λ k. times i (members_of L.members k)) hole-leaves ∙ members-times L.members i (left_leaves c) l (right_leaves c) in
      omega (arith, records-times L i, hole-times L O c l is i, e)

-- The descriptors' chain: that in the hole has its next one as before.
chain-around : (s s' : List ℕ) (m i : ℕ) (A : List Leaf) (l l' : Leaf) (B : List Leaf) → l'.num ≡ l.num → word_of s m l.num 0 ≡ word_of s' m l.num 0
    → All (SameAt s s' m) (leaf_records A) → All (SameAt s s' m) (leaf_records B) → Chained s m i (leaf_records (A ++ l ∷ B)) → Chained s' m i (leaf_records (A ++ l' ∷ B))
chain-around s s' m i A l l' B num w a b f =
    let Q = SameWords s s' m chain_words in
    let x = all_append Q (leaf_records A) (l.num ∷ leaf_records B) (all_words s s' m chain_words (leaf_records A) a) ((w, tt), all_words s s' m chain_words (leaf_records B) b) in
    let y = subst (All Q) (sym (map-append (λ k. k.num) A (l ∷ B))) x in
    subst (Chained s' m i) (sym (records-swap A l l' B num)) (chained_same s s' m i (leaf_records (A ++ l ∷ B)) y f)

-- The members of the descriptor in the hole, the undo records of session p, free records and entries are others.
pub group-row : (s : List ℕ) (t : List Session) (L : Lay) → Holds s t L → (c : NCtx 0 (suc L.height)) (l l' : Leaf) → L.tree ≡ fill c l → l'.num ≡ l.num → l'.desc.key ≡ l.desc.key
    → (p : ℕ) (x' : Session) → 1 ≤ p → p ≤ width
    → (s' W : List ℕ) → Written s s' W → ((k : ℕ) → k < 16 → ¬ (k ≡ free_place) → header_word s' k ≡ header_word s k)
    → All (λ i. In i (l.num ∷ (firsts (L.members l.num) ++ (undo_numbers (L.undos p) ++ L.free)))) W
    → (ms : List (ℕ × ℕ)) (us : List Undone) (f : List ℕ) (E : List Entry) → DescFits s' (M-of s) l' → word_of s (M-of s) l.num 0 ≡ word_of s' (M-of s) l.num 0
    → GroupFits s' (M-of s) ms l' → UndosFit s' (M-of s) x'.undo us → Chained s' (M-of s) (header_word s' free_place) f → entries_of s' 1 (M-of s) ≡ E
    → ((i : ℕ) → times i (firsts ms) + (times i (undo_numbers us) + times i f) ≡ times i (firsts (L.members l.num)) + (times i (undo_numbers (L.undos p)) + times i L.free))
    → HandFits (with_group L (fill c l') l.num ms p us f E) p x'
    → ((q : ℕ) → 1 ≤ q → q ≤ width → Named (leaves_in (with_group L (fill c l') l.num ms p us f E)) (put_at p us L.undos q) (lists_in (with_group L (fill c l') l.num ms p us f E)))
    → Holds s' (set t p x') (with_group L (fill c l') l.num ms p us f E)
group-row s t L H c l l' is num key p x' least party s' W only head inside ms us f E desc w0 group undos free ents count own named =
    let F = H.fits in
    let O = H.owned in
    let m = M-of s in
    let h = suc L.height in
    let P = SameAt s s' m in
    let ls = leaves_in L in
    let A = left_leaves c in
    let B = right_leaves c in
    let g = L.members in
    let g' = put_at l.num ms g in
    let C = numbers_around c in
    let X = members_of g A in
    let Y = members_of g B in
    let Z = undos_but p L.undos in
    let here-members = firsts (g l.num) in
    let mine = undo_numbers (L.undos p) in
    let L' = with_group L (fill c l') l.num ms p us f E in
    let old : ls ≡ A ++ l ∷ B = hole-leaves L O c l is in
    let new : leaves Leaf Mark h (fill c l') ≡ A ++ l' ∷ B = leaves-one c l' in
    let a = same-others s s' W only L O (l.num ∷ (here-members ++ (mine ++ L.free))) (C ++ (X ++ (Y ++ Z)))
    (λ i. omega (
      arith,
      hole-count L O c l is i,
      undos-split L.undos p i least party,
      times-append i (l.num ∷ []) (here-members ++ (mine ++ L.free)),
      times-append i here-members (mine ++ L.free),
      times-append i mine L.free,
      times-append i C (X ++ (Y ++ Z)),
      times-append i X (Y ++ Z),
      times-append i Y Z,
    )) inside in
    let around = all_left P C (X ++ (Y ++ Z)) a in
    let a' = all_right P C (X ++ (Y ++ Z)) a in
    let a'' = all_right P X (Y ++ Z) a' in
    let left-same = around-left L O c l is P around in
    let right-same = around-right L O c l is P around in
    let apart = hole-apart L O c l is in
    let G : Leaf → Type 0 = λ k. GroupFits s m (g k.num) k in
    let Q : Leaf → Type 0 = λ k. GroupFits s' m (g' k.num) k in
    let told : All G (A ++ l ∷ B) = subst (All G) old F.groups in
    let left-groups = groups-put g l.num ms s' m A apart.0 (groups-row s s' m g A (words-six s s' m A left-same) (all_left P X (Y ++ Z) a') (all_left G A (l ∷ B) told)) in
    let right-groups = groups-put g l.num ms s' m B apart.1 (groups-row s s' m g B (words-six s s' m B right-same) (all_left P Y Z a'') (all_right G A (l ∷ B) told).1) in
    let has : (k d : ℕ) → Has k d ls → Has k d (leaves Leaf Mark h (fill c l')) = λ k d x. hole-has c l l' num key k d (subst (λ u. Has k d (leaves Leaf Mark h u)) is x) in
    let ms-here : g' l'.num ≡ ms = ap g' num ∙ put-here l.num ms g in
    holds_row s t L H s' L' p x' party
    (fits-row s t L F s' W only (set t p x') L' refl ents (head 3 (omega arith) (λ e. omega (arith, e)) ∙ F.height)
    (head 2 (omega arith) (λ e. omega (arith, e)) ∙ F.root ∙ ap (num_of h) is ∙ hole-root c l l' num)
    (hole-tree s s' m c l l' num around desc (subst (TreeFits s m h top) is F.tree))
    (subst (λ i. Chained s' m i (leaf_records (leaves Leaf Mark h (fill c l')))) (sym (head 4 (omega arith) (λ e. omega (arith, e))))
    (subst (λ k. Chained s' m (header_word s first_place) (leaf_records k)) (sym new)
    (chain-around s s' m (header_word s first_place) A l l' B num w0 left-same right-same (subst (λ k. Chained s m (header_word s first_place) (leaf_records k)) old F.chained))))
    (subst (All Q) (sym new) (all_append Q A (l' ∷ B) left-groups (subst (λ k. GroupFits s' m k l') (sym ms-here) group, right-groups)))
    free (undos-put s s' t m L.undos p x' us H.seats party (all_right P Y Z a'') F.undos undos))
    refl
    (λ i.
    let x = ap (λ k. times i (members_of g' k)) new ∙ members-times g' i A l' B in
    let y = ap (times i) (members-put g l.num ms A apart.0) in
    let z = ap (times i) (members-put g l.num ms B apart.1) in
    let v = ap (λ k. times i (firsts k)) ms-here in
    let u = hole-numbers c l l' num i ∙ ap (λ k. times i (numbers h k)) (sym is) in
    omega (arith, records-times L' i, hole-count L O c l is i, hole-times L O c l is i, x, y, z, v, u, count i, undos-count L.undos p us i 1 width least (omega (arith, party))))
    own
    (λ q n k w. hand-as L L' q (session_at t q) has
    (λ e x. hole-marked (session_at t q).level (session_at t q).at (latch_word q) c l l' (subst (Marked (session_at t q).level (session_at t q).at (latch_word q) h) is x)) w)
    (λ q k w. named (suc q) (omega arith) k)
