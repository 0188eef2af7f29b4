-- The steps of a descent keep what is read at keys, entries and the session table: entering the root, a level down, pinning a descriptor, making one, and
-- tidy's removal of one.
use Rattle.std.specs.Prelude.{◌≡◌, Bool, false, not, ◌⊎◌, eqb, length}
use Rattle.std.proofs.Math.Path.{refl, sym, subst, ap}
use Rattle.std.proofs.Common.{◌∙◌, arith}
use Rattle.std.proofs.Math.Bool.{true, cond}
use mathlib.Core.List.{List, [], ◌∷◌, ◌++◌, map}
use Rattle.std.proofs.Math.Logic.{inl, inr}
use Rattle.std.proofs.Math.Option.{some}
use Prim.Native.Nat.{suc, ◌+◌, ◌≤◌, ◌<◌, ℕ}
use Rattle.std.proofs.Math.Decide.{ℕ_discrete}
use Rattle.serial.specs.Serial.{true≢false}
use Rattle.machine.specs.Logic.{eqb_yes, eqb_no, either}
use Rattle.machine.specs.Holders.{latch_word}
use Rattle.machine.specs.Tree.{pick}
use Rattle.machine.specs.State.{Desc, Tree, Root, Stage, enter, take, Request, State, Answer, more, wait, done, refused, Outcome, top, no_desc, same, session_of, gap_below, with_root, with_free, on_tree, on_desc, pin_desc, at, ok, stored}
use Rattle.machine.specs.Descent.{Sons, on_latch, put_in, taken_out, entered, split_root}
use Rattle.machine.specs.Steps.{pinned, unlatch, goes_on, arrived, root_left, root_splits, whole_root, halved_root, descended, level_state, pinned_state, made, on_lowest, answer}
use Rattle.machine.specs.Calls.{request_checks}
use Rattle.machine.specs.Gaps.{dropped-gaps, gaps}
use Rattle.machine.specs.View.{plain, seen, update_word, pin-same}
use Rattle.machine.specs.Sound.{gap_word, stored_in, pins_in, UpTo, ListedTo, times, Passes, Descends, to-change, to_first, to_choice, Stands, Keyed, Sound, keyed-of, to-second}
use Rattle.machine.specs.Context.{Focus}
use Rattle.machine.specs.Table.{session-same, unlatch-root}
use Rattle.machine.specs.Keeps.{under, under_root, under-on-latch, under-descended, under_drop, under-entered, under-split-root, leaves_kept}
use Rattle.machine.specs.Order.{found-cases, In}
use Rattle.machine.specs.Groups.{words, rising-words}
use Rattle.machine.specs.Lowest.{Placed, made_at, taken_at}
use Rattle.machine.specs.Housekeeping.{lvs, seen_plain, seen-words, Ordered, StoodAt, Goes, taken-list, tidy-like, tree-leaves, unlatch-leaves, goes-tidy}
use Rattle.machine.specs.Keys.{shown-update}
use Rattle.machine.specs.Checks.{checked-first, checked-second, checked-order, tidy-zero}
use Rattle.machine.specs.Looks.{pins-at, ordered-rises, kept_of, put-pins, put-pins-other, kept_pins}
use Rattle.machine.specs.Calm.{Calm, calm-refl, calm-then, goes-keyed}

-- ---- states that differ in nodes alone

pub record Still (s v : State) : Type 0 where
  pub entries_same : v.entries ≡ s.entries
  pub table_same : v.table ≡ s.table
  pub records_same : v.records ≡ s.records
  pub leaves_same : lvs v ≡ lvs s

pub still-calm : (p : ℕ) (s v w : State) → Calm p s v → Still v w → Calm p s w
still-calm p s v w C S =
    calm-then p s v w C (record {
      entries_same = S.entries_same;
      seen_same = seen_plain w ∙ ap (map plain) S.leaves_same ∙ sym (seen_plain v);
      begun_same = λ q. ap (λ t. t.begun) (session-same v w S.table_same q);
      undos_same = λ q. ap (λ t. t.undos) (session-same v w S.table_same q);
    }) S.table_same S.records_same

still-tree : (f : (h : ℕ) → Tree h → Tree h) (s : State) → ((h : ℕ) (t : Tree h) → under (λ d. d ∷ []) h (f h t) ≡ under (λ d. d ∷ []) h t) → Still s (on_tree f s)
unfolding on_tree
still-tree f s e = record {
  entries_same = refl;
  table_same = refl;
  records_same = refl;
  leaves_same = tree-leaves f s e;
}

pub still-unlatch : (p x : ℕ) (s : State) → Still s (unlatch p (at x) s)
still-unlatch p x s =
    let e = unlatch-root p (at x) s in
    record {
      entries_same = ap (λ t. t.entries) e;
      table_same = ap (λ t. t.table) e;
      records_same = ap (λ t. t.records) e;
      leaves_same = unlatch-leaves p (at x) s;
    }

pub still-free : (n : ℕ) (s : State) → Still s (with_free n s)
still-free n s = record { entries_same = refl; table_same = refl; records_same = refl; leaves_same = refl }

pub still-trans : {s v w : State} → Still s v → Still v w → Still s w
still-trans a b = record {
  entries_same = b.entries_same ∙ a.entries_same;
  table_same = b.table_same ∙ a.table_same;
  records_same = b.records_same ∙ a.records_same;
  leaves_same = b.leaves_same ∙ a.leaves_same;
}

still-root : (r : Root) (n : ℕ) (s : State) → under_root (λ d. d ∷ []) r ≡ under_root (λ d. d ∷ []) s.root → Still s (with_free n (with_root r s))
still-root r n s e = record {
  entries_same = refl;
  table_same = refl;
  records_same = refl;
  leaves_same = leaves_kept (suc s.root.height) s.root.node (suc r.height) r.node e;
}

-- ---- one level down

-- A step that leaves leaves and pins alone.
still-keyed : (p : ℕ) (r : Request) (g : Stage) (s v : State) → Sound s → (session_of p s).hand ≡ some r → Still s v → pinned r r.stage ≡ pinned r g
    → Stands p s r g → Keyed (goes_on p r g v).next
still-keyed p r g s v S e T q stood =
    let K = keyed-of S in
    goes-keyed p s v r g K e (still-calm p s s v (calm-refl p s K) T) (λ z k h. ap (stored_in k) T.leaves_same ∙ h)
    (λ k. ap (λ l. pins_in k l + times k (pinned r r.stage)) T.leaves_same ∙ ap (λ l. pins_in k (lvs s) + times k l) q) stood

pub enter-keyed : (p : ℕ) (r : Request) (x : ℕ) (s : State) → Sound s → (session_of p s).hand ≡ some r → r.stage ≡ enter x
    → Keyed (goes_on p r (at x) (cond (root_splits p s) (halved_root p x s) (whole_root p s))).next
enter-keyed p r x s S e q =
    still-keyed p r (at x) s (cond (root_splits p s) (halved_root p x s) (whole_root p s)) S e
    (either (Still s) (root_splits p s) (halved_root p x s) (whole_root p s)
    (still-root (split_root (latch_word p) x (root_left s)) (halved_root p x s).free s (under-split-root one (latch_word p) x (root_left s) ∙ left))
    (still-root (entered (latch_word p) (root_left s)) (whole_root p s).free s (under-entered one (latch_word p) (root_left s) ∙ left)))
    (unfold pinned in (ap (pinned r) q)) (subst (Stands p s r) q (S.standing p r e))
  where
    one : Desc → List Desc
    one d = d ∷ []

    left : under_root one (root_left s) ≡ under_root one s.root
    left = under_drop one s.root.height s.root.node

pub level-keyed : (p : ℕ) (r : Request) (x : ℕ) (s : State) → Sound s → (session_of p s).hand ≡ some r → r.stage ≡ at x
    → (h : ℕ) (es : Sons (suc h)) (t : Tree (suc h)) → Keyed (goes_on p r (at x) (level_state p x s h es t)).next
level-keyed p r x s S e q h es t =
    let v = on_tree (on_latch (latch_word p) x (descended p x)) s in
    still-keyed p r (at x) s (level_state p x s h es t) S e
    (still-trans (still-tree (on_latch (latch_word p) x (descended p x)) s (under-on-latch (λ d. d ∷ []) (latch_word p) x (descended p x) (under-descended (λ d. d ∷ []) p x)))
    (still-free (level_state p x s h es t).free v))
    (ap (pinned r) q) (subst (Stands p s r) q (S.standing p r e))

-- ---- a session's descent arrives

-- One more pin at x.
abbrev pub one_at : ℕ → ℕ → ℕ
one_at x k = cond (eqb x k) 1 0

module _ (m : ℕ) (r : Request) (s : State) (P : Passes (request_checks (suc m) r.code r.entry r.first r.second s)) where
  located : (x : ℕ) → r.code ≡ 5 → Stands (suc m) s r (arrived r x)
  unfolding arrived
  located x c = rw (eqb_yes r.code 5 c) (either (Stands (suc m) s r) (eqb x r.second) (take r.first) (enter r.second)
      (record {
        code_5 = c;
        from_first = omega arith;
        to-second = checked-order (suc m) r.code r.entry r.first r.second s P c;
        held = λ k a b. absurd (omega (arith, a, b));
        ahead = λ a. absurd (omega (arith, a));
      })
      (to-second c refl))

  arrived-stands : (x : ℕ) → Descends (suc m) s r x → Stands (suc m) s r (arrived r x)
  unfolding arrived
  arrived-stands x (to-change C q) = rw (eqb_no r.code 5 (λ z. omega (arith, z, C.code_3_4.1))) C
  arrived-stands x (to_first c q) = located x c
  arrived-stands x (to-second c q) = located x c
  arrived-stands x (to_choice C) = absurd (omega (arith, tidy-zero (suc m) r.code P.0 C.code_6))

  arrived-pins : (x k : ℕ) → Descends (suc m) s r x → times k (pinned r (arrived r x)) ≡ times k (pinned r (at x)) + one_at x k
  unfolding arrived pinned
  arrived-pins x k (to-change C q) = rw (eqb_no r.code 5 (λ z. omega (arith, z, C.code_3_4.1)), q) (omega arith)
  arrived-pins x k (to_first c q) = rw (eqb_yes r.code 5 c, eqb_yes x r.first q) (go (ℕ_discrete r.first r.second))
    where
      go : Dec (r.first ≡ r.second) → times k (pinned r (cond (eqb x r.second) (take r.first) (enter r.second))) ≡ 0 + one_at x k
      go (yes z) = rw (eqb_yes x r.second (q ∙ z), eqb_yes r.first r.second z, q) (omega arith)
      go (no n) = rw (eqb_no x r.second (λ z. n (sym q ∙ z)), eqb_yes r.code 5 c, eqb_no r.second r.first (λ z. n (sym z)), q) (omega arith)
  arrived-pins x k (to-second c q) = rw (eqb_yes r.code 5 c, eqb_yes x r.second q) (go (ℕ_discrete r.first r.second))
    where
      go : Dec (r.first ≡ r.second) → times k (cond (eqb r.first r.second) (r.first ∷ []) (r.first ∷ r.second ∷ [])) ≡ times k (cond (not (eqb x r.first)) (r.first ∷ []) []) + one_at x k
      go (yes z) = rw (eqb_yes r.first r.second z, eqb_yes x r.first (q ∙ sym z), q, z) (omega arith)
      go (no n) = rw (eqb_no r.first r.second n, eqb_no x r.first (λ z. n (sym z ∙ q)), q) (omega arith)
  arrived-pins x k (to_choice C) = absurd (omega (arith, tidy-zero (suc m) r.code P.0 C.code_6))

  -- A session descends to a proper key.
  pub proper_key : (x : ℕ) → Descends (suc m) s r x → (1 ≤ x) × (x < top)
  proper_key x (to-change C q) = subst (λ k. (1 ≤ k) × (k < top)) (sym q) (checked-first (suc m) r.code r.entry r.first r.second s P C.code_3_4.0 (omega (arith, C.code_3_4.1)))
  proper_key x (to_first c q) = subst (λ k. (1 ≤ k) × (k < top)) (sym q) (checked-first (suc m) r.code r.entry r.first r.second s P (omega (arith, c)) (omega (arith, c)))
  proper_key x (to-second c q) = subst (λ k. (1 ≤ k) × (k < top)) (sym q) (checked-second (suc m) r.code r.entry r.first r.second s P c)
  proper_key x (to_choice C) = absurd (omega (arith, tidy-zero (suc m) r.code P.0 C.code_6))

-- The descriptor at x is pinned once more, and nothing else is read otherwise.
pub arrive-keyed : (m : ℕ) (r : Request) (x : ℕ) (s v : State) → Sound s → (session_of (suc m) s).hand ≡ some r → r.stage ≡ at x → Calm (suc m) s v
    → ((k : ℕ) → pins_in k (lvs v) ≡ pins_in k (lvs s) + one_at x k) → Keyed (goes_on (suc m) r (arrived r x) v).next
arrive-keyed m r x s v S e q C pins =
    let P = S.checked (suc m) r e in
    let D : Descends (suc m) s r x = subst (Stands (suc m) s r) q (S.standing (suc m) r e) in
    goes-keyed (suc m) s v r (arrived r x) (keyed-of S) e C (λ z. absurd (omega (arith, z)))
    (λ k. let a : times k (pinned r r.stage) ≡ times k (pinned r (at x)) = ap (λ g. times k (pinned r g)) q in
    omega (arith, a, pins k, arrived-pins m r s P x k D)) (arrived-stands m r s P x D)

-- Pins at x are one more, and elsewhere the same.
pub one_more : (x : ℕ) (l n : List Desc) → pins_in x n ≡ suc (pins_in x l) → ((j : ℕ) → ¬ (x ≡ j) → pins_in j n ≡ pins_in j l) → (k : ℕ) → pins_in k n ≡ pins_in k l + one_at x k
one_more x l n here there k = go (ℕ_discrete x k)
  where
    go : Dec (x ≡ k) → pins_in k n ≡ pins_in k l + one_at x k
    go (yes z) = subst (λ j. pins_in j n ≡ pins_in j l + one_at x j) z (rw (eqb_yes x x refl) (omega (arith, here)))
    go (no w) = rw (eqb_no x k w) (omega (arith, there k w))

pub pin-keyed : (m : ℕ) (r : Request) (x : ℕ) (s : State) → Sound s → (session_of (suc m) s).hand ≡ some r → r.stage ≡ at x → stored_in x (lvs s) ≡ true
    → Keyed (goes_on (suc m) r (arrived r x) (pinned_state (suc m) x s)).next
pin-keyed m r x s S e q h =
    let f : Desc → Desc = pin_desc suc in
    let v = on_desc x f s in
    let K = kept_of x s S h in
    let U = still-unlatch (suc m) x v in
    let C = calm-then (suc m) s s v (calm-refl (suc m) s (keyed-of S)) (pin-same x suc s) (unfold on_tree in refl) (unfold on_tree in refl) in
    arrive-keyed m r x s (pinned_state (suc m) x s) S e q (still-calm (suc m) s v (pinned_state (suc m) x s) C U)
    (λ k. ap (pins_in k) U.leaves_same
    ∙ one_more x (lvs s) (lvs v) (put-pins x s K f refl ∙ ap suc (sym (kept_pins x s K))) (put-pins-other x s K f refl) k)

-- ---- a descriptor more, or less

-- Asked only of an answer ok.
abbrev IfOk : Answer → Type 0 → Type 0
IfOk ok A = A
IfOk more A = Unit {0}
IfOk (wait ps) A = Unit {0}
IfOk (done ns) A = Unit {0}
IfOk (refused n b) A = Unit {0}

-- The node where the party stands, with what lies around it in order: it answers itself.
pub stood : (p x : ℕ) (s : State) (k : ℕ) (u : Tree (suc k)) → Ordered s → x ≤ top → Focus p x s k u → StoodAt p x s k u
unfolding Ordered
stood p x s k u o le F =
    subst P (F.answers (answer more s) here)
    (found-cases P (latch_word p) x (answer more s) here (suc s.root.height) s.root.node 0 top o (omega arith) le tt (λ j t G. G))
  where
    here : (h : ℕ) → Tree (suc h) → Outcome
    here h t = answer ok (with_root (record { height = h; node = t }) s)

    P : Outcome → Type 0
    P z = IfOk z.answer (StoodAt p x s z.next.root.height z.next.root.node)

-- A descriptor n between two lists of others.
stored-mid : (k : ℕ) (n : Desc) (C D : List Desc) → stored_in k (C ++ n ∷ D) ≡ cond (eqb n.key k) true (stored_in k (C ++ D))
unfolding stored_in
stored-mid k n [] D = refl
stored-mid k n (c ∷ C) D = ap (λ b. cond (eqb c.key k) true b) (stored-mid k n C D) ∙ swap (eqb c.key k) (eqb n.key k) (stored_in k (C ++ D))
  where
    swap : (a b c : Bool) → cond a true (cond b true c) ≡ cond b true (cond a true c)
    swap true true c = refl
    swap true false c = refl
    swap false b c = refl

listed_in : (m : ℕ) (n : Desc) → UpTo 1 m n.members → (C D : List Desc) → ListedTo m (C ++ D) → ListedTo m (C ++ n ∷ D)
listed_in m n u [] D l = (u, l)
listed_in m n u (c ∷ C) D l = (l.0, listed_in m n u C D l.1)

listed-out : (m : ℕ) (n : Desc) (C D : List Desc) → ListedTo m (C ++ n ∷ D) → ListedTo m (C ++ D)
listed-out m n [] D l = l.1
listed-out m n (c ∷ C) D l = (l.0, listed-out m n C D l.1)

pins-mid : (k : ℕ) (n : Desc) (C D : List Desc) → ¬ (n.key ≡ k) → pins_in k (C ++ n ∷ D) ≡ pins_in k (C ++ D)
unfolding pins_in
pins-mid k n [] D w = rw (eqb_no n.key k w) refl
pins-mid k n (c ∷ C) D w = ap (λ l. cond (eqb c.key k) c.pins l) (pins-mid k n C D w)

pins-none : (k upto : ℕ) (D : List Desc) → In (suc k) upto D → pins_in k D ≡ 0
unfolding pins_in
pins-none k upto [] i = refl
pins-none k upto (d ∷ D) i = rw (eqb_no d.key k (λ z. omega (arith, z, i.0.0))) (pins-none k upto D i.1)

pins-skip : (k from : ℕ) (C D : List Desc) → In from k C → pins_in k (C ++ D) ≡ pins_in k D
unfolding pins_in
pins-skip k from [] D i = refl
pins-skip k from (c ∷ C) D i = rw (eqb_no c.key k (λ z. omega (arith, z, i.0.1))) (pins-skip k from C D i.1)

module _ (x upto : ℕ) (n : Desc) (l m : List Desc) (e : n.key ≡ x) (P : Placed 0 x upto n l m) where
  pub placed-stored : (z : ℕ) → stored_in z m ≡ cond (eqb x z) true (stored_in z l)
  placed-stored z =
      ap (stored_in z) P.is_with ∙ stored-mid z n P.C P.D ∙ ap (λ k. cond (eqb k z) true (stored_in z (P.C ++ P.D))) e
      ∙ ap (λ c. cond (eqb x z) true (stored_in z c)) (sym P.is_without)

  pub placed-here : pins_in x m ≡ n.pins
  placed-here = ap (pins_in x) P.is_with ∙ pins-at x 0 n e P.C P.D P.low

  pub placed-none : pins_in x l ≡ 0
  placed-none = ap (pins_in x) P.is_without ∙ pins-skip x 0 P.C P.D P.low ∙ pins-none x upto P.D P.high

  pub placed-other : (j : ℕ) → ¬ (x ≡ j) → pins_in j m ≡ pins_in j l
  placed-other j w = ap (pins_in j) P.is_with ∙ pins-mid j n P.C P.D (λ z. w (sym e ∙ z)) ∙ sym (ap (pins_in j) P.is_without)

  pub placed-listed : (k : ℕ) → UpTo 1 k n.members → ListedTo k l → ListedTo k m
  placed-listed k u w = subst (ListedTo k) (sym P.is_with) (listed_in k n u P.C P.D (subst (ListedTo k) P.is_without w))

  placed-unlisted : (k : ℕ) → ListedTo k m → ListedTo k l
  placed-unlisted k w = subst (ListedTo k) (sym P.is_without) (listed-out k n P.C P.D (subst (ListedTo k) P.is_with w))

-- ---- made

-- The tree with a new descriptor for x, in its gap.
abbrev pub new : ℕ → State → Desc
new x s = made x (gap_below x 0 (stored s))

abbrev pub grown : ℕ → ℕ → State → State
grown p x s = on_tree (on_latch (latch_word p) x (on_lowest (put_in (new x s)))) s

module _ (p x : ℕ) (s : State) (u : Tree 1) (F : StoodAt p x s 0 u) (ne : ¬ ((pick x no_desc same u.sons).key ≡ x)) where
  pub grown-placed : Placed 0 x (suc top) (new x s) (lvs s) (lvs (grown p x s))
  unfolding on_tree
  grown-placed = made_at (latch_word p) x (suc s.root.height) s.root.node u 0 (suc top) F (gap_below x 0 (stored s)) ne

  pub grown-stays : (z : ℕ) → stored_in z (lvs s) ≡ true → stored_in z (lvs (grown p x s)) ≡ true
  grown-stays z h = placed-stored x (suc top) (new x s) (lvs s) (lvs (grown p x s)) refl grown-placed z ∙ go (eqb x z)
    where
      go : (b : Bool) → cond b true (stored_in z (lvs s)) ≡ true
      go true = refl
      go false = h

-- ---- taken out

-- The tree without the descriptor of x.
abbrev pub pruned : ℕ → ℕ → State → State
pruned p x s = on_tree (on_latch (latch_word p) x (on_lowest (taken_out x))) s

module _ (p x : ℕ) (s : State) (u : Tree 1) (o : Ordered s) (F : StoodAt p x s 0 u) (e : (pick x no_desc same u.sons).key ≡ x)
    (T : Goes (gap_below x 0 (stored s)) (pick x no_desc same u.sons)) where
  abbrev gone : Desc
  gone = pick x no_desc same u.sons

  pruned-placed : Placed 0 x (suc top) gone (lvs (pruned p x s)) (lvs s)
  unfolding on_tree
  pruned-placed = taken_at (latch_word p) x (suc s.root.height) s.root.node u 0 (suc top) F e

  pruned-stored : (z : ℕ) → stored_in z (lvs s) ≡ cond (eqb x z) true (stored_in z (lvs (pruned p x s)))
  pruned-stored = placed-stored x (suc top) gone (lvs (pruned p x s)) (lvs s) e pruned-placed

  pruned-gaps : (z : ℕ) → gap_word z (seen (pruned p x s)) ≡ gap_word z (seen s)
  unfolding gap_word stored
  pruned-gaps z =
      let P = pruned-placed in
      let rises = rising-words 0 (suc top) (lvs s) (ordered-rises s o) in
      let rule = goes-tidy x gone (lvs s) (lvs (pruned p x s)) e P T in
      ap (λ l. gaps 0 l z) (seen-words (pruned p x s) ∙ taken-list x (suc top) gone (lvs s) (lvs (pruned p x s)) e P) ∙ dropped-gaps 0 x (words (lvs s)) rises rule z
      ∙ sym (ap (λ l. gaps 0 l z) (seen-words s))

  pruned-update : update_word x (seen s) ≡ 0
  pruned-update =
      let P = pruned-placed in
      shown-update {t = s} (record { A = P.C; d = gone; B = P.D; key = e; low = P.low; leaves = P.is_with }) ∙ T.no_update

  pub pruned-pins : (k : ℕ) → pins_in k (lvs (pruned p x s)) ≡ pins_in k (lvs s)
  pruned-pins k = go (ℕ_discrete x k)
    where
      go : Dec (x ≡ k) → pins_in k (lvs (pruned p x s)) ≡ pins_in k (lvs s)
      go (yes z) = subst (λ j. pins_in j (lvs (pruned p x s)) ≡ pins_in j (lvs s)) z
          (placed-none x (suc top) gone (lvs (pruned p x s)) (lvs s) e pruned-placed ∙ sym (placed-here x (suc top) gone (lvs (pruned p x s)) (lvs s) e pruned-placed ∙ T.not_pinned))
      go (no n) = sym (placed-other x (suc top) gone (lvs (pruned p x s)) (lvs s) e pruned-placed k n)

  pruned-other : (z : ℕ) → ¬ (x ≡ z) → stored_in z (lvs (pruned p x s)) ≡ stored_in z (lvs s)
  pruned-other z n = sym (pruned-stored z ∙ ap (λ b. cond b true (stored_in z (lvs (pruned p x s)))) (eqb_no x z n))

  pub pruned-calm : p ≡ 0 → Keyed s → Calm p s (pruned p x s)
  unfolding on_tree
  pruned-calm zero_is K = record {
    like = tidy-like p x s u o F e T;
    table_same = refl;
    records_same = refl;
    gap_same = pruned-gaps;
    stays = λ z h. stays z h (ℕ_discrete x z);
    zero_stored = pruned-other 0 (λ z. T.not_zero (e ∙ z)) ∙ K.zero_stored;
    top_free = pruned-other top (λ z. true≢false was-stored (ap (λ k. stored_in k (lvs s)) z ∙ K.top_free)) ∙ K.top_free;
    listed = placed-unlisted x (suc top) gone (lvs (pruned p x s)) (lvs s) e pruned-placed (length s.entries) K.listed;
  }
    where
      stays : (z : ℕ) → stored_in z (lvs s) ≡ true → Dec (x ≡ z) → (stored_in z (lvs (pruned p x s)) ≡ true) ⊎ ((p ≡ 0) × (update_word z (seen s) ≡ 0))
      stays z h (yes w) = inr (zero_is, subst (λ k. update_word k (seen s) ≡ 0) w pruned-update)
      stays z h (no n) = inl (pruned-other z n ∙ h)

      was-stored : stored_in x (lvs s) ≡ true
      was-stored = pruned-stored x ∙ ap (λ b. cond b true (stored_in x (lvs (pruned p x s)))) (eqb_yes x x refl)

-- The housekeeper descends to a stored key, and pins nothing.
pub keeper-stored : (s : State) (r : Request) (x : ℕ) → r.code ≡ 6 → Descends 0 s r x → stored_in x (lvs s) ≡ true
keeper-stored s r x c (to-change C q) = absurd (omega (arith, c, C.code_3_4.1))
keeper-stored s r x c (to_first d q) = absurd (omega (arith, c, d))
keeper-stored s r x c (to-second d q) = absurd (omega (arith, c, d))
keeper-stored s r x c (to_choice C) = C.stored

pub keeper-pins : (r : Request) (x : ℕ) → r.code ≡ 6 → pinned r (at x) ≡ []
unfolding pinned
keeper-pins r x c = rw (eqb_no r.code 5 (λ z. omega (arith, z, c))) refl
