-- Tidy's choice goes, as the machine's: which descriptors may go, what the layout without one means, and the row.
use Rattle.std.specs.Prelude.{◌≡◌, Bool, true, false, cond, not, ◌&&◌, List, [], ◌∷◌, ◌++◌, ◌⊎◌, eqb, ltb, set}
use Rattle.std.proofs.Math.Path.{refl, sym, ap, ap₂, subst}
use Rattle.std.proofs.Common.{◌∙◌, inl, inr, eq-eqb, ne_eqb}
use Rattle.std.proofs.Math.Option.{none}
use Prim.Native.Nat.{ℕ, zero, suc, ◌+◌, ◌≤◌, ◌<◌}
use native.Mathlib.Omega.{arith}
use Rattle.std.proofs.Math.ListN.{length, length-append}
use Rattle.words.specs.Store.{word_of}
use Rattle.groups.specs.Descriptor.{descriptor_at}
use Rattle.groups.specs.Descriptor as GD
use Rattle.sessions.specs.declared.Session.{Session}
use Rattle.sessions.specs.Sessions.{session_at}
use Rattle.machine.specs.Tree.{map_e}
use Rattle.machine.specs.Holders.{width, latch_word}
use Rattle.machine.specs.State.{on_tree, stored, gap_below, with_free, with_root, with_member, set_hand}
use Rattle.machine.specs.Descent.{on_latch, unlatched, taken_out, node}
use Rattle.machine.specs.Steps.{tidied_state, on_lowest, removable, is_empty, ended}
use Rattle.machine.specs.Context.{plug}
use Rattle.machine.specs.Focus.{Whole, keeper-room}
use Rattle.machine.specs.Order.{In}
use Rattle.machine.proofs.Housekeeping.{removable-goes}
use Rattle.meaning.specs.Reading.{gather, Leaf, erase, M-of, R-of}
use Rattle.meaning.specs.Sound.{All}
use Rattle.meaning.specs.Numbers.{all_right}
use Rattle.meaning.specs.Around.{NCtx, here, under, fill, erase_ctx, erase-fill, before, behind}
use Rattle.meaning.specs.Lens.{descs, leaves_before, leaves_behind}
use Rattle.meaning.specs.Latched.{at_request, changes-here}
use Rattle.layout.specs.Layout.{leaves_in, seconds, GroupFits, DescFits, Has, means}
use Rattle.layout.specs.Row.{Stands, Becomes}
use Rattle.layout.specs.Left.{idle-fits}
use Rattle.layout.specs.Places.{Erased, means-hand}
use Rattle.layout.specs.Puts.{desc-key, desc-locate, desc-update, desc-gap, desc-pins, desc-first}
use Rattle.layout.specs.Walks.{descs-fit}
use Rattle.endings.specs.Table.{idled}
use Rattle.nodes.specs.Paths.{son_toward}
use Rattle.arriving.specs.Arriving.{tidy_at, pred_of}
use Rattle.arriving.specs.Lowest.{Lowest, lowest, leaves_of}
use Rattle.arriving.specs.LeafRow.{low_node}
use Rattle.arriving.specs.Site.{site_low, site_high, site-leaves, site_son}
use Rattle.arriving.specs.Lists.{map_e-length}
use Rattle.arriving.specs.Before.{Pred, pred-at}
use Rattle.arriving.specs.Without.{Without, without}
use Rattle.arriving.specs.Declined.{ended-descent}
use Rattle.arriving.specs.Tidying.{tidy_lay, tidy-is, tidy-holds, tidy-written}

-- ---- no members

with-some : (e : ℕ) (l : List ℕ) → 1 ≤ length (with_member e l)
unfolding with_member
with-some e [] = omega arith
with-some e (x ∷ l) = go (ltb e x) (eqb e x)
  where
    go : (a b : Bool) → 1 ≤ length (cond a (e ∷ x ∷ l) (cond b (x ∷ l) (x ∷ with_member e l)))
    go true b = omega arith
    go false true = omega arith
    go false false = omega arith

some-members : (l : List ℕ) → 1 ≤ length l → is_empty l ≡ false
some-members [] n = absurd (omega (arith, n))
some-members (x ∷ l) n = refl

gather_none : (c : List (ℕ × ℕ)) → gather (seconds c) ≡ [] → c ≡ []
gather_none [] e = refl
gather_none (q ∷ c) e = absurd (omega (arith, ap length e, with-some q.1 (gather (seconds c))))

-- The first member's word says whether there is one.
empty-word : (s : List ℕ) (m : ℕ) (c : List (ℕ × ℕ)) (l : Leaf) → GroupFits s m c l → eqb (word_of s m l.num 6) 0 ≡ is_empty l.desc.members
empty-word s m [] l G = eq-eqb (word_of s m l.num 6) 0 G.chained ∙ ap is_empty G.gathered
empty-word s m (q ∷ c) l G =
    ne_eqb (word_of s m l.num 6) 0 G.chained.1 ∙ sym (sym (ap is_empty G.gathered) ∙ some-members (gather (seconds (q ∷ c))) (with-some q.1 (gather (seconds c))))

-- ---- which may go

pub removable-same : (s : List ℕ) (m : ℕ) (c : List (ℕ × ℕ)) (l : Leaf) (g : ℕ) → DescFits s m l → GroupFits s m c l → GD.removable (descriptor_at s m l.num) g ≡ removable g l.desc
unfolding removable GD.removable
removable-same s m c l g D G =
    let i = l.num in
    let a = ap (λ k. not (eqb k 0)) (desc-key s m i ∙ D.key) in
    let b = ap (λ k. eqb k 0) (desc-pins s m i ∙ D.pins) in
    let f = ap (λ k. eqb k 0) (desc-first s m i) ∙ empty-word s m c l G in
    let u = ap (λ k. eqb k 0) (desc-update s m i ∙ D.update) in
    let o = ap (λ k. eqb k g) (desc-locate s m i ∙ D.locate) in
    let z = ap (λ k. eqb k g) (desc-gap s m i ∙ D.gap) in
    λ j. a j && b j && f j && u j && o j && z j

-- ---- the node has another son

in-last : (lo e : ℕ) (A : List Leaf) (l : Leaf) → In lo e (descs (A ++ l ∷ [])) → l.desc.key < e
in-last lo e [] l i = i.0.1
in-last lo e (a ∷ A) l i = in-last lo e A l i.1

whole-alone : {h : ℕ} (c : NCtx 1 h) → Whole (erase_ctx c) → (leaves_before c ≡ []) × (leaves_behind c ≡ [])
unfolding erase_ctx before behind
whole-alone here w = (refl, refl)
whole-alone (under v pre c b post) w = absurd w

has_one : (k d : ℕ) (l : Leaf) → Has k d (l ∷ []) → l.desc.key ≡ k
has_one k d l (inl h) = h.0
has_one k d l (inr h) = absurd h

module _ (s : List ℕ) (t : List Session) (A : Stands s t) (P : Lowest A.lay t 0) (Q : Pred s t A.lay (session_at t 0).target) (key : P.leaf.desc.key ≡ (session_at t 0).target) where
  alone : length P.pre + length P.post ≡ 0 → Whole (erase_ctx P.around) → ⊥
  alone z w =
      let L = A.lay in
      let e = whole-alone P.around w in
      let none : (l : List (Leaf × ℕ)) → length l ≡ 0 → leaves_of l ≡ [] = no-sons in
      let u = none P.pre (omega (arith, z)) in
      let v = none P.post (omega (arith, z)) in
      let one : leaves_in L ≡ P.leaf ∷ [] = site-leaves s t L A.holds 0 P ∙ (λ i. (e.0 i ++ u i) ++ P.leaf ∷ (v i ++ e.1 i)) in
      let k = has_one Q.leaf.desc.key Q.leaf.num P.leaf (subst (Has Q.leaf.desc.key Q.leaf.num) one Q.has) in
      omega (arith, k, key, in-last 0 (session_at t 0).target Q.before Q.leaf Q.low)
    where
      no-sons : (l : List (Leaf × ℕ)) → length l ≡ 0 → leaves_of l ≡ []
      no-sons [] z = refl
      no-sons (y ∷ l) z = absurd (omega (arith, z))

  pub two-sons : 1 ≤ length P.pre + length P.post
  unfolding erase Erased
  two-sons = go (keeper-room (session_at t 0).target (means A.lay t) 0 (erase 1 (lowest P.mark P.pre P.leaf P.bound P.post)) P.focus) (length P.pre + length P.post) refl
    where
      go : (4 ≤ length (map_e (λ l. l.desc) (P.pre ++ (P.leaf, P.bound) ∷ P.post))) ⊎ (Whole P.focus.around × ((◌≡◌ {A = ℕ} 0 0) ⊎ ¬ (length (map_e (λ l. l.desc) (P.pre ++ (P.leaf, P.bound) ∷ P.post)) ≡ 1)))
          → (k : ℕ) → length P.pre + length P.post ≡ k → 1 ≤ length P.pre + length P.post
      go r (suc k) e = omega (arith, e)
      go (inl r) zero e = absurd (omega (arith, r, e, map_e-length (λ l. l.desc) (P.pre ++ (P.leaf, P.bound) ∷ P.post), length-append P.pre ((P.leaf, P.bound) ∷ P.post)))
      go (inr r) zero e = absurd (alone e (subst Whole P.erased r.0))

-- ---- what it means

module _ (s : List ℕ) (t : List Session) (A : Stands s t) (p : ℕ) (P : Lowest A.lay t p) (Q : Pred s t A.lay (session_at t p).target) (key : P.leaf.desc.key ≡ (session_at t p).target)
    (B : Without (session_at t p).target P.pre P.leaf P.bound P.post) (two : 1 ≤ length P.pre + length P.post)
    (bare : A.lay.members P.leaf.num ≡ []) (unpin : P.leaf.desc.pins ≡ 0) (unlock : P.leaf.desc.update ≡ 0) where
  tidy-tree : erase (suc A.lay.height) (fill P.around (low_node P.mark.num 0 B.sons))
      ≡ plug (erase_ctx P.around) (node 0 (taken_out (session_at t p).target (erase 1 (lowest P.mark P.pre P.leaf P.bound P.post)).sons))
  unfolding erase
  tidy-tree = erase-fill P.around (low_node P.mark.num 0 B.sons) ∙ ap (λ l. plug (erase_ctx P.around) (node 0 l)) B.erased

  machine-tree : on_latch (latch_word p) (session_at t p).target unlatched (suc (means A.lay t).root.height)
      (on_latch (latch_word p) (session_at t p).target (on_lowest (taken_out (session_at t p).target)) (suc (means A.lay t).root.height) (means A.lay t).root.node)
      ≡ plug P.focus.around (node 0 (taken_out (session_at t p).target (erase 1 (lowest P.mark P.pre P.leaf P.bound P.post)).sons))
  unfolding unlatched
  machine-tree =
      let w = latch_word p in
      let x = (session_at t p).target in
      let F = P.focus in
      let h = suc (means A.lay t).root.height in
      let u = erase 1 (lowest P.mark P.pre P.leaf P.bound P.post) in
      ap (on_latch w x unlatched h) (F.changes (on_lowest (taken_out x)))
      ∙ changes-here w x unlatched F.around (node u.latch (taken_out x u.sons)) F.way F.clear F.latch

  tidy-means : means (tidy_lay s t A p P Q key B two bare unpin unlock) t ≡ on_tree (on_latch (latch_word p) (session_at t p).target unlatched) (tidied_state p (session_at t p).target (means A.lay t))
  unfolding means on_tree Erased
  tidy-means =
      ap₂ (λ z k. with_free k (with_root (record { height = A.lay.height; node = z }) (means A.lay t)))
      (tidy-tree
      ∙ ap (λ k. plug k (node 0 (taken_out (session_at t p).target (erase 1 (lowest P.mark P.pre P.leaf P.bound P.post)).sons))) (sym P.erased)
      ∙ sym machine-tree)
      (let e : suc (length A.lay.free) ≡ length A.lay.free + 1 = omega arith in e)

  tidy-becomes : p ≤ width → ¬ ((session_at t p).code ≡ 5)
      → Becomes s (tidy_at s (M-of s) P.mark.num (session_at t p).target Q.leaf.num P.leaf.num) (set t p (idled (session_at t p)))
      (ended p (at_request (session_at t p)) (tidied_state p (session_at t p).target (means A.lay t)))
  unfolding idled
  tidy-becomes l n =
      let x = session_at t p in
      let M = tidy_lay s t A p P Q key B two bare unpin unlock in
      let W = tidy-written s t A p P Q key B two bare unpin unlock in
      subst (λ z. Becomes s z (set t p (idled x)) (ended p (at_request x) (tidied_state p x.target (means A.lay t)))) (sym (tidy-is s t A p P Q key B two bare unpin unlock))
      record {
        lay = M;
        holds = tidy-holds s t A p P Q key B two bare unpin unlock (idled x) l refl (idle-fits M p (idled x) refl);
        means_next = means-hand M t p (idled x) (omega (arith, A.holds.seats, l)) refl ∙ ap (set_hand p none) tidy-means ∙ sym (ended-descent p x (tidied_state p x.target (means A.lay t)) n);
        long = W.long;
        entries = W.entries;
        records = W.records;
        rest = W.rest;
      }

-- The group of the descriptor on the path.
pub site-group : (s : List ℕ) (t : List Session) (A : Stands s t) (p : ℕ) (P : Lowest A.lay t p) → GroupFits s (M-of s) (A.lay.members P.leaf.num) P.leaf
site-group s t A p P =
    let L = A.lay in
    let R : Leaf → Type 0 = λ l. GroupFits s (M-of s) (L.members l.num) l in
    (all_right R (site_low s t L A.holds p P) (P.leaf ∷ site_high s t L A.holds p P) (subst (All R) (site-leaves s t L A.holds p P) A.holds.fits.groups)).0

pub site-desc : (s : List ℕ) (t : List Session) (A : Stands s t) (p : ℕ) (P : Lowest A.lay t p) → DescFits s (M-of s) P.leaf
site-desc s t A p P =
    let L = A.lay in
    let R = DescFits s (M-of s) in
    (all_right R (site_low s t L A.holds p P) (P.leaf ∷ site_high s t L A.holds p P) (subst (All R) (site-leaves s t L A.holds p P) (descs-fit s t L A.holds A.sound))).0

-- The housekeeper removes its choice.
pub tidied-becomes : (s : List ℕ) (t : List Session) (A : Stands s t) (P : Lowest A.lay t 0) → P.leaf.desc.key ≡ (session_at t 0).target → 1 ≤ (session_at t 0).target → ¬ ((session_at t 0).code ≡ 5)
    → removable (gap_below (session_at t 0).target 0 (stored (means A.lay t))) P.leaf.desc ≡ true
    → Becomes s (tidy_at s (M-of s) (session_at t 0).at (session_at t 0).target (pred_of s (M-of s) (R-of s) (session_at t 0).target) (son_toward s (M-of s) (session_at t 0).at (session_at t 0).target)) (set t 0 (idled (session_at t 0))) (ended 0 (at_request (session_at t 0)) (tidied_state 0 (session_at t 0).target (means A.lay t)))
tidied-becomes s t A P key least n goes =
    let x = session_at t 0 in
    let L = A.lay in
    let m = M-of s in
    let Q = pred-at s t L A.holds A.sound x.target least in
    let G = removable-goes (gap_below x.target 0 (stored (means L t))) P.leaf.desc goes in
    let two = two-sons s t A P Q key in
    let B = without x.target P.pre P.leaf P.bound P.post P.below P.upto two in
    let bare = gather_none (L.members P.leaf.num) ((site-group s t A 0 P).gathered ∙ G.no_members) in
    subst (λ z. Becomes s z (set t 0 (idled x)) (ended 0 (at_request x) (tidied_state 0 x.target (means L t))))
    (λ i. tidy_at s m (P.num i) x.target (sym Q.found i) (sym (site_son s t L A.holds 0 P) i))
    (tidy-becomes s t A 0 P Q key B two bare G.not_pinned G.no_update (omega arith) n)
