-- What the tests read of words that hold a layout: the root, its sons, the free records, the latches.
use Rattle.std.specs.Prelude.{◌≡◌, Bool, true, not, ◌||◌, eqb, leb, length, get_or}
use Rattle.std.proofs.Math.Path.{refl, sym, ap, ap₂, subst}
use Rattle.std.proofs.Common.{◌∙◌, inl, inr, arith}
use Rattle.std.proofs.Math.Bool.{false, cond}
use mathlib.Core.List.{List, [], ◌∷◌, map}
use Prim.Native.Nat.{ℕ, zero, suc, ◌+◌, ◌-◌, ◌≤◌}
use Rattle.words.specs.Store.{HasRecord, record_at, word_of, has_kept}
use Rattle.words.specs.Header.{header_word, root_place, height_place, free_place}
use Rattle.nodes.specs.declared.Node.{Node}
use Rattle.nodes.specs.Node.{node_at, decode_node, sized-decode}
use Rattle.nodes.specs.Live.{Usable}
use Rattle.reshaping.specs.Ops.{split_node}
use Rattle.nodes.specs.Entries as N
use Rattle.nodes.specs.Entries.{entries-length}
use Rattle.reshaping.specs.Entries.{split-up}
use Rattle.chain.specs.Free.{Poppable, pop_free}
use Rattle.sessions.specs.declared.Session.{Session}
use Rattle.machine.specs.Logic.{eqb_is, eqb-not, eqb_yes, eqb_no, leb_yes}
use Rattle.machine.specs.Tree.{map_e}
use Rattle.machine.specs.Holders.{latch_word, elem, latch_blockers}
use Rattle.machine.specs.State.{top}
use Rattle.machine.specs.Descent.{lone}
use Rattle.machine.specs.InTheWay.{Free}
use Rattle.machine.specs.Sound.{times}
use Rattle.meaning.specs.Reading.{Chained, Mark, Numbered, erase, M-of}
use Rattle.meaning.specs.Around.{here, num_of}
use Rattle.layout.specs.Layout.{Lay, NodeFits, TreeFits, Holds}
use Rattle.layout.specs.Puts.{node-latch}
use Rattle.layout.specs.Room.{Sizes}
use Rattle.layout.specs.LatchRows.{node-has}
use Rattle.descents.specs.Descents.{has_free, in_way, first_in_way}
use Rattle.splits.specs.Splits.{CanSplitRoot, split_root, split_root_half, put_halves}
use Rattle.walking.specs.Traces.{Trace, trace-none, trace-pop}
use Rattle.walking.specs.Holes.{fits-usable, ours-has}
use Rattle.walking.specs.Hands.{one-self}
use Rattle.walking.specs.Ways.{Way, clear, shut, way-two}
use Rattle.walking.specs.Levels.{length-map_e, map_e-bounds}
use Rattle.walking.specs.Roots.{root_mid, root_words, root_half}
use Rattle.root_entry.specs.RootEntry.{drops_root}

-- ---- latches

-- Nobody's latch is in the way, or one is whose party the machine lists first.
in-way-free : (p w : ℕ) → in_way p w ≡ 0 → Free p w
unfolding in_way
in-way-free p w e = go (eqb w 0) refl (eqb w (p + 1)) refl e
  where
    go : (b : Bool) → eqb w 0 ≡ b → (c : Bool) → eqb w (p + 1) ≡ c → cond b 0 (cond c 0 w) ≡ 0 → Free p w
    go true f c g q = inl (eqb_is w 0 f)
    go false f true g q = inr (omega (arith, eqb_is w (p + 1) g))
    go false f false g q = inl q

free-none : (p w : ℕ) (l : List ℕ) → Free p w → cond (eqb w 0 || eqb w (latch_word p) || elem (w - 1) l) l ((w - 1) ∷ l) ≡ l
free-none p w l (inl e) = ap (λ b. cond (b || eqb w (latch_word p) || elem (w - 1) l) l ((w - 1) ∷ l)) (eqb_yes w 0 e)
free-none p w l (inr e) = go (eqb w 0)
  where
    go : (b : Bool) → cond (b || eqb w (latch_word p) || elem (w - 1) l) l ((w - 1) ∷ l) ≡ l
    go true = refl
    go false = ap (λ c. cond (c || elem (w - 1) l) l ((w - 1) ∷ l)) (eqb_yes w (latch_word p) e)

pub way-free : (p v w : ℕ) → first_in_way p v w ≡ 0 → Free p v × Free p w
unfolding first_in_way
way-free p v w e = go (eqb (in_way p v) 0) refl e
  where
    go : (b : Bool) → eqb (in_way p v) 0 ≡ b → cond b (in_way p w) (in_way p v) ≡ 0 → Free p v × Free p w
    go true f q = (in-way-free p v (eqb_is (in_way p v) 0 f), in-way-free p w q)
    go false f q = absurd (eqb-not (in_way p v) 0 f q)

pub way-none : (p v w : ℕ) → first_in_way p v w ≡ 0 → latch_blockers p (v ∷ w ∷ []) ≡ []
unfolding latch_blockers
way-none p v w e =
    let f = way-free p v w e in
    ap (λ l. cond (eqb v 0 || eqb v (latch_word p) || elem (v - 1) l) l ((v - 1) ∷ l)) (free-none p w [] f.1) ∙ free-none p v [] f.0

pub way-some : (p v w : ℕ) → ¬ (first_in_way p v w ≡ 0) → (cs : List ℕ) × (latch_blockers p (v ∷ w ∷ []) ≡ (first_in_way p v w - 1) ∷ cs)
way-some p v w n = go (way-two p v w)
  where
    go : Way (first_in_way p v w) (latch_blockers p (v ∷ w ∷ [])) → (cs : List ℕ) × (latch_blockers p (v ∷ w ∷ []) ≡ (first_in_way p v w - 1) ∷ cs)
    go (clear e f) = absurd (n e)
    go (shut k c cs f g) = (cs, f ∙ ap (λ i. i ∷ cs) (sym g))

-- ---- free records

pub two-free : (s : List ℕ) (m : ℕ) (f : List ℕ) → Chained s m (header_word s free_place) f → has_free s m 2 ≡ leb 2 (length f)
unfolding has_free
two-free s m [] c = ap (λ b. cond b false (not (eqb (word_of s m (header_word s free_place) 0) 0))) (eqb_yes (header_word s free_place) 0 c)
two-free s m (i ∷ []) c =
    ap₂ (λ a b. cond a false (not b)) (eqb_no (header_word s free_place) 0 c.1) (eqb_yes (word_of s m (header_word s free_place) 0) 0 c.2)
two-free s m (i ∷ j ∷ f) c =
    ap₂ (λ a b. cond a false (not b)) (eqb_no (header_word s free_place) 0 c.1) (eqb_no (word_of s m (header_word s free_place) 0) 0 c.2.1)
    ∙ sym (leb_yes 2 (suc (suc (length f))) (omega arith))

pub one_free : (s : List ℕ) (m : ℕ) (f : List ℕ) → Chained s m (header_word s free_place) f → has_free s m 1 ≡ leb 1 (length f)
unfolding has_free
one_free s m [] c = ap (λ b. cond b false true) (eqb_yes (header_word s free_place) 0 c)
one_free s m (i ∷ f) c = ap (λ b. cond b false true) (eqb_no (header_word s free_place) 0 c.1) ∙ sym (leb_yes 1 (suc (length f)) (omega arith))

-- ---- nodes

-- A node has as many sons as it says.
pub fits_count : (s : List ℕ) (m hi : ℕ) (w : Mark) (es : List (ℕ × ℕ)) → NodeFits s m hi w es → (node_at s m w.num).count ≡ length es
fits_count s m hi w es f = go es f
  where
    n : Node
    n = node_at s m w.num

    none : (c : ℕ) → n.count ≡ c → length (N.entries n hi) ≡ 0 → n.count ≡ 0
    none zero e q = e
    none (suc c) e q =
        let ok : Usable n = record { sized = sized-decode (record_at s m w.num); least = omega (arith, e); most = unfold decode_node in f.few } in
        sym (entries-length ok hi) ∙ q

    go : (es : List (ℕ × ℕ)) → NodeFits s m hi w es → n.count ≡ length es
    go [] g = none n.count refl (ap length g.sons)
    go (e ∷ es) g = sym (entries-length (fits-usable s m hi w (e ∷ es) g (omega arith)) hi) ∙ ap length g.sons

module _ (s : List ℕ) (t : List Session) (L : Lay) (H : Holds s t L) where
  abbrev m : ℕ
  m = M-of s

  pub root_is : header_word s root_place ≡ L.tree.latch.num
  unfolding num_of
  root_is = H.fits.root

  pub root-fits : NodeFits s m top L.tree.latch (map_e (num_of L.height) L.tree.sons)
  unfolding TreeFits
  root-fits = H.fits.tree.0

  pub root-latch : (node_at s m (header_word s root_place)).latch ≡ L.tree.latch.word
  root-latch = ap (λ i. (node_at s m i).latch) root_is ∙ node-latch s m L.tree.latch.num ∙ root-fits.latch

  pub root-count : (node_at s m (header_word s root_place)).count ≡ length L.tree.sons
  root-count =
      ap (λ i. (node_at s m i).count) root_is
      ∙ fits_count s m top L.tree.latch (map_e (num_of L.height) L.tree.sons) root-fits
      ∙ length-map_e (num_of L.height) L.tree.sons

  -- Whether the root is dropped.
  pub drops-is : drops_root s m ≡ lone L.height (erase (suc L.height) L.tree)
  unfolding drops_root erase
  drops-is = ap₂ (λ h c. cond (leb 2 h) (eqb c 1) false) H.fits.height root-count ∙ go L.height L.tree
    where
      go : (h : ℕ) (u : Numbered (suc h)) → cond (leb 2 (suc h)) (eqb (length u.sons) 1) false ≡ lone h (erase (suc h) u)
      go zero u = refl
      go (suc h) u = ap₂ (λ b n. cond b (eqb n 1) false) (leb_yes 2 (suc (suc h)) (omega arith)) (sym (length-map_e (erase (suc h)) u.sons))

  module _ (Z : Sizes L) where
    pub root-has : HasRecord s m (header_word s root_place)
    root-has = subst (HasRecord s m) (sym root_is) (node-has s t L H here L.tree refl Z 0)

    free-has : (i : ℕ) → 1 ≤ times i L.free → HasRecord s m i
    free-has i h = ours-has s t L H here L.tree refl Z i (omega (arith, h))

    pub can-pop : Poppable s m
    can-pop = record { header = H.fits.header; first = λ n. go L.free refl n }
      where
        go : (f : List ℕ) → L.free ≡ f → ¬ (header_word s free_place ≡ 0) → HasRecord s m (header_word s free_place)
        go [] e n = absurd (n (subst (Chained s m (header_word s free_place)) e H.fits.free))
        go (i ∷ f) e n =
            let c = subst (Chained s m (header_word s free_place)) e H.fits.free in
            subst (HasRecord s m) (sym c.0) (free-has i (omega (arith, ap (times i) e, one-self i)))

    -- ---- a full root

    module _ (f₁ f₂ : ℕ) (f' : List ℕ) (two : L.free ≡ f₁ ∷ f₂ ∷ f') where
      abbrev head : ℕ
      head = header_word s free_place

      Chain : Type 0
      Chain = (head ≡ f₁) × ¬ (head ≡ 0) × (word_of s m head 0 ≡ f₂) × ¬ (word_of s m head 0 ≡ 0)

      cut : Chain
      unfolding Chain
      cut = let c = subst (Chained s m head) two H.fits.free in (c.0, c.1, c.2.0, c.2.1)

      popped : Trace s (pop_free s m) [] (word_of s m head 0)
      unfolding Chain
      popped = trace-pop s s [] head (trace-none s) H.fits.header cut.1

      pub first-free : header_word s free_place ≡ f₁
      unfolding Chain
      first-free = cut.0

      pub second-free : header_word (pop_free s m) free_place ≡ f₂
      unfolding Chain
      second-free = popped.free ∙ cut.2

      pub can-split : L.height ≤ 7 → CanSplitRoot s m
      unfolding Chain
      can-split low = record {
        root = root-has;
        height = omega (arith, H.fits.height, low);
        free = can-pop;
        some = cut.1;
        free₂ = record {
          header = subst (λ n. 16 ≤ n) (sym popped.written.long) H.fits.header;
          first = λ n. has_kept (subst (HasRecord s m) (sym second-free) (free-has f₂ (omega (arith, ap (times f₂) two, one-self f₂)))) popped.written.long;
        };
        some₂ = λ e. cut.3 (sym popped.free ∙ e);
      }

      module _ (full : length L.tree.sons ≡ 8) (w x : ℕ) where
        up_is : (split_node (node_at s m (header_word s root_place))).up ≡ root_mid s t L H Z w x f₁ f₂ f' two full
        up_is =
            let k = L.height in
            let es = map_e (num_of k) L.tree.sons in
            let ok : Usable (node_at s m L.tree.latch.num) = fits-usable s m top L.tree.latch es root-fits (omega (arith, length-map_e (num_of k) L.tree.sons, full)) in
            let c : (node_at s m L.tree.latch.num).count ≡ 8 = ap (λ i. (node_at s m i).count) (sym root_is) ∙ root-count ∙ full in
            ap (λ i. (split_node (node_at s m i)).up) root_is
            ∙ split-up ok c top
            ∙ ap (λ l. get_or (map (λ p. p.1) l) 3 0) root-fits.sons
            ∙ ap (λ l. get_or l 3 0) (map_e-bounds (num_of k) L.tree.sons)

        pub split_words : split_root s m x w ≡ root_words s t L H Z w x f₁ f₂ f' two full
        unfolding split_root put_halves
        split_words =
            let e : header_word s height_place + 1 ≡ suc (suc L.height) = omega (arith, H.fits.height) in
            rw (up_is, root_is, first-free, second-free, e) refl

        pub split-half : split_root_half s m x ≡ root_half s t L H Z w x f₁ f₂ f' two full
        unfolding split_root_half
        split-half = rw (up_is, root_is, first-free) refl
