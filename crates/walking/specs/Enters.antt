-- The root dropped; and what entering it comes to: as it is, dropped, split, dropped and split.
use Rattle.std.specs.Prelude.{◌≡◌, false, List, [], ◌∷◌, ◌++◌, eqb, set}
use Rattle.std.proofs.Math.Path.{refl, sym, ap, subst}
use Rattle.std.proofs.Common.{◌∙◌, append-nil, inl, inr, lit<}
use Prim.Native.Nat.{ℕ, zero, suc, ◌+◌, ◌-◌, ◌≤◌}
use native.Mathlib.Omega.{arith}
use Rattle.std.proofs.Math.ListN.{length}
use Rattle.words.specs.Store.{HasRecord, has_kept}
use Rattle.words.specs.Header.{header_word, root_place, height_place, first_place, free_place}
use Rattle.nodes.specs.Node.{node_at}
use Rattle.nodes.specs.Live.{Usable}
use Rattle.nodes.specs.Entries.{last-bound}
use Rattle.chain.specs.Free.{push_free}
use Rattle.sessions.specs.declared.Session.{Session}
use Rattle.sessions.specs.Sessions.{session_at}
use Rattle.serial.specs.Serial.{true≢false}
use Rattle.machine.specs.Tree.{flat, leaves}
use Rattle.machine.specs.Holders.{width, latch_word}
use Rattle.machine.specs.State.{State, Tree, top, at, with_free, with_root}
use Rattle.machine.specs.Descent.{Sons, node, lone, lone_son, drop_lone, entered, split_root}
use Rattle.machine.specs.Steps.{whole_root, halved_root, goes_on}
use Rattle.machine.specs.InTheWay.{Free}
use Rattle.machine.specs.Parts.{free_other}
use Rattle.machine.specs.Sound.{times}
use Rattle.meaning.specs.Reading.{Chained, Leaf, Mark, Numbered, erase, numbers, node_numbers, M-of, R-of}
use Rattle.meaning.specs.Sound.{All, Apart}
use Rattle.meaning.specs.Numbers.{times-append, apart-times}
use Rattle.meaning.specs.Around.{here, num_of}
use Rattle.layout.specs.Layout.{Lay, leaves_in, Has, NodeFits, TreeFits, SomeSon, Marked, Holds, means}
use Rattle.layout.specs.Row.{Becomes}
use Rattle.layout.specs.Written.{Written, written_then, entries-then, push-written, push-entries, push-head, push-free}
use Rattle.layout.specs.Keep.{with_tree, tree-keep, chained-keep, hand-as}
use Rattle.layout.specs.Puts.{free-pushed}
use Rattle.layout.specs.Room.{Sizes}
use Rattle.layout.specs.Asked.{request_in, set_same}
use Rattle.walking.specs.Traces.{trace-none}
use Rattle.walking.specs.Holes.{fits-usable, Ours, hole-most, ours-has, ours_in, proper, part-keep}
use Rattle.walking.specs.Hands.{nd, standing_at, marked-below, node-times, one-self, becomes-by}
use Rattle.walking.specs.Levels.{numbers-law, nodes-law}
use Rattle.walking.specs.Roots.{Topped, put_top, topped, root-row, entered_tree, entered_words, entered-written, entered-holds, root_words, root_node, root_half, root-topped, root-holds, root-erase}

-- ---- a record given back

module _ (s s₁ : List ℕ) (W : List ℕ) (f r h : ℕ) (T : Topped s s₁ W f r h) (i : ℕ) (has : HasRecord s (M-of s) i) (inside : i ≤ R-of s) where
  has₁ : HasRecord s₁ (M-of s₁) i
  has₁ = subst (λ m. HasRecord s₁ m i) (sym T.written.entries) (has_kept has T.written.long)

  pub topped-push : 16 ≤ length s → Topped s (push_free s₁ (M-of s) i) (W ++ (i ∷ [])) i r h
  topped-push long = subst (λ m. Topped s (push_free s₁ m i) (W ++ (i ∷ [])) i r h) T.written.entries (record {
    written = written_then s s₁ z W (i ∷ []) T.written (push-written s₁ i has₁ (subst (λ n. i ≤ n) (sym T.written.records) inside));
    ents = entries-then s s₁ z T.written.entries T.ents (push-entries s₁ i has₁);
    first = push-head s₁ i has₁ first_place (lit< tt) (λ e. omega (arith, e)) ∙ T.first;
    free = push-free s₁ i has₁ (subst (λ x. 16 ≤ x) (sym T.written.long) long);
    root = push-head s₁ i has₁ root_place (lit< tt) (λ e. omega (arith, e)) ∙ T.root;
    height = push-head s₁ i has₁ height_place (lit< tt) (λ e. omega (arith, e)) ∙ T.height;
  })
    where
      z : List ℕ
      z = push_free s₁ (M-of s₁) i

-- It is the first of the free chain.
pub pushed-chain : (s s₁ : List ℕ) (W : List ℕ) → Written s s₁ W → (f : ℕ) → header_word s₁ free_place ≡ f → (fl : List ℕ) → Chained s₁ (M-of s) f fl → (i : ℕ) → HasRecord s (M-of s) i
    → All (λ j. 1 ≤ j) fl → Apart i fl → Chained (push_free s₁ (M-of s) i) (M-of s) i (i ∷ fl)
pushed-chain s s₁ W A f e fl c i has low out =
    let q = A.entries in
    subst (λ m. Chained (push_free s₁ m i) m i (i ∷ fl)) q
    (free-pushed s₁ i fl (subst (λ m. HasRecord s₁ m i) (sym q) (has_kept has A.long))
    (subst (λ m. Chained s₁ m (header_word s₁ free_place) fl) (sym q) (subst (λ j. Chained s₁ (M-of s) j fl) (sym e) c)) low out)

-- ---- dropped

module _ (s : List ℕ) (t : List Session) (L₀ : Lay) (h : ℕ) (v : Mark) (a : Numbered (suc h)) (b : ℕ) (f : List ℕ) (H : Holds s t (with_tree L₀ (suc h) (nd v ((a, b) ∷ [])) f))
    (Z : Sizes (with_tree L₀ (suc h) (nd v ((a, b) ∷ [])) f)) where
  abbrev u : Numbered (suc (suc h))
  u = nd v ((a, b) ∷ [])

  abbrev L : Lay
  L = with_tree L₀ (suc h) u f

  abbrev m : ℕ
  m = M-of s

  abbrev r : ℕ
  r = v.num

  abbrev pub drop_words : List ℕ
  drop_words = push_free (put_top s a.latch.num (suc h)) m r

  root-fits : NodeFits s m top v ((a.latch.num, b) ∷ [])
  unfolding TreeFits num_of
  root-fits = H.fits.tree.0

  son-fits : TreeFits s m (suc h) b a
  unfolding TreeFits
  son-fits = H.fits.tree.1.0

  root-usable : Usable (node_at s m r)
  root-usable = fits-usable s m top v ((a.latch.num, b) ∷ []) root-fits (omega arith)

  bound-is : b ≡ top
  bound-is = sym (last-bound root-usable top [] a.latch.num b root-fits.sons)

  tree-times : (i : ℕ) → times i (numbers (suc (suc h)) u) ≡ times i (r ∷ []) + times i (numbers (suc h) a)
  tree-times i = omega (arith, node-times numbers numbers-law (suc h) u i, times-append i (numbers (suc h) a) [])

  most : (i : ℕ) → times i (numbers (suc (suc h)) u) + times i f ≤ 1
  most = hole-most s t L H here u refl

  r-ours : Ours L (suc (suc h)) u r
  r-ours = omega (arith, node-times node_numbers nodes-law (suc h) u r, one-self r)

  top-trace : Topped s (put_top s a.latch.num (suc h)) [] (header_word s free_place) a.latch.num (suc h)
  top-trace = topped s s [] (header_word s free_place) (trace-none s) a.latch.num (suc h) H.fits.header

  pub drop-topped : Topped s drop_words (r ∷ []) r a.latch.num (suc h)
  drop-topped =
      topped-push s (put_top s a.latch.num (suc h)) [] (header_word s free_place) a.latch.num (suc h) top-trace r (ours-has s t L H here u refl Z r r-ours) (ours_in s t L H here u refl Z r r-ours) H.fits.header

  drop-chain : Chained drop_words m r (r ∷ f)
  drop-chain =
      let s₁ = put_top s a.latch.num (suc h) in
      pushed-chain s s₁ [] top-trace.written (header_word s free_place) top-trace.free f
      (chained-keep s s₁ m (header_word s free_place) f (part-keep s t L H here u refl s₁ [] top-trace.written f (λ j. omega arith) tt) H.fits.free)
      r (ours-has s t L H here u refl Z r r-ours) (proper s t L H here u refl f (λ j. omega arith)) (apart-times r f (omega (arith, most r, tree-times r, one-self r)))

  drop-leaves : leaves Leaf Mark (suc h) a ≡ leaves_in L
  unfolding leaves
  drop-leaves = sym (append-nil (flat (leaves Leaf Mark h) a.sons))

  pub drop-holds : (p : ℕ) → p ≤ width → (session_at t p).stage ≡ 2 → Free p v.word → Holds drop_words t (with_tree L₀ h a (r ∷ f))
  unfolding num_of
  drop-holds p l st fr =
      let L' = with_tree L₀ h a (r ∷ f) in
      subst (λ z. Holds drop_words z L') (set_same t p)
      (root-row s t L H drop_words (r ∷ []) r a.latch.num (suc h) drop-topped (r-ours, tt) h a (r ∷ f) drop-leaves refl refl
      (tree-keep s drop_words m (suc h) top a
      (part-keep s t L H here u refl drop_words (r ∷ []) drop-topped.written (numbers (suc h) a) (λ j. omega (arith, tree-times j)) (omega (arith, most r, tree-times r, one-self r), tt))
      (subst (λ z. TreeFits s m (suc h) z a) bound-is son-fits))
      drop-chain
      (λ i. omega (arith, tree-times i))
      p (session_at t p)
      record {
        party = l;
        undo = refl;
        own = hand-as L L' p (session_at t p) (λ k d. subst (Has k d) (sym drop-leaves)) (λ e. absurd (omega (arith, e, st))) (H.hands p l);
        others = λ q ne k3 g M. only (session_at t q).level (session_at t q).at (latch_word q) (marked-below (session_at t q).level (session_at t q).at (latch_word q) (suc h) u (free_other p q v.word (λ z. ne (sym z)) fr) M);
      })
    where
      only : (j n w : ℕ) → SomeSon (Marked j n w (suc h)) ((a, b) ∷ []) → Marked j n w (suc h) a
      only j n w (inl M) = M
      only j n w (inr M) = absurd M

-- ---- the machine's root

pub left-kept : (h : ℕ) (t : Tree (suc h)) → lone h t ≡ false → drop_lone h t ≡ record { height = h; node = t }
left-kept zero t e = refl
left-kept (suc h) t e = go t.sons e
  where
    go : (es : Sons (suc h)) → eqb (length es) 1 ≡ false → lone_son h es t ≡ record { height = suc h; node = t }
    go [] e = refl
    go (q ∷ []) e = absurd (true≢false refl e)
    go (q ∷ q' ∷ es) e = refl

whole-kept : (p : ℕ) (σ : State) → lone σ.root.height σ.root.node ≡ false → with_free σ.free (with_root (entered (latch_word p) σ.root) σ) ≡ whole_root p σ
whole-kept p σ e =
    let z : σ.free ≡ σ.free + 0 = omega arith in
    rw (e, left-kept σ.root.height σ.root.node e) (ap (λ n. with_free n (with_root (entered (latch_word p) σ.root) σ)) z)

halved-kept : (p x n : ℕ) (σ : State) → lone σ.root.height σ.root.node ≡ false → n ≡ σ.free - 2 → with_free n (with_root (split_root (latch_word p) x σ.root) σ) ≡ halved_root p x σ
halved-kept p x n σ e q =
    let z : n ≡ σ.free + 0 - 2 = omega (arith, q) in
    rw (e, left-kept σ.root.height σ.root.node e) (ap (λ k. with_free k (with_root (split_root (latch_word p) x σ.root) σ)) z)

-- ---- what entering comes to

module _ (s : List ℕ) (t : List Session) (p : ℕ) (l : p ≤ width) (st : (session_at t p).stage ≡ 2) where
  module _ (L : Lay) (H : Holds s t L) (Z : Sizes L) (fr : Free p L.tree.latch.word) where
    plain-means : lone L.height (erase (suc L.height) L.tree) ≡ false
        → means (with_tree L L.height (entered_tree s t L H Z p l st fr) L.free) t ≡ whole_root p (means L t)
    unfolding means erase
    plain-means e = whole-kept p (means L t) e

    pub enter-plain : lone L.height (erase (suc L.height) L.tree) ≡ false
        → Becomes s (entered_words s t L H Z p l st fr) (set t p (standing_at (session_at t p) L.tree.latch.num (suc L.height)))
        (goes_on p (request_in (session_at t p)) (at (session_at t p).target) (whole_root p (means L t))).next
    enter-plain e =
        becomes-by s (entered_words s t L H Z p l st fr) t (L.tree.latch.num ∷ []) (entered-written s t L H Z p l st fr) p (omega (arith, H.seats, l)) L.tree.latch.num (suc L.height)
        (with_tree L L.height (entered_tree s t L H Z p l st fr) L.free) (whole_root p (means L t)) (plain-means e) (entered-holds s t L H Z p l st fr)

    module _ (f₁ f₂ : ℕ) (f' : List ℕ) (two : L.free ≡ f₁ ∷ f₂ ∷ f') (full : length L.tree.sons ≡ 8) where
      split-means : lone L.height (erase (suc L.height) L.tree) ≡ false
          → means (with_tree L (suc L.height) (root_node s t L H Z (latch_word p) (session_at t p).target f₁ f₂ f' two full) f') t ≡ halved_root p (session_at t p).target (means L t)
      unfolding means erase
      split-means e =
          let x = (session_at t p).target in
          ap (λ es. with_free (length f') (with_root (record { height = suc L.height; node = node 0 es }) (means L t))) (sym (root-erase s t L H Z (latch_word p) x f₁ f₂ f' two full))
          ∙ halved-kept p x (length f') (means L t) e (omega (arith, ap length two))

      pub enter-split : lone L.height (erase (suc L.height) L.tree) ≡ false
          → Becomes s (root_words s t L H Z (latch_word p) (session_at t p).target f₁ f₂ f' two full)
          (set t p (standing_at (session_at t p) (root_half s t L H Z (latch_word p) (session_at t p).target f₁ f₂ f' two full) (suc L.height)))
          (goes_on p (request_in (session_at t p)) (at (session_at t p).target) (halved_root p (session_at t p).target (means L t))).next
      enter-split e =
          let x = (session_at t p).target in
          let w = latch_word p in
          becomes-by s (root_words s t L H Z w x f₁ f₂ f' two full) t (L.tree.latch.num ∷ f₁ ∷ f₂ ∷ []) (root-topped s t L H Z w x f₁ f₂ f' two full).written p (omega (arith, H.seats, l))
          (root_half s t L H Z w x f₁ f₂ f' two full) (suc L.height) (with_tree L (suc L.height) (root_node s t L H Z w x f₁ f₂ f' two full) f') (halved_root p x (means L t)) (split-means e)
          (root-holds s t L H Z w x f₁ f₂ f' two full p l refl fr st)

  module _ (L₀ : Lay) (h : ℕ) (v : Mark) (a : Numbered (suc h)) (b : ℕ) (f : List ℕ) (H : Holds s t (with_tree L₀ (suc h) (nd v ((a, b) ∷ [])) f))
      (Z : Sizes (with_tree L₀ (suc h) (nd v ((a, b) ∷ [])) f)) (fr : Free p v.word) (fa : Free p a.latch.word) where
    abbrev s₁ : List ℕ
    s₁ = drop_words s t L₀ h v a b f H Z

    abbrev Lw : Lay
    Lw = with_tree L₀ (suc h) (nd v ((a, b) ∷ [])) f

    abbrev L₁ : Lay
    L₁ = with_tree L₀ h a (v.num ∷ f)

    abbrev W₁ : Written s s₁ (v.num ∷ [])
    W₁ = (drop-topped s t L₀ h v a b f H Z).written

    abbrev H₁ : Holds s₁ t L₁
    H₁ = drop-holds s t L₀ h v a b f H Z p l st fr

    abbrev Z₁ : Sizes L₁
    Z₁ = record { some = Z.some; entries = Z.entries; least = Z.least; most = Z.most }

    drop-means : means (with_tree L₁ h (entered_tree s₁ t L₁ H₁ Z₁ p l st fa) (v.num ∷ f)) t ≡ whole_root p (means Lw t)
    unfolding means erase
    drop-means = ap (λ n. with_free n (with_root (entered (latch_word p) (record { height = h; node = erase (suc h) a })) (means Lw t))) (one_more (length f))
      where
        one_more : (n : ℕ) → suc n ≡ n + 1
        one_more n = omega arith

    pub enter-drop : Becomes s (entered_words s₁ t L₁ H₁ Z₁ p l st fa) (set t p (standing_at (session_at t p) a.latch.num (suc h)))
        (goes_on p (request_in (session_at t p)) (at (session_at t p).target) (whole_root p (means Lw t))).next
    enter-drop =
        let s₂ = entered_words s₁ t L₁ H₁ Z₁ p l st fa in
        becomes-by s s₂ t (v.num ∷ a.latch.num ∷ []) (written_then s s₁ s₂ (v.num ∷ []) (a.latch.num ∷ []) W₁ (entered-written s₁ t L₁ H₁ Z₁ p l st fa)) p (omega (arith, H.seats, l))
        a.latch.num (suc h) (with_tree L₁ h (entered_tree s₁ t L₁ H₁ Z₁ p l st fa) (v.num ∷ f)) (whole_root p (means Lw t)) drop-means (entered-holds s₁ t L₁ H₁ Z₁ p l st fa)

    module _ (f₂ : ℕ) (f' : List ℕ) (one : f ≡ f₂ ∷ f') (full : length a.sons ≡ 8) where
      abbrev two : L₁.free ≡ v.num ∷ f₂ ∷ f'
      two = ap (λ k. v.num ∷ k) one

      drop-split-means : means (with_tree L₁ (suc h) (root_node s₁ t L₁ H₁ Z₁ (latch_word p) (session_at t p).target v.num f₂ f' two full) f') t ≡ halved_root p (session_at t p).target (means Lw t)
      unfolding means erase
      drop-split-means =
          let x = (session_at t p).target in
          let e : length f' ≡ length f + 1 - 2 = omega (arith, ap length one) in
          ap (λ es. with_free (length f') (with_root (record { height = suc h; node = node 0 es }) (means Lw t))) (sym (root-erase s₁ t L₁ H₁ Z₁ (latch_word p) x v.num f₂ f' two full))
          ∙ ap (λ n. with_free n (with_root (split_root (latch_word p) x (record { height = h; node = erase (suc h) a })) (means Lw t))) e

      pub enter-drop-split : Becomes s (root_words s₁ t L₁ H₁ Z₁ (latch_word p) (session_at t p).target v.num f₂ f' two full)
          (set t p (standing_at (session_at t p) (root_half s₁ t L₁ H₁ Z₁ (latch_word p) (session_at t p).target v.num f₂ f' two full) (suc h)))
          (goes_on p (request_in (session_at t p)) (at (session_at t p).target) (halved_root p (session_at t p).target (means Lw t))).next
      enter-drop-split =
          let x = (session_at t p).target in
          let w = latch_word p in
          let s₂ = root_words s₁ t L₁ H₁ Z₁ w x v.num f₂ f' two full in
          let W₂ = a.latch.num ∷ v.num ∷ f₂ ∷ [] in
          becomes-by s s₂ t (v.num ∷ W₂) (written_then s s₁ s₂ (v.num ∷ []) W₂ W₁ (root-topped s₁ t L₁ H₁ Z₁ w x v.num f₂ f' two full).written) p (omega (arith, H.seats, l))
          (root_half s₁ t L₁ H₁ Z₁ w x v.num f₂ f' two full) (suc h) (with_tree L₁ (suc h) (root_node s₁ t L₁ H₁ Z₁ w x v.num f₂ f' two full) f') (halved_root p x (means Lw t)) drop-split-means
          (root-holds s₁ t L₁ H₁ Z₁ w x v.num f₂ f' two full p l refl fa st)
