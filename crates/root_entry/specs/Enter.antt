-- Entering the root on words is the machine's step: it waits, is refused 11, or enters the root as it is, dropped, split, dropped and split.
use Rattle.std.specs.Prelude.{◌≡◌, Bool, not, ◌&&◌, leb, length}
use Rattle.std.proofs.Math.Path.{refl, sym, ap, ap₂, subst}
use Rattle.std.proofs.Common.{◌∙◌, arith}
use Rattle.std.proofs.Math.Bool.{true, false, cond}
use mathlib.Core.List.{List, [], ◌∷◌}
use Prim.Native.Nat.{ℕ, zero, suc, ◌+◌, ◌-◌, ◌≤◌}
use Rattle.std.proofs.Math.Dec.{eqb}
use borrow.Author.Tests.{eq-eqb, ne_eqb}
use Rattle.words.specs.Header.{header_word, root_place, height_place}
use Rattle.nodes.specs.Node.{node_at}
use Rattle.nodes.specs.Live.{Usable}
use Rattle.nodes.specs.Entries.{son-here}
use Rattle.sessions.specs.declared.Session.{Session}
use Rattle.sessions.specs.Sessions.{session_at}
use Rattle.serial.specs.Serial.{true≢false}
use Rattle.outcomes.specs.Said.{Stepped, said}
use Rattle.machine.specs.Logic.{eqb_is, eqb-not, eqb_no, leb_yes}
use Rattle.machine.specs.Tree.{map_e}
use Rattle.machine.specs.Holders.{width, latch_word, latch_blockers}
use Rattle.machine.specs.State.{State, Root, Request, Outcome, top, enter, at, refused}
use Rattle.machine.specs.Descent.{lone}
use Rattle.machine.specs.Steps.{answer, ended, goes_on, guarded, fills, whole_root, halved_root, enter_step, next_step}
use Rattle.machine.specs.InTheWay.{Free}
use Rattle.machine.specs.Sound as S
use Rattle.meaning.specs.Reading.{Mark, Numbered, erase, M-of}
use Rattle.meaning.specs.Around.{num_of}
use Rattle.layout.specs.Layout.{Lay, NodeFits, TreeFits, Holds, means}
use Rattle.layout.specs.Row.{Stands, Moves}
use Rattle.layout.specs.Keep.{with_tree}
use Rattle.layout.specs.Puts.{node-latch}
use Rattle.layout.specs.Room.{Sizes, sizes-of}
use Rattle.layout.specs.Asked.{request_in, wait-moves}
use Rattle.nodes.specs.Paths.{son_at}
use Rattle.descents.specs.Descents.{has_free, first_in_way}
use Rattle.splits.specs.Splits.{split_root, split_root_half, drop_root}
use Rattle.finishing.proofs.Ended.{refused-moves}
use Rattle.walking.specs.Holes.{fits-usable}
use Rattle.walking.specs.Hands.{nd}
use Rattle.walking.specs.Levels.{length-map_e}
use Rattle.walking.specs.Roots.{root_words, root_half}
use Rattle.walking.specs.Enters.{drop_words, drop-topped, drop-holds, left-kept, enter-plain, enter-split, enter-drop, enter-drop-split}
use Rattle.root_entry.specs.RootEntry.{drops_root, entered_node, dropped_words, root_in_way, splits_root, has_two, whole_at, enter_whole, halves_at, enter_halves, root_waits, root_refused, enter_full, enter_free, enter_step_of}
use Rattle.root_entry.specs.Reads.{way-free, way-none, way-some, two-free, one_free, fits_count, root_is, root-fits, root-latch, root-count, drops-is, split_words, split-half}

-- ---- small laws

not-cond : (a b : Bool) → cond a false b ≡ not a && b
not-cond true b = refl
not-cond false b = refl

and_right : (a b : Bool) → a && b ≡ true → b ≡ true
and_right true b e = e
and_right false b e = absurd (true≢false e refl)

one_up : (p : ℕ) → p + 1 ≡ latch_word p
one_up p = omega arith

-- Entered whole, and in halves, with what is read of the words.
whole-as : (s : List ℕ) (m p : ℕ) (x : Session) (i level : ℕ) → header_word s root_place ≡ i → header_word s height_place ≡ level → enter_whole s m p x ≡ whole_at s m x i level (latch_word p)
unfolding enter_whole
whole-as s m p x i level a b = rw (a, b, one_up p) refl

halves-as : (s : List ℕ) (m p : ℕ) (x : Session) (s' : List ℕ) (i level : ℕ) → split_root s m x.target (latch_word p) ≡ s' → split_root_half s m x.target ≡ i → header_word s height_place ≡ level
    → enter_halves s m p x ≡ halves_at s' x i level
unfolding enter_halves
halves-as s m p x s' i level a b c = rw (one_up p, a, b, c) refl

-- At least two records; at least one.
pub two-of : (f : List ℕ) → leb 2 (length f) ≡ true → (i : ℕ) × (j : ℕ) × (l : List ℕ) × (f ≡ i ∷ j ∷ l)
two-of [] e = absurd (true≢false e refl)
two-of (i ∷ []) e = absurd (true≢false e refl)
two-of (i ∷ j ∷ l) e = (i, j, l, refl)

pub one_of : (f : List ℕ) → leb 1 (length f) ≡ true → (i : ℕ) × (l : List ℕ) × (f ≡ i ∷ l)
one_of [] e = absurd (true≢false e refl)
one_of (i ∷ l) e = (i, l, refl)

module _ (s : List ℕ) (t : List Session) (p : ℕ) (l : p ≤ width) (st : (session_at t p).stage ≡ 2) where
  abbrev x : Session
  x = session_at t p

  abbrev m : ℕ
  m = M-of s

  abbrev r : Request
  r = request_in x

  abbrev k : ℕ
  k = x.target

  abbrev Steps : Stepped → Outcome → Type 0
  Steps z o = Moves s t p z.words z.session (said z.answer) o

  in_hand : ¬ (x.stage ≡ 0)
  in_hand e = omega (arith, e, st)

  -- ---- the guard

  module _ (L : Lay) (H : Holds s t L) (A : S.Sound (means L t)) where
    abbrev σ : State
    σ = means L t

    stands : Stands s t
    stands = record { lay = L; holds = H; sound = A }

    abbrev Hz : Stepped
    Hz = enter_halves (dropped_words s m) m p x

    abbrev Wz : Stepped
    Wz = enter_whole (dropped_words s m) m p x

    abbrev refusal : Outcome
    refusal = answer (refused 11 0) (ended p r σ)

    refuses : Steps (root_refused s m x) refusal
    unfolding root_refused
    refuses = refused-moves s t L H A p l in_hand 11 0

    chosen : (b f : Bool) (need : ℕ) (oh ow : State) → f ≡ leb need σ.free → (b ≡ true → f ≡ true → Steps Hz (goes_on p r (at k) oh)) → (b ≡ false → Steps Wz (goes_on p r (at k) ow))
        → Steps (cond b (cond f Hz (root_refused s m x)) Wz) (cond (leb (cond b need 0) σ.free) (goes_on p r (at k) (cond b oh ow)) refusal)
    chosen true true need oh ow e hs ws = subst (λ c. Steps Hz (cond c (goes_on p r (at k) oh) refusal)) e (hs refl refl)
    chosen true false need oh ow e hs ws = subst (λ c. Steps (root_refused s m x) (cond c (goes_on p r (at k) oh) refusal)) e refuses
    chosen false f need oh ow e hs ws = subst (λ c. Steps Wz (cond c (goes_on p r (at k) ow) refusal)) (sym (leb_yes 0 σ.free (omega arith))) (ws refl)

    free_is : (b f : Bool) → splits_root s m p ≡ b → has_two s m ≡ f → enter_free s m p x ≡ cond b (cond f Hz (root_refused s m x)) Wz
    unfolding enter_free enter_full
    free_is b f eb ef = ap₂ (λ c d. cond c (cond d Hz (root_refused s m x)) Wz) eb ef

    waiting : (q need : ℕ) (o : Outcome) (bs cs : List ℕ) → bs ≡ (q - 1) ∷ cs → Steps (root_waits s x q) (guarded bs need p r σ o)
    unfolding root_waits guarded stands
    waiting q need o bs cs e = subst (λ l. Steps (root_waits s x q) (guarded l need p r σ o)) (sym e) (wait-moves s t stands p (q - 1) (q - 1) cs refl)

    -- From what is read of the words and the two effects.
    guard : (v w : ℕ) (b f : Bool) (need : ℕ) (oh ow : State) → root_in_way s m p ≡ first_in_way p v w → splits_root s m p ≡ b → has_two s m ≡ f → f ≡ leb need σ.free
        → (Free p v → Free p w → b ≡ true → f ≡ true → Steps Hz (goes_on p r (at k) oh)) → (Free p v → Free p w → b ≡ false → Steps Wz (goes_on p r (at k) ow))
        → Steps (enter_step_of s m p x) (guarded (latch_blockers p (v ∷ w ∷ [])) (cond b need 0) p r σ (goes_on p r (at k) (cond b oh ow)))
    unfolding enter_step_of guarded
    guard v w b f need oh ow ew eb ef en hs ws =
        let o = goes_on p r (at k) (cond b oh ow) in
        let G = guarded (latch_blockers p (v ∷ w ∷ [])) (cond b need 0) p r σ o in
        let q = first_in_way p v w in
        subst (λ i. Steps (cond (eqb i 0) (enter_free s m p x) (root_waits s x i)) G) (sym ew) (go (eqb q 0) refl)
      where
        go : (c : Bool) → eqb (first_in_way p v w) 0 ≡ c
            → Steps (cond c (enter_free s m p x) (root_waits s x (first_in_way p v w))) (guarded (latch_blockers p (v ∷ w ∷ [])) (cond b need 0) p r σ (goes_on p r (at k) (cond b oh ow)))
        go true e =
            let z = eqb_is (first_in_way p v w) 0 e in
            let fr = way-free p v w z in
            subst (λ bs. Steps (enter_free s m p x) (guarded bs (cond b need 0) p r σ (goes_on p r (at k) (cond b oh ow)))) (sym (way-none p v w z))
            (subst (λ y. Steps y (cond (leb (cond b need 0) σ.free) (goes_on p r (at k) (cond b oh ow)) refusal)) (sym (free_is b f eb ef))
            (chosen b f need oh ow en (hs fr.0 fr.1) (ws fr.0 fr.1)))
        go false e =
            let h = way-some p v w (eqb-not (first_in_way p v w) 0 e) in
            waiting (first_in_way p v w) (cond b need 0) (goes_on p r (at k) (cond b oh ow)) (latch_blockers p (v ∷ w ∷ [])) h.0 h.1

  -- ---- the root stays

  module _ (L : Lay) (H : Holds s t L) (A : S.Sound (means L t)) (e : lone L.height (erase (suc L.height) L.tree) ≡ false) where
    abbrev Z : Sizes L
    Z = sizes-of L t A

    abbrev full : Bool
    full = fills p L.height (erase (suc L.height) L.tree)

    kept : drops_root s m ≡ false
    kept = drops-is s t L H ∙ e

    pub kept-words : dropped_words s m ≡ s
    unfolding dropped_words
    kept-words = ap (λ b. cond b (drop_root s m) s) kept

    pub kept-node : entered_node s m ≡ header_word s root_place
    unfolding entered_node
    kept-node = ap (λ b. cond b (son_at s m (header_word s root_place) 0) (header_word s root_place)) kept

    kept-way : root_in_way s m p ≡ first_in_way p L.tree.latch.word L.tree.latch.word
    unfolding root_in_way
    kept-way = ap₂ (first_in_way p) (root-latch s t L H) (ap (λ i. (node_at s m i).latch) kept-node ∙ root-latch s t L H)

    kept-splits : splits_root s m p ≡ full
    unfolding splits_root erase
    kept-splits =
        ap (λ n. cond (eqb p 0) false (eqb n 8)) (ap (λ i. (node_at s m i).count) kept-node ∙ root-count s t L H ∙ sym (length-map_e (erase L.height) L.tree.sons))
        ∙ not-cond (eqb p 0) (eqb (length (map_e (erase L.height) L.tree.sons)) 8)

    pub kept-two : has_two s m ≡ leb 2 (length L.free)
    unfolding has_two
    kept-two = ap (λ b. cond b (has_free s m 1) (has_free s m 2)) kept ∙ two-free s m L.free H.fits.free

    kept_whole : Free p L.tree.latch.word → Steps (enter_whole (dropped_words s m) m p x) (goes_on p r (at k) (whole_root p (means L t)))
    unfolding whole_at goes_on
    kept_whole fr =
        subst (λ z. Steps z (goes_on p r (at k) (whole_root p (means L t))))
        (sym (ap (λ z. enter_whole z m p x) kept-words ∙ whole-as s m p x L.tree.latch.num (suc L.height) (root_is s t L H) H.fits.height))
        (record { becomes = enter-plain s t p l st L H Z fr e; tells = refl })

    full-eight : full ≡ true → length L.tree.sons ≡ 8
    unfolding erase
    full-eight q = sym (length-map_e (erase L.height) L.tree.sons) ∙ eqb_is (length (map_e (erase L.height) L.tree.sons)) 8 (and_right (not (eqb p 0)) (eqb (length (map_e (erase L.height) L.tree.sons)) 8) q)

    kept-halves : Free p L.tree.latch.word → full ≡ true → leb 2 (length L.free) ≡ true
        → Steps (enter_halves (dropped_words s m) m p x) (goes_on p r (at k) (halved_root p k (means L t)))
    unfolding halves_at goes_on
    kept-halves fr q n =
        let T = two-of L.free n in
        let f₁ = T.0 in
        let f₂ = T.1 in
        let f' = T.2 in
        let eight = full-eight q in
        subst (λ z. Steps z (goes_on p r (at k) (halved_root p k (means L t))))
        (sym
        (ap (λ z. enter_halves z m p x) kept-words
        ∙ halves-as s m p x (root_words s t L H Z (latch_word p) k f₁ f₂ f' T.3 eight) (root_half s t L H Z (latch_word p) k f₁ f₂ f' T.3 eight) (suc L.height)
        (split_words s t L H Z f₁ f₂ f' T.3 eight (latch_word p) k) (split-half s t L H Z f₁ f₂ f' T.3 eight (latch_word p) k) H.fits.height))
        (record { becomes = enter-split s t p l st L H Z fr f₁ f₂ f' T.3 eight e; tells = refl })

    kept-machine : enter_step p r k (means L t)
        ≡ guarded (latch_blockers p (L.tree.latch.word ∷ L.tree.latch.word ∷ [])) (cond full 2 0) p r (means L t)
        (goes_on p r (at k) (cond full (halved_root p k (means L t)) (whole_root p (means L t))))
    unfolding enter_step means erase
    kept-machine =
        let F : Root → ℕ → Outcome = λ R g. guarded (latch_blockers p (L.tree.latch.word ∷ R.node.latch ∷ [])) (cond (fills p R.height R.node) (2 - g) 0) p r (means L t)
        (goes_on p r (at k) (cond (fills p R.height R.node) (halved_root p k (means L t)) (whole_root p (means L t)))) in
        ap₂ F (left-kept L.height (erase (suc L.height) L.tree) e) (ap (λ b. cond b 1 0) e)

    pub enter-kept : Steps (enter_step_of s m p x) (enter_step p r k (means L t))
    enter-kept =
        let w = L.tree.latch.word in
        let free : leb 2 (length L.free) ≡ leb 2 (means L t).free = unfold means in refl in
        subst (Steps (enter_step_of s m p x)) (sym kept-machine)
        (guard L H A w w full (leb 2 (length L.free)) 2 (halved_root p k (means L t)) (whole_root p (means L t)) kept-way kept-splits kept-two free
        (λ fr _ a b. kept-halves fr a b) (λ fr _ _. kept_whole fr))

  -- ---- the root is dropped

  module _ (L₀ : Lay) (h : ℕ) (v : Mark) (a : Numbered (suc h)) (b : ℕ) (f : List ℕ) (H : Holds s t (with_tree L₀ (suc h) (nd v ((a, b) ∷ [])) f))
      (A : S.Sound (means (with_tree L₀ (suc h) (nd v ((a, b) ∷ [])) f) t)) where
    abbrev Lw : Lay
    Lw = with_tree L₀ (suc h) (nd v ((a, b) ∷ [])) f

    abbrev L₁ : Lay
    L₁ = with_tree L₀ h a (v.num ∷ f)

    abbrev Zw : Sizes Lw
    Zw = sizes-of Lw t A

    abbrev Z₁ : Sizes L₁
    Z₁ = record { some = Zw.some; entries = Zw.entries; least = Zw.least; most = Zw.most }

    abbrev s₁ : List ℕ
    s₁ = drop_words s t L₀ h v a b f H Zw

    abbrev full₁ : Bool
    full₁ = fills p h (erase (suc h) a)

    dropped : drops_root s m ≡ true
    unfolding erase
    dropped = drops-is s t Lw H

    son_is : son_at s m v.num 0 ≡ a.latch.num
    unfolding num_of
    son_is =
        let F = root-fits s t Lw H in
        let ok : Usable (node_at s m v.num) = fits-usable s m top v ((a.latch.num, b) ∷ []) F (omega arith) in
        son-here ok top [] a.latch.num b [] F.sons

    son-fits : NodeFits s m b a.latch (map_e (num_of h) a.sons)
    unfolding TreeFits
    son-fits = H.fits.tree.1.0.0

    son-latch : (node_at s m a.latch.num).latch ≡ a.latch.word
    son-latch = node-latch s m a.latch.num ∙ son-fits.latch

    son-count : (node_at s m a.latch.num).count ≡ length a.sons
    son-count = fits_count s m b a.latch (map_e (num_of h) a.sons) son-fits ∙ length-map_e (num_of h) a.sons

    pub dropped-node : entered_node s m ≡ a.latch.num
    unfolding entered_node
    dropped-node =
        ap (λ c. cond c (son_at s m (header_word s root_place) 0) (header_word s root_place)) dropped ∙ ap (λ i. son_at s m i 0) (root_is s t Lw H) ∙ son_is

    pub dropped-words : dropped_words s m ≡ s₁
    unfolding dropped_words drop_root
    dropped-words =
        let n : header_word s height_place - 1 ≡ suc h = omega (arith, H.fits.height) in
        ap (λ c. cond c (drop_root s m) s) dropped ∙ rw (root_is s t Lw H, son_is, n) refl

    same-m : M-of s₁ ≡ m
    same-m = (drop-topped s t L₀ h v a b f H Zw).written.entries

    pub dropped-way : root_in_way s m p ≡ first_in_way p v.word a.latch.word
    unfolding root_in_way
    dropped-way = ap₂ (first_in_way p) (root-latch s t Lw H) (ap (λ i. (node_at s m i).latch) dropped-node ∙ son-latch)

    dropped-splits : splits_root s m p ≡ full₁
    unfolding splits_root erase
    dropped-splits =
        ap (λ n. cond (eqb p 0) false (eqb n 8)) (ap (λ i. (node_at s m i).count) dropped-node ∙ son-count ∙ sym (length-map_e (erase h) a.sons))
        ∙ not-cond (eqb p 0) (eqb (length (map_e (erase h) a.sons)) 8)

    pub dropped-two : has_two s m ≡ leb 1 (length f)
    unfolding has_two
    dropped-two = ap (λ c. cond c (has_free s m 1) (has_free s m 2)) dropped ∙ one_free s m f H.fits.free

    module _ (fr : Free p v.word) where
      abbrev pub H₁ : Holds s₁ t L₁
      H₁ = drop-holds s t L₀ h v a b f H Zw p l st fr

      module _ (fa : Free p a.latch.word) where
        dropped-whole : Steps (enter_whole (dropped_words s m) m p x) (goes_on p r (at k) (whole_root p (means Lw t)))
        unfolding whole_at goes_on
        dropped-whole =
            let D = drop-topped s t L₀ h v a b f H Zw in
            subst (λ z. Steps z (goes_on p r (at k) (whole_root p (means Lw t))))
            (sym
            (ap (λ z. enter_whole z m p x) dropped-words
            ∙ ap (λ n. enter_whole s₁ n p x) (sym same-m)
            ∙ whole-as s₁ (M-of s₁) p x a.latch.num (suc h) D.root D.height))
            (record { becomes = enter-drop s t p l st L₀ h v a b f H Zw fr fa; tells = refl })

        full-eight₁ : full₁ ≡ true → length a.sons ≡ 8
        unfolding erase
        full-eight₁ q = sym (length-map_e (erase h) a.sons) ∙ eqb_is (length (map_e (erase h) a.sons)) 8 (and_right (not (eqb p 0)) (eqb (length (map_e (erase h) a.sons)) 8) q)

        dropped-halves : full₁ ≡ true → leb 1 (length f) ≡ true → Steps (enter_halves (dropped_words s m) m p x) (goes_on p r (at k) (halved_root p k (means Lw t)))
        unfolding halves_at goes_on
        dropped-halves q n =
            let D = drop-topped s t L₀ h v a b f H Zw in
            let T = one_of f n in
            let f₂ = T.0 in
            let f' = T.1 in
            let two : L₁.free ≡ v.num ∷ f₂ ∷ f' = ap (λ j. v.num ∷ j) T.2 in
            let eight = full-eight₁ q in
            subst (λ z. Steps z (goes_on p r (at k) (halved_root p k (means Lw t))))
            (sym
            (ap (λ z. enter_halves z m p x) dropped-words
            ∙ ap (λ j. enter_halves s₁ j p x) (sym same-m)
            ∙ halves-as s₁ (M-of s₁) p x (root_words s₁ t L₁ H₁ Z₁ (latch_word p) k v.num f₂ f' two eight) (root_half s₁ t L₁ H₁ Z₁ (latch_word p) k v.num f₂ f' two eight) (suc h)
            (split_words s₁ t L₁ H₁ Z₁ v.num f₂ f' two eight (latch_word p) k) (split-half s₁ t L₁ H₁ Z₁ v.num f₂ f' two eight (latch_word p) k) D.height))
            (record { becomes = enter-drop-split s t p l st L₀ h v a b f H Zw fr fa f₂ f' T.2 eight; tells = refl })

    dropped-machine : enter_step p r k (means Lw t)
        ≡ guarded (latch_blockers p (v.word ∷ a.latch.word ∷ [])) (cond full₁ 1 0) p r (means Lw t)
        (goes_on p r (at k) (cond full₁ (halved_root p k (means Lw t)) (whole_root p (means Lw t))))
    unfolding enter_step means erase
    dropped-machine = refl

    pub enter-dropped : Steps (enter_step_of s m p x) (enter_step p r k (means Lw t))
    enter-dropped =
        let free : leb 1 (length f) ≡ leb 1 (means Lw t).free = unfold means in refl in
        subst (Steps (enter_step_of s m p x)) (sym dropped-machine)
        (guard Lw H A v.word a.latch.word full₁ (leb 1 (length f)) 1 (halved_root p k (means Lw t)) (whole_root p (means Lw t)) dropped-way dropped-splits dropped-two free
        (λ fr fa q n. dropped-halves fr fa q n) (λ fr fa _. dropped-whole fr fa))

  -- ---- either way

  Row : Lay → Type 0
  Row L = Holds s t L → S.Sound (means L t) → Steps (enter_step_of s m p x) (enter_step p r k (means L t))

  by-sons : (L₀ : Lay) (h : ℕ) (v : Mark) (es : List (Numbered (suc h) × ℕ)) (f : List ℕ) → Row (with_tree L₀ (suc h) (nd v es) f)
  unfolding Row erase
  by-sons L₀ h v [] f H A = enter-kept (with_tree L₀ (suc h) (nd v []) f) H A refl
  by-sons L₀ h v (q ∷ []) f H A = enter-dropped L₀ h v q.0 q.1 f H A
  by-sons L₀ h v (q ∷ q' ∷ es) f H A =
      enter-kept (with_tree L₀ (suc h) (nd v (q ∷ q' ∷ es)) f) H A (eqb_no (length (map_e (erase (suc h)) (q ∷ q' ∷ es))) 1 (λ e. omega (arith, e)))

  by-tree : (L₀ : Lay) (h : ℕ) (u : Numbered (suc h)) (f : List ℕ) → Row (with_tree L₀ h u f)
  unfolding Row
  by-tree L₀ zero u f H A = enter-kept (with_tree L₀ zero u f) H A refl
  by-tree L₀ (suc h) u f H A = by-sons L₀ h u.latch u.sons f H A

  -- The row.
  pub enter-moves : (A : Stands s t) → Steps (enter_step_of s m p x) (enter_step p r k (means A.lay t))
  unfolding Row
  enter-moves A = let L = A.lay in by-tree L L.height L.tree L.free A.holds A.sound

  stage_is : (request_in x).stage ≡ enter k
  unfolding request_in
  stage_is = rw (ne_eqb x.stage 1 (λ e. omega (arith, e, st)), eq-eqb x.stage 2 st) refl

  -- The same, as the step that is next.
  pub enter-next : (A : Stands s t) (n : ℕ) → Steps (enter_step_of s m p x) (next_step n p r (means A.lay t) r.stage)
  unfolding next_step
  enter-next A n = subst (λ g. Steps (enter_step_of s m p x) (next_step n p r (means A.lay t) g)) (sym stage_is) (enter-moves A)
