-- Theorems of specs/Made: what it defines is there.
use Rattle.std.specs.Prelude.{◌≡◌, List, [], ◌∷◌, ◌++◌, set}
use Rattle.std.proofs.Math.Path.{refl, sym, ap, ap₂, subst}
use Rattle.std.proofs.Common.{◌∙◌, arith}
use Rattle.std.proofs.Math.Option.{some}
use Prim.Native.Nat.{ℕ, suc, ◌≤◌}
use Rattle.std.proofs.Math.ListN.{length}
use Rattle.words.specs.Header.{header_word, free_place}
use Rattle.groups.specs.Descriptor.{descriptor_at}
use Rattle.sessions.specs.declared.Session.{Session}
use Rattle.sessions.specs.Sessions.{session_at}
use Rattle.machine.specs.Tree.{map_e}
use Rattle.machine.specs.Holders.{width, latch_word}
use Rattle.machine.specs.State.{Tree, on_tree, stored, gap_below, with_free, with_root, set_hand, in_stage}
use Rattle.machine.specs.Descent.{on_latch, unlatched, put_in, node}
use Rattle.machine.specs.Steps.{unlatch, made, made_state, on_lowest, arrived, goes_on}
use Rattle.machine.specs.Context.{plug}
use Rattle.meaning.specs.Reading.{erase, M-of, R-of}
use Rattle.meaning.specs.Around.{fill, erase_ctx, erase-fill}
use Rattle.meaning.specs.Latched.{at_request, changes-here}
use Rattle.layout.specs.Layout.{leaves_in, Has, means}
use Rattle.layout.specs.Row.{Stands, Becomes}
use Rattle.layout.specs.Places.{Erased, means-hand}
use Rattle.arriving.specs.Arriving.{make_at, make_words, arrived_at}
use Rattle.arriving.specs.Lowest.{Lowest, lowest}
use Rattle.arriving.specs.LeafRow.{low_node}
use Rattle.arriving.specs.Site.{has-at}
use Rattle.arriving.specs.Beside.{Beside, made_leaf, stands-beside}
use Rattle.arriving.specs.Before.{Pred, pred-at}
use Rattle.arriving.specs.Lists.{snoc}
use Rattle.arriving.specs.Standing.{descends-at, session-key, session-code}
use Rattle.arriving.specs.Arrived.{arrived-undo, arrived-tenure, arrived-hand, arrived-fits}
use Rattle.arriving.specs.Making.{made_lay, leaves-made, made-has, make-is, made_holds, made-written}
use Rattle.arriving.specs.Made.{chain-some}

module _ (s : List ℕ) (t : List Session) (A : Stands s t) (p : ℕ) (nz : ¬ (p ≡ 0)) (P : Lowest A.lay t p) (Q : Pred s t A.lay (session_at t p).target)
    (B : Beside A.lay t p P (header_word s free_place) (descriptor_at s (M-of s) Q.leaf.num).gap) (f : List ℕ) (fr : A.lay.free ≡ header_word s free_place ∷ f) where
  gap_is : (descriptor_at s (M-of s) Q.leaf.num).gap ≡ gap_below (session_at t p).target 0 (stored (means A.lay t))
  gap_is = Q.gap_word ∙ sym Q.gap

  made-tree : erase (suc A.lay.height) (fill P.around (low_node P.mark.num 0 B.sons))
      ≡ plug (erase_ctx P.around) (node 0 (put_in (made (session_at t p).target (gap_below (session_at t p).target 0 (stored (means A.lay t)))) (erase 1 (lowest P.mark P.pre P.leaf P.bound P.post)).sons))
  unfolding erase
  made-tree =
      let es = P.pre ++ (P.leaf, P.bound) ∷ P.post in
      erase-fill P.around (low_node P.mark.num 0 B.sons)
      ∙ ap (λ l. plug (erase_ctx P.around) (node 0 l)) (B.erased ∙ ap (λ g. put_in (made (session_at t p).target g) (map_e (λ l. l.desc) es)) gap_is)

  abbrev machine_node : Tree (suc (means A.lay t).root.height)
  machine_node =
      let w = latch_word p in
      let x = (session_at t p).target in
      let h = suc (means A.lay t).root.height in
      on_latch w x unlatched h (on_latch w x (on_lowest (put_in (made x (gap_below x 0 (stored (means A.lay t)))))) h (means A.lay t).root.node)

  machine-tree : machine_node
      ≡ plug P.focus.around (node 0 (put_in (made (session_at t p).target (gap_below (session_at t p).target 0 (stored (means A.lay t)))) (erase 1 (lowest P.mark P.pre P.leaf P.bound P.post)).sons))
  unfolding unlatched
  machine-tree =
      let w = latch_word p in
      let x = (session_at t p).target in
      let F = P.focus in
      let h = suc (means A.lay t).root.height in
      let e = put_in (made x (gap_below x 0 (stored (means A.lay t)))) in
      let u = erase 1 (lowest P.mark P.pre P.leaf P.bound P.post) in
      ap (on_latch w x unlatched h) (F.changes (on_lowest e))
      ∙ changes-here w x unlatched F.around (node u.latch (e u.sons)) F.way F.clear F.latch

  made-means : means (made_lay s t A p nz P Q B f fr) t ≡ made_state p (session_at t p).target (means A.lay t)
  unfolding means on_tree unlatch Erased
  made-means =
      ap₂ (λ z k. with_free k (with_root (record { height = A.lay.height; node = z }) (means A.lay t)))
      (made-tree
      ∙ ap (λ k. plug k (node 0 (put_in (made (session_at t p).target (gap_below (session_at t p).target 0 (stored (means A.lay t)))) (erase 1 (lowest P.mark P.pre P.leaf P.bound P.post)).sons))) (sym P.erased)
      ∙ sym machine-tree)
      (let e : length A.lay.free ≡ suc (length f) = ap length fr in omega (arith, e))

  made-becomes : p ≤ width → (session_at t p).stage ≡ 3
      → Becomes s (make_at s (M-of s) P.mark.num (session_at t p).target Q.leaf.num) (set t p (arrived_at (session_at t p) (header_word s free_place)))
      (goes_on p (at_request (session_at t p)) (arrived (at_request (session_at t p)) (session_at t p).target) (made_state p (session_at t p).target (means A.lay t))).next
  unfolding goes_on
  made-becomes l e =
      let x = session_at t p in
      let a = header_word s free_place in
      let L = A.lay in
      let M = made_lay s t A p nz P Q B f fr in
      let W = made-written s t A p nz P Q B f fr in
      let there : Has x.target a (leaves_in M) = subst (Has x.target a) (sym (leaves-made s t A p nz P Q B f fr ∙ snoc Q.before Q.leaf (made_leaf a x.target (descriptor_at s (M-of s) Q.leaf.num).gap ∷ Q.behind)))
      (has-at x.target a (Q.before ++ Q.leaf ∷ []) (made_leaf a x.target (descriptor_at s (M-of s) Q.leaf.num).gap) Q.behind refl refl) in
      let own = arrived-fits x a M p (means L t) e (session-code L t A.holds.seats A.sound p l nz e) (descends-at L t A.holds.seats A.sound p l e) there
      (λ q. made-has s t A p nz P Q B f fr x.first x.low ((A.holds.hands p l).low (λ z. omega (arith, z, e)) q)) in
      subst (λ z. Becomes s z (set t p (arrived_at x a)) (set_hand p (some (in_stage (arrived (at_request x) x.target) (at_request x))) (made_state p x.target (means L t)))) (sym (make-is s t A p nz P Q B f fr))
      record {
        lay = M;
        holds = made_holds s t A p nz P Q B f fr (arrived_at x a) l (arrived-undo x a) own;
        means_next = means-hand M t p (arrived_at x a) (omega (arith, A.holds.seats, l)) (arrived-tenure x a) ∙ ap₂ (λ r v. set_hand p r v) (arrived-hand x a) made-means;
        long = W.long;
        entries = W.entries;
        records = W.records;
        rest = W.rest;
      }

pub make-becomes : (s : List ℕ) (t : List Session) (A : Stands s t) (p : ℕ) → p ≤ width → ¬ (p ≡ 0) → (session_at t p).stage ≡ 3 → (P : Lowest A.lay t p)
    → ¬ (P.leaf.desc.key ≡ (session_at t p).target) → ¬ (header_word s free_place ≡ 0)
    → Becomes s (make_words s (M-of s) (R-of s) (session_at t p)) (set t p (arrived_at (session_at t p) (header_word s free_place)))
    (goes_on p (at_request (session_at t p)) (arrived (at_request (session_at t p)) (session_at t p).target) (made_state p (session_at t p).target (means A.lay t))).next
unfolding make_words
make-becomes s t A p l nz e P ne free =
    let x = session_at t p in
    let L = A.lay in
    let m = M-of s in
    let Q = pred-at s t L A.holds A.sound x.target (session-key L t A.holds.seats A.sound p l nz e) in
    let B = stands-beside L t p P (header_word s free_place) (descriptor_at s m Q.leaf.num).gap ne in
    let c = chain-some s m (header_word s free_place) L.free A.holds.fits.free free in
    let o = goes_on p (at_request x) (arrived (at_request x) x.target) (made_state p x.target (means L t)) in
    subst (λ z. Becomes s z (set t p (arrived_at x (header_word s free_place))) o.next) (sym (ap₂ (λ i j. make_at s m i x.target j) (sym P.num) Q.found))
    (made-becomes s t A p nz P Q B c.0 c.1 l e)
