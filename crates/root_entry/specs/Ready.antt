-- Words that hold a layout of a sound state have what the code asks for.
use Rattle.std.specs.Prelude.{◌≡◌, true, false, ℕ, zero, suc, ◌≤◌, length}
use Rattle.std.proofs.Math.Path.{refl}
use Rattle.std.proofs.Common.{sym, ap, subst, ◌∙◌, arith}
use mathlib.Core.List.{List, [], ◌∷◌}
use Rattle.words.specs.Store.{HasRecord}
use Rattle.words.specs.Header.{header_word, root_place}
use Rattle.splits.specs.Splits.{CanSplitRoot}
use Rattle.sessions.specs.declared.Session.{Session}
use Rattle.sessions.specs.Sessions.{session_at}
use Rattle.machine.specs.Logic.{eqb_no}
use Rattle.machine.specs.Tree.{map_e}
use Rattle.machine.specs.Holders.{width}
use Rattle.machine.specs.Descent.{lone}
use Rattle.machine.specs.Sound as S
use Rattle.meaning.specs.Reading.{Mark, Numbered, erase, node_numbers, M-of}
use Rattle.meaning.specs.Numbers.{times-append}
use Rattle.meaning.specs.Around.{here}
use Rattle.layout.specs.Layout.{Lay, Holds, means}
use Rattle.layout.specs.Row.{Stands}
use Rattle.layout.specs.Keep.{with_tree}
use Rattle.layout.specs.Room.{Sizes, sizes-of}
use Rattle.finishing.specs.Finishing.{Endable}
use Rattle.finishing.proofs.Ready.{end-ready}
use Rattle.walking.specs.Holes.{ours-has}
use Rattle.walking.specs.Hands.{nd, node-times, one-self}
use Rattle.walking.specs.Levels.{nodes-law}
use Rattle.walking.specs.Enters.{drop_words, drop-topped}
use Rattle.root_entry.specs.RootEntry.{has_two, RootReady, EnterReady}
use Rattle.root_entry.specs.Low.{low-tree}
use Rattle.root_entry.specs.Reads.{way-free, root-has, can-pop, can-split}
use Rattle.root_entry.specs.Enter.{two-of, one_of, kept-words, kept-node, kept-two, dropped-node, dropped-words, dropped-way, dropped-two, H₁}

module _ (s : List ℕ) (t : List Session) (p : ℕ) (l : p ≤ width) (st : (session_at t p).stage ≡ 2) where
  abbrev x : Session
  x = session_at t p

  abbrev m : ℕ
  m = M-of s

  ends : (L : Lay) → Holds s t L → S.Sound (means L t) → Endable s m x
  ends L H A = end-ready s t L H A p l (λ e. omega (arith, e, st))

  -- ---- the root stays

  module _ (L : Lay) (H : Holds s t L) (A : S.Sound (means L t)) (e : lone L.height (erase (suc L.height) L.tree) ≡ false) where
    abbrev Z : Sizes L
    Z = sizes-of L t A

    kept-reads : RootReady s m p
    kept-reads = record {
      party = omega (arith, l);
      root = root-has s t L H Z;
      entered = subst (HasRecord s m) (sym (kept-node s t p l st L H A e)) (root-has s t L H Z);
      free = can-pop s t L H Z;
    }

    kept-split : has_two s m ≡ true → CanSplitRoot s m
    kept-split n =
        let T = two-of L.free (sym (kept-two s t p l st L H A e) ∙ n) in
        can-split s t L H Z T.0 T.1 T.2 T.3 (low-tree s t L H A)

    ready-kept : EnterReady s m p x
    ready-kept =
        let w = sym (kept-words s t p l st L H A e) in
        record {
          reads = kept-reads;
          clear = λ _. record {
            reads = kept-reads;
            whole = subst (λ z. HasRecord z m (header_word z root_place)) w (root-has s t L H Z);
            halves = λ n. subst (λ z. CanSplitRoot z m) w (kept-split n);
            ends = ends L H A;
          };
        }

  -- ---- the root is dropped

  module _ (L₀ : Lay) (h : ℕ) (v : Mark) (a : Numbered (suc h)) (b : ℕ) (f : List ℕ) (H : Holds s t (with_tree L₀ (suc h) (nd v ((a, b) ∷ [])) f))
      (A : S.Sound (means (with_tree L₀ (suc h) (nd v ((a, b) ∷ [])) f) t)) where
    abbrev Lw : Lay
    Lw = with_tree L₀ (suc h) (nd v ((a, b) ∷ [])) f

    abbrev L₁ : Lay
    L₁ = with_tree L₀ h a (v.num ∷ f)

    abbrev Zw : Sizes Lw
    Zw = sizes-of Lw t A

    abbrev Z₁ : Sizes L₁
    Z₁ = record { some = Zw.some; entries = Zw.entries; least = Zw.least; most = Zw.most }

    abbrev s₁ : List ℕ
    s₁ = drop_words s t L₀ h v a b f H Zw

    same-m : M-of s₁ ≡ m
    same-m = (drop-topped s t L₀ h v a b f H Zw).written.entries

    son-has : HasRecord s m a.latch.num
    son-has =
        let u : Numbered (suc (suc h)) = nd v ((a, b) ∷ []) in
        let i = a.latch.num in
        ours-has s t Lw H here u refl Zw i
        (omega (arith, node-times node_numbers nodes-law (suc h) u i, times-append i (node_numbers (suc h) a) [], node-times node_numbers nodes-law h a i, one-self i))

    dropped-reads : RootReady s m p
    dropped-reads = record {
      party = omega (arith, l);
      root = root-has s t Lw H Zw;
      entered = subst (HasRecord s m) (sym (dropped-node s t p l st L₀ h v a b f H A)) son-has;
      free = can-pop s t Lw H Zw;
    }

    ready-dropped : EnterReady s m p x
    ready-dropped =
        let w = sym (dropped-words s t p l st L₀ h v a b f H A) in
        record {
          reads = dropped-reads;
          clear = λ z.
              let fr = (way-free p v.word a.latch.word (sym (dropped-way s t p l st L₀ h v a b f H A) ∙ z)).0 in
              let K = H₁ s t p l st L₀ h v a b f H A fr in
              record {
                reads = dropped-reads;
                whole = subst (λ y. HasRecord y m (header_word y root_place)) w (subst (λ n. HasRecord s₁ n (header_word s₁ root_place)) same-m (root-has s₁ t L₁ K Z₁));
                halves = λ n.
                    let T = one_of f (sym (dropped-two s t p l st L₀ h v a b f H A) ∙ n) in
                    subst (λ y. CanSplitRoot y m) w
                    (subst (CanSplitRoot s₁) same-m
                    (can-split s₁ t L₁ K Z₁ v.num T.0 T.1 (ap (λ j. v.num ∷ j) T.2) (omega (arith, low-tree s t Lw H A))));
                ends = ends Lw H A;
              };
        }

  -- ---- either way

  ready-sons : (L₀ : Lay) (h : ℕ) (v : Mark) (es : List (Numbered (suc h) × ℕ)) (f : List ℕ) → Holds s t (with_tree L₀ (suc h) (nd v es) f)
      → S.Sound (means (with_tree L₀ (suc h) (nd v es) f) t) → EnterReady s m p x
  unfolding erase
  ready-sons L₀ h v [] f H A = ready-kept (with_tree L₀ (suc h) (nd v []) f) H A refl
  ready-sons L₀ h v (q ∷ []) f H A = ready-dropped L₀ h v q.0 q.1 f H A
  ready-sons L₀ h v (q ∷ q' ∷ es) f H A =
      ready-kept (with_tree L₀ (suc h) (nd v (q ∷ q' ∷ es)) f) H A (eqb_no (length (map_e (erase (suc h)) (q ∷ q' ∷ es))) 1 (λ e. omega (arith, e)))

  ready-tree : (L₀ : Lay) (h : ℕ) (u : Numbered (suc h)) (f : List ℕ) → Holds s t (with_tree L₀ h u f) → S.Sound (means (with_tree L₀ h u f) t) → EnterReady s m p x
  ready-tree L₀ zero u f H A = ready-kept (with_tree L₀ zero u f) H A refl
  ready-tree L₀ (suc h) u f H A = ready-sons L₀ h u.latch u.sons f H A

  pub enter-ready : Stands s t → EnterReady s m p x
  enter-ready A = let L = A.lay in ready-tree L L.height L.tree L.free A.holds A.sound
