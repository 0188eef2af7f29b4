-- Theorems that rest on theorems of specs/: the rest of specs/Descending.antt.
use Rattle.std.specs.Prelude.{◌≡◌, length}
use Rattle.std.proofs.Math.Path.{refl, sym, subst, ap}
use Rattle.std.proofs.Common.{◌∙◌, arith}
use Rattle.std.proofs.Math.Bool.{true, cond}
use mathlib.Core.List.{List, []}
use Rattle.std.proofs.Math.Logic.{inl}
use Rattle.std.proofs.Math.Option.{none, some}
use Prim.Native.Nat.{suc, ◌+◌, ◌-◌, ◌<◌, ℕ}
use Rattle.machine.specs.Logic.{eqb_no}
use Rattle.machine.specs.Tree.{pick}
use Rattle.machine.specs.State.{Tree, Request, State, top, no_desc, same, session_of, gap_below, with_free, on_tree, set_hand, at, stored}
use Rattle.machine.specs.Steps.{pinned, unpin, unlatch, ended, goes_on, finished, arrived, made_state, removable, tidied_state}
use Rattle.machine.specs.Gaps.{made-gaps, gaps}
use Rattle.machine.specs.View.{seen}
use Rattle.machine.specs.Sound.{gap_word, stored_in, pins_in, times, Descends, Stands, Keyed, Sound, keyed-of}
use Rattle.machine.specs.Context.{Focus}
use Rattle.machine.specs.Groups.{words}
use Rattle.machine.specs.Lowest.{Placed}
use Rattle.machine.specs.Housekeeping.{lvs, seen-words, StoodAt}
use Rattle.machine.proofs.Housekeeping.{made_list, make-like, removable-goes}
use Rattle.machine.specs.Checks.{keeper-code}
use Rattle.machine.specs.Looks.{sound-ordered, stored-most}
use Rattle.machine.specs.Calm.{Calm, none-keyed}
use Rattle.machine.specs.Descending.{still-calm, still-unlatch, still-free, still-trans, proper_key, arrive-keyed, one_more, stood, placed-stored, placed-here, placed-none, placed-other, placed-listed, new, grown, grown-stays, pruned, pruned-pins, pruned-calm, keeper-stored, keeper-pins}
use Rattle.machine.specs.Descending as Specs

-- ---- made

module _ (p x : ℕ) (s : State) (u : Tree 1) (F : StoodAt p x s 0 u) (ne : ¬ ((pick x no_desc same u.sons).key ≡ x)) where
  abbrev grown-placed : Placed 0 x (suc top) (new x s) (lvs s) (lvs (grown p x s))
  grown-placed = Specs.grown-placed p x s u F ne

  grown-gaps : (z : ℕ) → gap_word z (seen (grown p x s)) ≡ gap_word z (seen s)
  unfolding gap_word stored
  grown-gaps z =
      ap (λ l. gaps 0 l z) (seen-words (grown p x s) ∙ made_list x (suc top) (lvs s) (lvs (grown p x s)) grown-placed) ∙ made-gaps 0 x (words (lvs s)) z
      ∙ sym (ap (λ l. gaps 0 l z) (seen-words s))

  grown-calm : Keyed s → ¬ (x ≡ top) → Calm p s (grown p x s)
  unfolding on_tree
  grown-calm K w = record {
    like = make-like p x s u F ne;
    table_same = refl;
    records_same = refl;
    gap_same = grown-gaps;
    stays = λ z h. inl (grown-stays p x s u F ne z h);
    zero_stored = grown-stays p x s u F ne 0 K.zero_stored;
    top_free = placed-stored x (suc top) (new x s) (lvs s) (lvs (grown p x s)) refl grown-placed top ∙ ap (λ b. cond b true (stored_in top (lvs s))) (eqb_no x top w) ∙ K.top_free;
    listed = placed-listed x (suc top) (new x s) (lvs s) (lvs (grown p x s)) refl grown-placed (length s.entries) tt K.listed;
  }

pub make-keyed : (m : ℕ) (r : Request) (x : ℕ) (s : State) → Sound s → (session_of (suc m) s).hand ≡ some r → r.stage ≡ at x
    → (u : Tree 1) → Focus (suc m) x s 0 u → ¬ ((pick x no_desc same u.sons).key ≡ x) → Keyed (goes_on (suc m) r (arrived r x) (made_state (suc m) x s)).next
make-keyed m r x s S e q u F ne =
    let D : Descends (suc m) s r x = subst (Stands (suc m) s r) q (S.standing (suc m) r e) in
    let B : x < top = (proper_key m r s (S.checked (suc m) r e) x D).1 in
    let G = stood (suc m) x s 0 u (sound-ordered S) (omega (arith, B)) F in
    let v = grown (suc m) x s in
    let w = with_free (s.free - 1) v in
    let U = still-trans (still-free (s.free - 1) v) (still-unlatch (suc m) x w) in
    let P = grown-placed (suc m) x s u G ne in
    let n = new x s in
    let C = grown-calm (suc m) x s u G ne (keyed-of S) (λ z. omega (arith, z, B)) in
    arrive-keyed m r x s (made_state (suc m) x s) S e q (still-calm (suc m) s v (made_state (suc m) x s) C U)
    (λ k. ap (pins_in k) U.leaves_same
    ∙ one_more x (lvs s) (lvs v) (placed-here x (suc top) n (lvs s) (lvs v) refl P ∙ ap suc (sym (placed-none x (suc top) n (lvs s) (lvs v) refl P)))
    (placed-other x (suc top) n (lvs s) (lvs v) refl P) k)

-- ---- taken out

pub tidy-keyed : (r : Request) (ns : List ℕ) (x : ℕ) (s : State) → Sound s → (session_of 0 s).hand ≡ some r → r.stage ≡ at x → (u : Tree 1) → Focus 0 x s 0 u
    → (pick x no_desc same u.sons).key ≡ x → removable (gap_below x 0 (stored s)) (pick x no_desc same u.sons) ≡ true
    → Keyed (finished 0 r ns (tidied_state 0 x s)).next
unfolding finished ended unpin
tidy-keyed r ns x s S e q u F k t =
    let o = sound-ordered S in
    let c = keeper-code r.code (S.checked 0 r e).0 in
    let h = keeper-stored s r x c (subst (Stands 0 s r) q (S.standing 0 r e)) in
    let G = stood 0 x s 0 u o (stored-most s o x h) F in
    let T = removable-goes (gap_below x 0 (stored s)) (pick x no_desc same u.sons) t in
    let v = pruned 0 x s in
    let w = tidied_state 0 x s in
    let U = still-trans (still-free (s.free + 1) v) (still-unlatch 0 x w) in
    let C = still-calm 0 s v (unlatch 0 (at x) w) (pruned-calm 0 x s u o G k T refl (keyed-of S)) U in
    let nothing : pinned r r.stage ≡ [] = ap (pinned r) q ∙ keeper-pins r x c in
    let pins : (j : ℕ) → pins_in j (lvs (unlatch 0 (at x) w)) ≡ pins_in j (lvs s) = λ j. ap (pins_in j) U.leaves_same ∙ pruned-pins 0 x s u o G k T j in
    subst (λ l. Keyed (set_hand 0 none (unpin l (unlatch 0 r.stage w)))) (sym nothing) (subst (λ g. Keyed (set_hand 0 none (unlatch 0 g w))) (sym q)
    (none-keyed 0 s (unlatch 0 (at x) w) r (keyed-of S) e C (λ j. omega (arith, ap (times j) nothing, pins j))))
