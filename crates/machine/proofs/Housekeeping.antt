-- Theorems that rest on theorems of specs/: the rest of specs/Housekeeping.antt.
use Rattle.std.specs.Prelude.{◌≡◌, refl, Bool, true, false, cond, List, [], ◌∷◌, ◌++◌, zero, suc, ◌+◌, ◌-◌, ◌≤◌, ℕ, eqb}
use Rattle.std.proofs.Common.{sym, ◌∙◌, ap, arith}
use Rattle.machine.specs.Logic.{eqb_is, eqb-not}
use Rattle.machine.specs.Holders.{latch_word}
use Rattle.machine.specs.Tree.{pick}
use Rattle.machine.specs.State.{Desc, Tree, Request, State, top, no_desc, same, or_none, session_of, stored, gap_below, desc_of, with_free, on_tree, more, at}
use Rattle.machine.specs.Descent.{on_latch, put_in, taken_out}
use Rattle.machine.specs.Steps.{answer, unlatch, goes_on, finished, arrived, on_lowest, pin-step, make-step, removable, tidy-step, lowest_step, stand_step, at_step, son-at, made}
use Rattle.machine.specs.Gaps.{locators, updaters, made-locators, made-updaters}
use Rattle.machine.specs.Gaps as G
use Rattle.machine.specs.View.{seen, locate_word, update_word, same_refl, same-trans, free_same, unlatch-same, ended_same}
use Rattle.machine.specs.Descents.{guard-cases, goes_same, finished-same, level-same, pin-step-same}
use Rattle.machine.specs.Order.{found-cases}
use Rattle.machine.specs.Groups.{words, made-words}
use Rattle.machine.specs.Lowest.{Placed, made_at, same-leaf}
use Rattle.machine.specs.Housekeeping.{Like, same-like, like-trans, listed-group, lvs, seen-words, seen-group, Ordered, StoodAt, Goes, removable-is, tidy-like}

-- ---- lists of descriptors

pub made_list : (x upto : ℕ) (l m : List Desc) → Placed 0 x upto (made x (gap_below x 0 l)) l m → words m ≡ G.made 0 x (words l)
made_list x upto l m P =
    ap words P.is_with ∙ ap (λ c. words (P.C ++ made x (gap_below x 0 c) ∷ P.D)) P.is_without
    ∙ sym (made-words 0 x 0 upto P.C P.D P.low P.high) ∙ ap (λ c. G.made 0 x (words c)) (sym P.is_without)

-- ---- making

pub make-like : (p x : ℕ) (s : State) (u : Tree 1) → StoodAt p x s 0 u → ((pick x no_desc same u.sons).key ≡ x → ⊥)
    → Like s (on_tree (on_latch (latch_word p) x (on_lowest (put_in (made x (gap_below x 0 (stored s)))))) s)
unfolding on_tree session_of stored locate_word update_word
make-like p x s u F ne =
    let g = gap_below x 0 (lvs s) in
    let t : State = on_tree (on_latch (latch_word p) x (on_lowest (put_in (made x g)))) s in
    let P = made_at (latch_word p) x (suc s.root.height) s.root.node u 0 (suc top) F g ne in
    let e : words (seen t) ≡ G.made 0 x (words (lvs s)) = seen-words t ∙ made_list x (suc top) (lvs s) (lvs t) P in
    record {
      entries_same = refl;
      locate_same = λ k. ap (λ l. locators 0 l k) e ∙ made-locators 0 x (words (lvs s)) k ∙ sym (ap (λ l. locators 0 l k) (seen-words s));
      update_same = λ k. ap (λ l. updaters l k) e ∙ made-updaters 0 x (words (lvs s)) k ∙ sym (ap (λ l. updaters l k) (seen-words s));
      group_same = λ k. seen-group k t ∙ listed-group x (suc top) (made x g) (lvs s) (lvs t) refl refl P k ∙ sym (seen-group k s);
      begun_same = λ q. refl;
      undos_same = λ q. refl;
    }

-- ---- removing

pub removable-goes : (g : ℕ) (d : Desc) → removable g d ≡ true → Goes g d
removable-goes g d = (removable-is g d).0

-- ---- the steps

pub make-step-like : (p : ℕ) (r : Request) (x : ℕ) (s : State) (u : Tree 1) → StoodAt p x s 0 u → ((pick x no_desc same u.sons).key ≡ x → ⊥) → Like s (make-step p r x s).next
unfolding make-step
make-step-like p r x s u F ne =
    let t = on_tree (on_latch (latch_word p) x (on_lowest (put_in (made x (gap_below x 0 (stored s)))))) s in
    let f = with_free (s.free - 1) t in
    guard-cases (λ o. Like s o.next) [] 1 p r s (goes_on p r (arrived r x) (unlatch p (at x) f))
    (λ b l. same-like (same_refl s)) (same-like (ended_same p r s))
    (like-trans (make-like p x s u F ne)
    (same-like (goes_same p r (arrived r x) t (unlatch p (at x) f) (same-trans (free_same (s.free - 1) t) (unlatch-same p (at x) f)))))

pub tidy-step-like : (p : ℕ) (r : Request) (x : ℕ) (s : State) (u : Tree 1) → Ordered s → StoodAt p x s 0 u → (pick x no_desc same u.sons).key ≡ x
    → Like s (tidy-step p r x (pick x no_desc same u.sons) s).next
unfolding tidy-step
tidy-step-like p r x s u o F k = go (removable (gap_below x 0 (stored s)) (pick x no_desc same u.sons)) refl
  where
    t : State
    t = on_tree (on_latch (latch_word p) x (on_lowest (taken_out x))) s

    go : (c : Bool) → removable (gap_below x 0 (stored s)) (pick x no_desc same u.sons) ≡ c
        → Like s (cond c (finished p r (x ∷ 1 ∷ []) (with_free (s.free + 1) t)) (finished p r (x ∷ 0 ∷ []) s)).next
    go true e = like-trans (tidy-like p x s u o F k (removable-goes (gap_below x 0 (stored s)) (pick x no_desc same u.sons) e))
        (same-like (finished-same p r (x ∷ 1 ∷ []) t (with_free (s.free + 1) t) (free_same (s.free + 1) t)))
    go false e = same-like (finished-same p r (x ∷ 0 ∷ []) s s (same_refl s))

-- A descent's step at a node. The housekeeper descends to a key that is stored.
pub stand-like : (p : ℕ) (r : Request) (x : ℕ) (s : State) (k : ℕ) (u : Tree (suc k)) → Ordered s → StoodAt p x s k u
    → (p ≡ 0 → (desc_of x s).key ≡ x) → Like s (stand_step p r x s k u).next
unfolding stand_step lowest_step desc_of
stand-like p r x s zero u o F st = go (eqb p 0) refl (eqb (pick x no_desc same u.sons).key x) refl
  where
    go : (c : Bool) → eqb p 0 ≡ c → (b : Bool) → eqb (pick x no_desc same u.sons).key x ≡ b
        → Like s (cond c (tidy-step p r x (pick x no_desc same u.sons) s) (cond b (pin-step p r x s) (make-step p r x s))).next
    go true e b q = tidy-step-like p r x s u o F
        (sym (ap (λ l. (or_none l).key) (same-leaf (latch_word p) x (suc s.root.height) s.root.node u 0 (suc top) F)) ∙ st (eqb_is p 0 e))
    go false e true q = same-like (pin-step-same p r x s)
    go false e false q = make-step-like p r x s u F (eqb-not (pick x no_desc same u.sons).key x q)
stand-like p r x s (suc h) u o F st = same-like (level-same p r x s h u.sons (son-at x h u.sons))

-- Every step of a descent to a key, the housekeeper's too: entries, memberships and holders of every key stay.
pub at-step-like : (p : ℕ) (r : Request) (x : ℕ) (s : State) → Ordered s → x ≤ top → (p ≡ 0 → (desc_of x s).key ≡ x) → Like s (at_step p r x s).next
unfolding at_step Ordered
at-step-like p r x s o le st =
    found-cases (λ z. Like s z.next) (latch_word p) x (answer more s) (stand_step p r x s) (suc s.root.height) s.root.node 0 top o (omega arith) le
    (same-like (same_refl s)) (λ k u F. stand-like p r x s k u o F st)
