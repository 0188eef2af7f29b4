-- Demand 2, last sentence, and more: no step of a descent, the housekeeper's or a session's, changes an entry, a membership, or a holder of any key.
use Rattle.std.specs.Prelude.{◌≡◌, refl, Bool, true, false, cond, not, ◌&&◌, List, [], ◌∷◌, map, ◌↔◌, suc, ℕ, eqb}
use Rattle.std.proofs.Common.{sym, ◌∙◌, subst, ap}
use Rattle.std.proofs.lemmas.Bool.{false≢true}
use Rattle.serial.specs.Model.{Item}
use Rattle.serial.specs.Model as R
use Rattle.serial.specs.Locks.{Kind, Mode, weak, strong}
use Rattle.serial.specs.Locks as L
use Rattle.serial.specs.LockMachine.{Unseen}
use Rattle.machine.specs.Logic.{eqb_is, eqb-not}
use Rattle.machine.specs.Holders.{holds, elem, latch_word}
use Rattle.machine.specs.Tree.{pick}
use Rattle.machine.specs.State.{Desc, Tree, Request, State, top, no_desc, same, session_of, stored, gap_below, on_tree, Stage, start, enter, change, take, at}
use Rattle.machine.specs.Descent.{on_latch, taken_out, unlatched}
use Rattle.machine.specs.Steps.{unlatch, on_lowest, is_empty, removable, enter_step}
use Rattle.machine.specs.Gaps.{locators, updaters, dropped-locators, dropped-updaters, dropped, Tidy}
use Rattle.machine.specs.View.{plain, seen, seen_under, group_in, locate_word, update_word, log_entry, items, holders, view, Same, entry-same, entry-holders}
use Rattle.machine.specs.Keeps.{under, leaves_kept, under-on-latch, under-unlatched}
use Rattle.machine.specs.Descents.{enter-same}
use Rattle.machine.specs.Order.{Ord, Found, lv}
use Rattle.machine.specs.Groups.{words, group_empty, dropped-words, tidy-words, rising-words, words-plain, under-plain, ord-rises, group-map}
use Rattle.machine.specs.Lowest.{Placed, taken_at}

-- Entries, memberships, holders of every key, unfinished sessions and undo records are the same.
pub record Like (s t : State) : Type 0 where
  pub entries_same : t.entries ≡ s.entries
  pub locate_same : (k : ℕ) → locate_word k (seen t) ≡ locate_word k (seen s)
  pub update_same : (k : ℕ) → update_word k (seen t) ≡ update_word k (seen s)
  pub group_same : (k : ℕ) → group_in k (seen t) ≡ group_in k (seen s)
  pub begun_same : (p : ℕ) → (session_of p t).begun ≡ (session_of p s).begun
  pub undos_same : (p : ℕ) → (session_of p t).undos ≡ (session_of p s).undos

pub same-like : {s t : State} → Same s t → Like s t
same-like h = record {
  entries_same = h.entries_same;
  locate_same = λ k. ap (locate_word k) h.seen_same;
  update_same = λ k. ap (update_word k) h.seen_same;
  group_same = λ k. ap (group_in k) h.seen_same;
  begun_same = h.begun_same;
  undos_same = h.undos_same;
}

pub like-trans : {s t u : State} → Like s t → Like t u → Like s u
like-trans a b = record {
  entries_same = b.entries_same ∙ a.entries_same;
  locate_same = λ k. b.locate_same k ∙ a.locate_same k;
  update_same = λ k. b.update_same k ∙ a.update_same k;
  group_same = λ k. b.group_same k ∙ a.group_same k;
  begun_same = λ p. b.begun_same p ∙ a.begun_same p;
  undos_same = λ p. b.undos_same p ∙ a.undos_same p;
}

like-holders : (s t : State) → Like s t → (k : Kind) (m : Mode) (p z : ℕ) → holders t k m p z ≡ holders s k m p z
like-holders s t h L.entry m p e = entry-holders s t h.entries_same m p e
like-holders s t h L.group weak p k = ap (λ w. holds w p) (h.locate_same k)
like-holders s t h L.group strong p k = ap (λ w. holds w p) (h.update_same k)

like-items : (s t : State) → Like s t → (i : Item) → items t i ≡ items s i
like-items s t h (R.value e) = ap (λ x. x.value) (entry-same s t h.entries_same e)
like-items s t h (R.cell k e) = ap (λ l. cond (elem e l) 1 0) (h.group_same k)

-- The lock machine sees nothing.
pub like-unseen : (s t : State) → Like s t → Unseen (view s) (view t)
like-unseen s t h = record {
  stays = λ p. record { holds_kept = λ k m z. like-holders s t h k m p z; log_kept = ap (map log_entry) (h.undos_same p) };
  begun_same = h.begun_same;
  db_kept = like-items s t h;
}

-- ---- lists of descriptors

pub listed-group : (x upto : ℕ) (n : Desc) (l m : List Desc) → n.key ≡ x → n.members ≡ [] → Placed 0 x upto n l m → (j : ℕ) → group_in j m ≡ group_in j l
listed-group x upto n l m k e P j =
    ap (group_in j) P.is_with ∙ group_empty x 0 upto n k e P.C P.D P.low P.high j ∙ sym (ap (group_in j) P.is_without)

abbrev pub lvs : State → List Desc
lvs s = lv (suc s.root.height) s.root.node

-- A change of nodes alone.
pub tree-leaves : (f : (h : ℕ) → Tree h → Tree h) (s : State) → ((h : ℕ) (t : Tree h) → under (λ d. d ∷ []) h (f h t) ≡ under (λ d. d ∷ []) h t) → lvs (on_tree f s) ≡ lvs s
unfolding on_tree
tree-leaves f s e =
    let h = suc s.root.height in
    let t = s.root.node in
    leaves_kept h t h (f h t) (e h t)

pub unlatch-leaves : (p : ℕ) (g : Stage) (s : State) → lvs (unlatch p g s) ≡ lvs s
unfolding unlatch
unlatch-leaves p start s = refl
unlatch-leaves p (enter x) s = refl
unlatch-leaves p (at x) s = tree-leaves (on_latch (latch_word p) x unlatched) s (under-on-latch (λ d. d ∷ []) (latch_word p) x unlatched (under-unlatched (λ d. d ∷ [])))
unlatch-leaves p change s = refl
unlatch-leaves p (take x) s = refl

pub seen_plain : (s : State) → seen s ≡ map plain (lvs s)
unfolding seen_under
seen_plain s = under-plain (suc s.root.height) s.root.node

pub seen-words : (s : State) → words (seen s) ≡ words (lvs s)
seen-words s = ap words (seen_plain s) ∙ words-plain (lvs s)

pub seen-group : (k : ℕ) (s : State) → group_in k (seen s) ≡ group_in k (lvs s)
seen-group k s = ap (group_in k) (seen_plain s) ∙ group-map plain (λ d. refl) (λ d. refl) k (lvs s)

-- The state's root has its keys in order.
unfoldable pub Ordered : State → Type 0
Ordered s = Ord (suc s.root.height) 0 top s.root.node

abbrev pub StoodAt : ℕ → ℕ → State → (k : ℕ) → Tree (suc k) → Type 0
StoodAt p x s k u = Found (latch_word p) x (suc s.root.height) s.root.node k u 0 (suc top)

-- ---- removing

-- What tidy's rule says.
pub record Goes (g : ℕ) (d : Desc) : Type 0 where
  pub not_zero : ¬ (d.key ≡ 0)
  pub not_pinned : d.pins ≡ 0
  pub no_members : d.members ≡ []
  pub no_update : d.update ≡ 0
  pub same_locate : d.locate ≡ g
  pub same_gap : d.gap ≡ g

-- Tidy's test is this, both ways.
pub removable-is : (g : ℕ) (d : Desc) → (removable g d ≡ true) ↔ Goes g d
unfolding removable
removable-is g d = go (eqb d.key 0) refl (eqb d.pins 0) refl d.members refl (eqb d.update 0) refl (eqb d.locate g) refl (eqb d.gap g) refl
  where
    go : (a : Bool) → eqb d.key 0 ≡ a → (b : Bool) → eqb d.pins 0 ≡ b → (c : List ℕ) → d.members ≡ c → (u : Bool) → eqb d.update 0 ≡ u → (l : Bool) → eqb d.locate g ≡ l
        → (w : Bool) → eqb d.gap g ≡ w → ((not a && b && is_empty c && u && l && w) ≡ true) ↔ Goes g d
    go true e b f c h u i l j w k = ((λ x. absurd (false≢true x)), λ G. absurd (G.not_zero (eqb_is d.key 0 e)))
    go false e false f c h u i l j w k = ((λ x. absurd (false≢true x)), λ G. absurd (eqb-not d.pins 0 f G.not_pinned))
    go false e true f (m ∷ ms) h u i l j w k = ((λ x. absurd (false≢true x)), λ G. absurd (false≢true (ap is_empty (sym h ∙ G.no_members))))
    go false e true f [] h false i l j w k = ((λ x. absurd (false≢true x)), λ G. absurd (eqb-not d.update 0 i G.no_update))
    go false e true f [] h true i false j w k = ((λ x. absurd (false≢true x)), λ G. absurd (eqb-not d.locate g j G.same_locate))
    go false e true f [] h true i true j false k = ((λ x. absurd (false≢true x)), λ G. absurd (eqb-not d.gap g k G.same_gap))
    go false e true f [] h true i true j true k = (
      (λ x. record { not_zero = eqb-not d.key 0 e; not_pinned = eqb_is d.pins 0 f; no_members = h; no_update = eqb_is d.update 0 i; same_locate = eqb_is d.locate g j; same_gap = eqb_is d.gap g k }),
      λ G. refl,
    )

pub taken-list : (x upto : ℕ) (d : Desc) (l m : List Desc) → d.key ≡ x → Placed 0 x upto d m l → words m ≡ dropped x (words l)
taken-list x upto d l m k P =
    ap words P.is_without ∙ sym (dropped-words x 0 upto d k P.C P.D P.low) ∙ ap (λ c. dropped x (words c)) (sym P.is_with)

pub goes-tidy : (x : ℕ) (d : Desc) (l m : List Desc) → d.key ≡ x → Placed 0 x (suc top) d m l → Goes (gap_below x 0 l) d → Tidy 0 x (words l)
goes-tidy x d l m k P G = subst (λ c. Tidy 0 x (words c)) (sym P.is_with)
    (tidy-words 0 x 0 (suc top) d k P.C P.D P.low G.no_update
    (G.same_locate ∙ ap (gap_below x 0) P.is_with) (G.same_gap ∙ ap (gap_below x 0) P.is_with))

pub tidy-like : (p x : ℕ) (s : State) (u : Tree 1) → Ordered s → StoodAt p x s 0 u → (pick x no_desc same u.sons).key ≡ x
    → Goes (gap_below x 0 (stored s)) (pick x no_desc same u.sons) → Like s (on_tree (on_latch (latch_word p) x (on_lowest (taken_out x))) s)
unfolding on_tree session_of stored locate_word update_word Ordered
tidy-like p x s u o F k G =
    let d = pick x no_desc same u.sons in
    let t : State = on_tree (on_latch (latch_word p) x (on_lowest (taken_out x))) s in
    let P = taken_at (latch_word p) x (suc s.root.height) s.root.node u 0 (suc top) F k in
    let e : words (seen t) ≡ dropped x (words (lvs s)) = seen-words t ∙ taken-list x (suc top) d (lvs s) (lvs t) k P in
    let r = rising-words 0 (suc top) (lvs s) (ord-rises (suc s.root.height) 0 top s.root.node o) in
    let w = goes-tidy x d (lvs s) (lvs t) k P G in
    record {
      entries_same = refl;
      locate_same = λ j. ap (λ l. locators 0 l j) e ∙ dropped-locators 0 x (words (lvs s)) r w j ∙ sym (ap (λ l. locators 0 l j) (seen-words s));
      update_same = λ j. ap (λ l. updaters l j) e ∙ dropped-updaters 0 x (words (lvs s)) r w j ∙ sym (ap (λ l. updaters l j) (seen-words s));
      group_same = λ j. seen-group j t ∙ sym (listed-group x (suc top) d (lvs t) (lvs s) k G.no_members P j) ∙ sym (seen-group j s);
      begun_same = λ q. refl;
      undos_same = λ q. refl;
    }

-- ---- the steps

pub enter-step-like : (p : ℕ) (r : Request) (x : ℕ) (s : State) → Like s (enter_step p r x s).next
enter-step-like p r x s = same-like (enter-same p r x s)
