-- The ways through the passes, each from the tests that lead to it.
use mathlib.Core.Path.{◌≡◌, refl, sym, ap, subst, ◌∙◌}
use mathlib.Core.List.{List}
use mathlib.Core.Bool.{Bool, true, false, cond}
use Prim.Native.Nat.{ℕ, zero, suc, ◌≤◌, ◌<◌}
use lib.Dec.{eqb, leb}
use lib.ListN.{get_or, replicate}
use borrow.Author.Tests.{eq-eqb, ne_eqb, le-leb, lt-leb}
use Rattle.words.specs.Header.{header_word, entries_place, records_place, free_place}
use Rattle.seniority.specs.Seniority.{distinct_in}
use Rattle.sessions.specs.declared.Session.{Session}
use Rattle.std.specs.Prelude.{Result, Ok, Err, is_ok}
use Rattle.std.specs.Result.{result_or}
use Rattle.marks.specs.Steps.{err-ok}
use Rattle.marks.specs.Trail.{Going, Turn, Turned, turned_as, turn, Trail, Ends, trail-as, trail-err}
use Rattle.parties.specs.Parties.{parties_ok, standing_at_nodes, has_undos, all_undos, marks_ok}
use Rattle.parties.proofs.Turns.{undos-none}
use Rattle.tree_walk.specs.declared.Walk.{Walk}
use Rattle.tree_walk.proofs.Turns.{toured-as, toured-off}
use Rattle.tree_walk.specs.TreeWalk.{Stand, going, Tour, Toured, root_tour}
use Rattle.holders.specs.Holders.{begun_mask, entries_from}
use Rattle.holdings.specs.Holdings.{all_groups}
use Rattle.holdings.proofs.SameFiles.{groups-same}
use Rattle.sound.specs.declared.Fault.{Fault}
use Rattle.sound.specs.declared.Fault.TheVariants.{Sizes, Entries, KeyZero, Tree, Requests, Latches, Undos, Groups, FreeChain, Unreached, Orders, Asked}
use Rattle.sound.specs.Faults.{entries_fault, zero_fault, tree_fault, requests_fault, latches_fault, undos_fault, groups_fault, free_fault, unreached_fault, orders_fault, asked_fault, fault_number}
use Rattle.sound.specs.Sizes.{sizes_ok}
use Rattle.sound.specs.Sound.{Checked, checked, failed, next_part, lowest_ok, free_turn, free_from, ending, finish_of, after_groups, groups_then, after_undos, undos_then, after_parties, parties_then, after_tree, fault_in, first_fault}

-- ---- what a pass answers where the walk under it does

module _ {A E : Type 0} (f : Fault) where
  pub walked : (o : Result A E) {r : Result A Fault} (x : A) → r ≡ result_or o (Err f) → r ≡ Ok x → o ≡ Ok x
  walked (Ok y) x e h = cc
  walked (Err y) x e h = absurd (err-ok (sym e ∙ h))

  pub refused : (o : Result A E) {r : Result A Fault} (g : Fault) → r ≡ result_or o (Err f) → r ≡ Err g → (y : E) × (o ≡ Err y) × (g ≡ f)
  refused (Ok y) g e h = absurd (err-ok (sym h ∙ e))
  refused (Err y) g e h = (y, refl, cc)

-- ---- the free chain

pub free-turned : (seen : List ℕ) (a i : ℕ) → free_turn seen a i ≡ turn true a
unfolding free_turn
free-turned seen a i = refl

-- The record behind, where the chain goes to it.
pub at_ahead : {whole : Trail ℕ} {next : ℕ → ℕ} {r kind : ℕ} {f : List ℕ → ℕ → ℕ → Turn ℕ} {seen : List ℕ} {a i j left : ℕ} → i ≡ j → Going ℕ whole next r kind f seen a i left
    → Going ℕ whole next r kind f seen a j left
at_ahead {whole} {next} {r} {kind} {f} {seen} {a} {i} {j} {left} e g = subst (λ z. Going ℕ whole next r kind f seen a z left) e g

module _ (s : List ℕ) (m r : ℕ) (seen : List ℕ) (left : ℕ) {first : ℕ} {w : Result ℕ ℕ} {seen' : List ℕ} (ef : first ≡ header_word s free_place) (k : Ends ℕ (free_from s m r seen first left) w seen' 0) where
  free-as : {v : Trail ℕ} → free_from s m r seen first left ≡ v → finish_of s m r seen left ≡ ending left v
  unfolding finish_of
  free-as o = rw (← ef) (ap (ending left) o)

  pub free-bad : {n : ℕ} → w ≡ Err n → failed free_fault ≡ finish_of s m r seen left
  unfolding ending
  free-bad o = sym (free-as (trail-err k o))

  module _ (n : ℕ) (o : w ≡ Ok n) where
    pub free-short : (n ≡ 0 → ⊥) → failed unreached_fault ≡ finish_of s m r seen left
    unfolding ending
    free-short z = sym (free-as (trail-as k o) ∙ simp (ne_eqb n 0 z))

    pub free-good : n ≡ 0 → record { fault = 0; free = left } ≡ finish_of s m r seen left
    unfolding ending
    free-good z = sym (free-as (trail-as k o) ∙ simp (eq-eqb n 0 z))

-- ---- the groups

module _ (s order tally f : List ℕ) (m r begun : ℕ) (t : List Session) (count : ℕ) (seen : List ℕ) (left : ℕ) where
  pub groups-many : 4097 < count → failed groups_fault ≡ groups_then s order tally f m r begun t count seen left
  unfolding groups_then
  groups-many h = simp (lt-leb count 4097 h)

  module _ (h : count ≤ 4097) {w : Result ℕ ℕ} {seen' l : List ℕ} (k : Ends _ (all_groups s order tally f m r begun t count seen (replicate 2050 0) left) w seen' l) where
    groups-as : {v : Trail (List ℕ)} → all_groups s order tally f m r begun t count seen (replicate 2050 0) left ≡ v
        → after_groups s m r v ≡ groups_then s order tally f m r begun t count seen left
    unfolding groups_then
    groups-as o = simp (le-leb count 4097 h) (ap (after_groups s m r) (sym o))

    pub groups-bad : {n : ℕ} → w ≡ Err n → failed groups_fault ≡ groups_then s order tally f m r begun t count seen left
    unfolding after_groups
    groups-bad o = groups-as (trail-err k o)

    pub groups-go : (n : ℕ) {c : Checked} → w ≡ Ok n → c ≡ finish_of s m r seen' n → c ≡ groups_then s order tally f m r begun t count seen left
    unfolding after_groups
    groups-go n o e = e ∙ groups-as (trail-as k o)

-- ---- the chains of undo records

module _ (s order tally : List ℕ) (m r begun : ℕ) (t : List Session) (count : ℕ) (seen : List ℕ) (left : ℕ) {w : Result ℕ ℕ} {seen' f : List ℕ} (k : Ends _ (all_undos s m r t seen (replicate 12291 0) left) w seen' f) where
  pub undos-bad : {n : ℕ} → w ≡ Err n → failed undos_fault ≡ undos_then s order tally m r begun t count seen left
  unfolding undos_then after_undos
  undos-bad o = ap (after_undos s order tally m r begun t count) (sym (trail-err k o))

  pub undos-go : (n : ℕ) {c : Checked} → w ≡ Ok n → c ≡ groups_then s order tally f m r begun t count seen' n → c ≡ undos_then s order tally m r begun t count seen left
  unfolding undos_then after_undos
  undos-go n o e = e ∙ ap (after_undos s order tally m r begun t count) (sym (trail-as k o))

-- where no session has one, nothing is filed: room that is all zeros reads as no room
abbrev room : ℕ → List ℕ
room n = replicate n 0

zeros : (n k : ℕ) → get_or (room n) k 0 ≡ 0
zeros zero k = refl
zeros (suc n) zero = refl
zeros (suc n) (suc k) = zeros n k

none-filed : (n i k : ℕ) → get_or (room n) k 0 ≡ get_or (room i) k 0
none-filed n i k = zeros n k ∙ sym (zeros i k)

module _ (s order tally : List ℕ) (m r begun : ℕ) (t : List Session) (count : ℕ) (seen : List ℕ) (left : ℕ) {c : Checked} where
  pub undos-without : has_undos t ≡ false → c ≡ groups_then s order tally (room 1) m r begun t count seen left → c ≡ undos_then s order tally m r begun t count seen left
  unfolding undos_then after_undos groups_then
  undos-without h e =
      e
      ∙ ap
      (λ (g : Trail (List ℕ)). cond (leb count 4097) (after_groups s m r g) (failed groups_fault))
      (sym (groups-same (room 12291) (room 1) (none-filed 12291 1) s order tally m r begun t count seen (replicate 2050 0) left))
      ∙ ap (after_undos s order tally m r begun t count) (sym (undos-none s m r t seen (room 12291) left h))

-- ---- the parties

module _ (s order : List ℕ) (m r begun : ℕ) (t : List Session) (w : Stand) (seen : List ℕ) {c : Checked} {b : Bool} {tally : List ℕ} (k : Turned (parties_ok s seen m r t (replicate 4097 0)) b tally) where
  pub parties-bad : b ≡ false → c ≡ failed requests_fault → c ≡ parties_then s order m r begun t w seen
  unfolding parties_then after_parties
  parties-bad o e = simp (turned_as k o) e

  pub parties-more : {n : ℕ} → b ≡ true → n ≡ standing_at_nodes t → (n ≡ w.latches → ⊥) → c ≡ failed latches_fault → c ≡ parties_then s order m r begun t w seen
  unfolding parties_then after_parties
  parties-more {n} o q z e = simp (turned_as k o, sym q, ne_eqb n w.latches z) e

  pub parties-go : {n : ℕ} → b ≡ true → n ≡ standing_at_nodes t → n ≡ w.latches → c ≡ undos_then s order tally m r begun t w.count seen w.left
      → c ≡ parties_then s order m r begun t w seen
  unfolding parties_then after_parties
  parties-go {n} o q z e = simp (turned_as k o, sym q, eq-eqb n w.latches z) e

-- ---- entries, key 0 and the tree

module _ (s : List ℕ) (m r : ℕ) (t : List Session) {begun : ℕ} {a : Bool} (g : begun ≡ begun_mask t) (ea : a ≡ entries_from s begun 1 m) where
  entries-as : {o : Bool} → a ≡ o → entries_from s (begun_mask t) 1 m ≡ o
  entries-as h = rw (← g) (sym ea ∙ h)

  pub fault-entries : {c : Checked} → a ≡ false → c ≡ failed entries_fault → c ≡ fault_in s m r t
  unfolding fault_in
  fault-entries h e = simp (entries-as h) e

  module _ (h : a ≡ true) {l : Bool} (el : l ≡ lowest_ok s m r) where
    pub fault-lowest : {c : Checked} → l ≡ false → c ≡ failed zero_fault → c ≡ fault_in s m r t
    unfolding fault_in
    fault-lowest o e = simp (entries-as h, sym el ∙ o) e

    module _ (o : l ≡ true) {x : Result Walk Walk} {seen order : List ℕ} (q : Toured (root_tour s m r (replicate 4097 0) (replicate 4097 0)) x seen order) where
      tree-as : {v : Tour} → root_tour s m r (replicate 4097 0) (replicate 4097 0) ≡ v → fault_in s m r t ≡ after_tree s m r begun t v
      unfolding fault_in
      tree-as e = rw (entries-as h, sym el ∙ o, g) (ap (after_tree s m r (begun_mask t) t) e)

      pub fault-tree : (w : Walk) → x ≡ Err w → failed tree_fault ≡ fault_in s m r t
      unfolding after_tree
      fault-tree w z = sym (tree-as (toured-off w q z))

      pub fault-go : (w : Walk) {c : Checked} → x ≡ Ok w → c ≡ parties_then s order m r begun t (going w) seen → c ≡ fault_in s m r t
      unfolding after_tree
      fault-go w z e = e ∙ sym (tree-as (toured-as w q z))

-- ---- the parts behind those

-- a part that is broken has a number
numbered : (f : Fault) → eqb (fault_number f) 0 ≡ false
numbered Sizes = refl
numbered Entries = refl
numbered KeyZero = refl
numbered Tree = refl
numbered Requests = refl
numbered Latches = refl
numbered Undos = refl
numbered Groups = refl
numbered FreeChain = refl
numbered Unreached = refl
numbered Orders = refl
numbered Asked = refl

pub is-none : (x : Result ℕ Fault) → is_ok x ≡ eqb (checked x).fault 0
is-none (Ok n) = refl
is-none (Err f) = sym (numbered f)

next-broken : (n : ℕ) (b : Bool) (f : Fault) → failed (fault_number f) ≡ next_part n b (failed (fault_number f))
unfolding next_part
next-broken n b f = simp (numbered f)

module _ (s : List ℕ) (t : List Session) {m r : ℕ} (em : m ≡ header_word s entries_place) (er : r ≡ header_word s records_place) (z : sizes_ok s ≡ true) where
  first-as : {c : Checked} → c ≡ fault_in s m r t → next_part asked_fault (marks_ok t) (next_part orders_fault (distinct_in t) c) ≡ first_fault s t
  unfolding first_fault
  first-as e = rw (z, e, em, er) refl

  pub first-broken : (f : Fault) → failed (fault_number f) ≡ fault_in s m r t → failed (fault_number f) ≡ first_fault s t
  first-broken f e =
      next-broken asked_fault (marks_ok t) f ∙ ap (next_part asked_fault (marks_ok t)) (next-broken orders_fault (distinct_in t) f) ∙ first-as e

  module _ (n : ℕ) (e : record { fault = 0; free = n } ≡ fault_in s m r t) where
    pub first-orders : distinct_in t ≡ false → failed orders_fault ≡ first_fault s t
    unfolding next_part
    first-orders d = simp d at (first-as e)

    pub first-asked : distinct_in t ≡ true → marks_ok t ≡ false → failed asked_fault ≡ first_fault s t
    unfolding next_part
    first-asked d k = simp (d, k) at (first-as e)

    pub first-none : distinct_in t ≡ true → marks_ok t ≡ true → record { fault = 0; free = n } ≡ first_fault s t
    unfolding next_part
    first-none d k = simp (d, k) at (first-as e)
