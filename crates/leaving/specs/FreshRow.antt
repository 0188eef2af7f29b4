-- Format on words: a fresh store and 17 fresh session records hold the fresh layout, which means the machine's fresh state.
use Rattle.std.specs.Prelude.{◌≡◌, ℕ, zero, suc, ◌+◌, ◌-◌, ◌≤◌, ◌<◌, length, replicate}
use Rattle.std.proofs.Math.Path.{refl, sym, ap, ap₂, subst}
use Rattle.std.proofs.Common.{◌∙◌, arith}
use mathlib.Core.List.{List, [], ◌∷◌}
use Rattle.std.proofs.Math.Decide.{ℕ_discrete}
use Rattle.words.specs.Store.{word_of, beyond}
use Rattle.words.specs.Header.{header_word, first_place, free_place}
use Rattle.locks.specs.Holders.{count_from}
use Rattle.nodes.specs.Ops.{lone_node}
use Rattle.nodes.specs.Entries.{lone-entries}
use Rattle.sessions.specs.declared.Session.{Session}
use Rattle.sessions.specs.Sessions.{session_at, idle_session}
use Rattle.machine.specs.Logic.{get-same}
use Rattle.machine.specs.Tree.{leaves}
use Rattle.machine.specs.Holders.{width}
use Rattle.machine.specs.State.{Desc, State, top, no_entry, idle, fresh}
use Rattle.machine.specs.Calls.{records_for}
use Rattle.machine.specs.Sound.{times}
use Rattle.meaning.specs.Reading.{Chained, Leaf, Numbered, erase, numbers, M-of, R-of, entries_of}
use Rattle.meaning.specs.Sound.{All}
use Rattle.meaning.specs.Numbers.{one-is, one-not}
use Rattle.meaning.specs.Around.{num_of}
use Rattle.layout.specs.Layout.{Lay, all_records, Owned, NodeFits, TreeFits, GroupFits, Fits, Holds, means}
use Rattle.layout.specs.Puts.{node-fits, desc-fits, desc-next, desc-first}
use Rattle.endings.specs.Fresh.{Roomy, fresh_store, zero_descriptor}
use Rattle.leaving.specs.Begun.{idle-fits}
use Rattle.leaving.specs.FreshWords.{IsFresh, is-fresh, entries-zero}

-- ---- the layout

abbrev zero_desc : Desc
zero_desc = record { key = 0; locate = 0; update = 0; gap = 0; pins = 0; members = [] }

abbrev zero_leaf : Leaf
zero_leaf = record { num = 2; desc = zero_desc }

abbrev fresh_tree : Numbered 1
fresh_tree = record { latch = record { num = 1; word = 0 }; sons = (zero_leaf, top) ∷ [] }

unfoldable pub fresh_lay : ℕ → ℕ → Lay
fresh_lay m r = record {
  entries = replicate m no_entry;
  height = 0;
  tree = fresh_tree;
  members = λ d. [];
  undos = λ p. [];
  free = count_from 3 (r - 2);
  records = r;
}

abbrev pub fresh_table : List Session
fresh_table = replicate (suc width) idle_session

-- ---- what it means

from-length : (k n : ℕ) → length (count_from k n) ≡ n
from-length k zero = refl
from-length k (suc n) = ap suc (from-length (suc k) n)

pub fresh-means : (m r : ℕ) → means (fresh_lay m r) fresh_table ≡ fresh m r
unfolding means fresh fresh_lay erase
fresh-means m r = ap (λ n. record {
  entries = replicate m no_entry;
  root = record { height = 0; node = record { latch = 0; sons = (zero_desc, top) ∷ [] } };
  free = n;
  table = replicate (suc width) idle;
  records = r;
}) (from-length 3 (r - 2))

-- ---- each record has one owner

from-times : (i k n : ℕ) → k ≤ i → i < k + n → times i (count_from k n) ≡ 1
from-times i k zero a b = absurd (omega (arith, a, b))
from-times i k (suc n) a b = go (ℕ_discrete k i) (λ x y. from-times i (suc k) n x y)
  where
    past : (j m : ℕ) → i < j → times i (count_from j m) ≡ 0
    past j zero l = refl
    past j (suc m) l = omega (arith, one-not j i (λ e. omega (arith, e, l)), past (suc j) m (omega (arith, l)))

    go : Dec (k ≡ i) → (suc k ≤ i → i < suc k + n → times i (count_from (suc k) n) ≡ 1) → times i (k ∷ count_from (suc k) n) ≡ 1
    go (yes e) ih = omega (arith, one-is k i e, past (suc k) n (omega (arith, e)))
    go (no e) ih = omega (arith, one-not k i e, ih (omega (arith, a, e)) (omega (arith, b)))

from-range : (k n r : ℕ) → 1 ≤ k → k + n ≤ suc r → All (λ i. (1 ≤ i) × (i ≤ r)) (count_from k n)
from-range k zero r a b = tt
from-range k (suc n) r a b = ((a, omega (arith, b)), from-range (suc k) n r (omega arith) (omega (arith, b)))

fresh-records : (m r : ℕ) → all_records (fresh_lay m r) ≡ count_from 1 (suc (suc (r - 2)))
unfolding fresh_lay numbers leaves
fresh-records m r = refl

fresh-owned : (m r : ℕ) → 2 ≤ r → Owned (fresh_lay m r)
unfolding fresh_lay
fresh-owned m r l = record {
  once = λ i a b. ap (times i) (fresh-records m r) ∙ from-times i 1 (suc (suc (r - 2))) a (omega (arith, b, l));
  no_other = subst (All (λ i. (1 ≤ i) × (i ≤ r))) (sym (fresh-records m r)) (from-range 1 (suc (suc (r - 2))) r (omega arith) (omega (arith, l)));
}

-- ---- the words

module _ (s s' : List ℕ) (m r : ℕ) (Z : Roomy s m r) (sized : r ≡ records_for m (length s)) (I : IsFresh s s' m r) where
  tree-fits : TreeFits s' m 1 top fresh_tree
  unfolding TreeFits num_of zero_descriptor lone_node
  tree-fits = (
    subst (NodeFits s' m top (record { num = 1; word = 0 })) (lone-entries 2 top) (node-fits s' m 1 top (lone_node 2) I.node (omega arith)),
    (desc-fits s' m zero_leaf zero_descriptor I.descriptor refl refl refl refl refl, tt),
  )

  next-none : word_of s' m 2 0 ≡ 0
  unfolding zero_descriptor
  next-none = sym (desc-next s' m 2) ∙ ap (λ d. d.next) I.descriptor

  first-none : word_of s' m 2 6 ≡ 0
  unfolding zero_descriptor
  first-none = sym (desc-first s' m 2) ∙ ap (λ d. d.first) I.descriptor

  chain-two : Chained s' m (header_word s' first_place) (2 ∷ [])
  chain-two = (I.first, λ e. omega (arith, e, I.first), ap (λ i. word_of s' m i 0) I.first ∙ next-none)

  over-m : (P : ℕ → Type 0) → P m → P (M-of s')
  over-m P x = subst P (sym I.entries) x

  fresh-fits : Fits s' fresh_table (fresh_lay m r)
  unfolding fresh_lay leaves num_of
  fresh-fits = record {
    header = omega (arith, I.long, Z.inside);
    sized = I.records ∙ sized ∙ ap₂ records_for (sym I.entries) (sym I.long);
    records = I.records;
    entries = ap (entries_of s' 1) I.entries ∙ entries-zero s' 1 m (λ d a b. I.zeros d a (omega (arith, b)));
    height = I.height;
    root = I.root;
    tree = over-m (λ k. TreeFits s' k 1 top fresh_tree) tree-fits;
    chained = over-m (λ k. Chained s' k (header_word s' first_place) (2 ∷ [])) chain-two;
    groups = (over-m (λ k. GroupFits s' k [] zero_leaf) (record { chained = first-none; linked = tt; entries = tt; once = tt; gathered = refl }), tt);
    free = over-m (λ k. Chained s' k (header_word s' free_place) (count_from 3 (r - 2))) I.free;
    undos = λ p l. record { chained = ap (λ y. y.undo) (get-same (suc width) (suc p) idle_session); words = tt };
  }

  fresh-holds-at : Holds s' fresh_table (fresh_lay m r)
  unfolding fresh_lay
  fresh-holds-at = record {
    seats = refl;
    fits = fresh-fits;
    owned = fresh-owned m r (omega (arith, Z.eight));
    hands = λ p l. idle-fits (fresh_lay m r) p (session_at fresh_table p) (ap (λ y. y.stage) (get-same (suc width) p idle_session));
    named = λ p l. tt;
  }

pub fresh_holds : (s : List ℕ) (m r : ℕ) → Roomy s m r → r ≡ records_for m (length s) → Holds (fresh_store s m r) fresh_table (fresh_lay m r)
fresh_holds s m r Z e = fresh-holds-at s (fresh_store s m r) m r Z e (is-fresh s m r Z)

-- ---- an accepted format

-- Sizes that pass format's checks.
pub fresh-room : (s : List ℕ) (m : ℕ) → 1 ≤ m → m ≤ 1024 → 8 ≤ records_for m (length s) → Roomy s m (records_for m (length s))
fresh-room s m a b c = record { one = a; entries = b; eight = c; records = omega arith; inside = omega (arith, c) }

-- The words and table hold a layout that means the fresh state; the length and the words beyond the records are the same.
pub record Formats (s s' : List ℕ) (t' : List Session) (m : ℕ) (next : State) : Type 0 where
  pub lay : Lay
  pub holds : Holds s' t' lay
  pub means_next : means lay t' ≡ next
  pub long : length s' ≡ length s
  pub entries : M-of s' ≡ m
  pub records : R-of s' ≡ records_for m (length s)
  pub rest : beyond s' m (records_for m (length s)) ≡ beyond s m (records_for m (length s))

pub format-becomes : (s : List ℕ) (m : ℕ) → 1 ≤ m → m ≤ 1024 → 8 ≤ records_for m (length s)
    → Formats s (fresh_store s m (records_for m (length s))) fresh_table m (fresh m (records_for m (length s)))
format-becomes s m a b c =
    let r = records_for m (length s) in
    let Z = fresh-room s m a b c in
    let I = is-fresh s m r Z in
    record {
      lay = fresh_lay m r;
      holds = fresh_holds s m r Z refl;
      means_next = fresh-means m r;
      long = I.long;
      entries = I.entries;
      records = I.records;
      rest = I.rest;
    }
