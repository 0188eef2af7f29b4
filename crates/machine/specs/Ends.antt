-- Begin and commit are events of the lock machine; and what a session that leaves takes off.
use Rattle.std.specs.Prelude.{◌≡◌, refl, true, false, cond, List, [], ◌∷◌, ◌++◌, map, length, get_or}
use Rattle.std.proofs.Math.Path.{sym, ap}
use Rattle.std.proofs.Common.{ap₂, ◌∙◌, arith}
use Prim.Native.Nat.{zero, suc, ◌+◌, ◌<◌, ℕ}
use Rattle.std.proofs.Math.ListN.{get_or-map}
use Rattle.serial.specs.Rising.{Tri, less, equal, greater}
use Rattle.serial.specs.Model.{Item, ℕ-tri}
use Rattle.serial.specs.Model as R
use Rattle.serial.specs.Locks.{Kind, Mode, weak, strong}
use Rattle.serial.specs.Locks as L
use Rattle.serial.specs.LockMachine.{Store, Opened, Ended, Committed}
use Rattle.machine.specs.Holders.{holds, left_by, elem}
use Rattle.machine.specs.Tree.{map_e, flat, leaves}
use Rattle.machine.specs.State.{Tree, State, no_entry, idle, entry_of, session_of, with_free, on_session, on_tree, on_leaves, hold_desc, Desc}
use Rattle.machine.specs.Calls.{entry_left, leave, renumbered, begins, commits}
use Rattle.machine.specs.Gaps.{by_tri, reads, reads-locate, reads-update}
use Rattle.machine.specs.Gaps as G
use Rattle.machine.specs.View.{seen, group_in, locate_word, update_word, log_entry, items, holders, view, Same, same-items, same-holders, free_same, holder_words, frame-holders, frame-items}
use Rattle.machine.specs.Bits.{left-same, left_other, left_le}
use Rattle.machine.specs.Table.{leave_own, leave-other, renumbered-kept, begins-own, begins-other, begins-kept}
use Rattle.machine.specs.Keeps.{flat-same}
use Rattle.machine.specs.Order.{lv}
use Rattle.machine.specs.Groups.{words, group-map, map-flat}
use Rattle.machine.specs.Housekeeping.{lvs, seen-words, seen-group}

-- ---- begin

pub begin-opened : (p : ℕ) (s : State) → p < length s.table → (session_of p s).begun ≡ false → Opened p (view s) (view (begins p s))
unfolding begins renumbered on_session
begin-opened p s h w = record {
  was = w;
  now = ap (λ x. x.begun) (begins-own p s h);
  begun_others = λ t n. ap (λ x. x.begun) (begins-other p t s n) ∙ renumbered-kept (λ x. x.begun) (λ i x. refl) t s;
  stays = λ t. record { holds_kept = λ k m z. frame-holders s (begins p s) refl refl k m t z; log_kept = ap (map log_entry) (begins-kept (λ x. x.undos) (λ i x. refl) (λ i x. refl) p t s) };
  db_kept = frame-items s (begins p s) refl refl;
}

-- ---- leaving

pub zero_left : (p : ℕ) → left_by p 0 ≡ 0
zero_left p = omega (arith, left_le p 0)

abbrev pub off : ℕ → Desc → Desc
off p d = hold_desc (left_by p) (left_by p) (left_by p) d

-- Every leaf changed by f.
leaves_map : (f : Desc → Desc) (h : ℕ) (t : Tree h) → lv h (on_leaves f h t) ≡ map f (lv h t)
unfolding leaves on_leaves
leaves_map f zero t = refl
leaves_map f (suc h) t = flat-map_e (leaves Desc ℕ h) (on_leaves f h) t.sons ∙ flat-same (λ a. lv h (on_leaves f h a)) (λ a. map f (lv h a)) (leaves_map f h) t.sons ∙ map-flat f (lv h) t.sons
  where
    flat-map_e : {A B C : Type 0} (g : B → List C) (k : A → B) (es : List (A × ℕ)) → flat g (map_e k es) ≡ flat (λ a. g (k a)) es
    flat-map_e g k [] = refl
    flat-map_e g k (e ∷ es) = ap (λ l. g (k e.0) ++ l) (flat-map_e g k es)

-- A holder off in every word is off where the words are read.
pub reads-off : (p : ℕ) (α : G.Desc → ℕ) (γ : ℕ → ℕ) → ((d : Desc) → α (holder_words (off p d)) ≡ left_by p (α (holder_words d))) → ((g : ℕ) → γ (left_by p g) ≡ left_by p (γ g))
    → (g : ℕ) (l : List Desc) (j : ℕ) → reads α γ (left_by p g) (words (map (off p) l)) j ≡ left_by p (reads α γ g (words l) j)
reads-off p α γ a c g [] j = c g
reads-off p α γ a c g (d ∷ l) j = go (ℕ-tri j d.key) (reads-off p α γ a c d.gap l j)
  where
    go : (t : Tri ◌<◌ j d.key) → reads α γ (left_by p d.gap) (words (map (off p) l)) j ≡ left_by p (reads α γ d.gap (words l) j)
        → by_tri t (γ (left_by p g)) (α (holder_words (off p d))) (reads α γ (left_by p d.gap) (words (map (off p) l)) j) ≡ left_by p (by_tri t (γ g) (α (holder_words d)) (reads α γ d.gap (words l) j))
    go (less h) ih = c g
    go (equal h) ih = a d
    go (greater h) ih = ih

none_left : (p : ℕ) → entry_left p no_entry ≡ no_entry
none_left p = ap₂ (λ a b. record { value = 0; share = a; exclusive = b }) (zero_left p) (zero_left p)

module _ (p : ℕ) (s : State) where
  pub leave-lvs : lvs (leave p s) ≡ map (off p) (lvs s)
  unfolding leave on_session on_tree
  leave-lvs = leaves_map (off p) (suc s.root.height) s.root.node

  pub leave-entry : (z : ℕ) → entry_of z (leave p s) ≡ entry_left p (entry_of z s)
  unfolding leave on_session on_tree entry_of
  leave-entry zero = sym (none_left p)
  leave-entry (suc i) = ap (get_or (map (entry_left p) s.entries) i) (sym (none_left p)) ∙ get_or-map (entry_left p) s.entries i no_entry

  pub leave-reads : (α : G.Desc → ℕ) (γ : ℕ → ℕ) → ((d : Desc) → α (holder_words (off p d)) ≡ left_by p (α (holder_words d))) → ((g : ℕ) → γ (left_by p g) ≡ left_by p (γ g))
      → (k : ℕ) → reads α γ 0 (words (seen (leave p s))) k ≡ left_by p (reads α γ 0 (words (seen s)) k)
  leave-reads α γ a c k = ap (λ w. reads α γ 0 w k) (seen-words (leave p s) ∙ ap words leave-lvs) ∙ ap (λ g. reads α γ g (words (map (off p) (lvs s))) k) (sym (zero_left p))
      ∙ reads-off p α γ a c 0 (lvs s) k ∙ sym (ap (λ w. left_by p (reads α γ 0 w k)) (seen-words s))

  leave-locate : (k : ℕ) → locate_word k (seen (leave p s)) ≡ left_by p (locate_word k (seen s))
  unfolding locate_word
  leave-locate k = reads-locate 0 (words (seen (leave p s))) k ∙ leave-reads (λ x. x.locate) (λ w. w) (λ d. refl) (λ g. refl) k ∙ sym (ap (left_by p) (reads-locate 0 (words (seen s)) k))

  leave-update : (k : ℕ) → update_word k (seen (leave p s)) ≡ left_by p (update_word k (seen s))
  unfolding update_word
  leave-update k = reads-update 0 (words (seen (leave p s))) k ∙ leave-reads (λ x. x.update) (λ w. 0) (λ d. refl) (λ g. sym (zero_left p)) k
      ∙ sym (ap (left_by p) (reads-update 0 (words (seen s)) k))

  pub leave-group : (k : ℕ) → group_in k (lvs (leave p s)) ≡ group_in k (lvs s)
  leave-group k = ap (group_in k) leave-lvs ∙ group-map (off p) (λ d. refl) (λ d. refl) k (lvs s)

  pub leave-items : (i : Item) → items (leave p s) i ≡ items s i
  leave-items (R.value e) = ap (λ x. x.value) (leave-entry e)
  leave-items (R.cell k e) = ap (λ g. cond (elem e g) 1 0) (seen-group k (leave p s) ∙ leave-group k ∙ sym (seen-group k s))

  leave-off : (k : Kind) (m : Mode) (z : ℕ) → holders (leave p s) k m p z ≡ false
  leave-off L.entry weak z = ap (λ x. holds x.share p) (leave-entry z) ∙ left-same p (entry_of z s).share
  leave-off L.entry strong z = ap (λ x. holds x.exclusive p) (leave-entry z) ∙ left-same p (entry_of z s).exclusive
  leave-off L.group weak z = ap (λ w. holds w p) (leave-locate z) ∙ left-same p (locate_word z (seen s))
  leave-off L.group strong z = ap (λ w. holds w p) (leave-update z) ∙ left-same p (update_word z (seen s))

  leave-others : (q : ℕ) → ¬ (p ≡ q) → (k : Kind) (m : Mode) (z : ℕ) → holders (leave p s) k m q z ≡ holders s k m q z
  leave-others q n L.entry weak z = ap (λ x. holds x.share q) (leave-entry z) ∙ left_other p q (entry_of z s).share n
  leave-others q n L.entry strong z = ap (λ x. holds x.exclusive q) (leave-entry z) ∙ left_other p q (entry_of z s).exclusive n
  leave-others q n L.group weak z = ap (λ w. holds w q) (leave-locate z) ∙ left_other p q (locate_word z (seen s)) n
  leave-others q n L.group strong z = ap (λ w. holds w q) (leave-update z) ∙ left_other p q (update_word z (seen s)) n

  pub leave-ended : p < length s.table → (session_of p s).begun ≡ true → Ended p (view s) (view (leave p s))
  leave-ended h w = record {
    was = w;
    now = ap (λ x. x.begun) gone;
    holds_off = leave-off;
    log_off = ap (λ x. map log_entry x.undos) gone;
    others = λ t n. record { holds_kept = leave-others t n; log_kept = ap (λ x. map log_entry x.undos) (stay t n) };
    begun_others = λ t n. ap (λ x. x.begun) (stay t n);
  }
    where
      gone : session_of p (leave p s) ≡ idle
      gone = leave_own p s h

      stay : (t : ℕ) → ¬ (p ≡ t) → session_of t (leave p s) ≡ session_of t s
      stay t n = leave-other p t s n

-- A state that looks the same may end instead.
pub ended-from : (p : ℕ) (s t : State) (y : Store) → Same s t → Ended p (view t) y → Ended p (view s) y
ended-from p s t y h e = record {
  was = sym (h.begun_same p) ∙ e.was;
  now = e.now;
  holds_off = e.holds_off;
  log_off = e.log_off;
  others = λ q n. record {
    holds_kept = λ k m z. (e.others q n).holds_kept k m z ∙ same-holders s t h k m q z;
    log_kept = (e.others q n).log_kept ∙ ap (map log_entry) (h.undos_same q);
  };
  begun_others = λ q n. e.begun_others q n ∙ h.begun_same q;
}

-- Commit: the undo records become free, and the session leaves.
pub commit-committed : (p : ℕ) (s : State) → p < length s.table → (session_of p s).begun ≡ true → Committed p (view s) (view (commits p s))
unfolding commits
commit-committed p s h w =
    let n = s.free + length (session_of p s).undos in
    let t = with_free n s in
    let e = free_same n s in
    record { ended = ended-from p s t (view (leave p t)) e (leave-ended p t h (e.begun_same p ∙ w)); db_kept = λ i. leave-items p t i ∙ same-items s t e i }
