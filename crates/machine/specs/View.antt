-- What the lock machine sees of a state: values and memberships, unfinished sessions, long locks by entry and by key, undo records.
use Rattle.std.specs.Prelude.{◌≡◌, refl, cond, List, [], ◌∷◌, map, zero, suc, ◌-◌, ℕ, eqb, get_or}
use Rattle.std.proofs.Common.{◌∙◌, ap}
use Rattle.std.proofs.Math.Option.{Option, none}
use Rattle.serial.specs.Model.{Item}
use Rattle.serial.specs.Model as R
use Rattle.serial.specs.Locks.{Kind, Mode, weak, strong, Holds}
use Rattle.serial.specs.Locks as L
use Rattle.serial.specs.LockMachine.{Store, Unseen}
use Rattle.machine.specs.Holders.{elem, holds}
use Rattle.machine.specs.State.{Tree, Root, Stage, start, enter, change, take, Request, Undo, added, taken, State, no_entry, entry_of, session_of, pin_desc, on_session, on_tree, on_leaf, on_desc, with_root, with_free, set_hand, Desc, value, at}
use Rattle.machine.specs.Descent.{on_latch, unlatched}
use Rattle.machine.specs.Steps.{pinned, unpin, unlatch, ended}
use Rattle.machine.specs.Gaps.{locators, updaters}
use Rattle.machine.specs.Gaps as G
use Rattle.machine.specs.Table.{session-kept, with_hand, released}
use Rattle.machine.specs.Keeps.{under, under-on-leaf, under-on-latch, under-unlatched}

-- A descriptor without its pins.
abbrev pub plain : Desc → Desc
plain d = pin_desc (λ n. 0) d

abbrev pub plains : Desc → List Desc
plains d = plain d ∷ []

unfoldable pub seen_under : Root → List Desc
seen_under r = under plains (suc r.height) r.node

abbrev pub seen : State → List Desc
seen s = seen_under s.root

abbrev pub holder_words : Desc → G.Desc
holder_words d = record { key = d.key; locate = d.locate; update = d.update; gap = d.gap }

-- The group of a key: a key without a descriptor has an empty one.
unfoldable pub group_in : ℕ → List Desc → List ℕ
group_in k [] = []
group_in k (d ∷ ds) = let rest = group_in k ds in cond (eqb d.key k) d.members rest

-- The locate and the update holders of a key, stored or not.
unfoldable pub locate_word : ℕ → List Desc → ℕ
locate_word k l = locators 0 (map holder_words l) k

unfoldable pub update_word : ℕ → List Desc → ℕ
update_word k l = updaters (map holder_words l) k

abbrev pub log_entry : Undo → Item × ℕ
log_entry (value e v) = (R.value e, v)
log_entry (added e k) = (R.cell k e, 0)
log_entry (taken e k) = (R.cell k e, 1)

abbrev pub items : State → Item → ℕ
items s (R.value e) = (entry_of e s).value
items s (R.cell k e) = cond (elem e (group_in k (seen s))) 1 0

abbrev pub holders : State → Holds
holders s L.entry weak p e = holds (entry_of e s).share p
holders s L.entry strong p e = holds (entry_of e s).exclusive p
holders s L.group weak p k = holds (locate_word k (seen s)) p
holders s L.group strong p k = holds (update_word k (seen s)) p

abbrev pub view : State → Store
view s = record {
  db = items s;
  begun = λ p. (session_of p s).begun;
  holds = holders s;
  log = λ p. map log_entry (session_of p s).undos;
}

-- ---- states that look the same

pub record Same (s t : State) : Type 0 where
  pub entries_same : t.entries ≡ s.entries
  pub seen_same : seen t ≡ seen s
  pub begun_same : (p : ℕ) → (session_of p t).begun ≡ (session_of p s).begun
  pub undos_same : (p : ℕ) → (session_of p t).undos ≡ (session_of p s).undos

pub same_refl : (s : State) → Same s s
same_refl s = record { entries_same = refl; seen_same = refl; begun_same = λ p. refl; undos_same = λ p. refl }

pub same-trans : {s t u : State} → Same s t → Same t u → Same s u
same-trans a b = record {
  entries_same = b.entries_same ∙ a.entries_same;
  seen_same = b.seen_same ∙ a.seen_same;
  begun_same = λ p. b.begun_same p ∙ a.begun_same p;
  undos_same = λ p. b.undos_same p ∙ a.undos_same p;
}

pub entry-same : (s t : State) → t.entries ≡ s.entries → (e : ℕ) → entry_of e t ≡ entry_of e s
unfolding entry_of
entry-same s t h zero = refl
entry-same s t h (suc i) = ap (λ l. get_or l i no_entry) h

pub entry-holders : (s t : State) → t.entries ≡ s.entries → (m : Mode) (p z : ℕ) → holders t L.entry m p z ≡ holders s L.entry m p z
entry-holders s t e weak p z = ap (λ x. holds x.share p) (entry-same s t e z)
entry-holders s t e strong p z = ap (λ x. holds x.exclusive p) (entry-same s t e z)

-- Holders are read of the entries and of the descriptors' words alone.
pub frame-holders : (s t : State) → t.entries ≡ s.entries → map holder_words (seen t) ≡ map holder_words (seen s) → (k : Kind) (m : Mode) (p z : ℕ)
    → holders t k m p z ≡ holders s k m p z
unfolding locate_word update_word
frame-holders s t e h L.entry m p z = entry-holders s t e m p z
frame-holders s t e h L.group weak p z = ap (λ l. holds (locators 0 l z) p) h
frame-holders s t e h L.group strong p z = ap (λ l. holds (updaters l z) p) h

pub same-holders : (s t : State) → Same s t → (k : Kind) (m : Mode) (p z : ℕ) → holders t k m p z ≡ holders s k m p z
same-holders s t h = frame-holders s t h.entries_same (ap (map holder_words) h.seen_same)

pub frame-items : (s t : State) → t.entries ≡ s.entries → seen t ≡ seen s → (i : Item) → items t i ≡ items s i
frame-items s t e h (R.value z) = ap (λ x. x.value) (entry-same s t e z)
frame-items s t e h (R.cell k z) = ap (λ l. cond (elem z (group_in k l)) 1 0) h

pub same-items : (s t : State) → Same s t → (i : Item) → items t i ≡ items s i
same-items s t h = frame-items s t h.entries_same h.seen_same

pub same-unseen : (s t : State) → Same s t → Unseen (view s) (view t)
same-unseen s t h = record {
  stays = λ p. record { holds_kept = λ k m z. same-holders s t h k m p z; log_kept = ap (map log_entry) (h.undos_same p) };
  begun_same = h.begun_same;
  db_kept = same-items s t h;
}

-- ---- what leaves a state looking the same

pub set-hand-same : (p : ℕ) (r : Option Request) (s : State) → Same s (set_hand p r s)
unfolding set_hand on_session
set-hand-same p r s = record {
  entries_same = refl;
  seen_same = refl;
  begun_same = session-kept (λ t. t.begun) p (with_hand r) s (λ x. refl);
  undos_same = session-kept (λ t. t.undos) p (with_hand r) s (λ x. refl);
}

pub free_same : (n : ℕ) (s : State) → Same s (with_free n s)
unfolding session_of
free_same n s = record { entries_same = refl; seen_same = refl; begun_same = λ p. refl; undos_same = λ p. refl }

pub root_same : (r : Root) (s : State) → seen_under r ≡ seen s → Same s (with_root r s)
unfolding session_of
root_same r s e = record { entries_same = refl; seen_same = e; begun_same = λ p. refl; undos_same = λ p. refl }

pub tree_same : (f : (h : ℕ) → Tree h → Tree h) (s : State) → ((h : ℕ) (t : Tree h) → under plains h (f h t) ≡ under plains h t) → Same s (on_tree f s)
unfolding on_tree session_of seen_under
tree_same f s e = record { entries_same = refl; seen_same = e (suc s.root.height) s.root.node; begun_same = λ p. refl; undos_same = λ p. refl }

pub pin-same : (k : ℕ) (f : ℕ → ℕ) (s : State) → Same s (on_desc k (pin_desc f) s)
pin-same k f s = tree_same (on_leaf k (pin_desc f)) s (under-on-leaf plains k (pin_desc f) (λ d. refl))

pub latch-same : (w x : ℕ) (k : (h : ℕ) → Tree (suc h) → Tree (suc h)) (s : State) → ((h : ℕ) (t : Tree (suc h)) → under plains (suc h) (k h t) ≡ under plains (suc h) t)
    → Same s (on_tree (on_latch w x k) s)
latch-same w x k s e = tree_same (on_latch w x k) s (under-on-latch plains w x k e)

pub unpin-same : (ks : List ℕ) (s : State) → Same s (unpin ks s)
unfolding unpin
unpin-same [] s = same_refl s
unpin-same (k ∷ ks) s = same-trans (pin-same k (λ n. n - 1) s) (unpin-same ks (on_desc k (pin_desc (λ n. n - 1)) s))

pub unlatch-same : (p : ℕ) (g : Stage) (s : State) → Same s (unlatch p g s)
unfolding unlatch
unlatch-same p start s = same_refl s
unlatch-same p (enter x) s = same_refl s
unlatch-same p (at x) s = latch-same (suc p) x unlatched s (under-unlatched plains)
unlatch-same p change s = same_refl s
unlatch-same p (take x) s = same_refl s

pub released-same : (p : ℕ) (r : Request) (s : State) → Same s (released p r s)
released-same p r s = same-trans (unlatch-same p r.stage s) (unpin-same (pinned r r.stage) (unlatch p r.stage s))

pub ended_same : (p : ℕ) (r : Request) (s : State) → Same s (ended p r s)
unfolding ended
ended_same p r s = same-trans (released-same p r s) (set-hand-same p none (released p r s))
