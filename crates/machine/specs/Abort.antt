-- Abort is an event of the lock machine: the undo records, newest first, put every item back, and the session leaves.
use Rattle.std.specs.Prelude.{◌≡◌, Bool, true, false, cond, List, [], ◌∷◌, map, suc, ◌<◌, ℕ, length}
use Rattle.std.proofs.Math.Path.{refl, sym, ap}
use Rattle.std.proofs.Common.{◌∙◌, subst}
use Rattle.std.proofs.Math.Option.{Option, none, some}
use Rattle.std.proofs.Math.Decide.{ℕ_discrete}
use Rattle.serial.specs.Serial.{pick, undo-cong, undo}
use Rattle.serial.specs.Model.{Item, Item-discrete}
use Rattle.serial.specs.Model as R
use Rattle.serial.specs.Footprints.{store}
use Rattle.serial.specs.Locks.{Kind, Mode, weak, strong}
use Rattle.serial.specs.Locks as L
use Rattle.serial.specs.LockMachine.{Aborted}
use Rattle.machine.specs.Holders.{holds, elem}
use Rattle.machine.specs.State.{Entry, Request, Undo, added, taken, State, entry_of, session_of, on_entry, on_tree, on_desc, group_desc, with_member, without_member, value}
use Rattle.machine.specs.Calls.{end_hand, undo-all, aborts}
use Rattle.machine.specs.Calls as C
use Rattle.machine.specs.View.{log_entry, items, holders, view, Same, same_refl, same-items, same-holders, ended_same, entry-same, frame-holders, frame-items}
use Rattle.machine.specs.Model.{items-set, Up}
use Rattle.machine.specs.Table.{session-same}
use Rattle.machine.specs.Keys.{Kept, elem-without-other, elem-without-same, put-group, was-group, put-group-other, put-words-kept, elem-with-same, elem-with-other}
use Rattle.machine.specs.Entries.{entry-put, entry_other, entry-cases}
use Rattle.machine.specs.Ends.{leave-ended, leave-items}

-- What undoing a record leaves alone, and the one item that it puts back.
pub record Undone (b : Undo) (s t : State) : Type 0 where
  pub table_same : t.table ≡ s.table
  pub holders_same : (l : Kind) (n : Mode) (q z : ℕ) → holders t l n q z ≡ holders s l n q z
  pub put_back : (i : Item) → items t i ≡ undo store (log_entry b ∷ []) (items s) i

-- ---- an entry's value

pub value-undone : (i v : ℕ) (s : State) → i < length s.entries → Undone (value (suc i) v) s (C.undo (value (suc i) v) s)
unfolding C.undo on_entry
value-undone i v s h = record { table_same = refl; holders_same = hold; put_back = item }
  where
    f : Entry → Entry
    f x = record { value = v; share = x.share; exclusive = x.exclusive }

    t : State
    t = on_entry (suc i) f s

    u : State
    u = C.undo (value (suc i) v) s

    u-entry : (z : ℕ) → entry_of z u ≡ entry_of z t
    u-entry z = entry-same t u refl z

    hold : (l : Kind) (n : Mode) (q z : ℕ) → holders u l n q z ≡ holders s l n q z
    hold L.entry weak q z = ap (λ x. holds x.share q) (u-entry z) ∙ entry-cases i f s h (λ y x. holds x.share q ≡ holds (entry_of y s).share q) refl (λ y n. refl) z
    hold L.entry strong q z = ap (λ x. holds x.exclusive q) (u-entry z) ∙ entry-cases i f s h (λ y x. holds x.exclusive q ≡ holds (entry_of y s).exclusive q) refl (λ y n. refl) z
    hold L.group weak q z = refl
    hold L.group strong q z = refl

    item : (x : Item) → items u x ≡ pick (Item-discrete ℕ_discrete (R.value (suc i)) x) v (items s x)
    item x = go x (Item-discrete ℕ_discrete (R.value (suc i)) x)
      where
        go : (y : Item) (d : Dec (R.value (suc i) ≡ y)) → items u y ≡ pick d v (items s y)
        go y (yes e) = subst (λ z. items u z ≡ v) e (ap (λ x. x.value) (u-entry (suc i) ∙ entry-put i f s h))
        go (R.value z) (no n) = ap (λ x. x.value) (u-entry z ∙ entry_other i z f s (λ e. n (ap (λ w. R.value w) e)))
        go (R.cell j e) (no n) = refl

-- ---- a membership

module _ (k e : ℕ) (s : State) (K : Kept k s) (M : List ℕ → List ℕ) where
  abbrev mt : State
  mt = on_desc k (group_desc M) s

  pub mt-holders : (l : Kind) (n : Mode) (q z : ℕ) → holders mt l n q z ≡ holders s l n q z
  unfolding on_tree
  mt-holders = frame-holders s mt refl (put-words-kept k s K (group_desc M) refl)

  pub mt-items : (b : Bool) → elem e (M K.d.members) ≡ b → ((x : ℕ) → ¬ (x ≡ e) → elem x (M K.d.members) ≡ elem x K.d.members)
      → (i : Item) → items mt i ≡ pick (Item-discrete ℕ_discrete (R.cell k e) i) (cond b 1 0) (items s i)
  unfolding on_tree
  mt-items b here there i = items-set k e b s mt (λ z. ap (λ x. x.value) (entry-same s mt refl z)) (ap (elem e) (put-group k s K (group_desc M) refl) ∙ here)
      (λ x n. ap (elem x) (put-group k s K (group_desc M) refl) ∙ there x n ∙ sym (ap (elem x) (was-group k s K))) (put-group-other k s K (group_desc M) refl) i
      (Item-discrete ℕ_discrete (R.cell k e) i)

pub added-undone : (e k : ℕ) (s : State) (K : Kept k s) → Up 1 K.d.members → Undone (added e k) s (C.undo (added e k) s)
unfolding C.undo on_tree
added-undone e k s K u = record {
  table_same = refl;
  holders_same = λ l n q z. frame-holders t (C.undo (added e k) s) refl refl l n q z ∙ mt-holders k e s K (without_member e) l n q z;
  put_back = λ i. frame-items t (C.undo (added e k) s) refl refl i
      ∙ mt-items k e s K (without_member e) false (elem-without-same e 1 K.d.members u) (λ x n. elem-without-other x e K.d.members n) i;
}
  where
    t : State
    t = on_desc k (group_desc (without_member e)) s

pub taken-undone : (e k : ℕ) (s : State) (K : Kept k s) → Undone (taken e k) s (C.undo (taken e k) s)
unfolding C.undo on_tree
taken-undone e k s K = record {
  table_same = refl;
  holders_same = mt-holders k e s K (with_member e);
  put_back = mt-items k e s K (with_member e) true
      (elem-with-same e K.d.members) (λ x n. elem-with-other x e K.d.members n);
}

-- ---- the chain

-- Each undo record can be undone in its turn.
pub data Chain : List Undo → State → Type 0 where
  stop : {s : State} → Chain [] s
  next : {b : Undo} {bs : List Undo} {s : State} → Undone b s (C.undo b s) → Chain bs (C.undo b s) → Chain (b ∷ bs) s

pub record AllUndone (bs : List Undo) (s t : State) : Type 0 where
  pub table_same : t.table ≡ s.table
  pub holders_same : (l : Kind) (n : Mode) (q z : ℕ) → holders t l n q z ≡ holders s l n q z
  pub put_back : (i : Item) → items t i ≡ undo store (map log_entry bs) (items s) i

pub chain-undone : (bs : List Undo) (s : State) → Chain bs s → AllUndone bs s (undo-all bs s)
unfolding undo-all
chain-undone [] s stop = record { table_same = refl; holders_same = λ l n q z. refl; put_back = λ i. refl }
chain-undone (b ∷ bs) s (next u c) =
    let r = chain-undone bs (C.undo b s) c in
    record {
      table_same = r.table_same ∙ u.table_same;
      holders_same = λ l n q z. r.holders_same l n q z ∙ u.holders_same l n q z;
      put_back = λ i. r.put_back i ∙ undo-cong store (map log_entry bs) (items (C.undo b s)) (undo store (log_entry b ∷ []) (items s)) i (u.put_back i);
    }

end-hand-same : (p : ℕ) (r : Option Request) (s : State) → Same s (end_hand p r s)
unfolding end_hand
end-hand-same p none s = same_refl s
end-hand-same p (some r) s = ended_same p r s

-- Abort: the request ends, the undo records are undone, and the session leaves.
pub abort-aborted : (p : ℕ) (s : State) → p < length (end_hand p (session_of p s).hand s).table → (session_of p s).begun ≡ true
    → Chain (session_of p s).undos (end_hand p (session_of p s).hand s) → Aborted p (view s) (view (aborts p s))
unfolding aborts
abort-aborted p s h w c =
    let a = end_hand p (session_of p s).hand s in
    let e = end-hand-same p (session_of p s).hand s in
    let t = undo-all (session_of p s).undos a in
    let u = chain-undone (session_of p s).undos a c in
    let seat : (q : ℕ) → session_of q t ≡ session_of q a = λ q. session-same a t u.table_same q in
    let y = leave-ended p t (subst (λ l. p < length l) (sym u.table_same) h) (ap (λ x. x.begun) (seat p) ∙ e.begun_same p ∙ w) in
    record {
      ended = record {
        was = w;
        now = y.now;
        holds_off = y.holds_off;
        log_off = y.log_off;
        others = λ q n. record {
          holds_kept = λ k m z. (y.others q n).holds_kept k m z ∙ u.holders_same k m q z ∙ same-holders s a e k m q z;
          log_kept = (y.others q n).log_kept ∙ ap (λ x. map log_entry x.undos) (seat q) ∙ ap (map log_entry) (e.undos_same q);
        };
        begun_others = λ q n. y.begun_others q n ∙ ap (λ x. x.begun) (seat q) ∙ e.begun_same q;
      };
      db_undone = λ i. leave-items p t i ∙ u.put_back i ∙ undo-cong store (map log_entry (session_of p s).undos) (items a) (items s) i (same-items s a e i);
    }
