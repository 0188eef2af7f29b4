-- One undo record undone keeps a sound state sound, where its session's chain goes on with the rest.
use Rattle.std.specs.Prelude.{◌≡◌, Bool, List, [], ◌∷◌, zero, suc, ◌+◌, ◌<◌, ℕ, get_or, set}
use Rattle.std.proofs.Math.Path.{refl, sym, subst, ap}
use Rattle.std.proofs.Common.{◌∙◌, inl, arith, length-set}
use Rattle.std.proofs.Math.Bool.{true, false}
use Rattle.std.proofs.Math.Decide.{ℕ_discrete}
use Rattle.std.proofs.Math.ListN.{length}
use Rattle.serial.specs.Serial.{true≢false}
use Rattle.serial.specs.Locks.{Kind, Mode, strong}
use Rattle.serial.specs.Locks as L
use Rattle.machine.specs.Holders.{holds, elem}
use Rattle.machine.specs.State.{Desc, Undo, added, taken, Session, State, top, idle, entry_of, session_of, desc_of, with_table, with_free, on_entry, on_tree, on_desc, group_desc, with_member, without_member, on_session, value}
use Rattle.machine.specs.Calls as C
use Rattle.machine.specs.View.{holders, group_in, seen, frame-holders}
use Rattle.machine.specs.Sound.{gap_word, stored_in, pins_in, total, nodes, members_many, UpTo, ListedTo, Shaped, pins_by, Cells, cells, set_cell, Holding, Undoable, Sound, Formed, Latches, formed-of, latches-of, keyed-of, sound-from}
use Rattle.machine.specs.Effect.{Effect, Own}
use Rattle.machine.specs.Table.{tenure, begun-seat, session-put, session-other, session-same}
use Rattle.machine.specs.Housekeeping.{lvs, seen-group}
use Rattle.machine.specs.Keys.{Kept, elem-without-other, elem-without-same, was-group, put-group-other, put-words-kept, elem-with-same, elem-with-other}
use Rattle.machine.specs.Totals.{total-set}
use Rattle.machine.specs.Checks.{checks-kept}
use Rattle.machine.specs.Looks.{kept_of, kept-listed, put-listed, put-stored, put-pins-kept, put-gaps, with-many, without-many, with-upto, without-upto, upto-up, put-cells, set-entry, excludes-alone}
use Rattle.machine.specs.Alike.{on-desc-shaped, on-desc-used}
use Rattle.machine.specs.Latch.{desc-latches, kept-latches}
use Rattle.machine.specs.Effects.{Remains, stands-kept, undoable-kept, apart-kept, keyed-after}
use Rattle.machine.specs.Abort.{Undone, value-undone, added-undone, taken-undone}

-- ---- what undoing a record does, the session's chain set aside

-- The state s becomes u. The entry e is the one changed; the groups are then as rest says, and the undo records us can follow.
pub record Undid (p : ℕ) (us : List Undo) (s u : State) : Type 0 where
  pub many : length u.entries ≡ length s.entries
  pub records_same : u.records ≡ s.records
  pub holders_same : (k : Kind) (m : Mode) (q z : ℕ) → holders u k m q z ≡ holders s k m q z
  pub gaps_same : (z : ℕ) → gap_word z (seen u) ≡ gap_word z (seen s)
  pub stored_same : (z : ℕ) → stored_in z (lvs u) ≡ stored_in z (lvs s)
  pub pins_same : (z : ℕ) → pins_in z (lvs u) ≡ pins_in z (lvs s)
  pub zero_empty : group_in 0 (lvs u) ≡ []
  pub listed : ListedTo (length s.entries) (lvs u)
  pub e : ℕ
  pub held : holders s L.entry strong p e ≡ true
  pub rest : Cells
  pub cells_are : (k f : ℕ) → cells u k f ≡ rest k f
  pub only : (k f : ℕ) → ¬ (f ≡ e) → rest k f ≡ cells s k f
  pub undoable : Undoable p s us rest
  pub shaped : Shaped (suc u.root.height) 1 0 top u.root.node
  -- One record more is free or used by tree and groups.
  pub freed : u.free + (nodes (suc u.root.height) u.root.node + length (lvs u) + members_many (lvs u))
      ≡ suc (s.free + (nodes (suc s.root.height) s.root.node + length (lvs s) + members_many (lvs s)))
  pub table_same : u.table ≡ s.table
  pub latches : Latches u

-- ---- an entry's value

-- Latches are read of the root and the session table.
same-latches : (s t : State) → t.root ≡ s.root → t.table ≡ s.table → Latches s → Latches t
same-latches s t e f = kept-latches s t e (λ q. ap (λ x. x.hand) (session-same s t f q))

value-did : (p i v : ℕ) (us : List Undo) (s : State) → Sound s → Undoable p s (value (suc i) v ∷ us) (cells s) → Undid p us s (C.undo (value (suc i) v) s)
unfolding C.undo on_entry
value-did p i v us s S w = record {
  many = length-set s.entries i (record { value = v; share = (entry_of (suc i) s).share; exclusive = (entry_of (suc i) s).exclusive });
  records_same = refl;
  holders_same = (value-undone i v s (omega (arith, w.1.1))).holders_same;
  gaps_same = λ z. refl;
  stored_same = λ z. refl;
  pins_same = λ z. refl;
  zero_empty = S.zero_empty;
  listed = S.listed;
  e = suc i;
  held = w.0;
  rest = cells s;
  cells_are = λ k f. refl;
  only = λ k f n. refl;
  undoable = w.2;
  shaped = S.shaped;
  freed = omega arith;
  table_same = refl;
  latches = same-latches s (C.undo (value (suc i) v) s) refl refl (latches-of S);
}

-- ---- a membership

-- The group of key k becomes as M says, where the entry e is then a member or not, as b says.
module _ (p k e : ℕ) (us : List Undo) (s : State) (S : Sound s) (H : Holding p s e k) (M : List ℕ → List ℕ) where
  abbrev K : Kept k s
  K = kept_of k s S H.key_stored

  abbrev f : Desc → Desc
  f = group_desc M

  abbrev v : State
  v = on_desc k f s

  -- The state has n free records then.
  group-did : (n : ℕ) (b : Bool) → elem e (M K.d.members) ≡ b → ((x : ℕ) → ¬ (x ≡ e) → elem x (M K.d.members) ≡ elem x K.d.members)
      → UpTo 1 (length s.entries) (M K.d.members) → n + length (M K.d.members) ≡ suc (s.free + length K.d.members)
      → Undoable p s us (set_cell k e b (cells s)) → Undid p us s (with_free n v)
  unfolding on_tree
  group-did n b here there upto many follow = record {
    many = refl;
    records_same = refl;
    holders_same = frame-holders s (with_free n v) refl (put-words-kept k s K f refl);
    gaps_same = put-gaps k s K f refl (λ w. w) refl;
    stored_same = put-stored k s K f refl;
    pins_same = put-pins-kept k s K f refl refl;
    zero_empty = sym (seen-group 0 v) ∙ put-group-other k s K f refl 0 (λ q. omega (arith, q, H.proper_key)) ∙ seen-group 0 s ∙ S.zero_empty;
    listed = put-listed k s K f (length s.entries) upto S.listed;
    e = e;
    held = H.entry_held;
    rest = set_cell k e b (cells s);
    cells_are = put-cells k s K f refl e b here there;
    only = λ j x n. set-entry k e b (cells s) j x (λ q. n (sym q));
    undoable = follow;
    shaped = on-desc-shaped f (λ d. refl) k s (formed-of S);
    freed = omega (arith, many, on-desc-used f (λ d. refl) k s K);
    table_same = refl;
    latches = same-latches v (with_free n v) refl refl (desc-latches k f s (latches-of S));
  }

-- The group of a key, in its descriptor.
module _ (p k e : ℕ) (us : List Undo) (s : State) (S : Sound s) where
  in-desc : (H : Holding p s e k) (b : Bool) → cells s k e ≡ b → elem e (kept_of k s S H.key_stored).d.members ≡ b
  in-desc H b c = let K = kept_of k s S H.key_stored in ap (elem e) (sym (was-group k s K)) ∙ c

  members-upto : (H : Holding p s e k) → UpTo 1 (length s.entries) (kept_of k s S H.key_stored).d.members
  members-upto H = kept-listed k s (kept_of k s S H.key_stored) (length s.entries) S.listed

  added-did : Undoable p s (added e k ∷ us) (cells s) → Undid p us s (C.undo (added e k) s)
  unfolding C.undo
  added-did w =
      let m = (kept_of k s S w.0.key_stored).d.members in
      let u = members-upto w.0 in
      group-did p k e us s S w.0 (without_member e) (s.free + 2) false (elem-without-same e 1 m (upto-up 1 (length s.entries) m u)) (λ x n. elem-without-other x e m n)
      (without-upto e 1 (length s.entries) m u) (omega (arith, without-many e m (in-desc w.0 true w.1))) w.2

  taken-did : Undoable p s (taken e k ∷ us) (cells s) → Undid p us s (C.undo (taken e k) s)
  unfolding C.undo on_tree
  taken-did w =
      let m = (kept_of k s S w.0.key_stored).d.members in
      group-did p k e us s S w.0 (with_member e) s.free true (elem-with-same e m) (λ x n. elem-with-other x e m n)
      (with-upto e 1 (length s.entries) m w.0.in_store.0 w.0.in_store.1 (members-upto w.0)) (omega (arith, with-many e m (in-desc w.0 false w.1))) w.2

pub undo-did : (p : ℕ) (b : Undo) (us : List Undo) (s : State) → Sound s → Undoable p s (b ∷ us) (cells s) → Undid p us s (C.undo b s)
undo-did p (value zero v) us s S w = absurd (omega (arith, w.1.0))
undo-did p (value (suc i) v) us s S w = value-did p i v us s S w
undo-did p (added e k) us s S w = added-did p k e us s S w
undo-did p (taken e k) us s S w = taken-did p k e us s S w

-- ---- with the chain

-- A session with other undo records.
abbrev pub with_undos : List Undo → Session → Session
with_undos us x = record { begun = x.begun; order = x.order; hand = x.hand; undos = us; asked = x.asked }

module _ (p : ℕ) (b : Undo) (us : List Undo) (s : State) (S : Sound s) (chain : (session_of p s).undos ≡ b ∷ us) (u : State) (U : Undid p us s u) where
  abbrev x : Session
  x = with_undos us (get_or s.table p idle)

  abbrev pub undid : State
  undid = with_table (set s.table p x) u

  begun : (session_of p s).begun ≡ true
  begun = go (session_of p s).begun refl
    where
      full : b ∷ us ≡ [] → ⊥
      full e = omega (arith, ap length e)

      go : (o : Bool) → (session_of p s).begun ≡ o → o ≡ true
      go true q = refl
      go false q = absurd (full (sym chain ∙ S.unbegun_undos p q))

  h : p < length s.table
  h = begun-seat p s begun

  mine : session_of p undid ≡ with_undos us (session_of p s)
  unfolding on_session session_of
  mine = session-same (on_session p (λ _. x) s) undid refl p ∙ session-put p (λ _. x) s h

  theirs : (q : ℕ) → ¬ (p ≡ q) → session_of q undid ≡ session_of q s
  unfolding on_session
  theirs q n = session-same (on_session p (λ _. x) s) undid refl q ∙ session-other p q (λ _. x) s n

  hands : (q : ℕ) → (session_of q undid).hand ≡ (session_of q s).hand
  hands q = go (ℕ_discrete p q)
    where
      go : Dec (p ≡ q) → (session_of q undid).hand ≡ (session_of q s).hand
      go (yes e) = subst (λ i. (session_of i undid).hand ≡ (session_of i s).hand) e (ap (λ y. y.hand) mine)
      go (no n) = ap (λ y. y.hand) (theirs q n)

  held_same : (k : Kind) (m : Mode) (q z : ℕ) → holders undid k m q z ≡ holders s k m q z
  held_same k m q z = frame-holders u undid refl refl k m q z ∙ U.holders_same k m q z

  -- Another session does not exclude the entry.
  cells_same : (q k f : ℕ) → ¬ (p ≡ q) → holders s L.entry strong q f ≡ true → cells undid k f ≡ cells s k f
  cells_same q k f n i = U.cells_are k f ∙ U.only k f (λ e. n (excludes-alone S p q U.e U.held (subst (λ f. holders s L.entry strong q f ≡ true) e i)))

  undid-effect : Effect p s undid
  undid-effect = record {
    many = U.many;
    records_same = U.records_same;
    seats_same = length-set s.table p x;
    others = theirs;
    held_others = λ k m q z n. held_same k m q z;
    gaps_others = λ q z n. ap (λ w. holds w q) (U.gaps_same z);
    stays = λ z e. inl (U.stored_same z ∙ e);
    cells_others = cells_same;
  }

  undid-remains : Remains p s undid
  undid-remains = record {
    many = U.many;
    held = λ k m z e. held_same k m p z ∙ e;
    gaps = λ z e. ap (λ w. holds w p) (U.gaps_same z) ∙ e;
    chosen = λ i z e. U.stored_same z ∙ e;
    updated = λ z i e. U.stored_same z ∙ e;
  }

  still : {A : Type 0} → (session_of p undid).begun ≡ false → A
  still e = absurd (true≢false (ap (λ y. y.begun) mine ∙ begun) e)

  undid-own : Own p undid
  undid-own = record {
    zero_stored = U.stored_same 0 ∙ S.zero_stored;
    zero_empty = U.zero_empty;
    top_free = U.stored_same top ∙ S.top_free;
    listed = subst (λ m. ListedTo m (lvs u)) (sym U.many) U.listed;
    agree = λ k m o a c z i j. S.agree k m o a c z (sym (held_same k m a z) ∙ i) (sym (held_same k o c z) ∙ j);
    pins_match = λ k. U.pins_same k ∙ S.pins_match k ∙ same-pins k;
    holds_begun = λ k m z e. ap (λ y. y.begun) mine ∙ begun;
    gaps_begun = λ z e. ap (λ y. y.begun) mine ∙ begun;
    hand_begun = λ n e. still e;
    undos_begun = λ e. still e;
    zero_unmarked = λ e. absurd (true≢false begun (subst (λ q. (session_of q s).begun ≡ false) (sym e) S.zero_unmarked));
    apart = apart-kept p s undid S.orders theirs (ap tenure mine);
    asked_idle = λ e. (ap (λ y. y.begun) mine ∙ begun, hands p ∙ (S.only_asked p (sym (ap (λ y. y.asked) mine) ∙ e)).1);
    checked = λ r e. checks-kept p r.code r.entry r.first r.second s undid U.many (S.checked p r (sym (hands p) ∙ e));
    standing = λ r e. let i = sym (hands p) ∙ e in stands-kept p s undid undid-remains r r.stage (S.checked p r i).0 (S.standing p r i);
    undoable = subst (λ y. Undoable p undid y.undos (cells undid)) (sym mine) (undoable-kept p s undid undid-remains us U.rest (cells undid) (λ k f i. U.cells_are k f) U.undoable);
  }
    where
      same-pins : (k : ℕ) → total (pins_by k) s.table ≡ total (pins_by k) undid.table
      same-pins k = omega (arith, total-set (pins_by k) s.table p x idle h)

  undid-formed : Formed undid
  unfolding session_of
  undid-formed = record {
    shaped = U.shaped;
    counted = omega (arith, U.freed, S.counted, U.records_same, ap length chain, total-set (λ y. length y.undos) s.table p x idle h);
  }

  undid-latches : Latches undid
  undid-latches = kept-latches u undid refl (λ q. hands q ∙ sym (ap (λ y. y.hand) (session-same s u U.table_same q))) U.latches

  pub undid-sound : Sound undid
  undid-sound = sound-from undid-formed undid-latches (keyed-after p s undid (keyed-of S) undid-effect undid-own)

pub undo-sound : (p : ℕ) (b : Undo) (us : List Undo) (s : State) → Sound s → (session_of p s).undos ≡ b ∷ us
    → Sound (with_table (set s.table p (with_undos us (get_or s.table p idle))) (C.undo b s))
undo-sound p b us s S chain = undid-sound p b us s S chain (C.undo b s) (undo-did p b us s S (subst (λ l. Undoable p s l (cells s)) chain (S.undoable p)))

-- ---- the chain of undo records

-- A stored key is seen in entries and tree alone.
kept_table : (k : ℕ) (l : List Session) (s : State) → Kept k (with_table l s) → Kept k s
unfolding desc_of on_tree
kept_table k l s K = record { A = K.A; d = K.d; B = K.B; key = K.key; low = K.low; high = K.high; was = K.was; desc = K.desc; put = K.put }

undo-undone : (p : ℕ) (b : Undo) (us : List Undo) (l : List Session) (s : State) → Sound (with_table l s) → Undoable p (with_table l s) (b ∷ us) (cells s) → Undone b s (C.undo b s)
undo-undone p (value zero v) us l s S w = absurd (omega (arith, w.1.0))
undo-undone p (value (suc i) v) us l s S w = value-undone i v s (omega (arith, w.1.1))
undo-undone p (added e k) us l s S w =
    let K = kept_table k l s (kept_of k (with_table l s) S w.0.key_stored) in
    added-undone e k s K (upto-up 1 (length s.entries) K.d.members (kept-listed k s K (length s.entries) S.listed))
undo-undone p (taken e k) us l s S w = taken-undone e k s (kept_table k l s (kept_of k (with_table l s) S w.0.key_stored))

-- Undoing does not look at the session table.
undo-table : (b : Undo) (l m : List Session) (s : State) → with_table m (C.undo b (with_table l s)) ≡ with_table m (C.undo b s)
unfolding C.undo on_entry on_tree entry_of
undo-table (value zero v) l m s = refl
undo-table (value (suc i) v) l m s = refl
undo-table (added e k) l m s = refl
undo-table (taken e k) l m s = refl

-- One link of the chain, with l for the session table.
module _ (p : ℕ) (b : Undo) (us : List Undo) (l : List Session) (s : State) (S : Sound (with_table l s)) (chain : (get_or l p idle).undos ≡ b ∷ us) where
  abbrev pub next_table : List Session
  next_table = set l p (with_undos us (get_or l p idle))

  pub link-sound : Sound (with_table next_table (C.undo b s))
  unfolding session_of
  link-sound = subst Sound (undo-table b l next_table s) (undo-sound p b us (with_table l s) S chain)

  pub link-undone : Undone b s (C.undo b s)
  unfolding session_of
  link-undone = undo-undone p b us l s S (subst (λ us. Undoable p (with_table l s) us (cells s)) chain (S.undoable p))
