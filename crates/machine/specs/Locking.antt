-- A step that gives its session p long locks, and changes values or one group under them, keeps what is read at keys, entries and the session table.
use Rattle.std.specs.Prelude.{◌≡◌, true, List, [], ◌∷◌, suc, ◌+◌, ◌<◌, ℕ, length, get_or}
use Rattle.std.proofs.Math.Path.{refl}
use Rattle.std.proofs.Common.{sym, ◌∙◌, subst, ap, inl, arith, length-set}
use Rattle.std.proofs.Math.Option.{some, none-ne-some}
use Rattle.serial.specs.Serial.{true≢false}
use Rattle.serial.specs.Locks.{Kind, Mode, strong, Agree}
use Rattle.serial.specs.Locks as L
use Rattle.serial.specs.LockMachine.{Locked}
use Rattle.machine.specs.Holders.{holds}
use Rattle.machine.specs.State.{Entry, Desc, Request, Undo, State, top, idle, entry_of, session_of, with_free, on_entry, on_session, on_tree, on_desc, add_undo}
use Rattle.machine.specs.Steps.{rule}
use Rattle.machine.specs.View.{holders, group_in, seen, view, frame-holders}
use Rattle.machine.specs.Sound.{gap_word, stored_in, pins_in, ListedTo, UpTo, total, records_used, Shaped, pins_by, Cells, cells, Undoable, Sound, Formed, Keyed, keyed-of}
use Rattle.machine.specs.Effect.{Effect, Own}
use Rattle.machine.specs.Table.{tenure, undo-put, undo-other, undo-many, hand-seat, session-same}
use Rattle.machine.specs.Housekeeping.{lvs}
use Rattle.machine.specs.Keys.{Kept}
use Rattle.machine.specs.Totals.{undo-pins, undo-undos}
use Rattle.machine.specs.Checks.{checks-kept}
use Rattle.machine.specs.Looks.{put-stored, put-pins-kept, put-gaps, put-gaps-by, put-listed, hand_begun}
use Rattle.machine.specs.Effects.{Remains, stands-kept, undoable-kept, apart-kept, keyed-after}

-- ---- what a lock step leaves

-- Session p holds no less, the others hold the same, and all agree.
pub record Grants (p : ℕ) (s t : State) : Type 0 where
  pub more : (l : Kind) (n : Mode) (z : ℕ) → holders s l n p z ≡ true → holders t l n p z ≡ true
  pub others : (l : Kind) (n : Mode) (q z : ℕ) → ¬ (p ≡ q) → holders t l n q z ≡ holders s l n q z
  pub agree : Agree rule (holders t)

pub locked-grants : (p : ℕ) (s t : State) → Locked rule p (view s) (view t) → Grants p s t
locked-grants p s t K = record { more = K.more; others = λ l n q z e. (K.others q e).holds_kept l n z; agree = K.agree }

pub grants-like : (p : ℕ) (s t u : State) → ((l : Kind) (n : Mode) (q z : ℕ) → holders u l n q z ≡ holders t l n q z) → Grants p s t → Grants p s u
grants-like p s t u e G = record {
  more = λ l n z h. e l n p z ∙ G.more l n z h;
  others = λ l n q z x. e l n q z ∙ G.others l n q z x;
  agree = λ l n o a b z h i. G.agree l n o a b z (sym (e l n a z) ∙ h) (sym (e l o b z) ∙ i);
}

-- What is read of entries and tree.
pub record Locks (p : ℕ) (s t : State) : Type 0 where
  pub grants : Grants p s t
  pub many : length t.entries ≡ length s.entries
  pub records_same : t.records ≡ s.records
  pub stored_same : (k : ℕ) → stored_in k (lvs t) ≡ stored_in k (lvs s)
  pub pins_same : (k : ℕ) → pins_in k (lvs t) ≡ pins_in k (lvs s)
  pub gaps_more : (z : ℕ) → holds (gap_word z (seen s)) p ≡ true → holds (gap_word z (seen t)) p ≡ true
  pub gaps_others : (q z : ℕ) → ¬ (p ≡ q) → holds (gap_word z (seen t)) q ≡ holds (gap_word z (seen s)) q
  pub zero_empty : group_in 0 (lvs t) ≡ []
  pub listed : ListedTo (length t.entries) (lvs t)
  pub cells_others : (q k e : ℕ) → ¬ (p ≡ q) → holders s L.entry strong q e ≡ true → cells t k e ≡ cells s k e

-- What is read of the session table, but p's undo records.
pub record Seated (p : ℕ) (s t : State) : Type 0 where
  pub seats_same : length t.table ≡ length s.table
  pub others : (q : ℕ) → ¬ (p ≡ q) → session_of q t ≡ session_of q s
  pub tenure_same : tenure (session_of p t) ≡ tenure (session_of p s)
  pub hand_same : (session_of p t).hand ≡ (session_of p s).hand
  pub pins_total : (k : ℕ) → total (pins_by k) t.table ≡ total (pins_by k) s.table

pub seated-same : (p : ℕ) (s t : State) → t.table ≡ s.table → Seated p s t
seated-same p s t e = record {
  seats_same = ap length e;
  others = λ q n. session-same s t e q;
  tenure_same = ap tenure (session-same s t e p);
  hand_same = ap (λ x. x.hand) (session-same s t e p);
  pins_total = λ k. ap (total (pins_by k)) e;
}

-- The party itself goes on, and its undo records stay good.
pub locks-remains : (p : ℕ) (s t : State) → Locks p s t → Remains p s t
locks-remains p s t W = record {
  many = W.many;
  held = W.grants.more;
  gaps = W.gaps_more;
  chosen = λ e z h. W.stored_same z ∙ h;
  updated = λ z u h. W.stored_same z ∙ h;
}

pub undoable-more : (p : ℕ) (s t : State) → Locks p s t → (us : List Undo) (c d : Cells) → ((k e : ℕ) → d k e ≡ c k e) → Undoable p s us c → Undoable p t us d
undoable-more p s t W us c d a u = undoable-kept p s t (locks-remains p s t W) us c d (λ k e h. a k e) u

-- ---- the whole

module _ (m : ℕ) (r : Request) (s t : State) (S : Sound s) (hand : (session_of (suc m) s).hand ≡ some r) (W : Locks (suc m) s t) (T : Seated (suc m) s t) where
  abbrev p : ℕ
  p = suc m

  begun : (session_of p t).begun ≡ true
  begun = ap (λ x. x.0) T.tenure_same ∙ hand_begun S m r hand

  locks-effect : Effect p s t
  locks-effect = record {
    many = W.many;
    records_same = W.records_same;
    seats_same = T.seats_same;
    others = T.others;
    held_others = W.grants.others;
    gaps_others = W.gaps_others;
    stays = λ z h. inl (W.stored_same z ∙ h);
    cells_others = W.cells_others;
  }

  locks-own : Undoable p t (session_of p t).undos (cells t) → Own p t
  locks-own u = record {
    zero_stored = W.stored_same 0 ∙ S.zero_stored;
    zero_empty = W.zero_empty;
    top_free = W.stored_same top ∙ S.top_free;
    listed = W.listed;
    agree = W.grants.agree;
    pins_match = λ k. W.pins_same k ∙ S.pins_match k ∙ sym (T.pins_total k);
    holds_begun = λ k n z h. begun;
    gaps_begun = λ z h. begun;
    hand_begun = λ n h. absurd (true≢false begun h);
    undos_begun = λ h. absurd (true≢false begun h);
    zero_unmarked = λ z. absurd (omega (arith, z));
    apart = apart-kept p s t S.orders T.others T.tenure_same;
    asked_idle = λ h. absurd (none-ne-some r (sym (S.only_asked p (sym (ap (λ x. x.2) T.tenure_same) ∙ h)).1 ∙ hand));
    checked = λ q h. checks-kept p q.code q.entry q.first q.second s t W.many (S.checked p q (sym T.hand_same ∙ h));
    standing = λ q h. let i = sym T.hand_same ∙ h in stands-kept p s t (locks-remains p s t W) q q.stage (S.checked p q i).0 (S.standing p q i);
    undoable = u;
  }

  locks-keyed : Undoable p t (session_of p t).undos (cells t) → Keyed t
  locks-keyed u = keyed-after p s t (keyed-of S) locks-effect (locks-own u)

-- Locks alone.
pub only-keyed : (m : ℕ) (r : Request) (s t : State) → Sound s → (session_of (suc m) s).hand ≡ some r → Locks (suc m) s t → t.table ≡ s.table
    → ((k e : ℕ) → cells t k e ≡ cells s k e) → Keyed t
unfolding session_of
only-keyed m r s t S hand W e c = locks-keyed m r s t S hand W (seated-same (suc m) s t e)
    (undoable-more (suc m) s t W (session_of (suc m) t).undos (cells s) (cells t) c
    (subst (λ l. Undoable (suc m) s (get_or l (suc m) idle).undos (cells s)) (sym e) (S.undoable (suc m))))

-- ---- an undo record more, and other records free

module _ (p n : ℕ) (b : Undo) (s t : State) (W : Locks p s t) where
  abbrev after : State
  after = add_undo p b (with_free n t)

  pub undo-locks : Locks p s after
  unfolding add_undo on_session
  undo-locks = record {
    grants = grants-like p s t after (frame-holders t after refl refl) W.grants;
    many = W.many;
    records_same = W.records_same;
    stored_same = W.stored_same;
    pins_same = W.pins_same;
    gaps_more = W.gaps_more;
    gaps_others = W.gaps_others;
    zero_empty = W.zero_empty;
    listed = W.listed;
    cells_others = W.cells_others;
  }

  undo-seated : t.table ≡ s.table → p < length s.table → Seated p s after
  undo-seated e h =
      let R = seated-same p s (with_free n t) e in
      let i : p < length t.table = subst (λ l. p < length l) (sym e) h in
      record {
        seats_same = undo-many p b (with_free n t) ∙ R.seats_same;
        others = λ q x. undo-other p q b (with_free n t) x ∙ R.others q x;
        tenure_same = ap tenure (undo-put p b (with_free n t) i) ∙ R.tenure_same;
        hand_same = ap (λ x. x.hand) (undo-put p b (with_free n t) i) ∙ R.hand_same;
        pins_total = λ k. undo-pins k p b (with_free n t) ∙ R.pins_total k;
      }

pub undo-keyed : (m n : ℕ) (b : Undo) (r : Request) (s t : State) → Sound s → (session_of (suc m) s).hand ≡ some r → Locks (suc m) s t → t.table ≡ s.table
    → Undoable (suc m) (add_undo (suc m) b (with_free n t)) (b ∷ (session_of (suc m) s).undos) (cells t) → Keyed (add_undo (suc m) b (with_free n t))
unfolding session_of add_undo on_session
undo-keyed m n b r s t S hand W e u =
    let h = hand-seat (suc m) r s hand in
    let i : suc m < length t.table = subst (λ l. suc m < length l) (sym e) h in
    locks-keyed m r s (add_undo (suc m) b (with_free n t)) S hand (undo-locks (suc m) n b s t W) (undo-seated (suc m) n b s t W e h)
    (subst (λ l. Undoable (suc m) (add_undo (suc m) b (with_free n t)) l (cells t))
    (sym (ap (λ x. x.undos) (undo-put (suc m) b (with_free n t) i) ∙ ap (λ l. b ∷ (get_or l (suc m) idle).undos) e)) u)

pub undo-formed : (p n : ℕ) (b : Undo) (s : State) → p < length s.table → Shaped (suc s.root.height) 1 0 top s.root.node → n + suc (records_used s) ≡ s.records
    → Formed (add_undo p b (with_free n s))
undo-formed p n b s h F e = unfold add_undo on_session in (record { shaped = F; counted = count })
  where
    count : (add_undo p b (with_free n s)).free + records_used (add_undo p b (with_free n s)) ≡ (add_undo p b (with_free n s)).records
    count = unfold add_undo on_session in (omega (arith, e, undo-undos p b (with_free n s) h))

-- ---- an entry changed, one descriptor changed

pub entry-locks : (p i : ℕ) (f : Entry → Entry) (s : State) → Sound s → Grants p s (on_entry (suc i) f s) → Locks p s (on_entry (suc i) f s)
unfolding on_entry
entry-locks p i f s S G =
    let e = length-set s.entries i (f (entry_of (suc i) s)) in
    record {
      grants = G;
      many = e;
      records_same = refl;
      stored_same = λ k. refl;
      pins_same = λ k. refl;
      gaps_more = λ z h. h;
      gaps_others = λ q z n. refl;
      zero_empty = S.zero_empty;
      listed = subst (λ n. ListedTo n (lvs s)) (sym e) S.listed;
      cells_others = λ q k x n h. refl;
    }

pub desc-locks : (p k : ℕ) (f : Desc → Desc) (s : State) → Sound s → (K : Kept k s) → (f K.d).key ≡ K.d.key → (f K.d).pins ≡ K.d.pins
    → (holds K.d.gap p ≡ true → holds (f K.d).gap p ≡ true) → ((q : ℕ) → ¬ (p ≡ q) → holds (f K.d).gap q ≡ holds K.d.gap q)
    → group_in 0 (lvs (on_desc k f s)) ≡ [] → UpTo 1 (length s.entries) (f K.d).members
    → ((q j e : ℕ) → ¬ (p ≡ q) → holders s L.entry strong q e ≡ true → cells (on_desc k f s) j e ≡ cells s j e)
    → Grants p s (on_desc k f s) → Locks p s (on_desc k f s)
unfolding on_tree
desc-locks p k f s S K fk fp own other z u c G = record {
  grants = G;
  many = refl;
  records_same = refl;
  stored_same = put-stored k s K f fk;
  pins_same = put-pins-kept k s K f fk fp;
  gaps_more = λ j h. put-gaps-by k s K f fk (λ a b. holds b p ≡ true → holds a p ≡ true) (λ w x. x) own j h;
  gaps_others = λ q j n. put-gaps k s K f fk (λ w. holds w q) (other q n) j;
  zero_empty = z;
  listed = put-listed k s K f (length s.entries) u S.listed;
  cells_others = c;
}
