-- A step that changes the tree, but nothing that is read at entries and keys save pins, and then its own request in hand: it keeps what is read at keys,
-- entries and the session table.
use Rattle.std.specs.Prelude.{◌≡◌, true, false, List, [], ◌∷◌, map, ◌⊎◌, ◌+◌, ◌<◌, ℕ}
use Rattle.std.proofs.Math.Path.{refl, subst, ap}
use Rattle.std.proofs.Common.{sym, ◌∙◌, inl, inr, arith}
use Rattle.std.proofs.Math.Option.{Option, none, some, none-ne-some, some-injective}
use Rattle.std.proofs.Math.Decide.{ℕ_discrete}
use Rattle.std.proofs.Math.ListN.{length}
use Rattle.serial.specs.Serial.{true≢false}
use Rattle.serial.specs.Locks.{Kind, Mode}
use Rattle.machine.specs.Holders.{holds, elem}
use Rattle.machine.specs.State.{Desc, Stage, start, enter, change, take, Request, State, top, session_of, on_session, set_hand, in_stage, at}
use Rattle.machine.specs.Steps.{pinned, goes_on}
use Rattle.machine.specs.Calls.{request_checks}
use Rattle.machine.specs.View.{plain, seen, holders, update_word, Same, same_refl, set-hand-same}
use Rattle.machine.specs.Sound.{gap_word, stored_in, pins_in, total, ListedTo, of_hand, times, pins_by, Passes, Changing, Descends, to-change, to_first, to_choice, Stands, Undoable, cells, Keyed, to-second}
use Rattle.machine.specs.Effect.{Effect}
use Rattle.machine.specs.Table.{tenure, with_hand, hand_put, hand-other, hand-many, hand-seat, session-same}
use Rattle.machine.specs.Housekeeping.{Like, same-like, like-trans, like-unseen, lvs, seen_plain, seen-group}
use Rattle.machine.specs.Totals.{hand-pins}
use Rattle.machine.specs.Checks.{checks-kept}
use Rattle.machine.specs.Looks.{stored-map, listed-map, begun-of}
use Rattle.machine.specs.Effects.{Remains, stands-kept, undoable-kept, apart-kept, keyed-after}

-- ---- the tree

-- Party p's step makes v of s: entries, sessions, holders and groups of every key are the same; a key goes only where the housekeeper takes it out, and
-- nobody updates that one.
pub record Calm (p : ℕ) (s v : State) : Type 0 where
  pub like : Like s v
  pub table_same : v.table ≡ s.table
  pub records_same : v.records ≡ s.records
  pub gap_same : (z : ℕ) → gap_word z (seen v) ≡ gap_word z (seen s)
  pub stays : (z : ℕ) → stored_in z (lvs s) ≡ true → (stored_in z (lvs v) ≡ true) ⊎ ((p ≡ 0) × (update_word z (seen s) ≡ 0))
  pub zero_stored : stored_in 0 (lvs v) ≡ true
  pub top_free : stored_in top (lvs v) ≡ false
  pub listed : ListedTo (length v.entries) (lvs v)

pub calm-refl : (p : ℕ) (s : State) → Keyed s → Calm p s s
calm-refl p s K = record {
  like = same-like (same_refl s);
  table_same = refl;
  records_same = refl;
  gap_same = λ z. refl;
  stays = λ z h. inl h;
  zero_stored = K.zero_stored;
  top_free = K.top_free;
  listed = K.listed;
}

from-plain : (m : ℕ) (l : List Desc) → ListedTo m (map plain l) → ListedTo m l
from-plain m [] u = tt
from-plain m (d ∷ l) u = (u.0, from-plain m l u.1)

pub stored-seen : (k : ℕ) (s t : State) → seen t ≡ seen s → stored_in k (lvs t) ≡ stored_in k (lvs s)
stored-seen k s t e = sym (stored-map plain (λ d. refl) k (lvs t)) ∙ ap (stored_in k) (sym (seen_plain t) ∙ e ∙ seen_plain s) ∙ stored-map plain (λ d. refl) k (lvs s)

pub listed-seen : (m : ℕ) (s t : State) → seen t ≡ seen s → ListedTo m (lvs s) → ListedTo m (lvs t)
listed-seen m s t e u = from-plain m (lvs t) (subst (ListedTo m) (sym (seen_plain s) ∙ sym e ∙ seen_plain t) (listed-map plain (λ d. refl) m (lvs s) u))

pub calm-then : (p : ℕ) (s v w : State) → Calm p s v → Same v w → w.table ≡ v.table → w.records ≡ v.records → Calm p s w
calm-then p s v w C h e f = record {
  like = like-trans C.like (same-like h);
  table_same = e ∙ C.table_same;
  records_same = f ∙ C.records_same;
  gap_same = λ z. ap (gap_word z) h.seen_same ∙ C.gap_same z;
  stays = λ z q. stays z (C.stays z q);
  zero_stored = stored-seen 0 v w h.seen_same ∙ C.zero_stored;
  top_free = stored-seen top v w h.seen_same ∙ C.top_free;
  listed = subst (λ l. ListedTo (length l) (lvs w)) (sym h.entries_same) (listed-seen (length v.entries) v w h.seen_same C.listed);
}
  where
    stays : (z : ℕ) → (stored_in z (lvs v) ≡ true) ⊎ ((p ≡ 0) × (update_word z (seen s) ≡ 0)) → (stored_in z (lvs w) ≡ true) ⊎ ((p ≡ 0) × (update_word z (seen s) ≡ 0))
    stays z (inl q) = inl (stored-seen z v w h.seen_same ∙ q)
    stays z (inr q) = inr q

-- ---- the request in hand

module _ (p : ℕ) (s v : State) (r : Request) (h : Option Request) (K : Keyed s) (e : (session_of p s).hand ≡ some r) (C : Calm p s v) where
  abbrev t : State
  t = set_hand p h v

  t-like : Like s t
  t-like = like-trans C.like (same-like (set-hand-same p h v))

  held_same : (k : Kind) (m : Mode) (q z : ℕ) → holders t k m q z ≡ holders s k m q z
  held_same k m q z = ((like-unseen s t t-like).stays q).holds_kept k m z

  gap-kept : (z : ℕ) → gap_word z (seen t) ≡ gap_word z (seen s)
  gap-kept z = ap (gap_word z) (set-hand-same p h v).seen_same ∙ C.gap_same z

  cells-kept : (k f : ℕ) → cells t k f ≡ cells s k f
  cells-kept k f = ap (elem f) (t-like.group_same k)

  t-leaves : lvs t ≡ lvs v
  unfolding set_hand on_session
  t-leaves = refl

  v-session : (q : ℕ) → session_of q v ≡ session_of q s
  v-session = session-same s v C.table_same

  seat : p < length v.table
  seat = hand-seat p r v (ap (λ x. x.hand) (v-session p) ∙ e)

  t-session : session_of p t ≡ with_hand h (session_of p s)
  t-session = hand_put p h v seat ∙ ap (with_hand h) (v-session p)

  t-hand : (session_of p t).hand ≡ h
  t-hand = ap (λ x. x.hand) t-session

  effect : Effect p s t
  effect = record {
    many = ap length t-like.entries_same;
    records_same = unfold set_hand on_session in C.records_same;
    seats_same = hand-many p h v ∙ ap length C.table_same;
    others = λ q n. hand-other p q h v n ∙ v-session q;
    held_others = λ k m q z n. held_same k m q z;
    gaps_others = λ q z n. ap (λ w. holds w q) (gap-kept z);
    stays = λ z q. subst (λ l. (stored_in z l ≡ true) ⊎ ((p ≡ 0) × (update_word z (seen s) ≡ 0))) (sym t-leaves) (C.stays z q);
    cells_others = λ q k f n w. cells-kept k f;
  }

  -- The party itself may go on, if the housekeeper finds its choice.
  pub remains : (p ≡ 0 → (z : ℕ) → stored_in z (lvs s) ≡ true → stored_in z (lvs v) ≡ true) → Remains p s t
  remains keeps = record {
    many = ap length t-like.entries_same;
    held = λ k m z q. held_same k m p z ∙ q;
    gaps = λ z q. ap (λ w. holds w p) (gap-kept z) ∙ q;
    chosen = λ o z q. ap (stored_in z) t-leaves ∙ keeps o z q;
    updated = λ z u q. ap (stored_in z) t-leaves ∙ go z q (C.stays z q);
  }
    where
      go : (z : ℕ) → stored_in z (lvs s) ≡ true → (stored_in z (lvs v) ≡ true) ⊎ ((p ≡ 0) × (update_word z (seen s) ≡ 0)) → stored_in z (lvs v) ≡ true
      go z q (inl w) = w
      go z q (inr w) = keeps w.0 z q

  own-undos : Undoable p t (session_of p t).undos (cells t)
  own-undos = subst (λ x. Undoable p t x.undos (cells t)) (sym t-session) (go (ℕ_discrete p 0))
    where
      go : Dec (p ≡ 0) → Undoable p t (session_of p s).undos (cells t)
      go (yes z) = subst (λ l. Undoable p t l (cells t)) (sym (K.unbegun_undos p (subst (λ q. (session_of q s).begun ≡ false) (sym z) K.zero_unmarked))) tt
      go (no n) = undoable-kept p s t (remains (λ z. absurd (n z))) (session_of p s).undos (cells s) (cells t) (λ k f w. cells-kept k f) (K.undoable p)

  t-pins : (k : ℕ) → pins_in k (lvs v) + times k (pinned r r.stage) ≡ pins_in k (lvs s) + of_hand 0 (λ o. times k (pinned o o.stage)) h
      → pins_in k (lvs t) ≡ total (pins_by k) t.table
  t-pins k q =
      let a : pins_in k (lvs t) ≡ pins_in k (lvs v) = ap (pins_in k) t-leaves in
      let b : total (pins_by k) t.table + pins_by k (session_of p v) ≡ total (pins_by k) v.table + of_hand 0 (λ o. times k (pinned o o.stage)) h = hand-pins k p h v seat in
      let c : pins_by k (session_of p v) ≡ times k (pinned r r.stage) = ap (pins_by k) (v-session p) ∙ ap (of_hand 0 (λ o. times k (pinned o o.stage))) e in
      let d : total (pins_by k) v.table ≡ pins_in k (lvs s) = ap (total (pins_by k)) C.table_same ∙ sym (K.pins_match k) in
      omega (arith, a, b, c, d, q)

  pub calm-keyed : ((k : ℕ) → pins_in k (lvs v) + times k (pinned r r.stage) ≡ pins_in k (lvs s) + of_hand 0 (λ o. times k (pinned o o.stage)) h)
      → ((o : Request) → h ≡ some o → Passes (request_checks p o.code o.entry o.first o.second s) × Stands p t o o.stage) → Keyed t
  calm-keyed pins fine = keyed-after p s t K effect (record {
    zero_stored = ap (stored_in 0) t-leaves ∙ C.zero_stored;
    zero_empty = sym (seen-group 0 t) ∙ t-like.group_same 0 ∙ seen-group 0 s ∙ K.zero_empty;
    top_free = ap (stored_in top) t-leaves ∙ C.top_free;
    listed = unfold set_hand on_session in C.listed;
    agree = λ k m n a b z f g. K.agree k m n a b z (sym (held_same k m a z) ∙ f) (sym (held_same k n b z) ∙ g);
    pins_match = λ k. t-pins k (pins k);
    holds_begun = λ k m z q. t-like.begun_same p ∙ K.only_begun k m p z (sym (held_same k m p z) ∙ q);
    gaps_begun = λ z q. t-like.begun_same p ∙ K.only_begun_gaps p z (sym (ap (λ w. holds w p) (gap-kept z)) ∙ q);
    hand_begun = λ n b. absurd (true≢false (begun-of s K.unbegun_hand p r e n) (sym (t-like.begun_same p) ∙ b));
    undos_begun = λ b. t-like.undos_same p ∙ K.unbegun_undos p (sym (t-like.begun_same p) ∙ b);
    zero_unmarked = λ z. t-like.begun_same p ∙ subst (λ q. (session_of q s).begun ≡ false) (sym z) K.zero_unmarked;
    apart = apart-kept p s t K.orders effect.others (ap tenure t-session);
    asked_idle = λ q. absurd (none-ne-some r (sym (K.only_asked p (sym (ap (λ x. x.asked) t-session) ∙ q)).1 ∙ e));
    checked = λ o q. checks-kept p o.code o.entry o.first o.second s t (ap length t-like.entries_same) (fine o (sym t-hand ∙ q)).0;
    standing = λ o q. (fine o (sym t-hand ∙ q)).1;
    undoable = own-undos;
  })

-- ---- it goes on, or has none

module _ (p : ℕ) (s : State) (r : Request) (f : Stage) where
  changing-in : Changing p s r → Changing p s (in_stage f r)
  changing-in h = record { code_3_4 = h.code_3_4; excludes = h.excludes }

  descends-in : (x : ℕ) → Descends p s r x → Descends p s (in_stage f r) x
  descends-in x (to-change C q) = to-change (changing-in C) q
  descends-in x (to_first c q) = to_first c q
  descends-in x (to-second c q) = to-second c q
  descends-in x (to_choice C) = to_choice (record { code_6 = C.code_6; above = C.above; stored = C.stored })

  -- The stage written in the request is not looked at.
  pub stands-in : (g : Stage) → Stands p s r g → Stands p s (in_stage f r) g
  stands-in start h = h
  stands-in (enter x) h = descends-in x h
  stands-in (at x) h = descends-in x h
  stands-in change h = changing-in h
  stands-in (take x) h = record { code_5 = h.code_5; from_first = h.from_first; to-second = h.to-second; held = h.held; ahead = h.ahead }

pub pinned-in : (r : Request) (f g : Stage) → pinned (in_stage f r) g ≡ pinned r g
unfolding pinned
pinned-in r f start = refl
pinned-in r f (enter x) = refl
pinned-in r f (at x) = refl
pinned-in r f change = refl
pinned-in r f (take x) = refl

pub goes-keyed : (p : ℕ) (s v : State) (r : Request) (g : Stage) → Keyed s → (session_of p s).hand ≡ some r → Calm p s v
    → (p ≡ 0 → (z : ℕ) → stored_in z (lvs s) ≡ true → stored_in z (lvs v) ≡ true)
    → ((k : ℕ) → pins_in k (lvs v) + times k (pinned r r.stage) ≡ pins_in k (lvs s) + times k (pinned r g))
    → Stands p s r g → Keyed (goes_on p r g v).next
unfolding goes_on
goes-keyed p s v r g K e C keeps pins stood =
    calm-keyed p s v r (some (in_stage g r)) K e C (λ k. pins k ∙ ap (λ l. pins_in k (lvs s) + times k l) (sym (pinned-in r g g))) (λ o q. subst Fine (some-injective (in_stage g r) o q) fine)
  where
    t : State
    t = set_hand p (some (in_stage g r)) v

    Fine : Request → Type 0
    Fine o = Passes (request_checks p o.code o.entry o.first o.second s) × Stands p t o o.stage

    fine : Fine (in_stage g r)
    fine = (K.checked p r e, stands-in p t r g g (stands-kept p s t (remains p s v r (some (in_stage g r)) K e C keeps) r g (K.checked p r e).0 stood))

pub none-keyed : (p : ℕ) (s v : State) (r : Request) → Keyed s → (session_of p s).hand ≡ some r → Calm p s v
    → ((k : ℕ) → pins_in k (lvs v) + times k (pinned r r.stage) ≡ pins_in k (lvs s)) → Keyed (set_hand p none v)
none-keyed p s v r K e C pins =
    calm-keyed p s v r none K e C (λ k. omega (arith, pins k)) (λ o q. absurd (none-ne-some o q))
