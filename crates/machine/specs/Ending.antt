-- Soundness is kept where a request ends, goes on to a stage without a latch, or is put, where a session begins, and by format.
use Rattle.std.specs.Prelude.{◌≡◌, Bool, ◌||◌, List, [], ◌∷◌, suc, ◌+◌, ◌-◌, ◌≤◌, ◌<◌, ℕ, ltb, set}
use Rattle.std.proofs.Math.Path.{refl, sym, subst, ap}
use Rattle.std.proofs.Common.{◌∙◌, inl, nltb→le, length-set}
use Rattle.std.proofs.Math.Bool.{true, false, cond}
use Rattle.std.proofs.Math.Option.{none, some, some-injective, none-ne-some}
use Rattle.std.proofs.Math.Decide.{ℕ_discrete}
use native.Mathlib.Omega.{arith}
use Rattle.std.proofs.Math.Dec.{eqb, eqb-zero-suc}
use Rattle.std.proofs.Math.ListN.{length, length-replicate}
use Rattle.serial.specs.Serial.{true≢false, not-true}
use Rattle.serial.specs.Locks.{Kind, Mode}
use Rattle.machine.specs.Holders.{width}
use Rattle.machine.specs.Logic.{eqb_yes, eqb_no, neither, not-false, eqb-not}
use Rattle.machine.specs.Tree.{leaves}
use Rattle.machine.specs.State.{Desc, Stage, Request, Session, State, top, no_entry, idle, session_of, fresh, with_table, on_session, on_desc, pin_desc, set_hand, in_stage, at, ok}
use Rattle.machine.specs.Steps.{answer, pinned, unpin, unlatch, ended}
use Rattle.machine.specs.Calls.{call, format, begin, ask, ask_checks, asks, begin_checks, format_checks, records_for, request_checks, has_begun, in_hand, no_session, last_rank, renumbered, begins}
use Rattle.machine.specs.View.{holders, group_in, released-same, frame-holders}
use Rattle.machine.specs.Sound.{stored_in, pins_in, total, nodes, Shaped, of_hand, times, pins_by, latch_count, stands, Passes, Stands, cells, Undoable, Sound, Formed, Latches, Keyed, formed-of, latches-of, keyed-of, sound-from}
use Rattle.machine.specs.Effect.{Effect, Own}
use Rattle.machine.specs.Table.{with_hand, as_begun, as_asked, hand-seat, session-put, session-other, released, released-root, released-table, ended-own, renumbered-kept, renumbered-many}
use Rattle.machine.specs.Housekeeping.{Ordered, lvs, unlatch-leaves}
use Rattle.machine.specs.Keys.{Kept}
use Rattle.machine.specs.Totals.{total-set, total-least, total-none}
use Rattle.machine.specs.Checks.{refusing-cases, session-number, party-seat, session-begun, session-unbegun, empty_hand}
use Rattle.machine.specs.Looks.{shaped-ordered, pinned-stored, ordered-put, kept_at, kept_pins, put-pins, put-pins-other, begun-of, unbegun_hand}
use Rattle.machine.specs.Fresh.{fresh-session, fresh-held, fresh-gap}
use Rattle.machine.specs.Alike.{unlatch-formed, ended-formed}
use Rattle.machine.specs.Latch.{hand_stands, hand-latches, ended-latches}
use Rattle.machine.specs.Effects.{Remains, stands-kept, undoable-kept, keyed-after}
use Rattle.machine.specs.Calm.{calm-refl, calm-then, none-keyed}
use Rattle.machine.specs.Renumbering.{number-most, renumbered-sound}

-- ---- a session record alone

-- A session record that p may have.
pub record Sits (p : ℕ) (x : Session) (s : State) : Type 0 where
  pub undos_same : x.undos ≡ (session_of p s).undos
  pub begun_more : (session_of p s).begun ≡ true → x.begun ≡ true
  pub zero_unmarked : p ≡ 0 → x.begun ≡ false
  pub apart : (q : ℕ) → ¬ (p ≡ q) → x.begun ≡ true → (session_of q s).begun ≡ true → ¬ (x.order ≡ (session_of q s).order)
  pub hand_begun : ¬ (p ≡ 0) → x.begun ≡ false → x.hand ≡ none
  pub asked_idle : x.asked ≡ true → (x.begun ≡ true) × (x.hand ≡ none)
  pub pins_same : (k : ℕ) → pins_by k (session_of p s) ≡ pins_by k x
  pub checked : (r : Request) → x.hand ≡ some r → Passes (request_checks p r.code r.entry r.first r.second s)
  pub standing : (r : Request) → x.hand ≡ some r → Stands p s r r.stage

module _ (p : ℕ) (x : Session) (s : State) (S : Sound s) (h : p < length s.table) where
  abbrev seated : State
  seated = with_table (set s.table p x) s

  mine : session_of p seated ≡ x
  unfolding on_session
  mine = session-put p (λ _. x) s h

  theirs : (q : ℕ) → ¬ (p ≡ q) → session_of q seated ≡ session_of q s
  unfolding on_session
  theirs q n = session-other p q (λ _. x) s n

  holders_same : (k : Kind) (m : Mode) (q z : ℕ) → holders seated k m q z ≡ holders s k m q z
  holders_same = frame-holders s seated refl refl

  seat-effect : Effect p s seated
  seat-effect = record {
    many = refl;
    records_same = refl;
    seats_same = length-set s.table p x;
    others = theirs;
    held_others = λ k m q z n. holders_same k m q z;
    gaps_others = λ q z n. refl;
    stays = λ z e. inl e;
    cells_others = λ q k e n i. refl;
  }

  seat-remains : Remains p s seated
  seat-remains = record { many = refl; held = λ k m z e. holders_same k m p z ∙ e; gaps = λ z e. e; chosen = λ i z e. e; updated = λ z u e. e }

  module _ (I : Sits p x s) where
    seat-pins : (k : ℕ) → pins_in k (lvs s) ≡ total (pins_by k) (set s.table p x)
    unfolding session_of
    seat-pins k = omega (arith, S.pins_match k, I.pins_same k, total-set (pins_by k) s.table p x idle h)

    still-begun : (session_of p s).begun ≡ true → (session_of p seated).begun ≡ true
    still-begun b = ap (λ y. y.begun) mine ∙ I.begun_more b

    was-unbegun : (session_of p seated).begun ≡ false → (session_of p s).begun ≡ false
    was-unbegun e = not-true (session_of p s).begun (λ q. true≢false (still-begun q) e)

    seat-own : Own p seated
    seat-own = record {
      zero_stored = S.zero_stored;
      zero_empty = S.zero_empty;
      top_free = S.top_free;
      listed = S.listed;
      agree = λ k m n a b z u v. S.agree k m n a b z (sym (holders_same k m a z) ∙ u) (sym (holders_same k n b z) ∙ v);
      pins_match = seat-pins;
      holds_begun = λ k m z u. still-begun (S.only_begun k m p z (sym (holders_same k m p z) ∙ u));
      gaps_begun = λ z u. still-begun (S.only_begun_gaps p z u);
      hand_begun = λ n e. ap (λ y. y.hand) mine ∙ I.hand_begun n (sym (ap (λ y. y.begun) mine) ∙ e);
      undos_begun = λ e. ap (λ y. y.undos) mine ∙ I.undos_same ∙ S.unbegun_undos p (was-unbegun e);
      zero_unmarked = λ e. ap (λ y. y.begun) mine ∙ I.zero_unmarked e;
      apart = λ q n u v e. I.apart q n (sym (ap (λ y. y.begun) mine) ∙ u) (sym (ap (λ y. y.begun) (theirs q n)) ∙ v) (sym (ap (λ y. y.order) mine) ∙ e ∙ ap (λ y. y.order) (theirs q n));
      asked_idle = λ e. subst (λ y. (y.begun ≡ true) × (y.hand ≡ none)) (sym mine) (I.asked_idle (sym (ap (λ y. y.asked) mine) ∙ e));
      checked = λ r e. I.checked r (sym (ap (λ y. y.hand) mine) ∙ e);
      standing = λ r e. let o = sym (ap (λ y. y.hand) mine) ∙ e in stands-kept p s seated seat-remains r r.stage (I.checked r o).0 (I.standing r o);
      undoable = subst (λ us. Undoable p seated us (cells s)) (sym (ap (λ y. y.undos) mine ∙ I.undos_same))
          (undoable-kept p s seated seat-remains (session_of p s).undos (cells s) (cells s) (λ k e i. refl) (S.undoable p));
    }

    seat-formed : Formed seated
    unfolding session_of
    seat-formed = record {
      shaped = S.shaped;
      counted = omega (arith, S.counted, total-set (λ y. length y.undos) s.table p x idle h, ap length I.undos_same);
    }

    -- Neither the old request nor the new one has latched a node.
    module _ (was : hand_stands (session_of p s).hand ≡ 0) (is : hand_stands x.hand ≡ 0) where
      seat-stands : (q : ℕ) → Dec (p ≡ q) → hand_stands (session_of q seated).hand ≡ hand_stands (session_of q s).hand
      seat-stands q (yes e) = subst (λ i. hand_stands (session_of i seated).hand ≡ hand_stands (session_of i s).hand) e (ap (λ y. hand_stands y.hand) mine ∙ is ∙ sym was)
      seat-stands q (no n) = ap (λ y. hand_stands y.hand) (theirs q n)

      -- Only another party stands at a node.
      seat-hand : (q : ℕ) (r : Request) (y : ℕ) → Dec (p ≡ q) → (session_of q seated).hand ≡ some r → r.stage ≡ at y → (session_of q s).hand ≡ some r
      seat-hand q r y (yes e) u v =
          let one : 1 ≡ hand_stands (session_of q seated).hand = sym (ap hand_stands u ∙ ap stands v) in
          absurd (omega (arith, one, subst (λ i. hand_stands (session_of i seated).hand ≡ 0) e (ap (λ y. hand_stands y.hand) mine ∙ is)))
      seat-hand q r y (no n) u v = sym (ap (λ o. o.hand) (theirs q n)) ∙ u

      seat-latches : Latches seated
      seat-latches = hand-latches s seated refl (λ q. seat-stands q (ℕ_discrete p q)) (λ q r y u v. (r, seat-hand q r y (ℕ_discrete p q) u v, v)) (latches-of S)

      pub seat-sound : Sound seated
      seat-sound = sound-from seat-formed seat-latches (keyed-after p s seated (keyed-of S) seat-effect seat-own)

-- ---- a request in hand

-- A request that party p may have in hand: it is begun, or the housekeeper.
pub record Fits (p : ℕ) (r : Request) (s : State) : Type 0 where
  pub begun : ¬ (p ≡ 0) → (session_of p s).begun ≡ true
  pub unasked : (session_of p s).asked ≡ false
  pub unlatched : stands r.stage ≡ 0
  pub pins_same : (k : ℕ) → pins_by k (session_of p s) ≡ times k (pinned r r.stage)
  pub checked : Passes (request_checks p r.code r.entry r.first r.second s)
  pub standing : Stands p s r r.stage

fits-sits : (p : ℕ) (r : Request) (s : State) → Sound s → Fits p r s → Sits p (with_hand (some r) (session_of p s)) s
fits-sits p r s S F = record {
  undos_same = refl;
  begun_more = λ e. e;
  zero_unmarked = λ e. subst (λ q. (session_of q s).begun ≡ false) (sym e) S.zero_unmarked;
  apart = λ q n u v e. n (S.orders p q u v e);
  hand_begun = λ n e. absurd (true≢false (F.begun n) e);
  asked_idle = λ e. absurd (true≢false e F.unasked);
  pins_same = F.pins_same;
  checked = λ y e. subst (λ y. Passes (request_checks p y.code y.entry y.first y.second s)) (some-injective r y e) F.checked;
  standing = λ y e. subst (λ y. Stands p s y y.stage) (some-injective r y e) F.standing;
}

pub hand-sound : (p : ℕ) (r : Request) (s : State) → Sound s → p < length s.table → hand_stands (session_of p s).hand ≡ 0 → Fits p r s → Sound (set_hand p (some r) s)
unfolding set_hand on_session
hand-sound p r s S h was F = seat-sound p (with_hand (some r) (session_of p s)) s S h (fits-sits p r s S F) was F.unlatched

pub restage-sound : (p : ℕ) (r : Request) (g : Stage) (s : State) → Sound s → (session_of p s).hand ≡ some r → stands r.stage ≡ 0 → stands g ≡ 0
    → ((k : ℕ) → times k (pinned (in_stage g r) g) ≡ times k (pinned r r.stage)) → Stands p s (in_stage g r) g → Sound (set_hand p (some (in_stage g r)) s)
restage-sound p r g s S e was is pins st =
    hand-sound p (in_stage g r) s S (hand-seat p r s e) (ap hand_stands e ∙ was) (record {
      begun = begun-of s S.unbegun_hand p r e;
      unasked = not-true (session_of p s).asked (λ a. none-ne-some r (sym (S.only_asked p a).1 ∙ e));
      unlatched = is;
      pins_same = λ k. ap (of_hand 0 (λ r. times k (pinned r r.stage))) e ∙ sym (pins k);
      checked = S.checked p r e;
      standing = st;
    })

-- ---- begin

pub begin-sound : (p : ℕ) (s : State) → Sound s → no_session p ≡ false → has_begun p s ≡ false → Sound (begins p s)
unfolding begins on_session
begin-sound p s S a b = seat-sound p x t (renumbered-sound s S) (party-seat p t (renumbered-many s ∙ S.seats) (session-number p a).1) (record {
  undos_same = refl;
  begun_more = λ e. refl;
  zero_unmarked = λ e. absurd ((session-number p a).0 e);
  apart = λ q n u v e. let i = number-most q s (sym (renumbered-kept (λ y. y.begun) (λ n y. refl) q s) ∙ v) in
      let o : last_rank s.table ≡ (session_of q (renumbered s)).order = e in omega (arith, o, i);
  hand_begun = λ n e. idle-hand;
  asked_idle = λ e. (refl, idle-hand);
  pins_same = λ k. refl;
  checked = λ r e. absurd (nothing r e);
  standing = λ r e. absurd (nothing r e);
}) unlatched unlatched
  where
    t : State
    t = renumbered s

    x : Session
    x = as_begun (last_rank s.table) (session_of p t)

    idle-hand : (session_of p t).hand ≡ none
    idle-hand = renumbered-kept (λ y. y.hand) (λ n y. refl) p s ∙ unbegun_hand S p (session-number p a).0 (session-unbegun p s b)

    unlatched : hand_stands (session_of p t).hand ≡ 0
    unlatched = ap hand_stands idle-hand

    nothing : (r : Request) → (session_of p t).hand ≡ some r → ⊥
    nothing r e = none-ne-some r (sym idle-hand ∙ e)

-- ---- ask

pub ask-sound : (p : ℕ) (s : State) → Sound s → no_session p ≡ false → has_begun p s ≡ true → in_hand p s ≡ false → Sound (asks p s)
unfolding asks on_session
ask-sound p s S a b free =
    let begun = session-begun p s (session-number p a).0 b in
    let o = empty_hand p s free in
    seat-sound p (as_asked (session_of p s)) s S
    (party-seat p s S.seats (session-number p a).1) (record {
      undos_same = refl;
      begun_more = λ e. e;
      zero_unmarked = λ e. absurd ((session-number p a).0 e);
      apart = λ q n u v e. n (S.orders p q u v e);
      hand_begun = λ n e. o;
      asked_idle = λ e. (begun, o);
      pins_same = λ k. refl;
      checked = λ r e. absurd (none-ne-some r (sym o ∙ e));
      standing = λ r e. absurd (none-ne-some r (sym o ∙ e));
    }) (ap hand_stands o) (ap hand_stands o)

-- ---- put

module _ (p c e f g : ℕ) (s : State) where
  abbrev pub first_request : Stage → Request
  first_request x = record { code = c; entry = e; first = f; second = g; stage = x }

  -- The first stage has no latch and no pins.
  pub record First (x : Stage) : Type 0 where
    pub unlatched : stands x ≡ 0
    pub unpinned : (k : ℕ) → times k (pinned (first_request x) x) ≡ 0
    pub standing : Stands p s (first_request x) x

-- ---- a request ends

-- One pin less at a stored key that has one.
unpin-one : (j : ℕ) (s : State) → Kept j s → 1 ≤ pins_in j (lvs s) → (i : ℕ) → pins_in i (lvs (on_desc j (pin_desc (λ n. n - 1)) s)) + times i (j ∷ []) ≡ pins_in i (lvs s)
unpin-one j s K h i = go (ℕ_discrete j i)
  where
    f : Desc → Desc
    f = pin_desc (λ n. n - 1)

    here : pins_in j (lvs (on_desc j f s)) + times j (j ∷ []) ≡ pins_in j (lvs s)
    here = rw (eqb_yes j j refl) (omega (arith, h, put-pins j s K f refl, kept_pins j s K))

    go : Dec (j ≡ i) → pins_in i (lvs (on_desc j f s)) + times i (j ∷ []) ≡ pins_in i (lvs s)
    go (yes e) = subst (λ i. pins_in i (lvs (on_desc j f s)) + times i (j ∷ []) ≡ pins_in i (lvs s)) e here
    go (no n) = rw (eqb_no j i n) (omega (arith, put-pins-other j s K f refl i n))

-- Pins that are counted come off one by one: what is pinned is stored.
unpin-pins : (ks : List ℕ) (s : State) → Ordered s → ((k : ℕ) → times k ks ≤ pins_in k (lvs s)) → (k : ℕ) → pins_in k (lvs (unpin ks s)) + times k ks ≡ pins_in k (lvs s)
unfolding unpin
unpin-pins [] s o h k = omega arith
unpin-pins (j ∷ js) s o h k = omega (arith, unpin-pins js t (ordered-put j (pin_desc (λ n. n - 1)) (λ d. refl) s o) (λ i. omega (arith, h i, one i)) k, one k)
  where
    t : State
    t = on_desc j (pin_desc (λ n. n - 1)) s

    some-pin : 1 ≤ pins_in j (lvs s)
    some-pin = let e : times j (j ∷ js) ≡ 1 + times j js = ap (λ b. cond b 1 0 + times j js) (eqb_yes j j refl) in omega (arith, h j, e)

    one : (i : ℕ) → pins_in i (lvs t) + times i (j ∷ []) ≡ pins_in i (lvs s)
    one = unpin-one j s (kept_at j s o (pinned-stored j (lvs s) some-pin)) some-pin

module _ (p : ℕ) (r : Request) (s : State) (S : Sound s) (e : (session_of p s).hand ≡ some r) where
  abbrev keys : List ℕ
  keys = pinned r r.stage

  abbrev pub free : State
  free = unlatch p r.stage s

  by_hand : (k : ℕ) → pins_by k (session_of p s) ≡ times k keys
  by_hand k = ap (of_hand 0 (λ r. times k (pinned r r.stage))) e

  ended-pins : (k : ℕ) → pins_in k (lvs (released p r s)) + times k keys ≡ pins_in k (lvs s)
  unfolding Ordered session_of
  ended-pins k =
      let o : Ordered free = shaped-ordered (suc free.root.height) 1 0 top free.root.node (unlatch-formed p r.stage s (formed-of S)).shaped in
      let enough : (i : ℕ) → times i keys ≤ pins_in i (lvs free) = λ i. subst (λ l. times i keys ≤ pins_in i l) (sym (unlatch-leaves p r.stage s))
      (omega (arith, by_hand i, S.pins_match i, total-least (pins_by i) s.table p idle (hand-seat p r s e))) in
      omega (arith, unpin-pins keys free o enough k, ap (pins_in k) (unlatch-leaves p r.stage s))

  ended-keyed : Keyed (ended p r s)
  unfolding ended
  ended-keyed = none-keyed p s (released p r s) r (keyed-of S) e
      (calm-then p s s (released p r s) (calm-refl p s (keyed-of S)) (released-same p r s) (released-table p r s) (ap (λ y. y.records) (released-root p r s)))
      ended-pins

pub ended-sound : (p : ℕ) (r : Request) (s : State) → Sound s → (session_of p s).hand ≡ some r → Sound (ended p r s)
ended-sound p r s S e = sound-from (ended-formed p r s (formed-of S)) (ended-latches p r s (latches-of S) e) (ended-keyed p r s S e)

pub ended-hand : (p : ℕ) (r : Request) (s : State) → (session_of p s).hand ≡ some r → (session_of p (ended p r s)).hand ≡ none
ended-hand p r s e = ap (λ y. y.hand) (ended-own p r s (hand-seat p r s e))

-- ---- format

module _ (m r : ℕ) where
  no-hand : {A : Type 0} (p : ℕ) (q : Request) → (session_of p (fresh m r)).hand ≡ some q → A
  no-hand p q e = absurd (none-ne-some q (sym (ap (λ y. y.hand) (fresh-session m r p)) ∙ e))

  pub fresh-sound : 1 ≤ m → m ≤ 1024 → 8 ≤ r → r ≤ 4096 → Sound (fresh m r)
  unfolding fresh leaves stored_in group_in pins_in nodes Shaped latch_count
  fresh-sound a b c d = record {
    sizes = (omega (arith, length-replicate m no_entry), omega (arith, length-replicate m no_entry), c, d);
    seats = refl;
    counted = omega (arith, total-none (λ y. length y.undos) idle refl (suc width));
    shaped = (omega arith, omega arith, tt, ((omega arith, omega arith), refl));
    zero_stored = refl;
    zero_empty = refl;
    top_free = refl;
    listed = (tt, tt);
    only_begun = λ k n p z e. absurd (true≢false e (fresh-held m r k n p z));
    only_begun_gaps = λ p z e. absurd (true≢false e (fresh-gap m r p z));
    agree = λ k n o p q z e f. absurd (true≢false e (fresh-held m r k n p z));
    unbegun_hand = λ p e. ap (λ y. y.hand) (fresh-session m r (suc p));
    unbegun_undos = λ p e. ap (λ y. y.undos) (fresh-session m r p);
    zero_unmarked = ap (λ y. y.begun) (fresh-session m r 0);
    orders = λ p q e. absurd (true≢false e (ap (λ y. y.begun) (fresh-session m r p)));
    only_asked = λ p e. absurd (true≢false e (ap (λ y. y.asked) (fresh-session m r p)));
    pins_match = λ k. no_pins (eqb 0 k) ∙ sym (total-none (pins_by k) idle refl (suc width));
    latches_match = λ p. ap (λ b. cond {A = ℕ} b 1 0 + 0) (eqb-zero-suc p) ∙ sym (ap (λ y. hand_stands y.hand) (fresh-session m r p));
    placed = λ p q x e f. no-hand p q e;
    checked = λ p q e. no-hand p q e;
    standing = λ p q e. no-hand p q e;
    undoable = λ p. subst (λ y. Undoable p (fresh m r) y.undos (cells (fresh m r))) (sym (fresh-session m r p)) tt;
  }
    where
      no_pins : (o : Bool) → cond {A = ℕ} o 0 0 ≡ 0
      no_pins true = refl
      no_pins false = refl

-- ---- the calls

pub begin-keeps : (p : ℕ) (s : State) → Sound s → Sound (call (begin p) s).next
unfolding call
begin-keeps p s S = refusing-cases (λ o. Sound o.next) (begin_checks p s) s (answer ok (begins p s)) (λ n. S) (λ k. begin-sound p s S k.0 k.1.0)

pub ask-keeps : (p : ℕ) (s : State) → Sound s → Sound (call (ask p) s).next
unfolding call
ask-keeps p s S = refusing-cases (λ o. Sound o.next) (ask_checks p s) s (answer ok (asks p s)) (λ n. S) (λ k. ask-sound p s S k.0 (not-false (has_begun p s) k.1.0) k.1.1.1.0)

-- Format starts anew, whatever the store was; refused it leaves it.
pub format-keeps : (m words : ℕ) (s : State) → Sound s → Sound (call (format m words) s).next
unfolding call
format-keeps m words s S = refusing-cases (λ o. Sound o.next) (format_checks m words) s (answer ok (fresh m (records_for m words))) (λ n. S) (λ k. started k.0)
  where
    started : (eqb m 0 || ltb 1024 m || ltb (records_for m words) 8) ≡ false → Sound (fresh m (records_for m words))
    started e =
        let a = neither (eqb m 0 || ltb 1024 m) (ltb (records_for m words) 8) e in
        let b = neither (eqb m 0) (ltb 1024 m) a.0 in
        fresh-sound m (records_for m words) (let z = eqb-not m 0 b.0 in omega arith) (nltb→le 1024 m (rw b.1 tt)) (nltb→le (records_for m words) 8 (rw a.1 tt)) (omega arith)
