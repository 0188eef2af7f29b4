-- The session table: what is read of it after one session's record is changed, and after the parts of calls that leave it as it was.
use Rattle.std.specs.Prelude.{◌≡◌, refl, Bool, true, false, cond, List, [], ◌∷◌, zero, suc, ◌-◌, ◌<◌, ℕ, length, get_or, set}
use Rattle.std.proofs.Common.{sym, ◌∙◌, ap, arith, length-set, get_or-set_same, get_or-set_other}
use Rattle.std.proofs.Math.Option.{Option, none, some}
use Rattle.std.proofs.lemmas.List.{length-map}
use Rattle.std.proofs.Math.ListN.{get_or-map}
use Rattle.serial.specs.Serial.{true≢false}
use Rattle.machine.specs.Logic.{either}
use Rattle.machine.specs.State.{Stage, start, enter, change, take, Request, Undo, value, added, taken, Session, State, idle, session_of, with_root, on_entry, on_session, on_tree, on_desc, pin_desc, set_hand, add_undo, at}
use Rattle.machine.specs.Steps.{pinned, unpin, unlatch, ended}
use Rattle.machine.specs.Calls.{is_some, leave, undo, undo-all, end_hand, rank, last_rank, ranked, renumbered, begins}

-- ---- one record changed

pub session-put : (p : ℕ) (f : Session → Session) (s : State) → p < length s.table → session_of p (on_session p f s) ≡ f (session_of p s)
unfolding on_session session_of
session-put p f s h = get_or-set_same s.table p (f (get_or s.table p idle)) idle h

pub session-other : (p q : ℕ) (f : Session → Session) (s : State) → ¬ (p ≡ q) → session_of q (on_session p f s) ≡ session_of q s
unfolding on_session session_of
session-other p q f s n = get_or-set_other s.table p q (f (get_or s.table p idle)) idle (λ e. n (sym e))

pub session-many : (p : ℕ) (f : Session → Session) (s : State) → length (on_session p f s).table ≡ length s.table
unfolding on_session session_of
session-many p f s = length-set s.table p (f (get_or s.table p idle))

-- What the change keeps of a record, is kept of every session, whether it has a record or not.
pub session-kept : {B : Type 0} (π : Session → B) (p : ℕ) (f : Session → Session) (s : State) → ((x : Session) → π (f x) ≡ π x) → (q : ℕ)
    → π (session_of q (on_session p f s)) ≡ π (session_of q s)
unfolding on_session session_of
session-kept π p f s e q = go s.table p q
  where
    go : (l : List Session) (i j : ℕ) → π (get_or (set l i (f (get_or l i idle))) j idle) ≡ π (get_or l j idle)
    go [] i j = refl
    go (x ∷ l) zero zero = e x
    go (x ∷ l) zero (suc j) = refl
    go (x ∷ l) (suc i) zero = refl
    go (x ∷ l) (suc i) (suc j) = go l i j

-- Whether it is begun, its place in the order of begins, and whether it is asked: what no step changes.
abbrev pub tenure : Session → Bool × ℕ × Bool
tenure t = (t.begun, t.order, t.asked)

-- A session with another request in hand; with one more undo record.
abbrev pub with_hand : Option Request → Session → Session
with_hand r t = record { begun = t.begun; order = t.order; hand = r; undos = t.undos; asked = t.asked }

abbrev pub with_undo : Undo → Session → Session
with_undo b t = record { begun = t.begun; order = t.order; hand = t.hand; undos = b ∷ t.undos; asked = t.asked }

pub hand_put : (p : ℕ) (r : Option Request) (s : State) → p < length s.table → session_of p (set_hand p r s) ≡ with_hand r (session_of p s)
unfolding set_hand
hand_put p r s h = session-put p (with_hand r) s h

pub hand-other : (p q : ℕ) (r : Option Request) (s : State) → ¬ (p ≡ q) → session_of q (set_hand p r s) ≡ session_of q s
unfolding set_hand
hand-other p q r s n = session-other p q (with_hand r) s n

pub hand-many : (p : ℕ) (r : Option Request) (s : State) → length (set_hand p r s).table ≡ length s.table
unfolding set_hand
hand-many p r s = session-many p (with_hand r) s

pub hand-tenure : (p q : ℕ) (r : Option Request) (s : State) → tenure (session_of q (set_hand p r s)) ≡ tenure (session_of q s)
unfolding set_hand
hand-tenure p q r s = session-kept tenure p (with_hand r) s (λ x. refl) q

-- Who is asked stays.
pub hand-marks : (p q : ℕ) (r : Option Request) (s : State) → (session_of q (set_hand p r s)).asked ≡ (session_of q s).asked
hand-marks p q r s = ap (λ x. x.2) (hand-tenure p q r s)

pub undo-put : (p : ℕ) (b : Undo) (s : State) → p < length s.table → session_of p (add_undo p b s) ≡ with_undo b (session_of p s)
unfolding add_undo
undo-put p b s h = session-put p (with_undo b) s h

pub undo-other : (p q : ℕ) (b : Undo) (s : State) → ¬ (p ≡ q) → session_of q (add_undo p b s) ≡ session_of q s
unfolding add_undo
undo-other p q b s n = session-other p q (with_undo b) s n

pub undo-many : (p : ℕ) (b : Undo) (s : State) → length (add_undo p b s).table ≡ length s.table
unfolding add_undo
undo-many p b s = session-many p (with_undo b) s

-- A session that has anything has a record in the table.
has-seat : (π : Session → Bool) → π idle ≡ false → (l : List Session) (p : ℕ) → π (get_or l p idle) ≡ true → p < length l
has-seat π z [] p e = absurd (true≢false e z)
has-seat π z (x ∷ l) zero e = omega arith
has-seat π z (x ∷ l) (suc p) e = omega (arith, has-seat π z l p e)

pub hand-seat : (p : ℕ) (r : Request) (s : State) → (session_of p s).hand ≡ some r → p < length s.table
unfolding session_of
hand-seat p r s e = has-seat (λ t. is_some t.hand) refl s.table p (ap is_some e)

pub asked-seat : (p : ℕ) (s : State) → (session_of p s).asked ≡ true → p < length s.table
unfolding session_of
asked-seat p s e = has-seat (λ t. t.asked) refl s.table p e

pub begun-seat : (p : ℕ) (s : State) → (session_of p s).begun ≡ true → p < length s.table
unfolding session_of
begun-seat p s e = has-seat (λ t. t.begun) refl s.table p e

-- ---- the table as it was

pub session-same : (s t : State) → t.table ≡ s.table → (q : ℕ) → session_of q t ≡ session_of q s
unfolding session_of
session-same s t e q = ap (λ l. get_or l q idle) e

-- Where pins and a latch end, only the root changes.
pub unpin-root : (ks : List ℕ) (s : State) → unpin ks s ≡ with_root (unpin ks s).root s
unfolding unpin on_tree
unpin-root [] s = refl
unpin-root (k ∷ ks) s = unpin-root ks (on_desc k (pin_desc (λ n. n - 1)) s)

pub unlatch-root : (p : ℕ) (g : Stage) (s : State) → unlatch p g s ≡ with_root (unlatch p g s).root s
unfolding unlatch on_tree
unlatch-root p start s = refl
unlatch-root p (enter x) s = refl
unlatch-root p (at x) s = refl
unlatch-root p change s = refl
unlatch-root p (take x) s = refl

-- The latch and the pins of a request ended.
abbrev pub released : ℕ → Request → State → State
released p r s = unpin (pinned r r.stage) (unlatch p r.stage s)

pub released-root : (p : ℕ) (r : Request) (s : State) → released p r s ≡ with_root (released p r s).root s
released-root p r s = unpin-root (pinned r r.stage) (unlatch p r.stage s) ∙ ap (with_root (released p r s).root) (unlatch-root p r.stage s)

pub released-table : (p : ℕ) (r : Request) (s : State) → (released p r s).table ≡ s.table
released-table p r s = ap (λ t. t.table) (released-root p r s)

pub undo-table : (u : Undo) (s : State) → (undo u s).table ≡ s.table
unfolding undo on_tree on_entry
undo-table (value zero v) s = refl
undo-table (value (suc e) v) s = refl
undo-table (added e k) s = refl
undo-table (taken e k) s = refl

pub undo-all-table : (us : List Undo) (s : State) → (undo-all us s).table ≡ s.table
unfolding undo-all
undo-all-table [] s = refl
undo-all-table (u ∷ us) s = undo-all-table us (undo u s) ∙ undo-table u s

-- ---- a request that ends, a session that leaves

pub ended-own : (p : ℕ) (r : Request) (s : State) → p < length s.table → session_of p (ended p r s) ≡ with_hand none (session_of p s)
unfolding ended
ended-own p r s h =
    let t = released p r s in
    hand_put p none t (let n = ap length (released-table p r s) in omega arith) ∙ ap (with_hand none) (session-same s t (released-table p r s) p)

pub ended-other : (p q : ℕ) (r : Request) (s : State) → ¬ (p ≡ q) → session_of q (ended p r s) ≡ session_of q s
unfolding ended
ended-other p q r s n = hand-other p q none (released p r s) n ∙ session-same s (released p r s) (released-table p r s) q

pub ended-tenure : (p q : ℕ) (r : Request) (s : State) → tenure (session_of q (ended p r s)) ≡ tenure (session_of q s)
unfolding ended
ended-tenure p q r s = hand-tenure p q none (released p r s) ∙ ap tenure (session-same s (released p r s) (released-table p r s) q)

pub ended-many : (p : ℕ) (r : Request) (s : State) → length (ended p r s).table ≡ length s.table
unfolding ended
ended-many p r s = hand-many p none (released p r s) ∙ ap length (released-table p r s)

pub end-other : (p q : ℕ) (h : Option Request) (s : State) → ¬ (p ≡ q) → session_of q (end_hand p h s) ≡ session_of q s
unfolding end_hand
end-other p q none s n = refl
end-other p q (some r) s n = ended-other p q r s n

pub end-many : (p : ℕ) (h : Option Request) (s : State) → length (end_hand p h s).table ≡ length s.table
unfolding end_hand
end-many p none s = refl
end-many p (some r) s = ended-many p r s

pub leave_own : (p : ℕ) (s : State) → p < length s.table → session_of p (leave p s) ≡ idle
unfolding leave on_tree
leave_own p s h = session-put p (λ _. idle) _ h

pub leave-other : (p q : ℕ) (s : State) → ¬ (p ≡ q) → session_of q (leave p s) ≡ session_of q s
unfolding leave on_tree
leave-other p q s n = session-other p q (λ _. idle) _ n ∙ session-same s _ refl q

-- ---- a session that begins

-- A session with another number; one that is begun, with its number.
abbrev pub with_order : ℕ → Session → Session
with_order n t = record { begun = t.begun; order = n; hand = t.hand; undos = t.undos; asked = t.asked }

abbrev pub as_begun : ℕ → Session → Session
as_begun n t = record { begun = true; order = n; hand = t.hand; undos = t.undos; asked = t.asked }

-- One that is asked.
abbrev pub as_asked : Session → Session
as_asked t = record { begun = t.begun; order = t.order; hand = t.hand; undos = t.undos; asked = true }

pub ranked-kept : {B : Type 0} (π : Session → B) → ((n : ℕ) (x : Session) → π (with_order n x) ≡ π x) → (ts : List Session) (x : Session) → π (ranked ts x) ≡ π x
ranked-kept π e ts x = either (λ y. π y ≡ π x) x.begun (with_order (rank ts x) x) x (e (rank ts x) x) refl

pub renumbered-session : (q : ℕ) (s : State) → session_of q (renumbered s) ≡ ranked s.table (session_of q s)
unfolding renumbered session_of
renumbered-session q s = get_or-map (ranked s.table) s.table q idle

-- Only numbers change, and only those of begun sessions.
pub renumbered-kept : {B : Type 0} (π : Session → B) → ((n : ℕ) (x : Session) → π (with_order n x) ≡ π x) → (q : ℕ) (s : State) → π (session_of q (renumbered s)) ≡ π (session_of q s)
renumbered-kept π e q s = ap π (renumbered-session q s) ∙ ranked-kept π e s.table (session_of q s)

pub renumbered-unbegun : (q : ℕ) (s : State) → (session_of q s).begun ≡ false → session_of q (renumbered s) ≡ session_of q s
renumbered-unbegun q s e =
    let x = session_of q s in
    renumbered-session q s ∙ ap (λ b. cond b (with_order (rank s.table x) x) x) e

pub renumbered-order : (q : ℕ) (s : State) → (session_of q s).begun ≡ true → (session_of q (renumbered s)).order ≡ rank s.table (session_of q s)
renumbered-order q s e =
    let x = session_of q s in
    ap (λ y. y.order) (renumbered-session q s ∙ ap (λ b. cond b (with_order (rank s.table x) x) x) e)

pub renumbered-many : (s : State) → length (renumbered s).table ≡ length s.table
unfolding renumbered
renumbered-many s = length-map s.table (ranked s.table)

pub begins-own : (p : ℕ) (s : State) → p < length s.table → session_of p (begins p s) ≡ as_begun (last_rank s.table) (session_of p (renumbered s))
unfolding begins
begins-own p s h = session-put p (as_begun (last_rank s.table)) (renumbered s) (let n = renumbered-many s in omega arith)

pub begins-other : (p q : ℕ) (s : State) → ¬ (p ≡ q) → session_of q (begins p s) ≡ session_of q (renumbered s)
unfolding begins
begins-other p q s n = session-other p q (as_begun (last_rank s.table)) (renumbered s) n

-- What neither the mark nor the number is.
pub begins-kept : {B : Type 0} (π : Session → B) → ((n : ℕ) (x : Session) → π (with_order n x) ≡ π x) → ((n : ℕ) (x : Session) → π (as_begun n x) ≡ π x)
    → (p q : ℕ) (s : State) → π (session_of q (begins p s)) ≡ π (session_of q s)
unfolding begins
begins-kept π e f p q s = session-kept π p (as_begun (last_rank s.table)) (renumbered s) (f (last_rank s.table)) q ∙ renumbered-kept π e q s

pub begins-many : (p : ℕ) (s : State) → length (begins p s).table ≡ length s.table
unfolding begins
begins-many p s = session-many p (as_begun (last_rank s.table)) (renumbered s) ∙ renumbered-many s
