-- Abort on words: the request in hand ends, the session's undo records are undone, and it leaves every entry and every descriptor.
use Rattle.std.specs.Prelude.{◌≡◌, refl, Bool, cond, List, ℕ, zero, suc, ◌≤◌, ◌<◌, length, set}
use Rattle.std.proofs.Math.Path.{sym, ap, ap₂, subst}
use Rattle.std.proofs.Common.{◌∙◌, arith, set-set, eq-eqb}
use Rattle.std.proofs.Math.Option.{Option, none, some}
use Rattle.std.proofs.Math.Decide.{ℕ_discrete}
use Rattle.words.specs.Store.{beyond}
use Rattle.sessions.specs.declared.Session.{Session}
use Rattle.sessions.specs.Sessions.{session_at}
use Rattle.machine.specs.Holders.{width}
use Rattle.machine.specs.State.{Request, State, session_of}
use Rattle.machine.specs.Calls.{leave, end_hand}
use Rattle.machine.specs.Sound as S
use Rattle.machine.specs.Ending.{ended-sound}
use Rattle.meaning.specs.Reading.{M-of, R-of}
use Rattle.meaning.specs.Frame.{leaf_records}
use Rattle.layout.specs.Layout.{Undone, leaves_in, Holds, means, session_in}
use Rattle.layout.specs.Row.{Stands, Becomes}
use Rattle.layout.specs.Written.{Written, written_then}
use Rattle.layout.specs.Keep.{table_here}
use Rattle.layout.specs.Places.{session-means}
use Rattle.layout.specs.Walks.{few-entries}
use Rattle.layout.specs.Asked.{request_in, hand-means, becomes-same}
use Rattle.undo_log.specs.Undoing.{undo_all, Undoings}
use Rattle.endings.specs.Table.{idled, unbegun}
use Rattle.undoing.specs.Rows.{with_undo}
use Rattle.undoing.specs.OneUndone.{undos-means}
use Rattle.undoing.specs.AllUndone.{AllUndone, all_undone_state}
use Rattle.undoing.proofs.AllUndone.{undo-all-row}
use Rattle.finishing.proofs.Ended.{ended-becomes}
use Rattle.finishing.proofs.Ready.{end-ready}
use Rattle.leaving.specs.Words.{leave_all, LeaveReady}
use Rattle.leaving.specs.LeaveRow.{left_lay, leave-row, leave-means, leave-written, leave-ready}
use Rattle.aborting.specs.Words.{hand_ended, HandReady, hand-none, hand-some}

-- ---- the session records

idled-same : (x : Session) → x.stage ≡ 0 → x ≡ idled x
unfolding idled
idled-same x e =
    λ z. record {
      begun = x.begun;
      code = x.code;
      entry = x.entry;
      first = x.first;
      second = x.second;
      stage = e z;
      target = x.target;
      at = x.at;
      level = x.level;
      low = x.low;
      high = x.high;
      last = x.last;
      undo = x.undo;
      order = x.order;
      asked = x.asked;
    }

unbegun-with : (x : Session) (v : ℕ) → unbegun (with_undo x v) ≡ unbegun x
unfolding unbegun
unbegun-with x v = refl

-- ---- the request in hand ends

no-hand : (u : ℕ → List Undone) (p : ℕ) (x : Session) → x.stage ≡ 0 → (session_in u p x).hand ≡ none
unfolding request_in
no-hand u zero x e = ap (λ (b : Bool). cond b none (some (request_in x))) (eq-eqb x.stage 0 e)
no-hand u (suc p) x e = ap (λ (b : Bool). cond b none (some (request_in x))) (eq-eqb x.stage 0 e)

module _ (s : List ℕ) (t : List Session) (A : Stands s t) (p : ℕ) (high : p ≤ width) where
  abbrev pub x : Session
  x = session_at t p

  abbrev pub σ : State
  σ = means A.lay t

  abbrev τ : State
  τ = end_hand p (session_of p σ).hand σ

  seat : p < length t
  seat = omega (arith, high, A.holds.seats)

  none-there : x.stage ≡ 0 → (session_of p σ).hand ≡ none
  none-there e = ap (λ y. y.hand) (session-means A.lay t p seat) ∙ no-hand A.lay.undos p x e

  same-state : x.stage ≡ 0 → σ ≡ τ
  unfolding end_hand
  same-state e = sym (ap (λ o. end_hand p o σ) (none-there e))

  hand-idle : x.stage ≡ 0 → Becomes s (hand_ended s (M-of s) x) (set t p (idled x)) τ
  hand-idle e =
      subst (λ z. Becomes s (hand_ended s (M-of s) x) (set t p (idled x)) z) (same-state e)
      (subst (λ y. Becomes s (hand_ended s (M-of s) x) (set t p y) σ) (idled-same x e)
      (subst (λ w. Becomes s w (set t p x) σ) (hand-none s (M-of s) x e) (becomes-same s t A p)))

  hand_ends : ¬ (x.stage ≡ 0) → Becomes s (hand_ended s (M-of s) x) (set t p (idled x)) τ
  unfolding end_hand
  hand_ends n =
      subst (λ z. Becomes s (hand_ended s (M-of s) x) (set t p (idled x)) z) (sym (ap (λ o. end_hand p o σ) (hand-means A.lay t p seat n)))
      (subst (λ w. Becomes s w (set t p (idled x)) (end_hand p (some (request_in x)) σ)) (hand-some s (M-of s) x n)
      (ended-becomes s t A.lay A.holds A.sound p high n))

  pub hand-becomes : Becomes s (hand_ended s (M-of s) x) (set t p (idled x)) τ
  hand-becomes = go (ℕ_discrete x.stage 0)
    where
      go : Dec (x.stage ≡ 0) → Becomes s (hand_ended s (M-of s) x) (set t p (idled x)) τ
      go (yes e) = hand-idle e
      go (no n) = hand_ends n

  pub ended-stands : (o : Option Request) → (session_of p σ).hand ≡ o → S.Sound (end_hand p o σ)
  unfolding end_hand
  ended-stands none e = A.sound
  ended-stands (some r) e = ended-sound p r σ A.sound e

  unfoldable pub hand_stands : Stands (hand_ended s (M-of s) x) (set t p (idled x))
  hand_stands = record {
    lay = hand-becomes.lay;
    holds = hand-becomes.holds;
    sound = subst S.Sound (sym hand-becomes.means_next) (ended-stands (session_of p σ).hand refl);
  }

  pub hand-ready : HandReady s (M-of s) x
  hand-ready n = end-ready s t A.lay A.holds A.sound p high n

-- ---- a session whose undo records are undone leaves

module _ (s : List ℕ) (t : List Session) (A : Stands s t) (q : ℕ) (high : suc q ≤ width) where
  abbrev pub p : ℕ
  p = suc q

  abbrev pub y : Session
  y = session_at t (suc q)

  abbrev undone : List ℕ
  undone = undo_all s (M-of s) (R-of s) (session_at t (suc q)).undo

  abbrev then : List Session
  then = set t (suc q) (with_undo (session_at t (suc q)) 0)

  W : AllUndone s t A.lay (suc q) (A.lay.undos (suc q)) (R-of s) undone
  W = undo-all-row s t A.lay A.holds A.sound (suc q) (omega arith) high

  few : M-of undone ≤ 1024
  few = few-entries undone then W.lay W.holds W.sound

  left-words : leave_all undone (M-of undone) (R-of undone) p ≡ leave_all undone (M-of s) (R-of s) p
  left-words = ap₂ (λ m r. leave_all undone m r p) W.written.entries W.written.records

  left-table : set then p (unbegun (session_at then p)) ≡ set t p (unbegun y)
  left-table =
      ap (λ z. set then p (unbegun z)) (table_here t p (with_undo y 0) A.holds.seats high)
      ∙ ap (set then p) (unbegun-with y 0) ∙ set-set t p (with_undo y 0) (unbegun y)

  left-holds : Holds (leave_all undone (M-of s) (R-of s) p) (set t p (unbegun y)) (left_lay W.lay p)
  left-holds =
      subst (λ w. Holds w (set t p (unbegun y)) (left_lay W.lay p)) left-words
      (subst (λ z. Holds (leave_all undone (M-of undone) (R-of undone) p) z (left_lay W.lay p)) left-table (leave-row undone then W.lay W.holds few q high W.mine))

  undone-means : means W.lay then ≡ all_undone_state p (session_of p (means A.lay t)).undos (means A.lay t)
  undone-means =
      W.means_next ∙ ap (λ bs. all_undone_state p bs (means A.lay t)) (sym (undos-means A.lay t p (omega arith) (omega (arith, A.holds.seats, high))))

  left-means : means (left_lay W.lay p) (set t p (unbegun y)) ≡ leave p (all_undone_state p (session_of p (means A.lay t)).undos (means A.lay t))
  left-means = ap (means (left_lay W.lay p)) (sym left-table) ∙ leave-means W.lay then q W.mine ∙ ap (leave p) undone-means

  left-written : Written undone (leave_all undone (M-of s) (R-of s) p) (leaf_records (leaves_in W.lay))
  left-written = subst (λ w. Written undone w (leaf_records (leaves_in W.lay))) left-words (leave-written undone then W.lay W.holds few q)

  pub left-becomes : Becomes s (leave_all undone (M-of s) (R-of s) (suc q)) (set t (suc q) (unbegun (session_at t (suc q))))
      (leave (suc q) (all_undone_state (suc q) (session_of (suc q) (means A.lay t)).undos (means A.lay t)))
  left-becomes =
      let B = written_then s undone (leave_all undone (M-of s) (R-of s) p) W.touched (leaf_records (leaves_in W.lay)) W.written left-written in
      record { lay = left_lay W.lay p; holds = left-holds; means_next = left-means; long = B.long; entries = B.entries; records = B.records; rest = B.rest }

  pub left-ready : LeaveReady undone (M-of s) (R-of s) (suc q)
  left-ready =
      subst (λ m. LeaveReady undone m (R-of s) p) W.written.entries
      (subst (λ r. LeaveReady undone (M-of undone) r p) W.written.records (leave-ready undone then W.lay W.holds few q high))

  pub undos-ready : Undoings s (M-of s) (R-of s) (session_at t (suc q)).undo
  undos-ready = W.ready
