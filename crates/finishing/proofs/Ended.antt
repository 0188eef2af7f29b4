-- Theorems of specs/Ended: what it defines is there.
use Rattle.std.specs.Prelude.{◌≡◌, List, ◌++◌, ℕ, ◌≤◌, set}
use Rattle.std.proofs.Math.Path.{refl, ap, subst}
use Rattle.std.proofs.Common.{sym, ◌∙◌, arith}
use Rattle.std.proofs.Math.Option.{none}
use Rattle.sessions.specs.declared.Session.{Session}
use Rattle.sessions.specs.Sessions.{session_at}
use Rattle.serial.specs.Calls as C
use Rattle.machine.specs.Holders.{width}
use Rattle.machine.specs.State.{set_hand, refused}
use Rattle.machine.specs.Steps.{pinned, unpin, unlatch, ended, answer}
use Rattle.machine.specs.Sound as S
use Rattle.meaning.specs.Reading.{stage_of, M-of}
use Rattle.layout.specs.Layout.{Lay, Holds, means}
use Rattle.layout.specs.Row.{Becomes, Moves}
use Rattle.layout.specs.Places.{means-hand}
use Rattle.layout.specs.Asked.{request_in}
use Rattle.layout.specs.Left.{Left, left-then}
use Rattle.endings.specs.Table.{idled}
use Rattle.finishing.specs.Finishing.{end_latch, end_low, end_high, end_request}
use Rattle.finishing.specs.Ended.{lows, highs, stage_is, pins-are, pins-left, first-left, first_code}

-- ---- the whole

module _ (s : List ℕ) (t : List Session) (L : Lay) (H : Holds s t L) (sound : S.Sound (means L t)) (p : ℕ) (l : p ≤ width) where
  abbrev x : Session
  x = session_at t p

  -- All that the request has goes.
  pub all_left : ¬ (x.stage ≡ 0) → (y : Session) → y.stage ≡ 0 → y.undo ≡ x.undo
      → Left s (set t p y) L (end_request s (M-of s) x) (λ z. unpin (pinned (request_in x) (stage_of x)) (unlatch p (stage_of x) z))
  unfolding end_request
  all_left n y idle undo =
      let m = M-of s in
      let S = stage_is x.stage n (H.hands p l).stage in
      let A = first-left s t L H sound p l y idle undo S in
      let B = pins-left (end_latch s m x) (set t p y) A.lay A.holds A.sizes A.rising m A.written.entries x
      (λ e. A.has x.first x.low ((H.hands p l).low n e)) (λ e d. A.has x.second x.high ((H.hands p l).high e d)) in
      subst (λ ks. Left s (set t p y) L (end_high (end_low (end_latch s m x) m x) m x) (λ z. unpin ks (unlatch p (stage_of x) z)))
      (sym (pins-are x S (first_code s t L H sound p l n)))
      (left-then s (set t p y) L (end_latch s m x) (end_high (end_low (end_latch s m x) m x) m x) (unlatch p (stage_of x)) (unpin (lows x ++ highs x)) A B)

  pub ended-becomes : ¬ (x.stage ≡ 0) → Becomes s (end_request s (M-of s) x) (set t p (idled x)) (ended p (request_in x) (means L t))
  unfolding ended idled request_in
  ended-becomes n =
      let y = idled x in
      let A = all_left n y refl refl in
      record {
        lay = A.lay;
        holds = A.holds;
        means_next = means-hand A.lay t p y (omega (arith, l, H.seats)) refl ∙ ap (set_hand p none) (A.is t);
        long = A.written.long;
        entries = A.written.entries;
        records = A.written.records;
        rest = A.written.rest;
      }

  pub refused-moves : ¬ (x.stage ≡ 0) → (k : ℕ) (b : ℕ) → Moves s t p (end_request s (M-of s) x) (idled x) (C.refused k b) (answer (refused k b) (ended p (request_in x) (means L t)))
  refused-moves n k b = record { becomes = ended-becomes n; tells = refl }
