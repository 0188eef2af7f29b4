-- Theorems of specs/RecoverRow: what it defines is there.
use Rattle.std.specs.Prelude.{◌≡◌, Bool, cond, ◌&&◌, List, ℕ, zero, suc, ◌+◌, ◌≤◌, set}
use Rattle.std.proofs.Math.Path.{refl, subst}
use Rattle.std.proofs.Common.{sym, ap, ◌∙◌, arith}
use Rattle.std.proofs.Math.Bool.{true, false, not}
use Rattle.sessions.specs.declared.Session.{Session}
use Rattle.sessions.specs.Sessions.{session_at}
use Rattle.serial.specs.Recovery.{each}
use Rattle.machine.specs.Holders.{width}
use Rattle.machine.specs.State.{State, session_of}
use Rattle.machine.specs.State as M
use Rattle.machine.specs.Calls.{end_hand, is_asked, lapse, recovers}
use Rattle.machine.specs.Sound as S
use Rattle.machine.specs.Recover.{lapse-is, lapse-laws, recovered}
use Rattle.meaning.specs.Reading.{M-of, R-of, meaning}
use Rattle.meaning.specs.Sound as W
use Rattle.layout.specs.Layout.{means}
use Rattle.layout.specs.Row.{Stands, Becomes, becomes-then}
use Rattle.layout.specs.Back.{becomes-sound}
use Rattle.layout.specs.Places.{session-means}
use Rattle.endings.specs.Table.{idled, unbegun}
use Rattle.aborting.specs.Words.{hand_ended, abort_words, AbortReady}
use Rattle.aborting.specs.Abort.{hand-becomes}
use Rattle.aborting.proofs.Abort.{abort-becomes, abort-ready}
use Rattle.aborting.specs.RecoverRow.{Kept, kept, lapsing, lapse_words, recover_words, Turned, ended-first}

-- ---- one session

module _ (w : Kept) (A : Stands w.words w.table) (q : ℕ) (high : suc q ≤ width) where
  abbrev s : List ℕ
  s = w.words

  abbrev t : List Session
  t = w.table

  abbrev σ : State
  σ = means A.lay t

  lapses-is : lapsing (session_at t (suc q)) ≡ ((session_of (suc q) σ).begun && not (is_asked (suc q) σ))
  lapses-is = sym (ap (λ (y : M.Session). y.begun && not y.asked) (session-means A.lay t (suc q) (omega (arith, high, A.holds.seats))))

  lapse-row : Becomes s (lapse_words (M-of s) (R-of s) (suc q) w).words (lapse_words (M-of s) (R-of s) (suc q) w).table (lapse (suc q) σ)
  unfolding lapse_words
  lapse-row = go (lapsing (session_at t (suc q))) (sym lapses-is)
    where
      go : (b : Bool) → ((session_of (suc q) σ).begun && not (is_asked (suc q) σ)) ≡ b
          → Becomes s (cond b (kept (abort_words s (M-of s) (R-of s) (suc q) (session_at t (suc q))) (set t (suc q) (unbegun (session_at t (suc q))))) w).words
          (cond b (kept (abort_words s (M-of s) (R-of s) (suc q) (session_at t (suc q))) (set t (suc q) (unbegun (session_at t (suc q))))) w).table (lapse (suc q) σ)
      go true e = subst (Becomes s _ _) (sym (lapse-is (suc q) σ true e)) (abort-becomes s t A (suc q) (omega arith) high)
      go false e = subst (Becomes s s t) (sym (lapse-is (suc q) σ false e))
          (record { lay = A.lay; holds = A.holds; means_next = refl; long = refl; entries = refl; records = refl; rest = refl })

  lapse-sound : S.Sound (lapse (suc q) σ)
  lapse-sound = go ((session_of (suc q) σ).begun && not (is_asked (suc q) σ)) refl
    where
      go : (b : Bool) → ((session_of (suc q) σ).begun && not (is_asked (suc q) σ)) ≡ b → S.Sound (lapse (suc q) σ)
      go true e = lapse-laws.sound (suc q) σ A.sound e
      go false e = subst S.Sound (sym (lapse-is (suc q) σ false e)) A.sound

  -- What the code asks, where it aborts.
  pub lapse-ready : lapsing (session_at t (suc q)) ≡ true → AbortReady s (M-of s) (R-of s) (suc q) (session_at t (suc q))
  lapse-ready e = abort-ready s t A (suc q) (omega arith) high

-- ---- all of them

pub turned : (w : Kept) (A : Stands w.words w.table) (m r q : ℕ) → M-of w.words ≡ m → R-of w.words ≡ r → suc q ≤ width → Turned m r (suc q) w (means A.lay w.table)
turned w A m r q e f h =
    subst (λ z. Turned z r (suc q) w (means A.lay w.table)) e (subst (λ z. Turned (M-of w.words) z (suc q) w (means A.lay w.table)) f (record {
      becomes = B;
      stands = record { lay = B.lay; holds = B.holds; sound = subst S.Sound (sym B.means_next) (lapse-sound w A q h) };
      means_so = B.means_next;
    }))
  where
    B : Becomes w.words (lapse_words (M-of w.words) (R-of w.words) (suc q) w).words (lapse_words (M-of w.words) (R-of w.words) (suc q) w).table (lapse (suc q) (means A.lay w.table))
    B = lapse-row w A q h

pub each_row : (n p : ℕ) (w : Kept) (A : Stands w.words w.table) (m r : ℕ) → M-of w.words ≡ m → R-of w.words ≡ r → p + n ≤ width
    → Becomes w.words (each (lapse_words m r) n (suc p) w).words (each (lapse_words m r) n (suc p) w).table (each lapse n (suc p) (means A.lay w.table))
each_row zero p w A m r e f l = record { lay = A.lay; holds = A.holds; means_next = refl; long = refl; entries = refl; records = refl; rest = refl }
each_row (suc n) p w A m r e f l =
    let σ = means A.lay w.table in
    let v = lapse_words m r (suc p) w in
    let T = turned w A m r p e f (omega (arith, l)) in
    let C = each_row n (suc p) v T.stands m r (T.becomes.entries ∙ e) (T.becomes.records ∙ f) (omega (arith, l)) in
    becomes-then w.words v.words (each (lapse_words m r) n (suc (suc p)) v).words v.table (each (lapse_words m r) n (suc (suc p)) v).table
    (lapse (suc p) σ) (each lapse n (suc (suc p)) (lapse (suc p) σ)) T.becomes
    (subst (λ z. Becomes v.words (each (lapse_words m r) n (suc (suc p)) v).words (each (lapse_words m r) n (suc (suc p)) v).table (each lapse n (suc (suc p)) z)) T.means_so C)

pub recover-becomes : (s : List ℕ) (t : List Session) (A : Stands s t)
    → Becomes s (recover_words (M-of s) (R-of s) (kept s t)).words (recover_words (M-of s) (R-of s) (kept s t)).table (recovers (means A.lay t))
unfolding recover_words recovers
recover-becomes s t A =
    let w = kept (hand_ended s (M-of s) (session_at t 0)) (set t 0 (idled (session_at t 0))) in
    let k = end_hand 0 (session_of 0 (means A.lay t)).hand (means A.lay t) in
    let B = hand-becomes s t A 0 (omega arith) in
    let N = ended-first s t A in
    let C = each_row width 0 w N.0 (M-of s) (R-of s) B.entries B.records (omega arith) in
    becomes-then s w.words (each (lapse_words (M-of s) (R-of s)) width 1 w).words w.table (each (lapse_words (M-of s) (R-of s)) width 1 w).table k (each lapse width 1 k) B
    (subst (λ z. Becomes w.words (each (lapse_words (M-of s) (R-of s)) width 1 w).words (each (lapse_words (M-of s) (R-of s)) width 1 w).table (each lapse width 1 z)) N.1 C)

-- So the words are sound again, and mean what the machine's recover leaves.
pub recover-sound : (s : List ℕ) (t : List Session) (A : Stands s t)
    → W.Sound (recover_words (M-of s) (R-of s) (kept s t)).words (recover_words (M-of s) (R-of s) (kept s t)).table
    × (meaning (recover_words (M-of s) (R-of s) (kept s t)).words (recover_words (M-of s) (R-of s) (kept s t)).table ≡ recovers (means A.lay t))
recover-sound s t A = becomes-sound s (recover_words (M-of s) (R-of s) (kept s t)).words (recover_words (M-of s) (R-of s) (kept s t)).table (recovers (means A.lay t))
    (recover-becomes s t A) (recovered (means A.lay t) A.sound).gone.sound
