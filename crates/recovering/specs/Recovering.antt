-- Recover as the code runs it: one session's words and record, and the loop over the sessions.
use Rattle.std.specs.Prelude.{◌≡◌, refl, Bool, true, false, cond, not, ◌&&◌, List, ℕ, zero, suc, ◌+◌, ◌-◌, ◌≤◌, ◌<◌, eqb, set}
use Rattle.std.proofs.Common.{sym, ap, ap₂, subst, ◌∙◌, arith, eq-eqb, ne_eqb}
use Rattle.sessions.specs.declared.Session.{Session}
use Rattle.sessions.specs.Sessions.{session_at}
use Rattle.serial.specs.Recovery.{each}
use Rattle.machine.specs.Holders.{width}
use Rattle.meaning.specs.Reading.{M-of, R-of}
use Rattle.layout.specs.Row.{Stands}
use Rattle.layout.specs.Asked.{set_same}
use Rattle.endings.specs.Table.{idled, unbegun}
use Rattle.aborting.specs.Words.{hand_ended, abort_words, HandReady, AbortReady}
use Rattle.aborting.specs.Abort.{hand-becomes}
use Rattle.aborting.specs.RecoverRow.{Kept, kept, lapsing, lapse_words, recover_words, ended-first, recover-ready}
use Rattle.aborting.proofs.RecoverRow.{turned, lapse-ready}

unfoldable pub lapsed_words : List ℕ → ℕ → ℕ → ℕ → Session → List ℕ
lapsed_words s m r p x = cond (lapsing x) (abort_words s m r p x) s

unfoldable pub lapsed_session : Session → Session
lapsed_session x = cond (lapsing x) (unbegun x) x

unfoldable pub lapsed_all : ℕ → ℕ → Kept → Kept
lapsed_all m r w = each (lapse_words m r) width 1 w

-- Who is not begun, or asked, does not lapse; who is begun and not asked does.
pub unbegun-stays : (begun asked : ℕ) → begun ≡ 0 → (not (eqb begun 0) && not (not (eqb asked 0))) ≡ false
unbegun-stays begun asked e = rw (eq-eqb begun 0 e) refl

pub asked-stays : (begun asked : ℕ) → ¬ (asked ≡ 0) → (not (eqb begun 0) && not (not (eqb asked 0))) ≡ false
asked-stays begun asked n = rw (ne_eqb asked 0 n) (go (not (eqb begun 0)))
  where
    go : (b : Bool) → (b && false) ≡ false
    go true = refl
    go false = refl

pub unasked-lapses : (begun asked : ℕ) → ¬ (begun ≡ 0) → asked ≡ 0 → (not (eqb begun 0) && not (not (eqb asked 0))) ≡ true
unasked-lapses begun asked n e = rw (ne_eqb begun 0 n, eq-eqb asked 0 e) refl

pub words-stay : (s : List ℕ) (m r p : ℕ) (x : Session) → lapsing x ≡ false → s ≡ lapsed_words s m r p x
unfolding lapsed_words
words-stay s m r p x e = sym (ap (λ b. cond b (abort_words s m r p x) s) e)

pub words-lapse : (s : List ℕ) (m r p : ℕ) (x : Session) → lapsing x ≡ true → abort_words s m r p x ≡ lapsed_words s m r p x
unfolding lapsed_words
words-lapse s m r p x e = sym (ap (λ b. cond b (abort_words s m r p x) s) e)

pub session-stays : (x : Session) → lapsing x ≡ false → x ≡ lapsed_session x
unfolding lapsed_session
session-stays x e = sym (ap (λ b. cond b (unbegun x) x) e)

pub session-lapses : (x : Session) → lapsing x ≡ true → unbegun x ≡ lapsed_session x
unfolding lapsed_session
session-lapses x e = sym (ap (λ b. cond b (unbegun x) x) e)

-- Words and table stand for a sound state, with this M and R.
pub record RecoverReady (s : List ℕ) (t : List Session) (m r : ℕ) : Type 0 where
  pub stands : Stands s t
  pub entries : M-of s ≡ m
  pub records : R-of s ≡ r

-- The turn of the code is the definition's.
pub lapsed-is : (s : List ℕ) (t : List Session) (m r p : ℕ) → kept (lapsed_words s m r p (session_at t p)) (set t p (lapsed_session (session_at t p))) ≡ lapse_words m r p (kept s t)
unfolding lapsed_words lapsed_session lapse_words
lapsed-is s t m r p = go (lapsing (session_at t p))
  where
    go : (b : Bool) → kept (cond b (abort_words s m r p (session_at t p)) s) (set t p (cond b (unbegun (session_at t p)) (session_at t p)))
        ≡ cond b (kept (abort_words s m r p (session_at t p)) (set t p (unbegun (session_at t p)))) (kept s t)
    go true = refl
    go false = ap (kept s) (set_same t p)

-- What is left of the sessions, done, gives the whole.
pub record Going (whole : Kept) (m r : ℕ) (s : List ℕ) (t : List Session) (p rest : ℕ) : Type 0 where
  pub ready : RecoverReady s t m r
  pub is : each (lapse_words m r) rest p (kept s t) ≡ whole

pub going-ready : {whole : Kept} {m r : ℕ} {s : List ℕ} {t : List Session} (p : ℕ) {rest : ℕ} → Going whole m r s t p rest → 1 ≤ p → p ≤ width → lapsing (session_at t p) ≡ true → AbortReady s m r p (session_at t p)
going-ready {whole} {m} {r} {s} {t} zero g lo hi e = absurd (omega (arith, lo))
going-ready {whole} {m} {r} {s} {t} (suc q) g lo hi e =
    subst (λ z. AbortReady s z r (suc q) (session_at t (suc q))) g.ready.entries (subst (λ z. AbortReady s (M-of s) z (suc q) (session_at t (suc q))) g.ready.records
    (lapse-ready (kept s t) g.ready.stands q hi e))

pub going_more : {whole : Kept} {m r : ℕ} {s s' : List ℕ} {t : List Session} {y : Session} (p : ℕ) {rest rest' : ℕ} → Going whole m r s t p rest → 0 < rest → 1 ≤ p → p ≤ width
    → s' ≡ lapsed_words s m r p (session_at t p) → y ≡ lapsed_session (session_at t p) → rest' ≡ rest - 1 → Going whole m r s' (set t p y) (p + 1) rest'
going_more {whole} {m} {r} {s} {s'} {t} {y} zero g h lo hi a b z = absurd (omega (arith, lo))
going_more {whole} {m} {r} {s} {s'} {t} {y} (suc q) {rest} {rest'} g h lo hi a b z =
    let T = turned (kept s t) g.ready.stands m r q g.ready.entries g.ready.records hi in
    let v = lapse_words m r (suc q) (kept s t) in
    let e : kept s' (set t (suc q) y) ≡ v = ap₂ (λ u z. kept u (set t (suc q) z)) a b ∙ lapsed-is s t m r (suc q) in
    let n : rest ≡ suc rest' = omega (arith, h, z) in
    let k : suc q + 1 ≡ suc (suc q) = omega arith in
    record {
      ready = subst (λ w. RecoverReady w.words w.table m r) (sym e)
          (record { stands = T.stands; entries = T.becomes.entries ∙ g.ready.entries; records = T.becomes.records ∙ g.ready.records });
      is = ap₂ (λ w i. each (lapse_words m r) rest' i w) e k ∙ ap (λ i. each (lapse_words m r) i (suc q) (kept s t)) (sym n) ∙ g.is;
    }

pub going_end : {whole : Kept} {m r : ℕ} {s : List ℕ} {t : List Session} {p rest : ℕ} → Going whole m r s t p rest → rest ≡ 0 → kept s t ≡ whole
going_end {whole} {m} {r} {s} {t} {p} {rest} g e = ap (λ i. each (lapse_words m r) i p (kept s t)) (sym e) ∙ g.is

-- Before the loop: housekeeping ended.
pub first-ready : {s : List ℕ} {t : List Session} {m r : ℕ} → RecoverReady s t m r → HandReady s m (session_at t 0)
first-ready {s} {t} g = subst (λ z. HandReady s z (session_at t 0)) g.entries (recover-ready s t g.stands)

pub going_start : {s s' : List ℕ} {t : List Session} {y : Session} {m r : ℕ} → RecoverReady s t m r → s' ≡ hand_ended s m (session_at t 0) → y ≡ idled (session_at t 0)
    → RecoverReady s' (set t 0 y) m r
going_start {s} {s'} {t} {y} {m} {r} g a b =
    subst (λ z. RecoverReady z (set t 0 y) m r) (sym a) (subst (λ z. RecoverReady (hand_ended s m (session_at t 0)) (set t 0 z) m r) (sym b)
    (subst (λ z. RecoverReady (hand_ended s z (session_at t 0)) (set t 0 (idled (session_at t 0))) m r) g.entries
    (record { stands = (ended-first s t g.stands).0; entries = (hand-becomes s t g.stands 0 (omega arith)).entries ∙ g.entries; records = (hand-becomes s t g.stands 0 (omega arith)).records ∙ g.records })))

pub recover-run : (s : List ℕ) {s' s'' : List ℕ} (t : List Session) {t'' : List Session} {y : Session} (m r : ℕ) → s' ≡ hand_ended s m (session_at t 0) → y ≡ idled (session_at t 0)
    → kept s'' t'' ≡ lapsed_all m r (kept s' (set t 0 y)) → kept s'' t'' ≡ recover_words m r (kept s t)
unfolding recover_words lapsed_all
recover-run s t m r a b c = c ∙ ap₂ (λ u v. each (lapse_words m r) width 1 (kept u (set t 0 v))) a b
