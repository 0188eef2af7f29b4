-- A put, a step, a commit and an abort change no session record but their party's: to store that one record back leaves the table that the call by value gave.
use Rattle.std.specs.Prelude.{◌≡◌, refl, Bool, true, false, List, ℕ, ◌<◌, length, set}
use Rattle.std.proofs.Common.{sym, ap, subst, ◌∙◌, length-set, ext_get_or, get_or-set_same, get_or-set_other}
use Rattle.std.proofs.Math.Decide.{ℕ_discrete}
use Rattle.std.proofs.lemmas.List.{set-get_or}
use Rattle.sessions.specs.declared.Session.{Session}
use Rattle.sessions.specs.Sessions.{idle_session, session_at}
use Rattle.serial.specs.Serial.{true≢false}
use Rattle.serial.specs.Calls as C
use Rattle.outcomes.specs.declared.Answer.{Answer}
use Rattle.outcomes.specs.Said.{said}
use Rattle.meaning.specs.Sound.{Sound}
use Rattle.meaning.specs.Table.{table-many}
use Rattle.sound.specs.Sound.{is_sound}
use Rattle.soundness.specs.Parts.{Table}
use Rattle.soundness.specs.Exactly.{test-sound, sound-test}
use Rattle.promises.specs.Relations.{Others, Calls}
use Rattle.seats.specs.declared.Seat.{Seat}

-- The table t with the one record that a call leaves.
abbrev pub seated : {A : Type 0} → List Session → Seat A → List Session
seated t r = set t r.party r.session

-- Tables that agree but for party p's record.
abbrev pub Apart : ℕ → List Session → List Session → Type 0
Apart p t u = (q : ℕ) → ¬ (q ≡ p) → session_at u q ≡ session_at t q

pub apart-set : (p : ℕ) (t u : List Session) → length u ≡ length t → Apart p t u → set t p (session_at u p) ≡ u
apart-set p t u n h = ext_get_or idle_session (set t p x) u (long ∙ sym n) (λ i l. at i (ℕ_discrete i p) (subst (λ k. i < k) long l))
  where
    x : Session
    x = session_at u p

    long : length (set t p x) ≡ length t
    long = length-set t p x

    at : (i : ℕ) → Dec (i ≡ p) → i < length t → session_at (set t p x) i ≡ session_at u i
    at i (yes e) l = ap (session_at (set t p x)) e ∙ get_or-set_same t p x idle_session (subst (λ k. k < length t) e l) ∙ sym (ap (session_at u) e)
    at i (no z) l = get_or-set_other t p i x idle_session z ∙ sym (h i z)

-- The table that was given back is the one that was taken with party p's record stored into it: where store and table are sound no other record differs, and
-- else nothing does. Whether they are sound is told by the test.
pub one_set : (p : ℕ) (s : List ℕ) (t : List Session) (s' : List ℕ) (u : List Session) → Table t → (Sound s t → Sound s' u × Apart p t u) → (¬ Sound s t → u ≡ t) → set t p (session_at u p) ≡ u
one_set p s t s' u T sound unsound = go (is_sound s t) refl
  where
    not_sound : is_sound s t ≡ false → Sound s t → ⊥
    not_sound e A = true≢false {b = is_sound s t} (sound-test s t T A) e

    go : (b : Bool) → is_sound s t ≡ b → set t p (session_at u p) ≡ u
    go true e =
        let h = sound (test-sound s t T e) in
        apart-set p t u (table-many s' u h.0.state ∙ sym T.seats) h.1
    go false e =
        let same = unsound (not_sound e) in
        ap (λ v. set t p (session_at v p)) same ∙ set-get_or t p idle_session ∙ sym same

module _ (c : C.Call) (p : ℕ) (s : List ℕ) (t : List Session) (a : C.Answer) (l s' : List ℕ) (u : List Session) (T : Table t) (apart : Others c t u → Apart p t u) where
  pub one-record : Calls c s t a l s' u → set t p (session_at u p) ≡ u
  one-record k = one_set p s t s' u T (λ S. let A = (k.answers S).0 in (A.sound, apart A.others)) (λ n. (k.refuses n).table_same)

-- A call keeps its promise where only its party's record is stored back.
pub seat-kept : (c : C.Call) (p : ℕ) (s : List ℕ) (t : List Session) (a : Answer) (l s' : List ℕ) (u : List Session) (r : Seat Answer) → Table t → (Others c t u → Apart p t u) → r ≡ record { party = p; session = session_at u p; answer = a }
    → Calls c s t (said a) l s' u → Calls c s t (said r.answer) l s' (seated t r)
seat-kept c p s t a l s' u r T apart e k = subst (λ (r : Seat Answer). Calls c s t (said r.answer) l s' (seated t r)) (sym e) (subst (Calls c s t (said a) l s') (sym (one-record c p s t (said a) l s' u T apart k)) k)
