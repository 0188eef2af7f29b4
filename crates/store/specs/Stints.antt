-- A run and a request change no session record but their party's: to store that one record back leaves the table that they gave by value.
use Rattle.std.specs.Prelude.{◌≡◌, refl, List, [], ◌∷◌, ◌++◌, ℕ, zero, suc, replicate}
use Rattle.std.proofs.Common.{sym, subst, ◌∙◌}
use Rattle.sessions.specs.declared.Session.{Session}
use Rattle.sessions.specs.Sessions.{session_at}
use Rattle.serial.specs.Calls.{Turn, Run, stop, next}
use Rattle.serial.specs.Calls as C
use Rattle.outcomes.specs.declared.Answer.{Answer}
use Rattle.outcomes.specs.Said.{said}
use Rattle.meaning.specs.Sound.{Sound}
use Rattle.soundness.specs.Parts.{Table}
use Rattle.promises.specs.Relations.{Others}
use Rattle.promises.specs.Demands.{Lending}
use Rattle.promises.specs.Runs.{lending, calling, step_turn, steps, asks}
use Rattle.outcomes.specs.declared.Made.{Made}
use Rattle.seats.specs.declared.Seat.{Seat}
use Rattle.store.specs.declared.Go.{Go}
use Rattle.store.specs.declared.Wish.{Wish}
use Rattle.store.specs.Listed.{RanBy, AskedBy}
use Rattle.store.specs.OneRecord.{seated, Apart, one_set}

-- ---- a list of calls of one party

abbrev Of : ℕ → List Turn → Type 0
Of p [] = Unit {0}
Of p (k ∷ ks) = ((t u : List Session) → Others k.call t u → Apart p t u) × Of p ks

sound-apart : {x y : Lending} {ks : List Turn} (p : ℕ) → Of p ks → Sound x.store x.table → Run calling x ks y → Sound y.store y.table × Apart p x.table y.table
sound-apart p o S stop = (S, λ q n. refl)
sound-apart p o S (next {x} {y} {z} d r) =
    let A = (d.answers S).0 in
    let h = sound-apart p o.1 A.sound r in
    (h.0, λ q n. h.1 q n ∙ o.0 x.table y.table A.others q n)

-- On what is not sound none changes anything.
pub unsound-still : {x y : Lending} {ks : List Turn} → ¬ Sound x.store x.table → Run calling x ks y → (y.store ≡ x.store) × (y.table ≡ x.table)
unsound-still n stop = (refl, refl)
unsound-still n (next {x} {y} {z} d r) =
    let U = d.refuses n in
    let h = unsound-still (λ S. n (subst (λ s. Sound s x.table) U.store_same (subst (Sound y.store) U.table_same S))) r in
    (h.0 ∙ U.store_same, h.1 ∙ U.table_same)

-- What is promised of the table by value is promised of the one with the one record stored back.
stint-kept : (p : ℕ) (s : List ℕ) (t : List Session) (s' : List ℕ) (u : List Session) (a : Answer) (n : ℕ) (r : Seat Made) (ks : List Turn) → Table t → Of p ks
    → r ≡ record { party = p; session = session_at u p; answer = record { answer = a; steps = n } } → Run calling (lending s t) ks (lending s' u)
    → (Q : Answer → ℕ → List Session → Type 0) → Q a n u → Q r.answer.answer r.answer.steps (seated t r)
stint-kept p s t s' u a n r ks T own e made Q q =
    subst (λ (r : Seat Made). Q r.answer.answer r.answer.steps (seated t r)) (sym e)
    (subst (Q a n) (sym (one_set p s t s' u T (λ S. sound-apart p own S made) (λ z. (unsound-still z made).1))) q)

-- ---- a run, and a request

mores-of : (k p : ℕ) (l : List ℕ) (a : C.Answer) (l' : List ℕ) → Of p (replicate k (step_turn p l C.more l) ++ step_turn p l a l' ∷ [])
mores-of zero p l a l' = ((λ t u o. o), tt)
mores-of (suc k) p l a l' = ((λ t u o. o), mores-of k p l a l')

steps_of : (n p : ℕ) (l : List ℕ) (a : C.Answer) (l' : List ℕ) → Of p (steps n p l a l')
steps_of zero p l a l' = tt
steps_of (suc k) p l a l' = mores-of k p l a l'

asks_of : (n p c e f g : ℕ) (l : List ℕ) (a : C.Answer) (l' : List ℕ) → Of p (asks n p c e f g l a l')
asks_of zero p c e f g l a l' = ((λ t u o. o), tt)
asks_of (suc k) p c e f g l a l' = ((λ t u o. o), mores-of k p l a l')

pub ran-kept : (k : Go) (s : List ℕ) (t : List Session) (l : List ℕ) (a : Answer) (n : ℕ) (l' s' : List ℕ) (u : List Session) (r : Seat Made) → Table t
    → r ≡ record { party = k.party; session = session_at u k.party; answer = record { answer = a; steps = n } } → RanBy s t l k a n s' u l'
    → RanBy s t l k r.answer.answer r.answer.steps s' (seated t r) l'
ran-kept k s t l a n l' s' u r T e R =
    stint-kept k.party s t s' u a n r (steps n k.party l (said a) l') T (steps_of n k.party l (said a) l') e R.made (λ a n u. RanBy s t l k a n s' u l') R

pub asked-kept : (k : Wish) (s : List ℕ) (t : List Session) (l : List ℕ) (a : Answer) (n : ℕ) (l' s' : List ℕ) (u : List Session) (r : Seat Made) → Table t
    → r ≡ record { party = k.party; session = session_at u k.party; answer = record { answer = a; steps = n } } → AskedBy s t l k a n s' u l'
    → AskedBy s t l k r.answer.answer r.answer.steps s' (seated t r) l'
asked-kept k s t l a n l' s' u r T e R =
    stint-kept k.party s t s' u a n r (asks n k.party k.code k.entry k.first k.second l (said a) l') T
    (asks_of n k.party k.code k.entry k.first k.second l (said a) l') e R.made (λ a n u. AskedBy s t l k a n s' u l') R
