-- Which answer it is, as code tests it.
use Rattle.std.specs.Prelude.{◌≡◌, refl, Bool, true, false, List, ℕ}
use Rattle.std.proofs.Common.{ap, arith}
use Rattle.serial.specs.Serial.{true≢false}
use Rattle.serial.specs.Calls as C
use Rattle.outcomes.specs.declared.Answer.{Answer}
use Rattle.outcomes.specs.declared.Answer.TheVariants.{Ok, More, Wait, Done, Tidied, Refused}
use Rattle.outcomes.specs.Said.{said}
use Rattle.sessions.specs.declared.Session.{Session}
use Rattle.promises.specs.Stepping.{settled_answer}

abbrev pub is_more : Answer → Bool
is_more Ok = false
is_more More = true
is_more (Wait p) = false
is_more (Done n) = false
is_more (Tidied k b) = false
is_more (Refused n k) = false

abbrev pub is_ok_of : Answer → Bool
is_ok_of Ok = true
is_ok_of More = false
is_ok_of (Wait p) = false
is_ok_of (Done n) = false
is_ok_of (Tidied k b) = false
is_ok_of (Refused n k) = false

-- Whom a wait names is beside it.
pub settled-more : (s : List ℕ) (m r : ℕ) (t : List Session) (p : ℕ) (x : Session) (a : Answer) → is_more (settled_answer s m r t p x a) ≡ is_more a
settled-more s m r t p x Ok = refl
settled-more s m r t p x More = refl
settled-more s m r t p x (Wait q) = refl
settled-more s m r t p x (Done n) = refl
settled-more s m r t p x (Tidied k b) = refl
settled-more s m r t p x (Refused n k) = refl

pub not-wait : (q : ℕ) → More ≡ Wait q → ⊥
not-wait q e = true≢false {b = true} refl (ap is_more e)

pub is-more : (a : Answer) → is_more a ≡ true → a ≡ More
is-more Ok e = absurd (true≢false e refl)
is-more More e = refl
is-more (Wait p) e = absurd (true≢false e refl)
is-more (Done n) e = absurd (true≢false e refl)
is-more (Tidied k b) e = absurd (true≢false e refl)
is-more (Refused n k) e = absurd (true≢false e refl)

pub not_more : (a : Answer) → is_more a ≡ false → ¬ (said a ≡ C.more)
not_more Ok e q = let z : ◌≡◌ {A = ℕ} 0 1 = cc in absurd (omega arith)
not_more More e q = true≢false {b = true} refl e
not_more (Wait p) e q = let z : ◌≡◌ {A = ℕ} 0 1 = cc in absurd (omega arith)
not_more (Done n) e q = let z : ◌≡◌ {A = ℕ} 0 1 = cc in absurd (omega arith)
not_more (Tidied k b) e q = let z : ◌≡◌ {A = ℕ} 0 1 = cc in absurd (omega arith)
not_more (Refused n k) e q = let z : ◌≡◌ {A = ℕ} 0 1 = cc in absurd (omega arith)

pub is_ok : (a : Answer) → is_ok_of a ≡ true → a ≡ Ok
is_ok Ok e = refl
is_ok More e = absurd (true≢false e refl)
is_ok (Wait p) e = absurd (true≢false e refl)
is_ok (Done n) e = absurd (true≢false e refl)
is_ok (Tidied k b) e = absurd (true≢false e refl)
is_ok (Refused n k) e = absurd (true≢false e refl)

pub not-ok : (a : Answer) → is_ok_of a ≡ false → ¬ (said a ≡ C.ok)
not-ok Ok e q = true≢false {b = true} refl e
not-ok More e q = let z : ◌≡◌ {A = ℕ} 0 1 = cc in absurd (omega arith)
not-ok (Wait p) e q = let z : ◌≡◌ {A = ℕ} 0 1 = cc in absurd (omega arith)
not-ok (Done n) e q = let z : ◌≡◌ {A = ℕ} 0 1 = cc in absurd (omega arith)
not-ok (Tidied k b) e q = let z : ◌≡◌ {A = ℕ} 0 1 = cc in absurd (omega arith)
not-ok (Refused n k) e q = let z : ◌≡◌ {A = ℕ} 0 1 = cc in absurd (omega arith)
