-- The order of begins of the words over every list of calls: read off calls and answers alone, the begun sessions stand in a line, the one that began first in
-- front (serial, specs/Line). A session's record is begun exactly if the session stands in it, and of two of them the one with the lower number stands earlier.
use Rattle.std.specs.Prelude.{◌≡◌, Bool, true, false, not, List, ◌⊎◌, ℕ, zero, suc, ◌≤◌, ◌<◌, eqb}
use Rattle.std.proofs.Common.{ap, ◌∙◌, inl, inr, arith}
use Rattle.sessions.specs.declared.Session.{Session}
use Rattle.sessions.specs.Sessions.{session_at}
use Rattle.serial.specs.Serial.{true≢false, In}
use Rattle.serial.specs.Calls.{Turn, Run}
use Rattle.serial.specs.Calls as C
use Rattle.serial.specs.Line.{Before}
use Rattle.machine.specs.Logic.{eqb_yes, eqb_no}
use Rattle.machine.specs.Holders.{width}
use Rattle.machine.specs.State.{State, Stage, start, enter, at, change, take, Request, session_of}
use Rattle.machine.specs.InTheWay.{LongLock, ShortLock}
use Rattle.machine.specs.Sound as M
use Rattle.machine.specs.Looks.{begun-party}
use Rattle.machine.specs.Line.{Lined}
use Rattle.meaning.specs.Reading.{meaning}
use Rattle.meaning.specs.Sound.{Sound}
use Rattle.meaning.specs.Table.{session_is, table-many}
use Rattle.promises.specs.Demands.{Lending, Returns, words}

-- ---- a line, and the words of a table

pub record InLine (l : List ℕ) (t : List Session) : Type 0 where
  -- A session's record is begun exactly if the session stands in the line,
  pub stands : (p : ℕ) → 1 ≤ p → p ≤ width → ¬ ((session_at t p).begun ≡ 0) → In p l
  pub begun : (p : ℕ) → In p l → (1 ≤ p) × (p ≤ width) × ¬ ((session_at t p).begun ≡ 0)
  -- and of two begun sessions one has the lower number exactly if it stands before the other.
  pub before : (p q : ℕ) → In p l → In q l → (session_at t p).order < (session_at t q).order → Before p q l
  pub lower : (p q : ℕ) → In p l → In q l → Before p q l → (session_at t p).order < (session_at t q).order

module _ (s : List ℕ) (t : List Session) (S : Sound s t) where
  -- Whether a session is begun, and its number, are read from its record.
  begun-read : (p : ℕ) → 1 ≤ p → p ≤ width → (session_of p (meaning s t)).begun ≡ not (eqb (session_at t p).begun 0)
  begun-read zero a b = absurd (omega (arith, a))
  begun-read (suc p) a b = ap (λ x. x.begun) (session_is s t (suc p) (omega (arith, b, table-many s t S.state)))

  order-read : (p : ℕ) → 1 ≤ p → p ≤ width → (session_of p (meaning s t)).order ≡ (session_at t p).order
  order-read zero a b = absurd (omega (arith, a))
  order-read (suc p) a b = ap (λ x. x.order) (session_is s t (suc p) (omega (arith, b, table-many s t S.state)))

  module _ (l : List ℕ) (L : Lined l (meaning s t)) where
    party : (p : ℕ) → In p l → (1 ≤ p) × (p ≤ width)
    party p i = begun-party S.state p (L.begun p i)

    number : (p : ℕ) → In p l → (session_of p (meaning s t)).order ≡ (session_at t p).order
    number p i = let b = party p i in order-read p b.0 b.1

    pub lined-table : InLine l t
    lined-table = record {
      stands = λ p a b n. L.stands p (begun-read p a b ∙ ap not (eqb_no (session_at t p).begun 0 n));
      begun = λ p i. let b = party p i in
          (b.0, b.1, λ z. true≢false (L.begun p i) (begun-read p b.0 b.1 ∙ ap not (eqb_yes (session_at t p).begun 0 z)));
      before = λ p q i j h. L.before p q (L.begun p i) (L.begun q j) (omega (arith, h, number p i, number q j));
      lower = λ p q i j h. omega (arith, L.lower p q h, number p i, number q j);
    }

-- ---- lists of calls, from a store as an accepted format leaves it

pub run_sound : {x y : Lending} {ks : List Turn} → Sound x.store x.table → Run words x ks y → Sound y.store y.table
unfolding Returns
run_sound S C.stop = S
run_sound S (C.next d r) = run_sound (d S).sound r

-- ---- whom a wait names, over lists of calls

-- A step that asks for a long lock asks for no latch.
pub long-asked : (p : ℕ) (r : Request) (s : State) (g : Stage) (o q : ℕ) → LongLock r s g o → LongLock r s g q ⊎ ShortLock p s g q → LongLock r s g q
long-asked p r s g o q L (inl l) = l
long-asked p r s start o q L (inr l) = absurd l
long-asked p r s (enter x) o q L (inr l) = absurd L.asks
long-asked p r s (at x) o q L (inr l) = absurd L.asks
long-asked p r s change o q L (inr l) = absurd l
long-asked p r s (take x) o q L (inr l) = absurd l

-- Who holds is begun.
pub long-begun : {s : State} → M.Sound s → (r : Request) (g : Stage) (q : ℕ) → LongLock r s g q → (session_of q s).begun ≡ true
long-begun S r g q l = S.only_begun l.kind l.held q l.what l.holding
