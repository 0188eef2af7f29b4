-- What the exported calls promise: what the store's call of that name promises (store, specs/Lent, specs/Listed, specs/Batched, specs/Days), of an answer whose
-- packing is returned.
use Rattle.std.specs.Prelude.{◌≡◌, refl, Bool, true, false, cond, ◌&&◌, List, [], ◌∷◌, ◌++◌, ◌↔◌, ℕ, ◌*◌, ◌≤◌, ◌<◌, eqb, leb, length, drop}
use Rattle.std.proofs.Common.{sym, ap, subst, ◌∙◌, arith, lit<, leb-true}
use Rattle.sessions.specs.declared.Session.{Session}
use Rattle.sessions.specs.Sessions.{parties}
use Rattle.machine.specs.Logic.{eqb_yes, eqb_no}
use Rattle.meaning.specs.Sound.{Sound}
use Rattle.meaning.specs.Table.{table-many}
use Rattle.sound.specs.Sound.{first_fault}
use Rattle.soundness.specs.Parts.{Table, table_fault, Part}
use Rattle.soundness.specs.Named.{fault-broken, fault-first}
use Rattle.soundness.specs.Exactly.{sound-parts, fault-none}
use Rattle.serial.specs.Serial.{true≢false}
use Rattle.serial.specs.Calls as C
use Rattle.outcomes.specs.declared.Answer.{Answer}
use Rattle.outcomes.specs.declared.Answer.TheVariants.{Refused}
use Rattle.outcomes.specs.declared.DayAnswer.{DayAnswer}
use Rattle.outcomes.specs.Said.{said}
use Rattle.store.specs.Lent.{Effect, OnTable, SteppedOnTable}
use Rattle.store.specs.Listed.{Listed, ListedOnTable}
use Rattle.store.specs.Batched.{BatchEffect, BatchedOnTable}
use Rattle.store.specs.declared.DayAsk.{DayAsk}
use Rattle.store.specs.Days.{DayEffect, DayOnTable}
use Rattle.card_days.specs.Day.{day_key, written_out, valued, all_of_day, writable, WritesDay}
use Rattle.packing.specs.Packed.{Packs, PacksMade, PacksDay}

-- Store and table as they were, the argument, the number that is returned, store and table as they are left.
pub record Told {D : Type 0} (E : Effect D) (s : List ℕ) (t : List Session) (k : D) (r : ℕ) (s' : List ℕ) (t' : List Session) : Type 0 where
  pub answer : Answer
  pub packs : Packs (said answer) r
  pub table_long : length t' ≡ length t
  pub does : OnTable E s t k answer s' t'

-- A step has a lent list too.
pub record Stepped (s : List ℕ) (t : List Session) (l : List ℕ) (p : ℕ) (r : ℕ) (s' : List ℕ) (t' : List Session) (l' : List ℕ) : Type 0 where
  pub answer : Answer
  pub packs : Packs (said answer) r
  pub table_long : length t' ≡ length t
  pub does : SteppedOnTable s t l p answer s' t' l'

-- A run and a request tell with the answer how many steps were made.
pub record ToldMade {D : Type 0} (E : Listed D) (s : List ℕ) (t : List Session) (l : List ℕ) (k : D) (r : ℕ) (s' : List ℕ) (t' : List Session) (l' : List ℕ) : Type 0 where
  pub answer : Answer
  pub steps : ℕ
  pub packs : PacksMade steps (said answer) r
  pub table_long : length t' ≡ length t
  pub does : ListedOnTable E s t l k answer steps s' t' l'

-- A batch has lent asks w and lent answers v too. The number that is returned is the packing of the batch's own answer.
pub record ToldBatch (E : BatchEffect) (w s : List ℕ) (t : List Session) (l v : List ℕ) (r : ℕ) (v' l' s' : List ℕ) (t' : List Session) : Type 0 where
  pub answer : Answer
  pub packs : Packs (said answer) r
  pub table_long : length t' ≡ length t
  pub does : BatchedOnTable E w s t l v answer v' l' s' t'

-- A day call has lent bytes, and tells with the answer the place that the next one is to be handed.
pub record ToldDay (E : DayEffect) (s : List ℕ) (t : List Session) (bytes : List ℕ) (k : DayAsk) (r : ℕ) (s' : List ℕ) (t' : List Session) : Type 0 where
  pub answer : DayAnswer
  pub packs : PacksDay answer r
  pub table_long : length t' ≡ length t
  pub does : DayOnTable E s t bytes k answer s' t'

-- A day written out again (card_days, specs/Day): done with how many bytes, and they are the day's; or refused 103, and the bytes are as they were.
pub record WritesOut (pairs values : List ℕ) (driver start r : ℕ) (bytes bytes' : List ℕ) : Type 0 where
  pub writes : writable (day_key driver start) pairs values (length bytes) ≡ true
      → Packs (C.done (2 * length values ∷ [])) r × (bytes' ≡ written_out (day_key driver start) (valued pairs values) ++ drop (2 * length values) bytes)
  pub refuses : writable (day_key driver start) pairs values (length bytes) ≡ false → Packs (C.refused 103 0) r × (bytes' ≡ bytes)

-- At most 1,440 values are,
pub writable-few : (k0 : ℕ) (pairs values : List ℕ) (room : ℕ) → writable k0 pairs values room ≡ true → length values ≤ 1440
unfolding writable
writable-few k0 pairs values room e = go (leb (length values) 1440) refl e
  where
    rest : Bool
    rest = leb (2 * length values) (length pairs) && (leb (2 * length values) room && all_of_day k0 (valued pairs values))

    go : (b : Bool) → leb (length values) 1440 ≡ b → (b && rest) ≡ true → length values ≤ 1440
    go true q z = leb-true (length values) 1440 q
    go false q z = absurd (true≢false {b = false} z refl)

-- and the two ways out.
pub written-way : (pairs values : List ℕ) (driver start r n : ℕ) (bytes bytes' : List ℕ) (b : Bool) → WritesDay (day_key driver start) pairs values bytes b bytes' → b ≡ true → n ≡ 2 * length values
    → Packs (C.done (n ∷ [])) r → WritesOut pairs values driver start r bytes bytes'
written-way pairs values driver start r n bytes bytes' b h e m P = record {
  writes = λ _. (subst (λ (z : ℕ). Packs (C.done (z ∷ [])) r) m P, h.bytes ∙ ap (λ (z : Bool). cond z (written_out (day_key driver start) (valued pairs values) ++ drop (2 * length values) bytes) bytes) e);
  refuses = λ z. absurd (true≢false (sym h.is ∙ e) z);
}

pub unwritten-way : (pairs values : List ℕ) (driver start r : ℕ) (bytes bytes' : List ℕ) (b : Bool) → WritesDay (day_key driver start) pairs values bytes b bytes' → b ≡ false
    → Packs (C.refused 103 0) r → WritesOut pairs values driver start r bytes bytes'
unwritten-way pairs values driver start r bytes bytes' b h e P = record {
  writes = λ z. absurd (true≢false z (sym h.is ∙ e));
  refuses = λ _. (P, h.bytes ∙ ap (λ (z : Bool). cond z (written_out (day_key driver start) (valued pairs values) ++ drop (2 * length values) bytes) bytes) e);
}

-- ---- what only reads

-- Of store and table, and the answer as it is told.
abbrev pub Look : Type 1
Look = List ℕ → List Session → C.Answer → Type 0

-- Over a table of any length, of the number that is returned.
pub record Looked (E : Look) (s : List ℕ) (t : List Session) (r : ℕ) : Type 0 where
  pub answer : Answer
  pub packs : Packs (said answer) r
  pub does : (length t ≡ parties → E s t (said answer)) × (¬ (length t ≡ parties) → answer ≡ Refused 1 0)

-- Refused 1, as it crosses to C.
abbrev pub wrong_table : ℕ
wrong_table = 567352294899712

pub looked-length : (E : Look) (s : List ℕ) (t : List Session) → ¬ (length t ≡ parties) → Looked E s t wrong_table
looked-length E s t n = record { answer = Refused 1 0; packs = record { is = refl; words = lit< tt }; does = (λ e. absurd (n e), λ _. refl) }

pub looked-table : (E : Look) (s : List ℕ) (t : List Session) (a : Answer) {r : ℕ} → Table t → Packs (said a) r → E s t (said a) → Looked E s t r
looked-table E s t a T p e = record { answer = a; packs = p; does = (λ _. e, λ n. absurd (n T.seats)) }

-- The first part of soundness that store and table break (soundness, specs/Parts), 0 for none; the table's length stands before the others.
abbrev pub fault_of : List ℕ → List Session → ℕ
fault_of s t = cond (eqb (length t) parties) (first_fault s t).fault table_fault

-- What that number says, of every store and every table.
pub record Names (s : List ℕ) (t : List Session) (r : ℕ) : Type 0 where
  pub is : r ≡ fault_of s t
  -- It is 0 exactly if they are sound.
  pub sound : (r ≡ 0) ↔ Sound s t
  -- Above 0 it names a part that is broken: a cause to refuse, for Sound has every part;
  pub broken : ¬ (r ≡ 0) → ¬ Part r s t
  pub cause : Sound s t → (n : ℕ) → Part n s t
  -- and the first, for those before it hold, where the table has a record for each party.
  pub first : ¬ (r ≡ table_fault) → (k : ℕ) → k < r → Part k s t

-- Of a table that has a record for each party,
pub names_table : (s : List ℕ) (t : List Session) → Table t → (r : ℕ) → r ≡ (first_fault s t).fault → Names s t r
names_table s t T r e = record {
  is = e ∙ sym (ap (λ b. cond b (first_fault s t).fault table_fault) (eqb_yes (length t) parties T.seats));
  sound = (λ z. (fault-none s t T).0 (sym e ∙ z), λ D. e ∙ (fault-none s t T).1 D);
  broken = λ n h. fault-broken s t T (λ z. n (e ∙ z)) (subst (λ k. Part k s t) e h);
  cause = sound-parts s t T;
  first = λ n k l. fault-first s t T k (omega (arith, l, e));
}

-- and of another.
pub names-length : (s : List ℕ) (t : List Session) → ¬ (length t ≡ parties) → Names s t table_fault
unfolding Part
names-length s t n = record {
  is = sym (ap (λ b. cond b (first_fault s t).fault table_fault) (eqb_no (length t) parties n));
  sound = (λ z. absurd (omega (arith, z)), λ D. absurd (unsound D));
  broken = λ z h. n h;
  cause = λ D. absurd (unsound D);
  first = λ z. absurd (z refl);
}
  where
    unsound : Sound s t → ⊥
    unsound D = n (table-many s t D.state)
