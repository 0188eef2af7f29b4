-- Document 01's word and numbers for each case of an answer, and what a step leaves.
use Rattle.std.specs.Prelude.{List, [], ◌∷◌, ℕ}
use Rattle.serial.specs.Calls as C
use Rattle.sessions.specs.declared.Session.{Session}
use Rattle.outcomes.specs.declared.Answer.{Answer}
use Rattle.outcomes.specs.declared.Answer.TheVariants.{Ok, More, Wait, Done, Tidied, Refused}
use Rattle.outcomes.specs.declared.DayAnswer.{DayAnswer}
use Rattle.outcomes.specs.declared.DayAnswer.TheVariants as Day
use Rattle.outcomes.specs.declared.Moved.{Moved}

abbrev pub said : Answer → C.Answer
said Ok = C.ok
said More = C.more
said (Wait p) = C.wait p
said (Done n) = C.done (n ∷ [])
said (Tidied k b) = C.done (k ∷ b ∷ [])
said (Refused n k) = C.refused n k

-- The same of a day call's answer.
abbrev pub day_said : DayAnswer → C.Answer
day_said (Day.Ok j) = C.ok
day_said (Day.More j) = C.more
day_said (Day.Wait q j) = C.wait q
day_said (Day.Done n j) = C.done (n ∷ [])
day_said (Day.Refused n k) = C.refused n k

-- The place that the next day call is to be handed: 0 for a refusal, which has none.
abbrev pub day_place : DayAnswer → ℕ
day_place (Day.Ok j) = j
day_place (Day.More j) = j
day_place (Day.Wait q j) = j
day_place (Day.Done n j) = j
day_place (Day.Refused n k) = 0

-- What a step leaves: the words of the store, its party's session record, and the answer.
pub record Stepped : Type 0 where
  pub words : List ℕ
  pub session : Session
  pub answer : Answer

-- As the code hands it back, beside the words.
abbrev pub moved : Stepped → Moved
moved z = record { answer = z.answer; session = z.session }
