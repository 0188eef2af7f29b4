-- The number of each refusal, as rules and C tell it.
use Rattle.std.specs.Prelude.{◌≡◌, Result, Ok, Err, ℕ}
use Rattle.std.proofs.Common.{arith}
use Rattle.outcomes.specs.declared.Refusal.{Refusal}
use Rattle.outcomes.specs.declared.Refusal.TheVariants as R
use Rattle.outcomes.specs.declared.Answer.{Answer}
use Rattle.outcomes.specs.declared.Answer.TheVariants as A
use Rattle.outcomes.specs.declared.DayAnswer.{DayAnswer}
use Rattle.outcomes.specs.declared.DayAnswer.TheVariants as Day

abbrev pub number : Refusal → ℕ
number R.Table = 1
number R.Unsound = 2
number R.Sizes = 3
number R.Party = 4
number R.Begun = 5
number R.Code = 6
number R.Hand = 7
number R.Entry = 8
number R.Key = 9
number R.Range = 10
number R.Full = 11
number R.List = 12
number R.Odd = 13
number R.Day = 14
number R.Asked = 21
number R.NoAsk = 101
number R.Answers = 102
number R.NoDay = 103

-- What a check answers: 0 where nothing is refused.
abbrev pub refused_by : Result (Unit {0}) Refusal → ℕ
refused_by (Ok _) = 0
refused_by (Err refusal) = number refusal

-- The answer of a refusal with nothing beside it.
abbrev pub refused_for : Refusal → Answer
refused_for refusal = A.Refused (number refusal) 0

-- The same of a day call.
abbrev pub day_refused_for : Refusal → DayAnswer
day_refused_for refusal = Day.Refused (number refusal) 0

-- No refusal has the number 0.
pub number_some : (refusal : Refusal) → ¬ (number refusal ≡ 0)
number_some R.Table e = omega (arith, e)
number_some R.Unsound e = omega (arith, e)
number_some R.Sizes e = omega (arith, e)
number_some R.Party e = omega (arith, e)
number_some R.Begun e = omega (arith, e)
number_some R.Code e = omega (arith, e)
number_some R.Hand e = omega (arith, e)
number_some R.Entry e = omega (arith, e)
number_some R.Key e = omega (arith, e)
number_some R.Range e = omega (arith, e)
number_some R.Full e = omega (arith, e)
number_some R.List e = omega (arith, e)
number_some R.Odd e = omega (arith, e)
number_some R.Day e = omega (arith, e)
number_some R.Asked e = omega (arith, e)
number_some R.NoAsk e = omega (arith, e)
number_some R.Answers e = omega (arith, e)
number_some R.NoDay e = omega (arith, e)
