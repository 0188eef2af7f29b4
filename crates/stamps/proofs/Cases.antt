-- The ways through the code's tests, each with what its definition gives there.
use mathlib.Core.Path.{◌≡◌, sym}
use mathlib.Core.Bool.{true}
use Prim.Native.Nat.{ℕ, ◌-◌, ◌≤◌, ◌<◌}
use native.Mathlib.Omega.{arith}
use Rattle.switches.specs.Switches.{spring, autumn}
use Rattle.stamps.specs.declared.Stamp.{Stamp}
use Rattle.stamps.specs.Stamps.{first_minute, covered, year, proper, local, unmarked}
use Rattle.stamps.specs.Minutes.{In, in-year-of, covered-is}
use Rattle.stamps.specs.Settled.{unmarked-1, unmarked-2, unmarked-3, unmarked-4, unmarked-5}
use Rattle.stamps.specs.Laws.{proper_is, local-late}
use Rattle.std.specs.Prelude.{Ok, Err}
use Rattle.stamps.specs.declared.Refusal.TheVariants.{Skipped, Doubled}

pub lies : (t : ℕ) → covered t ≡ true → In t (year t)
lies t c = in-year-of t (covered-is t c).0 (covered-is t c).1

module _ (w : ℕ) {s a : ℕ} (c : covered w ≡ true) (e : s ≡ spring (year w)) (f : a ≡ autumn (year w)) where
  pub before-spring : w < s → Ok w ≡ unmarked w
  before-spring h = sym (unmarked-1 (lies w c) (omega arith))

  pub skipped : s ≤ w → w - s < 60 → Err Skipped ≡ unmarked w
  skipped l h = sym (unmarked-2 (lies w c) (omega arith) (omega arith))

  pub in-summer : s ≤ w → 60 ≤ w - s → w < a → Ok (w - 60) ≡ unmarked w
  in-summer l m h = sym (unmarked-3 (lies w c) (omega arith) (omega arith))

  pub doubled : a ≤ w → w - a < 60 → Err Doubled ≡ unmarked w
  doubled l h = sym (unmarked-4 (lies w c) (omega arith) (omega arith))

  pub after-autumn : a ≤ w → 60 ≤ w - a → Ok w ≡ unmarked w
  after-autumn l h = sym (unmarked-5 (lies w c) (omega arith))

pub late : (s : Stamp) → proper s ≡ true → first_minute ≤ local s
late s p = local-late (proper_is s p)
