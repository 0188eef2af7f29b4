-- The empty database: values, keys and entries of zeros, no memberships in use.
use Rattle.std.specs.Prelude.{◌≡◌, [], ℕ, ◌<◌, get_or, replicate}
use Rattle.std.proofs.Common.{arith}
use Rattle.std.proofs.Math.Decide.{dec_lt}
use Rattle.std.proofs.lemmas.List.{length-replicate, get_or-replicate}
use Rattle.std.proofs.Math.ListN.{get_or-eq_default}
use Rattle.serial.specs.Model.{empty}
use Rattle.replay.specs.Held.{paired, held, Ready}

zeros : (n e : ℕ) → ◌≡◌ {A = ℕ} (get_or (replicate n 0) e 0) 0
zeros n e = go (dec_lt e n)
  where
    go : Dec (e < n) → ◌≡◌ {A = ℕ} (get_or (replicate n 0) e 0) 0
    go (yes h) = get_or-replicate n e 0 0 h
    go (no h) = get_or-eq_default (replicate n 0) 0 {n = e} (omega (arith, length-replicate {A = ℕ} n 0))

pub zeros-empty : held (replicate 1025 0) (replicate 2048 0) (replicate 2048 0) 0 ≡ empty
unfolding paired
zeros-empty = λ i. record { values = λ e. zeros 1025 e i; members = [] }

pub zeros-ready : Ready (replicate 1025 0) (replicate 2048 0) (replicate 2048 0) 0
unfolding paired
zeros-ready = record {
  values = length-replicate {A = ℕ} 1025 0;
  keys = length-replicate {A = ℕ} 2048 0;
  entries = length-replicate {A = ℕ} 2048 0;
  count = omega arith;
  rising = tt;
}
