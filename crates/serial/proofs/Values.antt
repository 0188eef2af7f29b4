-- Theorems of specs/Values: what it defines is there.
use Rattle.std.specs.Prelude.{List, ℕ, zero, suc}
use Rattle.std.proofs.Math.Option.{Option, none, some}
use Rattle.serial.specs.Serial.{Hist, serial}
use Rattle.serial.specs.Serial as S
use Rattle.serial.specs.Model.{Req, Ans, request_of}
use Rattle.serial.specs.Footprints.{store}
use Rattle.serial.specs.Locks.{Table, Strict}
use Rattle.serial.specs.Calls.{Call, format, begin, commit, abort, ask, recover, put, step, Answer, ok, more, wait, done, refused, Turn, Asked, Told, given_up, tell_ok, answer_of, fed, finished, tell_done, tell_answer, tell, told, Machine, calls_of, Run, stop, next, Laws}
use Rattle.serial.proofs.Calls.{keeps}
use Rattle.serial.specs.Values.{FitCall, FitCalls, FitHand, FitHist, FitTold, hist-fits, FitOption, request-fits, hands-put, without-fits, nothing-fits, refused-fits, Fitting}

module _ (P : ℕ → Type 0) where
  fed-fits : (s : ℕ) (r : Option Req) (a : Ans) (h : Hist store) → FitOption P r → FitHist P h → FitHist P (fed s r a h)
  fed-fits s none a h w W = W
  fed-fits s (some r) a h w W = hist-fits P (S.finish s r a) h w W

  finished-fits : (p : ℕ) (a : Option Asked) (ns l : List ℕ) (h : Hist store) → FitHand P a → FitHist P h → FitHist P (finished p a ns l h)
  finished-fits zero a ns l h w W = W
  finished-fits (suc k) none ns l h w W = W
  finished-fits (suc k) (some a) ns l h w W = fed-fits (suc k) (request_of a.code a.entry a.first a.second) (answer_of a.code ns l) h
      (request-fits P a.code a.entry a.first a.second w) W

  ok-fits : (c : Call) (t : Told) → FitCall P c → FitTold P t → FitTold P (tell_ok c t)
  ok-fits (format m) t w W = nothing-fits P
  ok-fits (begin s) t w W = record { past = hist-fits P (S.begin s) t.past tt W.past; hands = hands-put P t s none W tt }
  ok-fits (commit s) t w W = record { past = hist-fits P (S.commit s) t.past tt W.past; hands = hands-put P t s none W tt }
  ok-fits (abort s) t w W = record { past = hist-fits P (S.abort s) t.past tt W.past; hands = hands-put P t s none W tt }
  ok-fits (ask s) t w W = record { past = W.past; hands = W.hands }
  ok-fits recover t w W = record { past = without-fits P (given_up t) t.past W.past; hands = λ p. tt }
  ok-fits (put p c e f g) t w W = record { past = W.past; hands = hands-put P t p (some (record { code = c; entry = e; first = f; second = g })) W w }
  ok-fits (step p l) t w W = W

  done-fits : (c : Call) (ns l : List ℕ) (t : Told) → FitTold P t → FitTold P (tell_done c ns l t)
  done-fits (format m) ns l t W = W
  done-fits (begin s) ns l t W = W
  done-fits (commit s) ns l t W = W
  done-fits (abort s) ns l t W = W
  done-fits (ask s) ns l t W = W
  done-fits recover ns l t W = W
  done-fits (put p c e f g) ns l t W = W
  done-fits (step p l₀) ns l t W = record { past = finished-fits p (t.hands p) ns l t.past (W.hands p) W.past; hands = hands-put P t p none W tt }

  tell-fits : (c : Call) (a : Answer) (l : List ℕ) (t : Told) → FitCall P c → FitTold P t → FitTold P (tell_answer c a l t)
  tell-fits c ok l t w W = ok-fits c t w W
  tell-fits c more l t w W = W
  tell-fits c (wait p) l t w W = W
  tell-fits c (done ns) l t w W = done-fits c ns l t W
  tell-fits c (refused n k) l t w W = refused-fits P c n t W

  -- ---- along a list of calls

  module _ (𝓢 : Machine) (T : Table) (strict : Strict T) (𝓛 : Laws 𝓢 T) where
    pub fitting-turn : (k : Turn) (x y : 𝓢.X) (t : Told) → 𝓢.Does x k y → FitCall P k.call → Fitting P 𝓢 t x → Fitting P 𝓢 (tell k t) y
    fitting-turn k x y t d w F = record {
      knows = 𝓛.knows k x y t d F.knows;
      serial = keeps 𝓢 T strict 𝓛 k x y t d F.knows F.serial;
      written = tell-fits k.call k.answer k.list t w F.written;
    }

    pub fitting-run : {x y : 𝓢.X} {ks : List Turn} (t : Told) → Run 𝓢 x ks y → FitCalls P (calls_of ks) → Fitting P 𝓢 t x → Fitting P 𝓢 (told t ks) y
    fitting-run t stop w F = F
    fitting-run t (next {x} {y} {z} {k} {ks} d r) w F = fitting-run (tell k t) r w.1 (fitting-turn k x y t d w.0 F)
