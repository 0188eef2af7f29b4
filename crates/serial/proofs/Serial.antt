-- Theorems of specs/Serial: what it defines is there.
use Rattle.std.proofs.Common.{◌∙◌, ap}
use mathlib.Core.List.{List, map}
use Rattle.serial.specs.Serial.{Model, serial, State, Event, Hist, none_yet, hstep, hist, Run, Inv, inv-step, Fresh, inv-fresh, run_answers, requests, fits-run, serial-run, fitsall-run, Demand, closed-aborts, inv-idle, abort, stop, next}

module _ (𝓜 : Model) where
  open 𝓜 use {Db, get, Good}

  pub inv-run : (d₀ : Db) (h : Hist 𝓜) {σ τ : State 𝓜} {es : List (Event 𝓜)} → Run 𝓜 σ es τ → Inv 𝓜 d₀ h σ → Inv 𝓜 d₀ (hist 𝓜 h es) τ
  inv-run d₀ h stop v = v
  inv-run d₀ h (next {σ} {ρ} {τ} {e} {es} p q) v = inv-run d₀ (hstep 𝓜 e h) q (inv-step 𝓜 d₀ h σ ρ e p v)

  pub inv-demand : (d₀ : Db) (h : Hist 𝓜) (σ : State 𝓜) → Inv 𝓜 d₀ h σ → Demand 𝓜 d₀ h σ
  inv-demand d₀ h σ v = record {
    committed = fitsall-run 𝓜 h.closed d₀ v.fits_closed;
    unfinished = λ s. fits-run 𝓜 (h.current s) (serial 𝓜 h.closed d₀) (v.core.part s).fits
        ∙ ap (λ e. run_answers 𝓜 (requests 𝓜 (h.current s)) e) (serial-run 𝓜 h.closed d₀);
    restored = λ ss τ r n i. inv-idle 𝓜 d₀ (hist 𝓜 h (map abort ss)) τ (inv-run d₀ h r v) n i
        ∙ ap (λ ls. get (serial 𝓜 ls d₀) i) (closed-aborts 𝓜 h ss)
        ∙ ap (λ e. get e i) (serial-run 𝓜 h.closed d₀);
  }

  -- The theorem: every run of the lock machine from a fresh state.
  pub serializable : (d₀ : Db) → Good d₀ → (σ τ : State 𝓜) (es : List (Event 𝓜)) → Fresh 𝓜 d₀ σ → Run 𝓜 σ es τ → Demand 𝓜 d₀ (hist 𝓜 (none_yet 𝓜) es) τ
  serializable d₀ g σ τ es f r = inv-demand d₀ (hist 𝓜 (none_yet 𝓜) es) τ (inv-run d₀ (none_yet 𝓜) r (inv-fresh 𝓜 d₀ g σ f))
