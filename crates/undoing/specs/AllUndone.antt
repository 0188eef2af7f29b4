-- All undo records of a session undone, newest first.
use Rattle.std.specs.Prelude.{◌≡◌, ℕ, zero, suc}
use Rattle.std.proofs.Math.Path.{refl, ap}
use Rattle.std.proofs.Common.{sym, ◌∙◌}
use mathlib.Core.List.{List, [], ◌∷◌, map}
use Rattle.std.proofs.Math.Option.{Option, none, some}
use Rattle.std.proofs.Math.ListN.{get_or, set}
use Rattle.std.proofs.Math.Seq.{set-set}
use Rattle.sessions.specs.declared.Session.{Session}
use Rattle.sessions.specs.Sessions.{session_at}
use Rattle.machine.specs.State.{Request, Undo, value, added, taken, State, idle, session_of, with_table, entry_of, on_entry, on_tree, on_session}
use Rattle.machine.specs.State as M
use Rattle.machine.specs.Calls.{undo-all, leave, end_hand, aborts}
use Rattle.machine.specs.View.{ended_same}
use Rattle.machine.specs.Calls as C
use Rattle.machine.specs.Sound as S
use Rattle.machine.specs.Undoing.{with_undos}
use Rattle.meaning.specs.Reading.{M-of}
use Rattle.layout.specs.Layout.{Lay, Undone, means, Holds}
use Rattle.layout.specs.Ordering.{Rising}
use Rattle.layout.specs.Room.{Sizes}
use Rattle.layout.specs.Written.{Written}
use Rattle.undo_log.specs.Undoing.{Undoings}
use Rattle.undoing.specs.Rows.{with_undo}

-- ---- undoing and the session table

undo-with : (b : Undo) (l : List M.Session) (σ : State) → C.undo b (with_table l σ) ≡ with_table l (C.undo b σ)
unfolding C.undo on_entry on_tree entry_of
undo-with (value zero v) l σ = refl
undo-with (value (suc i) v) l σ = refl
undo-with (added e k) l σ = refl
undo-with (taken e k) l σ = refl

pub undo-all-with : (bs : List Undo) (l : List M.Session) (σ : State) → undo-all bs (with_table l σ) ≡ with_table l (undo-all bs σ)
unfolding undo-all
undo-all-with [] l σ = refl
undo-all-with (b ∷ bs) l σ = ap (undo-all bs) (undo-with b l σ) ∙ undo-all-with bs l (C.undo b σ)

-- ---- the whole chain

-- The session's undo records undone, and its chain empty.
abbrev pub all_undone_state : ℕ → List Undo → State → State
all_undone_state p bs σ = with_table (set σ.table p (with_undos [] (get_or σ.table p idle))) (undo-all bs σ)

pub record AllUndone (s : List ℕ) (t : List Session) (L : Lay) (p : ℕ) (us : List Undone) (n : ℕ) (s' : List ℕ) : Type 0 where
  pub lay : Lay
  pub holds : Holds s' (set t p (with_undo (session_at t p) 0)) lay
  pub mine : lay.undos p ≡ []
  pub others : (q : ℕ) → ¬ (q ≡ p) → lay.undos q ≡ L.undos q
  pub means_next : means lay (set t p (with_undo (session_at t p) 0)) ≡ all_undone_state p (map (λ y. y.undo) us) (means L t)
  pub sound : S.Sound (means lay (set t p (with_undo (session_at t p) 0)))
  pub rising : Rising lay
  pub sizes : Sizes lay
  pub touched : List ℕ
  pub written : Written s s' touched
  -- What the code asks.
  pub ready : Undoings s (M-of s) n (session_at t p).undo

-- ---- abort

-- The session leaves then: what is left of its own record does not matter.
pub undone-leaves : (p : ℕ) (bs : List Undo) (σ : State) → leave p (all_undone_state p bs σ) ≡ leave p (undo-all bs σ)
unfolding leave on_session on_tree
undone-leaves p bs σ =
    ap (λ l. with_table l (leave p (undo-all bs σ))) (set-set σ.table p (with_undos [] (get_or σ.table p idle)) idle) ∙ ap (leave p) (sym (undo-all-with bs σ.table σ))

-- The request in hand ends, the undo records are undone, the session leaves.
pub abort-is : (p : ℕ) (σ : State)
    → aborts p σ ≡ leave p (all_undone_state p (session_of p (end_hand p (session_of p σ).hand σ)).undos (end_hand p (session_of p σ).hand σ))
unfolding aborts
abort-is p σ =
    let τ = end_hand p (session_of p σ).hand σ in
    ap (λ bs. leave p (undo-all bs τ)) (sym (same (session_of p σ).hand)) ∙ sym (undone-leaves p (session_of p τ).undos τ)
  where
    same : (o : Option Request) → (session_of p (end_hand p o σ)).undos ≡ (session_of p σ).undos
    same none = unfold end_hand in refl
    same (some r) = unfold end_hand in ((ended_same p r σ).undos_same p)
