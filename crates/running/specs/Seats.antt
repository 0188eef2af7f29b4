-- A run over the party's record alone: whatever table has that record, the steps are that table's.
use Rattle.std.specs.Prelude.{◌≡◌, refl, Bool, true, false, not, List, ℕ, ◌+◌, ◌≤◌, ◌<◌, length, set}
use Rattle.std.proofs.Common.{sym, ap, subst, ◌∙◌, arith, get_or-set_same, set-set}
use Rattle.std.proofs.lemmas.List.{set-get_or}
use Rattle.std.proofs.lemmas.Bool.{not-false}
use Rattle.sessions.specs.declared.Session.{Session}
use Rattle.sessions.specs.Sessions.{session_at, idle_session}
use Rattle.serial.specs.Calls as C
use Rattle.outcomes.specs.declared.Answer as D
use Rattle.outcomes.specs.declared.Answer.TheVariants.{More}
use Rattle.outcomes.specs.declared.Moved.{Moved}
use Rattle.outcomes.specs.Said.{said}
use Rattle.meaning.specs.Reading.{M-of, R-of}
use Rattle.meaning.specs.Sound.{Sound}
use Rattle.meaning.specs.Table.{table-many}
use Rattle.refusals.specs.Refusing.{first_of, step_list}
use Rattle.promises.specs.Ways.{Serves, any-party}
use Rattle.promises.specs.Steps.{step-names, step_run, step-can}
use Rattle.promises.specs.Stepping.{stage_step, stage_written, settled_answer, StageReady, Nameable, LeavesBoth}
use Rattle.promises.specs.Runs.{Runs}
use Rattle.taking.specs.Taking.{over}
use Rattle.running.specs.Answers.{is_more, settled-more, not-wait, is-more}
use Rattle.running.specs.Making.{Limit, Running, run_none, run-again, run-over, run-stops}

-- Some table has the record x of party p, is sound beside the store, and lets the party step.
pub record Seated (s : List ℕ) (m r p : ℕ) (x : Session) : Type 0 where
  pub table : List Session
  pub sound : Sound s table
  pub seat : x ≡ session_at table p
  pub goes : first_of (step_list table p) ≡ 0
  pub entries : m ≡ M-of s
  pub records : r ≡ R-of s

-- Whatever table has it, the step is that table's, with the party of a wait named by it; and the run. A wait can be named.
pub record SeatServes (m r p : ℕ) (x : Session) (s l : List ℕ) (a : D.Answer) (l' s' : List ℕ) (y : Session) : Type 0 where
  pub serves : (t : List Session) → Sound s t → x ≡ session_at t p → first_of (step_list t p) ≡ 0 → Serves (C.step p l) s t (said (settled_answer s' m r (set t p y) p y a)) l' s' (set t p y)
  pub names : Nameable s' m r p y a

pub record SeatRuns (m r p bound : ℕ) (x : Session) (s l : List ℕ) (a : D.Answer) (n : ℕ) (l' s' : List ℕ) (y : Session) : Type 0 where
  pub runs : (t : List Session) → Sound s t → x ≡ session_at t p → first_of (step_list t p) ≡ 0 → Runs p bound s t l (said (settled_answer s' m r (set t p y) p y a)) n l' s' (set t p y)
  pub names : Nameable s' m r p y a

-- ---- one step

pub seat-serves : (m r p : ℕ) (x : Session) (s l : List ℕ) {s' l' : List ℕ} {w : Moved} → Seated s m r p x
    → LeavesBoth s' w l' (stage_step s m r (length l) p x) (over (stage_written s m r (length l) p x) l) → SeatServes m r p x s l w.answer l' s' w.session
seat-serves m r p x s l K h = record {
  serves = λ t S k z. step_run s t p l S z K.entries K.records k h refl refl;
  names = step-names s K.table p l K.sound K.goes K.entries K.records K.seat h;
}

pub seat-can : (s : List ℕ) (m r p : ℕ) (x : Session) → Seated s m r p x → StageReady s m r p x
seat-can s m r p x K = step-can s K.table p K.sound K.goes K.entries K.records K.seat

-- ---- the run so far

same_set : (t : List Session) (p : ℕ) (x : Session) → x ≡ session_at t p → set t p x ≡ t
same_set t p x e = ap (set t p) e ∙ set-get_or t p idle_session

seat-same : (s : List ℕ) (t : List Session) (p : ℕ) (y : Session) → Sound s t → first_of (step_list t p) ≡ 0 → y ≡ session_at (set t p y) p
seat-same s t p y S z =
    let l : p < length t = omega (arith, any-party p _ z, table-many s t S.state) in
    sym (get_or-set_same t p y idle_session l)

pub record SeatRunning (m r p : ℕ) (x : Session) (s l : List ℕ) (a : D.Answer) (n : ℕ) (l' s' : List ℕ) (y : Session) : Type 0 where
  pub running : (t : List Session) → Sound s t → x ≡ session_at t p → first_of (step_list t p) ≡ 0 → Running p s t l (said (settled_answer s' m r (set t p y) p y a)) n l' s' (set t p y)
  pub names : Nameable s' m r p y a
  pub entries : M-of s' ≡ M-of s
  pub records : R-of s' ≡ R-of s

pub seat-none : (m r p : ℕ) (x : Session) (s l : List ℕ) → SeatRunning m r p x s l More 0 l s x
seat-none m r p x s l = record {
  running = λ t S i z. subst (Running p s t l C.more 0 l s) (sym (same_set t p x i)) (run_none S z);
  names = λ q e. absurd (not-wait q e);
  entries = refl;
  records = refl;
}

-- Its answer is more, with the table too.
is_said : (s : List ℕ) (m r : ℕ) (t : List Session) (p : ℕ) (y : Session) (a : D.Answer) {v : Bool} → v ≡ is_more a → not v ≡ false → said (settled_answer s m r t p y a) ≡ C.more
is_said s m r t p y a {v} i j = ap said (is-more (settled_answer s m r t p y a) (settled-more s m r t p y a ∙ sym i ∙ not-false v j))

pub seat-seated : {s l : List ℕ} {m r p : ℕ} {x : Session} {n : ℕ} (a : D.Answer) {l' s' : List ℕ} {y : Session} {v : Bool} → Seated s m r p x → SeatRunning m r p x s l a n l' s' y
    → v ≡ is_more a → not v ≡ false → Seated s' m r p y
seat-seated {s} {m = m} {r = r} {p = p} a {s' = s'} {y = y} K R i j =
    let Z = R.running K.table K.sound K.seat K.goes in
    record {
      table = set K.table p y;
      sound = Z.sound;
      seat = seat-same s K.table p y K.sound K.goes;
      goes = Z.goes (is_said s' m r (set K.table p y) p y a i j);
      entries = K.entries ∙ sym R.entries;
      records = K.records ∙ sym R.records;
    }

pub seat-again : {s l : List ℕ} {m r p : ℕ} {x : Session} (n : ℕ) (a : D.Answer) {l₁ s₁ : List ℕ} {y : Session} {b : D.Answer} {l₂ s₂ : List ℕ} {z : Session} {v : Bool} → Seated s m r p x
    → SeatRunning m r p x s l a n l₁ s₁ y → v ≡ is_more a → not v ≡ false → SeatServes m r p y s₁ l₁ b l₂ s₂ z → SeatRunning m r p x s l b (n + 1) l₂ s₂ z
seat-again {s} {l} {m} {r} {p} {x} n a {l₁} {s₁} {y} {b} {l₂} {s₂} {z} {v} K R i j G = record {
  running = λ t S e q.
      run-again n (settled_answer s₁ m r (set t p y) p y a) (R.running t S e q) (i ∙ sym (settled-more s₁ m r (set t p y) p y a)) j
      (subst (λ u. Serves (C.step p l₁) s₁ (set t p y) (said (settled_answer s₂ m r u p z b)) l₂ s₂ u) (set-set t p y z) (served t S e q));
  names = G.names;
  entries = (served K.table K.sound K.seat K.goes).1.entries ∙ R.entries;
  records = (served K.table K.sound K.seat K.goes).1.records ∙ R.records;
}
  where
    served : (t : List Session) → Sound s t → x ≡ session_at t p → first_of (step_list t p) ≡ 0
        → Serves (C.step p l₁) s₁ (set t p y) (said (settled_answer s₂ m r (set (set t p y) p z) p z b)) l₂ s₂ (set (set t p y) p z)
    served t S e q =
        let Z = R.running t S e q in
        G.serves (set t p y) Z.sound (seat-same s t p y S q) (Z.goes (is_said s₁ m r (set t p y) p y a i j))

pub seat-stops : {m r p bound limit : ℕ} (n : ℕ) (a : D.Answer) {x : Session} {s l l' s' : List ℕ} {y : Session} {v : Bool} → Limit bound limit → n ≤ limit
    → SeatRunning m r p x s l a n l' s' y → v ≡ is_more a → not v ≡ true → SeatRuns m r p bound x s l a n l' s' y
seat-stops {m} {r} {p} n a {s' = s'} {y = y} B k R i j = record {
  runs = λ t S e q. run-stops n (settled_answer s' m r (set t p y) p y a) B k (R.running t S e q) (i ∙ sym (settled-more s' m r (set t p y) p y a)) j;
  names = R.names;
}

pub seat-over : {m r p bound limit n : ℕ} {x : Session} {s l : List ℕ} {a : D.Answer} {l' s' : List ℕ} {y : Session} → Limit bound limit → n ≤ limit
    → SeatRunning m r p x s l a n l' s' y → ¬ (n ≡ 0) → limit ≤ n → SeatRuns m r p bound x s l a n l' s' y
seat-over B k R z w = record { runs = λ t S e q. run-over B k (R.running t S e q) z (λ i. w); names = R.names }

-- ---- with the table

pub table_runs : {m r p bound : ℕ} {x : Session} {s l : List ℕ} {a : D.Answer} {n : ℕ} {l' s' : List ℕ} {y : Session} {t u : List Session} {b : D.Answer} → SeatRuns m r p bound x s l a n l' s' y → Sound s t
    → x ≡ session_at t p → first_of (step_list t p) ≡ 0 → u ≡ set t p y → b ≡ settled_answer s' m r u p y a → Runs p bound s t l (said b) n l' s' u
table_runs {m} {r} {p} {bound} {x} {s} {l} {a} {n} {l'} {s'} {y} {t} {u} R S e z i h =
    subst (λ c. Runs p bound s t l (said c) n l' s' u) (sym h)
    (subst (λ v. Runs p bound s t l (said (settled_answer s' m r v p y a)) n l' s' v) (sym i) (R.runs t S e z))
