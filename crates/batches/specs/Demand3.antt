-- Runs, requests and batches in lists of calls: each is a list of ordinary calls, and what the host sees of it tells the same history, the same line of begun
-- sessions and the same diary; so demand 3 holds of every list with them in it.
use Rattle.std.specs.Prelude.{◌≡◌, refl, ℕ, zero, suc, length, replicate, drop}
use Rattle.std.proofs.Common.{sym, ap, subst, ◌∙◌, arith}
use mathlib.Core.List.{List, [], ◌∷◌, ◌++◌}
use Rattle.sessions.specs.declared.Session.{Session}
use Rattle.serial.specs.Calls.{Turn, Told, nothing, tell, told, Run, stop, next, Demand3}
use Rattle.serial.specs.Calls as C
use Rattle.serial.specs.Line.{in_line, line}
use Rattle.own_journal.specs.Diary.{Diary, note, kept}
use Rattle.meaning.specs.Sound.{Sound}
use Rattle.promises.specs.Relations.{Formats}
use Rattle.promises.specs.Demands.{Lending, Returns, words}
use Rattle.promises.specs.Promised.{calls-return}
use Rattle.promises.proofs.Words.{formatted-calls}
use Rattle.promises.specs.Runs.{lending, calling, call_turn, put_turn, step_turn, steps, asks, Within}
use Rattle.promises.specs.Making.{run-append}
use Rattle.asking.specs.declared.Asking.{Asking}
use Rattle.asking.specs.declared.Asking.TheVariants as K
use Rattle.asking.specs.Asks.{asking_at}
use Rattle.batches.specs.Batches.{Asks, Batched, none, last, goes, Fits, Batches}

-- ---- an ask

-- The ordinary calls that it is.
abbrev pub turns : Asking → List ℕ → C.Answer → ℕ → List ℕ → List Turn
turns (K.Begin p) l a n l' = call_turn (C.begin p) a ∷ []
turns (K.Put p c e f g) l a n l' = put_turn p c e f g a ∷ []
turns (K.Step p) l a n l' = step_turn p l a l' ∷ []
turns (K.Commit p) l a n l' = call_turn (C.commit p) a ∷ []
turns (K.Abort p) l a n l' = call_turn (C.abort p) a ∷ []
turns (K.Run p b) l a n l' = steps n p l a l'
turns (K.Request p c e f g b) l a n l' = asks n p c e f g l a l'
turns (K.Ask p) l a n l' = call_turn (C.ask p) a ∷ []
turns K.Other l a n l' = []

-- A request as the host sees it: the put if it was not accepted, else the put and one step with the answer.
abbrev pub asked : ℕ → ℕ → ℕ → ℕ → ℕ → ℕ → List ℕ → C.Answer → List ℕ → List Turn
asked zero p c e f g l a l' = put_turn p c e f g a ∷ []
asked (suc k) p c e f g l a l' = put_turn p c e f g C.ok ∷ step_turn p l a l' ∷ []

-- What the host sees: of a run one step with its answer.
abbrev pub seen : Asking → List ℕ → C.Answer → ℕ → List ℕ → List Turn
seen (K.Begin p) l a n l' = call_turn (C.begin p) a ∷ []
seen (K.Put p c e f g) l a n l' = put_turn p c e f g a ∷ []
seen (K.Step p) l a n l' = step_turn p l a l' ∷ []
seen (K.Commit p) l a n l' = call_turn (C.commit p) a ∷ []
seen (K.Abort p) l a n l' = call_turn (C.abort p) a ∷ []
seen (K.Run p b) l a n l' = step_turn p l a l' ∷ []
seen (K.Request p c e f g b) l a n l' = asked n p c e f g l a l'
seen (K.Ask p) l a n l' = call_turn (C.ask p) a ∷ []
seen K.Other l a n l' = []

module _ (s : List ℕ) (t : List Session) (l : List ℕ) (a : C.Answer) (n : ℕ) (l' s' : List ℕ) (t' : List Session) where
  pub asks-made : (k : Asking) → Asks k s t l a n l' s' t' → Run calling (lending s t) (turns k l a n l') (lending s' t')
  asks-made (K.Begin p) h = next h.0 stop
  asks-made (K.Put p c e f g) h = next h.0 stop
  asks-made (K.Step p) h = next h.0 stop
  asks-made (K.Commit p) h = next h.0 stop
  asks-made (K.Abort p) h = next h.0 stop
  asks-made (K.Run p b) h = h.made
  asks-made (K.Request p c e f g b) h = h.made
  asks-made (K.Ask p) h = next h.0 stop
  asks-made K.Other h = subst (λ z. Run calling (lending s t) [] (lending s' z)) (sym h.4) (subst (λ z. Run calling (lending s t) [] (lending z t)) (sym h.3) stop)

told-append : (ks ls : List Turn) (t : Told) → told t (ks ++ ls) ≡ told (told t ks) ls
told-append [] ls t = refl
told-append (k ∷ ks) ls t = told-append ks ls (tell k t)

line-append : (ks ls : List Turn) (t : Told) (l : List ℕ) → line t l (ks ++ ls) ≡ line (told t ks) (line t l ks) ls
line-append [] ls t l = refl
line-append (k ∷ ks) ls t l = line-append ks ls (tell k t) (in_line t l k)

kept_append : (ks ls : List Turn) (h : Told) (d : Diary) → kept h d (ks ++ ls) ≡ kept (told h ks) (kept h d ks) ls
kept_append [] ls h d = refl
kept_append (k ∷ ks) ls h d = kept_append ks ls (tell k h) (note k h d)

-- Lists of turns that tell the same: the same history, the same line of begun sessions, and the same diary.
pub record Alike (ks js : List Turn) : Type 0 where
  pub tells : (h : Told) → told h ks ≡ told h js
  pub lines : (h : Told) (l : List ℕ) → line h l ks ≡ line h l js
  pub writes : (h : Told) (d : Diary) → kept h d ks ≡ kept h d js

pub alike : (ks : List Turn) → Alike ks ks
alike ks = record { tells = λ h. refl; lines = λ h l. refl; writes = λ h d. refl }

pub alike-append : {ks js ks' js' : List Turn} → Alike ks js → Alike ks' js' → Alike (ks ++ ks') (js ++ js')
alike-append {ks} {js} {ks'} {js'} a b = record {
  tells = λ h. told-append ks ks' h ∙ b.tells (told h ks) ∙ ap (λ z. told z js') (a.tells h) ∙ sym (told-append js js' h);
  lines = λ h l. line-append ks ks' h l ∙ b.lines (told h ks) (line h l ks) ∙ ap (λ z. line z (line h l ks) js') (a.tells h) ∙ ap (λ z. line (told h js) z js') (a.lines h l)
      ∙ sym (line-append js js' h l);
  writes = λ h d. kept_append ks ks' h d ∙ b.writes (told h ks) (kept h d ks) ∙ ap (λ z. kept z (kept h d ks) js') (a.tells h) ∙ ap (λ z. kept (told h js) z js') (a.writes h d)
      ∙ sym (kept_append js js' h d);
}

-- An answer of more tells nothing.
told-steps : (k p : ℕ) (l : List ℕ) (js : List Turn) → Alike (replicate k (step_turn p l C.more l) ++ js) js
told-steps zero p l js = alike js
told-steps (suc k) p l js = let a = told-steps k p l js in record { tells = a.tells; lines = a.lines; writes = a.writes }

run-told : (n p bound : ℕ) (l : List ℕ) (a : C.Answer) (l' : List ℕ) → Within bound n a → Alike (steps n p l a l') (step_turn p l a l' ∷ [])
run-told zero p bound l a l' W = absurd (omega (arith, W.some))
run-told (suc k) p bound l a l' W = told-steps k p l (step_turn p l a l' ∷ [])

request-told : (n p c e f g : ℕ) (l : List ℕ) (a : C.Answer) (l' : List ℕ) → Alike (asks n p c e f g l a l') (asked n p c e f g l a l')
request-told zero p c e f g l a l' = alike _
request-told (suc k) p c e f g l a l' = alike-append (alike (put_turn p c e f g C.ok ∷ [])) (told-steps k p l (step_turn p l a l' ∷ []))

module _ (s : List ℕ) (t : List Session) (l : List ℕ) (a : C.Answer) (n : ℕ) (l' s' : List ℕ) (t' : List Session) where
  pub asks-told : (k : Asking) → Asks k s t l a n l' s' t' → Alike (turns k l a n l') (seen k l a n l')
  asks-told (K.Begin p) d = alike _
  asks-told (K.Put p c e f g) d = alike _
  asks-told (K.Step p) d = alike _
  asks-told (K.Commit p) d = alike _
  asks-told (K.Abort p) d = alike _
  asks-told (K.Run p b) d = run-told n p b l a l' d.within
  asks-told (K.Request p c e f g b) d = request-told n p c e f g l a l'
  asks-told (K.Ask p) d = alike _
  asks-told K.Other d = alike _

-- ---- a batch

module _ {w : List ℕ} where
  -- The ordinary calls of its asks, and what the host sees of them, ask after ask.
  unfoldable pub batch_turns : {i : ℕ} {s : List ℕ} {t : List Session} {l rs l' s' : List ℕ} {t' : List Session} → Batched w i s t l rs l' s' t' → List Turn
  batch_turns (none h) = []
  batch_turns (last {i} {a = a} {l = l} {l' = l'} m e) = turns (asking_at w i) l a m.steps l'
  batch_turns (goes {i} {a = a} {l = l} {l₁ = l₁} m e b) = turns (asking_at w i) l a m.steps l₁ ++ batch_turns b

  unfoldable pub batch_seen : {i : ℕ} {s : List ℕ} {t : List Session} {l rs l' s' : List ℕ} {t' : List Session} → Batched w i s t l rs l' s' t' → List Turn
  batch_seen (none h) = []
  batch_seen (last {i} {a = a} {l = l} {l' = l'} m e) = seen (asking_at w i) l a m.steps l'
  batch_seen (goes {i} {a = a} {l = l} {l₁ = l₁} m e b) = seen (asking_at w i) l a m.steps l₁ ++ batch_seen b

  pub batch_run : {i : ℕ} {s : List ℕ} {t : List Session} {l rs l' s' : List ℕ} {t' : List Session} (b : Batched w i s t l rs l' s' t') → Run calling (lending s t) (batch_turns b) (lending s' t')
  unfolding batch_turns
  batch_run (none h) = stop
  batch_run (last {i} {a = a} {s = s} {l = l} {l' = l'} {s' = s'} {t = t} {t' = t'} m e) = asks-made s t l a m.steps l' s' t' (asking_at w i) m.made
  batch_run (goes {i} {a = a} {s = s} {l = l} {l₁ = l₁} {s₁ = s₁} {t = t} {t₁ = t₁} m e b) = run-append (asks-made s t l a m.steps l₁ s₁ t₁ (asking_at w i) m.made) (batch_run b)

  pub batch-told : {i : ℕ} {s : List ℕ} {t : List Session} {l rs l' s' : List ℕ} {t' : List Session} (b : Batched w i s t l rs l' s' t') → Alike (batch_turns b) (batch_seen b)
  unfolding batch_turns batch_seen
  batch-told (none e) = alike []
  batch-told (last {i} {a = a} {s = s} {l = l} {l' = l'} {s' = s'} {t = t} {t' = t'} m e) = asks-told s t l a m.steps l' s' t' (asking_at w i) m.made
  batch-told (goes {i} {a = a} {s = s} {l = l} {l₁ = l₁} {s₁ = s₁} {t = t} {t₁ = t₁} m e b) = alike-append (asks-told s t l a m.steps l₁ s₁ t₁ (asking_at w i) m.made) (batch-told b)

-- ---- lists of calls with them in it

-- One return, as its contract says: the ordinary calls ks that it is, and the turns js that the host sees. The eight calls, an ask (a run and a request are asks),
-- a batch that is made, and one that is turned away.
pub data Serving : Lending → List Turn → List Turn → Lending → Type 0 where
  once : {x y : Lending} {k : Turn} → Returns x k y → Serving x (k ∷ []) (k ∷ []) y
  asks_one : {x y : Lending} (k : Asking) (l : List ℕ) (a : C.Answer) (n : ℕ) (l' : List ℕ) → Asks k x.store x.table l a n l' y.store y.table → Serving x (turns k l a n l') (seen k l a n l') y
  batches : {x y : Lending} {w l l' rs : List ℕ} (b : Batched w 0 x.store x.table l rs l' y.store y.table) → Serving x (batch_turns b) (batch_seen b) y
  away : {x : Lending} → Serving x [] [] x

pub data Servings : Lending → List Turn → List Turn → Lending → Type 0 where
  over : {x : Lending} → Servings x [] [] x
  then : {x y z : Lending} {ks js ks' js' : List Turn} → Serving x ks js y → Servings y ks' js' z → Servings x (ks ++ ks') (js ++ js') z

made-return : {x y : Lending} {ks : List Turn} → Run calling x ks y → Run words x ks y
made-return stop = stop
made-return (next {x} {y} {z} {k} d r) = next (calls-return k.call x.store x.table k.answer k.list y.store y.table d) (made-return r)

pub serving-run : {x y : Lending} {ks js : List Turn} → Serving x ks js y → Run words x ks y
serving-run (once d) = next d stop
serving-run (asks_one {x} {y} k l a n l' d) = made-return (asks-made x.store x.table l a n l' y.store y.table k d)
serving-run (batches b) = made-return (batch_run b)
serving-run away = stop

pub serving-told : {x y : Lending} {ks js : List Turn} → Serving x ks js y → Alike ks js
serving-told (once d) = alike _
serving-told (asks_one {x} {y} k l a n l' d) = asks-told x.store x.table l a n l' y.store y.table k d
serving-told (batches b) = batch-told b
serving-told away = alike []

pub words_append : {x y z : Lending} {ks ls : List Turn} → Run words x ks y → Run words y ls z → Run words x (ks ++ ls) z
words_append stop r = r
words_append (next d q) r = next d (words_append q r)

-- Such a list is a list of ordinary calls,
pub servings-run : {x y : Lending} {ks js : List Turn} → Servings x ks js y → Run words x ks y
servings-run over = stop
servings-run (then s r) = words_append (serving-run s) (servings-run r)

-- and what the host sees tells what they tell.
pub servings-told : {x y : Lending} {ks js : List Turn} → Servings x ks js y → Alike ks js
servings-told over = alike []
servings-told (then s r) = alike-append (serving-told s) (servings-told r)

-- So it keeps demand 3, from a store and table as an accepted format leaves them.
pub servings-demand-3 : (m : ℕ) (s s' : List ℕ) (t t' : List Session) → Formats m s t C.ok s' t' → (ks js : List Turn) (y : Lending) → Servings (lending s' t') ks js y
    → Demand3 words (told nothing js) y
servings-demand-3 m s s' t t' F ks js y r = subst (λ h. Demand3 words h y) ((servings-told r).tells nothing) (formatted-calls m s s' t t' F ks y (servings-run r))
