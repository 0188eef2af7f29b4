-- Walks of the main chain: a run replayed line by line, and the runs replayed commit by commit.
use Rattle.std.specs.Prelude.{◌≡◌, refl, Bool, false, cond, ◌&&◌, List, [], ◌∷◌, ◌++◌, ℕ, ◌+◌, ◌-◌, ◌≤◌, eqb, length}
use Rattle.std.proofs.Common.{sym, ◌∙◌, arith, length-append, eq-eqb, ne_eqb}
use Rattle.std.proofs.Math.Path.{ap}
use Rattle.std.proofs.Math.Bool.{true, and-eq-true_iff}
use Rattle.std.proofs.Math.Option.{some}
use Rattle.serial.specs.Serial.{Done, after}
use Rattle.serial.specs.Model.{Db}
use Rattle.serial.specs.Footprints.{store}
use Rattle.journal_reader.specs.declared.Record.{Record}
use Rattle.journal_reader.specs.Record.{records, record_at}
use Rattle.journal_lines.specs.Journal.{Line, is_some, line_of, list_of, lines, or_empty, said, is_commit, proper, all_proper, all_end, feeds, of_run, committed_in, committed}
use Rattle.journal_lines.specs.Walks.{some-or-empty, Rest, lines_rest, lines-few}
use Rattle.replay.specs.Held.{held, Ready}
use Rattle.journal.specs.Fits.{fits, fits_all}
use Rattle.journal.specs.Room.{total, room-for-all}
use Rattle.journal.specs.Located.{line_at}
use Rattle.journal.specs.Runs.{Stand, stands, Replays, replays-none, replays-apart, replays-then, Feedable}

-- ---- the chain

module _ (bs : List ℕ) (h : is_some (lines bs) ≡ true) where
  said-rest : Rest bs 1 (said bs)
  said-rest = lines_rest bs (said bs) (some-or-empty (lines bs) h)

  pub said-few : (length (said bs) ≤ records bs) × (records bs ≤ 2048) × (1 ≤ records bs)
  said-few = lines-few bs (said bs) (some-or-empty (lines bs) h)

-- The line that the chain says at a place is that of the record there.
the-line : (bs : List ℕ) (at : ℕ) (l : Line) → list_of bs (record_at bs at) ≡ some l.pairs → l ≡ line_of (record_at bs at) l.pairs
    → l ≡ line_at bs (record_at bs at)
unfolding line_at
the-line bs at l h e = e ∙ ap (λ o. line_of (record_at bs at) (or_empty o)) (sym h)

-- Before its end a line stands at a place of the chain.
pub record Here (bs : List ℕ) (r : Record) (ls : List Line) : Type 0 where
  pub later : List Line
  pub is : ls ≡ line_at bs r ∷ later
  pub listed : is_some (list_of bs r) ≡ true
  pub walk : Rest bs r.next later

here : (bs : List ℕ) (at : ℕ) (r : Record) (ls : List Line) → Rest bs at ls → ¬ (at ≡ 0) → r ≡ record_at bs at → Here bs r ls
here bs at r [] w n e = absurd (n w)
here bs at r (l ∷ ls) w n e = rw e record {
  later = ls;
  is = ap (λ x. x ∷ ls) (the-line bs at l w.2 w.3);
  listed = ap is_some w.2;
  walk = w.4;
}

no_more : (bs : List ℕ) (at : ℕ) (ls : List Line) → Rest bs at ls → at ≡ 0 → ls ≡ []
no_more bs at [] w e = refl
no_more bs at (l ∷ ls) w e = absurd (omega (arith, w.0, e))

-- ---- a run

-- What a line feeds of a run.
unfoldable pub fed_in : ℕ → Line → List (Done store)
fed_in x l = cond (eqb l.run x) (feeds l) []

of-run-more : (x : ℕ) (l : Line) (ls : List Line) → of_run x (l ∷ ls) ≡ fed_in x l ++ of_run x ls
unfolding of_run fed_in
of-run-more x l ls = go (eqb l.run x)
  where
    go : (b : Bool) → cond b (feeds l ++ of_run x ls) (of_run x ls) ≡ cond b (feeds l) [] ++ of_run x ls
    go true = refl
    go false = refl

pub record Turnable (bs : List ℕ) (x : ℕ) (r : Record) (vs ks es : List ℕ) (n : ℕ) : Type 0 where
  pub listed : is_some (list_of bs r) ≡ true
  pub proper : proper (line_at bs r) ≡ true
  pub ready : Ready vs ks es n
  pub room : n + length (fed_in x (line_at bs r)) ≤ 2048

-- A line of another run.
pub turn-other : (bs : List ℕ) (x : ℕ) (r : Record) (vs ks es : List ℕ) (n : ℕ) → ¬ (r.run ≡ x) → Ready vs ks es n
    → Replays (fed_in x (line_at bs r)) vs ks es n (stands true n) vs ks es
unfolding fed_in line_at
turn-other bs x r vs ks es n h k = rw (ne_eqb r.run x h) (replays-none vs ks es n k)

turn-own : (bs : List ℕ) (x : ℕ) (r : Record) → r.run ≡ x → fed_in x (line_at bs r) ≡ feeds (line_at bs r)
unfolding fed_in line_at
turn-own bs x r h = rw (eq-eqb r.run x h) refl

pub turn-feedable : (bs : List ℕ) (x : ℕ) (r : Record) (vs ks es : List ℕ) (n : ℕ) → r.run ≡ x → Turnable bs x r vs ks es n → Feedable bs r vs ks es n
turn-feedable bs x r vs ks es n h k =
    record { listed = k.listed; proper = k.proper; ready = k.ready; room = rw (turn-own bs x r h) at k.room }

pub turn-line : (bs : List ℕ) (x : ℕ) (r : Record) {vs ks es : List ℕ} {n : ℕ} {s : Stand} {vs' ks' es' : List ℕ} → r.run ≡ x
    → Replays (feeds (line_at bs r)) vs ks es n s vs' ks' es' → Replays (fed_in x (line_at bs r)) vs ks es n s vs' ks' es'
turn-line bs x r h k = rw (turn-own bs x r h) k

pub record Replayable (bs : List ℕ) (x : ℕ) (vs ks es : List ℕ) (n : ℕ) : Type 0 where
  pub readable : is_some (lines bs) ≡ true
  pub proper : all_proper (said bs) ≡ true
  pub ready : Ready vs ks es n
  pub room : n + length (of_run x (said bs)) ≤ 2048

-- What is left of the run, replayed, gives the whole.
pub record Going (bs : List ℕ) (x : ℕ) (vs₀ ks₀ es₀ : List ℕ) (n₀ : ℕ) (vs ks es : List ℕ) (n at left : ℕ) : Type 0 where
  pub rest : List Line
  pub walk : Rest bs at rest
  pub few : length rest ≤ left
  pub proper : all_proper rest ≡ true
  pub ready : Ready vs ks es n
  pub room : n + length (of_run x rest) ≤ 2048
  pub onward : (s : Stand) (vs' ks' es' : List ℕ) → Replays (of_run x rest) vs ks es n s vs' ks' es' → Replays (of_run x (said bs)) vs₀ ks₀ es₀ n₀ s vs' ks' es'

pub going_start : (bs : List ℕ) (x : ℕ) (vs ks es : List ℕ) (n left : ℕ) → Replayable bs x vs ks es n → left ≡ records bs → Going bs x vs ks es n vs ks es n 1 left
going_start bs x vs ks es n left h e = record {
  rest = said bs;
  walk = said-rest bs h.readable;
  few = omega (arith, (said-few bs h.readable).0, e);
  proper = h.proper;
  ready = h.ready;
  room = h.room;
  onward = λ s vs' ks' es' k. k;
}

module _ (bs : List ℕ) (x : ℕ) (vs₀ ks₀ es₀ : List ℕ) (n₀ : ℕ) (vs ks es : List ℕ) (n at left : ℕ) (c : Going bs x vs₀ ks₀ es₀ n₀ vs ks es n at left) where
  pub going_end : at ≡ 0 → Replays (of_run x (said bs)) vs₀ ks₀ es₀ n₀ (stands true n) vs ks es
  unfolding of_run
  going_end e = c.onward (stands true n) vs ks es (rw (no_more bs at c.rest c.walk e) (replays-none vs ks es n c.ready))

  module _ (r : Record) (h : ¬ (at ≡ 0)) (e : r ≡ record_at bs at) where
    place : Here bs r c.rest
    place = here bs at r c.rest c.walk h e

    fed-first : of_run x c.rest ≡ fed_in x (line_at bs r) ++ of_run x place.later
    fed-first = ap (λ l. of_run x l) place.is ∙ of-run-more x (line_at bs r) place.later

    room-first : n + (length (fed_in x (line_at bs r)) + length (of_run x place.later)) ≤ 2048
    room-first = omega (arith, c.room, ap length fed-first, length-append (fed_in x (line_at bs r)) (of_run x place.later))

    all_first : (proper (line_at bs r) ≡ true) × (all_proper place.later ≡ true)
    unfolding all_proper
    all_first = (and-eq-true_iff (proper (line_at bs r)) (all_proper place.later)).0 (ap all_proper (sym place.is) ∙ c.proper)

    pub going-left : 1 ≤ left
    going-left = omega (arith, c.few, ap length place.is)

    pub going-turn : Turnable bs x r vs ks es n
    going-turn = record { listed = place.listed; proper = all_first.0; ready = c.ready; room = omega (arith, room-first) }

    module _ (s : Stand) (vs₁ ks₁ es₁ : List ℕ) (k : Replays (fed_in x (line_at bs r)) vs ks es n s vs₁ ks₁ es₁) where
      pub going-apart : s.is_same ≡ false → Replays (of_run x (said bs)) vs₀ ks₀ es₀ n₀ s vs₁ ks₁ es₁
      going-apart f = c.onward s vs₁ ks₁ es₁ (rw fed-first (replays-apart (fed_in x (line_at bs r)) (of_run x place.later) k f))

      pub going_more : s.is_same ≡ true → Going bs x vs₀ ks₀ es₀ n₀ vs₁ ks₁ es₁ s.count r.next (left - 1)
      going_more t = record {
        rest = place.later;
        walk = place.walk;
        few = omega (arith, c.few, ap length place.is);
        proper = all_first.1;
        ready = k.ready;
        room = omega (arith, room-first, k.few);
        onward = λ u vs' ks' es' z. c.onward u vs' ks' es' (rw fed-first (replays-then (fed_in x (line_at bs r)) (of_run x place.later) k t z));
      }

-- ---- the committed runs

-- The run that a line closes, whole.
unfoldable pub closed_by : List Line → Line → List (Done store)
closed_by all l = cond (is_commit l) (of_run l.run all) []

pub fits_more : (all : List Line) (l : Line) (ls : List Line) (d : Db)
    → fits_all (committed_in all (l ∷ ls)) d ≡ (fits (closed_by all l) d && fits_all (committed_in all ls) (after store (closed_by all l) d))
unfolding committed_in closed_by fits_all fits
fits_more all l ls d = go (is_commit l)
  where
    go : (b : Bool) → fits_all (cond b (of_run l.run all ∷ committed_in all ls) (committed_in all ls)) d
        ≡ (fits (cond b (of_run l.run all) []) d && fits_all (committed_in all ls) (after store (cond b (of_run l.run all) []) d))
    go true = refl
    go false = refl

pub total-split : (all : List Line) (l : Line) (ls : List Line) → total (committed_in all (l ∷ ls)) ≡ length (closed_by all l) + total (committed_in all ls)
unfolding committed_in closed_by total
total-split all l ls = go (is_commit l)
  where
    go : (b : Bool) → total (cond b (of_run l.run all ∷ committed_in all ls) (committed_in all ls)) ≡ length (cond b (of_run l.run all) []) + total (committed_in all ls)
    go true = refl
    go false = omega arith

pub record Closable (bs : List ℕ) (r : Record) (vs ks es : List ℕ) (n : ℕ) : Type 0 where
  pub readable : is_some (lines bs) ≡ true
  pub proper : all_proper (said bs) ≡ true
  pub ready : Ready vs ks es n
  pub room : n + length (closed_by (said bs) (line_at bs r)) ≤ 2048

-- A line that is no commit.
pub close-none : (bs : List ℕ) (r : Record) (vs ks es : List ℕ) (n : ℕ) → ¬ (r.code ≡ 255) → Ready vs ks es n
    → Replays (closed_by (said bs) (line_at bs r)) vs ks es n (stands true n) vs ks es
unfolding closed_by line_at
close-none bs r vs ks es n h k = rw (ne_eqb r.code 255 h) (replays-none vs ks es n k)

pub close-own : (bs : List ℕ) (r : Record) → r.code ≡ 255 → closed_by (said bs) (line_at bs r) ≡ of_run r.run (said bs)
unfolding closed_by line_at
close-own bs r h = rw (eq-eqb r.code 255 h) refl

-- A journal past tests 15 and 16.
pub record Past16 (bs : List ℕ) : Type 0 where
  pub readable : is_some (lines bs) ≡ true
  pub orderly : (all_proper (said bs) && all_end (said bs)) ≡ true

-- What is left of the committed runs, replayed, gives the whole.
pub record GoingOn (bs : List ℕ) (d : Db) (vs ks es : List ℕ) (n at left : ℕ) : Type 0 where
  pub rest : List Line
  pub walk : Rest bs at rest
  pub few : length rest ≤ left
  pub readable : is_some (lines bs) ≡ true
  pub proper : all_proper (said bs) ≡ true
  pub ready : Ready vs ks es n
  pub room : n + total (committed_in (said bs) rest) ≤ 2048
  pub is : fits_all (committed_in (said bs) rest) (held vs ks es n) ≡ fits_all (committed (said bs)) d

pub going-on-start : (bs vs ks es : List ℕ) (left : ℕ) → Past16 bs → Ready vs ks es 0 → left ≡ records bs → GoingOn bs (held vs ks es 0) vs ks es 0 1 left
going-on-start bs vs ks es left o h e = record {
  rest = said bs;
  walk = said-rest bs o.readable;
  few = omega (arith, (said-few bs o.readable).0, e);
  readable = o.readable;
  proper = both.0;
  ready = h;
  room = omega (arith, room-for-all (said bs) both.1, (said-few bs o.readable).0, (said-few bs o.readable).1);
  is = refl;
}
  where
    both : (all_proper (said bs) ≡ true) × (all_end (said bs) ≡ true)
    both = (and-eq-true_iff (all_proper (said bs)) (all_end (said bs))).0 o.orderly

module _ (bs : List ℕ) (d : Db) (vs ks es : List ℕ) (n at left : ℕ) (c : GoingOn bs d vs ks es n at left) where
  pub going-on-end : at ≡ 0 → true ≡ fits_all (committed (said bs)) d
  unfolding committed_in fits_all
  going-on-end e = ap (λ l. fits_all (committed_in (said bs) l) (held vs ks es n)) (sym (no_more bs at c.rest c.walk e)) ∙ c.is

  module _ (r : Record) (h : ¬ (at ≡ 0)) (e : r ≡ record_at bs at) where
    pub place-on : Here bs r c.rest
    place-on = here bs at r c.rest c.walk h e

    pub going-on-left : 1 ≤ left
    going-on-left = omega (arith, c.few, ap length place-on.is)
