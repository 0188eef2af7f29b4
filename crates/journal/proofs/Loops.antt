-- Theorems of specs/Loops: what it defines is there.
use Rattle.std.specs.Prelude.{◌≡◌, false, ◌&&◌, List, ℕ, ◌+◌, ◌-◌, ◌≤◌, length}
use Rattle.std.proofs.Common.{sym, subst, ◌∙◌, arith}
use Rattle.std.proofs.Math.Path.{ap}
use Rattle.std.proofs.Math.Bool.{true}
use Rattle.serial.specs.Serial.{after}
use Rattle.serial.specs.Model.{Db, empty}
use Rattle.serial.specs.Footprints.{store}
use Rattle.journal_reader.specs.declared.Record.{Record}
use Rattle.journal_reader.specs.Record.{records, record_at}
use Rattle.journal_lines.specs.Journal.{said, of_run, committed_in, committed}
use Rattle.replay.specs.declared.Database.{Database}
use Rattle.replay.specs.Held.{held, Ready}
use Rattle.replay.specs.Databases.{model_of, IsReady}
use Rattle.journal.specs.Fits.{fits, fits_all}
use Rattle.journal.specs.Room.{total}
use Rattle.journal.specs.Located.{line_at}
use Rattle.journal.specs.Runs.{Stand, Replays}
use Rattle.journal.specs.Loops.{Replayable, closed_by, fits_more, total-split, Closable, close-own, Past16, GoingOn, going-on-start, place-on}

-- ---- the committed runs

pub close-replayable : (bs : List ℕ) (r : Record) (vs ks es : List ℕ) (n : ℕ) → r.code ≡ 255 → Closable bs r vs ks es n → Replayable bs r.run vs ks es n
close-replayable bs r vs ks es n h k =
    record { readable = k.readable; proper = k.proper; ready = k.ready; room = rw (close-own bs r h) at k.room }

pub close-run : (bs : List ℕ) (r : Record) {vs ks es : List ℕ} {n : ℕ} {s : Stand} {vs' ks' es' : List ℕ} → r.code ≡ 255
    → Replays (of_run r.run (said bs)) vs ks es n s vs' ks' es' → Replays (closed_by (said bs) (line_at bs r)) vs ks es n s vs' ks' es'
close-run bs r h k = rw (close-own bs r h) k

module _ (bs : List ℕ) (d : Db) (vs ks es : List ℕ) (n at left : ℕ) (c : GoingOn bs d vs ks es n at left) where
  module _ (r : Record) (h : ¬ (at ≡ 0)) (e : r ≡ record_at bs at) where
    room-on : n + (length (closed_by (said bs) (line_at bs r)) + total (committed_in (said bs) (place-on bs d vs ks es n at left c r h e).later)) ≤ 2048
    room-on = omega (
      arith,
      c.room,
      ap (λ l. total (committed_in (said bs) l)) (place-on bs d vs ks es n at left c r h e).is,
      total-split (said bs)
          (line_at bs r) (place-on bs d vs ks es n at left c r h e).later,
    )

    fits-first : (fits (closed_by (said bs) (line_at bs r)) (held vs ks es n)
        && fits_all (committed_in (said bs) (place-on bs d vs ks es n at left c r h e).later)
        (after store (closed_by (said bs) (line_at bs r)) (held vs ks es n))) ≡ fits_all (committed (said bs)) d
    fits-first =
        sym (fits_more (said bs) (line_at bs r) (place-on bs d vs ks es n at left c r h e).later (held vs ks es n)) ∙ ap
        (λ l. fits_all (committed_in (said bs) l) (held vs ks es n)) (sym (place-on bs d vs ks es n at left c r h e).is) ∙ c.is

    pub going-on-close : Closable bs r vs ks es n
    going-on-close = record { readable = c.readable; proper = c.proper; ready = c.ready; room = omega (arith, room-on) }

    module _ (s : Stand) (vs₁ ks₁ es₁ : List ℕ) (k : Replays (closed_by (said bs) (line_at bs r)) vs ks es n s vs₁ ks₁ es₁) where
      pub going-on-apart : s.is_same ≡ false → false ≡ fits_all (committed (said bs)) d
      going-on-apart f = rw (← k.same, f) at fits-first

      pub going-on-more : s.is_same ≡ true → GoingOn bs d vs₁ ks₁ es₁ s.count r.next (left - 1)
      going-on-more t = record {
        rest = (place-on bs d vs ks es n at left c r h e).later;
        walk = (place-on bs d vs ks es n at left c r h e).walk;
        few = omega (arith, c.few, ap length (place-on bs d vs ks es n at left c r h e).is);
        readable = c.readable;
        proper = c.proper;
        ready = k.ready;
        room = omega (arith, room-on, k.few);
        is = ap (λ x. fits_all (committed_in (said bs) (place-on bs d vs ks es n at left c r h e).later) x) (k.is t) ∙ (rw (← k.same, t) at fits-first);
      }

-- ---- an empty Database

pub going-on-new : (bs : List ℕ) (d : Database) (left : ℕ) → Past16 bs → IsReady d → ◌≡◌ {A = ℕ} d.count 0 → model_of d ≡ empty → left ≡ records bs
    → GoingOn bs empty d.values d.keys d.entries d.count 1 left
going-on-new bs d left o r z m h =
    subst (λ (e : Db). GoingOn bs e d.values d.keys d.entries d.count 1 left) m
    (subst (λ (n : ℕ). GoingOn bs (held d.values d.keys d.entries n) d.values d.keys d.entries n 1 left) (sym z)
    (going-on-start bs d.values d.keys d.entries left o (subst (Ready d.values d.keys d.entries) z r) h))
