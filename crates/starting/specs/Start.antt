-- A request before its first step, in words that hold a layout of a sound state: its party, its entry, what others hold; and what a first step leaves of the
-- layout where it waits, is refused, changes an entry's words or its party's request alone.
use Rattle.std.specs.Prelude.{◌≡◌, Bool, true, false, cond, ℕ, zero, suc, ◌≤◌, ◌<◌, eqb, leb, length}
use Rattle.std.proofs.Math.Path.{refl, sym, ap, ap₂, subst}
use Rattle.std.proofs.Common.{◌∙◌, arith, eq-eqb, eqb-true}
use mathlib.Core.List.{List, [], ◌∷◌}
use Rattle.std.proofs.Math.Option.{none, some}
use Rattle.std.proofs.Math.ListN.{set}
use Rattle.std.proofs.lemmas.Bool.{eqb-false}
use Rattle.words.specs.Entries.{HasEntry}
use Rattle.locks.specs.Holders.{first_of}
use Rattle.sessions.specs.declared.Session.{Session}
use Rattle.sessions.specs.Sessions.{session_at, tenure}
use Rattle.serial.specs.Locks.{Mode}
use Rattle.serial.specs.Locks as K
use Rattle.serial.specs.Calls as C
use Rattle.outcomes.specs.Said.{Stepped, said}
use Rattle.machine.specs.Holders.{width}
use Rattle.machine.specs.State.{Entry, Request, start, State, Outcome, done, refused, entry_of, session_of, on_entry, with_entries, set_hand}
use Rattle.machine.specs.Steps.{answer, pinned, unpin, unlatch, ended, finished, guarded, entry_blockers}
use Rattle.machine.specs.Calls.{request_checks}
use Rattle.machine.specs.View.{entry-same}
use Rattle.machine.specs.Checks.{code-range, checked-entry}
use Rattle.machine.specs.Sound.{Passes}
use Rattle.meaning.specs.Reading.{hand_of, entries_of, M-of, meaning}
use Rattle.meaning.specs.Parts.{entry_at, entries-set, entries-are, entry-of}
use Rattle.layout.specs.Layout.{Lay, Holds, HandFits, means}
use Rattle.layout.specs.Row.{Stands, Becomes, Moves}
use Rattle.layout.specs.Written.{Written, SameHead}
use Rattle.layout.specs.Keep.{with_entries_in, entry_row, table-row}
use Rattle.layout.specs.Left.{idle-fits}
use Rattle.layout.specs.Places.{means-hand}
use Rattle.layout.specs.Room as Room
use Rattle.layout.specs.Room.{Sizes, sizes-of, has-entry}
use Rattle.layout.specs.Asked.{request_in, hand-means, wait-moves}
use Rattle.endings.specs.Table.{idled}
use Rattle.long_locks.specs.LongLocks.{lowest_in, lowest-same, lowest-none, share-narrow, exclusive-narrow, mode_number}
use Rattle.starting.specs.Starting.{entry_blocker, waits, refuses, unless_held, EntryReady}

-- A step's words, session record and answer are the machine's outcome.
abbrev pub Steps : List ℕ → List Session → ℕ → Stepped → Outcome → Type 0
Steps s t p z o = Moves s t p z.words z.session (said z.answer) o

-- ---- a request that has taken no step has no latch and no pins

pub start-ended : (p : ℕ) (r : Request) (σ : State) → r.stage ≡ start → ended p r σ ≡ set_hand p none σ
unfolding ended pinned unpin unlatch
start-ended p r σ e = ap (λ g. set_hand p none (unpin (pinned r g) (unlatch p g σ))) e

pub start-finished : (p : ℕ) (r : Request) (ns : List ℕ) (σ : State) → r.stage ≡ start → finished p r ns σ ≡ answer (done ns) (set_hand p none σ)
unfolding finished
start-finished p r ns σ e = ap (answer (done ns)) (start-ended p r σ e)

pub start-stage : (x : Session) → x.stage ≡ 1 → (request_in x).stage ≡ start
unfolding request_in
start-stage x e = rw (eq-eqb x.stage 1 e) refl

pub idle-hand : (x : Session) → hand_of (idled x) ≡ none
unfolding idled
idle-hand x = refl

pub idle-stage : (x : Session) → (idled x).stage ≡ 0
unfolding idled
idle-stage x = refl

pub idle-undo : (x : Session) → (idled x).undo ≡ x.undo
unfolding idled
idle-undo x = refl

pub idle-tenure : (x : Session) → tenure (idled x) ≡ tenure x
unfolding idled
idle-tenure x = refl

-- ---- entries

-- The entry as the words have it.
pub entry_words : (s : List ℕ) (t : List Session) (L : Lay) → Holds s t L → (e : ℕ) → 1 ≤ e → e ≤ M-of s → entry_of e (means L t) ≡ entry_at s e
entry_words s t L H zero a b = absurd (omega (arith, a))
entry_words s t L H (suc i) a b =
    let q : (means L t).entries ≡ (meaning s t).entries = unfold means in (sym H.fits.entries ∙ sym (entries-are s t)) in
    entry-same (meaning s t) (means L t) q (suc i) ∙ entry-of s t i (omega (arith, b))

-- Words in which only entry e is another: what f makes of it.
pub record OnEntry (s s' : List ℕ) (e : ℕ) (f : Entry → Entry) : Type 0 where
  pub others : (d : ℕ) → 1 ≤ d → d ≤ M-of s → ¬ (d ≡ e) → entry_at s d ≡ entry_at s' d
  pub here : entry_at s' e ≡ f (entry_at s e)

pub entry-means : (s s' : List ℕ) (t : List Session) (L : Lay) → Holds s t L → (e : ℕ) (f : Entry → Entry) → 1 ≤ e → e ≤ M-of s → OnEntry s s' e f
    → with_entries (entries_of s' 1 (M-of s)) (means L t) ≡ on_entry e f (means L t)
unfolding on_entry
entry-means s s' t L H zero f a b c = absurd (omega (arith, a))
entry-means s s' t L H (suc i) f a b c =
    let m = M-of s in
    let q : (means L t).entries ≡ entries_of s 1 m = unfold means in (sym H.fits.entries) in
    ap (λ l. with_entries l (means L t))
    (entries-set s s' m i (omega (arith, b)) c.others
    ∙ ap₂ (λ l x. set l i x) (sym q) (c.here ∙ ap f (sym (entry_words s t L H (suc i) a b))))

-- ---- the request

module _ (s : List ℕ) (t : List Session) (A : Stands s t) (p : ℕ) (party : p ≤ width) (at-start : (session_at t p).stage ≡ 1) where
  abbrev pub own : Session
  own = session_at t p

  abbrev pub state : State
  state = means A.lay t

  seat : p < length t
  seat = omega (arith, A.holds.seats, party)

  pub in_hand : (session_of p state).hand ≡ some (request_in own)
  in_hand = hand-means A.lay t p seat (λ e. omega (arith, at-start, e))

  passes : Passes (request_checks p own.code own.entry own.first own.second state)
  passes = unfold request_in in (A.sound.checked p (request_in own) in_hand)

  pub code-least : 1 ≤ own.code
  code-least = (code-range p own.code passes.0).0

  pub is-session : own.code ≤ 4 → 1 ≤ p
  is-session l = go p (code-range p own.code passes.0).3
    where
      go : (q : ℕ) → (q ≡ 0 → own.code ≡ 6) → 1 ≤ q
      go zero f = absurd (omega (arith, l, f refl))
      go (suc q) f = omega arith

  sizes : Sizes A.lay
  sizes = sizes-of A.lay t A.sound

  entry_in : own.code ≤ 4 → (1 ≤ own.entry) × (own.entry ≤ length A.lay.entries)
  entry_in l = unfold means in (checked-entry p own.code own.entry own.first own.second state passes l)

  pub entry-least : own.code ≤ 4 → 1 ≤ own.entry
  entry-least l = (entry_in l).0

  pub entry-most : own.code ≤ 4 → own.entry ≤ M-of s
  entry-most l = omega (arith, (entry_in l).1, Room.entries-are s t A.lay A.holds sizes)

  pub entry-there : own.code ≤ 4 → HasEntry s own.entry
  entry-there l = has-entry s t A.lay A.holds sizes own.entry (entry_in l).0 (entry_in l).1

  pub entry_ready : own.code ≤ 4 → EntryReady s p own.entry
  entry_ready l = record { entry = entry-there l; first = is-session l; last = omega (arith, party) }

  -- ---- who is in the way

  blocker-is : own.code ≤ 4 → (m : Mode) → entry_blocker s own.entry (mode_number m) p ≡ lowest_in K.entry m p (entry_of own.entry state).share (entry_of own.entry state).exclusive
  unfolding entry_blocker lowest_in
  blocker-is l m = ap (λ e. lowest_in K.entry m p e.share e.exclusive) (sym (entry_words s t A.lay A.holds own.entry (entry-least l) (entry-most l)))

  pub blocker-none : own.code ≤ 4 → (m : Mode) → entry_blocker s own.entry (mode_number m) p ≡ 0 → entry_blockers m p (request_in own) state ≡ []
  unfolding entry_blockers request_in
  blocker-none l m e =
      lowest-none K.entry m p (entry_of own.entry state).share (entry_of own.entry state).exclusive (share-narrow state A.sound own.entry) (exclusive-narrow state A.sound own.entry)
      (sym (blocker-is l m) ∙ e)

  pub blocker-first : own.code ≤ 4 → (m : Mode) → entry_blocker s own.entry (mode_number m) p ≡ first_of (entry_blockers m p (request_in own) state)
  unfolding entry_blockers request_in
  blocker-first l m =
      blocker-is l m
      ∙ lowest-same K.entry m p (entry_of own.entry state).share (entry_of own.entry state).exclusive (share-narrow state A.sound own.entry) (exclusive-narrow state A.sound own.entry)

  -- A step waits if session q is in the way; else what z does is done, or refused for want of records.
  pub guard-moves : (q : ℕ) (bs : List ℕ) (need : ℕ) (r : Request) (o : Outcome) (z : Stepped) → (q ≡ 0 → bs ≡ []) → q ≡ first_of bs
      → Steps s t p z (cond (leb need state.free) o (answer (refused 11 0) (ended p r state))) → Steps s t p (unless_held q s own z) (guarded bs need p r state o)
  unfolding unless_held guarded waits
  guard-moves q bs need r o z clear first then = go (eqb q 0) refl
    where
      waiting : (l : List ℕ) → ¬ (q ≡ 0) → q ≡ first_of l → Moves s t p s own (C.wait q) (guarded l need p r state o)
      waiting [] n e = absurd (n e)
      waiting (b ∷ l) n e = wait-moves s t A p q b l e

      go : (c : Bool) → eqb q 0 ≡ c → Steps s t p (cond c z (waits s own q)) (guarded bs need p r state o)
      go true e = subst (λ l. Steps s t p z (guarded l need p r state o)) (sym (clear (eqb-true q 0 e))) then
      go false e = waiting bs (eqb-false q 0 e) first

  -- ---- what is left

  -- Only the request in hand is another.
  pub hand-becomes : (x' : Session) → x'.undo ≡ own.undo → tenure x' ≡ tenure own → HandFits A.lay p x' → Becomes s s (set t p x') (set_hand p (hand_of x') state)
  hand-becomes x' u b h = record {
    lay = A.lay;
    holds = table-row s t A.lay A.holds p x' party u h;
    means_next = means-hand A.lay t p x' seat b;
    long = refl;
    entries = refl;
    records = refl;
    rest = refl;
  }

  -- An entry's words and the request in hand are others.
  pub entry-becomes : (s' : List ℕ) → Written s s' [] → SameHead s s' → (f : Entry → Entry) → own.code ≤ 4 → OnEntry s s' own.entry f
      → (x' : Session) → x'.undo ≡ own.undo → tenure x' ≡ tenure own → HandFits A.lay p x' → Becomes s s' (set t p x') (set_hand p (hand_of x') (on_entry own.entry f state))
  entry-becomes s' only head f l c x' u b h =
      let E = entries_of s' 1 (M-of s) in
      let q : means (with_entries_in A.lay E) t ≡ with_entries E state = unfold means in refl in
      record {
        lay = with_entries_in A.lay E;
        holds = entry_row s t A.lay A.holds s' only head E refl p x' party u h;
        means_next =
            means-hand (with_entries_in A.lay E) t p x' seat b
            ∙ ap (set_hand p (hand_of x')) (q ∙ entry-means s s' t A.lay A.holds own.entry f (entry-least l) (entry-most l) c);
        long = only.long;
        entries = only.entries;
        records = only.records;
        rest = only.rest;
      }

  -- The request ends.
  pub idle-becomes : Becomes s s (set t p (idled own)) (set_hand p none state)
  idle-becomes =
      subst (λ h. Becomes s s (set t p (idled own)) (set_hand p h state)) (idle-hand own)
      (hand-becomes (idled own) (idle-undo own) (idle-tenure own) (idle-fits A.lay p (idled own) (idle-stage own)))

  pub refused-start : Steps s t p (refuses s own) (answer (refused 11 0) (ended p (request_in own) state))
  unfolding refuses
  refused-start = record {
    becomes = subst (Becomes s s (set t p (idled own))) (sym (start-ended p (request_in own) state (start-stage own at-start))) idle-becomes;
    tells = refl;
  }
