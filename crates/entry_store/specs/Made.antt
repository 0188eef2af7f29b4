-- Every list of calls from C has a run: there are numbers that the exported functions return, with the answers read off them. C's arguments are words.
use Rattle.std.specs.Prelude.{◌≡◌, refl, false, List, [], ◌∷◌, ◌++◌, map, ℕ, ◌<◌, length}
use Rattle.std.proofs.Common.{sym, ap, subst, ◌∙◌, lit<}
use Rattle.serial.specs.Locks.{lock_rule, lock-rule-strict}
use Rattle.serial.specs.Calls.{Turn, nothing, tell, told, Unfinished, calls_of}
use Rattle.serial.specs.Unfinished.{unfinished-told}
use Rattle.serial.specs.Values.{FitCall, FitCalls, Fitting, fitting-values, fitting-fresh}
use Rattle.serial.proofs.Values.{fitting-turn, fitting-run}
use Rattle.serial.specs.Calls as C
use Rattle.sessions.specs.declared.Session.{Session}
use Rattle.sessions.specs.Sessions.{parties}
use Rattle.outcomes.specs.declared.Answer.TheVariants.{Refused}
use Rattle.machine.specs.Demand.{call_of}
use Rattle.meaning.specs.Reading.{meaning}
use Rattle.meaning.specs.Sound.{Sound}
use Rattle.promises.specs.Relations.{list_of}
use Rattle.promises.specs.Demands.{Lending, Returns}
use Rattle.promises.specs.Runs.{lending}
use Rattle.promises.proofs.Words.{formatted-new}
use Rattle.store.specs.Lent.{Formatted}
use Rattle.store.specs.Turns.{turn, Lends, formats, begins, puts, steps, commits, aborts, asks, recovers, SoundLent, sound-long, lends-return, lends-sound, functions, Loan, elsewhere, whole, slice, TurnedAway, Looks, unsound-lends, misfit-lends, accepted-format}
use Rattle.store.specs.Turns as L
use Rattle.store.specs.Demand3.{functions-return, functions-laws, start-known}
use Rattle.packing.specs.Packed.{packed, unpacked-packed, Worded}
use Rattle.entry_store.specs.Exported.{Told}
use Rattle.entry_store.specs.Worded.{Word, zero_word, word-or-not, call-worded}
use Rattle.entry_store.specs.Turns.{Exchange, turn_of, Exported, Exchanges, over, then, wrong, own, own-told, lendings, format-ok}

-- C's arguments are words; of a call only the number that a put hands over to be written matters.
abbrev pub WordCall : C.Call → Type 0
WordCall c = FitCall Word c

abbrev pub WordCalls : List C.Call → Type 0
WordCalls cs = FitCalls Word cs

-- What is known of a store after calls that told t, where what was written are words.
abbrev Kept : C.Told → Lending → Type 0
Kept t x = Fitting Word functions t x

kept-turn : (k : Turn) (x y : Lending) (t : C.Told) → Lends x k y → WordCall k.call → Kept t x → Kept (tell k t) y
kept-turn = fitting-turn Word functions lock_rule lock-rule-strict functions-laws

-- The answer of the next call has a word for its value,
turn-worded : (k : Turn) (x y : Lending) (t : C.Told) → Lends x k y → Kept t x → Worded k.answer
unfolding Returns
turn-worded k x y t d K =
    let A = K.knows.sound in
    call-worded (meaning x.store x.table) A.state (fitting-values Word zero_word word-or-not functions t x K)
    (call_of k.call (length x.store)) k.answer (lends-return (sound-long x A) d A).tells

-- and is packed in a number.
exports-long : {x y : Lending} {k : Turn} → Lends x k y → length y.table ≡ length x.table → Worded k.answer → Exported x k.call (packed k.answer) k.list y
exports-long (formats {a = a} h) n w = record { answer = a; packs = record { is = refl; words = w }; table_long = n; does = h }
exports-long (begins {a = a} h) n w = record { answer = a; packs = record { is = refl; words = w }; table_long = n; does = h }
exports-long (puts {a = a} h) n w = record { answer = a; packs = record { is = refl; words = w }; table_long = n; does = h }
exports-long (steps {a = a} h) n w = record { answer = a; packs = record { is = refl; words = w }; table_long = n; does = h }
exports-long (commits {a = a} h) n w = record { answer = a; packs = record { is = refl; words = w }; table_long = n; does = h }
exports-long (aborts {a = a} h) n w = record { answer = a; packs = record { is = refl; words = w }; table_long = n; does = h }
exports-long (asks {a = a} h) n w = record { answer = a; packs = record { is = refl; words = w }; table_long = n; does = h }
exports-long (recovers {a = a} h) n w = record { answer = a; packs = record { is = refl; words = w }; table_long = n; does = h }

exports : {x y : Lending} {k : Turn} → SoundLent x → Lends x k y → Worded k.answer → Exported x k.call (packed k.answer) k.list y
exports {x} {y} A d = exports-long d (sound-long y (lends-sound A d) ∙ sym (sound-long x A))

abbrev pub called : List Exchange → List C.Call
called ks = map (λ k. k.call) ks

-- A list of calls from x that can be made in C: numbers that the exported functions return.
pub record Made (x : Lending) (cs : List C.Call) : Type 0 where
  pub exchanges : List Exchange
  pub last : Lending
  pub run : Exchanges x exchanges last
  pub as_called : called exchanges ≡ cs

kept-made : (cs : List C.Call) (t : C.Told) (x : Lending) → WordCalls cs → Kept t x → Made x cs
kept-made [] t x w K = record { exchanges = []; last = x; run = over; as_called = refl }
kept-made (c ∷ cs) t x w K =
    let o = functions-return c x K.knows.sound in
    let k : Turn = turn c o.0 o.1 in
    let y = o.2 in
    let d : Lends x k y = o.3 in
    let m = kept-made cs (tell k t) y w.1 (kept-turn k x y t d w.0 K) in
    record {
      exchanges = record { call = c; number = packed k.answer; list = k.list } ∷ m.exchanges;
      last = m.last;
      run = then (exports K.knows.sound d (turn-worded k x y t d K)) m.run;
      as_called = ap (λ z. c ∷ z) m.as_called;
    }

-- ---- calls that were lent something else

refused-exchange : (n : ℕ) → n < 256 → C.ends_request n ≡ false → (c : C.Call) {x z u : Lending} {ks : List Exchange} → Lends u (turn c (Refused n 0) (list_of c)) u
    → Loan x.store u.store u.store x.store → Loan x.table u.table u.table x.table → Exchanges x ks z
    → Exchanges x (record { call = c; number = packed (C.refused n 0); list = list_of c } ∷ ks) z
refused-exchange n l q c d a b r = wrong (subst TurnedAway (sym (unpacked-packed (C.refused n 0) (l, zero_word))) q) (exports-long d refl zero_word) a b r

-- Between any two calls a slice of the store, not sound by itself, can be lent with the table: it is refused 2; and, with the store, a table that is not of 17 records: it is refused 1.
pub exported-slice-refused : (c : C.Call) → Looks c → {x z : Lending} {ks : List Exchange} (before part behind : List ℕ) → x.store ≡ before ++ part ++ behind → ¬ Sound part x.table
    → SoundLent x → Exchanges x ks z → Exchanges x (record { call = c; number = packed (C.refused 2 0); list = list_of c } ∷ ks) z
exported-slice-refused c w {x} before part behind e n S r =
    refused-exchange 2 (lit< tt) refl c (unsound-lends (lending part x.table) n c w (sound-long x S))
    (subst (λ s. Loan s part part s) (sym e) (slice before part part behind refl)) (whole x.table x.table refl) r

pub exported-table-refused : (c : C.Call) {x z : Lending} {ks : List Exchange} (t : List Session) → ¬ (length t ≡ parties) → Exchanges x ks z
    → Exchanges x (record { call = c; number = packed (C.refused 1 0); list = list_of c } ∷ ks) z
exported-table-refused c {x} t n r =
    refused-exchange 1 (lit< tt) refl c (misfit-lends (lending x.store t) n c) (whole x.store x.store refl) (elsewhere x.table t t refl) r

own-words : {x y : Lending} {ks : List Exchange} (r : Exchanges x ks y) → WordCalls (called ks) → WordCalls (calls_of (map turn_of (own r)))
own-words over w = tt
own-words (then d r) w = (w.0, own-words r w.1)
own-words (wrong v d a b r) w = own-words r w.1

aborts-words : (ss : List ℕ) → WordCalls (map C.abort ss)
aborts-words [] = tt
aborts-words (s ∷ ss) = (tt, aborts-words ss)

-- ---- after a format that returned 0, ok

module _ (m : ℕ) (x x' : Lending) (h : Told Formatted x.store x.table m 0 x'.store x'.table) where
  start-kept : Kept nothing x'
  start-kept =
      let e = format-ok m x x' h in
      let F = accepted-format m h.answer x x' h.does e in
      fitting-fresh Word functions x' (start-known m h.answer x x' h.does e) (formatted-new m x.store x'.store x.table x'.table F)

  -- Every list of calls has a run.
  pub exported-made : (cs : List C.Call) → WordCalls cs → Made x' cs
  exported-made cs w = kept-made cs nothing x' w start-kept

  -- After any list of calls, those that were turned away among them, the unfinished sessions can be listed, and aborted in that sequence.
  pub exported-aborts : (ks : List Exchange) (y : Lending) → Exchanges x' ks y → WordCalls (called ks)
      → (ss : List ℕ) × Unfinished (told nothing (map turn_of ks)) ss × Made y (map C.abort ss)
  exported-aborts ks y r w =
      let u = unfinished-told (map turn_of ks) in
      let K = fitting-run Word functions lock_rule lock-rule-strict functions-laws nothing (L.own-run (lendings r)) (subst (λ l. WordCalls (calls_of l)) (sym (own-told r)) (own-words r w)) start-kept in
      (u.0, u.1, kept-made (map C.abort u.0) (told nothing (L.own (lendings r))) y (aborts-words u.0) K)
