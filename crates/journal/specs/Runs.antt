-- A run replayed in arrays: its answers compared with the model's, request by request.
use Rattle.std.specs.Prelude.{◌≡◌, refl, Bool, true, false, List, [], ◌++◌, ℕ, ◌+◌, ◌≤◌, ◌<◌, eqb, length}
use Rattle.std.proofs.Common.{sym, subst, ◌∙◌, ap, arith, length-append}
use Rattle.std.proofs.Math.Bool.{and-true}
use Rattle.std.proofs.Math.Option.{Option, none, some}
use Rattle.serial.specs.Serial.{Done, after, after-append, true≢false}
use Rattle.serial.specs.Model.{Req, read, write, insert, remove, locate, request_of}
use Rattle.serial.specs.Footprints.{store}
use Rattle.journal_reader.specs.declared.Record.{Record}
use Rattle.journal_lines.specs.Journal.{is_some, or_empty, list_of, proper, fed, feeds, stored_answer}
use Rattle.journal_lines.specs.Walks.{some-or-empty, no_list}
use Rattle.journal_lines.specs.Accepts.{EntryFits, Fits, read_fits, write_fits, insert_fits, remove_fits, locate_fits, commit_fits, proper-fits}
use Rattle.replay.specs.declared.Fed.{Fed}
use Rattle.replay.specs.declared.Database.{Database}
use Rattle.replay.specs.Held.{held, Ready, Feeds}
use Rattle.journal.specs.Fits.{same_ans, list_answer, same_number, fits, fits-append}
use Rattle.journal.specs.Located.{line_at, lists_as}

-- Whether all answers so far are the model's, and how many memberships there are.
pub record Stand : Type 0 where
  pub is_same : Bool
  pub count : ℕ

abbrev pub stands : Bool → ℕ → Stand
stands b n = record { is_same = b; count = n }

-- ---- requests replayed

-- Whether all answers of these requests are the model's; if so, the database after them is the model's too.
pub record Replays (l : List (Done store)) (vs ks es : List ℕ) (n : ℕ) (r : Stand) (vs' ks' es' : List ℕ) : Type 0 where
  pub same : r.is_same ≡ fits l (held vs ks es n)
  pub ready : Ready vs' ks' es' r.count
  pub few : r.count ≤ n + length l
  pub is : r.is_same ≡ true → held vs' ks' es' r.count ≡ after store l (held vs ks es n)

-- The same of a Database, with b for whether all answers are the model's.
abbrev pub ReplaysTo : List (Done store) → Database → Bool → Database → Type 0
ReplaysTo l d b d' = Replays l d.values d.keys d.entries d.count (stands b d'.count) d'.values d'.keys d'.entries

pub replays-none : (vs ks es : List ℕ) (n : ℕ) → Ready vs ks es n → Replays [] vs ks es n (stands true n) vs ks es
unfolding fits
replays-none vs ks es n h = record { same = refl; ready = h; few = omega arith; is = λ _. refl }

-- Requests that differ, whatever comes after them.
pub replays-apart : (a b : List (Done store)) {vs ks es : List ℕ} {n : ℕ} {r : Stand} {vs' ks' es' : List ℕ}
    → Replays a vs ks es n r vs' ks' es' → r.is_same ≡ false → Replays (a ++ b) vs ks es n r vs' ks' es'
replays-apart a b {vs} {ks} {es} {n} {r} h e = record {
  same = e ∙ sym (fits-append a b (held vs ks es n) ∙ rw (← h.same, e) refl);
  ready = h.ready;
  few = omega (arith, h.few, length-append a b);
  is = λ t. absurd (true≢false t e);
}

-- Requests after requests that agree.
pub replays-then : (a b : List (Done store)) {vs ks es : List ℕ} {n : ℕ} {r : Stand} {vs₁ ks₁ es₁ : List ℕ} {s : Stand} {vs₂ ks₂ es₂ : List ℕ}
    → Replays a vs ks es n r vs₁ ks₁ es₁ → r.is_same ≡ true → Replays b vs₁ ks₁ es₁ r.count s vs₂ ks₂ es₂ → Replays (a ++ b) vs ks es n s vs₂ ks₂ es₂
replays-then a b {vs} {ks} {es} {n} {r} h e k = record {
  same = k.same ∙ ap (λ d. fits b d) (h.is e) ∙ sym (fits-append a b (held vs ks es n) ∙ rw (← h.same, e) refl);
  ready = k.ready;
  few = omega (arith, h.few, k.few, length-append a b);
  is = λ t. k.is t ∙ ap (λ d. after store b d) (h.is e) ∙ sym (after-append store a b (held vs ks es n));
}

-- ---- one line

-- What may be fed: a line that can be read and is proper, and room for it.
pub record Feedable (bs : List ℕ) (r : Record) (vs ks es : List ℕ) (n : ℕ) : Type 0 where
  pub listed : is_some (list_of bs r) ≡ true
  pub proper : proper (line_at bs r) ≡ true
  pub ready : Ready vs ks es n
  pub room : n + length (feeds (line_at bs r)) ≤ 2048

asks : (bs : List ℕ) (r : Record) (o : Option Req) → request_of r.code r.entry r.first r.second ≡ o
    → feeds (line_at bs r) ≡ fed o (stored_answer (line_at bs r))
unfolding line_at
asks bs r o e = ap (λ x. fed x (stored_answer (line_at bs r))) e

-- A commit feeds nothing.
pub feeds-commit : (bs : List ℕ) (r : Record) (vs ks es : List ℕ) (n : ℕ) → Ready vs ks es n → r.code ≡ 255
    → Replays (feeds (line_at bs r)) vs ks es n (stands true n) vs ks es
feeds-commit bs r vs ks es n h e = rw (asks bs r none (ap (λ c. request_of c r.entry r.first r.second) e)) (replays-none vs ks es n h)

-- A locate changes nothing.
pub feeds-locate : (bs : List ℕ) (r : Record) (vs ks es : List ℕ) (n : ℕ) (b : Bool) → Ready vs ks es n → r.code ≡ 5 → b ≡ lists_as bs r ks es n
    → Replays (feeds (line_at bs r)) vs ks es n (stands b n) vs ks es
unfolding line_at lists_as fits
feeds-locate bs r vs ks es n b h e f =
    rw (asks bs r (some (locate r.first r.second)) (ap (λ c. request_of c r.entry r.first r.second) e))
    record { same = f ∙ sym (and-true _); ready = h; few = omega arith; is = λ _. refl }

-- Codes 1 to 4 have a request, and an entry in it.
pub record Plain (r : Record) : Type 0 where
  pub request : Req
  pub asked : request_of r.code r.entry r.first r.second ≡ some request
  pub low : 1 ≤ r.code
  pub high : r.code ≤ 4
  pub some_entry : 1 ≤ r.entry
  pub last_entry : r.entry ≤ 1024

module _ (r : Record) where
  plain : (c : ℕ) (q : Req) → r.code ≡ c → 1 ≤ c → c ≤ 4 → request_of c r.entry r.first r.second ≡ some q → EntryFits r.entry → Plain r
  plain c q e h k a p = record {
    request = q;
    asked = ap (λ c. request_of c r.entry r.first r.second) e ∙ a;
    low = omega (arith, e);
    high = omega (arith, e);
    some_entry = p.0;
    last_entry = p.1;
  }

pub is_plain : (bs : List ℕ) (r : Record) → proper (line_at bs r) ≡ true → ¬ (r.code ≡ 255) → ¬ (r.code ≡ 5) → Plain r
unfolding line_at
is_plain bs r h n m = go (proper-fits (line_at bs r) h)
  where
    go : Fits r.code r.entry r.first r.second → Plain r
    go (read_fits c e) = plain r 1 (read r.entry) c (omega arith) (omega arith) refl e
    go (write_fits c e) = plain r 2 (write r.entry r.first) c (omega arith) (omega arith) refl e
    go (insert_fits c e k) = plain r 3 (insert r.entry r.first) c (omega arith) (omega arith) refl e
    go (remove_fits c e k) = plain r 4 (remove r.entry r.first) c (omega arith) (omega arith) refl e
    go (locate_fits c h k o) = absurd (m c)
    go (commit_fits c) = absurd (n c)

-- There is room for one more membership.
pub plain-room : (bs : List ℕ) (r : Record) (n : ℕ) → Plain r → n + length (feeds (line_at bs r)) ≤ 2048 → n < 2048
plain-room bs r n p h = let k = rw (asks bs r (some p.request) p.asked) at h in omega arith

pub feeds-plain : (bs : List ℕ) (r : Record) (vs ks es : List ℕ) (n : ℕ) (f : Fed) (vs' ks' es' : List ℕ) → is_some (list_of bs r) ≡ true → ¬ (r.code ≡ 5) → Plain r
    → Feeds r.code r.entry r.first vs ks es n f vs' ks' es'
    → Replays (feeds (line_at bs r)) vs ks es n (stands (eqb r.answer f.answer) f.count) vs' ks' es'
unfolding line_at fits
feeds-plain bs r vs ks es n f vs' ks' es' h m p k =
    let a = k.is r.second p.request p.asked in
    let e : or_empty (list_of bs r) ≡ [] = no_list bs r (or_empty (list_of bs r)) m (some-or-empty (list_of bs r) h) in
    rw (asks bs r (some p.request) p.asked)
    record {
      same =
          sym (and-true _ ∙ ap (λ x. same_ans (stored_answer (line_at bs r)) x) a.0 ∙ ap (λ ps. same_ans (list_answer r.answer ps) (list_answer f.answer [])) e ∙ same_number r.answer f.answer);
      ready = k.ready;
      few = k.few;
      is = λ _. a.1;
    }

-- ---- a line of code k, 1 to 4

module _ (bs : List ℕ) (r : Record) (k : ℕ) {vs ks es : List ℕ} {n : ℕ} (z : Feedable bs r vs ks es n) (e : r.code ≡ k) (h : k ≤ 4) where
  plain_of : Plain r
  plain_of = is_plain bs r z.proper (λ c. omega (arith, c, e)) (λ c. omega (arith, c, e))

  pub feedable-numbers : (n < 2048) × (1 ≤ r.entry) × (r.entry ≤ 1024)
  feedable-numbers = (plain-room bs r n plain_of z.room, plain_of.some_entry, plain_of.last_entry)

  pub feeds-code : (f : Fed) (vs' ks' es' : List ℕ) → Feeds k r.entry r.first vs ks es n f vs' ks' es'
      → Replays (feeds (line_at bs r)) vs ks es n (stands (eqb r.answer f.answer) f.count) vs' ks' es'
  feeds-code f vs' ks' es' w =
      feeds-plain bs r vs ks es n f vs' ks' es' z.listed (λ c. omega (arith, c, e)) plain_of (subst (λ (c : ℕ). Feeds c r.entry r.first vs ks es n f vs' ks' es') (sym e) w)

-- A proper line has one of the codes.
pub codes_of : (bs : List ℕ) (r : Record) → proper (line_at bs r) ≡ true → ¬ (r.code ≡ 255) → ¬ (r.code ≡ 5) → (1 ≤ r.code) × (r.code ≤ 4)
codes_of bs r h m n = let p = is_plain bs r h m n in (p.low, p.high)
