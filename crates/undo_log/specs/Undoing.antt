-- Undo records: a change is logged, one is undone, a chain of them is undone newest first.
use Rattle.std.specs.Prelude.{◌≡◌, refl, Bool, cond, List, ℕ, zero, suc, ◌-◌, ◌≤◌, eqb, length}
use Rattle.std.proofs.Common.{sym, ap, ap₂, subst, ◌∙◌, arith, eq-eqb, ne_eqb}
use Rattle.words.specs.Store.{HasRecord, word_of}
use Rattle.words.specs.Header.{header_word, free_place}
use Rattle.words.specs.Entries.{HasEntry, put_entry_word}
use Rattle.chain.specs.Free.{Poppable, pop_free, push_free}
use Rattle.undos.specs.declared.Undo.{Undo}
use Rattle.undos.specs.Undo.{undo_at, put_undo, undo_value, undo_added, undo_taken}
use Rattle.members.specs.Members.{Puttable, Takeable, put_member, take_member}

-- ---- logging a change before the older ones from head on

-- there is a free record
pub record Loggable (s : List ℕ) (m : ℕ) : Type 0 where
  pub header : 16 ≤ length s
  pub first : HasRecord s m (header_word s free_place)

-- the entry had value v
unfoldable pub log_value : List ℕ → ℕ → ℕ → ℕ → ℕ → List ℕ
log_value s m e v head = put_undo (pop_free s m) m (header_word s free_place) (undo_value head e v)

-- the entry came into descriptor d's group by membership i
unfoldable pub log_added : List ℕ → ℕ → ℕ → ℕ → ℕ → ℕ → List ℕ
log_added s m e i d head = put_undo (pop_free s m) m (header_word s free_place) (undo_added head e i d)

-- the entry went out of descriptor d's group; its former membership i is written over
unfoldable pub log_taken : List ℕ → ℕ → ℕ → ℕ → ℕ → ℕ → List ℕ
log_taken s m i e d head = put_undo s m i (undo_taken head e d)

-- ---- undoing record i, by kind

unfoldable pub value_back : List ℕ → ℕ → ℕ → List ℕ
value_back s m i = push_free (put_entry_word s (undo_at s m i).entry 0 (undo_at s m i).saved) m i

unfoldable pub added_back : List ℕ → ℕ → ℕ → List ℕ
added_back s m i = push_free (push_free (take_member s m (undo_at s m i).descriptor (undo_at s m i).saved) m (undo_at s m i).saved) m i

unfoldable pub taken_back : List ℕ → ℕ → ℕ → List ℕ
taken_back s m i = put_member s m (undo_at s m i).descriptor i (undo_at s m i).entry

unfoldable pub undo_one : List ℕ → ℕ → ℕ → List ℕ
undo_one s m i =
    cond (eqb (undo_at s m i).kind 1) (value_back s m i) (cond (eqb (undo_at s m i).kind 2) (added_back s m i) (taken_back s m i))

pub record ValueBack (s : List ℕ) (m i : ℕ) : Type 0 where
  pub own : HasRecord s m i
  pub entry : HasEntry s (undo_at s m i).entry

pub record AddedBack (s : List ℕ) (m i : ℕ) : Type 0 where
  pub own : HasRecord s m i
  pub member : Takeable s m (undo_at s m i).descriptor (undo_at s m i).saved

pub record TakenBack (s : List ℕ) (m i : ℕ) : Type 0 where
  pub own : HasRecord s m i
  pub group : Puttable s m (undo_at s m i).descriptor i

-- record i can be undone, whatever its kind
pub record Undoing (s : List ℕ) (m i : ℕ) : Type 0 where
  pub own : HasRecord s m i
  pub value : (undo_at s m i).kind ≡ 1 → HasEntry s (undo_at s m i).entry
  pub added : (undo_at s m i).kind ≡ 2 → Takeable s m (undo_at s m i).descriptor (undo_at s m i).saved
  pub taken : ¬ ((undo_at s m i).kind ≡ 1) → ¬ ((undo_at s m i).kind ≡ 2) → Puttable s m (undo_at s m i).descriptor i

-- ---- a chain, newest first

-- at most n records from i on are undone; the next one is known before a record is undone
unfoldable pub undo_all : List ℕ → ℕ → ℕ → ℕ → List ℕ
undo_all s m zero i = s
undo_all s m (suc n) i = cond (eqb i 0) s (undo_all (undo_one s m i) m n (word_of s m i 0))

-- each of them can be undone when its turn comes
unfoldable pub Undoings : List ℕ → ℕ → ℕ → ℕ → Type 0
Undoings s m zero i = Unit {0}
Undoings s m (suc n) i = ¬ (i ≡ 0) → Undoing s m i × Undoings (undo_one s m i) m n (word_of s m i 0)

-- ---- the runs of the code, as equations

pub loggable-pop : {s : List ℕ} {m : ℕ} → Loggable s m → Poppable s m
loggable-pop h = record { header = h.header; first = λ _. h.first }

pub loggable-has : {s : List ℕ} {m a : ℕ} → Loggable s m → a ≡ header_word s free_place → HasRecord s m a
loggable-has {s} {m} h e = subst (λ (j : ℕ). HasRecord s m j) (sym e) h.first

pub one_value : (s : List ℕ) (m i : ℕ) → (undo_at s m i).kind ≡ 1 → undo_one s m i ≡ value_back s m i
unfolding undo_one
one_value s m i e = simp (eq-eqb (undo_at s m i).kind 1 e)

pub one-added : (s : List ℕ) (m i : ℕ) → ¬ ((undo_at s m i).kind ≡ 1) → (undo_at s m i).kind ≡ 2 → undo_one s m i ≡ added_back s m i
unfolding undo_one
one-added s m i ne e = simp (ne_eqb (undo_at s m i).kind 1 ne, eq-eqb (undo_at s m i).kind 2 e)

pub one-taken : (s : List ℕ) (m i : ℕ) → ¬ ((undo_at s m i).kind ≡ 1) → ¬ ((undo_at s m i).kind ≡ 2) → undo_one s m i ≡ taken_back s m i
unfolding undo_one
one-taken s m i ne nt = simp (ne_eqb (undo_at s m i).kind 1 ne, ne_eqb (undo_at s m i).kind 2 nt)

-- what is left of the chain, undone, gives the whole
pub record UndoneTo (whole s : List ℕ) (m n i : ℕ) : Type 0 where
  pub is : undo_all s m n i ≡ whole
  pub rest : Undoings s m n i

pub undone-stop : {whole s : List ℕ} {m n i : ℕ} → UndoneTo whole s m n i → i ≡ 0 → s ≡ whole
unfolding undo_all
undone-stop {whole} {s} {m} {n} {i} u e = go n u.is
  where
    go : (n : ℕ) → undo_all s m n i ≡ whole → s ≡ whole
    go zero q = q
    go (suc n) q = rw (eq-eqb i 0 e) at q

pub undone-end : {whole s : List ℕ} {m n i : ℕ} → UndoneTo whole s m n i → n ≡ 0 → s ≡ whole
unfolding undo_all
undone-end {whole} {s} {m} {n} {i} u e = ap (λ (k : ℕ). undo_all s m k i) (sym e) ∙ u.is

pub undone-turn : {whole s : List ℕ} {m n i : ℕ} → UndoneTo whole s m n i → ¬ (n ≡ 0) → ¬ (i ≡ 0) → Undoing s m i
unfolding Undoings
undone-turn {whole} {s} {m} {n} {i} u nz ne = go n u.rest nz
  where
    go : (n : ℕ) → Undoings s m n i → ¬ (n ≡ 0) → Undoing s m i
    go zero r nz = absurd (nz refl)
    go (suc n) r nz = (r ne).0

pub undone-more : {whole s t : List ℕ} {m n i next : ℕ} → UndoneTo whole s m n i → ¬ (n ≡ 0) → ¬ (i ≡ 0) → next ≡ word_of s m i 0 → t ≡ undo_one s m i
    → UndoneTo whole t m (n - 1) next
unfolding Undoings undo_all
undone-more {whole} {s} {t} {m} {n} {i} {next} u nz ne en et =
    subst (λ (k : ℕ). UndoneTo whole t m (n - 1) k) (sym en) (subst (λ (k : List ℕ). UndoneTo whole k m (n - 1) (word_of s m i 0)) (sym et) (go n u.is u.rest nz))
  where
    go : (n : ℕ) → undo_all s m n i ≡ whole → Undoings s m n i → ¬ (n ≡ 0) → UndoneTo whole (undo_one s m i) m (n - 1) (word_of s m i 0)
    go zero q r nz = absurd (nz refl)
    go (suc n) q r nz =
        let k : n ≡ suc n - 1 = omega arith in
        subst (λ (k : ℕ). UndoneTo whole (undo_one s m i) m k (word_of s m i 0)) k
        (record {
          is = sym (ap (λ (b : Bool). cond b s (undo_all (undo_one s m i) m n (word_of s m i 0))) (ne_eqb i 0 ne)) ∙ q;
          rest = (r ne).1;
        })

-- The record a is taken off the free chain, the store t then; u is the undo record written.
log-run : (s : List ℕ) (m : ℕ) (g : Undo) {a : ℕ} {t w : List ℕ} {u : Undo} → (a ≡ header_word s free_place) × (t ≡ pop_free s m) → u ≡ g → w ≡ put_undo t m a u
    → w ≡ put_undo (pop_free s m) m (header_word s free_place) g
log-run s m g {a} {t} {w} {u} p e q = q ∙ ap (λ (v : Undo). put_undo t m a v) e ∙ ap₂ (λ (v : List ℕ) (i : ℕ). put_undo v m i g) p.1 p.0

pub log-value-run : (s : List ℕ) (m e v head : ℕ) {a : ℕ} {t w : List ℕ} {u : Undo} → (a ≡ header_word s free_place) × (t ≡ pop_free s m) → u ≡ undo_value head e v → w ≡ put_undo t m a u
    → (a ≡ header_word s free_place) × (w ≡ log_value s m e v head)
unfolding log_value
log-value-run s m e v head p r q = (p.0, log-run s m (undo_value head e v) p r q)

pub log-added-run : (s : List ℕ) (m e i d head : ℕ) {a : ℕ} {t w : List ℕ} {u : Undo} → (a ≡ header_word s free_place) × (t ≡ pop_free s m) → u ≡ undo_added head e i d → w ≡ put_undo t m a u
    → (a ≡ header_word s free_place) × (w ≡ log_added s m e i d head)
unfolding log_added
log-added-run s m e i d head p r q = (p.0, log-run s m (undo_added head e i d) p r q)

pub log-taken-run : (s : List ℕ) (m i e d head : ℕ) {w : List ℕ} {u : Undo} → u ≡ undo_taken head e d → w ≡ put_undo s m i u → w ≡ log_taken s m i e d head
unfolding log_taken
log-taken-run s m i e d head r q = q ∙ ap (λ (v : Undo). put_undo s m i v) r

pub value-run : (s : List ℕ) {t w : List ℕ} (m i : ℕ) {u : Undo} → u ≡ undo_at s m i → t ≡ put_entry_word s u.entry 0 u.saved → w ≡ push_free t m i
    → w ≡ value_back s m i
unfolding value_back
value-run s m i a b c = cc

pub added-run : (s : List ℕ) {t v w : List ℕ} (m i : ℕ) {u : Undo} → u ≡ undo_at s m i → t ≡ take_member s m u.descriptor u.saved
    → v ≡ push_free t m u.saved → w ≡ push_free v m i → w ≡ added_back s m i
unfolding added_back
added-run s m i a b c d = cc

pub taken-run : (s : List ℕ) {w : List ℕ} (m i : ℕ) {u : Undo} → u ≡ undo_at s m i → w ≡ put_member s m u.descriptor i u.entry → w ≡ taken_back s m i
unfolding taken_back
taken-run s m i a b = cc

pub value-entry : {s : List ℕ} {m i : ℕ} {u : Undo} → ValueBack s m i → u ≡ undo_at s m i → HasEntry s u.entry
value-entry {s} v e = subst (λ (u : Undo). HasEntry s u.entry) (sym e) v.entry

pub added-member : {s : List ℕ} {m i : ℕ} {u : Undo} → AddedBack s m i → u ≡ undo_at s m i → Takeable s m u.descriptor u.saved
added-member {s} {m} v e = subst (λ (u : Undo). Takeable s m u.descriptor u.saved) (sym e) v.member

pub taken-group : {s : List ℕ} {m i : ℕ} {u : Undo} → TakenBack s m i → u ≡ undo_at s m i → Puttable s m u.descriptor i
taken-group {s} {m} {i} v e = subst (λ (u : Undo). Puttable s m u.descriptor i) (sym e) v.group
