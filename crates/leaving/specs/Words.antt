-- What put and commit do to the words of a store and to a session record.
use Rattle.std.specs.Prelude.{◌≡◌, cond, List, ℕ, ◌≤◌, eqb, length}
use Rattle.std.proofs.Common.{sym, ap, ap₂, subst, ◌∙◌, arith, eq-eqb, ne_eqb}
use Rattle.words.specs.Store.{HasRecord, word_of}
use Rattle.words.specs.Header.{header_word, first_place}
use Rattle.sessions.specs.declared.Session.{Session}
use Rattle.chain.specs.Walk.{Walk}
use Rattle.scans.specs.Scans.{last_upto, CanFollow}
use Rattle.undo_log.specs.Freeing.{free_chain}
use Rattle.endings.specs.Leave.{IsSession, HasEntries, leave_entries, leave_groups}
use Rattle.endings.specs.Table.{requested}
use Rattle.leaving.specs.declared.Aim.{Aim}

-- ---- put

-- Tidy's choice is the descriptor at record n; with none its request starts and ends.
unfoldable pub choice : List ℕ → ℕ → ℕ → Aim
choice s m n = cond (eqb n 0) (record { stage = 1; target = 0 }) (record { stage = 2; target = word_of s m n 1 })

-- The lowest stored key above `first`: behind the last one up to it.
unfoldable pub tidy_aim : List ℕ → ℕ → ℕ → ℕ → Aim
tidy_aim s m r first = choice s m (word_of s m (last_upto s m r (header_word s first_place) first) 0)

unfoldable pub aim_of : List ℕ → ℕ → ℕ → ℕ → ℕ → Aim
aim_of s m r code first =
    cond (eqb code 5) (record { stage = 2; target = first }) (cond (eqb code 6) (tidy_aim s m r first) (record { stage = 1; target = 0 }))

abbrev pub aimed : Session → ℕ → ℕ → ℕ → ℕ → Aim → Session
aimed x code entry first second a = requested x code entry first second a.stage a.target

unfoldable pub asked : List ℕ → ℕ → ℕ → Session → ℕ → ℕ → ℕ → ℕ → Session
asked s m r x code entry first second = aimed x code entry first second (aim_of s m r code first)

-- ---- commit

-- Session p leaves every entry and every descriptor.
unfoldable pub leave_all : List ℕ → ℕ → ℕ → ℕ → List ℕ
leave_all s m r p = leave_groups (leave_entries s p m) m p r (header_word s first_place)

-- Its undo records, from record i on, become free first.
unfoldable pub commit_words : List ℕ → ℕ → ℕ → ℕ → ℕ → List ℕ
commit_words s m r p i = leave_all (free_chain s m r i) m r p

-- ---- what the code asks

-- A record that is not 0 is there.
pub record ChoiceReady (s : List ℕ) (m n : ℕ) : Type 0 where
  pub has : ¬ (n ≡ 0) → HasRecord s m n

-- Tidy's choice can be looked for: the first descriptor is there, behind it the chain can be walked, and so is the one found and the one behind it.
pub record PutReady (s : List ℕ) (m r first : ℕ) : Type 0 where
  pub header : 16 ≤ length s
  pub follow : CanFollow s m r (header_word s first_place)
  pub found : HasRecord s m (last_upto s m r (header_word s first_place) first)
  pub next : ¬ (word_of s m (last_upto s m r (header_word s first_place) first) 0 ≡ 0) → HasRecord s m (word_of s m (last_upto s m r (header_word s first_place) first) 0)

-- The entries are there, and the descriptors can be walked once they have been left.
pub record LeaveReady (s : List ℕ) (m r p : ℕ) : Type 0 where
  pub session : IsSession p
  pub entries : HasEntries s m
  pub groups : Walk (leave_entries s p m) m r (header_word s first_place)

-- The undo records can be walked, and then the rest.
pub record CommitReady (s : List ℕ) (m r p i : ℕ) : Type 0 where
  pub undos : Walk s m r i
  pub leave : LeaveReady (free_chain s m r i) m r p

-- ---- the runs of the code, as equations

pub choice-none : (s : List ℕ) (m : ℕ) {n : ℕ} → n ≡ 0 → record { stage = 1; target = 0 } ≡ choice s m n
unfolding choice
choice-none s m {n} e = simp (eq-eqb n 0 e)

pub choice-some : (s : List ℕ) (m : ℕ) {n k : ℕ} → ¬ (n ≡ 0) → k ≡ word_of s m n 1 → record { stage = 2; target = k } ≡ choice s m n
unfolding choice
choice-some s m {n} {k} ne e = simp (ne_eqb n 0 ne, e)

pub follow-at : {s : List ℕ} {m r first i : ℕ} → i ≡ header_word s first_place → PutReady s m r first → CanFollow s m r i
follow-at {s} {m} {r} e P = subst (CanFollow s m r) (sym e) P.follow

pub found_at : {s : List ℕ} {m r first i last : ℕ} → i ≡ header_word s first_place → last ≡ last_upto s m r i first → PutReady s m r first → HasRecord s m last
found_at {s} {m} {r} {first} e l P = subst (HasRecord s m) (sym (l ∙ ap (λ j. last_upto s m r j first) e)) P.found

pub next-at : {s : List ℕ} {m r first i last next : ℕ} → i ≡ header_word s first_place → last ≡ last_upto s m r i first → next ≡ word_of s m last 0 → PutReady s m r first → ChoiceReady s m next
next-at {s} {m} {r} {first} e l n P =
    subst (ChoiceReady s m) (sym (n ∙ ap (λ j. word_of s m j 0) (l ∙ ap (λ j. last_upto s m r j first) e))) (record { has = P.next })

pub walk_at : {t u : List ℕ} (m r : ℕ) {i j : ℕ} → t ≡ u → i ≡ j → Walk u m r j → Walk t m r i
walk_at {t} {u} m r {i} {j} a b w = subst (λ z. Walk z m r i) (sym a) (subst (Walk u m r) (sym b) w)

pub leave-at : {t u : List ℕ} {m r p : ℕ} → t ≡ u → LeaveReady u m r p → LeaveReady t m r p
leave-at {t} {u} {m} {r} {p} e w = subst (λ z. LeaveReady z m r p) (sym e) w

-- the first stage by the code

pub aim-locate : (s : List ℕ) (m r : ℕ) {code : ℕ} (first : ℕ) → code ≡ 5 → record { stage = 2; target = first } ≡ aim_of s m r code first
unfolding aim_of
aim-locate s m r {code} first e = simp (eq-eqb code 5 e)

pub aim-tidy : (s : List ℕ) (m r : ℕ) {code : ℕ} (first : ℕ) {a : Aim} → code ≡ 6 → a ≡ tidy_aim s m r first → a ≡ aim_of s m r code first
unfolding aim_of
aim-tidy s m r {code} first {a} e q = simp (ne_eqb code 5 (λ z. omega (arith, e, z)), eq-eqb code 6 e) q

pub aim-start : (s : List ℕ) (m r : ℕ) {code : ℕ} (first : ℕ) → ¬ (code ≡ 5) → ¬ (code ≡ 6) → record { stage = 1; target = 0 } ≡ aim_of s m r code first
unfolding aim_of
aim-start s m r {code} first a b = simp (ne_eqb code 5 a, ne_eqb code 6 b)

-- what the calls come to, in their order

pub tidy-run : (s : List ℕ) (m r first : ℕ) {i last next : ℕ} {a : Aim} → i ≡ header_word s first_place → last ≡ last_upto s m r i first → next ≡ word_of s m last 0 → a ≡ choice s m next
    → a ≡ tidy_aim s m r first
unfolding tidy_aim
tidy-run s m r first e l n c = c ∙ ap (choice s m) (n ∙ ap (λ j. word_of s m j 0) (l ∙ ap (λ j. last_upto s m r j first) e))

pub asked-run : (s : List ℕ) (m r : ℕ) (x : Session) (code entry first second : ℕ) {a : Aim} {y : Session} → a ≡ aim_of s m r code first → y ≡ aimed x code entry first second a
    → y ≡ asked s m r x code entry first second
unfolding asked
asked-run s m r x code entry first second e c = c ∙ ap (aimed x code entry first second) e

pub leave-run : (s : List ℕ) (m r p : ℕ) {i : ℕ} {t u : List ℕ} → i ≡ header_word s first_place → t ≡ leave_entries s p m → u ≡ leave_groups t m p r i → u ≡ leave_all s m r p
unfolding leave_all
leave-run s m r p e a b = b ∙ ap₂ (λ t i. leave_groups t m p r i) a e

pub commit-run : (s : List ℕ) (m r p i : ℕ) {t u : List ℕ} → t ≡ free_chain s m r i → u ≡ leave_all t m r p → u ≡ commit_words s m r p i
unfolding commit_words
commit-run s m r p i a b = b ∙ ap (λ t. leave_all t m r p) a
