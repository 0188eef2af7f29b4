-- The runs of the code, as equations.
use Rattle.std.specs.Prelude.{◌≡◌, refl, List, ℕ, zero, suc, ◌≤◌, ◌<◌, eqb, leb}
use Rattle.std.proofs.Common.{sym, ap, ap₂, ◌∙◌, arith, eq-eqb, ne_eqb}
use Rattle.std.proofs.Math.Bool.{cond}
use Rattle.words.specs.Header.{header_word, free_place}
use Rattle.words.specs.Entries.{entry_word, put_entry_word}
use Rattle.locks.specs.Holders.{word_bits, held_by, blockers, first_of}
use Rattle.sessions.specs.declared.Session.{Session}
use Rattle.outcomes.specs.declared.Answer.TheVariants.{More, Wait, Done, Tidied, Refused}
use Rattle.outcomes.specs.declared.Moved.{Moved}
use Rattle.outcomes.specs.Said.{Stepped, moved}
use Rattle.machine.specs.Logic.{leb_yes, leb_no}
use Rattle.undo_log.specs.Undoing.{log_value}
use Rattle.endings.specs.Table.{logged_by, idled}
use Rattle.starting.specs.Starting.{entry_blocker, waits, refuses, unless_held, shared_words, read_done_of, read_step, excluded_words, written_words, write_done_of, write_free, write_step_of, to_first, entry_done_of, entry_step, none_chosen, tidied_none, first_step_of}

-- Who is in the way, by the two words read; who holds the entry then, by the word w read and the word v written.
pub blocker-run : (s : List ℕ) (e asked p : ℕ) {w v r : ℕ} → w ≡ entry_word s e 1 → v ≡ entry_word s e 2 → r ≡ first_of (blockers word_bits 0 asked p w v) → r ≡ entry_blocker s e asked p
unfolding entry_blocker
blocker-run s e asked p a b c = c ∙ ap₂ (λ w v. first_of (blockers word_bits 0 asked p w v)) a b

pub put-run : (s : List ℕ) (e k p : ℕ) {w v : ℕ} {t : List ℕ} → w ≡ entry_word s e k → v ≡ held_by p w → t ≡ put_entry_word s e k v → t ≡ put_entry_word s e k (held_by p (entry_word s e k))
put-run s e k p a b c = c ∙ ap (put_entry_word s e k) (b ∙ ap (held_by p) a)

pub share-run : (s : List ℕ) (e p : ℕ) {t : List ℕ} → t ≡ put_entry_word s e 1 (held_by p (entry_word s e 1)) → t ≡ shared_words s p e
unfolding shared_words
share-run s e p a = a

pub exclude-run : (s : List ℕ) (e p : ℕ) {t : List ℕ} → t ≡ put_entry_word s e 2 (held_by p (entry_word s e 2)) → t ≡ excluded_words s p e
unfolding excluded_words
exclude-run s e p a = a

-- The words t and the session record and answer r are those of z.
abbrev pub Leaves : List ℕ → Moved → Stepped → Type 0
Leaves t r z = (t ≡ z.words) × (r ≡ moved z)

-- A step that is done: w is the word read, y the session record handed back.
pub read-done-run : (s : List ℕ) (p : ℕ) (x : Session) {w : ℕ} {t : List ℕ} {y : Session} → w ≡ entry_word s x.entry 0 → t ≡ shared_words s p x.entry → y ≡ idled x
    → Leaves t (record { answer = Done w; session = y }) (read_done_of s p x)
unfolding read_done_of
read-done-run s p x a b c = (b, ap₂ (λ (w : ℕ) (y : Session). record { answer = Done w; session = y }) a c)

pub write-done-run : (s : List ℕ) (m p : ℕ) (x : Session) {w i : ℕ} {t u v : List ℕ} {y : Session} → w ≡ entry_word s x.entry 0
    → (i ≡ header_word s free_place) × (t ≡ log_value s m x.entry w x.undo) → u ≡ put_entry_word t x.entry 0 x.first → v ≡ excluded_words u p x.entry → y ≡ logged_by x i
    → Leaves v (record { answer = Done 0; session = y }) (write_done_of s m p x)
unfolding write_done_of written_words
write-done-run s m p x a b c d f = (
  d ∙ ap (λ u. excluded_words u p x.entry) (c ∙ ap (λ t. put_entry_word t x.entry 0 x.first) (b.1 ∙ ap (λ w. log_value s m x.entry w x.undo) a)),
  ap (λ (y : Session). record { answer = Done 0; session = y }) (f ∙ ap (logged_by x) b.0),
)

pub entry-done-run : (s : List ℕ) (p : ℕ) (x : Session) {t : List ℕ} {y : Session} → t ≡ excluded_words s p x.entry → y ≡ to_first x → Leaves t (record { answer = More; session = y }) (entry_done_of s p x)
unfolding entry_done_of
entry-done-run s p x a b = (a, ap (λ (y : Session). record { answer = More; session = y }) b)

pub none-done-run : (x : Session) {y : Session} → y ≡ idled x → record { answer = Tidied 0 0; session = y } ≡ none_chosen x
unfolding none_chosen
none-done-run x a = ap (λ (y : Session). record { answer = Tidied 0 0; session = y }) a

leaves-as : (t : List ℕ) (r : Moved) (y z : Stepped) → z ≡ y → Leaves t r y → Leaves t r z
leaves-as t r y z e l = (l.0 ∙ ap (λ w. w.words) (sym e), l.1 ∙ ap moved (sym e))

-- Session q is in the way; nobody is.
pub held-run : (s : List ℕ) (x : Session) (z : Stepped) {q b : ℕ} → q ≡ b → ¬ (q ≡ 0) → Leaves s (record { answer = Wait q; session = x }) (unless_held b s x z)
unfolding unless_held waits
held-run s x z {q} {b} e n =
    leaves-as s (record { answer = Wait q; session = x }) (waits s x q) (unless_held b s x z) (ap (λ k. unless_held k s x z) (sym e) ∙ ap (λ c. cond c z (waits s x q)) (ne_eqb q 0 n)) (refl, refl)

pub open-run : (s t : List ℕ) (r : Moved) (x : Session) (z : Stepped) {q b : ℕ} → q ≡ b → q ≡ 0 → Leaves t r z → Leaves t r (unless_held b s x z)
unfolding unless_held
open-run s t r x z {q} {b} e o l = leaves-as t r z (unless_held b s x z) (ap (λ c. cond c z (waits s x b)) (eq-eqb b 0 (sym e ∙ o))) l

-- No record is free; one is.
pub none-run : (s : List ℕ) (m p : ℕ) (x y : Session) {i : ℕ} → i ≡ header_word s free_place → i ≡ 0 → y ≡ idled x → Leaves s (record { answer = Refused 11 0; session = y }) (write_free s m p x)
unfolding write_free refuses
none-run s m p x y e o w =
    leaves-as s (record { answer = Refused 11 0; session = y }) (refuses s x) (write_free s m p x) (ap (λ c. cond c (refuses s x) (write_done_of s m p x)) (eq-eqb (header_word s free_place) 0 (sym e ∙ o)))
    (refl, ap (λ k. record { answer = Refused 11 0; session = k }) w)

pub some-run : (s t : List ℕ) (r : Moved) (m p : ℕ) (x : Session) {i : ℕ} → i ≡ header_word s free_place → ¬ (i ≡ 0) → Leaves t r (write_done_of s m p x) → Leaves t r (write_free s m p x)
unfolding write_free
some-run s t r m p x e o l =
    leaves-as t r (write_done_of s m p x) (write_free s m p x) (ap (λ c. cond c (refuses s x) (write_done_of s m p x)) (ne_eqb (header_word s free_place) 0 (λ z. o (e ∙ z)))) l

-- By code.

pub from-three : (c : ℕ) → 1 ≤ c → ¬ (c ≡ 1) → ¬ (c ≡ 2) → 3 ≤ c
from-three zero a b d = absurd (omega (arith, a))
from-three (suc zero) a b d = absurd (b refl)
from-three (suc (suc zero)) a b d = absurd (d refl)
from-three (suc (suc (suc n))) a b d = omega arith

module _ (s t : List ℕ) (r : Moved) (m p : ℕ) (x : Session) where
  pub read-run : x.code ≡ 1 → Leaves t r (read_step s p x) → Leaves t r (first_step_of s m p x)
  unfolding first_step_of
  read-run e l =
      leaves-as t r (read_step s p x) (first_step_of s m p x)
      (ap (λ c. cond c (read_step s p x) (cond (eqb x.code 2) (write_step_of s m p x) (cond (leb x.code 4) (entry_step s p x) (tidied_none s x)))) (eq-eqb x.code 1 e)) l

  later-run : (z : Stepped) → ¬ (x.code ≡ 1) → cond (eqb x.code 2) (write_step_of s m p x) (cond (leb x.code 4) (entry_step s p x) (tidied_none s x)) ≡ z → Leaves t r z
      → Leaves t r (first_step_of s m p x)
  unfolding first_step_of
  later-run z n e l =
      leaves-as t r z (first_step_of s m p x)
      (ap (λ c. cond c (read_step s p x) (cond (eqb x.code 2) (write_step_of s m p x) (cond (leb x.code 4) (entry_step s p x) (tidied_none s x)))) (ne_eqb x.code 1 n) ∙ e) l

  pub write-run : x.code ≡ 2 → Leaves t r (write_step_of s m p x) → Leaves t r (first_step_of s m p x)
  write-run e l =
      later-run (write_step_of s m p x) (λ q. omega (arith, e, q))
      (ap (λ c. cond c (write_step_of s m p x) (cond (leb x.code 4) (entry_step s p x) (tidied_none s x))) (eq-eqb x.code 2 e)) l

  last-run : (z : Stepped) → 3 ≤ x.code → cond (leb x.code 4) (entry_step s p x) (tidied_none s x) ≡ z → Leaves t r z → Leaves t r (first_step_of s m p x)
  last-run z n e l =
      later-run z (λ q. omega (arith, n, q)) (ap (λ c. cond c (write_step_of s m p x) (cond (leb x.code 4) (entry_step s p x) (tidied_none s x))) (ne_eqb x.code 2 (λ q. omega (arith, n, q))) ∙ e) l

  pub entry-run : 3 ≤ x.code → x.code ≤ 4 → Leaves t r (entry_step s p x) → Leaves t r (first_step_of s m p x)
  entry-run a b l = last-run (entry_step s p x) a (ap (λ c. cond c (entry_step s p x) (tidied_none s x)) (leb_yes x.code 4 b)) l

  pub tidied-run : 4 < x.code → t ≡ s → r ≡ none_chosen x → Leaves t r (first_step_of s m p x)
  unfolding none_chosen tidied_none
  tidied-run l e q = last-run (tidied_none s x) (omega (arith, l)) (ap (λ c. cond c (entry_step s p x) (tidied_none s x)) (leb_no x.code 4 l)) (e, q)
