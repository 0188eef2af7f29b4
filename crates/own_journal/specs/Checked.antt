-- What "a code or number breaks document 01" means: a line is proper exactly if it is a commit, or put's own checks on code and arguments, refusals 6, 8, 9 and
-- 10, pass for a session in a store of 1,024 entries. In a smaller store they ask for more.
use Rattle.std.specs.Prelude.{◌≡◌, refl, true, false, ◌||◌, ◌⊎◌, ◌↔◌, ℕ, suc, ◌≤◌, eqb, ltb, length}
use Rattle.std.proofs.Common.{◌∙◌, ap, inl, inr, arith}
use Rattle.serial.specs.Codes.{by-code-upto-5}
use Rattle.machine.specs.Logic.{leb_no, eqb_no}
use Rattle.machine.specs.State.{State, top}
use Rattle.machine.specs.Calls.{request_checks, infinite}
use Rattle.machine.specs.Sound.{Passes}
use Rattle.machine.specs.Checks.{session-code, checked-entry, checked-first, checked-second, checked-order}
use Rattle.journal_lines.specs.Journal.{Line, proper}
use Rattle.journal_lines.specs.Accepts.{EntryFits, KeyFits, Fits, read_fits, write_fits, insert_fits, remove_fits, locate_fits, commit_fits, proper-fits, fits-proper}

-- ---- numbers

entry-passes : (e : ℕ) → EntryFits e → (eqb e 0 || ltb 1024 e) ≡ false
entry-passes e h = rw (eqb_no e 0 (λ q. omega (arith, q, h.0)), leb_no 1025 e (omega (arith, h.1))) refl

key-passes : (k : ℕ) → KeyFits k → infinite k ≡ false
key-passes k h = rw (eqb_no k 0 (λ q. omega (arith, q, h.0)), leb_no top k (omega (arith, h.1))) refl

-- ---- put's checks

module _ (m : ℕ) (s : State) where
  -- What put accepts of a session is proper, however many entries the store has.
  pub passes-proper : length s.entries ≤ 1024 → (l : Line) → Passes (request_checks (suc m) l.code l.entry l.first l.second s) → proper l ≡ true
  passes-proper h l w = fits-proper l (by-code-upto-5 l.code code.0 code.1
      (λ c. read_fits c (entry (omega (arith, c))))
      (λ c. write_fits c (entry (omega (arith, c))))
      (λ c. insert_fits c (entry (omega (arith, c))) (first (omega (arith, c)) (omega (arith, c))))
      (λ c. remove_fits c (entry (omega (arith, c))) (first (omega (arith, c)) (omega (arith, c))))
      (λ c. locate_fits c (first (omega (arith, c)) (omega (arith, c))) (second c) (checked-order (suc m) l.code l.entry l.first l.second s w c)))
    where
      code : (1 ≤ l.code) × (l.code ≤ 5)
      code = session-code m l.code w.0

      entry : l.code ≤ 4 → EntryFits l.entry
      entry k = let b = checked-entry (suc m) l.code l.entry l.first l.second s w k in (b.0, omega (arith, b.1, h))

      first : 3 ≤ l.code → l.code ≤ 5 → KeyFits l.first
      first i k = let b = checked-first (suc m) l.code l.entry l.first l.second s w i k in (b.0, omega (arith, b.1))

      second : l.code ≡ 5 → KeyFits l.second
      second c = let b = checked-second (suc m) l.code l.entry l.first l.second s w c in (b.0, omega (arith, b.1))

  -- In a store of 1,024 entries put accepts of a session whatever is proper, but for a commit.
  pub proper-passes : length s.entries ≡ 1024 → (l : Line) → proper l ≡ true → (l.code ≡ 255) ⊎ Passes (request_checks (suc m) l.code l.entry l.first l.second s)
  proper-passes h l t = go (proper-fits l t)
    where
      session : eqb (suc m) 0 ≡ false
      session = eqb_no (suc m) 0 (λ q. omega (arith, q))

      entry : EntryFits l.entry → (eqb l.entry 0 || ltb (length s.entries) l.entry) ≡ false
      entry e = ap (λ n. eqb l.entry 0 || ltb n l.entry) h ∙ entry-passes l.entry e

      go : Fits l.code l.entry l.first l.second → (l.code ≡ 255) ⊎ Passes (request_checks (suc m) l.code l.entry l.first l.second s)
      go (read_fits c e) = inr (rw c (session, (entry e, (refl, (refl, tt)))))
      go (write_fits c e) = inr (rw c (session, (entry e, (refl, (refl, tt)))))
      go (insert_fits c e k) = inr (rw c (session, (entry e, (rw (key-passes l.first k) refl, (refl, tt)))))
      go (remove_fits c e k) = inr (rw c (session, (entry e, (rw (key-passes l.first k) refl, (refl, tt)))))
      go (locate_fits c f g o) =
          inr (rw c (session, (refl, (rw (key-passes l.first f) (key-passes l.second g), (leb_no (suc l.second) l.first (omega (arith, o)), tt)))))
      go (commit_fits c) = inl c

  pub proper-means : length s.entries ≡ 1024 → (l : Line)
      → (proper l ≡ true) ↔ ((l.code ≡ 255) ⊎ Passes (request_checks (suc m) l.code l.entry l.first l.second s))
  proper-means h l = (proper-passes h l, back)
    where
      back : (l.code ≡ 255) ⊎ Passes (request_checks (suc m) l.code l.entry l.first l.second s) → proper l ≡ true
      back (inl e) = fits-proper l (commit_fits e)
      back (inr w) = passes-proper (omega (arith, h)) l w
