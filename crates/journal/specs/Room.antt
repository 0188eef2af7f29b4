-- How many requests the committed runs have: runs that commit differ, so each line is of at most one of them.
use Rattle.std.specs.Prelude.{◌≡◌, refl, Bool, true, false, cond, not, ◌&&◌, ◌||◌, List, [], ◌∷◌, ◌++◌, ℕ, ◌+◌, ◌≤◌, eqb, length}
use Rattle.std.proofs.Common.{sym, ◌∙◌, ap, arith, length-append, eqb-true, ne_eqb}
use Rattle.std.proofs.Math.Bool.{and-eq-true_iff}
use Rattle.std.proofs.Math.Option.{Option, none, some}
use Rattle.std.proofs.lemmas.Bool.{eqb-false, not-true}
use Rattle.serial.specs.Serial.{Done}
use Rattle.serial.specs.Model.{Req, Ans, request_of}
use Rattle.serial.specs.Footprints.{store}
use Rattle.journal_lines.specs.Journal.{Line, is_commit, none_of, all_end, fed, feeds, stored_answer, of_run, committed_in, committed}

-- The requests of the runs, all together.
unfoldable pub total : List (List (Done store)) → ℕ
total [] = 0
total (l ∷ ls) = length l + total ls

pub fed-few : (o : Option Req) (a : Ans) → length (fed o a) ≤ 1
fed-few none a = omega arith
fed-few (some q) a = omega arith

abbrev one_if : Bool → ℕ
one_if true = 1
one_if false = 0

-- How many lines commit a run.
unfoldable pub times_committed : ℕ → List Line → ℕ
times_committed x [] = 0
times_committed x (l ∷ ls) = one_if (is_commit l && eqb x l.run) + times_committed x ls

none-commits : (x : ℕ) (ls : List Line) → none_of x ls ≡ true → times_committed x ls ≡ 0
unfolding none_of times_committed
none-commits x [] h = refl
none-commits x (l ∷ ls) h = go (is_commit l) (none-commits x ls both.1)
  where
    both : (not (eqb l.run x) ≡ true) × (none_of x ls ≡ true)
    both = (and-eq-true_iff (not (eqb l.run x)) (none_of x ls)).0 h

    other : eqb x l.run ≡ false
    other = ne_eqb x l.run (λ e. eqb-false l.run x (not-true (eqb l.run x) both.0) (sym e))

    go : (b : Bool) → times_committed x ls ≡ 0 → one_if (b && eqb x l.run) + times_committed x ls ≡ 0
    go true k = rw other (omega arith)
    go false k = omega arith

pub commits-once : (x : ℕ) (ls : List Line) → all_end ls ≡ true → times_committed x ls ≤ 1
unfolding all_end times_committed
commits-once x [] h = omega arith
commits-once x (l ∷ ls) h = go (is_commit l) (eqb x l.run) refl refl (commits-once x ls both.1)
  where
    both : ((not (is_commit l) || none_of l.run ls) ≡ true) × (all_end ls ≡ true)
    both = (and-eq-true_iff (not (is_commit l) || none_of l.run ls) (all_end ls)).0 h

    go : (b c : Bool) → is_commit l ≡ b → eqb x l.run ≡ c → times_committed x ls ≤ 1 → one_if (b && c) + times_committed x ls ≤ 1
    go true true p q k =
        let e : x ≡ l.run = eqb-true x l.run q in
        let n : none_of l.run ls ≡ true = rw p at both.0 in
        let z : times_committed x ls ≡ 0 = none-commits x ls (ap (λ y. none_of y ls) e ∙ n) in
        omega arith
    go true false p q k = omega arith
    go false c p q k = omega arith

run_more : (x : ℕ) (k : Line) (all : List Line) → length (of_run x (k ∷ all)) ≤ one_if (eqb k.run x) + length (of_run x all)
unfolding of_run
run_more x k all = go (eqb k.run x)
  where
    go : (b : Bool) → length (cond b (feeds k ++ of_run x all) (of_run x all)) ≤ one_if b + length (of_run x all)
    go true =
        let f : length (feeds k) ≤ 1 = fed-few (request_of k.code k.entry k.first k.second) (stored_answer k) in
        omega (arith, length-append (feeds k) (of_run x all))
    go false = omega arith

total-more : (k : Line) (all ls : List Line) → total (committed_in (k ∷ all) ls) ≤ times_committed k.run ls + total (committed_in all ls)
unfolding total committed_in times_committed
total-more k all [] = omega arith
total-more k all (l ∷ ls) = go (is_commit l) (total-more k all ls)
  where
    go : (b : Bool) → total (committed_in (k ∷ all) ls) ≤ times_committed k.run ls + total (committed_in all ls)
        → total (cond b (of_run l.run (k ∷ all) ∷ committed_in (k ∷ all) ls) (committed_in (k ∷ all) ls))
        ≤ one_if (b && eqb k.run l.run) + times_committed k.run ls + total (cond b (of_run l.run all ∷ committed_in all ls) (committed_in all ls))
    go true h = omega (arith, run_more l.run k all)
    go false h = omega arith

total-none : (ls : List Line) → total (committed_in [] ls) ≡ 0
unfolding total committed_in of_run
total-none [] = refl
total-none (l ∷ ls) = go (is_commit l) (total-none ls)
  where
    go : (b : Bool) → total (committed_in [] ls) ≡ 0 → total (cond b ([] ∷ committed_in [] ls) (committed_in [] ls)) ≡ 0
    go true h = omega arith
    go false h = h

total-few : (all ls : List Line) → ((x : ℕ) → times_committed x ls ≤ 1) → total (committed_in all ls) ≤ length all
total-few [] ls h = omega (arith, total-none ls)
total-few (k ∷ all) ls h = omega (arith, total-more k all ls, h k.run, total-few all ls h)

pub room-for-all : (ls : List Line) → all_end ls ≡ true → total (committed ls) ≤ length ls
room-for-all ls h = total-few ls ls (λ x. commits-once x ls h)
