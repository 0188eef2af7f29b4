-- The journal of a store's own calls is accepted: of every store that keeps demand 3, and every list of calls from a fresh one.
use Rattle.std.specs.Prelude.{◌≡◌, Bool, false, not, ◌&&◌, ◌||◌, ℕ, zero, suc, ◌+◌, ◌*◌, ◌≤◌, eqb, length, take}
use Rattle.std.proofs.Math.Path.{refl, sym, ap}
use Rattle.std.proofs.Common.{◌∙◌, subst, arith}
use Rattle.std.proofs.Math.Bool.{true, cond}
use mathlib.Core.List.{List, [], ◌∷◌, ◌++◌, map, append_assoc, append-nil, map-append}
use Rattle.std.proofs.Math.Option.{Option, none, some, none-ne-some}
use Rattle.std.proofs.Math.Decide.{ℕ_discrete}
use Rattle.serial.specs.Serial.{pick, pick_yes, Hist, none_yet, hstep, Done, Fits, FitsAll, after, run-fitsall}
use Rattle.serial.specs.Serial as S
use Rattle.serial.specs.Lists.{All, all_append, all-as}
use Rattle.serial.specs.Model.{Db, Req, Ans, ans, two_words, empty, request_of, located, read, insert, remove, locate}
use Rattle.serial.specs.Model as R
use Rattle.serial.specs.Footprints.{store}
use Rattle.serial.specs.Locks.{Table, Strict}
use Rattle.serial.specs.LockMachine.{Formatted}
use Rattle.serial.specs.Calls.{Call, Answer, Turn, Asked, Told, nothing, tell, told, tell_ok, tell_answer, tell_done, tell_refused, take_in_hand, without, finished, fed, number_of, answer_of, ends_request, Machine, Run, Knows, Laws}
use Rattle.serial.proofs.Calls.{demand-3}
use Rattle.serial.specs.Calls as C
use Rattle.serial.specs.Codes.{two_by_two, two-by-two-words}
use Rattle.machine.specs.Logic.{both, eqb_yes, eqb_no, eqb_is}
use Rattle.journal_lines.specs.Journal as J
use Rattle.journal_lines.specs.Journal.{Line, lines, is_commit, proper, all_proper, none_of, all_end, feeds, of_run, committed_in, committed, Answered, answered?, judged, verdict_on, verdict_of}
use Rattle.journal_lines.specs.Accepts.{Listed}
use Rattle.journal_lines.specs.Written.{LineWords, listed_in, written, written-lines}
use Rattle.own_journal.specs.Diary.{Diary, blank, request_line, commit_line, write, note, note_ok, note_answer, note_done, note_request, note_finished, kept, journal_of}

-- ---- one more line at the end

proper-end : (ls : List Line) (l : Line) → all_proper ls ≡ true → proper l ≡ true → all_proper (ls ++ (l ∷ [])) ≡ true
unfolding all_proper
proper-end [] l a p = rw p refl
proper-end (x ∷ ls) l a p = let b = both (proper x) (all_proper ls) a in rw (b.0, proper-end ls l b.1 p) refl

-- A run that is not committed.
abbrev pub Open : ℕ → List Line → Type 0
Open x ls = All (λ l. is_commit l ≡ true → ¬ (l.run ≡ x)) ls

none_end : (x : ℕ) (ls : List Line) (l : Line) → none_of x ls ≡ true → ¬ (l.run ≡ x) → none_of x (ls ++ (l ∷ [])) ≡ true
unfolding none_of
none_end x [] l a n = rw (eqb_no l.run x n) refl
none_end x (y ∷ ls) l a n = let b = both (not (eqb y.run x)) (none_of x ls) a in rw (b.0, none_end x ls l b.1 n) refl

-- A line of a run that is not committed goes on after no commit.
ends-end : (ls : List Line) (l : Line) → all_end ls ≡ true → Open l.run ls → all_end (ls ++ (l ∷ [])) ≡ true
unfolding all_end none_of
ends-end [] l a o = go (is_commit l)
  where
    go : (b : Bool) → ((not b || true) && true) ≡ true
    go true = refl
    go false = refl
ends-end (x ∷ ls) l a o =
    let b = both (not (is_commit x) || none_of x.run ls) (all_end ls) a in
    rw (ends-end ls l b.1 o.1) (go (is_commit x) refl b.0)
  where
    go : (c : Bool) → is_commit x ≡ c → (not c || none_of x.run ls) ≡ true → ((not c || none_of x.run (ls ++ (l ∷ []))) && true) ≡ true
    go true e h = rw (none_end x.run ls l h (λ q. o.0 e (sym q))) refl
    go false e h = refl

of-run-end : (x : ℕ) (ls : List Line) (l : Line) → of_run x (ls ++ (l ∷ [])) ≡ of_run x ls ++ of_run x (l ∷ [])
unfolding of_run
of-run-end x [] l = refl
of-run-end x (y ∷ ls) l = go (eqb y.run x) (of-run-end x ls l)
  where
    go : (b : Bool) → of_run x (ls ++ (l ∷ [])) ≡ of_run x ls ++ of_run x (l ∷ [])
        → cond b (feeds y ++ of_run x (ls ++ (l ∷ []))) (of_run x (ls ++ (l ∷ []))) ≡ cond b (feeds y ++ of_run x ls) (of_run x ls) ++ of_run x (l ∷ [])
    go true h = ap (λ z. feeds y ++ z) h ∙ sym (append_assoc (feeds y) (of_run x ls) (of_run x (l ∷ [])))
    go false h = h

-- A line of another run adds nothing to a run.
of-run-other : (x : ℕ) (ls : List Line) (l : Line) → ¬ (l.run ≡ x) → of_run x (ls ++ (l ∷ [])) ≡ of_run x ls
unfolding of_run
of-run-other x ls l n = of-run-end x ls l ∙ ap (λ b. of_run x ls ++ cond b (feeds l ++ []) []) (eqb_no l.run x n) ∙ append-nil (of_run x ls)

of-run-own : (x : ℕ) (ls : List Line) (l : Line) → l.run ≡ x → of_run x (ls ++ (l ∷ [])) ≡ of_run x ls ++ feeds l
unfolding of_run
of-run-own x ls l e =
    of-run-end x ls l ∙ ap (λ b. of_run x ls ++ cond b (feeds l ++ []) []) (eqb_yes l.run x e) ∙ ap (λ z. of_run x ls ++ z) (append-nil (feeds l))

committed-in-end : (all ls : List Line) (l : Line) → committed_in all (ls ++ (l ∷ [])) ≡ committed_in all ls ++ committed_in all (l ∷ [])
unfolding committed_in
committed-in-end all [] l = refl
committed-in-end all (y ∷ ls) l = go (is_commit y) (committed-in-end all ls l)
  where
    go : (b : Bool) → committed_in all (ls ++ (l ∷ [])) ≡ committed_in all ls ++ committed_in all (l ∷ [])
        → cond b (of_run y.run all ∷ committed_in all (ls ++ (l ∷ []))) (committed_in all (ls ++ (l ∷ [])))
        ≡ cond b (of_run y.run all ∷ committed_in all ls) (committed_in all ls) ++ committed_in all (l ∷ [])
    go true h = ap (λ z. of_run y.run all ∷ z) h
    go false h = h

-- The committed runs read all lines; a line of a run that is not committed leaves them as they are.
committed-in-more : (all ls : List Line) (l : Line) → Open l.run ls → committed_in (all ++ (l ∷ [])) ls ≡ committed_in all ls
unfolding committed_in
committed-in-more all [] l o = refl
committed-in-more all (y ∷ ls) l o = go (is_commit y) refl (committed-in-more all ls l o.1)
  where
    go : (b : Bool) → is_commit y ≡ b → committed_in (all ++ (l ∷ [])) ls ≡ committed_in all ls
        → cond b (of_run y.run (all ++ (l ∷ [])) ∷ committed_in (all ++ (l ∷ [])) ls) (committed_in (all ++ (l ∷ [])) ls)
        ≡ cond b (of_run y.run all ∷ committed_in all ls) (committed_in all ls)
    go true e h = let q = of-run-other y.run all l (λ r. o.0 e (sym r)) in cc
    go false e h = h

committed-end : (ls : List Line) (l : Line) → Open l.run ls → committed (ls ++ (l ∷ [])) ≡ committed ls ++ committed_in (ls ++ (l ∷ [])) (l ∷ [])
committed-end ls l o = committed-in-end (ls ++ (l ∷ [])) ls l ∙ ap (λ z. z ++ committed_in (ls ++ (l ∷ [])) (l ∷ [])) (committed-in-more ls ls l o)

-- ---- what a line keeps of an answer

-- The first number beside done, and the words two by two.
abbrev pub kept_answer : Ans → Ans
kept_answer a = record { numbers = number_of a.numbers ∷ []; words = two_words (two_by_two a.words) }

abbrev pub as_written : Done store → Done store
as_written x = (x.0, kept_answer x.1)

-- Of an answer of the model it keeps all.
kept-model : (r : Req) (d : Db) → kept_answer (ans r d) ≡ ans r d
kept-model (read e) d = refl
kept-model (R.write e v) d = refl
kept-model (insert e k) d = refl
kept-model (remove e k) d = refl
kept-model (locate lo hi) d = ap (λ z. record { numbers = (R.ans (locate lo hi) d).numbers; words = two_words z }) (two-by-two-words (located lo hi d))

-- So of told answers that are the model's it keeps all.
written-told : (xs : List (Done store)) (d : Db) → Fits store xs d → map as_written xs ≡ xs
written-told [] d f = refl
written-told (x ∷ xs) d f =
    let p : kept_answer x.1 ≡ x.1 = ap kept_answer f.0 ∙ kept-model x.0 d ∙ sym f.0 in
    let q = written-told xs (R.eff x.0 d) f.1 in
    (λ i. (x.0, p i) ∷ q i)

all_told : (xs : List (List (Done store))) (d : Db) → FitsAll store xs d → map (map as_written) xs ≡ xs
all_told [] d f = refl
all_told (x ∷ xs) d f =
    let p = written-told x d f.0 in
    let q = all_told xs (after store x d) f.1 in
    (λ i. p i ∷ q i)

-- ---- the diary agrees with the history

-- No line is of a later run than the n-th.
abbrev pub Old : ℕ → List Line → Type 0
Old n ls = All (λ l. l.run ≤ n) ls

-- The next run has no line.
old-open : (n : ℕ) (ls : List Line) → Old n ls → Open (suc n) ls
old-open n ls o = all-as (λ l h c e. omega (arith, e, h)) ls o

old-none : (n : ℕ) (ls : List Line) → Old n ls → of_run (suc n) ls ≡ []
unfolding of_run
old-none n [] o = refl
old-none n (l ∷ ls) o = rw (eqb_no l.run (suc n) (λ e. omega (arith, e, o.0))) (old-none n ls o.1)

-- One more line.
one_more : (P : Line → Type 0) (ls : List Line) (l : Line) → All P ls → P l → All P (ls ++ (l ∷ []))
one_more P ls l a p = all_append P ls (l ∷ []) a (p, tt)

-- h is the history, u the unfinished sessions, d the diary of the same calls.
pub record Agrees (h : Hist store) (u : ℕ → Bool) (d : Diary) : Type 0 where
  pub all_are_proper : all_proper d.lines ≡ true
  pub all_do_end : all_end d.lines ≡ true
  -- The committed runs are the committed sessions in order of commit, and an unfinished session's run is the session so far,
  pub closed_is : committed d.lines ≡ map (map as_written) h.closed
  pub current_is : (s : ℕ) → u s ≡ true → of_run (d.runs s) d.lines ≡ map as_written (h.current s)
  -- whose run is not committed and no other's.
  pub still_open : (s : ℕ) → u s ≡ true → Open (d.runs s) d.lines
  pub apart : (s v : ℕ) → u s ≡ true → u v ≡ true → d.runs s ≡ d.runs v → s ≡ v
  -- Runs are counted by begins.
  pub old_lines : Old d.begins d.lines
  pub old_runs : (s : ℕ) → u s ≡ true → d.runs s ≤ d.begins
  pub all_listed : All Listed d.lines

agrees-blank : Agrees (none_yet store) (λ s. false) blank
unfolding all_proper all_end committed_in of_run
agrees-blank = record {
  all_are_proper = refl;
  all_do_end = refl;
  closed_is = refl;
  current_is = λ s b. refl;
  still_open = λ s b. tt;
  apart = λ s v b. absurd (S.true≢false b refl);
  old_lines = tt;
  old_runs = λ s b. absurd (S.true≢false b refl);
  all_listed = tt;
}

-- Who is unfinished when s has ended was so before.
still : (u : ℕ → Bool) (s v : ℕ) → S.put u s false v ≡ true → u v ≡ true
still u s v = go (ℕ_discrete s v)
  where
    go : (e : Dec (s ≡ v)) → pick e false (u v) ≡ true → u v ≡ true
    go (yes e) b = absurd (S.true≢false b refl)
    go (no n) b = b

module _ (h : Hist store) (u : ℕ → Bool) (d : Diary) (A : Agrees h u d) where
  -- Session s begins.
  agrees-begin : (s : ℕ) → Agrees (hstep store (S.begin s) h) (S.put u s true) (note_ok (C.begin s) d)
  agrees-begin s = record {
    all_are_proper = A.all_are_proper;
    all_do_end = A.all_do_end;
    closed_is = A.closed_is;
    current_is = λ v. run_is v (ℕ_discrete s v);
    still_open = λ v. open-now v (ℕ_discrete s v);
    apart = λ v w. differ v w (ℕ_discrete s v) (ℕ_discrete s w);
    old_lines = all-as (λ l h. omega (arith, h)) d.lines A.old_lines;
    old_runs = λ v. old-now v (ℕ_discrete s v);
    all_listed = A.all_listed;
  }
    where
      run_is : (v : ℕ) (e : Dec (s ≡ v)) → pick e true (u v) ≡ true → of_run (pick e (suc d.begins) (d.runs v)) d.lines ≡ map as_written (pick e [] (h.current v))
      run_is v (yes e) b = old-none d.begins d.lines A.old_lines
      run_is v (no n) b = A.current_is v b

      open-now : (v : ℕ) (e : Dec (s ≡ v)) → pick e true (u v) ≡ true → Open (pick e (suc d.begins) (d.runs v)) d.lines
      open-now v (yes e) b = old-open d.begins d.lines A.old_lines
      open-now v (no n) b = A.still_open v b

      differ : (v w : ℕ) (e : Dec (s ≡ v)) (f : Dec (s ≡ w)) → pick e true (u v) ≡ true → pick f true (u w) ≡ true
          → pick e (suc d.begins) (d.runs v) ≡ pick f (suc d.begins) (d.runs w) → v ≡ w
      differ v w (yes e) (yes f) a b q = sym e ∙ f
      differ v w (yes e) (no m) a b q = absurd (omega (arith, q, A.old_runs w b))
      differ v w (no m) (yes f) a b q = absurd (omega (arith, q, A.old_runs v a))
      differ v w (no m) (no k) a b q = A.apart v w a b q

      old-now : (v : ℕ) (e : Dec (s ≡ v)) → pick e true (u v) ≡ true → pick e (suc d.begins) (d.runs v) ≤ suc d.begins
      old-now v (yes e) b = omega arith
      old-now v (no n) b = omega (arith, A.old_runs v b)

  agrees-abort : (s : ℕ) → Agrees (hstep store (S.abort s) h) (S.put u s false) d
  agrees-abort s = record {
    all_are_proper = A.all_are_proper;
    all_do_end = A.all_do_end;
    closed_is = A.closed_is;
    current_is = λ v. run_is v (ℕ_discrete s v);
    still_open = λ v b. A.still_open v (still u s v b);
    apart = λ v w a b. A.apart v w (still u s v a) (still u s w b);
    old_lines = A.old_lines;
    old_runs = λ v b. A.old_runs v (still u s v b);
    all_listed = A.all_listed;
  }
    where
      run_is : (v : ℕ) (e : Dec (s ≡ v)) → pick e false (u v) ≡ true → of_run (d.runs v) d.lines ≡ map as_written (pick e [] (h.current v))
      run_is v (yes e) b = absurd (S.true≢false b refl)
      run_is v (no n) b = A.current_is v b

  -- Recover: of the unfinished sessions those stay that are asked.
  agrees-recover : (asked : ℕ → Bool) → Agrees (without (λ s. u s && not (asked s)) h) (λ s. u s && asked s) d
  agrees-recover asked = record {
    all_are_proper = A.all_are_proper;
    all_do_end = A.all_do_end;
    closed_is = A.closed_is;
    current_is = λ v b. A.current_is v (was v b) ∙ ap (λ z. map as_written (cond z [] (h.current v))) (sym (kept_on v b));
    still_open = λ v b. A.still_open v (was v b);
    apart = λ v w a b. A.apart v w (was v a) (was w b);
    old_lines = A.old_lines;
    old_runs = λ v b. A.old_runs v (was v b);
    all_listed = A.all_listed;
  }
    where
      was : (v : ℕ) → (u v && asked v) ≡ true → u v ≡ true
      was v b = (both (u v) (asked v) b).0

      kept_on : (v : ℕ) → (u v && asked v) ≡ true → (u v && not (asked v)) ≡ false
      kept_on v b = let q = both (u v) (asked v) b in rw (q.0, q.1) refl

  -- Unfinished session s commits.
  agrees-commit : (s : ℕ) → u s ≡ true → Agrees (hstep store (S.commit s) h) (S.put u s false) (note_ok (C.commit s) d)
  unfolding committed_in proper
  agrees-commit s b = record {
    all_are_proper = proper-end d.lines (commit_line (d.runs s)) A.all_are_proper refl;
    all_do_end = ends-end d.lines (commit_line (d.runs s)) A.all_do_end (A.still_open s b);
    closed_is = committed-end d.lines (commit_line (d.runs s)) (A.still_open s b) ∙ closes ∙ sym (map-append (map as_written) h.closed (h.current s ∷ []));
    current_is = λ v. run_is v (ℕ_discrete s v);
    still_open = λ v. open-now v (ℕ_discrete s v);
    apart = λ v w a c. A.apart v w (still u s v a) (still u s w c);
    old_lines = one_more (λ z. z.run ≤ d.begins) d.lines (commit_line (d.runs s)) A.old_lines (A.old_runs s b);
    old_runs = λ v c. A.old_runs v (still u s v c);
    all_listed = one_more Listed d.lines (commit_line (d.runs s)) A.all_listed (λ n. refl);
  }
    where
      own_is : of_run (d.runs s) (d.lines ++ (commit_line (d.runs s) ∷ [])) ≡ map as_written (h.current s)
      own_is = of-run-own (d.runs s) d.lines (commit_line (d.runs s)) refl ∙ append-nil (of_run (d.runs s) d.lines) ∙ A.current_is s b

      closes : committed d.lines ++ (of_run (d.runs s) (d.lines ++ (commit_line (d.runs s) ∷ [])) ∷ []) ≡ map (map as_written) h.closed ++ (map as_written (h.current s) ∷ [])
      closes = let p = A.closed_is in let q = own_is in cc

      run_is : (v : ℕ) (e : Dec (s ≡ v)) → pick e false (u v) ≡ true → of_run (d.runs v) (d.lines ++ (commit_line (d.runs s) ∷ [])) ≡ map as_written (pick e [] (h.current v))
      run_is v (yes e) c = absurd (S.true≢false c refl)
      run_is v (no n) c = of-run-other (d.runs v) d.lines (commit_line (d.runs s)) (λ q. n (A.apart s v b c q)) ∙ A.current_is v c

      open-now : (v : ℕ) (e : Dec (s ≡ v)) → pick e false (u v) ≡ true → Open (d.runs v) (d.lines ++ (commit_line (d.runs s) ∷ []))
      open-now v (yes e) c = absurd (S.true≢false c refl)
      open-now v (no n) c = one_more (λ z. is_commit z ≡ true → ¬ (z.run ≡ d.runs v)) d.lines (commit_line (d.runs s)) (A.still_open v c) (λ x q. n (A.apart s v b c q))

  -- A request of unfinished session s is finished.
  module _ (s : ℕ) (b : u s ≡ true) (a : Asked) (r : Req) (ns words : List ℕ) (asked : request_of a.code a.entry a.first a.second ≡ some r)
      (fine : proper (request_line (d.runs s) a ns words) ≡ true) where
    abbrev l : Line
    l = request_line (d.runs s) a ns words

    -- It is no commit.
    no-commit : is_commit l ≡ false
    no-commit = S.not-true (is_commit l) (λ e. none-ne-some r (sym (ap (λ c. request_of c a.entry a.first a.second) (eqb_is a.code 255 e)) ∙ asked))

    agrees-finish : Agrees (hstep store (S.finish s r (answer_of a.code ns words)) h) u (write l d)
    unfolding committed_in
    agrees-finish = record {
      all_are_proper = proper-end d.lines l A.all_are_proper fine;
      all_do_end = ends-end d.lines l A.all_do_end (A.still_open s b);
      closed_is = committed-end d.lines l (A.still_open s b) ∙ closes ∙ A.closed_is;
      current_is = λ v. run_is v (ℕ_discrete s v);
      still_open = λ v c. one_more (λ z. is_commit z ≡ true → ¬ (z.run ≡ d.runs v)) d.lines l (A.still_open v c) (λ e. absurd (S.true≢false e no-commit));
      apart = A.apart;
      old_lines = one_more (λ z. z.run ≤ d.begins) d.lines l A.old_lines (A.old_runs s b);
      old_runs = A.old_runs;
      all_listed = one_more Listed d.lines l A.all_listed (λ n. ap (λ b. two_by_two (cond b (take (2 * number_of ns) words) [])) (eqb_no a.code 5 n));
    }
      where
        closes : committed d.lines ++ cond (is_commit l) (of_run (d.runs s) (d.lines ++ (l ∷ [])) ∷ []) [] ≡ committed d.lines
        closes = ap (λ c. committed d.lines ++ cond c (of_run (d.runs s) (d.lines ++ (l ∷ [])) ∷ []) []) no-commit ∙ append-nil (committed d.lines)

        fed-is : feeds l ≡ as_written (r, answer_of a.code ns words) ∷ []
        fed-is = ap (λ o. J.fed o (kept_answer (answer_of a.code ns words))) asked

        joined : of_run (d.runs s) d.lines ++ feeds l ≡ map as_written (h.current s) ++ (as_written (r, answer_of a.code ns words) ∷ [])
        joined = let p = A.current_is s b in let q = fed-is in cc

        own_is : of_run (d.runs s) (d.lines ++ (l ∷ [])) ≡ map as_written (h.current s ++ ((r, answer_of a.code ns words) ∷ []))
        own_is = of-run-own (d.runs s) d.lines l refl ∙ joined ∙ sym (map-append as_written (h.current s) ((r, answer_of a.code ns words) ∷ []))

        run_is : (v : ℕ) (e : Dec (s ≡ v)) → u v ≡ true
            → of_run (d.runs v) (d.lines ++ (l ∷ [])) ≡ map as_written (pick e (h.current s ++ ((r, answer_of a.code ns words) ∷ [])) (h.current v))
        run_is v (yes e) c = subst (λ w. of_run (d.runs w) (d.lines ++ (l ∷ [])) ≡ map as_written (h.current s ++ ((r, answer_of a.code ns words) ∷ []))) e own_is
        run_is v (no n) c = of-run-other (d.runs v) d.lines l (λ q. n (A.apart s v b c q)) ∙ A.current_is v c

-- ---- what a store owes beside the laws of demand 3

pub record Careful (𝓢 : Machine) : Type 0 where
  -- The request in hand of a session has a code and numbers that document 01 accepts, and the session is begun.
  pub hand_proper : (x : 𝓢.X) (s : ℕ) (a : Asked) → 𝓢.Sound x → 𝓢.hand x (suc s) ≡ some a → (run : ℕ) (ns l : List ℕ) → proper (request_line run a ns l) ≡ true
  pub hand_begun : (x : 𝓢.X) (s : ℕ) (a : Asked) → 𝓢.Sound x → 𝓢.hand x (suc s) ≡ some a → (𝓢.meaning x).begun (suc s) ≡ true
  -- Only a begun session's commit is accepted.
  pub commit_begun : (s : ℕ) (k : Turn) (x y : 𝓢.X) → k.call ≡ C.commit s → k.answer ≡ C.ok → 𝓢.Does x k y → 𝓢.Sound x → (𝓢.meaning x).begun s ≡ true

-- ---- the theorem

abbrev pub Faithful : Told → Diary → Type 0
Faithful t d = Agrees t.past t.unfinished d

-- The lines fit in a file: 1 to 2,048 records of words.
pub record FitsFile (ls : List Line) : Type 0 where
  pub some_line : 1 ≤ length ls
  pub room : length ls + listed_in ls ≤ 2048
  pub numbers : All LineWords ls

-- The journal ls of calls that told t is accepted, and leaves out nothing.
pub record Accepted (t : Told) (ls : List Line) : Type 0 where
  -- Its committed runs are the committed sessions in order of commit, each with its finished requests in turn and the answers that they got.
  pub all_committed : committed ls ≡ t.past.closed
  -- It passes the tests 16 and 17: every file that has it for its lines is accepted,
  pub passes : judged ls ≡ 0
  pub accepted : (bs : List ℕ) → lines bs ≡ some ls → verdict_of bs ≡ 0
  -- and such a file there is, if the lines fit in one: as they are written out (journal_lines, specs/Written).
  pub file : FitsFile ls → (lines (written ls) ≡ some ls) × (verdict_of (written ls) ≡ 0)

-- Lines that agree with a history whose told answers are the model's.
agrees-accepted : (t : Told) (d : Diary) → Faithful t d → Answered t.past.closed → Accepted t d.lines
unfolding judged verdict_of
agrees-accepted t d A h = record {
  all_committed = as_told;
  passes = zero_is;
  accepted = λ bs e. ap verdict_on e ∙ zero_is;
  file = λ F. let e = out F in (e, ap verdict_on e ∙ zero_is);
}
  where
    out : FitsFile d.lines → lines (written d.lines) ≡ some d.lines
    out F = written-lines d.lines (F.numbers, A.all_listed) F.some_line F.room

    as_told : committed d.lines ≡ t.past.closed
    as_told = A.closed_is ∙ all_told t.past.closed empty (run-fitsall store t.past.closed empty h)

    zero_is : judged d.lines ≡ 0
    zero_is = rw (A.all_are_proper, A.all_do_end) (pick_yes (answered? (committed d.lines)) 0 17 (subst Answered (sym as_told) h))

-- The journal of a list of calls.
abbrev pub JournalAccepted : List Turn → Type 0
JournalAccepted ks = Accepted (told nothing ks) (journal_of ks)

module _ (𝓢 : Machine) (T : Table) (strict : Strict T) (𝓛 : Laws 𝓢 T) (𝓒 : Careful 𝓢) where
  open 𝓢 use {X, Sound, meaning, hand, Does}

  -- A request is finished.
  finish-agrees : (p : ℕ) (o : Option Asked) (ns l : List ℕ) (x : X) (t : Told) (d : Diary) → Knows 𝓢 t x → t.hands p ≡ o → Faithful t d
      → Agrees (finished p o ns l t.past) t.unfinished (note_finished p o ns l d)
  finish-agrees zero o ns l x t d w e A = A
  finish-agrees (suc k) none ns l x t d w e A = A
  finish-agrees (suc k) (some a) ns l x t d w e A = go (request_of a.code a.entry a.first a.second) refl
    where
      in_hand : hand x (suc k) ≡ some a
      in_hand = w.hand_told (suc k) ∙ e

      go : (o : Option Req) → request_of a.code a.entry a.first a.second ≡ o
          → Agrees (fed (suc k) o (answer_of a.code ns l) t.past) t.unfinished (note_request (suc k) a o ns l d)
      go none q = A
      go (some r) q =
          agrees-finish t.past t.unfinished d A (suc k) (sym (w.begun_told (suc k)) ∙ 𝓒.hand_begun x k a w.sound in_hand) a r ns l q
          (𝓒.hand_proper x k a w.sound in_hand (d.runs (suc k)) ns l)

  ok-agrees : (c : Call) (l : List ℕ) (x y : X) (t : Told) (d : Diary) → Does x (record { call = c; answer = C.ok; list = l }) y → Knows 𝓢 t x → Faithful t d
      → Faithful (tell_ok c t) (note_ok c d)
  ok-agrees (C.format m) l x y t d D w A = agrees-blank
  ok-agrees (C.begin s) l x y t d D w A = agrees-begin t.past t.unfinished d A s
  ok-agrees (C.put p code entry first second) l x y t d D w A = A
  ok-agrees (C.step p l₀) l x y t d D w A = A
  ok-agrees (C.commit s) l x y t d D w A =
      agrees-commit t.past t.unfinished d A s (sym (w.begun_told s) ∙ 𝓒.commit_begun s (record { call = C.commit s; answer = C.ok; list = l }) x y refl refl D w.sound)
  ok-agrees (C.abort s) l x y t d D w A = agrees-abort t.past t.unfinished d A s
  ok-agrees (C.ask s) l x y t d D w A = A
  ok-agrees C.recover l x y t d D w A = agrees-recover t.past t.unfinished d A t.asked

  done-agrees : (c : Call) (ns l : List ℕ) (x : X) (t : Told) (d : Diary) → Knows 𝓢 t x → Faithful t d → Faithful (tell_done c ns l t) (note_done c ns l t d)
  done-agrees (C.format m) ns l x t d w A = A
  done-agrees (C.begin s) ns l x t d w A = A
  done-agrees (C.put p code entry first second) ns l x t d w A = A
  done-agrees (C.step p l₀) ns l x t d w A = finish-agrees p (t.hands p) ns l x t d w refl A
  done-agrees (C.commit s) ns l x t d w A = A
  done-agrees (C.abort s) ns l x t d w A = A
  done-agrees (C.ask s) ns l x t d w A = A
  done-agrees C.recover ns l x t d w A = A

  refused-agrees : (c : Call) (n : ℕ) (t : Told) (d : Diary) → Faithful t d → Faithful (tell_refused c n t) d
  refused-agrees (C.format m) n t d A = A
  refused-agrees (C.begin s) n t d A = A
  refused-agrees (C.put p code entry first second) n t d A = A
  refused-agrees (C.step p l) n t d A = go (ends_request n)
    where
      go : (b : Bool) → Faithful (cond b (take_in_hand p none t) t) d
      go true = A
      go false = A
  refused-agrees (C.commit s) n t d A = A
  refused-agrees (C.abort s) n t d A = A
  refused-agrees (C.ask s) n t d A = A
  refused-agrees C.recover n t d A = A

  -- One call.
  pub call-agrees : (c : Call) (a : Answer) (l : List ℕ) (x y : X) (t : Told) (d : Diary) → Does x (record { call = c; answer = a; list = l }) y → Knows 𝓢 t x → Faithful t d
      → Faithful (tell_answer c a l t) (note_answer c a l t d)
  call-agrees c C.ok l x y t d D w A = ok-agrees c l x y t d D w A
  call-agrees c C.more l x y t d D w A = A
  call-agrees c (C.wait p) l x y t d D w A = A
  call-agrees c (C.done ns) l x y t d D w A = done-agrees c ns l x t d w A
  call-agrees c (C.refused n k) l x y t d D w A = refused-agrees c n t d A

  -- A list of calls.
  pub run-agrees : {x y : X} {ks : List Turn} (t : Told) (d : Diary) → Run 𝓢 x ks y → Knows 𝓢 t x → Faithful t d → Faithful (told t ks) (kept t d ks)
  run-agrees t d C.stop w A = A
  run-agrees t d (C.next {x} {y} {z} {k} {ks} D r) w A =
      run-agrees (tell k t) (note k t d) r (𝓛.knows k x y t D w) (call-agrees k.call k.answer k.list x y t d D w A)

  -- The journal of any list of calls from a fresh store, as an accepted format leaves it, is accepted.
  pub own-journal : (x y : X) (ks : List Turn) → Knows 𝓢 nothing x → Formatted (meaning x) → Run 𝓢 x ks y → JournalAccepted ks
  own-journal x y ks w f r =
      agrees-accepted (told nothing ks) (kept nothing blank ks) (run-agrees nothing blank r w agrees-blank) (demand-3 𝓢 T strict 𝓛 x y ks w f r).committed
