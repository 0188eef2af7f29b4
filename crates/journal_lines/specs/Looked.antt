-- What of a journal is looked at, and what of its order counts: journals that agree in this have one verdict.
use Rattle.std.specs.Prelude.{◌≡◌, Bool, false, cond, not, ◌&&◌, ◌||◌, ℕ, ◌/◌, ◌≤◌, length}
use Rattle.std.proofs.Math.Path.{refl, ap}
use Rattle.std.proofs.Common.{sym, ◌∙◌, subst, inl, inr, arith, eqb-true, eq-eqb, ne_eqb}
use Rattle.std.proofs.Math.Bool.{true, and-eq-true_iff}
use mathlib.Core.List.{List, [], ◌∷◌, ◌++◌, map, append-nil}
use Rattle.std.proofs.Math.Option.{none-ne-some}
use Rattle.std.proofs.Math.Dec.{eqb}
use Rattle.std.proofs.lemmas.Bool.{eqb-false, not-true}
use Rattle.serial.specs.Serial.{In, Distinct, pick, by_bool}
use Rattle.journal_reader.specs.declared.Record.{Record}
use Rattle.journal_reader.specs.Record.{records, record_at}
use Rattle.journal_lines.specs.Journal.{Line, pair_of, line_of, lines, said, is_commit, proper, all_proper, none_of, all_end, committed, answered?, judged, verdict_of}
use Rattle.journal_lines.specs.Paths.{Meets, FinitePath, path-unique, by-option}
use Rattle.journal_lines.specs.Accepts.{Readable, Orderly, lines-readable, readable-lines, said-is, order-means, is-15, commits, lines_in, fed_by, committed-is}
use Rattle.journal_lines.specs.Ignored.{Alike, SameLine, SameLines, same-verdict}

-- ---- what is looked at

-- Following the next indices from `at` comes to record i, inside the file.
pub record Reaches (bs : List ℕ) (at i : ℕ) : Type 0 where
  pub met : List ℕ
  pub meets : Meets bs at met i
  pub least : 1 ≤ i
  pub most : i ≤ records bs

-- Two records agree in what is looked at on a main chain: next index, run and code, the numbers that the code uses, and at 5 the list index.
pub record SameInMain (r s : Record) : Type 0 where
  pub next : r.next ≡ s.next
  pub numbers : Alike (line_of r []) (line_of s [])
  pub list : r.code ≡ 5 → r.list ≡ s.list

-- Two records agree in what is looked at in a list: next index, key and entry.
pub record SameInList (r s : Record) : Type 0 where
  pub next : r.next ≡ s.next
  pub pair : pair_of r ≡ pair_of s

-- Two files agree in what is looked at: their length, the records of the main chain, and those of the list of each locate on it.
pub record SameLooks (bs cs : List ℕ) : Type 0 where
  pub bytes : length bs ≡ length cs
  pub main : (i : ℕ) → Reaches bs 1 i → SameInMain (record_at bs i) (record_at cs i)
  pub lists : (i j : ℕ) → Reaches bs 1 i → (record_at bs i).code ≡ 5 → Reaches bs (record_at bs i).list j → SameInList (record_at bs j) (record_at cs j)

-- ---- what of the order counts

-- Both tests of 16.
abbrev pub InOrder : List Line → Type 0
InOrder ls = (all_proper ls ≡ true) × (all_end ls ≡ true)

-- The same runs commit, in one order, and each of them has the same lines in order.
pub record SameRuns (ls ms : List Line) : Type 0 where
  pub order : commits ls ≡ commits ms
  pub runs : (x : ℕ) → In x (commits ls) → lines_in x ls ≡ lines_in x ms

-- The lines whose run is kept.
unfoldable pub kept : (ℕ → Bool) → List Line → List Line
kept keep [] = []
kept keep (l ∷ ls) = cond (keep l.run) (l ∷ kept keep ls) (kept keep ls)

-- Is it one of these?
unfoldable pub one_of : ℕ → List ℕ → Bool
one_of x [] = false
one_of x (y ∷ ys) = eqb x y || one_of x ys

-- The lines of the runs that commit.
abbrev pub of_committed : List Line → List Line
of_committed ls = kept (λ x. one_of x (commits ls)) ls

-- The lines of these runs, run by run.
unfoldable pub run_by_run : List ℕ → List Line → List Line
run_by_run [] ls = []
run_by_run (x ∷ xs) ls = lines_in x ls ++ run_by_run xs ls

-- ---- what is reached

reaches-on : (bs : List ℕ) (at i j : ℕ) → i ≡ at → 1 ≤ i → i ≤ records bs → Reaches bs (record_at bs i).next j → Reaches bs at j
reaches-on bs at i j e h k r = record { met = i ∷ r.met; meets = (e, h, k, r.meets); least = r.least; most = r.most }

met-reached : (bs : List ℕ) (at : ℕ) (is : List ℕ) (to : ℕ) → Meets bs at is to → (i : ℕ) → In i is → Reaches bs at i
met-reached bs at [] to m i h = absurd h
met-reached bs at (k ∷ is) to m i (inl e) = record { met = []; meets = sym m.0 ∙ sym e; least = omega arith; most = omega arith }
met-reached bs at (k ∷ is) to m i (inr h) = reaches-on bs at k i m.0 m.1 m.2 (met-reached bs (record_at bs k).next is to m.3 i h)

-- Two files agree in the next index of what is reached from `at`.
abbrev SameNext : List ℕ → List ℕ → ℕ → Type 0
SameNext bs cs at = (i : ℕ) → Reaches bs at i → (record_at bs i).next ≡ (record_at cs i).next

-- From there they reach the same.
module _ (bs cs : List ℕ) (e : length bs ≡ length cs) where
  start : (at i : ℕ) → i ≡ at → 1 ≤ i → i ≤ records bs → Reaches bs at i
  start at i q h k = record { met = []; meets = sym q; least = h; most = k }

  meets-there : (at : ℕ) (is : List ℕ) (to : ℕ) → SameNext bs cs at → Meets bs at is to → Meets cs at is to
  meets-there at [] to n m = m
  meets-there at (i ∷ is) to n m = (
    m.0,
    m.1,
    subst (λ x. i ≤ x) (ap (λ x. x / 32) e) m.2,
    subst (λ x. Meets cs x is to) (n i (start at i m.0 m.1 m.2))
        (meets-there (record_at bs i).next is to (λ j r. n j (reaches-on bs at i j m.0 m.1 m.2 r)) m.3),
  )

  meets-back : (at : ℕ) (is : List ℕ) (to : ℕ) → SameNext bs cs at → Meets cs at is to → Meets bs at is to
  meets-back at [] to n m = m
  meets-back at (i ∷ is) to n m =
      let k : i ≤ records bs = subst (λ x. i ≤ x) (ap (λ x. x / 32) (sym e)) m.2 in
      let q = sym (n i (start at i m.0 m.1 k)) in
      (m.0, m.1, k, meets-back (record_at bs i).next is to (λ j r. n j (reaches-on bs at i j m.0 m.1 k r)) (subst (λ x. Meets cs x is to) q m.3))

  reaches-back : (at i : ℕ) → SameNext bs cs at → Reaches cs at i → Reaches bs at i
  reaches-back at i n r = record {
    met = r.met;
    meets = meets-back at r.met i n r.meets;
    least = r.least;
    most = subst (λ x. i ≤ x) (ap (λ x. x / 32) (sym e)) r.most;
  }

-- ---- agreement

alike-back : (l m : Line) → Alike l m → Alike m l
alike-back l m a = record {
  run = sym a.run;
  code = sym a.code;
  entry = λ h k. sym (a.entry (omega (arith, a.code)) (omega (arith, a.code)));
  first = λ h k. sym (a.first (omega (arith, a.code)) (omega (arith, a.code)));
  second = λ c. sym (a.second (a.code ∙ c));
  answer = λ h k. sym (a.answer (omega (arith, a.code)) (omega (arith, a.code)));
  pairs = λ c. sym (a.pairs (a.code ∙ c));
}

main-back : (r s : Record) → SameInMain r s → SameInMain s r
main-back r s w = record { next = sym w.next; numbers = alike-back (line_of r []) (line_of s []) w.numbers; list = λ c. sym (w.list (w.numbers.code ∙ c)) }

module _ (bs cs : List ℕ) (w : SameLooks bs cs) where
  main-next : SameNext bs cs 1
  main-next i r = (w.main i r).next

  list-next : (i : ℕ) → Reaches bs 1 i → (record_at bs i).code ≡ 5 → SameNext bs cs (record_at bs i).list
  list-next i r c j s = (w.lists i j r c s).next

  looks-back : SameLooks cs bs
  looks-back = record {
    bytes = sym w.bytes;
    main = λ i r. main-back (record_at bs i) (record_at cs i) (w.main i (there i r));
    lists = λ i j r c s. listed i j (there i r) c s;
  }
    where
      there : (i : ℕ) → Reaches cs 1 i → Reaches bs 1 i
      there i r = reaches-back bs cs w.bytes 1 i main-next r

      listed : (i j : ℕ) → Reaches bs 1 i → (record_at cs i).code ≡ 5 → Reaches cs (record_at cs i).list j → SameInList (record_at cs j) (record_at bs j)
      listed i j r c s =
          let a = w.main i r in
          let d = a.numbers.code ∙ c in
          let t = reaches-back bs cs w.bytes (record_at bs i).list j (list-next i r d) (subst (λ x. Reaches cs x j) (sym (a.list d)) s) in
          let b = w.lists i j r d t in
          record { next = sym b.next; pair = sym b.pair }

  -- The list of a locate on the main chain is one path in both.
  list-path : (i : ℕ) → Reaches bs 1 i → (record_at bs i).code ≡ 5 → (is : List ℕ) → FinitePath bs (record_at bs i).list is → FinitePath cs (record_at cs i).list is
  list-path i r c is p = record {
    follows = subst (λ x. Meets cs x is 0) ((w.main i r).list c) (meets-there bs cs w.bytes (record_at bs i).list is 0 (list-next i r c) p.follows);
    once = p.once;
  }

  looks-readable : Readable bs → Readable cs
  looks-readable r = record {
    many = r.many;
    bytes = sym w.bytes ∙ r.bytes;
    least = r.least;
    most = r.most;
    main = r.main;
    path = record { follows = meets-there bs cs w.bytes 1 r.main 0 main-next r.path.follows; once = r.path.once };
    lists = λ i h c.
        let s = met-reached bs 1 r.main 0 r.path.follows i h in
        let d = (w.main i s).numbers.code ∙ c in
        let p = r.lists i h d in
        (p.0, list-path i s d p.0 p.1);
  }

  same_pairs : (is : List ℕ) → ((j : ℕ) → In j is → pair_of (record_at bs j) ≡ pair_of (record_at cs j))
      → map pair_of (map (record_at bs) is) ≡ map pair_of (map (record_at cs) is)
  same_pairs [] h = refl
  same_pairs (j ∷ is) h =
      let t = same_pairs is (λ k x. h k (inr x)) in
      λ k. h j (inl refl) k ∷ t k

  looks-line : (i : ℕ) → Reaches bs 1 i → SameLine bs cs i i
  looks-line i r = record {
    numbers = (w.main i r).numbers;
    lists = λ c is js p q.
        let one : is ≡ js = path-unique cs (record_at cs i).list is js (list-path i r c is p).follows q.follows in
        same_pairs is (λ j h. (w.lists i j r c (met-reached bs (record_at bs i).list is 0 p.follows j h)).pair)
        ∙ ap (λ x. map pair_of (map (record_at cs) x)) one;
  }

  looks-lines : (is : List ℕ) → ((i : ℕ) → In i is → Reaches bs 1 i) → SameLines bs cs is is
  looks-lines [] h = tt
  looks-lines (i ∷ is) h = (looks-line i (h i (inl refl)), looks-lines is (λ j k. h j (inr k)))

-- What is not looked at is ignored: two files that agree in what is looked at have one verdict.
pub ignored : (bs cs : List ℕ) → SameLooks bs cs → verdict_of bs ≡ verdict_of cs
unfolding looks-readable
ignored bs cs w = by-option (lines bs)
    (λ z. let n : ¬ Readable bs = λ r. let s = readable-lines bs r in none-ne-some s.0 (sym z ∙ s.1) in
    (is-15 bs).1 n ∙ sym ((is-15 cs).1 (λ r. n (looks-readable cs bs (looks-back bs cs w) r))))
    (λ ls z. let r = lines-readable bs ls z in
    same-verdict bs cs r (looks-readable bs cs w r) (looks-lines bs cs w r.main (met-reached bs 1 r.main 0 r.path.follows)))

-- ---- the runs that commit

each : {A : Type 0} (f g : ℕ → A) (xs : List ℕ) → ((x : ℕ) → In x xs → f x ≡ g x) → map f xs ≡ map g xs
each f g [] h = refl
each f g (x ∷ xs) h =
    let t = each f g xs (λ y k. h y (inr k)) in
    λ i. h x (inl refl) i ∷ t i

-- Where lines of different runs stand between each other does not matter, nor what there is of runs that do not commit.
pub same_runs : (ls ms : List Line) → InOrder ls → InOrder ms → SameRuns ls ms → judged ls ≡ judged ms
unfolding judged
same_runs ls ms f g s =
    let c : committed ls ≡ committed ms
    = committed-is ls
    ∙ each (λ x. fed_by (lines_in x ls)) (λ x. fed_by (lines_in x ms)) (commits ls) (λ x h. ap fed_by (s.runs x h))
    ∙ ap (map (λ x. fed_by (lines_in x ms))) s.order
    ∙ sym (committed-is ms) in
    rw (f.0, f.1, g.0, g.1) (ap (λ d. pick (answered? d) 0 17) c)

-- Both tests hold past 16.
pub not_16 : (ls : List Line) → ¬ (judged ls ≡ 16) → InOrder ls
unfolding judged
not_16 ls n = by_bool (all_proper ls && all_end ls) (λ t. (and-eq-true_iff (all_proper ls) (all_end ls)).0 t) (λ t. absurd (n (rw t refl)))

judged-said : (bs : List ℕ) → Readable bs → verdict_of bs ≡ judged (said bs)
unfolding verdict_of
judged-said bs r = rw (readable-lines bs r).1 refl

-- Two journals past 16 whose committed runs are the same have one verdict.
pub runs-verdict : (bs cs : List ℕ) → Orderly bs → Orderly cs → SameRuns (said bs) (said cs) → verdict_of bs ≡ verdict_of cs
runs-verdict bs cs o p s = judged-said bs o.readable ∙ same_runs (said bs) (said cs) (said-order bs o) (said-order cs p) s ∙ sym (judged-said cs p.readable)
  where
    said-order : (bs : List ℕ) → Orderly bs → InOrder (said bs)
    said-order bs o =
        (and-eq-true_iff (all_proper (said bs)) (all_end (said bs))).0 ((order-means bs o.readable.main (said bs) (said-is bs o.readable)).1 (o.fits, o.ends))

-- ---- runs left out

module _ (keep : ℕ → Bool) where
  kept-proper : (ls : List Line) → all_proper ls ≡ true → all_proper (kept keep ls) ≡ true
  unfolding kept all_proper
  kept-proper [] t = refl
  kept-proper (l ∷ ls) t =
      let p = (and-eq-true_iff (proper l) (all_proper ls)).0 t in
      by_bool (keep l.run) (λ k. rw (k, p.0, kept-proper ls p.1) refl) (λ k. rw k (kept-proper ls p.1))

  kept-none : (x : ℕ) (ls : List Line) → none_of x ls ≡ true → none_of x (kept keep ls) ≡ true
  unfolding kept none_of
  kept-none x [] t = refl
  kept-none x (l ∷ ls) t =
      let p = (and-eq-true_iff (not (eqb l.run x)) (none_of x ls)).0 t in
      by_bool (keep l.run) (λ k. rw (k, p.0, kept-none x ls p.1) refl) (λ k. rw k (kept-none x ls p.1))

  kept-end : (ls : List Line) → all_end ls ≡ true → all_end (kept keep ls) ≡ true
  unfolding kept all_end
  kept-end [] t = refl
  kept-end (l ∷ ls) t =
      let p = (and-eq-true_iff (not (is_commit l) || none_of l.run ls) (all_end ls)).0 t in
      by_bool (keep l.run) (λ k. rw (k, here p.0, kept-end ls p.1) refl) (λ k. rw k (kept-end ls p.1))
    where
      here : (not (is_commit l) || none_of l.run ls) ≡ true → (not (is_commit l) || none_of l.run (kept keep ls)) ≡ true
      here h = by_bool (is_commit l) (λ c. rw (c, kept-none l.run ls (rw c at h)) refl) (λ c. rw c refl)

  kept-commits : (ls : List Line) → ((x : ℕ) → In x (commits ls) → keep x ≡ true) → commits (kept keep ls) ≡ commits ls
  unfolding kept commits
  kept-commits [] h = refl
  kept-commits (l ∷ ls) h = by_bool (is_commit l)
      (λ c. let g : (x : ℕ) → In x (l.run ∷ commits ls) → keep x ≡ true = rw c at h in
      rw (g l.run (inl refl), c, kept-commits ls (λ x k. g x (inr k))) refl)
      (λ c. let t = kept-commits ls (rw c at h) in by_bool (keep l.run) (λ k. rw (k, c) t) (λ k. rw (k, c) t))

  kept-lines : (x : ℕ) (ls : List Line) → keep x ≡ true → lines_in x (kept keep ls) ≡ lines_in x ls
  unfolding kept lines_in
  kept-lines x [] h = refl
  kept-lines x (l ∷ ls) h = by_bool (eqb l.run x)
      (λ e. rw (ap keep (eqb-true l.run x e) ∙ h, e, kept-lines x ls h) refl)
      (λ e. let t = kept-lines x ls h in by_bool (keep l.run) (λ k. rw (k, e) t) (λ k. rw (k, e) t))

-- Runs that do not commit may be left out, all or some of them.
pub left_out : (keep : ℕ → Bool) (ls : List Line) → ¬ (judged ls ≡ 16) → ((x : ℕ) → In x (commits ls) → keep x ≡ true) → judged (kept keep ls) ≡ judged ls
left_out keep ls n h =
    let o = not_16 ls n in
    sym (same_runs ls (kept keep ls) o (kept-proper keep ls o.0, kept-end keep ls o.1)
    (record { order = sym (kept-commits keep ls h); runs = λ x k. sym (kept-lines keep x ls (h x k)) }))

in-one-of : (x : ℕ) (ys : List ℕ) → In x ys → one_of x ys ≡ true
unfolding one_of
in-one-of x [] h = absurd h
in-one-of x (y ∷ ys) (inl e) = rw (eq-eqb x y e) refl
in-one-of x (y ∷ ys) (inr h) = by_bool (eqb x y) (λ t. rw t refl) (λ t. rw (t, in-one-of x ys h) refl)

-- What is left of a journal's lines when all of them are left out is judged as before, and accepted if it was.
pub committed-alone : (ls : List Line) → ¬ (judged ls ≡ 16) → judged (of_committed ls) ≡ judged ls
committed-alone ls n = left_out (λ x. one_of x (commits ls)) ls n (λ x h. in-one-of x (commits ls) h)

pub committed-accepted : (ls : List Line) → judged ls ≡ 0 → judged (of_committed ls) ≡ 0
committed-accepted ls e = committed-alone ls (λ q. absurd (omega arith)) ∙ e

-- ---- lines in a row

proper-row : (ks ms : List Line) → all_proper ks ≡ true → all_proper ms ≡ true → all_proper (ks ++ ms) ≡ true
unfolding all_proper
proper-row [] ms s t = t
proper-row (l ∷ ks) ms s t =
    let p = (and-eq-true_iff (proper l) (all_proper ks)).0 s in
    rw (p.0, proper-row ks ms p.1 t) refl

none_row : (x : ℕ) (ks ms : List Line) → none_of x ks ≡ true → none_of x ms ≡ true → none_of x (ks ++ ms) ≡ true
unfolding none_of
none_row x [] ms s t = t
none_row x (l ∷ ks) ms s t =
    let p = (and-eq-true_iff (not (eqb l.run x)) (none_of x ks)).0 s in
    rw (p.0, none_row x ks ms p.1 t) refl

commits-row : (ks ms : List Line) → commits (ks ++ ms) ≡ commits ks ++ commits ms
unfolding commits
commits-row [] ms = refl
commits-row (l ∷ ks) ms = by_bool (is_commit l) (λ c. rw (c, commits-row ks ms) refl) (λ c. rw (c, commits-row ks ms) refl)

lines-row : (x : ℕ) (ks ms : List Line) → lines_in x (ks ++ ms) ≡ lines_in x ks ++ lines_in x ms
unfolding lines_in
lines-row x [] ms = refl
lines-row x (l ∷ ks) ms = by_bool (eqb l.run x) (λ e. rw (e, lines-row x ks ms) refl) (λ e. rw (e, lines-row x ks ms) refl)

-- The commits of the first have nothing behind them.
end_row : (ks ms : List Line) → all_end ks ≡ true → all_end ms ≡ true → ((x : ℕ) → In x (commits ks) → none_of x ms ≡ true) → all_end (ks ++ ms) ≡ true
unfolding all_end commits
end_row [] ms s t h = t
end_row (l ∷ ks) ms s t h = by_bool (is_commit l)
    (λ c. let g : (x : ℕ) → In x (l.run ∷ commits ks) → none_of x ms ≡ true = rw c at h in
    let n : none_of l.run ks ≡ true = rw c at p.0 in
    rw (c, none_row l.run ks ms n (g l.run (inl refl)), end_row ks ms p.1 t (λ x k. g x (inr k))) refl)
    (λ c. rw (c, end_row ks ms p.1 t (rw c at h)) refl)
  where
    p : ((not (is_commit l) || none_of l.run ks) ≡ true) × (all_end ks ≡ true)
    p = (and-eq-true_iff (not (is_commit l) || none_of l.run ks) (all_end ks)).0 s

-- The lines of a run are what is kept of all if only this run is kept.
lines-kept : (x : ℕ) (ls : List Line) → lines_in x ls ≡ kept (λ y. eqb y x) ls
unfolding lines_in kept
lines-kept x [] = refl
lines-kept x (l ∷ ls) = rw (lines-kept x ls) refl

none-lines : (x : ℕ) (ls : List Line) → none_of x ls ≡ true → lines_in x ls ≡ []
unfolding none_of lines_in
none-lines x [] t = refl
none-lines x (l ∷ ls) t =
    let p = (and-eq-true_iff (not (eqb l.run x)) (none_of x ls)).0 t in
    rw (not-true (eqb l.run x) p.0, none-lines x ls p.1) refl

lines_none : (x y : ℕ) (ls : List Line) → ¬ (x ≡ y) → none_of x (lines_in y ls) ≡ true
unfolding none_of lines_in
lines_none x y [] n = refl
lines_none x y (l ∷ ls) n = by_bool (eqb l.run y)
    (λ e. rw (e, ne_eqb l.run x (λ q. n (sym q ∙ eqb-true l.run y e)), lines_none x y ls n) refl)
    (λ e. rw e (lines_none x y ls n))

commits-none : (x : ℕ) (ls : List Line) → none_of x ls ≡ true → ¬ In x (commits ls)
unfolding none_of commits
commits-none x [] t h = h
commits-none x (l ∷ ls) t h = by_bool (is_commit l) (λ c. at (commits-none x ls p.1) (rw c at h)) (λ c. commits-none x ls p.1 (rw c at h))
  where
    p : (not (eqb l.run x) ≡ true) × (none_of x ls ≡ true)
    p = (and-eq-true_iff (not (eqb l.run x)) (none_of x ls)).0 t

    at : ¬ In x (commits ls) → In x (l.run ∷ commits ls) → ⊥
    at n (inl e) = eqb-false l.run x (not-true (eqb l.run x) p.0) (sym e)
    at n (inr k) = n k

-- ---- run by run

commits-once : (ls : List Line) → all_end ls ≡ true → Distinct (commits ls)
unfolding all_end commits
commits-once [] t = tt
commits-once (l ∷ ls) t =
    let p = (and-eq-true_iff (not (is_commit l) || none_of l.run ls) (all_end ls)).0 t in
    by_bool (is_commit l)
    (λ c. rw c (commits-none l.run ls (rw c at p.0), commits-once ls p.1))
    (λ c. rw c (commits-once ls p.1))

one-commit : (x : ℕ) (ls : List Line) → all_end ls ≡ true → In x (commits ls) → commits (lines_in x ls) ≡ x ∷ []
unfolding all_end commits lines_in
one-commit x [] t h = absurd h
one-commit x (l ∷ ls) t h = by_bool (is_commit l)
    (λ c. at c (rw c at p.0) (one-commit x ls p.1) (rw c at h))
    (λ c. let e = one-commit x ls p.1 (rw c at h) in by_bool (eqb l.run x) (λ r. rw (r, c) e) (λ r. rw r e))
  where
    p : ((not (is_commit l) || none_of l.run ls) ≡ true) × (all_end ls ≡ true)
    p = (and-eq-true_iff (not (is_commit l) || none_of l.run ls) (all_end ls)).0 t

    at : is_commit l ≡ true → none_of l.run ls ≡ true → (In x (commits ls) → commits (lines_in x ls) ≡ x ∷ []) → In x (l.run ∷ commits ls) → commits (lines_in x (l ∷ ls)) ≡ x ∷ []
    at c n ih (inl e) =
        let none : lines_in x ls ≡ [] = none-lines x ls (subst (λ y. none_of y ls ≡ true) (sym e) n) in
        rw (eq-eqb l.run x (sym e), none, c) (ap (λ y. y ∷ []) (sym e))
    at c n ih (inr k) = rw (ne_eqb l.run x (λ e. commits-none x ls (subst (λ y. none_of y ls ≡ true) e n) k)) (ih k)

module _ (ls : List Line) (o : InOrder ls) where
  runs_none : (x : ℕ) (xs : List ℕ) → ¬ In x xs → none_of x (run_by_run xs ls) ≡ true
  unfolding run_by_run none_of
  runs_none x [] n = refl
  runs_none x (y ∷ xs) n = none_row x (lines_in y ls) (run_by_run xs ls) (lines_none x y ls (λ e. n (inl e))) (runs_none x xs (λ h. n (inr h)))

  runs-proper : (xs : List ℕ) → all_proper (run_by_run xs ls) ≡ true
  unfolding run_by_run all_proper
  runs-proper [] = refl
  runs-proper (x ∷ xs) = proper-row (lines_in x ls) (run_by_run xs ls) (rw (lines-kept x ls) (kept-proper (λ y. eqb y x) ls o.0)) (runs-proper xs)

  runs-end : (xs : List ℕ) → Distinct xs → ((x : ℕ) → In x xs → In x (commits ls)) → all_end (run_by_run xs ls) ≡ true
  unfolding run_by_run all_end
  runs-end [] d h = refl
  runs-end (x ∷ xs) d h =
      end_row (lines_in x ls) (run_by_run xs ls) (rw (lines-kept x ls) (kept-end (λ y. eqb y x) ls o.1)) (runs-end xs d.1 (λ y k. h y (inr k)))
      (λ y k. at y (subst (In y) (one-commit x ls o.1 (h x (inl refl))) k))
    where
      at : (y : ℕ) → In y (x ∷ []) → none_of y (run_by_run xs ls) ≡ true
      at y (inl e) = runs_none y xs (λ k. d.0 (subst (λ z. In z xs) e k))
      at y (inr k) = absurd k

  runs-commits : (xs : List ℕ) → ((x : ℕ) → In x xs → In x (commits ls)) → commits (run_by_run xs ls) ≡ xs
  unfolding run_by_run commits
  runs-commits [] h = refl
  runs-commits (x ∷ xs) h =
      commits-row (lines_in x ls) (run_by_run xs ls)
      ∙ ap (λ c. c ++ commits (run_by_run xs ls)) (one-commit x ls o.1 (h x (inl refl)))
      ∙ ap (λ c. x ∷ c) (runs-commits xs (λ y k. h y (inr k)))

  runs-lines : (x : ℕ) (xs : List ℕ) → Distinct xs → In x xs → lines_in x (run_by_run xs ls) ≡ lines_in x ls
  unfolding run_by_run
  runs-lines x [] d h = absurd h
  runs-lines x (y ∷ xs) d h = lines-row x (lines_in y ls) (run_by_run xs ls) ∙ at h (runs-lines x xs d.1)
    where
      own : lines_in x (lines_in x ls) ≡ lines_in x ls
      own = ap (lines_in x) (lines-kept x ls) ∙ kept-lines (λ z. eqb z x) x ls (eq-eqb x x refl)

      at : In x (y ∷ xs) → (In x xs → lines_in x (run_by_run xs ls) ≡ lines_in x ls) → lines_in x (lines_in y ls) ++ lines_in x (run_by_run xs ls) ≡ lines_in x ls
      at (inl e) ih =
          let none : lines_in x (run_by_run xs ls) ≡ [] = none-lines x (run_by_run xs ls) (runs_none x xs (λ k. d.0 (subst (λ z. In z xs) e k))) in
          rw (none, ← e, own) (append-nil (lines_in x ls))
      at (inr k) ih = rw (none-lines x (lines_in y ls) (lines_none x y ls (λ e. d.0 (subst (λ z. In z xs) e k)))) (ih k)

-- All lines of a run may be written down when it commits.
pub when-it-commits : (ls : List Line) → ¬ (judged ls ≡ 16) → judged (run_by_run (commits ls) ls) ≡ judged ls
when-it-commits ls n =
    let o = not_16 ls n in
    let d = commits-once ls o.1 in
    sym (same_runs ls (run_by_run (commits ls) ls) o (runs-proper ls o (commits ls), runs-end ls o (commits ls) d (λ x h. h))
    (record { order = sym (runs-commits ls o (commits ls) (λ x h. h)); runs = λ x h. sym (runs-lines ls o x (commits ls) d h) }))
