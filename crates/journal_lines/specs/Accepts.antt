-- Document 02's verdict in its own words: what 15, 16, 17 and acceptance mean of a journal's bytes.
use Rattle.std.specs.Prelude.{◌≡◌, refl, Bool, true, false, cond, not, ◌&&◌, ◌||◌, ◌⊎◌, ◌↔◌, ℕ, ◌*◌, ◌≤◌, eqb, leb, length}
use Rattle.std.proofs.Common.{sym, ◌∙◌, ap, subst, inl, inr, arith, eqb-true, eq-eqb, ne_eqb, le-leb}
use Rattle.std.proofs.Math.Bool.{and-eq-true_iff}
use Rattle.std.proofs.lemmas.Bool.{false≢true, eqb-false, not-true}
use mathlib.Core.List.{List, [], ◌∷◌, ◌++◌, map, nil≢cons, head-eq_of_cons-eq, tail-eq_of_cons-eq}
use Rattle.std.proofs.Math.Option.{Option, none, some, some-injective, none-ne-some}
use Rattle.serial.specs.Serial.{In, by_bool, Done, FitsAll, fitsall-run, run-fitsall}
use Rattle.serial.specs.Lists.{Each}
use Rattle.serial.specs.Model.{Pair, empty, read, write, insert, remove, locate}
use Rattle.serial.specs.Footprints.{store}
use Rattle.serial.specs.Codes.{by_code}
use Rattle.journal_reader.specs.declared.Record.{Record}
use Rattle.journal_reader.specs.Record.{records, record_at}
use Rattle.journal_lines.specs.Journal.{chain_from, Line, pair_of, line_of, listed, list_of, lines_of, whole, lines_after, lines, or_empty, said}
use Rattle.journal_lines.specs.Journal.{is_commit, proper_entry, proper_key, proper, all_proper, none_of, all_end}
use Rattle.journal_lines.specs.Journal.{stored_answer, feeds, of_run, committed_in, committed, Answered, answered?, judged, verdict_of}
use Rattle.journal_lines.specs.Tests.{Means, leb-means, both-mean}
use Rattle.journal_lines.specs.Walks.{Rest, lines_rest, whole_is, is_whole}
use Rattle.journal_lines.specs.Paths.{Follows, FinitePath, follows-once, chain-path, path-chain, path-unique, by-option}

-- ---- what the document says

-- 1 to 2,048 whole records; the main chain starts at 1, and it and the list chain of each locate on it are finite paths.
pub record Readable (bs : List ℕ) : Type 0 where
  pub many : ℕ
  pub bytes : length bs ≡ 32 * many
  pub least : 1 ≤ many
  pub most : many ≤ 2048
  pub main : List ℕ
  pub path : FinitePath bs 1 main
  pub lists : (i : ℕ) → In i main → (record_at bs i).code ≡ 5 → (is : List ℕ) × FinitePath bs (record_at bs i).list is

-- Refusal 8 is for other entries, refusal 9 for other keys.
abbrev pub EntryFits : ℕ → Type 0
EntryFits e = (1 ≤ e) × (e ≤ 1024)

abbrev pub KeyFits : ℕ → Type 0
KeyFits k = (1 ≤ k) × (k ≤ 4294967294)

-- The codes and the numbers that document 01 accepts. Refusal 10 is for a first key above the second.
pub data Fits (code entry first second : ℕ) : Type 0 where
  read_fits : code ≡ 1 → EntryFits entry → Fits code entry first second
  write_fits : code ≡ 2 → EntryFits entry → Fits code entry first second
  insert_fits : code ≡ 3 → EntryFits entry → KeyFits first → Fits code entry first second
  remove_fits : code ≡ 4 → EntryFits entry → KeyFits first → Fits code entry first second
  locate_fits : code ≡ 5 → KeyFits first → KeyFits second → first ≤ second → Fits code entry first second
  commit_fits : code ≡ 255 → Fits code entry first second

abbrev pub RecordFits : Record → Type 0
RecordFits r = Fits r.code r.entry r.first r.second

-- No record of these, in order, has the run of an earlier commit.
abbrev pub Ends : List ℕ → List ℕ → Type 0
Ends bs is = (before after : List ℕ) (i j : ℕ) → is ≡ before ++ (i ∷ after) → (record_at bs i).code ≡ 255 → In j after
    → ¬ ((record_at bs j).run ≡ (record_at bs i).run)

-- Each record of the main chain fits, and no run goes on after its commit.
pub record Orderly (bs : List ℕ) : Type 0 where
  pub readable : Readable bs
  pub fits : (i : ℕ) → In i readable.main → RecordFits (record_at bs i)
  pub ends : Ends bs readable.main

-- The committed runs, fed to the logical model whole in order of commit from an empty store, give every stored answer and list.
pub record Accepted (bs : List ℕ) : Type 0 where
  pub orderly : Orderly bs
  pub answered : Answered (committed (said bs))

-- ---- the lines

-- A line has the words of its record and, for a locate, the keys and entries of the records of its list chain, in order.
pub record SaysLine (bs : List ℕ) (i : ℕ) (l : Line) : Type 0 where
  pub words : l ≡ line_of (record_at bs i) l.pairs
  pub list : (record_at bs i).code ≡ 5 → (is : List ℕ) × FinitePath bs (record_at bs i).list is × (l.pairs ≡ map pair_of (map (record_at bs) is))
  pub no_list : ¬ ((record_at bs i).code ≡ 5) → l.pairs ≡ []

-- Only a locate has a list.
abbrev pub Listed : Line → Type 0
Listed l = ¬ (l.code ≡ 5) → l.pairs ≡ []

-- One line for each record, in order.
abbrev pub Says : List ℕ → List ℕ → List Line → Type 0
Says bs is ls = Each (SaysLine bs) is ls

-- ---- lines and paths

list-says : (bs : List ℕ) (i : ℕ) (ps : List Pair) → list_of bs (record_at bs i) ≡ some ps → SaysLine bs i (line_of (record_at bs i) ps)
unfolding list_of
list-says bs i ps e = go (eqb (record_at bs i).code 5) refl (chain_from bs (record_at bs i).list) (chain-path bs (record_at bs i).list) e
  where
    found : (rs : List Record) → map pair_of rs ≡ ps → (is : List ℕ) × FinitePath bs (record_at bs i).list is × (rs ≡ map (record_at bs) is)
        → (is : List ℕ) × FinitePath bs (record_at bs i).list is × (ps ≡ map pair_of (map (record_at bs) is))
    found rs e p = (p.0, p.1, sym e ∙ ap (map pair_of) p.2)

    go : (b : Bool) → eqb (record_at bs i).code 5 ≡ b → (o : Option (List Record))
        → ((rs : List Record) → o ≡ some rs → (is : List ℕ) × FinitePath bs (record_at bs i).list is × (rs ≡ map (record_at bs) is))
        → cond b (listed o) (some []) ≡ some ps → SaysLine bs i (line_of (record_at bs i) ps)
    go true t none f e = absurd (none-ne-some ps e)
    go true t (some rs) f e = record {
      words = refl;
      list = λ c. found rs (some-injective (map pair_of rs) ps e) (f rs refl);
      no_list = λ n. absurd (n (eqb-true (record_at bs i).code 5 t));
    }
    go false t o f e = record {
      words = refl;
      list = λ c. absurd (eqb-false (record_at bs i).code 5 t c);
      no_list = λ n. sym (some-injective [] ps e);
    }

says-list : (bs : List ℕ) (i : ℕ) (l : Line) → SaysLine bs i l → list_of bs (record_at bs i) ≡ some l.pairs
unfolding list_of
says-list bs i l s = by_bool (eqb (record_at bs i).code 5)
    (λ t. rw t (there (s.list (eqb-true (record_at bs i).code 5 t))))
    (λ t. rw (t, s.no_list (eqb-false (record_at bs i).code 5 t)) refl)
  where
    there : (is : List ℕ) × FinitePath bs (record_at bs i).list is × (l.pairs ≡ map pair_of (map (record_at bs) is))
        → listed (chain_from bs (record_at bs i).list) ≡ some l.pairs
    there p = rw (path-chain bs (record_at bs i).list p.0 p.1, p.2) refl

says-lines-of : (bs is : List ℕ) (ls : List Line) → Says bs is ls → lines_of bs (map (record_at bs) is) ≡ some ls
unfolding lines_of
says-lines-of bs [] [] s = refl
says-lines-of bs [] (l ∷ ls) s = absurd s
says-lines-of bs (i ∷ is) [] s = absurd s
says-lines-of bs (i ∷ is) (l ∷ ls) s =
    rw (says-list bs i l s.0, says-lines-of bs is ls s.1) (ap (λ m. some (m ∷ ls)) (sym s.0.words))

rest-says : (bs : List ℕ) (at : ℕ) (ls : List Line) → Rest bs at ls → (is : List ℕ) × Follows bs at is × Says bs is ls
rest-says bs at [] r = ([], r, tt)
rest-says bs at (l ∷ ls) r =
    let t = rest-says bs (record_at bs at).next ls r.4 in
    (at ∷ t.0, (refl, r.0, r.1, t.1), (subst (SaysLine bs at) (sym r.3) (list-says bs at l.pairs r.2), t.2))

lines-whole : (bs : List ℕ) (ls : List Line) → lines bs ≡ some ls → whole bs ≡ true
unfolding lines
lines-whole bs ls e = by_bool (whole bs) (λ t. t) λ t.
    absurd (none-ne-some ls (subst (λ b. cond b (lines_after bs (chain_from bs 1)) none ≡ some ls) t e))

-- The lines of a journal that can be read say its main chain; and what its main chain says is its lines.
pub lines-say : (bs : List ℕ) (ls : List Line) → lines bs ≡ some ls → (is : List ℕ) × FinitePath bs 1 is × Says bs is ls
lines-say bs ls e =
    let t = rest-says bs 1 ls (lines_rest bs ls e) in
    (t.0, record { follows = t.1; once = follows-once bs 1 t.0 t.1 }, t.2)

pub say-lines : (bs is : List ℕ) (ls : List Line) → whole bs ≡ true → FinitePath bs 1 is → Says bs is ls → lines bs ≡ some ls
unfolding lines
say-lines bs is ls w p s = rw (w, path-chain bs 1 is p) (says-lines-of bs is ls s)

-- ---- readable

some-lines : (bs is : List ℕ) → ((i : ℕ) → In i is → (record_at bs i).code ≡ 5 → (js : List ℕ) × FinitePath bs (record_at bs i).list js)
    → (ls : List Line) × Says bs is ls
some-lines bs [] h = ([], tt)
some-lines bs (i ∷ is) h = go (eqb (record_at bs i).code 5) refl (some-lines bs is (λ j k. h j (inr k)))
  where
    put : (l : Line) → SaysLine bs i l → (ls : List Line) × Says bs is ls → (ls : List Line) × Says bs (i ∷ is) ls
    put l s t = (l ∷ t.0, (s, t.1))

    found : (js : List ℕ) × FinitePath bs (record_at bs i).list js → (record_at bs i).code ≡ 5 → (l : Line) × SaysLine bs i l
    found p c = (
      line_of (record_at bs i) (map pair_of (map (record_at bs) p.0)),
      record { words = refl; list = λ d. (p.0, p.1, refl); no_list = λ n. absurd (n c) },
    )

    go : (b : Bool) → eqb (record_at bs i).code 5 ≡ b → (ls : List Line) × Says bs is ls → (ls : List Line) × Says bs (i ∷ is) ls
    go true t s =
        let c = eqb-true (record_at bs i).code 5 t in
        let l = found (h i (inl refl) c) c in
        put l.0 l.1 s
    go false t s = put (line_of (record_at bs i) []) (record { words = refl; list = λ d. absurd (eqb-false (record_at bs i).code 5 t d); no_list = λ n. refl }) s

says-paths : (bs is : List ℕ) (ls : List Line) → Says bs is ls → (i : ℕ) → In i is → (record_at bs i).code ≡ 5 → (js : List ℕ) × FinitePath bs (record_at bs i).list js
says-paths bs [] ls s i h c = absurd h
says-paths bs (k ∷ is) [] s i h c = absurd s
says-paths bs (k ∷ is) (l ∷ ls) s i (inl e) c =
    let p = s.0.list (subst (λ x. (record_at bs x).code ≡ 5) e c) in
    subst (λ x. (js : List ℕ) × FinitePath bs (record_at bs x).list js) (sym e) (p.0, p.1)
says-paths bs (k ∷ is) (l ∷ ls) s i (inr h) c = says-paths bs is ls s.1 i h c

pub lines-readable : (bs : List ℕ) (ls : List Line) → lines bs ≡ some ls → Readable bs
lines-readable bs ls e =
    let t = lines-say bs ls e in
    let w = whole_is bs (lines-whole bs ls e) in
    record {
      many = records bs;
      bytes = omega (arith, w.0);
      least = w.1;
      most = w.2;
      main = t.0;
      path = t.1;
      lists = says-paths bs t.0 ls t.2;
    }

pub readable-lines : (bs : List ℕ) → Readable bs → (ls : List Line) × (lines bs ≡ some ls)
readable-lines bs r =
    let s = some-lines bs r.main r.lists in
    (s.0, say-lines bs r.main s.0 (is_whole bs r.many r.bytes r.least r.most) r.path s.1)

-- What a readable journal says.
pub said-is : (bs : List ℕ) (r : Readable bs) → Says bs r.main (said bs)
said-is bs r =
    let s = readable-lines bs r in
    let t = lines-say bs s.0 s.1 in
    let same = path-unique bs 1 t.0 r.main t.1.follows r.path.follows in
    rw s.1 (subst (λ is. Says bs is s.0) same t.2)

-- ---- orderly

-- The tests of numbers.
pub entry-fits : (e : ℕ) → Means (proper_entry e) (EntryFits e)
entry-fits e = both-mean (leb-means 1 e) (leb-means e 1024)

pub key_fits : (k : ℕ) → Means (proper_key k) (KeyFits k)
key_fits k = both-mean (leb-means 1 k) (leb-means k 4294967294)

pub proper-fits : (l : Line) → proper l ≡ true → Fits l.code l.entry l.first l.second
unfolding proper
proper-fits l t = by_code l.code
    (λ c. read_fits c ((entry-fits l.entry).0 (rw c at t)))
    (λ c. write_fits c ((entry-fits l.entry).0 (rw c at t)))
    (λ c. let p = change.0 (rw c at t) in insert_fits c p.0 p.1)
    (λ c. let p = change.0 (rw c at t) in remove_fits c p.0 p.1)
    (λ c. let p = keys.0 (rw c at t) in locate_fits c p.0 p.1.0 p.1.1)
    (λ n₁ n₂ n₃ n₄ n₅. commit_fits (eqb-true l.code 255 (rw (n₁, n₂, n₃, n₄, n₅) at t)))
  where
    change : Means (proper_entry l.entry && proper_key l.first) (EntryFits l.entry × KeyFits l.first)
    change = both-mean (entry-fits l.entry) (key_fits l.first)

    keys : Means (proper_key l.first && (proper_key l.second && leb l.first l.second)) (KeyFits l.first × (KeyFits l.second × (l.first ≤ l.second)))
    keys = both-mean (key_fits l.first) (both-mean (key_fits l.second) (leb-means l.first l.second))

pub fits-proper : (l : Line) → Fits l.code l.entry l.first l.second → proper l ≡ true
unfolding proper
fits-proper l (read_fits c e) = rw c ((entry-fits l.entry).1 e)
fits-proper l (write_fits c e) = rw c ((entry-fits l.entry).1 e)
fits-proper l (insert_fits c e k) = rw (c, (entry-fits l.entry).1 e) ((key_fits l.first).1 k)
fits-proper l (remove_fits c e k) = rw (c, (entry-fits l.entry).1 e) ((key_fits l.first).1 k)
fits-proper l (locate_fits c h k o) = rw (c, (key_fits l.first).1 h, (key_fits l.second).1 k) (le-leb l.first l.second o)
fits-proper l (commit_fits c) = rw c refl

all-proper-fit : (bs is : List ℕ) (ls : List Line) → Says bs is ls → all_proper ls ≡ true → (i : ℕ) → In i is → RecordFits (record_at bs i)
unfolding all_proper
all-proper-fit bs [] ls s t i h = absurd h
all-proper-fit bs (k ∷ is) [] s t i h = absurd s
all-proper-fit bs (k ∷ is) (l ∷ ls) s t i (inl e) =
    subst (λ x. RecordFits (record_at bs x)) (sym e)
    (subst (λ m. Fits m.code m.entry m.first m.second) s.0.words (proper-fits l ((and-eq-true_iff (proper l) (all_proper ls)).0 t).0))
all-proper-fit bs (k ∷ is) (l ∷ ls) s t i (inr h) = all-proper-fit bs is ls s.1 ((and-eq-true_iff (proper l) (all_proper ls)).0 t).1 i h

fit-all-proper : (bs is : List ℕ) (ls : List Line) → Says bs is ls → ((i : ℕ) → In i is → RecordFits (record_at bs i)) → all_proper ls ≡ true
unfolding all_proper
fit-all-proper bs [] [] s f = refl
fit-all-proper bs [] (l ∷ ls) s f = absurd s
fit-all-proper bs (i ∷ is) [] s f = absurd s
fit-all-proper bs (i ∷ is) (l ∷ ls) s f =
    let fits : Fits l.code l.entry l.first l.second
    = subst (λ m. Fits m.code m.entry m.first m.second) (sym s.0.words) (f i (inl refl)) in
    rw (fits-proper l fits, fit-all-proper bs is ls s.1 (λ j h. f j (inr h))) refl

none-of-run : (bs is : List ℕ) (ls : List Line) (x : ℕ) → Says bs is ls → none_of x ls ≡ true → (j : ℕ) → In j is → ¬ ((record_at bs j).run ≡ x)
unfolding none_of
none-of-run bs [] ls x s t j h e = h
none-of-run bs (k ∷ is) [] x s t j h e = s
none-of-run bs (k ∷ is) (l ∷ ls) x s t j (inl q) e =
    eqb-false l.run x (not-true (eqb l.run x) ((and-eq-true_iff (not (eqb l.run x)) (none_of x ls)).0 t).0)
    (ap (λ m. m.run) s.0.words ∙ ap (λ y. (record_at bs y).run) (sym q) ∙ e)
none-of-run bs (k ∷ is) (l ∷ ls) x s t j (inr h) e = none-of-run bs is ls x s.1 ((and-eq-true_iff (not (eqb l.run x)) (none_of x ls)).0 t).1 j h e

run-none-of : (bs is : List ℕ) (ls : List Line) (x : ℕ) → Says bs is ls → ((j : ℕ) → In j is → ¬ ((record_at bs j).run ≡ x)) → none_of x ls ≡ true
unfolding none_of
run-none-of bs [] [] x s f = refl
run-none-of bs [] (l ∷ ls) x s f = absurd s
run-none-of bs (i ∷ is) [] x s f = absurd s
run-none-of bs (i ∷ is) (l ∷ ls) x s f =
    rw (ne_eqb l.run x (λ e. f i (inl refl) (sym (ap (λ m. m.run) s.0.words) ∙ e)), run-none-of bs is ls x s.1 (λ j h. f j (inr h))) refl

all-end-ends : (bs is : List ℕ) (ls : List Line) → Says bs is ls → all_end ls ≡ true → Ends bs is
unfolding all_end
all-end-ends bs [] ls s t [] after i j e c h q = nil≢cons e
all-end-ends bs [] ls s t (b ∷ before) after i j e c h q = nil≢cons e
all-end-ends bs (k ∷ is) [] s t before after i j e c h q = s
all-end-ends bs (k ∷ is) (l ∷ ls) s t [] after i j e c h q =
    let here : k ≡ i = head-eq_of_cons-eq e in
    let code : l.code ≡ 255 = ap (λ m. m.code) s.0.words ∙ ap (λ y. (record_at bs y).code) here ∙ c in
    let run : l.run ≡ (record_at bs i).run = ap (λ m. m.run) s.0.words ∙ ap (λ y. (record_at bs y).run) here in
    let alone : none_of l.run ls ≡ true = after-commit (eq-eqb l.code 255 code) ((and-eq-true_iff (not (is_commit l) || none_of l.run ls) (all_end ls)).0 t).0 in
    none-of-run bs is ls l.run s.1 alone j (subst (In j) (sym (tail-eq_of_cons-eq e)) h) (q ∙ sym run)
  where
    after-commit : is_commit l ≡ true → (not (is_commit l) || none_of l.run ls) ≡ true → none_of l.run ls ≡ true
    after-commit c t = subst (λ b. (not b || none_of l.run ls) ≡ true) c t
all-end-ends bs (k ∷ is) (l ∷ ls) s t (b ∷ before) after i j e c h q =
    all-end-ends bs is ls s.1 ((and-eq-true_iff (not (is_commit l) || none_of l.run ls) (all_end ls)).0 t).1 before after i j (tail-eq_of_cons-eq e) c h q

ends-all-end : (bs is : List ℕ) (ls : List Line) → Says bs is ls → Ends bs is → all_end ls ≡ true
unfolding all_end
ends-all-end bs [] [] s f = refl
ends-all-end bs [] (l ∷ ls) s f = absurd s
ends-all-end bs (i ∷ is) [] s f = absurd s
ends-all-end bs (i ∷ is) (l ∷ ls) s f =
    rw (here, ends-all-end bs is ls s.1 (λ before after j k e. f (i ∷ before) after j k (ap (λ t. i ∷ t) e))) refl
  where
    run : l.run ≡ (record_at bs i).run
    run = ap (λ m. m.run) s.0.words

    alone : is_commit l ≡ true → none_of l.run ls ≡ true
    alone c = run-none-of bs is ls l.run s.1 λ j h e.
        f [] is i j refl (sym (ap (λ m. m.code) s.0.words) ∙ eqb-true l.code 255 c) h (e ∙ run)

    here : (not (is_commit l) || none_of l.run ls) ≡ true
    here = by_bool (is_commit l) (λ c. rw (c, alone c) refl) (λ c. rw c refl)

-- ---- the verdict

-- What the tests on the lines say of the bytes.
pub order-means : (bs is : List ℕ) (ls : List Line) → Says bs is ls
    → ((all_proper ls && all_end ls) ≡ true) ↔ (((i : ℕ) → In i is → RecordFits (record_at bs i)) × Ends bs is)
order-means bs is ls s = (
  λ t. (
    all-proper-fit bs is ls s ((and-eq-true_iff (all_proper ls) (all_end ls)).0 t).0,
    all-end-ends bs is ls s ((and-eq-true_iff (all_proper ls) (all_end ls)).0 t).1,
  ),
  λ p. rw (fit-all-proper bs is ls s p.0, ends-all-end bs is ls s p.1) refl,
)

-- One of the four, each with what it means.
pub data Verdict (bs : List ℕ) : Type 0 where
  says_15 : verdict_of bs ≡ 15 → ¬ Readable bs → Verdict bs
  says_16 : verdict_of bs ≡ 16 → Readable bs → ¬ Orderly bs → Verdict bs
  says_17 : verdict_of bs ≡ 17 → Orderly bs → ¬ Answered (committed (said bs)) → Verdict bs
  says_0 : verdict_of bs ≡ 0 → Orderly bs → Answered (committed (said bs)) → Verdict bs

orderly-lines : (bs : List ℕ) → Orderly bs → (all_proper (said bs) && all_end (said bs)) ≡ true
orderly-lines bs o = (order-means bs o.readable.main (said bs) (said-is bs o.readable)).1 (o.fits, o.ends)

lines-orderly : (bs : List ℕ) → Readable bs → (all_proper (said bs) && all_end (said bs)) ≡ true → Orderly bs
lines-orderly bs r t =
    let p = (order-means bs r.main (said bs) (said-is bs r)).0 t in
    record { readable = r; fits = p.0; ends = p.1 }

judge : (bs : List ℕ) → Readable bs → verdict_of bs ≡ judged (said bs) → Verdict bs
unfolding judged
judge bs r v = by_bool (all_proper (said bs) && all_end (said bs))
    (λ t. go t (answered? (committed (said bs))) refl)
    (λ t. says_16 (v ∙ rw t refl) r (λ o. false≢true (sym t ∙ orderly-lines bs o)))
  where
    go : (all_proper (said bs) && all_end (said bs)) ≡ true → (d : Dec (Answered (committed (said bs)))) → answered? (committed (said bs)) ≡ d → Verdict bs
    go t (yes y) e = says_0 (v ∙ rw (t, e) refl) (lines-orderly bs r t) y
    go t (no n) e = says_17 (v ∙ rw (t, e) refl) (lines-orderly bs r t) n

pub verdict-is : (bs : List ℕ) → Verdict bs
unfolding verdict_of
verdict-is bs = by-option (lines bs)
    (λ e. says_15 (rw e refl) (λ r. let s = readable-lines bs r in none-ne-some s.0 (sym e ∙ s.1)))
    (λ ls e. judge bs (lines-readable bs ls e) (rw e refl))

-- Past 15 exactly if the journal can be read.
pub not-15 : (bs : List ℕ) → (¬ (verdict_of bs ≡ 15)) ↔ Readable bs
not-15 bs = go (verdict-is bs)
  where
    go : Verdict bs → (¬ (verdict_of bs ≡ 15)) ↔ Readable bs
    go (says_15 v n) = (λ m. absurd (m v), λ r. absurd (n r))
    go (says_16 v r n) = (λ m. r, λ s e. omega arith)
    go (says_17 v o n) = (λ m. o.readable, λ s e. omega arith)
    go (says_0 v o a) = (λ m. o.readable, λ s e. omega arith)

-- Past 16 exactly if it is orderly.
pub past-16 : (bs : List ℕ) → ((verdict_of bs ≡ 0) ⊎ (verdict_of bs ≡ 17)) ↔ Orderly bs
past-16 bs = go (verdict-is bs)
  where
    neither : (n : ℕ) → verdict_of bs ≡ n → ¬ (n ≡ 0) → ¬ (n ≡ 17) → (verdict_of bs ≡ 0) ⊎ (verdict_of bs ≡ 17) → Orderly bs
    neither n v a b (inl e) = absurd (a (sym v ∙ e))
    neither n v a b (inr e) = absurd (b (sym v ∙ e))

    go : Verdict bs → ((verdict_of bs ≡ 0) ⊎ (verdict_of bs ≡ 17)) ↔ Orderly bs
    go (says_15 v n) = (neither 15 v (omega arith) (omega arith), λ o. absurd (n o.readable))
    go (says_16 v r n) = (neither 16 v (omega arith) (omega arith), λ o. absurd (n o))
    go (says_17 v o n) = (λ m. o, λ s. inr v)
    go (says_0 v o a) = (λ m. o, λ s. inl v)

-- Accepted exactly if it is so in the document's words.
pub accepts-exactly : (bs : List ℕ) → (verdict_of bs ≡ 0) ↔ Accepted bs
accepts-exactly bs = go (verdict-is bs)
  where
    go : Verdict bs → (verdict_of bs ≡ 0) ↔ Accepted bs
    go (says_15 v n) = (λ e. absurd (omega arith), λ a. absurd (n a.orderly.readable))
    go (says_16 v r n) = (λ e. absurd (omega arith), λ a. absurd (n a.orderly))
    go (says_17 v o n) = (λ e. absurd (omega arith), λ a. absurd (n a.answered))
    go (says_0 v o a) = (λ e. record { orderly = o; answered = a }, λ b. v)

pub verdicts : (bs : List ℕ) → (verdict_of bs ≡ 0) ⊎ (verdict_of bs ≡ 15) ⊎ (verdict_of bs ≡ 16) ⊎ (verdict_of bs ≡ 17)
verdicts bs = go (verdict-is bs)
  where
    go : Verdict bs → (verdict_of bs ≡ 0) ⊎ (verdict_of bs ≡ 15) ⊎ (verdict_of bs ≡ 16) ⊎ (verdict_of bs ≡ 17)
    go (says_15 v n) = inr (inl v)
    go (says_16 v r n) = inr (inr (inl v))
    go (says_17 v o n) = inr (inr (inr v))
    go (says_0 v o a) = inl v

-- 15 comes before 16, and 16 before 17.
pub is-15 : (bs : List ℕ) → (verdict_of bs ≡ 15) ↔ (¬ Readable bs)
is-15 bs = go (verdict-is bs)
  where
    go : Verdict bs → (verdict_of bs ≡ 15) ↔ (¬ Readable bs)
    go (says_15 v n) = (λ e. n, λ m. v)
    go (says_16 v r n) = (λ e. absurd (omega arith), λ m. absurd (m r))
    go (says_17 v o n) = (λ e. absurd (omega arith), λ m. absurd (m o.readable))
    go (says_0 v o a) = (λ e. absurd (omega arith), λ m. absurd (m o.readable))

pub is-16 : (bs : List ℕ) → (verdict_of bs ≡ 16) ↔ (Readable bs × (¬ Orderly bs))
is-16 bs = go (verdict-is bs)
  where
    go : Verdict bs → (verdict_of bs ≡ 16) ↔ (Readable bs × (¬ Orderly bs))
    go (says_15 v n) = (λ e. absurd (omega arith), λ m. absurd (n m.0))
    go (says_16 v r n) = (λ e. (r, n), λ m. v)
    go (says_17 v o n) = (λ e. absurd (omega arith), λ m. absurd (m.1 o))
    go (says_0 v o a) = (λ e. absurd (omega arith), λ m. absurd (m.1 o))

pub is-17 : (bs : List ℕ) → (verdict_of bs ≡ 17) ↔ (Orderly bs × (¬ Accepted bs))
is-17 bs = go (verdict-is bs)
  where
    go : Verdict bs → (verdict_of bs ≡ 17) ↔ (Orderly bs × (¬ Accepted bs))
    go (says_15 v n) = (λ e. absurd (omega arith), λ m. absurd (n m.0.readable))
    go (says_16 v r n) = (λ e. absurd (omega arith), λ m. absurd (n m.0))
    go (says_17 v o n) = (λ e. (o, λ a. n a.answered), λ m. v)
    go (says_0 v o a) = (λ e. absurd (omega arith), λ m. absurd (m.1 (record { orderly = o; answered = a })))

-- ---- the committed runs

-- The runs that commit, in order of commit.
unfoldable pub commits : List Line → List ℕ
commits [] = []
commits (l ∷ ls) = cond (is_commit l) (l.run ∷ commits ls) (commits ls)

-- The lines of a run, in order.
unfoldable pub lines_in : ℕ → List Line → List Line
lines_in x [] = []
lines_in x (l ∷ ls) = cond (eqb l.run x) (l ∷ lines_in x ls) (lines_in x ls)

-- The requests of lines, each with its stored answer, in order.
unfoldable pub fed_by : List Line → List (Done store)
fed_by [] = []
fed_by (l ∷ ls) = feeds l ++ fed_by ls

pub of-run-is : (x : ℕ) (ls : List Line) → of_run x ls ≡ fed_by (lines_in x ls)
unfolding of_run lines_in fed_by
of-run-is x [] = refl
of-run-is x (l ∷ ls) = by_bool (eqb l.run x) (λ t. rw (t, of-run-is x ls) refl) (λ t. rw (t, of-run-is x ls) refl)

committed-in-is : (all ls : List Line) → committed_in all ls ≡ map (λ x. fed_by (lines_in x all)) (commits ls)
unfolding committed_in commits
committed-in-is all [] = refl
committed-in-is all (l ∷ ls) = by_bool (is_commit l)
    (λ t. rw (t, of-run-is l.run all, committed-in-is all ls) refl)
    (λ t. rw (t, committed-in-is all ls) refl)

-- In order of commit, each run that commits, whole: all its requests in order, with their stored answers.
pub committed-is : (ls : List Line) → committed ls ≡ map (λ x. fed_by (lines_in x ls)) (commits ls)
committed-is ls = committed-in-is ls ls

-- A record's request, by its code, and the answer and list that it stores.
pub feeds-read : (l : Line) → l.code ≡ 1 → feeds l ≡ (read l.entry, stored_answer l) ∷ []
feeds-read l c = rw c refl

pub feeds-write : (l : Line) → l.code ≡ 2 → feeds l ≡ (write l.entry l.first, stored_answer l) ∷ []
feeds-write l c = rw c refl

pub feeds-insert : (l : Line) → l.code ≡ 3 → feeds l ≡ (insert l.entry l.first, stored_answer l) ∷ []
feeds-insert l c = rw c refl

pub feeds-remove : (l : Line) → l.code ≡ 4 → feeds l ≡ (remove l.entry l.first, stored_answer l) ∷ []
feeds-remove l c = rw c refl

pub feeds-locate : (l : Line) → l.code ≡ 5 → feeds l ≡ (locate l.first l.second, stored_answer l) ∷ []
feeds-locate l c = rw c refl

pub feeds-commit : (l : Line) → l.code ≡ 255 → feeds l ≡ []
feeds-commit l c = rw c refl

-- Every stored answer is what the model answers when its turn comes.
pub answered-each : (rs : List (List (Done store))) → Answered rs ↔ FitsAll store rs empty
answered-each rs = (run-fitsall store rs empty, fitsall-run store rs empty)

-- ---- acceptance, with nothing left to look up

-- Accepted exactly if it is orderly and, of the lines that its main chain says, the runs that commit, in order of commit, each with all its requests in order,
-- have the answers and lists of the logical model that is fed them from empty.
pub accepts-in-words : (bs : List ℕ) → (verdict_of bs ≡ 0)
    ↔ ((o : Orderly bs) × ((ls : List Line) → Says bs o.readable.main ls → Answered (map (λ x. fed_by (lines_in x ls)) (commits ls))))
accepts-in-words bs = (λ e. there ((accepts-exactly bs).0 e), λ p. (accepts-exactly bs).1 (back p.0 p.1))
  where
    there : Accepted bs → (o : Orderly bs) × ((ls : List Line) → Says bs o.readable.main ls → Answered (map (λ x. fed_by (lines_in x ls)) (commits ls)))
    there a = (
      a.orderly,
      λ ls s.
          let r = a.orderly.readable in
          let e = say-lines bs r.main ls (is_whole bs r.many r.bytes r.least r.most) r.path s in
          subst Answered (ap (λ o. committed (or_empty o)) e ∙ committed-is ls) a.answered,
    )

    back : (o : Orderly bs) → ((ls : List Line) → Says bs o.readable.main ls → Answered (map (λ x. fed_by (lines_in x ls)) (commits ls))) → Accepted bs
    back o f = record { orderly = o; answered = subst Answered (sym (committed-is (said bs))) (f (said bs) (said-is bs o.readable)) }
