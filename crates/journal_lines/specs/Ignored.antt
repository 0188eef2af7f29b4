-- Lines that agree in the numbers that their codes use are judged alike.
use Rattle.std.specs.Prelude.{◌≡◌, refl, cond, ◌&&◌, List, [], ◌∷◌, ◌++◌, map, ℕ, ◌≤◌, eqb}
use Rattle.std.proofs.Common.{sym, ◌∙◌, ap, subst, arith, eqb-true}
use Rattle.std.proofs.Math.Option.{some}
use Rattle.std.proofs.lemmas.Bool.{eqb-false}
use Rattle.serial.specs.Serial.{pick, by_bool}
use Rattle.serial.specs.Lists.{All, Each}
use Rattle.serial.specs.Codes.{by_code}
use Rattle.journal_reader.specs.Record.{record_at}
use Rattle.journal_lines.specs.Journal.{Line, pair_of, line_of, lines, proper, all_proper, none_of, all_end, feeds, of_run, committed_in, committed, answered?, judged, verdict_of}
use Rattle.journal_lines.specs.Paths.{FinitePath}
use Rattle.journal_lines.specs.Accepts.{Readable, Listed, SaysLine, Says, lines-say, readable-lines, said-is}

-- Two lines have the same run and code, and the same numbers where their code uses them: entry at 1 to 4, first at 2 to 5, second at 5, answer at 1 to 5, and the list at 5.
pub record Alike (l m : Line) : Type 0 where
  pub run : l.run ≡ m.run
  pub code : l.code ≡ m.code
  pub entry : 1 ≤ l.code → l.code ≤ 4 → l.entry ≡ m.entry
  pub first : 2 ≤ l.code → l.code ≤ 5 → l.first ≡ m.first
  pub second : l.code ≡ 5 → l.second ≡ m.second
  pub answer : 1 ≤ l.code → l.code ≤ 5 → l.answer ≡ m.answer
  pub pairs : l.code ≡ 5 → l.pairs ≡ m.pairs

abbrev pub AllAlike : List Line → List Line → Type 0
AllAlike ls ms = Each Alike ls ms

-- ---- lines

proper-alike : (l m : Line) → Alike l m → proper l ≡ proper m
unfolding proper
proper-alike l m a = by_code l.code
    (λ c. rw (← a.code, c, a.entry (omega arith) (omega arith)) refl)
    (λ c. rw (← a.code, c, a.entry (omega arith) (omega arith)) refl)
    (λ c. rw (← a.code, c, a.entry (omega arith) (omega arith), a.first (omega arith) (omega arith)) refl)
    (λ c. rw (← a.code, c, a.entry (omega arith) (omega arith), a.first (omega arith) (omega arith)) refl)
    (λ c. rw (← a.code, c, a.first (omega arith) (omega arith), a.second c) refl)
    (λ e₁ e₂ e₃ e₄ e₅. rw (← a.code, e₁, e₂, e₃, e₄, e₅) refl)

feeds-alike : (l m : Line) → Listed l → Listed m → Alike l m → feeds l ≡ feeds m
feeds-alike l m f g a = by_code l.code
    (λ c. rw (← a.code, c, pairs, a.answer (omega arith) (omega arith), a.entry (omega arith) (omega arith)) refl)
    (λ c. rw (← a.code, c, pairs, a.answer (omega arith) (omega arith), a.entry (omega arith) (omega arith), a.first (omega arith) (omega arith)) refl)
    (λ c. rw (← a.code, c, pairs, a.answer (omega arith) (omega arith), a.entry (omega arith) (omega arith), a.first (omega arith) (omega arith)) refl)
    (λ c. rw (← a.code, c, pairs, a.answer (omega arith) (omega arith), a.entry (omega arith) (omega arith), a.first (omega arith) (omega arith)) refl)
    (λ c. rw (← a.code, c, pairs, a.answer (omega arith) (omega arith), a.first (omega arith) (omega arith), a.second c) refl)
    (λ e₁ e₂ e₃ e₄ e₅. rw (← a.code, e₁, e₂, e₃, e₄, e₅) refl)
  where
    pairs : l.pairs ≡ m.pairs
    pairs = by_bool (eqb l.code 5)
        (λ t. a.pairs (eqb-true l.code 5 t))
        (λ t. f (eqb-false l.code 5 t) ∙ sym (g (λ e. eqb-false l.code 5 t (a.code ∙ e))))

all-proper-alike : (ls ms : List Line) → AllAlike ls ms → all_proper ls ≡ all_proper ms
unfolding all_proper
all-proper-alike [] [] a = refl
all-proper-alike [] (m ∷ ms) a = absurd a
all-proper-alike (l ∷ ls) [] a = absurd a
all-proper-alike (l ∷ ls) (m ∷ ms) a = rw (proper-alike l m a.0, all-proper-alike ls ms a.1) refl

none-of-alike : (x : ℕ) (ls ms : List Line) → AllAlike ls ms → none_of x ls ≡ none_of x ms
unfolding none_of
none-of-alike x [] [] a = refl
none-of-alike x [] (m ∷ ms) a = absurd a
none-of-alike x (l ∷ ls) [] a = absurd a
none-of-alike x (l ∷ ls) (m ∷ ms) a = rw (a.0.run, none-of-alike x ls ms a.1) refl

all-end-alike : (ls ms : List Line) → AllAlike ls ms → all_end ls ≡ all_end ms
unfolding all_end
all-end-alike [] [] a = refl
all-end-alike [] (m ∷ ms) a = absurd a
all-end-alike (l ∷ ls) [] a = absurd a
all-end-alike (l ∷ ls) (m ∷ ms) a = rw (a.0.run, a.0.code, none-of-alike m.run ls ms a.1, all-end-alike ls ms a.1) refl

of-run-alike : (x : ℕ) (ls ms : List Line) → All Listed ls → All Listed ms → AllAlike ls ms → of_run x ls ≡ of_run x ms
unfolding of_run
of-run-alike x [] [] f g a = refl
of-run-alike x [] (m ∷ ms) f g a = absurd a
of-run-alike x (l ∷ ls) [] f g a = absurd a
of-run-alike x (l ∷ ls) (m ∷ ms) f g a =
    ap (λ r. cond (eqb r x) (feeds l ++ of_run x ls) (of_run x ls)) a.0.run
    ∙ ap (λ d. cond (eqb m.run x) (d ++ of_run x ls) (of_run x ls)) (feeds-alike l m f.0 g.0 a.0)
    ∙ ap (λ o. cond (eqb m.run x) (feeds m ++ o) o) (of-run-alike x ls ms f.1 g.1 a.1)

committed-alike : (all alls ls ms : List Line) → ((x : ℕ) → of_run x all ≡ of_run x alls) → AllAlike ls ms → committed_in all ls ≡ committed_in alls ms
unfolding committed_in
committed-alike all alls [] [] h a = refl
committed-alike all alls [] (m ∷ ms) h a = absurd a
committed-alike all alls (l ∷ ls) [] h a = absurd a
committed-alike all alls (l ∷ ls) (m ∷ ms) h a = rw (a.0.code, a.0.run, h m.run, committed-alike all alls ls ms h a.1) refl

-- Lines that are alike are judged alike.
pub judged-alike : (ls ms : List Line) → All Listed ls → All Listed ms → AllAlike ls ms → judged ls ≡ judged ms
unfolding judged
judged-alike ls ms f g a =
    let c : committed ls ≡ committed ms = committed-alike ls ms ls ms (λ x. of-run-alike x ls ms f g a) a in
    rw (all-proper-alike ls ms a, all-end-alike ls ms a) (ap (λ d. cond (all_proper ms && all_end ms) (pick (answered? d) 0 17) 16) c)

-- ---- journals

says-listing : (bs is : List ℕ) (ls : List Line) → Says bs is ls → All Listed ls
says-listing bs [] [] s = tt
says-listing bs [] (l ∷ ls) s = absurd s
says-listing bs (i ∷ is) [] s = absurd s
says-listing bs (i ∷ is) (l ∷ ls) s = (λ n. s.0.no_list (λ c. n (ap (λ m. m.code) s.0.words ∙ c)), says-listing bs is ls s.1)

lines-listing : (bs : List ℕ) (ls : List Line) → lines bs ≡ some ls → All Listed ls
lines-listing bs ls e =
    let t = lines-say bs ls e in
    says-listing bs t.0 ls t.2

-- Two journals that say lines alike have one verdict.
pub alike-verdict : (bs cs : List ℕ) (ls ms : List Line) → lines bs ≡ some ls → lines cs ≡ some ms → AllAlike ls ms → verdict_of bs ≡ verdict_of cs
unfolding verdict_of
alike-verdict bs cs ls ms e f a = rw (e, f) (judged-alike ls ms (lines-listing bs ls e) (lines-listing cs ms f) a)

-- Record i of one journal and record j of another, on main chains, agree in what is looked at.
pub record SameLine (bs cs : List ℕ) (i j : ℕ) : Type 0 where
  pub numbers : Alike (line_of (record_at bs i) []) (line_of (record_at cs j) [])
  pub lists : (record_at bs i).code ≡ 5 → (is js : List ℕ) → FinitePath bs (record_at bs i).list is → FinitePath cs (record_at cs j).list js
      → map pair_of (map (record_at bs) is) ≡ map pair_of (map (record_at cs) js)

abbrev pub SameLines : List ℕ → List ℕ → List ℕ → List ℕ → Type 0
SameLines bs cs is js = Each (SameLine bs cs) is js

same_alike : (bs cs : List ℕ) (i j : ℕ) (l m : Line) → SameLine bs cs i j → SaysLine bs i l → SaysLine cs j m → Alike l m
same_alike bs cs i j l m a s t = subst (λ x. Alike x m) (sym s.words) (subst (Alike (line_of (record_at bs i) l.pairs)) (sym t.words) record {
  run = a.numbers.run;
  code = a.numbers.code;
  entry = a.numbers.entry;
  first = a.numbers.first;
  second = a.numbers.second;
  answer = a.numbers.answer;
  pairs = λ c.
      let p = s.list c in
      let q = t.list (sym a.numbers.code ∙ c) in
      p.2 ∙ a.lists c p.0 q.0 p.1 q.1 ∙ sym q.2;
})

same-all-alike : (bs cs is js : List ℕ) (ls ms : List Line) → SameLines bs cs is js → Says bs is ls → Says cs js ms → AllAlike ls ms
same-all-alike bs cs [] [] [] [] a s t = tt
same-all-alike bs cs [] [] [] (m ∷ ms) a s t = absurd t
same-all-alike bs cs [] [] (l ∷ ls) ms a s t = absurd s
same-all-alike bs cs [] (j ∷ js) ls ms a s t = absurd a
same-all-alike bs cs (i ∷ is) [] ls ms a s t = absurd a
same-all-alike bs cs (i ∷ is) (j ∷ js) [] ms a s t = absurd s
same-all-alike bs cs (i ∷ is) (j ∷ js) (l ∷ ls) [] a s t = absurd t
same-all-alike bs cs (i ∷ is) (j ∷ js) (l ∷ ls) (m ∷ ms) a s t = (same_alike bs cs i j l m a.0 s.0 t.0, same-all-alike bs cs is js ls ms a.1 s.1 t.1)

-- Wherever their records stand, two journals whose main chains agree in what is looked at have one verdict.
pub same-verdict : (bs cs : List ℕ) (r : Readable bs) (s : Readable cs) → SameLines bs cs r.main s.main → verdict_of bs ≡ verdict_of cs
same-verdict bs cs r s a =
    let p = readable-lines bs r in
    let q = readable-lines cs s in
    let there : Says bs r.main p.0 = rw p.1 at (said-is bs r) in
    let here : Says cs s.main q.0 = rw q.1 at (said-is cs s) in
    alike-verdict bs cs p.0 q.0 p.1 q.1 (same-all-alike bs cs r.main s.main p.0 q.0 a there here)
