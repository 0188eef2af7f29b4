-- A session that stored a day and reads it back, in any list of calls that keeps demand 3.
use Rattle.std.specs.Prelude.{◌≡◌, true, List, [], ◌∷◌, ◌++◌, map, ℕ, ◌%◌, length}
use Rattle.std.proofs.Common.{sym, ap, subst, ◌∙◌}
use Rattle.std.proofs.lemmas.List.{map-append}
use Rattle.card_days.specs.Day.{words, stretches, proper}
use Rattle.card_days.specs.Laws.{Bytes, Unrepeated}
use Rattle.serial.specs.Serial.{Done, run_db, run_answers, serial_db, requests, results}
use Rattle.serial.specs.Model.{Db, Req, Ans, eff, empty}
use Rattle.serial.specs.Footprints.{Good, store}
use Rattle.serial.specs.Calls.{Machine, Told, Demand3, committed_db}
use Rattle.day_model.specs.Written.{fed_by, NoEntry, SameDay, read_back, bytes_from, run-append, run-good, read-back-is}

serial-good : (ls : List (List Req)) (d : Db) → Good d → Good (serial_db store ls d)
serial-good [] d g = g
serial-good (l ∷ ls) d g = serial-good ls (run_db store l d) (run-good l d g)

-- What is left of two runs with equal answers.
tail-answers : (l : List (Done store)) (m : List (Done store)) (d : Db) → map (λ x. x.1) l ++ map (λ x. x.1) m ≡ run_answers store (requests store l ++ requests store m) d
    → results store m ≡ run_answers store (requests store m) (run_db store (requests store l) d)
tail-answers [] m d e = e
tail-answers (x ∷ l) m d e = tail-answers l m (eff x.0 d) (ap rest e)
  where
    rest : List Ans → List Ans
    rest [] = []
    rest (a ∷ l) = l

-- What the session asked and was answered up to the locate, and from it on: then the answers from it on give back the bytes.
pub session-reads-back : (𝓢 : Machine) (x : 𝓢.X) (t : Told) (p : ℕ) → Demand3 𝓢 t x
    → (bs : List ℕ) (k0 e : ℕ) → Bytes bs → length bs % 2 ≡ 0 → proper (words bs) ≡ true → Unrepeated (words bs)
    → (earlier later : List (Done store)) (before between : List Req) → t.past.current p ≡ earlier ++ later
    -- Its requests: any, the day's, any that leave the day alone, then the locate of the day and the reads of its entries.
    → requests store earlier ≡ before ++ (fed_by k0 e (stretches (words bs)) ++ between) → requests store later ≡ read_back k0 e (length (stretches (words bs)))
    -- The day's minutes held no entry before it,
    → NoEntry k0 (run_db store before (committed_db t))
    -- and its minutes and entries saw no other change.
    → SameDay k0 e (length (stretches (words bs))) (run_db store (fed_by k0 e (stretches (words bs))) (run_db store before (committed_db t)))
    (run_db store between (run_db store (fed_by k0 e (stretches (words bs))) (run_db store before (committed_db t))))
    → bytes_from k0 (results store later) ≡ bs
session-reads-back 𝓢 x t p D bs k0 e b h q u earlier later before between split asked read none-there same =
    let d = committed_db t in
    let gd : Good d = serial-good (map (requests store) t.past.closed) empty tt in
    let ss = stretches (words bs) in
    let d₀ = run_db store before d in
    let d₁ = run_db store (fed_by k0 e ss) d₀ in
    let d₂ = run_db store between d₁ in
    let g₀ : Good d₀ = run-good before d gd in
    let g₂ : Good d₂ = run-good between d₁ (run-good (fed_by k0 e ss) d₀ g₀) in
    let a : results store (earlier ++ later) ≡ run_answers store (requests store (earlier ++ later)) d
    = subst (λ z. results store z ≡ run_answers store (requests store z) d) split (D.unfinished p) in
    let c = tail-answers earlier later d
    (sym (map-append (λ z. z.1) earlier later) ∙ a ∙ ap (λ z. run_answers store z d) (map-append (λ z. z.0) earlier later)) in
    let f : run_db store (requests store earlier) d ≡ d₂ = ap (λ z. run_db store z d) asked ∙ run-append before (fed_by k0 e ss ++ between) d ∙ run-append (fed_by k0 e ss) between d₀ in
    ap (bytes_from k0) (c ∙ ap (λ z. run_answers store z (run_db store (requests store earlier) d)) read ∙ ap (run_answers store (read_back k0 e (length ss))) f)
    ∙ read-back-is bs k0 e d₀ d₂ b h q u g₀ g₂ none-there same
