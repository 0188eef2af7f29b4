-- What causes 15 and 16, in document 02's words: where a journal cannot be read or is not orderly, something in it says why.
use Rattle.std.specs.Prelude.{◌≡◌, refl, Bool, true, false, ◌⊎◌, ◌↔◌, ℕ, ◌*◌, ◌≤◌, eqb, length}
use Rattle.std.proofs.Common.{sym, ◌∙◌, ap, subst, inl, inr, arith, eqb-true}
use Rattle.std.proofs.lemmas.Bool.{false≢true, eqb-false}
use mathlib.Core.List.{List, [], ◌∷◌, ◌++◌, nil≢cons, head-eq_of_cons-eq, tail-eq_of_cons-eq}
use Rattle.std.proofs.Math.Decide.{ℕ_discrete}
use Rattle.serial.specs.Serial.{In, by_bool}
use Rattle.journal_reader.specs.declared.Record.{Record}
use Rattle.journal_reader.specs.Record.{records, record_at}
use Rattle.journal_lines.specs.Journal.{line_of, chain_from, whole, proper, verdict_of}
use Rattle.journal_lines.specs.Walks.{whole_is, is_whole}
use Rattle.journal_lines.specs.Paths.{FinitePath, Leaves, Repeats, chain-none, chain-path, chain-breaks, path-unique, by-option}
use Rattle.journal_lines.specs.Accepts.{Readable, RecordFits, Ends, Orderly, is-15, is-16, fits-proper, proper-fits}

-- ---- 15

-- A chain leaves the file or meets a record of its own twice.
abbrev pub Broken : List ℕ → ℕ → Type 0
Broken bs at = Leaves bs at ⊎ Repeats bs at

-- The length is not 1 to 2,048 whole records, or the main chain or the list chain of a locate on it is broken.
pub data Unreadable (bs : List ℕ) : Type 0 where
  wrong_length : ((many : ℕ) → 1 ≤ many → many ≤ 2048 → ¬ (length bs ≡ 32 * many)) → Unreadable bs
  main_broken : Broken bs 1 → Unreadable bs
  list_broken : (main : List ℕ) (i : ℕ) → FinitePath bs 1 main → In i main → (record_at bs i).code ≡ 5 → Broken bs (record_at bs i).list → Unreadable bs

abbrev AllLists : List ℕ → List ℕ → Type 0
AllLists bs main = (i : ℕ) → In i main → (record_at bs i).code ≡ 5 → (is : List ℕ) × FinitePath bs (record_at bs i).list is

abbrev OneBroken : List ℕ → List ℕ → Type 0
OneBroken bs main = (i : ℕ) × In i main × ((record_at bs i).code ≡ 5) × Broken bs (record_at bs i).list

list-or-broken : (bs : List ℕ) (at : ℕ) → ((is : List ℕ) × FinitePath bs at is) ⊎ Broken bs at
list-or-broken bs at = by-option (chain_from bs at)
    (λ e. inr ((chain-breaks bs at).0 e))
    (λ rs e. let p = chain-path bs at rs e in inl (p.0, p.1))

lists-or-broken : (bs main : List ℕ) → AllLists bs main ⊎ OneBroken bs main
lists-or-broken bs [] = inl (λ i h. absurd h)
lists-or-broken bs (k ∷ main) = go (eqb (record_at bs k).code 5) refl (list-or-broken bs (record_at bs k).list) (lists-or-broken bs main)
  where
    all : ((record_at bs k).code ≡ 5 → (is : List ℕ) × FinitePath bs (record_at bs k).list is) → AllLists bs main → AllLists bs (k ∷ main)
    all f g i (inl e) c = subst (λ x. (is : List ℕ) × FinitePath bs (record_at bs x).list is) (sym e) (f (subst (λ x. (record_at bs x).code ≡ 5) e c))
    all f g i (inr h) c = g i h c

    go : (b : Bool) → eqb (record_at bs k).code 5 ≡ b → ((is : List ℕ) × FinitePath bs (record_at bs k).list is) ⊎ Broken bs (record_at bs k).list
        → AllLists bs main ⊎ OneBroken bs main → AllLists bs (k ∷ main) ⊎ OneBroken bs (k ∷ main)
    go b t p (inr o) = inr (o.0, inr o.1, o.2, o.3)
    go true t (inl p) (inl g) = inl (all (λ c. p) g)
    go true t (inr w) (inl g) = inr (k, inl refl, eqb-true (record_at bs k).code 5 t, w)
    go false t p (inl g) = inl (all (λ c. absurd (eqb-false (record_at bs k).code 5 t c)) g)

unreadable-not : (bs : List ℕ) → Unreadable bs → ¬ Readable bs
unreadable-not bs (wrong_length n) r = n r.many r.least r.most r.bytes
unreadable-not bs (main_broken b) r = (chain-none bs 1).0 ((chain-breaks bs 1).1 b) r.main r.path
unreadable-not bs (list_broken main i p h c b) r =
    let one : main ≡ r.main = path-unique bs 1 main r.main p.follows r.path.follows in
    let l = r.lists i (subst (In i) one h) c in
    (chain-none bs (record_at bs i).list).0 ((chain-breaks bs (record_at bs i).list).1 b) l.0 l.1

not-readable : (bs : List ℕ) → ¬ Readable bs → Unreadable bs
not-readable bs n = by_bool (whole bs)
    (λ t. main t (list-or-broken bs 1))
    (λ t. wrong_length (λ many h k e. false≢true (sym t ∙ is_whole bs many e h k)))
  where
    rest : whole bs ≡ true → (is : List ℕ) → FinitePath bs 1 is → AllLists bs is ⊎ OneBroken bs is → Unreadable bs
    rest t is p (inl all) =
        let w = whole_is bs t in
        absurd (n (record { many = records bs; bytes = omega (arith, w.0); least = w.1; most = w.2; main = is; path = p; lists = all }))
    rest t is p (inr o) = list_broken is o.0 p o.1 o.2 o.3

    main : whole bs ≡ true → ((is : List ℕ) × FinitePath bs 1 is) ⊎ Broken bs 1 → Unreadable bs
    main t (inl p) = rest t p.0 p.1 (lists-or-broken bs p.0)
    main t (inr b) = main_broken b

pub why-15 : (bs : List ℕ) → (verdict_of bs ≡ 15) ↔ Unreadable bs
why-15 bs = (λ e. not-readable bs ((is-15 bs).0 e), λ u. (is-15 bs).1 (unreadable-not bs u))

-- ---- 16

-- A code or number on the main chain is not document 01's, or a run goes on after its commit.
pub data Disorderly (bs main : List ℕ) : Type 0 where
  unfit : (i : ℕ) → In i main → ¬ RecordFits (record_at bs i) → Disorderly bs main
  goes_on : (before after : List ℕ) (i j : ℕ) → main ≡ before ++ (i ∷ after) → (record_at bs i).code ≡ 255 → In j after
      → (record_at bs j).run ≡ (record_at bs i).run → Disorderly bs main

fits? : (r : Record) → Dec (RecordFits r)
fits? r = by_bool (proper (line_of r []))
    (λ t. yes (proper-fits (line_of r []) t))
    (λ t. no (λ f. false≢true (sym t ∙ fits-proper (line_of r []) f)))

-- What is wrong with a part of the main chain is wrong with the whole.
later : (bs : List ℕ) (k : ℕ) (main : List ℕ) → Disorderly bs main → Disorderly bs (k ∷ main)
later bs k main (unfit i h n) = unfit i (inr h) n
later bs k main (goes_on before after i j e c h q) = goes_on (k ∷ before) after i j (ap (λ t. k ∷ t) e) c h q

all-fit-or-not : (bs main : List ℕ) → ((i : ℕ) → In i main → RecordFits (record_at bs i)) ⊎ Disorderly bs main
all-fit-or-not bs [] = inl (λ i h. absurd h)
all-fit-or-not bs (k ∷ main) = go (fits? (record_at bs k)) (all-fit-or-not bs main)
  where
    all : RecordFits (record_at bs k) → ((i : ℕ) → In i main → RecordFits (record_at bs i)) → (i : ℕ) → In i (k ∷ main) → RecordFits (record_at bs i)
    all f g i (inl e) = subst (λ x. RecordFits (record_at bs x)) (sym e) f
    all f g i (inr h) = g i h

    go : Dec (RecordFits (record_at bs k)) → ((i : ℕ) → In i main → RecordFits (record_at bs i)) ⊎ Disorderly bs main
        → ((i : ℕ) → In i (k ∷ main) → RecordFits (record_at bs i)) ⊎ Disorderly bs (k ∷ main)
    go (no n) g = inr (unfit k (inl refl) n)
    go (yes f) (inl g) = inl (all f g)
    go (yes f) (inr d) = inr (later bs k main d)

abbrev NoneOf : List ℕ → List ℕ → ℕ → Type 0
NoneOf bs is x = (j : ℕ) → In j is → ¬ ((record_at bs j).run ≡ x)

one-of-or-none : (bs is : List ℕ) (x : ℕ) → ((j : ℕ) × In j is × ((record_at bs j).run ≡ x)) ⊎ NoneOf bs is x
one-of-or-none bs [] x = inr (λ j h e. h)
one-of-or-none bs (k ∷ is) x = go (ℕ_discrete (record_at bs k).run x) (one-of-or-none bs is x)
  where
    none_here : ¬ ((record_at bs k).run ≡ x) → NoneOf bs is x → NoneOf bs (k ∷ is) x
    none_here n f j (inl q) e = n (ap (λ y. (record_at bs y).run) (sym q) ∙ e)
    none_here n f j (inr h) e = f j h e

    go : Dec ((record_at bs k).run ≡ x) → ((j : ℕ) × In j is × ((record_at bs j).run ≡ x)) ⊎ NoneOf bs is x
        → ((j : ℕ) × In j (k ∷ is) × ((record_at bs j).run ≡ x)) ⊎ NoneOf bs (k ∷ is) x
    go (yes e) f = inl (k, inl refl, e)
    go (no n) (inl o) = inl (o.0, inr o.1, o.2)
    go (no n) (inr f) = inr (none_here n f)

ends-or-not : (bs main : List ℕ) → Ends bs main ⊎ Disorderly bs main
ends-or-not bs [] = inl none_yet
  where
    none_yet : Ends bs []
    none_yet [] after i j e c h q = nil≢cons e
    none_yet (b ∷ before) after i j e c h q = nil≢cons e
ends-or-not bs (k ∷ main) = go (ℕ_discrete (record_at bs k).code 255) (one-of-or-none bs main (record_at bs k).run) (ends-or-not bs main)
  where
    all : ((record_at bs k).code ≡ 255 → NoneOf bs main (record_at bs k).run) → Ends bs main → Ends bs (k ∷ main)
    all f g [] after i j e c h q =
        let here : k ≡ i = head-eq_of_cons-eq e in
        f (ap (λ x. (record_at bs x).code) here ∙ c) j (subst (In j) (sym (tail-eq_of_cons-eq e)) h) (q ∙ ap (λ x. (record_at bs x).run) (sym here))
    all f g (b ∷ before) after i j e c h q = g before after i j (tail-eq_of_cons-eq e) c h q

    go : Dec ((record_at bs k).code ≡ 255) → ((j : ℕ) × In j main × ((record_at bs j).run ≡ (record_at bs k).run)) ⊎ NoneOf bs main (record_at bs k).run
        → Ends bs main ⊎ Disorderly bs main → Ends bs (k ∷ main) ⊎ Disorderly bs (k ∷ main)
    go d o (inr w) = inr (later bs k main w)
    go (no n) o (inl g) = inl (all (λ c. absurd (n c)) g)
    go (yes c) (inl o) (inl g) = inr (goes_on [] main k o.0 refl c o.1 o.2)
    go (yes c) (inr f) (inl g) = inl (all (λ d. f) g)

disorderly-not : (bs : List ℕ) (r : Readable bs) → Disorderly bs r.main → ¬ Orderly bs
disorderly-not bs r d o = go (subst (Disorderly bs) (path-unique bs 1 r.main o.readable.main r.path.follows o.readable.path.follows) d)
  where
    go : Disorderly bs o.readable.main → ⊥
    go (unfit i h n) = n (o.fits i h)
    go (goes_on before after i j e c h q) = o.ends before after i j e c h q

pub why-16 : (bs : List ℕ) → (verdict_of bs ≡ 16) ↔ ((r : Readable bs) × Disorderly bs r.main)
why-16 bs = (λ e. let p = (is-16 bs).0 e in there p.0 p.1 (all-fit-or-not bs p.0.main) (ends-or-not bs p.0.main), λ p. (is-16 bs).1 (p.0, disorderly-not bs p.0 p.1))
  where
    there : (r : Readable bs) → ¬ Orderly bs → ((i : ℕ) → In i r.main → RecordFits (record_at bs i)) ⊎ Disorderly bs r.main → Ends bs r.main ⊎ Disorderly bs r.main
        → (r : Readable bs) × Disorderly bs r.main
    there r n (inr d) e = (r, d)
    there r n (inl f) (inr d) = (r, d)
    there r n (inl f) (inl e) = absurd (n (record { readable = r; fits = f; ends = e }))
