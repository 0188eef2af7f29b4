-- Document 02's chains in its own words: a chain can be read exactly if it is a finite path, and what breaks one that cannot.
use Rattle.std.specs.Prelude.{◌≡◌, refl, Bool, true, false, cond, List, [], ◌∷◌, map, ◌⊎◌, ◌↔◌, ℕ, zero, suc, ◌+◌, ◌≤◌, ◌<◌, eqb, leb, length}
use Rattle.std.proofs.Common.{sym, ◌∙◌, ap, subst, inl, inr, arith, eq-eqb, ne_eqb, leb-true, leb-false}
use Rattle.std.proofs.lemmas.Bool.{false≢true, eqb-false}
use Rattle.std.proofs.Math.Option.{Option, none, some, none-ne-some}
use Rattle.std.proofs.Math.Decide.{ℕ_discrete}
use Rattle.serial.specs.Serial.{In, Distinct, pick, by_bool}
use Rattle.journal_reader.specs.declared.Record.{Record}
use Rattle.journal_reader.specs.Record.{records, in_file, record_at, in-file-yes, in-file-is}
use Rattle.journal_lines.specs.Journal.{consed, chain, chain_from}
use Rattle.journal_lines.specs.Walks.{Chained, chain-is}

-- Following the next indices from `at` meets these records, all inside the file, and comes to `to`.
abbrev pub Meets : List ℕ → ℕ → List ℕ → ℕ → Type 0
Meets bs at [] to = at ≡ to
Meets bs at (i ∷ is) to = (i ≡ at) × (1 ≤ i) × (i ≤ records bs) × Meets bs (record_at bs i).next is to

-- Zero ends a chain.
abbrev pub Follows : List ℕ → ℕ → List ℕ → Type 0
Follows bs at is = Meets bs at is 0

-- Different records inside the file, the first at the start, each at the next index of the one before; the last has next index 0.
pub record FinitePath (bs : List ℕ) (at : ℕ) (is : List ℕ) : Type 0 where
  pub follows : Follows bs at is
  pub once : Distinct is

-- The chain comes to an index above the last record.
pub record Leaves (bs : List ℕ) (at : ℕ) : Type 0 where
  pub met : List ℕ
  pub to : ℕ
  pub meets : Meets bs at met to
  pub above : records bs < to

-- The chain comes to a record that it has met.
pub record Repeats (bs : List ℕ) (at : ℕ) : Type 0 where
  pub met : List ℕ
  pub to : ℕ
  pub meets : Meets bs at met to
  pub again : In to met

-- ---- paths that end

-- Where a chain comes by, the rest of it goes on.
pub rest : (bs : List ℕ) (at : ℕ) (is js : List ℕ) (to : ℕ) → Follows bs at is → Meets bs at js to
    → (ks : List ℕ) × Follows bs to ks × (length is ≡ length js + length ks)
rest bs at is [] to f m = (is, subst (λ x. Follows bs x is) m f, omega arith)
rest bs at [] (j ∷ js) to f m = absurd (omega arith)
rest bs at (i ∷ is) (j ∷ js) to f m = go (rest bs (record_at bs i).next is js to f.3 (subst (λ x. Meets bs (record_at bs x).next js to) (m.0 ∙ sym f.0) m.3))
  where
    go : (ks : List ℕ) × Follows bs to ks × (length is ≡ length js + length ks)
        → (ks : List ℕ) × Follows bs to ks × (length (i ∷ is) ≡ length (j ∷ js) + length ks)
    go r = (r.0, r.1, omega arith)

ended : (bs ks : List ℕ) → Follows bs 0 ks → length ks ≡ 0
ended bs [] f = refl
ended bs (k ∷ ks) f = absurd (omega arith)

same_length : (bs : List ℕ) (at : ℕ) (is js : List ℕ) → Follows bs at is → Follows bs at js → length is ≡ length js
same_length bs at is js f g = go (rest bs at is js 0 f g)
  where
    go : (ks : List ℕ) × Follows bs 0 ks × (length is ≡ length js + length ks) → length is ≡ length js
    go r = omega (arith, ended bs r.0 r.1, r.2)

-- A record that is met parts the path.
parted : (bs : List ℕ) (at : ℕ) (is : List ℕ) (to x : ℕ) → Meets bs at is to → In x is
    → (js : List ℕ) × (ks : List ℕ) × Meets bs at js x × Meets bs x (x ∷ ks) to × (length is ≡ length js + suc (length ks))
parted bs at [] to x m h = absurd h
parted bs at (i ∷ is) to x m (inl e) = ([], is, sym m.0 ∙ sym e, subst (λ y. Meets bs y (y ∷ is) to) (sym e) (refl, m.1, m.2, m.3), omega arith)
parted bs at (i ∷ is) to x m (inr h) = go (parted bs (record_at bs i).next is to x m.3 h)
  where
    go : (js : List ℕ) × (ks : List ℕ) × Meets bs (record_at bs i).next js x × Meets bs x (x ∷ ks) to × (length is ≡ length js + suc (length ks))
        → (js : List ℕ) × (ks : List ℕ) × Meets bs at js x × Meets bs x (x ∷ ks) to × (length (i ∷ is) ≡ length js + suc (length ks))
    go r = (i ∷ r.0, r.1, (m.0, m.1, m.2, r.2), r.3, omega arith)

-- The next index is the record's, so a path that ends meets no record twice.
pub follows-once : (bs : List ℕ) (at : ℕ) (is : List ℕ) → Follows bs at is → Distinct is
follows-once bs at [] f = tt
follows-once bs at (i ∷ is) f = (λ h. go (parted bs (record_at bs i).next is 0 i f.3 h), follows-once bs (record_at bs i).next is f.3)
  where
    go : (js : List ℕ) × (ks : List ℕ) × Meets bs (record_at bs i).next js i × Meets bs i (i ∷ ks) 0 × (length is ≡ length js + suc (length ks)) → ⊥
    go r = omega (arith, same_length bs i (i ∷ is) (i ∷ r.1) (refl, f.1, f.2, f.3) r.3, r.4)

-- ---- different numbers from 1 to n are at most n

without : ℕ → List ℕ → List ℕ
without x [] = []
without x (y ∷ l) = pick (ℕ_discrete x y) (without x l) (y ∷ without x l)

in_without : (x y : ℕ) (l : List ℕ) → In y (without x l) → In y l × ¬ (x ≡ y)
unfolding without
in_without x y [] h = absurd h
in_without x y (z ∷ l) h = go (ℕ_discrete x z) (in_without x y l) h
  where
    deeper : In y l × ¬ (x ≡ y) → In y (z ∷ l) × ¬ (x ≡ y)
    deeper p = (inr p.0, p.1)

    at : ¬ (x ≡ z) → (In y (without x l) → In y l × ¬ (x ≡ y)) → In y (z ∷ without x l) → In y (z ∷ l) × ¬ (x ≡ y)
    at n ih (inl e) = (inl e, λ q. n (q ∙ e))
    at n ih (inr k) = deeper (ih k)

    go : (d : Dec (x ≡ z)) → (In y (without x l) → In y l × ¬ (x ≡ y)) → In y (pick d (without x l) (z ∷ without x l)) → In y (z ∷ l) × ¬ (x ≡ y)
    go (yes e) ih k = deeper (ih k)
    go (no n) ih k = at n ih k

distinct_without : (x : ℕ) (l : List ℕ) → Distinct l → Distinct (without x l)
unfolding without
distinct_without x [] d = tt
distinct_without x (y ∷ l) d = go (ℕ_discrete x y) (distinct_without x l d.1)
  where
    go : (t : Dec (x ≡ y)) → Distinct (without x l) → Distinct (pick t (without x l) (y ∷ without x l))
    go (yes e) ih = ih
    go (no n) ih = (λ h. d.0 (in_without x y l h).0, ih)

length-outside : (x : ℕ) (l : List ℕ) → ¬ In x l → length l ≤ length (without x l)
unfolding without
length-outside x [] n = omega arith
length-outside x (y ∷ l) n = go (ℕ_discrete x y) (length-outside x l (λ h. n (inr h)))
  where
    go : (t : Dec (x ≡ y)) → length l ≤ length (without x l) → suc (length l) ≤ length (pick t (without x l) (y ∷ without x l))
    go (yes e) ih = absurd (n (inl e))
    go (no m) ih = omega arith

length_without : (x : ℕ) (l : List ℕ) → Distinct l → length l ≤ suc (length (without x l))
unfolding without
length_without x [] d = omega arith
length_without x (y ∷ l) d = go (ℕ_discrete x y) (length_without x l d.1)
  where
    go : (t : Dec (x ≡ y)) → length l ≤ suc (length (without x l)) → suc (length l) ≤ suc (length (pick t (without x l) (y ∷ without x l)))
    go (yes e) ih = omega (arith, length-outside x l (λ h. d.0 (subst (λ z. In z l) e h)))
    go (no m) ih = omega arith

pub few : (n : ℕ) (l : List ℕ) → Distinct l → ((x : ℕ) → In x l → (1 ≤ x) × (x ≤ n)) → length l ≤ n
few zero [] d h = omega arith
few zero (x ∷ l) d h = absurd (omega (arith, h x (inl refl)))
few (suc n) l d h = omega (arith, length_without (suc n) l d, few n (without (suc n) l) (distinct_without (suc n) l d) (λ x k. go x (in_without (suc n) x l k)))
  where
    go : (x : ℕ) → In x l × ¬ (suc n ≡ x) → (1 ≤ x) × (x ≤ n)
    go x p = omega (arith, h x p.0, p.1)

inside : (bs : List ℕ) (at : ℕ) (is : List ℕ) (to : ℕ) → Meets bs at is to → (x : ℕ) → In x is → (1 ≤ x) × (x ≤ records bs)
inside bs at [] to m x h = absurd h
inside bs at (i ∷ is) to m x (inl e) = omega arith
inside bs at (i ∷ is) to m x (inr h) = inside bs (record_at bs i).next is to m.3 x h

pub path-few : (bs : List ℕ) (at : ℕ) (is : List ℕ) → FinitePath bs at is → length is ≤ records bs
path-few bs at is p = few (records bs) is p.once (inside bs at is 0 p.follows)

-- ---- chains and paths

pub out-of-file : (bs : List ℕ) (at : ℕ) → in_file bs at ≡ false → ¬ (at ≡ 0) → records bs < at
out-of-file bs at e n = by_bool (leb at (records bs)) (λ t. absurd (false≢true (sym e ∙ in-file-yes bs at (omega (arith, n)) (leb-true at (records bs) t)))) (leb-false at (records bs))

abbrev Read : List ℕ → ℕ → List Record → Type 0
Read bs at rs = (is : List ℕ) × Follows bs at is × (rs ≡ map (record_at bs) is)

chained-read : (bs : List ℕ) (at : ℕ) (rs : List Record) → Chained bs at rs → Read bs at rs
chained-read bs at [] c = ([], c, refl)
chained-read bs at (r ∷ rs) c =
    let t = chained-read bs (record_at bs at).next rs c.3 in
    (at ∷ t.0, (refl, c.0, c.1, t.1), λ k. c.2 k ∷ t.2 k)

read-chain : (bs : List ℕ) (many at : ℕ) (is : List ℕ) → Follows bs at is → length is ≤ many → chain bs many at ≡ some (map (record_at bs) is)
unfolding chain
read-chain bs zero at [] f h = rw (eq-eqb at 0 f) refl
read-chain bs (suc many) at [] f h = rw (eq-eqb at 0 f) refl
read-chain bs zero at (i ∷ is) f h = absurd (omega arith)
read-chain bs (suc many) at (i ∷ is) f h =
    rw (← f.0, ne_eqb i 0 (omega arith), in-file-yes bs i f.1 f.2, read-chain bs many (record_at bs i).next is f.3 (omega arith)) refl

-- What is read is the records of a finite path, in order; and each finite path is read.
pub chain-path : (bs : List ℕ) (at : ℕ) (rs : List Record) → chain_from bs at ≡ some rs
    → (is : List ℕ) × FinitePath bs at is × (rs ≡ map (record_at bs) is)
chain-path bs at rs e = go (chained-read bs at rs (chain-is bs (records bs) at rs e).0)
  where
    go : Read bs at rs → (is : List ℕ) × FinitePath bs at is × (rs ≡ map (record_at bs) is)
    go r = (r.0, record { follows = r.1; once = follows-once bs at r.0 r.1 }, r.2)

pub path-chain : (bs : List ℕ) (at : ℕ) (is : List ℕ) → FinitePath bs at is → chain_from bs at ≡ some (map (record_at bs) is)
path-chain bs at is p = read-chain bs (records bs) at is p.follows (path-few bs at is p)

pub by-option : {A P : Type 0} (o : Option A) → (o ≡ none → P) → ((a : A) → o ≡ some a → P) → P
by-option none n s = n refl
by-option (some a) n s = s a refl

-- A chain is not read exactly if there is no finite path.
pub chain-none : (bs : List ℕ) (at : ℕ) → (chain_from bs at ≡ none) ↔ ((is : List ℕ) → ¬ FinitePath bs at is)
chain-none bs at = (
  λ e is p. none-ne-some (map (record_at bs) is) (sym e ∙ path-chain bs at is p),
  λ n. by-option (chain_from bs at) (λ e. e) (λ rs e. go rs (chain-path bs at rs e) n),
)
  where
    go : (rs : List Record) → (is : List ℕ) × FinitePath bs at is × (rs ≡ map (record_at bs) is) → ((is : List ℕ) → ¬ FinitePath bs at is) → chain_from bs at ≡ none
    go rs r n = absurd (n r.0 r.1)

-- There is one finite path at most.
pub path-unique : (bs : List ℕ) (at : ℕ) (is js : List ℕ) → Follows bs at is → Follows bs at js → is ≡ js
path-unique bs at [] [] f g = refl
path-unique bs at [] (j ∷ js) f g = absurd (omega arith)
path-unique bs at (i ∷ is) [] f g = absurd (omega arith)
path-unique bs at (i ∷ is) (j ∷ js) f g =
    let e : i ≡ j = f.0 ∙ sym g.0 in
    let t : is ≡ js = path-unique bs (record_at bs i).next is js f.3 (subst (λ x. Follows bs (record_at bs x).next js) (sym e) g.3) in
    λ k. e k ∷ t k

-- ---- what breaks a chain

in? : (x : ℕ) (l : List ℕ) → Dec (In x l)
in? x [] = no (λ h. h)
in? x (y ∷ l) = go (ℕ_discrete x y) (in? x l)
  where
    at : ¬ (x ≡ y) → ¬ In x l → In x (y ∷ l) → ⊥
    at n m (inl e) = n e
    at n m (inr h) = m h

    go : Dec (x ≡ y) → Dec (In x l) → Dec (In x (y ∷ l))
    go (yes e) d = yes (inl e)
    go (no n) (yes h) = yes (inr h)
    go (no n) (no m) = no (at n m)

later : (bs : List ℕ) (i at : ℕ) → i ≡ at → 1 ≤ i → i ≤ records bs → Repeats bs (record_at bs i).next → Repeats bs at
later bs i at e h k r = record { met = i ∷ r.met; to = r.to; meets = (e, h, k, r.meets); again = inr r.again }

-- What is met is different, or a record is met again.
once-or-again : (bs : List ℕ) (at : ℕ) (is : List ℕ) (to : ℕ) → Meets bs at is to → Distinct is ⊎ Repeats bs at
once-or-again bs at [] to m = inl tt
once-or-again bs at (i ∷ is) to m = go (in? i is) (once-or-again bs (record_at bs i).next is to m.3)
  where
    back : (js : List ℕ) × (ks : List ℕ) × Meets bs (record_at bs i).next js i × Meets bs i (i ∷ ks) to × (length is ≡ length js + suc (length ks)) → Repeats bs at
    back r = record { met = i ∷ r.0; to = i; meets = (m.0, m.1, m.2, r.2); again = inl refl }

    go : Dec (In i is) → Distinct is ⊎ Repeats bs (record_at bs i).next → Distinct (i ∷ is) ⊎ Repeats bs at
    go (yes h) d = inr (back (parted bs (record_at bs i).next is to i m.3 h))
    go (no n) (inl d) = inl (n, d)
    go (no n) (inr r) = inr (later bs i at m.0 m.1 m.2 r)

-- It goes on for more records than so many.
abbrev Long : List ℕ → ℕ → ℕ → Type 0
Long bs many at = (is : List ℕ) × (to : ℕ) × Meets bs at is to × (length is ≡ suc many)

goes_on : (bs : List ℕ) (many at : ℕ) → chain bs many at ≡ none → Leaves bs at ⊎ Long bs many at
unfolding chain
goes_on bs zero at e = go (eqb at 0) (in_file bs at) refl refl e
  where
    go : (b c : Bool) → eqb at 0 ≡ b → in_file bs at ≡ c → cond {A = Option (List Record)} b (some []) none ≡ none → Leaves bs at ⊎ Long bs 0 at
    go true c p q e = absurd (none-ne-some {A = List Record} [] (sym e))
    go false true p q e = inr (at ∷ [], (record_at bs at).next, (refl, (in-file-is bs at q).0, (in-file-is bs at q).1, refl), refl)
    go false false p q e = inl (record { met = []; to = at; meets = refl; above = out-of-file bs at q (eqb-false at 0 p) })
goes_on bs (suc many) at e =
    go (eqb at 0) (in_file bs at) (chain bs many (record_at bs at).next) refl refl (goes_on bs many (record_at bs at).next) e
  where
    on : in_file bs at ≡ true → Leaves bs (record_at bs at).next ⊎ Long bs many (record_at bs at).next → Leaves bs at ⊎ Long bs (suc many) at
    on q (inl l) = inl (record { met = at ∷ l.met; to = l.to; meets = (refl, (in-file-is bs at q).0, (in-file-is bs at q).1, l.meets); above = l.above })
    on q (inr g) = inr (at ∷ g.0, g.1, (refl, (in-file-is bs at q).0, (in-file-is bs at q).1, g.2), ap suc g.3)

    go : (b c : Bool) (o : Option (List Record)) → eqb at 0 ≡ b → in_file bs at ≡ c → (o ≡ none → Leaves bs (record_at bs at).next ⊎ Long bs many (record_at bs at).next)
        → cond b (some []) (cond c (consed (record_at bs at) o) none) ≡ none → Leaves bs at ⊎ Long bs (suc many) at
    go true c o p q ih e = absurd (none-ne-some {A = List Record} [] (sym e))
    go false true none p q ih e = on q (ih refl)
    go false true (some ss) p q ih e = absurd (none-ne-some (record_at bs at ∷ ss) (sym e))
    go false false o p q ih e = inl (record { met = []; to = at; meets = refl; above = out-of-file bs at q (eqb-false at 0 p) })

leaves_none : (bs : List ℕ) (at : ℕ) → Leaves bs at → (is : List ℕ) → ¬ FinitePath bs at is
leaves_none bs at l is p = go (rest bs at is l.met l.to p.follows l.meets)
  where
    out : (ks : List ℕ) → Follows bs l.to ks → ⊥
    out [] f = omega (arith, l.above)
    out (k ∷ ks) f = omega (arith, l.above)

    go : (ks : List ℕ) × Follows bs l.to ks × (length is ≡ length l.met + length ks) → ⊥
    go r = out r.0 r.1

repeats-none : (bs : List ℕ) (at : ℕ) → Repeats bs at → (is : List ℕ) → ¬ FinitePath bs at is
repeats-none bs at r is p = go (parted bs at r.met r.to r.to r.meets r.again) (rest bs at is r.met r.to p.follows r.meets)
  where
    at_once : (ks js : List ℕ) → Follows bs r.to ks → Meets bs r.to (r.to ∷ js) r.to → ⊥
    at_once ks js f m = round (rest bs r.to ks (r.to ∷ js) r.to f m)
      where
        round : (is : List ℕ) × Follows bs r.to is × (length ks ≡ suc (length js) + length is) → ⊥
        round q = omega (arith, same_length bs r.to ks q.0 f q.1, q.2)

    go : (js : List ℕ) × (ks : List ℕ) × Meets bs at js r.to × Meets bs r.to (r.to ∷ ks) r.to × (length r.met ≡ length js + suc (length ks))
        → (ks : List ℕ) × Follows bs r.to ks × (length is ≡ length r.met + length ks) → ⊥
    go s t = at_once t.0 s.1 t.1 s.3

-- A chain is not read exactly if it leaves the file or meets a record of its own twice.
pub chain-breaks : (bs : List ℕ) (at : ℕ) → (chain_from bs at ≡ none) ↔ (Leaves bs at ⊎ Repeats bs at)
chain-breaks bs at = (λ e. there (goes_on bs (records bs) at e), λ b. (chain-none bs at).1 (back b))
  where
    crowded : (g : Long bs (records bs) at) → Distinct g.0 ⊎ Repeats bs at → Repeats bs at
    crowded g (inl d) = absurd (omega (arith, few (records bs) g.0 d (inside bs at g.0 g.1 g.2), g.3))
    crowded g (inr r) = r

    there : Leaves bs at ⊎ Long bs (records bs) at → Leaves bs at ⊎ Repeats bs at
    there (inl l) = inl l
    there (inr g) = inr (crowded g (once-or-again bs at g.0 g.1 g.2))

    back : Leaves bs at ⊎ Repeats bs at → (is : List ℕ) → ¬ FinitePath bs at is
    back (inl l) = leaves_none bs at l
    back (inr r) = repeats-none bs at r
