-- Whether a locate's list and answer are the model's: a walk of the memberships beside the list's chain.
use Rattle.std.specs.Prelude.{◌≡◌, Bool, true, false, cond, ◌&&◌, ◌⊎◌, Option, Some, None, ℕ, suc, ◌+◌, ◌≤◌, ◌<◌, leb, take, drop}
use Rattle.std.proofs.Math.Path.{refl}
use Rattle.std.proofs.Math.Decide.{dec_le}
use Rattle.std.proofs.Common.{inl, inr, sym, ◌∙◌, ap, zero-add, add-one, arith, drop_of_length-le, drop-cons, get_or-take, length-take-le, leb-true, leb-false, le-leb, eq-eqb, ne_eqb}
use mathlib.Core.List.{List, [], ◌∷◌}
use Rattle.std.proofs.Math.Dec.{eqb}
use Rattle.std.proofs.Math.ListN.{length, get_or}
use Rattle.std.proofs.lemmas.Bool.{lt-leb}
use Rattle.serial.specs.Serial.{pick, pick_yes, pick_no, true≢false}
use Rattle.serial.specs.Rising.{only}
use Rattle.serial.specs.Model.{Pair, by_key, in_range}
use Rattle.journal_reader.specs.declared.Record.{Record}
use Rattle.journal_reader.specs.Record.{record_at}
use Rattle.journal_lines.specs.Journal.{Line, is_some, or_empty, line_of, list_of}
use Rattle.journal_lines.specs.Walks.{some-or-empty, Pairs, list-pairs}
use Rattle.replay.specs.Held.{paired, members_in}
use Rattle.journal.specs.Fits.{same_ans, same_pairs, list_answer, same_lists}

-- ---- the line of a record

-- A record with its list, where that can be read.
unfoldable pub line_at : List ℕ → Record → Line
line_at bs r = line_of r (or_empty (list_of bs r))

-- ---- the test

-- A locate's answer and list are those of the memberships from first to second.
unfoldable pub lists_as : List ℕ → Record → List ℕ → List ℕ → ℕ → Bool
lists_as bs r ks es n =
    let found = only by_key (in_range r.first r.second) (members_in ks es n) in
    same_ans (list_answer r.answer (or_empty (list_of bs r))) (list_answer (length found) found)

-- The memberships from place i on that lie from first to second.
unfoldable pub still : ℕ → ℕ → List ℕ → List ℕ → ℕ → ℕ → List Pair
still lo hi ks es n i = only by_key (in_range lo hi) (paired (drop i (take n ks)) (drop i (take n es)))

dropped : (ks : List ℕ) (n i : ℕ) → i < n → n ≤ length ks → drop i (take n ks) ≡ get_or ks i 0 ∷ drop (i + 1) (take n ks)
dropped ks n i h k =
    let z : i < length (take n ks) = omega (arith, length-take-le n ks k) in
    rw (add-one, ← get_or-take n ks i 0 h) (drop-cons (take n ks) i 0 z)

still-more : (lo hi : ℕ) (ks es : List ℕ) (n i : ℕ) → i < n → n ≤ length ks → n ≤ length es
    → still lo hi ks es n i
    ≡ pick (in_range lo hi (get_or ks i 0, get_or es i 0)) ((get_or ks i 0, get_or es i 0) ∷ still lo hi ks es n (i + 1)) (still lo hi ks es n (i + 1))
unfolding still paired
still-more lo hi ks es n i h k l =
    let p = dropped ks n i h k in
    let q = dropped es n i h l in
    λ j. only by_key (in_range lo hi) (paired (p j) (q j))

still-none : (lo hi : ℕ) (ks es : List ℕ) (n i : ℕ) → n ≤ i → n ≤ length ks → still lo hi ks es n i ≡ []
unfolding still paired
still-none lo hi ks es n i h k =
    ap (λ l. only by_key (in_range lo hi) (paired l (drop i (take n es)))) (drop_of_length-le (take n ks) {i = i} (omega (arith, length-take-le n ks k)))

-- ---- one membership

-- Where the walk of a list stands: whether the list is still the model's, the index of its next record, how many memberships were met.
pub record Place : Type 0 where
  pub is_same : Bool
  pub at : ℕ
  pub met : ℕ

-- The list differs.
abbrev pub apart : Place → Place
apart p = record { is_same = false; at = p.at; met = p.met }

-- The list's next record is to have this key and this entry.
unfoldable pub matched : List ℕ → Place → ℕ → ℕ → Place
matched bs p key entry =
    let r = record_at bs p.at in
    cond (eqb p.at 0) (apart p)
    (cond (eqb r.run key && eqb r.code entry) (record { is_same = true; at = r.next; met = p.met + 1 }) (apart p))

-- A membership outside first to second is passed over.
unfoldable pub passed : List ℕ → ℕ → ℕ → Place → ℕ → ℕ → Place
passed bs lo hi p key entry = cond (leb lo key && leb key hi) (matched bs p key entry) p

pub match-ended : (bs : List ℕ) (p q : Place) (key entry : ℕ) → p.at ≡ 0 → q ≡ apart p → q ≡ matched bs p key entry
unfolding matched
match-ended bs p q key entry h e = rw (eq-eqb p.at 0 h) e

pub match-key : (bs : List ℕ) (p q : Place) (r : Record) (key entry : ℕ) → ¬ (p.at ≡ 0) → r ≡ record_at bs p.at → ¬ (r.run ≡ key) → q ≡ apart p
    → q ≡ matched bs p key entry
unfolding matched
match-key bs p q r key entry h s k e = rw (ne_eqb p.at 0 h, ← s, ne_eqb r.run key k) e

pub match-entry : (bs : List ℕ) (p q : Place) (r : Record) (key entry : ℕ) → ¬ (p.at ≡ 0) → r ≡ record_at bs p.at → r.run ≡ key → ¬ (r.code ≡ entry)
    → q ≡ apart p → q ≡ matched bs p key entry
unfolding matched
match-entry bs p q r key entry h s k l e = rw (ne_eqb p.at 0 h, ← s, eq-eqb r.run key k, ne_eqb r.code entry l) e

pub match-next : (bs : List ℕ) (p q : Place) (r : Record) (key entry : ℕ) → ¬ (p.at ≡ 0) → r ≡ record_at bs p.at → r.run ≡ key → r.code ≡ entry
    → q ≡ record { is_same = true; at = r.next; met = p.met + 1 } → q ≡ matched bs p key entry
unfolding matched
match-next bs p q r key entry h s k l e = rw (ne_eqb p.at 0 h, ← s, eq-eqb r.run key k, eq-eqb r.code entry l) e

pub pass_below : (bs : List ℕ) (lo hi : ℕ) (p : Place) (key entry : ℕ) → key < lo → p ≡ passed bs lo hi p key entry
unfolding passed
pass_below bs lo hi p key entry h = rw (lt-leb lo key h) refl

pub pass-above : (bs : List ℕ) (lo hi : ℕ) (p : Place) (key entry : ℕ) → lo ≤ key → hi < key → p ≡ passed bs lo hi p key entry
unfolding passed
pass-above bs lo hi p key entry h k = rw (le-leb lo key h, lt-leb key hi k) refl

pub pass-inside : (bs : List ℕ) (lo hi : ℕ) (p q : Place) (key entry : ℕ) → lo ≤ key → key ≤ hi → q ≡ matched bs p key entry → q ≡ passed bs lo hi p key entry
unfolding passed
pass-inside bs lo hi p q key entry h k e = rw (le-leb lo key h, le-leb key hi k) e

-- ---- the walk

-- What may be walked: the list of a locate that can be read, beside memberships that are there.
pub record Listable (bs : List ℕ) (r : Record) (ks es : List ℕ) (n : ℕ) : Type 0 where
  pub locates : r.code ≡ 5
  pub listed : is_some (list_of bs r) ≡ true
  pub keys : n ≤ length ks
  pub entries : n ≤ length es
  pub few : n ≤ 2048

-- What is left of the list, beside what is left of the memberships, gives the whole.
pub record Locating (bs : List ℕ) (r : Record) (ks es : List ℕ) (n i : ℕ) (p : Place) : Type 0 where
  pub rest : List Pair
  pub walk : Pairs bs p.at rest
  pub same : p.is_same ≡ true
  pub met : p.met ≤ i
  pub is : (same_pairs rest (still r.first r.second ks es n i) && eqb r.answer (p.met + length (still r.first r.second ks es n i))) ≡ lists_as bs r ks es n

pub locating-start : (bs : List ℕ) (r : Record) (ks es : List ℕ) (n : ℕ) (p : Place) → r.code ≡ 5 → is_some (list_of bs r) ≡ true
    → p ≡ record { is_same = true; at = r.list; met = 0 } → Locating bs r ks es n 0 p
unfolding lists_as still
locating-start bs r ks es n p five h e =
    let ps = or_empty (list_of bs r) in
    let found = only by_key (in_range r.first r.second) (members_in ks es n) in
    rw e record {
      rest = ps;
      walk = (list-pairs bs r ps five (some-or-empty (list_of bs r) h)).0;
      same = refl;
      met = omega arith;
      is = rw (zero-add (length found)) (sym (same_lists r.answer (length found) ps found));
    }

-- What a membership leads to: the walk goes on, or the whole is false.
abbrev Leads : List ℕ → Record → List ℕ → List ℕ → ℕ → ℕ → Place → Type 0
Leads bs r ks es n i q = (q.is_same ≡ true → Locating bs r ks es n i q) × (q.is_same ≡ false → lists_as bs r ks es n ≡ false)

module _ (bs : List ℕ) (r : Record) (ks es : List ℕ) (n i : ℕ) (p : Place) (c : Locating bs r ks es n i p) where
  -- A membership outside first to second.
  outside : still r.first r.second ks es n i ≡ still r.first r.second ks es n (i + 1) → Leads bs r ks es n (i + 1) p
  outside e = (
    λ _. record {
      rest = c.rest;
      walk = c.walk;
      same = c.same;
      met = omega (arith, c.met);
      is = ap (λ l. same_pairs c.rest l && eqb r.answer (p.met + length l)) (sym e) ∙ c.is;
    },
    λ f. absurd (true≢false c.same f),
  )

  -- A membership that the list lacks.
  differs : false ≡ lists_as bs r ks es n → Leads bs r ks es n (i + 1) (apart p)
  differs e = (λ t. absurd (true≢false t refl), λ _. sym e)

  -- A membership from first to second.
  inside : (key entry : ℕ) → still r.first r.second ks es n i ≡ (key, entry) ∷ still r.first r.second ks es n (i + 1)
      → Leads bs r ks es n (i + 1) (matched bs p key entry)
  unfolding matched same_pairs
  inside key entry s = at c.rest c.walk (ap (λ l. same_pairs c.rest l && eqb r.answer (p.met + length l)) (sym s) ∙ c.is)
    where
      left : List Pair
      left = still r.first r.second ks es n (i + 1)

      go : (b : Bool) (qs : List Pair) → Pairs bs (record_at bs p.at).next qs
          → (b && same_pairs qs left && eqb r.answer (p.met + suc (length left))) ≡ lists_as bs r ks es n
          → Leads bs r ks es n (i + 1) (cond b (record { is_same = true; at = (record_at bs p.at).next; met = p.met + 1 }) (apart p))
      go true qs w e = (
        λ _. record {
          rest = qs;
          walk = w;
          same = refl;
          met = omega (arith, c.met);
          is = ap (λ m. same_pairs qs left && eqb r.answer m) (omega arith) ∙ e;
        },
        λ f. absurd (true≢false refl f),
      )
      go false qs w e = differs e

      at : (ps : List Pair) → Pairs bs p.at ps → (same_pairs ps ((key, entry) ∷ left) && eqb r.answer (p.met + suc (length left))) ≡ lists_as bs r ks es n
          → Leads bs r ks es n (i + 1) (matched bs p key entry)
      at [] w e = rw (eq-eqb p.at 0 w) (differs e)
      at (q ∷ qs) w e =
          rw (ne_eqb p.at 0 (λ z. omega (arith, w.0, z)))
          (go (eqb (record_at bs p.at).run key && eqb (record_at bs p.at).code entry) qs w.3
          (ap (λ x. (eqb x.0 key && eqb x.1 entry) && same_pairs qs left && eqb r.answer (p.met + suc (length left))) (sym w.2) ∙ e))

  pub locating-step : i < n → n ≤ length ks → n ≤ length es → Leads bs r ks es n (i + 1) (passed bs r.first r.second p (get_or ks i 0) (get_or es i 0))
  unfolding passed
  locating-step h k l = go (leb r.first (get_or ks i 0)) (leb (get_or ks i 0) r.second) refl refl
    where
      more : still r.first r.second ks es n i
          ≡ pick (in_range r.first r.second (get_or ks i 0, get_or es i 0)) ((get_or ks i 0, get_or es i 0) ∷ still r.first r.second ks es n (i + 1)) (still r.first r.second ks es n (i + 1))
      more = still-more r.first r.second ks es n i h k l

      go : (a b : Bool) → leb r.first (get_or ks i 0) ≡ a → leb (get_or ks i 0) r.second ≡ b
          → Leads bs r ks es n (i + 1) (cond (a && b) (matched bs p (get_or ks i 0) (get_or es i 0)) p)
      go true true x y = inside (get_or ks i 0) (get_or es i 0) (more ∙ pick_yes (in_range r.first r.second (get_or ks i 0, get_or es i 0)) _ _ (leb-true _ _ x, leb-true _ _ y))
      go true false x y = outside (more ∙ pick_no (in_range r.first r.second (get_or ks i 0, get_or es i 0)) _ _ (λ z. omega (arith, z, leb-false (get_or ks i 0) r.second y)))
      go false b x y = outside (more ∙ pick_no (in_range r.first r.second (get_or ks i 0, get_or es i 0)) _ _ (λ z. omega (arith, z, leb-false r.first (get_or ks i 0) x)))

pub locating-more : (bs : List ℕ) (r : Record) (ks es : List ℕ) (n i : ℕ) (p q : Place) → Locating bs r ks es n i p → i < n → n ≤ length ks → n ≤ length es
    → q ≡ passed bs r.first r.second p (get_or ks i 0) (get_or es i 0) → q.is_same ≡ true → Locating bs r ks es n (i + 1) q
locating-more bs r ks es n i p q c h k l e s = rw e ((locating-step bs r ks es n i p c h k l).0 (rw e at s))

pub locating-apart : (bs : List ℕ) (r : Record) (ks es : List ℕ) (n i : ℕ) (p q : Place) → Locating bs r ks es n i p → i < n → n ≤ length ks → n ≤ length es
    → q ≡ passed bs r.first r.second p (get_or ks i 0) (get_or es i 0) → q.is_same ≡ false → false ≡ lists_as bs r ks es n
locating-apart bs r ks es n i p q c h k l e s = sym ((locating-step bs r ks es n i p c h k l).1 (rw e at s))

-- At the end the list is at its end too, and the answer is the number met.
unfoldable pub ended : Place → ℕ → Bool
ended p answer = eqb p.at 0 && eqb answer p.met

pub ended-not : (p : Place) (answer : ℕ) → ¬ (p.at ≡ 0) → false ≡ ended p answer
unfolding ended
ended-not p answer h = rw (ne_eqb p.at 0 h) refl

pub ended_is : (p : Place) (answer : ℕ) (b : Bool) → p.at ≡ 0 → b ≡ eqb answer p.met → b ≡ ended p answer
unfolding ended
ended_is p answer b h e = rw (eq-eqb p.at 0 h) e

pub locating-end : (bs : List ℕ) (r : Record) (ks es : List ℕ) (n i : ℕ) (p : Place) (b : Bool) → Locating bs r ks es n i p → n ≤ i → n ≤ length ks
    → b ≡ ended p r.answer → b ≡ lists_as bs r ks es n
unfolding ended same_pairs
locating-end bs r ks es n i p b c h k e =
    e ∙ at c.rest c.walk (ap (λ l. same_pairs c.rest l && eqb r.answer (p.met + length l)) (sym (still-none r.first r.second ks es n i h k)) ∙ c.is)
  where
    at : (ps : List Pair) → Pairs bs p.at ps → (same_pairs ps [] && eqb r.answer (p.met + 0)) ≡ lists_as bs r ks es n
        → (eqb p.at 0 && eqb r.answer p.met) ≡ lists_as bs r ks es n
    at [] w f = rw (eq-eqb p.at 0 w) (ap (λ m. eqb r.answer m) (omega arith) ∙ f)
    at (q ∷ qs) w f = rw (ne_eqb p.at 0 (λ z. omega (arith, w.0, z))) f

-- ---- the walk while the list is the model's

-- The index behind the list's next record, if that has this key and this entry.
abbrev pub next_of : List ℕ → ℕ → ℕ → ℕ → Option ℕ
next_of bs at key entry =
    let r = record_at bs at in cond (eqb at 0) None (cond (eqb r.run key && eqb r.code entry) (Some r.next) None)

abbrev pub going : ℕ → ℕ → Place
going at met = record { is_same = true; at = at; met = met }

abbrev placed : Place → Option ℕ → Place
placed p None = apart p
placed p (Some next) = going next (p.met + 1)

matched-placed : (bs : List ℕ) (p : Place) (key entry : ℕ) → matched bs p key entry ≡ placed p (next_of bs p.at key entry)
unfolding matched
matched-placed bs p key entry = go (eqb p.at 0) (eqb (record_at bs p.at).run key && eqb (record_at bs p.at).code entry)
  where
    go : (a b : Bool) → cond a (apart p) (cond b (going (record_at bs p.at).next (p.met + 1)) (apart p))
        ≡ placed p (cond a None (cond b (Some (record_at bs p.at).next) None))
    go true b = refl
    go false true = refl
    go false false = refl

module _ (bs : List ℕ) (r : Record) (ks es : List ℕ) (n i at met : ℕ) (c : Locating bs r ks es n i (going at met)) (h : i < n) (k : n ≤ length ks) (l : n ≤ length es) where
  -- A membership outside first to second.
  pub locating-outside : (get_or ks i 0 < r.first) ⊎ (r.second < get_or ks i 0) → Locating bs r ks es n (i + 1) (going at met)
  locating-outside o = locating-more bs r ks es n i (going at met) (going at met) c h k l (go o (dec_le r.first (get_or ks i 0))) refl
    where
      go : (get_or ks i 0 < r.first) ⊎ (r.second < get_or ks i 0) → Dec (r.first ≤ get_or ks i 0)
          → going at met ≡ passed bs r.first r.second (going at met) (get_or ks i 0) (get_or es i 0)
      go (inl x) d = pass_below bs r.first r.second (going at met) (get_or ks i 0) (get_or es i 0) x
      go (inr x) (yes y) = pass-above bs r.first r.second (going at met) (get_or ks i 0) (get_or es i 0) y x
      go (inr x) (no y) = pass_below bs r.first r.second (going at met) (get_or ks i 0) (get_or es i 0) (omega (arith, y))

  inside_placed : (o : Option ℕ) → r.first ≤ get_or ks i 0 → get_or ks i 0 ≤ r.second → o ≡ next_of bs at (get_or ks i 0) (get_or es i 0)
      → placed (going at met) o ≡ passed bs r.first r.second (going at met) (get_or ks i 0) (get_or es i 0)
  inside_placed o x y e =
      pass-inside bs r.first r.second (going at met) (placed (going at met) o) (get_or ks i 0) (get_or es i 0) x y
      (ap (placed (going at met)) e ∙ sym (matched-placed bs (going at met) (get_or ks i 0) (get_or es i 0)))

  -- A membership from first to second, which the list has next.
  pub locating-inside : (next : ℕ) → r.first ≤ get_or ks i 0 → get_or ks i 0 ≤ r.second → Some next ≡ next_of bs at (get_or ks i 0) (get_or es i 0)
      → Locating bs r ks es n (i + 1) (going next (met + 1))
  locating-inside next x y e = locating-more bs r ks es n i (going at met) (going next (met + 1)) c h k l (inside_placed (Some next) x y e) refl

  -- A membership from first to second, which the list lacks.
  pub locating-lacks : r.first ≤ get_or ks i 0 → get_or ks i 0 ≤ r.second → None ≡ next_of bs at (get_or ks i 0) (get_or es i 0) → false ≡ lists_as bs r ks es n
  locating-lacks x y e = locating-apart bs r ks es n i (going at met) (apart (going at met)) c h k l (inside_placed None x y e) refl
