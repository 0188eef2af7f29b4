-- The number that the test answers: 0 where every part holds; else it names a part that is broken, the first, for those before it hold.
use Rattle.std.specs.Prelude.{◌≡◌, Bool, false, cond, List, ◌↔◌, eqb, leb}
use Rattle.std.proofs.Math.Path.{refl, subst}
use Rattle.std.proofs.Common.{sym, ◌∙◌, arith}
use Rattle.std.proofs.Math.Bool.{true}
use Rattle.std.proofs.lemmas.Bool.{false≢true}
use Prim.Native.Nat.{ℕ, zero, suc, ◌≤◌, ◌<◌}
use Rattle.std.proofs.Math.Decide.{ℕ_discrete}
use borrow.Author.Tests.{eq-eqb, eqb-true, eqb-false, le-leb}
use Rattle.sessions.specs.declared.Session.{Session}
use Rattle.seniority.specs.Seniority.{distinct_in}
use Rattle.parties.specs.Parties.{standing_at_nodes, marks_ok}
use Rattle.holders.specs.Holders.{begun_mask, entries_from}
use Rattle.sound.specs.Sizes.{sizes_ok}
use Rattle.sound.specs.Sound.{Checked, first_fault, fault_in, after_tree, parties_then, after_parties, undos_then, after_undos, groups_then, after_groups, finish_of, ending, next_part, failed, lowest_ok}
use Rattle.meaning.specs.Reading.{M-of, R-of}
use Rattle.soundness.specs.HeldTests.{entries-is}
use Rattle.soundness.specs.SizesPass.{sizes-found, sizes-pass}
use Rattle.soundness.specs.Lowest.{zero-pass}
use Rattle.soundness.specs.OrdersPass.{orders-pass}
use Rattle.soundness.specs.MarksPass.{marks-pass}
use Rattle.soundness.specs.Parts.{Table, Part, Parts}
use Rattle.soundness.specs.Tested.{toured, stood, filed, grouped, freed}
use Rattle.soundness.specs.Walked.{tree-pass, requests-pass, latch-pass, undos-pass, leaves-few, groups-pass, free-pass, reached-pass}

module _ (s : List ℕ) (t : List Session) where
  -- What the test says that goes on with part k, of the parts up to top.
  record From (top k : ℕ) (c : Checked) : Type 0 where
    all : c.fault ≡ 0 → (j : ℕ) → k ≤ j → j ≤ top → Part j s t
    broken : ¬ (c.fault ≡ 0) → ¬ Part c.fault s t
    before : (j : ℕ) → k ≤ j → j < c.fault → Part j s t

  -- Part k, and then the rest.
  then : {top : ℕ} (k : ℕ) → ¬ (k ≡ 0) → (b : Bool) (c : Checked) → (b ≡ true) ↔ Part k s t → (Part k s t → From top (suc k) c) → From top k (cond b c (failed k))
  then k some true c i rest =
      let N = rest (i.0 refl) in
      record { all = λ e j a l. at j a (λ b. N.all e j b l); broken = N.broken; before = λ j a l. at j a (λ b. N.before j b l) }
    where
      at : (j : ℕ) → k ≤ j → (suc k ≤ j → Part j s t) → Part j s t
      at j a f = go (ℕ_discrete k j)
        where
          go : Dec (k ≡ j) → Part j s t
          go (yes e) = subst (λ (n : ℕ). Part n s t) e (i.0 refl)
          go (no n) = f (omega (arith, n, a))
  then k some false c i rest = record { all = λ e. absurd (some e); broken = λ n h. false≢true (i.1 h); before = λ j a l. absurd (omega (arith, a, l)) }

  -- A test that is true.
  past : {top : ℕ} (k : ℕ) (b : Bool) (c : Checked) → b ≡ true → From top k c → From top k (cond b c (failed k))
  past k true c e N = N
  past k false c e N = absurd (false≢true e)

  -- One part more, behind those up to top: it is tested where nothing was found.
  behind : {top : ℕ} (k : ℕ) (b : Bool) (c : Checked) → (b ≡ true) ↔ Part (suc top) s t → From top k c → From (suc top) k (next_part (suc top) b c)
  unfolding next_part
  behind {top} k b c i N = go (eqb c.fault 0) refl b refl
    where
      whole : b ≡ true → c.fault ≡ 0 → (j : ℕ) → k ≤ j → j ≤ suc top → Part j s t
      whole d e j a l = by (ℕ_discrete j (suc top))
        where
          by : Dec (j ≡ suc top) → Part j s t
          by (yes h) = subst (λ (n : ℕ). Part n s t) (sym h) (i.0 d)
          by (no n) = N.all e j a (omega (arith, l, n))

      go : (z : Bool) → eqb c.fault 0 ≡ z → (d : Bool) → b ≡ d → From (suc top) k (cond z (cond d c (failed (suc top))) c)
      go true e true d = record { all = whole d; broken = N.broken; before = N.before }
      go true e false d = record {
        all = λ z. absurd (omega (arith, z));
        broken = λ n h. false≢true (sym d ∙ i.1 h);
        before = λ j a l. N.all (eqb-true c.fault 0 e) j a (omega (arith, l));
      }
      go false e x d = record { all = λ z. absurd (eqb-false c.fault 0 e z); broken = N.broken; before = N.before }

  module _ (T : Table t) where
    -- Part 11: every table of a record for each party has it.
    seated : (k : ℕ) (c : Checked) → From 10 k c → From 11 k c
    unfolding Part
    seated k c N = record { all = λ e j a l. by j (ℕ_discrete j 11) a l (N.all e j a); broken = N.broken; before = N.before }
      where
        by : (j : ℕ) → Dec (j ≡ 11) → k ≤ j → j ≤ 11 → (j ≤ 10 → Part j s t) → Part j s t
        by j (yes h) a l f = subst (λ (n : ℕ). Part n s t) (sym h) T.seats
        by j (no n) a l f = f (omega (arith, l, n))

    -- Behind the parts up to 10: 11, 12 and 13.
    last : (k : ℕ) (c : Checked) → From 10 k c → From 13 k (next_part 13 (marks_ok t) (next_part 12 (distinct_in t) c))
    unfolding Part
    last k c N = behind k (marks_ok t) (next_part 12 (distinct_in t) c) (marks-pass s t T.seats) (behind k (distinct_in t) c (orders-pass s t T.seats) (seated k c N))

    names : From 13 1 (first_fault s t)
    unfolding first_fault fault_in after_tree parties_then after_parties undos_then after_undos groups_then after_groups finish_of ending Part
    names =
        then 1 (λ z. omega (arith, z)) (sizes_ok s) _ (sizes-found s, sizes-pass s) (λ Z. last 2 _ (
        then 2 (λ z. omega (arith, z)) (entries_from s (begun_mask t) 1 (M-of s)) _ (entries-is s t (omega (arith, T.seats))) (λ E.
        then 3 (λ z. omega (arith, z)) (lowest_ok s (M-of s) (R-of s)) _ (zero-pass s) (λ O.
        then 4 (λ z. omega (arith, z)) (toured s).walk.ok _ (tree-pass s t Z T) (λ C.
        then 5 (λ z. omega (arith, z)) (stood s t).ok _ (requests-pass s t Z T C) (λ Q.
        then 6 (λ z. omega (arith, z)) (eqb (standing_at_nodes t) (toured s).walk.latches) _ (numbers-are (latch-pass s t Z T C Q)) (λ L.
        then 7 (λ z. omega (arith, z)) (filed s t).ok _ (undos-pass s t Z T C) (λ U.
        past 8 (leb (toured s).walk.count 4097) _ (le-leb (toured s).walk.count 4097 (leaves-few s t Z T C))
        (then 8 (λ z. omega (arith, z)) (grouped s t).ok _ (groups-pass s t Z T C E Q U) (λ G.
        then 9 (λ z. omega (arith, z)) (freed s t).ok _ (free-pass s t Z T C E Q U G) (λ F.
        then 10 (λ z. omega (arith, z)) (eqb (freed s t).left 0) _ (numbers-are (reached-pass s t Z T C E Q U G F)) (λ A.
        record { all = λ e j a l. absurd (omega (arith, a, l)); broken = λ n. absurd (n refl); before = λ j a l. absurd (omega (arith, l)) }))))))))))))
      where
        numbers-are : {A : Type 0} {a b : ℕ} → (a ≡ b) ↔ A → (eqb a b ≡ true) ↔ A
        numbers-are {A} {a} {b} i = (λ e. i.0 (eqb-true a b e), λ x. eq-eqb a b (i.1 x))

    -- 0: every part holds.
    pub none-broken : (first_fault s t).fault ≡ 0 → Parts s t
    unfolding Part
    none-broken e =
        let f = names.all e in
        record {
          sizes = f 1 (omega arith) (omega arith);
          entries = f 2 (omega arith) (omega arith);
          zero_first = f 3 (omega arith) (omega arith);
          tree = f 4 (omega arith) (omega arith);
          requests = f 5 (omega arith) (omega arith);
          latches = f 6 (omega arith) (omega arith);
          undos = f 7 (omega arith) (omega arith);
          groups = f 8 (omega arith) (omega arith);
          free = f 9 (omega arith) (omega arith);
          all_reached = f 10 (omega arith) (omega arith);
          seats = T.seats;
          orders = f 12 (omega arith) (omega arith);
          marks = f 13 (omega arith) (omega arith);
        }

    -- Another number: that part is broken,
    pub fault-broken : ¬ ((first_fault s t).fault ≡ 0) → ¬ Part (first_fault s t).fault s t
    fault-broken = names.broken

    -- and those before it hold.
    pub fault-first : (k : ℕ) → k < (first_fault s t).fault → Part k s t
    unfolding Part
    fault-first zero l = tt
    fault-first (suc k) l = names.before (suc k) (omega arith) l
