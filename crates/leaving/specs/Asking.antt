-- Put on words: the party's session record has the request at its first stage.
use Rattle.std.specs.Prelude.{◌≡◌, refl, Bool, true, false, cond, List, [], ◌∷◌, ◌++◌, ◌⊎◌, ℕ, zero, suc, ◌≤◌, ◌<◌, eqb, set}
use Rattle.std.proofs.Common.{sym, ap, subst, ◌∙◌, inl, inr, arith, eq-eqb, ne_eqb}
use Rattle.std.proofs.lemmas.Bool.{false≢true}
use Rattle.std.proofs.Math.Option.{some}
use Rattle.words.specs.Store.{HasRecord, word_of}
use Rattle.words.specs.Header.{header_word, first_place}
use Rattle.chain.specs.Walk.{Walk}
use Rattle.sessions.specs.declared.Session.{Session}
use Rattle.sessions.specs.Sessions.{session_at}
use Rattle.machine.specs.Logic.{leb_yes, leb_no}
use Rattle.machine.specs.Holders.{width}
use Rattle.machine.specs.State.{Stage, start, enter, State, lowest_from, stored, set_hand, top}
use Rattle.machine.specs.Calls.{tidy_from, first_stage, accepted}
use Rattle.machine.specs.Order.{In}
use Rattle.meaning.specs.Reading.{Chained, Leaf, M-of, R-of, hand_of}
use Rattle.meaning.specs.Sound.{All, pins_first}
use Rattle.meaning.specs.Numbers.{all_right}
use Rattle.meaning.specs.Lens.{descs, leaves-erase}
use Rattle.layout.specs.Layout.{Lay, leaves_in, DescFits, HandFits, means}
use Rattle.layout.specs.Row.{Stands, Becomes}
use Rattle.layout.specs.Keep.{table-row}
use Rattle.layout.specs.Places.{means-hand}
use Rattle.layout.specs.Chains.{nums, Scan, upto, chain_next}
use Rattle.layout.specs.Walks.{descs-fit, upto-found, leaf-there, next-walk}
use Rattle.scans.specs.Scans.{last_upto, CanFollow}
use Rattle.endings.specs.Table.{requested}
use Rattle.leaving.specs.declared.Aim.{Aim}
use Rattle.leaving.specs.Words.{choice, tidy_aim, aim_of, aimed, asked, PutReady}

-- The words say the stage.
abbrev Aims : Aim → Stage → Type 0
Aims a g = ((a.stage ≡ 1) × (g ≡ start)) ⊎ ((a.stage ≡ 2) × (g ≡ enter a.target))

-- ---- tidy's choice

lowest-past : (k : ℕ) (A : List Leaf) (l : Leaf) (B : List Leaf) → In 0 k (descs A) → l.desc.key < k → lowest_from k (descs (A ++ l ∷ B)) ≡ lowest_from k (descs B)
unfolding lowest_from
lowest-past k [] l B a h = ap (λ b. cond b (some l.desc) (lowest_from k (descs B))) (leb_no k l.desc.key h)
lowest-past k (x ∷ A) l B a h =
    ap (λ b. cond b (some x.desc) (lowest_from k (descs (A ++ l ∷ B)))) (leb_no k x.desc.key a.0.1) ∙ lowest-past k A l B a.1 h

-- The record behind is that of the first descriptor of B, or none.
choice-aims : (s : List ℕ) (m k hi n : ℕ) (B : List Leaf) → In k hi (descs B) → Chained s m n (nums B) → All (DescFits s m) B → Aims (choice s m n) (tidy_from (lowest_from k (descs B)))
unfolding choice lowest_from
choice-aims s m k hi n [] i c w =
    let e : choice s m n ≡ record { stage = 1; target = 0 } = ap (λ b. cond b (record { stage = 1; target = 0 }) (record { stage = 2; target = word_of s m n 1 })) (eq-eqb n 0 c) in
    subst (λ a. Aims a start) (sym e) (inl (refl, refl))
choice-aims s m k hi n (x ∷ B) i c w =
    let e : choice s m n ≡ record { stage = 2; target = word_of s m n 1 } = ap (λ b. cond b (record { stage = 1; target = 0 }) (record { stage = 2; target = word_of s m n 1 })) (ne_eqb n 0 c.1) in
    let key : word_of s m n 1 ≡ x.desc.key = ap (λ j. word_of s m j 1) c.0 ∙ w.0.key in
    let found : tidy_from (lowest_from k (descs (x ∷ B))) ≡ enter x.desc.key = ap (λ b. tidy_from (cond b (some x.desc) (lowest_from k (descs B)))) (leb_yes k x.desc.key i.0.0) in
    subst (λ a. Aims a (tidy_from (lowest_from k (descs (x ∷ B))))) (sym e) (inr (refl, found ∙ ap enter (sym key)))

scan-last : (s : List ℕ) (m k : ℕ) → Scan s m k (λ n i. last_upto s m n i k)
unfolding last_upto
scan-last s m k = record { stop = λ i. refl; next = λ n i. refl }

stored_is : (L : Lay) (t : List Session) → stored (means L t) ≡ descs (leaves_in L)
unfolding stored means
stored_is L t = leaves-erase (suc L.height) L.tree

tidy-aims : (s : List ℕ) (t : List Session) (A : Stands s t) (f : ℕ) → Aims (tidy_aim s (M-of s) (R-of s) f) (tidy_from (lowest_from (suc f) (stored (means A.lay t))))
unfolding tidy_aim
tidy-aims s t A f =
    let L = A.lay in
    let m = M-of s in
    let U = upto L t A.sound f in
    let B = U.behind in
    let found : last_upto s m (R-of s) (header_word s first_place) f ≡ U.leaf.num = upto-found s t L A.holds A.sound f (λ n i. last_upto s m n i f) (scan-last s m f) U in
    let chained = subst (λ z. Chained s m (header_word s first_place) (nums z)) U.is A.holds.fits.chained in
    let next : Chained s m (word_of s m U.leaf.num 0) (nums B) = chain_next s m (header_word s first_place) U.before U.leaf B chained in
    let fit : All (DescFits s m) (U.before ++ U.leaf ∷ B) = subst (All (DescFits s m)) U.is (descs-fit s t L A.holds A.sound) in
    let low : lowest_from (suc f) (stored (means L t)) ≡ lowest_from (suc f) (descs B) =
    ap (lowest_from (suc f)) (stored_is L t ∙ ap descs U.is) ∙ lowest-past (suc f) U.before U.leaf B U.below (omega (arith, U.at_most)) in
    subst (λ n. Aims (choice s m (word_of s m n 0)) (tidy_from (lowest_from (suc f) (stored (means L t))))) (sym found)
    (subst (λ z. Aims (choice s m (word_of s m U.leaf.num 0)) (tidy_from z)) (sym low)
    (choice-aims s m (suc f) (suc top) (word_of s m U.leaf.num 0) B U.above next (all_right (DescFits s m) U.before (U.leaf ∷ B) fit).1))

-- ---- every code

aim-is : (s : List ℕ) (t : List Session) (A : Stands s t) (c f : ℕ) → Aims (aim_of s (M-of s) (R-of s) c f) (first_stage c f (means A.lay t))
unfolding aim_of first_stage
aim-is s t A c f = go (eqb c 5) (eqb c 6)
  where
    σ : State
    σ = means A.lay t

    go : (b d : Bool) → Aims (cond b (record { stage = 2; target = f }) (cond d (tidy_aim s (M-of s) (R-of s) f) (record { stage = 1; target = 0 })))
        (cond b (enter f) (cond d (tidy_from (lowest_from (suc f) (stored σ))) start))
    go true d = inr (refl, refl)
    go false true = tidy-aims s t A f
    go false false = inl (refl, refl)

hand-aimed : (x : Session) (c e f g : ℕ) (a : Aim) (h : Stage) → Aims a h → hand_of (aimed x c e f g a) ≡ some (record { code = c; entry = e; first = f; second = g; stage = h })
unfolding requested
hand-aimed x c e f g a h (inl q) =
    let z = q.0 in
    rw (ne_eqb a.stage 0 (λ k. omega (arith, z, k)), eq-eqb a.stage 1 z) (ap (λ w. some (record { code = c; entry = e; first = f; second = g; stage = w })) (sym q.1))
hand-aimed x c e f g a h (inr q) =
    let z = q.0 in
    rw (ne_eqb a.stage 0 (λ k. omega (arith, z, k)), ne_eqb a.stage 1 (λ k. omega (arith, z, k)), eq-eqb a.stage 2 z)
    (ap (λ w. some (record { code = c; entry = e; first = f; second = g; stage = w })) (sym q.1))

-- A locate goes to first at first, and nothing is pinned.
aim-pins : (s : List ℕ) (m r c f : ℕ) → cond (eqb c 5) (cond (eqb (aim_of s m r c f).target f) false true) false ≡ false
unfolding aim_of
aim-pins s m r c f = go (eqb c 5)
  where
    go : (b : Bool) → cond b (cond (eqb (cond b (record { stage = 2; target = f }) (cond (eqb c 6) (tidy_aim s m r f) (record { stage = 1; target = 0 }))).target f) false true) false ≡ false
    go true = ap (λ b. cond b false true) (eq-eqb f f refl)
    go false = refl

aims-small : (a : Aim) (h : Stage) → Aims a h → (1 ≤ a.stage) × (a.stage ≤ 2)
aims-small a h (inl q) = let z = q.0 in (omega (arith, z), omega (arith, z))
aims-small a h (inr q) = let z = q.0 in (omega (arith, z), omega (arith, z))

aimed-fits : (L : Lay) (p : ℕ) (x : Session) (c e f g : ℕ) (a : Aim) → (1 ≤ a.stage) × (a.stage ≤ 2) → cond (eqb c 5) (cond (eqb a.target f) false true) false ≡ false
    → HandFits L p (aimed x c e f g a)
unfolding requested
aimed-fits L p x c e f g a b n =
    let u : pins_first (aimed x c e f g a) ≡ false =
    rw (ne_eqb a.stage 4 (λ z. omega (arith, z, b.1)), ne_eqb a.stage 5 (λ z. omega (arith, z, b.1))) n in
    record {
      stage = omega (arith, b.1);
      at-node = λ z. absurd (omega (arith, z, b.1));
      low = λ k z. absurd (false≢true (sym u ∙ z));
      high = λ z. absurd (omega (arith, z, b.1));
      last = λ z. absurd (omega (arith, z, b.1));
    }

pub put-becomes : (s : List ℕ) (t : List Session) (A : Stands s t) (p : ℕ) → p ≤ width → (c e f g : ℕ)
    → Becomes s s (set t p (asked s (M-of s) (R-of s) (session_at t p) c e f g)) (accepted p c e f g (means A.lay t))
unfolding asked accepted requested
put-becomes s t A p l c e f g =
    let L = A.lay in
    let x = session_at t p in
    let a = aim_of s (M-of s) (R-of s) c f in
    let h = first_stage c f (means L t) in
    let q : Aims a h = aim-is s t A c f in
    record {
      lay = L;
      holds = table-row s t L A.holds p (aimed x c e f g a) l refl (aimed-fits L p x c e f g a (aims-small a h q) (aim-pins s (M-of s) (R-of s) c f));
      means_next = means-hand L t p (aimed x c e f g a) (omega (arith, l, A.holds.seats)) refl ∙ ap (λ z. set_hand p z (means L t)) (hand-aimed x c e f g a h q);
      long = refl;
      entries = refl;
      records = refl;
      rest = refl;
    }

-- ---- the code may look

walked-has : (s : List ℕ) (m n i : ℕ) → Walk s m n i → ¬ (i ≡ 0) → HasRecord s m i
unfolding Walk
walked-has s m zero i w ne = absurd (ne w)
walked-has s m (suc n) i w ne = (w ne).0

-- The first of some descriptors.
record Headed (ls : List Leaf) : Type 0 where
  head : Leaf
  tail : List Leaf
  is : ls ≡ head ∷ tail

headed : (A : List Leaf) (l : Leaf) (B : List Leaf) → Headed (A ++ l ∷ B)
headed [] l B = record { head = l; tail = B; is = refl }
headed (x ∷ A) l B = record { head = x; tail = A ++ l ∷ B; is = refl }

pub put-ready : (s : List ℕ) (t : List Session) (A : Stands s t) (f : ℕ) → PutReady s (M-of s) (R-of s) f
put-ready s t A f =
    let L = A.lay in
    let H = A.holds in
    let S = A.sound in
    let m = M-of s in
    let r = R-of s in
    let i = header_word s first_place in
    let U = upto L t S f in
    let found : last_upto s m r i f ≡ U.leaf.num = upto-found s t L H S f (λ n j. last_upto s m n j f) (scan-last s m f) U in
    let next = next-walk s t L H S U.before U.leaf U.behind U.is in
    let D = headed U.before U.leaf U.behind in
    let whole : leaves_in L ≡ [] ++ D.head ∷ D.tail = U.is ∙ D.is in
    let first : i ≡ D.head.num = (subst (λ z. Chained s m i (nums z)) whole H.fits.chained).0 in
    record {
      header = H.fits.header;
      follow = subst (CanFollow s m r) (sym first) (record { has = leaf-there s t L H S [] D.head D.tail whole; walk = next-walk s t L H S [] D.head D.tail whole });
      found = subst (HasRecord s m) (sym found) (leaf-there s t L H S U.before U.leaf U.behind U.is);
      next = subst (λ k. ¬ (word_of s m k 0 ≡ 0) → HasRecord s m (word_of s m k 0)) (sym found) (walked-has s m r (word_of s m U.leaf.num 0) next);
    }
