-- The record that the words lead to is that of the machine's next descriptor.
use Rattle.std.specs.Prelude.{◌≡◌, refl, true, false, List, ◌∷◌, ◌++◌, ◌⊎◌, eqb, length}
use Rattle.std.proofs.Common.{sym, subst, ◌∙◌, inl, inr, arith, length-append, eq-eqb, ne_eqb}
use Rattle.std.proofs.Math.Path.{ap}
use Rattle.std.proofs.Math.Bool.{cond}
use Rattle.std.proofs.lemmas.List.{map-append}
use Rattle.std.proofs.Math.Option.{some, some-injective}
use Prim.Native.Nat.{ℕ, zero, suc, ◌≤◌}
use Rattle.std.proofs.Math.Decide.{ℕ_discrete}
use Rattle.words.specs.Store.{word_of}
use Rattle.words.specs.Header.{header_word, first_place}
use Rattle.sessions.specs.declared.Session.{Session}
use Rattle.sessions.specs.Sessions.{session_at}
use Rattle.scans.specs.Scans.{last_upto}
use Rattle.machine.specs.Holders.{width}
use Rattle.machine.specs.Order.{In}
use Rattle.machine.specs.State.{Desc, State, take, stored, lowest_from, or_none, session_of, top}
use Rattle.machine.specs.Sound as S
use Rattle.machine.specs.Sound.{Passing}
use Rattle.machine.specs.Looks.{sound-ordered, ordered-rises, take-stored}
use Rattle.machine.specs.Nearest.{Nearest}
use Rattle.machine.proofs.Nearest.{nearest, takes_of}
use Rattle.meaning.specs.Reading.{Chained, Leaf, hand_of, stage_of, M-of, R-of}
use Rattle.meaning.specs.Sound.{All, pins_first}
use Rattle.meaning.specs.Numbers.{all_right}
use Rattle.meaning.specs.Lens.{descs, leaves_before, leaves_behind, leaves-erase}
use Rattle.layout.specs.Layout.{Lay, Undone, leaves_in, Has, DescFits, means, session_in}
use Rattle.layout.specs.Row.{Stands}
use Rattle.layout.specs.Places.{AtKey, at_key, session-means}
use Rattle.layout.specs.Chains.{nums, chain_from}
use Rattle.layout.specs.Walks.{leaves-short, descs-fit}
use Rattle.layout.specs.Asked.{request_in, hand_in}
use Rattle.taking.specs.Place.{next_taken, num_from, Keeps, keeps-has, keeps-behind, keeps-mid, lowest-head, lowest-past, lowest-behind, num-keeps, next-behind}

-- The key from which on the next descriptor is the lowest.
abbrev pub next_key : Session → ℕ
next_key x = cond (eqb x.last 0) x.first (suc x.last)

pub stage-take : (x : Session) → x.stage ≡ 5 → stage_of x ≡ take (next_key x)
stage-take x e =
    let n : (k : ℕ) → (5 ≡ k → ⊥) → eqb x.stage k ≡ false = λ k f. ne_eqb x.stage k (λ q. f (sym e ∙ q)) in
    rw (n 1 (λ q. omega arith), n 2 (λ q. omega arith), n 3 (λ q. omega arith), n 4 (λ q. omega arith)) refl

pins-take : (x : Session) → x.stage ≡ 5 → pins_first x ≡ true
pins-take x e = rw (ne_eqb x.stage 4 (λ q. omega (arith, q, e)), eq-eqb x.stage 5 e) refl

hand-is : (u : ℕ → List Undone) (p : ℕ) (x : Session) → (session_in u p x).hand ≡ hand_of x
hand-is u zero x = refl
hand-is u (suc p) x = refl

pub stored-means : (L : Lay) (t : List Session) → stored (means L t) ≡ descs (leaves_in L)
unfolding stored means
stored-means L t = leaves-erase (suc L.height) L.tree

-- The descriptors C, l, B, of which l is first's own: the record that is next is that of the lowest one from next_key on.
module _ (s : List ℕ) (m r : ℕ) (x : Session) (C : List Leaf) (l : Leaf) (B : List Leaf) (num : l.num ≡ x.low) (key : l.desc.key ≡ x.first) (low : In 0 x.first (descs C)) where
  cut-lowest : (k : ℕ) → x.first ≤ k → lowest_from k (descs (C ++ l ∷ B)) ≡ lowest_from k (l.desc ∷ descs B)
  cut-lowest k h = ap (lowest_from k) (map-append (λ y. y.desc) C (l ∷ B)) ∙ lowest-behind k 0 x.first (descs C) (l.desc ∷ descs B) low h

  next-first : x.last ≡ 0 → (d : Desc) → lowest_from (next_key x) (descs (C ++ l ∷ B)) ≡ some d → Keeps d (next_taken s m r x) (C ++ l ∷ B)
  unfolding next_taken
  next-first e d q =
      let n : next_key x ≡ x.first = ap (λ b. cond b x.first (suc x.last)) (eq-eqb x.last 0 e) in
      let w : lowest_from x.first (descs (C ++ l ∷ B)) ≡ some l.desc = cut-lowest x.first (omega arith) ∙ lowest-head x.first l.desc (descs B) (omega (arith, key)) in
      let z : l.desc ≡ d = some-injective l.desc d (sym w ∙ ap (λ k. lowest_from k (descs (C ++ l ∷ B))) (sym n) ∙ q) in
      rw (eq-eqb x.last 0 e) (keeps-behind d x.low C (l ∷ B) (inl (z, num)))

  next-later : ¬ (x.last ≡ 0) → x.first ≤ x.last → Chained s m l.num (nums (l ∷ B)) → All (DescFits s m) B → length B ≤ r
      → (d : Desc) → lowest_from (next_key x) (descs (C ++ l ∷ B)) ≡ some d → Keeps d (next_taken s m r x) (C ++ l ∷ B)
  unfolding next_taken
  next-later e h c f b d q =
      let n : next_key x ≡ suc x.last = ap (λ b. cond b x.first (suc x.last)) (ne_eqb x.last 0 e) in
      let w : lowest_from (suc x.last) (descs (C ++ l ∷ B)) ≡ lowest_from (suc x.last) (descs B) =
      cut-lowest (suc x.last) (omega (arith, h)) ∙ lowest-past (suc x.last) l.desc (descs B) (omega (arith, key, h)) in
      let k = num-keeps (suc x.last) B d (sym w ∙ ap (λ k. lowest_from k (descs (C ++ l ∷ B))) (sym n) ∙ q) in
      let j : word_of s m (last_upto s m r x.low x.last) 0 ≡ num_from (suc x.last) B =
      ap (λ i. word_of s m (last_upto s m r i x.last) 0) (sym num) ∙ next-behind s m r x.last l B c f b in
      rw (ne_eqb x.last 0 e) (keeps-behind d (word_of s m (last_upto s m r x.low x.last) 0) C (l ∷ B) (inr (subst (λ i. Keeps d i B) (sym j) k)))

module _ (s : List ℕ) (t : List Session) (A : Stands s t) (p : ℕ) (party : p ≤ width) (stage : (session_at t p).stage ≡ 5) where
  abbrev pub x : Session
  x = session_at t p

  abbrev pub L : Lay
  L = A.lay

  abbrev pub σ : State
  σ = means A.lay t

  -- The descriptor that is next.
  abbrev pub next_desc : Desc
  next_desc = or_none (lowest_from (next_key x) (stored σ))

  abbrev pub next_record : ℕ
  next_record = next_taken s (M-of s) (R-of s) x

  pub in_hand : (session_of p σ).hand ≡ some (request_in x)
  in_hand =
      ap (λ z. z.hand) (session-means L t p (omega (arith, A.holds.seats, party))) ∙ hand-is L.undos p x ∙ hand_in x (λ e. omega (arith, e, stage))

  pub in_take : (request_in x).stage ≡ take (next_key x)
  unfolding request_in
  in_take = stage-take x stage

  pub passing : Passing p σ (request_in x) (next_key x)
  passing = subst (S.Stands p σ (request_in x)) in_take (A.sound.standing p (request_in x) in_hand)

  pub low-there : Has x.first x.low (leaves_in L)
  low-there = (A.holds.hands p party).low (λ e. omega (arith, e, stage)) (pins-take x stage)

  pub at_low : AtKey L x.first x.low
  at_low = at_key L t A.sound x.first x.low low-there

  nearest-one : Nearest (next_key x) (stored σ)
  unfolding stored request_in
  nearest-one =
      nearest (next_key x) 0 4294967296 (stored σ) (ordered-rises σ (sound-ordered A.sound)) x.second
      (take-stored A.sound p (request_in x) (next_key x) in_hand in_take).1 passing.to-second

  lowest-is : lowest_from (next_key x) (descs (leaves_in L)) ≡ some next_desc
  lowest-is = ap (lowest_from (next_key x)) (sym (stored-means L t)) ∙ nearest-one.is ∙ ap some (sym (ap or_none nearest-one.is))

  pub low-cut : leaves_in L ≡ leaves_before at_low.around ++ at_low.leaf ∷ leaves_behind at_low.around
  low-cut = at_low.was

  pub low-chain : Chained s (M-of s) at_low.leaf.num (nums (at_low.leaf ∷ leaves_behind at_low.around))
  low-chain =
      chain_from s (M-of s) (header_word s first_place) (leaves_before at_low.around) at_low.leaf (leaves_behind at_low.around)
      (subst (λ z. Chained s (M-of s) (header_word s first_place) (nums z)) low-cut A.holds.fits.chained)

  pub low_fits : All (DescFits s (M-of s)) (at_low.leaf ∷ leaves_behind at_low.around)
  low_fits =
      all_right (DescFits s (M-of s)) (leaves_before at_low.around) (at_low.leaf ∷ leaves_behind at_low.around)
      (subst (All (DescFits s (M-of s))) low-cut (descs-fit s t L A.holds A.sound))

  pub low-short : length (at_low.leaf ∷ leaves_behind at_low.around) ≤ R-of s
  low-short =
      omega (
        arith,
        leaves-short s t L A.holds A.sound,
        ap length low-cut,
        length-append (leaves_before at_low.around) (at_low.leaf ∷ leaves_behind at_low.around),
        A.holds.fits.records,
      )

  pub keeps-next : Keeps next_desc next_record (leaves_in L)
  keeps-next = subst (Keeps next_desc next_record) (sym low-cut) (go (ℕ_discrete x.last 0) ((A.holds.hands p party).last stage))
    where
      C : List Leaf
      C = leaves_before at_low.around

      B : List Leaf
      B = leaves_behind at_low.around

      is : lowest_from (next_key x) (descs (C ++ at_low.leaf ∷ B)) ≡ some next_desc
      is = subst (λ z. lowest_from (next_key x) (descs z) ≡ some next_desc) low-cut lowest-is

      later : ¬ (x.last ≡ 0) → x.first ≤ x.last → Keeps next_desc next_record (C ++ at_low.leaf ∷ B)
      later n h = next-later s (M-of s) (R-of s) x C at_low.leaf B at_low.num at_low.key at_low.below n h low-chain low_fits.1 (omega (arith, low-short)) next_desc is

      go : Dec (x.last ≡ 0) → (x.last ≡ 0) ⊎ (x.first ≤ x.last) → Keeps next_desc next_record (C ++ at_low.leaf ∷ B)
      go (yes e) h = next-first s (M-of s) (R-of s) x C at_low.leaf B at_low.num at_low.key at_low.below e next_desc is
      go (no n) (inl e) = absurd (n e)
      go (no n) (inr h) = later n h

  -- The record found is that of the machine's next descriptor.
  pub next-has : Has next_desc.key next_record (leaves_in L)
  next-has = keeps-has next_desc next_record (leaves_in L) keeps-next

  pub take_place : AtKey L next_desc.key next_record
  take_place = at_key L t A.sound next_desc.key next_record next-has

  pub take-desc-is : take_place.leaf.desc ≡ next_desc
  take-desc-is =
      (keeps-mid next_desc next_record 0 (suc top) (leaves_before take_place.around) take_place.leaf (leaves_behind take_place.around) take_place.below take_place.above
      (subst (Keeps next_desc next_record) take_place.was keeps-next)).0

  pub next-from : next_key x ≤ next_desc.key
  next-from = (takes_of A.sound p (request_in x) (next_key x) in_hand in_take).next.from
