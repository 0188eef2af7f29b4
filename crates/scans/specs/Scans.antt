-- What the walks along the descriptors and along a group's members find, and the pairs of a range of keys as words.
use Rattle.std.specs.Prelude.{◌≡◌, List, [], ◌∷◌, ◌++◌, cond, ℕ, zero, suc, ◌+◌, ◌*◌, ◌≤◌, eqb, leb, length, get_or, set, drop}
use Rattle.words.specs.Store.{HasRecord, word_of}
use Rattle.chain.specs.Walk.{Walk}

-- ---- descriptors and members

-- from the descriptor at record i on, the last one whose key is at most k; the one at i counts without a look
unfoldable pub last_upto : List ℕ → ℕ → ℕ → ℕ → ℕ → ℕ
last_upto s m zero i k = i
last_upto s m (suc n) i k =
    let j : ℕ = word_of s m i 0 in
    let on : ℕ = last_upto s m n j k in
    cond (eqb j 0) i (cond (leb (word_of s m j 1) k) on i)

-- there is a record i, and from its next one on the chain can be walked
pub record CanFollow (s : List ℕ) (m r i : ℕ) : Type 0 where
  pub has : HasRecord s m i
  pub walk : Walk s m r (word_of s m i 0)

-- the membership of entry e, from record i on; 0 for none
unfoldable pub membership_of : List ℕ → ℕ → ℕ → ℕ → ℕ → ℕ
membership_of s m zero i e = 0
membership_of s m (suc n) i e =
    let rest : ℕ = membership_of s m n (word_of s m i 0) e in
    cond (eqb i 0) 0 (cond (eqb (word_of s m i 2) e) i rest)

-- the entries of the members from record i on, in the order of the chain
unfoldable pub entries_in : List ℕ → ℕ → ℕ → ℕ → List ℕ
entries_in s m zero i = []
entries_in s m (suc n) i =
    let rest : List ℕ = entries_in s m n (word_of s m i 0) in
    cond (eqb i 0) [] (word_of s m i 2 ∷ rest)

-- ---- rising order

-- e put before the first that it is not above
unfoldable pub raise : ℕ → List ℕ → List ℕ
raise e [] = e ∷ []
raise e (x ∷ l) =
    let rest : List ℕ = raise e l in
    cond (leb e x) (e ∷ x ∷ l) (x ∷ rest)

unfoldable pub rising : List ℕ → List ℕ
rising [] = []
rising (e ∷ l) = raise e (rising l)

-- ---- the pairs of a range

unfoldable pub pair_words : ℕ → List ℕ → List ℕ
pair_words k [] = []
pair_words k (e ∷ l) = k ∷ e ∷ pair_words k l

-- key and entry of every member of the descriptors from record i on whose keys are at most hi
unfoldable pub range_words : List ℕ → ℕ → ℕ → ℕ → ℕ → ℕ → List ℕ
range_words s m r zero i hi = []
range_words s m r (suc n) i hi =
    let rest : List ℕ = range_words s m r n (word_of s m i 0) hi in
    cond (eqb i 0) []
    (cond (leb (word_of s m i 1) hi) (pair_words (word_of s m i 1) (rising (entries_in s m r (word_of s m i 6))) ++ rest) [])

-- how many they are
unfoldable pub range_count : List ℕ → ℕ → ℕ → ℕ → ℕ → ℕ → ℕ
range_count s m r zero i hi = 0
range_count s m r (suc n) i hi =
    let rest : ℕ = range_count s m r n (word_of s m i 0) hi in
    cond (eqb i 0) 0 (cond (leb (word_of s m i 1) hi) (length (entries_in s m r (word_of s m i 6)) + rest) 0)

-- from record i on the descriptors can be walked, at most n, and so can the members of each, at most r
unfoldable pub WalkRange : List ℕ → ℕ → ℕ → ℕ → ℕ → Type 0
WalkRange s m r zero i = i ≡ 0
WalkRange s m r (suc n) i = ¬ (i ≡ 0) → HasRecord s m i × Walk s m r (word_of s m i 6) × WalkRange s m r n (word_of s m i 0)

-- the range can be counted
pub record CanCount (s : List ℕ) (m r i : ℕ) : Type 0 where
  pub walk : WalkRange s m r r i
  pub few : r ≤ 4096

-- the range can be written, and the list has room for it
pub record CanWrite (s : List ℕ) (m r i hi : ℕ) (list : List ℕ) : Type 0 where
  pub walk : WalkRange s m r r i
  pub room : 2 * range_count s m r r i hi ≤ length list

-- ---- the steps of the writing

-- w written over the start of l
unfoldable pub over : List ℕ → List ℕ → List ℕ
over w l = w ++ drop (length w) l

-- of e and x the one that comes first, and the other
unfoldable pub earlier : ℕ → ℕ → ℕ
earlier e x = cond (leb e x) e x

unfoldable pub later : ℕ → ℕ → ℕ
later e x = cond (leb e x) x e

-- the earlier of e and the word at a place stays there, the later one goes on
pub record Settled (l : List ℕ) (at e x : ℕ) (l' : List ℕ) : Type 0 where
  pub answer : x ≡ later e (get_or l at 0)
  pub list : l' ≡ set l at (earlier e (get_or l at 0))

-- entry e put among the first n pairs, all of key k, which then are one more
unfoldable pub insert_pair : ℕ → ℕ → ℕ → List ℕ → List ℕ
insert_pair zero k e l = k ∷ e ∷ drop 2 l
insert_pair (suc n) k e l = get_or l 0 0 ∷ earlier e (get_or l 1 0) ∷ insert_pair n k (later e (get_or l 1 0)) (drop 2 l)

-- the members of a group can be walked, and the list has room for their pairs
pub record GroupFits (s : List ℕ) (m r i : ℕ) (list : List ℕ) : Type 0 where
  pub walk : Walk s m r i
  pub room : 2 * length (entries_in s m r i) ≤ length list

-- the pairs of a group are written, n of them
pub record GroupWritten (s : List ℕ) (m r i k : ℕ) (list : List ℕ) (n : ℕ) (list' : List ℕ) : Type 0 where
  pub count : n ≡ length (entries_in s m r i)
  pub words : list' ≡ over (pair_words k (rising (entries_in s m r i))) list
