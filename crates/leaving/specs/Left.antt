-- The words after a session has left entries and descriptors: what is the same, and what the holders are.
use Rattle.std.specs.Prelude.{◌≡◌, refl, List, [], ◌∷◌, map, ℕ, zero, suc, ◌+◌, ◌≤◌, ◌<◌, length, cond}
use Rattle.std.proofs.Math.Path.{sym, ap}
use Rattle.std.proofs.Common.{ap₂, subst, ◌∙◌, arith, lit<, ne_eqb}
use Rattle.std.proofs.Math.Decide.{ℕ_discrete}
use Rattle.words.specs.Store.{entry_words, HasRecord, word_of, beyond, has_kept}
use Rattle.words.specs.Entries.{HasEntry, entry_word, put_entry_word}
use Rattle.words.specs.Frames.{length-entry, entry-header, entry-record, entry-beyond, record-header, record-entry, record-beyond}
use Rattle.locks.specs.Holders.{left_by}
use Rattle.groups.specs.Descriptor.{encode_descriptor, decode_descriptor, descriptor_at, length-encode, decode-encode}
use Rattle.machine.specs.State.{Entry}
use Rattle.machine.specs.Calls.{entry_left}
use Rattle.meaning.specs.Reading.{Chained, entries_of}
use Rattle.meaning.specs.Sound.{All, Apart, Once}
use Rattle.meaning.specs.Numbers.{all-as, all_both, apart-all}
use Rattle.meaning.specs.Frame.{SameAt, SameWords, chain_words, chained_same}
use Rattle.meaning.specs.Parts.{entry_at}
use Rattle.meaning.specs.Writes.{entry-others, entry-put, with_field}
use Rattle.layout.specs.Written.{SameHead}
use Rattle.endings.specs.Leave.{HasEntries, leave_entry, leave_entries, left_descriptor, leave_group, leave_groups}
use Rattle.endings.specs.LeaveLaws.{length-left, left_other, left-same, left-next, leave_none}

-- ---- entries

pub record EntriesLeft (s s' : List ℕ) (p n : ℕ) : Type 0 where
  pub long : length s' ≡ length s
  pub head : SameHead s s'
  pub same : (m j : ℕ) → n ≤ m → SameAt s s' m j
  pub rest : (m r : ℕ) → n ≤ m → beyond s' m r ≡ beyond s m r
  pub left : (e : ℕ) → 1 ≤ e → e ≤ n → entry_at s' e ≡ entry_left p (entry_at s e)
  pub other : (e : ℕ) → 1 ≤ e → n < e → entry_at s e ≡ entry_at s' e

module _ (s : List ℕ) (p e : ℕ) (has : HasEntry s e) where
  once : List ℕ
  once = put_entry_word s e 1 (left_by p (entry_word s e 1))

  once-has : HasEntry once e
  unfolding once
  once-has = record { first = has.first; last = has.last; inside = let z = length-entry s e 1 (left_by p (entry_word s e 1)) has.first (lit< tt) in let h = has.inside in omega (arith, z, h) }

  pub leave-long : length (leave_entry s p e) ≡ length s
  unfolding leave_entry once
  leave-long = length-entry once e 2 (left_by p (entry_word s e 2)) has.first (lit< tt) ∙ length-entry s e 1 (left_by p (entry_word s e 1)) has.first (lit< tt)

  pub leave-head : SameHead s (leave_entry s p e)
  unfolding leave_entry once
  leave-head k h = entry-header once e 2 (left_by p (entry_word s e 2)) has.first (lit< tt) k h ∙ entry-header s e 1 (left_by p (entry_word s e 1)) has.first (lit< tt) k h

  pub leave_same : (m j : ℕ) → e ≤ m → SameAt s (leave_entry s p e) m j
  unfolding leave_entry once
  leave_same m j l = sym (entry-record once e 2 (left_by p (entry_word s e 2)) has.first (lit< tt) m j l ∙ entry-record s e 1 (left_by p (entry_word s e 1)) has.first (lit< tt) m j l)

  pub leave-rest : (m r : ℕ) → e ≤ m → beyond (leave_entry s p e) m r ≡ beyond s m r
  unfolding leave_entry once
  leave-rest m r l = entry-beyond once e 2 (left_by p (entry_word s e 2)) has.first (lit< tt) m r l ∙ entry-beyond s e 1 (left_by p (entry_word s e 1)) has.first (lit< tt) m r l

  pub leave-other : (d : ℕ) → 1 ≤ d → (d ≡ e → ⊥) → entry_at s d ≡ entry_at (leave_entry s p e) d
  unfolding leave_entry once
  leave-other d h n = entry-others s e 1 (left_by p (entry_word s e 1)) has (lit< tt) d h n ∙ entry-others once e 2 (left_by p (entry_word s e 2)) once-has (lit< tt) d h n

  pub leave-here : entry_at (leave_entry s p e) e ≡ entry_left p (entry_at s e)
  unfolding leave_entry once with_field
  leave-here =
      entry-put once e 2 (left_by p (entry_word s e 2)) once-has (lit< tt)
      ∙ ap (λ y. record { value = y.value; share = y.share; exclusive = left_by p (entry_word s e 2) }) (entry-put s e 1 (left_by p (entry_word s e 1)) has (lit< tt))

pub entries-left : (s : List ℕ) (p n : ℕ) → HasEntries s n → EntriesLeft s (leave_entries s p n) p n
unfolding leave_entries
entries-left s p zero h = record {
  long = refl;
  head = λ k l. refl;
  same = λ m j l. refl;
  rest = λ m r l. refl;
  left = λ e a b. absurd (omega (arith, a, b));
  other = λ e a b. refl;
}
entries-left s p (suc n) h = go (entries-left s p n (record { entries = omega (arith, h.entries); inside = omega (arith, h.inside) }))
  where
    go : EntriesLeft s (leave_entries s p n) p n → EntriesLeft s (leave_entry (leave_entries s p n) p (suc n)) p (suc n)
    go I =
        let t = leave_entries s p n in
        let has : HasEntry t (suc n) = record { first = omega arith; last = h.entries; inside = omega (arith, h.inside, I.long) } in
        record {
          long = leave-long t p (suc n) has ∙ I.long;
          head = λ k l. leave-head t p (suc n) has k l ∙ I.head k l;
          same = λ m j l. I.same m j (omega (arith, l)) ∙ leave_same t p (suc n) has m j l;
          rest = λ m r l. leave-rest t p (suc n) has m r l ∙ I.rest m r (omega (arith, l));
          left = λ e a b. one t I has e a b (ℕ_discrete e (suc n));
          other = λ e a b. I.other e a (omega (arith, b)) ∙ leave-other t p (suc n) has e a (λ q. omega (arith, q, b));
        }
      where
        one : (t : List ℕ) → EntriesLeft s t p n → HasEntry t (suc n) → (e : ℕ) → 1 ≤ e → e ≤ suc n → Dec (e ≡ suc n) → entry_at (leave_entry t p (suc n)) e ≡ entry_left p (entry_at s e)
        one t I has e a b (yes q) =
            subst (λ d. entry_at (leave_entry t p (suc n)) d ≡ entry_left p (entry_at s d)) (sym q) (leave-here t p (suc n) has ∙ ap (entry_left p) (sym (I.other (suc n) (omega arith) (omega arith))))
        one t I has e a b (no q) = sym (leave-other t p (suc n) has e a q) ∙ I.left e a (omega (arith, b, q))

-- The entries that are read.
pub entries-map : (f : Entry → Entry) (s s' : List ℕ) (e n : ℕ) → ((d : ℕ) → e ≤ d → d < e + n → entry_at s' d ≡ f (entry_at s d)) → entries_of s' e n ≡ map f (entries_of s e n)
entries-map f s s' e zero h = refl
entries-map f s s' e (suc n) h = ap₂ (λ x l. x ∷ l) (h e (omega arith) (omega arith)) (entries-map f s s' (suc e) n (λ d a b. h d (omega (arith, a)) (omega (arith, b))))

-- ---- descriptors

pub record GroupsLeft (s s' : List ℕ) (m p : ℕ) (W : List ℕ) : Type 0 where
  pub long : length s' ≡ length s
  pub head : SameHead s s'
  pub ents : (e : ℕ) → 1 ≤ e → e ≤ m → entry_at s e ≡ entry_at s' e
  pub same : (j : ℕ) → 1 ≤ j → Apart j W → SameAt s s' m j
  pub rest : (r : ℕ) → All (λ i. i ≤ r) W → beyond s' m r ≡ beyond s m r
  pub left : All (λ j. descriptor_at s' m j ≡ left_descriptor p (descriptor_at s m j)) W

module _ (s : List ℕ) (m p i : ℕ) (has : HasRecord s m i) where
  words : List ℕ
  words = encode_descriptor (left_descriptor p (descriptor_at s m i))

  whole : length words ≡ 20
  unfolding words
  whole = length-encode (left_descriptor p (descriptor_at s m i))

  group-head : SameHead s (leave_group s m p i)
  unfolding leave_group words
  group-head k h = record-header s m i words has whole k h

  group-ents : (e : ℕ) → 1 ≤ e → e ≤ m → entry_at s e ≡ entry_at (leave_group s m p i) e
  unfolding leave_group words
  group-ents e a b =
      let f : (k : ℕ) → k < entry_words → entry_word s e k ≡ entry_word (leave_group s m p i) e k = λ k l. sym (record-entry s m i words has whole e k a b l) in
      λ j. record { value = f 0 (lit< tt) j; share = f 1 (lit< tt) j; exclusive = f 2 (lit< tt) j }

  group-rest : (r : ℕ) → i ≤ r → beyond (leave_group s m p i) m r ≡ beyond s m r
  unfolding leave_group words
  group-rest r l = record-beyond s m i words has whole r l

  group-here : descriptor_at (leave_group s m p i) m i ≡ left_descriptor p (descriptor_at s m i)
  group-here = ap decode_descriptor (left-same s m p i has) ∙ decode-encode (left_descriptor p (descriptor_at s m i))

  group-one : GroupsLeft s (leave_group s m p i) m p (i ∷ [])
  group-one = record {
    long = length-left s m p i has;
    head = group-head;
    ents = group-ents;
    same = λ j h a. sym (left_other s m p i has j h (λ e. a.0 (sym e)));
    rest = λ r a. group-rest r a.0;
    left = (group-here, tt);
  }

groups-then : (s t u : List ℕ) (m p i : ℕ) (W : List ℕ) → GroupsLeft s t m p (i ∷ []) → GroupsLeft t u m p W → 1 ≤ i → All (λ j. 1 ≤ j) W → Apart i W → GroupsLeft s u m p (i ∷ W)
groups-then s t u m p i W A B one low out = record {
  long = B.long ∙ A.long;
  head = λ k h. B.head k h ∙ A.head k h;
  ents = λ e a b. A.ents e a b ∙ B.ents e a b;
  same = λ j h a. A.same j h (a.0, tt) ∙ B.same j h a.1;
  rest = λ r a. B.rest r a.1 ∙ A.rest r (a.0, tt);
  left = (ap decode_descriptor (sym (B.same i one out)) ∙ A.left.0, behind);
}
  where
    behind : All (λ j. descriptor_at u m j ≡ left_descriptor p (descriptor_at s m j)) W
    behind =
        all_both {P = λ j. descriptor_at u m j ≡ left_descriptor p (descriptor_at t m j)} {Q = λ j. (1 ≤ j) × (i ≡ j → ⊥)} {R = λ j. descriptor_at u m j ≡ left_descriptor p (descriptor_at s m j)}
        (λ j e q. e ∙ ap (λ v. left_descriptor p (decode_descriptor v)) (sym (A.same j q.0 (λ z. q.1 (sym z), tt)))) W B.left
        (all_both {P = λ j. 1 ≤ j} {Q = λ j. i ≡ j → ⊥} {R = λ j. (1 ≤ j) × (i ≡ j → ⊥)} (λ j a b. (a, b)) W low (apart-all i W out))

leave-more : (s : List ℕ) (m p n i j : ℕ) → ¬ (i ≡ 0) → i ≡ j → leave_groups s m p (suc n) i ≡ leave_groups (leave_group s m p j) m p n (word_of s m j 0)
unfolding leave_groups
leave-more s m p n i j ne e =
    ap (λ b. cond b s (leave_groups (leave_group s m p i) m p n (word_of s m i 0))) (ne_eqb i 0 ne) ∙ ap (λ k. leave_groups (leave_group s m p k) m p n (word_of s m k 0)) e

pub groups-left : (s : List ℕ) (m p : ℕ) (W : List ℕ) (n i : ℕ) → Chained s m i W → All (HasRecord s m) W → Once W → length W ≤ n → GroupsLeft s (leave_groups s m p n i) m p W
groups-left s m p [] n i c h o b =
    let e : leave_groups s m p n i ≡ s = ap (leave_groups s m p n) c ∙ leave_none s m p n in
    subst (λ z. GroupsLeft s z m p []) (sym e)
    (record { long = refl; head = λ k l. refl; ents = λ d a l. refl; same = λ j l a. refl; rest = λ r a. refl; left = tt })
groups-left s m p (j ∷ W) zero i c h o b = absurd (omega (arith, b))
groups-left s m p (j ∷ W) (suc n) i c h o b =
    let t = leave_group s m p j in
    let has = h.0 in
    let low : All (λ k. 1 ≤ k) W = all-as {P = HasRecord s m} {Q = λ k. 1 ≤ k} (λ k z. z.first) W h.1 in
    let words : All (SameWords s t m chain_words) W = all-as {P = λ k. 1 ≤ k} {Q = SameWords s t m chain_words} (λ k l. (sym (left-next s m p j has k l), tt)) W low in
    let next : Chained t m (word_of s m j 0) W = subst (λ k. Chained t m (word_of s m k 0) W) c.0 (chained_same s t m (word_of s m i 0) W words c.2) in
    let there : All (HasRecord t m) W = all-as {P = HasRecord s m} {Q = HasRecord t m} (λ k z. has_kept z (length-left s m p j has)) W h.1 in
    let I = groups-left t m p W n (word_of s m j 0) next there o.1 (omega (arith, b)) in
    subst (λ z. GroupsLeft s z m p (j ∷ W)) (sym (leave-more s m p n i j c.1 c.0))
    (groups-then s t (leave_groups t m p n (word_of s m j 0)) m p j W (group-one s m p j has) I has.first low o.0)
