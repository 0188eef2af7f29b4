-- The words of a group: a record becomes the first member of a descriptor, a member is taken out. What is written, and that the members fit then.
use Rattle.std.specs.Prelude.{◌≡◌, Bool, true, false, ◌||◌, List, [], ◌∷◌, ◌++◌, ℕ, ◌≤◌, ◌<◌, eqb, length, set}
use Rattle.std.proofs.Math.Path.{refl, sym, ap, subst}
use Rattle.std.proofs.Common.{ap₂, ◌∙◌, inl, inr, arith, lit<, length-set, eq-eqb, ne_eqb}
use Rattle.std.proofs.Math.Bool.{cond}
use Rattle.std.proofs.lemmas.List.{map-append}
use Rattle.std.proofs.Math.Decide.{ℕ_discrete}
use Rattle.std.proofs.Math.ListN.{get_or}
use Rattle.std.proofs.Math.Seq.{get_or-set_same}
use Rattle.words.specs.Store.{HasRecord, record_at, put_record, word_of, beyond, has_kept, length-record, length-put_record, record_same, record-other}
use Rattle.words.specs.Header.{header_word, entries_place, records_place, free_place}
use Rattle.words.specs.Frames.{length-header, header-same, header-other, header-entry, header-record, header-beyond, record-header, record-entry, record-beyond}
use Rattle.groups.specs.declared.Membership.{Membership}
use Rattle.groups.specs.Descriptor as D
use Rattle.groups.specs.Descriptor.{encode_descriptor, decode_descriptor, descriptor_at, put_descriptor, with_first_member}
use Rattle.groups.specs.Membership as B
use Rattle.groups.specs.Membership.{encode_membership, decode_membership, membership_at, put_membership, with_next_member, with_member_before}
use Rattle.chain.specs.Free.{push_free}
use Rattle.serial.specs.Serial.{true≢false}
use Rattle.machine.specs.Logic.{eqb_is, eqb-not}
use Rattle.machine.specs.Holders.{elem}
use Rattle.machine.specs.State.{with_member, without_member}
use Rattle.machine.specs.Sound.{times}
use Rattle.machine.specs.Keys.{elem-with}
use Rattle.meaning.specs.Reading.{Chained, gather, Leaf, M-of, R-of}
use Rattle.meaning.specs.Sound.{All, Apart, Once, Linked, Lists, set_list}
use Rattle.meaning.specs.Numbers.{In, all_in, all_append, all_left, all_right, all_both, all_from, apart-left, apart-right, not_in, once-mid, once-out, once-apart, all_map, one-is, apart-times}
use Rattle.meaning.specs.Frame.{SameAt, SameWords, same-words, member_words, chain-push}
use Rattle.meaning.specs.Parts.{entry_at}
use Rattle.meaning.specs.Grouping.{MemberAdded, added-from, added-chained, added-linked, MemberOut, out-from, out-chained, out-linked, last, linked-last, chained-behind, gather-out}
use Rattle.layout.specs.Layout.{firsts, seconds, DescFits, GroupFits, member_of}
use Rattle.layout.specs.Written.{Written}
use Rattle.layout.specs.Groups.{put_at}
use Rattle.members.specs.Members.{Puttable, Takeable, first_member, put_before, put_next, put_member, take_member, before-none, before-some, next-first, next-later}

-- ---- several writes of records

-- Only records of W may be others, and only header words of H; entries are the same.
pub record Changed (s s' : List ℕ) (m r : ℕ) (H W : List ℕ) : Type 0 where
  pub long : length s' ≡ length s
  pub head : (k : ℕ) → k < 16 → Apart k H → header_word s' k ≡ header_word s k
  pub same : (j : ℕ) → 1 ≤ j → Apart j W → SameAt s s' m j
  pub entries : (e : ℕ) → 1 ≤ e → e ≤ m → entry_at s e ≡ entry_at s' e
  pub rest : beyond s' m r ≡ beyond s m r

-- A record is in the store, among the first r.
pub record Within (s : List ℕ) (m r i : ℕ) : Type 0 where
  pub has : HasRecord s m i
  pub among : i ≤ r

pub within-kept : {s s' : List ℕ} {m r i : ℕ} → length s' ≡ length s → Within s m r i → Within s' m r i
within-kept e w = record { has = has_kept w.has e; among = w.among }

pub changed-none : (s : List ℕ) (m r : ℕ) (H W : List ℕ) → Changed s s m r H W
changed-none s m r H W = record { long = refl; head = λ k h a. refl; same = λ j h a. refl; entries = λ e a b. refl; rest = refl }

pub changed_then : (s s' s'' : List ℕ) (m r : ℕ) (H U W : List ℕ) → Changed s s' m r H U → Changed s' s'' m r H W → Changed s s'' m r H (U ++ W)
changed_then s s' s'' m r H U W A C = record {
  long = C.long ∙ A.long;
  head = λ k h a. C.head k h a ∙ A.head k h a;
  same = λ j h a. A.same j h (apart-left j U W a) ∙ C.same j h (apart-right j U W a);
  entries = λ e a b. A.entries e a b ∙ C.entries e a b;
  rest = C.rest ∙ A.rest;
}

-- More may be others.
pub changed-wide : (s s' : List ℕ) (m r : ℕ) (H G U W : List ℕ) → Changed s s' m r H U → ((k : ℕ) → Apart k G → Apart k H) → ((j : ℕ) → 1 ≤ j → Apart j W → Apart j U)
    → Changed s s' m r G W
changed-wide s s' m r H G U W A f g =
    record { long = A.long; head = λ k h a. A.head k h (f k a); same = λ j h a. A.same j h (g j h a); entries = A.entries; rest = A.rest }

pub changed-written : (s s' W : List ℕ) → Changed s s' (M-of s) (R-of s) (free_place ∷ []) W → Written s s' W
changed-written s s' W A = record {
  long = A.long;
  entries = A.head entries_place (lit< tt) (λ e. omega (arith, e), tt);
  records = A.head records_place (lit< tt) (λ e. omega (arith, e), tt);
  same = A.same;
  rest = A.rest;
}

module _ (s : List ℕ) (m r i : ℕ) (w : List ℕ) (in_store : Within s m r i) (whole : length w ≡ 20) where
  pub put-changed : Changed s (put_record s m i w) m r [] (i ∷ [])
  put-changed = record {
    long = length-put_record s m i w in_store.has whole;
    head = λ k h a. record-header s m i w in_store.has whole k h;
    same = λ j h a. sym (record-other s m i w in_store.has whole j h (λ e. a.0 (sym e)));
    entries = λ e a b. λ z. record {
      value = sym (record-entry s m i w in_store.has whole e 0 a b (lit< tt)) z;
      share = sym (record-entry s m i w in_store.has whole e 1 a b (lit< tt)) z;
      exclusive = sym (record-entry s m i w in_store.has whole e 2 a b (lit< tt)) z;
    };
    rest = record-beyond s m i w in_store.has whole r in_store.among;
  }

  pub put_word : (k : ℕ) → word_of (put_record s m i w) m i k ≡ get_or w k 0
  put_word k = ap (λ v. get_or v k 0) (record_same s m i w in_store.has whole)

-- A record is given back to the free chain.
module _ (s : List ℕ) (m r i : ℕ) (in_store : Within s m r i) where
  linked : List ℕ
  linked = put_record s m i (set (record_at s m i) 0 (header_word s free_place))

  whole-linked : length (set (record_at s m i) 0 (header_word s free_place)) ≡ 20
  whole-linked = length-set (record_at s m i) 0 (header_word s free_place) ∙ length-record s m i

  pub push-changed : Changed s (push_free s m i) m r (free_place ∷ []) (i ∷ [])
  unfolding push_free linked
  push-changed =
      let A = put-changed s m r i (set (record_at s m i) 0 (header_word s free_place)) in_store whole-linked in
      record {
        long = length-header linked free_place i (lit< tt) ∙ A.long;
        head = λ k h a. header-other linked free_place i (lit< tt) k a.0 ∙ A.head k h tt;
        same = λ j h a. A.same j h a ∙ sym (header-record linked free_place i (lit< tt) m j);
        entries = λ e a b. A.entries e a b ∙ (λ z. record {
          value = sym (header-entry linked free_place i (lit< tt) e 0) z;
          share = sym (header-entry linked free_place i (lit< tt) e 1) z;
          exclusive = sym (header-entry linked free_place i (lit< tt) e 2) z;
        });
        rest = header-beyond linked free_place i (lit< tt) m r ∙ A.rest;
      }

  pub push-first : 16 ≤ length s → header_word (push_free s m i) free_place ≡ i
  unfolding push_free linked
  push-first l = header-same linked free_place i (lit< tt) (subst (λ n. 16 ≤ n) (sym (length-put_record s m i (set (record_at s m i) 0 (header_word s free_place)) in_store.has whole-linked)) l)

  pub push-link : word_of (push_free s m i) m i 0 ≡ header_word s free_place
  unfolding push_free linked
  push-link =
      ap (λ v. get_or v 0 0) (header-record linked free_place i (lit< tt) m i ∙ record_same s m i (set (record_at s m i) 0 (header_word s free_place)) in_store.has whole-linked)
      ∙ get_or-set_same (record_at s m i) 0 (header_word s free_place) 0 (let k = length-record s m i in omega arith)

  -- It is the first of the free records.
  pub push-chained : 16 ≤ length s → (f : List ℕ) → Chained s m (header_word s free_place) f → All (λ j. 1 ≤ j) f → Apart i f
      → Chained (push_free s m i) m (header_word (push_free s m i) free_place) (i ∷ f)
  push-chained l f c low out =
      subst (λ x. Chained (push_free s m i) m x (i ∷ f)) (sym (push-first l))
      (chain-push s (push_free s m i) m i (header_word s free_place) f c
      (all_from f (λ j h. (ap (λ v. get_or v 0 0) (push-changed.same j (all_in (λ j. 1 ≤ j) f low j h) ((λ e. not_in i f out (subst (λ x. In x f) e h)), tt)), tt)))
      push-link (λ e. let h = in_store.has.first in omega (arith, e, h)))

-- ---- the links

-- The first record of a chain is one of it.
pub first-in : (s : List ℕ) (m x : ℕ) (l : List ℕ) → Chained s m x l → ¬ (x ≡ 0) → In x l
first-in s m x [] c n = absurd (n c)
first-in s m x (j ∷ l) c n = inl c.0

pub not_first : (s : List ℕ) (m x j : ℕ) (l : List ℕ) → Chained s m x l → Apart j l → 1 ≤ j → ¬ (j ≡ x)
not_first s m x j [] c n z e = omega (arith, e, c, z)
not_first s m x j (q ∷ l) c n z e = n.0 (e ∙ c.0)

-- Membership n, if there is one, gets k before it.
module _ (s : List ℕ) (m r n : ℕ) (b : Membership) (k : ℕ) where
  pub before-changed : (¬ (n ≡ 0) → Within s m r n) → Changed s (put_before s m n b k) m r [] (n ∷ [])
  before-changed has = go (ℕ_discrete n 0)
    where
      go : Dec (n ≡ 0) → Changed s (put_before s m n b k) m r [] (n ∷ [])
      go (yes e) = subst (λ z. Changed s z m r [] (n ∷ [])) (before-none s m b k e) (changed-none s m r [] (n ∷ []))
      go (no e) = subst (λ z. Changed s z m r [] (n ∷ [])) (sym (before-some s m b k e)) (put-changed s m r n (encode_membership (with_member_before b k)) (has e) (B.length-encode (with_member_before b k)))

  pub before-record : ¬ (n ≡ 0) → Within s m r n → (v : ℕ) → word_of (put_before s m n b k) m n v ≡ get_or (encode_membership (with_member_before b k)) v 0
  before-record e has v =
      ap (λ z. word_of z m n v) (before-some s m b k e) ∙ put_word s m r n (encode_membership (with_member_before b k)) has (B.length-encode (with_member_before b k)) v

-- What follows membership b, or is the first of descriptor d where b is 0, is n.
module _ (s : List ℕ) (m r d b n : ℕ) (hd : Within s m r d) where
  pub next-changed : (¬ (b ≡ 0) → Within s m r b) → Changed s (put_next s m d b n) m r [] (d ∷ b ∷ [])
  next-changed has = go (ℕ_discrete b 0)
    where
      go : Dec (b ≡ 0) → Changed s (put_next s m d b n) m r [] (d ∷ b ∷ [])
      go (yes e) = subst (λ z. Changed s z m r [] (d ∷ b ∷ [])) (sym (next-first s m d n e))
          (changed-wide s (put_descriptor s m d (with_first_member (descriptor_at s m d) n)) m r [] [] (d ∷ []) (d ∷ b ∷ [])
          (put-changed s m r d (encode_descriptor (with_first_member (descriptor_at s m d) n)) hd (D.length-encode (with_first_member (descriptor_at s m d) n))) (λ k a. a) (λ j h a. (a.0, tt)))
      go (no e) = subst (λ z. Changed s z m r [] (d ∷ b ∷ [])) (sym (next-later s m d n e))
          (changed-wide s (put_membership s m b (with_next_member (membership_at s m b) n)) m r [] [] (b ∷ []) (d ∷ b ∷ [])
          (put-changed s m r b (encode_membership (with_next_member (membership_at s m b) n)) (has e) (B.length-encode (with_next_member (membership_at s m b) n))) (λ k a. a) (λ j h a. (a.1.0, tt)))

  -- Words of the descriptor.
  pub next_desc : ¬ (d ≡ b) → (¬ (b ≡ 0) → Within s m r b) → SameWords s (put_next s m d b n) m (0 ∷ 1 ∷ 2 ∷ 3 ∷ 4 ∷ 5 ∷ []) d
  unfolding encode_descriptor decode_descriptor with_first_member
  next_desc ne has = go (ℕ_discrete b 0)
    where
      go : Dec (b ≡ 0) → SameWords s (put_next s m d b n) m (0 ∷ 1 ∷ 2 ∷ 3 ∷ 4 ∷ 5 ∷ []) d
      go (yes e) =
          let w = put_word s m r d (encode_descriptor (with_first_member (descriptor_at s m d) n)) hd (D.length-encode (with_first_member (descriptor_at s m d) n)) in
          subst (λ z. SameWords s z m (0 ∷ 1 ∷ 2 ∷ 3 ∷ 4 ∷ 5 ∷ []) d) (sym (next-first s m d n e)) (sym (w 0), (sym (w 1), (sym (w 2), (sym (w 3), (sym (w 4), (sym (w 5), tt))))))
      go (no e) = same-words s (put_next s m d b n) m (0 ∷ 1 ∷ 2 ∷ 3 ∷ 4 ∷ 5 ∷ []) d
          (subst (λ z. SameAt s z m d) (sym (next-later s m d n e))
          ((put-changed s m r b (encode_membership (with_next_member (membership_at s m b) n)) (has e) (B.length-encode (with_next_member (membership_at s m b) n))).same d hd.has.first (ne, tt)))

  pub next-six : ¬ (d ≡ b) → (¬ (b ≡ 0) → Within s m r b) → word_of (put_next s m d b n) m d 6 ≡ cond (eqb b 0) n (word_of s m d 6)
  unfolding encode_descriptor decode_descriptor with_first_member
  next-six ne has = go (ℕ_discrete b 0)
    where
      go : Dec (b ≡ 0) → word_of (put_next s m d b n) m d 6 ≡ cond (eqb b 0) n (word_of s m d 6)
      go (yes e) = ap (λ z. word_of z m d 6) (next-first s m d n e)
          ∙ put_word s m r d (encode_descriptor (with_first_member (descriptor_at s m d) n)) hd (D.length-encode (with_first_member (descriptor_at s m d) n)) 6
          ∙ sym (ap (λ (z : Bool). cond z n (word_of s m d 6)) (eq-eqb b 0 e))
      go (no e) = ap (λ z. word_of z m d 6) (next-later s m d n e)
          ∙ sym (ap (λ v. get_or v 6 0) ((put-changed s m r b (encode_membership (with_next_member (membership_at s m b) n)) (has e) (B.length-encode (with_next_member (membership_at s m b) n))).same d hd.has.first (ne, tt)))
          ∙ sym (ap (λ (z : Bool). cond z n (word_of s m d 6)) (ne_eqb b 0 e))

  -- Words of the membership before.
  pub next-words : ¬ (b ≡ 0) → Within s m r b → (word_of (put_next s m d b n) m b 0 ≡ n) × SameWords s (put_next s m d b n) m (1 ∷ 2 ∷ []) b
  unfolding encode_membership decode_membership with_next_member
  next-words e has =
      let w = put_word s m r b (encode_membership (with_next_member (membership_at s m b) n)) has (B.length-encode (with_next_member (membership_at s m b) n)) in
      let q = next-later s m d n e in
      (ap (λ z. word_of z m b 0) q ∙ w 0, (sym (ap (λ z. word_of z m b 1) q ∙ w 1), (sym (ap (λ z. word_of z m b 2) q ∙ w 2), tt)))

-- ---- one more

-- Record i becomes the first member of descriptor d, for entry e; l are the members that it has.
module _ (s : List ℕ) (m r d i e : ℕ) (l : List ℕ) (was : Chained s m (word_of s m d 6) l) (out-d : Apart d l) (out-i : Apart i l) (ne : ¬ (i ≡ d))
    (in_store : All (Within s m r) (d ∷ i ∷ l)) where
  abbrev f : ℕ
  f = word_of s m d 6

  hd : Within s m r d
  hd = in_store.0

  hi : Within s m r i
  hi = in_store.1.0

  -- With the new membership; with the old first one behind it.
  s1 : List ℕ
  s1 = put_membership s m i (first_member f e)

  s2 : List ℕ
  s2 = put_before s1 m f (membership_at s m f) i

  s3 : List ℕ
  s3 = put_descriptor s2 m d (with_first_member (descriptor_at s m d) i)

  put_is : s3 ≡ put_member s m d i e
  unfolding put_member decode_descriptor s3 s2 s1
  put_is = refl

  not_f : ¬ (i ≡ f)
  not_f = not_first s m f i l was out-i hi.has.first

  not-d : ¬ (d ≡ f)
  not-d = not_first s m f d l was out-d hd.has.first

  c1 : Changed s s1 m r [] (i ∷ [])
  unfolding s1
  c1 = put-changed s m r i (encode_membership (first_member f e)) hi (B.length-encode (first_member f e))

  hf : ¬ (f ≡ 0) → Within s m r f
  hf n = all_in (Within s m r) l in_store.1.1 f (first-in s m f l was n)

  c2 : Changed s1 s2 m r [] (f ∷ [])
  unfolding s2
  c2 = before-changed s1 m r f (membership_at s m f) i (λ n. within-kept c1.long (hf n))

  c12 : Changed s s2 m r [] (i ∷ f ∷ [])
  c12 = changed_then s s1 s2 m r [] (i ∷ []) (f ∷ []) c1 c2

  hd2 : Within s2 m r d
  hd2 = within-kept c12.long hd

  c3 : Changed s2 s3 m r [] (d ∷ [])
  unfolding s3
  c3 = put-changed s2 m r d (encode_descriptor (with_first_member (descriptor_at s m d) i)) hd2 (D.length-encode (with_first_member (descriptor_at s m d) i))

  c123 : Changed s s3 m r [] (d ∷ i ∷ l)
  c123 = changed-wide s s3 m r [] [] (i ∷ f ∷ d ∷ []) (d ∷ i ∷ l) (changed_then s s2 s3 m r [] (i ∷ f ∷ []) (d ∷ []) c12 c3) (λ k a. a)
      (λ j h a. (a.1.0, (not_first s m f j l was a.1.1 h, (a.0, tt))))

  -- The words of the descriptor, of the new membership and of the old first one.
  word-d : (k : ℕ) → word_of s3 m d k ≡ get_or (encode_descriptor (with_first_member (descriptor_at s m d) i)) k 0
  unfolding s3
  word-d = put_word s2 m r d (encode_descriptor (with_first_member (descriptor_at s m d) i)) hd2 (D.length-encode (with_first_member (descriptor_at s m d) i))

  same-i : SameAt s1 s3 m i
  same-i = c2.same i hi.has.first (not_f, tt) ∙ c3.same i hi.has.first (ne, tt)

  word-i : (k : ℕ) → word_of s3 m i k ≡ get_or (encode_membership (first_member f e)) k 0
  word-i k = sym (ap (λ v. get_or v k 0) same-i) ∙ at-s1 k
    where
      at-s1 : (k : ℕ) → word_of s1 m i k ≡ get_or (encode_membership (first_member f e)) k 0
      at-s1 = unfold s1 in (put_word s m r i (encode_membership (first_member f e)) hi (B.length-encode (first_member f e)))

  word-f : ¬ (f ≡ 0) → (k : ℕ) → word_of s3 m f k ≡ get_or (encode_membership (with_member_before (membership_at s m f) i)) k 0
  word-f n k = sym (ap (λ v. get_or v k 0) (c3.same f (hf n).has.first ((λ q. not-d (sym q)), tt))) ∙ at-s2
    where
      at-s2 : word_of s2 m f k ≡ get_or (encode_membership (with_member_before (membership_at s m f) i)) k 0
      at-s2 = unfold s2 in (before-record s1 m r f (membership_at s m f) i n (within-kept c1.long (hf n)) k)

  others_same : All (λ j. ¬ (j ≡ f) → SameAt s s3 m j) l
  others_same = all_from l (λ j h n.
      let low = (all_in (Within s m r) l in_store.1.1 j h).has.first in
      let a : Apart j (d ∷ i ∷ []) = ((λ q. not_in d l out-d (subst (λ x. In x l) q h)), ((λ q. not_in i l out-i (subst (λ x. In x l) q h)), tt)) in
      c12.same j low (a.1.0, (n, tt)) ∙ c3.same j low (a.0, tt))

  added3 : SameWords s s3 m (0 ∷ 1 ∷ 2 ∷ 3 ∷ 4 ∷ 5 ∷ []) d × MemberAdded s s3 m d i e l
  unfolding encode_descriptor decode_descriptor with_first_member encode_membership decode_membership with_member_before first_member
  added3 =
      let w : SameWords s s3 m (1 ∷ 2 ∷ 3 ∷ 4 ∷ 5 ∷ []) d = (sym (word-d 1), (sym (word-d 2), (sym (word-d 3), (sym (word-d 4), (sym (word-d 5), tt))))) in (
        (sym (word-d 0), w),
        added-from s s3 m d i e l was w (word-d 6) (word-i 0) (word-i 1) (word-i 2) (λ n. ((sym (word-f n 0), (sym (word-f n 2), tt)), word-f n 1)) others_same,
      )

  pub put-desc : SameWords s (put_member s m d i e) m (0 ∷ 1 ∷ 2 ∷ 3 ∷ 4 ∷ 5 ∷ []) d
  put-desc = subst (λ z. SameWords s z m (0 ∷ 1 ∷ 2 ∷ 3 ∷ 4 ∷ 5 ∷ []) d) put_is added3.0

  pub put-added : MemberAdded s (put_member s m d i e) m d i e l
  put-added = subst (λ z. MemberAdded s z m d i e l) put_is added3.1

  pub put-member-changed : Changed s (put_member s m d i e) m r [] (d ∷ i ∷ l)
  put-member-changed = subst (λ z. Changed s z m r [] (d ∷ i ∷ l)) put_is c123

  pub put-able : Puttable s m d i
  unfolding decode_descriptor
  put-able = record { descriptor = hd.has; own = hi.has; first = λ n. (hf n).has }

-- ---- one less

last-in : (j : ℕ) (a : List ℕ) → In (last j a) (j ∷ a)
last-in j [] = inl refl
last-in j (q ∷ a) = inr (last-in q a)

in_left : (j : ℕ) (a b : List ℕ) → In j a → In j (a ++ b)
in_left j [] b x' = elim x' [ ]
in_left j (i ∷ a) b (inl e) = inl e
in_left j (i ∷ a) b (inr h) = inr (in_left j a b h)

in_right : (j : ℕ) (a b : List ℕ) → In j b → In j (a ++ b)
in_right j [] b h = h
in_right j (i ∷ a) b h = inr (in_right j a b h)

in-out : (j : ℕ) (a : List ℕ) (i : ℕ) (b : List ℕ) → In j (a ++ b) → In j (a ++ i ∷ b)
in-out j [] i b h = inr h
in-out j (x ∷ a) i b (inl e) = inl e
in-out j (x ∷ a) i b (inr h) = inr (in-out j a i b h)

-- Member i is taken out of the group of descriptor d; a are those before it, b those behind it.
module _ (s : List ℕ) (m r d i : ℕ) (a b : List ℕ) (was : Chained s m (word_of s m d 6) (a ++ i ∷ b)) (linked-so : Linked s m 0 (a ++ i ∷ b)) (once : Once (a ++ i ∷ b))
    (out-d : Apart d (a ++ i ∷ b)) (in_store : All (Within s m r) (d ∷ (a ++ i ∷ b))) where
  abbrev p : ℕ
  p = word_of s m i 1

  abbrev n : ℕ
  n = word_of s m i 0

  od : Within s m r d
  od = in_store.0

  -- What is before it is one of a, what is behind it one of b, if there is any.
  before-in : ¬ (p ≡ 0) → In p a
  before-in z = go a (linked-last s m 0 a i b linked-so)
    where
      go : (a : List ℕ) → p ≡ last 0 a → In p a
      go [] e = absurd (z e)
      go (j ∷ a) e = subst (λ x. In x (j ∷ a)) (sym e) (last-in j a)

  behind-in : ¬ (n ≡ 0) → In n b
  behind-in z = first-in s m n b (chained-behind s m (word_of s m d 6) a i b was) z

  op : ¬ (p ≡ 0) → Within s m r p
  op z = all_in (Within s m r) (a ++ i ∷ b) in_store.1 p (in_left p a (i ∷ b) (before-in z))

  on : ¬ (n ≡ 0) → Within s m r n
  on z = all_in (Within s m r) (a ++ i ∷ b) in_store.1 n (in_right n a (i ∷ b) (inr (behind-in z)))

  d-not-p : ¬ (d ≡ p)
  d-not-p e = go (ℕ_discrete p 0)
    where
      go : Dec (p ≡ 0) → ⊥
      go (yes z) = omega (arith, e, z, od.has.first)
      go (no z) = not_in d (a ++ i ∷ b) out-d (subst (λ x. In x (a ++ i ∷ b)) (sym e) (in_left p a (i ∷ b) (before-in z)))

  d-not-n : ¬ (d ≡ n)
  d-not-n e = go (ℕ_discrete n 0)
    where
      go : Dec (n ≡ 0) → ⊥
      go (yes z) = omega (arith, e, z, od.has.first)
      go (no z) = not_in d (a ++ i ∷ b) out-d (subst (λ x. In x (a ++ i ∷ b)) (sym e) (in_right n a (i ∷ b) (inr (behind-in z))))

  p-not-n : ¬ (p ≡ 0) → ¬ (p ≡ n)
  p-not-n z e = not_in p b (once-apart a (i ∷ b) once p (before-in z)).1 (subst (λ x. In x b) (sym e) (behind-in (λ y. z (e ∙ y))))

  t1 : List ℕ
  t1 = put_next s m d p n

  t2 : List ℕ
  t2 = put_before t1 m n (membership_at s m n) p

  take-is : t2 ≡ take_member s m d i
  unfolding take_member decode_membership t2 t1
  take-is = refl

  k1 : Changed s t1 m r [] (d ∷ p ∷ [])
  unfolding t1
  k1 = next-changed s m r d p n od op

  on1 : ¬ (n ≡ 0) → Within t1 m r n
  on1 z = within-kept k1.long (on z)

  k2 : Changed t1 t2 m r [] (n ∷ [])
  unfolding t2
  k2 = before-changed t1 m r n (membership_at s m n) p on1

  k12 : Changed s t2 m r [] (d ∷ p ∷ n ∷ [])
  k12 = changed_then s t1 t2 m r [] (d ∷ p ∷ []) (n ∷ []) k1 k2

  k-wide : Changed s t2 m r [] (d ∷ (a ++ b))
  k-wide = changed-wide s t2 m r [] [] (d ∷ p ∷ n ∷ []) (d ∷ (a ++ b)) k12 (λ k x. x) (λ j h x. (x.0, (off-p j h x.1, (off_n j h x.1, tt))))
    where
      off-p : (j : ℕ) → 1 ≤ j → Apart j (a ++ b) → ¬ (j ≡ p)
      off-p j h x e = go (ℕ_discrete p 0)
        where
          go : Dec (p ≡ 0) → ⊥
          go (yes z) = omega (arith, e, z, h)
          go (no z) = not_in j (a ++ b) x (subst (λ x. In x (a ++ b)) (sym e) (in_left p a b (before-in z)))

      off_n : (j : ℕ) → 1 ≤ j → Apart j (a ++ b) → ¬ (j ≡ n)
      off_n j h x = not_first s m n j b (chained-behind s m (word_of s m d 6) a i b was) (apart-right j a b x) h

  -- The words of the descriptor and of the neighbours.
  d-same : SameAt t1 t2 m d
  d-same = k2.same d od.has.first (d-not-n, tt)

  d-words : SameWords s t2 m (0 ∷ 1 ∷ 2 ∷ 3 ∷ 4 ∷ 5 ∷ []) d
  d-words = all_both {P = λ k. word_of s m d k ≡ word_of t1 m d k} {Q = λ k. word_of t1 m d k ≡ word_of t2 m d k} {R = λ k. word_of s m d k ≡ word_of t2 m d k} (λ k x y. x ∙ y)
      (0 ∷ 1 ∷ 2 ∷ 3 ∷ 4 ∷ 5 ∷ []) (unfold t1 in (next_desc s m r d p n od d-not-p op)) (same-words t1 t2 m (0 ∷ 1 ∷ 2 ∷ 3 ∷ 4 ∷ 5 ∷ []) d d-same)

  d-six : word_of t2 m d 6 ≡ cond (eqb p 0) n (word_of s m d 6)
  d-six = sym (ap (λ v. get_or v 6 0) d-same) ∙ unfold t1 in (next-six s m r d p n od d-not-p op)

  p-words : ¬ (p ≡ 0) → (word_of t2 m p 0 ≡ n) × SameWords s t2 m (1 ∷ 2 ∷ []) p
  p-words z =
      let w : (word_of t1 m p 0 ≡ n) × SameWords s t1 m (1 ∷ 2 ∷ []) p = unfold t1 in (next-words s m r d p n od z (op z)) in
      let e : SameAt t1 t2 m p = k2.same p (op z).has.first (p-not-n z, tt) in
      (sym (ap (λ v. get_or v 0 0) e) ∙ w.0, (w.1.0 ∙ ap (λ v. get_or v 1 0) e, (w.1.1.0 ∙ ap (λ v. get_or v 2 0) e, tt)))

  n-words : ¬ (n ≡ 0) → (word_of t2 m n 1 ≡ p) × SameWords s t2 m (0 ∷ 2 ∷ []) n
  unfolding encode_membership decode_membership with_member_before
  n-words z =
      let w : (k : ℕ) → word_of t2 m n k ≡ get_or (encode_membership (with_member_before (membership_at s m n) p)) k 0 = λ k. unfold t2 in (before-record t1 m r n (membership_at s m n) p z (on1 z) k) in
      (w 1, (sym (w 0), (sym (w 2), tt)))

  rest-same : All (λ j. ¬ (j ≡ p) → ¬ (j ≡ n) → SameAt s t2 m j) (a ++ b)
  rest-same = all_from (a ++ b) (λ j h x y.
      let here = in-out j a i b h in
      k12.same j (all_in (Within s m r) (a ++ i ∷ b) in_store.1 j here).has.first ((λ q. not_in d (a ++ i ∷ b) out-d (subst (λ x. In x (a ++ i ∷ b)) q here)), (x, (y, tt))))

  out2 : MemberOut s t2 m d i a b
  out2 = out-from s t2 m d i a b was linked-so once d-words.1 d-six p-words n-words rest-same

  pub take_desc : SameWords s (take_member s m d i) m (0 ∷ 1 ∷ 2 ∷ 3 ∷ 4 ∷ 5 ∷ []) d
  take_desc = subst (λ z. SameWords s z m (0 ∷ 1 ∷ 2 ∷ 3 ∷ 4 ∷ 5 ∷ []) d) take-is d-words

  pub take_out : MemberOut s (take_member s m d i) m d i a b
  take_out = subst (λ z. MemberOut s z m d i a b) take-is out2

  pub take-member-changed : Changed s (take_member s m d i) m r [] (d ∷ (a ++ b))
  take-member-changed = subst (λ z. Changed s z m r [] (d ∷ (a ++ b))) take-is k-wide

  pub take-able : Takeable s m d i
  unfolding decode_membership
  take-able = record { descriptor = od.has; own = (all_in (Within s m r) (a ++ i ∷ b) in_store.1 i (in_right i a (i ∷ b) (inl refl))).has; before = λ z. (op z).has; next = λ z. (on z).has }

-- ---- members by record and entry

-- The descriptor's other words are the same.
pub desc-words-fit : (s s' : List ℕ) (m : ℕ) (l l' : Leaf) → l'.num ≡ l.num → l'.desc.key ≡ l.desc.key → l'.desc.locate ≡ l.desc.locate → l'.desc.update ≡ l.desc.update
    → l'.desc.gap ≡ l.desc.gap → l'.desc.pins ≡ l.desc.pins → SameWords s s' m (0 ∷ 1 ∷ 2 ∷ 3 ∷ 4 ∷ 5 ∷ []) l.num → DescFits s m l → DescFits s' m l'
desc-words-fit s s' m l l' n a b c d e w f = record {
  key = ap (λ i. word_of s' m i 1) n ∙ sym w.1.0 ∙ f.key ∙ sym a;
  locate = ap (λ i. word_of s' m i 2) n ∙ sym w.1.1.0 ∙ f.locate ∙ sym b;
  update = ap (λ i. word_of s' m i 3) n ∙ sym w.1.1.1.0 ∙ f.update ∙ sym c;
  gap = ap (λ i. word_of s' m i 4) n ∙ sym w.1.1.1.1.0 ∙ f.gap ∙ sym d;
  pins = ap (λ i. word_of s' m i 5) n ∙ sym w.1.1.1.1.1.0 ∙ f.pins ∙ sym e;
}

-- A list in which none stands twice.
pub once-from : (l : List ℕ) → ((j : ℕ) → times j l ≤ 1) → Once l
once-from [] h = tt
once-from (i ∷ l) h = (apart-times i l (omega (arith, h i, one-is i i refl)), once-from l (λ j. omega (arith, h j)))

-- The members fit with one more.
pub put-group : (s s' : List ℕ) (m d i e : ℕ) (c : List (ℕ × ℕ)) (l l' : Leaf) → l.num ≡ d → l'.num ≡ d → l'.desc.members ≡ with_member e l.desc.members → GroupFits s m c l
    → MemberAdded s s' m d i e (firsts c) → ¬ (i ≡ 0) → Once (firsts c) → Apart e (seconds c) → GroupFits s' m ((i, e) ∷ c) l'
put-group s s' m d i e c l l' n n' q F A some once new =
    let was : Chained s m (word_of s m d 6) (firsts c) = subst (λ x. Chained s m (word_of s m x 6) (firsts c)) n F.chained in
    record {
      chained = subst (λ x. Chained s' m (word_of s' m x 6) (i ∷ firsts c)) (sym n') (added-chained s s' m d i e (firsts c) A some was);
      linked = added-linked s s' m d i e (firsts c) A some was once F.linked;
      entries = (
        A.entry,
        all_both {P = λ q. SameWords s s' m member_words q.0} {Q = λ q. word_of s m q.0 2 ≡ q.1} {R = λ q. word_of s' m q.0 2 ≡ q.1}
            (λ q x y. sym x.1.0 ∙ y) c (all_map (λ q. q.0) (SameWords s s' m member_words) c A.others) F.entries,
      );
      once = (new, F.once);
      gathered = ap (with_member e) F.gathered ∙ sym q;
    }

firsts-append : (a b : List (ℕ × ℕ)) → firsts (a ++ b) ≡ firsts a ++ firsts b
firsts-append a b = map-append (λ q. q.0) a b

seconds-append : (a b : List (ℕ × ℕ)) → seconds (a ++ b) ≡ seconds a ++ seconds b
seconds-append a b = map-append (λ q. q.1) a b

-- And with one less.
pub take-group : (s s' : List ℕ) (m d i e : ℕ) (a b : List (ℕ × ℕ)) (l l' : Leaf) → l.num ≡ d → l'.num ≡ d → l'.desc.members ≡ without_member e l.desc.members
    → GroupFits s m (a ++ (i, e) ∷ b) l → Once (firsts a ++ i ∷ firsts b) → MemberOut s s' m d i (firsts a) (firsts b) → GroupFits s' m (a ++ b) l'
take-group s s' m d i e a b l l' n n' q F once O =
    let fa = firsts a in
    let fb = firsts b in
    let A = seconds a in
    let B = seconds b in
    let split = firsts-append a ((i, e) ∷ b) in
    let was : Chained s m (word_of s m d 6) (fa ++ i ∷ fb) = subst (λ x. Chained s m (word_of s m x 6) (fa ++ i ∷ fb)) n (subst (Chained s m (word_of s m l.num 6)) split F.chained) in
    let links : Linked s m 0 (fa ++ i ∷ fb) = subst (Linked s m 0) split F.linked in
    let ones : Once (A ++ e ∷ B) = subst Once (seconds-append a ((i, e) ∷ b)) F.once in
    let Q : ℕ × ℕ → Type 0 = λ q. word_of s m q.0 2 ≡ q.1 in
    record {
      chained = subst (λ x. Chained s' m (word_of s' m x 6) (firsts (a ++ b))) (sym n') (subst (Chained s' m (word_of s' m d 6)) (sym (firsts-append a b)) (out-chained s s' m d i fa fb O was links once));
      linked = subst (Linked s' m 0) (sym (firsts-append a b)) (out-linked s s' m d i fa fb O was links once);
      entries = all_both {P = λ q. word_of s m q.0 2 ≡ word_of s' m q.0 2} {Q = Q} {R = λ q. word_of s' m q.0 2 ≡ q.1} (λ q x y. sym x ∙ y) (a ++ b)
          (all_map (λ q. q.0) (λ j. word_of s m j 2 ≡ word_of s' m j 2) (a ++ b) (subst (All (λ j. word_of s m j 2 ≡ word_of s' m j 2)) (sym (firsts-append a b)) O.entries))
          (all_append Q a b (all_left Q a ((i, e) ∷ b) F.entries) (all_right Q a ((i, e) ∷ b) F.entries).1);
      once = subst Once (sym (seconds-append a b)) (once-out A e B ones);
      gathered = ap gather (seconds-append a b) ∙ gather-out A e B (once-mid A e B ones) ∙ ap (λ k. without_member e (gather k)) (sym (seconds-append a ((i, e) ∷ b)))
          ∙ ap (without_member e) F.gathered ∙ sym q;
    }

-- ---- by which record an entry is a member

pub record Found (e i : ℕ) (c : List (ℕ × ℕ)) : Type 0 where
  pub a : List (ℕ × ℕ)
  pub b : List (ℕ × ℕ)
  pub is : c ≡ a ++ (i, e) ∷ b

pub found : (e i : ℕ) (c : List (ℕ × ℕ)) → member_of e c ≡ i → ¬ (i ≡ 0) → Found e i c
unfolding member_of
found e i [] q n = absurd (n (sym q))
found e i (x ∷ c) q n = go (eqb x.1 e) refl q (λ z. found e i c z n)
  where
    go : (w : Bool) → eqb x.1 e ≡ w → cond w x.0 (member_of e c) ≡ i → (member_of e c ≡ i → Found e i c) → Found e i (x ∷ c)
    go true z q f = record { a = []; b = c; is = ap₂ (λ j v. (j, v) ∷ c) q (eqb_is x.1 e z) }
    go false z q f = let r = f q in record { a = x ∷ r.a; b = r.b; is = ap (λ k. x ∷ k) r.is }

pub not_found : (e : ℕ) (c : List (ℕ × ℕ)) → All (λ j. 1 ≤ j) (firsts c) → member_of e c ≡ 0 → Apart e (seconds c)
unfolding member_of
not_found e [] low q = tt
not_found e (x ∷ c) low q = go (eqb x.1 e) refl q (not_found e c low.1)
  where
    go : (w : Bool) → eqb x.1 e ≡ w → cond w x.0 (member_of e c) ≡ 0 → (member_of e c ≡ 0 → Apart e (seconds c)) → Apart e (x.1 ∷ seconds c)
    go true z q f = absurd (omega (arith, q, low.0))
    go false z q f = ((λ y. eqb-not x.1 e z (sym y)), f q)

-- As the machine's list of members has it.
pub elem-some : (e : ℕ) (c : List (ℕ × ℕ)) → All (λ j. 1 ≤ j) (firsts c) → elem e (gather (seconds c)) ≡ true → ¬ (member_of e c ≡ 0)
unfolding member_of
elem-some e [] low h = absurd (true≢false h refl)
elem-some e (x ∷ c) low h = go (eqb x.1 e) refl (eqb e x.1) refl (sym (elem-with e x.1 (gather (seconds c))) ∙ h) (elem-some e c low.1)
  where
    go : (w : Bool) → eqb x.1 e ≡ w → (v : Bool) → eqb e x.1 ≡ v → (v || elem e (gather (seconds c))) ≡ true → (elem e (gather (seconds c)) ≡ true → ¬ (member_of e c ≡ 0))
        → ¬ (cond w x.0 (member_of e c) ≡ 0)
    go true z v y h f q = omega (arith, q, low.0)
    go false z true y h f q = eqb-not x.1 e z (sym (eqb_is e x.1 y))
    go false z false y h f q = f h q

pub elem-none : (e : ℕ) (c : List (ℕ × ℕ)) → elem e (gather (seconds c)) ≡ false → member_of e c ≡ 0
unfolding member_of
elem-none e [] h = refl
elem-none e (x ∷ c) h = go (eqb x.1 e) refl (eqb e x.1) refl (sym (elem-with e x.1 (gather (seconds c))) ∙ h) (elem-none e c)
  where
    go : (w : Bool) → eqb x.1 e ≡ w → (v : Bool) → eqb e x.1 ≡ v → (v || elem e (gather (seconds c))) ≡ false → (elem e (gather (seconds c)) ≡ false → member_of e c ≡ 0)
        → cond w x.0 (member_of e c) ≡ 0
    go w z true y h f = absurd (true≢false {b = true} refl h)
    go true z false y h f = absurd (eqb-not e x.1 y (sym (eqb_is x.1 e z)))
    go false z false y h f = f h

member-none : (e : ℕ) (c : List (ℕ × ℕ)) → Apart e (seconds c) → member_of e c ≡ 0
unfolding member_of
member-none e [] a = refl
member-none e (x ∷ c) a = rw (ne_eqb x.1 e (λ q. a.0 (sym q))) (member-none e c a.1)

member-other : (f i e : ℕ) (a b : List (ℕ × ℕ)) → ¬ (e ≡ f) → member_of f (a ++ (i, e) ∷ b) ≡ member_of f (a ++ b)
unfolding member_of
member-other f i e [] b n = rw (ne_eqb e f n) refl
member-other f i e (x ∷ a) b n = ap (λ y. cond (eqb x.1 f) x.0 y) (member-other f i e a b n)

pick-one : (f e v w : ℕ) → f ≡ e → cond (eqb f e) v w ≡ v
pick-one f e v w q = ap (λ (z : Bool). cond z v w) (eq-eqb f e q)

pick_other : (f e v w : ℕ) → ¬ (f ≡ e) → cond (eqb f e) v w ≡ w
pick_other f e v w q = ap (λ (z : Bool). cond z v w) (ne_eqb f e q)

pub member-out : (i e : ℕ) (a b : List (ℕ × ℕ)) → Once (seconds (a ++ (i, e) ∷ b)) → (f : ℕ) → member_of f (a ++ b) ≡ cond (eqb f e) 0 (member_of f (a ++ (i, e) ∷ b))
member-out i e a b once f = go (ℕ_discrete f e)
  where
    off : Apart e (seconds (a ++ b))
    off = subst (Apart e) (sym (seconds-append a b)) (once-mid (seconds a) e (seconds b) (subst Once (seconds-append a ((i, e) ∷ b)) once))

    go : Dec (f ≡ e) → member_of f (a ++ b) ≡ cond (eqb f e) 0 (member_of f (a ++ (i, e) ∷ b))
    go (yes z) = member-none f (a ++ b) (subst (λ y. Apart y (seconds (a ++ b))) (sym z) off) ∙ sym (pick-one f e 0 (member_of f (a ++ (i, e) ∷ b)) z)
    go (no z) = sym (pick_other f e 0 (member_of f (a ++ (i, e) ∷ b)) z ∙ member-other f i e a b (λ y. z (sym y)))

pub member-put : (i e : ℕ) (c : List (ℕ × ℕ)) (f : ℕ) → member_of f ((i, e) ∷ c) ≡ cond (eqb f e) i (member_of f c)
unfolding member_of
member-put i e c f = go (ℕ_discrete f e)
  where
    go : Dec (f ≡ e) → cond (eqb e f) i (member_of f c) ≡ cond (eqb f e) i (member_of f c)
    go (yes z) = pick-one e f i (member_of f c) (sym z) ∙ sym (pick-one f e i (member_of f c) z)
    go (no z) = pick_other e f i (member_of f c) (λ y. z (sym y)) ∙ sym (pick_other f e i (member_of f c) z)

-- The members of the descriptor at d are ms: the record of entry e there is v, all others are the same.
pub lists-put : (g : ℕ → List (ℕ × ℕ)) (d e v : ℕ) (ms : List (ℕ × ℕ)) → ((f : ℕ) → member_of f ms ≡ cond (eqb f e) v (member_of f (g d)))
    → ◌≡◌ {A = Lists} (λ c f. member_of f (put_at d ms g c)) (set_list d e v (λ c f. member_of f (g c)))
lists-put g d e v ms h = λ z c f. at c f z
  where
    at : (c f : ℕ) → member_of f (put_at d ms g c) ≡ cond (eqb c d) (cond (eqb f e) v (member_of f (g c))) (member_of f (g c))
    at c f = go (eqb c d) refl
      where
        go : (b : Bool) → eqb c d ≡ b → member_of f (cond b ms (g c)) ≡ cond b (cond (eqb f e) v (member_of f (g c))) (member_of f (g c))
        go true q = h f ∙ ap (λ x. cond (eqb f e) v (member_of f (g x))) (sym (eqb_is c d q))
        go false q = refl
