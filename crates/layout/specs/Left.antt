-- Changes of words that leave every session record: what the words hold after, and that changes follow one another.
use Rattle.std.specs.Prelude.{◌≡◌, List, [], ◌∷◌, ◌++◌, length, set}
use Rattle.std.proofs.Math.Path.{refl, ap, subst}
use Rattle.std.proofs.Common.{sym, ◌∙◌, arith}
use Prim.Native.Nat.{ℕ, suc, ◌≤◌}
use Rattle.words.specs.Store.{record_at, put_record, word_of, put_word, length-word, length-record}
use Rattle.groups.specs.declared.Descriptor.{Descriptor}
use Rattle.groups.specs.Descriptor.{encode_descriptor, decode_descriptor, descriptor_at, put_descriptor, length-encode, decode-encode, put_pins, with_pins, pins-words}
use Rattle.sessions.specs.declared.Session.{Session}
use Rattle.sessions.specs.Sessions.{session_at}
use Rattle.machine.specs.Tree.{leaves}
use Rattle.machine.specs.Holders.{width, latch_word}
use Rattle.machine.specs.State.{Desc, State, on_desc, pin_desc, top}
use Rattle.machine.specs.Order.{Ord}
use Rattle.meaning.specs.Reading.{Leaf, Mark, erase, M-of}
use Rattle.meaning.specs.Sound.{All}
use Rattle.meaning.specs.Numbers.{all_right}
use Rattle.meaning.specs.Around.{fill}
use Rattle.meaning.specs.Lens.{leaves_before, leaves_behind}
use Rattle.layout.specs.Layout.{Lay, leaves_in, DescFits, Has, Marked, HandFits, Holds, means}
use Rattle.layout.specs.Row.{Becomes}
use Rattle.layout.specs.Back.{descs-fit}
use Rattle.layout.specs.Written.{Written, written_none, written_then}
use Rattle.layout.specs.Keep.{with_tree, hand-as, hole-has, hole-marked}
use Rattle.layout.specs.Places.{AtKey, means-desc}
use Rattle.layout.specs.Ordering.{Rising, key_in, ord-leaf}
use Rattle.layout.specs.Puts.{desc-key, desc-locate, desc-update, desc-gap, desc-pins}
use Rattle.layout.specs.Room.{Sizes}
use Rattle.layout.specs.Asked.{set_same}
use Rattle.layout.specs.DescRows.{key_has, Puts, desc-written, desc-put}

-- A record with no request in hand names nothing.
pub idle-fits : (L : Lay) (p : ℕ) (x : Session) → x.stage ≡ 0 → HandFits L p x
idle-fits L p x e = record {
  stage = omega (arith, e);
  at-node = λ f. absurd (omega (arith, e, f));
  low = λ n f. absurd (n e);
  high = λ f n. absurd (omega (arith, e, f));
  last = λ f. absurd (omega (arith, e, f));
}

-- The words after hold a layout with the same descriptors, which means what f makes of the state, whatever the session table.
pub record Left (s : List ℕ) (t : List Session) (L : Lay) (s' : List ℕ) (f : State → State) : Type 0 where
  pub lay : Lay
  pub holds : Holds s' t lay
  pub rising : Rising lay
  pub sizes : Sizes lay
  pub has : (k d : ℕ) → Has k d (leaves_in L) → Has k d (leaves_in lay)
  pub is : (u : List Session) → means lay u ≡ f (means L u)
  pub among : List ℕ
  pub written : Written s s' among

pub left-then : (s : List ℕ) (t : List Session) (L : Lay) (s' s'' : List ℕ) (f g : State → State) (A : Left s t L s' f) → Left s' t A.lay s'' g → Left s t L s'' (λ x. g (f x))
left-then s t L s' s'' f g A B = record {
  lay = B.lay;
  holds = B.holds;
  rising = B.rising;
  sizes = B.sizes;
  has = λ k d h. B.has k d (A.has k d h);
  is = λ u. B.is u ∙ ap g (A.is u);
  among = A.among ++ B.among;
  written = written_then s s' s'' A.among B.among A.written B.written;
}

pub left-none : (s : List ℕ) (t : List Session) (L : Lay) → Holds s t L → Rising L → Sizes L → Left s t L s (λ x. x)
left-none s t L H o Z = record { lay = L; holds = H; rising = o; sizes = Z; has = λ k d h. h; is = λ u. refl; among = []; written = written_none s }

-- The whole, from the state before.
pub left-becomes : (s : List ℕ) (t : List Session) (L : Lay) (s' : List ℕ) (f : State → State) (A : Left s t L s' f) (next : State) → f (means L t) ≡ next → Becomes s s' t next
left-becomes s t L s' f A next e = record {
  lay = A.lay;
  holds = A.holds;
  means_next = A.is t ∙ e;
  long = A.written.long;
  entries = A.written.entries;
  records = A.written.records;
  rest = A.written.rest;
}

-- ---- a descriptor's holders and pins

module _ (locate update gap pins : ℕ → ℕ) where
  abbrev pub changed_desc : Desc → Desc
  changed_desc d = record { key = d.key; locate = locate d.locate; update = update d.update; gap = gap d.gap; pins = pins d.pins; members = d.members }

  abbrev pub changed_words : Descriptor → Descriptor
  changed_words d = record { next = d.next; key = d.key; locate = locate d.locate; update = update d.update; gap = gap d.gap; pins = pins d.pins; first = d.first }

  module _ (s : List ℕ) (t : List Session) (L : Lay) (H : Holds s t L) (Z : Sizes L) (o : Rising L) (k d : ℕ) (h : Has k d (leaves_in L)) where
    A : AtKey L k d
    A = key_in L o k d h

    leaf' : Leaf
    leaf' = record { num = d; desc = changed_desc A.leaf.desc }

    L' : Lay
    L' = with_tree L L.height (fill A.around leaf') L.free

    D : Descriptor
    D = changed_words (descriptor_at s (M-of s) d)

    fits : DescFits s (M-of s) A.leaf
    fits = (all_right (DescFits s (M-of s)) (leaves_before A.around) (A.leaf ∷ leaves_behind A.around) (subst (All (DescFits s (M-of s))) A.was (descs-fit s t L H))).0

    puts : (w : List ℕ) (whole : length w ≡ 20) (reads : decode_descriptor w ≡ D) → Puts s t L H Z k d A D w whole reads leaf'
    unfolding A leaf' D fits
    puts w whole reads =
        let m = M-of s in
        let at : (j : ℕ) → word_of s m d j ≡ word_of s m A.leaf.num j = λ j. ap (λ i. word_of s m i j) (sym A.num) in
        record {
          num = refl;
          key = A.key;
          members = refl;
          next = refl;
          first = refl;
          key_word = desc-key s m d ∙ at 1 ∙ fits.key;
          locate = ap locate (desc-locate s m d ∙ at 2 ∙ fits.locate);
          update = ap update (desc-update s m d ∙ at 3 ∙ fits.update);
          gap = ap gap (desc-gap s m d ∙ at 4 ∙ fits.gap);
          pins = ap pins (desc-pins s m d ∙ at 5 ∙ fits.pins);
        }

    swapped : (i j : ℕ) → Has i j (leaves_in L) → Has i j (leaves_in L')
    unfolding A leaf' L'
    swapped i j x =
        let n = suc L.height in
        hole-has A.around A.leaf leaf' (sym A.num) refl i j (subst (λ u. Has i j (leaves Leaf Mark n u)) A.is x)

    -- Words that read as the descriptor changed are written over its record.
    left-words : (w : List ℕ) → length w ≡ 20 → decode_descriptor w ≡ D → (p : ℕ) → p ≤ width → Left s t L (put_record s (M-of s) d w) (on_desc k changed_desc)
    unfolding A leaf' L'
    left-words w whole reads p l =
        let m = M-of s in
        let n = suc L.height in
        let x = session_at t p in
        let s' = put_record s m d w in
        let own : HandFits L' p x = hand-as L L' p x swapped (λ e y. hole-marked x.level x.at (latch_word p) A.around A.leaf leaf' (subst (Marked x.level x.at (latch_word p) n) A.is y)) (H.hands p l) in
        record {
          lay = L';
          holds = subst (λ z. Holds s' z L') (set_same t p) (desc-put s t L H Z k d A D w whole reads leaf' (puts w whole reads) p x l refl own);
          rising = ord-leaf A.around A.leaf leaf' refl 0 top (subst (λ u. Ord n 0 top (erase n u)) A.is o);
          sizes = record { some = Z.some; entries = Z.entries; least = Z.least; most = Z.most };
          has = swapped;
          is = λ u. means-desc L u k d A changed_desc leaf' refl;
          among = d ∷ [];
          written = desc-written s t L H Z k d A D w whole reads;
        }

    pub left-desc : (p : ℕ) → p ≤ width → Left s t L (put_descriptor s (M-of s) d (changed_words (descriptor_at s (M-of s) d))) (on_desc k changed_desc)
    unfolding D
    left-desc p l = left-words (encode_descriptor D) (length-encode D) (decode-encode D) p l

-- ---- the pins alone, with the header as it was before

pub left-pins : (pins : ℕ → ℕ) (s : List ℕ) (t : List Session) (L : Lay) → Holds s t L → Sizes L → Rising L → (m : ℕ) → M-of s ≡ m → (k d : ℕ) → Has k d (leaves_in L)
    → Left s t L (put_pins s m d (pins (descriptor_at s m d).pins)) (on_desc k (pin_desc pins))
unfolding put_pins with_pins D
left-pins pins s t L H Z o m e k d h =
    subst (λ n. Left s t L (put_pins s n d (pins (descriptor_at s n d).pins)) (on_desc k (pin_desc pins))) e
    (let n = pins (descriptor_at s (M-of s) d).pins in
    subst (λ z. Left s t L z (on_desc k (pin_desc pins))) (put_word s (M-of s) d 5 n (key_has s t L H Z k d (key_in L o k d h)) (omega arith))
    (left-words (λ i. i) (λ i. i) (λ i. i) pins s t L H Z o k d h (set (record_at s (M-of s) d) 5 n) (length-word s (M-of s) d 5 n) (pins-words (record_at s (M-of s) d) n (length-record s (M-of s) d)) 0 (omega arith)))
