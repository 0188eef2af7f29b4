-- The descriptor of a key written with other holders or pins.
use Rattle.std.specs.Prelude.{◌≡◌, List, [], ◌∷◌, length, set}
use Rattle.std.proofs.Common.{sym, subst, ◌∙◌, arith}
use Rattle.std.proofs.Math.Path.{ap}
use Prim.Native.Nat.{ℕ, suc, ◌≤◌}
use Rattle.words.specs.Store.{HasRecord, put_record, word_of, record_same}
use Rattle.groups.specs.declared.Descriptor.{Descriptor}
use Rattle.groups.specs.Descriptor.{decode_descriptor, descriptor_at}
use Rattle.sessions.specs.declared.Session.{Session}
use Rattle.sessions.specs.Sessions.{session_at}
use Rattle.machine.specs.Holders.{width}
use Rattle.machine.specs.Sound.{times}
use Rattle.meaning.specs.Reading.{Leaf, numbers, M-of, R-of}
use Rattle.meaning.specs.Numbers.{one-is}
use Rattle.meaning.specs.Around.{fill, times-fill}
use Rattle.layout.specs.Layout.{Lay, all_records, HandFits, Holds}
use Rattle.layout.specs.Written.{Written, put_written, put_entries, put-head}
use Rattle.layout.specs.Keep.{with_tree, records-times, desc-row}
use Rattle.layout.specs.Places.{AtKey}
use Rattle.layout.specs.Puts.{desc-fits, desc-next, desc-first}
use Rattle.layout.specs.Room.{Sizes, owned_in, owned-has}

-- ---- a descriptor

module _ (s : List ℕ) (t : List Session) (L : Lay) (H : Holds s t L) (Z : Sizes L) (k d : ℕ) (A : AtKey L k d) where
  pub key-owned : 1 ≤ times d (all_records L)
  unfolding numbers
  key-owned =
      let h = suc L.height in
      let e = ap (λ u. times d (numbers h u)) A.is ∙ times-fill A.around A.leaf d in
      omega (arith, records-times L d, e, one-is A.leaf.num d A.num)

  pub key_has : HasRecord s (M-of s) d
  key_has = owned-has s t L H Z d key-owned

  pub key-among : d ≤ R-of s
  key-among = omega (arith, (owned_in s t L H Z d key-owned).1, H.fits.records)

  -- Words w, which read as D, are written over the record.
  module _ (D : Descriptor) (w : List ℕ) (whole : length w ≡ 20) (reads : decode_descriptor w ≡ D) where
    abbrev with_words : List ℕ
    with_words = put_record s (M-of s) d w

    pub desc-written : Written s with_words (d ∷ [])
    desc-written = put_written s d w key_has whole key-among

    -- The next descriptor, the key and the first member are as before.
    pub record Puts (l' : Leaf) : Type 0 where
      pub num : l'.num ≡ d
      pub key : l'.desc.key ≡ k
      pub members : l'.desc.members ≡ A.leaf.desc.members
      pub next : D.next ≡ (descriptor_at s (M-of s) d).next
      pub first : D.first ≡ (descriptor_at s (M-of s) d).first
      pub key_word : D.key ≡ l'.desc.key
      pub locate : D.locate ≡ l'.desc.locate
      pub update : D.update ≡ l'.desc.update
      pub gap : D.gap ≡ l'.desc.gap
      pub pins : D.pins ≡ l'.desc.pins

    pub desc-put : (l' : Leaf) → Puts l' → (p : ℕ) (x' : Session) → p ≤ width → x'.undo ≡ (session_at t p).undo
        → HandFits (with_tree L L.height (fill A.around l') L.free) p x'
        → Holds with_words (set t p x') (with_tree L L.height (fill A.around l') L.free)
    desc-put l' P p x' l u own =
        let m = M-of s in
        let s' = with_words in
        let back : descriptor_at s' m d ≡ D = ap decode_descriptor (record_same s m d w key_has whole) ∙ reads in
        let n = A.num in
        desc-row s t L H A.around A.leaf l' A.is (P.num ∙ sym n) (P.key ∙ sym A.key) P.members s' (subst (λ i. Written s s' (i ∷ [])) (sym n) desc-written)
        (put_entries s d w key_has whole) (put-head s d w key_has whole)
        (desc-fits s' m l' D (ap (descriptor_at s' m) P.num ∙ back) P.key_word P.locate P.update P.gap P.pins)
        (ap (λ i. word_of s m i 0) n ∙ sym (desc-next s m d) ∙ sym P.next ∙ sym (ap (λ x. x.next) back) ∙ desc-next s' m d ∙ ap (λ i. word_of s' m i 0) (sym n))
        (ap (λ i. word_of s m i 6) n ∙ sym (desc-first s m d) ∙ sym P.first ∙ sym (ap (λ x. x.first) back) ∙ desc-first s' m d ∙ ap (λ i. word_of s' m i 6) (sym n))
        p x' l u own
