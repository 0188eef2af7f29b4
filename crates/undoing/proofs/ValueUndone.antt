-- An undo record of a value undone: the entry has its old value, the record is free.
use Rattle.std.specs.Prelude.{◌≡◌, refl, List, [], ◌∷◌, map, ℕ, zero, suc, ◌+◌, ◌≤◌, ◌<◌, get_or, set}
use Rattle.std.proofs.Common.{sym, ap, ◌∙◌, inl, lit<, length-set}
use Rattle.std.proofs.Math.Path.{ap₂, subst}
use Rattle.std.proofs.Math.Decide.{ℕ_discrete}
use native.Mathlib.Omega.{arith}
use Rattle.std.proofs.Math.ListN.{length}
use Rattle.words.specs.Store.{word_of}
use Rattle.words.specs.Header.{header_word, entries_place, records_place, free_place}
use Rattle.words.specs.Entries.{HasEntry, entry_word, put_entry_word}
use Rattle.words.specs.Frames.{entry-same, entry_other}
use Rattle.undos.specs.Undo.{undo_at, decode_undo}
use Rattle.chain.specs.Free.{push_free}
use Rattle.sessions.specs.declared.Session.{Session}
use Rattle.sessions.specs.Sessions.{session_at}
use Rattle.machine.specs.Holders.{width}
use Rattle.machine.specs.State.{Entry, no_entry, value, added, taken, entry_of, on_entry}
use Rattle.machine.specs.Calls as C
use Rattle.meaning.specs.Reading.{Chained, meaning, entries_of, M-of, R-of}
use Rattle.meaning.specs.Sound.{All, Apart}
use Rattle.meaning.specs.Numbers.{all_from, all_in, times-in, apart-times}
use Rattle.meaning.specs.Frame.{SameAt, chain_words, all_words, chained_same}
use Rattle.meaning.specs.Parts.{entry_at, entries-set, entry-of}
use Rattle.layout.specs.Layout.{Lay, Undone, undo_numbers, means, UndoFits, Holds, Named, NamedAs, leaves_in, lists_in}
use Rattle.layout.specs.Groups.{put-here, put-there, with_log, log-row}
use Rattle.layout.specs.Ordering.{Rising}
use Rattle.layout.specs.Room.{Sizes, entries-are, has-entry}
use Rattle.layout.specs.Written.{Written, entry-written, entry-head}
use Rattle.undo_log.specs.Undoing.{Undoing, value_back, undo_one, one_value}
use Rattle.grouping.specs.GroupWords.{Changed, Within, within-kept, push-changed, push-chained}
use Rattle.undoing.specs.Rows.{with_undo, hand-undo, Onward, undone_state, table-undone, mine-fit, mine-named, rest-fit, mine-times, log-bound, log-own, log-in}

-- The kind of an undo record, as it is read.

undo-kind : (s : List ℕ) (m i : ℕ) → (undo_at s m i).kind ≡ word_of s m i 1
unfolding decode_undo
undo-kind s m i = refl

-- ---- an entry's value

abbrev with_value : ℕ → Entry → Entry
with_value v x = record { value = v; share = x.share; exclusive = x.exclusive }

entry-in-list : (s : List ℕ) (t : List Session) (j : ℕ) → j < M-of s → get_or (entries_of s 1 (M-of s)) j no_entry ≡ entry_at s (suc j)
unfolding entry_of meaning
entry-in-list s t j k = entry-of s t j k

module _ (s : List ℕ) (t : List Session) (L : Lay) (H : Holds s t L) (O : Rising L) (Z : Sizes L) (p : ℕ) (least : 1 ≤ p) (party : p ≤ width) (u : Undone) (us : List Undone) (chain : L.undos p ≡ u ∷ us)
    (j v : ℕ) (what : u.undo ≡ value (suc j) v) (high : suc j ≤ length L.entries) where
  abbrev m : ℕ
  m = M-of s

  abbrev e : ℕ
  e = suc j

  abbrev i : ℕ
  i = u.num

  fits : (word_of s m i 1 ≡ 1) × (word_of s m i 2 ≡ e) × (word_of s m i 3 ≡ v)
  fits = subst (UndoFits s m i u.saved u.descriptor) what (mine-fit s t L H Z p least party u us chain).words.0

  abbrev s1 : List ℕ
  s1 = put_entry_word s e 0 v

  abbrev s2 : List ℕ
  s2 = push_free s1 m i

  undo-is : undo_one s m i ≡ s2
  unfolding value_back decode_undo
  undo-is = one_value s m i (undo-kind s m i ∙ fits.0) ∙ ap₂ (λ a b. push_free (put_entry_word s a 0 b) m i) fits.1 fits.2

  he : HasEntry s e
  he = has-entry s t L H Z e (omega arith) high

  few : e ≤ m
  few = omega (arith, entries-are s t L H Z, high)

  E1 : Written s s1 []
  E1 = entry-written s e 0 v he (lit< tt) few

  own : Within s m (R-of s) i
  own = log-own s t L H Z p least party u us chain i (omega (arith, times-in i (i ∷ undo_numbers us) (inl refl)))

  own1 : Within s1 m (R-of s) i
  own1 = within-kept E1.long own

  P : Changed s1 s2 m (R-of s) (free_place ∷ []) (i ∷ [])
  P = push-changed s1 m (R-of s) i own1

  head : (k : ℕ) → k < 16 → ¬ (k ≡ free_place) → header_word s2 k ≡ header_word s k
  head k h n = P.head k h (n, tt) ∙ entry-head s e 0 v he (lit< tt) few k h

  only : Written s s2 (i ∷ [])
  only = record {
    long = P.long ∙ E1.long;
    entries = head entries_place (lit< tt) (λ q. omega (arith, q));
    records = head records_place (lit< tt) (λ q. omega (arith, q));
    same = λ k h a. E1.same k h tt ∙ P.same k h a;
    rest = P.rest ∙ E1.rest;
  }

  -- The entries.
  abbrev E : List Entry
  E = set L.entries j (with_value v (get_or L.entries j no_entry))

  others_same : (d : ℕ) → 1 ≤ d → d ≤ m → ¬ (d ≡ e) → entry_at s d ≡ entry_at s2 d
  others_same d a b n =
      let o : (f : ℕ) → f < 3 → entry_word s d f ≡ entry_word s1 d f = λ f h. sym (entry_other s e 0 v (omega arith) (lit< tt) d f a h (λ q z. n q)) in
      (λ z. record { value = o 0 (lit< tt) z; share = o 1 (lit< tt) z; exclusive = o 2 (lit< tt) z }) ∙ P.entries d a b

  this-one : entry_at s2 e ≡ with_value v (entry_at s e)
  this-one =
      let o : (f : ℕ) → f < 3 → ¬ (f ≡ 0) → entry_word s1 e f ≡ entry_word s e f = λ f h n. entry_other s e 0 v (omega arith) (lit< tt) e f (omega arith) h (λ q z. n z) in
      let x = entry-same s e 0 v (omega arith) (lit< tt) he in
      let y = o 1 (lit< tt) (λ q. omega (arith, q)) in
      let w = o 2 (lit< tt) (λ q. omega (arith, q)) in
      sym (P.entries e (omega arith) few) ∙ (λ z. record { value = x z; share = y z; exclusive = w z })

  ents : entries_of s2 1 m ≡ E
  ents =
      entries-set s s2 m j few others_same
      ∙ ap (λ x. set (entries_of s 1 m) j x) (this-one ∙ ap (with_value v) (sym (entry-in-list s t j few)))
      ∙ ap (λ l. set l j (with_value v (get_or l j no_entry))) H.fits.entries

  -- The free records and the undo records.
  free_one : All (λ k. 1 ≤ k) L.free
  free_one = all_from L.free (λ k h. (log-own s t L H Z p least party u us chain k (omega (arith, times-in k L.free h))).has.first)

  free_out : Apart i L.free
  free_out = apart-times i L.free (omega (arith, log-bound s t L H Z p least party u us chain i, times-in i (i ∷ undo_numbers us) (inl refl)))

  free_same : All (SameAt s s1 m) L.free
  free_same = all_from L.free (λ k h. E1.same k (all_in (λ k. 1 ≤ k) L.free free_one k h) tt)

  free : Chained s2 m (header_word s2 free_place) (i ∷ L.free)
  free =
      push-chained s1 m (R-of s) i own1 (subst (λ n. 16 ≤ n) (sym E1.long) H.fits.header) L.free
      (subst (λ x. Chained s1 m x L.free) (sym (entry-head s e 0 v he (lit< tt) few free_place (lit< tt)))
      (chained_same s s1 m (header_word s free_place) L.free (all_words s s1 m chain_words L.free free_same) H.fits.free))
      free_one free_out

  rest-same : All (SameAt s s2 m) (undo_numbers us)
  rest-same = all_from (undo_numbers us) (λ k h.
      let two = times-in k (undo_numbers us) h in
      only.same k (log-own s t L H Z p least party u us chain k (omega (arith, two))).has.first
      ((λ q. omega (arith, two, log-bound s t L H Z p least party u us chain k, times-in k (i ∷ []) (inl q))), tt))

  abbrev x' : Session
  x' = with_undo (session_at t p) (word_of s m i 0)

  abbrev L' : Lay
  L' = with_log L p us (i ∷ L.free) E

  named : (q : ℕ) → 1 ≤ q → q ≤ width → Named (leaves_in L) (L'.undos q) (lists_in L)
  named q a b = go (ℕ_discrete q p)
    where
      old : (q : ℕ) → 1 ≤ q → q ≤ width → Named (leaves_in L) (L.undos q) (lists_in L)
      old zero a b = absurd (omega (arith, a))
      old (suc q) a b = H.named q b

      rest : Named (leaves_in L) us (lists_in L)
      rest = subst (λ x. NamedAs (leaves_in L) (Named (leaves_in L) us) (lists_in L) u.num u.saved u.descriptor x) what (mine-named s t L H Z p least party u us chain)

      go : Dec (q ≡ p) → Named (leaves_in L) (L'.undos q) (lists_in L)
      go (yes z) = subst (λ k. Named (leaves_in L) (L'.undos k) (lists_in L)) (sym z) (subst (λ ys. Named (leaves_in L) ys (lists_in L)) (sym (put-here p us L.undos)) rest)
      go (no z) = subst (λ ys. Named (leaves_in L) ys (lists_in L)) (sym (put-there p us L.undos q z)) (old q a b)

  held : Holds s2 (set t p x') L'
  held =
      log-row s t L H p x' least party s2 (i ∷ []) only head
      (log-in s t L H Z p least party u us chain i (omega (arith, times-in i (i ∷ undo_numbers us) (inl refl))), tt)
      us (i ∷ L.free) E (rest-fit s t L H Z p least party u us chain s2 rest-same) free ents
      (λ k. omega (arith, mine-times s t L H Z p least party u us chain k))
      (hand-undo L L' p (session_at t p) (word_of s m i 0) (λ k d y. y) (λ g y. y) (H.hands p party))
      named

  means-value : means L' (set t p x') ≡ undone_state p (map (λ y. y.undo) us) (value (suc j) v) (means L t)
  unfolding means C.undo on_entry entry_of
  means-value =
      let f : length (i ∷ L.free) ≡ length L.free + 1 = omega arith in
      let w = table-undone L t p us (word_of s m i 0) least (omega (arith, H.seats, party)) in
      λ z. record { entries = E; root = (means L t).root; free = f z; table = w z; records = L.records }

  value-ready : Undoing s m i
  unfolding decode_undo
  value-ready = record {
    own = own.has;
    value = λ q. subst (HasEntry s) (sym fits.1) he;
    added = λ q. absurd (omega (arith, fits.0, q));
    taken = λ q r. absurd (q fits.0);
  }

  pub value_row : Onward s t L p u us (undo_one s m i) x'
  value_row = subst (λ z. Onward s t L p u us z x') (sym undo-is) (record {
    lay = L';
    holds = held;
    mine = put-here p us L.undos;
    others = λ q n. put-there p us L.undos q n;
    means_next = subst (λ b. means L' (set t p x') ≡ undone_state p (map (λ y. y.undo) us) b (means L t)) (sym what) means-value;
    rising = O;
    sizes = record {
      some = subst (λ n. 1 ≤ n) (sym (length-set L.entries j (with_value v (get_or L.entries j no_entry)))) Z.some;
      entries = subst (λ n. n ≤ 1024) (sym (length-set L.entries j (with_value v (get_or L.entries j no_entry)))) Z.entries;
      least = Z.least;
      most = Z.most;
    };
    touched = i ∷ [];
    written = only;
    ready = value-ready;
  })
