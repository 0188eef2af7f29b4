-- Runs of writes: which records they touch, what they leave of the header, and which nodes are then read.
use Rattle.std.specs.Prelude.{◌≡◌, refl, List, [], ◌∷◌, ◌++◌, ℕ, ◌≤◌, ◌<◌, length, set}
use Rattle.std.proofs.Common.{sym, ap, subst, ◌∙◌, lit<}
use Rattle.words.specs.Store.{HasRecord, record_at, put_record, length-word, word_of, has_kept, length-put_record}
use Rattle.words.specs.Header.{header_word, free_place}
use Rattle.nodes.specs.declared.Node.{Node}
use Rattle.nodes.specs.Node.{node_at, put_node, encode_node, length-encode, Sized, node-same, node-other}
use Rattle.nodes.specs.Ops.{latch_at, latch-record}
use Rattle.chain.specs.Free.{pop_free, push_free}
use Rattle.meaning.specs.Reading.{M-of, R-of}
use Rattle.layout.specs.Written.{Written, SameEntries, written_none, written_then, entries-then, put-head, put_written, put_entries, pop-written, pop-entries, pop-free, pop-head, push-written, push-entries, push-head, push-free}

-- From s to s' only the records of W are written; f is the free word then, and the other header words are the same.
pub record Trace (s s' : List ℕ) (W : List ℕ) (f : ℕ) : Type 0 where
  pub written : Written s s' W
  pub ents : SameEntries s s'
  pub head : (k : ℕ) → k < 16 → ¬ (k ≡ free_place) → header_word s' k ≡ header_word s k
  pub free : header_word s' free_place ≡ f

pub trace-none : (s : List ℕ) → Trace s s [] (header_word s free_place)
trace-none s = record { written = written_none s; ents = λ e a b. refl; head = λ k h n. refl; free = refl }

module _ (s s₁ : List ℕ) (W : List ℕ) (f : ℕ) (T : Trace s s₁ W f) where
  same-m : M-of s₁ ≡ M-of s
  same-m = T.written.entries

  pub trace-has : {i : ℕ} → HasRecord s (M-of s) i → HasRecord s₁ (M-of s) i
  trace-has h = has_kept h T.written.long

  has-m : {i : ℕ} → HasRecord s (M-of s) i → HasRecord s₁ (M-of s₁) i
  has-m {i} h = subst (λ m. HasRecord s₁ m i) (sym same-m) (trace-has h)

  -- A record is written.
  pub trace-put : (i : ℕ) (w : List ℕ) → HasRecord s (M-of s) i → length w ≡ 20 → i ≤ R-of s → Trace s (put_record s₁ (M-of s) i w) (W ++ (i ∷ [])) f
  trace-put i w has whole l = subst (λ m. Trace s (put_record s₁ m i w) (W ++ (i ∷ [])) f) same-m (record {
    written = written_then s s₁ z W (i ∷ []) T.written (put_written s₁ i w (has-m has) whole (subst (λ n. i ≤ n) (sym T.written.records) l));
    ents = entries-then s s₁ z same-m T.ents (put_entries s₁ i w (has-m has) whole);
    head = λ k h n. put-head s₁ i w (has-m has) whole k h ∙ T.head k h n;
    free = put-head s₁ i w (has-m has) whole free_place (lit< tt) ∙ T.free;
  })
    where
      z : List ℕ
      z = put_record s₁ (M-of s₁) i w

  pub trace-node : (i : ℕ) (n : Node) → HasRecord s (M-of s) i → i ≤ R-of s → Trace s (put_node s₁ (M-of s) i n) (W ++ (i ∷ [])) f
  trace-node i n has l = trace-put i (encode_node n) has (length-encode n) l

  pub trace-latch : (i w : ℕ) → HasRecord s (M-of s) i → i ≤ R-of s → Trace s (latch_at s₁ (M-of s) i w) (W ++ (i ∷ [])) f
  trace-latch i w has l =
      subst (λ z. Trace s z (W ++ (i ∷ [])) f) (latch-record s₁ (M-of s) i w (trace-has has)) (trace-put i (set (record_at s₁ (M-of s) i) 0 w) has (length-word s₁ (M-of s) i 0 w) l)

  -- A record is taken off the free chain.
  pub trace-pop : 16 ≤ length s → ¬ (f ≡ 0) → Trace s (pop_free s₁ (M-of s)) (W ++ []) (word_of s₁ (M-of s) f 0)
  trace-pop long n =
      let k : ¬ (header_word s₁ free_place ≡ 0) = λ e. n (sym T.free ∙ e) in
      let l : 16 ≤ length s₁ = subst (λ x. 16 ≤ x) (sym T.written.long) long in
      record {
        written = written_then s s₁ (pop_free s₁ (M-of s)) W [] T.written (pop-written s₁ (M-of s) k);
        ents = entries-then s s₁ (pop_free s₁ (M-of s)) same-m T.ents (pop-entries s₁ (M-of s) k);
        head = λ j h e. pop-head s₁ (M-of s) j k e ∙ T.head j h e;
        free = pop-free s₁ (M-of s) l k ∙ ap (λ j. word_of s₁ (M-of s) j 0) T.free;
      }

  -- A record is given back.
  pub trace-push : (i : ℕ) → 16 ≤ length s → HasRecord s (M-of s) i → i ≤ R-of s → Trace s (push_free s₁ (M-of s) i) (W ++ (i ∷ [])) i
  trace-push i long has l = subst (λ m. Trace s (push_free s₁ m i) (W ++ (i ∷ [])) i) same-m (record {
    written = written_then s s₁ z W (i ∷ []) T.written (push-written s₁ i (has-m has) (subst (λ n. i ≤ n) (sym T.written.records) l));
    ents = entries-then s s₁ z same-m T.ents (push-entries s₁ i (has-m has));
    head = λ k h n. push-head s₁ i (has-m has) k h n ∙ T.head k h n;
    free = push-free s₁ i (has-m has) (subst (λ x. 16 ≤ x) (sym T.written.long) long);
  })
    where
      z : List ℕ
      z = push_free s₁ (M-of s₁) i

-- ---- nodes that are written, and read

module _ (s : List ℕ) (m i j : ℕ) (n o : Node) (hi : HasRecord s m i) (hj : HasRecord s m j) (ne : ¬ (i ≡ j)) where
  abbrev two : List ℕ
  two = put_node (put_node s m i n) m j o

  kept : HasRecord (put_node s m i n) m j
  kept = has_kept hj (length-put_record s m i (encode_node n) hi (length-encode n))

  pub two-first : Sized n → node_at two m i ≡ n
  two-first z = node-other (put_node s m i n) m j o i kept hi.first (λ e. ne (sym e)) ∙ node-same s m i n hi z

  pub two-second : Sized o → node_at two m j ≡ o
  two-second z = node-same (put_node s m i n) m j o kept z

  pub two-has : {h : ℕ} → HasRecord s m h → HasRecord two m h
  two-has h = has_kept h (length-put_record (put_node s m i n) m j (encode_node o) kept (length-encode o) ∙ length-put_record s m i (encode_node n) hi (length-encode n))

  module _ (h : ℕ) (q : Node) (hh : HasRecord s m h) (ni : ¬ (i ≡ h)) (nj : ¬ (j ≡ h)) where
    abbrev three : List ℕ
    three = put_node two m h q

    pub three-first : Sized n → node_at three m i ≡ n
    three-first z = node-other two m h q i (two-has hh) hi.first (λ e. ni (sym e)) ∙ two-first z

    pub three-second : Sized o → node_at three m j ≡ o
    three-second z = node-other two m h q j (two-has hh) hj.first (λ e. nj (sym e)) ∙ two-second z

    pub three_third : Sized q → node_at three m h ≡ q
    three_third z = node-same two m h q (two-has hh) z
