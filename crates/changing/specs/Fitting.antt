-- A group fits its members where one more is put at the front of its chain, and where one is taken out.
use Rattle.std.specs.Prelude.{◌≡◌, List, [], ◌∷◌, ◌++◌, ℕ}
use Rattle.std.proofs.Common.{sym, ap, subst, ◌∙◌, arith, lit<}
use Rattle.std.proofs.lemmas.List.{map-append}
use Rattle.words.specs.Store.{word_of}
use Rattle.words.specs.Header.{header_word, put_header_word, free_place}
use Rattle.words.specs.Frames.{length-header, header-other, header-entry, header-record, header-beyond}
use Rattle.chain.specs.Free.{pop_free, pop-some}
use Rattle.machine.specs.State.{with_member, without_member}
use Rattle.meaning.specs.Reading.{Chained, gather, Leaf}
use Rattle.meaning.specs.Sound.{All, Apart, Once, Linked}
use Rattle.meaning.specs.Numbers.{all_append, all_left, all_right, all_both, all_map, once-mid, once-out}
use Rattle.meaning.specs.Frame.{SameWords, member_words}
use Rattle.meaning.specs.Grouping.{MemberAdded, added-chained, added-linked, MemberOut, out-chained, out-linked, gather-out}
use Rattle.layout.specs.Layout.{firsts, seconds, GroupFits}
use Rattle.members.specs.Members.{put_member, take_member}
use Rattle.grouping.specs.GroupWords.{Changed, Within, put-added, take_out, take_desc, take-member-changed}

-- ---- one more

module _ (s : List ℕ) (m r i e : ℕ) (c : List (ℕ × ℕ)) (l l' : Leaf) (num : l'.num ≡ l.num) (G : GroupFits s m c l) (out-d : Apart l.num (firsts c)) (out-i : Apart i (firsts c))
    (ne : ¬ (i ≡ l.num)) (in_store : All (Within s m r) (l.num ∷ i ∷ firsts c)) (once : Once (firsts c)) (new : Apart e (seconds c))
    (members : l'.desc.members ≡ with_member e l.desc.members) where
  put_in : MemberAdded s (put_member s m l.num i e) m l.num i e (firsts c)
  put_in = put-added s m r l.num i e (firsts c) G.chained out-d out-i ne in_store

  some : i ≡ 0 → ⊥
  some z = omega (arith, z, in_store.1.0.has.first)

  pub put-fits : GroupFits (put_member s m l.num i e) m ((i, e) ∷ c) l'
  put-fits =
      let s' = put_member s m l.num i e in
      let A = put_in in
      record {
        chained = subst (λ d. Chained s' m (word_of s' m d 6) (i ∷ firsts c)) (sym num) (added-chained s s' m l.num i e (firsts c) A some G.chained);
        linked = added-linked s s' m l.num i e (firsts c) A some G.chained once G.linked;
        entries = (
          A.entry,
          all_both {P = λ (q : ℕ × ℕ). SameWords s s' m member_words q.0} {Q = λ (q : ℕ × ℕ). word_of s m q.0 2 ≡ q.1} {R = λ (q : ℕ × ℕ). word_of s' m q.0 2 ≡ q.1}
              (λ q x y. sym x.1.0 ∙ y) c (all_map (λ q. q.0) (SameWords s s' m member_words) c A.others) G.entries,
        );
        once = (new, G.once);
        gathered = ap (with_member e) G.gathered ∙ sym members;
      }

-- ---- one less

module _ (s : List ℕ) (m r i e : ℕ) (a b : List (ℕ × ℕ)) (l l' : Leaf) (num : l'.num ≡ l.num) (G : GroupFits s m (a ++ (i, e) ∷ b) l) (out-d : Apart l.num (firsts (a ++ (i, e) ∷ b)))
    (in_store : All (Within s m r) (l.num ∷ firsts (a ++ (i, e) ∷ b))) (once : Once (firsts (a ++ (i, e) ∷ b)))
    (members : l'.desc.members ≡ without_member e l.desc.members) where
  parts : firsts (a ++ (i, e) ∷ b) ≡ firsts a ++ i ∷ firsts b
  parts = map-append (λ q. q.0) a ((i, e) ∷ b)

  left : firsts (a ++ b) ≡ firsts a ++ firsts b
  left = map-append (λ q. q.0) a b

  was : Chained s m (word_of s m l.num 6) (firsts a ++ i ∷ firsts b)
  was = subst (Chained s m (word_of s m l.num 6)) parts G.chained

  linked-so : Linked s m 0 (firsts a ++ i ∷ firsts b)
  linked-so = subst (Linked s m 0) parts G.linked

  once-so : Once (firsts a ++ i ∷ firsts b)
  once-so = subst Once parts once

  gone : MemberOut s (take_member s m l.num i) m l.num i (firsts a) (firsts b)
  gone = take_out s m r l.num i (firsts a) (firsts b) was linked-so once-so (subst (Apart l.num) parts out-d)
      (in_store.0, subst (All (Within s m r)) parts in_store.1)

  pub out-changed : Changed s (take_member s m l.num i) m r [] (l.num ∷ (firsts a ++ firsts b))
  out-changed = take-member-changed s m r l.num i (firsts a) (firsts b) was linked-so once-so (subst (Apart l.num) parts out-d) (in_store.0, subst (All (Within s m r)) parts in_store.1)

  pub out-words : SameWords s (take_member s m l.num i) m (0 ∷ 1 ∷ 2 ∷ 3 ∷ 4 ∷ 5 ∷ []) l.num
  out-words = take_desc s m r l.num i (firsts a) (firsts b) was linked-so once-so (subst (Apart l.num) parts out-d) (in_store.0, subst (All (Within s m r)) parts in_store.1)

  pub take-fits : GroupFits (take_member s m l.num i) m (a ++ b) l'
  take-fits =
      let s' = take_member s m l.num i in
      let O = gone in
      let E : (ℕ × ℕ) → Type 0 = λ q. word_of s m q.0 2 ≡ q.1 in
      let entries-left = all_append E a b (all_left E a ((i, e) ∷ b) G.entries) (all_right E a ((i, e) ∷ b) G.entries).1 in
      let f = map-append (λ (q : ℕ × ℕ). q.1) a ((i, e) ∷ b) in
      let g = map-append (λ (q : ℕ × ℕ). q.1) a b in
      let u : Once (seconds a ++ e ∷ seconds b) = subst Once f G.once in
      record {
        chained = subst (λ d. Chained s' m (word_of s' m d 6) (firsts (a ++ b))) (sym num)
            (subst (Chained s' m (word_of s' m l.num 6)) (sym left) (out-chained s s' m l.num i (firsts a) (firsts b) O was linked-so once-so));
        linked = subst (Linked s' m 0) (sym left) (out-linked s s' m l.num i (firsts a) (firsts b) O was linked-so once-so);
        entries = all_both {P = λ (q : ℕ × ℕ). word_of s m q.0 2 ≡ word_of s' m q.0 2} {Q = E} {R = λ (q : ℕ × ℕ). word_of s' m q.0 2 ≡ q.1} (λ q x y. sym x ∙ y) (a ++ b)
            (all_map (λ q. q.0) (λ j. word_of s m j 2 ≡ word_of s' m j 2) (a ++ b) (subst (All (λ j. word_of s m j 2 ≡ word_of s' m j 2)) (sym left) O.entries)) entries-left;
        once = subst Once (sym g) (once-out (seconds a) e (seconds b) u);
        gathered = ap gather g ∙ gather-out (seconds a) e (seconds b) (once-mid (seconds a) e (seconds b) u) ∙ ap (λ z. without_member e (gather z)) (sym f) ∙ ap (without_member e) G.gathered ∙ sym members;
      }

-- ---- the free chain loses its first record

pub pop-changed : (s : List ℕ) (m r : ℕ) → ¬ (header_word s free_place ≡ 0) → Changed s (pop_free s m) m r (free_place ∷ []) []
pop-changed s m r n =
    let w = word_of s m (header_word s free_place) 0 in
    let z = put_header_word s free_place w in
    subst (λ z. Changed s z m r (free_place ∷ []) []) (sym (pop-some s m n))
    (record {
      long = length-header s free_place w (lit< tt);
      head = λ k h a. header-other s free_place w (lit< tt) k a.0;
      same = λ j h a. sym (header-record s free_place w (lit< tt) m j);
      entries = λ e a b. λ i. record {
        value = sym (header-entry s free_place w (lit< tt) e 0) i;
        share = sym (header-entry s free_place w (lit< tt) e 1) i;
        exclusive = sym (header-entry s free_place w (lit< tt) e 2) i;
      };
      rest = header-beyond s free_place w (lit< tt) m r;
    })

-- Two changes among the same records.
pub changed-both : (s s' s'' : List ℕ) (m r : ℕ) (H W : List ℕ) → Changed s s' m r H W → Changed s' s'' m r H W → Changed s s'' m r H W
changed-both s s' s'' m r H W A C = record {
  long = C.long ∙ A.long;
  head = λ k h a. C.head k h a ∙ A.head k h a;
  same = λ j h a. A.same j h a ∙ C.same j h a;
  entries = λ e a b. A.entries e a b ∙ C.entries e a b;
  rest = C.rest ∙ A.rest;
}
