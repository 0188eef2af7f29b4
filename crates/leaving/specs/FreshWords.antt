-- What a fresh store has in its words, part by part.
use Rattle.std.specs.Prelude.{◌≡◌, refl, List, ◌∷◌, ℕ, zero, suc, ◌+◌, ◌-◌, ◌*◌, ◌≤◌, ◌<◌, length, replicate}
use Rattle.std.proofs.Common.{sym, ap₂, subst, ◌∙◌, arith, lit<}
use Rattle.std.proofs.Math.Path.{ap}
use Rattle.std.proofs.Math.Decide.{ℕ_discrete}
use Rattle.words.specs.Store.{entry_words, HasRecord, put_record, beyond, length-put_record, record-other}
use Rattle.words.specs.Header.{header_word, put_header_word, entries_place, records_place, root_place, height_place, first_place, free_place}
use Rattle.words.specs.Entries.{HasEntry, entry_word, put_entry_word}
use Rattle.words.specs.Frames.{length-header, header-same, header-other, header-beyond, length-entry, entry-header, entry-beyond, record-header, record-entry, record-beyond}
use Rattle.locks.specs.Holders.{count_from}
use Rattle.nodes.specs.Node as D
use Rattle.nodes.specs.Node.{node_at, put_node, encode_node, decode_node, node-same}
use Rattle.nodes.specs.Ops.{lone_node}
use Rattle.nodes.specs.Live.{lone-usable}
use Rattle.groups.specs.Descriptor as G
use Rattle.groups.specs.Descriptor.{descriptor_at, put_descriptor, encode_descriptor, decode_descriptor, descriptor-same}
use Rattle.chain.specs.Free.{push_free}
use Rattle.machine.specs.State.{no_entry}
use Rattle.meaning.specs.Reading.{Chained, M-of, R-of, entries_of}
use Rattle.meaning.specs.Sound.{All}
use Rattle.meaning.specs.Numbers.{all-as}
use Rattle.meaning.specs.Frame.{SameAt, chain_words, all_words, chain-push}
use Rattle.meaning.specs.Parts.{entry_at}
use Rattle.meaning.specs.Writes.{entry-others, entry-put, with_field}
use Rattle.layout.specs.Written.{SameHead}
use Rattle.undo_log.specs.Freeing.{length_push, push-other}
use Rattle.endings.specs.Fresh.{Roomy, fresh_header, fresh_entry, fresh_entries, zero_descriptor, fresh_free, fresh_store}
use Rattle.leaving.specs.Freed.{push-head, push-first, push-ents, push-rest, push-link}

-- ---- the header

module _ (s : List ℕ) (m r : ℕ) (long : 16 ≤ length s) where
  abbrev put_0 : List ℕ
  put_0 = s

  abbrev put_1 : List ℕ
  put_1 = put_header_word put_0 0 m

  abbrev put_2 : List ℕ
  put_2 = put_header_word put_1 1 r

  abbrev put_3 : List ℕ
  put_3 = put_header_word put_2 2 1

  abbrev put_4 : List ℕ
  put_4 = put_header_word put_3 3 1

  abbrev put_5 : List ℕ
  put_5 = put_header_word put_4 4 2

  long-0 : 16 ≤ length put_0
  long-0 = long

  long-1 : 16 ≤ length put_1
  long-1 = subst (λ n. 16 ≤ n) (sym (length-header put_0 0 m (lit< tt))) long-0

  long-2 : 16 ≤ length put_2
  long-2 = subst (λ n. 16 ≤ n) (sym (length-header put_1 1 r (lit< tt))) long-1

  long-3 : 16 ≤ length put_3
  long-3 = subst (λ n. 16 ≤ n) (sym (length-header put_2 2 1 (lit< tt))) long-2

  long-4 : 16 ≤ length put_4
  long-4 = subst (λ n. 16 ≤ n) (sym (length-header put_3 3 1 (lit< tt))) long-3

  long-5 : 16 ≤ length put_5
  long-5 = subst (λ n. 16 ≤ n) (sym (length-header put_4 4 2 (lit< tt))) long-4

  pub head-entries : header_word (fresh_header s m r) entries_place ≡ m
  unfolding fresh_header
  head-entries =
      header-other put_5 5 0 (lit< tt) 0 (λ e. omega (arith, e))
      ∙ header-other put_4 4 2 (lit< tt) 0 (λ e. omega (arith, e))
      ∙ header-other put_3 3 1 (lit< tt) 0 (λ e. omega (arith, e))
      ∙ header-other put_2 2 1 (lit< tt) 0 (λ e. omega (arith, e))
      ∙ header-other put_1 1 r (lit< tt) 0 (λ e. omega (arith, e))
      ∙ header-same put_0 0 m (lit< tt) long-0

  pub head-records : header_word (fresh_header s m r) records_place ≡ r
  unfolding fresh_header
  head-records =
      header-other put_5 5 0 (lit< tt) 1 (λ e. omega (arith, e))
      ∙ header-other put_4 4 2 (lit< tt) 1 (λ e. omega (arith, e))
      ∙ header-other put_3 3 1 (lit< tt) 1 (λ e. omega (arith, e))
      ∙ header-other put_2 2 1 (lit< tt) 1 (λ e. omega (arith, e))
      ∙ header-same put_1 1 r (lit< tt) long-1

  pub head-root : header_word (fresh_header s m r) root_place ≡ 1
  unfolding fresh_header
  head-root =
      header-other put_5 5 0 (lit< tt) 2 (λ e. omega (arith, e))
      ∙ header-other put_4 4 2 (lit< tt) 2 (λ e. omega (arith, e))
      ∙ header-other put_3 3 1 (lit< tt) 2 (λ e. omega (arith, e))
      ∙ header-same put_2 2 1 (lit< tt) long-2

  pub head-height : header_word (fresh_header s m r) height_place ≡ 1
  unfolding fresh_header
  head-height =
      header-other put_5 5 0 (lit< tt) 3 (λ e. omega (arith, e))
      ∙ header-other put_4 4 2 (lit< tt) 3 (λ e. omega (arith, e))
      ∙ header-same put_3 3 1 (lit< tt) long-3

  pub head_first : header_word (fresh_header s m r) first_place ≡ 2
  unfolding fresh_header
  head_first =
      header-other put_5 5 0 (lit< tt) 4 (λ e. omega (arith, e))
      ∙ header-same put_4 4 2 (lit< tt) long-4

  pub head-nofree : header_word (fresh_header s m r) free_place ≡ 0
  unfolding fresh_header
  head-nofree =
      header-same put_5 5 0 (lit< tt) long-5

  pub head-long : length (fresh_header s m r) ≡ length s
  unfolding fresh_header
  head-long =
      length-header put_5 5 0 (lit< tt)
      ∙ length-header put_4 4 2 (lit< tt)
      ∙ length-header put_3 3 1 (lit< tt)
      ∙ length-header put_2 2 1 (lit< tt)
      ∙ length-header put_1 1 r (lit< tt)
      ∙ length-header put_0 0 m (lit< tt)

  pub head-rest : beyond (fresh_header s m r) m r ≡ beyond s m r
  unfolding fresh_header
  head-rest =
      header-beyond put_5 5 0 (lit< tt) m r
      ∙ header-beyond put_4 4 2 (lit< tt) m r
      ∙ header-beyond put_3 3 1 (lit< tt) m r
      ∙ header-beyond put_2 2 1 (lit< tt) m r
      ∙ header-beyond put_1 1 r (lit< tt) m r
      ∙ header-beyond put_0 0 m (lit< tt) m r

-- ---- entries

pub record Cleared (s s' : List ℕ) (n : ℕ) : Type 0 where
  pub long : length s' ≡ length s
  pub head : SameHead s s'
  pub rest : (m r : ℕ) → n ≤ m → beyond s' m r ≡ beyond s m r
  pub zeros : (e : ℕ) → 1 ≤ e → e ≤ n → entry_at s' e ≡ no_entry

module _ (s : List ℕ) (e : ℕ) (has : HasEntry s e) where
  abbrev once : List ℕ
  once = put_entry_word s e 0 0

  abbrev twice : List ℕ
  twice = put_entry_word once e 1 0

  once-has : HasEntry once e
  once-has = record { first = has.first; last = has.last; inside = let z = length-entry s e 0 0 has.first (lit< tt) in let h = has.inside in omega (arith, z, h) }

  twice_has : HasEntry twice e
  twice_has = record { first = has.first; last = has.last; inside = let z = length-entry once e 1 0 has.first (lit< tt) in let h = once-has.inside in omega (arith, z, h) }

  clear-long : length (fresh_entry s e) ≡ length s
  unfolding fresh_entry
  clear-long = length-entry twice e 2 0 has.first (lit< tt) ∙ length-entry once e 1 0 has.first (lit< tt) ∙ length-entry s e 0 0 has.first (lit< tt)

  clear-head : SameHead s (fresh_entry s e)
  unfolding fresh_entry
  clear-head k h = entry-header twice e 2 0 has.first (lit< tt) k h ∙ entry-header once e 1 0 has.first (lit< tt) k h ∙ entry-header s e 0 0 has.first (lit< tt) k h

  clear-rest : (m r : ℕ) → e ≤ m → beyond (fresh_entry s e) m r ≡ beyond s m r
  unfolding fresh_entry
  clear-rest m r l = entry-beyond twice e 2 0 has.first (lit< tt) m r l ∙ entry-beyond once e 1 0 has.first (lit< tt) m r l ∙ entry-beyond s e 0 0 has.first (lit< tt) m r l

  clear-other : (d : ℕ) → 1 ≤ d → (d ≡ e → ⊥) → entry_at s d ≡ entry_at (fresh_entry s e) d
  unfolding fresh_entry
  clear-other d h n = entry-others s e 0 0 has (lit< tt) d h n ∙ entry-others once e 1 0 once-has (lit< tt) d h n ∙ entry-others twice e 2 0 twice_has (lit< tt) d h n

  clear-here : entry_at (fresh_entry s e) e ≡ no_entry
  unfolding fresh_entry with_field
  clear-here =
      entry-put twice e 2 0 twice_has (lit< tt)
      ∙ ap (λ y. record { value = y.value; share = y.share; exclusive = 0 }) (entry-put once e 1 0 once-has (lit< tt))
      ∙ ap (λ y. record { value = y.value; share = 0; exclusive = 0 }) (entry-put s e 0 0 has (lit< tt))

pub cleared : (s : List ℕ) (n : ℕ) → n ≤ 1024 → 16 + entry_words * n ≤ length s → Cleared s (fresh_entries s n) n
unfolding fresh_entries
cleared s zero a b = record { long = refl; head = λ k h. refl; rest = λ m r l. refl; zeros = λ e x y. absurd (omega (arith, x, y)) }
cleared s (suc n) a b = go (cleared s n (omega (arith, a)) (omega (arith, b)))
  where
    go : Cleared s (fresh_entries s n) n → Cleared s (fresh_entry (fresh_entries s n) (suc n)) (suc n)
    go I =
        let t = fresh_entries s n in
        let has : HasEntry t (suc n) = record { first = omega arith; last = a; inside = omega (arith, b, I.long) } in
        record {
          long = clear-long t (suc n) has ∙ I.long;
          head = λ k h. clear-head t (suc n) has k h ∙ I.head k h;
          rest = λ m r l. clear-rest t (suc n) has m r l ∙ I.rest m r (omega (arith, l));
          zeros = λ e x y. one t I has e x y (ℕ_discrete e (suc n));
        }
      where
        one : (t : List ℕ) → Cleared s t n → HasEntry t (suc n) → (e : ℕ) → 1 ≤ e → e ≤ suc n → Dec (e ≡ suc n) → entry_at (fresh_entry t (suc n)) e ≡ no_entry
        one t I has e x y (yes q) = subst (λ d. entry_at (fresh_entry t (suc n)) d ≡ no_entry) (sym q) (clear-here t (suc n) has)
        one t I has e x y (no q) = sym (clear-other t (suc n) has e x q) ∙ I.zeros e x (omega (arith, y, q))

pub entries-zero : (s : List ℕ) (e n : ℕ) → ((d : ℕ) → e ≤ d → d < e + n → entry_at s d ≡ no_entry) → entries_of s e n ≡ replicate n no_entry
entries-zero s e zero h = refl
entries-zero s e (suc n) h = ap₂ (λ x l. x ∷ l) (h e (omega arith) (omega arith)) (entries-zero s (suc e) n (λ d a b. h d (omega (arith, a)) (omega (arith, b))))

-- ---- the free chain

pub from-least : (k n lo : ℕ) → lo ≤ k → All (λ j. lo ≤ j) (count_from k n)
from-least k zero lo h = tt
from-least k (suc n) lo h = (h, from-least (suc k) n lo (omega (arith, h)))

pub record Chainy (s s' : List ℕ) (m from n : ℕ) : Type 0 where
  pub long : length s' ≡ length s
  pub head : (k : ℕ) → k < 16 → ¬ (k ≡ free_place) → header_word s' k ≡ header_word s k
  pub ents : (e : ℕ) → 1 ≤ e → e ≤ m → entry_at s e ≡ entry_at s' e
  pub same : (j : ℕ) → 1 ≤ j → j < from → SameAt s s' m j
  pub rest : (r : ℕ) → from + n ≤ suc r → beyond s' m r ≡ beyond s m r
  pub free : Chained s' m (header_word s' free_place) (count_from from n)

pub chainy : (s : List ℕ) (m from n : ℕ) → m ≤ 1024 → 1 ≤ from → from + n ≤ 4097 → 16 + entry_words * m + 20 * (from + n) ≤ length s + 20 → 16 ≤ length s
    → header_word s free_place ≡ 0 → Chainy s (fresh_free s m from n) m from n
unfolding fresh_free
chainy s m from zero a b c d l z =
    record { long = refl; head = λ k h ne. refl; ents = λ e x y. refl; same = λ j x y. refl; rest = λ r x. refl; free = z }
chainy s m from (suc n) a b c d l z = go (chainy s m (suc from) n a (omega arith) (omega (arith, c)) (omega (arith, d)) l z)
  where
    go : Chainy s (fresh_free s m (suc from) n) m (suc from) n → Chainy s (push_free (fresh_free s m (suc from) n) m from) m from (suc n)
    go I =
        let t = fresh_free s m (suc from) n in
        let u = push_free t m from in
        let f = count_from (suc from) n in
        let has : HasRecord t m from = record { entries = a; first = b; last = omega (arith, c); inside = omega (arith, d, I.long, b) } in
        let same : All (SameAt t u m) f =
        all-as {P = λ j. suc from ≤ j} {Q = SameAt t u m} (λ j h. sym (push-other t m from has j (omega (arith, h)) (λ e. omega (arith, e, h)))) f (from-least (suc from) n (suc from) (omega arith)) in
        let chained : Chained u m from (from ∷ f) =
        chain-push t u m from (header_word t free_place) f I.free (all_words t u m chain_words f same) (push-link t m from has) (λ e. omega (arith, e, b)) in
        record {
          long = length_push t m from has ∙ I.long;
          head = λ k h ne. push-head t m from has k h ne ∙ I.head k h ne;
          ents = λ e x y. I.ents e x y ∙ push-ents t m from has e x y;
          same = λ j x y. I.same j x (omega (arith, y)) ∙ sym (push-other t m from has j x (λ e. omega (arith, e, y)));
          rest = λ r x. push-rest t m from has r (omega (arith, x)) ∙ I.rest r (omega (arith, x));
          free = subst (λ i. Chained u m i (from ∷ f)) (sym (push-first t m from has (omega (arith, l, I.long)))) chained;
        }

-- ---- the whole

pub record IsFresh (s s' : List ℕ) (m r : ℕ) : Type 0 where
  pub long : length s' ≡ length s
  pub entries : M-of s' ≡ m
  pub records : R-of s' ≡ r
  pub root : header_word s' root_place ≡ 1
  pub height : header_word s' height_place ≡ 1
  pub first : header_word s' first_place ≡ 2
  pub zeros : (e : ℕ) → 1 ≤ e → e ≤ m → entry_at s' e ≡ no_entry
  pub node : node_at s' m 1 ≡ lone_node 2
  pub descriptor : descriptor_at s' m 2 ≡ zero_descriptor
  pub free : Chained s' m (header_word s' free_place) (count_from 3 (r - 2))
  pub rest : beyond s' m r ≡ beyond s m r

pub is-fresh : (s : List ℕ) (m r : ℕ) → Roomy s m r → IsFresh s (fresh_store s m r) m r
unfolding fresh_store
is-fresh s m r Z =
    let long : 16 ≤ length s = omega (arith, Z.inside) in
    let a = fresh_header s m r in
    let b = fresh_entries a m in
    let wn = encode_node (lone_node 2) in
    let c = put_node b m 1 (lone_node 2) in
    let wd = encode_descriptor zero_descriptor in
    let d = put_descriptor c m 2 zero_descriptor in
    let la : length a ≡ length s = head-long s m r long in
    let C = cleared a m Z.entries (omega (arith, Z.inside, la)) in
    let lb : length b ≡ length s = C.long ∙ la in
    let hb : HasRecord b m 1 = record { entries = Z.entries; first = omega arith; last = omega arith; inside = omega (arith, Z.inside, Z.eight, lb) } in
    let zn = D.length-encode (lone_node 2) in
    let lc : length c ≡ length s = length-put_record b m 1 wn hb zn ∙ lb in
    let hc : HasRecord c m 2 = record { entries = Z.entries; first = omega arith; last = omega arith; inside = omega (arith, Z.inside, Z.eight, lc) } in
    let zd = G.length-encode zero_descriptor in
    let ld : length d ≡ length s = length-put_record c m 2 wd hc zd ∙ lc in
    let head : (k : ℕ) → k < 16 → header_word d k ≡ header_word a k = λ k h. record-header c m 2 wd hc zd k h ∙ record-header b m 1 wn hb zn k h ∙ C.head k h in
    let F = chainy d m 3 (r - 2) Z.entries (omega arith) (omega (arith, Z.records, Z.eight)) (omega (arith, Z.inside, Z.eight, ld)) (omega (arith, long, ld))
    (head free_place (lit< tt) ∙ head-nofree s m r long) in
    let u = fresh_free d m 3 (r - 2) in
    let up : (k : ℕ) → k < 16 → ¬ (k ≡ free_place) → header_word u k ≡ header_word a k = λ k h ne. F.head k h ne ∙ head k h in
    let ents : (e : ℕ) → 1 ≤ e → e ≤ m → entry_at b e ≡ entry_at u e = λ e x y.
    put_same b m 1 wn hb zn e x y ∙ put_same c m 2 wd hc zd e x y ∙ F.ents e x y in
    record {
      long = F.long ∙ ld;
      entries = up entries_place (lit< tt) (λ e. omega (arith, e)) ∙ head-entries s m r long;
      records = up records_place (lit< tt) (λ e. omega (arith, e)) ∙ head-records s m r long;
      root = up root_place (lit< tt) (λ e. omega (arith, e)) ∙ head-root s m r long;
      height = up height_place (lit< tt) (λ e. omega (arith, e)) ∙ head-height s m r long;
      first = up first_place (lit< tt) (λ e. omega (arith, e)) ∙ head_first s m r long;
      zeros = λ e x y. sym (ents e x y) ∙ C.zeros e x y;
      node = ap decode_node (sym (F.same 1 (omega arith) (omega arith)) ∙ record-other c m 2 wd hc zd 1 (omega arith) (λ e. omega (arith, e))) ∙ node-same b m 1 (lone_node 2) hb (lone-usable 2).sized;
      descriptor = ap decode_descriptor (sym (F.same 2 (omega arith) (omega arith))) ∙ descriptor-same c m 2 zero_descriptor hc;
      free = F.free;
      rest = F.rest r (omega (arith, Z.eight)) ∙ record-beyond c m 2 wd hc zd r (omega (arith, Z.eight)) ∙ record-beyond b m 1 wn hb zn r (omega (arith, Z.eight)) ∙ C.rest m r (omega arith) ∙ head-rest s m r long;
    }
  where
    put_same : (s : List ℕ) (m i : ℕ) (w : List ℕ) → HasRecord s m i → length w ≡ 20 → (e : ℕ) → 1 ≤ e → e ≤ m → entry_at s e ≡ entry_at (put_record s m i w) e
    put_same s m i w has whole e x y =
        let f : (k : ℕ) → k < entry_words → entry_word s e k ≡ entry_word (put_record s m i w) e k = λ k l. sym (record-entry s m i w has whole e k x y l) in
        λ j. record { value = f 0 (lit< tt) j; share = f 1 (lit< tt) j; exclusive = f 2 (lit< tt) j }
