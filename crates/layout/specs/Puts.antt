-- Records that are written fit what was written: nodes, descriptors, the free chain.
use Rattle.std.specs.Prelude.{◌≡◌, refl, List, ◌∷◌, ℕ, ◌≤◌, get_or, length, set}
use Rattle.std.proofs.Common.{sym, ap, subst, ◌∙◌, arith, lit<, length-set, get_or-set_same}
use Rattle.words.specs.Store.{HasRecord, record_at, put_record, word_of, length-record, record_same}
use Rattle.words.specs.Header.{header_word, put_header_word, free_place}
use Rattle.nodes.specs.declared.Node.{Node}
use Rattle.nodes.specs.Node.{decode_node, node_at, put_node, Sized, node-same}
use Rattle.nodes.specs.Entries as N
use Rattle.groups.specs.declared.Descriptor.{Descriptor}
use Rattle.groups.specs.Descriptor.{decode_descriptor, descriptor_at}
use Rattle.chain.specs.Free.{push_free}
use Rattle.meaning.specs.Reading.{Chained, Leaf, M-of}
use Rattle.meaning.specs.Sound.{All, Apart}
use Rattle.meaning.specs.Numbers.{all_of}
use Rattle.meaning.specs.Frame.{SameAt, chain_words, all_words, chained_same}
use Rattle.meaning.specs.Writes.{put-others, header_at}
use Rattle.layout.specs.Layout.{DescFits, NodeFits}

-- ---- words of a node and of a descriptor, as they are read

pub node-latch : (s : List ℕ) (m i : ℕ) → (node_at s m i).latch ≡ word_of s m i 0
unfolding decode_node
node-latch s m i = refl

pub node-count : (s : List ℕ) (m i : ℕ) → (node_at s m i).count ≡ word_of s m i 1
unfolding decode_node
node-count s m i = refl

pub desc-next : (s : List ℕ) (m i : ℕ) → (descriptor_at s m i).next ≡ word_of s m i 0
unfolding decode_descriptor
desc-next s m i = refl

pub desc-key : (s : List ℕ) (m i : ℕ) → (descriptor_at s m i).key ≡ word_of s m i 1
unfolding decode_descriptor
desc-key s m i = refl

pub desc-locate : (s : List ℕ) (m i : ℕ) → (descriptor_at s m i).locate ≡ word_of s m i 2
unfolding decode_descriptor
desc-locate s m i = refl

pub desc-update : (s : List ℕ) (m i : ℕ) → (descriptor_at s m i).update ≡ word_of s m i 3
unfolding decode_descriptor
desc-update s m i = refl

pub desc-gap : (s : List ℕ) (m i : ℕ) → (descriptor_at s m i).gap ≡ word_of s m i 4
unfolding decode_descriptor
desc-gap s m i = refl

pub desc-pins : (s : List ℕ) (m i : ℕ) → (descriptor_at s m i).pins ≡ word_of s m i 5
unfolding decode_descriptor
desc-pins s m i = refl

pub desc-first : (s : List ℕ) (m i : ℕ) → (descriptor_at s m i).first ≡ word_of s m i 6
unfolding decode_descriptor
desc-first s m i = refl

-- ---- a node

-- A record that reads as a node fits that node.
pub node-fits : (s : List ℕ) (m i hi : ℕ) (n : Node) → node_at s m i ≡ n → n.count ≤ 8 → NodeFits s m hi (record { num = i; word = n.latch }) (N.entries n hi)
node-fits s m i hi n e c = record {
  latch = sym (node-latch s m i) ∙ ap (λ x. x.latch) e;
  few = subst (λ k. k ≤ 8) (sym (sym (node-count s m i) ∙ ap (λ x. x.count) e)) c;
  sons = ap (λ x. N.entries x hi) e;
}

pub node-put : (s : List ℕ) (m i hi : ℕ) (n : Node) → HasRecord s m i → Sized n → n.count ≤ 8 → NodeFits (put_node s m i n) m hi (record { num = i; word = n.latch }) (N.entries n hi)
node-put s m i hi n has z c = node-fits (put_node s m i n) m i hi n (node-same s m i n has z) c

-- ---- a descriptor

pub desc-fits : (s : List ℕ) (m : ℕ) (l : Leaf) (d : Descriptor) → descriptor_at s m l.num ≡ d → d.key ≡ l.desc.key → d.locate ≡ l.desc.locate → d.update ≡ l.desc.update
    → d.gap ≡ l.desc.gap → d.pins ≡ l.desc.pins → DescFits s m l
desc-fits s m l d e a b c f g = record {
  key = sym (desc-key s m l.num) ∙ ap (λ x. x.key) e ∙ a;
  locate = sym (desc-locate s m l.num) ∙ ap (λ x. x.locate) e ∙ b;
  update = sym (desc-update s m l.num) ∙ ap (λ x. x.update) e ∙ c;
  gap = sym (desc-gap s m l.num) ∙ ap (λ x. x.gap) e ∙ f;
  pins = sym (desc-pins s m l.num) ∙ ap (λ x. x.pins) e ∙ g;
}

-- ---- the free chain

-- One record is taken off: the rest is chained.
pub free-popped : (s s' : List ℕ) (m a : ℕ) (f : List ℕ) → Chained s m (header_word s free_place) (a ∷ f) → header_word s' free_place ≡ word_of s m (header_word s free_place) 0 → All (SameAt s s' m) f
    → Chained s' m (header_word s' free_place) f
free-popped s s' m a f c e same = subst (λ i. Chained s' m i f) (sym e) (chained_same s s' m (word_of s m (header_word s free_place) 0) f (all_words s s' m chain_words f same) c.2)

-- A record is given back, and is the first one.
pub free-pushed : (s : List ℕ) (i : ℕ) (f : List ℕ) → HasRecord s (M-of s) i → Chained s (M-of s) (header_word s free_place) f → All (λ j. 1 ≤ j) f → Apart i f
    → Chained (push_free s (M-of s) i) (M-of s) i (i ∷ f)
unfolding push_free
free-pushed s i f has c low out =
    let m = M-of s in
    let h = header_word s free_place in
    let w = set (record_at s m i) 0 h in
    let whole : length w ≡ 20 = length-set (record_at s m i) 0 h ∙ length-record s m i in
    let q = put_record s m i w in
    let z = put_header_word q free_place i in
    let link : word_of z m i 0 ≡ h =
    ap (λ (l : List ℕ). get_or l 0 0) (sym (header_at q free_place i (lit< tt) m i) ∙ record_same s m i w has whole) ∙ get_or-set_same (record_at s m i) 0 h 0 (let k = length-record s m i in omega arith) in
    let one : Chained q m h f = chained_same s q m h f (all_words s q m chain_words f (put-others s m i w has whole f low out)) c in
    let two : Chained z m h f = chained_same q z m h f (all_words q z m chain_words f (all_of (header_at q free_place i (lit< tt) m) f)) one in
    (refl, (λ e. omega (arith, has.first, e)), subst (λ j. Chained z m j f) (sym link) two)
