-- The runs of the code, as equations: what its calls come to, in the order of the calls.
use mathlib.Core.Path.{◌≡◌, ap, ap₂, ◌∙◌}
use mathlib.Core.List.{List}
use Prim.Native.Nat.{ℕ, ◌-◌}
use Rattle.words.specs.Header.{put_header_word, entries_place, records_place, root_place, height_place, first_place, free_place}
use Rattle.words.specs.Entries.{entry_word, put_entry_word}
use Rattle.locks.specs.Holders.{left_by}
use Rattle.nodes.specs.declared.Node.{Node}
use Rattle.nodes.specs.Node.{put_node}
use Rattle.nodes.specs.Ops.{lone_node}
use Rattle.groups.specs.declared.Descriptor.{Descriptor}
use Rattle.groups.specs.Descriptor.{descriptor_at, put_descriptor, with_holders}
use Rattle.endings.specs.Leave.{leave_entry, left_descriptor, leave_group}
use Rattle.endings.specs.Fresh.{fresh_header, fresh_entry, fresh_entries, zero_descriptor, fresh_free, fresh_store}

-- ---- a session leaves

-- The words read are a and b, those written v and w.
pub leave-run : (s : List ℕ) (p e : ℕ) {a b v w : ℕ} {s₁ s₂ : List ℕ} → a ≡ entry_word s e 1 → b ≡ entry_word s e 2 → v ≡ left_by p a → s₁ ≡ put_entry_word s e 1 v → w ≡ left_by p b
    → s₂ ≡ put_entry_word s₁ e 2 w → s₂ ≡ leave_entry s p e
unfolding leave_entry
leave-run s p e x y q u r t = t ∙ ap₂ (λ (z : List ℕ) (k : ℕ). put_entry_word z e 2 k) (u ∙ ap (put_entry_word s e 1) (q ∙ ap (left_by p) x)) (r ∙ ap (left_by p) y)

pub left-run : (p : ℕ) (d : Descriptor) {a b c : ℕ} {r : Descriptor} → a ≡ left_by p d.locate → b ≡ left_by p d.update → c ≡ left_by p d.gap → r ≡ with_holders d a b c
    → r ≡ left_descriptor p d
unfolding left_descriptor
left-run p d {a} x y z t = t ∙ ap₂ (with_holders d a) y z ∙ ap (λ (k : ℕ). with_holders d k (left_by p d.update) (left_by p d.gap)) x

pub group-run : (s : List ℕ) (m p i : ℕ) {d x : Descriptor} {t : List ℕ} → d ≡ descriptor_at s m i → x ≡ left_descriptor p d → t ≡ put_descriptor s m i x → t ≡ leave_group s m p i
unfolding leave_group
group-run s m p i a b c = c ∙ ap (λ (y : Descriptor). put_descriptor s m i y) (b ∙ ap (left_descriptor p) a)

-- ---- a fresh store

put_on : (k w : ℕ) {s t u : List ℕ} → s ≡ t → u ≡ put_header_word s k w → u ≡ put_header_word t k w
put_on k w a b = b ∙ ap (λ (z : List ℕ). put_header_word z k w) a

pub header-run : (s : List ℕ) (m r : ℕ) {s₁ s₂ s₃ s₄ s₅ s₆ : List ℕ} → s₁ ≡ put_header_word s entries_place m → s₂ ≡ put_header_word s₁ records_place r → s₃ ≡ put_header_word s₂ root_place 1
    → s₄ ≡ put_header_word s₃ height_place 1 → s₅ ≡ put_header_word s₄ first_place 2 → s₆ ≡ put_header_word s₅ free_place 0
    → s₆ ≡ fresh_header s m r
unfolding fresh_header
header-run s m r a b c d e f = put_on free_place 0 (put_on first_place 2 (put_on height_place 1 (put_on root_place 1 (put_on records_place r a b) c) d) e) f

pub entry-run : (s : List ℕ) (e : ℕ) {s₁ s₂ s₃ : List ℕ} → s₁ ≡ put_entry_word s e 0 0 → s₂ ≡ put_entry_word s₁ e 1 0 → s₃ ≡ put_entry_word s₂ e 2 0 → s₃ ≡ fresh_entry s e
unfolding fresh_entry
entry-run s e a b c = c ∙ ap (λ (z : List ℕ). put_entry_word z e 2 0) (b ∙ ap (λ (z : List ℕ). put_entry_word z e 1 0) a)

pub fresh-run : (s : List ℕ) (m r : ℕ) {s₁ s₂ s₃ s₄ s₅ : List ℕ} {n : Node} {d : Descriptor} → s₁ ≡ fresh_header s m r → s₂ ≡ fresh_entries s₁ m → n ≡ lone_node 2 → s₃ ≡ put_node s₂ m 1 n
    → d ≡ zero_descriptor → s₄ ≡ put_descriptor s₃ m 2 d → s₅ ≡ fresh_free s₄ m 3 (r - 2)
    → s₅ ≡ fresh_store s m r
unfolding fresh_store
fresh-run s m r a b x c y d e =
    e
    ∙ ap (λ (z : List ℕ). fresh_free z m 3 (r - 2))
    (d ∙ ap₂ (λ (z : List ℕ) (k : Descriptor). put_descriptor z m 2 k) (c ∙ ap₂ (λ (z : List ℕ) (k : Node). put_node z m 1 k) (b ∙ ap (λ (z : List ℕ). fresh_entries z m) a) x) y)
