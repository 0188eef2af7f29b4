-- The runs of the code, as equations.
use Rattle.std.specs.Prelude.{◌≡◌, refl, Bool, true, false, List, ℕ, ◌-◌, ◌<◌, length}
use Rattle.std.proofs.Common.{sym, ap, ap₂, subst, ◌∙◌, eq-eqb, ne_eqb}
use Rattle.words.specs.Store.{HasRecord, word_of, has_kept}
use Rattle.words.specs.Header.{header_word, first_place, free_place}
use Rattle.nodes.specs.Ops.{latch_at, latch-length, latch-other}
use Rattle.groups.specs.declared.Descriptor.{Descriptor}
use Rattle.groups.specs.Descriptor.{descriptor_at, put_descriptor, decode_descriptor, made_in, with_next_descriptor, removable}
use Rattle.chain.specs.Free.{pop_free, push_free}
use Rattle.scans.specs.Scans.{last_upto, CanFollow}
use Rattle.nodes.specs.Paths.{son_toward}
use Rattle.descents.specs.Descents.{insert_leaf, remove_leaf, CanInsert, CanRemove}
use Rattle.members.specs.Members.{pin_at, Pinnable}
use Rattle.sessions.specs.declared.Session.{Session}
use Rattle.endings.specs.Table.{idled}
use Rattle.finishing.specs.Finishing.{end_request}
use Rattle.outcomes.specs.declared.Moved.{Moved}
use Rattle.outcomes.specs.declared.Answer.TheVariants.{More, Tidied, Refused}
use Rattle.outcomes.specs.Said.{Stepped, moved}
use Rattle.arriving.specs.Arriving.{staged, to_change, to_second, to_take, arrived_at, pin_words, pin_step, pred_of, make_at, make_words, made_step, full_step, make_step, tidy_at, gone_step, left_step, tidy_step, session_step, lowest_step_of}
use Rattle.arriving.specs.Ready.{PredReady, PinReady, linked, MakeAble, MadeReady, MakeReady, unlinked, TidyAble, TidyReady, SessionReady}

-- ---- session records

pub take_same : (x : Session) (d : ℕ) → x.first ≡ x.second → staged x 5 x.target d x.high 0 ≡ to_take x d
unfolding to_take
take_same x d e = rw (eq-eqb x.first x.second e) refl

pub take-other : (x : Session) (d : ℕ) → ¬ (x.first ≡ x.second) → staged x 5 x.target x.low d 0 ≡ to_take x d
unfolding to_take
take-other x d n = rw (ne_eqb x.first x.second n) refl

pub arrive-change : (x : Session) (d : ℕ) → ¬ (x.code ≡ 5) → to_change x d ≡ arrived_at x d
unfolding arrived_at
arrive-change x d n = rw (ne_eqb x.code 5 n) refl

pub arrive-take : (x : Session) (d : ℕ) → x.code ≡ 5 → x.target ≡ x.second → to_take x d ≡ arrived_at x d
unfolding arrived_at
arrive-take x d e q = rw (eq-eqb x.code 5 e, eq-eqb x.target x.second q) refl

pub arrive-second : (x : Session) (d : ℕ) → x.code ≡ 5 → ¬ (x.target ≡ x.second) → to_second x d ≡ arrived_at x d
unfolding arrived_at
arrive-second x d e n = rw (eq-eqb x.code 5 e, ne_eqb x.target x.second n) refl

-- ---- descriptors

pub pred-run : (s : List ℕ) (m r key : ℕ) {first a : ℕ} → first ≡ header_word s first_place → a ≡ last_upto s m r first (key - 1) → a ≡ pred_of s m r key
unfolding pred_of
pred-run s m r key e q = q ∙ ap (λ i. last_upto s m r i (key - 1)) e

pub follow-at : {s : List ℕ} {m r i key : ℕ} → PredReady s m r key → i ≡ header_word s first_place → CanFollow s m r i
follow-at {s} {m} {r} P e = subst (λ j. CanFollow s m r j) (sym e) P.follow

-- What a step leaves is a record.
abbrev pub Leaves : List ℕ → Moved → Stepped → Type 0
Leaves t z y = (t ≡ y.words) × (z ≡ moved y)

-- ---- a stored key

pub pin-able : {s t : List ℕ} {m d : ℕ} {x : Session} → PinReady s m x → d ≡ son_toward s m x.at x.target → t ≡ latch_at s m x.at 0 → Pinnable t m d
pin-able {s} {t} {m} {d} {x} P e q =
    let k = son_toward s m x.at x.target in
    let has = P.toward.node in
    let son = P.toward.son in
    let same = ap decode_descriptor (latch-other s m x.at 0 has k son.first P.apart) in
    subst (λ i. Pinnable t m i) (sym e) (subst (λ z. Pinnable z m k) (sym q)
    (record { has = has_kept son (latch-length s m x.at 0 has); room = subst (λ v. v.pins < 4294967295) (sym same) P.room }))

pub pin-run : (s : List ℕ) {s₁ s₂ : List ℕ} {d : ℕ} {y : Session} (m : ℕ) (x : Session) → d ≡ son_toward s m x.at x.target → s₁ ≡ latch_at s m x.at 0 → s₂ ≡ pin_at s₁ m d → y ≡ arrived_at x d
    → Leaves s₂ (record { answer = More; session = y }) (pin_step s m x)
unfolding pin_step pin_words
pin-run s {s₁} {s₂} {d} {y} m x a b c e = (c ∙ ap₂ (λ z i. pin_at z m i) b a, ap (λ z. record { answer = More; session = z }) (e ∙ ap (arrived_at x) a))

-- ---- a key that is not stored

pub pop-has : {s t : List ℕ} {m at key b a : ℕ} → MakeAble s m at key b → a ≡ header_word s free_place → length t ≡ length s → HasRecord t m a
pop-has {s} {t} {m} A e q = has_kept (subst (HasRecord s m) (sym e) (A.free.first A.some)) q

pub make-run : (s : List ℕ) {s₁ s₂ s₃ s₄ : List ℕ} {d new next : Descriptor} {a : ℕ} (m at key b : ℕ) → d ≡ descriptor_at s m b → a ≡ header_word s free_place → s₁ ≡ pop_free s m
    → new ≡ made_in d.gap key d.next → s₂ ≡ put_descriptor s₁ m a new → next ≡ with_next_descriptor d a → s₃ ≡ put_descriptor s₂ m b next → s₄ ≡ insert_leaf s₃ m at key a
    → (a ≡ header_word s free_place) × (s₄ ≡ make_at s m at key b)
unfolding make_at
make-run s m at key b e f g h i j k l = (f, cc)

pub insert-able : (s : List ℕ) {s₁ s₂ s₃ : List ℕ} {d new next : Descriptor} {a : ℕ} (m at key b : ℕ) → MakeAble s m at key b → d ≡ descriptor_at s m b → a ≡ header_word s free_place → s₁ ≡ pop_free s m
    → new ≡ made_in d.gap key d.next → s₂ ≡ put_descriptor s₁ m a new → next ≡ with_next_descriptor d a → s₃ ≡ put_descriptor s₂ m b next → CanInsert s₃ m at key
unfolding linked
insert-able s {s₁} {s₂} {s₃} {d} {new} {next} {a} m at key b A e f g h i j k =
    let q : s₃ ≡ linked s m key b = cc in
    subst (λ z. CanInsert z m at key) (sym q) A.insert

pub made-run : (s : List ℕ) {s₁ : List ℕ} {b a : ℕ} {y : Session} (m r : ℕ) (x : Session) → b ≡ pred_of s m r x.target → a ≡ header_word s free_place → s₁ ≡ make_at s m x.at x.target b
    → y ≡ arrived_at x a → Leaves s₁ (record { answer = More; session = y }) (made_step s m r x)
unfolding made_step make_words
made-run s m r x a b c e = (c ∙ ap (make_at s m x.at x.target) a, ap (λ z. record { answer = More; session = z }) (e ∙ ap (arrived_at x) b))

pub make-able : {s : List ℕ} {m r b : ℕ} {x : Session} → MadeReady s m r x → b ≡ pred_of s m r x.target → MakeAble s m x.at x.target b
make-able {s} {m} {r} {b} {x} A e = subst (λ i. MakeAble s m x.at x.target i) (sym e) A.able

pub full-run : (s : List ℕ) {s₁ : List ℕ} {z : Moved} (m : ℕ) (x : Session) → (s₁ ≡ end_request s m x) × (z ≡ record { answer = Refused 11 0; session = idled x }) → Leaves s₁ z (full_step s m x)
unfolding full_step
full-run s m x e = e

pub make-full : (s t : List ℕ) {a : ℕ} {z : Moved} (m r : ℕ) (x : Session) → a ≡ header_word s free_place → a ≡ 0 → Leaves t z (full_step s m x) → Leaves t z (make_step s m r x)
unfolding make_step
make-full s t {a} {z} m r x e q h = rw (eq-eqb (header_word s free_place) 0 (sym e ∙ q)) h

pub make-makes : (s t : List ℕ) {a : ℕ} {z : Moved} (m r : ℕ) (x : Session) → a ≡ header_word s free_place → ¬ (a ≡ 0) → Leaves t z (made_step s m r x) → Leaves t z (make_step s m r x)
unfolding make_step
make-makes s t {a} {z} m r x e q h = rw (ne_eqb (header_word s free_place) 0 (λ w. q (e ∙ w))) h

-- ---- tidy

pub tidy-run : (s : List ℕ) {s₁ s₂ s₃ : List ℕ} {v w : Descriptor} {next : ℕ} (m at key b d : ℕ) → v ≡ descriptor_at s m b → next ≡ (descriptor_at s m d).next → w ≡ with_next_descriptor v next
    → s₁ ≡ put_descriptor s m b w → s₂ ≡ remove_leaf s₁ m at key → s₃ ≡ push_free s₂ m d → s₃ ≡ tidy_at s m at key b d
unfolding tidy_at
tidy-run s m at key b d e f g h i j = cc

pub remove-able : (s : List ℕ) {s₁ : List ℕ} {v w : Descriptor} {next : ℕ} (m at b d : ℕ) → TidyAble s m at b d → v ≡ descriptor_at s m b → next ≡ (descriptor_at s m d).next → w ≡ with_next_descriptor v next
    → s₁ ≡ put_descriptor s m b w → CanRemove s₁ m at
unfolding unlinked
remove-able s {s₁} m at b d A e f g h =
    let q : s₁ ≡ unlinked s m b d = cc in
    subst (λ z. CanRemove z m at) (sym q) A.remove

pub gone-run : (s : List ℕ) {s₁ : List ℕ} {y : Session} (m b d : ℕ) (x : Session) → s₁ ≡ tidy_at s m x.at x.target b d → y ≡ idled x
    → Leaves s₁ (record { answer = Tidied x.target 1; session = y }) (gone_step s m b d x)
unfolding gone_step
gone-run s m b d x a c = (a, ap (λ z. record { answer = Tidied x.target 1; session = z }) c)

pub left-run : (s : List ℕ) {s₁ : List ℕ} {y : Session} (m : ℕ) (x : Session) → s₁ ≡ latch_at s m x.at 0 → y ≡ idled x
    → Leaves s₁ (record { answer = Tidied x.target 0; session = y }) (left_step s m x)
unfolding left_step
left-run s m x a c = (a, ap (λ z. record { answer = Tidied x.target 0; session = z }) c)

pub tidy-able : {s : List ℕ} {m r b d : ℕ} {x : Session} → TidyReady s m r x → b ≡ pred_of s m r x.target → d ≡ son_toward s m x.at x.target → TidyAble s m x.at b d
tidy-able {s} {m} {r} {b} {d} {x} A e f = subst (λ i. TidyAble s m x.at i d) (sym e) (subst (TidyAble s m x.at (pred_of s m r x.target)) (sym f) A.able)

-- The test, by what was read.
removed : (s : List ℕ) (m r : ℕ) (x : Session) {b d gap : ℕ} {v : Descriptor} → b ≡ pred_of s m r x.target → d ≡ son_toward s m x.at x.target → gap ≡ (descriptor_at s m b).gap
    → v ≡ descriptor_at s m d → removable v gap ≡ removable (descriptor_at s m (son_toward s m x.at x.target)) (descriptor_at s m (pred_of s m r x.target)).gap
removed s m r x a c e f = ap₂ (λ v g. removable v g) (f ∙ ap (descriptor_at s m) c) (e ∙ ap (λ i. (descriptor_at s m i).gap) a)

pub tidy-goes : (s t : List ℕ) {z : Moved} {b d gap : ℕ} {v : Descriptor} {g : Bool} (m r : ℕ) (x : Session) → b ≡ pred_of s m r x.target → d ≡ son_toward s m x.at x.target
    → gap ≡ (descriptor_at s m b).gap → v ≡ descriptor_at s m d → g ≡ removable v gap → g ≡ true → Leaves t z (gone_step s m b d x) → Leaves t z (tidy_step s m r x)
unfolding tidy_step
tidy-goes s t {z} {b} {d} m r x a c e f h i k =
    rw (sym (removed s m r x a c e f) ∙ sym h ∙ i) (subst (λ j. Leaves t z (gone_step s m j (son_toward s m x.at x.target) x)) a (subst (λ j. Leaves t z (gone_step s m b j x)) c k))

pub tidy-stays : (s t : List ℕ) {z : Moved} {b d gap : ℕ} {v : Descriptor} {g : Bool} (m r : ℕ) (x : Session) → b ≡ pred_of s m r x.target → d ≡ son_toward s m x.at x.target
    → gap ≡ (descriptor_at s m b).gap → v ≡ descriptor_at s m d → g ≡ removable v gap → g ≡ false → Leaves t z (left_step s m x) → Leaves t z (tidy_step s m r x)
unfolding tidy_step
tidy-stays s t m r x a c e f h i k = rw (sym (removed s m r x a c e f) ∙ sym h ∙ i) k

-- ---- the row

module _ (s : List ℕ) {d key : ℕ} (m r : ℕ) (x : Session) (a : d ≡ son_toward s m x.at x.target) (b : key ≡ word_of s m d 1) where
  word-is : key ≡ word_of s m (son_toward s m x.at x.target) 1
  word-is = b ∙ ap (λ i. word_of s m i 1) a

  pub pin-ready : SessionReady s m r x → key ≡ x.target → PinReady s m x
  pin-ready S e = S.pin (sym word-is ∙ e)

  pub make-ready : SessionReady s m r x → ¬ (key ≡ x.target) → MakeReady s m r x
  make-ready S n = S.make (λ e. n (word-is ∙ e))

  pub session-pins : (t : List ℕ) (z : Moved) → key ≡ x.target → Leaves t z (pin_step s m x) → Leaves t z (session_step s m r x)
  unfolding session_step
  session-pins t z e h = rw (eq-eqb (word_of s m (son_toward s m x.at x.target) 1) x.target (sym word-is ∙ e)) h

  pub session-makes : (t : List ℕ) (z : Moved) → ¬ (key ≡ x.target) → Leaves t z (make_step s m r x) → Leaves t z (session_step s m r x)
  unfolding session_step
  session-makes t z n h = rw (ne_eqb (word_of s m (son_toward s m x.at x.target) 1) x.target (λ e. n (word-is ∙ e))) h

pub lowest-keeper : (s t : List ℕ) {z : Moved} (m r p : ℕ) (x : Session) → p ≡ 0 → Leaves t z (tidy_step s m r x) → Leaves t z (lowest_step_of s m r p x)
unfolding lowest_step_of
lowest-keeper s t m r p x e h = rw (eq-eqb p 0 e) h

pub lowest-session : (s t : List ℕ) {z : Moved} (m r p : ℕ) (x : Session) → ¬ (p ≡ 0) → Leaves t z (session_step s m r x) → Leaves t z (lowest_step_of s m r p x)
unfolding lowest_step_of
lowest-session s t m r p x n h = rw (ne_eqb p 0 n) h
