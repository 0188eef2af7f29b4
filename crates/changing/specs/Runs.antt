-- The runs of the code, as equations.
use Rattle.std.specs.Prelude.{◌≡◌, refl, Bool, true, false, cond, not, List, ℕ, eqb}
use Rattle.std.proofs.Common.{sym, ap, ap₂, subst, ◌∙◌, eq-eqb, ne_eqb}
use Rattle.words.specs.Store.{word_of}
use Rattle.words.specs.Header.{header_word, free_place}
use Rattle.groups.specs.declared.Descriptor.{Descriptor}
use Rattle.groups.specs.Descriptor.{descriptor_at}
use Rattle.chain.specs.Free.{pop_free}
use Rattle.chain.specs.Walk.{Walk}
use Rattle.locks.specs.Holders.{word_bits, blockers, first_of}
use Rattle.sessions.specs.declared.Session.{Session}
use Rattle.outcomes.specs.declared.Answer.TheVariants.{Wait, Done, Refused}
use Rattle.outcomes.specs.declared.Moved.{Moved}
use Rattle.outcomes.specs.Said.{Stepped, moved}
use Rattle.members.specs.Members.{Pinned, Puttable, put_member, take_member, update_at, unpin_at}
use Rattle.undo_log.specs.Undoing.{Loggable, log_added, log_taken}
use Rattle.endings.specs.Table.{logged_by, idled}
use Rattle.scans.specs.Scans.{membership_of}
use Rattle.changing.specs.Changing.{hold_and_end, change_blocker, keep_step, added_words, add_step, taken_words, take_step_of, refuse_step, wait_step, has_two, room_step, insert_step, remove_step, code_step, change_at, change_step, Ends, CodeReady}

-- The words t and the session record and answer r are those of z.
abbrev pub Leaves : List ℕ → Moved → Stepped → Type 0
Leaves t r z = (t ≡ z.words) × (r ≡ moved z)

leaves-as : (t : List ℕ) (r : Moved) (y z : Stepped) → z ≡ y → Leaves t r y → Leaves t r z
leaves-as t r y z e l = (l.0 ∙ ap (λ w. w.words) (sym e), l.1 ∙ ap moved (sym e))

leaves-if : (t : List ℕ) (r : Moved) (b : Bool) (y z : Stepped) → b ≡ true → Leaves t r y → Leaves t r (cond b y z)
leaves-if t r b y z e l = leaves-as t r y (cond b y z) (ap (λ (c : Bool). cond c y z) e) l

leaves-else : (t : List ℕ) (r : Moved) (b : Bool) (y z : Stepped) → b ≡ false → Leaves t r z → Leaves t r (cond b y z)
leaves-else t r b y z e l = leaves-as t r z (cond b y z) (ap (λ (c : Bool). cond c y z) e) l

-- ---- straight runs

pub blocker-run : (s : List ℕ) (m d p : ℕ) {v : Descriptor} {q : ℕ} → v ≡ descriptor_at s m d → q ≡ first_of (blockers word_bits 1 1 p v.locate v.update) → q ≡ change_blocker s m d p
unfolding change_blocker
blocker-run s m d p e f = f ∙ ap (λ (v : Descriptor). first_of (blockers word_bits 1 1 p v.locate v.update)) e

pub end-ready : (s : List ℕ) {t : List ℕ} (m d p : ℕ) → t ≡ update_at s m d p → Pinned (update_at s m d p) m d → Pinned t m d
end-ready s m d p e h = subst (λ z. Pinned z m d) (sym e) h

pub end-run : (s : List ℕ) {t u : List ℕ} (m d p : ℕ) → t ≡ update_at s m d p → u ≡ unpin_at t m d → u ≡ hold_and_end s m d p
unfolding hold_and_end
end-run s m d p e f = f ∙ ap (λ z. unpin_at z m d) e

pub put-ready : (s : List ℕ) {t : List ℕ} (m d : ℕ) {a : ℕ} → (a ≡ header_word s free_place) × (t ≡ pop_free s m) → Puttable (pop_free s m) m d (header_word s free_place) → Puttable t m d a
put-ready s {t} m d q h = subst (λ i. Puttable t m d i) (sym q.0) (subst (λ z. Puttable z m d (header_word s free_place)) (sym q.1) h)

put_is : (s : List ℕ) {t u : List ℕ} (m d e : ℕ) {a : ℕ} → (a ≡ header_word s free_place) × (t ≡ pop_free s m) → u ≡ put_member t m d a e → u ≡ put_member (pop_free s m) m d (header_word s free_place) e
put_is s m d e q f = f ∙ ap₂ (λ z i. put_member z m d i e) q.1 q.0

pub log-ready : (s : List ℕ) {t u : List ℕ} (m d e : ℕ) {a : ℕ} → (a ≡ header_word s free_place) × (t ≡ pop_free s m) → u ≡ put_member t m d a e
    → Loggable (put_member (pop_free s m) m d (header_word s free_place) e) m → Loggable u m
log-ready s m d e q f h = subst (λ z. Loggable z m) (sym (put_is s m d e q f)) h

pub entry-run : (s : List ℕ) {t u w : List ℕ} (m : ℕ) (x : Session) (d : ℕ) {a b : ℕ} → (a ≡ header_word s free_place) × (t ≡ pop_free s m) → u ≡ put_member t m d a x.entry
    → (b ≡ header_word u free_place) × (w ≡ log_added u m x.entry a d x.undo)
    → (b ≡ header_word (put_member (pop_free s m) m d (header_word s free_place) x.entry) free_place) × (w ≡ added_words s m x d)
unfolding added_words
entry-run s m x d q f g =
    let i = put_is s m d x.entry q f in
    (g.0 ∙ ap (λ z. header_word z free_place) i, g.1 ∙ ap₂ (λ z j. log_added z m x.entry j d x.undo) i q.0)

pub out-run : (s : List ℕ) {t w : List ℕ} (m : ℕ) (x : Session) (d i : ℕ) → t ≡ take_member s m d i → w ≡ log_taken t m i x.entry d x.undo → w ≡ taken_words s m x d i
unfolding taken_words
out-run s m x d i e f = f ∙ ap (λ z. log_taken z m i x.entry d x.undo) e

pub ends_as : {s t : List ℕ} {m d p : ℕ} → t ≡ s → Ends s m d p → Ends t m d p
ends_as {s} {t} {m} {d} {p} e h = subst (λ z. Ends z m d p) (sym e) h

-- ---- rows

pub keep_run : (s : List ℕ) {t : List ℕ} (m p : ℕ) (x : Session) (d : ℕ) {y : Session} → t ≡ hold_and_end s m d p → y ≡ idled x → Leaves t (record { answer = Done 0; session = y }) (keep_step s m p x d)
unfolding keep_step
keep_run s m p x d e w = (e, ap (λ (k : Session). record { answer = Done 0; session = k }) w)

pub add-run : (s : List ℕ) {u t : List ℕ} (m p : ℕ) (x : Session) (d : ℕ) {b : ℕ} {y : Session}
    → (b ≡ header_word (put_member (pop_free s m) m d (header_word s free_place) x.entry) free_place) × (u ≡ added_words s m x d) → t ≡ hold_and_end u m d p → y ≡ logged_by x b
    → Leaves t (record { answer = Done 1; session = y }) (add_step s m p x d)
unfolding add_step
add-run s m p x d q e w = (e ∙ ap (λ z. hold_and_end z m d p) q.1, ap (λ (k : Session). record { answer = Done 1; session = k }) (w ∙ ap (logged_by x) q.0))

pub take-run : (s : List ℕ) {u t : List ℕ} (m p : ℕ) (x : Session) (d i : ℕ) {y : Session} → u ≡ taken_words s m x d i → t ≡ hold_and_end u m d p → y ≡ logged_by x i
    → Leaves t (record { answer = Done 1; session = y }) (take_step_of s m p x d i)
unfolding take_step_of
take-run s m p x d i q e w = (e ∙ ap (λ z. hold_and_end z m d p) q, ap (λ (k : Session). record { answer = Done 1; session = k }) w)

pub refuse-run : (s : List ℕ) {t : List ℕ} (m : ℕ) (x : Session) (d : ℕ) {y : Session} → t ≡ unpin_at s m d → y ≡ idled x → Leaves t (record { answer = Refused 11 0; session = y }) (refuse_step s m x d)
unfolding refuse_step
refuse-run s m x d e w = (e, ap (λ (k : Session). record { answer = Refused 11 0; session = k }) w)

-- ---- tests

pub two_none : (s : List ℕ) (m : ℕ) {a : ℕ} → a ≡ header_word s free_place → a ≡ 0 → false ≡ has_two s m
unfolding has_two
two_none s m e z =
    sym (ap (λ (b : Bool). cond b false (cond (eqb (word_of s m (header_word s free_place) 0) 0) false true)) (eq-eqb (header_word s free_place) 0 (sym e ∙ z)))

two-some : (s : List ℕ) (m : ℕ) → ¬ (header_word s free_place ≡ 0) → has_two s m ≡ cond (eqb (word_of s m (header_word s free_place) 0) 0) false true
unfolding has_two
two-some s m n = ap (λ (b : Bool). cond b false (cond (eqb (word_of s m (header_word s free_place) 0) 0) false true)) (ne_eqb (header_word s free_place) 0 n)

pub two-last : (s : List ℕ) (m : ℕ) {a b : ℕ} → a ≡ header_word s free_place → ¬ (a ≡ 0) → b ≡ word_of s m a 0 → not (eqb b 0) ≡ has_two s m
two-last s m e n w =
    ap (λ i. not (eqb i 0)) (w ∙ ap (λ i. word_of s m i 0) e) ∙ go (eqb (word_of s m (header_word s free_place) 0) 0) ∙ sym (two-some s m (λ q. n (e ∙ q)))
  where
    go : (q : Bool) → not q ≡ cond q false true
    go true = refl
    go false = refl

module _ (s t : List ℕ) (r : Moved) (m p : ℕ) (x : Session) (d : ℕ) where
  pub room-yes : {b : Bool} → b ≡ has_two s m → b ≡ true → Leaves t r (add_step s m p x d) → Leaves t r (room_step s m p x d)
  unfolding room_step
  room-yes e z l = leaves-if t r (has_two s m) (add_step s m p x d) (refuse_step s m x d) (sym e ∙ z) l

  pub room-no : {b : Bool} → b ≡ has_two s m → b ≡ false → Leaves t r (refuse_step s m x d) → Leaves t r (room_step s m p x d)
  unfolding room_step
  room-no e z l = leaves-else t r (has_two s m) (add_step s m p x d) (refuse_step s m x d) (sym e ∙ z) l

  module _ (i : ℕ) where
    pub insert-none : i ≡ 0 → Leaves t r (room_step s m p x d) → Leaves t r (insert_step s m p x d i)
    unfolding insert_step
    insert-none z l = leaves-if t r (eqb i 0) (room_step s m p x d) (keep_step s m p x d) (eq-eqb i 0 z) l

    pub insert-there : ¬ (i ≡ 0) → Leaves t r (keep_step s m p x d) → Leaves t r (insert_step s m p x d i)
    unfolding insert_step
    insert-there n l = leaves-else t r (eqb i 0) (room_step s m p x d) (keep_step s m p x d) (ne_eqb i 0 n) l

    pub remove-none : i ≡ 0 → Leaves t r (keep_step s m p x d) → Leaves t r (remove_step s m p x d i)
    unfolding remove_step
    remove-none z l = leaves-if t r (eqb i 0) (keep_step s m p x d) (take_step_of s m p x d i) (eq-eqb i 0 z) l

    pub remove-there : ¬ (i ≡ 0) → Leaves t r (take_step_of s m p x d i) → Leaves t r (remove_step s m p x d i)
    unfolding remove_step
    remove-there n l = leaves-else t r (eqb i 0) (keep_step s m p x d) (take_step_of s m p x d i) (ne_eqb i 0 n) l

    pub code-three : x.code ≡ 3 → Leaves t r (insert_step s m p x d i) → Leaves t r (code_step s m p x d i)
    unfolding code_step
    code-three z l = leaves-if t r (eqb x.code 3) (insert_step s m p x d i) (remove_step s m p x d i) (eq-eqb x.code 3 z) l

    pub code_other : ¬ (x.code ≡ 3) → Leaves t r (remove_step s m p x d i) → Leaves t r (code_step s m p x d i)
    unfolding code_step
    code_other n l = leaves-else t r (eqb x.code 3) (insert_step s m p x d i) (remove_step s m p x d i) (ne_eqb x.code 3 n) l

-- ---- the whole

pub walk-as : (s : List ℕ) (m r d : ℕ) {f : ℕ} → f ≡ (descriptor_at s m d).first → Walk s m r (descriptor_at s m d).first → Walk s m r f
walk-as s m r d e w = subst (λ i. Walk s m r i) (sym e) w

found-is : (s : List ℕ) (m r d e : ℕ) {f i : ℕ} → f ≡ (descriptor_at s m d).first → i ≡ membership_of s m r f e → i ≡ membership_of s m r (descriptor_at s m d).first e
found-is s m r d e q w = w ∙ ap (λ j. membership_of s m r j e) q

pub code-as : (s : List ℕ) (m r p : ℕ) (x : Session) (d : ℕ) {f i : ℕ} → f ≡ (descriptor_at s m d).first → i ≡ membership_of s m r f x.entry
    → CodeReady s m p x d (membership_of s m r (descriptor_at s m d).first x.entry) → CodeReady s m p x d i
code-as s m r p x d q w h = subst (CodeReady s m p x d) (sym (found-is s m r d x.entry q w)) h

pub wait-run : (s : List ℕ) (m r p : ℕ) (x : Session) {q : ℕ} → q ≡ change_blocker s m x.low p → ¬ (q ≡ 0) → Leaves s (record { answer = Wait q; session = x }) (change_step s m r p x)
unfolding change_step change_at wait_step
wait-run s m r p x {q} e n =
    let b = change_blocker s m x.low p in
    let y = code_step s m p x x.low (membership_of s m r (descriptor_at s m x.low).first x.entry) in
    leaves-else s (record { answer = Wait q; session = x }) (eqb b 0) y (wait_step s x b) (ne_eqb b 0 (λ z. n (e ∙ z))) (refl, ap (λ j. record { answer = Wait j; session = x }) e)

pub change-run : (s t : List ℕ) (z : Moved) (m r p : ℕ) (x : Session) {q f i : ℕ} → q ≡ change_blocker s m x.low p → q ≡ 0 → f ≡ (descriptor_at s m x.low).first → i ≡ membership_of s m r f x.entry
    → Leaves t z (code_step s m p x x.low i) → Leaves t z (change_step s m r p x)
unfolding change_step change_at
change-run s t z m r p x {q} {f} {i} e o w v l =
    let b = change_blocker s m x.low p in
    let j = membership_of s m r (descriptor_at s m x.low).first x.entry in
    leaves-if t z (eqb b 0) (code_step s m p x x.low j) (wait_step s x b) (eq-eqb b 0 (sym e ∙ o))
    (leaves-as t z (code_step s m p x x.low i) (code_step s m p x x.low j) (ap (code_step s m p x x.low) (sym (found-is s m r x.low x.entry w v))) l)
