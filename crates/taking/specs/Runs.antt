-- The runs of the code, as equations.
use Rattle.std.specs.Prelude.{◌≡◌, refl, true, false, List, ◌++◌, ℕ, ◌*◌, ◌≤◌, ◌<◌, leb, ltb, length, drop}
use Rattle.std.proofs.Common.{sym, ap, ap₂, subst, ◌∙◌, arith, eq-eqb, ne_eqb}
use Rattle.words.specs.Store.{HasRecord, word_of}
use Rattle.groups.specs.Descriptor.{decode_descriptor, descriptor_at}
use Rattle.locks.specs.Holders.{word_bits, blockers, first_of}
use Rattle.sessions.specs.declared.Session.{Session}
use Rattle.outcomes.specs.declared.Answer.TheVariants.{More, Wait, Done, Refused}
use Rattle.outcomes.specs.declared.Moved.{Moved}
use Rattle.outcomes.specs.Said.{Stepped, moved}
use Rattle.machine.specs.Logic.{leb_yes, leb_no}
use Rattle.scans.specs.Scans.{last_upto, range_words, range_count}
use Rattle.members.specs.Members.{pass_at, locate_at}
use Rattle.endings.specs.Table.{idled}
use Rattle.finishing.specs.Finishing.{Endable, end_request}
use Rattle.taking.specs.Place.{next_taken}
use Rattle.taking.specs.Pass.{took_key}
use Rattle.taking.specs.Taking.{in_way_of, found_in, wait_step, pass_step, done_step, short_step, last_step, free_step, take_step_of, last_written, free_written, take_written, over, CanFind, DoneReady, LastReady, TakeReady}

-- ---- the record that is next

pub next-none : (s : List ℕ) (m r : ℕ) (x : Session) → x.last ≡ 0 → x.low ≡ next_taken s m r x
unfolding next_taken
next-none s m r x e = rw (eq-eqb x.last 0 e) refl

pub next-some : (s : List ℕ) (m r : ℕ) (x : Session) {at d : ℕ} → ¬ (x.last ≡ 0) → at ≡ last_upto s m r x.low x.last → d ≡ (descriptor_at s m at).next → d ≡ next_taken s m r x
unfolding next_taken decode_descriptor
next-some s m r x n e f = rw (ne_eqb x.last 0 n) (f ∙ ap (λ i. word_of s m i 0) e)

pub behind-has : (s : List ℕ) (m r : ℕ) (x : Session) {at : ℕ} → CanFind s m r x → ¬ (x.last ≡ 0) → at ≡ last_upto s m r x.low x.last → HasRecord s m at
behind-has s m r x F n e = subst (HasRecord s m) (sym e) (F.behind n)

-- ---- who is in the way

pub way-run : (s : List ℕ) (m d p : ℕ) {a u b : ℕ} → a ≡ (descriptor_at s m d).locate → u ≡ (descriptor_at s m d).update → b ≡ first_of (blockers word_bits 1 0 p a u) → b ≡ in_way_of s m d p
unfolding in_way_of decode_descriptor
way-run s m d p e f g = g ∙ ap₂ (λ a u. first_of (blockers word_bits 1 0 p a u)) e f

-- ---- the words, the session record and the answer

-- The words t and what is handed back are those of z.
abbrev pub Leaves : List ℕ → Moved → Stepped → Type 0
Leaves t y z = (t ≡ z.words) × (y ≡ moved z)

leaves-as : {t : List ℕ} {y : Moved} (a b : Stepped) → b ≡ a → Leaves t y a → Leaves t y b
leaves-as a b e l = (l.0 ∙ ap (λ w. w.words) (sym e), l.1 ∙ ap moved (sym e))

pub pass-run : (s : List ℕ) (m d p : ℕ) (x : Session) {k : ℕ} {s' : List ℕ} {y : Session} → k ≡ (descriptor_at s m d).key → s' ≡ pass_at s m d p → y ≡ took_key x k
    → Leaves s' (record { answer = More; session = y }) (pass_step s m d p x)
unfolding pass_step decode_descriptor
pass-run s m d p x e f g = (f, ap (λ z. record { answer = More; session = z }) (g ∙ ap (took_key x) e))

pub short-run : (s : List ℕ) (m : ℕ) (x : Session) (n : ℕ) {s' : List ℕ} {r : Moved} → (s' ≡ end_request s m x) × (r ≡ record { answer = Refused 12 n; session = idled x })
    → Leaves s' r (short_step s m x n)
unfolding short_step
short-run s m x n e = e

pub done-run : (s : List ℕ) (m d p : ℕ) (x : Session) (n : ℕ) {s₁ s₂ : List ℕ} {y : Session} → s₁ ≡ locate_at s m d p → (s₂ ≡ end_request s₁ m x) × (y ≡ idled x)
    → Leaves s₂ (record { answer = Done n; session = y }) (done_step s m d p x n)
unfolding done_step
done-run s m d p x n e f = (f.0 ∙ ap (λ z. end_request z m x) e, ap (λ z. record { answer = Done n; session = z }) f.1)

pub held-ends : (s : List ℕ) (m d p : ℕ) (x : Session) {s₁ : List ℕ} → DoneReady s m d p x → s₁ ≡ locate_at s m d p → Endable s₁ m x
held-ends s m d p x R e = subst (λ z. Endable z m x) (sym e) R.ends

-- ---- at second

pub count-few : (s : List ℕ) (m r d p : ℕ) (x : Session) {c : ℕ} → LastReady s m r d p x → c ≡ range_count s m r r x.low x.second → c ≤ 4096
unfolding found_in
count-few s m r d p x R e = let f = R.few in omega arith

-- The step and the list: a list that is too short; one with room.
abbrev pub Lasts : List ℕ → Moved → List ℕ → List ℕ → Stepped → List ℕ → Type 0
Lasts t y l' l z w = (t ≡ z.words) × (y ≡ moved z) × (l' ≡ over w l)

pub short-last : (s : List ℕ) (m r d p : ℕ) (x : Session) (l : List ℕ) {c : ℕ} {t : List ℕ} {y : Moved} → c ≡ range_count s m r r x.low x.second → length l < 2 * c
    → Leaves t y (short_step s m x c) → Lasts t y l l (last_step s m r (length l) d p x) (last_written s m r (length l) x)
unfolding last_step last_written found_in
short-last s m r d p x l {c} e h f =
    let q : leb (2 * range_count s m r r x.low x.second) (length l) ≡ false = ap (λ n. leb (2 * n) (length l)) (sym e) ∙ leb_no (2 * c) (length l) h in
    let g = leaves-as (short_step s m x c) (short_step s m x (range_count s m r r x.low x.second)) (ap (short_step s m x) (sym e)) f in
    rw q (g.0, g.1, refl)

pub done-last : (s : List ℕ) (m r d p : ℕ) (x : Session) (l : List ℕ) {c : ℕ} {t : List ℕ} {y : Moved} {l' : List ℕ} → c ≡ range_count s m r r x.low x.second → 2 * c ≤ length l
    → l' ≡ range_words s m r r x.low x.second ++ drop (length (range_words s m r r x.low x.second)) l → Leaves t y (done_step s m d p x c)
    → Lasts t y l' l (last_step s m r (length l) d p x) (last_written s m r (length l) x)
unfolding last_step last_written found_in
done-last s m r d p x l {c} e h w f =
    let q : leb (2 * range_count s m r r x.low x.second) (length l) ≡ true = ap (λ n. leb (2 * n) (length l)) (sym e) ∙ leb_yes (2 * c) (length l) h in
    let g = leaves-as (done_step s m d p x c) (done_step s m d p x (range_count s m r r x.low x.second)) (ap (done_step s m d p x) (sym e)) f in
    rw q (g.0, g.1, w)

-- ---- nobody is in the way

pub pass-free : (s : List ℕ) (m r d p : ℕ) (x : Session) (l : List ℕ) {k : ℕ} {t : List ℕ} {y : Moved} → k ≡ (descriptor_at s m d).key → k < x.second → Leaves t y (pass_step s m d p x)
    → Lasts t y l l (free_step s m r (length l) d p x) (free_written s m r (length l) d x)
unfolding free_step free_written decode_descriptor
pass-free s m r d p x l e h f = rw (ap (λ n. ltb n x.second) (sym e) ∙ leb_yes _ x.second h) (f.0, f.1, refl)

pub last-free : (s : List ℕ) (m r n d p : ℕ) (x : Session) (l : List ℕ) {k : ℕ} {t : List ℕ} {y : Moved} {l' : List ℕ} → k ≡ (descriptor_at s m d).key → x.second ≤ k
    → Lasts t y l' l (last_step s m r n d p x) (last_written s m r n x) → Lasts t y l' l (free_step s m r n d p x) (free_written s m r n d x)
unfolding free_step free_written decode_descriptor
last-free s m r n d p x l {k} e h f = rw (ap (λ i. ltb i x.second) (sym e) ∙ leb_no _ x.second (omega (arith, h))) f

-- ---- the whole

pub wait-take : (s : List ℕ) (m r p : ℕ) (x : Session) (l : List ℕ) {d b : ℕ} → d ≡ next_taken s m r x → b ≡ in_way_of s m d p → ¬ (b ≡ 0)
    → Lasts s (record { answer = Wait b; session = x }) l l (take_step_of s m r (length l) p x) (take_written s m r (length l) p x)
unfolding take_step_of take_written wait_step
wait-take s m r p x l {d} {b} e f n =
    let q : b ≡ in_way_of s m (next_taken s m r x) p = f ∙ ap (λ i. in_way_of s m i p) e in
    rw (ne_eqb (in_way_of s m (next_taken s m r x) p) 0 (λ z. n (q ∙ z))) (refl, ap (λ i. record { answer = Wait i; session = x }) q, refl)

pub free-take : (s : List ℕ) (m r n p : ℕ) (x : Session) (l : List ℕ) {d b : ℕ} {t : List ℕ} {y : Moved} {l' : List ℕ} → d ≡ next_taken s m r x → b ≡ in_way_of s m d p → b ≡ 0
    → Lasts t y l' l (free_step s m r n d p x) (free_written s m r n d x) → Lasts t y l' l (take_step_of s m r n p x) (take_written s m r n p x)
unfolding take_step_of take_written
free-take s m r n p x l {d} {b} {t} {y} {l'} e f o h =
    rw (eq-eqb (in_way_of s m (next_taken s m r x) p) 0 (sym (f ∙ ap (λ i. in_way_of s m i p) e) ∙ o))
    (subst (λ i. Lasts t y l' l (free_step s m r n i p x) (free_written s m r n i x)) e h)

pub next-ready : (s : List ℕ) (m r p : ℕ) (x : Session) {d : ℕ} → TakeReady s m r p x → d ≡ next_taken s m r x → LastReady s m r d p x
next-ready s m r p x R e = subst (λ i. LastReady s m r i p x) (sym e) R.last
