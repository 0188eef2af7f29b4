-- The steps of a scan in a run: each says where the next one stands, so that only the first walks there.
use Rattle.std.specs.Prelude.{◌≡◌, refl, Bool, true, false, not, List, ℕ, ◌*◌, ◌≤◌, eqb, leb, ltb, length, set}
use Rattle.std.proofs.Common.{sym, subst, ◌∙◌}
use Rattle.std.proofs.Math.Path.{ap}
use Rattle.std.proofs.Math.Bool.{cond}
use Rattle.std.proofs.lemmas.Bool.{not-true, not-false}
use Rattle.words.specs.Store.{HasRecord, word_of, has_kept}
use Rattle.groups.specs.Descriptor.{descriptor_at, decode_descriptor}
use Rattle.sessions.specs.declared.Session.{Session}
use Rattle.sessions.specs.Sessions.{session_at}
use Rattle.serial.specs.Serial.{true≢false}
use Rattle.outcomes.specs.declared.Answer as D
use Rattle.outcomes.specs.declared.Answer.TheVariants.{More, Wait, Done, Refused}
use Rattle.outcomes.specs.declared.Moved.{Moved}
use Rattle.machine.specs.Holders.{width}
use Rattle.meaning.specs.Reading.{M-of, R-of}
use Rattle.meaning.specs.Sound.{Sound}
use Rattle.members.specs.Members.{pass_at}
use Rattle.taking.specs.Place.{next_taken}
use Rattle.taking.specs.Pass.{took_key}
use Rattle.taking.specs.Taking.{in_way_of, found_in, wait_step, pass_step, done_step, short_step, last_step, free_step, take_step_of, take_written, over, TakeReady}
use Rattle.taking.specs.Runs.{next-ready}
use Rattle.taking.specs.On.{pass_on}
use Rattle.promises.specs.Ways.{any-party}
use Rattle.promises.specs.Stepping.{early_step, EarlyReady, Leaves, LeavesBoth, stage-take, stage-early}
use Rattle.running.specs.Answers.{is_more, is-more}
use Rattle.running.specs.Seats.{Seated, SeatServes, seat-serves, seat-can}

-- A record that is known is that of the descriptor which the scan takes next.
abbrev pub Hint : List ℕ → ℕ → ℕ → Session → ℕ → Type 0
Hint s m r x n = ¬ (n ≡ 0) → (x.stage ≡ 5) × (n ≡ next_taken s m r x)

unfoldable pub place_after : List ℕ → ℕ → ℕ → D.Answer → ℕ
place_after s m d a = cond (is_more a) (word_of s m d 0) 0

pub place_none : (s : List ℕ) (m d : ℕ) (a : D.Answer) {v : Bool} → v ≡ is_more a → not v ≡ true → 0 ≡ place_after s m d a
unfolding place_after
place_none s m d a {v} i j = rw (sym i ∙ not-true v j) refl

pub place-some : (s : List ℕ) (m d : ℕ) (a : D.Answer) {v : Bool} {n : ℕ} → v ≡ is_more a → not v ≡ false → n ≡ (descriptor_at s m d).next → n ≡ place_after s m d a
unfolding place_after decode_descriptor
place-some s m d a {v} i j e = rw (sym i ∙ not-false v j) e

-- The party's request stands in its scan.
pub record Scannable (s : List ℕ) (m r p : ℕ) (x : Session) (from : ℕ) : Type 0 where
  pub seated : Seated s m r p x
  pub stage : x.stage ≡ 5
  pub hint : Hint s m r x from

-- A step, and where the next one of a scan stands.
pub record SatServes (m r p : ℕ) (x : Session) (s l : List ℕ) (a : D.Answer) (l' s' : List ℕ) (y : Session) (n : ℕ) : Type 0 where
  pub serves : SeatServes m r p x s l a l' s' y
  pub hint : Hint s' m r y n

pub scan-ready : {s : List ℕ} {m r p : ℕ} {x : Session} {from : ℕ} → Scannable s m r p x from → TakeReady s m r p x
scan-ready {s} {m} {r} {p} {x} K = (seat-can s m r p x K.seated).takes K.stage

pub scan-has : {s s' : List ℕ} {m r p : ℕ} {x : Session} {from d : ℕ} → Scannable s m r p x from → d ≡ next_taken s m r x → length s' ≡ length s → HasRecord s' m d
scan-has {s} {s'} {m} {r} {p} {x} K e h = has_kept (next-ready s m r p x (scan-ready K) e).done.hold.has h

-- ---- a step that answers more has passed a descriptor

take_more : (s : List ℕ) (m r n p : ℕ) (x : Session) → (take_step_of s m r n p x).answer ≡ More → take_step_of s m r n p x ≡ pass_step s m (next_taken s m r x) p x
unfolding take_step_of free_step last_step wait_step done_step short_step
take_more s m r n p x e = go (eqb (in_way_of s m d p) 0) (ltb (word_of s m d 1) x.second) (leb (2 * found_in s m r x) n) e
  where
    d : ℕ
    d = next_taken s m r x

    go : (a b c : Bool) → (cond a (cond b (pass_step s m d p x) (cond c (done_step s m d p x (found_in s m r x)) (short_step s m x (found_in s m r x)))) (wait_step s (in_way_of s m d p) x)).answer ≡ More
        → cond a (cond b (pass_step s m d p x) (cond c (done_step s m d p x (found_in s m r x)) (short_step s m x (found_in s m r x)))) (wait_step s (in_way_of s m d p) x) ≡ pass_step s m d p x
    go true true c e = refl
    go true false true e = absurd (true≢false {b = is_more (Done (found_in s m r x))} (ap is_more e) refl)
    go true false false e = absurd (true≢false {b = is_more (Refused 12 (found_in s m r x))} (ap is_more e) refl)
    go false b c e = absurd (true≢false {b = is_more (Wait (in_way_of s m d p))} (ap is_more e) refl)

-- ---- where the scan stands then

module _ (s : List ℕ) (T : List Session) (S : Sound s T) (p : ℕ) (party : p ≤ width) where
  abbrev Stood : ℕ → ℕ → Session → Type 0
  Stood m r x = x.stage ≡ 5 → (s' : List ℕ) (y : Session) (d : ℕ) → s' ≡ pass_at s m (next_taken s m r x) p → y ≡ took_key x (word_of s m (next_taken s m r x) 1) → d ≡ next_taken s m r x
      → Sound s' (set T p y) → M-of s' ≡ m → R-of s' ≡ r → (y.stage ≡ 5) × (word_of s' m d 0 ≡ next_taken s' m r y)

  base : Stood (M-of s) (R-of s) (session_at T p)
  unfolding took_key
  base g s' y d e f h Z i j =
      let q = pass_on s T S p party g (subst (λ v. Sound v (set T p (took_key (session_at T p) (word_of s (M-of s) (next_taken s (M-of s) (R-of s) (session_at T p)) 1)))) e (subst (λ v. Sound s' (set T p v)) f Z)) in
      (ap (λ z. z.stage) f ∙ g, cc)

  stood : (m r : ℕ) (x : Session) → m ≡ M-of s → r ≡ R-of s → x ≡ session_at T p → Stood m r x
  stood m r x a b c = subst (λ m. Stood m r x) (sym a) (subst (λ r. Stood (M-of s) r x) (sym b) (subst (Stood (M-of s) (R-of s)) (sym c) base))

pub scan-serves : (s l : List ℕ) (m r p : ℕ) (x : Session) {from d n : ℕ} {s' l' : List ℕ} {w : Moved} → Scannable s m r p x from → d ≡ next_taken s m r x
    → LeavesBoth s' w l' (take_step_of s m r (length l) p x) (over (take_written s m r (length l) p x) l) → n ≡ place_after s' m d w.answer → SatServes m r p x s l w.answer l' s' w.session n
unfolding place_after
scan-serves s l m r p x {from} {d} {n} {s'} {l'} {w} K e h i = record { serves = serves; hint = λ ne. go (is_more w.answer) refl ne }
  where
    serves : SeatServes m r p x s l w.answer l' s' w.session
    serves = seat-serves m r p x s l K.seated (stage-take s l m r p x K.stage h)

    served : Sound s' (set K.seated.table p w.session) × (M-of s' ≡ m) × (R-of s' ≡ r)
    served =
        let z = serves.serves K.seated.table K.seated.sound K.seated.seat K.seated.goes in
        (z.0.sound, z.1.entries ∙ sym K.seated.entries, z.1.records ∙ sym K.seated.records)

    go : (b : Bool) → is_more w.answer ≡ b → ¬ (n ≡ 0) → (w.session.stage ≡ 5) × (n ≡ next_taken s' m r w.session)
    go false q ne = absurd (ne (i ∙ ap (λ b. cond b (word_of s' m d 0) 0) q))
    go true q ne =
        let a : (take_step_of s m r (length l) p x).answer ≡ More = sym (ap (λ z. z.answer) h.1) ∙ is-more w.answer q in
        let f = take_more s m r (length l) p x a in
        let u : s' ≡ pass_at s m (next_taken s m r x) p = h.0 ∙ ap (λ z. z.words) f ∙ (unfold pass_step in refl) in
        let v : w.session ≡ took_key x (word_of s m (next_taken s m r x) 1) = ap (λ z. z.session) h.1 ∙ ap (λ z. z.session) f ∙ (unfold pass_step in refl) in
        let z = stood s K.seated.table K.seated.sound p (any-party p _ K.seated.goes) m r x K.seated.entries K.seated.records K.seated.seat K.stage
        s' w.session d u v e served.0 served.1 served.2 in
        (z.0, i ∙ ap (λ b. cond b (word_of s' m d 0) 0) q ∙ z.1)

-- ---- the other steps

pub early-ready : {s : List ℕ} {m r p : ℕ} {x : Session} → Seated s m r p x → ¬ (x.stage ≡ 5) → EarlyReady s m r p x
early-ready {s} {m} {r} {p} {x} K g = (seat-can s m r p x K).early g

pub early-serves : (s l : List ℕ) (m r p : ℕ) (x : Session) {s' : List ℕ} {w : Moved} → Seated s m r p x → ¬ (x.stage ≡ 5) → Leaves s' w (early_step s m r p x)
    → SatServes m r p x s l w.answer l s' w.session 0
early-serves s l m r p x K g h = record { serves = seat-serves m r p x s l K (stage-early s l m r p x g h); hint = λ e. absurd (e refl) }
