-- Whom a wait names: what is read again of the words, and of the numbers of the table, is the machine's choice.
use Rattle.std.specs.Prelude.{◌≡◌, Bool, true, false, cond, ℕ, zero, suc, ◌+◌, ◌≤◌, ◌<◌, eqb, leb, length, set}
use Rattle.std.proofs.Math.Path.{refl, sym, ap, ap₂, subst}
use Rattle.std.proofs.Common.{◌∙◌, arith}
use mathlib.Core.List.{List, [], ◌∷◌}
use Rattle.std.proofs.Math.Dec.{ltb}
use borrow.Author.Tests.{eq-eqb, ne_eqb}
use Rattle.words.specs.Store.{word_of}
use Rattle.words.specs.Entries.{entry_word}
use Rattle.locks.specs.Holders.{width, count_from, filter, holds, holders, conflicts}
use Rattle.locks.specs.Blockers.{none-holds}
use Rattle.groups.specs.Descriptor.{descriptor_at}
use Rattle.sessions.specs.declared.Session.{Session}
use Rattle.sessions.specs.Sessions.{session_at}
use Rattle.seniority.specs.Seniority.{elder_of, eldest_from, eldest_of, eldest_in}
use Rattle.serial.specs.Serial.{true≢false}
use Rattle.serial.specs.Locks.{Mode, weak, strong}
use Rattle.serial.specs.Locks as K
use Rattle.serial.specs.Calls as C
use Rattle.outcomes.specs.declared.Answer as D
use Rattle.outcomes.specs.declared.Answer.TheVariants.{Ok, More, Wait, Done, Tidied, Refused}
use Rattle.outcomes.specs.Said.{said, Stepped}
use Rattle.machine.specs.Logic.{either, eqb_is, eqb_yes, leb-is, leb_yes, leb_no}
use Rattle.machine.specs.Holders.{blockers, elem}
use Rattle.machine.specs.State.{State, Request, Stage, start, enter, at, change, take, Answer, ok, more, wait, done, refused, Outcome, session_of, entry_of, desc_of}
use Rattle.machine.specs.Steps.{rule, answer, entry_blockers, group_blockers, next_step, oldest, named, settled}
use Rattle.machine.specs.Waits.{waiting, WaitsFor, step_blockers, step_waits, settled-calm, settled-waits}
use Rattle.machine.specs.Demand.{Tells}
use Rattle.meaning.specs.Reading.{M-of, R-of}
use Rattle.meaning.specs.Sound.{All}
use Rattle.layout.specs.Layout.{Lay, Undone, means, session_in}
use Rattle.layout.specs.Row.{Stands, Heads}
use Rattle.layout.specs.Asked.{request_in, set_same}
use Rattle.layout.specs.Places.{session-means}
use Rattle.layout.specs.Puts.{desc-locate, desc-update}
use Rattle.long_locks.specs.LongLocks.{mode_number, same-conflicts}
use Rattle.starting.specs.Start.{entry_words, entry-least, entry-most}
use Rattle.members.specs.Members.{Holdable}
use Rattle.changing.specs.Logs.{key-desc}
use Rattle.changing.specs.Rows as G
use Rattle.changing.specs.Rows.{in-change}
use Rattle.taking.specs.Place.{next_taken}
use Rattle.taking.specs.Found.{next_key, in_take}
use Rattle.taking.specs.Moves.{word-locate, word-update}
use Rattle.promises.specs.Relations.{stays}
use Rattle.promises.specs.Stepping.{stage_step, entry_conflicts, group_conflicts, first_conflicts, conflict_word, named_by, settled_answer, StageReady, Careful, five-ways, stage-moves}

-- ---- who began first, by the table and by the machine

passing-all : (P : ℕ → Type 0) (f : ℕ → Bool) (k n : ℕ) → ((q : ℕ) → k ≤ q → q < k + n → P q) → All P (filter f (count_from k n))
passing-all P f k zero h = tt
passing-all P f k (suc n) h =
    let rest = filter f (count_from (suc k) n) in
    let r = passing-all P f (suc k) n (λ q a b. h q (omega arith) (omega arith)) in
    either (All P) (f k) (k ∷ rest) rest (h k (omega arith) (omega arith), r) r

module _ (t : List Session) (σ : State) where
  abbrev Same : ℕ → Type 0
  Same q = (session_of q σ).order ≡ (session_at t q).order

  eldest-from : (b : ℕ) (bs : List ℕ) → Same b → All Same bs → eldest_from t b bs ≡ oldest σ b bs
  unfolding eldest_from elder_of oldest
  eldest-from b [] e h = refl
  eldest-from b (c ∷ cs) e h =
      let d = ltb (session_at t c).order (session_at t b).order in
      eldest-from (cond d c b) cs (either Same d c b h.0 e) h.1 ∙ ap (λ z. oldest σ (cond z c b) cs) (sym (ap₂ ltb h.0 e))

  -- Of a holders word that has the sessions b and bs.
  eldest-oldest : ((q : ℕ) → 1 ≤ q → q ≤ width → Same q) → (w b : ℕ) (bs : List ℕ) → holders width w ≡ b ∷ bs → eldest_in t w ≡ oldest σ b bs
  unfolding eldest_in eldest_of holders
  eldest-oldest f w b bs e =
      let h = subst (All Same) e (passing-all Same (holds w) 1 width (λ q a l. f q a (omega (arith, l)))) in
      ap (eldest_of t) e ∙ eldest-from b bs h.0 h.1

order-in : (u : ℕ → List Undone) (q : ℕ) (x : Session) → 1 ≤ q → (session_in u q x).order ≡ x.order
order-in u zero x l = absurd (omega (arith, l))
order-in u (suc q) x l = refl

-- The machine's numbers are the table's.
pub orders-same : (L : Lay) (t : List Session) (q : ℕ) → 1 ≤ q → q < length t → (session_of q (means L t)).order ≡ (session_at t q).order
orders-same L t q a l = ap (λ z. z.order) (session-means L t q l) ∙ order-in L.undos q (session_at t q) a

-- ---- rows' answers

heads-tell : (z : Answer) (a : C.Answer) → waiting z ≡ false → Heads z a → Tells z a
heads-tell ok a w h = h
heads-tell more a w h = h
heads-tell (wait ps) a w h = absurd (true≢false {b = true} refl w)
heads-tell (done ns) a w h = h
heads-tell (refused n k) a w h = h

not-waiting : (z : Answer) (q : ℕ) → waiting z ≡ false → Heads z (C.wait q) → ⊥
not-waiting ok q w h = true≢false {b = true} refl (ap stays h)
not-waiting more q w h = true≢false {b = true} refl (ap stays h)
not-waiting (wait ps) q w h = true≢false {b = true} refl w
not-waiting (done ns) q w h = true≢false {b = true} refl (ap stays h)
not-waiting (refused n k) q w h = let z : ◌≡◌ {A = ℕ} 0 1 = cc in omega arith

said-wait : (a : D.Answer) (b : ℕ) → said a ≡ C.wait b → a ≡ Wait b
said-wait Ok b e = absurd (true≢false {b = false} (ap stays e) refl)
said-wait More b e = absurd (true≢false {b = false} (ap stays e) refl)
said-wait (Wait q) b e = let z : q ≡ b = cc in ap Wait z
said-wait (Done n) b e = absurd (true≢false {b = false} (ap stays e) refl)
said-wait (Tidied k i) b e = absurd (true≢false {b = false} (ap stays e) refl)
said-wait (Refused n k) b e = let z : ◌≡◌ {A = ℕ} 0 1 = cc in absurd (omega arith)

-- ---- who is in the way

-- The pinned descriptor, of a session.
module _ (s : List ℕ) (t : List Session) (A : Stands s t) (p : ℕ) (l : suc p ≤ width) (e : (session_at t (suc p)).stage ≡ 4) where
  abbrev y : Session
  y = session_at t (suc p)

  low_word : (j : ℕ) → word_of s (M-of s) y.low j ≡ word_of s (M-of s) (G.P s t A p l e).leaf.num j
  low_word j = ap (λ i. word_of s (M-of s) i j) (sym (G.P s t A p l e).num)

  same-desc : (G.P s t A p l e).leaf.desc ≡ desc_of y.first (means A.lay t)
  same-desc = sym (key-desc A.lay t y.first y.low (G.P s t A p l e))

  low-words : holders width (group_conflicts s (M-of s) y.low 1 (suc p)) ≡ step_blockers (suc p) (request_in y) (means A.lay t) change
  unfolding group_conflicts step_blockers group_blockers request_in
  low-words =
      let d = y.low in
      ap₂ (λ a b. holders width (conflicts 1 1 (suc p) a b))
      (desc-locate s (M-of s) d ∙ low_word 2 ∙ (G.D s t A p l e).locate ∙ ap (λ z. z.locate) same-desc)
      (desc-update s (M-of s) d ∙ low_word 3 ∙ (G.D s t A p l e).update ∙ ap (λ z. z.update) same-desc)
      ∙ same-conflicts K.group strong (suc p) _ _

change-words : (s : List ℕ) (t : List Session) (A : Stands s t) (p : ℕ) → p ≤ width → (session_at t p).stage ≡ 4
    → holders width (group_conflicts s (M-of s) (session_at t p).low 1 p) ≡ step_blockers p (request_in (session_at t p)) (means A.lay t) change
change-words s t A zero l e = absurd (omega (arith, G.is-session s t A zero l e))
change-words s t A (suc p) l e = low-words s t A p l e

-- ---- the step as it is settled

module _ (s : List ℕ) (t : List Session) (A : Stands s t) (p : ℕ) (l : p ≤ width) where
  abbrev x : Session
  x = session_at t p

  abbrev m : ℕ
  m = M-of s

  abbrev r : ℕ
  r = R-of s

  abbrev σ : State
  σ = means A.lay t

  abbrev R : Request
  R = request_in (session_at t p)

  -- Who is in the way, by stage.
  first-words : x.stage ≡ 1 → holders width (first_conflicts s p x) ≡ step_blockers p R σ start
  unfolding first_conflicts entry_conflicts step_blockers entry_blockers request_in
  first-words e = go (eqb x.code 1) refl (leb x.code 4) refl
    where
      entry : x.code ≤ 4 → (n : Mode) → holders width (conflicts 0 (mode_number n) p (entry_word s x.entry 1) (entry_word s x.entry 2)) ≡ blockers rule K.entry n p (entry_of x.entry σ).share (entry_of x.entry σ).exclusive
      entry c n =
          ap (λ y. holders width (conflicts 0 (mode_number n) p y.share y.exclusive)) (sym (entry_words s t A.lay A.holds x.entry (entry-least s t A p l e c) (entry-most s t A p l e c)))
          ∙ same-conflicts K.entry n p (entry_of x.entry σ).share (entry_of x.entry σ).exclusive

      go : (a : Bool) → eqb x.code 1 ≡ a → (b : Bool) → leb x.code 4 ≡ b
          → holders width (cond a (conflicts 0 0 p (entry_word s x.entry 1) (entry_word s x.entry 2)) (cond b (conflicts 0 1 p (entry_word s x.entry 1) (entry_word s x.entry 2)) 0))
          ≡ cond a (blockers rule K.entry weak p (entry_of x.entry σ).share (entry_of x.entry σ).exclusive) (cond b (blockers rule K.entry strong p (entry_of x.entry σ).share (entry_of x.entry σ).exclusive) [])
      go true i b j = entry (omega (arith, eqb_is x.code 1 i)) weak
      go false i true j = entry (leb-is x.code 4 j) strong
      go false i false j = none-holds width

  take_words : x.stage ≡ 5 → holders width (group_conflicts s m (next_taken s m r x) 0 p) ≡ step_blockers p R σ (take (next_key x))
  unfolding group_conflicts step_blockers group_blockers
  take_words e =
      let d = next_taken s m r x in
      ap₂ (λ a b. holders width (conflicts 1 0 p a b)) (desc-locate s m d ∙ word-locate s t A p l e) (desc-update s m d ∙ word-update s t A p l e) ∙ same-conflicts K.group weak p _ _

  module _ (n : ℕ) (in_hand : ¬ ((session_at t p).stage ≡ 0)) where
    abbrev out : Outcome
    out = next_step n p R σ R.stage

    abbrev row : D.Answer
    row = (stage_step s m r n p x).answer

    numbers : (q : ℕ) → 1 ≤ q → q ≤ width → (session_of q σ).order ≡ (session_at t q).order
    numbers q a b = orders-same A.lay t q a (omega (arith, b, A.holds.seats))

    -- At a stage that asks for a long lock, and at one that asks for a latch.
    long-named : (g : Stage) → R.stage ≡ g → ((b : ℕ) (bs : List ℕ) → named σ g b bs ≡ oldest σ b bs) → ¬ (x.stage ≡ 2) → ¬ (x.stage ≡ 3) → (w : ℕ) → conflict_word s m r p x ≡ w
        → holders width w ≡ step_blockers p R σ g → (b : ℕ) (bs : List ℕ) → step_blockers p R σ R.stage ≡ b ∷ bs → named_by s m r t p x b ≡ named σ R.stage b bs
    unfolding named_by
    long-named g i k n₂ n₃ w e h b bs q =
        rw (ne_eqb x.stage 2 n₂, ne_eqb x.stage 3 n₃)
        (ap (eldest_in t) e ∙ eldest-oldest t σ numbers w b bs (h ∙ ap (step_blockers p R σ) (sym i) ∙ q) ∙ sym (k b bs) ∙ ap (λ z. named σ z b bs) (sym i))

    latch-named : (g : Stage) → R.stage ≡ g → ((b : ℕ) (bs : List ℕ) → named σ g b bs ≡ b) → (b : ℕ) (bs : List ℕ) → named_by s m r t p x b ≡ b → named_by s m r t p x b ≡ named σ R.stage b bs
    latch-named g i k b bs e = e ∙ sym (k b bs) ∙ ap (λ z. named σ z b bs) (sym i)

    named-same : (b : ℕ) (bs : List ℕ) → step_blockers p R σ R.stage ≡ b ∷ bs → named_by s m r t p x b ≡ named σ R.stage b bs
    unfolding request_in conflict_word named_by
    named-same b bs q = five-ways (named_by s m r t p x b ≡ named σ R.stage b bs) x.stage in_hand (A.holds.hands p l).stage
        (λ e. long-named start (rw (eq-eqb x.stage 1 e) refl) (λ c cs. refl) (λ z. omega (arith, z, e)) (λ z. omega (arith, z, e)) (first_conflicts s p x)
        (rw (ne_eqb x.stage 5 (λ z. omega (arith, z, e)), eq-eqb x.stage 1 e) refl) (first-words e) b bs q)
        (λ e. latch-named (enter x.target) (rw (ne_eqb x.stage 1 (λ z. omega (arith, z, e)), eq-eqb x.stage 2 e) refl) (λ c cs. refl) b bs (rw (eq-eqb x.stage 2 e) refl))
        (λ e. latch-named (at x.target) (rw (ne_eqb x.stage 1 (λ z. omega (arith, z, e)), ne_eqb x.stage 2 (λ z. omega (arith, z, e)), eq-eqb x.stage 3 e) refl) (λ c cs. refl) b bs
        (rw (ne_eqb x.stage 2 (λ z. omega (arith, z, e)), eq-eqb x.stage 3 e) refl))
        (λ e. long-named change (in-change s t A p l e) (λ c cs. refl) (λ z. omega (arith, z, e)) (λ z. omega (arith, z, e)) (group_conflicts s m x.low 1 p)
        (rw (ne_eqb x.stage 5 (λ z. omega (arith, z, e)), ne_eqb x.stage 1 (λ z. omega (arith, z, e))) refl) (change-words s t A p l e) b bs q)
        (λ e. long-named (take (next_key x)) (in_take s t A p l e) (λ c cs. refl) (λ z. omega (arith, z, e)) (λ z. omega (arith, z, e)) (group_conflicts s m (next_taken s m r x) 0 p)
        (rw (eq-eqb x.stage 5 e) refl) (take_words e) b bs q)

    plain : (a : D.Answer) → waiting out.answer ≡ false → Heads out.answer (said a) → Tells out.answer (said (settled_answer s m r t p x a))
    plain Ok w h = heads-tell out.answer C.ok w h
    plain More w h = heads-tell out.answer C.more w h
    plain (Wait q) w h = absurd (not-waiting out.answer q w h)
    plain (Done k) w h = heads-tell out.answer (C.done (k ∷ [])) w h
    plain (Tidied k b) w h = heads-tell out.answer (C.done (k ∷ b ∷ [])) w h
    plain (Refused i k) w h = heads-tell out.answer (C.refused i k) w h

    -- The answer with the party that is named tells the machine's, settled.
    pub settled-tells : Tells (settled σ R.stage out).answer (said (settled_answer s m r t p x row))
    settled-tells = go (step_blockers p R σ R.stage) refl (step_waits n p R σ R.stage)
      where
        heads : Heads out.answer (said row)
        heads = (stage-moves s t A p l n in_hand).tells

        one : (b : ℕ) → elem b (b ∷ []) ≡ true
        one b = rw (eqb_yes b b refl) refl

        go : (bs : List ℕ) → step_blockers p R σ R.stage ≡ bs → WaitsFor σ bs out → Tells (settled σ R.stage out).answer (said (settled_answer s m r t p x row))
        go [] q w = subst (λ o. Tells o.answer (said (settled_answer s m r t p x row))) (sym (settled-calm σ R.stage out w)) (plain row w heads)
        go (b ∷ bs) q w =
            let k = named σ R.stage b bs in
            let f : row ≡ Wait b = said-wait row b (subst (λ o. Heads o.answer (said row)) w heads) in
            subst (λ o. Tells o.answer (said (settled_answer s m r t p x row))) (sym (settled-waits σ R.stage (b ∷ bs) out w))
            (subst (λ a. Tells (wait (k ∷ [])) (said (settled_answer s m r t p x a))) (sym f) (k, one k, ap C.wait (named-same b bs q)))

-- ---- a step with its wait named

abbrev pub settled_step : List ℕ → ℕ → ℕ → List Session → ℕ → Session → Stepped → Stepped
settled_step s m r t p x z = record { words = z.words; session = z.session; answer = settled_answer s m r t p x z.answer }

module _ (s : List ℕ) (m r : ℕ) (t : List Session) (p : ℕ) (x : Session) where
  careful-as : (z : Stepped) (a : D.Answer) → z.answer ≡ a → Careful s m x z → Careful s m x (record { words = z.words; session = z.session; answer = settled_answer s m r t p x a })
  careful-as z Ok e c = record { still = λ q. c.still (ap (λ a. stays (said a)) e ∙ q); closes = λ n k q y. c.closes n k (ap said e ∙ q) y }
  careful-as z More e c = record { still = λ q. c.still (ap (λ a. stays (said a)) e ∙ q); closes = λ n k q y. c.closes n k (ap said e ∙ q) y }
  careful-as z (Wait b) e c = record { still = λ q. c.still (ap (λ a. stays (said a)) e); closes = λ n k q y. let i : ◌≡◌ {A = ℕ} 0 1 = cc in absurd (omega arith) }
  careful-as z (Done i) e c = record { still = λ q. c.still (ap (λ a. stays (said a)) e ∙ q); closes = λ n k q y. c.closes n k (ap said e ∙ q) y }
  careful-as z (Tidied i b) e c = record { still = λ q. c.still (ap (λ a. stays (said a)) e ∙ q); closes = λ n k q y. c.closes n k (ap said e ∙ q) y }
  careful-as z (Refused i b) e c = record { still = λ q. c.still (ap (λ a. stays (said a)) e ∙ q); closes = λ n k q y. c.closes n k (ap said e ∙ q) y }

  -- It changes nothing where it waits, and ends where it is refused.
  pub settled-careful : (z : Stepped) → Careful s m x z → Careful s m x (settled_step s m r t p x z)
  settled-careful z c = careful-as z z.answer refl c

-- On a wait words and record are as they were, so after the step the same party is named.
pub settled-after : (s s' : List ℕ) (m r : ℕ) (t : List Session) (p : ℕ) (y : Session) (a : D.Answer) → (stays (said a) ≡ true → (s' ≡ s) × (y ≡ session_at t p))
    → settled_answer s' m r (set t p y) p y a ≡ settled_answer s m r t p (session_at t p) a
settled-after s s' m r t p y Ok f = refl
settled-after s s' m r t p y More f = refl
settled-after s s' m r t p y (Wait q) f =
    let e = f refl in
    ap (λ z. Wait (named_by z m r (set t p y) p y q)) e.0 ∙ ap (λ z. Wait (named_by s m r (set t p z) p z q)) e.1 ∙ ap (λ z. Wait (named_by s m r z p (session_at t p) q)) (set_same t p)
settled-after s s' m r t p y (Done n) f = refl
settled-after s s' m r t p y (Tidied k b) f = refl
settled-after s s' m r t p y (Refused n k) f = refl

-- ---- the runs of the code, as equations

pub entry-conflicts-run : (s : List ℕ) (e asked p : ℕ) {v w c : ℕ} → v ≡ entry_word s e 1 → w ≡ entry_word s e 2 → c ≡ conflicts 0 asked p v w → c ≡ entry_conflicts s e asked p
unfolding entry_conflicts
entry-conflicts-run s e asked p a b c = c ∙ ap₂ (conflicts 0 asked p) a b

pub group-conflicts-run : (s : List ℕ) (m d asked p : ℕ) {v w c : ℕ} → v ≡ (descriptor_at s m d).locate → w ≡ (descriptor_at s m d).update → c ≡ conflicts 1 asked p v w
    → c ≡ group_conflicts s m d asked p
unfolding group_conflicts
group-conflicts-run s m d asked p a b c = c ∙ ap₂ (conflicts 1 asked p) a b

pub first-conflicts-read : (s : List ℕ) (p : ℕ) (x : Session) {c : ℕ} → x.code ≡ 1 → c ≡ entry_conflicts s x.entry 0 p → c ≡ first_conflicts s p x
unfolding first_conflicts
first-conflicts-read s p x e h = rw (eq-eqb x.code 1 e) h

pub first-conflicts-write : (s : List ℕ) (p : ℕ) (x : Session) {c : ℕ} → ¬ (x.code ≡ 1) → x.code ≤ 4 → c ≡ entry_conflicts s x.entry 1 p → c ≡ first_conflicts s p x
unfolding first_conflicts
first-conflicts-write s p x n l h = rw (ne_eqb x.code 1 n, leb_yes x.code 4 l) h

pub first-conflicts-none : (s : List ℕ) (p : ℕ) (x : Session) → ¬ (x.code ≡ 1) → 4 < x.code → 0 ≡ first_conflicts s p x
unfolding first_conflicts
first-conflicts-none s p x n l = rw (ne_eqb x.code 1 n, leb_no x.code 4 l) refl

pub conflict-take : (s : List ℕ) (m r p : ℕ) (x : Session) {d c : ℕ} → x.stage ≡ 5 → d ≡ next_taken s m r x → c ≡ group_conflicts s m d 0 p → c ≡ conflict_word s m r p x
unfolding conflict_word
conflict-take s m r p x e i h = rw (eq-eqb x.stage 5 e) (h ∙ ap (λ z. group_conflicts s m z 0 p) i)

pub conflict-first : (s : List ℕ) (m r p : ℕ) (x : Session) {c : ℕ} → ¬ (x.stage ≡ 5) → x.stage ≡ 1 → c ≡ first_conflicts s p x → c ≡ conflict_word s m r p x
unfolding conflict_word
conflict-first s m r p x n e h = rw (ne_eqb x.stage 5 n, eq-eqb x.stage 1 e) h

pub conflict-change : (s : List ℕ) (m r p : ℕ) (x : Session) {c : ℕ} → ¬ (x.stage ≡ 5) → ¬ (x.stage ≡ 1) → c ≡ group_conflicts s m x.low 1 p → c ≡ conflict_word s m r p x
unfolding conflict_word
conflict-change s m r p x n e h = rw (ne_eqb x.stage 5 n, ne_eqb x.stage 1 e) h

-- What the words of a request must have for them.
pub take-holds : (s : List ℕ) (m r p : ℕ) (x : Session) {d : ℕ} → StageReady s m r p x → x.stage ≡ 5 → d ≡ next_taken s m r x → Holdable s m d p
take-holds s m r p x K e i = subst (λ z. Holdable s m z p) (sym i) (K.takes e).last.done.hold

pub change-holds : (s : List ℕ) (m r p : ℕ) (x : Session) → StageReady s m r p x → ¬ (x.stage ≡ 5) → ¬ (x.stage ≡ 1) → ¬ (x.stage ≡ 2) → ¬ (x.stage ≡ 3) → Holdable s m x.low p
change-holds s m r p x K a b c d = let z = (K.early a).changes b c d in record { has = z.has; first = z.first; last = z.last }

pub named-enter : (s : List ℕ) (m r : ℕ) (t : List Session) (p : ℕ) (x : Session) (q : ℕ) → x.stage ≡ 2 → q ≡ named_by s m r t p x q
unfolding named_by
named-enter s m r t p x q e = rw (eq-eqb x.stage 2 e) refl

pub named-at : (s : List ℕ) (m r : ℕ) (t : List Session) (p : ℕ) (x : Session) (q : ℕ) → ¬ (x.stage ≡ 2) → x.stage ≡ 3 → q ≡ named_by s m r t p x q
unfolding named_by
named-at s m r t p x q n e = rw (ne_eqb x.stage 2 n, eq-eqb x.stage 3 e) refl

pub named-long : (s : List ℕ) (m r : ℕ) (t : List Session) (p : ℕ) (x : Session) (q : ℕ) {w c : ℕ} → ¬ (x.stage ≡ 2) → ¬ (x.stage ≡ 3) → w ≡ conflict_word s m r p x → c ≡ eldest_in t w
    → c ≡ named_by s m r t p x q
unfolding named_by
named-long s m r t p x q n k e h = rw (ne_eqb x.stage 2 n, ne_eqb x.stage 3 k) (h ∙ ap (eldest_in t) e)

-- An answer that is no wait, and a wait.
pub kept_answer : (s : List ℕ) (m r : ℕ) (t : List Session) (p : ℕ) (x : Session) {a b : D.Answer} → a ≡ b → settled_answer s m r t p x b ≡ b → b ≡ settled_answer s m r t p x a
kept_answer s m r t p x e h = sym h ∙ ap (settled_answer s m r t p x) (sym e)

pub named-answer : (s : List ℕ) (m r : ℕ) (t : List Session) (p : ℕ) (x : Session) {a : D.Answer} {q b : ℕ} → a ≡ Wait q → b ≡ named_by s m r t p x q → Wait b ≡ settled_answer s m r t p x a
named-answer s m r t p x e h = ap Wait h ∙ ap (settled_answer s m r t p x) (sym e)
