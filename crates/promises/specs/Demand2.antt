-- Demand 2 of the words: what the promises of the calls say of answers, holders and waits.
use Rattle.std.specs.Prelude.{◌≡◌, refl, Bool, true, false, ◌||◌, List, [], ◌∷◌, ◌++◌, ◌↔◌, ℕ, zero, suc, ◌≤◌, ◌<◌, eqb, length, drop}
use Rattle.std.proofs.Common.{sym, ap, subst, ◌∙◌}
use Rattle.std.proofs.Math.Option.{some}
use Rattle.sessions.specs.declared.Session.{Session}
use Rattle.serial.specs.Serial.{true≢false}
use Rattle.serial.specs.Model.{Item, Req, ans, eff}
use Rattle.serial.specs.Locks.{Kind, Mode, weak, strong}
use Rattle.serial.specs.Locks as L
use Rattle.serial.specs.Calls as C
use Rattle.machine.specs.Holders.{elem}
use Rattle.machine.specs.State.{State, Stage, start, change, take, Request, Answer, ok, more, wait, done, refused, Outcome, session_of}
use Rattle.machine.specs.Logic.{eqb_is}
use Rattle.machine.specs.Steps.{next_step, named, settled}
use Rattle.machine.specs.InTheWay.{LowestFrom, InTheWay, Named}
use Rattle.machine.specs.Conflicts.{entry-meets, change-meets, take_meets}
use Rattle.machine.proofs.Conflicts.{blockers-exactly}
use Rattle.machine.specs.Naming.{named-one}
use Rattle.machine.proofs.Naming.{whom-named}
use Rattle.machine.specs.Tidying.{Chooses, Tidy, tidy-said}
use Rattle.machine.proofs.Tidying.{put-chooses, tidy}
use Rattle.machine.specs.Calls.{Call, call}
use Rattle.machine.specs.Begins.{Begun, begin-begun}
use Rattle.machine.specs.View.{items, holders}
use Rattle.machine.specs.Session.{req_of}
use Rattle.machine.specs.Ledger.{next_ledger}
use Rattle.machine.specs.Answers.{Logical, Untouched, AsModel, may_change, TooShort}
use Rattle.machine.proofs.Answers.{answers-as-model, leaves-logical}
use Rattle.machine.specs.Held.{unseen_step}
use Rattle.machine.proofs.Held.{ledger-step, descents-keep}
use Rattle.machine.specs.Waits.{WaitsFor, step_blockers, step_waits, waiting, only_named, named_of, named-member, whom, settled-waits}
use Rattle.machine.specs.Forward.{Ahead, Onward}
use Rattle.machine.proofs.Forward.{step-forward}
use Rattle.machine.specs.Needs.{step_needs, AtSecond}
use Rattle.machine.proofs.Needs.{step-11, step-12}
use Rattle.machine.specs.Demand.{call_of, Tells, told-done, told-refused}
use Rattle.meaning.specs.Reading.{meaning}
use Rattle.meaning.specs.Sound.{Sound}
use Rattle.promises.specs.Relations.{outcome, Answered, Calls}
use Rattle.machine.specs.Model.{model}
use Rattle.machine.specs.State.{in_stage}
use Rattle.sessions.specs.Sessions.{session_at}
use Rattle.layout.specs.Asked.{request_in}
use Rattle.promises.specs.Steps.{hand-is, outcome-is}
use Rattle.promises.specs.Demand1.{refusal_of}

-- A request that is done: it answers, writes and leaves what the logical model does with it.
pub record Modelled (q : Req) (s : List ℕ) (t : List Session) (l ns l' s' : List ℕ) (t' : List Session) : Type 0 where
  pub number_is : ns ≡ (ans q (model (meaning s t))).numbers
  pub list_is : l' ≡ (ans q (model (meaning s t))).words ++ drop (length (ans q (model (meaning s t))).words) l
  pub after : Logical (eff q (model (meaning s t))) (meaning s' t')

-- A step of party p on sound words, which no check refuses; r is its request in hand.
pub record Demand2 (p : ℕ) (r : Request) (l s : List ℕ) (t : List Session) (a : C.Answer) (l' s' : List ℕ) (t' : List Session) : Type 0 where
  -- Every request answers as the logical model does.
  pub answers : ¬ (p ≡ 0) → (ns : List ℕ) → a ≡ C.done ns → Modelled (req_of r) s t l ns l' s' t'
  -- A step waits exactly if another party's lock conflicts with it (machine/InTheWay), and names one of these (machine/Waits):
  pub waits : ((q : ℕ) × (a ≡ C.wait q)) ↔ ((q : ℕ) × InTheWay p r (meaning s t) r.stage q)
  pub names : (q : ℕ) → a ≡ C.wait q → q ≡ whom p r (meaning s t)
  -- of sessions that hold what it asks for the one that began first; of latches the highest node's, then the leftmost's;
  pub longest : (q : ℕ) → a ≡ C.wait q → Named p r (meaning s t) r.stage q
  pub only : (q z : ℕ) → a ≡ C.wait q → Named p r (meaning s t) r.stage z → z ≡ q
  -- and otherwise goes forward or is refused (Demand1.Accepts):
  pub forward : a ≡ C.more → (g : Stage) × ((session_of p (meaning s' t')).hand ≡ some (in_stage g r)) × Ahead p r (meaning s t) r.stage (meaning s' t') g
  -- 11, with 0 beside it, exactly if nobody is in the way and fewer records are free than this step needs,
  pub free_records : (k : ℕ)
      → (a ≡ C.refused 11 k) ↔ ((k ≡ 0) × ((q : ℕ) → ¬ InTheWay p r (meaning s t) r.stage q) × ((meaning s t).free < step_needs p r (meaning s t) r.stage))
  -- 12 exactly if it is a locate's step at second, nobody is in the way, and the list is shorter than twice the count of memberships in the range, which comes back too.
  pub list_short : (k : ℕ)
      → (a ≡ C.refused 12 k) ↔ (AtSecond r (meaning s t) r.stage × ((q : ℕ) → ¬ InTheWay p r (meaning s t) r.stage q) × TooShort r (meaning s t) (length l) k)
  -- Housekeeping changes no entry, membership or holder.
  pub housekeeping : p ≡ 0 → ((i : Item) → items (meaning s' t') i ≡ items (meaning s t) i)
      × ((k : Kind) (m : Mode) (q z : ℕ) → holders (meaning s' t') k m q z ≡ holders (meaning s t) k m q z)
  -- Tidy removes the chosen descriptor exactly if it may go, answers so, and changes nothing else.
  pub tidies : p ≡ 0 → Tidy r (meaning s t) (λ ns. a ≡ C.done ns) (meaning s' t')

-- Any call on sound words: the holders of every entry and key, empty keys too, are the sessions granted it; no call but the last step of a session's request, an
-- abort and a format changes a value or a membership.
pub record Holders2 (c : C.Call) (s : List ℕ) (t : List Session) (s' : List ℕ) (t' : List Session) : Type 0 where
  pub holders_are : (k : Kind) (m : Mode) (q z : ℕ)
      → holders (meaning s' t') k m q z ≡ next_ledger (holders (meaning s t)) (meaning s t) (call_of c (length s)) (outcome c s t) k m q z
  pub logical_kept : may_change (call_of c (length s)) (outcome c s t).answer ≡ false → Untouched (meaning s t) (meaning s' t')

pub holders-2 : (c : C.Call) (s : List ℕ) (t : List Session) (a : C.Answer) (l' s' : List ℕ) (t' : List Session) → Calls c s t a l' s' t' → Sound s t → Holders2 c s t s' t'
holders-2 c s t a l' s' t' P S =
    let A = (P.answers S).0 in
    let d = call_of c (length s) in
    record {
      holders_are = λ k m q z. ap (λ x. holders x k m q z) A.means ∙ ledger-step d (meaning s t) S.state k m q z;
      logical_kept = λ e. subst (Untouched (meaning s t)) (sym A.means) (leaves-logical d (meaning s t) S.state e);
    }

-- ---- the put of a tidy

told_ok : (z : Answer) → Tells z C.ok → z ≡ ok
told_ok ok e = refl
told_ok more e = cc
told_ok (wait ps) e = let q = e.2 in cc
told_ok (done ms) e = cc
told_ok (refused n b) e = cc

-- An accepted put of a tidy above f, on sound words: it has chosen the lowest stored descriptor above f, or there is none.
pub tidy-chosen : (e f g : ℕ) (s : List ℕ) (t : List Session) (l' s' : List ℕ) (t' : List Session) → Calls (C.put 0 6 e f g) s t C.ok l' s' t' → Sound s t
    → (h : Stage) × ((session_of 0 (meaning s' t')).hand ≡ some (record { code = 6; entry = e; first = f; second = g; stage = h })) × Chooses f (meaning s t) h
tidy-chosen e f g s t l' s' t' P S =
    let A = (P.answers S).0 in
    let c = put-chooses e f g (meaning s t) S.state (told_ok (outcome (C.put 0 6 e f g) s t).answer A.tells) in
    (c.0, ap (λ x. (session_of 0 x).hand) A.means ∙ c.1, c.2)

-- ---- an accepted begin

-- On sound words: it numbers the begun sessions in their order, the one that begins last, and changes nothing else (machine/Begins).
pub begin-numbered : (p : ℕ) (s : List ℕ) (t : List Session) (l' s' : List ℕ) (t' : List Session) → Calls (C.begin p) s t C.ok l' s' t' → Sound s t → Begun p (meaning s t) (meaning s' t')
begin-numbered p s t l' s' t' P S =
    let A = (P.answers S).0 in
    subst (Begun p (meaning s t)) (sym A.means) (begin-begun p (meaning s t) S.state (told_ok (outcome (C.begin p) s t).answer A.tells))

-- ---- a step

pub told_more : (z : Answer) → Tells z C.more → z ≡ more
told_more ok e = cc
told_more more e = refl
told_more (wait ps) e = let q = e.2 in cc
told_more (done ms) e = cc
told_more (refused n b) e = cc

told-wait : (z : Answer) (q : ℕ) → Tells z (C.wait q) → waiting z ≡ true
told-wait ok q e = cc
told-wait more q e = cc
told-wait (wait ps) q e = refl
told-wait (done ms) q e = cc
told-wait (refused n b) q e = cc

-- An answer to a wait for one party names it.
one-named : (b : ℕ) (a : C.Answer) → Tells (wait (b ∷ [])) a → a ≡ C.wait b
one-named b a h = h.2 ∙ ap C.wait (eqb_is h.0 b (one (eqb h.0 b) h.1))
  where
    one : (c : Bool) → (c || false) ≡ true → c ≡ true
    one true e = refl
    one false e = e

-- o is a step as it is settled, and bs are in its way.
waits-from : (p : ℕ) (r : Request) (z : State) (g : Stage) (bs : List ℕ) (o : Outcome) (a : C.Answer) → WaitsFor z (only_named z g bs) o → ((q : ℕ) → (elem q bs ≡ true) ↔ InTheWay p r z g q) → Tells o.answer a
    → ((q : ℕ) × (a ≡ C.wait q)) ↔ ((q : ℕ) × InTheWay p r z g q)
waits-from p r z g [] o a w f e = (
  (λ h. absurd (true≢false (told-wait o.answer h.0 (subst (Tells o.answer) h.1 e)) w)),
  λ h. absurd (true≢false ((f h.0).1 h.1) refl),
)
waits-from p r z g (b ∷ bs) o a w f e =
    let k = named z g b bs in
    let h : a ≡ C.wait k = one-named k a (subst (λ x. Tells x.answer a) w e) in
    ((λ i. (k, (f k).0 (named-member z g b bs))), λ i. (k, h))

names-from : (z : State) (g : Stage) (bs : List ℕ) (o : Outcome) (a : C.Answer) → WaitsFor z (only_named z g bs) o → Tells o.answer a → (q : ℕ) → a ≡ C.wait q → q ≡ named_of z g bs
names-from z g [] o a w e q i = absurd (true≢false (told-wait o.answer q (subst (Tells o.answer) i e)) w)
names-from z g (b ∷ bs) o a w e q i = party-same q (named z g b bs) (sym i ∙ one-named (named z g b bs) a (subst (λ x. Tells x.answer a) w e))
  where
    party-same : (i j : ℕ) → C.wait i ≡ C.wait j → i ≡ j
    party-same i j e = cc

-- What holds of the one that is named, where somebody is in the way, holds of the party of a wait.
named-from : (z : State) (g : Stage) (bs : List ℕ) (o : Outcome) (a : C.Answer) → WaitsFor z (only_named z g bs) o → Tells o.answer a → (P : ℕ → Type 0)
    → ((b : ℕ) (cs : List ℕ) → bs ≡ b ∷ cs → P (named z g b cs)) → (q : ℕ) → a ≡ C.wait q → P q
named-from z g [] o a w e P f q i = absurd (true≢false (told-wait o.answer q (subst (Tells o.answer) i e)) w)
named-from z g (b ∷ bs) o a w e P f q i = subst P (sym (names-from z g (b ∷ bs) o a w e q i)) (f b bs refl)

-- A refusal comes exactly if the machine's comes.
refused-from : (z : Answer) (a : C.Answer) (n k : ℕ) (X : Type 0) → Tells z a → (z ≡ refused n k) ↔ X → (a ≡ C.refused n k) ↔ X
refused-from z a n k X e h = ((λ i. h.0 (told-refused z n k (subst (Tells z) i e))), λ x. subst (λ y. Tells y a) (h.1 x) e)

module _ (p : ℕ) (l s : List ℕ) (t : List Session) (a : C.Answer) (l' s' : List ℕ) (t' : List Session) (P : Calls (C.step p l) s t a l' s' t') (S : Sound s t)
    (z : refusal_of (C.step p l) s t ≡ 0) where
  abbrev r : Request
  r = request_in (session_at t p)

  abbrev o : Outcome
  o = outcome (C.step p l) s t

  A : Answered (C.step p l) s t a l' s' t'
  A = (P.answers S).0

  in_hand : (session_of p (meaning s t)).hand ≡ some r
  in_hand = hand-is s t p l S z

  as-model : (ns : List ℕ) → a ≡ C.done ns → AsModel (req_of r) (meaning s t) o (done ns) → Modelled (req_of r) s t l ns l' s' t'
  as-model ns e h = record {
    number_is = h.number_is;
    list_is = A.list_is ∙ ap (λ w. w ++ drop (length w) l) h.words_are;
    after = subst (Logical (eff (req_of r) (model (meaning s t)))) (sym A.means) h.after;
  }

  answers-model : ¬ (p ≡ 0) → (ns : List ℕ) → a ≡ C.done ns → AsModel (req_of r) (meaning s t) o (done ns)
  answers-model n ns e = go p n refl
    where
      answer-is : o.answer ≡ done ns
      answer-is = told-done o.answer ns (subst (Tells o.answer) e A.tells)

      go : (q : ℕ) → ¬ (q ≡ 0) → q ≡ p → AsModel (req_of r) (meaning s t) o (done ns)
      go zero n i = absurd (n refl)
      go (suc m) n i = subst (AsModel (req_of r) (meaning s t) o) answer-is
          (subst (λ k. AsModel (req_of r) (meaning s t) (call (Call.step k (length l)) (meaning s t)) (call (Call.step k (length l)) (meaning s t)).answer) i
          (answers-as-model (meaning s t) S.state m (length l) r (ap (λ k. (session_of k (meaning s t)).hand) i ∙ in_hand)))

  abbrev bs : List ℕ
  bs = step_blockers p r (meaning s t) r.stage

  blocked : WaitsFor (meaning s t) (only_named (meaning s t) r.stage bs) o
  blocked = subst (WaitsFor (meaning s t) (only_named (meaning s t) r.stage bs)) (sym (outcome-is s t p l S z))
      (settled-waits (meaning s t) r.stage bs (next_step (length l) p r (meaning s t) r.stage) (step_waits (length l) p r (meaning s t) r.stage))

  is-whom : (q : ℕ) → a ≡ C.wait q → q ≡ whom p r (meaning s t)
  unfolding whom
  is-whom q e = names-from (meaning s t) r.stage bs o a blocked A.tells q e

  is-named : (q : ℕ) → a ≡ C.wait q → Named p r (meaning s t) r.stage q
  is-named = named-from (meaning s t) r.stage bs o a blocked A.tells (Named p r (meaning s t) r.stage) (λ b cs i. whom-named S.state p r in_hand b cs i)

  abbrev Free : Type 0
  Free = (q : ℕ) → ¬ InTheWay p r (meaning s t) r.stage q

  in-way : (q : ℕ) → (elem q (step_blockers p r (meaning s t) r.stage) ≡ true) ↔ InTheWay p r (meaning s t) r.stage q
  in-way = blockers-exactly S.state p r in_hand

  abbrev Unserved : ℕ → Type 0
  Unserved k = (k ≡ 0) × Free × ((meaning s t).free < step_needs p r (meaning s t) r.stage)

  refused-11 : (k : ℕ) → (o.answer ≡ refused 11 k) ↔ Unserved k
  refused-11 k = subst (λ (x : Outcome). (x.answer ≡ refused 11 k) ↔ Unserved k) (sym (outcome-is s t p l S z)) (step-11 (length l) p r (meaning s t) S.state in_hand k)

  abbrev Unlisted : ℕ → Type 0
  Unlisted k = AtSecond r (meaning s t) r.stage × Free × TooShort r (meaning s t) (length l) k

  refused-12 : (k : ℕ) → (o.answer ≡ refused 12 k) ↔ Unlisted k
  refused-12 k = subst (λ (x : Outcome). (x.answer ≡ refused 12 k) ↔ Unlisted k) (sym (outcome-is s t p l S z)) (step-12 (length l) p r (meaning s t) S.state in_hand k)

  onward : a ≡ C.more → (g : Stage) × ((session_of p (meaning s' t')).hand ≡ some (in_stage g r)) × Ahead p r (meaning s t) r.stage (meaning s' t') g
  onward e =
      let h : Onward p r (meaning s t) r.stage o.answer o.next = subst (λ x. Onward p r (meaning s t) r.stage x.answer x.next) (sym (outcome-is s t p l S z)) (step-forward p r (meaning s t) S.state in_hand (length l)) in
      let k : Onward p r (meaning s t) r.stage more o.next = subst (λ x. Onward p r (meaning s t) r.stage x o.next) (told_more o.answer (subst (Tells o.answer) e A.tells)) h in
      subst (λ x. (g : Stage) × ((session_of p x).hand ≡ some (in_stage g r)) × Ahead p r (meaning s t) r.stage x g) (sym A.means) k

  tidied : p ≡ 0 → Tidy r (meaning s t) (λ ns. a ≡ C.done ns) (meaning s' t')
  tidied e = tidy-said both (subst (λ x. Tidy r (meaning s t) (λ ns. o.answer ≡ done ns) x) (sym A.means) (subst (λ (x : Outcome). Tidy r (meaning s t) (λ ns. x.answer ≡ done ns) x.next) (sym (outcome-is s t p l S z))
      (subst (λ k. Tidy r (meaning s t) (λ ns. (settled (meaning s t) r.stage (next_step (length l) k r (meaning s t) r.stage)).answer ≡ done ns) (settled (meaning s t) r.stage (next_step (length l) k r (meaning s t) r.stage)).next) (sym e)
      (tidy (length l) r (meaning s t) S.state (ap (λ k. (session_of k (meaning s t)).hand) (sym e) ∙ in_hand)))))
    where
      both : (ns : List ℕ) → (o.answer ≡ done ns) ↔ (a ≡ C.done ns)
      both ns = ((λ i. subst (λ y. Tells y a) i A.tells), λ i. told-done o.answer ns (subst (Tells o.answer) i A.tells))

  pub demand-2 : Demand2 p (request_in (session_at t p)) l s t a l' s' t'
  demand-2 = record {
    answers = λ n ns e. as-model ns e (answers-model n ns e);
    waits = waits-from p r (meaning s t) r.stage bs o a blocked in-way A.tells;
    names = is-whom;
    longest = is-named;
    only = λ q z e N. sym (named-one S.state p r in_hand q z (is-named q e) N);
    forward = onward;
    free_records = λ k. refused-from o.answer a 11 k (Unserved k) A.tells (refused-11 k);
    list_short = λ k. refused-from o.answer a 12 k (Unlisted k) A.tells (refused-12 k);
    housekeeping = λ e. subst (λ x. ((i : Item) → items x i ≡ items (meaning s t) i) × ((k : Kind) (m : Mode) (q z : ℕ) → holders x k m q z ≡ holders (meaning s t) k m q z)) (sym A.means)
        (descents-keep p (length l) (meaning s t) S.state (ap (λ k. unseen_step k (meaning s t)) e));
    tidies = tidied;
  }

-- ---- for whom an insert, a remove and a locate wait, said of holders alone: update locks of one key agree, locate and update conflict (document 02, M-104)

module _ (p : ℕ) (r : Request) (l s : List ℕ) (t : List Session) (a : C.Answer) (l' s' : List ℕ) (t' : List Session) (D : Demand2 p r l s t a l' s' t') where
  -- The step waits, and these are the ones that it may wait for.
  abbrev Waits : (ℕ → Type 0) → Type 0
  Waits X = ((q : ℕ) × (a ≡ C.wait q)) ↔ ((q : ℕ) × (¬ (q ≡ p)) × X q)

  waits-as : (g : Stage) → r.stage ≡ g → (X : ℕ → Type 0) → ((q : ℕ) → InTheWay p r (meaning s t) g q ↔ ((¬ (q ≡ p)) × X q)) → Waits X
  waits-as g e X f = (
    (λ h. let w = D.waits.0 h in let i = (f w.0).0 (subst (λ y. InTheWay p r (meaning s t) y w.0) e w.1) in (w.0, i.0, i.1)),
    λ h. D.waits.1 (h.0, subst (λ y. InTheWay p r (meaning s t) y h.0) (sym e) ((f h.0).1 (h.1, h.2))),
  )

  -- The first step of an insert or remove waits exactly if another session holds the entry.
  pub entry-waits : 3 ≤ r.code → r.code ≤ 4 → r.stage ≡ start → Waits (λ q. (m : Mode) × (holders (meaning s t) L.entry m q r.entry ≡ true))
  entry-waits lo hi e = waits-as start e (λ q. (m : Mode) × (holders (meaning s t) L.entry m q r.entry ≡ true)) (λ q. entry-meets p r (meaning s t) q lo hi)

  -- Its change waits exactly if another session holds the key to locate.
  pub change-waits : r.stage ≡ change → Waits (λ q. holders (meaning s t) L.group weak q r.first ≡ true)
  change-waits e = waits-as change e (λ q. holders (meaning s t) L.group weak q r.first ≡ true) (λ q. change-meets p r (meaning s t) q)

  -- A locate that takes waits exactly if another session holds the next stored key to update.
  pub take-waits : (x : ℕ) → r.stage ≡ take x → Waits (λ q. (z : ℕ) × LowestFrom x (meaning s t) z × (holders (meaning s t) L.group strong q z ≡ true))
  take-waits x e = waits-as (take x) e (λ q. (z : ℕ) × LowestFrom x (meaning s t) z × (holders (meaning s t) L.group strong q z ≡ true)) (λ q. take_meets p r (meaning s t) x q)
