-- The ways out of each call: refused 2, refused by number, accepted. b is what the test of soundness answered.
use Rattle.std.specs.Prelude.{◌≡◌, refl, Bool, true, false, cond, not, ◌||◌, List, [], ◌∷◌, ◌↔◌, ◌⊎◌, ℕ, zero, suc, ◌+◌, ◌≤◌, eqb, leb, ltb, length, set}
use Rattle.std.proofs.Common.{sym, ap, subst, ◌∙◌, inl, inr, arith, eq-eqb, ne_eqb}
use Rattle.std.proofs.Math.Decide.{ℕ_discrete}
use Rattle.sessions.specs.declared.Session.{Session}
use Rattle.sessions.specs.Sessions.{session_at}
use Rattle.serial.specs.Serial.{true≢false}
use Rattle.serial.specs.Calls as C
use Rattle.machine.specs.Logic.{eqb_is, eqb-not, leb-not}
use Rattle.machine.specs.Holders.{width}
use Rattle.machine.specs.State.{Outcome, refused, ok, fresh}
use Rattle.machine.specs.Steps.{answer}
use Rattle.machine.specs.Calls.{call, begins, commits, aborts, asks, recovers, accepted, no_party, no_session, format_checks, records_for}
use Rattle.machine.specs.Demand.{Tells}
use Rattle.machine.specs.Sound as S
use Rattle.machine.specs.Ending.{fresh-sound}
use Rattle.meaning.specs.Reading.{M-of, R-of, meaning}
use Rattle.meaning.specs.Sound.{Sound}
use Rattle.layout.specs.Layout.{means}
use Rattle.layout.specs.Row.{Becomes}
use Rattle.layout.specs.Laid.{sound-stands}
use Rattle.layout.specs.Back.{holds-means, holds-sound}
use Rattle.endings.specs.Table.{newly_begun, unbegun, asked_now}
use Rattle.seniority.specs.Seniority.{begun_in, renumbered_in}
use Rattle.leaving.specs.Words.{asked, commit_words, PutReady, CommitReady}
use Rattle.seniority.specs.Laws.{renumbered-first}
use Rattle.leaving.specs.Renumbered.{renumbered-only, renumbered-unbegun}
use Rattle.leaving.specs.Begun.{begin-becomes}
use Rattle.leaving.specs.AskRow.{ask-becomes}
use Rattle.leaving.specs.Asking.{put-becomes, put-ready}
use Rattle.leaving.specs.Commit.{commit-ready}
use Rattle.leaving.proofs.Commit.{commit-becomes}
use Rattle.leaving.specs.FreshRow.{fresh_table, fresh-room, format-becomes}
use Rattle.aborting.specs.Words.{abort_words, AbortReady}
use Rattle.aborting.proofs.Abort.{abort-becomes, abort-ready}
use Rattle.aborting.specs.RecoverRow.{Kept, kept, recover_words, recover-spares}
use Rattle.aborting.proofs.RecoverRow.{recover-becomes}
use Rattle.recovering.specs.Recovering.{RecoverReady}
use Rattle.endings.specs.Fresh.{fresh_store, Roomy}
use Rattle.refusals.specs.Refusing.{first_of, is_begun_in, asked_in, hand_in, begin_list, put_list, commit_list, abort_list, ask_list, ask-refused, begin-refused, put_refused, commit-refused, abort_refused}
use Rattle.refusals.specs.Coded.{format-refused}
use Rattle.promises.specs.Relations.{outcome, Renumbered, Others, Calls, Formats, Answered, Around, list_of}
use Rattle.promises.specs.Assembling.{is_refused, no-refusal, first-not-ending, stands-means, answered-by, answered-refused, set-others}

-- What a call on sound words promises.
abbrev pub Serves : C.Call → List ℕ → List Session → C.Answer → List ℕ → List ℕ → List Session → Type 0
Serves c s t a l' s' t' = Answered c s t a l' s' t' × Around s s'

pub way-unsound : (c : C.Call) (s : List ℕ) (t : List Session) (b : Bool) → ((b ≡ true) ↔ Sound s t) → b ≡ false → Calls c s t (C.refused 2 0) (list_of c) s t
way-unsound c s t b i e = record {
  answers = λ A. absurd (true≢false (i.1 A) e);
  refuses = λ n. record { answer = refl; list_same = refl; store_same = refl; table_same = refl };
}

pub way-sound : (c : C.Call) (s : List ℕ) (t : List Session) (b : Bool) (a : C.Answer) (l' s' : List ℕ) (t' : List Session) → ((b ≡ true) ↔ Sound s t) → b ≡ true
    → (Sound s t → Answered c s t a l' s' t' × Around s s') → Calls c s t a l' s' t'
way-sound c s t b a l' s' t' i e f = record { answers = f; refuses = λ n. absurd (n (i.0 e)) }

accept : (n : ℕ) (o z : Outcome) → n ≡ 0 → cond (eqb n 0) o z ≡ o
accept n o z e = ap (λ q. cond q o z) (eq-eqb n 0 e)

-- No test of the list is true.
pub none_true : (k : ℕ) (b : Bool) (cs : List (ℕ × Bool)) → ¬ (k ≡ 0) → first_of ((k, b) ∷ cs) ≡ 0 → (b ≡ false) × (first_of cs ≡ 0)
unfolding first_of
none_true k true cs n e = absurd (n e)
none_true k false cs n e = (refl, e)

-- A session's number.
pub session-number : (p : ℕ) → no_session p ≡ false → (1 ≤ p) × (p ≤ width)
session-number zero e = absurd (true≢false {b = true} refl e)
session-number (suc p) e = (omega arith, omega (arith, leb-not (suc width) (suc p) (or_right (eqb (suc p) 0) (leb (suc width) (suc p)) e)))
  where
    or_right : (a b : Bool) → (a || b) ≡ false → b ≡ false
    or_right true b e = absurd (true≢false {b = true} refl e)
    or_right false b e = e

-- A mark of 0.
not-begun : (a : Bool) (n : ℕ) → (a || not (eqb n 0)) ≡ false → n ≡ 0
not-begun true n e = absurd (true≢false {b = true} refl e)
not-begun false n e = go (eqb n 0) refl e
  where
    go : (b : Bool) → eqb n 0 ≡ b → not b ≡ false → n ≡ 0
    go true q r = eqb_is n 0 q
    go false q r = absurd (true≢false {b = true} refl r)

-- ---- begin

-- The other records: the numbers of begun sessions alone.
begin-others : (t : List Session) (p : ℕ) (y : Session) → Others (C.begin p) t (set (renumbered_in t) p y)
begin-others t p y q n = go (ℕ_discrete q 0) (ℕ_discrete (session_at t q).begun 0)
  where
    same : session_at (set (renumbered_in t) p y) q ≡ session_at (renumbered_in t) q
    same = set-others (renumbered_in t) p y q n

    go : Dec (q ≡ 0) → Dec ((session_at t q).begun ≡ 0) → (session_at (set (renumbered_in t) p y) q ≡ session_at t q) ⊎ Renumbered q (session_at t q) (session_at (set (renumbered_in t) p y) q)
    go (yes z) d = inl (same ∙ subst (λ k. session_at (renumbered_in t) k ≡ session_at t k) (sym z) (renumbered-first t))
    go (no z) (yes e) = inl (same ∙ renumbered-unbegun t q e)
    go (no z) (no e) = inr (omega (arith, z), e, ((session_at (renumbered_in t) q).order, same ∙ (renumbered-only t).same q))

pub begin-done : (s : List ℕ) (t : List Session) (p : ℕ) → first_of (begin_list t p) ≡ 0 → Sound s t
    → Answered (C.begin p) s t C.ok [] s (set (renumbered_in t) p (newly_begun (session_at t p) (suc (begun_in t)))) × Around s s
unfolding call is_begun_in
begin-done s t p e A =
    let B = sound-stands s t A in
    let σ = meaning s t in
    let x = none_true 4 (no_session p) ((5, is_begun_in t p) ∷ []) (λ q. omega (arith, q)) e in
    let y = none_true 5 (is_begun_in t p) [] (λ q. omega (arith, q)) x.1 in
    let n = session-number p x.0 in
    let unbegun : (session_at t p).begun ≡ 0 = not-begun (eqb p 0) (session_at t p).begun y.0 in
    let next = set (renumbered_in t) p (newly_begun (session_at t p) (suc (begun_in t))) in
    let becomes = subst (λ z. Becomes s s next (begins p z)) (stands-means s t B) (begin-becomes s t B p n.0 n.1 unbegun) in
    answered-by (C.begin p) s t A (answer ok (begins p σ)) (begin-refused s t A p (answer ok (begins p σ)) ∙ accept (first_of (begin_list t p)) (answer ok (begins p σ)) (answer (refused (first_of (begin_list t p)) 0) σ) e)
    C.ok [] s next refl refl becomes (λ q. absurd (true≢false {b = false} q refl)) (no-refusal C.ok refl) (begin-others t p (newly_begun (session_at t p) (suc (begun_in t)))) refl

-- ---- put

pub put-done : (s : List ℕ) (t : List Session) (p c e f g : ℕ) → first_of (put_list (M-of s) t p c e f g) ≡ 0 → Sound s t
    → Answered (C.put p c e f g) s t C.ok [] s (set t p (asked s (M-of s) (R-of s) (session_at t p) c e f g)) × Around s s
unfolding call
put-done s t p c e f g z A =
    let B = sound-stands s t A in
    let σ = meaning s t in
    let n = first_of (put_list (M-of s) t p c e f g) in
    let o = answer ok (accepted p c e f g σ) in
    let t' = set t p (asked s (M-of s) (R-of s) (session_at t p) c e f g) in
    let x = none_true 4 (no_party p) _ (λ q. omega (arith, q)) z in
    let l : p ≤ width = omega (arith, leb-not (suc width) p x.0) in
    let becomes = subst (λ z. Becomes s s t' (accepted p c e f g z)) (stands-means s t B) (put-becomes s t B p l c e f g) in
    answered-by (C.put p c e f g) s t A o (put_refused s t A p c e f g o ∙ accept n o (answer (refused n 0) σ) z)
    C.ok [] s t' refl refl becomes (λ q. absurd (true≢false {b = false} q refl)) (no-refusal C.ok refl) (set-others t p (asked s (M-of s) (R-of s) (session_at t p) c e f g)) refl

-- ---- commit

pub commit-done : (s : List ℕ) (t : List Session) (p : ℕ) → first_of (commit_list t p) ≡ 0 → Sound s t
    → Answered (C.commit p) s t C.ok [] (commit_words s (M-of s) (R-of s) p (session_at t p).undo) (set t p (unbegun (session_at t p)))
    × Around s (commit_words s (M-of s) (R-of s) p (session_at t p).undo)
unfolding call
commit-done s t zero z A = absurd (omega (arith, (session-number 0 (none_true 4 (no_session 0) _ (λ q. omega (arith, q)) z).0).0))
commit-done s t (suc k) z A =
    let p = suc k in
    let B = sound-stands s t A in
    let σ = meaning s t in
    let n = first_of (commit_list t p) in
    let o = answer ok (commits p σ) in
    let t' = set t p (unbegun (session_at t p)) in
    let s' = commit_words s (M-of s) (R-of s) p (session_at t p).undo in
    let x = none_true 4 (no_session p) _ (λ q. omega (arith, q)) z in
    let becomes = subst (λ z. Becomes s s' t' (commits p z)) (stands-means s t B) (commit-becomes s t B k (session-number p x.0).1) in
    answered-by (C.commit p) s t A o (commit-refused s t A p o ∙ accept n o (answer (refused n 0) σ) z)
    C.ok [] s' t' refl refl becomes (λ q. absurd (true≢false {b = false} q refl)) (no-refusal C.ok refl) (set-others t p (unbegun (session_at t p))) tt

-- ---- abort

pub abort-done : (s : List ℕ) (t : List Session) (p : ℕ) → first_of (abort_list t p) ≡ 0 → Sound s t
    → Serves (C.abort p) s t C.ok [] (abort_words s (M-of s) (R-of s) p (session_at t p)) (set t p (unbegun (session_at t p)))
unfolding call
abort-done s t p z A =
    let B = sound-stands s t A in
    let σ = meaning s t in
    let n = first_of (abort_list t p) in
    let o = answer ok (aborts p σ) in
    let t' = set t p (unbegun (session_at t p)) in
    let s' = abort_words s (M-of s) (R-of s) p (session_at t p) in
    let x = none_true 4 (no_session p) _ (λ q. omega (arith, q)) z in
    let k = session-number p x.0 in
    let becomes = subst (λ z. Becomes s s' t' (aborts p z)) (stands-means s t B) (abort-becomes s t B p k.0 k.1) in
    answered-by (C.abort p) s t A o (abort_refused s t A p o ∙ accept n o (answer (refused n 0) σ) z)
    C.ok [] s' t' refl refl becomes (λ q. absurd (true≢false {b = false} q refl)) (no-refusal C.ok refl) (set-others t p (unbegun (session_at t p))) tt

-- ---- ask

pub ask-done : (s : List ℕ) (t : List Session) (p : ℕ) → first_of (ask_list t p) ≡ 0 → Sound s t → Serves (C.ask p) s t C.ok [] s (set t p (asked_now (session_at t p)))
unfolding call hand_in
ask-done s t p z A =
    let B = sound-stands s t A in
    let σ = meaning s t in
    let n = first_of (ask_list t p) in
    let o = answer ok (asks p σ) in
    let t' = set t p (asked_now (session_at t p)) in
    let x = none_true 4 (no_session p) _ (λ q. omega (arith, q)) z in
    let y = none_true 5 (not (is_begun_in t p)) _ (λ q. omega (arith, q)) x.1 in
    let v = none_true 21 (asked_in t p) _ (λ q. omega (arith, q)) y.1 in
    let w = none_true 7 (hand_in t p) [] (λ q. omega (arith, q)) v.1 in
    let k = session-number p x.0 in
    let becomes = subst (λ z. Becomes s s t' (asks p z)) (stands-means s t B) (ask-becomes s t B p k.0 k.1 (not-begun false (session_at t p).stage w.0)) in
    answered-by (C.ask p) s t A o (ask-refused s t A p o ∙ accept n o (answer (refused n 0) σ) z)
    C.ok [] s t' refl refl becomes (λ q. absurd (true≢false {b = false} q refl)) (no-refusal C.ok refl) (set-others t p (asked_now (session_at t p))) refl

-- ---- recover

pub recover-done : (s : List ℕ) (t : List Session) → Sound s t
    → Serves C.recover s t C.ok [] (recover_words (M-of s) (R-of s) (kept s t)).words (recover_words (M-of s) (R-of s) (kept s t)).table
unfolding call
recover-done s t A =
    let B = sound-stands s t A in
    let w = recover_words (M-of s) (R-of s) (kept s t) in
    let o = answer ok (recovers (meaning s t)) in
    let becomes = subst (λ z. Becomes s w.words w.table (recovers z)) (stands-means s t B) (recover-becomes s t B) in
    answered-by C.recover s t A o refl C.ok [] w.words w.table refl refl becomes (λ q. absurd (true≢false {b = false} q refl)) (no-refusal C.ok refl) (recover-spares s t (M-of s) (R-of s)) tt

-- ---- format

-- Sizes that pass.
format-sizes : (m r : ℕ) → first_of ((3, eqb m 0 || ltb 1024 m || ltb r 8) ∷ []) ≡ 0 → (1 ≤ m) × (m ≤ 1024) × (8 ≤ r)
format-sizes m r e =
    let q = go (eqb m 0) (ltb 1024 m) (ltb r 8) (none_true 3 (eqb m 0 || ltb 1024 m || ltb r 8) [] (λ q. omega (arith, q)) e).0 in
    (omega (arith, eqb-not m 0 q.0), omega (arith, leb-not 1025 m q.1), omega (arith, leb-not (suc r) 8 q.2))
  where
    go : (a b c : Bool) → (a || b || c) ≡ false → (a ≡ false) × (b ≡ false) × (c ≡ false)
    go false false false e = (refl, refl, refl)
    go false false true e = absurd (true≢false {b = true} refl e)
    go false true c e = absurd (true≢false {b = true} refl e)
    go true b c e = absurd (true≢false {b = true} refl e)

not-ok : (n : ℕ) → C.refused n 0 ≡ C.ok → ⊥
not-ok n e = true≢false {b = true} refl (ap is_refused e)

pub format-refuses : (s : List ℕ) (t : List Session) (m n : ℕ) → n ≡ first_of (format_checks m (length s)) → ¬ (n ≡ 0) → Formats m s t (C.refused n 0) s t
unfolding call
format-refuses s t m n e z =
    let σ = meaning s t in
    let f = first_of (format_checks m (length s)) in
    let o = answer ok (fresh m (records_for m (length s))) in
    record {
      tells = subst (λ w. Tells w.answer (C.refused n 0)) (sym (format-refused m (length s) σ o ∙ ap (λ b. cond b o (answer (refused f 0) σ)) (ne_eqb f 0 (λ q. z (e ∙ q))))) (ap (λ k. C.refused k 0) e);
      long = refl;
      refuses = λ q. (refl, refl);
      accepts = λ q. absurd (not-ok n q);
    }

pub format-done : (s : List ℕ) (t : List Session) (m : ℕ) → first_of (format_checks m (length s)) ≡ 0
    → Formats m s t C.ok (fresh_store s m (records_for m (length s))) fresh_table
unfolding call
format-done s t m z =
    let σ = meaning s t in
    let r = records_for m (length s) in
    let f = first_of (format_checks m (length s)) in
    let o = answer ok (fresh m r) in
    let q = format-sizes m r z in
    let B = format-becomes s m q.0 q.1 q.2 in
    record {
      tells = subst (λ w. Tells w.answer C.ok) (sym (format-refused m (length s) σ o ∙ accept f o (answer (refused f 0) σ) z)) refl;
      long = B.long;
      refuses = λ k. absurd (true≢false {b = false} k refl);
      accepts = λ k. (
        holds-sound (fresh_store s m r) fresh_table B.lay B.holds (subst S.Sound (sym B.means_next) (fresh-sound m r q.0 q.1 q.2 (omega arith))),
        holds-means (fresh_store s m r) fresh_table B.lay B.holds ∙ B.means_next,
        B.rest,
        refl,
      );
    }

-- ---- the runs of the code, as equations

-- Refused by number.
pub serve-refused : (c : C.Call) (s : List ℕ) (t : List Session) (n f : ℕ) (o : Outcome) → Sound s t → n ≡ f → ¬ (n ≡ 0) → C.ends_request f ≡ false
    → outcome c s t ≡ cond (eqb f 0) o (answer (refused f 0) (meaning s t)) → Serves c s t (C.refused n 0) (list_of c) s t
serve-refused c s t n f o A e z y q =
    subst (λ k. Serves c s t (C.refused k 0) (list_of c) s t) (sym e)
    (answered-refused c s t A f y (q ∙ ap (λ b. cond b o (answer (refused f 0) (meaning s t))) (ne_eqb f 0 (λ k. z (e ∙ k)))))

pub begin-refuses : (s : List ℕ) (t : List Session) (p n : ℕ) → Sound s t → n ≡ first_of (begin_list t p) → ¬ (n ≡ 0) → Serves (C.begin p) s t (C.refused n 0) [] s t
unfolding call
begin-refuses s t p n A e z = let o = answer ok (begins p (meaning s t)) in serve-refused (C.begin p) s t n (first_of (begin_list t p)) o A e z (first-not-ending (begin_list t p) (refl, (refl, tt))) (begin-refused s t A p o)

pub put-refuses : (s : List ℕ) (t : List Session) (p c e f g m n : ℕ) → Sound s t → m ≡ M-of s → n ≡ first_of (put_list m t p c e f g) → ¬ (n ≡ 0)
    → Serves (C.put p c e f g) s t (C.refused n 0) [] s t
unfolding call
put-refuses s t p c e f g m n A i q z =
    let o = answer ok (accepted p c e f g (meaning s t)) in
    serve-refused (C.put p c e f g) s t n (first_of (put_list (M-of s) t p c e f g)) o A (q ∙ ap (λ k. first_of (put_list k t p c e f g)) i) z
    (first-not-ending (put_list (M-of s) t p c e f g) (refl, (refl, (refl, (refl, (refl, (refl, (refl, (refl, tt))))))))) (put_refused s t A p c e f g o)

pub commit-refuses : (s : List ℕ) (t : List Session) (p n : ℕ) → Sound s t → n ≡ first_of (commit_list t p) → ¬ (n ≡ 0) → Serves (C.commit p) s t (C.refused n 0) [] s t
unfolding call
commit-refuses s t p n A e z = let o = answer ok (commits p (meaning s t)) in serve-refused (C.commit p) s t n (first_of (commit_list t p)) o A e z (first-not-ending (commit_list t p) (refl, (refl, (refl, tt)))) (commit-refused s t A p o)

pub abort-refuses : (s : List ℕ) (t : List Session) (p n : ℕ) → Sound s t → n ≡ first_of (abort_list t p) → ¬ (n ≡ 0) → Serves (C.abort p) s t (C.refused n 0) [] s t
unfolding call
abort-refuses s t p n A e z = let o = answer ok (aborts p (meaning s t)) in serve-refused (C.abort p) s t n (first_of (abort_list t p)) o A e z (first-not-ending (abort_list t p) (refl, (refl, tt))) (abort_refused s t A p o)

pub ask-refuses : (s : List ℕ) (t : List Session) (p n : ℕ) → Sound s t → n ≡ first_of (ask_list t p) → ¬ (n ≡ 0) → Serves (C.ask p) s t (C.refused n 0) [] s t
unfolding call
ask-refuses s t p n A e z = let o = answer ok (asks p (meaning s t)) in serve-refused (C.ask p) s t n (first_of (ask_list t p)) o A e z (first-not-ending (ask_list t p) (refl, (refl, (refl, (refl, tt))))) (ask-refused s t A p o)

-- The party is one of those that there are.
pub session-party : (p : ℕ) (cs : List (ℕ × Bool)) → first_of ((4, no_session p) ∷ cs) ≡ 0 → p ≤ width
session-party p cs e = (session-number p (none_true 4 (no_session p) cs (λ q. omega (arith, q)) e).0).1

pub session-least : (p : ℕ) (cs : List (ℕ × Bool)) → first_of ((4, no_session p) ∷ cs) ≡ 0 → 1 ≤ p
session-least p cs e = (session-number p (none_true 4 (no_session p) cs (λ q. omega (arith, q)) e).0).0

pub any-party : (p : ℕ) (cs : List (ℕ × Bool)) → first_of ((4, no_party p) ∷ cs) ≡ 0 → p ≤ width
any-party p cs e = omega (arith, leb-not (suc width) p (none_true 4 (no_party p) cs (λ q. omega (arith, q)) e).0)

pub begin-run : (s : List ℕ) (t : List Session) (p : ℕ) {x y : Session} {v u : List Session} {n : ℕ} → Sound s t → first_of (begin_list t p) ≡ 0
    → x ≡ session_at t p → v ≡ renumbered_in t → n ≡ begun_in t → y ≡ newly_begun x (n + 1) → u ≡ set v p y → Serves (C.begin p) s t C.ok [] s u
begin-run s t p {x} {y} {v} {u} {n} A z a b c d e =
    let k : n + 1 ≡ suc (begun_in t) = omega (arith, c) in
    subst (λ w. Serves (C.begin p) s t C.ok [] s w) (sym (e ∙ ap (set v p) (d ∙ ap (newly_begun x) k ∙ ap (λ w. newly_begun w (suc (begun_in t))) a) ∙ ap (λ w. set w p (newly_begun (session_at t p) (suc (begun_in t)))) b)) (begin-done s t p z A)

pub put-run : (s : List ℕ) (t : List Session) (p c e f g : ℕ) {m r : ℕ} {x y : Session} {u : List Session} → Sound s t → first_of (put_list (M-of s) t p c e f g) ≡ 0
    → m ≡ M-of s → r ≡ R-of s → x ≡ session_at t p → y ≡ asked s m r x c e f g → u ≡ set t p y → Serves (C.put p c e f g) s t C.ok [] s u
put-run s t p c e f g {m} {r} {x} A z i j a b k =
    subst (λ v. Serves (C.put p c e f g) s t C.ok [] s v)
    (sym (k ∙ ap (set t p) (b ∙ ap (λ w. asked s w r x c e f g) i ∙ ap (λ w. asked s (M-of s) w x c e f g) j ∙ ap (λ w. asked s (M-of s) (R-of s) w c e f g) a)))
    (put-done s t p c e f g z A)

pub put-can : (s : List ℕ) (t : List Session) (f : ℕ) {m r : ℕ} → Sound s t → m ≡ M-of s → r ≡ R-of s → PutReady s m r f
put-can s t f {m} {r} A i j = subst (λ w. PutReady s w r f) (sym i) (subst (λ w. PutReady s (M-of s) w f) (sym j) (put-ready s t (sound-stands s t A) f))

-- The list of put is read with M.
pub put-zero : (s : List ℕ) (t : List Session) (p c e f g : ℕ) {m n : ℕ} → m ≡ M-of s → n ≡ first_of (put_list m t p c e f g) → n ≡ 0 → first_of (put_list (M-of s) t p c e f g) ≡ 0
put-zero s t p c e f g i q z = sym (q ∙ ap (λ k. first_of (put_list k t p c e f g)) i) ∙ z

pub commit-can : (s : List ℕ) (t : List Session) (p : ℕ) {m r : ℕ} {x : Session} → Sound s t → first_of (commit_list t p) ≡ 0 → m ≡ M-of s → r ≡ R-of s → x ≡ session_at t p
    → CommitReady s m r p x.undo
commit-can s t zero A z i j a = absurd (omega (arith, session-least 0 _ z))
commit-can s t (suc k) {m} {r} {x} A z i j a =
    subst (λ w. CommitReady s w r (suc k) x.undo) (sym i) (subst (λ w. CommitReady s (M-of s) w (suc k) x.undo) (sym j)
    (subst (λ w. CommitReady s (M-of s) (R-of s) (suc k) w.undo) (sym a) (commit-ready s t (sound-stands s t A) k (session-party (suc k) _ z))))

pub abort-run : (s : List ℕ) (t : List Session) (p : ℕ) {m r : ℕ} {x y : Session} {s' : List ℕ} {u : List Session} → Sound s t → first_of (abort_list t p) ≡ 0
    → m ≡ M-of s → r ≡ R-of s → x ≡ session_at t p → s' ≡ abort_words s m r p x → y ≡ unbegun x → u ≡ set t p y → Serves (C.abort p) s t C.ok [] s' u
abort-run s t p {m} {r} {x} {y} {s'} {u} A z i j a w b c =
    subst (λ v. Serves (C.abort p) s t C.ok [] s' v) (sym (c ∙ ap (set t p) (b ∙ ap unbegun a)))
    (subst (λ v. Serves (C.abort p) s t C.ok [] v (set t p (unbegun (session_at t p))))
    (sym (w ∙ ap (λ k. abort_words s k r p x) i ∙ ap (λ k. abort_words s (M-of s) k p x) j ∙ ap (λ k. abort_words s (M-of s) (R-of s) p k) a))
    (abort-done s t p z A))

pub abort-can : (s : List ℕ) (t : List Session) (p : ℕ) {m r : ℕ} {x : Session} → Sound s t → first_of (abort_list t p) ≡ 0 → m ≡ M-of s → r ≡ R-of s → x ≡ session_at t p → AbortReady s m r p x
abort-can s t p {m} {r} {x} A z i j a =
    subst (λ w. AbortReady s w r p x) (sym i) (subst (λ w. AbortReady s (M-of s) w p x) (sym j)
    (subst (AbortReady s (M-of s) (R-of s) p) (sym a) (abort-ready s t (sound-stands s t A) p (session-least p _ z) (session-party p _ z))))

pub ask-run : (s : List ℕ) (t : List Session) (p : ℕ) {x y : Session} {u : List Session} → Sound s t → first_of (ask_list t p) ≡ 0 → x ≡ session_at t p → y ≡ asked_now x → u ≡ set t p y
    → Serves (C.ask p) s t C.ok [] s u
ask-run s t p A z a b c = subst (λ v. Serves (C.ask p) s t C.ok [] s v) (sym (c ∙ ap (set t p) (b ∙ ap asked_now a))) (ask-done s t p z A)

pub recover-can : (s : List ℕ) (t : List Session) {m r : ℕ} → Sound s t → m ≡ M-of s → r ≡ R-of s → RecoverReady s t m r
recover-can s t A i j = record { stands = sound-stands s t A; entries = sym i; records = sym j }

pub recover-run : (s : List ℕ) (t : List Session) {m r : ℕ} {s' : List ℕ} {u : List Session} → Sound s t → m ≡ M-of s → r ≡ R-of s → kept s' u ≡ recover_words m r (kept s t)
    → Serves C.recover s t C.ok [] s' u
recover-run s t {m} {r} A i j e =
    let q : kept _ _ ≡ recover_words (M-of s) (R-of s) (kept s t) = e ∙ ap (λ k. recover_words k r (kept s t)) i ∙ ap (λ k. recover_words (M-of s) k (kept s t)) j in
    subst (λ (w : Kept). Serves C.recover s t C.ok [] w.words w.table) (sym q) (recover-done s t A)

pub format-can : (s : List ℕ) {m r : ℕ} → first_of (format_checks m (length s)) ≡ 0 → r ≡ records_for m (length s) → Roomy s m r
format-can s {m} z e = let q = format-sizes m (records_for m (length s)) z in subst (Roomy s m) (sym e) (fresh-room s m q.0 q.1 q.2)

pub format-most : (m n : ℕ) → first_of (format_checks m n) ≡ 0 → m ≤ 1024
format-most m n z = (format-sizes m (records_for m n) z).1

pub format-run : (s : List ℕ) (t : List Session) (m : ℕ) {r : ℕ} {s' : List ℕ} {u : List Session} → first_of (format_checks m (length s)) ≡ 0
    → r ≡ records_for m (length s) → s' ≡ fresh_store s m r → u ≡ fresh_table → Formats m s t C.ok s' u
format-run s t m {r} {s'} {u} z e w c =
    subst (λ v. Formats m s t C.ok s' v) (sym c) (subst (λ v. Formats m s t C.ok v fresh_table) (sym (w ∙ ap (fresh_store s m) e)) (format-done s t m z))
