-- Where a party stands above the lowest nodes: its node, cut at the son on the path to its key.
use Rattle.std.specs.Prelude.{◌≡◌, List, [], ◌∷◌, ◌++◌, ℕ, zero, suc, ◌≤◌}
use Rattle.std.proofs.Math.Path.{refl, ap, subst}
use Rattle.std.proofs.Common.{sym, ◌∙◌, arith}
use Rattle.std.proofs.Math.Bool.{false}
use Rattle.std.proofs.Math.Option.{some}
use Rattle.std.proofs.Math.Dec.{eqb}
use Rattle.std.proofs.Math.ListN.{length}
use borrow.Author.Tests.{eq-eqb, ne_eqb}
use Rattle.sessions.specs.declared.Session.{Session}
use Rattle.sessions.specs.Sessions.{session_at}
use Rattle.machine.specs.Tree.{map_e, Seg, Hit, hit, Below}
use Rattle.machine.specs.Holders.{width, latch_word}
use Rattle.machine.specs.State.{session_of, top, at}
use Rattle.machine.specs.Sound as S
use Rattle.machine.specs.Sound.{Shaped, Descends}
use Rattle.machine.specs.Context.{Focus}
use Rattle.machine.specs.Focus.{Lens, shaped-plug}
use Rattle.machine.specs.Looks.{shaped-le}
use Rattle.machine.specs.Safety.{descent-most}
use Rattle.meaning.specs.Reading.{Mark, Numbered, erase, hand_of, stage_of}
use Rattle.meaning.specs.Around.{NCtx, fill}
use Rattle.layout.specs.Layout.{Lay, Undone, Each, HandFits, session_in, means}
use Rattle.layout.specs.Places.{at_mark, Erased, session-means}
use Rattle.layout.specs.Asked.{request_in, hand_in}
use Rattle.walking.specs.Hands.{nd}
use Rattle.walking.specs.Levels.{length-map_e}

-- ---- the key of a descent

hand-is : (u : ℕ → List Undone) (p : ℕ) (x : Session) → (session_in u p x).hand ≡ hand_of x
hand-is u zero x = refl
hand-is u (suc p) x = refl

module _ (L : Lay) (t : List Session) (n : length t ≡ suc width) (A : S.Sound (means L t)) (p : ℕ) (l : p ≤ width) where
  pub hand-request : ¬ ((session_at t p).stage ≡ 0) → (session_of p (means L t)).hand ≡ some (request_in (session_at t p))
  hand-request e = ap (λ z. z.hand) (session-means L t p (omega (arith, n, l))) ∙ hand-is L.undos p (session_at t p) ∙ hand_in (session_at t p) e

  at-descends : (session_at t p).stage ≡ 3 → Descends p (means L t) (request_in (session_at t p)) (session_at t p).target
  unfolding request_in
  at-descends e =
      let x = session_at t p in
      let k : (j : ℕ) → (3 ≡ j → ⊥) → eqb x.stage j ≡ false = λ j f. ne_eqb x.stage j (λ z. f (sym e ∙ z)) in
      let g : stage_of x ≡ at x.target = rw (k 1 (λ z. omega arith), k 2 (λ z. omega arith), eq-eqb x.stage 3 e) refl in
      subst (λ g. S.Stands p (means L t) (request_in x) g) g (A.standing p (request_in x) (hand-request (λ z. omega (arith, z, e))))

  pub at_most : (session_at t p).stage ≡ 3 → (session_at t p).target ≤ top
  at_most e = descent-most (means L t) A p (request_in (session_at t p)) (session_at t p).target (hand-request (λ z. omega (arith, z, e))) (at-descends e)

-- ---- the node

pub record Site (L : Lay) (t : List Session) (p : ℕ) : Type 0 where
  pub k : ℕ
  pub around : NCtx (suc (suc k)) (suc L.height)
  pub mark : Mark
  pub pre : List (Numbered (suc k) × ℕ)
  pub son : Numbered (suc k)
  pub bound : ℕ
  pub post : List (Numbered (suc k) × ℕ)
  pub is : L.tree ≡ fill around (nd mark (pre ++ (son, bound) ∷ post))
  pub num : mark.num ≡ (session_at t p).at
  pub word : mark.word ≡ latch_word p
  pub level : (session_at t p).level ≡ suc (suc k)
  pub low : Below (session_at t p).target pre
  pub upto : (session_at t p).target ≤ bound
  pub some_sons : 3 ≤ length son.sons
  pub some_pre : Each (λ u a. 3 ≤ length a.sons) pre
  pub rising : (o : Numbered (suc k)) (u : ℕ) (es : List (Numbered (suc k) × ℕ)) → post ≡ (o, u) ∷ es → bound ≤ u
  pub some_post : Each (λ u a. 3 ≤ length a.sons) post
  pub focus : Focus p (session_at t p).target (means L t) (suc k) (erase (suc (suc k)) (nd mark (pre ++ (son, bound) ∷ post)))
  pub erased : Erased L t p (session_at t p).target (suc k) (erase (suc (suc k)) (nd mark (pre ++ (son, bound) ∷ post))) focus around

seg-as : {A B : Type 0} (Q : ℕ → ℕ → B → Type 0) (f : A → B) (lo e : ℕ) (es : List (A × ℕ)) → Seg Q lo e (map_e f es) → Seg (λ l u a. Q l u (f a)) lo e es
seg-as Q f lo e [] q = q
seg-as Q f lo e (p ∷ es) q = (q.0, seg-as Q f (suc p.1) e es q.1)

seg-each : {A : Type 0} (Q : ℕ → ℕ → A → Type 0) (P : ℕ → A → Type 0) → ((lo u : ℕ) (a : A) → Q lo u a → P u a) → (lo e : ℕ) (es : List (A × ℕ)) → Seg Q lo e es → Each P es
seg-each Q P f lo e [] q = tt
seg-each Q P f lo e (p ∷ es) q = (f lo p.1 p.0 q.0, seg-each Q P f (suc p.1) e es q.1)

module _ (L : Lay) (t : List Session) (p : ℕ) where
  -- A node in a hole, with what is said of it.
  record Seat (k : ℕ) (c : NCtx (suc (suc k)) (suc L.height)) (n : Numbered (suc (suc k))) : Type 0 where
    is : L.tree ≡ fill c n
    focus : Focus p (session_at t p).target (means L t) (suc k) (erase (suc (suc k)) n)
    erased : Erased L t p (session_at t p).target (suc k) (erase (suc (suc k)) n) focus c

  cut-site : S.Sound (means L t) → (session_at t p).target ≤ top → (k : ℕ) (n : Numbered (suc (suc k))) (c : NCtx (suc (suc k)) (suc L.height)) → Seat k c n
      → n.latch.num ≡ (session_at t p).at → n.latch.word ≡ latch_word p → (session_at t p).level ≡ suc (suc k) → Site L t p
  unfolding Shaped erase
  cut-site A most k n c T num word level =
      let x = (session_at t p).target in
      let F = T.focus in
      let Ln : Lens F.around 1 0 top (erase (suc (suc k)) n) = shaped-plug F.around 1 0 top (erase (suc (suc k)) n) (subst (Shaped (suc (means L t).root.height) 1 0 top) F.is A.shaped) in
      let b = Ln.inside x F.way (omega arith) most in
      go (hit (λ lo u a. Shaped (suc k) 3 lo u (erase (suc k) a)) x Ln.lo' (suc Ln.hi') n.sons (seg-as (Shaped (suc k) 3) (erase (suc k)) Ln.lo' (suc Ln.hi') n.sons Ln.sub.3) b.0 (omega (arith, b.1)))
    where
      go : {lo e : ℕ} → Hit (λ lo u a. Shaped (suc k) 3 lo u (erase (suc k) a)) (session_at t p).target lo e n.sons → Site L t p
      go {lo} {e} H =
          let eq : n ≡ nd n.latch (H.pre ++ (H.a, H.u) ∷ H.post) = ap (λ l. record { latch = n.latch; sons = l }) H.eq in
          let T' = subst (Seat k c) eq T in
          record {
            k = k;
            around = c;
            mark = n.latch;
            pre = H.pre;
            son = H.a;
            bound = H.u;
            post = H.post;
            is = T'.is;
            num = num;
            word = word;
            level = level;
            low = H.below;
            upto = H.upto;
            some_sons = omega (arith, H.here.0, length-map_e (erase k) H.a.sons);
            some_pre = seg-each (λ lo u a. Shaped (suc k) 3 lo u (erase (suc k) a)) (λ u a. 3 ≤ length a.sons) (λ lo u a q. omega (arith, q.0, length-map_e (erase k) a.sons)) lo H.m H.pre H.spre;
            rising = λ o u es q. omega (arith, shaped-le (suc k) 3 (suc H.u) u (erase (suc k) o) (subst (Seg (λ lo v a. Shaped (suc k) 3 lo v (erase (suc k) a)) (suc H.u) e) q H.spost).0);
            some_post = seg-each (λ lo u a. Shaped (suc k) 3 lo u (erase (suc k) a)) (λ u a. 3 ≤ length a.sons) (λ lo u a q. omega (arith, q.0, length-map_e (erase k) a.sons)) (suc H.u) e H.post H.spost;
            focus = T'.focus;
            erased = T'.erased;
          }

  pub site-of : length t ≡ suc width → S.Sound (means L t) → p ≤ width → (session_at t p).stage ≡ 3 → 2 ≤ (session_at t p).level → HandFits L p (session_at t p) → Site L t p
  site-of n A l st two hf =
      let M = at_mark L t n A p l st hf in
      go M.k M.node M.around M.is M.num M.word M.level M.focus M.erased
    where
      go : (k : ℕ) (u : Numbered (suc k)) (c : NCtx (suc k) (suc L.height)) → L.tree ≡ fill c u → u.latch.num ≡ (session_at t p).at → u.latch.word ≡ latch_word p → (session_at t p).level ≡ suc k
          → (F : Focus p (session_at t p).target (means L t) k (erase (suc k) u)) → Erased L t p (session_at t p).target k (erase (suc k) u) F c → Site L t p
      go zero u c is num word level F er = absurd (omega (arith, level, two))
      go (suc k) u c is num word level F er = cut-site A (at_most L t n A p l st) k u c (record { is = is; focus = F; erased = er }) num word level
