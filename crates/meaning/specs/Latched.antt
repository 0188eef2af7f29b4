-- A session that stands at a node: its words name the node's record, and the machine's party stands at what is read there.
use Rattle.std.specs.Prelude.{◌≡◌, false, List, [], ◌∷◌, ◌++◌, ℕ, zero, suc, ◌≤◌, ◌<◌, eqb, length}
use Rattle.std.proofs.Math.Path.{refl, ap}
use Rattle.std.proofs.Common.{sym, subst, ◌∙◌, inl, inr, arith, eq-eqb, ne_eqb}
use Rattle.std.proofs.Math.Option.{some}
use Rattle.words.specs.Store.{word_of}
use Rattle.words.specs.Header.{header_word, root_place}
use Rattle.sessions.specs.declared.Session.{Session}
use Rattle.sessions.specs.Sessions.{session_at}
use Rattle.machine.specs.Tree.{pick-hit, onp-hit, Below}
use Rattle.machine.specs.Holders.{width, latch_word}
use Rattle.machine.specs.State.{Tree, at, Request, State, top, session_of}
use Rattle.machine.specs.Descent.{sons_of, at_latch, on_latch}
use Rattle.machine.specs.Sound.{latch_count, OnPath, Latched, Room, stands, of_hand}
use Rattle.machine.specs.Sound as S
use Rattle.machine.specs.Housekeeping.{Ordered}
use Rattle.machine.specs.Context.{Ctx, hole, down, plug, OnWay, Clear, Focus}
use Rattle.machine.specs.Focus.{latches_around, latches-plug}
use Rattle.machine.specs.Looks.{sound-ordered}
use Rattle.machine.specs.Safety.{descent-most}
use Rattle.meaning.specs.Reading.{Numbered, read_tree, erase, hand_of, session-of, M-of, R-of, height_of, tree_of, meaning}
use Rattle.meaning.specs.Sound.{number_at, StandsAtNode, Sound}
use Rattle.meaning.specs.Numbers.{one-is}
use Rattle.meaning.specs.Around.{NCtx, erase_ctx, erase-fill, way-erase}
use Rattle.meaning.specs.Table.{session_is, table-many}
use Rattle.meaning.specs.Stand.{number-fill, Stand, stand}

-- ---- the machine's tree with a hole

-- The son on the path.
path-here : {A : Type 0} (x : ℕ) (P : A → Type 0) (pre : List (A × ℕ)) (a : A) (b : ℕ) (post : List (A × ℕ)) → Below x pre → x ≤ b → OnPath x P (pre ++ (a, b) ∷ post) → P a
path-here x P [] a b post l u (inl o) = o.1
path-here x P [] a b post l u (inr o) = absurd (omega (arith, u, o.0))
path-here x P (p ∷ pre) a b post l u (inl o) = absurd (omega (arith, l.0, o.0))
path-here x P (p ∷ pre) a b post l u (inr o) = path-here x P pre a b post l.1 u o.1

module _ (w x : ℕ) where
  -- What the latched node of the path has, the node in the hole has.
  room-here : (F : ℕ → ℕ → Type 0) {k h : ℕ} (c : Ctx (suc k) h) (u : Tree (suc k)) → OnWay x c → Clear w c → u.latch ≡ w → Latched w x F h (plug c u) → F k (sons_of u)
  unfolding Latched
  room-here F hole u o l e (inl n) = n.1
  room-here F hole u o l e (inr n) = absurd (n.0 e)
  room-here F (down {h = h} v pre c b post) u o l e (inl n) = absurd (l.0 n.0)
  room-here F (down {h = h} v pre c b post) u o l e (inr n) =
      room-here F c u o.2 l.1 e (path-here x (Latched w x F h) pre (plug c u) b post o.0 o.1 n.1)

  -- What is done at the latch is done in the hole.
  pub answers-here : {B : Type 0} (z : B) (g : (h : ℕ) → Tree (suc h) → B) {k h : ℕ} (c : Ctx (suc k) h) (u : Tree (suc k)) → OnWay x c → Clear w c → u.latch ≡ w
      → at_latch w x z g h (plug c u) ≡ g k u
  unfolding at_latch
  answers-here z g hole u o l e = rw (eq-eqb u.latch w e) refl
  answers-here z g (down {h = h} v pre c b post) u o l e =
      rw (ne_eqb v w l.0) (pick-hit x z (at_latch w x z g h) pre (plug c u) b post o.0 o.1 ∙ answers-here z g c u o.2 l.1 e)

  pub changes-here : (f : (h : ℕ) → Tree (suc h) → Tree (suc h)) {k h : ℕ} (c : Ctx (suc k) h) (u : Tree (suc k)) → OnWay x c → Clear w c → u.latch ≡ w
      → on_latch w x f h (plug c u) ≡ plug c (f k u)
  unfolding on_latch
  changes-here f hole u o l e = rw (eq-eqb u.latch w e) refl
  changes-here f (down {h = h} v pre c b post) u o l e =
      rw (ne_eqb v w l.0) (ap (λ q. record { latch = v; sons = q })
      (onp-hit x (λ a d. (on_latch w x f h a, d) ∷ []) pre (plug c u) b post o.0 o.1 ∙ ap (λ a. pre ++ (a, b) ∷ post) (changes-here f c u o.2 l.1 e)))

  clear_none : {k h : ℕ} (c : Ctx k h) → latches_around w c ≡ 0 → Clear w c
  unfolding latches_around
  clear_none hole e = tt
  clear_none (down {h = h} v pre c b post) e = (λ q. omega (arith, e, one-is v w q), clear_none c (omega (arith, e)))

  -- A latch word that stands only once, in the hole, does not stand above it.
  pub clear-from : {k h : ℕ} (c : Ctx (suc k) h) (u : Tree (suc k)) → u.latch ≡ w → latch_count w h (plug c u) ≤ 1 → Clear w c
  unfolding latch_count
  clear-from c u e l = clear_none c (omega (arith, latches-plug w c u, l, one-is u.latch w e))

-- A party stands at the latched node in the hole.
pub focus-here : (p x : ℕ) (s : State) (k : ℕ) (c : Ctx (suc k) (suc s.root.height)) (u : Tree (suc k)) → s.root.node ≡ plug c u → OnWay x c → u.latch ≡ latch_word p
    → latch_count (latch_word p) (suc s.root.height) s.root.node ≤ 1 → Latched (latch_word p) x (Room s p) (suc s.root.height) s.root.node
    → (F : Focus p x s k u) × (F.around ≡ c)
focus-here p x s k c u e o l n q =
    let w = latch_word p in
    let h = suc s.root.height in
    let v = clear-from w x c u l (subst (λ t. latch_count w h t ≤ 1) e n) in (
      record {
        around = c;
        is = e;
        way = o;
        clear = v;
        latch = l;
        room = room-here w x (Room s p) c u o v l (subst (Latched w x (Room s p) h) e q);
        answers = λ z g. ap (at_latch w x z g h) e ∙ answers-here w x z g c u o v l;
        changes = λ f. ap (on_latch w x f h) e ∙ changes-here w x f c u o v l;
      },
      refl,
    )

-- ---- the request of a session that stands at a node

hand-is : (s : List ℕ) (m r p : ℕ) (x : Session) → (session-of s m r p x).hand ≡ hand_of x
hand-is s m r zero x = refl
hand-is s m r (suc p) x = refl

abbrev pub at_request : Session → Request
at_request x = record { code = x.code; entry = x.entry; first = x.first; second = x.second; stage = at x.target }

at-hand : (x : Session) → x.stage ≡ 3 → hand_of x ≡ some (at_request x)
at-hand x e =
    let n : (k : ℕ) → (3 ≡ k → ⊥) → eqb x.stage k ≡ false = λ k f. ne_eqb x.stage k (λ q. f (sym e ∙ q)) in
    rw (n 0 (λ q. omega arith), n 1 (λ q. omega arith), n 2 (λ q. omega arith), eq-eqb x.stage 3 e) refl

-- ---- the node where a session stands

-- What lies around the machine's node is read from what lies around the numbered one.
unfoldable pub Erased : (s : List ℕ) (t : List Session) (p x k : ℕ) (u : Tree (suc k)) → Focus p x (meaning s t) k u → NCtx (suc k) (suc (height_of s)) → Type 0
unfolding meaning
Erased s t p x k u F c = F.around ≡ erase_ctx c

pub record AtNode (s : List ℕ) (t : List Session) (p : ℕ) : Type 0 where
  pub k : ℕ
  pub level : (session_at t p).level ≡ suc k
  pub place : Stand s (M-of s) (R-of s) (session_at t p).target (suc k) (suc (height_of s)) (header_word s root_place) top
  pub num : place.num ≡ (session_at t p).at
  pub focus : Focus p (session_at t p).target (meaning s t) k (erase (suc k) (read_tree s (M-of s) (R-of s) (suc k) place.num place.bound))
  pub around : Erased s t p (session_at t p).target k (erase (suc k) (read_tree s (M-of s) (R-of s) (suc k) place.num place.bound)) focus place.around

at_place : (s : List ℕ) (t : List Session) → S.Sound (meaning s t) → (p : ℕ) → p < length t → (session_at t p).stage ≡ 3
    → ((session_at t p).target ≤ top) × (latch_count (latch_word p) (suc (meaning s t).root.height) (meaning s t).root.node ≤ 1)
    × Latched (latch_word p) (session_at t p).target (Room (meaning s t) p) (suc (meaning s t).root.height) (meaning s t).root.node
at_place s t A p l e =
    let x = session_at t p in
    let h : (session_of p (meaning s t)).hand ≡ some (at_request x) = ap (λ z. z.hand) (session_is s t p l) ∙ hand-is s (M-of s) (R-of s) p x ∙ at-hand x e in
    let n = A.latches_match p ∙ ap (of_hand 0 (λ r. stands r.stage)) h in
    (descent-most (meaning s t) A p (at_request x) x.target h (A.standing p (at_request x) h), omega (arith, n), A.placed p (at_request x) x.target h refl)

-- The place of the node, by the session's words.
stand-at : (s : List ℕ) (t : List Session) (p k : ℕ) → (session_at t p).level ≡ suc k → StandsAtNode s p (session_at t p)
    → latch_count (latch_word p) (suc (meaning s t).root.height) (meaning s t).root.node ≤ 1
    → Latched (latch_word p) (session_at t p).target (Room (meaning s t) p) (suc (meaning s t).root.height) (meaning s t).root.node
    → Stand s (M-of s) (R-of s) (session_at t p).target (suc k) (suc (height_of s)) (header_word s root_place) top → AtNode s t p
unfolding meaning tree_of read_tree erase Erased
stand-at s t p k q a one there P = go n (ap (λ j. word_of s (M-of s) j 0) n ∙ a.latched)
  where
    x : ℕ
    x = (session_at t p).target

    h : ℕ
    h = suc (height_of s)

    u : Numbered (suc k)
    u = read_tree s (M-of s) (R-of s) (suc k) P.num P.bound

    n : P.num ≡ (session_at t p).at
    n = sym (number-fill x P.around u P.way) ∙ sym (ap (number_at (suc k) x h) P.is) ∙ ap (λ j. number_at j x h (tree_of s)) (sym q) ∙ sym a.node

    go : P.num ≡ (session_at t p).at → word_of s (M-of s) P.num 0 ≡ latch_word p → AtNode s t p
    go n w =
        let F = focus-here p x (meaning s t) k (erase_ctx P.around) (erase (suc k) u) (ap (erase h) P.is ∙ erase-fill P.around u) (way-erase x P.around P.way) w one there in
        record { k = k; level = q; place = P; num = n; focus = F.0; around = F.1 }

pub at-node : (s : List ℕ) (t : List Session) → Sound s t → (p : ℕ) → p ≤ width → (session_at t p).stage ≡ 3 → AtNode s t p
unfolding meaning Ordered tree_of
at-node s t A p l e = go (session_at t p).level refl ((A.hands p l).at-node e)
  where
    go : (n : ℕ) → (session_at t p).level ≡ n → StandsAtNode s p (session_at t p) → AtNode s t p
    go zero q a = absurd (omega (arith, q, a.lowest))
    go (suc k) q a =
        let B = at_place s t A.state p (omega (arith, table-many s t A.state, l)) e in
        stand-at s t p k q a B.1 B.2
        (stand s (M-of s) (R-of s) (session_at t p).target (suc k) (suc (height_of s)) (header_word s root_place) top 0 (omega (arith, q, a.highest)) (sound-ordered A.state) (omega arith) B.0)
