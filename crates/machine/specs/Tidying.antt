-- Tidy's last step, answer and effect both ways (document 01, "Long locks": "Tidy removes the chosen descriptor exactly if ..").
use Rattle.std.specs.Prelude.{◌≡◌, Bool, true, not, List, [], ◌∷◌, ◌++◌, ◌↔◌, ◌⊎◌, leb, eqb}
use Rattle.std.proofs.Math.Path.{refl, sym, subst, ap}
use Rattle.std.proofs.Common.{◌∙◌, ap₂, append_assoc, append-nil, arith}
use Rattle.std.proofs.Math.Bool.{false}
use Rattle.std.proofs.Math.Logic.{inl, inr}
use Rattle.std.proofs.Math.Option.{none, some}
use Prim.Native.Nat.{zero, suc, ◌+◌, ◌≤◌, ◌<◌, ℕ}
use Rattle.std.proofs.Math.ListN.{length, length-append}
use Rattle.serial.specs.Serial.{true≢false}
use Rattle.machine.specs.Logic.{eqb_yes, eqb_no, leb_yes, leb_no, either}
use Rattle.machine.specs.Holders.{filter, latch_word}
use Rattle.machine.specs.Tree.{onp, pick, flat, leaves, Below, onp-hit}
use Rattle.machine.specs.Descent.{Sons, bound_of, on_last, node, sons_of, taken_out, on_latch, unlatched}
use Rattle.machine.specs.State.{Desc, Tree, Request, State, Answer, ok, more, wait, refused, enter, change, take, done, Outcome, Stage, start, no_desc, same, or_none, session_of, gap_below, desc_of, set_hand, on_session, on_tree, top, at}
use Rattle.machine.specs.Steps.{guarded, goes_on, root_blockers, root_need, enter_step, level_blockers, level_need, level-step, son-at, unlatch, ended, unpin, pinned, finished, on_lowest, tidied_state, tidy-step, lowest_step, stand_step, at_step, next_step, first_step, answer}
use Rattle.machine.specs.Sound.{Sound, Stands, Room, stored_in}
use Rattle.machine.specs.Context.{Ctx, hole, down, plug, Clear, Focus}
use Rattle.machine.specs.InTheWay.{LowestFrom, At}
use Rattle.machine.specs.Order.{In, in-wide, lv}
use Rattle.machine.specs.Latched.{on-latch-plug}
use Rattle.machine.specs.Groups.{Rises}
use Rattle.machine.specs.Housekeeping.{lvs, Goes, StoodAt, unlatch-leaves}
use Rattle.machine.specs.Lowest.{the-hit, key_is, taken_at, same-leaf}
use Rattle.machine.specs.Keys.{Kept}
use Rattle.machine.specs.Table.{with_hand, session-same, ended-own, ended-other, hand-seat}
use Rattle.machine.specs.Checks.{keeper-code}
use Rattle.machine.specs.Looks.{sound-ordered, stored-most, stored-parts, stored-range, kept_of}
use Rattle.machine.specs.Descending.{stood, keeper-stored, keeper-pins}
use Rattle.machine.specs.Conflicts.{focus_at, stood-at}

-- ---- what document 01 says

-- Among the stored descriptors l that of key x may go: it is not key 0, not pinned, has no members and no update holders, and its locate and gap holders both equal
-- the gap holders of the descriptor before it.
pub record MayGo (x : ℕ) (l : List Desc) : Type 0 where
  pub before : List Desc
  pub prior : Desc
  pub chosen : Desc
  pub behind : List Desc
  pub are : l ≡ before ++ prior ∷ chosen ∷ behind
  pub key_is : chosen.key ≡ x
  pub not_zero : ¬ (chosen.key ≡ 0)
  pub not_pinned : chosen.pins ≡ 0
  pub no_members : chosen.members ≡ []
  pub no_update : chosen.update ≡ 0
  pub same_locate : chosen.locate ≡ prior.gap
  pub same_gap : chosen.gap ≡ prior.gap

-- "At the put, the lowest stored descriptor above first is chosen": the stage that a tidy above f starts at, where there is one and where there is none.
pub data Chooses (f : ℕ) (s : State) (g : Stage) : Type 0 where
  chosen : (x : ℕ) → g ≡ enter x → LowestFrom (suc f) s x → Chooses f s g
  none_above : g ≡ start → ((y : ℕ) → stored_in y (lvs s) ≡ true → y ≤ f) → Chooses f s g

-- The list without the descriptors of key x.
abbrev pub but_key : ℕ → List Desc → List Desc
but_key x l = filter (λ d. not (eqb d.key x)) l

-- The sons es of a lowest node become fs: the descriptor of x goes, and the boundary behind it; where it was the last one, the descriptor before it has the node's own bound.
pub data LosesSon (x : ℕ) (es fs : Sons 0) : Type 0 where
  between : (pre : Sons 0) (d : Desc) (b : ℕ) (q : Desc × ℕ) (post : Sons 0) → d.key ≡ x → es ≡ pre ++ (d, b) ∷ q ∷ post → fs ≡ pre ++ q ∷ post → LosesSon x es fs
  the_last : (pre : Sons 0) (c : Desc) (a : ℕ) (d : Desc) (b : ℕ) → d.key ≡ x → es ≡ pre ++ (c, a) ∷ (d, b) ∷ [] → fs ≡ pre ++ (c, b) ∷ [] → LosesSon x es fs

-- From s to t the lowest node u lost its latch and has the sons fs, so many records more are free, and the housekeeper's request has ended. Nothing else is another: no other node, boundary or latch,
-- no entry, no other party's session.
pub record Leaves (u : Tree 1) (fs : Sons 0) (many : ℕ) (s t : State) : Type 0 where
  pub around : Ctx 1 (suc s.root.height)
  pub was : s.root.node ≡ plug around u
  pub tree_is : t.root ≡ record { height = s.root.height; node = plug around (node 0 fs) }
  pub free_is : t.free ≡ s.free + many
  pub entries_same : t.entries ≡ s.entries
  pub records_same : t.records ≡ s.records
  pub hand_gone : session_of 0 t ≡ with_hand none (session_of 0 s)
  pub others_same : (q : ℕ) → ¬ (0 ≡ q) → session_of q t ≡ session_of q s

-- Tidy's last step at the descriptor of x under the lowest node u, from s to t; Done ns says that it answers done with the numbers ns. It is its key and 1 exactly if the descriptor may go, and then that
-- alone is gone; its key and 0 exactly if it may not, and then it stays.
pub record Tidies (x : ℕ) (u : Tree 1) (s : State) (Done : List ℕ → Type 0) (t : State) : Type 0 where
  pub removes : Done (x ∷ 1 ∷ []) ↔ MayGo x (lvs s)
  pub declines : Done (x ∷ 0 ∷ []) ↔ ¬ MayGo x (lvs s)
  pub gone : MayGo x (lvs s) → (fs : Sons 0) × LosesSon x u.sons fs × Leaves u fs 1 s t
  pub stored_are : MayGo x (lvs s) → lvs t ≡ but_key x (lvs s)
  pub stays : ¬ MayGo x (lvs s) → Leaves u u.sons 0 s t

-- From s to t the housekeeper's request has ended, and nothing else is another.
pub record Rests (s t : State) : Type 0 where
  pub tree_same : t.root ≡ s.root
  pub free_same : t.free ≡ s.free
  pub entries_same : t.entries ≡ s.entries
  pub records_same : t.records ≡ s.records
  pub hand_gone : session_of 0 t ≡ with_hand none (session_of 0 s)
  pub others_same : (q : ℕ) → ¬ (0 ≡ q) → session_of q t ≡ session_of q s

-- A step of the housekeeper's request r: 0 and 0 where no descriptor was chosen, the last step as above, and no other step is done.
pub record Tidy (r : Request) (s : State) (Done : List ℕ → Type 0) (t : State) : Type 0 where
  pub none_chosen : r.stage ≡ start → Done (0 ∷ 0 ∷ []) × Rests s t
  pub last_step : (x : ℕ) → r.stage ≡ at x → (u : Tree 1) → At 0 x s 0 u → Tidies x u s Done t
  pub no_other : (ns : List ℕ) → Done ns → (r.stage ≡ start) ⊎ ((x : ℕ) × (r.stage ≡ at x) × ((u : Tree 1) × At 0 x s 0 u))

-- The same of another way to say done.
pub tidy-said : {r : Request} {s t : State} {D E : List ℕ → Type 0} → ((ns : List ℕ) → D ns ↔ E ns) → Tidy r s D t → Tidy r s E t
tidy-said f T = record {
  none_chosen = λ i. let z = T.none_chosen i in ((f (0 ∷ 0 ∷ [])).0 z.0, z.1);
  last_step = λ x i u A. let L = T.last_step x i u A in record {
    removes = ((λ h. L.removes.0 ((f (x ∷ 1 ∷ [])).1 h)), λ h. (f (x ∷ 1 ∷ [])).0 (L.removes.1 h));
    declines = ((λ h. L.declines.0 ((f (x ∷ 0 ∷ [])).1 h)), λ h. (f (x ∷ 0 ∷ [])).0 (L.declines.1 h));
    gone = L.gone;
    stored_are = L.stored_are;
    stays = L.stays;
  };
  no_other = λ ns h. T.no_other ns ((f ns).1 h);
}

-- ---- lists

pub prior-gap : (x from g : ℕ) (pre : List Desc) (c d : Desc) (B : List Desc) → In from x (pre ++ c ∷ []) → d.key ≡ x → gap_below x g (pre ++ c ∷ d ∷ B) ≡ c.gap
unfolding gap_below
prior-gap x from g [] c d B i e = rw (leb_yes (suc c.key) x i.0.1) (rw (leb_no (suc d.key) x (omega (arith, e))) refl)
prior-gap x from g (a ∷ pre) c d B i e = rw (leb_yes (suc a.key) x i.0.1) (prior-gap x from a.gap pre c d B i.1 e)

rises-least : (lo e : ℕ) (A : List Desc) (d : Desc) (B : List Desc) → Rises lo e (A ++ d ∷ B) → lo ≤ d.key
rises-least lo e [] d B r = r.0.0
rises-least lo e (a ∷ A) d B r = omega (arith, r.0.0, rises-least (suc a.key) e A d B r.1)

pub rises-low : (lo e : ℕ) (A : List Desc) (d : Desc) (B : List Desc) → Rises lo e (A ++ d ∷ B) → In lo d.key A
rises-low lo e [] d B r = tt
rises-low lo e (a ∷ A) d B r = (
  (r.0.0, rises-least (suc a.key) e A d B r.1),
  in-wide (suc a.key) d.key lo d.key A (rises-low (suc a.key) e A d B r.1) (omega (arith, r.0.0)) (omega arith),
)

snoc_of : {X : Type 0} (a : X) (l : List X) → (pre : List X) × (c : X) × (a ∷ l ≡ pre ++ c ∷ [])
snoc_of a [] = ([], a, refl)
snoc_of a (b ∷ l) = let z = snoc_of b l in (a ∷ z.0, z.1, ap (λ k. a ∷ k) z.2)

but-low : (x from : ℕ) (C l : List Desc) → In from x C → but_key x (C ++ l) ≡ C ++ but_key x l
but-low x from [] l i = refl
but-low x from (c ∷ C) l i = rw (eqb_no c.key x (λ z. omega (arith, z, i.0.1))) (ap (λ k. c ∷ k) (but-low x from C l i.1))

but-high : (x upto : ℕ) (D : List Desc) → In (suc x) upto D → but_key x D ≡ D
but-high x upto [] i = refl
but-high x upto (d ∷ D) i = rw (eqb_no d.key x (λ z. omega (arith, z, i.0.0))) (ap (λ k. d ∷ k) (but-high x upto D i.1))

but-here : (x : ℕ) (d : Desc) (D : List Desc) → d.key ≡ x → but_key x (d ∷ D) ≡ but_key x D
but-here x d D e = rw (eqb_yes d.key x e) refl

-- ---- a lowest node without one of its sons

bound-tail : (z : ℕ) (pre : Sons 0) (q : Desc × ℕ) (post : Sons 0) → bound_of z (pre ++ q ∷ post) ≡ bound_of q.1 post
bound-tail z [] q post = refl
bound-tail z (p ∷ pre) q post = bound-tail p.1 pre q post

last-same : (z v : ℕ) (es : Sons 0) → v ≡ bound_of z es → on_last (λ _ _. v) es ≡ es
last-same z v [] i = refl
last-same z v (p ∷ []) i = ap (λ b. (p.0, b) ∷ []) i
last-same z v (p ∷ q ∷ es) i = ap (λ l. p ∷ l) (last-same p.1 v (q ∷ es) i)

last_set : (v : ℕ) (pre : Sons 0) (p : Desc × ℕ) → on_last (λ _ _. v) (pre ++ p ∷ []) ≡ pre ++ (p.0, v) ∷ []
last_set v [] p = refl
last_set v (q ∷ []) p = refl
last_set v (q ∷ o ∷ pre) p = ap (λ l. q ∷ l) (last_set v (o ∷ pre) p)

loses : (x : ℕ) (es pre : Sons 0) (d : Desc) (b : ℕ) (post : Sons 0) → es ≡ pre ++ (d, b) ∷ post → Below x pre → x ≤ b → d.key ≡ x → (es ≡ (d, b) ∷ [] → ⊥) → LosesSon x es (taken_out x es)
unfolding taken_out
loses x es pre d b (q ∷ post) i low up k n = between pre d b q post k i
    (ap₂ (λ v l. on_last (λ _ _. v) l) (ap (bound_of 0) i ∙ bound-tail 0 pre (d, b) (q ∷ post)) (cut (q ∷ post) i) ∙ last-same 0 (bound_of q.1 post) (pre ++ q ∷ post) (sym (bound-tail 0 pre q post)))
  where
    cut : (l : Sons 0) → es ≡ pre ++ (d, b) ∷ l → onp x (λ _ _. []) es ≡ pre ++ l
    cut l i = ap (onp x (λ _ _. [])) i ∙ onp-hit x (λ _ _. []) pre d b l low up
loses x es [] d b [] i low up k n = absurd (n i)
loses x es (p ∷ pre) d b [] i low up k n =
    let z = snoc_of p pre in
    the_last z.0 z.1.0 z.1.1 d b k (i ∙ ap (λ l. l ++ (d, b) ∷ []) z.2 ∙ append_assoc z.0 (z.1 ∷ []) ((d, b) ∷ []))
    (ap₂ (λ v l. on_last (λ _ _. v) l) (ap (bound_of 0) i ∙ bound-tail 0 (p ∷ pre) (d, b) []) (ap (onp x (λ _ _. [])) i ∙ onp-hit x (λ _ _. []) (p ∷ pre) d b [] low up ∙ append-nil (p ∷ pre) ∙ z.2) ∙ last_set b z.0 z.1)

abbrev TopLatch : ℕ → (h : ℕ) → Tree h → Type 0
TopLatch w zero t = ⊥
TopLatch w (suc h) t = t.latch ≡ w

-- A node that has the latch, where none above it has, is the root, if that has it.
only-top : {k h : ℕ} (w : ℕ) (c : Ctx (suc k) h) (u : Tree (suc k)) → Clear w c → TopLatch w h (plug c u) → lv h (plug c u) ≡ lv (suc k) u
only-top w hole u n l = refl
only-top w (down v pre c b post) u n l = absurd (n.0 l)

-- ---- the step

module _ (n : ℕ) (r : Request) (x : ℕ) (s : State) (S : Sound s) (e : (session_of 0 s).hand ≡ some r) (q : r.stage ≡ at x) (u : Tree 1) (A : At 0 x s 0 u) where
  abbrev pub d : Desc
  d = pick x no_desc same u.sons

  abbrev pub g : ℕ
  g = gap_below x 0 (lvs s)

  F : Focus 0 x s 0 u
  F = focus_at S 0 r e x q 0 u A

  code_6 : r.code ≡ 6
  code_6 = keeper-code r.code (S.checked 0 r e).0

  there : stored_in x (lvs s) ≡ true
  there = keeper-stored s r x code_6 (subst (Stands 0 s r) q (S.standing 0 r e))

  pub K : Kept x s
  K = kept_of x s S there

  G : StoodAt 0 x s 0 u
  G = stood 0 x s 0 u (sound-ordered S) (stored-most s (sound-ordered S) x there) F

  pub d-is : d ≡ K.d
  unfolding desc_of
  d-is = sym (ap or_none (same-leaf (latch_word 0) x (suc s.root.height) s.root.node u 0 (suc top) G)) ∙ K.desc

  d-key : d.key ≡ x
  d-key = ap (λ c. c.key) d-is ∙ K.key

  -- There is a descriptor before one that is not key 0.
  some-before : (l : List Desc) → K.A ≡ l → ¬ (x ≡ 0) → ¬ (l ≡ [])
  some-before l i n z = at_zero (stored-parts 0 [] K.d K.B (subst (λ m. stored_in 0 m ≡ true) (K.was ∙ ap (λ m. m ++ K.d ∷ K.B) (i ∙ z)) S.zero_stored))
    where
      at_zero : (stored_in 0 [] ≡ true) ⊎ ((K.d.key ≡ 0) ⊎ (stored_in 0 K.B ≡ true)) → ⊥
      at_zero (inl h) = true≢false h (unfold stored_in in refl)
      at_zero (inr (inl h)) = n (sym K.key ∙ h)
      at_zero (inr (inr h)) = omega (arith, (stored-range 0 (suc x) (suc top) K.B K.high h).0)

  pub goes-may : Goes g d → MayGo x (lvs s)
  goes-may t = go K.A refl
    where
      go : (l : List Desc) → K.A ≡ l → MayGo x (lvs s)
      go [] i = absurd (some-before [] i (λ z. t.not_zero (d-key ∙ z)) refl)
      go (a ∷ l) i =
          let z = snoc_of a l in
          let are : lvs s ≡ z.0 ++ z.1 ∷ d ∷ K.B =
          K.was ∙ ap (λ m. m ++ K.d ∷ K.B) (i ∙ z.2) ∙ append_assoc z.0 (z.1 ∷ []) (K.d ∷ K.B) ∙ ap (λ c. z.0 ++ z.1 ∷ c ∷ K.B) (sym d-is) in
          let w : g ≡ z.1.gap = ap (gap_below x 0) are ∙ prior-gap x 0 0 z.0 z.1 d K.B (subst (In 0 x) (i ∙ z.2) K.low) d-key in
          record {
            before = z.0;
            prior = z.1;
            chosen = d;
            behind = K.B;
            are = are;
            key_is = d-key;
            not_zero = t.not_zero;
            not_pinned = t.not_pinned;
            no_members = t.no_members;
            no_update = t.no_update;
            same_locate = t.same_locate ∙ w;
            same_gap = t.same_gap ∙ w;
          }

  ended_at : (t : State) → ended 0 r t ≡ set_hand 0 none (unlatch 0 (at x) t)
  unfolding ended unpin
  ended_at t = ap (λ h. set_hand 0 none (unpin (pinned r h) (unlatch 0 h t))) q ∙ ap (λ l. set_hand 0 none (unpin l (unlatch 0 (at x) t))) (keeper-pins r x code_6)

  abbrev pub after : State
  after = ended 0 r (tidied_state 0 x s)

  pub after-stored : lvs after ≡ but_key x (lvs s)
  unfolding on_tree set_hand on_session
  after-stored =
      let P = taken_at (latch_word 0) x (suc s.root.height) s.root.node u 0 (suc top) G d-key in
      ap lvs (ended_at (tidied_state 0 x s)) ∙ unlatch-leaves 0 (at x) (tidied_state 0 x s) ∙ P.is_without
      ∙ sym (ap (but_key x) P.is_with ∙ but-low x 0 P.C (d ∷ P.D) P.low ∙ ap (λ l. P.C ++ l) (but-here x d P.D d-key ∙ but-high x (suc top) P.D P.high))

  -- The last step ends the request, and the tree is f's at the latched node, unlatched.
  leaves-ended : (f : Sons 0 → Sons 0) (many : ℕ) (z : State) → z.root ≡ (on_tree (on_latch (latch_word 0) x (on_lowest f)) s).root → z.free ≡ s.free + many → z.entries ≡ s.entries → z.records ≡ s.records
      → z.table ≡ s.table → Leaves u (f u.sons) many s (ended 0 r z)
  unfolding on_tree set_hand on_session unlatch unlatched
  leaves-ended f many z i j k l m = record {
    around = F.around;
    was = F.is;
    tree_is = ap (λ y. y.root) (ended_at z) ∙ ap (λ y. record { height = y.height; node = on_latch (latch_word 0) x unlatched (suc y.height) y.node }) i
        ∙ ap (λ y. record { height = s.root.height; node = on_latch (latch_word 0) x unlatched (suc s.root.height) y }) (F.changes (on_lowest f))
        ∙ ap (λ y. record { height = s.root.height; node = y })
        (on-latch-plug (latch_word 0) x unlatched F.around (node u.latch (f u.sons)) F.way F.clear F.latch);
    free_is = ap (λ y. y.free) (ended_at z) ∙ j;
    entries_same = ap (λ y. y.entries) (ended_at z) ∙ k;
    records_same = ap (λ y. y.records) (ended_at z) ∙ l;
    hand_gone = ended-own 0 r z (subst (λ y. 0 < length y) (sym m) (hand-seat 0 r s e)) ∙ ap (with_hand none) (session-same s z m 0);
    others_same = λ p n. ended-other 0 p r z n ∙ session-same s z m p;
  }

  -- The node that a descriptor goes from has another one.
  not-alone : MayGo x (lvs s) → (c : Desc) (b : ℕ) → u.sons ≡ (c, b) ∷ [] → ⊥
  not-alone M c b i = go F.room
    where
      go : Room s 0 0 (sons_of u) → ⊥
      go (inl h) = omega (arith, h, ap length i)
      go (inr (h, k)) =
          let l : lvs s ≡ c ∷ [] = ap (lv (suc s.root.height)) F.is ∙ only-top (latch_word 0) F.around u F.clear (sym (ap (λ y. y.latch) F.is) ∙ h) ∙ (unfold leaves in (ap (flat (leaves Desc ℕ 0)) i)) in
          let n = length-append M.before (M.prior ∷ M.chosen ∷ M.behind) in
          omega (arith, n, ap length (sym M.are ∙ l))

  pub removed : MayGo x (lvs s) → (fs : Sons 0) × LosesSon x u.sons fs × Leaves u fs 1 s after
  unfolding on_tree
  removed M =
      let H = the-hit (latch_word 0) x (suc s.root.height) s.root.node u 0 (suc top) G in
      let k = key_is (latch_word 0) x (suc s.root.height) s.root.node u 0 (suc top) G H in (
        taken_out x u.sons,
        loses x u.sons H.pre H.a H.u H.post H.eq H.below H.upto (ap (λ c. c.key) (sym k) ∙ d-key) (not-alone M H.a H.u),
        leaves-ended (taken_out x) 1 (tidied_state 0 x s) refl refl refl refl refl,
      )

  pub declined : Leaves u u.sons 0 s (ended 0 r s)
  unfolding on_tree
  declined = leaves-ended (λ es. es) 0 s (ap (λ y. record { height = s.root.height; node = y }) (F.is ∙ sym (F.changes (on_lowest (λ es. es))))) (omega arith) refl refl refl

  pub step_is : next_step n 0 r s (at x) ≡ tidy-step 0 r x d s
  unfolding next_step at_step stand_step lowest_step
  step_is = F.answers _ (stand_step 0 r x s)

-- ---- every step of the housekeeper

abbrev is_done : Answer → Bool
is_done ok = false
is_done more = false
is_done (wait ps) = false
is_done (done ns) = true
is_done (refused n b) = false

guard-not-done : (bs : List ℕ) (need p : ℕ) (r : Request) (s : State) (o : Outcome) → is_done o.answer ≡ false → is_done (guarded bs need p r s o).answer ≡ false
unfolding guarded
guard-not-done [] need p r s o h = either (λ x. is_done x.answer ≡ false) (leb need s.free) o (answer (refused 11 0) (ended p r s)) h refl
guard-not-done (b ∷ bs) need p r s o h = refl

module _ (n : ℕ) (r : Request) (s : State) (S : Sound s) (e : (session_of 0 s).hand ≡ some r) where
  keeper-6 : r.code ≡ 6
  keeper-6 = keeper-code r.code (S.checked 0 r e).0

  pub first_done : (first_step 0 r s).answer ≡ done (0 ∷ 0 ∷ [])
  unfolding first_step finished
  first_done = rw (eqb_no r.code 1 (λ z. omega (arith, z, keeper-6)), eqb_no r.code 2 (λ z. omega (arith, z, keeper-6)), leb_no r.code 4 (omega (arith, keeper-6))) refl

  pub first-rests : r.stage ≡ start → Rests s (first_step 0 r s).next
  unfolding first_step finished ended unpin pinned unlatch set_hand on_session
  first-rests i =
      let z : (first_step 0 r s).next ≡ ended 0 r s =
      rw (eqb_no r.code 1 (λ z. omega (arith, z, keeper-6)), eqb_no r.code 2 (λ z. omega (arith, z, keeper-6)), leb_no r.code 4 (omega (arith, keeper-6))) refl in
      let w : ended 0 r s ≡ set_hand 0 none s = ap (λ g. set_hand 0 none (unpin (pinned r g) (unlatch 0 g s))) i in
      subst (Rests s) (sym z) (record {
        tree_same = ap (λ y. y.root) w;
        free_same = ap (λ y. y.free) w;
        entries_same = ap (λ y. y.entries) w;
        records_same = ap (λ y. y.records) w;
        hand_gone = ended-own 0 r s (hand-seat 0 r s e);
        others_same = λ p n. ended-other 0 p r s n;
      })

  abbrev pub Last : Stage → Type 0
  Last g = (g ≡ start) ⊎ ((x : ℕ) × (g ≡ at x) × ((u : Tree 1) × At 0 x s 0 u))

  pub done-only : (g : Stage) → r.stage ≡ g → (ns : List ℕ) → (next_step n 0 r s g).answer ≡ done ns → Last g
  unfolding next_step
  done-only start i ns h = inl refl
  done-only (enter x) i ns h = absurd (true≢false (ap is_done h) (unfold enter_step goes_on in (guard-not-done (root_blockers 0 s) (root_need 0 s) 0 r s _ refl)))
  done-only (at x) i ns h = inr (go (stood-at S 0 r e x i).0 (stood-at S 0 r e x i).1 (stood-at S 0 r e x i).2)
    where
      so : (at_step 0 r x s).answer ≡ done ns
      so = h

      go : (k : ℕ) (u : Tree (suc k)) → At 0 x s k u → (y : ℕ) × (at x ≡ at y) × ((u : Tree 1) × At 0 y s 0 u)
      go zero u A = (x, refl, (u, A))
      go (suc h) u A =
          let there : at_step 0 r x s ≡ stand_step 0 r x s (suc h) u = unfold at_step in ((focus_at S 0 r e x i (suc h) u A).answers (answer more s) (stand_step 0 r x s)) in
          let no : is_done (stand_step 0 r x s (suc h) u).answer ≡ false =
          unfold stand_step level-step goes_on in (guard-not-done (level_blockers 0 x h u.sons (son-at x h u.sons)) (level_need 0 h (son-at x h u.sons)) 0 r s _ refl) in
          absurd (true≢false (ap is_done so) (ap (λ o. is_done o.answer) there ∙ no))
  done-only change i ns h = absurd (omega (arith, keeper-6, (subst (Stands 0 s r) i (S.standing 0 r e)).code_3_4.1))
  done-only (take x) i ns h = absurd (omega (arith, keeper-6, (subst (Stands 0 s r) i (S.standing 0 r e)).code_5))
