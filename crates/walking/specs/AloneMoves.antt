-- One level down, where the son on the path is alone concerned: the step on words is the machine's.
use Rattle.std.specs.Prelude.{◌≡◌, Bool, cond, not, ◌&&◌, eqb, leb}
use Rattle.std.proofs.Math.Path.{refl, sym, ap, subst}
use Rattle.std.proofs.Common.{◌∙◌, add-one, arith}
use Rattle.std.proofs.Math.Bool.{true, false}
use mathlib.Core.List.{List, [], ◌∷◌, ◌++◌}
use Prim.Native.Nat.{ℕ, zero, suc, ◌-◌, ◌≤◌, ◌<◌}
use Rattle.std.proofs.Math.ListN.{length}
use borrow.Author.Tests.{eq-eqb, ne_eqb}
use Rattle.words.specs.Header.{header_word, free_place}
use Rattle.nodes.specs.Node.{node_at}
use Rattle.sessions.specs.declared.Session.{Session}
use Rattle.sessions.specs.Sessions.{session_at}
use Rattle.serial.specs.Serial.{true≢false}
use Rattle.machine.specs.Logic.{leb_yes, leb_no, eqb_is, both}
use Rattle.machine.specs.Tree.{map_e, Below}
use Rattle.machine.specs.Holders.{width, latch_word, latch_blockers}
use Rattle.machine.specs.State.{Tree, Request, State, Outcome, at, more, wait, refused}
use Rattle.machine.specs.Descent.{Sons, sons_of}
use Rattle.machine.specs.Steps.{answer, ended, goes_on, guarded, small, fills, son-at, taking_part, level_blockers, level_need, level_state, level-step, stand_step, at_step}
use Rattle.machine.specs.InTheWay.{Free}
use Rattle.machine.specs.Parts.{free-words}
use Rattle.machine.specs.Sound.{Room}
use Rattle.meaning.specs.Reading.{Chained, Numbered, erase, M-of}
use Rattle.meaning.specs.Around.{below-erase}
use Rattle.layout.specs.Layout.{Lay, Holds, means}
use Rattle.layout.specs.Row.{Stands, Moves}
use Rattle.layout.specs.Asked.{request_in, wait-moves}
use Rattle.layout.specs.Room.{Sizes, sizes-of}
use Rattle.outcomes.specs.Said.{Stepped, said}
use Rattle.finishing.proofs.Ended.{refused-moves}
use Rattle.nodes.specs.Paths.{son_toward}
use Rattle.descents.specs.Descents.{plain_son, has_free, in_way}
use Rattle.splits.specs.Splits.{split_son, split_son_half}
use Rattle.walking.specs.Levels.{length-map_e, map_e-mid, son_is, plain_words, plain-becomes, plain-words-is, toward-is, split_words, mid, split-becomes, split-words-is, split-half-is, son-count, son-latch}
use Rattle.walking.specs.Sites.{Site}
use Rattle.walking.specs.Ways.{Way, clear, shut, way-one}
use Rattle.walking.specs.Walking.{waits_for, refused_full, stands_at, plain_step, split_step, down_step, alone_step}

abbrev pub Steps : (s : List ℕ) (t : List Session) (p : ℕ) → Stepped → Outcome → Type 0
Steps s t p z o = Moves s t p z.words z.session (said z.answer) o

-- ---- the guard

pub guard_shut : (b : ℕ) (bs : List ℕ) (need p : ℕ) (r : Request) (σ : State) (o : Outcome) (cs : List ℕ) → cs ≡ b ∷ bs → guarded cs need p r σ o ≡ answer (wait (b ∷ bs)) σ
unfolding guarded
guard_shut b bs need p r σ o cs e = ap (λ l. guarded l need p r σ o) e

pub guard-open : (need p : ℕ) (r : Request) (σ : State) (o : Outcome) (cs : List ℕ) → cs ≡ [] → need ≤ σ.free → guarded cs need p r σ o ≡ o
unfolding guarded
guard-open need p r σ o cs e l = ap (λ k. guarded k need p r σ o) e ∙ rw (leb_yes need σ.free l) refl

pub guard-full : (need p : ℕ) (r : Request) (σ : State) (o : Outcome) (cs : List ℕ) → cs ≡ [] → σ.free < need → guarded cs need p r σ o ≡ answer (refused 11 0) (ended p r σ)
unfolding guarded
guard-full need p r σ o cs e l = ap (λ k. guarded k need p r σ o) e ∙ rw (leb_no need σ.free l) refl

pub free_is : (L : Lay) (t : List Session) → (means L t).free ≡ length L.free
unfolding means
free_is L t = refl

pub one_free : (s : List ℕ) (m : ℕ) → ¬ (header_word s free_place ≡ 0) → has_free s m 1 ≡ true
unfolding has_free
one_free s m n = rw (ne_eqb (header_word s free_place) 0 n) refl

pub none_free : (s : List ℕ) (m : ℕ) → header_word s free_place ≡ 0 → has_free s m 1 ≡ false
unfolding has_free
none_free s m e = rw (eq-eqb (header_word s free_place) 0 e) refl

module _ (s : List ℕ) (t : List Session) (A : Stands s t) (p : ℕ) (l : p ≤ width) (st : (session_at t p).stage ≡ 3) (N : Site A.lay t p) where
  abbrev L : Lay
  L = A.lay

  abbrev H : Holds s t A.lay
  H = A.holds

  abbrev m : ℕ
  m = M-of s

  abbrev x : Session
  x = session_at t p

  abbrev key : ℕ
  key = (session_at t p).target

  abbrev σ : State
  σ = means A.lay t

  abbrev Z : Sizes A.lay
  Z = sizes-of A.lay t A.sound

  abbrev a : Numbered (suc N.k)
  a = N.son

  abbrev Ea : Tree (suc N.k)
  Ea = erase (suc N.k) N.son

  abbrev pub site_sons : Sons (suc N.k)
  site_sons = map_e (erase (suc N.k)) (N.pre ++ (N.son, N.bound) ∷ N.post)

  abbrev pub site_son : Tree (suc N.k)
  site_son = erase (suc N.k) N.son

  low-erased : Below (session_at t p).target (map_e (erase (suc N.k)) N.pre)
  low-erased = below-erase (erase (suc N.k)) key N.pre N.low

  pub picked : son-at (session_at t p).target N.k site_sons ≡ site_son
  picked =
      let E = erase (suc N.k) in
      ap (son-at key N.k) (map_e-mid E N.pre N.son N.bound N.post) ∙ son_is key N.k (map_e E N.pre) Ea N.bound (map_e E N.post) low-erased N.upto

  -- The machine's step is that of the level.
  pub step-level : (r : Request) → at_step p r key σ ≡ level-step p r key σ N.k site_sons site_son
  unfolding at_step stand_step erase
  step-level r = N.focus.answers (answer more σ) (stand_step p r key σ) ∙ ap (level-step p r key σ N.k site_sons) picked

  -- ---- the words' own

  pub toward : son_toward s m x.at key ≡ a.latch.num
  toward = subst (λ i. son_toward s m i key ≡ a.latch.num) N.num (toward-is s t L H Z N.around N.mark N.pre N.son N.bound N.post N.is key N.low N.upto)

  pub count_is : (node_at s m (son_toward s m x.at key)).count ≡ length a.sons
  count_is = ap (λ i. (node_at s m i).count) toward ∙ son-count s t L H Z N.around N.mark N.pre N.son N.bound N.post N.is (omega (arith, N.some_sons))

  pub many_is : sons_of site_son ≡ length a.sons
  unfolding erase
  many_is = length-map_e (erase N.k) a.sons

  pub latch-is : (node_at s m (son_toward s m x.at key)).latch ≡ a.latch.word
  latch-is = ap (λ i. (node_at s m i).latch) toward ∙ son-latch s t L H Z N.around N.mark N.pre N.son N.bound N.post N.is

  fills-is : not (eqb p 0) && eqb (node_at s m (son_toward s m x.at key)).count 8 ≡ fills p N.k site_son
  fills-is = ap (λ n. not (eqb p 0) && eqb n 8) (count_is ∙ sym many_is)

  level-down : x.level - 1 ≡ suc N.k
  level-down = omega (arith, N.level)

  -- ---- plain

  plain-is : plain_step s m p x ≡ stands_at (plain_words s t L H Z N.around N.mark N.pre N.son N.bound N.post N.is (latch_word p)) x a.latch.num (suc N.k)
  unfolding plain_step
  plain-is =
      let e = sym N.num in
      let ws = plain-words-is s t L H Z N.around N.mark N.pre N.son N.bound N.post N.is key N.low N.upto (latch_word p) in
      (λ j. stands_at (plain_son s m (e j) key (add-one p j)) x (toward j) (level-down j)) ∙ (λ j. stands_at (ws j) x a.latch.num (suc N.k))

  free-son : latch_blockers p (a.latch.word ∷ []) ≡ [] → Free p a.latch.word
  free-son e = (free-words p (a.latch.word ∷ []) e).0

  plain-moves : latch_blockers p (a.latch.word ∷ []) ≡ [] → small p N.k site_son ≡ false → fills p N.k site_son ≡ false
      → Steps s t p (plain_step s m p x) (goes_on p (request_in x) (at key) (level_state p key σ N.k site_sons site_son))
  unfolding goes_on
  plain-moves e sm fl =
      subst (λ z. Steps s t p z (goes_on p (request_in x) (at key) (level_state p key σ N.k site_sons site_son))) (sym plain-is)
      (record {
        becomes = plain-becomes s t L H Z N.around N.mark N.pre N.son N.bound N.post N.is p l st N.word (free-son e) low-erased N.upto sm fl N.focus N.erased site_sons;
        tells = refl;
      })

  -- ---- split

  split-is : (fresh : ℕ) (f' : List ℕ) (fr : L.free ≡ fresh ∷ f') (full : length a.sons ≡ 8) (room : length (N.pre ++ (N.son, N.bound) ∷ N.post) ≤ 7) → ¬ (header_word s free_place ≡ 0)
      → split_step s m p x ≡ stands_at (split_words s t L H Z N.around N.mark N.pre N.son N.bound N.post N.is (latch_word p) key fresh f' fr full room) x
      (cond (leb key (mid s t L H Z N.around N.mark N.pre N.son N.bound N.post N.is (latch_word p) key fresh f' fr full room)) a.latch.num fresh) (suc N.k)
  unfolding split_step
  split-is fresh f' fr full room n =
      let e = sym N.num in
      let w = latch_word p in
      let ws = split-words-is s t L H Z N.around N.mark N.pre N.son N.bound N.post N.is key N.low N.upto w fresh f' fr full room in
      let hs = split-half-is s t L H Z N.around N.mark N.pre N.son N.bound N.post N.is key N.low N.upto w fresh f' fr full room in
      rw (one_free s m n)
      ((λ j. stands_at (split_son s m (e j) key (add-one p j)) x (split_son_half s m (e j) key) (level-down j)) ∙ (λ j. stands_at (ws j) x (hs j) (suc N.k)))

  full_is : header_word s free_place ≡ 0 → split_step s m p x ≡ refused_full s m x
  unfolding split_step
  full_is e = rw (none_free s m e) refl

  -- A session's node has at most 7 sons.
  pub few-sons : ¬ (p ≡ 0) → length (N.pre ++ (N.son, N.bound) ∷ N.post) ≤ 7
  unfolding erase
  few-sons n = go p n N.focus.room
    where
      go : (q : ℕ) → ¬ (q ≡ 0) → Room σ q (suc N.k) (length site_sons) → length (N.pre ++ (N.son, N.bound) ∷ N.post) ≤ 7
      go zero n r = absurd (n refl)
      go (suc q) n r = omega (arith, r, length-map_e (erase (suc N.k)) (N.pre ++ (N.son, N.bound) ∷ N.post))

  not_zero : fills p N.k site_son ≡ true → ¬ (p ≡ 0)
  not_zero fl z = go (subst (λ q. fills q N.k site_son ≡ true) z fl)
    where
      go : fills 0 N.k site_son ≡ true → ⊥
      go e = true≢false e refl

  eight : fills p N.k site_son ≡ true → length a.sons ≡ 8
  eight fl = sym many_is ∙ eqb_is (sons_of site_son) 8 (both (not (eqb p 0)) (eqb (sons_of site_son) 8) fl).1

  split_moves : latch_blockers p (a.latch.word ∷ []) ≡ [] → small p N.k site_son ≡ false → fills p N.k site_son ≡ true
      → Steps s t p (split_step s m p x) (guarded [] 1 p (request_in x) σ (goes_on p (request_in x) (at key) (level_state p key σ N.k site_sons site_son)))
  split_moves e sm fl = go L.free refl
    where
      go : (f : List ℕ) → L.free ≡ f → Steps s t p (split_step s m p x) (guarded [] 1 p (request_in x) σ (goes_on p (request_in x) (at key) (level_state p key σ N.k site_sons site_son)))
      go [] fr =
          let z : header_word s free_place ≡ 0 = subst (Chained s m (header_word s free_place)) fr H.fits.free in
          let o = goes_on p (request_in x) (at key) (level_state p key σ N.k site_sons site_son) in
          subst (λ y. Steps s t p y (guarded [] 1 p (request_in x) σ o)) (sym (full_is z))
          (subst (λ y. Steps s t p (refused_full s m x) y) (sym (guard-full 1 p (request_in x) σ o [] refl (omega (arith, free_is L t, ap length fr))))
          (refused-moves s t L H A.sound p l (λ q. omega (arith, q, st)) 11 0))
      go (fresh ∷ f') fr =
          let c = subst (Chained s m (header_word s free_place)) fr H.fits.free in
          let o = goes_on p (request_in x) (at key) (level_state p key σ N.k site_sons site_son) in
          let full = eight fl in
          let room = few-sons (not_zero fl) in
          subst (λ y. Steps s t p y (guarded [] 1 p (request_in x) σ o)) (sym (split-is fresh f' fr full room c.1))
          (subst (λ y. Steps s t p (stands_at (split_words s t L H Z N.around N.mark N.pre N.son N.bound N.post N.is (latch_word p) key fresh f' fr full room) x
          (cond (leb key (mid s t L H Z N.around N.mark N.pre N.son N.bound N.post N.is (latch_word p) key fresh f' fr full room)) a.latch.num fresh) (suc N.k)) y)
          (sym (guard-open 1 p (request_in x) σ o [] refl (omega (arith, free_is L t, ap length fr))))
          (done fresh f' fr full room))
        where
          done : (fresh : ℕ) (f' : List ℕ) (fr : L.free ≡ fresh ∷ f') (full : length a.sons ≡ 8) (room : length (N.pre ++ (N.son, N.bound) ∷ N.post) ≤ 7)
              → Steps s t p (stands_at (split_words s t L H Z N.around N.mark N.pre N.son N.bound N.post N.is (latch_word p) key fresh f' fr full room) x
              (cond (leb key (mid s t L H Z N.around N.mark N.pre N.son N.bound N.post N.is (latch_word p) key fresh f' fr full room)) a.latch.num fresh) (suc N.k))
              (goes_on p (request_in x) (at key) (level_state p key σ N.k site_sons site_son))
          done fresh f' fr full room = record {
            becomes = split-becomes s t L H Z N.around N.mark N.pre N.son N.bound N.post N.is p l st N.word (free-son e) low-erased N.upto sm fl N.focus N.erased site_sons fresh f' fr full room;
            tells = unfold goes_on in refl;
          }

  -- ---- both

  part-is : small p N.k site_son ≡ false → level_blockers p key N.k site_sons site_son ≡ latch_blockers p (a.latch.word ∷ [])
  unfolding taking_part erase
  part-is sm = rw (sm) refl

  down-moves : latch_blockers p (a.latch.word ∷ []) ≡ [] → small p N.k site_son ≡ false
      → Steps s t p (down_step s m p x) (guarded [] (level_need p N.k site_son) p (request_in x) σ (goes_on p (request_in x) (at key) (level_state p key σ N.k site_sons site_son)))
  unfolding down_step
  down-moves e sm = rw (fills-is) (go (fills p N.k site_son) refl)
    where
      go : (c : Bool) → fills p N.k site_son ≡ c
          → Steps s t p (cond c (split_step s m p x) (plain_step s m p x)) (guarded [] (cond c 1 0) p (request_in x) σ (goes_on p (request_in x) (at key) (level_state p key σ N.k site_sons site_son)))
      go true fl = split_moves e sm fl
      go false fl =
          let o = goes_on p (request_in x) (at key) (level_state p key σ N.k site_sons site_son) in
          subst (λ y. Steps s t p (plain_step s m p x) y) (sym (guard-open 0 p (request_in x) σ o [] refl (omega arith))) (plain-moves e sm fl)

  alone-open : in_way p a.latch.word ≡ 0 → alone_step s m p x ≡ down_step s m p x
  unfolding alone_step
  alone-open e = rw (eq-eqb (in_way p (node_at s m (son_toward s m x.at key)).latch) 0 (ap (in_way p) latch-is ∙ e)) refl

  alone-shut : ¬ (in_way p a.latch.word ≡ 0) → alone_step s m p x ≡ waits_for s x (in_way p a.latch.word)
  unfolding alone_step
  alone-shut n = rw (latch-is, ne_eqb (in_way p a.latch.word) 0 n) refl

  pub alone-moves : small p N.k site_son ≡ false → Steps s t p (alone_step s m p x) (level-step p (request_in x) key σ N.k site_sons site_son)
  unfolding level-step
  alone-moves sm = go (way-one p a.latch.word)
    where
      go : Way (in_way p a.latch.word) (latch_blockers p (a.latch.word ∷ [])) → Steps s t p (alone_step s m p x) (guarded (level_blockers p key N.k site_sons site_son) (level_need p N.k site_son) p (request_in x) σ
          (goes_on p (request_in x) (at key) (level_state p key σ N.k site_sons site_son)))
      go (clear e f) =
          subst (λ y. Steps s t p y (guarded (level_blockers p key N.k site_sons site_son) (level_need p N.k site_son) p (request_in x) σ (goes_on p (request_in x) (at key) (level_state p key σ N.k site_sons site_son)))) (sym (alone-open e))
          (subst (λ bs. Steps s t p (down_step s m p x) (guarded bs (level_need p N.k site_son) p (request_in x) σ (goes_on p (request_in x) (at key) (level_state p key σ N.k site_sons site_son)))) (sym (part-is sm ∙ f)) (down-moves f sm))
      go (shut n c cs f g) =
          subst (λ y. Steps s t p y (guarded (level_blockers p key N.k site_sons site_son) (level_need p N.k site_son) p (request_in x) σ (goes_on p (request_in x) (at key) (level_state p key σ N.k site_sons site_son)))) (sym (alone-shut n))
          (subst (λ y. Steps s t p (waits_for s x (in_way p a.latch.word)) y)
          (sym (guard_shut c cs (level_need p N.k site_son) p (request_in x) σ (goes_on p (request_in x) (at key) (level_state p key σ N.k site_sons site_son)) (level_blockers p key N.k site_sons site_son) (part-is sm ∙ f)))
          (wait-moves s t A p (in_way p a.latch.word - 1) c cs g))
