-- Where words hold a layout of a sound state, the code of the rows can run.
use Rattle.std.specs.Prelude.{◌≡◌, Bool, true, false, cond, not, ◌&&◌, List, [], ◌∷◌, ◌++◌, ℕ, suc, ◌+◌, ◌*◌, ◌≤◌, ◌<◌, eqb}
use Rattle.std.proofs.Common.{sym, ◌∙◌}
use Rattle.std.proofs.Math.Path.{ap, subst}
use Rattle.std.proofs.Math.Option.{Option, none, some}
use native.Mathlib.Omega.{arith}
use Rattle.std.proofs.Math.ListN.{length, length-append}
use Rattle.words.specs.Store.{HasRecord, word_of, has_kept}
use Rattle.words.specs.Header.{header_word, first_place, free_place}
use Rattle.kinds.specs.Kind.{write-length, write-other}
use Rattle.nodes.specs.Node.{node_at, decode_node}
use Rattle.nodes.specs.Entries as N
use Rattle.groups.specs.Descriptor.{descriptor_at, put_descriptor, descriptor_kind, with_next_descriptor}
use Rattle.sessions.specs.declared.Session.{Session}
use Rattle.sessions.specs.Sessions.{session_at}
use Rattle.machine.specs.Holders.{width}
use Rattle.machine.specs.State.{Stage, start, enter, at, change, take, Request, top}
use Rattle.machine.specs.State as M
use Rattle.machine.specs.Steps.{pinned}
use Rattle.machine.specs.Sound.{times, total, pins_by, pins_in, of_hand}
use Rattle.machine.specs.Looks.{pins-at}
use Rattle.meaning.specs.Reading.{Chained, Leaf, M-of, R-of}
use Rattle.meaning.specs.Numbers.{not_in}
use Rattle.meaning.specs.Numbers as Nums
use Rattle.meaning.specs.Frame.{leaf_records}
use Rattle.meaning.specs.Around.{bound_in}
use Rattle.meaning.specs.Lens.{descs}
use Rattle.layout.specs.Layout.{Lay, leaves_in, means}
use Rattle.layout.specs.Row.{Stands}
use Rattle.layout.specs.Puts.{desc-pins}
use Rattle.layout.specs.Room.{sizes-of, owned-has}
use Rattle.layout.specs.Walks.{leaf-there, next-walk}
use Rattle.layout.specs.LatchRows.{node-owned, node-leaves}
use Rattle.scans.specs.Scans.{CanFollow}
use Rattle.nodes.specs.Paths.{son_toward}
use Rattle.descents.specs.Descents.{Toward}
use Rattle.finishing.proofs.Ready.{end-ready}
use Rattle.arriving.specs.Ready.{PredReady, PinReady, MakeAble, MakeReady, unlinked, TidyAble, TidyReady, SessionReady, LowestReady}
use Rattle.arriving.specs.Lowest.{Lowest, lowest}
use Rattle.arriving.specs.Site.{nums_of, site_low, site_high, site-leaves, site-usable, site-entries, site_son}
use Rattle.arriving.specs.Standing.{session-key}
use Rattle.arriving.specs.Before.{in-mid, pred-at}
use Rattle.arriving.specs.Beside.{stands-beside}
use Rattle.arriving.specs.Lists.{map_e-length}
use Rattle.arriving.specs.Unnamed.{lvs-are}
use Rattle.arriving.specs.Made.{chain-some}
use Rattle.arriving.specs.Making.{make-able}
use Rattle.arriving.specs.Tidied.{two-sons, site-desc}
use Rattle.arriving.specs.Moving.{lowest-of, choice-proper, choice-key, key_word}

-- ---- a descriptor has few pins

times-few : (k : ℕ) (l : List ℕ) → times k l ≤ length l
times-few k [] = omega arith
times-few k (x ∷ l) = go (eqb x k) (times-few k l)
  where
    go : (b : Bool) → times k l ≤ length l → cond b 1 0 + times k l ≤ suc (length l)
    go true h = omega (arith, h)
    go false h = omega (arith, h)

one-few : (b : Bool) (k : ℕ) → length (cond b (k ∷ []) []) ≤ 2
one-few true k = omega arith
one-few false k = omega arith

two-few : (b : Bool) (i k : ℕ) → length (cond b (i ∷ []) (i ∷ k ∷ [])) ≤ 2
two-few true i k = omega arith
two-few false i k = omega arith

pinned-few : (r : Request) (g : Stage) → length (pinned r g) ≤ 2
unfolding pinned
pinned-few r start = omega arith
pinned-few r (enter x) = one-few (eqb r.code 5 && not (eqb x r.first)) r.first
pinned-few r (at x) = one-few (eqb r.code 5 && not (eqb x r.first)) r.first
pinned-few r change = omega arith
pinned-few r (take x) = two-few (eqb r.first r.second) r.first r.second

hand-few : (k : ℕ) (h : Option Request) → of_hand 0 (λ r. times k (pinned r r.stage)) h ≤ 2
hand-few k none = omega arith
hand-few k (some r) = omega (arith, times-few k (pinned r r.stage), pinned-few r r.stage)

total-few : (k : ℕ) (l : List M.Session) → total (pins_by k) l ≤ 2 * length l
total-few k [] = omega arith
total-few k (y ∷ l) = omega (arith, hand-few k y.hand, total-few k l)

module _ (s : List ℕ) (t : List Session) (A : Stands s t) where
  abbrev L : Lay
  L = A.lay

  abbrev m : ℕ
  m = M-of s

  -- The first descriptor, and from there the walk.
  first-follow : (B : List Leaf) (l : Leaf) (C : List Leaf) → leaves_in L ≡ B ++ l ∷ C → CanFollow s m (R-of s) (header_word s first_place)
  first-follow [] l C e =
      let q : header_word s first_place ≡ l.num = (subst (λ ls. Chained s m (header_word s first_place) (leaf_records ls)) e A.holds.fits.chained).0 in
      subst (CanFollow s m (R-of s)) (sym q) record { has = leaf-there s t L A.holds A.sound [] l C e; walk = next-walk s t L A.holds A.sound [] l C e }
  first-follow (y ∷ B) l C e =
      let q : header_word s first_place ≡ y.num = (subst (λ ls. Chained s m (header_word s first_place) (leaf_records ls)) e A.holds.fits.chained).0 in
      subst (CanFollow s m (R-of s)) (sym q) record { has = leaf-there s t L A.holds A.sound [] y (B ++ l ∷ C) e; walk = next-walk s t L A.holds A.sound [] y (B ++ l ∷ C) e }

  pred-ready : (x : ℕ) → 1 ≤ x → PredReady s m (R-of s) x
  pred-ready x n = let Q = pred-at s t L A.holds A.sound x n in record { header = A.holds.fits.header; follow = first-follow Q.before Q.leaf Q.behind Q.is; least = n }

  module _ (p : ℕ) (P : Lowest A.lay t p) where
    abbrev at-node : ℕ
    at-node = (session_at t p).at

    abbrev son : ℕ
    son = son_toward s (M-of s) (session_at t p).at (session_at t p).target

    node-there : HasRecord s m at-node
    node-there = subst (HasRecord s m) P.num
        (owned-has s t L A.holds (sizes-of L t A.sound) P.mark.num (node-owned s t L A.holds P.around (lowest P.mark P.pre P.leaf P.bound P.post) P.is))

    leaf-has : HasRecord s m P.leaf.num
    leaf-has = leaf-there s t L A.holds A.sound (site_low s t L A.holds p P) P.leaf (site_high s t L A.holds p P) (site-leaves s t L A.holds p P)

    toward : Toward s m at-node (session_at t p).target
    toward = record {
      node = node-there;
      least = (site-usable s t L A.holds p P).least;
      most = (site-usable s t L A.holds p P).most;
      son = subst (HasRecord s m) (sym (site_son s t L A.holds p P)) leaf-has;
    }

    -- The node is no descriptor.
    leaf_apart : (B : List Leaf) (l : Leaf) (C : List Leaf) → leaves_in L ≡ B ++ l ∷ C → ¬ (at-node ≡ l.num)
    leaf_apart B l C e z =
        let X = leaf_records (leaves_in L) in
        let i = subst (λ ls. Nums.In l.num (leaf_records ls)) (sym e) (in-mid B l C) in
        not_in P.mark.num X (node-leaves s t L A.holds P.around (lowest P.mark P.pre P.leaf P.bound P.post) P.is) (subst (λ k. Nums.In k X) (sym (P.num ∙ z)) i)

    pins-room : P.leaf.desc.key ≡ (session_at t p).target → (descriptor_at s m son).pins < 4294967295
    pins-room key =
        let k = (session_at t p).target in
        let X = site_low s t L A.holds p P in
        let Y = site_high s t L A.holds p P in
        let a : (descriptor_at s m son).pins ≡ P.leaf.desc.pins = desc-pins s m son ∙ ap (λ i. word_of s m i 5) (site_son s t L A.holds p P) ∙ (site-desc s t A p P).pins in
        let b = sym (pins-at k 0 P.leaf.desc key (descs X) (descs Y) P.keys_low) ∙ sym (ap (pins_in k) (lvs-are L t X P.leaf Y (site-leaves s t L A.holds p P))) ∙ A.sound.pins_match k in
        omega (arith, a, b, total-few k (means L t).table, A.sound.seats)

    pub pin-ready : P.leaf.desc.key ≡ (session_at t p).target → PinReady s m (session_at t p)
    pin-ready key = record {
      toward = toward;
      apart = λ z. leaf_apart (site_low s t L A.holds p P) P.leaf (site_high s t L A.holds p P) (site-leaves s t L A.holds p P) (z ∙ site_son s t L A.holds p P);
      room = pins-room key;
    }

    pub make-ready : p ≤ width → ¬ (p ≡ 0) → (session_at t p).stage ≡ 3 → ¬ (P.leaf.desc.key ≡ (session_at t p).target) → MakeReady s m (R-of s) (session_at t p)
    make-ready l nz e ne =
        let x = session_at t p in
        let n = session-key L t A.holds.seats A.sound p l nz e in
        let Q = pred-at s t L A.holds A.sound x.target n in
        record {
          header = A.holds.fits.header;
          full = λ z. end-ready s t L A.holds A.sound p l (λ q. omega (arith, q, e));
          makes = λ z.
              let B = stands-beside L t p P (header_word s free_place) (descriptor_at s m Q.leaf.num).gap ne in
              let c = chain-some s m (header_word s free_place) L.free A.holds.fits.free z in
              record {
                pred = pred-ready x.target n;
                able = subst (MakeAble s m x.at x.target) (sym Q.found) (subst (λ i. MakeAble s m i x.target Q.leaf.num) P.num (make-able s t A p nz P Q B c.0 c.1));
              };
        }

    pub session-ready : p ≤ width → ¬ (p ≡ 0) → (session_at t p).stage ≡ 3 → SessionReady s m (R-of s) (session_at t p)
    session-ready l nz e = record {
      toward = toward;
      pin = λ q. pin-ready (sym (key_word s t A p P) ∙ q);
      make = λ q. make-ready l nz e (λ k. q (key_word s t A p P ∙ k));
    }

  -- The housekeeper's.
  pub tidy-ready : (session_at t 0).stage ≡ 3 → (P : Lowest A.lay t 0) → TidyReady s m (R-of s) (session_at t 0)
  unfolding unlinked
  tidy-ready e P =
      let x = session_at t 0 in
      let n = choice-proper s t A e in
      let Q = pred-at s t L A.holds A.sound x.target n in
      let b = Q.leaf.num in
      let d = son_toward s m x.at x.target in
      let v = with_next_descriptor (descriptor_at s m b) (descriptor_at s m d).next in
      let T = toward 0 P in
      let has-b = leaf-there s t L A.holds A.sound Q.before Q.leaf Q.behind Q.is in
      let q = node_at s m x.at in
      let same : node_at (put_descriptor s m b v) m x.at ≡ q = write-other descriptor_kind s m b v has-b decode_node x.at T.node.first (λ z. leaf_apart 0 P Q.before Q.leaf Q.behind Q.is (sym z)) in
      let ok = site-usable s t L A.holds 0 P in
      let two : 2 ≤ q.count = omega (
        arith,
        N.entries-length ok (bound_in P.around top),
        ap length (site-entries s t L A.holds 0 P),
        length-append (nums_of P.pre) ((P.leaf.num, P.bound) ∷ nums_of P.post),
        map_e-length (λ l. l.num) P.pre,
        map_e-length (λ l. l.num) P.post,
        two-sons s t A P Q (choice-key s t A e P),
      ) in
      record {
        toward = T;
        pred = pred-ready x.target n;
        able = subst (λ i. TidyAble s m x.at i d) (sym Q.found) record {
          before = has-b;
          choice = T.son;
          remove = record {
            node = has_kept T.node (write-length descriptor_kind s m b v has-b);
            two = subst (λ z. 2 ≤ z.count) (sym same) two;
            most = subst (λ z. z.count ≤ 8) (sym same) ok.most;
          };
        };
      }

  pub lowest-ready : (p : ℕ) → p ≤ width → (session_at t p).stage ≡ 3 → (session_at t p).level ≡ 1 → LowestReady s m (R-of s) p (session_at t p)
  lowest-ready p l e one =
      let P = lowest-of s t A p l e one in
      record {
        keeper = λ z. subst (λ k. TidyReady s m (R-of s) (session_at t k)) (sym z)
            (tidy-ready (subst (λ k. (session_at t k).stage ≡ 3) z e) (lowest-of s t A 0 (omega arith) (subst (λ k. (session_at t k).stage ≡ 3) z e) (subst (λ k. (session_at t k).level ≡ 1) z one)));
        session = λ z. session-ready p P l z e;
      }
