-- Words that hold a layout of a sound state have what the code asks for.
use Rattle.std.specs.Prelude.{◌≡◌, refl, Bool, true, false, cond, not, ◌&&◌, List, [], ◌∷◌, ℕ, suc, ◌+◌, ◌≤◌, ◌<◌, eqb, leb, length}
use Rattle.std.proofs.Common.{sym, ap, subst, ◌∙◌, arith, eq-eqb}
use Rattle.words.specs.Store.{HasRecord}
use Rattle.words.specs.Header.{header_word, free_place}
use Rattle.nodes.specs.Node.{node_at}
use Rattle.nodes.specs.Ops.{son_for}
use Rattle.chain.specs.Free.{Poppable}
use Rattle.sessions.specs.declared.Session.{Session}
use Rattle.sessions.specs.Sessions.{session_at}
use Rattle.serial.specs.Serial.{true≢false}
use Rattle.machine.specs.Logic.{leb-is, leb-not, eqb_is, both}
use Rattle.machine.specs.Holders.{width}
use Rattle.machine.specs.Descent.{sons_of}
use Rattle.machine.specs.Sound.{times}
use Rattle.meaning.specs.Reading.{Chained, M-of}
use Rattle.meaning.specs.Numbers.{one-is}
use Rattle.layout.specs.Layout.{Lay, Holds}
use Rattle.layout.specs.Keep.{records-times}
use Rattle.layout.specs.Row.{Stands}
use Rattle.layout.specs.Room.{Sizes, sizes-of, owned-has}
use Rattle.finishing.proofs.Ready.{end-ready}
use Rattle.nodes.specs.Paths.{son_at, son_toward}
use Rattle.descents.specs.Descents.{Toward}
use Rattle.joins.specs.Joins.{pair_place, last_of_left}
use Rattle.walking.specs.Levels.{toward-ready, parent-count}
use Rattle.walking.specs.Pairs.{pair-room, A-few, pair-has, last-left, last_has}
use Rattle.walking.specs.Sites.{Site, site-of}
use Rattle.walking.specs.AloneMoves.{few-sons, count_is, many_is, picked}
use Rattle.walking.specs.PairMoves.{PairSite, pair-site, site-many, place, first, lo-is, qo-is, count-a, count-b, some_b}
use Rattle.walking.specs.Walking.{other_count}
use Rattle.walking.specs.Ready.{Walker, AloneReady, Mendable, PairReady, LevelReady}

-- The first free record is there.
pub free-ready : (s : List ℕ) (t : List Session) (L : Lay) → Holds s t L → Sizes L → Poppable s (M-of s)
free-ready s t L H Z = record { header = H.fits.header; first = λ n. go L.free refl n }
  where
    go : (f : List ℕ) → L.free ≡ f → ¬ (header_word s free_place ≡ 0) → HasRecord s (M-of s) (header_word s free_place)
    go [] e n = absurd (n (subst (Chained s (M-of s) (header_word s free_place)) e H.fits.free))
    go (a ∷ f) e n =
        let c = subst (Chained s (M-of s) (header_word s free_place)) e H.fits.free in
        subst (HasRecord s (M-of s)) (sym c.0) (owned-has s t L H Z a (omega (arith, records-times L a, ap (times a) e, one-is a a refl)))

module _ (s : List ℕ) (t : List Session) (A : Stands s t) (p : ℕ) (l : p ≤ width) (st : (session_at t p).stage ≡ 3) (two : 2 ≤ (session_at t p).level) where
  abbrev L : Lay
  L = A.lay

  abbrev H : Holds s t A.lay
  H = A.holds

  abbrev m : ℕ
  m = M-of s

  abbrev x : Session
  x = session_at t p

  abbrev key : ℕ
  key = (session_at t p).target

  abbrev Z : Sizes A.lay
  Z = sizes-of A.lay t A.sound

  abbrev N : Site A.lay t p
  N = site-of A.lay t p A.holds.seats A.sound l st two (A.holds.hands p l)

  toward : Toward s m x.at key
  toward = subst (λ i. Toward s m i key) N.num (toward-ready s t L H Z N.around N.mark N.pre N.son N.bound N.post N.is key N.low N.upto)

  walker : Walker s m p x
  walker = record { party = l; level = two; toward = toward }

  not_zero : not (eqb p 0) && eqb (node_at s m (son_toward s m x.at key)).count 8 ≡ true → ¬ (p ≡ 0)
  not_zero e z = true≢false (both (not (eqb p 0)) (eqb (node_at s m (son_toward s m x.at key)).count 8) e).0 (ap not (eq-eqb p 0 z))

  room : ¬ (p ≡ 0) → (node_at s m x.at).count < 8
  room n =
      let e = ap (λ i. (node_at s m i).count) (sym N.num) ∙ parent-count s t L H Z N.around N.mark N.pre N.son N.bound N.post N.is in
      omega (arith, e, few-sons s t A p l st N n)

  alone : AloneReady s m p x
  alone = record {
    walker = walker;
    split = λ e. record {
      walker = walker;
      free = free-ready s t L H Z;
      full = λ _. end-ready s t L H A.sound p l (λ q. omega (arith, q, st));
      split = λ n. record { node = toward.node; least = toward.least; room = room (not_zero e); son = toward.son; free = free-ready s t L H Z; some = n };
    };
  }

  module _ (Q : PairSite A.lay t p) (z : p ≡ 0) where
    abbrev i₀ : ℕ
    i₀ = pair_place (node_at s (M-of s) (session_at t p).at) (session_at t p).target

    abbrev hp : ℕ
    hp = (session_at t p).at

    sb : 1 ≤ length Q.b.sons
    sb = some_b s t A p l st Q z

    lo : son_at s m hp i₀ ≡ Q.wa.num
    lo = (λ j. son_at s m (sym Q.num j) (place s t A p l st Q z j)) ∙ lo-is s t A p l st Q z

    qo : son_at s m hp (i₀ + 1) ≡ Q.b.latch.num
    qo = (λ j. son_at s m (sym Q.num j) (place s t A p l st Q z j + 1)) ∙ qo-is s t A p l st Q z

    ca : (node_at s m (son_at s m hp i₀)).count ≡ suc (length Q.ai)
    ca = ap (λ i. (node_at s m i).count) lo ∙ count-a s t A p l st Q z

    cb : (node_at s m (son_at s m hp (i₀ + 1))).count ≡ length Q.b.sons
    cb = ap (λ i. (node_at s m i).count) qo ∙ count-b s t A p l st Q z

    there : HasRecord s m hp × HasRecord s m (son_at s m hp i₀) × HasRecord s m (son_at s m hp (i₀ + 1))
    there =
        let h = pair-has s t L H Z Q.around Q.mark Q.pre Q.wa Q.ai Q.z Q.zb Q.va Q.b Q.vb Q.post Q.is sb in
        (subst (HasRecord s m) Q.num h.0, subst (HasRecord s m) (sym lo) h.1, subst (HasRecord s m) (sym qo) h.2)

    low-place : i₀ < 7
    low-place = subst (λ i. i < 7) (sym (place s t A p l st Q z)) (pair-room s t L H Z Q.around Q.mark Q.pre Q.wa Q.ai Q.z Q.zb Q.va Q.b Q.vb Q.post Q.is sb)

    few-a : (1 ≤ (node_at s m (son_at s m hp i₀)).count) × ((node_at s m (son_at s m hp i₀)).count ≤ 8)
    few-a =
        let f = A-few s t L H Z Q.around Q.mark Q.pre Q.wa Q.ai Q.z Q.zb Q.va Q.b Q.vb Q.post Q.is sb in
        let e = ap (λ i. (node_at s m i).count) lo in (omega (arith, f.0, e), omega (arith, f.1, e))

    last-there : HasRecord s m (last_of_left s m hp i₀)
    last-there =
        let e = (λ j. last_of_left s m (sym Q.num j) (place s t A p l st Q z j)) ∙ last-left s t L H Z Q.around Q.mark Q.pre Q.wa Q.ai Q.z Q.zb Q.va Q.b Q.vb Q.post Q.is sb in
        subst (HasRecord s m) (sym e) (last_has s t L H Z Q.around Q.mark Q.pre Q.wa Q.ai Q.z Q.zb Q.va Q.b Q.vb Q.post Q.is sb)

    first-now : eqb (son_for (node_at s m hp) key) 0 ≡ leb key Q.va
    first-now = ap (λ i. eqb (son_for (node_at s m i) key) 0) (sym Q.num) ∙ first s t A p l st Q z

    other-now : other_count s m hp i₀ (eqb (son_for (node_at s m hp) key) 0) ≡ cond (leb key Q.va) (length Q.b.sons) (suc (length Q.ai))
    other-now = λ j. cond (first-now j) (cb j) (ca j)

    joins-room : (c : Bool) → leb key Q.va ≡ c → leb (cond c (length Q.b.sons) (suc (length Q.ai))) 5 ≡ true → suc (length Q.ai) + length Q.b.sons ≤ 8
    joins-room true c e = omega (arith, Q.three.0 (leb-is key Q.va c), leb-is (length Q.b.sons) 5 e)
    joins-room false c e = omega (arith, Q.three.1 (leb-not key Q.va c), leb-is (suc (length Q.ai)) 5 e)

    many-left : (c : Bool) → leb key Q.va ≡ c → leb (cond c (length Q.b.sons) (suc (length Q.ai))) 5 ≡ false → c ≡ false → 5 < suc (length Q.ai)
    many-left true c e f = absurd (true≢false refl f)
    many-left false c e f = leb-not (suc (length Q.ai)) 5 e

    mendable : Mendable s m p x i₀ (eqb (son_for (node_at s m hp) key) 0) (other_count s m hp i₀ (eqb (son_for (node_at s m hp) key) 0))
    mendable = record {
      party = l;
      level = two;
      join = λ e. record {
        node = there.0;
        place = low-place;
        some = toward.least;
        one = record {
          left = there.1;
          right = there.2;
          some_left = few-a.0;
          some_right = omega (arith, cb, sb);
          room = let r = joins-room (leb key Q.va) refl (ap (λ n. leb n 5) (sym other-now) ∙ e) in omega (arith, r, ca, cb);
        };
      };
      left = λ e f.
          let c = sym first-now ∙ f in
          let three = Q.three.0 (leb-is key Q.va c) in
          record { node = there.0; place = low-place; go = record { left = there.1; right = there.2; least = few-a.0; room = omega (arith, ca, three); some = omega (arith, cb, sb) } };
      right = λ e f.
          let c = sym first-now ∙ f in
          let three = Q.three.1 (leb-not key Q.va c) in
          let many = many-left (leb key Q.va) refl (ap (λ n. leb n 5) (sym other-now) ∙ e) c in
          record { node = there.0; place = low-place; go = record { left = there.1; right = there.2; two = omega (arith, ca, many); most = few-a.1; room = omega (arith, cb, three) } };
    }

    pair : PairReady s m p x
    pair = record {
      walker = walker;
      place = low-place;
      left = there.1;
      right = there.2;
      down = record { node = there.0; place = low-place; left = there.1; least = few-a.0; most = few-a.1; last = λ _. last-there };
      mend = mendable;
    }

  pub level-ready : LevelReady s m p x
  level-ready = record { walker = walker; pair = λ e. by e; alone = λ _. alone }
    where
      by : eqb p 0 && eqb (node_at s m (son_toward s m x.at key)).count 3 ≡ true → PairReady s m p x
      by e =
          let b = both (eqb p 0) (eqb (node_at s m (son_toward s m x.at key)).count 3) e in
          let z = eqb_is p 0 b.0 in
          let n = sym (count_is s t A p l st N) ∙ eqb_is (node_at s m (son_toward s m x.at key)).count 3 b.1 in
          pair (pair-site A.lay t p N (site-many A.lay t p N z) n (ap sons_of (picked s t A p l st N) ∙ many_is s t A p l st N ∙ n)) z
