-- The holders of groups, by the words of the descriptors and as the machine sees them: each descriptor's words fit exactly if only begun sessions hold a
-- key or a gap, no two holders conflict, and each locate holds what it has passed.
use Rattle.std.specs.Prelude.{◌≡◌, Bool, true, cond, ◌⊎◌, ℕ, suc, ◌+◌, ◌-◌, ◌≤◌, ◌<◌, eqb, length, get_or}
use Rattle.std.proofs.Math.Path.{refl, subst}
use Rattle.std.proofs.Common.{sym, ap, ◌∙◌, inl, inr, arith, eq-eqb, ne_eqb}
use Rattle.std.proofs.lemmas.Bool.{false≢true}
use mathlib.Core.List.{List, [], ◌∷◌, map}
use Rattle.std.proofs.Math.Decide.{ℕ_discrete}
use Rattle.serial.specs.Rising.{Tri, less, equal, greater}
use Rattle.serial.specs.Model.{ℕ-tri}
use Rattle.serial.specs.Locks.{Mode, weak, strong}
use Rattle.serial.specs.Locks as L
use Rattle.locks.specs.Holders.{width, holds}
use Rattle.locks.specs.Bits.{holds-none}
use Rattle.words.specs.Store.{word_of}
use Rattle.groups.specs.Descriptor.{descriptor_at, decode_descriptor}
use Rattle.sessions.specs.declared.Session.{Session}
use Rattle.sessions.specs.Sessions.{session_at}
use Rattle.machine.specs.Gaps.{by_tri, at_less, at-equal, at_greater, locators, updaters, gaps}
use Rattle.machine.specs.Gaps as G
use Rattle.machine.specs.Tree.{Cmp, low, high, cmp}
use Rattle.machine.specs.State.{Desc, session_of}
use Rattle.machine.specs.Steps.{rule}
use Rattle.machine.specs.View.{seen, locate_word, update_word, holders}
use Rattle.machine.specs.Groups.{words, Rises, rises-in}
use Rattle.machine.specs.Housekeeping.{lvs, seen-words}
use Rattle.machine.specs.Sound.{gap_word, stored_in, pins_in}
use Rattle.machine.specs.Looks.{stored-range, stored-parts, stored_here}
use Rattle.meaning.specs.Reading.{member_chain, desc_at, M-of, R-of, meaning}
use Rattle.meaning.specs.Sound.{All, member_record}
use Rattle.holders.specs.Holders.{begun_mask}
use Rattle.passing.specs.Asked.{asked_at}
use Rattle.soundness.specs.Marking.{all-as}
use Rattle.soundness.specs.HoldersTests.{Within, in_mode, AgreeAt, HoldersFit}
use Rattle.soundness.specs.HeldTests.{begun-held, Passed, locate-asked, NeedsGap, gap-asked, GroupHeld}
use Rattle.soundness.specs.Leaves.{stored_records, lvs-meaning}
use Rattle.soundness.specs.ListsPass.{nobody, come, Undoes}
use Rattle.soundness.specs.Filing.{Lists}
use Rattle.soundness.specs.GroupsPass.{next_key, Groups}
use Rattle.soundness.specs.MembersHeld.{all_map, undoes-same, MembersCome, come-record}

-- ---- each descriptor with the next stored key

-- The first key of some descriptors, 0 if there is none.
abbrev pub next_of : List Desc → ℕ
next_of [] = 0
next_of (d ∷ l) = d.key

abbrev pub Each : (Desc → ℕ → Type 0) → List Desc → Type 0
Each P [] = Unit {0}
Each P (d ∷ l) = P d (next_of l) × Each P l

each-as : {P Q : Desc → ℕ → Type 0} → ((d : Desc) (n : ℕ) → P d n → Q d n) → (l : List Desc) → Each P l → Each Q l
each-as f [] p = tt
each-as f (d ∷ l) p = (f d (next_of l) p.0, each-as f l p.1)

each_both : (P Q : Desc → ℕ → Type 0) (l : List Desc) → Each P l → Each Q l → Each (λ d n. P d n × Q d n) l
each_both P Q [] p q = tt
each_both P Q (d ∷ l) p q = ((p.0, q.0), each_both P Q l p.1 q.1)

-- A key lies before the next stored key n, 0 for none.
abbrev Before : ℕ → ℕ → Type 0
Before z n = (n ≡ 0) ⊎ (z < n)

-- What descriptor d of a list says of the words that hold keys: g is the gap before the list.
record Reads (g lo : ℕ) (l : List Desc) (d : Desc) (next : ℕ) : Type 0 where
  from : lo ≤ d.key
  before : Before d.key next
  located : locators g (words l) d.key ≡ d.locate
  updated : updaters (words l) d.key ≡ d.update
  gap_here : (z : ℕ) → d.key ≤ z → Before z next → gaps g (words l) z ≡ d.gap
  gap_located : (z : ℕ) → d.key < z → Before z next → locators g (words l) z ≡ d.gap

-- Before the first key of a list its first gap holds.
locators-first : (g z lo e : ℕ) (l : List Desc) → Rises (suc lo) e l → Before z (next_of l) → locators g (words l) z ≡ g
locators-first g z lo e [] r b = refl
locators-first g z lo e (x ∷ l) r (inl n) = absurd (omega (arith, n, r.0.0))
locators-first g z lo e (x ∷ l) r (inr b) = at_less (ℕ-tri z x.key) g x.locate (locators x.gap (words l) z) b

gaps-first : (g z lo e : ℕ) (l : List Desc) → Rises (suc lo) e l → Before z (next_of l) → gaps g (words l) z ≡ g
gaps-first g z lo e [] r b = refl
gaps-first g z lo e (x ∷ l) r (inl n) = absurd (omega (arith, n, r.0.0))
gaps-first g z lo e (x ∷ l) r (inr b) = at_less (ℕ-tri z x.key) g x.gap (gaps x.gap (words l) z) b

reads-behind : (g lo : ℕ) (x : Desc) (l : List Desc) → lo ≤ x.key → (d : Desc) (n : ℕ) → Reads x.gap (suc x.key) l d n → Reads g lo (x ∷ l) d n
reads-behind g lo x l a d n R = record {
  from = omega (arith, a, R.from);
  before = R.before;
  located = at_greater (ℕ-tri d.key x.key) g x.locate (locators x.gap (words l) d.key) R.from ∙ R.located;
  updated = at_greater (ℕ-tri d.key x.key) 0 x.update (updaters (words l) d.key) R.from ∙ R.updated;
  gap_here = λ z b c. at_greater (ℕ-tri z x.key) g x.gap (gaps x.gap (words l) z) (omega (arith, b, R.from)) ∙ R.gap_here z b c;
  gap_located = λ z b c. at_greater (ℕ-tri z x.key) g x.locate (locators x.gap (words l) z) (omega (arith, b, R.from)) ∙ R.gap_located z b c;
}

reads-head : (g lo e : ℕ) (x : Desc) (l : List Desc) → Rises lo e (x ∷ l) → Reads g lo (x ∷ l) x (next_of l)
reads-head g lo e x l r = record {
  from = r.0.0;
  before = ahead l r.1;
  located = at-equal (ℕ-tri x.key x.key) g x.locate (locators x.gap (words l) x.key) refl;
  updated = at-equal (ℕ-tri x.key x.key) 0 x.update (updaters (words l) x.key) refl;
  gap_here = λ z a b. here z a b (ℕ_discrete z x.key);
  gap_located = λ z a b. at_greater (ℕ-tri z x.key) g x.locate (locators x.gap (words l) z) a ∙ locators-first x.gap z x.key e l r.1 b;
}
  where
    ahead : (k : List Desc) → Rises (suc x.key) e k → Before x.key (next_of k)
    ahead [] q = inl refl
    ahead (y ∷ k) q = inr q.0.0

    here : (z : ℕ) → x.key ≤ z → Before z (next_of l) → Dec (z ≡ x.key) → gaps g (words (x ∷ l)) z ≡ x.gap
    here z a b (yes q) = at-equal (ℕ-tri z x.key) g x.gap (gaps x.gap (words l) z) q
    here z a b (no q) = at_greater (ℕ-tri z x.key) g x.gap (gaps x.gap (words l) z) (omega (arith, a, q)) ∙ gaps-first x.gap z x.key e l r.1 b

reads : (g lo e : ℕ) (l : List Desc) → Rises lo e l → Each (Reads g lo l) l
reads g lo e [] r = tt
reads g lo e (x ∷ l) r = (reads-head g lo e x l r, each-as (reads-behind g lo x l r.0.0) l (reads x.gap (suc x.key) e l r.1))

-- The highest stored descriptor that is not above k.
record Floor (P : Desc → ℕ → Type 0) (l : List Desc) (k : ℕ) : Type 0 where
  d : Desc
  next : ℕ
  has : P d next
  at_most : d.key ≤ k
  before : Before k next
  highest : (a : ℕ) → stored_in a l ≡ true → a ≤ k → a ≤ d.key

floor : (P : Desc → ℕ → Type 0) (lo e : ℕ) (l : List Desc) → Rises lo e l → Each P l → (k a : ℕ) → stored_in a l ≡ true → a ≤ k → Floor P l k
unfolding stored_in
floor P lo e [] r p k a i b = absurd (false≢true i)
floor P lo e (x ∷ []) r p k a i b = record { d = x; next = 0; has = p.0; at_most = omega (arith, only a i, b); before = inl refl; highest = λ c j q. omega (arith, only c j) }
  where
    only : (c : ℕ) → stored_in c (x ∷ []) ≡ true → x.key ≡ c
    only c j = go (stored-parts c [] x [] j)
      where
        go : (stored_in c [] ≡ true) ⊎ ((x.key ≡ c) ⊎ (stored_in c [] ≡ true)) → x.key ≡ c
        go (inl q) = absurd (false≢true q)
        go (inr (inl q)) = q
        go (inr (inr q)) = absurd (false≢true q)
floor P lo e (x ∷ y ∷ l) r p k a i b = go (cmp y.key k) (floor P (suc x.key) e (y ∷ l) r.1 p.1 k y.key (stored_here y.key y refl [] l))
  where
    parts : (c : ℕ) → stored_in c (x ∷ y ∷ l) ≡ true → (x.key ≡ c) ⊎ (stored_in c (y ∷ l) ≡ true)
    parts c j = at (stored-parts c [] x (y ∷ l) j)
      where
        at : (stored_in c [] ≡ true) ⊎ ((x.key ≡ c) ⊎ (stored_in c (y ∷ l) ≡ true)) → (x.key ≡ c) ⊎ (stored_in c (y ∷ l) ≡ true)
        at (inl q) = absurd (false≢true q)
        at (inr q) = q

    behind : (c : ℕ) → stored_in c (y ∷ l) ≡ true → y.key ≤ c
    behind c j = at (stored-parts c [] y l j)
      where
        at : (stored_in c [] ≡ true) ⊎ ((y.key ≡ c) ⊎ (stored_in c l ≡ true)) → y.key ≤ c
        at (inl q) = absurd (false≢true q)
        at (inr (inl q)) = omega (arith, q)
        at (inr (inr q)) = omega (arith, (stored-range c (suc y.key) e l (rises-in (suc y.key) e l r.1.1) q).0)

    first : k < y.key → (c : ℕ) → stored_in c (x ∷ y ∷ l) ≡ true → c ≤ k → x.key ≡ c
    first h c j q = at (parts c j)
      where
        at : (x.key ≡ c) ⊎ (stored_in c (y ∷ l) ≡ true) → x.key ≡ c
        at (inl z) = z
        at (inr z) = absurd (omega (arith, behind c z, h, q))

    go : Cmp y.key k → (y.key ≤ k → Floor P (y ∷ l) k) → Floor P (x ∷ y ∷ l) k
    go (high h) ih = record { d = x; next = y.key; has = p.0; at_most = omega (arith, first h a i b, b); before = inr h; highest = λ c j q. omega (arith, first h c j q) }
    go (low h) ih =
        let F = ih h in
        record { d = F.d; next = F.next; has = F.has; at_most = F.at_most; before = F.before; highest = λ c j q. at c q (parts c j) (F.highest y.key (stored_here y.key y refl [] l) h) (F.highest c) }
      where
        at : {n : ℕ} (c : ℕ) → c ≤ k → (x.key ≡ c) ⊎ (stored_in c (y ∷ l) ≡ true) → y.key ≤ n → (stored_in c (y ∷ l) ≡ true → c ≤ k → c ≤ n) → c ≤ n
        at c q (inl z) w f = omega (arith, z, w, r.1.0.0)
        at c q (inr z) w f = f z q

-- ---- what each descriptor's words say, and what is said of every key

-- What the test asks of the holders of a descriptor, where `next` is the next stored key, 0 for none.
pub record DescHeld (begun : ℕ) (t : List Session) (d : Desc) (next : ℕ) : Type 0 where
  pub held : HoldersFit begun L.group d.locate d.update
  pub gap_begun : Within d.gap begun
  pub located : Within (asked_at t d.key next).locate d.locate
  pub gap_located : Within (asked_at t d.key next).gap d.gap

-- A session's locate takes, and has taken a key.
pub record Taking (t : List Session) (p : ℕ) : Type 0 where
  pub lowest : 1 ≤ p
  pub highest : p ≤ width
  pub takes : (session_at t p).stage ≡ 5
  pub taken : ¬ ((session_at t p).last ≡ 0)

-- The same of every key, by the words w of the descriptors.
record KeysHeld (begun : ℕ) (t : List Session) (w : List G.Desc) : Type 0 where
  fit : (z : ℕ) → HoldersFit begun L.group (locators 0 w z) (updaters w z)
  gaps_begun : (z : ℕ) → Within (gaps 0 w z) begun
  passed : (p : ℕ) → Taking t p → (k : ℕ) → (session_at t p).first ≤ k → k ≤ (session_at t p).last → holds (locators 0 w k) p ≡ true
  ahead : (p : ℕ) → Taking t p → holds (gaps 0 w (session_at t p).last) p ≡ true

-- A gap's holders agree with one another, and where nobody updates with all.
gap-fits : (begun w : ℕ) → Within w begun → HoldersFit begun L.group w 0
gap-fits begun w h = record { only_begun = only; agrees = agrees }
  where
    none : (p : ℕ) {A : Type 0} → holds 0 p ≡ true → A
    none p e = absurd (false≢true (sym (holds-none p) ∙ e))

    only : (m : Mode) → Within (in_mode m w 0) begun
    only weak = h
    only strong = λ p e. none p e

    agrees : AgreeAt rule L.group w 0
    agrees weak weak p q x y = inr refl
    agrees weak strong p q x y = none q y
    agrees strong n p q x y = none p x

fits_all : (begun : ℕ) (P : Desc → ℕ → Type 0) → ((d : Desc) (n : ℕ) → P d n → HoldersFit begun L.group d.locate d.update × Within d.gap begun)
    → (g : ℕ) → Within g begun → (l : List Desc) → Each P l → (z : ℕ) → HoldersFit begun L.group (locators g (words l) z) (updaters (words l) z)
fits_all begun P f g h [] p z = gap-fits begun g h
fits_all begun P f g h (x ∷ l) p z = let q = f x (next_of l) p.0 in go q (ℕ-tri z x.key) (fits_all begun P f x.gap q.1 l p.1 z)
  where
    go : HoldersFit begun L.group x.locate x.update × Within x.gap begun → (t : Tri ◌<◌ z x.key) → HoldersFit begun L.group (locators x.gap (words l) z) (updaters (words l) z)
        → HoldersFit begun L.group (by_tri t g x.locate (locators x.gap (words l) z)) (by_tri t 0 x.update (updaters (words l) z))
    go q (less k) ih = gap-fits begun g h
    go q (equal k) ih = q.0
    go q (greater k) ih = ih

gaps-all : (begun : ℕ) (P : Desc → ℕ → Type 0) → ((d : Desc) (n : ℕ) → P d n → Within d.gap begun) → (g : ℕ) → Within g begun → (l : List Desc) → Each P l → (z : ℕ)
    → Within (gaps g (words l) z) begun
gaps-all begun P f g h [] p z = h
gaps-all begun P f g h (x ∷ l) p z = let q = f x (next_of l) p.0 in go q (ℕ-tri z x.key) (gaps-all begun P f x.gap q l p.1 z)
  where
    go : Within x.gap begun → (t : Tri ◌<◌ z x.key) → Within (gaps x.gap (words l) z) begun → Within (by_tri t g x.gap (gaps x.gap (words l) z)) begun
    go q (less k) ih = h
    go q (equal k) ih = q
    go q (greater k) ih = ih

none_within : (begun : ℕ) → Within 0 begun
none_within begun p e = absurd (false≢true (sym (holds-none p) ∙ e))

module _ (begun : ℕ) (t : List Session) (l : List Desc) (rises : Rises 0 4294967296 l) where
  -- From every key to each descriptor.
  keys-each : KeysHeld begun t (words l) → Each (DescHeld begun t) l
  keys-each W = each-as one l (reads 0 0 4294967296 l rises)
    where
      in-gap : (d : Desc) (n : ℕ) → Reads 0 0 l d n → (p : ℕ) → Taking t p → NeedsGap d.key n (session_at t p) → Before d.key n → holds d.gap p ≡ true
      in-gap d n R p T N (inl z) = ap (λ (w : ℕ). holds w p) (sym (R.gap_here (session_at t p).last N.passed.to_last (inl z))) ∙ W.ahead p T
      in-gap d n R p T N (inr b) = go (cmp n (session_at t p).last) (ℕ_discrete n (d.key + 1))
        where
          go : Cmp n (session_at t p).last → Dec (n ≡ d.key + 1) → holds d.gap p ≡ true
          go (high h) e = ap (λ (w : ℕ). holds w p) (sym (R.gap_here (session_at t p).last N.passed.to_last (inr h))) ∙ W.ahead p T
          go (low h) (yes e) =
              absurd (N.ahead e (record { takes = T.takes; taken = T.taken; from_first = let f = N.passed.from_first in omega (arith, f, b); to_last = h }))
          go (low h) (no e) =
              ap (λ (w : ℕ). holds w p) (sym (R.gap_located (d.key + 1) (omega arith) (inr (omega (arith, b, e)))))
              ∙ W.passed p T (d.key + 1) (let f = N.passed.from_first in omega (arith, f)) (omega (arith, b, h))

      one : (d : Desc) (n : ℕ) → Reads 0 0 l d n → DescHeld begun t d n
      one d n R = record {
        held = subst (λ u. HoldersFit begun L.group d.locate u) R.updated (subst (λ w. HoldersFit begun L.group w (updaters (words l) d.key)) R.located (W.fit d.key));
        gap_begun = subst (λ w. Within w begun) (R.gap_here d.key (omega arith) R.before) (W.gaps_begun d.key);
        located = λ p e.
            let a = (locate-asked t d.key n p).0 e in
            ap (λ (w : ℕ). holds w p) (sym R.located)
            ∙ W.passed p (record { lowest = a.0; highest = a.1; takes = a.2.takes; taken = a.2.taken }) d.key a.2.from_first a.2.to_last;
        gap_located = λ p e.
            let a = (gap-asked t d.key n p).0 e in
            in-gap d n R p (record { lowest = a.0; highest = a.1; takes = a.2.passed.takes; taken = a.2.passed.taken }) a.2 R.before;
      }

  -- From each descriptor to every key: where the first key of a locate is stored.
  each-keys : ((p : ℕ) → Taking t p → (stored_in (session_at t p).first l ≡ true) × ((session_at t p).first ≤ (session_at t p).last)) → Each (DescHeld begun t) l → KeysHeld begun t (words l)
  each-keys from E = record {
    fit = fits_all begun (DescHeld begun t) (λ d n D. (D.held, D.gap_begun)) 0 (none_within begun) l E;
    gaps_begun = gaps-all begun (DescHeld begun t) (λ d n D. D.gap_begun) 0 (none_within begun) l E;
    passed = λ p T k a b. at_key p T k a b (below p T k a);
    ahead = λ p T. at_last p T (below p T (session_at t p).last (from p T).1);
  }
    where
      P : Desc → ℕ → Type 0
      P d n = DescHeld begun t d n × Reads 0 0 l d n

      below : (p : ℕ) → Taking t p → (k : ℕ) → (session_at t p).first ≤ k → Floor P l k
      below p T k a =
          floor P 0 4294967296 l rises (each_both (DescHeld begun t) (Reads 0 0 l) l E (reads 0 0 4294967296 l rises)) k (session_at t p).first (from p T).0 a

      -- the descriptor below is passed, if k is
      passed : (p : ℕ) → Taking t p → (k : ℕ) → (session_at t p).first ≤ k → k ≤ (session_at t p).last → (F : Floor P l k) → Passed F.d.key (session_at t p)
      passed p T k a b F = record {
        takes = T.takes;
        taken = T.taken;
        from_first = F.highest (session_at t p).first (from p T).0 a;
        to_last = let c = F.at_most in omega (arith, c, b);
      }

      held-gap : (p : ℕ) → Taking t p → (k : ℕ) → (F : Floor P l k) → NeedsGap F.d.key F.next (session_at t p) → holds F.d.gap p ≡ true
      held-gap p T k F N = F.has.0.gap_located p ((gap-asked t F.d.key F.next p).1 (T.lowest, T.highest, N))

      ends-before : {A : Type 0} (k n d : ℕ) → Before k n → n ≡ d + 1 → (n ≤ k) → A
      ends-before k n d (inl z) e h = absurd (omega (arith, z, e))
      ends-before k n d (inr b) e h = absurd (omega (arith, b, h))

      at_key : (p : ℕ) → Taking t p → (k : ℕ) → (session_at t p).first ≤ k → k ≤ (session_at t p).last → Floor P l k → holds (locators 0 (words l) k) p ≡ true
      at_key p T k a b F = go (ℕ_discrete F.d.key k)
        where
          go : Dec (F.d.key ≡ k) → holds (locators 0 (words l) k) p ≡ true
          go (yes e) =
              ap (λ (z : ℕ). holds (locators 0 (words l) z) p) (sym e) ∙ ap (λ (w : ℕ). holds w p) F.has.1.located
              ∙ F.has.0.located p ((locate-asked t F.d.key F.next p).1 (T.lowest, T.highest, passed p T k a b F))
          go (no e) =
              let c : F.d.key < k = let h = F.at_most in omega (arith, e, h) in
              ap (λ (w : ℕ). holds w p) (F.has.1.gap_located k c F.before)
              ∙ held-gap p T k F (record { passed = passed p T k a b F; ahead = λ q r. ends-before k F.next F.d.key F.before q (omega (arith, q, c)) })

      at_last : (p : ℕ) → Taking t p → Floor P l (session_at t p).last → holds (gaps 0 (words l) (session_at t p).last) p ≡ true
      at_last p T F =
          ap (λ (w : ℕ). holds w p) (F.has.1.gap_here (session_at t p).last F.at_most F.before)
          ∙ held-gap p T (session_at t p).last F
          (record {
            passed = passed p T (session_at t p).last (from p T).1 (omega arith) F;
            ahead = λ q r. ends-before (session_at t p).last F.next F.d.key F.before q r.to_last;
          })

-- ---- the words of descriptors

-- What the test asks of the words of some descriptors, in the order of their keys.
abbrev pub AllHeld : List ℕ → ℕ → ℕ → List Session → List ℕ → List ℕ → Type 0
AllHeld s m begun t tally [] = Unit {0}
AllHeld s m begun t tally (d ∷ ds) =
    GroupHeld (descriptor_at s m d) begun (asked_at t (descriptor_at s m d).key (next_key s m ds)) (get_or tally d 0) × AllHeld s m begun t tally ds

module _ (s : List ℕ) (m r begun : ℕ) (t : List Session) (tally : List ℕ) where
  next-same : (ds : List ℕ) → next_key s m ds ≡ next_of (map (desc_at s m r) ds)
  unfolding decode_descriptor
  next-same [] = refl
  next-same (d ∷ ds) = refl

  one-held : (d n : ℕ) → GroupHeld (descriptor_at s m d) begun (asked_at t (descriptor_at s m d).key n) (get_or tally d 0)
      → DescHeld begun t (desc_at s m r d) n × (word_of s m d 5 ≡ get_or tally d 0)
  unfolding decode_descriptor
  one-held d n H = (record { held = H.held; gap_begun = H.gap_begun; located = H.located; gap_located = H.gap_located }, H.counted)

  held_one : (d n : ℕ) → DescHeld begun t (desc_at s m r d) n → word_of s m d 5 ≡ get_or tally d 0
      → GroupHeld (descriptor_at s m d) begun (asked_at t (descriptor_at s m d).key n) (get_or tally d 0)
  unfolding decode_descriptor
  held_one d n D c = record { held = D.held; gap_begun = D.gap_begun; counted = c; located = D.located; gap_located = D.gap_located }

  held-each : (ds : List ℕ) → AllHeld s m begun t tally ds → Each (DescHeld begun t) (map (desc_at s m r) ds) × All (λ d. word_of s m d 5 ≡ get_or tally d 0) ds
  held-each [] h = (tt, tt)
  held-each (d ∷ ds) h =
      let x = one-held d (next_key s m ds) h.0 in
      let y = held-each ds h.1 in
      ((subst (DescHeld begun t (desc_at s m r d)) (next-same ds) x.0, y.0), (x.1, y.1))

  each-held : (ds : List ℕ) → Each (DescHeld begun t) (map (desc_at s m r) ds) → All (λ d. word_of s m d 5 ≡ get_or tally d 0) ds → AllHeld s m begun t tally ds
  each-held [] h c = tt
  each-held (d ∷ ds) h c = (held_one d (next_key s m ds) (subst (DescHeld begun t (desc_at s m r d)) (sym (next-same ds)) h.0) c.0, each-held ds h.1 c.1)

-- ---- pins

-- A stored key has the pins of its descriptor.
pins-each : (lo e : ℕ) (l : List Desc) → Rises lo e l → All (λ d. (lo ≤ d.key) × (pins_in d.key l ≡ d.pins)) l
unfolding pins_in
pins-each lo e [] r = tt
pins-each lo e (x ∷ l) r = ((r.0.0, rw (eq-eqb x.key x.key refl) refl), all-as one l (pins-each (suc x.key) e l r.1))
  where
    one : (d : Desc) → (suc x.key ≤ d.key) × (pins_in d.key l ≡ d.pins) → (lo ≤ d.key) × (cond (eqb x.key d.key) x.pins (pins_in d.key l) ≡ d.pins)
    one d q = (omega (arith, q.0, r.0.0), rw (ne_eqb x.key d.key (λ z. omega (arith, z, q.0))) q.1)

-- Each stored key is pinned as often as was counted.
abbrev pub PinsCounted : List ℕ → List Session → List ℕ → Type 0
PinsCounted s t tally = All (λ d. pins_in (word_of s (M-of s) d 1) (lvs (meaning s t)) ≡ get_or tally d 0) (stored_records s)

module _ (s : List ℕ) (t : List Session) (rises : Rises 0 4294967296 (lvs (meaning s t))) where
  -- The pins of each stored key are the pins word of its descriptor.
  pub leaf-pins : All (λ d. pins_in (word_of s (M-of s) d 1) (lvs (meaning s t)) ≡ word_of s (M-of s) d 5) (stored_records s)
  leaf-pins =
      (all_map (λ (d : Desc). pins_in d.key (lvs (meaning s t)) ≡ d.pins) (desc_at s (M-of s) (R-of s)) (stored_records s)).0
      (subst (All (λ (d : Desc). pins_in d.key (lvs (meaning s t)) ≡ d.pins)) (lvs-meaning s t)
      (all-as (λ (d : Desc) q. q.1) (lvs (meaning s t)) (pins-each 0 4294967296 (lvs (meaning s t)) rises)))

  pins-as : (tally ds : List ℕ) (P Q : ℕ → ℕ) → All (λ d. P d ≡ Q d) ds → All (λ d. P d ≡ get_or tally d 0) ds → All (λ d. Q d ≡ get_or tally d 0) ds
  pins-as tally [] P Q e c = tt
  pins-as tally (d ∷ ds) P Q e c = (sym e.0 ∙ c.0, pins-as tally ds P Q e.1 c.1)

  pins-counted : (tally : List ℕ) → PinsCounted s t tally → All (λ d. word_of s (M-of s) d 5 ≡ get_or tally d 0) (stored_records s)
  pins-counted tally = pins-as tally (stored_records s) (λ d. pins_in (word_of s (M-of s) d 1) (lvs (meaning s t))) (λ d. word_of s (M-of s) d 5) leaf-pins

  counted-pins : (tally : List ℕ) → All (λ d. word_of s (M-of s) d 5 ≡ get_or tally d 0) (stored_records s) → PinsCounted s t tally
  counted-pins tally =
      pins-as tally (stored_records s) (λ d. word_of s (M-of s) d 5) (λ d. pins_in (word_of s (M-of s) d 1) (lvs (meaning s t))) (all-as (λ d e. sym e) (stored_records s) leaf-pins)

-- ---- the machine's words

-- What soundness says of the holders of groups.
pub record GroupsSound (s : List ℕ) (t : List Session) : Type 0 where
  -- Only begun sessions hold.
  pub only_begun : (m : Mode) (p z : ℕ) → holders (meaning s t) L.group m p z ≡ true → (session_of p (meaning s t)).begun ≡ true
  pub only_begun_gaps : (p z : ℕ) → holds (gap_word z (seen (meaning s t))) p ≡ true → (session_of p (meaning s t)).begun ≡ true
  -- No two holders conflict.
  pub agrees : (m n : Mode) (p q z : ℕ) → holders (meaning s t) L.group m p z ≡ true → holders (meaning s t) L.group n q z ≡ true → (p ≡ q) ⊎ (rule L.group m n ≡ true)
  -- A locate that has taken a key holds what it has passed, and the gap at the last one.
  pub passed : (p : ℕ) → Taking t p → (k : ℕ) → (session_at t p).first ≤ k → k ≤ (session_at t p).last → holders (meaning s t) L.group weak p k ≡ true
  pub ahead : (p : ℕ) → Taking t p → holds (gap_word (session_at t p).last (seen (meaning s t))) p ≡ true

module _ (s : List ℕ) (t : List Session) (seats : length t ≤ suc width) where
  begun : ℕ
  begun = begun_mask t

  w : List G.Desc
  w = words (seen (meaning s t))

  group-holders : (m : Mode) (p z : ℕ) → holders (meaning s t) L.group m p z ≡ holds (in_mode m (locators 0 w z) (updaters w z)) p
  unfolding locate_word update_word w
  group-holders weak p z = refl
  group-holders strong p z = refl

  gap-holders : (p z : ℕ) → holds (gap_word z (seen (meaning s t))) p ≡ holds (gaps 0 w z) p
  unfolding gap_word w
  gap-holders p z = refl

  begun-is : (p : ℕ) → holds begun p ≡ (session_of p (meaning s t)).begun
  unfolding begun
  begun-is p = begun-held s t seats p

  keys-sound : KeysHeld begun t w → GroupsSound s t
  keys-sound K = record {
    only_begun = λ m p z h. sym (begun-is p) ∙ (K.fit z).only_begun m p (sym (group-holders m p z) ∙ h);
    only_begun_gaps = λ p z h. sym (begun-is p) ∙ K.gaps_begun z p (sym (gap-holders p z) ∙ h);
    agrees = λ m n p q z x y. (K.fit z).agrees m n p q (sym (group-holders m p z) ∙ x) (sym (group-holders n q z) ∙ y);
    passed = λ p T k a b. group-holders weak p k ∙ K.passed p T k a b;
    ahead = λ p T. gap-holders p (session_at t p).last ∙ K.ahead p T;
  }

  sound-keys : GroupsSound s t → KeysHeld begun t w
  sound-keys S = record {
    fit = λ z. record {
      only_begun = λ m p h. begun-is p ∙ S.only_begun m p z (group-holders m p z ∙ h);
      agrees = λ m n p q x y. S.agrees m n p q z (group-holders m p z ∙ x) (group-holders n q z ∙ y);
    };
    gaps_begun = λ z p h. begun-is p ∙ S.only_begun_gaps p z (gap-holders p z ∙ h);
    passed = λ p T k a b. sym (group-holders weak p k) ∙ S.passed p T k a b;
    ahead = λ p T. sym (gap-holders p (session_at t p).last) ∙ S.ahead p T;
  }

  module _ (rises : Rises 0 4294967296 (lvs (meaning s t))) (tally : List ℕ) where
    -- The words of the descriptors fit exactly if the machine's holders do and the pins are as counted: where the first key of each locate that takes
    -- is stored, and not above the last one taken.
    pub groups-sound : ((p : ℕ) → Taking t p → (stored_in (session_at t p).first (lvs (meaning s t)) ≡ true) × ((session_at t p).first ≤ (session_at t p).last))
        → AllHeld s (M-of s) (begun_mask t) t tally (stored_records s) → GroupsSound s t × PinsCounted s t tally
    unfolding begun w
    groups-sound from H =
        let E = held-each s (M-of s) (R-of s) (begun_mask t) t tally (stored_records s) H in
        let K = each-keys (begun_mask t) t (lvs (meaning s t)) rises from (subst (Each (DescHeld (begun_mask t) t)) (sym (lvs-meaning s t)) E.0) in (
          keys-sound (subst (KeysHeld (begun_mask t) t) (sym (seen-words (meaning s t))) K),
          counted-pins s t rises tally E.1,
        )

    pub sound-groups : GroupsSound s t → PinsCounted s t tally → AllHeld s (M-of s) (begun_mask t) t tally (stored_records s)
    unfolding begun w
    sound-groups S c =
        let K = subst (KeysHeld (begun_mask t) t) (seen-words (meaning s t)) (sound-keys S) in
        each-held s (M-of s) (R-of s) (begun_mask t) t tally (stored_records s) (subst (Each (DescHeld (begun_mask t) t)) (lvs-meaning s t) (keys-each (begun_mask t) t (lvs (meaning s t)) rises K))
        (pins-counted s t rises tally c)

-- ---- a locate's place

-- The next place of a locate that takes: first, or one above the last key taken.
abbrev pub take_place : Session → ℕ
take_place x = cond (eqb x.last 0) x.first (suc x.last)

-- What the machine says of a locate whose next place that is.
pub record LocateHeld (s : List ℕ) (t : List Session) (p : ℕ) : Type 0 where
  pub held : (k : ℕ) → (session_at t p).first ≤ k → k < take_place (session_at t p) → holders (meaning s t) L.group weak p k ≡ true
  pub ahead : (session_at t p).first < take_place (session_at t p) → holds (gap_word (take_place (session_at t p) - 1) (seen (meaning s t))) p ≡ true

place_none : (x : Session) → x.last ≡ 0 → take_place x ≡ x.first
place_none x e = ap (λ (b : Bool). cond b x.first (suc x.last)) (eq-eqb x.last 0 e)

place-some : (x : Session) → ¬ (x.last ≡ 0) → take_place x ≡ suc x.last
place-some x n = ap (λ (b : Bool). cond b x.first (suc x.last)) (ne_eqb x.last 0 n)

pub sound-locate : (s : List ℕ) (t : List Session) → GroupsSound s t → (p : ℕ) → 1 ≤ p → p ≤ width → (session_at t p).stage ≡ 5 → LocateHeld s t p
sound-locate s t S p a b g = go (ℕ_discrete (session_at t p).last 0)
  where
    go : Dec ((session_at t p).last ≡ 0) → LocateHeld s t p
    go (yes e) = let q = place_none (session_at t p) e in record { held = λ k x y. absurd (omega (arith, x, y, q)); ahead = λ y. absurd (omega (arith, y, q)) }
    go (no n) =
        let q = place-some (session_at t p) n in
        let T : Taking t p = record { lowest = a; highest = b; takes = g; taken = n } in
        record {
          held = λ k x y. S.passed p T k x (omega (arith, y, q));
          ahead = λ y. ap (λ (z : ℕ). holds (gap_word z (seen (meaning s t))) p) (omega (arith, q)) ∙ S.ahead p T;
        }

pub locate-passed : (s : List ℕ) (t : List Session) (p : ℕ) → Taking t p → LocateHeld s t p → (k : ℕ) → (session_at t p).first ≤ k → k ≤ (session_at t p).last
    → holders (meaning s t) L.group weak p k ≡ true
locate-passed s t p T H k x y = let q = place-some (session_at t p) T.taken in H.held k x (omega (arith, y, q))

pub locate-ahead : (s : List ℕ) (t : List Session) (p : ℕ) → Taking t p → (session_at t p).first ≤ (session_at t p).last → LocateHeld s t p
    → holds (gap_word (session_at t p).last (seen (meaning s t))) p ≡ true
locate-ahead s t p T h H =
    let q = place-some (session_at t p) T.taken in
    ap (λ (z : ℕ). holds (gap_word z (seen (meaning s t))) p) (omega (arith, q)) ∙ H.ahead (omega (arith, h, q))

-- ---- a group's parts

-- The undo records filed under descriptor d undo what its members list.
pub record GroupUndoes (s : List ℕ) (small : M-of s ≤ 1024) (L : Lists) (d : ℕ) : Type 0 where
  pub some : ¬ (d ≡ 0)
  pub undoes : Undoes s (M-of s) d small some (L d) (λ e. member_record s (M-of s) e (member_chain s (M-of s) (R-of s) d))

module _ (s : List ℕ) (small : M-of s ≤ 1024) (L : Lists) (tally : List ℕ) (begun : ℕ) (t : List Session) where
  -- What is asked of the groups is asked of holders, members and undo records.
  pub record GroupParts (ds : List ℕ) : Type 0 where
    pub held : AllHeld s (M-of s) begun t tally ds
    pub come : All (MembersCome s small) ds
    pub undoes : All (GroupUndoes s small L) ds

  pub groups-parts : (ds : List ℕ) → Groups s (M-of s) (R-of s) small L tally begun t ds → GroupParts ds
  groups-parts [] g = record { held = tt; come = tt; undoes = tt }
  groups-parts (d ∷ ds) g =
      let q = groups-parts ds g.1 in
      let G = g.0 in
      let C : MembersCome s small d = record { some = G.some; chained = G.chained; comes = G.comes } in
      let U : GroupUndoes s small L d = record {
        some = G.some;
        undoes = undoes-same s (M-of s) d small G.some G.some (L d) (come s (M-of s) d small G.some (member_chain s (M-of s) (R-of s) d) nobody)
            (λ e. member_record s (M-of s) e (member_chain s (M-of s) (R-of s) d)) (come-record s small d C) G.undoes;
      } in
      record { held = (G.held, q.held); come = (C, q.come); undoes = (U, q.undoes) }

  pub parts-groups : (ds : List ℕ) → GroupParts ds → Groups s (M-of s) (R-of s) small L tally begun t ds
  parts-groups [] q = tt
  parts-groups (d ∷ ds) q =
      let C = q.come.0 in (
        record {
          some = C.some;
          held = q.held.0;
          chained = C.chained;
          comes = C.comes;
          undoes = undoes-same s (M-of s) d small q.undoes.0.some C.some (L d) (λ e. member_record s (M-of s) e (member_chain s (M-of s) (R-of s) d))
              (come s (M-of s) d small C.some (member_chain s (M-of s) (R-of s) d) nobody) (λ e. sym (come-record s small d C e)) q.undoes.0.undoes;
        },
        parts-groups ds (record { held = q.held.1; come = q.come.1; undoes = q.undoes.1 }),
      )
