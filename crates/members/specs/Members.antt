-- What requests do to descriptors and to the members of a group, on the words of a store of m entries.
use Rattle.std.specs.Prelude.{◌≡◌, refl, Bool, true, false, cond, List, ℕ, ◌+◌, ◌-◌, ◌≤◌, ◌<◌, eqb, length}
use Rattle.std.proofs.Common.{sym, ap, subst, ◌∙◌, eq-eqb, ne_eqb}
use Rattle.words.specs.Store.{HasRecord, has_kept}
use Rattle.groups.specs.declared.Descriptor.{Descriptor}
use Rattle.groups.specs.declared.Membership.{Membership}
use Rattle.groups.specs.Descriptor.{descriptor_at, put_descriptor, put_pins, with_holders, with_first_member, grant_locate, grant_update, grant_gap}
use Rattle.groups.specs.Membership.{membership_at, put_membership, with_next_member, with_member_before}
use Rattle.locks.specs.Holders.{held_by}

-- ---- pins and holders of descriptor d

pub record Pinnable (s : List ℕ) (m d : ℕ) : Type 0 where
  pub has : HasRecord s m d
  pub room : (descriptor_at s m d).pins < 4294967295

pub record Pinned (s : List ℕ) (m d : ℕ) : Type 0 where
  pub has : HasRecord s m d
  pub pinned : 1 ≤ (descriptor_at s m d).pins

pub record Holdable (s : List ℕ) (m d p : ℕ) : Type 0 where
  pub has : HasRecord s m d
  pub first : 1 ≤ p
  pub last : p ≤ 32

-- a request pins it, and lets go of it
unfoldable pub pin_at : List ℕ → ℕ → ℕ → List ℕ
pin_at s m d = put_pins s m d ((descriptor_at s m d).pins + 1)

unfoldable pub unpin_at : List ℕ → ℕ → ℕ → List ℕ
unpin_at s m d = put_pins s m d ((descriptor_at s m d).pins - 1)

-- session p comes to hold its key in locate mode
unfoldable pub locate_at : List ℕ → ℕ → ℕ → ℕ → List ℕ
locate_at s m d p = put_descriptor s m d (grant_locate (descriptor_at s m d) (held_by p (descriptor_at s m d).locate))

-- its key and the gap behind it
unfoldable pub pass_at : List ℕ → ℕ → ℕ → ℕ → List ℕ
pass_at s m d p =
    put_descriptor s m d
    (with_holders (descriptor_at s m d) (held_by p (descriptor_at s m d).locate) (descriptor_at s m d).update (held_by p (descriptor_at s m d).gap))

-- its key in update mode
unfoldable pub update_at : List ℕ → ℕ → ℕ → ℕ → List ℕ
update_at s m d p = put_descriptor s m d (grant_update (descriptor_at s m d) (held_by p (descriptor_at s m d).update))

-- ---- the members of descriptor d's group

-- membership i, if there is one
unfoldable pub no_member : Membership
no_member = record { next = 0; before = 0; entry = 0 }

unfoldable pub member_or : List ℕ → ℕ → ℕ → Membership
member_or s m i = cond (eqb i 0) no_member (membership_at s m i)

pub record Linkable (s : List ℕ) (m i : ℕ) : Type 0 where
  pub has : ¬ (i ≡ 0) → HasRecord s m i

-- membership i, which was b, gets another member before it; nothing is done where i is 0
unfoldable pub put_before : List ℕ → ℕ → ℕ → Membership → ℕ → List ℕ
put_before s m i b before = cond (eqb i 0) s (put_membership s m i (with_member_before b before))

-- what follows membership b becomes n; where b is 0, that is descriptor d's first member
unfoldable pub put_next : List ℕ → ℕ → ℕ → ℕ → ℕ → List ℕ
put_next s m d b n =
    cond (eqb b 0) (put_descriptor s m d (with_first_member (descriptor_at s m d) n)) (put_membership s m b (with_next_member (membership_at s m b) n))

pub record Nextable (s : List ℕ) (m d b : ℕ) : Type 0 where
  pub descriptor : HasRecord s m d
  pub before : ¬ (b ≡ 0) → HasRecord s m b

unfoldable pub first_member : ℕ → ℕ → Membership
first_member f e = record { next = f; before = 0; entry = e }

-- record i becomes the first member of descriptor d, for entry e
unfoldable pub put_member : List ℕ → ℕ → ℕ → ℕ → ℕ → List ℕ
put_member s m d i e =
    let f = (descriptor_at s m d).first in
    let t = put_membership s m i (first_member f e) in
    let u = put_before t m f (membership_at s m f) i in
    put_descriptor u m d (with_first_member (descriptor_at s m d) i)

pub record Puttable (s : List ℕ) (m d i : ℕ) : Type 0 where
  pub descriptor : HasRecord s m d
  pub own : HasRecord s m i
  pub first : ¬ ((descriptor_at s m d).first ≡ 0) → HasRecord s m (descriptor_at s m d).first

-- record i is no member of descriptor d any more; the record itself stays as it is
unfoldable pub take_member : List ℕ → ℕ → ℕ → ℕ → List ℕ
take_member s m d i =
    let b = (membership_at s m i).before in
    let n = (membership_at s m i).next in
    put_before (put_next s m d b n) m n (membership_at s m n) b

pub record Takeable (s : List ℕ) (m d i : ℕ) : Type 0 where
  pub descriptor : HasRecord s m d
  pub own : HasRecord s m i
  pub before : ¬ ((membership_at s m i).before ≡ 0) → HasRecord s m (membership_at s m i).before
  pub next : ¬ ((membership_at s m i).next ≡ 0) → HasRecord s m (membership_at s m i).next

-- ---- the runs of the code, as equations

pub member-none : (s : List ℕ) (m : ℕ) {i : ℕ} → i ≡ 0 → member_or s m i ≡ no_member
unfolding member_or
member-none s m {i} e = simp (eq-eqb i 0 e)

pub member-some : (s : List ℕ) (m : ℕ) {i : ℕ} → ¬ (i ≡ 0) → member_or s m i ≡ membership_at s m i
unfolding member_or
member-some s m {i} ne = simp (ne_eqb i 0 ne)

pub before-none : (s : List ℕ) (m : ℕ) {i : ℕ} (b : Membership) (k : ℕ) → i ≡ 0 → s ≡ put_before s m i b k
unfolding put_before
before-none s m {i} b k e = simp (eq-eqb i 0 e)

pub before-some : (s : List ℕ) (m : ℕ) {i : ℕ} (b : Membership) (k : ℕ) → ¬ (i ≡ 0) → put_before s m i b k ≡ put_membership s m i (with_member_before b k)
unfolding put_before
before-some s m {i} b k ne = simp (ne_eqb i 0 ne)

-- only a membership that is there counts
pub before-or : (s t : List ℕ) (m i k : ℕ) → put_before t m i (member_or s m i) k ≡ put_before t m i (membership_at s m i) k
unfolding put_before member_or
before-or s t m i k = go (eqb i 0)
  where
    go : (c : Bool)
        → cond c t (put_membership t m i (with_member_before (cond c no_member (membership_at s m i)) k))
        ≡ cond c t (put_membership t m i (with_member_before (membership_at s m i) k))
    go true = refl
    go false = refl

pub next-first : (s : List ℕ) (m d : ℕ) {b : ℕ} (n : ℕ) → b ≡ 0 → put_next s m d b n ≡ put_descriptor s m d (with_first_member (descriptor_at s m d) n)
unfolding put_next
next-first s m d {b} n e = simp (eq-eqb b 0 e)

pub next-later : (s : List ℕ) (m d : ℕ) {b : ℕ} (n : ℕ) → ¬ (b ≡ 0) → put_next s m d b n ≡ put_membership s m b (with_next_member (membership_at s m b) n)
unfolding put_next
next-later s m d {b} n ne = simp (ne_eqb b 0 ne)

pub link-kept : {s t : List ℕ} {m i : ℕ} → Linkable s m i → length t ≡ length s → Linkable t m i
link-kept l e = record { has = λ ne. has_kept (l.has ne) e }

pub put_first : {s : List ℕ} {m d i : ℕ} {v : Descriptor} → Puttable s m d i → v ≡ descriptor_at s m d → Linkable s m v.first
put_first {s} {m} {d} {i} {v} p e =
    record { has = λ ne. subst (λ (v : Descriptor). HasRecord s m v.first) (sym e) (p.first (λ z. ne (ap (λ (v : Descriptor). v.first) e ∙ z))) }

pub take_next : {s : List ℕ} {m d i : ℕ} {b : Membership} → Takeable s m d i → b ≡ membership_at s m i → Linkable s m b.next
take_next {s} {m} {d} {i} {b} p e =
    record { has = λ ne. subst (λ (v : Membership). HasRecord s m v.next) (sym e) (p.next (λ z. ne (ap (λ (v : Membership). v.next) e ∙ z))) }

pub take-before : {s : List ℕ} {m d i : ℕ} {b : Membership} → Takeable s m d i → b ≡ membership_at s m i → Nextable s m d b.before
take-before {s} {m} {d} {i} {b} p e =
    record {
      descriptor = p.descriptor;
      before = λ ne. subst (λ (v : Membership). HasRecord s m v.before) (sym e) (p.before (λ z. ne (ap (λ (v : Membership). v.before) e ∙ z)));
    }

pub put-run : (s : List ℕ) {t u w : List ℕ} (m d i e : ℕ) {v x : Descriptor} {after : Membership} → v ≡ descriptor_at s m d
    → after ≡ member_or s m v.first → t ≡ put_membership s m i (first_member v.first e) → u ≡ put_before t m v.first after i
    → x ≡ with_first_member v i → w ≡ put_descriptor u m d x → w ≡ put_member s m d i e
unfolding put_member
put-run s {t} {u} {w} m d i e {v} ev ea et eu ex ew = let k = before-or s t m v.first i in cc

pub take-run : (s : List ℕ) {t u : List ℕ} (m d i : ℕ) {b after : Membership} → b ≡ membership_at s m i → after ≡ member_or s m b.next
    → t ≡ put_next s m d b.before b.next → u ≡ put_before t m b.next after b.before → u ≡ take_member s m d i
unfolding take_member
take-run s {t} {u} m d i {b} eb ea et eu = let k = before-or s t m b.next b.before in cc

pub pin-run : (s : List ℕ) {t : List ℕ} (m d : ℕ) {n : ℕ} → n ≡ (descriptor_at s m d).pins → t ≡ put_pins s m d (n + 1) → t ≡ pin_at s m d
unfolding pin_at
pin-run s m d en et = et ∙ ap (λ (k : ℕ). put_pins s m d (k + 1)) en

pub unpin-run : (s : List ℕ) {t : List ℕ} (m d : ℕ) {n : ℕ} → n ≡ (descriptor_at s m d).pins → t ≡ put_pins s m d (n - 1) → t ≡ unpin_at s m d
unfolding unpin_at
unpin-run s m d en et = et ∙ ap (λ (k : ℕ). put_pins s m d (k - 1)) en

pub locate-run : (s : List ℕ) {t : List ℕ} (m d p : ℕ) {v w : Descriptor} {l : ℕ} → v ≡ descriptor_at s m d → l ≡ held_by p v.locate → w ≡ grant_locate v l → t ≡ put_descriptor s m d w
    → t ≡ locate_at s m d p
unfolding locate_at
locate-run s m d p {v} ev el ew et =
    et ∙ ap (λ (x : Descriptor). put_descriptor s m d x) (ew ∙ ap (grant_locate v) el ∙ ap (λ (x : Descriptor). grant_locate x (held_by p x.locate)) ev)

pub update-run : (s : List ℕ) {t : List ℕ} (m d p : ℕ) {v w : Descriptor} {l : ℕ} → v ≡ descriptor_at s m d → l ≡ held_by p v.update → w ≡ grant_update v l → t ≡ put_descriptor s m d w
    → t ≡ update_at s m d p
unfolding update_at
update-run s m d p {v} ev el ew et =
    et ∙ ap (λ (x : Descriptor). put_descriptor s m d x) (ew ∙ ap (grant_update v) el ∙ ap (λ (x : Descriptor). grant_update x (held_by p x.update)) ev)

both-granted : (v : Descriptor) (l g : ℕ) → grant_gap (grant_locate v l) g ≡ with_holders v l v.update g
unfolding with_holders
both-granted v l g = refl

pub pass-run : (s : List ℕ) {t : List ℕ} (m d p : ℕ) {v w x : Descriptor} {l g : ℕ} → v ≡ descriptor_at s m d → l ≡ held_by p v.locate
    → g ≡ held_by p v.gap → w ≡ grant_locate v l → x ≡ grant_gap w g → t ≡ put_descriptor s m d x → t ≡ pass_at s m d p
unfolding pass_at
pass-run s m d p {v} {w} {x} {l} {g} ev el eg ew ex et = let k = both-granted v l g in cc

pub first_run : (s : List ℕ) {t : List ℕ} (m d : ℕ) {b : ℕ} (n : ℕ) {v x : Descriptor} → b ≡ 0 → v ≡ descriptor_at s m d → x ≡ with_first_member v n
    → t ≡ put_descriptor s m d x → t ≡ put_next s m d b n
first_run s m d {b} n {v} {x} e ev ex et = let k = next-first s m d n e in cc

pub later-run : (s : List ℕ) {t : List ℕ} (m d : ℕ) {b : ℕ} (n : ℕ) {v x : Membership} → ¬ (b ≡ 0) → v ≡ membership_at s m b → x ≡ with_next_member v n
    → t ≡ put_membership s m b x → t ≡ put_next s m d b n
later-run s m d {b} n {v} {x} ne ev ex et = let k = next-later s m d n ne in cc
