-- The turns of the loop over the groups.
use mathlib.Core.Path.{◌≡◌, refl, sym, ap, ◌∙◌}
use mathlib.Core.List.{List}
use mathlib.Core.Bool.{Bool, true, false, not, ◌&&◌}
use Prim.Native.Nat.{ℕ, ◌+◌, ◌-◌, ◌≤◌, ◌<◌}
use native.Mathlib.Omega.{arith}
use lib.Dec.{eqb, leb}
use lib.ListN.{get_or}
use borrow.Author.Tests.{eqb-false, leb-true, not-true}
use Rattle.sessions.specs.declared.Session.{Session}
use Rattle.std.specs.Prelude.{Result, Ok, Err}
use Rattle.marks.specs.Steps.{both}
use Rattle.marks.specs.Trail.{Trail, then_trail, Ends, trail-as, trail-err, ended-as}
use Rattle.holders.proofs.Turns.{one_less}
use Rattle.passing.specs.declared.Asked.{Asked}
use Rattle.passing.specs.Asked.{asked_at}
use Rattle.holdings.specs.Holdings.{key_of, key_at, descriptor_ok, group_one, groups_from, all_groups}

-- a descriptor that is right is one of the store's
pub descriptor-in : (s tally : List ℕ) (m r begun : ℕ) (asked : Asked) (d : ℕ) → descriptor_ok s tally m r begun asked d ≡ true → (1 ≤ d) × (d ≤ r)
unfolding descriptor_ok
descriptor-in s tally m r begun asked d e =
    let p = both (not (eqb d 0)) (leb d r) (both (not (eqb d 0) && leb d r) _ e).0 in
    let n : d ≡ 0 → ⊥ = eqb-false d 0 (not-true _ p.0) in (omega arith, leb-true d r p.1)

-- what is left of the groups, done, gives the whole
pub record Grouping (whole : Trail (List ℕ)) (s order tally f : List ℕ) (m r begun : ℕ) (t : List Session) (count : ℕ) (seen l : List ℕ) (left k rest : ℕ) : Type 0 where
  pub is : groups_from s order tally f m r begun t count seen l left k rest ≡ whole

pub group-start : {s order tally f : List ℕ} {m r begun : ℕ} {t : List Session} {seen l : List ℕ} {left count rest : ℕ} → rest ≡ count
    → Grouping (all_groups s order tally f m r begun t count seen l left) s order tally f m r begun t count seen l left 0 rest
unfolding all_groups
group-start {s} {order} {tally} {f} {m} {r} {begun} {t} {seen} {l} {left} {count} {rest} z =
    record { is = ap (groups_from s order tally f m r begun t count seen l left 0) z }

module _ {whole : Trail (List ℕ)} {s order tally f : List ℕ} {m r begun : ℕ} {t : List Session} {count : ℕ} {seen l : List ℕ} {left k rest : ℕ} (g : Grouping whole s order tally f m r begun t count seen l left k rest) where
  pub group-end : rest ≡ 0 → Ends _ whole (Ok left) seen l
  unfolding groups_from
  group-end z = ended-as (ap (groups_from s order tally f m r begun t count seen l left k) (sym z) ∙ g.is)

  module _ {key next : ℕ} {asked : Asked} {w : Result ℕ ℕ} {seen' l' : List ℕ} (h : 0 < rest) (ek : key ≡ key_of s m r (get_or order k 0)) (en : next ≡ key_at s order m r count (k + 1)) (ea : asked ≡ asked_at t key next) (q : Ends _ (group_one s tally f m r begun asked seen l (get_or order k 0) left) w seen' l') where
    group-as : {v : Trail (List ℕ)} → group_one s tally f m r begun asked seen l (get_or order k 0) left ≡ v
        → then_trail v (λ v. groups_from s order tally f m r begun t count v.seen v.held v.left (k + 1) (rest - 1)) ≡ whole
    unfolding groups_from
    group-as o =
        let e : asked ≡ asked_at t (key_of s m r (get_or order k 0)) (key_at s order m r count (k + 1)) = ea ∙ ap (λ (x : ℕ). asked_at t x next) ek ∙ ap (asked_at t (key_of s m r (get_or order k 0))) en in
        ap (λ (x : Trail (List ℕ)). then_trail x (λ v. groups_from s order tally f m r begun t count v.seen v.held v.left (k + 1) (rest - 1))) (sym o)
        ∙ ap (λ (y : Asked). then_trail (group_one s tally f m r begun y seen l (get_or order k 0) left) (λ v. groups_from s order tally f m r begun t count v.seen v.held v.left (k + 1) (rest - 1))) e
        ∙ ap (groups_from s order tally f m r begun t count seen l left k) (sym (one_less rest h))
        ∙ g.is

    pub group-bad : {n : ℕ} → w ≡ Err n → Ends _ whole (Err n) seen' l'
    group-bad o = ended-as (group-as (trail-err q o))

    pub group-more : {rest' n : ℕ} → w ≡ Ok n → rest' ≡ rest - 1 → Grouping whole s order tally f m r begun t count seen' l' n (k + 1) rest'
    group-more {rest'} {n} o z =
        record { is = ap (groups_from s order tally f m r begun t count seen' l' n (k + 1)) z ∙ group-as (trail-as q o) }
