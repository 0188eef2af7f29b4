-- The four requests fed, each by what its function does to the arrays.
use Rattle.std.specs.Prelude.{◌≡◌, refl, List, ℕ, ◌+◌, ◌≤◌, ◌<◌, length, get_or, set}
use Rattle.std.proofs.Common.{sym, ap, subst, ◌∙◌, arith, length-set, get_or-set_same, get_or-set_other}
use Rattle.std.proofs.Math.Option.{some, some-injective}
use Rattle.std.proofs.Math.Decide.{ℕ_discrete}
use Rattle.serial.specs.Serial.{pick}
use Rattle.serial.specs.Model.{Db, Req, read, write, insert, remove, just, ans, eff, request_of}
use Rattle.replay.specs.declared.Fed.{Fed}
use Rattle.replay.specs.Held.{members_in, held, Ready, Feeds}
use Rattle.replay.specs.Members.{Sorted, Inserts, Removes}

pub sorted_of : {vs ks es : List ℕ} {n : ℕ} → Ready vs ks es n → Sorted ks es n
sorted_of r = record { keys = r.keys; entries = r.entries; count = r.count; rising = r.rising }

pub ready_of : {vs ks es : List ℕ} {n : ℕ} → length vs ≡ 1025 → Sorted ks es n → Ready vs ks es n
ready_of h s = record { values = h; keys = s.keys; entries = s.entries; count = s.count; rising = s.rising }

-- The value of one entry set.
values-set : (vs : List ℕ) (e v : ℕ) → e < length vs → (x : ℕ) → get_or (set vs e v) x 0 ≡ pick (ℕ_discrete e x) v (get_or vs x 0)
values-set vs e v h x = go (ℕ_discrete e x)
  where
    go : (d : Dec (e ≡ x)) → get_or (set vs e v) x 0 ≡ pick d v (get_or vs x 0)
    go (yes q) = ap (λ (i : ℕ). get_or (set vs e v) i 0) (sym q) ∙ get_or-set_same vs e v 0 h
    go (no n) = get_or-set_other vs e x v 0 (λ q. n (sym q))

module _ (code entry first : ℕ) (vs ks es : List ℕ) (n : ℕ) (ready : Ready vs ks es n) where
  abbrev d : Db
  d = held vs ks es n

  module _ (r : Fed) where
    -- The request is q, whatever its unused arguments are.
    feeds : (vs' ks' es' : List ℕ) (q : Req) → ((second : ℕ) → request_of code entry first second ≡ some q) → Ready vs' ks' es' r.count → r.count ≤ n + 1
        → ans q d ≡ just r.answer → held vs' ks' es' r.count ≡ eff q d → Feeds code entry first vs ks es n r vs' ks' es'
    feeds vs' ks' es' q asks after few a h = record {
      ready = after;
      few = few;
      is = λ second q' e. subst (λ (w : Req). (ans w d ≡ just r.answer) × (held vs' ks' es' r.count ≡ eff w d)) (some-injective q q' (sym (asks second) ∙ e)) (a, h);
    }

    pub feeds-insert : (ks' es' : List ℕ) → code ≡ 3 → Inserts first entry ks es n r ks' es' → Feeds code entry first vs ks es n r vs ks' es'
    feeds-insert ks' es' c z =
        feeds vs ks' es' (insert entry first) (λ second. rw c refl) (ready_of ready.values z.sorted) z.few (ap just (sym z.answered))
        λ i. record { values = λ e. get_or vs e 0; members = z.members i }

    pub feeds-remove : (ks' es' : List ℕ) → code ≡ 4 → Removes first entry ks es n r ks' es' → Feeds code entry first vs ks es n r vs ks' es'
    feeds-remove ks' es' c z =
        feeds vs ks' es' (remove entry first) (λ second. rw c refl) (ready_of ready.values z.sorted) z.few (ap just (sym z.answered))
        λ i. record { values = λ e. get_or vs e 0; members = z.members i }

  pub feeds-read : (r : Fed) → code ≡ 1 → r ≡ record { answer = get_or vs entry 0; count = n } → Feeds code entry first vs ks es n r vs ks es
  feeds-read r c e =
      rw e (feeds (record { answer = get_or vs entry 0; count = n }) vs ks es (read entry) (λ second. rw c refl) ready (omega arith) refl refl)

  pub feeds-write : (r : Fed) (vs' : List ℕ) → code ≡ 2 → entry ≤ 1024 → r ≡ record { answer = 0; count = n } → vs' ≡ set vs entry first
      → Feeds code entry first vs ks es n r vs' ks es
  feeds-write r vs' c h e w =
      let in-vs : entry < length vs = omega (arith, ready.values) in
      rw (e, w)
      (feeds (record { answer = 0; count = n }) (set vs entry first) ks es (write entry first) (λ second. rw c refl)
      (ready_of (length-set vs entry first ∙ ready.values) (sorted_of ready)) (omega arith) refl
      λ i. record { values = λ x. values-set vs entry first in-vs x i; members = members_in ks es n })
