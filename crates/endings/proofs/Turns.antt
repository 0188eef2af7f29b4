-- The turns of the loops over entries, descriptors and free records.
use mathlib.Core.Path.{◌≡◌, refl, sym, ap, ◌∙◌}
use mathlib.Core.List.{List}
use Prim.Native.Nat.{ℕ, zero, suc, ◌-◌, ◌≤◌}
use native.Mathlib.Omega.{arith}
use borrow.Author.Tests.{ne_eqb}
use Rattle.words.specs.Store.{HasRecord, word_of}
use Rattle.chain.specs.Walk.{Walk}
use Rattle.chain.specs.Free.{push_free}
use Rattle.endings.specs.Leave.{leave_entry, leave_entries, leave_group, leave_groups}
use Rattle.endings.specs.LeaveLaws.{left-walk, leave_none}
use Rattle.endings.specs.Fresh.{fresh_entry, fresh_entries, fresh_free}

-- ---- entries

-- t is s after session p has left n entries. A record, so that a proof's `_` are found from it
pub record LeftTo (s : List ℕ) (p n : ℕ) (t : List ℕ) : Type 0 where
  pub is : t ≡ leave_entries s p n

pub left-none : {s : List ℕ} {p : ℕ} → LeftTo s p 0 s
unfolding leave_entries
left-none = record { is = refl }

pub left-more : {s t u : List ℕ} {p n e k : ℕ} → LeftTo s p n t → u ≡ leave_entry t p e → e ≡ suc n → k ≡ suc n → LeftTo s p k u
unfolding leave_entries
left-more {s} {t} {u} {p} {n} h e a b = record { is = e ∙ rw (a, b) (ap (λ (x : List ℕ). leave_entry x p (suc n)) h.is) }

pub left_end : {s t : List ℕ} {p n m : ℕ} → LeftTo s p n t → n ≡ m → t ≡ leave_entries s p m
left_end {s} {t} {p} h z = h.is ∙ ap (leave_entries s p) z

-- the same of fresh entries
pub record ClearedTo (s : List ℕ) (n : ℕ) (t : List ℕ) : Type 0 where
  pub is : t ≡ fresh_entries s n

pub cleared-none : {s : List ℕ} → ClearedTo s 0 s
unfolding fresh_entries
cleared-none = record { is = refl }

pub cleared_more : {s t u : List ℕ} {n e k : ℕ} → ClearedTo s n t → u ≡ fresh_entry t e → e ≡ suc n → k ≡ suc n → ClearedTo s k u
unfolding fresh_entries
cleared_more {s} {t} {u} {n} h e a b = record { is = e ∙ rw (a, b) (ap (λ (x : List ℕ). fresh_entry x (suc n)) h.is) }

pub cleared-end : {s t : List ℕ} {n m : ℕ} → ClearedTo s n t → n ≡ m → t ≡ fresh_entries s m
cleared-end {s} {t} h z = h.is ∙ ap (fresh_entries s) z

-- ---- descriptors

-- what is left, done, gives the whole, and can be walked
pub record Leaving (whole t : List ℕ) (m p n d : ℕ) : Type 0 where
  pub is : leave_groups t m p n d ≡ whole
  pub walk : Walk t m n d

pub leaving-start : {t : List ℕ} {m p r n d : ℕ} → Walk t m r d → n ≡ r → Leaving (leave_groups t m p r d) t m p n d
leaving-start {t} {m} {p} {r} {n} {d} w e = rw e (record { is = refl; walk = w })

pub leaving-has : {whole t : List ℕ} {m p n d : ℕ} → Leaving whole t m p n d → ¬ (d ≡ 0) → HasRecord t m d × (1 ≤ n)
unfolding Walk
leaving-has {n = zero} h ne = absurd (ne h.walk)
leaving-has {n = suc n} h ne = ((h.walk ne).0, omega arith)

pub leaving-more : {whole t u : List ℕ} {m p n d next k : ℕ} → Leaving whole t m p n d → ¬ (d ≡ 0) → next ≡ word_of t m d 0
    → u ≡ leave_group t m p d → k ≡ n - 1 → Leaving whole u m p k next
unfolding Walk leave_groups
leaving-more {n = zero} h ne e q c = absurd (ne h.walk)
leaving-more {whole} {t} {u} {m} {p} {n = suc n} {d} {next} {k = more} h ne e q c =
    let z : more ≡ n = omega (arith, c) in
    let k = h.walk ne in
    let done : leave_groups (leave_group t m p d) m p n (word_of t m d 0) ≡ whole = simp (ne_eqb d 0 ne) at h.is in
    let on : Walk (leave_group t m p d) m n (word_of t m d 0) = left-walk t m p d k.0 n (word_of t m d 0) k.1 in
    rw (z, q, e) (record { is = done; walk = on })

pub leaving-end : {whole t : List ℕ} {m p n d : ℕ} → Leaving whole t m p n d → d ≡ 0 → t ≡ whole
leaving-end {whole} {t} {m} {p} {n} {d} h z = sym (leave_none t m p n) ∙ ap (λ (k : ℕ). leave_groups t m p n k) (sym z) ∙ h.is

pub leaving-over : {whole t : List ℕ} {m p n d : ℕ} → Leaving whole t m p n d → n ≡ 0 → t ≡ whole
unfolding leave_groups
leaving-over {whole} {t} {m} {p} {n} {d} h z = ap (λ (k : ℕ). leave_groups t m p k d) (sym z) ∙ h.is

-- ---- free records

-- t is s after the records behind i, up to r, were given to the free chain
pub record FreedTo (s : List ℕ) (m r i : ℕ) (t : List ℕ) : Type 0 where
  pub is : t ≡ fresh_free s m (suc i) (r - i)

pub freed-none : {s : List ℕ} {m r i : ℕ} → i ≡ r → FreedTo s m r i s
unfolding fresh_free
freed-none {s} {m} {r} {i} e = let z : r - i ≡ 0 = omega (arith, e) in record { is = rw z refl }

pub freed-more : {s t u : List ℕ} {m r i : ℕ} → FreedTo s m r i t → 1 ≤ i → i ≤ r → u ≡ push_free t m i → FreedTo s m r (i - 1) u
unfolding fresh_free
freed-more {s} {t} {u} {m} {r} {i} h l k e =
    let a : suc (i - 1) ≡ i = omega arith in
    let b : r - (i - 1) ≡ suc (r - i) = omega arith in
    record { is = e ∙ rw (a, b) (ap (λ (x : List ℕ). push_free x m i) h.is) }

pub freed-end : {s t : List ℕ} {m r i : ℕ} → FreedTo s m r i t → i ≡ 2 → t ≡ fresh_free s m 3 (r - 2)
freed-end {s} {t} {m} {r} {i} h z = h.is ∙ ap (λ (j : ℕ). fresh_free s m (suc j) (r - j)) z
