-- What is left of the words when a request in hand ends: its latch and its pins go.
use Rattle.std.specs.Prelude.{◌≡◌, refl, Bool, true, false, cond, not, List, ℕ, ◌+◌, ◌-◌, eqb, get_or}
use Rattle.std.proofs.Common.{sym, ap, subst, ◌∙◌, get_or-set_other, eq-eqb, ne_eqb}
use Rattle.words.specs.Store.{base_of, HasRecord}
use Rattle.sessions.specs.declared.Session.{Session}
use Rattle.serial.specs.Serial.{true≢false}
use Rattle.machine.specs.Logic.{eqb_is}
use Rattle.groups.specs.Descriptor.{descriptor_at, put_pins}
use Rattle.meaning.specs.Sound.{pins_first}
use Rattle.nodes.specs.Ops.{latch_at}
use Rattle.members.specs.Members.{Pinned, unpin_at}

-- Whether the request has pinned the descriptor of first.
unfoldable pub has_pinned : Session → Bool
has_pinned x = pins_first x

-- The latch of a descent that stands at a node.
unfoldable pub end_latch : List ℕ → ℕ → Session → List ℕ
end_latch s m x = cond (eqb x.stage 3) (latch_at s m x.at 0) s

-- The pin of first.
unfoldable pub end_low : List ℕ → ℕ → Session → List ℕ
end_low s m x = cond (pins_first x) (unpin_at s m x.low) s

-- The pin of second.
unfoldable pub end_high : List ℕ → ℕ → Session → List ℕ
end_high s m x = cond (eqb x.stage 5) (cond (eqb x.first x.second) s (unpin_at s m x.high)) s

unfoldable pub end_request : List ℕ → ℕ → Session → List ℕ
end_request s m x = end_high (end_low (end_latch s m x) m x) m x

-- Word i of the store is none of these: the latch of the node at which the descent stands, the pins of first and of second.
pub record Elsewhere (m : ℕ) (x : Session) (i : ℕ) : Type 0 where
  pub latch : x.stage ≡ 3 → ¬ (i ≡ base_of m x.at + 0)
  pub low : pins_first x ≡ true → ¬ (i ≡ base_of m x.low + 5)
  pub high : x.stage ≡ 5 → ¬ (x.first ≡ x.second) → ¬ (i ≡ base_of m x.high + 5)

-- Every such word stays.
pub elsewhere-same : (s : List ℕ) (m : ℕ) (x : Session) (i : ℕ) → Elsewhere m x i → get_or (end_request s m x) i 0 ≡ get_or s i 0
unfolding end_request end_latch end_low end_high latch_at unpin_at put_pins
elsewhere-same s m x i e =
    at_high (end_low (end_latch s m x) m x) (eqb x.stage 5) refl (eqb x.first x.second) refl ∙ at_low (end_latch s m x) (pins_first x) refl ∙ at_latch (eqb x.stage 3) refl
  where
    at_latch : (b : Bool) → eqb x.stage 3 ≡ b → get_or (cond b (latch_at s m x.at 0) s) i 0 ≡ get_or s i 0
    at_latch true q = get_or-set_other s (base_of m x.at + 0) i 0 0 (e.latch (eqb_is x.stage 3 q))
    at_latch false q = refl

    at_low : (z : List ℕ) (b : Bool) → pins_first x ≡ b → get_or (cond b (unpin_at z m x.low) z) i 0 ≡ get_or z i 0
    at_low z true q = get_or-set_other z (base_of m x.low + 5) i ((descriptor_at z m x.low).pins - 1) 0 (e.low q)
    at_low z false q = refl

    at_high : (z : List ℕ) (b : Bool) → eqb x.stage 5 ≡ b → (c : Bool) → eqb x.first x.second ≡ c → get_or (cond b (cond c z (unpin_at z m x.high)) z) i 0 ≡ get_or z i 0
    at_high z true q true r = refl
    at_high z true q false r =
        get_or-set_other z (base_of m x.high + 5) i ((descriptor_at z m x.high).pins - 1) 0 (e.high (eqb_is x.stage 5 q) (λ f. true≢false (eq-eqb x.first x.second f) r))
    at_high z false q c r = refl

-- What the words must have: the records that the session record names, pinned.
abbrev pub LatchEnds : List ℕ → ℕ → Session → Type 0
LatchEnds s m x = x.stage ≡ 3 → HasRecord s m x.at

abbrev pub LowEnds : List ℕ → ℕ → Session → Type 0
LowEnds s m x = pins_first x ≡ true → Pinned s m x.low

abbrev pub HighEnds : List ℕ → ℕ → Session → Type 0
HighEnds s m x = x.stage ≡ 5 → ¬ (x.first ≡ x.second) → Pinned s m x.high

pub record Endable (s : List ℕ) (m : ℕ) (x : Session) : Type 0 where
  pub node : LatchEnds s m x
  pub low : LowEnds (end_latch s m x) m x
  pub high : HighEnds (end_low (end_latch s m x) m x) m x

-- ---- the runs of the code, as equations

pub latch-none : (s : List ℕ) (m : ℕ) (x : Session) → ¬ (x.stage ≡ 3) → s ≡ end_latch s m x
unfolding end_latch
latch-none s m x n = rw (ne_eqb x.stage 3 n) refl

pub latch-some : (s : List ℕ) (m : ℕ) (x : Session) → x.stage ≡ 3 → end_latch s m x ≡ latch_at s m x.at 0
unfolding end_latch
latch-some s m x e = rw (eq-eqb x.stage 3 e) refl

pub low-none : (s : List ℕ) (m : ℕ) (x : Session) → pins_first x ≡ false → s ≡ end_low s m x
unfolding end_low
low-none s m x e = sym (ap (λ b. cond b (unpin_at s m x.low) s) e)

pub low-some : (s : List ℕ) (m : ℕ) (x : Session) → pins_first x ≡ true → end_low s m x ≡ unpin_at s m x.low
unfolding end_low
low-some s m x e = ap (λ b. cond b (unpin_at s m x.low) s) e

pub high-none : (s : List ℕ) (m : ℕ) (x : Session) → ¬ (x.stage ≡ 5) → s ≡ end_high s m x
unfolding end_high
high-none s m x n = rw (ne_eqb x.stage 5 n) refl

pub high_same : (s : List ℕ) (m : ℕ) (x : Session) → x.stage ≡ 5 → x.first ≡ x.second → s ≡ end_high s m x
unfolding end_high
high_same s m x e q = rw (eq-eqb x.stage 5 e, eq-eqb x.first x.second q) refl

pub high-some : (s : List ℕ) (m : ℕ) (x : Session) → x.stage ≡ 5 → ¬ (x.first ≡ x.second) → end_high s m x ≡ unpin_at s m x.high
unfolding end_high
high-some s m x e q = rw (eq-eqb x.stage 5 e, ne_eqb x.first x.second q) refl

pub pinned-4 : (x : Session) → x.stage ≡ 4 → true ≡ has_pinned x
unfolding has_pinned
pinned-4 x e = rw (eq-eqb x.stage 4 e) refl

pub pinned-5 : (x : Session) → ¬ (x.stage ≡ 4) → x.stage ≡ 5 → true ≡ has_pinned x
unfolding has_pinned
pinned-5 x n e = rw (ne_eqb x.stage 4 n, eq-eqb x.stage 5 e) refl

pub pinned-other : (x : Session) → ¬ (x.stage ≡ 4) → ¬ (x.stage ≡ 5) → ¬ (x.code ≡ 5) → false ≡ has_pinned x
unfolding has_pinned
pinned-other x a b c = rw (ne_eqb x.stage 4 a, ne_eqb x.stage 5 b, ne_eqb x.code 5 c) refl

pub pinned_by : (x : Session) → ¬ (x.stage ≡ 4) → ¬ (x.stage ≡ 5) → x.code ≡ 5 → not (eqb x.target x.first) ≡ has_pinned x
unfolding has_pinned
pinned_by x a b c = rw (ne_eqb x.stage 4 a, ne_eqb x.stage 5 b, eq-eqb x.code 5 c) (go (eqb x.target x.first))
  where
    go : (q : Bool) → not q ≡ cond q false true
    go true = refl
    go false = refl

pub not-true : (b : Bool) → not b ≡ true → b ≡ false
not-true true e = sym e
not-true false e = refl

pub not-false : (b : Bool) → not b ≡ false → b ≡ true
not-false true e = refl
not-false false e = sym e

pub first-pins : (x : Session) {b c : Bool} → b ≡ has_pinned x → b ≡ c → pins_first x ≡ c
unfolding has_pinned
first-pins x e f = sym e ∙ f

pub end-run : (s : List ℕ) {s₁ s₂ s₃ : List ℕ} (m : ℕ) (x : Session) → s₁ ≡ end_latch s m x → s₂ ≡ end_low s₁ m x → s₃ ≡ end_high s₂ m x → s₃ ≡ end_request s m x
unfolding end_request
end-run s m x a b c = cc

pub low-kept : {s s₁ : List ℕ} {m : ℕ} {x : Session} → Endable s m x → s₁ ≡ end_latch s m x → LowEnds s₁ m x
low-kept {s} {s₁} {m} {x} e a = subst (λ z. LowEnds z m x) (sym a) e.low

pub high-kept : {s s₁ s₂ : List ℕ} {m : ℕ} {x : Session} → Endable s m x → s₁ ≡ end_latch s m x → s₂ ≡ end_low s₁ m x → HighEnds s₂ m x
high-kept {s} {s₁} {s₂} {m} {x} e a b = subst (λ z. HighEnds z m x) (sym (b ∙ ap (λ z. end_low z m x) a)) e.high
