-- What the pass over the session table says of a sound state of the machine: the machine's clauses give its facts, and with the pins of each descriptor
-- as tallied they give the machine's clause for pins.
use Rattle.std.specs.Prelude.{◌≡◌, refl, Bool, true, false, List, ℕ, ◌≤◌}
use Rattle.std.proofs.Common.{sym, ap, ◌∙◌, arith}
use Rattle.std.proofs.Math.Decide.{dec_le}
use Rattle.sessions.specs.declared.Session.{Session}
use Rattle.sessions.specs.Sessions.{session_at}
use Rattle.machine.specs.Holders.{width}
use Rattle.machine.specs.Housekeeping.{lvs}
use Rattle.machine.specs.Sound.{stored_in, pins_in, total, pins_by}
use Rattle.machine.specs.Sound as M
use Rattle.machine.specs.Looks.{pinned-stored}
use Rattle.meaning.specs.Reading.{Leaf, meaning}
use Rattle.meaning.specs.Sound.{All, leaves_of, Hand}
use Rattle.marks.specs.Steps.{no as never}
use Rattle.soundness.specs.UndoLeaves.{descs, leaves-meant}
use Rattle.soundness.specs.Marking.{all-as}
use Rattle.soundness.specs.TreeKnown.{TreeKnown, stored_low, pins_stored}
use Rattle.soundness.specs.PartyMeaning.{stands-but}
use Rattle.soundness.specs.PartiesPass.{Requests}

-- How often the requests in hand pin a key.
abbrev pub pinned_by : List ℕ → List Session → ℕ → ℕ
pinned_by s t k = total (pins_by k) (meaning s t).table

abbrev pub PinsMatch : List ℕ → List Session → Type 0
PinsMatch s t = (k : ℕ) → pins_in k (lvs (meaning s t)) ≡ pinned_by s t k

abbrev pub PinsStored : List ℕ → List Session → Type 0
PinsStored s t = (k : ℕ) → 1 ≤ pinned_by s t k → stored_in k (lvs (meaning s t)) ≡ true

-- Each descriptor has as many pins as its key.
abbrev pub LeafPins : List ℕ → List Session → Type 0
LeafPins s t = All (λ l. l.desc.pins ≡ pinned_by s t l.desc.key) (leaves_of s)

pub match-stored : (s : List ℕ) (t : List Session) → PinsMatch s t → PinsStored s t
match-stored s t f k h = pinned-stored k (lvs (meaning s t)) (omega (arith, f k, h))

module _ (s seen : List ℕ) (t : List Session) (K : TreeKnown s seen) where
  pub leaves-match : LeafPins s t → PinsStored s t → PinsMatch s t
  leaves-match a f k = ap (pins_in k) (leaves-meant s t) ∙ go (stored_in k (descs (leaves_of s))) refl
    where
      go : (b : Bool) → stored_in k (descs (leaves_of s)) ≡ b → pins_in k (descs (leaves_of s)) ≡ pinned_by s t k
      go true e =
          pins_stored s seen K k (stored_low s seen K k e) (λ n. n ≡ pinned_by s t k)
          (all-as {P = λ (l : Leaf). l.desc.pins ≡ pinned_by s t l.desc.key} {Q = λ (l : Leaf). l.desc.key ≡ k → l.desc.pins ≡ pinned_by s t k}
          (λ l q z. q ∙ ap (pinned_by s t) z) (leaves_of s) a) e
      go false e = none_of (dec_le 1 (pins_in k (descs (leaves_of s)))) (dec_le 1 (pinned_by s t k))
        where
          none_of : Dec (1 ≤ pins_in k (descs (leaves_of s))) → Dec (1 ≤ pinned_by s t k) → pins_in k (descs (leaves_of s)) ≡ pinned_by s t k
          none_of (yes h) d = never (sym e ∙ pinned-stored k (descs (leaves_of s)) h)
          none_of (no n) (yes h) = never (sym e ∙ sym (ap (stored_in k) (leaves-meant s t)) ∙ f k h)
          none_of (no n) (no i) = omega (arith, n, i)

-- ---- a sound state

pub requests_of : (s : List ℕ) (t : List Session) → M.Sound (meaning s t) → ((p : ℕ) → p ≤ width → Hand s p (session_at t p)) → Requests s t
requests_of s t S hands = record {
  unbegun_hand = S.unbegun_hand;
  latches_match = S.latches_match;
  placed = S.placed;
  checked = S.checked;
  standing = λ p r e. stands-but p (meaning s t) r r.stage (S.standing p r e);
  hands = hands;
  pins_stored = match-stored s t S.pins_match;
}
