-- Every record and entry of a layout is in the store.
use Rattle.std.specs.Prelude.{◌≡◌, List, ℕ, ◌≤◌, length}
use Rattle.std.proofs.Common.{sym, ap, ◌∙◌, arith}
use Rattle.words.specs.Store.{HasRecord}
use Rattle.words.specs.Entries.{HasEntry}
use Rattle.sessions.specs.declared.Session.{Session}
use Rattle.machine.specs.Sound as S
use Rattle.machine.specs.Sound.{times}
use Rattle.meaning.specs.Reading.{M-of}
use Rattle.meaning.specs.Numbers.{all_in, in-times}
use Rattle.meaning.specs.Parts.{entries-many}
use Rattle.layout.specs.Layout.{Lay, all_records, Holds, means}

-- The sizes that a sound state has.
pub record Sizes (L : Lay) : Type 0 where
  pub some : 1 ≤ length L.entries
  pub entries : length L.entries ≤ 1024
  pub least : 8 ≤ L.records
  pub most : L.records ≤ 4096

pub sizes-of : (L : Lay) (t : List Session) → S.Sound (means L t) → Sizes L
unfolding means
sizes-of L t A = record { some = A.sizes.0; entries = A.sizes.1; least = A.sizes.2; most = A.sizes.3 }

module _ (s : List ℕ) (t : List Session) (L : Lay) (H : Holds s t L) (Z : Sizes L) where
  pub entries-are : M-of s ≡ length L.entries
  entries-are = sym (entries-many s 1 (M-of s)) ∙ ap length H.fits.entries

  pub few-entries : M-of s ≤ 1024
  few-entries = omega (arith, entries-are, Z.entries)

  pub has-record : (i : ℕ) → 1 ≤ i → i ≤ L.records → HasRecord s (M-of s) i
  has-record i a b = record { entries = few-entries; first = a; last = omega (arith, b, Z.most); inside = omega (arith, H.fits.sized, H.fits.records, b) }

  pub has-entry : (e : ℕ) → 1 ≤ e → e ≤ length L.entries → HasEntry s e
  has-entry e a b = record { first = a; last = omega (arith, b, Z.entries); inside = omega (arith, H.fits.sized, H.fits.records, Z.least, entries-are, b) }

  -- What the layout has is in the store.
  pub owned_in : (i : ℕ) → 1 ≤ times i (all_records L) → (1 ≤ i) × (i ≤ L.records)
  owned_in i h = all_in (λ j. (1 ≤ j) × (j ≤ L.records)) (all_records L) H.owned.no_other i (in-times i (all_records L) h)

  pub owned-has : (i : ℕ) → 1 ≤ times i (all_records L) → HasRecord s (M-of s) i
  owned-has i h = let b = owned_in i h in has-record i b.0 b.1
