-- The clause "counted" of a state's soundness is that the records met are R in all.
use Rattle.std.specs.Prelude.{◌≡◌, refl, Bool, false, ◌||◌, List, [], ◌∷◌, ◌++◌, map, ℕ, suc, ◌+◌}
use Rattle.std.proofs.Math.Path.{sym, ap}
use Rattle.std.proofs.Common.{◌∙◌, ne_eqb}
use native.Mathlib.Omega.{arith}
use Rattle.std.proofs.Math.ListN.{length, length-append, length-map}
use Rattle.words.specs.Store.{word_of}
use Rattle.sessions.specs.declared.Session.{Session}
use Rattle.machine.specs.State.{Desc}
use Rattle.sessions.specs.Sessions.{parties}
use Rattle.machine.specs.Holders.{elem}
use Rattle.machine.specs.Sound.{members_many, records_used}
use Rattle.machine.specs.Keys.{elem-with}
use Rattle.machine.specs.Looks.{with-many}
use Rattle.meaning.specs.Reading.{gather, member_chain, member_entries, desc_at, Leaf, M-of, R-of, height_of, tree_of, free_chain, meaning}
use Rattle.meaning.specs.Sound.{All, Apart, Once, leaves_of, undo_chains}
use Rattle.soundness.specs.GroupsPass.{members_of}
use Rattle.soundness.specs.UndoLeaves.{leaves-meant, leaves-read}
use Rattle.soundness.specs.Counts.{numbers-many, joined-many, undos-are}
use Rattle.soundness.specs.Reach.{tree_records, undo_records, member_records, met, undos-joined}

gather-apart : (e : ℕ) (l : List ℕ) → Apart e l → elem e (gather l) ≡ false
gather-apart e [] a = refl
gather-apart e (f ∷ l) a =
    elem-with e f (gather l) ∙ ap (λ (b : Bool). b || elem e (gather l)) (ne_eqb e f a.0) ∙ gather-apart e l a.1

gather-many : (l : List ℕ) → Once l → length (gather l) ≡ length l
gather-many [] o = refl
gather-many (e ∷ l) o = with-many e (gather l) (gather-apart e l o.0) ∙ ap suc (gather-many l o.1)

-- No group lists an entry twice.
abbrev pub Single : List ℕ → ℕ → Type 0
Single s d = Once (member_entries s (M-of s) (member_chain s (M-of s) (R-of s) d))

module _ (s : List ℕ) (t : List Session) where
  members-count : (ls : List Leaf) → All (λ l. l.desc ≡ desc_at s (M-of s) (R-of s) l.num) ls → All (λ l. Single s l.num) ls
      → members_many (map (λ l. l.desc) ls) ≡ length (members_of s (M-of s) (R-of s) (map (λ l. l.num) ls))
  members-count [] a b = refl
  members-count (l ∷ ls) a b =
      let c = member_chain s (M-of s) (R-of s) l.num in
      let p = ap (λ (d : Desc). length d.members) a.0 in
      let q = gather-many (member_entries s (M-of s) c) b.0 in
      let n = length-map c (λ i. word_of s (M-of s) i 2) in
      let e = length-append c (members_of s (M-of s) (R-of s) (map (λ l. l.num) ls)) in
      let i = members-count ls a.1 b.1 in
      omega arith

  pub met-many : length t ≡ parties → All (λ l. Single s l.num) (leaves_of s) → length (free_chain s) + records_used (meaning s t) ≡ length (met s t)
  unfolding meaning
  met-many table b =
      let a = length-append (tree_records s t) (undo_records s t ++ (member_records s t ++ free_chain s)) in
      let c = length-append (undo_records s t) (member_records s t ++ free_chain s) in
      let d = length-append (member_records s t) (free_chain s) in
      let e = numbers-many (suc (height_of s)) (tree_of s) in
      let f = ap length (leaves-meant s t) ∙ length-map (leaves_of s) (λ (l : Leaf). l.desc) in
      let g = ap members_many (leaves-meant s t) ∙ members-count (leaves_of s) (leaves-read s) b in
      let h = undos-are s t ∙ sym (joined-many (undo_chains s t)) ∙ ap length (undos-joined s t table) in
      omega arith
