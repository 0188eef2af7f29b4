-- The sessions' chains of undo records (document 01's take-backs): what each record needs, and the lists by group that undoing goes through.
use Rattle.std.specs.Prelude.{◌≡◌, List, Bool, true, false, cond, not, ◌&&◌, ◌||◌, ℕ, ◌+◌, eqb, leb, get_or, set, length}
use Rattle.words.specs.Entries.{entry_word}
use Rattle.groups.specs.Descriptor.{descriptor_at}
use Rattle.undos.specs.Undo.{undo_at}
use Rattle.locks.specs.Holders.{holds}
use Rattle.marks.specs.Marks.{entry_ok, is_met, descriptor_mark, undo_mark}
use Rattle.marks.specs.Trail.{Turn, Trail, turn, chain_of}

-- ---- what a record needs

-- record d is the descriptor of a proper key, and session p has its update lock
unfoldable pub group_held : List ℕ → List ℕ → ℕ → ℕ → ℕ → ℕ → Bool
group_held s seen m r p d =
    is_met seen r d descriptor_mark && not (eqb (descriptor_at s m d).key 0) && holds (descriptor_at s m d).update p

-- 1 a write, 2 a membership added, 3 one taken out
unfoldable pub kind_ok : ℕ → Bool
kind_ok kind = not (eqb kind 0) && leb kind 3

-- session p has the exclusive lock of the record's entry and, unless it undoes a write, its group's update lock
unfoldable pub undo_ok : List ℕ → List ℕ → ℕ → ℕ → ℕ → ℕ → Bool
undo_ok s seen m r p i =
    entry_ok (undo_at s m i).entry m && kind_ok (undo_at s m i).kind
    && holds (entry_word s (undo_at s m i).entry 2) p
    && (eqb (undo_at s m i).kind 1 || group_held s seen m r p (undo_at s m i).descriptor)

-- ---- the records by group, in the order of their chains

-- place d has the last record of the list of descriptor d, place 4097 + d the first, place 8194 + i the one after record i; 0 for none
pub record Filing (f : List ℕ) : Type 0 where
  pub size : length f ≡ 12291

-- record i at the end of the list of descriptor d
unfoldable pub file_at : List ℕ → ℕ → ℕ → List ℕ
file_at f d i =
    cond (eqb (get_or f d 0) 0)
    (set (set f d i) (4097 + d) i)
    (cond (leb (get_or f d 0) 4096) (set (set f d i) (8194 + get_or f d 0) i) (set f d i))

-- record i in the list of its group, if it has one
unfoldable pub file_undo : List ℕ → List ℕ → ℕ → ℕ → List ℕ
file_undo s f m i =
    cond (eqb (undo_at s m i).kind 1) f (cond (leb (undo_at s m i).descriptor 4096) (file_at f (undo_at s m i).descriptor i) f)

-- ---- a chain

-- a record of session p's chain
unfoldable pub undo_turn : List ℕ → ℕ → ℕ → ℕ → List ℕ → List ℕ → ℕ → Turn (List ℕ)
undo_turn s m r p seen f i = cond (undo_ok s seen m r p i) (turn true (file_undo s f m i)) (turn false f)

-- session p's chain from record i on
unfoldable pub undos_from : List ℕ → ℕ → ℕ → ℕ → List ℕ → List ℕ → ℕ → ℕ → Trail (List ℕ)
undos_from s m r p seen f i left = chain_of (λ j. (undo_at s m j).next) r undo_mark (undo_turn s m r p) seen f i left
