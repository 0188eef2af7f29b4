-- "Sound means" (document 01, and document 02, M-101), of the words of a store and a session table: the passes of the test, one after the other.
use Rattle.std.specs.Prelude.{Result, Ok, Err, List, Bool, true, cond, not, ◌&&◌, ℕ, eqb, leb, replicate}
use Rattle.words.specs.Store.{word_of}
use Rattle.words.specs.Header.{header_word, entries_place, records_place, first_place, free_place}
use Rattle.groups.specs.Descriptor.{descriptor_at}
use Rattle.sessions.specs.declared.Session.{Session}
use Rattle.seniority.specs.Seniority.{distinct_in}
use Rattle.marks.specs.Marks.{free_mark}
use Rattle.marks.specs.Trail.{Trail, Turn, turn, chain_of}
use Rattle.parties.specs.Parties.{parties_ok, standing_at_nodes, all_undos, marks_ok}
use Rattle.tree_walk.specs.TreeWalk.{Stand, Tour, root_tour}
use Rattle.holders.specs.Holders.{begun_mask, entries_from}
use Rattle.holdings.specs.Holdings.{all_groups}
use Rattle.sound.specs.declared.Fault.{Fault}
use Rattle.sound.specs.Faults.{sizes_fault, entries_fault, zero_fault, tree_fault, requests_fault, latches_fault, undos_fault, groups_fault, free_fault, unreached_fault, orders_fault, asked_fault, fault_number}
use Rattle.sound.specs.Sizes.{sizes_ok}

-- the test's answer: the number of the first part that is broken, 0 for none, and, where it is none, how many records are free
pub record Checked : Type 0 where
  pub fault : ℕ
  pub free : ℕ

abbrev pub failed : ℕ → Checked
failed fault = record { fault = fault; free = 0 }

-- what a function answers
abbrev pub checked : Result ℕ Fault → Checked
checked (Ok free) = record { fault = 0; free = free }
checked (Err f) = failed (fault_number f)

-- ---- parts that are no pass of their own

-- key 0 is stored, first in the chain of descriptors, and has no member
unfoldable pub lowest_ok : List ℕ → ℕ → ℕ → Bool
lowest_ok s m r =
    not (eqb (header_word s first_place) 0) && leb (header_word s first_place) r
    && eqb (descriptor_at s m (header_word s first_place)).key 0
    && eqb (descriptor_at s m (header_word s first_place)).first 0

-- a free record: nothing is asked of it
unfoldable pub free_turn : List ℕ → ℕ → ℕ → Turn ℕ
free_turn seen a i = turn true a

-- the free chain from record i on
unfoldable pub free_from : List ℕ → ℕ → ℕ → List ℕ → ℕ → ℕ → Trail ℕ
free_from s m r seen i left = chain_of (λ j. word_of s m j 0) r free_mark free_turn seen 0 i left

-- ---- the passes, from the last to the first: each goes on with those behind it

-- the free chain: what is left are the free records, and they are all of the rest
unfoldable pub ending : ℕ → Trail ℕ → Checked
ending left v = cond v.ok (cond (eqb v.left 0) (record { fault = 0; free = left }) (failed unreached_fault)) (failed free_fault)

unfoldable pub finish_of : List ℕ → ℕ → ℕ → List ℕ → ℕ → Checked
finish_of s m r seen left = ending left (free_from s m r seen (header_word s free_place) left)

-- the groups, in the order of their keys
unfoldable pub after_groups : List ℕ → ℕ → ℕ → Trail (List ℕ) → Checked
after_groups s m r g = cond g.ok (finish_of s m r g.seen g.left) (failed groups_fault)

unfoldable pub groups_then : List ℕ → List ℕ → List ℕ → List ℕ → ℕ → ℕ → ℕ → List Session → ℕ → List ℕ → ℕ → Checked
groups_then s order tally f m r begun t count seen left =
    cond (leb count 4097) (after_groups s m r (all_groups s order tally f m r begun t count seen (replicate 2050 0) left)) (failed groups_fault)

-- the chains of undo records
unfoldable pub after_undos : List ℕ → List ℕ → List ℕ → ℕ → ℕ → ℕ → List Session → ℕ → Trail (List ℕ) → Checked
after_undos s order tally m r begun t count b =
    cond b.ok (groups_then s order tally b.held m r begun t count b.seen b.left) (failed undos_fault)

unfoldable pub undos_then : List ℕ → List ℕ → List ℕ → ℕ → ℕ → ℕ → List Session → ℕ → List ℕ → ℕ → Checked
undos_then s order tally m r begun t count seen left =
    after_undos s order tally m r begun t count (all_undos s m r t seen (replicate 12291 0) left)

-- the requests in hand, and then as many latches as parties at a node
unfoldable pub after_parties : List ℕ → List ℕ → ℕ → ℕ → ℕ → List Session → Stand → List ℕ → Turn (List ℕ) → Checked
after_parties s order m r begun t w seen q =
    cond q.ok
    (cond (eqb (standing_at_nodes t) w.latches) (undos_then s order q.held m r begun t w.count seen w.left) (failed latches_fault))
    (failed requests_fault)

unfoldable pub parties_then : List ℕ → List ℕ → ℕ → ℕ → ℕ → List Session → Stand → List ℕ → Checked
parties_then s order m r begun t w seen = after_parties s order m r begun t w seen (parties_ok s seen m r t (replicate 4097 0))

-- the tree
unfoldable pub after_tree : List ℕ → ℕ → ℕ → ℕ → List Session → Tour → Checked
after_tree s m r begun t v = cond v.walk.ok (parties_then s v.order m r begun t v.walk v.seen) (failed tree_fault)

-- the entries' holders, key 0, the tree
unfoldable pub fault_in : List ℕ → ℕ → ℕ → List Session → Checked
fault_in s m r t =
    cond (entries_from s (begun_mask t) 1 m)
    (cond (lowest_ok s m r) (after_tree s m r (begun_mask t) t (root_tour s m r (replicate 4097 0) (replicate 4097 0))) (failed zero_fault))
    (failed entries_fault)

-- part n, where nothing was found
unfoldable pub next_part : ℕ → Bool → Checked → Checked
next_part n good c = cond (eqb c.fault 0) (cond good c (failed n)) c

-- the first fault, or 0 and how many records are free
unfoldable pub first_fault : List ℕ → List Session → Checked
first_fault s t =
    cond (sizes_ok s)
    (next_part asked_fault (marks_ok t) (next_part orders_fault (distinct_in t) (fault_in s (header_word s entries_place) (header_word s records_place) t)))
    (failed sizes_fault)

-- sound
unfoldable pub is_sound : List ℕ → List Session → Bool
is_sound s t = eqb (first_fault s t).fault 0
