-- The parts of "Sound means" (document 01), numbered in the order in which they are tested; 0 is no fault. Number 11 is not the test's: a lent
-- table that has not a record for each party.
use Rattle.std.specs.Prelude.{ℕ}
use Rattle.sound.specs.declared.Fault.{Fault}
use Rattle.sound.specs.declared.Fault.TheVariants.{Sizes, Entries, KeyZero, Tree, Requests, Latches, Undos, Groups, FreeChain, Unreached, Orders, Asked}

abbrev pub sizes_fault : ℕ
sizes_fault = 1

abbrev pub entries_fault : ℕ
entries_fault = 2

abbrev pub zero_fault : ℕ
zero_fault = 3

abbrev pub tree_fault : ℕ
tree_fault = 4

abbrev pub requests_fault : ℕ
requests_fault = 5

abbrev pub latches_fault : ℕ
latches_fault = 6

abbrev pub undos_fault : ℕ
undos_fault = 7

abbrev pub groups_fault : ℕ
groups_fault = 8

abbrev pub free_fault : ℕ
free_fault = 9

abbrev pub unreached_fault : ℕ
unreached_fault = 10

-- document 02, M-101
abbrev pub orders_fault : ℕ
orders_fault = 12

-- document 02, M-105
abbrev pub asked_fault : ℕ
asked_fault = 13

abbrev pub fault_number : Fault → ℕ
fault_number Sizes = sizes_fault
fault_number Entries = entries_fault
fault_number KeyZero = zero_fault
fault_number Tree = tree_fault
fault_number Requests = requests_fault
fault_number Latches = latches_fault
fault_number Undos = undos_fault
fault_number Groups = groups_fault
fault_number FreeChain = free_fault
fault_number Unreached = unreached_fault
fault_number Orders = orders_fault
fault_number Asked = asked_fault
