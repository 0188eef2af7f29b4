-- The modules of the machine.

-- Definitions: the machine, what is read of its states, what soundness means.
pub mod Holders
pub mod Tree
pub mod State
pub mod Descent
pub mod Steps
pub mod Calls
pub mod Gaps
pub mod View
pub mod Model
pub mod Sound
pub mod Context
pub mod InTheWay
pub mod Effect
-- What is read of a state, and of a state after a change.
pub mod Logic
pub mod Bits
pub mod Table
pub mod Keeps
pub mod Descents
pub mod Order
pub mod Groups
pub mod Lowest
pub mod Housekeeping
pub mod Keys
pub mod Totals
pub mod Ranks
pub mod Checks
pub mod Looks
pub mod Nearest
pub mod Fresh
pub mod Focus
pub mod Hands
-- Soundness kept: shape and count of records.
pub mod Alike
pub mod Fanout
pub mod Shape
-- Soundness kept: latches.
pub mod Paths
pub mod Latched
pub mod Regroup
pub mod Parts
pub mod Latch
pub mod LatchSteps
pub mod Unmoved
-- Soundness kept: keys, entries, the session table.
pub mod Effects
pub mod Calm
pub mod Descending
pub mod Locking
pub mod EntryLocks
pub mod GroupLocks
-- Soundness kept: every call.
pub mod Renumbering
pub mod Ending
pub mod Undoing
pub mod Leaving
pub mod Recover
pub mod Keeping
-- Events of the lock machine.
pub mod Agreement
pub mod Entries
pub mod Events
pub mod Changes
pub mod Insert
pub mod Locate
pub mod Ends
pub mod Abort
pub mod Session
pub mod Moves
pub mod Safety
-- Demand 2: waits, going forward, long locks, answers; what a step needs.
pub mod Blocking
pub mod Waits
pub mod Conflicts
pub mod Naming
pub mod Tidying
pub mod Forward
pub mod Ledger
pub mod Grows
pub mod Held
pub mod Answers
pub mod Needs
-- Demand 3.
pub mod Demand
pub mod Told
pub mod Demand3
-- The order of begins.
pub mod Begins
pub mod Line
-- What ask and recover promise.
pub mod Asked

-- Worked cases.
