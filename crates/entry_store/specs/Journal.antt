-- The journal of every list of exported calls is accepted: what a C program writes down of its calls, the numbers that they returned and its lists (own_journal,
-- specs/Diary, with the answers read off the numbers) gets verdict 0 (journal_lines, specs/Journal).
use Rattle.std.specs.Prelude.{List, map, ℕ}
use Rattle.serial.specs.Calls.{Turn}
use Rattle.own_journal.specs.Own.{JournalAccepted}
use Rattle.promises.specs.Demands.{Lending}
use Rattle.store.specs.Lent.{Formatted}
use Rattle.store.specs.Journal.{lent-journal, returneds-journal}
use Rattle.entry_store.specs.Exported.{Told}
use Rattle.entry_store.specs.Turns.{Exchange, turn_of, Exchanges, lendings, format-ok}
use Rattle.entry_store.specs.Servings.{Givings, givings}

-- ---- after a format that returned 0, ok

module _ (m : ℕ) (x x' : Lending) (h : Told Formatted x.store x.table m 0 x'.store x'.table) where
  -- Any list of calls, by any parties: every file whose lines are their journal gets verdict 0, and its committed runs are the committed sessions.
  pub exported-journal : (ks : List Exchange) (y : Lending) → Exchanges x' ks y → JournalAccepted (map turn_of ks)
  exported-journal ks y r = lent-journal m h.answer x x' h.does (format-ok m x x' h) (map turn_of ks) y (lendings r)

  -- So with runs, requests and batches among them, by what the program sees, and with day calls, each as the put or step that it is, with the answer of that.
  pub givings-journal : (js : List Turn) (y : Lending) → Givings x' js y → JournalAccepted js
  givings-journal js y r = returneds-journal m h.answer x x' h.does (format-ok m x x' h) js y (givings r)
