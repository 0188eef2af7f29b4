-- The journal of every list of calls of this crate is accepted: what a host writes down of its calls and their answers (own_journal, specs/Diary) gets verdict 0
-- (journal_lines, specs/Journal). So with runs, requests and batches among them, written down as the host sees them, and with day calls, each written down as
-- the put or step that it is, with the answer of that.
use Rattle.std.specs.Prelude.{◌≡◌, refl, List, ℕ}
use Rattle.std.proofs.Common.{sym, ◌∙◌, ap, subst}
use Rattle.sessions.specs.declared.Session.{Session}
use Rattle.serial.specs.Locks.{lock_rule, lock-rule-strict}
use Rattle.serial.specs.Calls.{Turn, Told, nothing, tell, told, Run}
use Rattle.serial.specs.Calls as C
use Rattle.outcomes.specs.declared.Answer.{Answer}
use Rattle.outcomes.specs.Said.{said}
use Rattle.own_journal.specs.Diary.{Diary, blank, note, kept, journal_of}
use Rattle.own_journal.specs.Own.{Careful, Accepted, JournalAccepted, own-journal}
use Rattle.own_journal.specs.Machine.{machine-careful}
use Rattle.promises.specs.Relations.{Formats}
use Rattle.promises.specs.Demands.{Lending, Returns, words, lent, performs}
use Rattle.promises.proofs.Words.{words-meet, formatted-known, formatted-new}
use Rattle.promises.specs.Runs.{lending}
use Rattle.store.specs.Lent.{Formatted, OnTable}
use Rattle.store.specs.Turns.{functions-words, away-quiet, away-unwritten, Lendings, over, then, wrong, own, own-run, own-told, format-sound, accepted-format}
use Rattle.store.specs.Servings.{Returneds, returneds-run}

-- ---- the words

-- They owe what the machine owes.
pub words-careful : Careful words
unfolding Returns
words-careful = record {
  hand_proper = λ x s a S. machine-careful.hand_proper (lent x) s a S.state;
  hand_begun = λ x s a S. machine-careful.hand_begun (lent x) s a S.state;
  commit_begun = λ s k x y e f d S. machine-careful.commit_begun s k (lent x) (lent y) e f (performs k x y (d S)) S.state;
}

words-journal : (m : ℕ) (s s' : List ℕ) (t t' : List Session) → Formats m s t C.ok s' t' → (ks : List Turn) (y : Lending) → Run words (lending s' t') ks y → JournalAccepted ks
words-journal m s s' t t' F ks y r =
    own-journal words lock_rule lock-rule-strict words-meet words-careful (lending s' t') y ks (formatted-known m s s' t t' F) (formatted-new m s s' t t' F) r

-- ---- after a format that was accepted

-- Nothing is written of the calls that were turned away.
own-written : {x z : Lending} {ks : List Turn} (r : Lendings x ks z) (h : Told) (d : Diary) → kept h d (own r) ≡ kept h d ks
own-written over h d = refl
own-written (then {k = k} e r) h d = own-written r (tell k h) (note k h d)
own-written (wrong {k = k} {ks = ks} v e a b r) h d =
    own-written r h d
    ∙ sym (ap (λ w. kept w (note k h d) ks) (away-quiet k.call k.answer k.list v h) ∙ ap (λ w. kept h w ks) (away-unwritten k.call k.answer k.list v h d))

-- Lists of turns that tell and write the same are accepted together.
accepted-alike : (ks js : List Turn) → told nothing ks ≡ told nothing js → kept nothing blank ks ≡ kept nothing blank js → JournalAccepted ks → JournalAccepted js
accepted-alike ks js e w A = subst (λ t. Accepted t (journal_of js)) e (subst (λ (d : Diary). Accepted (told nothing ks) d.lines) w A)

module _ (m : ℕ) (a : Answer) (x x' : Lending) (h : OnTable Formatted x.store x.table m a x'.store x'.table) (e : said a ≡ C.ok) where
  formatted : (ks : List Turn) (y : Lending) → Run words x' ks y → JournalAccepted ks
  formatted = words-journal m x.store x'.store x.table x'.table (accepted-format m a x x' h e)

  -- By all calls and answers alone, those that were turned away among them: their journal is accepted.
  pub lent-journal : (ks : List Turn) (y : Lending) → Lendings x' ks y → JournalAccepted ks
  lent-journal ks y r = accepted-alike (own r) ks (own-told r nothing) (own-written r nothing blank) (formatted (own r) y (functions-words (format-sound m a x x' h e) (own-run r)))

  -- So of any list of the ten functions, by what the host sees; a day call is the put or step that it makes, with the answer of that.
  pub returneds-journal : (js : List Turn) (y : Lending) → Returneds x' js y → JournalAccepted js
  returneds-journal js y r =
      let q = returneds-run (format-sound m a x x' h e) r in
      accepted-alike q.0 js (q.2.tells nothing) (q.2.writes nothing blank) (formatted q.0 y q.1)
