-- The row of a write: its undo record is the first free one, the entry has the new value and the lock.
use Rattle.std.specs.Prelude.{◌≡◌, Bool, cond, List, [], ◌∷◌, ◌++◌, ℕ, zero, suc, ◌+◌, ◌-◌, ◌≤◌, ◌<◌, leb, get_or, set}
use Rattle.std.proofs.Math.Path.{refl, ap, ap₂, subst}
use Rattle.std.proofs.Common.{sym, ◌∙◌, inl, arith, lit<, eqb-true}
use Rattle.std.proofs.Math.Bool.{true, false}
use Rattle.std.proofs.Math.Option.{none}
use Rattle.std.proofs.Math.Decide.{ℕ_discrete}
use Rattle.std.proofs.Math.Dec.{eqb}
use Rattle.std.proofs.Math.ListN.{length}
use Rattle.std.proofs.lemmas.Bool.{eqb-false}
use Rattle.words.specs.Store.{HasRecord, record_at, put_record, word_of, record_same}
use Rattle.words.specs.Header.{header_word, free_place}
use Rattle.words.specs.Entries.{HasEntry, entry_word, put_entry_word}
use Rattle.words.specs.Frames.{record-header, entry-record}
use Rattle.undos.specs.Undo.{encode_undo, length-encode, undo_value}
use Rattle.chain.specs.Free.{pop_free}
use Rattle.sessions.specs.declared.Session.{Session}
use Rattle.sessions.specs.Sessions.{session_at, tenure}
use Rattle.serial.specs.Locks.{strong}
use Rattle.serial.specs.Calls as C
use Rattle.machine.specs.Logic.{leb_yes, leb_no}
use Rattle.machine.specs.Holders.{width, held_by}
use Rattle.machine.specs.State.{Entry, State, refused, with_entries, with_free, set_hand, add_undo, value}
use Rattle.machine.specs.Steps.{answer, ended, finished, exclude_by, entry_blockers, written, write_step}
use Rattle.machine.specs.Sound.{times}
use Rattle.meaning.specs.Reading.{Chained, hand_of, entries_of, numbers, M-of, R-of}
use Rattle.meaning.specs.Sound.{All, Apart}
use Rattle.meaning.specs.Numbers.{one-is, all_left, all_right, all_in, all_from, in-times, times-in, times-append, apart-times}
use Rattle.meaning.specs.Frame.{SameAt}
use Rattle.meaning.specs.Parts.{entry_at}
use Rattle.meaning.specs.Writes.{with_field, entry-others, entry-put}
use Rattle.layout.specs.Layout.{Lay, Undone, leaves_in, undo_numbers, members_of, all_records, UndosFit, Named, lists_in, Holds, means}
use Rattle.layout.specs.Row.{Stands, Moves}
use Rattle.layout.specs.Written.{Written, written_then, put_written, put_entries, entry-written, entry-head, pop-written, pop-entries, pop-free, pop-head, has-written}
use Rattle.layout.specs.Keep.{records-times, owned-most, own-all, same-apart, undos-keep}
use Rattle.layout.specs.Groups.{put_at, put-here, put-there, with_log, undos_but, undos-split, log-row}
use Rattle.layout.specs.Puts.{free-popped}
use Rattle.layout.specs.Room.{Sizes, sizes-of, owned_in, owned-has}
use Rattle.layout.specs.Left.{idle-fits}
use Rattle.layout.specs.Asked.{request_in}
use Rattle.undo_log.specs.Undoing.{log_value}
use Rattle.endings.specs.Table.{logged_by}
use Rattle.starting.specs.Starting.{entry_blocker, refuses, excluded_words, written_words, write_done_of, write_free, write_step_of}
use Rattle.starting.specs.Start.{Steps, start-finished, start-stage, entry_words, OnEntry, entry-means, is-session, entry-least, entry-most, entry-there, blocker-none, blocker-first, guard-moves, refused-start}
use Rattle.starting.specs.Logged.{log-means}

-- ---- session records

logged-stage : (x : Session) (i : ℕ) → (logged_by x i).stage ≡ 0
unfolding logged_by
logged-stage x i = refl

logged-undo : (x : Session) (i : ℕ) → (logged_by x i).undo ≡ i
unfolding logged_by
logged-undo x i = refl

logged-tenure : (x : Session) (i : ℕ) → tenure (logged_by x i) ≡ tenure x
unfolding logged_by
logged-tenure x i = refl

logged-hand : (x : Session) (i : ℕ) → hand_of (logged_by x i) ≡ none
unfolding logged_by
logged-hand x i = refl

-- ---- the words of an undo record

module _ (u e v : ℕ) where
  old-next : get_or (encode_undo (undo_value u e v)) 0 0 ≡ u
  unfolding encode_undo undo_value
  old-next = refl

  old-kind : get_or (encode_undo (undo_value u e v)) 1 0 ≡ 1
  unfolding encode_undo undo_value
  old-kind = refl

  old-entry : get_or (encode_undo (undo_value u e v)) 2 0 ≡ e
  unfolding encode_undo undo_value
  old-entry = refl

  old_value : get_or (encode_undo (undo_value u e v)) 3 0 ≡ v
  unfolding encode_undo undo_value
  old_value = refl

-- ---- the free chain

-- A chain that begins with a record has it first.
first-chained : (s : List ℕ) (m i : ℕ) (l : List ℕ) → Chained s m i l → ¬ (i ≡ 0) → (f : List ℕ) × (l ≡ i ∷ f)
first-chained s m i [] c n = absurd (n c)
first-chained s m i (j ∷ f) c n = (f, ap (λ k. k ∷ f) (sym c.0))

none-chained : (s : List ℕ) (m i : ℕ) (l : List ℕ) → Chained s m i l → i ≡ 0 → l ≡ []
none-chained s m i [] c e = refl
none-chained s m i (j ∷ f) c e = absurd (c.1 e)

entry_kept : (s s' : List ℕ) (e : ℕ) → HasEntry s e → length s' ≡ length s → HasEntry s' e
entry_kept s s' e has l = record { first = has.first; last = has.last; inside = omega (arith, has.inside, l) }

-- ---- the words after

-- Entry e has the value w and p's lock, after its old value is logged before the undo records from u on.
module _ (s : List ℕ) (e w u p : ℕ) (has : HasEntry s e) (most : e ≤ M-of s) (n : ¬ (header_word s free_place ≡ 0)) (header : 16 ≤ length s) (free : HasRecord s (M-of s) (header_word s free_place))
    (among : header_word s free_place ≤ R-of s) where
  abbrev m : ℕ
  m = M-of s

  abbrev a : ℕ
  a = header_word s free_place

  abbrev log : List ℕ
  log = encode_undo (undo_value u e (entry_word s e 0))

  abbrev s1 : List ℕ
  s1 = pop_free s m

  abbrev s2 : List ℕ
  s2 = put_record s1 m a log

  abbrev s3 : List ℕ
  s3 = put_entry_word s2 e 0 w

  abbrev s4 : List ℕ
  s4 = put_entry_word s3 e 2 (held_by p (entry_word s3 e 2))

  popped : Written s s1 []
  popped = pop-written s m n

  has1 : HasRecord s1 m a
  has1 = has-written s s1 [] m a popped free

  has1' : HasRecord s1 (M-of s1) a
  has1' = subst (λ k. HasRecord s1 k a) (sym popped.entries) has1

  put : Written s1 s2 (a ∷ [])
  put = subst (λ k. Written s1 (put_record s1 k a log) (a ∷ [])) popped.entries
      (put_written s1 a log has1' (length-encode (undo_value u e (entry_word s e 0))) (subst (λ r. a ≤ r) (sym popped.records) among))

  to2 : Written s s2 (a ∷ [])
  to2 = written_then s s1 s2 [] (a ∷ []) popped put

  has2 : HasEntry s2 e
  has2 = entry_kept s s2 e has to2.long

  most2 : e ≤ M-of s2
  most2 = subst (λ k. e ≤ k) (sym to2.entries) most

  to3 : Written s s3 (a ∷ [])
  to3 = written_then s s2 s3 (a ∷ []) [] to2 (entry-written s2 e 0 w has2 (lit< tt) most2)

  has3 : HasEntry s3 e
  has3 = entry_kept s s3 e has to3.long

  most3 : e ≤ M-of s3
  most3 = subst (λ k. e ≤ k) (sym to3.entries) most

  pub write-written : Written s s4 (a ∷ [])
  write-written = written_then s s3 s4 (a ∷ []) [] to3 (entry-written s3 e 2 (held_by p (entry_word s3 e 2)) has3 (lit< tt) most3)

  -- The header as after the record is taken off the free chain.
  head-popped : (k : ℕ) → k < 16 → header_word s4 k ≡ header_word s1 k
  head-popped k h =
      entry-head s3 e 2 (held_by p (entry_word s3 e 2)) has3 (lit< tt) most3 k h ∙ entry-head s2 e 0 w has2 (lit< tt) most2 k h
      ∙ record-header s1 m a log has1 (length-encode (undo_value u e (entry_word s e 0))) k h

  pub write-head : (k : ℕ) → k < 16 → ¬ (k ≡ free_place) → header_word s4 k ≡ header_word s k
  write-head k h q = head-popped k h ∙ pop-head s m k n q

  pub write-free : header_word s4 free_place ≡ word_of s m a 0
  write-free = head-popped free_place (lit< tt) ∙ pop-free s m header n

  pub write-record : record_at s4 m a ≡ log
  write-record =
      entry-record s3 e 2 (held_by p (entry_word s3 e 2)) has.first (lit< tt) m a most ∙ entry-record s2 e 0 w has.first (lit< tt) m a most
      ∙ record_same s1 m a log has1 (length-encode (undo_value u e (entry_word s e 0)))

  to2-entries : (d : ℕ) → 1 ≤ d → d ≤ m → entry_at s d ≡ entry_at s2 d
  to2-entries d x y =
      pop-entries s m n d x y
      ∙ subst (λ k. (i : ℕ) → 1 ≤ i → i ≤ k → entry_at s1 i ≡ entry_at (put_record s1 k a log) i) popped.entries
      (put_entries s1 a log has1' (length-encode (undo_value u e (entry_word s e 0)))) d x y

  pub write_entries : OnEntry s s4 e (exclude_by p w)
  unfolding with_field
  write_entries = record {
    others = λ d x y q. to2-entries d x y ∙ entry-others s2 e 0 w has2 (lit< tt) d x q ∙ entry-others s3 e 2 (held_by p (entry_word s3 e 2)) has3 (lit< tt) d x q;
    here =
        entry-put s3 e 2 (held_by p (entry_word s3 e 2)) has3 (lit< tt)
        ∙ ap (λ x. with_field 2 (held_by p x.exclusive) x) (entry-put s2 e 0 w has2 (lit< tt) ∙ ap (with_field 0 w) (sym (to2-entries e has.first most)));
  }

-- ---- the row

module _ (s : List ℕ) (t : List Session) (A : Stands s t) (p : ℕ) (party : p ≤ width) (at-start : (session_at t p).stage ≡ 1) where
  abbrev own : Session
  own = session_at t p

  abbrev state : State
  state = means A.lay t

  abbrev L : Lay
  L = A.lay

  sizes : Sizes L
  sizes = sizes-of L t A.sound

  -- The free record is there.
  module _ (n : ¬ (header_word s free_place ≡ 0)) where
    abbrev first : ℕ
    first = header_word s free_place

    rest : (f : List ℕ) × (L.free ≡ first ∷ f)
    rest = first-chained s (M-of s) first L.free A.holds.fits.free n

    free-times : (i : ℕ) → times i L.free ≡ times i (first ∷ rest.0)
    free-times i = ap (times i) rest.1

    first-owned : 1 ≤ times first (all_records L)
    first-owned = omega (arith, records-times L first, free-times first, times-in first (first ∷ rest.0) (inl refl))

    pub first-has : HasRecord s (M-of s) first
    first-has = owned-has s t L A.holds sizes first first-owned

    first-among : first ≤ R-of s
    first-among = omega (arith, (owned_in s t L A.holds sizes first first-owned).1, A.holds.fits.records)

    module _ (l : own.code ≤ 4) where
      abbrev e : ℕ
      e = own.entry

      abbrev old : Undone
      old = record { num = first; undo = value e (entry_word s e 0); saved = 0; descriptor = 0 }

      least : 1 ≤ p
      least = is-session s t A p party at-start l

      has : HasEntry s e
      has = entry-there s t A p party at-start l

      most : e ≤ M-of s
      most = entry-most s t A p party at-start l

      abbrev s' : List ℕ
      s' = put_entry_word (put_entry_word (put_record (pop_free s (M-of s)) (M-of s) first (encode_undo (undo_value own.undo e (entry_word s e 0)))) e 0 own.first) e 2
          (held_by p (entry_word (put_entry_word (put_record (pop_free s (M-of s)) (M-of s) first (encode_undo (undo_value own.undo e (entry_word s e 0)))) e 0 own.first) e 2))

      only : Written s s' (first ∷ [])
      only = write-written s e own.first own.undo p has most n A.holds.fits.header first-has first-among

      log-at : (k : ℕ) → word_of s' (M-of s) first k ≡ get_or (encode_undo (undo_value own.undo e (entry_word s e 0))) k 0
      log-at k = ap (λ v. get_or v k 0) (write-record s e own.first own.undo p has most n A.holds.fits.header first-has first-among)

      abbrev mine : List ℕ
      mine = undo_numbers (L.undos p)

      counts : (i : ℕ) → times i (all_records L) ≡ times i (numbers (suc L.height) L.tree)
          + (times i (members_of L.members (leaves_in L)) + ((times i mine + times i (undos_but p L.undos)) + times i (first ∷ rest.0)))
      counts i = omega (arith, records-times L i, undos-split L.undos p i least party, free-times i)

      apart : Apart first (mine ++ rest.0)
      apart = apart-times first (mine ++ rest.0) (omega (arith, counts first, owned-most L A.holds.owned first, one-is first first refl, times-append first mine rest.0))

      from_one : All (λ i. 1 ≤ i) (mine ++ rest.0)
      from_one = all_from (mine ++ rest.0) (λ j h. all_in (λ i. 1 ≤ i) (all_records L) (own-all L A.holds.owned) j
          (in-times j (all_records L) (omega (arith, counts j, times-in j (mine ++ rest.0) h, times-append j mine rest.0))))

      same : All (SameAt s s' (M-of s)) (mine ++ rest.0)
      same = same-apart s s' (first ∷ []) only (mine ++ rest.0) from_one (apart, tt)

      undos : UndosFit s' (M-of s) first (old ∷ L.undos p)
      undos =
          let k = undos-fit in
          record {
            chained = (refl, n, subst (λ i. Chained s' (M-of s) i mine) (sym (log-at 0 ∙ old-next own.undo e (entry_word s e 0))) k.chained);
            words = ((log-at 1 ∙ old-kind own.undo e (entry_word s e 0), log-at 2 ∙ old-entry own.undo e (entry_word s e 0), log-at 3 ∙ old_value own.undo e (entry_word s e 0)), k.words);
          }
        where
          at : (q : ℕ) → 1 ≤ q → q ≤ width → UndosFit s (M-of s) (session_at t q).undo (L.undos q)
          at zero a b = absurd (omega (arith, a))
          at (suc q) a b = A.holds.fits.undos q b

          undos-fit : UndosFit s' (M-of s) own.undo (L.undos p)
          undos-fit = undos-keep s s' (M-of s) own.undo (L.undos p) (all_left (SameAt s s' (M-of s)) mine rest.0 same) (at p least party)

      named : (q : ℕ) → 1 ≤ q → q ≤ width → Named (leaves_in L) (put_at p (old ∷ L.undos p) L.undos q) (lists_in L)
      named q a b = go (ℕ_discrete q p)
        where
          at : (j : ℕ) → 1 ≤ j → j ≤ width → Named (leaves_in L) (L.undos j) (lists_in L)
          at zero a b = absurd (omega (arith, a))
          at (suc j) a b = A.holds.named j b

          go : Dec (q ≡ p) → Named (leaves_in L) (put_at p (old ∷ L.undos p) L.undos q) (lists_in L)
          go (yes z) = subst (λ us. Named (leaves_in L) us (lists_in L)) (sym (put-here p (old ∷ L.undos p) L.undos) ∙ ap (put_at p (old ∷ L.undos p) L.undos) (sym z)) (at p least party)
          go (no z) = subst (λ us. Named (leaves_in L) us (lists_in L)) (sym (put-there p (old ∷ L.undos p) L.undos q z)) (at q a b)

      abbrev x' : Session
      x' = logged_by own first

      abbrev E : List Entry
      E = entries_of s' 1 (M-of s)

      held : Holds s' (set t p x') (with_log L p (old ∷ L.undos p) rest.0 E)
      held =
          log-row s t L A.holds p x' least party s' (first ∷ []) only (write-head s e own.first own.undo p has most n A.holds.fits.header first-has first-among)
          (in-times first (mine ++ L.free) (omega (arith, times-append first mine L.free, free-times first, times-in first (first ∷ rest.0) (inl refl))), tt) (old ∷ L.undos p) rest.0 E
          (subst (λ i. UndosFit s' (M-of s) i (old ∷ L.undos p)) (sym (logged-undo own first)) undos)
          (free-popped s s' (M-of s) first rest.0 (subst (Chained s (M-of s) first) rest.1 A.holds.fits.free)
          (write-free s e own.first own.undo p has most n A.holds.fits.header first-has first-among) (all_right (SameAt s s' (M-of s)) mine rest.0 same))
          refl (λ i. omega (arith, free-times i)) (idle-fits (with_log L p (old ∷ L.undos p) rest.0 E) p x' (logged-stage own first)) named

      meant : means (with_log L p (old ∷ L.undos p) rest.0 E) (set t p x') ≡ set_hand p none (written p (request_in own) state)
      unfolding request_in written
      meant =
          log-means L t p old rest.0 E x' least (omega (arith, A.holds.seats, party)) (logged-tenure own first) (ap length rest.1)
          ∙ ap (λ h. set_hand p h (add_undo p (value e (entry_word s e 0)) (with_free (state.free - 1) (with_entries E state)))) (logged-hand own first)
          ∙ ap₂ (λ v z. set_hand p none (add_undo p (value e v) (with_free (state.free - 1) z)))
          (ap (λ y. y.value) (sym (entry_words s t L A.holds e (entry-least s t A p party at-start l) most)))
          (entry-means s s' t L A.holds e (exclude_by p own.first) (entry-least s t A p party at-start l) most
          (write_entries s e own.first own.undo p has most n A.holds.fits.header first-has first-among))

      pub write_done : Steps s t p (write_done_of s (M-of s) p own) (finished p (request_in own) (0 ∷ []) (written p (request_in own) state))
      unfolding write_done_of written_words excluded_words log_value
      write_done =
          subst (Moves s t p s' x' (C.done (0 ∷ []))) (sym (start-finished p (request_in own) (0 ∷ []) (written p (request_in own) state) (start-stage own at-start)))
          (record {
            becomes = record { lay = with_log L p (old ∷ L.undos p) rest.0 E; holds = held; means_next = meant; long = only.long; entries = only.entries; records = only.records; rest = only.rest };
            tells = refl;
          })

      some-free : leb 1 state.free ≡ true
      unfolding means
      some-free = let z = ap length rest.1 in leb_yes 1 (length L.free) (omega (arith, z))

  no-free : header_word s free_place ≡ 0 → leb 1 state.free ≡ false
  unfolding means
  no-free e =
      let z = ap length (none-chained s (M-of s) (header_word s free_place) L.free A.holds.fits.free e) in
      leb_no 1 (length L.free) (omega (arith, z))

  -- Refused for want of a record, or done.
  pub free-moves : own.code ≤ 4
      → Steps s t p (write_free s (M-of s) p own)
      (cond (leb 1 state.free) (finished p (request_in own) (0 ∷ []) (written p (request_in own) state)) (answer (refused 11 0) (ended p (request_in own) state)))
  unfolding write_free
  free-moves l = go (eqb (header_word s free_place) 0) refl
    where
      go : (c : Bool) → eqb (header_word s free_place) 0 ≡ c → Steps s t p (cond c (refuses s own) (write_done_of s (M-of s) p own)) (cond (leb 1 state.free)
          (finished p (request_in own) (0 ∷ []) (written p (request_in own) state)) (answer (refused 11 0) (ended p (request_in own) state)))
      go true q =
          subst (λ b. Steps s t p (refuses s own) (cond b (finished p (request_in own) (0 ∷ []) (written p (request_in own) state)) (answer (refused 11 0) (ended p (request_in own) state))))
          (sym (no-free (eqb-true (header_word s free_place) 0 q))) (refused-start s t A p party at-start)
      go false q =
          subst (λ b. Steps s t p (write_done_of s (M-of s) p own) (cond b (finished p (request_in own) (0 ∷ []) (written p (request_in own) state)) (answer (refused 11 0) (ended p (request_in own) state))))
          (sym (some-free (eqb-false (header_word s free_place) 0 q) l)) (write_done (eqb-false (header_word s free_place) 0 q) l)

  pub write_moves : own.code ≤ 4 → Steps s t p (write_step_of s (M-of s) p own) (write_step p (request_in own) state)
  unfolding write_step_of write_step
  write_moves l =
      guard-moves s t A p party at-start (entry_blocker s own.entry 1 p) (entry_blockers strong p (request_in own) state) 1 (request_in own)
      (finished p (request_in own) (0 ∷ []) (written p (request_in own) state)) (write_free s (M-of s) p own) (blocker-none s t A p party at-start l strong) (blocker-first s t A p party at-start l strong)
      (free-moves l)
