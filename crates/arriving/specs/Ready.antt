-- What the words must have for each function of the code.
use Rattle.std.specs.Prelude.{◌≡◌, List, ℕ, ◌≤◌, ◌<◌, length}
use Rattle.words.specs.Store.{HasRecord, word_of}
use Rattle.words.specs.Header.{header_word, first_place, free_place}
use Rattle.groups.specs.Descriptor.{descriptor_at, put_descriptor, made_in, with_next_descriptor}
use Rattle.chain.specs.Free.{Poppable, pop_free}
use Rattle.scans.specs.Scans.{CanFollow}
use Rattle.nodes.specs.Paths.{son_toward}
use Rattle.descents.specs.Descents.{Toward, CanInsert, CanRemove}
use Rattle.sessions.specs.declared.Session.{Session}
use Rattle.finishing.specs.Finishing.{Endable}
use Rattle.arriving.specs.Arriving.{pred_of}

-- The descriptors can be walked to the one before a key.
pub record PredReady (s : List ℕ) (m r key : ℕ) : Type 0 where
  pub header : 16 ≤ length s
  pub follow : CanFollow s m r (header_word s first_place)
  pub least : 1 ≤ key

-- The descriptor on the path can be pinned.
pub record PinReady (s : List ℕ) (m : ℕ) (x : Session) : Type 0 where
  pub toward : Toward s m x.at x.target
  pub apart : ¬ (x.at ≡ son_toward s m x.at x.target)
  pub room : (descriptor_at s m (son_toward s m x.at x.target)).pins < 4294967295

-- The words with the new descriptor linked behind the one at record b.
unfoldable pub linked : List ℕ → ℕ → ℕ → ℕ → List ℕ
linked s m key b =
    let a = header_word s free_place in
    let d = descriptor_at s m b in
    put_descriptor (put_descriptor (pop_free s m) m a (made_in d.gap key d.next)) m b (with_next_descriptor d a)

pub record MakeAble (s : List ℕ) (m at key b : ℕ) : Type 0 where
  pub free : Poppable s m
  pub some : ¬ (header_word s free_place ≡ 0)
  pub before : HasRecord s m b
  pub insert : CanInsert (linked s m key b) m at key

pub record MadeReady (s : List ℕ) (m r : ℕ) (x : Session) : Type 0 where
  pub pred : PredReady s m r x.target
  pub able : MakeAble s m x.at x.target (pred_of s m r x.target)

pub record MakeReady (s : List ℕ) (m r : ℕ) (x : Session) : Type 0 where
  pub header : 16 ≤ length s
  pub full : header_word s free_place ≡ 0 → Endable s m x
  pub makes : ¬ (header_word s free_place ≡ 0) → MadeReady s m r x

-- The words without the link to the descriptor at record d.
unfoldable pub unlinked : List ℕ → ℕ → ℕ → ℕ → List ℕ
unlinked s m b d = put_descriptor s m b (with_next_descriptor (descriptor_at s m b) (descriptor_at s m d).next)

pub record TidyAble (s : List ℕ) (m at b d : ℕ) : Type 0 where
  pub before : HasRecord s m b
  pub choice : HasRecord s m d
  pub remove : CanRemove (unlinked s m b d) m at

pub record TidyReady (s : List ℕ) (m r : ℕ) (x : Session) : Type 0 where
  pub toward : Toward s m x.at x.target
  pub pred : PredReady s m r x.target
  pub able : TidyAble s m x.at (pred_of s m r x.target) (son_toward s m x.at x.target)

pub record SessionReady (s : List ℕ) (m r : ℕ) (x : Session) : Type 0 where
  pub toward : Toward s m x.at x.target
  pub pin : word_of s m (son_toward s m x.at x.target) 1 ≡ x.target → PinReady s m x
  pub make : ¬ (word_of s m (son_toward s m x.at x.target) 1 ≡ x.target) → MakeReady s m r x

pub record LowestReady (s : List ℕ) (m r p : ℕ) (x : Session) : Type 0 where
  pub keeper : p ≡ 0 → TidyReady s m r x
  pub session : ¬ (p ≡ 0) → SessionReady s m r x
