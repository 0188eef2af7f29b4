-- The passes of the test of soundness, one after the other: what each leaves for the next.
use Rattle.std.specs.Prelude.{List, ℕ, replicate}
use Rattle.words.specs.Header.{header_word, free_place}
use Rattle.sessions.specs.declared.Session.{Session}
use Rattle.marks.specs.Trail.{Trail, Turn}
use Rattle.parties.specs.Parties.{parties_ok, all_undos}
use Rattle.tree_walk.specs.TreeWalk.{Tour, root_tour}
use Rattle.holders.specs.Holders.{begun_mask}
use Rattle.holdings.specs.Holdings.{all_groups}
use Rattle.sound.specs.Sound.{free_from}
use Rattle.meaning.specs.Reading.{M-of, R-of}

abbrev pub toured : List ℕ → Tour
toured s = root_tour s (M-of s) (R-of s) (replicate 4097 0) (replicate 4097 0)

abbrev pub stood : List ℕ → List Session → Turn (List ℕ)
stood s t = parties_ok s (toured s).seen (M-of s) (R-of s) t (replicate 4097 0)

abbrev pub filed : List ℕ → List Session → Trail (List ℕ)
filed s t = all_undos s (M-of s) (R-of s) t (toured s).seen (replicate 12291 0) (toured s).walk.left

abbrev pub grouped : List ℕ → List Session → Trail (List ℕ)
grouped s t =
    all_groups s (toured s).order (stood s t).held (filed s t).held (M-of s) (R-of s) (begun_mask t) t (toured s).walk.count (filed s t).seen (replicate 2050 0) (filed s t).left

abbrev pub freed : List ℕ → List Session → Trail ℕ
freed s t = free_from s (M-of s) (R-of s) (grouped s t).seen (header_word s free_place) (grouped s t).left
