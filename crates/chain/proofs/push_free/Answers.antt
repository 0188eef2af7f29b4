use Rattle.std.proofs.Common.{rules, ap, sym, ◌∙◌, arith}
use Rattle.words.specs.Store.{put_word_of, put_word}
use Rattle.words.specs.Header.{put_header_word, free_place}
use Rattle.chain.specs.Free.{push_free}
use Rattle.chain.proofs.push_free.Goals as goal

pub returns : goal.returns
unfolding push_free
returns c =
    c.set_free.ensures
    ∙ ap (λ r. put_header_word r free_place c.args.i)
    (c.set_word.ensures
    ∙ ap (put_word_of c.args.store.now c.args.m c.args.i 0) c.free-next.ensures
    ∙ sym (put_word c.args.store.now c.args.m c.args.i 0 _ c.requires (omega arith)))
