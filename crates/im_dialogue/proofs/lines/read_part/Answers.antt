use Rattle.std.proofs.{Common.subst, Common.rules, BufReadLemmas.Consumes_shown}
use Rattle.std.specs.Io.BufRead.{FillKeeps}
use Rattle.im_dialogue.proofs.HearingLemmas.{part_is, read_nothing}
use Rattle.im_dialogue.proofs.lines.read_part.Goals as goal

pub returns-in-Interrupted-clause-read : goal.returns-in-Interrupted-clause-read
returns-in-Interrupted-clause-read g c =
    read_nothing _ _ c.args.line.now.items c.fill_buf.follows.holds-at-none.0 c.requires.few

pub returns-clause-read : goal.returns-clause-read
returns-clause-read g c =
    let text = c.in-Ok.text.now in
    let before = c.line_len-before in
    let taken = c.taken_to-taken in
    let rested = c.fill_buf.follows.lender-at-none in
    let filled = subst (FillKeeps _ (g.R.Read.remaining rested) (g.R.BufRead.consumable_len rested)) c.in-Ok.is
    c.fill_buf.follows.holds-at-none in
    let moved = Consumes_shown _ _ _ _ text taken.result taken.ensures.within c.in-Ok.ensures.front
    c.in-Ok.ensures.end filled.0 filled.1 c.consume.ensures.bytes in
    part_is _ _ text c.args.line.now.items c.keep.new.line.items before.result taken.result c.part_read-part.result
    before.ensures.bound before.ensures.part before.ensures.feed (search rules)
    (λ less. (c.part_read-part.ensures.last less, taken.ensures.last less))
    (λ all zero. (c.part_read-part.ensures.none all zero, taken.ensures.rest all))
    (λ all some. (c.part_read-part.ensures.more all some, taken.ensures.rest all)) moved.0 (λ zero. search rules)
