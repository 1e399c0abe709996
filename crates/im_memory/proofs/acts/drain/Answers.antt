use Rattle.std.proofs.{Common.◌<◌, Common.length, Common.sym, Common.◌∙◌, Common.rules, lemmas.Option.slice_get_within}
use Rattle.{im_arena.specs.Lists.list_at, im_istore.proofs.Cells.list_at-same}
use Rattle.im_memory.proofs.TouchLemmas.{away-drained, record-drained}

pub loop-reader-preserved : Rattle.im_memory.proofs.acts.drain.Goals.loop-reader-preserved
loop-reader-preserved c =
    let old = c.loop-reader.arena in
    let some : 0 < length (list_at old.held c.args.a) = slice_get_within _ 0 c.in-Some.reader
    (sym c.next_reader.ensures.first ∙ c.in-Some.is) in
    let rest = list_at-same old c.next_reader.new.arena c.args.a _ c.next_reader.ensures.rest c.loop-reader.invariant.listed in
    record {
      listed = search rules;
      awaited = search rules;
      windows = search rules;
      nodes = search rules;
      draining = search rules;
      ends = λ b other. c.in-Some.ensures.links.ends b other ∙ c.loop-reader.invariant.ends b other;
      records = λ n away. record-drained c.args.a old c.next_reader.new.arena c.in-Some.ensures.links some rest n
          (c.loop-reader.invariant.away n away) ∙ c.loop-reader.invariant.records n away;
      away = λ n away. away-drained c.args.a old c.next_reader.new.arena c.in-Some.ensures.links some rest n
          (c.loop-reader.invariant.away n away);
    }
