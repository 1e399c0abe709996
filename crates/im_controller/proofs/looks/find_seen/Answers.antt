use Rattle.std.proofs.Common.{List, ◌++◌, sym, ap, ◌∙◌, subst}
use Rattle.im_types.specs.Types.{Line, Collect, told}
use Rattle.im_trace.specs.Lines.{left_lines}
use Rattle.im_controller.proofs.SeenLemmas.{goes-on, looks-trace}
use Rattle.im_controller.specs.{State.SharedState, Waits.found_entry, Waits.IsFoundAt}

pub returns-clause-order : Rattle.im_controller.proofs.looks.find_seen.Goals.returns-clause-order
returns-clause-order g c =
    let last = left_lines (Collect c.args.element c.args.number) (told (found_entry c.find-found.result)) in (
      goes-on c.args.seen.now c.args.shared.now.log.trace last c.seen_all.result c.know.ensures.known
          (c.seen_all.ensures.all
          ∙ looks-trace g.K.Name.origin.marks c.know.new.shared c.find-found.new.shared c.args.tally.now
          c.find-found.new.tally c.args.element c.args.number
          (found_entry c.find-found.result) c.find-found.ensures.looks
          ∙ ap (λ (s : SharedState g.row.D.Denot). s.log.trace ++ last) c.know.ensures.same),
      subst (λ (ls : List Line). IsFoundAt ls c.find-found.result) (sym c.seen_all.ensures.all) c.find-found.ensures.own,
    )
