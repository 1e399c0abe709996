use Rattle.std.proofs.Common.{◌≡◌, ◌≤◌, List, length, take, Some, Result, sym, ap, ◌∙◌, subst, arith}
use Rattle.im_types.specs.Types.{Command, Line, Commands, Refusal}
use Rattle.im_trace.proofs.LogLemmas.{all-get, log-claims, receipt-of_trace, receipt-timed, waiting-history}
use Rattle.im_trace.proofs.LogLemmas.{waiting-length, waiting-proof, waiting-within}
use Rattle.im_trace.proofs.{SeenLemmas.claimed-follows, ToldLemmas.told-earlier}
use Rattle.im_trace.specs.Lines.{AreInOrder, counts_after, left_lines, time_at, WhenState}
use Rattle.im_trace.specs.Log.{IsBefore, IsOfTrace, IsTimed, IsToldOf, receipt_for, ReceiptState, StandsInTrace}
use Rattle.im_trace.specs.Log.{TimedLog, unclaimed_lines, UnclaimedState}
use Rattle.im_trace.proofs.log.Log.claim.Goals as goal

pub first-history-requires : goal.first-history-requires
first-history-requires g c =
    let trace = c.self.inside.record.lines in
    let w : UnclaimedState = record {
      command = c.found.inside.command;
      answer = c.found.inside.answer;
      before = c.found.inside.before;
    } in
    let stands : StandsInTrace trace (Some w) =
    subst (λ (u : UnclaimedState). StandsInTrace trace (Some u)) (sym c.found.view_is)
    (all-get (StandsInTrace trace) c.self.inside.places.items c.element_of.result
    (Some c.in_ok-found.found) c.self.invariant.stand c.in_ok-found.ensures.takes.0) in
    record { few = omega (arith, c.found.invariant, waiting-within trace w stands) }

pub when-when-requires : goal.when-when-requires
when-when-requires g c =
    let trace = c.self.inside.record.lines in
    let w : UnclaimedState = record {
      command = c.found.inside.command;
      answer = c.found.inside.answer;
      before = c.found.inside.before;
    } in
    let stands : StandsInTrace trace (Some w) =
    subst (λ (u : UnclaimedState). StandsInTrace trace (Some u)) (sym c.found.view_is)
    (all-get (StandsInTrace trace) c.self.inside.places.items c.element_of.result
    (Some c.in_ok-found.found) c.self.invariant.stand c.in_ok-found.ensures.takes.0) in
    record { few = omega (arith, c.found.invariant, waiting-within trace w stands) }

pub first-requires : goal.first-requires
first-requires g c =
    let trace = c.self.inside.record.lines in
    let w : UnclaimedState = record {
      command = c.found.inside.command;
      answer = c.found.inside.answer;
      before = c.found.inside.before;
    } in
    let stands : StandsInTrace trace (Some w) =
    subst (λ (u : UnclaimedState). StandsInTrace trace (Some u)) (sym c.found.view_is)
    (all-get (StandsInTrace trace) c.self.inside.places.items c.element_of.result
    (Some c.in_ok-found.found) c.self.invariant.stand c.in_ok-found.ensures.takes.0) in
    record { few = omega (arith, c.found.invariant, waiting-within trace w stands) }

pub receipt_of-requires : goal.receipt_of-requires
receipt_of-requires g c =
    let m = g.K.Name.origin.memory in let trace = c.self.inside.record.lines in
    let w : UnclaimedState = record {
      command = c.found.inside.command;
      answer = c.found.inside.answer;
      before = c.found.inside.before;
    } in
    let stands : StandsInTrace trace (Some w) =
    subst (λ (u : UnclaimedState). StandsInTrace trace (Some u)) (sym c.found.view_is)
    (all-get (StandsInTrace trace) c.self.inside.places.items c.element_of.result
    (Some c.in_ok-found.found) c.self.invariant.stand c.in_ok-found.ensures.takes.0) in
    let same : c.first-history.result ≡ stands.0 = c.first-history.ensures ∙ ap (λ n. take n trace) c.found.invariant
    ∙ waiting-history trace w stands in
    let all = subst (λ (l : TimedLog). IsToldOf m l.state.trace c.args.told) (sym c.self.view_is) c.requires.told in
    rw same (record {
      proof = waiting-proof m trace w c.self.invariant.legal stands;
      told = told-earlier m stands.0 trace c.args.told stands.1 all;
      lines = ap (λ w. w.lines) c.when-when.ensures ∙ c.found.invariant ∙ waiting-length trace w stands;
    })

pub invariant_of-self-2 : goal.invariant_of-self-2
invariant_of-self-2 g c =
    let marks = g.K.Name.origin.marks in
    let counted = c.count_line.ensures.books
    ∙ ap (λ (w : UnclaimedState). counts_after marks c.self.inside.books
    (unclaimed_lines (Some w))) c.found.view_is in
    rw (c.in_ok-found.ensures.takes.2, counted) (
    log-claims g.K.Name.origin.memory marks _ c.self.inside.books c.self.invariant c.element_of.result
    c.in_ok-found.found
    c.in_ok-found.ensures.takes.0)

pub returns-clause-proof : goal.returns-clause-proof
returns-clause-proof g c =
    let m = g.K.Name.origin.memory in let trace = c.self.inside.record.lines in
    let w : UnclaimedState = record {
      command = c.found.inside.command;
      answer = c.found.inside.answer;
      before = c.found.inside.before;
    } in
    let stands : StandsInTrace trace (Some w) =
    subst (λ (u : UnclaimedState). StandsInTrace trace (Some u)) (sym c.found.view_is)
    (all-get (StandsInTrace trace) c.self.inside.places.items c.element_of.result
    (Some c.in_ok-found.found) c.self.invariant.stand c.in_ok-found.ensures.takes.0) in
    let same : c.first-history.result ≡ stands.0 = c.first-history.ensures ∙ ap (λ n. take n trace) c.found.invariant
    ∙ waiting-history trace w stands in
    subst (λ (l : TimedLog). IsOfTrace m l.state.trace c.receipt_of.result) c.self.view_is
    (subst (λ (a : Result ReceiptState Refusal). IsOfTrace m trace a)
    (sym (c.receipt_of.ensures))
    (rw same (receipt-of_trace m trace _ _ _ _ _ stands.1 (waiting-proof m trace w c.self.invariant.legal stands))))

pub returns-clause-time : goal.returns-clause-time
returns-clause-time g c =
    let trace = c.self.inside.record.lines in
    let w : UnclaimedState = record {
      command = c.found.inside.command;
      answer = c.found.inside.answer;
      before = c.found.inside.before;
    } in
    let stands : StandsInTrace trace (Some w) =
    subst (λ (u : UnclaimedState). StandsInTrace trace (Some u)) (sym c.found.view_is)
    (all-get (StandsInTrace trace) c.self.inside.places.items c.element_of.result
    (Some c.in_ok-found.found) c.self.invariant.stand c.in_ok-found.ensures.takes.0) in
    let same : c.first-history.result ≡ stands.0 = c.first-history.ensures ∙ ap (λ n. take n trace) c.found.invariant
    ∙ waiting-history trace w stands in
    let count : c.found.inside.count ≡ length stands.0 = c.found.invariant ∙ waiting-length trace w stands in
    subst (λ (a : Result ReceiptState Refusal). IsTimed c.args.self.now.times a) (sym c.receipt_of.ensures)
    (receipt-timed c.args.self.now.times c.first-history.result c.when-when.result.time c.args.told
    c.found.inside.command
    c.found.inside.answer
    (ap (λ (w : WhenState). w.time) c.when-when.ensures ∙ ap (λ n. time_at c.self.inside.record.times n) count
    ∙ ap (λ n. time_at c.self.inside.record.times n) (ap length (sym same))
    ∙ ap (λ (t : TimedLog). time_at t.times (length c.first-history.result)) c.self.view_is))

pub returns-clause-order : goal.returns-clause-order
returns-clause-order g c =
    let trace = c.self.inside.record.lines in let a = c.found.inside.answer in
    let w : UnclaimedState = record {
      command = c.found.inside.command;
      answer = c.found.inside.answer;
      before = c.found.inside.before;
    } in
    let stands : StandsInTrace trace (Some w) =
    subst (λ (u : UnclaimedState). StandsInTrace trace (Some u)) (sym c.found.view_is)
    (all-get (StandsInTrace trace) c.self.inside.places.items c.element_of.result
    (Some c.in_ok-found.found) c.self.invariant.stand c.in_ok-found.ensures.takes.0) in
    let taken = ap (λ n. take n trace) c.found.invariant ∙ waiting-history trace w stands in
    let same = c.first-history.ensures ∙ taken in
    let asked = ap (λ (w : UnclaimedState). w.command) c.found.view_is ∙ c.in_ok-found.ensures.takes.1 in
    let order = subst (λ (ls : List Line). AreInOrder c.args.seen.now ls) same c.order.ensures.order in
    let less : length c.args.seen.now ≤ c.found.inside.before = omega
    (arith, c.in_ok-found.ensures.later, c.len.ensures, ap (λ (w : UnclaimedState). w.before) c.found.view_is) in
    let behind = subst (λ (r : Command). IsBefore c.found.inside.before (left_lines (Commands r) a) stands.0)
    asked stands.2 in
    claimed-follows c.args.seen.now stands.0 c.first.result c.when-when.result.time c.args.told c.found.inside.before
    c.args.command.now
    c.found.inside.command a c.receipt_of.result order less behind
    (c.receipt_of.ensures ∙ ap (λ (ls : List Line). receipt_for ls c.when-when.result.time c.args.told
    c.found.inside.command a) same)
    (c.first.ensures ∙ taken)
