use Rattle.std.proofs.Common.{◌≡◌, ℕ, [], slice_get, Some, sym, refl, subst, append-nil, arith, rules}
use Rattle.im_serving.proofs.AnswerLemmas.{asked_as, found_length, looked_count, looked_few, looked_on}
use Rattle.im_serving.proofs.CallsLemmas.{makes_more, own_ask, own_then}
use Rattle.im_serving.proofs.{GlanceLemmas.glanced_then, ToldLemmas.tells_as, ToldLemmas.tells_kept}
use Rattle.im_serving.proofs.server.serve_one.Goals as goal

pub returns-in-Ok-answer-clause-seen : goal.returns-in-Ok-answer-clause-seen
returns-in-Ok-answer-clause-seen g c =
    glanced_then g.K.Name.origin.memory c.args.port.now.element c.make_place.new.port.element c.args.glances.now.last
    c.make_place.new.glances.last c.ask-answer.new.glances.last
    c.args.glances.now.glance c.make_place.new.glances.glance c.ask-answer.new.glances.glance
    c.args.glances.now.made.items c.make_place.new.glances.made.items c.ask-answer.new.glances.made.items
    c.make_place.ensures.element c.make_place.ensures.seen c.ask-answer.ensures.seen

pub returns-in-Err-answer-clause-seen : goal.returns-in-Err-answer-clause-seen
returns-in-Err-answer-clause-seen g c =
    glanced_then g.K.Name.origin.memory c.args.port.now.element c.make_place.new.port.element c.args.glances.now.last
    c.make_place.new.glances.last c.ask-answer.new.glances.last
    c.args.glances.now.glance c.make_place.new.glances.glance c.ask-answer.new.glances.glance
    c.args.glances.now.made.items c.make_place.new.glances.made.items c.ask-answer.new.glances.made.items
    c.make_place.ensures.element c.make_place.ensures.seen c.ask-answer.ensures.seen

pub returns-in-Ok-answer-clause-asked : goal.returns-in-Ok-answer-clause-asked
returns-in-Ok-answer-clause-asked g c =
    let m = c.make_place in
    record {
      before = m.new.served.entries.items;
      entry = c.in-Ok-answer.entry;
      seen = m.new.port.history;
      looked = m.ensures.looked;
      asked = asked_as m.new.port.history c.ask-answer.new.port.history c.args.port.now.element m.new.port.element _ _
          c.args.op c.in-Ok-answer.entry m.ensures.element (search rules) c.in-Ok-answer.ensures.order;
      added = search rules;
    }

pub returns-in-Err-answer-clause-kept : goal.returns-in-Err-answer-clause-kept
returns-in-Err-answer-clause-kept g c =
    let m = c.make_place in
    looked_on c.args.port.now.history m.new.port.history c.ask-answer.new.port.history c.args.port.now.element
    c.args.served.now.first c.args.served.now.entries.items m.new.served.entries.items c.reserve.new.self.items
    (search rules) c.ask-answer.ensures.longer m.ensures.looked

pub returns-in-Err-clause-few : goal.returns-in-Err-clause-few
returns-in-Err-clause-few g c =
    looked_few c.args.port.now.history c.make_place.new.port.history c.args.port.now.element c.args.served.now.first
    c.args.served.now.entries.items c.make_place.new.served.entries.items _ refl
    c.make_place.ensures.looked

pub returns-then-is_err-clause-few : goal.returns-then-is_err-clause-few
returns-then-is_err-clause-few g c =
    looked_few c.args.port.now.history c.make_place.new.port.history c.args.port.now.element c.args.served.now.first
    c.args.served.now.entries.items c.make_place.new.served.entries.items c.reserve.new.self.items (search rules)
    c.make_place.ensures.looked

pub returns-in_err-number-clause-few : goal.returns-in_err-number-clause-few
returns-in_err-number-clause-few g c =
    looked_few c.args.port.now.history c.make_place.new.port.history c.args.port.now.element c.args.served.now.first
    c.args.served.now.entries.items c.make_place.new.served.entries.items c.reserve.new.self.items (search rules)
    c.make_place.ensures.looked

pub returns-in-Err-answer-clause-few : goal.returns-in-Err-answer-clause-few
returns-in-Err-answer-clause-few g c =
    looked_few c.args.port.now.history c.make_place.new.port.history c.args.port.now.element c.args.served.now.first
    c.args.served.now.entries.items c.make_place.new.served.entries.items c.reserve.new.self.items (search rules)
    c.make_place.ensures.looked

pub returns-in-Ok-answer-clause-count : goal.returns-in-Ok-answer-clause-count
returns-in-Ok-answer-clause-count g c =
    looked_count c.args.port.now.history c.make_place.new.port.history c.args.port.now.element c.args.served.now.first
    c.args.served.now.entries.items c.make_place.new.served.entries.items c.push_reserved.new.self.items
    c.in-Ok-answer.entry (search rules) c.make_place.ensures.looked

pub returns-in-Ok-answer-clause-few : goal.returns-in-Ok-answer-clause-few
returns-in-Ok-answer-clause-few g c =
    let one = looked_count c.args.port.now.history c.make_place.new.port.history c.args.port.now.element
    c.args.served.now.first
    c.args.served.now.entries.items c.make_place.new.served.entries.items c.push_reserved.new.self.items
    c.in-Ok-answer.entry (search rules) c.make_place.ensures.looked in
    omega (arith, one)

pub returns-in-Ok-answer-clause-told : goal.returns-in-Ok-answer-clause-told
returns-in-Ok-answer-clause-told g c =
    let m = c.make_place in
    tells_as c.args.port.now.history m.new.port.history c.ask-answer.new.port.history c.args.port.now.element
    c.args.served.now m.new.served _ _ _ c.ask-answer.ensures.longer
    (record { element = refl; first = refl; base = refl; untold = refl }) m.ensures.told

pub returns-in-Err-answer-clause-told : goal.returns-in-Err-answer-clause-told
returns-in-Err-answer-clause-told g c =
    let m = c.make_place in
    tells_as c.args.port.now.history m.new.port.history c.ask-answer.new.port.history c.args.port.now.element
    c.args.served.now m.new.served _ _ _ c.ask-answer.ensures.longer
    (record { element = refl; first = refl; base = refl; untold = refl }) m.ensures.told

pub returns-then-is_err-clause-told : goal.returns-then-is_err-clause-told
returns-then-is_err-clause-told g c =
    let m = c.make_place in
    tells_kept c.args.port.now.history m.new.port.history c.args.port.now.element c.args.served.now m.new.served _ _ _
    (record { element = refl; first = refl; base = refl; untold = refl }) m.ensures.told

pub returns-in_err-number-clause-told : goal.returns-in_err-number-clause-told
returns-in_err-number-clause-told g c =
    let m = c.make_place in
    tells_kept c.args.port.now.history m.new.port.history c.args.port.now.element c.args.served.now m.new.served _ _ _
    (record { element = refl; first = refl; base = refl; untold = refl }) m.ensures.told

pub returns-in-Ok-answer-clause-alone : goal.returns-in-Ok-answer-clause-alone
returns-in-Ok-answer-clause-alone g c = λ ops here.
    let m = c.make_place in
    let same = found_length m.new.port.history c.args.port.now.element c.args.served.now.first
    c.args.served.now.entries.items m.new.served.entries.items m.ensures.looked.found in
    own_then g.K.Name.origin.marks c.args.port.now.element m.new.port.element c.args.served.now.first
    m.new.served.first m.new.served.untold m.new.served.untold [] ops ops c.args.port.now m.new.port
    c.ask-answer.new.port m.ensures.element m.ensures.first (omega arith) (ops, refl) ([], append-nil ops)
    m.ensures.alone
    (own_ask g.K.Name.origin.marks m.new.port.element m.new.served.first m.new.served.untold _ _ c.args.op ops
    m.new.port c.ask-answer.new.port refl (search rules)
    (subst (λ (n : ℕ). slice_get ops n ≡ Some c.args.op) (sym same) here) c.ask-answer.ensures.alone)

pub returns-in-Err-answer-clause-alone : goal.returns-in-Err-answer-clause-alone
returns-in-Err-answer-clause-alone g c = λ ops here.
    let m = c.make_place in
    let same = found_length m.new.port.history c.args.port.now.element c.args.served.now.first
    c.args.served.now.entries.items m.new.served.entries.items m.ensures.looked.found in
    own_then g.K.Name.origin.marks c.args.port.now.element m.new.port.element c.args.served.now.first
    m.new.served.first m.new.served.untold m.new.served.untold [] ops ops c.args.port.now m.new.port
    c.ask-answer.new.port m.ensures.element m.ensures.first (omega arith) (ops, refl) ([], append-nil ops)
    m.ensures.alone
    (own_ask g.K.Name.origin.marks m.new.port.element m.new.served.first m.new.served.untold _ _ c.args.op ops
    m.new.port c.ask-answer.new.port refl (search rules)
    (subst (λ (n : ℕ). slice_get ops n ≡ Some c.args.op) (sym same) here) c.ask-answer.ensures.alone)

pub returns-in-Err-clause-alone : goal.returns-in-Err-clause-alone
returns-in-Err-clause-alone g c = λ ops here.
    let m = c.make_place in
    makes_more g.K.Name.origin.marks c.args.port.now.element c.args.served.now.first m.new.served.untold
    m.new.served.untold [] ops c.args.port.now m.new.port (omega arith) (ops, refl) m.ensures.alone

pub returns-then-is_err-clause-alone : goal.returns-then-is_err-clause-alone
returns-then-is_err-clause-alone g c = λ ops here.
    let m = c.make_place in
    makes_more g.K.Name.origin.marks c.args.port.now.element c.args.served.now.first m.new.served.untold
    m.new.served.untold [] ops c.args.port.now m.new.port (omega arith) (ops, refl) m.ensures.alone

pub returns-in_err-number-clause-alone : goal.returns-in_err-number-clause-alone
returns-in_err-number-clause-alone g c = λ ops here.
    let m = c.make_place in
    makes_more g.K.Name.origin.marks c.args.port.now.element c.args.served.now.first m.new.served.untold
    m.new.served.untold [] ops c.args.port.now m.new.port (omega arith) (ops, refl) m.ensures.alone
