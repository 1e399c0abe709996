use Rattle.std.proofs.Common.{◌≡◌, reverse, sym, ap, ◌∙◌, subst, rules}
use Rattle.im_disk.proofs.RecordLemmas.{left_by_kind, left_by_left, shown_crashed, sound_crashed}
use Rattle.im_disk.specs.{Moment.Left, Record.left_by, Record.moment_of, Record.shown}
use Rattle.im_disk.specs.Recording.{crashed, LeftBy, Recording}
use Rattle.im_disk.proofs.memory.MemDisk.crash.Goals as goal

pub invariant_of-self : goal.invariant_of-self
invariant_of-self c =
    let b = c.self.inside.bytes.items in
    let calls = c.self.inside.calls.items in
    let whole : c.deref.result.now ≡ calls = search rules in
    let is = c.leave.ensures ∙ ap (λ l. left_by c.args.crash b (reverse l)) whole in
    sound_crashed b calls c.self.invariant.within c.leave.new.bytes.items _ (search rules)
    (subst (Left (moment_of b (reverse calls))) (sym is) (left_by_left b calls c.self.invariant.within c.args.crash))

pub returns-clause-left : goal.returns-clause-left
returns-clause-left c =
    let b = c.self.inside.bytes.items in
    let calls = c.self.inside.calls.items in
    let whole : c.deref.result.now ≡ calls = search rules in
    let is = c.leave.ensures ∙ ap (λ l. left_by c.args.crash b (reverse l)) whole in
    subst (λ (r : Recording). Left r.moment c.leave.new.bytes.items) c.self.view_is
    (subst (Left (moment_of b (reverse calls))) (sym is) (left_by_left b calls c.self.invariant.within c.args.crash))

pub returns-clause-kind : goal.returns-clause-kind
returns-clause-kind c =
    let b = c.self.inside.bytes.items in
    let calls = c.self.inside.calls.items in
    let whole : c.deref.result.now ≡ calls = search rules in
    let is = c.leave.ensures ∙ ap (λ l. left_by c.args.crash b (reverse l)) whole in
    subst (λ (r : Recording). LeftBy c.args.crash r c.leave.new.bytes.items) c.self.view_is
    (subst (LeftBy c.args.crash (shown b calls c.self.inside.begun c.self.inside.failures)) (sym is)
    (left_by_kind b calls c.self.invariant.within c.args.crash c.self.inside.begun c.self.inside.failures))

pub returns-clause-after : goal.returns-clause-after
returns-clause-after c =
    let b = c.self.inside.bytes.items in
    let calls = c.self.inside.calls.items in
    let whole : c.deref.result.now ≡ calls = search rules in
    let is = c.leave.ensures ∙ ap (λ l. left_by c.args.crash b (reverse l)) whole in
    shown_crashed b calls c.self.invariant.within c.leave.new.bytes.items _ c.self.inside.begun c.self.inside.failures (search rules)
    (subst (Left (moment_of b (reverse calls))) (sym is) (left_by_left b calls c.self.invariant.within c.args.crash))
    ∙ ap (λ (r : Recording). crashed c.leave.new.bytes.items r) c.self.view_is
