use Rattle.std.proofs.Common.{sym, ap, ◌∙◌}
use Rattle.im_groups.{proofs.LineLemmas.moved-append, specs.Ahead.bounds_behind_all}

pub returns : Rattle.im_groups.proofs.line.CommandsAhead.move_bounds.Goals.returns
returns c = c.moved_behind.ensures.moved
    ∙ ap (λ b. bounds_behind_all c.args.element c.self.inside.members.now b) c.moved_behind-moved.ensures.moved
    ∙ sym (moved-append c.args.element c.self.inside.group.now c.self.inside.members.now c.args.bounds)
    ∙ ap (λ l. bounds_behind_all c.args.element l c.args.bounds) c.self.view_is
