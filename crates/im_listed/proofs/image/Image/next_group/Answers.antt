use Rattle.std.proofs.Common.{min, List, length, take, drop, ap, ◌∙◌}
use Rattle.im_types.specs.Types.{Command, MAX_GROUP}
use Rattle.im_front.specs.{declared.AskedCommand.AskedCommand, Lists.commands_asked}
use Rattle.im_listed.proofs.OrderLemmas.{next_is, take_rest}
use Rattle.im_listed.specs.{Asking.next_group, Image.ImageState}

pub returns : Rattle.im_listed.proofs.image.Image.next_group.Goals.returns
returns c =
    let asked = c.asked-asked.result.now in
    let ahead = c.as_slice-ahead.result.now in
    let next = c.first_commands.result.items in
    next_is (length ahead) asked next
    (c.first_commands.ensures.first
    ∙ ap (λ (l : List AskedCommand). take (length next) (commands_asked l)) (take_rest (length ahead) asked))
    (c.first_commands.ensures.count
    ∙ ap (λ (l : List AskedCommand). min MAX_GROUP (length l)) (take_rest (length ahead) asked))
    ∙ ap (λ (l : List Command). take MAX_GROUP (drop (length l) (commands_asked asked)))
    (c.as_slice-ahead.ensures.value ∙ c.ahead.ensures)
    ∙ ap (λ (l : List AskedCommand). take MAX_GROUP (drop (length c.self.inside.engine.ahead) (commands_asked l)))
    c.asked-asked.ensures
    ∙ ap (λ (i : ImageState). next_group i) c.self.view_is
