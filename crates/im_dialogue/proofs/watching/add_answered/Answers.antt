use Rattle.std.proofs.Common.{◌≡◌, true, ◌++◌, length, string_bytes, sym, ap, ◌∙◌, subst}
use Rattle.im_types.specs.Types.{Contents, IsMemory, act, asker}
use Rattle.im_dialogue.{proofs.WatchedLemmas.told_first, specs.Firsts.is_first, specs.Watching.nows_text}

pub returns-in_ok-add_resumed : Rattle.im_dialogue.proofs.watching.add_answered.Goals.returns-in_ok-add_resumed
returns-in_ok-add_resumed c = λ known b same.
    let m = c.args.memory.now.contents in
    let is : IsMemory (length m.cells) (length m.windows) b.memory
    = subst (λ (x : Contents). IsMemory (length m.cells) (length m.windows) x) (sym same) c.cells-cells.ensures.memory
    in
    let first : is_first b.memory c.args.ahead.now c.args.request.now ≡ true
    = ap (λ (x : Contents). is_first x c.args.ahead.now c.args.request.now) same ∙ sym c.is_first.ensures
    ∙ c.if-is_first.true in
    told_first (length m.cells) (length m.windows) b is c.args.ahead.now c.args.request.now first
    (string_bytes c.add_resumed.new.out)
    (c.in_ok-add_resumed.ensures
    ∙ ap (λ t. t ++ nows_text (act m.cells (asker c.args.request.now) c.args.request.now.op).resumed) c.requires.empty
    ∙ ap (λ (x : Contents). nows_text (act x.cells (asker c.args.request.now) c.args.request.now.op).resumed)
    (sym same))
