use Rattle.std.proofs.Common.{sym, ap, ◌∙◌, subst}
use Rattle.im_types.specs.Types.{note_in, answer_each}
use Rattle.im_memory.proofs.{MakesLemmas.makes-served, MakesLemmas.resumed-awaited, RoomLemmas.room-fresh}
use Rattle.im_memory.proofs.TouchLemmas.{resumed-change, served-change}
use Rattle.im_memory.specs.Resuming.{AreAwaited, replies_of}
use Rattle.im_memory.proofs.serving.serve.Goals as goal

pub act-acted-requires-clause-room : goal.act-acted-requires-clause-room
act-acted-requires-clause-room c = room-fresh c.args.table.now c.args.arena.now c.args.sessions.now c.requires.memory c.args.request.now c.requires.fresh

pub resume-requires-clause-awaited : goal.resume-requires-clause-awaited
resume-requires-clause-awaited c =
    let acted = c.act-acted.result in
    subst (λ windows. AreAwaited windows (replies_of acted.resumed c.act-acted.new.arena))
    (sym c.act-acted.ensures.noted)
    (resumed-awaited c.args.table.now c.args.arena.now c.args.sessions.now c.requires.memory c.args.request.now c.requires.fresh acted c.act-acted.new.table c.act-acted.new.arena c.act-acted.ensures.acted)

pub returns-clause-memory : goal.returns-clause-memory
returns-clause-memory c =
    let acted = c.act-acted.result in
    let agree = c.act-acted.ensures.acted.agree in
    makes-served c.args.table.now c.args.arena.now c.args.sessions.now c.requires.memory c.args.request.now c.requires.fresh acted c.act-acted.new.table c.act-acted.new.arena c.act-acted.ensures.acted
    c.resume.new.arena c.resume.new.sessions (c.resume.ensures.cells c.act-acted.new.table agree)
    (c.resume.ensures.windows
    ∙ ap (λ windows. answer_each windows (replies_of acted.resumed c.act-acted.new.arena)) c.act-acted.ensures.noted)
    (c.resume.ensures.agree c.act-acted.new.table agree) (c.resume.ensures.nodes ∙ c.act-acted.ensures.nodes)

pub returns-clause-changes : goal.returns-clause-changes
returns-clause-changes c =
    let acted = c.act-acted.result in
    served-change c.args.request.now.op c.args.table.now c.act-acted.new.table c.args.arena.now c.resume.new.arena c.args.sessions.now _ c.resume.new.sessions c.args.request.now.element (note_in c.args.request.now.op acted.entry) _
    (resumed-change _ c.args.table.now c.act-acted.new.table c.args.arena.now c.act-acted.new.arena c.resume.new.arena acted.resumed c.act-acted.ensures.changes c.act-acted.ensures.among c.resume.ensures.others)
    c.act-acted.ensures.noted (c.resume.ensures.windows ∙ ap (answer_each _) c.act-acted.ensures.acted.replies)
