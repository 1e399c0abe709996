use Rattle.im_promise.proofs.Alike.{acts_once, told_alike}

pub returns : Rattle.im_promise.proofs.traces.traces_tell_a_request_alike.Goals.returns
returns c =
    let run = c.trace_is_a_run.ensures.end in
    let join = c.traces_join.ensures.end in
    let legal = c.traces_join.ensures.legal in
    let next = c.waiting_agrees.ensures.step in
    let repeat = c.repeat_is_told_again.ensures in
    let refused = c.forgotten_for_ever.ensures.refused in
    let un = c.accepted_where_changed.ensures.unaccepted in
    record {
      alike = λ m trace r first second it.
          (told_alike run join legal next repeat refused un m trace r first second it).alike;
      still = λ m trace r first second it.
          (told_alike run join legal next repeat refused un m trace r first second it).still;
      once = acts_once run join legal next repeat refused un c.number_acts_once.ensures;
    }
