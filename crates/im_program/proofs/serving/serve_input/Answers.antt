use Rattle.im_program.proofs.{OkLemmas.ok_then, SourceLemmas.text_served}

pub returns : Rattle.im_program.proofs.serving.serve_input.Goals.returns
returns g c = ok_then _ _ c.serve_file.result
    (λ r served honest. text_served _ c.args.once _ c.args.hand.input.now.now r.1 _ _ r.0 (served honest))
    c.serve_file.ensures.served
