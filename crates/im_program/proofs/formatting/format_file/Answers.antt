use Rattle.im_program.proofs.formatting.format_file.Goals as goal

pub returns-in-Ok-format-clause-made : goal.returns-in-Ok-format-clause-made
returns-in-Ok-format-clause-made g c = rw (c.close.ensures.disk) c.in-Ok-format.ensures.image
