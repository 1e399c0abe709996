pub returns-in-Ok-clause-source : Rattle.im_program.proofs.loading.prepare_loaded.Goals.returns-in-Ok-clause-source
returns-in-Ok-clause-source g c = record {
  sizes = c.in-Ok.ensures.sizes;
  count = c.in-Ok.ensures.count;
  memory = c.in-Ok.ensures.memory;
}
