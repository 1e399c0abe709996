use Rattle.std.proofs.Common.{◌≡◌, take}

abbrev pub invariant-loop-intent : Rattle.im_serving.proofs.sender.send_each.Given.invariant-loop-intent
invariant-loop-intent g l = (l.inlet.pipe ≡ l.fn.inlet.pipe) × (l.inlet.items ≡ take l.intent-index l.fn.intents)
