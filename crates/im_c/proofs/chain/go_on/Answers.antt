use Rattle.std.proofs.Common.{ℕ, ◌≤◌, length, drop, IfOk, Ok, Err, Result, arith}
use Rattle.im_types.specs.Types.{Refusal, MAX_GROUP}
use Rattle.{im_front.specs.Lists.commands_asked, im_listed.proofs.OrderLemmas.length_take}

within_by : (r : Result ℕ Refusal) (P : ℕ → Type 0) → ((n : ℕ) → P n → n ≤ MAX_GROUP) → IfOk r P
    → IfOk r (λ n. n ≤ MAX_GROUP)
within_by (Ok many) P few it = few many it
within_by (Err refusal) P few it = tt

pub returns-clause-within : Rattle.im_c.proofs.chain.go_on.Goals.returns-clause-within
returns-clause-within c =
    let old = c.args.image.now in
    let most = length_take MAX_GROUP (drop (length old.engine.ahead) (commands_asked old.asked)) in
    within_by c.advance.result _ (λ n it. omega (arith, it.within, most))
    (c.advance.ensures.told c.requires.works).puts.takes
