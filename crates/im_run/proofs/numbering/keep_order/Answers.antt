use Rattle.std.proofs.Common.{◌≡◌, List, ◌++◌, map, length, vec_len, sym, ap, ◌∙◌, append-nil, arith}
use Rattle.std.proofs.lemmas.List.{map-append}
use Rattle.im_run.proofs.OrdersLemmas.{ask_none, ask_some, grown}
use Rattle.im_run.specs.Orders.{Ask, ask_of}
use Rattle.im_run.proofs.numbering.keep_order.Goals as goal

pub returns-then-is_empty : goal.returns-then-is_empty
returns-then-is_empty c =
    let o = c.args.order in
    let old = map ask_of c.args.numbered.now.items in
    let many : vec_len o.intents ≡ length o.intents.items = omega (arith, o.intents.ok) in
    sym (append-nil old) ∙ ap (λ (l : List Ask). old ++ l) (sym (ask_none o.intents.items o.element c.args.next
    (vec_len o.intents) many (sym c.is_empty.ensures ∙ c.if-is_empty.true)))

pub returns : goal.returns
returns c =
    let o = c.args.order in
    let was = c.args.numbered.now.items in
    let many : vec_len o.intents ≡ length o.intents.items = omega (arith, o.intents.ok) in
    let pushed = grown c.push.result _ _ _ c.push.ensures.items (sym c.is_err.ensures.value ∙ c.if-is_err.false) in
    ap (map ask_of) pushed ∙ map-append ask_of was _
    ∙ ap (λ (l : List Ask). map ask_of was ++ l) (sym (ask_some o.intents.items o.element c.args.next
    (vec_len o.intents) many (sym c.is_empty.ensures ∙ c.if-is_empty.false)))
