use Rattle.std.proofs.Common.{◌≡◌, ℕ, true, List, [], ◌++◌, map, length, take, string_bytes, sym, ap, ◌∙◌, subst, arith}
use Rattle.std.proofs.Common.{rules}
use Rattle.{im_types.specs.Types.Command, im_front.specs.Lists.commands_asked}
use Rattle.im_dialogue.proofs.WatchedLemmas.{ahead_next, first_asked, one_longer, told_next}
use Rattle.im_dialogue.specs.Together.{TellWatchers}
use Rattle.im_dialogue.proofs.watching.add_nows.Goals as goal

pub loop-one-init : goal.loop-one-init
loop-one-init c = record {
  ahead = ap (λ (l : List Command). l ++ commands_asked c.args.asked.now) c.new-ahead.ensures;
  many = ap length c.new-ahead.ensures;
  texts = ap (λ l. length (map string_bytes l)) c.requires.empty ∙ sym (ap length c.new-ahead.ensures);
  told = λ b same. subst (λ (l : List Command). TellWatchers true b [] l (map string_bytes c.args.nows.now.items))
      (sym c.new-ahead.ensures) tt;
}

pub loop-one-preserved : goal.loop-one-preserved
loop-one-preserved c =
    let inv = c.loop-one.invariant in
    let add = c.in_ok-add_now_of.ensures in
    let ahead = c.loop-one.ahead.items in
    let texts = map string_bytes c.loop-one.nows.items in
    let known : c.in_ok-known.known ≡ true = search rules in
    let longer = one_longer ahead _ _ c.add_now_of.ensures.ahead in
    let more = one_longer texts _ _ add.nows in
    record {
      ahead = ahead_next c.args.asked.now c.loop-one.one-index _ ahead _ c.loop-one-test.true inv.ahead
          c.add_now_of.ensures.ahead;
      many = let many = inv.many in omega (arith, longer, many);
      texts = let same = inv.texts in omega (arith, longer, more, same);
      told = λ b same. told_next b ahead _ _ texts _ _ _ c.as_slice.ensures.value c.add_now_of.ensures.ahead add.nows
          inv.texts (inv.told b same) (c.in_ok-known.ensures.known known b same);
    }

pub returns-then-not-known-clause-known : goal.returns-then-not-known-clause-known
returns-then-not-known-clause-known c = λ b same.
    let inv = c.loop-one.invariant in
    let many : c.len-then-not-known.result ≡ length c.loop-one.ahead.items = search rules in
    subst (λ (n : ℕ). TellWatchers true b [] (take n (commands_asked c.args.asked.now))
    (map string_bytes c.loop-one.nows.items)) (sym many)
    (subst (λ (l : List Command). TellWatchers true b [] l (map string_bytes c.loop-one.nows.items))
    (sym (first_asked c.loop-one.ahead.items (commands_asked c.args.asked.now) _ inv.ahead)) (inv.told b same))
