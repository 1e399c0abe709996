use Rattle.std.proofs.Common.{Bool, false, List, [], map, take, string_bytes, String, Global, sym, subst}
use Rattle.im_front.specs.Lists.{commands_asked}
use Rattle.im_dialogue.{proofs.WatchedLemmas.tell_nobody, specs.Together.TellWatchers}

pub returns-else-watch-clause-known : Rattle.im_dialogue.proofs.watching.make_nows.Goals.returns-else-watch-clause-known
returns-else-watch-clause-known c = λ b same.
    subst (λ (w : Bool). TellWatchers w b [] (take 16 (commands_asked c.args.asked.now))
    (map string_bytes c.clear.new.self.items)) (sym c.if-watch.false)
    (subst (λ (l : List (String Global)). TellWatchers false b [] (take 16 (commands_asked c.args.asked.now))
    (map string_bytes l)) (sym c.clear.ensures.items) (tell_nobody b [] (take 16 (commands_asked c.args.asked.now))))
