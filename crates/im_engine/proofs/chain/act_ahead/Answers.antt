use Rattle.std.proofs.Common.{◌≡◌, List, map, length, sym, refl, ◌∙◌, subst}
use Rattle.im_types.specs.Types.{Command, as_served}
use Rattle.im_groups.specs.Commands.{answers_with, contents_after_all, most_pages_with}
use Rattle.im_engine.{proofs.Advancing.parted_of, proofs.Advancing.whole_of, specs.Chain.laid_of, specs.Groups.StaysBut}
use Rattle.im_engine.proofs.chain.act_ahead.Goals as goal

pub act_all-requires-clause-judged : goal.act_all-requires-clause-judged
act_all-requires-clause-judged c =
    let a = c.args.ahead.now in
    let m = c.args.memory.now.contents in
    let slice : List Command = c.as_slice-all.result.now in
    let put = laid_of a.whole a.members.items a.commands.items in
    record {
      few = c.as_slice-all.ensures.fits;
      whole = λ all. whole_of m (length slice) a.members.items slice put a.taken.items
          c.as_slice-all.ensures.value refl c.as_slice-all.ensures.fits c.requires.told
          (sym c.is_whole.ensures ∙ all);
      each = λ other. parted_of m (length slice) a.members.items slice put a.taken.items
          c.as_slice-taken.result.now c.as_slice-all.ensures.value refl c.as_slice-all.ensures.fits c.requires.told
          c.as_slice-taken.ensures.value (sym c.is_whole.ensures ∙ other);
    }

pub returns-clause-answers : goal.returns-clause-answers
returns-clause-answers c =
    let e : c.as_slice-all.result.now ≡ c.args.ahead.now.members.items = c.as_slice-all.ensures.value in
    c.act_all.ensures.answers ∙ (λ i. map as_served (answers_with c.args.memory.now.contents (length (e i)) (e i)))

pub returns-clause-contents : goal.returns-clause-contents
returns-clause-contents c =
    let e : c.as_slice-all.result.now ≡ c.args.ahead.now.members.items = c.as_slice-all.ensures.value in
    c.act_all.ensures.contents ∙ (λ i. contents_after_all c.args.memory.now.contents (length (e i)) (e i))

pub returns-clause-stays : goal.returns-clause-stays
returns-clause-stays c =
    subst (λ (l : List Command). StaysBut (most_pages_with c.args.memory.now.contents (length l) l)
    c.args.checkpoint.now c.act_all.new.checkpoint) c.as_slice-all.ensures.value c.act_all.ensures.stays
