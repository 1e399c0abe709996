use Rattle.std.proofs.Common.{◌≡◌, ℕ, ◌+◌, ◌≤◌, Bool, List, [], length, Contains, sym, ap, ◌∙◌, subst, arith}
use Rattle.im_pages.specs.PageSets.{IsWithin, pages_from, size_of}
use Rattle.im_memory.specs.Covering.{IsAlone, IsOfBlock, most_pages}
use Rattle.im_checkpoint.proofs.{Adding.own_of, Copying.left_none}
use Rattle.im_checkpoint.specs.{Copied.copy_of, Step.left_in, Step.PagedCheckpoint}

pub returns-in_default : Rattle.im_checkpoint.proofs.checkpoint.Checkpoint.before.Goals.returns-in_default
returns-in_default c =
    let e = c.self.inside in
    let m = c.args.memory.now in
    let recent : e.recent ≡ c.args.self.now.recent = ap (λ (s : PagedCheckpoint). s.recent) c.self.view_is in
    let none : left_in c.args.self.now.state.step
    ≡ [] = sym (ap (λ (s : PagedCheckpoint). left_in s.state.step) c.self.view_is)
    ∙ left_none e.step e.count (pages_from e.next e.left) c.in_default.not-PagesLeft in
    record {
      state = ap (λ (s : PagedCheckpoint). s.state) c.self.view_is;
      adds = record {
        most = record {
          older = ap (λ (s : PagedCheckpoint). s.older) c.self.view_is;
          size = c.touches.ensures.length ∙ ap length recent;
          kept = subst (λ (s : List Bool). IsWithin s c.touches.new.pages) recent c.touches.ensures.kept;
          few = subst (λ (s : List Bool). size_of c.touches.new.pages ≤ size_of s + most_pages
              m.contents c.args.command.now) recent c.touches.ensures.few;
        };
        own = own_of m c.args.command.now c.touches.new.pages c.touches.ensures.covers;
        block = subst (λ (s : List Bool). IsOfBlock m.contents c.args.command.now s c.touches.new.pages) recent
            c.touches.ensures.block;
        alone = subst (λ (s : List Bool). IsAlone m.contents c.args.command.now s c.touches.new.pages) recent
            c.touches.ensures.alone;
      };
      others = c.touches.ensures.others;
      copied = λ page lt among fresh there. let it = subst (λ (l : List ℕ). Contains l page) none among in absurd
          (omega (arith, it.1));
      stay = λ page lt there. ap (λ (s : PagedCheckpoint). copy_of s.copies page) c.self.view_is;
    }
