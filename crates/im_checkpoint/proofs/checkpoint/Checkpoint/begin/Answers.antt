use Rattle.std.proofs.Common.{◌≡◌, ℕ, ◌+◌, ◌<◌, ◌≤◌, Bool, false, List, length, replicate, sym, refl, ap, ◌∙◌, subst}
use Rattle.std.proofs.Common.{⊎_elim, arith}
use Rattle.std.proofs.lemmas.List.{length-replicate}
use Rattle.im_types.specs.Types.{LAST, layout_in_use, Sizes, area_pages, Header, Records, ShowsRecords}
use Rattle.im_pages.proofs.SetLemmas.{few-from, length-union}
use Rattle.im_pages.specs.PageSets.{pages_from, union}
use Rattle.im_image.{proofs.Encoding.counted, specs.Encoding.AreCounted, specs.Headers.seen}
use Rattle.im_checkpoint.proofs.{Fitting.turns_with, Turning.begun_kept}
use Rattle.im_checkpoint.proofs.PageLists.{kept_none, left_with, union_none}
use Rattle.im_checkpoint.specs.{declared.checkpoint.Phase.Phase, Keeping.IsKept, Keeping.Paged, Keeping.paged}
use Rattle.im_checkpoint.specs.Step.{HasNext, left_in, PagedCheckpoint, pages_step, Step, step_by_phase, turns_left}
use Rattle.im_checkpoint.proofs.checkpoint.Checkpoint.begin.Goals as goal

pub union_with-requires-2 : goal.union_with-requires-2
union_with-requires-2 c =
    let e = c.self.inside in
    ap length c.union_with.ensures ∙ length-union c.clear.new.self e.older ∙ ap length c.clear.ensures
    ∙ length-replicate (length e.left) false ∙ c.self.invariant.left_size ∙ sym c.self.invariant.recent_size

pub invariant_of-self : goal.invariant_of-self
invariant_of-self c =
    let e = c.self.inside in
    let all : c.union_with-2.new.self ≡ union e.older e.recent =
    c.union_with-2.ensures ∙ ap (λ (s : List Bool). union s e.recent)
    (c.union_with.ensures
    ∙ ap (λ (s : List Bool). union s e.older)
    (c.clear.ensures ∙ ap (λ (n : ℕ). replicate n false)
    (c.self.invariant.left_size ∙ sym c.self.invariant.older_size)) ∙ union_none e.older) in
    let none : c.clear-2.new.self ≡ replicate (length e.older) false = c.clear-2.ensures
    ∙ ap (λ (s : List Bool). replicate (length s) false) c.swap.ensures.y_after in
    let later : e.header.generation < LAST = subst (λ (s : PagedCheckpoint). s.state.header.generation < LAST)
    (sym c.self.view_is) c.requires.later in
    record {
      number = c.self.invariant.number;
      recent_size = ap length none ∙ length-replicate (length e.older) false ∙ c.self.invariant.older_size;
      older_size = ap length c.swap.ensures.x_after ∙ c.self.invariant.recent_size;
      left_size = ap length all ∙ length-union e.older e.recent ∙ c.self.invariant.older_size;
      named_size = c.self.invariant.named_size;
      next_low = λ is. (c.next_left-step.ensures.some is).inside;
      next_left = λ is. (c.next_left-step.ensures.some is).there;
      space = c.self.invariant.space;
      later = ⊎_elim
          (λ is. subst (λ (p : Phase). HasNext (seen e.header) p) (sym is) later)
          (λ is. subst (λ (p : Phase). HasNext (seen e.header) p) (sym is) later)
          c.next_left-step.ensures.only;
    }

pub returns-clause-began : goal.returns-clause-began
returns-clause-began c =
    let e = c.self.inside in
    let all : c.union_with-2.new.self ≡ union e.older e.recent =
    c.union_with-2.ensures ∙ ap (λ (s : List Bool). union s e.recent)
    (c.union_with.ensures
    ∙ ap (λ (s : List Bool). union s e.older)
    (c.clear.ensures ∙ ap (λ (n : ℕ). replicate n false)
    (c.self.invariant.left_size ∙ sym c.self.invariant.older_size)) ∙ union_none e.older) in
    let count : c.count-self-inside.result ≡ c.args.journal.now.count = c.count-self-inside.ensures.count in
    let step : step_by_phase c.next_left-step.result.0 c.count-self-inside.result
    (pages_from c.next_left-step.result.1 c.union_with-2.new.self)
    ≡ pages_step c.args.journal.now.count (pages_from 0 (union e.older e.recent)) =
    c.next_left-step.ensures.step c.count-self-inside.result ∙ (λ i. pages_step (count i) (pages_from 0 (all i))) in
    let header : seen e.header
    ≡ c.args.self.now.state.header = ap (λ (s : PagedCheckpoint). s.state.header) c.self.view_is in
    let few : length (pages_from 0 (union e.older e.recent)) ≤ area_pages layout_in_use (seen e.header).sizes =
    omega (arith, few-from (union e.older e.recent) 0, length-union e.older e.recent, c.self.invariant.older_size) in
    let turns : turns_left
    (pages_step c.args.journal.now.count (pages_from 0 (union e.older e.recent))) ≤ area_pages layout_in_use
    (seen e.header).sizes + 2 = omega
    (arith, turns_with c.args.journal.now.count (pages_from 0 (union e.older e.recent)), few) in
    record {
      changed = union e.older e.recent;
      size = length-union e.older e.recent ∙ c.self.invariant.older_size
          ∙ ap (λ (h : Header). area_pages layout_in_use h.sizes) header;
      state = (λ i. record { header = header i; step = step i });
      turns = subst (λ (h : Header). turns_left
          (step_by_phase c.next_left-step.result.0 c.count-self-inside.result
          (pages_from c.next_left-step.result.1 c.union_with-2.new.self)) ≤ area_pages layout_in_use h.sizes + 2) header
          (subst (λ (s : Step). turns_left s ≤ area_pages layout_in_use (seen e.header).sizes + 2) (sym step) turns);
    }

pub returns-clause-moved : goal.returns-clause-moved
returns-clause-moved c =
    let e = c.self.inside in
    let all : c.union_with-2.new.self ≡ union e.older e.recent =
    c.union_with-2.ensures ∙ ap (λ (s : List Bool). union s e.recent)
    (c.union_with.ensures
    ∙ ap (λ (s : List Bool). union s e.older)
    (c.clear.ensures ∙ ap (λ (n : ℕ). replicate n false)
    (c.self.invariant.left_size ∙ sym c.self.invariant.older_size)) ∙ union_none e.older) in
    let none : c.clear-2.new.self ≡ replicate (length e.older) false = c.clear-2.ensures
    ∙ ap (λ (s : List Bool). replicate (length s) false) c.swap.ensures.y_after in
    let count : c.count-self-inside.result ≡ c.args.journal.now.count = c.count-self-inside.ensures.count in
    let step : step_by_phase c.next_left-step.result.0 c.count-self-inside.result
    (pages_from c.next_left-step.result.1 c.union_with-2.new.self)
    ≡ pages_step c.args.journal.now.count (pages_from 0 (union e.older e.recent)) =
    c.next_left-step.ensures.step c.count-self-inside.result ∙ (λ i. pages_step (count i) (pages_from 0 (all i))) in
    let older : e.older ≡ c.args.self.now.older = ap (λ (s : PagedCheckpoint). s.older) c.self.view_is in
    let recent : e.recent ≡ c.args.self.now.recent = ap (λ (s : PagedCheckpoint). s.recent) c.self.view_is in
    record {
      begun = λ is. (
        ap left_in step ∙ left_with c.args.journal.now.count (pages_from 0 (union e.older e.recent))
            ∙ (λ i. pages_from 0 (union (older i) (recent i))),
        c.swap.ensures.x_after ∙ recent,
        none ∙ ap (λ (s : List Bool). replicate (length s) false) older,
      );
      stays = λ other. absurd (other refl);
    }

pub returns-clause-kept : goal.returns-clause-kept
returns-clause-kept c = λ now kept.
    let e = c.self.inside in
    let all : c.union_with-2.new.self ≡ union e.older e.recent =
    c.union_with-2.ensures ∙ ap (λ (s : List Bool). union s e.recent)
    (c.union_with.ensures
    ∙ ap (λ (s : List Bool). union s e.older)
    (c.clear.ensures ∙ ap (λ (n : ℕ). replicate n false)
    (c.self.invariant.left_size ∙ sym c.self.invariant.older_size)) ∙ union_none e.older) in
    let none : c.clear-2.new.self ≡ replicate (length e.older) false = c.clear-2.ensures
    ∙ ap (λ (s : List Bool). replicate (length s) false) c.swap.ensures.y_after in
    let count : c.count-self-inside.result ≡ c.args.journal.now.count = c.count-self-inside.ensures.count in
    let step : step_by_phase c.next_left-step.result.0 c.count-self-inside.result
    (pages_from c.next_left-step.result.1 c.union_with-2.new.self)
    ≡ pages_step c.args.journal.now.count (pages_from 0 (union e.older e.recent)) =
    c.next_left-step.ensures.step c.count-self-inside.result ∙ (λ i. pages_step (count i) (pages_from 0 (all i))) in
    let m = c.args.memory.now in
    let x : Paged = record { recent = e.recent; older = e.older; copies = e.copies; records = m.records } in
    let s : Sizes = (seen e.header).sizes in
    let header : seen e.header
    ≡ c.args.self.now.state.header = ap (λ (s : PagedCheckpoint). s.state.header) c.self.view_is in
    let cells : length m.contents.cells ≡ (seen e.header).sizes.cells = c.requires.sizes.cells
    ∙ sym (ap (λ (h : Header). h.sizes.cells) header) in
    let elements : length m.contents.windows ≡ (seen e.header).sizes.elements = c.requires.sizes.elements
    ∙ sym (ap (λ (h : Header). h.sizes.elements) header) in
    let later : e.header.generation < LAST = subst (λ (s : PagedCheckpoint). s.state.header.generation < LAST)
    (sym c.self.view_is) c.requires.later in
    let r = c.records-records.ensures in
    let count_all : AreCounted (seen e.header).sizes m.records = subst (AreCounted (seen e.header).sizes) r.view
    (counted (seen e.header).sizes m.contents c.records-records.result cells elements r.cells r.nodes r.windows) in
    let shows : ShowsRecords (seen e.header).sizes m.records m.contents = subst
    (λ (q : Records). ShowsRecords (seen e.header).sizes q m.contents) r.view
    (r.shows (seen e.header).sizes (sym cells) (sym elements)) in
    let before = kept_none c.args.self.now (seen e.header) e.step e.count
    (pages_from e.next e.left) e.recent e.older e.copies c.self.view_is m m.contents c.args.journal.now now kept
    c.requires.step in
    let begun = begun_kept
    (seen e.header) x e.copies m.contents c.args.journal.now now before c.count-self-inside.ensures.known.to_last later
    count_all shows c.self.invariant.older_size c.self.invariant.recent_size in
    let step_back : pages_step c.args.journal.now.count (pages_from 0 (union e.older e.recent))
    ≡ step_by_phase c.next_left-step.result.0 c.count-self-inside.result
    (pages_from c.next_left-step.result.1 c.union_with-2.new.self) = sym step in
    let none_back : replicate (length e.older) false ≡ c.clear-2.new.self = sym none in
    let older_back : e.recent ≡ c.swap.new.x = sym c.swap.ensures.x_after in
    let same : (let p : PagedCheckpoint
    = record {
      state = record {
        header = seen e.header;
        step = pages_step c.args.journal.now.count (pages_from 0 (union e.older e.recent));
      };
      recent = replicate
          (length e.older) false;
      older = e.recent;
      copies = e.copies;
    } in p)
    ≡ record {
      state = record {
        header = seen e.header;
        step = step_by_phase c.next_left-step.result.0 c.count-self-inside.result
            (pages_from c.next_left-step.result.1 c.union_with-2.new.self);
      };
      recent = c.clear-2.new.self;
      older
          = c.swap.new.x;
      copies = e.copies;
    } =
    (λ i. record {
      state = record { header = seen e.header; step = step_back i };
      recent = none_back i;
      older = older_back i;
      copies = e.copies;
    }) in
    subst (λ (p : PagedCheckpoint). IsKept p.state (paged p m) m.contents c.args.journal.now now) same begun
