use Rattle.std.proofs.Common.{◌≡◌, List, Some, None, Err, sym, refl, ap, ◌∙◌, subst, inl, inr, arith}
use Rattle.im_types.specs.Types.{Command, Refusal, Layout, layout_of, layout_named, sizes_of, ring_of, Header}
use Rattle.im_types.specs.Types.{layout_in, tail, accept_in, Reads}
use Rattle.im_image.proofs.Outcomes.{accepted-sizes, in-room, reads-all, reads-no-tail, reads-unaccepted}
use Rattle.im_image.specs.Headers.{seen}
use Rattle.im_image.proofs.reading.read_run.Goals as goal

pub read_tail-requires-clause-inside : goal.read_tail-requires-clause-inside
read_tail-requires-clause-inside g c = λ h.
    let file = (g.D.Disk.now c.args.disk.now).bytes in
    let it = c.requires.shown h in
    let named : layout_in file
    ≡ layout_of c.layout-version.result = sym
    (c.layout-version.ensures ∙ ap (λ (x : Header). layout_named x.version) it.header.is) in
    in-room (layout_of c.layout-version.result) file (seen c.args.header) it.header.is (rw named at it.header.good)

pub returns-in-Err-clause-fault : goal.returns-in-Err-clause-fault
returns-in-Err-clause-fault g c =
    elim c.in-Err.ensures.reads.faults.0 [
      | inl is ↦ inr (inr (λ h.
          let file = (g.D.Disk.now c.args.disk.now).bytes in
          let it = c.requires.shown (c.read_tail.ensures.reads.honest h) in
          let named : layout_of c.layout-version.result ≡ layout_in file = c.layout-version.ensures
          ∙ ap (λ (x : Header). layout_named x.version) it.header.is in
          let none = subst
          (λ (l : Layout). tail (ring_of l (sizes_of c.args.header.limits)) c.args.header.count file
          ≡ None) named (c.in-Err.ensures.bad is h) in
          subst (λ (e : Refusal). Reads (layout_in file) file (Err e)) (sym is)
          (reads-no-tail (layout_in file) file
          (seen c.args.header) c.args.memory.contents it.header.good it.header.is it.shown none)))
      | inr more ↦ elim more [ inl none ↦ inl none | inr device ↦ inr (inl device) ]
    ]

pub returns-then-replay-clause-means : goal.returns-then-replay-clause-means
returns-then-replay-clause-means g c = λ h.
    let file = (g.D.Disk.now c.args.disk.now).bytes in
    let it = c.requires.shown (c.read_tail.ensures.reads.honest h) in
    let named : layout_of c.layout-version.result ≡ layout_in file = c.layout-version.ensures
    ∙ ap (λ (x : Header). layout_named x.version) it.header.is in
    let run = (c.in-Ok.ensures.tail h).reads in
    let reads = subst (λ (l : Layout). tail (ring_of l (sizes_of c.args.header.limits)) c.args.header.count file
    ≡ Some (record { commands = c.in-Ok.read.1.items; room = c.in-Ok.read.0.room })) named run in
    let served = ap (λ (cs : List Command). accept_in (layout_of c.layout-version.result) c.args.memory.contents cs)
    (sym c.deref.ensures.value) ∙ c.if-replay.ensures.yes refl in
    let accepted = subst (λ (l : Layout). accept_in l c.args.memory.contents c.in-Ok.read.1.items
    ≡ Some c.replay.new.memory.contents) named served in
    record {
      header = it.header.is;
      holds = (c.in-Ok.ensures.tail h).holds;
      means = reads-all (layout_in file) file
          (seen c.args.header) c.args.memory.contents it.header.good it.header.is it.shown
          c.in-Ok.read.1.items c.in-Ok.read.0.room c.in-Ok.read.0.count c.replay.new.memory.contents reads accepted
          c.in-Ok.ensures.journal.2;
    }

pub returns-else-replay-clause-fault : goal.returns-else-replay-clause-fault
returns-else-replay-clause-fault g c = inr (inr (λ h.
    let file = (g.D.Disk.now c.args.disk.now).bytes in
    let it = c.requires.shown (c.read_tail.ensures.reads.honest h) in
    let named : layout_of c.layout-version.result ≡ layout_in file = c.layout-version.ensures
    ∙ ap (λ (x : Header). layout_named x.version) it.header.is in
    let reads = subst (λ (l : Layout). tail (ring_of l (sizes_of c.args.header.limits)) c.args.header.count file
    ≡ Some (record { commands = c.in-Ok.read.1.items; room = c.in-Ok.read.0.room })) named
    (c.in-Ok.ensures.tail h).reads in
    let served = ap (λ (cs : List Command). accept_in (layout_of c.layout-version.result) c.args.memory.contents cs)
    (sym c.deref.ensures.value) ∙ c.if-replay.ensures.no refl in
    let un = subst (λ (l : Layout). accept_in l c.args.memory.contents c.in-Ok.read.1.items ≡ None) named served in
    reads-unaccepted (layout_in file) file
    (seen c.args.header) c.args.memory.contents it.header.good it.header.is it.shown
    c.in-Ok.read.1.items c.in-Ok.read.0.room reads un))

pub returns-then-replay-clause-parts : goal.returns-then-replay-clause-parts
returns-then-replay-clause-parts g c =
    let accepted = ap (λ (cs : List Command). accept_in
    (layout_of c.layout-version.result) c.args.memory.contents cs) (sym c.deref.ensures.value)
    ∙ c.if-replay.ensures.yes refl in
    let same = accepted-sizes
    (layout_of c.layout-version.result) c.args.memory.contents c.replay.new.memory.contents c.in-Ok.read.1.items
    accepted in
    record {
      area = c.requires.under.area;
      sizes = record {
        cells = same.0 ∙ c.requires.under.sizes.cells;
        elements = same.1
            ∙ c.requires.under.sizes.elements;
      };
      journal = record {
        ring = c.in-Ok.ensures.journal.0
            ∙ ap (λ (l : Layout). ring_of l (sizes_of c.args.header.limits)) c.layout-version.ensures;
        first = c.in-Ok.ensures.journal.1;
        begun = omega (arith, c.in-Ok.ensures.journal.2);
        none = c.in-Ok.ensures.journal.3;
      };
    }
