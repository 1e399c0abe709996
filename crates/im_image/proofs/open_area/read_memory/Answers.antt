use Rattle.std.proofs.Common.{◌≡◌, length, sym, refl, ap, ◌∙◌, subst}
use Rattle.im_types.specs.Types.{Layout, layout_of, layout_named, sizes_of, image_length, area_of, Header, layout_in}
use Rattle.im_types.specs.Types.{IsShown}
use Rattle.im_records.proofs.RowLemmas.{refused-same}
use Rattle.im_image.proofs.{OpenArea.length_by, OpenArea.shown-in, Restored.shows-none}
use Rattle.im_image.specs.Headers.{seen}
use Rattle.im_image.proofs.open_area.read_memory.Goals as goal

pub read_records-requires : goal.read_records-requires
read_records-requires g c =
    let file = (g.D.Disk.now c.args.disk.now).bytes in
    let l = layout_of c.layout.result in
    let header = seen c.args.header.now in
    let long : g.D.Disk.honest c.args.disk.now → length file ≡ image_length l header.sizes = λ h.
    let sound = c.requires.sound h in
    let named : layout_in file
    ≡ l = sym (c.layout.ensures ∙ ap (λ (x : Header). layout_named x.version) sound.is) in
    length_by l header file (rw named at sound.good) sound.is in
    record { area = record { number = c.requires.area; long = long } }

pub returns-in-Ok-clause-bad : goal.returns-in-Ok-clause-bad
returns-in-Ok-clause-bad g c = λ e h m shown.
    let file = (g.D.Disk.now c.args.disk.now).bytes in
    let header = c.args.header.now in
    let is = (c.requires.sound (c.read_records.ensures.reads.honest h)).is in
    let l = layout_of c.layout.result in
    let s = sizes_of header.limits in
    let named : layout_in file ≡ l = sym (c.layout.ensures ∙ ap (λ (x : Header). layout_named x.version) is) in
    shows-none c.layout.result s (area_of l s header.area file) c.in-Ok.records header.limits.in_range
    (c.in-Ok.ensures.found h) (c.show.ensures.bad e) m
    (shown-in l (seen header) file (area_of l s header.area file) m is refl
    (subst (λ (l : Layout). IsShown l file m) named shown))

pub returns-in-Err-clause-bad : goal.returns-in-Err-clause-bad
returns-in-Err-clause-bad g c = λ e h m shown.
    let file = (g.D.Disk.now c.args.disk.now).bytes in
    let header = c.args.header.now in
    let is = (c.requires.sound (c.read_records.ensures.reads.honest h)).is in
    let l = layout_of c.layout.result in
    let s = sizes_of header.limits in
    let named : layout_in file ≡ l = sym (c.layout.ensures ∙ ap (λ (x : Header). layout_named x.version) is) in
    let shows = shown-in l (seen header) file (area_of l s header.area file) m is refl
    (subst (λ (l : Layout). IsShown l file m) named shown) in
    c.in-Err.ensures.bad (refused-same c.in-Err.refusal _ e) h shows.records shows.spelled
