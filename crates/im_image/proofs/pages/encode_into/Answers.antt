use Rattle.std.proofs.Common.{◌≡◌, ◌+◌, ◌*◌, ◌≤◌, length, sym, subst, arith, rules}
use Rattle.im_types.specs.Types.{sizes_of}
use Rattle.im_records.proofs.Places.{apart, here_is, others_are}
use Rattle.im_image.specs.Encoding.{IsAreaPage}
use Rattle.im_image.proofs.pages.encode_into.Goals as goal

pub returns-clause-page : goal.returns-clause-page
returns-clause-page c =
    let long : length c.encode_page.new.page ≡ 4096 = search rules in
    let room : 4096 * c.args.i + 4096 ≤ length c.args.area.now = omega (arith, c.requires.page, c.requires.area) in
    subst (IsAreaPage (sizes_of c.args.limits) c.args.memory.now.records c.args.i)
    (sym (here_is 4096 c.args.i c.encode_page.new.page c.args.area.now c.put_page.new.area long room
    c.put_page.ensures)) c.encode_page.ensures

pub returns-clause-others : goal.returns-clause-others
returns-clause-others c = λ k low other.
    let long : length c.encode_page.new.page ≡ 4096 = search rules in
    let room : 4096 * c.args.i + 4096 ≤ length c.args.area.now = omega (arith, c.requires.page, c.requires.area) in
    others_are 4096 c.args.i k c.encode_page.new.page c.args.area.now c.put_page.new.area long room
    (apart 4096 k c.args.i other) c.put_page.ensures
