use Rattle.std.proofs.{Common.◌*◌, Common.length, Common.◌∙◌, Common.arith, lemmas.Result.on_ok_weaker}
use Rattle.im_types.specs.Types.{layout_of, sizes_of}
use Rattle.im_image.proofs.OpenArea.{part_of_area}

pub returns-clause-read : Rattle.im_image.proofs.open_area.read_part.Goals.returns-clause-read
returns-clause-read g c =
    let part = part_of_area (layout_of c.args.area.version)
    (sizes_of c.args.area.limits) c.area_at-begin.result _ c.args.area.number (32 * c.args.cells) (length c.args.part.now)
    (g.D.Disk.now c.args.disk.now).bytes c.area_at-begin.ensures.at
    (omega (arith, c.requires.area.number)) c.requires.inside in
    on_ok_weaker c.read.result (λ read honest. read honest ∙ part) c.read.ensures.read
