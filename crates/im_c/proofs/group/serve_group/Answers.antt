use Rattle.std.proofs.Common.{◌≡◌, false, List, length, ap, arith, rules}
use Rattle.im_types.specs.Types.{Command, Served}
use Rattle.im_c.specs.Group.{all_meant, IsGroup}

pub tell_all-requires-clause-few : Rattle.im_c.proofs.group.serve_group.Goals.tell_all-requires-clause-few
tell_all-requires-clause-few c =
    let lives : c.args.image.now.lost ≡ false = search rules in
    let is : IsGroup c.args.commands.now (length c.args.outcomes.now) = search rules in
    let members : c.gathered.new.members.items ≡ all_meant c.args.commands.now = search rules in
    omega (
      arith,
      ap (λ (l : List Served). length l) c.as_slice.ensures.value,
      (c.serve_commands.ensures.served lives).begins.within,
      ap (λ (l : List Command). length l) members,
      is.each,
      is.told,
    )
