use Rattle.im_session.proofs.GroupLemmas.{acknowledged-puts, answers-no_device, failed-no_device, refused-none}
use Rattle.im_session.proofs.GroupLemmas.{some-device}

pub returns : Rattle.im_session.proofs.carrying.groups_acknowledge_what_they_put.Goals.returns
returns c = record {
  put = acknowledged-puts;
  works = answers-no_device;
  refused = refused-none;
  fault = some-device;
  dead = failed-no_device;
}
