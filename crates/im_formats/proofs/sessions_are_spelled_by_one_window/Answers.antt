use Rattle.im_types.specs.Types.{layout_of}
use Rattle.im_formats.proofs.Sessions.{ring_of_version, session_bytes-one}

pub returns : Rattle.im_formats.proofs.sessions_are_spelled_by_one_window.Goals.returns
returns c = λ version w v fw fv same. session_bytes-one (layout_of version) (ring_of_version version) w v fw fv same
