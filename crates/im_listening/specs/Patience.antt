-- A reader that is waited for. (Own.)
use Rattle.im_listening.specs.declared.patient.Patient.{Patient}

-- the reader that is waited for
abbrev pub below : {R I : Type 0} → Patient R I → I
below patient = patient.input
