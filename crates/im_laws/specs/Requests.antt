-- A new request, and its outcome. (Own.)
use Rattle.std.specs.Prelude.{◌≡◌, IsTrue, Ok}
use Rattle.im_types.specs.Types.{Entry, Op, Request, Asks, Tells, Contents, step, is_accepted}

-- the memory after a request
abbrev pub after_request : Contents → Request → Contents
after_request m r = (step m (Asks r)).contents

-- the request is answered with this entry
abbrev pub IsAnswered : Contents → Request → Entry → Type 0
IsAnswered m r entry = (step m (Asks r)).answer ≡ Ok (Tells entry)

-- the request is accepted, and is for this operation
pub record IsNew (m : Contents) (r : Request) (op : Op) : Type 0 where
  pub accepted : IsTrue (is_accepted m (Asks r))
  pub asks : r.op ≡ op

-- the request is new, and is answered with this entry
pub record IsServed (m : Contents) (r : Request) (op : Op) (entry : Entry) : Type 0 where
  pub is_new : IsNew m r op
  pub answered : IsAnswered m r entry
