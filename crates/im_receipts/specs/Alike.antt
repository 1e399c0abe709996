-- Two receipts of one request. (Own.)
use Rattle.std.specs.Prelude.{◌≡◌, false, ◌⊎◌, List, [], ◌∷◌, ◌++◌}
use Rattle.im_types.specs.Types.{Entry, Request, Line, Asks, Tells, Contents, is_accepted, end_of}
use Rattle.im_laws.specs.Entries.{IsSameOrAnswer}
use Rattle.{im_promise.specs.Traces.line_telling, im_controller.specs.Log.ReceiptState}

-- a receipt is of this request and has this entry
abbrev pub GivesEntry : ReceiptState → Request → Entry → Type 0
GivesEntry receipt r entry = (receipt.command ≡ Asks r) × (receipt.outcome ≡ Tells entry)

-- The later history goes on after the earlier one and ends in the request's line. That line has the earlier entry, or
-- the answer that has come since, and doesn't accept the request.
pub record IsToldLater (m : Contents) (r : Request) (earlier : List Line) (first : Entry) (later : List Line)
    (second : Entry) : Type 0 where
  pub between : List Line
  pub goes : later ≡ (earlier ++ between) ++ (line_telling r second ∷ [])
  pub alike : IsSameOrAnswer first second
  pub still : is_accepted (end_of m (earlier ++ between)) (Asks r) ≡ false

-- two histories that end in a request's line are the same and have one entry, or one is told later than the other
abbrev pub AreToldAlike : Contents → Request → List Line → Entry → List Line → Entry → Type 0
AreToldAlike m r one first two second =
    ((two ≡ one) × (second ≡ first)) ⊎ (IsToldLater m r one first two second ⊎ IsToldLater m r two second one first)
