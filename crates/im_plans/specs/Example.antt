-- A plan, and its results. (Own.)
use Rattle.std.specs.Prelude.{ℕ, List, [], ◌∷◌, map, Option}
use Rattle.im_types.specs.Types.{Op, Reply, I, Alloc, Fetch, Store, Request, Asks, Contents, empty_contents, after}
use Rattle.im_types.specs.Types.{result_of}

-- a request of an element, under a number
abbrev pub example_request : ℕ → ℕ → Op → Request
example_request element number op = record { element = element; number = number; op = op }

-- sixteen cells and four elements, and a block of two I cells
abbrev pub two_cells : Contents
two_cells = after (empty_contents 16 4) (Asks (example_request 0 1 (Alloc I 2)) ∷ [])

-- two fetches, the two stores, a fetch of a cell that another fetched too, and one in no block
abbrev pub a_plan : List Request
a_plan =
    example_request 1 1 (Fetch 0) ∷ example_request 1 2 (Fetch 1) ∷ example_request 2 1 (Store 0 5)
    ∷ example_request 2 2 (Store 1 6) ∷ example_request 3 1 (Fetch 0)
    ∷ example_request 3 2 (Fetch 9) ∷ []

-- the results of a plan's requests
abbrev pub results_of : Contents → List Request → List (Option Reply)
results_of m plan = map (λ r. result_of m.cells plan r.op) plan
