-- A confirmation that isn't accepted leaves all windows.
use Rattle.std.proofs.Common.{◌≡◌, ℕ, false, List, IfErr, OnOk, slice_get, slice_set, Ok, Err, Result, sym, ap, ◌∙◌}
use Rattle.im_types.specs.Types.{Confirm, Refusal, Window, Contents, confirm_window, step_confirm, is_accepted}
use Rattle.im_laws.proofs.AcceptLemmas.{unaccepted-leaves}

pub windows_stay : {T : Type 0} (m : Contents) (element upto : ℕ) (new : List Window) (result : Result T Refusal)
    → OnOk result ((w : Window) × (confirm_window upto (slice_get m.windows element) ≡ Ok w)
    × (new ≡ slice_set m.windows element w))
    → IfErr result (λ refusal. (confirm_window upto (slice_get m.windows element) ≡ Err refusal) × (new ≡ m.windows))
    → is_accepted m (Confirm element upto) ≡ false → new ≡ m.windows
windows_stay m element upto new (Ok done) ok err un =
    ok.2 ∙ sym (ap (λ (window : Result Window Refusal). (step_confirm m element window).contents.windows) ok.1)
    ∙ ap (λ (x : Contents). x.windows) (unaccepted-leaves m (Confirm element upto) un)
windows_stay m element upto new (Err refusal) ok err un = err.1
