-- A script that is run once: what is known at its end. (Own.)
use Rattle.std.proofs.Common.{◌≡◌, ℕ, Bool, true, false, ◌⊎◌, List, [], ◌++◌, length, sym, refl, ap, ◌∙◌, subst, inl}
use Rattle.std.proofs.Common.{inr, ⊎_elim}
use Rattle.im_types.specs.Types.{Command, Contents, IsMemory}
use Rattle.{im_disk.specs.declared.Disk.Ghosts, im_text.proofs.SaidLemmas.prints_none}
use Rattle.im_session.specs.Kept.{IsFresh, Kept, session_of, SessionStart, SessionState}
use Rattle.im_text.specs.declared.{OutputLine.OutputLine, Style.Style, Waited.Waited}
use Rattle.im_text.specs.Said.{IsLast, Output, Prints, SaysSome, SaysWhole, Written}
use Rattle.im_serial.proofs.OnceLemmas.{met_start, shown_at, shown_written}
use Rattle.im_serial.specs.{Asked.Wanted, Asked.wanted_of, Fitting.FitsScript, Had.bases_had, Had.numbers_had}
use Rattle.im_serial.specs.Once.{Breaks, HasMade, HasServedNothing, HasShown, IsPrefix, lines_had}
use Rattle.im_serial.specs.Serving.{output_of, ScriptServer, server_of}
use Rattle.im_run.specs.Once.{IsUnrun, RanRest, RunsFrom}
use Rattle.im_run.specs.{Orders.bases_first, Running.RunOn, Tracing.TraceState}

module _ {D : Type 0} (disk : Ghosts D) (script : List Wanted) (old mid : ScriptServer D) (bases : List ℕ)
    (ready : HasServedNothing old bases) where
  abbrev found : Contents
  found = old.session.start.memory

  -- the memory that the session began with
  found_is : old.session.engine.memory ≡ old.session.start.memory
  found_is = sym (ap (λ (t : SessionState D). t.start.memory) ready.fresh)

  -- it was ended before the run
  pub unrun_by : mid.session ≡ old.session → Kept disk mid.session
      → Breaks (numbers_had old.session.engine.memory) script old mid
      → FitsScript old.session.engine.memory script ⊎ (mid ≡ old) → (new : D) (is : Written)
      (calls : TraceState) (status : ℕ) → status ≡ 1 → new ≡ mid.session.engine.disk
      → ((start : Output) (text : List OutputLine) → Prints start mid.held mid.lines text
      → (last : List OutputLine) × IsLast last × SaysSome start is (text ++ last))
      → calls ≡ record { setup = []; served = []; recorded = true }
      → IsUnrun disk script old.session.start new (output_of old) is calls status
  unrun_by same kept breaks fit new is calls status one at_disk last none = ⊎_elim by_fit by_same fit
    where
      make : (had : List OutputLine) → IsPrefix had (lines_had found (numbers_had found) script)
          → FitsScript found script ⊎ (had ≡ []) → Prints (output_of old) mid.held mid.lines had
          → IsUnrun disk script old.session.start new (output_of old) is calls status
      make had had_is fits prints = let end = last (output_of old) had prints in record {
        status_is = one;
        engine = mid.session.engine;
        kept = subst (λ (x : SessionStart D). Kept disk (session_of x [] [] mid.session.engine))
            (ap (λ (t : SessionState D). t.start) same)
            (subst (λ (l : List Command). Kept disk (session_of mid.session.start l [] mid.session.engine))
            (ap (λ (t : SessionState D). t.put) (same ∙ ready.fresh))
            (subst (λ (l : List Command). Kept disk (session_of mid.session.start mid.session.put l
            mid.session.engine)) (ap (λ (t : SessionState D). t.doubt) (same ∙ ready.fresh)) kept));
        closed = at_disk;
        had = had;
        had_is = had_is;
        fit = fits;
        last = end.0;
        last_is = end.1;
        begins = end.2;
        unserved = none;
      }

      by_fit : FitsScript old.session.engine.memory script
          → IsUnrun disk script old.session.start new (output_of old) is calls status
      by_fit it =
          let broken = breaks script [] (output_of old) (met_start script old bases ready) in
          make broken.0 (subst (λ (m : Contents). IsPrefix broken.0 (lines_had m (numbers_had m) script))
          (ap (λ (t : SessionState D). t.engine.memory) same ∙ found_is) broken.1.0.lines)
          (inl (subst (λ (m : Contents). FitsScript m script) found_is it)) broken.1.1

      by_same : mid ≡ old → IsUnrun disk script old.session.start new (output_of old) is calls status
      by_same it = make [] (lines_had found (numbers_had found) script, refl) (inr refl)
          (subst (λ (t : ScriptServer D). Prints (output_of old) t.held t.lines []) (sym it)
          (prints_none old.held old.lines ready.pending))

  module _ (known : List ℕ) (it : HasShown script bases known old mid) where
    -- the run can begin
    pub ready_rest : (waited : List Waited) → waited ≡ []
        → HasServedNothing (server_of mid.session mid.held mid.lines waited mid.marks) []
    ready_rest waited none = record {
      fresh = subst (λ (t : SessionState D). IsFresh t) (sym it.session) ready.fresh;
      works = ap (λ (t : SessionState D). t.engine.failed) it.session ∙ ready.works;
      memory = subst (λ (t : SessionState D). let m = t.engine.memory in
          IsMemory (length m.cells) (length m.windows) m) (sym it.session) ready.memory;
      waited = none;
      bases_is = refl;
      pending = it.pending;
    }

    -- it knows the bases of the blocks that the memory has
    pub bases_rest : (text : List ℕ) → script ≡ wanted_of text
        → known ≡ bases_first true mid.session.engine.memory text
    bases_rest text same = it.names
        ∙ ap (λ (b : List ℕ). b ++ bases_had (numbers_had old.session.engine.memory) 0 script) ready.bases_is
        ∙ ap (λ (t : SessionState D). bases_had (numbers_had t.engine.memory) 0 script) (sym it.session)
        ∙ ap (bases_had (numbers_had mid.session.engine.memory) 0) same

    -- it ran
    pub rest_by : (planned : Bool) (text : List ℕ) → script ≡ wanted_of text
        → FitsScript old.session.engine.memory script → (new : D) (is : Written) (calls : TraceState)
        (status : ℕ) → RunOn disk true planned text mid.session.start new (output_of mid) is calls status
        → RanRest disk planned text old.session.start new (output_of old) is calls status
    rest_by planned text same fit new is calls status run = record {
      fit = subst (FitsScript found) same (subst (λ (m : Contents). FitsScript m script) found_is fit);
      made = subst (HasMade found) same (subst (λ (m : Contents). HasMade m script) found_is it.made);
      mid = (mid.held, mid.lines.faulted);
      shown = subst (λ (s : List Wanted). SaysWhole (output_of old) (mid.held, mid.lines.faulted)
          (lines_had found (numbers_had found) s))
          same (shown_written script bases known old mid it fit ready);
      run = subst (λ (t : SessionState D). RunOn disk true planned text t.start new
          (record (output_of mid) { style = old.lines.style }) is calls status) it.session
          (subst (λ (s : Style). RunOn disk true planned text mid.session.start new
          (record (output_of mid) { style = s }) is calls status)
          (shown_at script bases known old mid it fit ready).1.1.styled run);
    }

-- the disk was honest at the start, if it is at the end
pub ends_honest : {D : Type 0} (disk : Ghosts D) (once planned : Bool) (text : List ℕ) (start : SessionStart D)
    (new : D) (was : Output) (is : Written) (calls : TraceState) (status : ℕ)
    → RunsFrom disk once planned text start new was is calls status → disk.honest new → disk.honest start.disk
ends_honest disk false planned text start new was is calls status it honest =
    it.kept.honest (subst disk.honest it.closed honest)
ends_honest disk true planned text start new was is calls status (inl it) honest =
    it.kept.honest (subst disk.honest it.closed honest)
ends_honest disk true planned text start new was is calls status (inr it) honest =
    it.run.kept.honest (subst disk.honest it.run.closed honest)
