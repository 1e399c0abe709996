use Rattle.std.proofs.Common.{◌≡◌, ℕ, List, [], ◌∷◌, ◌++◌, length, slice_get, Some, sym, ap, ◌∙◌, subst}
use Rattle.{im_types.specs.Types.Waiting, im_types.specs.Types.asker, im_session.specs.Kept.SessionState}
use Rattle.im_text.specs.declared.{Lines.Lines, Waited.Waited}
use Rattle.im_serial.proofs.NotedLemmas.{noted_names}
use Rattle.im_serial.proofs.ScriptedLemmas.{as_of, asked_passes, refused_ends, told_ends, unnoted_ends, unprinted_ends}
use Rattle.im_serial.specs.{declared.waits.Mark.Mark, declared.waits.Mark.TheVariants.Here, Noted.mark_place}
use Rattle.im_serial.specs.{Noted.noted_if, Serving.EndsAt, Serving.Passes, Serving.seen_by, Serving.server_of}
use Rattle.im_serial.proofs.server.Server.ask.Goals as goal

pub returns-in-Ok-note-clause-serves : goal.returns-in-Ok-note-clause-serves
returns-in-Ok-note-clause-serves g c =
    let r = c.args.request in
    let entry = c.in-Ok-Entry.entry in
    let was = c.args.self.now in
    let mid = c.serve_one.new.session in
    let held = g.W.Write.contents c.args.out.now in
    let later = g.W.Write.contents c.print.new.out in
    let n = c.note.new.self in
    let noted = n.waited.items in
    let marked = n.places.marks.items in
    let sessions = c.note.ensures.session ∙ c.print.ensures.session in
    let it = rw c.in-Ok-Entry.field-0-is at c.in-Ok-Entry.ensures.served in
    let pushed = c.in-Ok-note.ensures.pushed ∙ ap (λ (l : List Waited). l ++ noted_if (asker r) entry)
    c.print.ensures.names in
    let names = noted_names r entry was.waited.items noted pushed in
    let others : (i : ℕ) → (i ≡ mark_place (asker r) → ⊥) → slice_get marked i
    ≡ slice_get was.places.marks.items i = λ i no. c.note.ensures.others i no
    ∙ ap (λ (l : List Mark). slice_get l i) c.print.ensures.marks in
    let mark : entry ≡ Waiting → slice_get marked (mark_place (asker r)) ≡ Some (Here (length was.waited.items)) =
    λ waits. c.in-Ok-note.ensures.mark waits ∙ ap (λ (l : List Waited). Some (Here (length l)))
    c.print.ensures.names in
    record {
      serves = λ w before added element op made. as_of (λ (t : SessionState g.row.D.Denot) (l : Lines). Passes
          (w ∷ []) before [] (before ++ added) (seen_by was held) (server_of t later l noted marked)) mid
          n.session c.print.new.self.lines n.lines sessions c.note.ensures.lines
          (asked_passes was.session mid r c.requires.next.0 c.requires.next.1 w before element op
          was.waited.items was.places.marks.items held later was.lines c.print.new.self.lines entry it
          c.in-Ok.ensures.more noted marked pushed others mark names added made);
      ends = λ w before element op. as_of (λ (t : SessionState g.row.D.Denot) (l : Lines). EndsAt (w ∷ []) before
          (seen_by was held) (server_of t later l noted marked)) mid n.session c.print.new.self.lines
          n.lines sessions c.note.ensures.lines
          (told_ends was.session mid r c.requires.next.0 c.requires.next.1 w before element op
          was.waited.items was.places.marks.items held later was.lines c.print.new.self.lines entry it
          c.in-Ok.ensures.more noted marked pushed others mark names);
    }

pub returns-in-Err-note-clause-serves : goal.returns-in-Err-note-clause-serves
returns-in-Err-note-clause-serves g c =
    let r = c.args.request in
    let entry = c.in-Ok-Entry.entry in
    let was = c.args.self.now in
    let mid = c.serve_one.new.session in
    let held = g.W.Write.contents c.args.out.now in
    let later = g.W.Write.contents c.print.new.out in
    let n = c.note.new.self in
    let marked = n.places.marks.items in
    let it = rw c.in-Ok-Entry.field-0-is at c.in-Ok-Entry.ensures.served in
    record {
      serves = tt;
      ends = λ w before element op. as_of (λ (t : SessionState g.row.D.Denot) (l : Lines). EndsAt (w ∷ []) before
          (seen_by was held) (server_of t later l n.waited.items marked)) mid n.session
          c.print.new.self.lines n.lines (c.note.ensures.session ∙ c.print.ensures.session) c.note.ensures.lines
          (subst (λ (l : List Waited). EndsAt (w ∷ []) before (seen_by was held) (server_of mid later
          c.print.new.self.lines l marked)) (sym (c.in-Err-note.ensures.pushed ∙ c.print.ensures.names))
          (unnoted_ends was.session mid r c.requires.next.0 c.requires.next.1 w before element op
          was.waited.items was.places.marks.items held later was.lines c.print.new.self.lines entry it
          c.in-Ok.ensures.more marked));
    }

pub returns-in-Err-print-clause-serves : goal.returns-in-Err-print-clause-serves
returns-in-Err-print-clause-serves g c =
    let r = c.args.request in
    let entry = c.in-Ok-Entry.entry in
    let was = c.args.self.now in
    let mid = c.serve_one.new.session in
    let held = g.W.Write.contents c.args.out.now in
    let later = g.W.Write.contents c.print.new.out in
    let n = c.print.new.self in
    let marked = n.places.marks.items in
    let it = rw c.in-Ok-Entry.field-0-is at c.in-Ok-Entry.ensures.served in
    record {
      serves = tt;
      ends = λ w before element op. as_of (λ (t : SessionState g.row.D.Denot) (l : List Waited). EndsAt (w ∷ []) before
          (seen_by was held) (server_of t later n.lines l marked)) mid n.session was.waited.items
          n.waited.items c.print.ensures.session c.print.ensures.names
          (unprinted_ends was.session mid r c.requires.next.0 c.requires.next.1 w before element op
          was.waited.items was.places.marks.items held later was.lines n.lines entry it marked
          c.in-Err-print.ensures.more);
    }

pub returns-in-Err-clause-serves : goal.returns-in-Err-clause-serves
returns-in-Err-clause-serves g c =
    let was = c.args.self.now in
    let mid = c.serve_one.new.session in
    let held = g.W.Write.contents c.args.out.now in
    record {
      serves = tt;
      ends = λ w before element op. refused_ends was.session mid c.args.request c.requires.next.0
          c.requires.next.1 w before element op was.waited.items was.places.marks.items held held was.lines was.lines
          c.in-Err.ensures.refused;
    }
