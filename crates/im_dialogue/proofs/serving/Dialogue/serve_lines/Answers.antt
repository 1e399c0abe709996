use Rattle.std.proofs.Common.{true, false, List, [], None, string_bytes, Option, option_map, MatchResult, sym, refl}
use Rattle.std.proofs.Common.{◌∙◌, subst}
use Rattle.std.proofs.KnownBytes.{Appends-nil}
use Rattle.im_front.specs.State.{FrontState}
use Rattle.im_dialogue.proofs.{HearingLemmas.left_goes, HearingLemmas.left_zero, TalkLemmas.end_here}
use Rattle.im_dialogue.proofs.ServeLemmas.{ended_put, grown_on, last_put, put_some, then_ended, then_told}
use Rattle.im_dialogue.proofs.ServeLemmas.{told_nothing_yet}
use Rattle.im_dialogue.specs.declared.{asking.Question.Question, serving.Setting.Setting}
use Rattle.im_dialogue.specs.Hearing.{left_behind, questions_in, questions_left}
use Rattle.im_dialogue.specs.{Serving.told_by_it, Serving.told_onto, Together.AreAsked}
use Rattle.im_dialogue.specs.Talk.{outputs, TalkEnds, TalksOn, with_input, with_left}
use Rattle.im_dialogue.proofs.serving.Dialogue.serve_lines.Goals as goal

pub loop-served-init : goal.loop-served-init
loop-served-init g c = record {
  talks = told_nothing_yet c.args.self.now.setting.watch c.args.self.now.front.session
      (g.W.Write.contents c.args.out.now) c.args.self.now.front.asked (string_bytes c.args.self.now.drafts.draft.text)
      (g.B.Backups.kept c.args.backups.now) (questions_left (g.R.Read.remaining c.args.input.now)) c.requires.asked
      c.requires.told;
  grown = ([], Appends-nil (g.W.Write.contents c.args.out.now));
  asked = subst AreAsked (sym c.requires.asked) tt;
  same = refl;
}

pub loop-served-preserved : goal.loop-served-preserved
loop-served-preserved g c =
    let start = c.args.self.now in
    let watch = start.setting.watch in
    let mid = c.loop-served.self in
    let new = c.serve_rested.new.self in
    let inv = c.loop-served.invariant in
    let was = with_input (g.R.Read.remaining c.args.input.now)
    (outputs (g.W.Write.contents c.args.out.now) (g.B.Backups.kept c.args.backups.now)) in
    let held = g.W.Write.contents c.loop-served.out in
    let text = string_bytes mid.drafts.draft.text in
    let is = string_bytes new.drafts.draft.text in
    let been = g.B.Backups.kept c.loop-served.backups in
    let kept = g.B.Backups.kept c.serve_rested.new.backups in
    let known = questions_left (g.R.Read.remaining c.loop-served.input) in
    let later = g.R.Read.remaining c.serve_rested.new.input in
    let rest = option_map questions_in later in
    let told = then_told watch start.front.session mid.front.session was held mid.front.asked text been known inv.talks
    new.front.session new.front.asked is kept (left_behind true rest)
    (subst (λ (s : Setting). TalksOn s.watch mid.front.session (told_by_it mid been known) new.front.session
    (told_by_it new kept (left_behind true rest))) inv.same
    (rw c.in-Ok-true.field-0-test at c.in-Ok-true.ensures.talks)) in
    let last = c.put_due.new.self in
    let now = g.W.Write.contents c.put_due.new.out in
    let left = string_bytes last.drafts.draft.text in
    let puts = c.in-Ok.ensures.put in
    record {
      talks = subst (λ (f : FrontState _). TalksOn watch start.front.session was f.session
          (told_onto now f.asked left kept (questions_left later))) (sym c.put_due.ensures.front)
          (subst (λ (l : Option (List (Option Question))). TalksOn watch start.front.session was new.front.session
          (told_onto now new.front.asked left kept l)) (left_goes later)
          (put_some watch start.front.session new.front.session was held new.front.asked is kept (left_behind true rest)
          told now left puts));
      grown = grown_on (g.W.Write.contents c.args.out.now) held now is left inv.grown puts;
      asked = subst (λ (f : FrontState _). AreAsked f.asked) (sym c.put_due.ensures.front) c.in-Ok-true.ensures.asked;
      same = c.put_due.ensures.same ∙ c.serve_rested.ensures.same ∙ inv.same;
    }

pub returns-in-Ok-false-clause-talks : goal.returns-in-Ok-false-clause-talks
returns-in-Ok-false-clause-talks g c =
    let start = c.args.self.now in
    let watch = start.setting.watch in
    let mid = c.loop-served.self in
    let new = c.serve_rested.new.self in
    let inv = c.loop-served.invariant in
    let was = with_input (g.R.Read.remaining c.args.input.now)
    (outputs (g.W.Write.contents c.args.out.now) (g.B.Backups.kept c.args.backups.now)) in
    let held = g.W.Write.contents c.loop-served.out in
    let text = string_bytes mid.drafts.draft.text in
    let is = string_bytes new.drafts.draft.text in
    let been = g.B.Backups.kept c.loop-served.backups in
    let kept = g.B.Backups.kept c.serve_rested.new.backups in
    let known = questions_left (g.R.Read.remaining c.loop-served.input) in
    let later = g.R.Read.remaining c.serve_rested.new.input in
    let rest = option_map questions_in later in
    let told = then_told watch start.front.session mid.front.session was held mid.front.asked text been known inv.talks
    new.front.session new.front.asked is kept (left_behind false rest)
    (subst (λ (s : Setting). TalksOn s.watch mid.front.session (told_by_it mid been known) new.front.session
    (told_by_it new kept (left_behind false rest))) inv.same
    (rw c.in-Ok-false.field-0-test at c.in-Ok-false.ensures.talks)) in
    let none = rw c.in-Ok-false.field-0-test at c.in-Ok-false.ensures.none in
    let now = g.W.Write.contents c.put_out.new.out in
    subst (λ (l : Option (List (Option Question))). MatchResult c.put_out.result
    (λ done. TalksOn watch start.front.session was new.front.session (with_left l (outputs now kept)))
    (λ e. TalkEnds watch start.front.session was new.front.session (outputs now kept))) (left_zero later)
    (last_put watch start.front.session new.front.session was held now new.front.asked is inv.grown.0 kept
    (left_behind false rest) c.put_out.result told (none refl) inv.grown.1 c.put_out.ensures.whole
    c.put_out.ensures.begins)

pub returns-in-Err-clause-talks : goal.returns-in-Err-clause-talks
returns-in-Err-clause-talks g c =
    let start = c.args.self.now in
    let watch = start.setting.watch in
    let mid = c.loop-served.self in
    let new = c.serve_rested.new.self in
    let inv = c.loop-served.invariant in
    let was = with_input (g.R.Read.remaining c.args.input.now)
    (outputs (g.W.Write.contents c.args.out.now) (g.B.Backups.kept c.args.backups.now)) in
    let held = g.W.Write.contents c.loop-served.out in
    let text = string_bytes mid.drafts.draft.text in
    let is = string_bytes new.drafts.draft.text in
    let been = g.B.Backups.kept c.loop-served.backups in
    let kept = g.B.Backups.kept c.serve_rested.new.backups in
    let known = questions_left (g.R.Read.remaining c.loop-served.input) in
    let later = g.R.Read.remaining c.serve_rested.new.input in
    let rest = option_map questions_in later in
    ended_put watch start.front.session new.front.session was held (g.W.Write.contents c.put_out-put.new.out)
    new.front.asked is inv.grown.0 kept None inv.grown.1 c.put_out-put.ensures.begins
    (then_ended watch start.front.session mid.front.session was held mid.front.asked text been known inv.talks
    new.front.session new.front.asked is kept None
    (subst (λ (s : Setting). TalkEnds s.watch mid.front.session (told_by_it mid been known) new.front.session
    (told_by_it new kept None)) inv.same c.in-Err.ensures.talks))

pub returns-in-Err-put_due-clause-talks : goal.returns-in-Err-put_due-clause-talks
returns-in-Err-put_due-clause-talks g c =
    let start = c.args.self.now in
    let watch = start.setting.watch in
    let mid = c.loop-served.self in
    let new = c.serve_rested.new.self in
    let inv = c.loop-served.invariant in
    let was = with_input (g.R.Read.remaining c.args.input.now)
    (outputs (g.W.Write.contents c.args.out.now) (g.B.Backups.kept c.args.backups.now)) in
    let held = g.W.Write.contents c.loop-served.out in
    let text = string_bytes mid.drafts.draft.text in
    let is = string_bytes new.drafts.draft.text in
    let been = g.B.Backups.kept c.loop-served.backups in
    let kept = g.B.Backups.kept c.serve_rested.new.backups in
    let known = questions_left (g.R.Read.remaining c.loop-served.input) in
    let later = g.R.Read.remaining c.serve_rested.new.input in
    let rest = option_map questions_in later in
    let told = then_told watch start.front.session mid.front.session was held mid.front.asked text been known inv.talks
    new.front.session new.front.asked is kept (left_behind true rest)
    (subst (λ (s : Setting). TalksOn s.watch mid.front.session (told_by_it mid been known) new.front.session
    (told_by_it new kept (left_behind true rest))) inv.same
    (rw c.in-Ok-true.field-0-test at c.in-Ok-true.ensures.talks)) in
    subst (λ (f : FrontState _). TalkEnds watch start.front.session was f.session
    (outputs (g.W.Write.contents c.put_due.new.out) kept)) (sym c.put_due.ensures.front)
    (ended_put watch start.front.session new.front.session was held (g.W.Write.contents c.put_due.new.out)
    new.front.asked is inv.grown.0 kept None inv.grown.1 c.put_due.ensures.begins
    (end_here watch start.front.session new.front.session was
    (told_onto held new.front.asked is kept (left_behind true rest)) None told))

-- no input has so many lines
pub returns-clause-talks : goal.returns-clause-talks
returns-clause-talks g c =
    let start = c.args.self.now in
    let mid = c.loop-served.self in
    let inv = c.loop-served.invariant in
    let held = g.W.Write.contents c.loop-served.out in
    let text = string_bytes mid.drafts.draft.text in
    let kept = g.B.Backups.kept c.loop-served.backups in
    let was = with_input (g.R.Read.remaining c.args.input.now)
    (outputs (g.W.Write.contents c.args.out.now) (g.B.Backups.kept c.args.backups.now)) in
    let known = questions_left (g.R.Read.remaining c.loop-served.input) in
    ended_put start.setting.watch start.front.session mid.front.session was held held mid.front.asked text inv.grown.0
    kept None inv.grown.1 (0, Appends-nil held)
    (end_here start.setting.watch start.front.session mid.front.session was
    (told_onto held mid.front.asked text kept known) None inv.talks)
