use Rattle.std.proofs.Common.{◌≡◌, ◌+◌, ◌≤◌, List, length, Option}
use Rattle.im_front.specs.declared.asks.TheConstants.{MOST_ASKED}
use Rattle.im_dialogue.specs.{Backups.Backup, declared.asking.Question.Question, Talk.TalksOn, Together.AreAsked}
use Rattle.im_dialogue.specs.Serving.{told_by_it}

abbrev pub invariant-loop-group : Rattle.im_dialogue.proofs.serving.Dialogue.drain.Given.invariant-loop-group
invariant-loop-group g l = record {
  talks : (kept : List Backup) (left : Option (List (Option Question)))
      → TalksOn l.fn.self.setting.watch l.fn.self.front.session (told_by_it l.fn.self kept left) l.self.front.session
      (told_by_it l.self kept left);
  asked : AreAsked l.self.front.asked;
  few : length l.self.front.asked + l._group ≤ MOST_ASKED;
  same : l.self.setting ≡ l.fn.self.setting;
  line : l.self.drafts.line ≡ l.fn.self.drafts.line;
}
