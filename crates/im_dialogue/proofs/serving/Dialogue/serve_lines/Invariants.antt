use Rattle.std.proofs.Common.{◌≡◌, ℕ, List, string_bytes}
use Rattle.std.specs.Io.KnownBytes.{Appends}
use Rattle.im_dialogue.specs.{Hearing.questions_left, Serving.told_onto, Together.AreAsked}
use Rattle.im_dialogue.specs.Talk.{outputs, TalksOn, with_input}

abbrev pub invariant-loop-served : Rattle.im_dialogue.proofs.serving.Dialogue.serve_lines.Given.invariant-loop-served
invariant-loop-served g l = record {
  talks : TalksOn l.fn.self.setting.watch l.fn.self.front.session
      (with_input (g.R.Read.remaining l.fn.input)
      (outputs (g.W.Write.contents l.fn.out) (g.B.Backups.kept l.fn.backups))) l.self.front.session
      (told_onto (g.W.Write.contents l.out) l.self.front.asked (string_bytes l.self.drafts.draft.text)
      (g.B.Backups.kept l.backups) (questions_left (g.R.Read.remaining l.input)));
  grown : (more : List ℕ) × Appends (g.W.Write.contents l.fn.out) (g.W.Write.contents l.out) more;
  asked : AreAsked l.self.front.asked;
  same : l.self.setting ≡ l.fn.self.setting;
}
