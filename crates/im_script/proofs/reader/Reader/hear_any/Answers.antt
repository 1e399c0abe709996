use Rattle.std.proofs.Common.{◌≡◌, ℕ, true, List, take, Option, ap, ◌∙◌, subst, arith, Bor, rules}
use Rattle.std.specs.{Char.is_ascii, List.list_all}
use Rattle.im_script.{proofs.WordLemmas.heard_by, specs.Script.Draft, specs.Script.draft_of, specs.Script.HearsAs}
use Rattle.im_script.specs.{declared.script.Heard.Heard, Grammar.is_short, Grammar.texts}

pub returns : Rattle.im_script.proofs.reader.Reader.hear_any.Goals.returns
returns c =
    let P : Option (Draft × Heard) → Type 0 = λ n. HearsAs c.hear_words.result n
    (draft_of c.hear_words.new.self) in
    let short : is_short c.args.line.now ≡ true = first_of (search rules, cc, grind arith) in
    let plain : list_all is_ascii c.args.line.now ≡ true = first_of (search rules, cc, grind arith) in
    subst P (heard_by (draft_of c.args.self.now) c.args.line.now (texts c.as_slice.result.now) short plain
    (ap (λ (w : List (Bor (List ℕ))). take 5 (texts w)) c.as_slice.ensures.value ∙ c.in-Some.ensures.words))
    c.hear_words.ensures
