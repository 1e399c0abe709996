use Rattle.std.proofs.Common.{◌≡◌, ℕ, true, List, take, Option, ap, ◌∙◌, subst, arith, Bor, rules}
use Rattle.std.specs.{Char.is_ascii, List.list_all}
use Rattle.im_script.{proofs.WordLemmas.counted_by, specs.Script.Draft, specs.Script.draft_of, specs.Script.SaysAs}
use Rattle.im_script.specs.{declared.script.Said.Said, Grammar.is_short, Grammar.texts}

pub returns : Rattle.im_script.proofs.reader.Reader.read_line.Goals.returns
returns c =
    let P : Option (Draft × Said) → Type 0 = λ n. SaysAs c.take_words.result n
    (draft_of c.take_words.new.self) in
    let short : is_short c.args.line.now ≡ true = first_of (search rules, cc, grind arith) in
    let plain : list_all is_ascii c.args.line.now ≡ true = first_of (search rules, cc, grind arith) in
    subst P (counted_by (draft_of c.args.self.now) c.args.line.now (texts c.as_slice.result.now) short plain
    (ap (λ (w : List (Bor (List ℕ))). take 5 (texts w)) c.as_slice.ensures.value ∙ c.in-Some.ensures.words))
    c.take_words.ensures
