-- A reader that prompts. (Own.)
use Rattle.im_program.specs.declared.prompting.Prompter.{Prompter}

-- the reader that is prompted for
abbrev pub prompted : {R I : Type 0} → Prompter R I → I
prompted prompter = prompter.input
