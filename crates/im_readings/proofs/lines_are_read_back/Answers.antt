use Rattle.im_text.specs.Said.{said_in}
use Rattle.im_readings.proofs.FeedLemmas.{is_one_line}
use Rattle.im_readings.proofs.SaidLemmas.{first_lines, line_same, lines_same, quiet_same, read_back, refusals_same}
use Rattle.im_readings.proofs.lines_are_read_back.Goals as goal

pub returns-clause-one : goal.returns-clause-one
returns-clause-one c = λ style line other fits.
    is_one_line (said_in style line) ((read_back style other).1 line fits).1

pub returns-clause-alike : goal.returns-clause-alike
returns-clause-alike c = λ style a b other. line_same style (read_back style other) a b

pub returns-clause-all : goal.returns-clause-all
returns-clause-all c = λ style a b other. lines_same style (read_back style other) a b

pub returns-clause-begins : goal.returns-clause-begins
returns-clause-begins c = λ style a b rest other p q e.
    let it = first_lines style (read_back style other) a b rest p q e in (it.0, it.1)

pub returns-clause-quiet : goal.returns-clause-quiet
returns-clause-quiet c = refusals_same

pub returns-clause-only : goal.returns-clause-only
returns-clause-only c = quiet_same
