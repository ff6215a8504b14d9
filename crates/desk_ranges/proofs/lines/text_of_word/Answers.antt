use Rattle.desk_ranges.proofs.Words.{no_text, text_found}
use Rattle.desk_ranges.proofs.lines.text_of_word.Goals as goal

pub returns-in_err-text : goal.returns-in_err-text
returns-in_err-text c = rw c.from_residual.ensures (no_text c.args.word.now c.in_err-text.ensures.none)

pub returns : goal.returns
returns c = text_found c.args.word.now c.in_ok-text.text.now c.as_bytes-bytes.result.now c.in_ok-text.ensures.some c.as_bytes-bytes.ensures.value c.as_bytes-bytes.ensures.utf8
