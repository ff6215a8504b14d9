use Rattle.dmn_check.specs.NotesView.{notes_view}
use Rattle.dmn_check.proofs.ToldLaws.{told_of}
use Rattle.dmn_check.proofs.told.Told.of.Goals as goal

pub returns : goal.returns
returns c = λ fs e. told_of fs (notes_view c.args.notes) e
