use Rattle.std.proofs.Common.{◌∙◌, sym}
use Rattle.dmn_ranges.proofs.SoundAsking.{none_among}
use Rattle.dmn_ranges.proofs.asking.those.Goals as goal

pub returns-then-are_none : goal.returns-then-are_none
returns-then-are_none c = λ s h. none_among c.args.texts.items s (sym c.deref.ensures.value ∙ c.are_none.ensures c.if-are_none.true) h

pub returns : goal.returns
returns c = λ s h. h
