use Rattle.std.proofs.Common.{refl, true, false}
use Rattle.feel_value.specs.Datum.{null, boolean, list, no_items}
use Rattle.dmn_analysis.proofs.Constants.{not_both}
use Rattle.dmn_analysis.proofs.kinds.Seen.every.Goals as goal

pub returns-then-self-clause-all : goal.returns-then-self-clause-all
returns-then-self-clause-all c = record {
  null = c.every_in_utf8.ensures.asked null refl;
  truths = c.every_in_utf8.ensures.asked (boolean true) refl;
  numbers = c.every_in_utf8.ensures.numbers;
  parted = c.every_in_utf8.ensures.asked (list no_items) refl;
  utf8 = λ order. c.every_in_utf8.ensures.texts;
  all = λ none. absurd (not_both c.args.self.now.has_order none c.if-self.true);
}

pub returns-clause-all : goal.returns-clause-all
returns-clause-all c = record {
  null = c.every.ensures.asked null;
  truths = c.every.ensures.asked (boolean true);
  numbers = c.every.ensures.numbers;
  parted = c.every.ensures.asked (list no_items);
  utf8 = λ order. absurd (not_both c.args.self.now.has_order c.if-self.false order);
  all = λ none. c.every.ensures.texts;
}
