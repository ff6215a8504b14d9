use Rattle.std.proofs.Common.{subst}
use Rattle.dmn_analysis.specs.Claims.{TellsGaps}
use Rattle.desk_checking.proofs.answers.gaps_among_words.Goals as goal

pub returns : goal.returns
returns c = record {
  words = c.in_ok-words.words.items;
  asked = c.in_ok-words.ensures;
  tells = subst (λ a. TellsGaps c.args.table.now a c.in_ok-gaps.gaps) c.deref-2.ensures.value c.in_ok-gaps.ensures.tells;
}
