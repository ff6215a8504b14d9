use Rattle.std.proofs.Common.{◌∙◌, sym}
use Rattle.dmn_analysis.proofs.Ranks.{place_missed}
use Rattle.dmn_analysis.proofs.ranking.place_of.Goals as goal

pub returns-in-None : goal.returns-in-None
returns-in-None c = c.requires ∙ place_missed c.args.listed.now c.args.value.now (sym c.listed_place.ensures ∙ c.in-None.is)
