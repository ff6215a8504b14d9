use Rattle.std.proofs.Common.{IfSome, refl, subst}
use Rattle.dmn_analysis.specs.Claims.{TellsGaps}
use Rattle.desk_checking.proofs.answers.Answers.among_every.Goals as goal

pub returns : goal.returns
returns c = record {
  all = c.args.all.now;
  all_are = c.requires;
  whole = c.args.all.now;
  whole_are = c.requires;
  every = c.in_ok-every.ensures.tells;
  known = refl;
  kinds = c.in_ok-kinds.ensures;
  of_kinds = subst (λ a. IfSome c.in_ok-of_kinds.of_kinds (TellsGaps c.args.table.now a)) c.deref.ensures.value c.in_ok-of_kinds.ensures;
  of_words = c.in_ok-of_words.ensures;
  counted = c.in_ok-overlaps.ensures.counted;
  overlaps = c.in_ok-overlaps.ensures.tells;
  faults = c.in_ok-faults.ensures;
  never = c.in_ok-never.ensures;
  ordered = c.in_ok-masks.ensures.ordered;
  masks = c.in_ok-masks.ensures.tells;
  idle = c.in_ok-idle.ensures;
  same = c.in_ok-same.ensures;
}
