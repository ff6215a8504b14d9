use Rattle.std.proofs.Common.{◌≡◌, IfSome, Some, refl, subst, true, false}
use Rattle.dmn_analysis.specs.Claims.{TellsGaps, TellsOverlaps}
use Rattle.desk_checking.specs.Answering.{AskNarrowed, TellsWords}
use Rattle.desk_checking.specs.Outputs.{HitsGiveSame}
use Rattle.desk_checking.proofs.answers.Answers.among_known.Goals as goal

pub returns : goal.returns
returns c =
    let t = c.args.table.now in
    record {
      all = c.args.all.now;
      all_are = c.requires;
      whole = c.args.comes.items;
      whole_are = refl;
      every = subst (λ a. TellsGaps t a c.in_ok-every.every) c.deref.ensures.value c.in_ok-every.ensures.tells;
      known = refl;
      kinds = subst (λ a. AskNarrowed false t a c.in_ok-kinds.kinds.items) c.deref-3.ensures.value c.in_ok-kinds.ensures;
      of_kinds = subst (λ a. IfSome c.in_ok-of_kinds.of_kinds (TellsGaps t a)) c.deref-5.ensures.value c.in_ok-of_kinds.ensures;
      of_words = subst (λ a. IfSome c.in_ok-of_words.of_words (TellsWords t (Some a))) c.deref-6.ensures.value c.in_ok-of_words.ensures;
      counted = c.in_ok-overlaps.ensures.counted;
      overlaps = subst (λ a. IfSome c.in_ok-overlaps.overlaps (TellsOverlaps t a)) c.deref-2.ensures.value c.in_ok-overlaps.ensures.tells;
      faults = c.in_ok-faults.ensures;
      never = c.in_ok-never.ensures;
      ordered = c.in_ok-masks.ensures.ordered;
      masks = c.in_ok-masks.ensures.tells;
      idle = c.in_ok-idle.ensures;
      same = subst (λ a. c.in_ok-same.same ≡ Some true → HitsGiveSame t a) c.deref-7.ensures.value c.in_ok-same.ensures;
    }
