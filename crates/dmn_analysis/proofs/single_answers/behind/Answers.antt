use Rattle.std.proofs.Common.{◌∙◌, refl, sym, subst, map}
use Rattle.dmn_analysis.specs.Searching.{Scene}
use Rattle.dmn_analysis.specs.Telling.{IsBehind}
use Rattle.dmn_analysis.proofs.Answering.{behind_from}
use Rattle.dmn_analysis.proofs.single_answers.behind.Goals as goal

pub returns : goal.returns
returns c =
    let words = c.args.words.now in
    let rules = c.args.rows.now in
    let s : Scene = record { words = words; rules = rules; chosen = c.args.rule; first = c.args.others.items; whole = c.in_ok-copy.copy.items } in
    let knows = c.in_ok-search.ensures.known s refl refl refl refl refl in
    let done = c.is_done.ensures.done c.if-not-is_done.false in
    let none = sym c.deref-2.ensures.value ∙ done.0 in
    let unopened = sym c.deref-3.ensures.value ∙ done.1 in
    let covered = sym c.deref.ensures.value ∙ c.are_covered.ensures c.if-not-are_covered.false in
    subst (λ cs. IsBehind words rules cs c.args.rule c.args.others.items) c.in_ok-copy.ensures.items
    (behind_from s c.in_ok-search.search knows none unopened covered)
