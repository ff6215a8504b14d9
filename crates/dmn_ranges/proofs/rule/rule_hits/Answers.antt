use Rattle.std.proofs.Common.{◌∙◌, refl, sym, ap, Some}
use denote.Ref.{Bor}
use Rattle.std.specs.List.{fold, zip}
use Rattle.std.specs.Slice.Iter.{iter_rest}
use Rattle.std.specs.Iterator.Adapters.{zip_first, zip_second}
use Rattle.std.proofs.lemmas.Slice.Zip.{Zip-more}
use Rattle.feel_text.specs.Tests.{Tests}
use Rattle.dmn_table.proofs.ZipEnd.{at_zip_end}
use Rattle.dmn_ranges.specs.Tables.{ask_entry, rule_hits}
use Rattle.dmn_ranges.specs.declared.outcomes.Outcomes.{Outcomes}
use Rattle.dmn_ranges.proofs.Walks.{pair_on, zip_none}
use Rattle.dmn_ranges.proofs.rule.rule_hits.Goals as goal

pub loop-entry-preserved : goal.loop-entry-preserved
loop-entry-preserved c =
    let p : Bor Tests × Bor Outcomes = (c.in-Some.entry, c.in-Some.column) in
    let more = Zip-more c.loop-entry.entry-iterator c.next.new.self (Some p) p refl c.in-Some.ensures.steps in
    pair_on (ask_entry c.args.names.now) (rule_hits c.args.names.now (zip c.args.entries.now c.args.columns.now)) c.loop-entry.hits c.ask_entry-hits.result
    (iter_rest (zip_first c.loop-entry.entry-iterator)) (iter_rest (zip_first c.next.new.self))
    (iter_rest (zip_second c.loop-entry.entry-iterator)) (iter_rest (zip_second c.next.new.self))
    c.in-Some.entry.now c.in-Some.column.now c.loop-entry.invariant more.0 more.1 c.ask_entry-hits.ensures

pub returns : goal.returns
returns c =
    sym (c.loop-entry.invariant
    ∙ at_zip_end (λ xs ys. fold (ask_entry c.args.names.now) c.loop-entry.hits (zip xs ys)) c.loop-entry.hits (λ ys. refl) (λ xs. ap (fold (ask_entry c.args.names.now) c.loop-entry.hits) (zip_none xs)) c.loop-entry.entry-iterator c.next.new.self c.in-None.ensures.steps)
