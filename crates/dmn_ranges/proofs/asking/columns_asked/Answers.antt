use Rattle.std.proofs.Common.{◌∙◌, ap, length, [], ◌∷◌, arith}
use Rattle.std.specs.List.{slice_get}
use Rattle.std.proofs.lemmas.List.{length-append}
use Rattle.std.proofs.lemmas.Option.{slice_get-get_or}
use Rattle.dmn_ranges.proofs.SoundAsking.{columns_more, columns_none}
use Rattle.dmn_ranges.proofs.asking.columns_asked.Goals as goal

pub loop-column-init : goal.loop-column-init
loop-column-init c = record { count = ap length c.in_ok-asked.ensures.items; told = columns_none c.args.columns.now _ c.in_ok-asked.ensures.items }

pub loop-column-preserved : goal.loop-column-preserved
loop-column-preserved c =
    let old = c.loop-column.asked.items in
    let more = ap length c.in_ok-push.ensures.items ∙ length-append old (c.in_ok-one.one ∷ []) in record {
      count = omega (arith, more, c.loop-column.invariant.count);
      told = columns_more c.args.columns.now old c.push.new.self.items _ c.in_ok-one.one c.loop-column.invariant.told c.in_ok-push.ensures.items
          (ap (slice_get c.args.columns.now) c.loop-column.invariant.count ∙ slice_get-get_or c.args.columns.now c.loop-column.column-index _ c.loop-column-test.true) c.in_ok-one.ensures;
    }

pub returns-clause-told : goal.returns-clause-told
returns-clause-told c = c.loop-column.invariant.told
