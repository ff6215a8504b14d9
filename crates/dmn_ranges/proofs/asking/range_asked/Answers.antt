use Rattle.std.proofs.Common.{refl}
use Rattle.dmn_analysis.specs.declared.asked.Asked.{Asked}
use Rattle.dmn_ranges.proofs.SoundAsking.{range_told}
use Rattle.dmn_ranges.proofs.asking.range_asked.Goals as goal

pub returns : goal.returns
returns c =
    let asked : Asked = record { null = c.args.range.now.nulls; truths = c.either.result; numbers = c.numbers_asked.result; texts = c.in_ok-texts.texts; parted = c.either-2.result } in
    λ v h. range_told c.args.range.now asked refl c.either.ensures c.numbers_asked.ensures c.in_ok-texts.ensures c.either-2.ensures v h
