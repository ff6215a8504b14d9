use Rattle.std.proofs.Common.{◌≡◌, length}
use Rattle.dmn_ranges.specs.Services.{views}
use Rattle.dmn_ranges.proofs.SoundServices.{FilledFrom}
use Rattle.dmn_ranges.proofs.service.fill.Given as goal

abbrev pub invariant-loop-place : goal.invariant-loop-place
invariant-loop-place l = record {
  filled : FilledFrom l.items l.order l.place-index (l.initial.told.items, views l.initial.known.items) (l.told.items, views l.known.items);
  count : length l.told.items ≡ length l.items;
  known : length l.known.items ≡ length l.items;
}
