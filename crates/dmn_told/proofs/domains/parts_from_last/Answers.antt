use Rattle.std.proofs.Common.{rules}
use Rattle.std.specs.Prelude.{string_bytes}
use Rattle.dmn_told.proofs.Parting.{part_turn, parts_done}
use Rattle.dmn_told.proofs.domains.parts_from_last.Goals as goal

pub loop-first-preserved : goal.loop-first-preserved
loop-first-preserved c = record {
  utf8 = search rules;
  split = part_turn string_bytes c.args.text.now c.in-Some.first.now c.loop-first.rest.now c.in-Some.others.now c.loop-first.names.items c.push.new.self.items c.in_ok-name.name c.loop-first.invariant.split (c.in-Some.ensures).0
      c.in_ok-name.ensures.ok c.in_ok-push.ensures.items;
}

pub returns : goal.returns
returns c =
    parts_done string_bytes c.args.text.now c.loop-first.rest.now c.loop-first.names.items c.push-2.new.self.items c.reverse.new.self.items c.in_ok-last.last c.loop-first.invariant.split c.in_default.ensures c.in_ok-last.ensures.ok
    c.in_ok-push-2.ensures.items c.reverse.ensures.items
