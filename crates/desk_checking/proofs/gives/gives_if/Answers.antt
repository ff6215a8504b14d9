use Rattle.std.proofs.Common.{◌≡◌, ◌∙◌, false, map, refl, sym, true}
use Rattle.desk_ranges.specs.Gives.{written_name}
use Rattle.desk_checking.specs.GivesTold.{looks_at_services}
use Rattle.desk_checking.proofs.Lawful.{asked, unasked}
use Rattle.desk_checking.proofs.gives.gives_if.Goals as goal

pub returns-then-not-looks_at_services : goal.returns-then-not-looks_at_services
returns-then-not-looks_at_services c =
    let options = c.args.options in
    let off : looks_at_services options ≡ false = sym c.looks_at_services.ensures ∙ c.if-not-looks_at_services.true in
    unasked (looks_at_services options) options.gives options.strict_null c.args.plan.now c.args.domains.now (map written_name c.args.services.now) c.new.result.items false refl off c.new.ensures.items

pub returns : goal.returns
returns c =
    let options = c.args.options in
    let on : looks_at_services options ≡ true = sym c.looks_at_services.ensures ∙ c.if-not-looks_at_services.false in
    asked (looks_at_services options) options.strict_null c.args.plan.now c.args.domains.now (map written_name c.args.services.now) c.in_ok-gives.gives on c.in_ok-gives.ensures
