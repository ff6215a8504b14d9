use Rattle.std.proofs.Common.{◌∙◌, sym, ap, bytes_eq, if◌then◌else◌, None}
use Rattle.std.specs.Cow.{cow_str_bytes}
use Rattle.feel_eval.specs.Index.{place_in}
use Rattle.feel_eval.proofs.Index.{replaced, removed}
use Rattle.dmn_ranges.proofs.names.uncover.Goals as goal

pub returns-in-Some : goal.returns-in-Some
returns-in-Some c = λ q.
    let name = c.args.name in
    replaced c.insert.result c.args.places.now c.insert.new.self name c.in-Some.place c.insert.ensures.updates c.insert.ensures.absent c.requires q
    ∙ ap (λ o. if bytes_eq (cow_str_bytes name) q then o else place_in c.args.places.now q) (sym c.in-Some.is)

pub returns-in-None : goal.returns-in-None
returns-in-None c = λ q.
    let name = c.args.name in
    removed c.as_str.result.now c.args.places.now c.remove.new.self c.remove.ensures.updates q
    ∙ ap (λ n. if bytes_eq n q then None else place_in c.args.places.now q) c.as_str.ensures.value
    ∙ ap (λ o. if bytes_eq (cow_str_bytes name) q then o else place_in c.args.places.now q) (sym c.in-None.is)
