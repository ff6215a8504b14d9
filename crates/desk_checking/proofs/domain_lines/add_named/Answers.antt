use Rattle.std.proofs.Common.{◌≡◌, ◌∙◌, ◌++◌, ◌∷◌, [], List, ℕ, sym, ap}
use Rattle.json.specs.Print.{quoted}
use Rattle.dmn_check.specs.Pointer.{escaped}
use Rattle.desk_checking.proofs.DomainLines.{named_pieces}
use Rattle.desk_checking.proofs.domain_lines.add_named.Goals as goal

pub returns : goal.returns
returns c =
    let is : c.in-Some._quote.now ∷ c.in-Some.rest.now ≡ quoted c.args.name.now
    = sym c.in-Some.ensures.cases.0 ∙ c.as_slice.ensures.value ∙ c.in_ok-add_quoted.ensures ∙ ap (λ xs. xs ++ quoted c.args.name.now) c.new-name_text.ensures.items in
    c.in_ok-add_all_escaped.ensures ∙ ap (λ xs. xs ++ escaped c.in-Some.rest.now) c.in_ok-extend_from_slice.ensures.items
    ∙ named_pieces c.args.text.now.items c.args.name.now c.in-Some._quote.now c.in-Some.rest.now is
