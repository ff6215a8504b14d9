use Rattle.std.proofs.Common.{◌≡◌, ◌<◌, ◌∙◌, sym, ap, arith, subst, length, map, true}
use Rattle.feel_value.specs.Distinct.{are_distinct}
use Rattle.dmn_table.specs.Parts.{names_of}
use Rattle.dmn_explain.specs.ByName.{ArePlaces}
use Rattle.dmn_explain.proofs.Naming.{tells_outputs}
use Rattle.dmn_explain.proofs.columns.places_for.Goals as goal

pub returns : goal.returns
returns c =
    let os = c.args.outputs.now in
    let named : map (λ n. n.now) c.deref.result.now ≡ names_of os = ap (map (λ n. n.now)) c.deref.ensures.value ∙ c.in_ok-names.ensures in
    let named_again : map (λ n. n.now) c.deref-2.result.now ≡ names_of os = ap (map (λ n. n.now)) c.deref-2.ensures.value ∙ c.in_ok-names.ensures in
    let distinct : are_distinct (names_of os) ≡ true = ap are_distinct (sym named) ∙ sym c.are_distinct.ensures ∙ c.if-not-are_distinct.false in
    let few : length os < 10000 = omega (arith, c.if-outputs-gt-FEW.false) in
    tells_outputs os c.in_ok-places.places.entries (λ one. omega (arith, one, c.if-outputs-lt2.false)) few distinct
    (subst (λ ns. ArePlaces ns c.in_ok-places.places.entries) named_again c.in_ok-places.ensures)
