use Rattle.std.proofs.Common.{◌∙◌, sym, ap, ◌||◌}
use Rattle.feel_value.specs.Limits.{has_name}
use Rattle.feel_value.specs.View.{datum_of, entries_view}
use Rattle.feel_value.proofs.DistinctNames.{is_found}
use Rattle.feel_value.proofs.Same.{has_name-parts}
use Rattle.feel_value.proofs.comparison.has_name.Goals as goal

pub returns-then-is_some : goal.returns-then-is_some
returns-then-is_some c =
    let before = entries_view c.split_at.result.0.now in
    let here = sym (is_found (λ v. datum_of v.now) c.find.result c.args.name.now (entries_view c.split_at.result.1.now) c.find.ensures) ∙ sym c.is_some.ensures ∙ c.if-is_some.true in
    c.if-is_some.true
    ∙ sym (has_name-parts c.args.name.now c.args.entries.now c.split_at.result.0.now c.split_at.result.1.now c.split_at.ensures.by_index.0 ∙ ap (λ b. b || has_name c.args.name.now before) here)

pub returns-else-is_some : goal.returns-else-is_some
returns-else-is_some c =
    let before = entries_view c.split_at.result.0.now in
    let here = sym (is_found (λ v. datum_of v.now) c.find.result c.args.name.now (entries_view c.split_at.result.1.now) c.find.ensures) ∙ sym c.is_some.ensures ∙ c.if-is_some.false in
    c.is_some-else-is_some.ensures ∙ is_found (λ v. datum_of v.now) c.find-else-is_some.result c.args.name.now before c.find-else-is_some.ensures
    ∙ sym (has_name-parts c.args.name.now c.args.entries.now c.split_at.result.0.now c.split_at.result.1.now c.split_at.ensures.by_index.0 ∙ ap (λ b. b || has_name c.args.name.now before) here)
