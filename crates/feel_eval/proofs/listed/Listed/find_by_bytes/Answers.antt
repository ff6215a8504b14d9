use Rattle.std.proofs.Common.{◌∙◌, ap}
use Rattle.feel_text.specs.Meaning.{bound}
use Rattle.feel_text.specs.Places.{last_place}
use Rattle.feel_eval.specs.Listed.{listed_of}
use Rattle.feel_eval.proofs.listed.Listed.find_by_bytes.Goals as goal

pub value_at-requires-clause-position : goal.value_at-requires-clause-position
value_at-requires-clause-position c = ap (λ n. last_place n c.self.inside.scope.now) c.as_str.ensures ∙ c.stands_at.ensures c.if-stands_at.true

pub returns-then-stands_at : goal.returns-then-stands_at
returns-then-stands_at c =
    c.value_at.ensures ∙ ap (λ n. bound n (listed_of c.self.inside.scope.now c.self.inside.bindings.items)) c.as_str.ensures ∙ ap (bound c.args.reference.now.name) c.self.view_is
