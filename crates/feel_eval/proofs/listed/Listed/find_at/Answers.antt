use Rattle.std.proofs.Common.{◌∙◌, ap}
use Rattle.feel_text.specs.Meaning.{bound}
use Rattle.feel_text.specs.Places.{last_place}
use Rattle.feel_eval.specs.Listed.{listed_of}
use Rattle.feel_eval.proofs.listed.Listed.find_at.Goals as goal

pub value_at-requires-clause-position : goal.value_at-requires-clause-position
value_at-requires-clause-position c = ap (λ n. last_place n c.self.inside.scope.now) c.as_str.ensures ∙ c.stands_at_once.ensures c.if-stands_at_once.true

pub returns-then-stands_at_once : goal.returns-then-stands_at_once
returns-then-stands_at_once c =
    c.value_at.ensures ∙ ap (λ n. bound n (listed_of c.self.inside.scope.now c.self.inside.bindings.items)) c.as_str.ensures ∙ ap (bound c.args.reference.now.name) c.self.view_is
