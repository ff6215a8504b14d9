use Rattle.std.proofs.Common.{◌≡◌, map}
use Rattle.serde_json.specs.View.{view, members_view}
use Rattle.dmn_form.specs.Draft.{has_only}
use Rattle.dmn_form.specs.FormView.{is_object_with}
use Rattle.dmn_form.proofs.fields.has_only.Given as goal

abbrev pub invariant-loop-key : goal.invariant-loop-key
invariant-loop-key l = is_object_with (map (λ k. k.now) l.keys) (view l.json) ≡ has_only (map (λ k. k.now) l.keys) (members_view l.key-iterator)
