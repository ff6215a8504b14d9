use Rattle.std.proofs.Common.{◌≡◌, [], ◌++◌, None, map, drop, string_bytes}
use Rattle.dmn_form.specs.ModelView.{model_view}
use Rattle.dmn_plan.specs.Items.{have_names, have_needs, have_logic}
use Rattle.dmn_plan.specs.Plans.{AreNamed}
use Rattle.dmn_plan.proofs.items.input_items.Given as goal

abbrev pub invariant-loop-input : goal.invariant-loop-input
invariant-loop-input l =
    ((model_view l.model).inputs ≡ have_names l.items.items ++ map string_bytes (drop l.input-index l.input-items))
    × (map (λ n. []) (model_view l.model).inputs ≡ have_needs l.items.items ++ map (λ n. []) (map string_bytes (drop l.input-index l.input-items)))
    × (map (λ n. None) (model_view l.model).inputs ≡ have_logic l.items.items ++ map (λ n. None) (map string_bytes (drop l.input-index l.input-items)))
    × AreNamed (model_view l.model) l.items.items
