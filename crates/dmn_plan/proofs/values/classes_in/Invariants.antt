use Rattle.std.proofs.Common.{◌≡◌, List, Bool, length}
use Rattle.serde_json.specs.View.{view, members_view}
use Rattle.dmn_plan.specs.Classes.{AreMarked, AreClassesOf}
use Rattle.dmn_plan.proofs.NameClasses.{IsMore}
use Rattle.dmn_plan.proofs.values.classes_in.Given as goal

abbrev pub invariant-loop-key : goal.invariant-loop-key
invariant-loop-key l = record {
  count : length l.classes ≡ 64;
  marked : (m : List Bool) → IsMore l.classes m → AreMarked m (members_view l.key-iterator) → AreClassesOf m (view l.inputs);
}
