use Rattle.std.proofs.Common.{◌≡◌, ◌∙◌, sym, ap, subst, arith, List, Bool, false, true, ◌<◌, length, get_or, string_bytes}
use Rattle.std.specs.Prelude.{slice_index_or}
use Rattle.std.proofs.lemmas.List.{length-set}
use Rattle.serde_json.specs.View.{members_view}
use Rattle.dmn_plan.specs.Classes.{class_of, AreMarked}
use Rattle.dmn_plan.proofs.NameClasses.{is_marked, more_marked}
use Rattle.dmn_plan.proofs.values.classes_in.Goals as goal

pub loop-key-preserved : goal.loop-key-preserved
loop-key-preserved c =
    let old = c.loop-key.classes in
    let p = c.class_of.result in
    let at : p ≡ class_of (string_bytes c.in-Some.key.now) = c.class_of.ensures.class ∙ ap class_of c.as_str.ensures.value in
    let inside : p < length old = omega (arith, c.loop-key.invariant.count, c.class_of.ensures.small) in
    record {
      count = length-set old p true ∙ c.loop-key.invariant.count;
      marked = λ m more rest.
          c.loop-key.invariant.marked m (more_marked old m p inside more)
          (subst (λ es. AreMarked m (members_view es)) (sym c.in-Some.ensures.steps)
          (ap (λ i. slice_index_or m i false) (sym at) ∙ is_marked old m p inside more, rest));
    }

pub returns : goal.returns
returns c =
    c.loop-key.invariant.marked c.loop-key.classes (λ i e. e)
    (subst (λ es. AreMarked c.loop-key.classes (members_view es)) (sym c.in-None.ensures.steps.0) tt)
