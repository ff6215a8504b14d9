use Rattle.std.proofs.Common.{◌≡◌, ◌∙◌, ℕ, List, ap, arith, length, refl, string_bytes, subst}
use Rattle.std.proofs.lemmas.List.{length-map}
use Rattle.desk_serving.specs.LanesView.{lanes_in, names_in}
use Rattle.desk_serving.specs.Owed.{Hands}
use Rattle.desk_serving.proofs.Owing.{hands_none, hands_then}
use Rattle.desk_serving.proofs.named_lanes.Lanes.go_on.Goals as goal

pub returns-then-is_none-clause-hands : goal.returns-then-is_none-clause-hands
returns-then-is_none-clause-hands g c = let was = c.args.self.now in hands_none (names_in was) (lanes_in was) c.args.text.now.items

pub loop-place-init : goal.loop-place-init
loop-place-init g c = let was = c.args.self.now in record { links = refl; names = refl; clear = λ w. w; hands = hands_none (names_in was) (lanes_in was) c.args.text.now.items }

pub go_on_at-requires : goal.go_on_at-requires
go_on_at-requires g c =
    let was = c.args.self.now in
    record { place = omega (arith, ap length c.loop-place.invariant.names, length-map was.names.items string_bytes, was.names.ok.0) }

pub loop-place-preserved : goal.loop-place-preserved
loop-place-preserved g c =
    let was = c.args.self.now in let self = c.loop-place.self in let new = c.go_on_at.new.self in let inv = c.loop-place.invariant in let told = c.in_ok-go_on_at.ensures in
    record {
      links = told.same ∙ inv.links;
      names = told.names ∙ inv.names;
      clear = λ w. told.clear (inv.clear w);
      hands = hands_then (names_in was) (lanes_in was) (lanes_in self) (lanes_in new) c.args.text.now.items c.loop-place.text.items c.go_on_at.new.text.items inv.hands
          (subst (λ (ns : List (List ℕ)). Hands ns (lanes_in self) (lanes_in new) c.loop-place.text.items c.go_on_at.new.text.items) inv.names told.hands);
    }
