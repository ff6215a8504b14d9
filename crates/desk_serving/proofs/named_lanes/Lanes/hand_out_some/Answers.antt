use Rattle.std.proofs.Common.{◌∙◌, List, ℕ, subst}
use Rattle.desk_serving.specs.LanesView.{lanes_in, names_in}
use Rattle.desk_serving.specs.Owed.{Hands, Queue}
use Rattle.desk_serving.proofs.Owing.{hands_then}
use Rattle.desk_serving.proofs.named_lanes.Lanes.hand_out_some.Goals as goal

pub returns-clause-hands : goal.returns-clause-hands
returns-clause-hands g c =
    let was = c.args.self.now in let mid = c.hand_out_at.new.self in let next = c.next_turn-turn.new.self in let last = c.hand_out_at-2.new.self in let new = c.go_on.new.self in
    let ns = names_in was in let one = c.hand_out_at.new.text.items in let two = c.hand_out_at-2.new.text.items in let three = c.go_on.new.text.items in
    let same = c.next_turn-turn.ensures.names ∙ c.hand_out_at.ensures.names in
    hands_then ns (lanes_in was) (lanes_in last) (lanes_in new) c.args.text.now.items two three
    (hands_then ns (lanes_in was) (lanes_in mid) (lanes_in last) c.args.text.now.items one two c.in_ok-hand_out_at.ensures.hands
    (subst (λ (ls : List Queue). Hands ns ls (lanes_in last) one two) c.next_turn-turn.ensures.lanes
    (subst (λ (xs : List (List ℕ)). Hands xs (lanes_in next) (lanes_in last) one two) same c.in_ok-hand_out_at-2.ensures.hands)))
    (subst (λ (xs : List (List ℕ)). Hands xs (lanes_in last) (lanes_in new) two three) (c.hand_out_at-2.ensures.names ∙ same) c.in_ok-go_on.ensures.hands)
