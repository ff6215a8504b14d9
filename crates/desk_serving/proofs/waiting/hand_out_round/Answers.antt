use Rattle.std.proofs.Common.{List, ℕ, refl, subst}
use Rattle.std.proofs.lemmas.Result.{err_from_is_err_and}
use Rattle.desk_serving.specs.LanesView.{lanes_in, names_in}
use Rattle.desk_serving.specs.Owed.{AreFirst, AreHanded, Hands}
use Rattle.desk_serving.proofs.Owing.{handed_first, handed_none, hands_then}
use Rattle.desk_serving.proofs.Outcomes.{lanes_lost, out_failed, out_refused, out_said}
use Rattle.desk_serving.proofs.Saying.{hands_tell, tells_none}
use Rattle.desk_serving.proofs.waiting.hand_out_round.Goals as goal

pub returns-in_err-hand_out-clause-handed : goal.returns-in_err-hand_out-clause-handed
returns-in_err-hand_out-clause-handed g c =
    let names = names_in c.args.lanes.now in let old = lanes_in c.args.lanes.now in
    let is = err_from_is_err_and c.from_residual.result c.from_residual.ensures.1 in
    rw (is.1, is.2)
    (out_refused _ (AreFirst names old) (g.W.Sink.seen c.args.writer.now) (g.W.Sink.seen c.args.writer.now) _ _
    (tells_none (AreFirst names old) _ _ (handed_first names old old _ (handed_none names old))) refl)

pub returns-in_err-has_gone-clause-handed : goal.returns-in_err-has_gone-clause-handed
returns-in_err-has_gone-clause-handed g c =
    let names = names_in c.args.lanes.now in let old = lanes_in c.args.lanes.now in
    let is = err_from_is_err_and c.from_residual-in_err-has_gone.result c.from_residual-in_err-has_gone.ensures.1 in
    rw (is.1, is.2)
    (out_refused _ (AreFirst names old) (g.W.Sink.seen c.args.writer.now) (g.W.Sink.seen c.args.writer.now) _ _
    (tells_none (AreFirst names old) _ _ (handed_first names old old _ (handed_none names old))) refl)

pub returns-in_err-pass_on-clause-handed : goal.returns-in_err-pass_on-clause-handed
returns-in_err-pass_on-clause-handed g c =
    let names = names_in c.args.lanes.now in let old = lanes_in c.args.lanes.now in let writer = g.W.Sink.seen c.args.writer.now in
    let hands = hands_then names old (lanes_in c.hand_out.new.self) (lanes_in c.go_on.new.self) c.new-text.result.items c.hand_out.new.text.items c.go_on.new.text.items c.in_ok-hand_out.ensures.hands
    (subst (λ (ns : List (List ℕ)). Hands ns (lanes_in c.hand_out.new.self) (lanes_in c.go_on.new.self) c.hand_out.new.text.items c.go_on.new.text.items) c.hand_out.ensures.names c.in_ok-has_gone.ensures.hands) in
    let told = c.in_err-pass_on.ensures in
    let is = err_from_is_err_and c.from_residual-in_err-pass_on.result c.from_residual-in_err-pass_on.ensures.1 in
    rw (is.1, is.2)
    (out_failed _ _ _ _ _ _ c.in_err-pass_on.field-0.0
    (lanes_lost names names old old _ _ writer writer (g.W.Sink.seen c.pass_on.new.writer) _ _ _ _ _ _ c.in_err-pass_on.field-0.0
    refl c.new-text.ensures.items c.deref.ensures.value (tells_none (AreHanded names old old) _ _ (handed_none names old)) refl hands
    told.part told.memory told.only told.counts told.fault))

pub returns-clause-handed : goal.returns-clause-handed
returns-clause-handed g c =
    let names = names_in c.args.lanes.now in let old = lanes_in c.args.lanes.now in let new = lanes_in c.go_on.new.self in
    let writer = g.W.Sink.seen c.args.writer.now in
    let hands = hands_then names old (lanes_in c.hand_out.new.self) (lanes_in c.go_on.new.self) c.new-text.result.items c.hand_out.new.text.items c.go_on.new.text.items c.in_ok-hand_out.ensures.hands
    (subst (λ (ns : List (List ℕ)). Hands ns (lanes_in c.hand_out.new.self) (lanes_in c.go_on.new.self) c.hand_out.new.text.items c.go_on.new.text.items) c.hand_out.ensures.names c.in_ok-has_gone.ensures.hands) in
    out_said (AreHanded names old new) (AreFirst names old) writer (g.W.Sink.seen c.pass_on.new.writer) _ _ _
    (hands_tell names names old old new _ _ _ _ _ _ _ _ _ refl c.new-text.ensures.items c.deref.ensures.value (tells_none (AreHanded names old old) _ _ (handed_none names old))
    hands c.in_ok-pass_on.ensures.said)
    (c.in_ok-pass_on.ensures.counts (λ e. cc))

pub returns-then-is_empty-clause-handed : goal.returns-then-is_empty-clause-handed
returns-then-is_empty-clause-handed g c =
    let names = names_in c.args.lanes.now in let old = lanes_in c.args.lanes.now in let new = lanes_in c.go_on.new.self in
    let writer = g.W.Sink.seen c.args.writer.now in
    let hands = hands_then names old (lanes_in c.hand_out.new.self) (lanes_in c.go_on.new.self) c.new-text.result.items c.hand_out.new.text.items c.go_on.new.text.items c.in_ok-hand_out.ensures.hands
    (subst (λ (ns : List (List ℕ)). Hands ns (lanes_in c.hand_out.new.self) (lanes_in c.go_on.new.self) c.hand_out.new.text.items c.go_on.new.text.items) c.hand_out.ensures.names c.in_ok-has_gone.ensures.hands) in
    out_said (AreHanded names old new) (AreFirst names old) writer (g.W.Sink.seen c.pass_on.new.writer) _ _ _
    (hands_tell names names old old new _ _ _ _ _ _ _ _ _ refl c.new-text.ensures.items c.deref.ensures.value (tells_none (AreHanded names old old) _ _ (handed_none names old))
    hands c.in_ok-pass_on.ensures.said)
    (c.in_ok-pass_on.ensures.counts (λ e. cc))

pub returns-clause-clear : goal.returns-clause-clear
returns-clause-clear g c = λ clear. c.in_ok-has_gone.ensures.clear (c.in_ok-hand_out.ensures.clear clear)
