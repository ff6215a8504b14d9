use Rattle.dmn_explain.proofs.Pieces.{miss_added}
use Rattle.dmn_explain.proofs.misses.add_miss.Goals as goal

pub returns : goal.returns
returns c =
    miss_added c.args.text.now c.push.new.self c.add_key.new.text c.add_number.new.self c.add_key-2.new.text c.add_number-2.new.self c.push-2.new.self c.args.miss.now.number c.args.miss.now.column
    c.in_ok-push.ensures c.in_ok-add_key.ensures c.in_ok-add_number.ensures c.in_ok-add_key-2.ensures c.in_ok-add_number-2.ensures c.in_ok-push-2.ensures
