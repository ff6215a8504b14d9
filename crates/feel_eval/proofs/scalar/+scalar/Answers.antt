use Rattle.feel_text.specs.Meaning.{den}
use Rattle.feel_text.specs.View.{view}
use Rattle.feel_eval.proofs.scalar.+scalar.Goals as goal

pub lies_between-returns : goal.lies_between-returns
lies_between-returns t c =
    let env = c.args.env.now in
    c.between.ensures (den (view c.args.value.now) env) (den (view c.args.low.now) env) (den (view c.args.high.now) env) c.scalar_value-value.ensures c.scalar_value.ensures c.scalar_value-2.ensures

pub binary-returns : goal.binary-returns
binary-returns t c =
    let env = c.args.env.now in
    c.operation.ensures (den (view c.args.left.now) env) (den (view c.args.right.now) env) c.operand-left.ensures c.operand.ensures
