use Rattle.std.proofs.Common.{◌∙◌, ◌++◌, ◌-◌, [], ap, take, length, unwrap_or, arith}
use Rattle.feel_text.specs.Meaning.{Bindings}
use Rattle.feel_eval.proofs.Few.{cut_third, cut_second}
use Rattle.feel_eval.proofs.env.Env.cut.Goals as goal

pub returns-then-len-lent : goal.returns-then-len-lent
returns-then-len-lent c =
    let lent : Bindings = unwrap_or c.self.inside.lent [] in
    let listed : Bindings = unwrap_or c.self.inside.listed [] in
    let added : Bindings = unwrap_or c.self.inside.added [] in
    ap (λ (ys : Bindings). lent ++ (listed ++ ys)) c.cut_added.ensures
    ∙ ap (λ n. lent ++ (listed ++ take (c.args.len - n - c.listed_len-listed.result) added)) c.lent_len-lent.ensures.number
    ∙ ap (λ n. lent ++ (listed ++ take (c.args.len - length lent - n) added)) c.listed_len-listed.ensures.number
    ∙ cut_third c.args.len lent listed added (omega (arith, c.if-len-lent.true, c.lent_len-lent.ensures.number, c.listed_len-listed.ensures.number))
    ∙ ap (take c.args.len) c.self.view_is

pub returns-then-len-lent-2 : goal.returns-then-len-lent-2
returns-then-len-lent-2 c =
    let lent : Bindings = unwrap_or c.self.inside.lent [] in
    let listed : Bindings = unwrap_or c.self.inside.listed [] in
    let added : Bindings = unwrap_or c.self.inside.added [] in
    ap (λ (ys : Bindings). lent ++ (ys ++ unwrap_or c.cut_added-2.new.added [])) c.cut_listed.ensures
    ∙ ap (λ (ys : Bindings). lent ++ (take (c.args.len - c.lent_len-lent.result) listed ++ ys)) c.cut_added-2.ensures
    ∙ ap (λ n. lent ++ (take (c.args.len - n) listed ++ [])) c.lent_len-lent.ensures.number
    ∙ cut_second c.args.len lent listed added (omega (arith, c.if-len-lent-2.true, c.lent_len-lent.ensures.number))
    (omega (arith, c.if-len-lent.false, c.lent_len-lent.ensures.number, c.listed_len-listed.ensures.number))
    ∙ ap (take c.args.len) c.self.view_is
