use Rattle.std.proofs.Common.{◌∙◌, sym, arith, length}
use Rattle.feel_text.specs.View.{views}
use Rattle.dmn_analysis.proofs.Listed.{listed_in, not_parted}
use Rattle.dmn_analysis.proofs.members.is_listed.Goals as goal

pub returns : goal.returns
returns c = λ v m of.
    let class = c.args.class.now in
    let members = c.args.members.now in
    listed_in class (views members) (length members) c.in_ok-found.found c.in_ok-found.ensures (omega (arith, c.if-members-ge-MOST.false)) v m of (not_parted class v (sym c.has_parts.ensures ∙ c.if-has_parts.false) of)
