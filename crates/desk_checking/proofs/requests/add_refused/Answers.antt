use Rattle.std.proofs.Common.{◌<◌, ◌≤◌, ◌∙◌, ◌++◌, [], ◌∷◌, Option, append-nil, ap, arith, length, sym, take}
use Rattle.std.proofs.lemmas.List.{length-append, take-append-le, take_all}
use Rattle.desk_requests.specs.Gate.{listed}
use Rattle.desk_requests.specs.declared.refused.RefusedLine.{RefusedLine}
use Rattle.desk_checking.specs.Requests.{most_refused}
use Rattle.desk_checking.proofs.requests.add_refused.Goals as goal

pub returns-then-len-ge-MOST_REFUSED : goal.returns-then-len-ge-MOST_REFUSED
returns-then-len-ge-MOST_REFUSED c = λ few.
    let xs = c.args.refused.now.items in
    let full : most_refused ≤ length xs = omega (arith, c.args.refused.now.ok.0, c.len.ensures, c.if-len-ge-MOST_REFUSED.true) in
    sym (take-append-le most_refused xs (listed c.args.found) full ∙ take_all most_refused xs few)

pub returns-in_ok-push : goal.returns-in_ok-push
returns-in_ok-push c = λ few.
    let xs = c.args.refused.now.items in
    let more = c.in-Some.line ∷ [] in
    let room : length xs < most_refused = omega (arith, c.args.refused.now.ok.0, c.len.ensures, c.if-len-ge-MOST_REFUSED.false) in
    c.in_ok-push.ensures.items ∙ sym (take_all most_refused (xs ++ more) (omega (arith, room, length-append xs more)))
    ∙ ap (λ (found : Option RefusedLine). take most_refused (xs ++ listed found)) (sym c.in-Some.is)

pub returns-in_default : goal.returns-in_default
returns-in_default c = λ few.
    let xs = c.args.refused.now.items in
    sym (ap (λ (found : Option RefusedLine). take most_refused (xs ++ listed found)) c.in_default.is ∙ ap (take most_refused) (append-nil xs) ∙ take_all most_refused xs few)
