use Rattle.std.proofs.Common.{◌≡◌, ◌∙◌, List, ℕ, map, Option, None, Some, option_map, Vec, Global, true, sym, ap}
use Rattle.std.specs.Prelude.{codes}
use Rattle.std.proofs.lemmas.Result.{on_ok_weaker}
use Rattle.serde_json.specs.Data.{array}
use Rattle.serde_json.specs.Written.{compact_text}
use Rattle.json_writer.specs.Bounded.{longer}
use Rattle.json_writer.proofs.Longer.{Text, longer_again}
use Rattle.dmn_explain.specs.How.{decided_by, numbers_told}
use Rattle.dmn_explain.specs.Numbered.{hit_view}
use Rattle.dmn_explain.specs.Text.{decided_text, key_text}
use Rattle.dmn_explain.proofs.table.add_decided.Goals as goal

pub returns-in_default : goal.returns-in_default
returns-in_default c =
    let none : None ≡ decided_by c.args.table.now c.args.env.now (map hit_view c.args.hits.now) = ap (option_map (λ (v : Vec ℕ Global). v.items)) (sym c.in_default.is) ∙ c.in_ok-numbers.ensures in
    on_ok_weaker c.add.result (λ is. is ∙ ap (λ (o : Option (List ℕ)). longer c.args.text.now (decided_text o)) none) c.add.ensures

pub returns : goal.returns
returns c =
    let t = c.args.text.now in
    let t1 = c.add_key.new.text in
    let ns : List ℕ = c.in-Some.numbers.items in
    let some : Some ns ≡ decided_by c.args.table.now c.args.env.now (map hit_view c.args.hits.now) = ap (option_map (λ (v : Vec ℕ Global). v.items)) (sym c.in-Some.is) ∙ c.in_ok-numbers.ensures in
    on_ok_weaker c.add_numbers.result
    (λ is. is ∙ ap (λ (xs : List ℕ). longer t1 (compact_text (array (numbers_told xs)))) c.deref.ensures.value
    ∙ ap (λ (s : Text). longer s (compact_text (array (numbers_told ns)))) c.in_ok-add_key.ensures
    ∙ longer_again t (key_text true (codes "decided")) (compact_text (array (numbers_told ns)))
    ∙ ap (λ (o : Option (List ℕ)). longer t (decided_text o)) some)
    c.add_numbers.ensures
