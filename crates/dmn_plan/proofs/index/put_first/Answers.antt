use Rattle.std.proofs.Common.{sym, ap, ◌∙◌, is_some, if◌then◌else◌, Some, None}
use Rattle.std.specs.Prelude.{bytes_eq}
use Rattle.std.specs.BTreeMap.{get_by_text}
use Rattle.dmn_plan.specs.Indexed.{first_of}
use Rattle.dmn_plan.proofs.Indexing.{put_new}
use Rattle.dmn_plan.proofs.index.put_first.Goals as goal

pub returns : goal.returns
returns c = λ n.
    put_new c.args.plans.now c.insert.new.self c.in_ok-key.key c.args.plan c.in_ok-insert.ensures.updates
    (ap (λ n. is_some (get_by_text c.args.plans.now n)) (sym c.as_str-2.ensures.value) ∙ sym c.contains_key.ensures ∙ c.if-contains_key.false) n
    ∙ ap (λ k. first_of (get_by_text c.args.plans.now n) (if bytes_eq n k then Some c.args.plan else None)) (c.in_ok-key.ensures.ok ∙ c.as_str.ensures.value)
