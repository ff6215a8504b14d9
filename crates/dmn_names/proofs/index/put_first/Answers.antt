use Rattle.std.proofs.Common.{is_some, sym, ap, ◌∙◌}
use Rattle.std.specs.Prelude.{bytes_eq}
use Rattle.std.specs.BTreeMap.{get_by_text}
use Rattle.dmn_names.specs.Index.{first_of, place_if}
use Rattle.dmn_names.proofs.FirstPlaces.{name_kept, name_put}
use Rattle.dmn_names.proofs.index.put_first.Goals as goal

pub returns-in_ok-insert : goal.returns-in_ok-insert
returns-in_ok-insert c = λ other.
    name_put c.args.places.now c.insert.new.self c.in_ok-key.key c.args.place c.in_ok-insert.ensures.updates
    (ap (λ t. is_some (get_by_text c.args.places.now t)) c.in_ok-key.ensures.ok ∙ sym c.contains_key.ensures ∙ c.if-not-contains_key.true) other
    ∙ ap (λ t. first_of (get_by_text c.args.places.now other) (place_if (bytes_eq t other) c.args.place)) c.in_ok-key.ensures.ok

pub returns-else-not-contains_key : goal.returns-else-not-contains_key
returns-else-not-contains_key c = name_kept c.args.places.now c.args.name.now c.args.place (sym c.contains_key.ensures ∙ c.if-not-contains_key.false)
