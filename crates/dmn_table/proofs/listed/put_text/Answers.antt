use Rattle.std.proofs.Common.{is_some, sym, ap, ◌∙◌}
use Rattle.std.specs.Prelude.{bytes_eq}
use Rattle.std.specs.BTreeMap.{get_by_text}
use Rattle.dmn_table.specs.Listed.{first_of, place_if}
use Rattle.dmn_table.proofs.Listing.{text_kept, text_put}
use Rattle.dmn_table.proofs.listed.put_text.Goals as goal

pub returns-in_ok-insert : goal.returns-in_ok-insert
returns-in_ok-insert c = λ other.
    text_put c.args.texts.now c.insert.new.self c.in_ok-key.key c.args.place c.in_ok-insert.ensures.updates
    (ap (λ t. is_some (get_by_text c.args.texts.now t)) c.in_ok-key.ensures.ok ∙ sym c.contains_key.ensures ∙ c.if-not-contains_key.true) other
    ∙ ap (λ t. first_of (get_by_text c.args.texts.now other) (place_if (bytes_eq t other) c.args.place)) c.in_ok-key.ensures.ok

pub returns-else-not-contains_key : goal.returns-else-not-contains_key
returns-else-not-contains_key c = text_kept c.args.texts.now c.args.text.now c.args.place (sym c.contains_key.ensures ∙ c.if-not-contains_key.false)
