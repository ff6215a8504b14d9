use Rattle.std.proofs.Common.{◌≡◌, ◌∙◌, sym, ap, drop, rules, ◌+◌, ◌-◌, arith, string_bytes, map, List, [], ℕ, Bor, get_or}
use Rattle.std.specs.List.{zip}
use Rattle.serde_json.specs.Data.{number, put}
use Rattle.serde_json.specs.View.{view, number_view, members_view}
use Rattle.serde_json.specs.declared.number.Number.{Number}
use Rattle.serde_json.specs.declared.value.Value.{the_lemmas}
use Rattle.serde_json.specs.declared.value.Value.TheVariants as value
use Rattle.serde_json.proofs.Views.{members_view-insert_entry}
use Rattle.feel_value.specs.Datum.{entries_of}
use Rattle.feel_value.specs.Json.{json_members}
use Rattle.dmn_explain.specs.ByName.{each_member, json_among}
use Rattle.dmn_explain.proofs.ByName.{name_put}
use Rattle.dmn_explain.proofs.under_names.places_of_names.Goals as goal

seen_number : (x : Number) → view (value.Number x) ≡ number (number_view x)
seen_number x = search (rules, the_lemmas)

pub loop-i-preserved : goal.loop-i-preserved
loop-i-preserved c =
    let l = c.loop-i in
    let ns = c.args.names.now in
    let d : Bor (List ℕ) = record { ref_ptr = (0, 0); now = [] } in
    let k = l.i - 1 in
    let back : k + 1 ≡ l.i = omega arith in
    let named : string_bytes c.in_ok-key.key ≡ (get_or ns (l.i - 1) d).now = c.in_ok-key.ensures.ok in
    let added = ap members_view c.in_ok-insert.ensures.entries ∙ members_view-insert_entry l.places.entries c.in_ok-key.key _ in
    let place = seen_number c.from.result ∙ ap number c.from.ensures in
    let placed = added ∙ (λ j. put (named j) (place j) (members_view l.places.entries)) in (
      omega arith,
      λ ds same.
          let rest : each_member (json_among ds) (members_view l.places.entries) ≡ json_members (entries_of (zip (map (λ n. n.now) (drop (k + 1) ns)) (drop (k + 1) ds))) =
          l.invariant.1 ds same ∙ ap (λ n. json_members (entries_of (zip (map (λ n. n.now) (drop n ns)) (drop n ds)))) (sym back) in
          ap (each_member (json_among ds)) placed ∙ name_put ns ds k d (members_view l.places.entries) (omega arith) same rest,
    )
