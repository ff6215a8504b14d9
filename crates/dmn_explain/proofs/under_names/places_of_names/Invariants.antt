use Rattle.std.proofs.Common.{◌≡◌, ◌≤◌, List, drop, length, map}
use Rattle.std.specs.List.{zip}
use Rattle.serde_json.specs.View.{members_view}
use Rattle.feel_value.specs.Datum.{Datum, entries_of}
use Rattle.feel_value.specs.Json.{json_members}
use Rattle.dmn_explain.specs.ByName.{each_member, json_among}
use Rattle.dmn_explain.proofs.under_names.places_of_names.Given as goal

abbrev pub invariant-loop-i : goal.invariant-loop-i
invariant-loop-i l =
    (l.i ≤ length l.names) × ((ds : List Datum) → length ds ≡ length l.names →
    each_member (json_among ds) (members_view l.places.entries) ≡ json_members (entries_of (zip (map (λ n. n.now) (drop l.i l.names)) (drop l.i ds))))

abbrev pub decreases-loop-i : goal.decreases-loop-i
decreases-loop-i l = l.i
