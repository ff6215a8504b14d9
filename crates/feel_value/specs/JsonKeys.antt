-- Internal: the keys of a JSON object rise, each before all later ones in the order of their bytes, so they are distinct.
use Rattle.std.specs.Prelude.{ℕ, List, Bool, true, ◌&&◌}
use Rattle.std.specs.Ordering.{nat_cmp, is_lt}
use Rattle.std.specs.Cmp.Lexicographic.{slice_cmp}
use Rattle.serde_json.specs.Data as json

-- whether the key is before each of the members' keys
abbrev pub is_before : List ℕ → json.Members → Bool
is_before k json.no_members = true
is_before k (json.member l d ms) = is_lt (slice_cmp nat_cmp k l) && is_before k ms

-- whether the members' own keys rise
abbrev pub in_order : json.Members → Bool
in_order json.no_members = true
in_order (json.member k d ms) = is_before k ms && in_order ms

-- Whether the keys of each object in it rise.
abbrev mutual
  pub keys_rise : json.Data → Bool
  keys_rise json.null = true
  keys_rise (json.boolean b) = true
  keys_rise (json.number n) = true
  keys_rise (json.string s) = true
  keys_rise (json.array ds) = items_rise ds
  keys_rise (json.object ms) = in_order ms && members_rise ms

  pub items_rise : json.Items → Bool
  items_rise json.no_items = true
  items_rise (json.item d ds) = keys_rise d && items_rise ds

  pub members_rise : json.Members → Bool
  members_rise json.no_members = true
  members_rise (json.member k d ms) = keys_rise d && members_rise ms
