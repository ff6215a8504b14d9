use Rattle.std.proofs.Common.{◌≡◌, ◌∙◌, ◌-◌, ◌<◌, ◌≤◌, None, Some, ap, arith, length, refl}
use Rattle.json.specs.Json.{members, parse_map, read_key, value}
use Rattle.json.proofs.Grammar.{members_end, members_no_key, read_key-shorter}
use Rattle.serde_json.specs.Data.{no_members, object, put}
use Rattle.serde_json.specs.Read.{converted, of_members}
use Rattle.serde_json.specs.View.{view}
use Rattle.json_reader.specs.Listed.{most_listed}
use Rattle.json_reader.specs.Reading.{value_read}
use Rattle.json_reader.proofs.Listing.{none_listed, many_members}
use Rattle.json_reader.proofs.Reading.{members_more, no_member, one_member}
use Rattle.json_reader.proofs.listed.members_in.Goals as goal

pub members-init : goal.members-init
members-init c = (length c.args.reader.now, omega arith, omega arith, (no_members, none_listed _ c.in_ok-members.ensures.items, refl))

pub returns-in_default : goal.returns-in_default
returns-in_default c =
    let i = c.members.invariant in
    let none : read_key c.members.reader ≡ None = grind arith in
    ap (parse_map object) (i.3.2 ∙ ap (converted (λ ms. of_members ms i.3.0)) (members_no_key (value c.args.depth) i.0 c.members.reader none))

pub returns-in_default-2 : goal.returns-in_default-2
returns-in_default-2 c =
    let i = c.members.invariant in
    let s = c.next_key.new.self in
    let named : read_key c.members.reader ≡ Some (Some c.in-Some.name.now, s) = grind arith in
    let none : value_read c.args.depth s ≡ None = grind arith in
    ap (parse_map object) (i.3.2 ∙ no_member (value c.args.depth) i.3.0 i.0 c.in-Some.name.now c.members.reader s named none)

pub members-preserved : goal.members-preserved
members-preserved c =
    let i = c.members.invariant in
    let p = value c.args.depth in
    let n = i.0 in
    let all = i.3.0 in
    let k = c.in-Some.name.now in
    let s = c.next_key.new.self in
    let d = view c.in-Some-2.value in
    let r = c.value_in.new.reader in
    let named : read_key c.members.reader ≡ Some (Some k, s) = grind arith in
    let read : value_read c.args.depth s ≡ Some (d, r) = grind arith in
    let lesser : length r < length s = grind arith in
    let less = read_key-shorter c.members.reader (Some k) s named in (
      n - 1,
      omega (arith, i.1),
      omega (arith, i.2),
      (
        put k d all,
        c.in_ok-list_member.ensures all i.3.1,
        i.3.2 ∙ one_member p all n k c.members.reader s (omega (arith, i.1)) named ∙ ap (members_more (members p (n - 1)) k all) read,
      ),
    )

pub returns-then-len-gt-MOST_LISTED : goal.returns-then-len-gt-MOST_LISTED
returns-then-len-gt-MOST_LISTED c =
    let i = c.members.invariant in
    let r = c.next_key.new.self in
    let ended : read_key c.members.reader ≡ Some (None, r) = grind arith in
    let many : most_listed < length c.members.members.items = omega arith in (
      object i.3.0,
      ap (parse_map object) (i.3.2 ∙ ap (converted (λ ms. of_members ms i.3.0)) (members_end (value c.args.depth) i.0 c.members.reader r i.1 ended)),
      many_members i.3.0 (i.3.1.1 many),
    )

pub returns : goal.returns
returns c =
    let i = c.members.invariant in
    let r = c.next_key.new.self in
    let ended : read_key c.members.reader ≡ Some (None, r) = grind arith in
    let few : length c.members.members.items ≤ most_listed = omega arith in (
      ap (parse_map object) (i.3.2 ∙ ap (converted (λ ms. of_members ms i.3.0)) (members_end (value c.args.depth) i.0 c.members.reader r i.1 ended))
          ∙ ap (λ ms. Some (object ms, r)) (i.3.1.0 few),
      few,
    )
