use Rattle.std.proofs.Common.{rules, ◌≡◌, Bor, Ok, is_lt}
use Rattle.std.specs.Bool.{⊤}
use Rattle.std.specs.List.Sorted.{IsPermutation}
use Rattle.std.proofs.lemmas.Cmp.{nat_list_cmp_total}
use Rattle.std.proofs.lemmas.Fn.{always_returns_same}
use Rattle.std.proofs.lemmas.Iterator.{YieldsList-from_slice}
use Rattle.std.proofs.lemmas.Iterator.Consumers.{map_from_collect}
use Rattle.std.proofs.lemmas.List.Sorted.{ranks_by}
use Rattle.feel_value.specs.Names.{lent}
use Rattle.feel_value.proofs.Entries.{Entry}
use Rattle.feel_value.proofs.ByName.{name_of, first_by_name, moved}
use Rattle.json_writer.proofs.InOrder.{are_members, sorted_rise}
use Rattle.json_writer.proofs.members.members.Goals as goal

pub returns : goal.returns
returns c =
    let es = c.args.entries.now in
    let sorted = c.sort_unstable_by.new.self.items in
    let all : lent c.in_ok-members.members.items ≡ es =
    map_from_collect {E = ⊤} (Ok c.in_ok-members.members) c.in_ok-members.ensures.ran (YieldsList-from_slice es cc) in
    let order = ranks_by nat_list_cmp_total (λ (x : Bor Entry). name_of x.now) in
    let compares = always_returns_same _ (λ a r. is_lt r ≡ first_by_name a.0.now a.1.0.now) _ (λ a r f k. search rules) in
    let same : IsPermutation es (lent sorted) = moved es c.in_ok-members.members.items sorted all c.sort_unstable_by.ensures.permutation in
    (same, are_members es (lent sorted) same (sorted_rise es sorted same (c.sort_unstable_by.ensures.sorted first_by_name order compares) c.requires))
