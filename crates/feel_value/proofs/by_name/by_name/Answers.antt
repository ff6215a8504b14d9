use Rattle.std.proofs.Common.{rules, ◌≡◌, ◌∙◌, sym, ap, Bor, Ok, is_lt}
use Rattle.std.specs.Bool.{⊤}
use Rattle.std.proofs.lemmas.Cmp.{nat_list_cmp_total}
use Rattle.std.proofs.lemmas.Fn.{always_returns_same}
use Rattle.std.proofs.lemmas.Iterator.{YieldsList-from_slice}
use Rattle.std.proofs.lemmas.Iterator.Consumers.{map_from_collect}
use Rattle.std.proofs.lemmas.List.Sorted.{ranks_by}
use Rattle.feel_value.specs.Names.{lent, names_rise}
use Rattle.feel_value.specs.View.{entries_view}
use Rattle.feel_value.proofs.Entries.{Entry}
use Rattle.feel_value.proofs.ByName.{name_of, first_by_name, falls_repeats, moved, names_differ-IsPermutation}
use Rattle.feel_value.proofs.by_name.by_name.Goals as goal

pub returns-then-rise : goal.returns-then-rise
returns-then-rise c =
    let all : lent c.in_ok-sorted.sorted.items ≡ c.args.entries.now.items =
    map_from_collect {E = ⊤} (Ok c.in_ok-sorted.sorted) c.in_ok-sorted.ensures.ran (YieldsList-from_slice c.deref.result.now cc) ∙ c.deref.ensures.value in
    (moved c.args.entries.now.items c.in_ok-sorted.sorted.items c.sort_unstable_by.new.self.items all c.sort_unstable_by.ensures.permutation, search rules)

pub returns : goal.returns
returns c =
    let all : lent c.in_ok-sorted.sorted.items ≡ c.args.entries.now.items =
    map_from_collect {E = ⊤} (Ok c.in_ok-sorted.sorted) c.in_ok-sorted.ensures.ran (YieldsList-from_slice c.deref.result.now cc) ∙ c.deref.ensures.value in
    let order = ranks_by nat_list_cmp_total (λ (x : Bor Entry). name_of x.now) in
    let compares = always_returns_same _ (λ a r. is_lt r ≡ first_by_name a.0.now a.1.0.now) _ (λ a r f k. search rules) in
    names_differ-IsPermutation c.args.entries.now.items (lent c.sort_unstable_by.new.self.items) (moved c.args.entries.now.items c.in_ok-sorted.sorted.items c.sort_unstable_by.new.self.items all c.sort_unstable_by.ensures.permutation)
    ∙ falls_repeats c.sort_unstable_by.new.self.items (c.sort_unstable_by.ensures.sorted first_by_name order compares) (ap (λ xs. names_rise (entries_view (lent xs))) (sym c.deref-2.ensures.value) ∙ sym c.rise.ensures ∙ c.if-rise.false)
