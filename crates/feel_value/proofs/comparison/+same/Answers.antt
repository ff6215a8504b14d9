use Rattle.std.proofs.Common.{◌≡◌, ◌∙◌, sym, ap, ap₂, ◌+◌, ◌&&◌, ◌||◌, true, drop, Bor, arith}
use Rattle.feel_value.specs.Limits.{depth, entries_depth}
use Rattle.feel_value.specs.Logic.{is_yes}
use Rattle.feel_value.specs.Comparison.{equal, values_equal, has_entry}
use Rattle.feel_value.specs.Names.{IsByName, lent, same_names, pairs_equal}
use Rattle.feel_value.specs.View.{datum_of, entries_view}
use Rattle.feel_value.proofs.Booleans.{and_true}
use Rattle.feel_value.proofs.Entries.{Entry, entries_from}
use Rattle.feel_value.proofs.Same.{other_length, has_entry-parts}
use Rattle.feel_value.proofs.ByName.{list_came}
use Rattle.feel_value.proofs.Pairs.{same_names_within, in_order_by_places, other_pairs, no_deeper, entry_depth, lent_depth, item_depth}
use Rattle.feel_value.proofs.comparison.+same.Goals as goal

pub same_items-returns-then-a-b : goal.same_items-returns-then-a-b
same_items-returns-then-a-b t c = sym (other_length c.args.a.now c.args.b.now c.if-a-b.true)

pub same_entries-loop-i-preserved : goal.same_entries-loop-i-preserved
same_entries-loop-i-preserved t c =
    let x = c.index-a-i.result in
    let ys = entries_view c.args.b.now in
    let rest = entries_view (drop (c.loop-i.i + 1) c.args.a.now) in
    let here = ap (λ n. has_entry (λ e. is_yes (equal (datum_of x.1) e)) n ys) (sym c.as_str.ensures.value) ∙ sym c.has_equal.ensures ∙ c.if-not-has_equal.false in
    c.loop-i.invariant ∙ ap (λ es. values_equal es ys) (entries_from c.args.a.now c.loop-i.i x c.index-a-i.is c.loop-i-test.true) ∙ ap (λ b. b && values_equal rest ys) here

pub has_equal-returns-then-has_equal_among : goal.has_equal-returns-then-has_equal_among
has_equal-returns-then-has_equal_among t c =
    let here = sym c.has_equal_among.ensures ∙ c.if-has_equal_among.true in
    let before = has_entry (λ e. is_yes (equal (datum_of c.args.value.now) e)) c.args.name.now (entries_view c.split_at.result.0.now) in
    c.if-has_equal_among.true
    ∙ sym (has_entry-parts (λ e. is_yes (equal (datum_of c.args.value.now) e)) c.args.name.now c.args.entries.now c.split_at.result.0.now c.split_at.result.1.now c.split_at.ensures.by_index.0 ∙ ap (λ b. b || before) here)

pub has_equal-returns-else-has_equal_among : goal.has_equal-returns-else-has_equal_among
has_equal-returns-else-has_equal_among t c =
    let here = sym c.has_equal_among.ensures ∙ c.if-has_equal_among.false in
    let before = has_entry (λ e. is_yes (equal (datum_of c.args.value.now) e)) c.args.name.now (entries_view c.split_at.result.0.now) in
    c.has_equal_among-else-has_equal_among.ensures
    ∙ sym (has_entry-parts (λ e. is_yes (equal (datum_of c.args.value.now) e)) c.args.name.now c.args.entries.now c.split_at.result.0.now c.split_at.result.1.now c.split_at.ensures.by_index.0 ∙ ap (λ b. b || before) here)

pub same_contexts-returns-then-names_agree : goal.same_contexts-returns-then-names_agree
same_contexts-returns-then-names_agree t c =
    let xs = entries_view c.args.a.now.items in
    let ys = entries_view c.args.b.now.items in
    let agree : same_names xs ys ≡ true = ap₂ (λ us vs. same_names (entries_view us) (entries_view vs)) (sym c.deref.ensures.value) (sym c.deref-2.ensures.value) ∙ sym c.names_agree.ensures ∙ c.if-names_agree.true in
    c.same_entries.ensures ∙ ap₂ (λ us vs. values_equal (entries_view us) (entries_view vs)) c.deref-then-names_agree.ensures.value c.deref-then-names_agree-2.ensures.value
    ∙ sym (ap (λ b. values_equal xs ys && b) (same_names_within xs ys agree) ∙ and_true (values_equal xs ys))

pub same_by_name-same_pairs-requires : goal.same_by_name-same_pairs-requires
same_by_name-same_pairs-requires t c =
    let x = c.in_ok-x.x in
    let first = list_came _ (λ s. IsByName c.args.a.now.items s.items) c.by_name.result c.in_ok-ok.field-0 x (sym c.ok.ensures.value ∙ c.in_ok-ok.was) c.in_ok-x.was c.by_name.ensures in
    let less = no_deeper c.args.a.now.items (lent x.items) first.0 in
    (omega (arith, c.decreases, less, ap (λ xs. entries_depth (entries_view (lent xs))) c.deref.ensures.value), tt)

pub same_by_name-returns : goal.same_by_name-returns
same_by_name-returns t c =
    let x = c.in_ok-x.x in
    let y = c.in_ok-y.y in
    let first = list_came _ (λ s. IsByName c.args.a.now.items s.items) c.by_name.result c.in_ok-ok.field-0 x (sym c.ok.ensures.value ∙ c.in_ok-ok.was) c.in_ok-x.was c.by_name.ensures in
    let second = list_came _ (λ s. IsByName c.args.b.now.items s.items) c.by_name-2.result c.in_ok-ok-2.field-0 y (sym c.ok-2.ensures.value ∙ c.in_ok-ok-2.was) c.in_ok-y.was c.by_name-2.ensures in
    c.same_pairs.ensures ∙ ap₂ (λ us vs. pairs_equal (entries_view (lent us)) (entries_view (lent vs))) c.deref.ensures.value c.deref-2.ensures.value
    ∙ in_order_by_places c.args.a.now.items c.args.b.now.items (lent x.items) (lent y.items) first.0 second.0 first.1 second.1

pub same_entries-has_equal-requires : goal.same_entries-has_equal-requires
same_entries-has_equal-requires t c =
    let x = c.index-a-i.result in
    let less = entry_depth c.args.a.now c.loop-i.i x c.loop-i-test.true in
    (omega (arith, c.decreases, less, ap (λ (y : Entry). depth (datum_of y.1)) c.index-a-i.is), tt)

pub same_entries-returns-then-not-has_equal : goal.same_entries-returns-then-not-has_equal
same_entries-returns-then-not-has_equal t c =
    let x = c.index-a-i.result in
    let ys = entries_view c.args.b.now in
    let rest = entries_view (drop (c.loop-i.i + 1) c.args.a.now) in
    let here = ap (λ n. has_entry (λ e. is_yes (equal (datum_of x.1) e)) n ys) (sym c.as_str.ensures.value) ∙ sym c.has_equal.ensures ∙ c.if-not-has_equal.true in
    sym (c.loop-i.invariant ∙ ap (λ es. values_equal es ys) (entries_from c.args.a.now c.loop-i.i x c.index-a-i.is c.loop-i-test.true) ∙ ap (λ b. b && values_equal rest ys) here)

pub same_items-same_value-requires : goal.same_items-same_value-requires
same_items-same_value-requires t c =
    let x = c.index-a-i.result in
    let less = item_depth c.args.a.now c.loop-i.i x c.loop-i-test.true in
    (omega (arith, c.decreases, less, ap (λ y. depth (datum_of y)) c.index-a-i.is), tt)

pub same_pairs-returns-then-a-b : goal.same_pairs-returns-then-a-b
same_pairs-returns-then-a-b t c = sym (other_pairs c.args.a.now c.args.b.now c.if-a-b.true)

pub same_pairs-same_value-requires : goal.same_pairs-same_value-requires
same_pairs-same_value-requires t c =
    let x = c.index-a-i.result in
    let less = lent_depth c.args.a.now c.loop-i.i x c.loop-i-test.true in
    (omega (arith, c.decreases, less, ap (λ (y : Bor Entry). depth (datum_of y.now.1)) c.index-a-i.is), tt)
