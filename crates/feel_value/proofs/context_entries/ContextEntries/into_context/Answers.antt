use Rattle.std.proofs.Common.{◌≡◌, ◌∙◌, sym, ap, true, false, if◌then◌else◌}
use Rattle.feel_value.specs.Datum.{context, entries_of}
use Rattle.feel_value.specs.Limits.{is_value}
use Rattle.feel_value.specs.Sizes.{size}
use Rattle.feel_value.specs.declared.feel.Outcome.TheVariants.{Is, Limit}
use Rattle.feel_value.proofs.Entries.{entries_view-named}
use Rattle.feel_value.proofs.Growth.{viewed_kept, viewed_value}
use Rattle.feel_value.proofs.context_entries.ContextEntries.into_context.Goals as goal

pub returns-then-not-names_differ-clause-outcome : goal.returns-then-not-names_differ-clause-outcome
returns-then-not-names_differ-clause-outcome c =
    let whole = context (entries_of c.args.self) in
    let none : is_value whole ≡ false =
    viewed_value c.self.inside.entries.items c.args.self c.self.inside.size c.self.view_is c.self.invariant
    ∙ sym c.names_differ.ensures ∙ c.if-not-names_differ.true in
    sym (ap (λ b. if b then Is whole else Limit) none)

pub returns-then-not-names_differ-clause-kept : goal.returns-then-not-names_differ-clause-kept
returns-then-not-names_differ-clause-kept c = viewed_kept c.self.inside.entries.items c.args.self c.self.inside.size c.self.view_is c.self.invariant

pub of_entries-requires : goal.of_entries-requires
of_entries-requires c =
    let xs = c.self.inside.entries.items in
    record {
      lawful =
          ap (λ es. is_value (context es)) (entries_view-named xs ∙ ap entries_of c.self.view_is)
          ∙ viewed_value xs c.args.self c.self.inside.size c.self.view_is c.self.invariant
          ∙ sym c.names_differ.ensures ∙ c.if-not-names_differ.false;
      size = c.self.invariant.1.1 ∙ ap (λ es. size (context es)) (sym (entries_view-named xs));
    }

pub returns-in_err-value-clause-kept : goal.returns-in_err-value-clause-kept
returns-in_err-value-clause-kept c = viewed_kept c.self.inside.entries.items c.args.self c.self.inside.size c.self.view_is c.self.invariant

pub returns-clause-outcome : goal.returns-clause-outcome
returns-clause-outcome c =
    let xs = c.self.inside.entries.items in
    let whole = context (entries_of c.args.self) in
    let one : is_value whole ≡ true =
    viewed_value xs c.args.self c.self.inside.size c.self.view_is c.self.invariant
    ∙ sym c.names_differ.ensures ∙ c.if-not-names_differ.false in
    ap Is (c.in_ok-value.ensures ∙ ap context (entries_view-named xs ∙ ap entries_of c.self.view_is)) ∙ sym (ap (λ b. if b then Is whole else Limit) one)

pub returns-clause-kept : goal.returns-clause-kept
returns-clause-kept c = viewed_kept c.self.inside.entries.items c.args.self c.self.inside.size c.self.view_is c.self.invariant
