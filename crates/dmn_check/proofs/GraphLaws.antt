-- What is needed by places, where that is looked into.
use Rattle.std.proofs.Common.{◌≡◌, ℕ, sym, ap, ap₂, ◌∙◌, Bool, true, false, ◌||◌, Option, None, Some, option_map, is_none, Vec, Global}
use Rattle.std.specs.Prelude.{IfSome}
use Rattle.dmn_form.specs.Draft.{Draft}
use Rattle.dmn_names.specs.Names.{has_name_twice, has_unknown_name}
use Rattle.dmn_names.specs.Places.{needs_by_place}
use Rattle.dmn_names.specs.PlacedModel.{needs_view}
use Rattle.dmn_names.specs.Size.{is_large}
use Rattle.dmn_check.specs.Graphs.{has_no_graph}

abbrev pub Needs : Type 0
Needs = Vec (Vec ℕ Global) Global

pub too_large : (m : Draft) (b : Bool) → b ≡ is_large m → b ≡ true → true ≡ has_no_graph m
too_large m b e t = ap (λ l. l || (has_name_twice m || has_unknown_name m)) (sym t ∙ e)

pub named_twice : (m : Draft) (b c : Bool) → b ≡ is_large m → b ≡ false → c ≡ has_name_twice m → c ≡ true → true ≡ has_no_graph m
named_twice m b c e f g t = ap₂ (λ l h. l || (h || has_unknown_name m)) (sym f ∙ e) (sym t ∙ g)

pub no_needs : (m n : Draft) (b c : Bool) (o : Option Needs) → n ≡ m → b ≡ is_large m → b ≡ false → c ≡ has_name_twice m → c ≡ false → is_none o ≡ has_unknown_name n → is_none o ≡ has_no_graph m
no_needs m n b c o same e f g h u = u ∙ ap has_unknown_name same ∙ ap₂ (λ l d. l || (d || has_unknown_name m)) (sym f ∙ e) (sym h ∙ g)

pub distinct : (m : Draft) (c : Bool) (o : Option Needs) → c ≡ has_name_twice m → c ≡ false → IfSome o (λ _. has_name_twice m ≡ false)
distinct m c None g h = tt
distinct m c (Some v) g h = sym g ∙ h

pub known : (m n : Draft) (o : Option Needs) → n ≡ m → option_map needs_view o ≡ needs_by_place n → IfSome o (λ v. needs_by_place m ≡ Some (needs_view v))
known m n None same e = tt
known m n (Some v) same e = sym (e ∙ ap needs_by_place same)
