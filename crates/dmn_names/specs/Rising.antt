-- Internal, cited by no public contract: names of which each comes behind the one before it.
use Rattle.std.specs.Prelude.{List, [], ◌∷◌, Bool, true, ◌&&◌}
use Rattle.std.specs.Ordering.{is_lt}
use Rattle.feel_text.specs.NameOrder.{name_cmp}
use Rattle.dmn_form.specs.Model.{Name}

-- they rise, and the first comes behind this name
abbrev pub rise_from : Name → List Name → Bool
rise_from last [] = true
rise_from last (n ∷ ns) = is_lt (name_cmp last n) && rise_from n ns

abbrev pub are_rising : List Name → Bool
are_rising [] = true
are_rising (n ∷ ns) = rise_from n ns
