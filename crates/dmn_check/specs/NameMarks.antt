-- Internal, cited by no public contract: whether a text has a fault of names.
use Rattle.std.specs.Prelude.{Bool, not}
use Rattle.feel_text.specs.Lexical.{is_name}
use Rattle.dmn_form.specs.Model.{Name}
use Rattle.dmn_check.specs.declared.marks.NameFault.{NameFault}
use Rattle.dmn_check.specs.declared.marks.NameFault.TheVariants.{Unlawful, Repeated}

-- a text has the fault, if it is known whether it is new in its list
abbrev pub is_in_text : NameFault → Name → Bool → Bool
is_in_text Unlawful n is_new = not (is_name n)
is_in_text Repeated n is_new = not is_new
