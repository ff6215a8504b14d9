-- What a clause says of a client's end once it is settled.
use Rattle.std.specs.Prelude.{List}
use Rattle.box_core.specs.Answer.{Ticketed}
use Rattle.box_core.specs.Mail.{Mail}
use Rattle.lanes.specs.Ends.{SettledEnd}

module _ {W O : Type 0} where
  abbrev pub put_in : SettledEnd W O → List (Ticketed W)
  put_in end = end.put

  abbrev pub mail_in : SettledEnd W O → Mail W O
  mail_in end = end.mail

  abbrev pub left_in : SettledEnd W O → List (Ticketed W)
  left_in end = end.left
