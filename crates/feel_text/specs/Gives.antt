-- What a reader of the code answers, against a definition that reads the same.
use Rattle.std.specs.Prelude.{◌≡◌, Option, Some, None, Result, Ok, Err}
use Rattle.feel_text.specs.declared.fault.ReadFault.{ReadFault}
use Rattle.feel_text.specs.declared.fault.ReadFault.TheVariants.{Syntax, Memory}

-- A fault is Syntax exactly where nothing is read, unless memory ran out.
abbrev pub Fails : {Y : Type 0} → ReadFault → Option Y → Type 0
Fails Memory read = Unit {0}
Fails Syntax read = read ≡ None

-- What a function returned, seen by view, is what is read.
abbrev pub Gives : {X Y : Type 0} → (X → Y) → Result X ReadFault → Option Y → Type 0
Gives view (Ok x) read = read ≡ Some (view x)
Gives view (Err e) read = Fails e read
