-- Internal to this crate: the faults of the reader, which builds a value of any size. No public contract cites this word.
use Rattle.std.specs.Prelude.{◌≡◌, Option, None}
use Rattle.feel_value.specs.declared.fault.ValueFault.{ValueFault}
use Rattle.feel_value.specs.declared.fault.ValueFault.TheVariants.{Number, Size, Memory}

-- the fault is `Number` where there is no value, or memory was refused
abbrev pub IsNumberOrMemory : {A : Type 0} → ValueFault → Option A → Type 0
IsNumberOrMemory Number o = o ≡ None
IsNumberOrMemory Size o = ⊥
IsNumberOrMemory Memory o = Unit {0}
