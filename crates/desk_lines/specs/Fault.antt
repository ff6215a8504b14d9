-- The word of a fault.
use Rattle.std.specs.Prelude.{ℕ, List, codes}
use Rattle.desk_lines.specs.declared.fault.FrontFault.{FrontFault}
use Rattle.desk_lines.specs.declared.fault.FrontFault.TheVariants.{Read, Write, Long, Memory}

abbrev pub fault_word : FrontFault → List ℕ
fault_word Read = codes "read"
fault_word Write = codes "write"
fault_word Long = codes "long"
fault_word Memory = codes "memory"
