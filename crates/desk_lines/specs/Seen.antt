-- What is seen of a device that is read ahead.
use Rattle.std.specs.Prelude.{ℕ, List, Option}
use Rattle.desk_lines.specs.Device.{Reader}
use Rattle.desk_lines.specs.Counted.{reader_of}
use Rattle.desk_lines.specs.declared.read_ahead.ReadAhead.{ReadAhead}

-- the bytes that are left of the device, with the counts
abbrev pub seen_of : {D R J : Type 0} → ReadAhead D R J → Reader
seen_of reader = reader_of (λ left. left) reader.counted
