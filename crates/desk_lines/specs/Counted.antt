-- What is counted of a device of std.
use Rattle.std.specs.Prelude.{ℕ, List, Option}
use Rattle.desk_lines.specs.Device.{Reader, Writer}
use Rattle.desk_lines.specs.declared.device.Counted.{Counted}

-- its faults so far, as a reader and as a writer
abbrev pub faults_of : {T : Type 0} → Counted T → ℕ
faults_of device = device.failures

-- the bytes that came of it so far, as a reader
abbrev pub came_of : {T : Type 0} → Counted T → ℕ
came_of device = device.came

-- a reader, with the bytes that the device itself has left
abbrev pub reader_of : {T : Type 0} → (T → Option (List ℕ)) → Counted T → Reader
reader_of remaining device = record { remaining = remaining device.inner; faults = faults_of device; came = came_of device }

-- a writer, with the bytes that were written to the device itself
abbrev pub writer_of : {T : Type 0} → (T → Option (List ℕ)) → Counted T → Writer
writer_of contents device = record { contents = contents device.inner; faults = faults_of device }
