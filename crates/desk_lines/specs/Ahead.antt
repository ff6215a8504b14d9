-- Internal: what a device gave, read by read.
use Rattle.std.specs.Prelude.{ℕ, ◌<◌, List, [], ◌++◌, length, slice_range, Option}
use Rattle.std.specs.List.{flat_map}
use Rattle.std.specs.Io.KnownBytes.{Consumes, IsAtEnd}
use Rattle.desk_lines.specs.declared.given.Piece.{Piece}
use Rattle.desk_lines.specs.declared.given.Given.{Given}
use Rattle.desk_lines.specs.declared.given.Given.TheVariants.{Bytes, End, Fault}

-- the bytes that came to a piece
abbrev pub piece_bytes : Piece → List ℕ
piece_bytes piece = slice_range piece.buffer.items 0 piece.end

abbrev pub bytes_in : Given → List ℕ
bytes_in (Bytes piece) = piece_bytes piece
bytes_in End = []
bytes_in Fault = []

-- the bytes of all that came
abbrev pub bytes_of : List Given → List ℕ
bytes_of given = flat_map bytes_in given

-- the input begins with the bytes that came and these, and where it ends, that is all of it
abbrev pub Comes : Option (List ℕ) → List ℕ → Given → Type 0
Comes input came (Bytes piece) = (left : Option (List ℕ)) × Consumes input left (came ++ piece_bytes piece) × (0 < length (piece_bytes piece))
Comes input came End = (left : Option (List ℕ)) × Consumes input left came × IsAtEnd left
Comes input came Fault = Unit {0}

-- it may come behind these
abbrev pub Follows : Option (List ℕ) → List Given → Given → Type 0
Follows input before given = Comes input (bytes_of before) given

-- what is left of an input behind the bytes that came
abbrev pub Reaches : Option (List ℕ) → Option (List ℕ) → List Given → Type 0
Reaches input left before = Consumes input left (bytes_of before)
