-- Objects with exactly these members.
use Rattle.std.specs.Prelude.{ℕ, List}
use Rattle.serde_json.specs.Data.{Data, object, no_members, member}

abbrev pub object1 : List ℕ → Data → Data
object1 k d = object (member k d no_members)

abbrev pub object2 : List ℕ → List ℕ → Data → Data → Data
object2 k l d e = object (member k d (member l e no_members))

abbrev pub object3 : List ℕ → List ℕ → List ℕ → Data → Data → Data → Data
object3 k l m d e f = object (member k d (member l e (member m f no_members)))

abbrev pub object4 : List ℕ → List ℕ → List ℕ → List ℕ → Data → Data → Data → Data → Data
object4 k l m n d e f g = object (member k d (member l e (member m f (member n g no_members))))
