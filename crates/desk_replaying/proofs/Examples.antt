-- Worked examples of the definitions.
use Rattle.std.proofs.Common.{◌≡◌, [], ◌∷◌, Some, None, refl}
use Rattle.std.specs.Prelude.{codes}
use Rattle.serde_json.specs.Data.{number, unsigned, object, no_members, member}
use Rattle.serde_json.specs.Read.{read}
use Rattle.serde_json.proofs.OnLiterals.{serde_json_on_literals}
use Rattle.desk_lines.specs.Lines.{lines_of, whole_lines_of}
use Rattle.desk_replaying.specs.Line.{Open, Submit, Take, AnswerWith, Resize, object_of}

-- lines

lines_with_last : lines_of (codes "ab\nc") ≡ codes "ab" ∷ codes "c" ∷ []
lines_with_last = refl

lines_ended : lines_of (codes "ab\n\n") ≡ codes "ab" ∷ [] ∷ []
lines_ended = refl

lines_none : lines_of [] ≡ []
lines_none = refl

whole_lines : whole_lines_of (codes "ab\nc") ≡ codes "ab" ∷ []
whole_lines = refl

-- what lines say

reads_open : read (codes "{\"open\":\"a\",\"capacity\":2}") ≡ Some (object_of (Open (codes "a") 2))
unfolding serde_json_on_literals
reads_open = refl

reads_submit : read (codes "{\"submit\":\"a\",\"service\":\"s\",\"inputs\":{\"a\":4}}") ≡ Some (object_of (Submit (codes "a") (codes "s") (object (member (codes "a") (number (unsigned 4)) no_members))))
unfolding serde_json_on_literals
reads_submit = refl

reads_take : read (codes "{\"take\":\"a\",\"ticket\":0}") ≡ Some (object_of (Take (codes "a") 0))
unfolding serde_json_on_literals
reads_take = refl

reads_answer : read (codes "{\"answer\":\"a\",\"ticket\":0,\"service\":\"s\",\"inputs\":{}}") ≡ Some (object_of (AnswerWith (codes "a") 0 (codes "s") (object no_members)))
unfolding serde_json_on_literals
reads_answer = refl

reads_nothing : read (codes "{\"client\":\"a\",\"serv") ≡ None
unfolding serde_json_on_literals
reads_nothing = refl

reads_resize : read (codes "{\"resize\":\"a\",\"capacity\":2}") ≡ Some (object_of (Resize (codes "a") 2))
unfolding serde_json_on_literals
reads_resize = refl
