-- Objects on lines.
use Rattle.std.proofs.Common.{◌≡◌, ℕ, Bool, true, false, List, [], ◌∷◌, ◌++◌, append_assoc, refl, ap, sym, ◌∙◌}
use Rattle.json.specs.Print.{quoted}
use Rattle.serde_json.specs.Data.{Members, no_members, member, object}
use Rattle.serde_json.specs.Written.{comma_if, compact_text, members_text}
use Rattle.desk_lines.specs.Lines.{ended}
use Rattle.desk_wire.specs.Holding.{line_of}

regroup : (comma key text rest : List ℕ) → (comma ++ (key ++ 58 ∷ (text ++ rest))) ++ 10 ∷ [] ≡ comma ++ (key ++ 58 ∷ (text ++ (rest ++ 10 ∷ [])))
regroup comma key text rest = simp append_assoc

members_end : (later : Bool) (ms : Members) → members_text later ms ++ 10 ∷ [] ≡ line_of later ms
members_end later no_members = refl
members_end later (member k d ms) =
    regroup (comma_if later) (quoted k) (compact_text d) (members_text true ms) ∙ ap (λ l. comma_if later ++ (quoted k ++ 58 ∷ (compact_text d ++ l))) (members_end true ms)

pub object_line : (line : List ℕ) (ms : Members) → (line ++ 123 ∷ []) ++ line_of false ms ≡ line ++ ended (compact_text (object ms))
object_line line ms = rw (sym (members_end false ms)) (simp append_assoc)
