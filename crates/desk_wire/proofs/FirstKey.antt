-- The first key of an object says which objects of known keys it may be.
use Rattle.std.proofs.Common.{◌≡◌, ℕ, List, [], ◌∷◌, Option, Some, None, IfNone, MatchOption, slice_get, Bor, ap, sym}
use Rattle.serde_json.specs.Data.{Data, object, member}
use Rattle.serde_json.specs.declared.value.Value.{Value}
use Rattle.json_reader.specs.Members.{members_of}

abbrev pub first_key : Data → List ℕ
first_key (object (member k d rest)) = k
first_key d = []

-- the key of the first member
pub first_is : (ms : List (Bor (List ℕ) × Value)) (m : Bor (List ℕ) × Value) → Some m ≡ slice_get ms 0 → first_key (object (members_of ms)) ≡ m.0.now
first_is [] m e = cc
first_is (x ∷ ms) m e = let same : m ≡ x = cc in ap (λ (y : Bor (List ℕ) × Value). y.0.now) (sym same)

-- none of two, each of which is tried where the one before it is none
pub neither : {X A B C : Type 0} (first last : Option X) → (A → B → C) → IfNone first A → MatchOption first (IfNone last B) (λ x. last ≡ Some x) → IfNone last C
neither first (Some x) f a b = tt
neither None None f a b = f a b
neither (Some x) None f a b = cc
