-- Every line that can come has a reading, and a JSON value is at most one line.
use Rattle.std.proofs.Common.{◌≡◌, ◌≢◌, ◌⊎◌, inl, inr, ℕ, if◌then◌else◌, List, [], ◌∷◌, Option, Some, None, codes, bytes_eq, true, false, length, suc, ap, refl, sym, ◌∙◌}
use Rattle.serde_json.specs.Data.{Data, null, boolean, number, unsigned, string, array, object, Members, no_members, member}
use Rattle.desk_wire.specs.Reading.{Reading}
use Rattle.desk_wire.proofs.Deciding.{Decision, by_turns, begins, is_object, is_string, is_end, is_any, any_text, is_name, is_capacity, is_inputs, is_numbered_name, IsOf, IsSome, IsNone, or_else, reading_of}
use Rattle.desk_wire.proofs.ReadOnce.{some_same}
use Rattle.desk_requests.specs.Line.{Line, Model, Request, Close, Resize, object_of, IsLawful, Reads, AreRead}

is_model : (d : Data) → Decision (IsOf object_of IsLawful Data Model d)
is_model d =
    by_turns
    (λ q. let e = q.1 in let f = q.2.2 in let g = q.2.4 in (q.2.0, cc, tt))
    (λ p. (member (codes "model") p.0 no_members, sym p.1, (p.0, no_members, refl, tt, refl)))
    (is_object (begins (codes "model") is_any is_end) d)

is_request : (d : Data) → Decision (IsOf object_of IsLawful (List ℕ × List ℕ × Data) (λ a. Request a.0 a.1 a.2) d)
is_request d =
    by_turns
    (λ q. let e = q.1 in let f = q.2.2 in let g = q.2.3.1 in let h = q.2.4.2 in let j = q.2.4.4.2 in let k = q.2.4.4.3.1 in let l = q.2.4.4.4 in
    ((q.2.3.0, q.2.4.4.3.0, q.2.4.0), cc, (q.2.3.2, q.2.4.3)))
    (λ p. (_, sym p.1, (_, _, refl, (p.0.0, refl, p.2.0), (_, _, refl, p.2.1, (_, _, refl, (p.0.1, refl, tt), refl)))))
    (is_object (begins (codes "client") (is_string is_name) (begins (codes "inputs") is_inputs (begins (codes "service") (is_string any_text) is_end))) d)

is_true : (d : Data) → Decision (d ≡ boolean true)
is_true (boolean true) = inl refl
is_true (boolean false) = inr (λ q. cc)
is_true null = inr (λ q. cc)
is_true (string s) = inr (λ q. cc)
is_true (number n) = inr (λ q. cc)
is_true (array ds) = inr (λ q. cc)
is_true (object ms) = inr (λ q. cc)

is_close : (d : Data) → Decision (IsOf object_of IsLawful (List ℕ) Close d)
is_close d =
    by_turns
    (λ q. let e = q.1 in let f = q.2.2 in let g = q.2.3.1 in let h = q.2.4.2 in let j = q.2.4.3 in let k = q.2.4.4 in (q.2.3.0, cc, q.2.3.2))
    (λ p. (_, sym p.1, (_, _, refl, (p.0, refl, p.2), (_, _, refl, refl, refl))))
    (is_object (begins (codes "client") (is_string is_name) (begins (codes "close") is_true is_end)) d)

-- a value is a lawful line, or none
pub line_or_none : (d : Data) → IsSome object_of IsLawful d ⊎ IsNone object_of IsLawful d
line_or_none d =
    or_else object_of IsLawful Model (is_model d) (λ no_model.
    or_else object_of IsLawful (λ (a : List ℕ × List ℕ × Data). Request a.0 a.1 a.2) (is_request d) (λ no_request.
    or_else object_of IsLawful Close (is_close d) (λ no_close.
    or_else object_of IsLawful (λ (a : List ℕ × ℕ). Resize a.0 a.1) (is_numbered_name (codes "resize") (codes "capacity") is_capacity d) (λ no_resize.
    inr (none no_model no_request no_close no_resize)))))
  where
    none : ((a : Data) → IsLawful (Model a) → object_of (Model a) ≢ d)
        → ((a : List ℕ × List ℕ × Data) → IsLawful (Request a.0 a.1 a.2) → object_of (Request a.0 a.1 a.2) ≢ d)
        → ((a : List ℕ) → IsLawful (Close a) → object_of (Close a) ≢ d)
        → ((a : List ℕ × ℕ) → IsLawful (Resize a.0 a.1) → object_of (Resize a.0 a.1) ≢ d)
        → IsNone object_of IsLawful d
    none m r c z (Model json) = m json
    none m r c z (Request name service inputs) = r (name, service, inputs)
    none m r c z (Close name) = c name
    none m r c z (Resize name n) = z (name, n)

-- every text has a reading
pub a_reading : (text : List ℕ) → (reading : Reading Line) × Reads text reading
a_reading text = reading_of object_of IsLawful line_or_none text

pub are_read : (lines : List (List ℕ)) → (readings : List (Reading Line)) × AreRead lines readings
are_read [] = ([], tt)
are_read (line ∷ lines) =
    let first = a_reading line in
    let rest = are_read lines in (first.0 ∷ rest.0, (first.1, rest.1))

-- as many lines as readings
pub read-length : (lines : List (List ℕ)) (readings : List (Reading Line)) → AreRead lines readings → length readings ≡ length lines
read-length [] [] r = refl
read-length [] (x ∷ readings) r = absurd r
read-length (l ∷ lines) [] r = absurd r
read-length (l ∷ lines) (x ∷ readings) r = ap suc (read-length lines readings r.1)

-- ## A JSON value is at most one line

abbrev text_as : (List ℕ → Option Line) → Data → Option Line
text_as f (string text) = f text
text_as f d = None

abbrev number_as : (ℕ → Option Line) → Data → Option Line
number_as f (number (unsigned n)) = f n
number_as f d = None

abbrev line_in : Members → Option Line
line_in (member k d no_members) = Some (Model d)
line_in (member k d (member l e no_members)) =
    if bytes_eq k (codes "capacity") then number_as (λ n. text_as (λ name. Some (Resize name n)) e) d else text_as (λ name. Some (Close name)) d
line_in (member k d (member l inputs (member m e no_members))) = text_as (λ name. text_as (λ service. Some (Request name service inputs)) e) d
line_in ms = None

-- the only line that a JSON value may be
abbrev line_of_data : Data → Option Line
line_of_data (object ms) = line_in ms
line_of_data d = None

line_of_object : (says : Line) → line_of_data (object_of says) ≡ Some says
line_of_object (Model d) = refl
line_of_object (Request name service inputs) = refl
line_of_object (Close name) = refl
line_of_object (Resize name n) = refl

pub one_line : (says other : Line) → object_of says ≡ object_of other → says ≡ other
one_line says other e = some_same says other (sym (line_of_object says) ∙ ap line_of_data e ∙ line_of_object other)
