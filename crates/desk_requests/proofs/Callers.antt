-- Requests, and the names that ask for a lane.
use Rattle.std.proofs.Common.{◌≡◌, ◌<◌, ◌≤◌, ℕ, suc, Bool, true, false, not, List, [], ◌∷◌, ◌++◌, Option, Some, None, Result, Ok, Err, length, take, drop, if◌then◌else◌, ◌||◌, ◌&&◌, refl, sym, ap, ◌∙◌, arith, append-nil, subst}
use Rattle.std.specs.Prelude.{bytes_eq, nat_le}
use Rattle.std.proofs.lemmas.Bool.Decides.{nat_tests}
use Rattle.std.proofs.lemmas.List.{take_all, take-append-le, length-take, take-append-drop, length-append}
use Rattle.std.proofs.lemmas.List.Folds.{list_any-append}
use Rattle.serde_json.specs.Data.{Data}
use Rattle.feel_value.specs.Distinct.{is_among}
use Rattle.dmn_plan.specs.ReadModel.{read_model}
use Rattle.dmn_plan.specs.Request as plan
use Rattle.dmn_plan.specs.declared.fault.ModelFault.{ModelFault}
use Rattle.dmn_plan.specs.declared.fault.TaskFault.{TaskFault}
use Rattle.desk_wire.specs.Reading.{Reading, Blank, Long, Syntax, Shape, Says}
use Rattle.desk_requests.specs.Line.{Line, Model, Request, Close}
use Rattle.desk_requests.specs.State.{AreDistinct, callers, in_force, is_closed, newer_model, ok_list, requests, requests_under, with_lane, with_one, with_requester}
use Rattle.desk_requests.proofs.Names.{same_name, name_itself, turned_name, or_false}

-- ## Requests and closes

-- a line that is no request of this name adds none
pub requests-other : (m n s : List ℕ) (i : Data) (earlier : List (Reading Line)) → bytes_eq n m ≡ false → requests m (Says (Request n s i) ∷ earlier) ≡ requests m earlier
requests-other m n s i earlier e = rw e refl

same_if : (b : Bool) (xs t : List plan.Request) → t ≡ [] → (if b then xs ++ t else xs) ≡ xs
same_if true xs t z = rw z (append-nil xs)
same_if false xs t z = refl

-- nor does one that is refused
pub requests-refused : (m n s : List ℕ) (i : Data) (earlier : List (Reading Line)) → requests_under (in_force earlier) s i ≡ [] → requests m (Says (Request n s i) ∷ earlier) ≡ requests m earlier
requests-refused m n s i earlier z = same_if (bytes_eq n m && not (is_closed m earlier)) (requests m earlier) (requests_under (in_force earlier) s i) z

-- nor one of a closed client
pub requests-closed : (n s : List ℕ) (i : Data) (earlier : List (Reading Line)) → is_closed n earlier ≡ true → requests n (Says (Request n s i) ∷ earlier) ≡ requests n earlier
requests-closed n s i earlier h = rw (name_itself n, h) refl

pub requests-accepted : (n s : List ℕ) (i : Data) (earlier : List (Reading Line)) (q : plan.Request) → is_closed n earlier ≡ false → requests_under (in_force earlier) s i ≡ q ∷ []
    → requests n (Says (Request n s i) ∷ earlier) ≡ requests n earlier ++ q ∷ []
requests-accepted n s i earlier q h u = rw (name_itself n, h, u) refl

-- without a model nobody has made a request
no_model : {M : Type 0} (json : Data) (r : Result M ModelFault) (old : Option (List ℕ)) → newer_model json r old ≡ None → old ≡ None
no_model json (Ok m) old h = cc
no_model json (Err f) old h = h

pub quiet : (m : List ℕ) (earlier : List (Reading Line)) → in_force earlier ≡ None → requests m earlier ≡ []
quiet m [] h = refl
quiet m (Says (Model json) ∷ earlier) h = quiet m earlier (no_model json (read_model json) (in_force earlier) h)
quiet m (Says (Request n s i) ∷ earlier) h = requests-refused m n s i earlier (rw h refl) ∙ quiet m earlier h
quiet m (reading ∷ earlier) h = quiet m earlier h

one_at_most : (r : Result plan.Request TaskFault) → length (ok_list r) ≤ 1
one_at_most (Ok q) = omega arith
one_at_most (Err f) = omega arith

one_under : (model : Option (List ℕ)) (s : List ℕ) (i : Data) → length (requests_under model s i) ≤ 1
one_under None s i = omega arith
one_under (Some text) s i = one_at_most (plan.request_of text s i)

one_more : (b : Bool) (xs t : List plan.Request) (k : ℕ) → length t ≤ 1 → length xs ≤ k → length (if b then xs ++ t else xs) ≤ suc k
one_more true xs t k h l = omega (arith, length-append xs t, h, l)
one_more false xs t k h l = omega (arith, l)

-- there are no more requests than lines
pub requests-few : (m : List ℕ) (earlier : List (Reading Line)) → length (requests m earlier) ≤ length earlier
requests-few m [] = omega arith
requests-few m (Says (Request n s i) ∷ earlier) =
    one_more (bytes_eq n m && not (is_closed m earlier)) (requests m earlier) (requests_under (in_force earlier) s i) (length earlier) (one_under (in_force earlier) s i) (requests-few m earlier)
requests-few m (reading ∷ earlier) = let h = requests-few m earlier in omega (arith, h)

-- ## The names

pub is_among-append : (n m : List ℕ) (names : List (List ℕ)) → is_among (names ++ m ∷ []) n ≡ (is_among names n || (bytes_eq n m || false))
is_among-append n m names = list_any-append (bytes_eq n) names (m ∷ [])

or_nothing : (b : Bool) → (b || false) ≡ b
or_nothing true = refl
or_nothing false = refl

-- who isn't among more names isn't among fewer
not_with_one_at : (n m : List ℕ) (names : List (List ℕ)) (b : Bool) → is_among names m ≡ b → is_among (if b then names else names ++ m ∷ []) n ≡ false
    → (is_among names n ≡ false) × (bytes_eq m n ≡ false)
not_with_one_at n m names true e h = (h, apart (bytes_eq m n) refl)
  where
    apart : (t : Bool) → bytes_eq m n ≡ t → t ≡ false
    apart true s = let there : is_among names n ≡ true = subst (λ k. is_among names k ≡ true) (same_name m n s) e in let wrong : true ≡ false = sym there ∙ h in wrong
    apart false s = refl
not_with_one_at n m names false e h =
    let both = or_false (is_among names n) (bytes_eq n m || false) (sym (is_among-append n m names) ∙ h) in
    (both.0, turned_name m n ∙ (sym (or_nothing (bytes_eq n m)) ∙ both.1))

not_with_one : (n m : List ℕ) (names : List (List ℕ)) → is_among (with_one m names) n ≡ false → (is_among names n ≡ false) × (bytes_eq m n ≡ false)
not_with_one n m names h = not_with_one_at n m names (is_among names m) refl h

-- a name that never asked for a lane has no requests, and isn't closed
abbrev pub IsStranger : List ℕ → List (Reading Line) → Type 0
IsStranger n earlier = (requests n earlier ≡ []) × (is_closed n earlier ≡ false)

stranger_request : (n m s : List ℕ) (i : Data) (earlier : List (Reading Line)) (model : Option (List ℕ)) → in_force earlier ≡ model
    → (is_among (callers earlier) n ≡ false → IsStranger n earlier) → is_among (with_requester model m (callers earlier)) n ≡ false → IsStranger n (Says (Request m s i) ∷ earlier)
stranger_request n m s i earlier None e before h =
    let b = before h in (requests-refused n m s i earlier (rw e refl) ∙ b.0, b.1)
stranger_request n m s i earlier (Some text) e before h =
    let no = not_with_one n m (callers earlier) h in let b = before no.0 in
    (requests-other n m s i earlier no.1 ∙ b.0, b.1)

pub stranger : (n : List ℕ) (earlier : List (Reading Line)) → is_among (callers earlier) n ≡ false → IsStranger n earlier
stranger n [] h = (refl, refl)
stranger n (Blank ∷ earlier) h = stranger n earlier h
stranger n (Long ∷ earlier) h = stranger n earlier h
stranger n (Syntax ∷ earlier) h = stranger n earlier h
stranger n (Shape ∷ earlier) h = stranger n earlier h
stranger n (Says (Model json) ∷ earlier) h = stranger n earlier h
stranger n (Says (Request m s i) ∷ earlier) h = stranger_request n m s i earlier (in_force earlier) refl (λ g. stranger n earlier g) h
stranger n (Says (Close m) ∷ earlier) h = let no = not_with_one n m (callers earlier) h in let b = stranger n earlier no.0 in (b.0, rw no.1 b.1)
stranger n (Says line ∷ earlier) h = stranger n earlier (not_with_one n _ (callers earlier) h).0

-- the names with lanes, after one more name
take_with : (lanes : ℕ) (n : List ℕ) (names : List (List ℕ)) (b c d : Bool) → is_among (take lanes names) n ≡ b → nat_le lanes (length (take lanes names)) ≡ c → is_among names n ≡ d
    → (if b || c then take lanes names else take lanes names ++ n ∷ []) ≡ take lanes (if d then names else names ++ n ∷ [])
take_with lanes n names true c true eb ec ed = refl
take_with lanes n names true c false eb ec ed =
    let whole : is_among (take lanes names ++ drop lanes names) n ≡ (true || is_among (drop lanes names) n) =
    list_any-append (bytes_eq n) (take lanes names) (drop lanes names) ∙ ap (λ (t : Bool). t || is_among (drop lanes names) n) eb in
    let there : is_among names n ≡ true = ap (λ ns. is_among ns n) (sym (take-append-drop lanes names)) ∙ whole in
    let wrong : true ≡ false = sym there ∙ ed in cc
take_with lanes n names false true true eb ec ed = refl
take_with lanes n names false true false eb ec ed =
    let full : lanes ≤ length (take lanes names) = grind (arith, nat_tests) in
    let long : lanes ≤ length names = omega (arith, length-take lanes names) in
    sym (take-append-le lanes names (n ∷ []) long)
take_with lanes n names false false d eb ec ed =
    let room : length (take lanes names) < lanes = grind (arith, nat_tests) in
    let short : length names < lanes = omega (arith, length-take lanes names) in
    let all : take lanes names ≡ names = take_all lanes names (omega arith) in
    let no : d ≡ false = sym ed ∙ (ap (λ ns. is_among ns n) (sym all) ∙ eb) in
    rw (no, all) (sym (take_all lanes (names ++ n ∷ []) (omega (arith, length-append names (n ∷ [])))))

pub with_lane-take : (lanes : ℕ) (n : List ℕ) (names : List (List ℕ)) → with_lane lanes n (take lanes names) ≡ take lanes (with_one n names)
with_lane-take lanes n names = take_with lanes n names (is_among (take lanes names) n) (nat_le lanes (length (take lanes names))) (is_among names n) refl refl refl

pub distinct-push : (names : List (List ℕ)) (n : List ℕ) → AreDistinct names → is_among names n ≡ false → AreDistinct (names ++ n ∷ [])
distinct-push [] n d h = (refl, tt)
distinct-push (m ∷ names) n d h =
    let no = or_false (bytes_eq n m) (is_among names n) h in
    let back : bytes_eq m n ≡ false = turned_name m n ∙ no.0 in
    (is_among-append m n names ∙ rw (d.0, back) refl, distinct-push names n d.1 no.1)
