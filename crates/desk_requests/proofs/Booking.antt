-- What a line makes of the clients.
use Rattle.std.proofs.Common.{◌≡◌, ◌+◌, ◌<◌, ℕ, zero, suc, Bool, true, false, List, [], ◌∷◌, ◌++◌, Option, Some, None, length, map, take, slice_get, slice_set, if◌then◌else◌, ◌||◌, refl, sym, ap, ◌∙◌, arith, subst}
use Rattle.std.specs.Prelude.{bytes_eq, nat_le}
use Rattle.std.proofs.lemmas.Bool.Decides.{nat_tests}
use Rattle.std.proofs.lemmas.List.{take_all, length-take, length-map, map-append}
use Rattle.feel_value.specs.Distinct.{is_among}
use Rattle.dmn_plan.specs.Request as plan
use Rattle.desk_wire.specs.Reading.{Reading, Blank, Long, Syntax, Shape, Says}
use Rattle.desk_requests.specs.Line.{Line, Model, Request}
use Rattle.desk_requests.specs.State.{AreDistinct, callers, in_force, is_closed, names_with_lanes, requests, with_lane, with_one, with_requester}
use Rattle.desk_requests.specs.Register.{Client, client_after, fresh, name_of, with_client}
use Rattle.desk_requests.proofs.Callers.{distinct-push, stranger, with_lane-take}
use Rattle.desk_requests.proofs.Names.{not_among_at, or_false}

-- ## Lists of clients

abbrev pub client_as : List ℕ → ℕ → Bool → Client
client_as n a c = record { name = n; accepted = a; closed = c }

pub same_client : (n : List ℕ) (a b : ℕ) (c d : Bool) → a ≡ b → c ≡ d → client_as n a c ≡ client_as n b d
same_client n a b c d e f = λ i. client_as n (e i) (f i)

-- a name with as many requests, and as closed, by more lines
pub as_before : (m : List ℕ) (earlier later : List (Reading Line)) → requests m later ≡ requests m earlier → is_closed m later ≡ is_closed m earlier
    → client_after later m ≡ client_after earlier m
as_before m earlier later r c = same_client m (length (requests m later)) (length (requests m earlier)) (is_closed m later) (is_closed m earlier) (ap length r) c

-- of which names alike is said what is said of each
pub same_of_all : (f g : List ℕ → Client) (names : List (List ℕ)) → ((m : List ℕ) → f m ≡ g m) → map f names ≡ map g names
same_of_all f g [] h = refl
same_of_all f g (k ∷ names) h = ap (λ c. c ∷ map f names) (h k) ∙ ap (λ cs. g k ∷ cs) (same_of_all f g names h)

-- the same, of names without this one
pub same_elsewhere : (f g : List ℕ → Client) (n : List ℕ) (names : List (List ℕ)) → is_among names n ≡ false → ((m : List ℕ) → bytes_eq n m ≡ false → f m ≡ g m) → map f names ≡ map g names
same_elsewhere f g n [] absent h = refl
same_elsewhere f g n (k ∷ names) absent h =
    let both = or_false (bytes_eq n k) (is_among names n) absent in
    ap (λ c. c ∷ map f names) (h k both.0) ∙ ap (λ cs. g k ∷ cs) (same_elsewhere f g n names both.1 h)

-- where one of distinct names is told anew
pub set_one : (f g : List ℕ → Client) (names : List (List ℕ)) (place : ℕ) (n : List ℕ) → AreDistinct names → slice_get names place ≡ Some n
    → ((m : List ℕ) → bytes_eq n m ≡ false → f m ≡ g m) → slice_set (map f names) place (g n) ≡ map g names
set_one f g [] place n dis at h = cc
set_one f g (k ∷ names) zero n dis at h =
    let is : k ≡ n = cc in
    let absent : is_among names n ≡ false = subst (λ j. is_among names j ≡ false) is dis.0 in
    ap (λ j. g j ∷ map f names) (sym is) ∙ ap (λ cs. g k ∷ cs) (same_elsewhere f g n names absent h)
set_one f g (k ∷ names) (suc place) n dis at h =
    let far : bytes_eq n k ≡ false = not_among_at k n names place dis.0 at in
    ap (λ c. c ∷ slice_set (map f names) place (g n)) (h k far) ∙ ap (λ cs. g k ∷ cs) (set_one f g names place n dis.1 at h)

pub names_told : (earlier : List (Reading Line)) (names : List (List ℕ)) → map name_of (map (client_after earlier) names) ≡ names
names_told earlier [] = refl
names_told earlier (k ∷ names) = ap (λ ns. k ∷ ns) (names_told earlier names)

pub told_at : (earlier : List (Reading Line)) (names : List (List ℕ)) (place : ℕ) (n : List ℕ) → slice_get names place ≡ Some n
    → slice_get (map (client_after earlier) names) place ≡ Some (client_after earlier n)
told_at earlier [] place n at = cc
told_at earlier (k ∷ names) zero n at = let is : k ≡ n = cc in ap (λ j. Some (client_after earlier j)) is
told_at earlier (k ∷ names) (suc place) n at = told_at earlier names place n at

-- ## Names with lanes

distinct_one : (n : List ℕ) (names : List (List ℕ)) (b : Bool) → is_among names n ≡ b → AreDistinct names → AreDistinct (if b then names else names ++ n ∷ [])
distinct_one n names true e d = d
distinct_one n names false e d = distinct-push names n d e

distinct_requester : (model : Option (List ℕ)) (n : List ℕ) (names : List (List ℕ)) → AreDistinct names → AreDistinct (with_requester model n names)
distinct_requester None n names d = d
distinct_requester (Some text) n names d = distinct_one n names (is_among names n) refl d

callers-distinct : (earlier : List (Reading Line)) → AreDistinct (callers earlier)
callers-distinct [] = tt
callers-distinct (Blank ∷ earlier) = callers-distinct earlier
callers-distinct (Long ∷ earlier) = callers-distinct earlier
callers-distinct (Syntax ∷ earlier) = callers-distinct earlier
callers-distinct (Shape ∷ earlier) = callers-distinct earlier
callers-distinct (Says (Model json) ∷ earlier) = callers-distinct earlier
callers-distinct (Says (Request n s i) ∷ earlier) = distinct_requester (in_force earlier) n (callers earlier) (callers-distinct earlier)
callers-distinct (Says line ∷ earlier) = distinct_one _ (callers earlier) _ refl (callers-distinct earlier)

not_in_first : (k : ℕ) (names : List (List ℕ)) (n : List ℕ) → is_among names n ≡ false → is_among (take k names) n ≡ false
not_in_first zero names n h = refl
not_in_first (suc k) [] n h = refl
not_in_first (suc k) (m ∷ names) n h =
    let both = or_false (bytes_eq n m) (is_among names n) h in rw both.0 (not_in_first k names n both.1)

distinct_first : (k : ℕ) (names : List (List ℕ)) → AreDistinct names → AreDistinct (take k names)
distinct_first zero names d = tt
distinct_first (suc k) [] d = tt
distinct_first (suc k) (m ∷ names) d = (not_in_first k names m d.0, distinct_first k names d.1)

pub lanes-distinct : (lanes : ℕ) (earlier : List (Reading Line)) → AreDistinct (names_with_lanes lanes earlier)
lanes-distinct lanes earlier = distinct_first lanes (callers earlier) (callers-distinct earlier)

-- ## A name is looked for, and gets a lane

pub same_with : (lanes : ℕ) (n : List ℕ) (clients : List Client) → is_among (map name_of clients) n ≡ true → with_client lanes n clients ≡ clients
same_with lanes n clients h = rw h refl

-- the clients with one more name, where these are the names with lanes
with_at : (lanes : ℕ) (n : List ℕ) (earlier : List (Reading Line)) (b c : Bool) → is_among (names_with_lanes lanes earlier) n ≡ b → nat_le lanes (length (names_with_lanes lanes earlier)) ≡ c
    → (if b || c then map (client_after earlier) (names_with_lanes lanes earlier) else map (client_after earlier) (names_with_lanes lanes earlier) ++ fresh n ∷ [])
    ≡ map (client_after earlier) (if b || c then names_with_lanes lanes earlier else names_with_lanes lanes earlier ++ n ∷ [])
with_at lanes n earlier true c eb ec = refl
with_at lanes n earlier false true eb ec = refl
with_at lanes n earlier false false eb ec =
    let room : length (names_with_lanes lanes earlier) < lanes = grind (arith, nat_tests) in
    let all : take lanes (callers earlier) ≡ callers earlier = take_all lanes (callers earlier) (omega (arith, room, length-take lanes (callers earlier))) in
    let new : is_among (callers earlier) n ≡ false = ap (λ ns. is_among ns n) (sym all) ∙ eb in
    let none = stranger n earlier new in
    let is : fresh n ≡ client_after earlier n = same_client n 0 (length (requests n earlier)) false (is_closed n earlier) (sym (ap length none.0)) (sym none.1) in
    ap (λ c. map (client_after earlier) (names_with_lanes lanes earlier) ++ c ∷ []) is ∙ sym (map-append (client_after earlier) (names_with_lanes lanes earlier) (n ∷ []))

pub with_client-told : (lanes : ℕ) (n : List ℕ) (reading : Reading Line) (earlier : List (Reading Line)) → callers (reading ∷ earlier) ≡ with_one n (callers earlier)
    → with_client lanes n (map (client_after earlier) (names_with_lanes lanes earlier)) ≡ map (client_after earlier) (names_with_lanes lanes (reading ∷ earlier))
with_client-told lanes n reading earlier cs =
    let names = names_with_lanes lanes earlier in
    let same : with_lane lanes n names ≡ names_with_lanes lanes (reading ∷ earlier) = with_lane-take lanes n (callers earlier) ∙ ap (take lanes) (sym cs) in
    let first : with_client lanes n (map (client_after earlier) names) ≡ map (client_after earlier) (with_lane lanes n names) =
    ap (λ ns. if is_among ns n || nat_le lanes (length (map (client_after earlier) names)) then map (client_after earlier) names else map (client_after earlier) names ++ fresh n ∷ []) (names_told earlier names)
    ∙ ap (λ k. if is_among names n || nat_le lanes k then map (client_after earlier) names else map (client_after earlier) names ++ fresh n ∷ []) (length-map names (client_after earlier))
    ∙ with_at lanes n earlier (is_among names n) (nat_le lanes (length names)) refl refl in
    first ∙ ap (map (client_after earlier)) same

-- one more where there is a lane
pub with_more : (lanes : ℕ) (n : List ℕ) (clients : List Client) → is_among (map name_of clients) n ≡ false → length clients < lanes → with_client lanes n clients ≡ clients ++ fresh n ∷ []
with_more lanes n clients new room = rw (new, no_more lanes (length clients) room) refl
  where
    no_more : (a b : ℕ) → b < a → nat_le a b ≡ false
    no_more a b h = grind (arith, nat_tests)
