-- A request has a value for each parameter of its service.
use Rattle.std.proofs.Common.{◌≡◌, ℕ, List, [], ◌∷◌, length, Option, Some, None, Result, Ok, Err, option_map, refl, sym, ap, ◌∙◌, suc}
use Rattle.serde_json.specs.Data as json
use Rattle.feel_value.specs.Datum.{Datum}
use Rattle.feel_value.specs.Found.{◌>>=◌, each}
use Rattle.dmn_form.specs.Model.{Name, Service}
use Rattle.dmn_plan.specs.Course.{IsCourseOf}
use Rattle.dmn_plan.specs.ReadModel.{read_text}
use Rattle.dmn_plan.specs.Request.{Request, TakesValues, request_of, request_to, request_with, service_in, values_under}
use Rattle.dmn_plan.specs.declared.course.Course.{Course}
use Rattle.dmn_service.specs.Decision.{parameters_of}

counted : {Y : Type 0} (n : ℕ) (o : Option Y) (p : Option (List Y)) (ys : List Y) → ((zs : List Y) → p ≡ Some zs → length zs ≡ n) → (o >>= λ y. p >>= λ zs. Some (y ∷ zs)) ≡ Some ys → length ys ≡ suc n
counted n None p ys g e = cc
counted n (Some y) None ys g e = cc
counted n (Some y) (Some zs) ys g e = let same : ys ≡ y ∷ zs = cc in ap length same ∙ ap suc (g zs refl)

each_count : {X Y : Type 0} (f : X → Option Y) (xs : List X) (ys : List Y) → each f xs ≡ Some ys → length ys ≡ length xs
each_count f [] ys e = let same : ys ≡ [] = cc in ap length same
each_count f (x ∷ xs) ys e = counted (length xs) (f x) (each f xs) ys (each_count f xs) e

values_count : (ns : List Name) (d : json.Data) (vs : List Datum) → values_under ns d ≡ Some vs → length vs ≡ length ns
values_count ns json.null vs e = cc
values_count ns (json.boolean b) vs e = cc
values_count ns (json.number n) vs e = cc
values_count ns (json.string s) vs e = cc
values_count ns (json.array ds) vs e = cc
values_count ns (json.object ms) vs e = each_count _ ns vs e

-- a request that is made is of this text and this service, with so many values
record Makes (text : List ℕ) (n : Name) (s : Service) (q : Request) : Type 0 where
  of_text : q.text ≡ text
  of_service : q.service ≡ n
  count : length q.values ≡ length (parameters_of s)

makes_with : (text : List ℕ) (n : Name) (s : Service) (o : Option (List Datum)) (q : Request) → ((vs : List Datum) → o ≡ Some vs → length vs ≡ length (parameters_of s)) → request_with text n o ≡ Ok q
    → Makes text n s q
makes_with text n s None q g e = cc
makes_with text n s (Some vs) q g e =
    let t : q.text ≡ text = cc in let m : q.service ≡ n = cc in let same : q.values ≡ vs = cc in
    record { of_text = t; of_service = m; count = ap length same ∙ g vs refl }

takes_by : (text : List ℕ) (n : Name) (o : Option Service) (d : json.Data) (q : Request) → service_in (read_text text) n ≡ o → request_to text n o d ≡ Ok q → TakesValues q.text q.service (length q.values)
takes_by text n None d q is e = cc
takes_by text n (Some s) d q is e =
    let m = makes_with text n s (values_under (parameters_of s) d) q (values_count (parameters_of s) d) e in
    ap (λ t. option_map (λ x. length (parameters_of x)) (service_in (read_text t) q.service)) m.of_text
    ∙ ap (λ k. option_map (λ x. length (parameters_of x)) (service_in (read_text text) k)) m.of_service
    ∙ ap (option_map (λ x. length (parameters_of x))) is ∙ ap Some (sym m.count)

pub takes_own : (text : List ℕ) (n : Name) (d : json.Data) (q : Request) → request_of text n d ≡ Ok q → TakesValues q.text q.service (length q.values)
takes_own text n d q e = takes_by text n (service_in (read_text text) n) d q refl e

same_count : (a b : ℕ) → Some a ≡ Some b → b ≡ a
same_count a b e = cc

-- as the service of its course has parameters
pub one_each : (q : Request) (course : Course) (c : IsCourseOf q course) → TakesValues q.text q.service (length q.values) → length q.values ≡ length (parameters_of c.service)
one_each q course c takes =
    let is : service_in (read_text q.text) q.service ≡ Some c.service = ap (λ r. service_in r q.service) c.read ∙ c.named in
    same_count (length (parameters_of c.service)) (length q.values) (sym (ap (option_map (λ x. length (parameters_of x))) is) ∙ takes)
