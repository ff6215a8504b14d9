-- The domains that stand beside a model: unary tests of constants, each under the name of an input, or under a path into one.
use Rattle.std.specs.Prelude.{◌≡◌, ◌<◌, ◌&&◌, ℕ, List, [], ◌∷◌, ◌++◌, length, map, Bool, true, false, Option, None, Some, is_some, nat_eq, codes, string_bytes, if◌then◌else◌}
use Rattle.std.specs.List.{before_first, list_all, list_any}
use Rattle.serde_json.specs.Data.{Data, object, Members, no_members, member}
use Rattle.serde_json.specs.Find.{as_str, get}
use Rattle.serde_json.specs.Read.{read}
use Rattle.feel_value.specs.Found.{◌>>=◌}
use Rattle.feel_text.specs.Expr.{Expr, Exprs, none, more, Null, Boolean, Number, Text, Name as Named, Group, Members as Listed, Call, Modulo, Not, Negate, Path, Binary, Between, If}
use Rattle.feel_text.specs.Readings.{tests_of}
use Rattle.feel_text.specs.Tests.{Test, Compares, Interval, Equals, Tests, Any, OneOf, NoneOf}
use Rattle.dmn_analysis.specs.Kinds.{is_empty}
use Rattle.dmn_check.specs.Pointer.{escaped}
use Rattle.dmn_form.specs.Draft.{Draft, draft_of}
use Rattle.dmn_form.specs.Model.{Name}
use Rattle.dmn_names.specs.Places.{input_place}
use Rattle.dmn_told.specs.Parts.{parts}
use Rattle.dmn_told.specs.declared.domains.Domain.{Domain}
use Rattle.desk_checking.specs.FirstFault.{subject}
use Rattle.desk_checking.specs.declared.findings.CheckFault.{CheckFault}
use Rattle.desk_checking.specs.declared.findings.CheckFault.TheVariants as found

-- ---- constants

abbrev mutual
  -- no name stands in it
  pub is_constant : Expr → Bool
  is_constant Null = true
  is_constant (Boolean b) = true
  is_constant (Number n) = true
  is_constant (Text bytes) = true
  is_constant (Named name) = false
  is_constant (Group e) = is_constant e
  is_constant (Listed es) = are_constant es
  is_constant (Call f e) = is_constant e
  is_constant (Modulo a b) = is_constant a && is_constant b
  is_constant (Not e) = is_constant e
  is_constant (Negate e) = is_constant e
  is_constant (Path e name) = is_constant e
  is_constant (Binary op a b) = is_constant a && is_constant b
  is_constant (Between e low high) = is_constant e && is_constant low && is_constant high
  is_constant (If test a b) = is_constant test && is_constant a && is_constant b

  pub are_constant : Exprs → Bool
  are_constant none = true
  are_constant (more e es) = is_constant e && are_constant es

abbrev pub has_constants : Test → Bool
has_constants (Compares bound e) = is_constant e
has_constants (Interval closed_low low high closed_high) = is_constant low && is_constant high
has_constants (Equals e) = is_constant e

abbrev pub have_constants : Tests → Bool
have_constants Any = true
have_constants (OneOf ts) = list_all has_constants ts
have_constants (NoneOf ts) = list_all has_constants ts

-- ---- what stands beside a model

-- under the key `domains`
abbrev pub domains_beside : Data → Option Data
domains_beside d = get (codes "domains") d

-- the name of an input or a path into one, and tests that its values meet
abbrev pub Declared : Type 0
Declared = Name × Tests

abbrev pub domain_view : Domain → Declared
domain_view d = (string_bytes d.name, d.tests)

-- tests, unless a name stands in them
abbrev pub of_constants : Tests → Option Tests
of_constants t = if have_constants t then Some t else None

-- the unary tests of constants that a text spells
abbrev pub constant_tests : List ℕ → Option Tests
constant_tests s = tests_of s >>= of_constants

-- what is declared under a name, by a text
abbrev pub declared_as : Name → Data → Option Declared
declared_as n d = as_str d >>= λ s. constant_tests s >>= λ t. Some (n, t)

-- what stands before the first dot of a path: the name that it begins with
abbrev pub first_name : Name → Name
first_name n = before_first (λ c. nat_eq c 46) n

-- a part of a path is empty
abbrev pub has_empty_part : Name → Bool
has_empty_part n = list_any is_empty (parts n)

-- what is declared of an input, or of a member of one
abbrev pub declared_of : Draft → Name → Data → Option Declared
declared_of m n d = if has_empty_part n then None else (if is_some (input_place m (first_name n)) then declared_as n d else None)

abbrev pub with_domain : Option Declared → List Declared → List Declared
with_domain None ds = ds
with_domain (Some d) ds = d ∷ ds

abbrev pub with_refused : Name → Option Declared → List Name → List Name
with_refused n None ns = n ∷ ns
with_refused n (Some d) ns = ns

-- what is declared, member by member
abbrev pub domains_among : Draft → Members → List Declared
domains_among m no_members = []
domains_among m (member n d ms) = with_domain (declared_of m n d) (domains_among m ms)

-- the names under which nothing is declared that can be read
abbrev pub refused_among : Draft → Members → List Name
refused_among m no_members = []
refused_among m (member n d ms) = with_refused n (declared_of m n d) (refused_among m ms)

abbrev pub domains_in : Draft → Option Data → List Declared
domains_in m None = []
domains_in m (Some (object ms)) = domains_among m ms
domains_in m (Some d) = []

-- What can't be read beside a model: the values under these names, or the whole value, which is no object.
abbrev pub refused_in : Draft → Option Data → List (Option Name)
refused_in m None = []
refused_in m (Some (object ms)) = map Some (refused_among m ms)
refused_in m (Some d) = None ∷ []

abbrev pub refused_by : Option Draft → Option Data → List (Option Name)
refused_by None beside = []
refused_by (Some m) beside = refused_in m beside

-- ---- the fault

-- A model that `serve` takes has no fault where all that is declared beside it can be read, and otherwise this one.
abbrev pub AreDomainsOf : Option CheckFault → List (Option Name) → Type 0
AreDomainsOf None refused = refused ≡ []
AreDomainsOf (Some found.Domain) refused = 0 < length refused
AreDomainsOf (Some found.Long) refused = Unit {0}
AreDomainsOf (Some (found.Model f)) refused = Unit {0}

-- that of the model in a text
abbrev pub FitsDomains : List ℕ → Option CheckFault → Type 0
FitsDomains text f = (d : Data) → read text ≡ Some d → AreDomainsOf f (refused_by (draft_of (subject d)) (domains_beside d))

-- the place of what can't be read, as a JSON Pointer
abbrev pub domain_pointer : Option Name → List ℕ
domain_pointer None = codes "/domains"
domain_pointer (Some n) = codes "/domains/" ++ escaped n
