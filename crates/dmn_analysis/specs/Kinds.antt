-- What is asked about in the columns of a table: the kinds of the constants that stand in their tests.
use Rattle.std.specs.Prelude.{◌≡◌, ℕ, List, [], ◌∷◌, length, Bool, true, false, not, ◌&&◌, ◌||◌, Option, None, Some}
use Rattle.std.specs.List.{flat_map, list_any, slice_get}
use Rattle.feel_text.specs.Expr.{Expr, Exprs, none, more, Null, Boolean, Text, Members}
use Rattle.feel_text.specs.Tests.{Test, Compares, Interval, Equals, Tests, Any, OneOf, NoneOf}
use Rattle.dmn_table.specs.Table.{Rule, Table}
use Rattle.dmn_analysis.specs.Constant.{bare, is_sum}
use Rattle.dmn_analysis.specs.declared.asked.Asked.{Asked}
use Rattle.dmn_analysis.specs.declared.asked.Numbers.{Numbers}
use Rattle.dmn_analysis.specs.declared.asked.Numbers.TheVariants as numbers
use Rattle.dmn_analysis.specs.declared.asked.Texts.{Texts}
use Rattle.dmn_analysis.specs.declared.asked.Texts.TheVariants as texts

-- ---- the constants of a column

-- the tests of an entry
abbrev pub tests_in : Tests → List Test
tests_in Any = []
tests_in (OneOf ts) = ts
tests_in (NoneOf ts) = ts

abbrev pub tests_of_entry : Option Tests → List Test
tests_of_entry None = []
tests_of_entry (Some ts) = tests_in ts

-- the tests of a column: of the entries of the rules at its place
abbrev pub column_tests : List Rule → ℕ → List Test
column_tests rules place = flat_map (λ r. tests_of_entry (slice_get r.tests place)) rules

-- the expressions that a test compares the input with by order, without their parentheses
abbrev pub bounds_in : Test → List Expr
bounds_in (Compares bound e) = bare e ∷ []
bounds_in (Interval closed_low low high closed_high) = bare low ∷ bare high ∷ []
bounds_in (Equals e) = []

-- the members of a list without their parentheses, or else the expression itself
abbrev pub without_parentheses : Exprs → List Expr
without_parentheses none = []
without_parentheses (more e es) = bare e ∷ without_parentheses es

abbrev pub listed : Expr → List Expr
listed (Members es) = without_parentheses es
listed e = e ∷ []

-- all that a test compares the input with
abbrev pub exprs_in : Test → List Expr
exprs_in (Compares bound e) = bare e ∷ []
exprs_in (Interval closed_low low high closed_high) = bare low ∷ bare high ∷ []
exprs_in (Equals e) = listed (bare e)

-- ---- their kinds

abbrev pub is_null : Expr → Bool
is_null Null = true
is_null e = false

abbrev pub is_truth : Expr → Bool
is_truth (Boolean b) = true
is_truth e = false

abbrev pub is_list : Expr → Bool
is_list (Members es) = true
is_list e = false

abbrev pub text_in : Expr → List (List ℕ)
text_in (Text s) = s ∷ []
text_in e = []

abbrev pub is_text : Expr → Bool
is_text (Text s) = true
is_text e = false

-- the kinds of the constants of tests, their texts, and whether a text is compared by order
pub record Kinds : Type 0 where
  pub null : Bool
  pub truths : Bool
  pub numbers : Bool
  pub lists : Bool
  pub words : List (List ℕ)
  pub by_order : Bool

abbrev pub kinds_of : List Test → Kinds
kinds_of ts = record {
  null = list_any is_null (flat_map exprs_in ts);
  truths = list_any is_truth (flat_map exprs_in ts);
  numbers = list_any is_sum (flat_map exprs_in ts);
  lists = list_any is_list (flat_map exprs_in ts);
  words = flat_map text_in (flat_map exprs_in ts);
  by_order = list_any is_text (flat_map bounds_in ts);
}

abbrev pub is_empty : {X : Type 0} → List X → Bool
is_empty [] = true
is_empty (x ∷ xs) = false

-- whether no constant but null stands in the tests
abbrev pub has_none : Kinds → Bool
has_none k = not ((k.truths || k.numbers) || k.lists) && is_empty k.words

-- ---- what is asked about

-- The texts that are asked about: none where none stand in the tests, and otherwise all, or those in UTF-8 where a text is compared by
-- order; of words alone those that stand there, where none is.
abbrev pub AskTexts : Bool → Kinds → Texts → Type 0
AskTexts words_only k texts.None = k.words ≡ []
AskTexts words_only k texts.Utf8 = (is_empty k.words ≡ false) × (k.by_order ≡ true)
AskTexts words_only k texts.All = (is_empty k.words ≡ false) × (k.by_order ≡ false) × (words_only ≡ false)
AskTexts words_only k (texts.These ts) =
    (is_empty k.words ≡ false) × (k.by_order ≡ false) × (words_only ≡ true)

-- all numbers or none
abbrev pub numbers_of : Bool → Numbers
numbers_of true = numbers.All
numbers_of false = numbers.None

-- the values of the kinds of some constants are asked about
pub record AsksKinds (words_only : Bool) (k : Kinds) (a : Asked) : Type 0 where
  pub null : a.null ≡ k.null
  pub truths : a.truths ≡ k.truths
  pub numbers : a.numbers ≡ numbers_of k.numbers
  pub parted : a.parted ≡ k.lists
  pub texts : AskTexts words_only k a.texts

-- every value is asked about; of texts those in UTF-8, where a text is compared by order
pub record AsksAll (k : Kinds) (a : Asked) : Type 0 where
  pub null : a.null ≡ true
  pub truths : a.truths ≡ true
  pub numbers : a.numbers ≡ numbers.All
  pub parted : a.parted ≡ true
  pub utf8 : k.by_order ≡ true → a.texts ≡ texts.Utf8
  pub all : k.by_order ≡ false → a.texts ≡ texts.All

-- the values of the kinds of the constants in the tests of a column, or every value where there is no constant but null
abbrev pub AsksOf : Bool → Kinds → Asked → Type 0
AsksOf words_only k a = (has_none k ≡ false → AsksKinds words_only k a) × (has_none k ≡ true → AsksAll k a)

-- that of each column of a table
pub record AskKinds (words_only : Bool) (t : Table) (asked : List Asked) : Type 0 where
  pub one_each : length asked ≡ length t.inputs
  pub each : (place : ℕ) (a : Asked) → slice_get asked place ≡ Some a → AsksOf words_only (kinds_of (column_tests t.rules place)) a
