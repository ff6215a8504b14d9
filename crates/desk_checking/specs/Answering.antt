-- What is found of a decision table: what `dmn_analysis` answers, and when `--strict` refuses the table.
use Rattle.std.specs.Prelude.{◌≡◌, ◌+◌, ℕ, List, [], ◌∷◌, map, Bool, true, false, not, ◌&&◌, ◌||◌, nat_lt, int_le, Option, None, Some, IfSome, unwrap_or, Vec, if◌then◌else◌}
use Rattle.std.specs.Arc.{arc_str_bytes}
use Rattle.std.specs.List.{All, list_all, slice_get}
use Rattle.std.specs.Option.{is_none, is_some}
use Rattle.std.specs.declared.alloc.Global.{Global}
use Rattle.std.specs.declared.sync.ArcStr.{ArcStr}
use Rattle.feel_value.specs.Datum.{Datum}
use Rattle.dmn_table.specs.Table.{Column, Rule, Table}
use Rattle.dmn_table.specs.declared.hit_policy.HitPolicy.{HitPolicy}
use Rattle.dmn_table.specs.declared.hit_policy.HitPolicy.TheVariants.{Unique, Any, First, Priority}
use Rattle.dmn_analysis.specs.Asked.{is_asked, is_in_utf8}
use Rattle.dmn_analysis.specs.Claims.{IsMaskedAmong, IsNeverMetAmong, TellsGaps, TellsOverlaps}
use Rattle.dmn_analysis.specs.Kinds.{AskKinds}
use Rattle.dmn_analysis.specs.declared.asked.Asked.{Asked}
use Rattle.dmn_analysis.specs.declared.asked.Numbers.{Numbers}
use Rattle.dmn_analysis.specs.declared.asked.Numbers.TheVariants as numbers
use Rattle.dmn_analysis.specs.declared.asked.Texts.{Texts}
use Rattle.dmn_analysis.specs.declared.asked.Texts.TheVariants as texts
use Rattle.dmn_analysis.specs.declared.found.Gaps.{Gaps}
use Rattle.dmn_analysis.specs.declared.found.Masks.{Masks}
use Rattle.dmn_analysis.specs.declared.found.Overlap.{Overlap}
use Rattle.dmn_analysis.specs.declared.found.Overlaps.{Overlaps}
use Rattle.dmn_ranges.specs.Numbers.{least_number, most_number}
use Rattle.desk_checking.specs.Deciding.{EachCanDecide}
use Rattle.desk_checking.specs.Outputs.{HitsGiveSame, TellsOutputs}
use Rattle.desk_checking.specs.declared.answers.Answers.{Answers}
use Rattle.desk_checking.specs.declared.answers.Faults.{Faults}

abbrev pub is_empty : {X : Type 0} → List X → Bool
is_empty [] = true
is_empty (x ∷ xs) = false

-- ---- what is said of what was found

-- that there is none of what was looked for: false where some was found, true where all was looked at, and otherwise not decided
abbrev pub none_of : (some all : Bool) → Option Bool
none_of true all = Some false
none_of false true = Some true
none_of false false = None

-- whether there is no gap, so that the table is complete for what was asked about
abbrev pub is_complete : Gaps → Option Bool
is_complete g = none_of (nat_lt 0 g.more || not (is_empty g.found.items)) g.is_all

-- whether no two rules hit
abbrev pub is_unique : Overlaps → Option Bool
is_unique o = none_of (nat_lt 0 o.more || not (is_empty o.found.items)) o.is_all

-- the gaps among the kinds of values that are asked about: those of every value, where no others were looked for
abbrev pub gaps_of_kinds : Answers → Gaps
gaps_of_kinds a = unwrap_or a.of_kinds a.every

-- those among the words that are asked about
abbrev pub gaps_of_words : Answers → Gaps
gaps_of_words a = unwrap_or a.of_words (gaps_of_kinds a)

-- ---- what was found

-- every value is asked about whose texts are in UTF-8, as those of each request are
abbrev pub AskUtf8 : List Asked → Type 0
AskUtf8 asked = All (λ a. (v : Datum) → is_in_utf8 v ≡ true → is_asked a v ≡ true) asked

-- What gaps and overlaps are looked for among: every value; or what comes to the table, where that is known.
abbrev pub AskWhole : Option (List Asked) → List Asked → Type 0
AskWhole None asked = AskUtf8 asked
AskWhole (Some comes) asked = asked ≡ comes

-- all numbers that values can be
abbrev pub are_all_numbers : Numbers → Bool
are_all_numbers numbers.None = false
are_all_numbers (numbers.Between low high) = int_le low least_number && int_le most_number high
are_all_numbers numbers.All = true

-- all texts, or all in UTF-8
abbrev pub are_all_texts : Texts → Bool
are_all_texts texts.None = false
are_all_texts (texts.These ts) = false
are_all_texts texts.Utf8 = true
are_all_texts texts.All = true

abbrev pub is_every : Asked → Bool
is_every a = (a.null && a.truths) && (a.parted && (are_all_numbers a.numbers && are_all_texts a.texts))

-- the same texts
abbrev pub AreSameTexts : Texts → Texts → Type 0
AreSameTexts texts.None t = t ≡ texts.None
AreSameTexts texts.Utf8 t = t ≡ texts.Utf8
AreSameTexts texts.All t = t ≡ texts.All
AreSameTexts (texts.These ts) t = (us : Vec (ArcStr Global) Global) × (t ≡ texts.These us) × (map arc_str_bytes us.items ≡ map arc_str_bytes ts.items)

-- the same values
pub record AreSame (a b : Asked) : Type 0 where
  pub null : b.null ≡ a.null
  pub truths : b.truths ≡ a.truths
  pub numbers : b.numbers ≡ a.numbers
  pub texts : AreSameTexts a.texts b.texts
  pub parted : b.parted ≡ a.parted

-- What is asked about in a column to which these values come, with tests of these kinds: the values that come; or those of the kinds, where
-- every value comes.
abbrev pub IsNarrowed : Option Asked → Option Asked → Asked → Type 0
IsNarrowed None kinds a = ⊥
IsNarrowed (Some c) None a = AreSame c a
IsNarrowed (Some c) (Some k) a = AreSame (if is_every c then k else c) a

abbrev pub AreNarrowed : List Asked → List Asked → List Asked → Type 0
AreNarrowed comes kinds asked = (k : ℕ) (a : Asked) → slice_get asked k ≡ Some a → IsNarrowed (slice_get comes k) (slice_get kinds k) a

-- that of each column of a table
pub record AskNarrowed (words_only : Bool) (t : Table) (comes asked : List Asked) : Type 0 where
  pub kinds : List Asked
  pub are : AskKinds words_only t kinds
  pub narrowed : AreNarrowed comes kinds asked

-- What is asked about before all else: values of the kinds of the constants in the tests; or what comes to the table, but of a column to which
-- every value comes values of these kinds.
abbrev pub AskBy : Bool → Option (List Asked) → Table → List Asked → Type 0
AskBy words_only None t asked = AskKinds words_only t asked
AskBy words_only (Some comes) t asked = AskNarrowed words_only t comes asked

pub record TellsWords (t : Table) (comes : Option (List Asked)) (gaps : Gaps) : Type 0 where
  pub words : List Asked
  pub asked : AskBy true comes t words
  pub tells : TellsGaps t words gaps

-- the hit policies under which overlaps count
abbrev pub counts_overlaps : HitPolicy → Bool
counts_overlaps Unique = true
counts_overlaps Any = true
counts_overlaps p = false

-- those under which one of several hits decides
abbrev pub has_order : HitPolicy → Bool
has_order First = true
has_order Priority = true
has_order p = false

-- Whether it is against the hit policy that two rules overlap; None where that isn't known. Under `U` it is, under `A` where they give
-- other outputs.
abbrev pub IsJudged : HitPolicy → List Rule → Overlap → Option Bool → Type 0
IsJudged Unique rules o answer = answer ≡ Some true
IsJudged Any rules o answer = TellsOutputs rules o.first o.second answer
IsJudged p rules o answer = Unit {0}

-- of each of these overlaps an answer
abbrev pub AreJudged : HitPolicy → List Rule → List Overlap → List (Option Bool) → Type 0
AreJudged p rules [] [] = Unit {0}
AreJudged p rules [] (a ∷ answers) = ⊥
AreJudged p rules (o ∷ os) [] = ⊥
AreJudged p rules (o ∷ os) (a ∷ answers) = IsJudged p rules o a × AreJudged p rules os answers

-- the places of those that are against it, of these answers from this place on
abbrev pub places_against : ℕ → List (Option Bool) → List ℕ
places_against k [] = []
places_against k (Some true ∷ answers) = k ∷ places_against (k + 1) answers
places_against k (Some false ∷ answers) = places_against (k + 1) answers
places_against k (None ∷ answers) = places_against (k + 1) answers

-- the place of the first of which it isn't known
abbrev pub first_open : ℕ → List (Option Bool) → Option ℕ
first_open k [] = None
first_open k (Some b ∷ answers) = first_open (k + 1) answers
first_open k (None ∷ answers) = Some k

-- These are the overlaps that are against the hit policy, and the first of which it isn't known.
pub record AreAgainst (p : HitPolicy) (rules : List Rule) (found : List Overlap) (faults : Faults) : Type 0 where
  pub answers : List (Option Bool)
  pub judged : AreJudged p rules found answers
  pub places : faults.places.items ≡ places_against 0 answers
  pub first : faults.«open» ≡ first_open 0 answers

abbrev pub AreFaults : Table → Option Overlaps → Faults → Type 0
AreFaults t None faults = (faults.places.items ≡ []) × (faults.«open» ≡ None)
AreFaults t (Some o) faults = AreAgainst t.policy t.rules o.found.items faults

-- What is found of a table, to which these values come, where that is known: gaps among every value, and among the kinds of the constants
-- in its tests; overlaps, where they count; rules that never hit; masked ones, where one of several hits decides; under `A` whether all that
-- hit give the same; and rules of which it isn't known that they can decide. Each is what it says it is. Where it is known what comes,
-- gaps and overlaps are those among that, and so is whether all give the same.
pub record IsFound (t : Table) (comes : Option (List Asked)) (a : Answers) : Type 0 where
  pub all : List Asked
  pub all_are : AskUtf8 all
  pub whole : List Asked
  pub whole_are : AskWhole comes whole
  pub every : TellsGaps t whole a.every
  pub known : a.are_known ≡ is_some comes
  pub kinds : AskBy false comes t a.kinds.items
  pub of_kinds : IfSome a.of_kinds (TellsGaps t a.kinds.items)
  pub of_words : IfSome a.of_words (TellsWords t comes)
  pub counted : is_some a.overlaps ≡ counts_overlaps t.policy
  pub overlaps : IfSome a.overlaps (TellsOverlaps t whole)
  pub faults : AreFaults t a.overlaps a.faults
  pub never : All (IsNeverMetAmong t all) a.never.items
  pub ordered : is_some a.masks ≡ has_order t.policy
  pub masks : IfSome a.masks (λ (ms : Masks). All (λ m. IsMaskedAmong t all m.rule) ms.found.items)
  pub same : a.same ≡ Some true → HitsGiveSame t whole
  pub idle : IfSome a.idle (λ (is : Vec ℕ Global). is.items ≡ [] → EachCanDecide t)

-- ---- what `--strict` refuses

abbrev pub is_yes : Option Bool → Bool
is_yes (Some true) = true
is_yes o = false

-- some values of the kinds that are asked about may meet no rule, and there is no default
abbrev pub lacks_rules : Table → Answers → Bool
lacks_rules t a = not (is_yes (is_complete (gaps_of_kinds a))) && list_all (λ (c : Column). is_none c.fallback) t.outputs

-- rules overlap against the hit policy, or that isn't known
abbrev pub overlaps_fail : Option Overlaps → Faults → Bool
overlaps_fail None faults = false
overlaps_fail (Some o) faults = ((is_some faults.«open» || nat_lt 0 o.more) || not o.is_all) || not (is_empty faults.places.items)

-- rules are masked, or that isn't known
abbrev pub masks_fail : Option Masks → Bool
masks_fail None = false
masks_fail (Some m) = not m.is_all || not (is_empty m.found.items)

-- it isn't known that under `A` all rules that hit give the same
abbrev pub outputs_fail : HitPolicy → Option Bool → Bool
outputs_fail Any same = not (is_yes same)
outputs_fail p same = false

-- there is a rule of which it isn't known that it can decide, or none was looked at
abbrev pub idle_fail : Option (Vec ℕ Global) → Bool
idle_fail None = true
idle_fail (Some is) = not (is_empty is.items)

-- what the searches found is against the table, or wasn't decided
abbrev pub is_faulty : Table → Answers → Bool
is_faulty t a = lacks_rules t a || (overlaps_fail a.overlaps a.faults || (not (is_empty a.never.items) || masks_fail a.masks))

abbrev pub is_refused : Table → Answers → Bool
is_refused t a = is_faulty t a || (outputs_fail t.policy a.same || idle_fail a.idle)
