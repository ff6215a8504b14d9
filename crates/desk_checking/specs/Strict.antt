-- What holds of a table that `--strict` takes.
use Rattle.std.specs.Prelude.{◌≡◌, ◌⊎◌, List, Option, false}
use Rattle.std.specs.List.{list_all}
use Rattle.std.specs.Option.{is_none}
use Rattle.dmn_table.specs.Table.{Column, Table}
use Rattle.dmn_table.specs.declared.hit_policy.HitPolicy.TheVariants.{Any, Unique}
use Rattle.dmn_analysis.specs.Claims.{IsComplete, IsUniqueAmong}
use Rattle.dmn_analysis.specs.declared.asked.Asked.{Asked}
use Rattle.desk_checking.specs.Answering.{AskBy, AskWhole}
use Rattle.desk_checking.specs.Deciding.{EachCanDecide}
use Rattle.desk_checking.specs.Outputs.{HitsGiveSame}

-- Whatever the names stand for, some rule hits for all values of the kinds of the constants in its tests, or for every value whose texts
-- are in UTF-8; or for all values that come to the table, where these are known.
pub record IsAnswered (t : Table) (comes : Option (List Asked)) : Type 0 where
  pub asked : List Asked
  pub are : AskBy false comes t asked ⊎ AskWhole comes asked
  pub complete : IsComplete t asked

abbrev pub HasDefault : Table → Type 0
HasDefault t = list_all (λ (c : Column). is_none c.fallback) t.outputs ≡ false

-- for no values whose texts are in UTF-8 two rules hit; or for none that come
pub record HasOneHit (t : Table) (comes : Option (List Asked)) : Type 0 where
  pub asked : List Asked
  pub are : AskWhole comes asked
  pub unique : IsUniqueAmong t asked

-- for all such values two rules that hit give the same
pub record HasSameHits (t : Table) (comes : Option (List Asked)) : Type 0 where
  pub asked : List Asked
  pub are : AskWhole comes asked
  pub same : HitsGiveSame t asked

-- Every request of what is asked meets a rule or has a default, no two rules hit against the policy, and each rule can decide.
pub record IsTaken (t : Table) (comes : Option (List Asked)) : Type 0 where
  pub answered : IsAnswered t comes ⊎ HasDefault t
  pub one_hit : t.policy ≡ Unique → HasOneHit t comes
  pub same_hits : t.policy ≡ Any → HasSameHits t comes
  pub decide : EachCanDecide t
