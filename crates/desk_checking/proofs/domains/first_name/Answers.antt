use Rattle.std.proofs.Common.{◌≡◌, ◌∙◌, sym, ap, ℕ, List, Option, None, Some, MatchOption, Bor, take, lit<}
use Rattle.std.proofs.Math.Seq.{take-length}
use Rattle.std.proofs.lemmas.Str.Pattern.{IsSplitOnceResult, split_once_first}
use Rattle.desk_checking.specs.Domains.{first_name}
use Rattle.desk_checking.proofs.domains.first_name.Goals as goal

first_by : (path : List ℕ) (r : Option (Bor (List ℕ) × Bor (List ℕ))) → IsSplitOnceResult 46 path r → MatchOption r (path ≡ first_name path) (λ x. x.0.now ≡ first_name path)
first_by path None h = sym (ap (λ n. take n path) (split_once_first 46 path None h (lit< tt)) ∙ take-length path)
first_by path (Some x) h = (split_once_first 46 path (Some x) h (lit< tt)).1

pub returns-in_default : goal.returns-in_default
returns-in_default c = let h = first_by c.args.path.now c.split_once.result c.split_once.ensures.cases in rw c.in_default.is at h

pub returns : goal.returns
returns c = let h = first_by c.args.path.now c.split_once.result c.split_once.ensures.cases in rw c.in-Some.is at h
