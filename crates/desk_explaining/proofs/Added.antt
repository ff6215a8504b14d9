-- Reasons are members that are added.
use Rattle.std.proofs.Common.{◌≡◌, ℕ, Bool, true, false, nat_le, length, List, codes, refl, ap, ◌∙◌, if◌then◌else◌}
use Rattle.serde_json.specs.Data.{Items, Members, array, member, object}
use Rattle.serde_json.specs.Written.{compact_text}
use Rattle.feel_value.specs.declared.feel.Outcome.{Outcome}
use Rattle.feel_value.specs.declared.feel.Outcome.TheVariants.{Is, Limit}
use Rattle.json_writer.specs.Bounded.{most_bytes}
use Rattle.desk_wire.specs.Parts.{with_name, with_number, with_word}
use Rattle.desk_wire.specs.Reports.{Report, Loaded, Faulty, Refused, Of, Reply, report_json}
use Rattle.desk_wire.specs.declared.word.Word.TheVariants as word
use Rattle.desk_requests.specs.Line.{Model, Request}
use Rattle.desk_explaining.specs.Due.{explanation, result_told, sum_of}
use Rattle.desk_explaining.specs.Reasons.{ReasonsAreAdded, only_in, reply_keys, without_reasons}

-- whether the decisions are long, which b says, and whatever they are, the reply stands
by_length : (name : List ℕ) (k : ℕ) (text service : List ℕ) (given : Members) (decisions : Items) (outcome : Outcome) (t : ℕ) (b : Bool)
    → only_in reply_keys (object (with_name (codes "client") name (with_number (codes "line") k (with_name (codes "model") (sum_of text)
    (with_name (codes "service") service (member (codes "inputs") (object given)
    (if b then member (codes "decisions") (array decisions) (result_told outcome t) else with_word (codes "explained") word.Long (result_told outcome t)))))))) ≡ report_json (Reply name t outcome)
by_length name k text service given decisions (Is value) t true = refl
by_length name k text service given decisions (Is value) t false = refl
by_length name k text service given decisions Limit t true = refl
by_length name k text service given decisions Limit t false = refl

replied : (name : List ℕ) (k : ℕ) (text service : List ℕ) (given : Members) (decisions : Items) (outcome : Outcome) (t : ℕ)
    → only_in reply_keys (explanation name k text service given decisions outcome t) ≡ report_json (Reply name t outcome)
replied name k text service given decisions outcome t = by_length name k text service given decisions outcome t (nat_le (length (compact_text (array decisions))) most_bytes)

-- a report without reasons has nothing to leave out
plain : (report : Report) → without_reasons report (report_json report) ≡ report_json report
plain (Loaded k) = refl
plain (Faulty k fault) = refl
plain (Refused k why) = refl
plain (Of client k told) = refl
plain (Reply client t (Is value)) = refl
plain (Reply client t Limit) = refl

pub added : ReasonsAreAdded
added misses k model (Model json) (Loaded line) answer is = ap (without_reasons (Loaded line)) is
added misses k model (Model json) (Faulty line fault) answer is = is
added misses k model (Model json) (Refused line why) answer is = is
added misses k model (Model json) (Of client line told) answer is = is
added misses k model (Model json) (Reply client t outcome) answer is = ap (without_reasons (Reply client t outcome)) is ∙ plain (Reply client t outcome)
added misses k model (Request n s i) (Loaded line) answer is = ap (without_reasons (Loaded line)) is
added misses k model (Request n s i) (Faulty line fault) answer is = is
added misses k model (Request n s i) (Refused line why) answer is = is
added misses k model (Request n s i) (Of client line told) answer is = is
added misses k model (Request n s i) (Reply client t outcome) answer is =
    ap (only_in reply_keys) is.7 ∙ replied client k is.0 s is.4 is.5 outcome t
added misses k model line report answer is = ap (without_reasons report) is ∙ plain report
