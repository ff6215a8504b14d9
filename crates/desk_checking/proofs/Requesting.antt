-- The lines of requests, one after another.
use Rattle.std.proofs.Common.{◌≡◌, ◌<◌, ◌≤◌, ◌∙◌, ◌+◌, ℕ, zero, suc, Bool, true, false, List, [], ◌∷◌, ◌++◌, Option, Some, None, Result, Ok, Err, drop, length, reverse, take, refl, sym, ap, arith, append-nil, append_assoc, subst}
use Rattle.std.specs.Prelude.{◌==◌}
use Rattle.std.specs.Arc.{arc_value}
use Rattle.std.specs.List.{prefix_len}
use Rattle.std.proofs.lemmas.List.{length-append, length-reverse, length-take, reverse-append, take_all}
use Rattle.serde_json.specs.Data.{Data}
use Rattle.desk_lines.specs.Lines.{lines_of, newline, onto_first}
use Rattle.dmn_plan.specs.ReadModel.{read_model}
use Rattle.dmn_plan.specs.declared.fault.ModelFault.{ModelFault}
use Rattle.desk_wire.specs.Reading.{Reading, Says}
use Rattle.desk_requests.specs.Due.{model_answer}
use Rattle.desk_requests.specs.Gate.{IsOpenAfter, PassesText, listed}
use Rattle.desk_requests.specs.Line.{AreRead, Line, Model}
use Rattle.desk_requests.specs.Refused.{refused_by, refused_lines}
use Rattle.desk_requests.specs.State.{newer_model, number_after}
use Rattle.desk_requests.specs.declared.gate.Gate.{Gate}
use Rattle.desk_requests.specs.declared.refused.RefusedLine.{RefusedLine}
use Rattle.desk_requests.proofs.Passing.{one_more_line}
use Rattle.desk_requests.proofs.Readings.{read-length}
use Rattle.desk_checking.specs.Input.{goes_on}
use Rattle.desk_checking.specs.Requests.{AreRefused, most_refused}

-- ---- the first line of a text

abbrev BeginsWithLine : List ℕ → Type 0
BeginsWithLine text = lines_of text ≡ take (prefix_len goes_on text) text ∷ lines_of (drop 1 (drop (prefix_len goes_on text) text))

one_more_taken : (b k : ℕ) (text : List ℕ) → take (1 + k) (b ∷ text) ≡ b ∷ take k text
one_more_taken b k text = let next : 1 + k ≡ suc k = omega arith in ap (λ n. take n (b ∷ text)) next

one_more_dropped : (b k : ℕ) (text : List ℕ) → drop (1 + k) (b ∷ text) ≡ drop k text
one_more_dropped b k text = let next : 1 + k ≡ suc k = omega arith in ap (λ n. drop n (b ∷ text)) next

-- a byte more before a line
longer_line : (b k : ℕ) (text : List ℕ) → lines_of text ≡ take k text ∷ lines_of (drop 1 (drop k text))
    → onto_first b (lines_of text) ≡ take (1 + k) (b ∷ text) ∷ lines_of (drop 1 (drop (1 + k) (b ∷ text)))
longer_line b k text is =
    ap (onto_first b) is ∙ ap (λ line. line ∷ lines_of (drop 1 (drop k text))) (sym (one_more_taken b k text))
    ∙ ap (λ rest. take (1 + k) (b ∷ text) ∷ lines_of (drop 1 rest)) (sym (one_more_dropped b k text))

first_at : (b : ℕ) (text : List ℕ) (is : Bool) → (b == newline) ≡ is → BeginsWithLine (b ∷ text)
first_at b text true e = rw e refl
first_at b [] false e = rw e refl
first_at b (c ∷ text) false e = rw e (longer_line b (prefix_len goes_on (c ∷ text)) (c ∷ text) (first_at c text (c == newline) refl))

first_of_text : (text : List ℕ) → 0 < length text → BeginsWithLine text
first_of_text [] h = absurd (omega (arith, h))
first_of_text (b ∷ text) h = first_at b text (b == newline) refl

-- ---- lines so far

take_more : {X : Type 0} (most : ℕ) (xs ys : List X) → take most (take most xs ++ ys) ≡ take most (xs ++ ys)
take_more zero xs ys = refl
take_more (suc most) [] ys = refl
take_more (suc most) (x ∷ xs) ys = ap (λ l. x ∷ l) (take_more most xs ys)

abbrev behind : Data → List (Reading Line) → List (Reading Line)
behind model readings = readings ++ Says (Model model) ∷ []

-- so many lines of the text passed the gate, and these of them are refused
pub record Passed (model : Data) (text : List ℕ) (index : ℕ) (rest : List ℕ) (gate : Gate) (refused : List RefusedLine) (count : ℕ) : Type 0 where
  pub seen : List (List ℕ)
  pub all : lines_of text ≡ seen ++ lines_of rest
  pub many : length seen ≡ index
  pub readings : List (Reading Line)
  pub read : AreRead (reverse seen) readings
  pub stands : IsOpenAfter gate (behind model readings)
  pub are : (lanes : ℕ) → length seen < lanes → refused ≡ take most_refused (refused_lines lanes (behind model readings))
  pub counts : (lanes : ℕ) → length seen < lanes → count ≡ length (refused_lines lanes (behind model readings))
  pub few : count ≤ index

none_of_model : {M : Type 0} (json : Data) (r : Result M ModelFault) (k : ℕ) (text : List ℕ) → newer_model json r None ≡ Some text → refused_by (model_answer k r) ≡ []
none_of_model json (Ok m) k text e = refl
none_of_model json (Err f) k text e = cc

nothing_refused : (model : Data) (gate : Gate) (lanes : ℕ) → IsOpenAfter gate (Says (Model model) ∷ []) → refused_lines lanes (Says (Model model) ∷ []) ≡ []
nothing_refused model gate lanes stands =
    append-nil (refused_by (model_answer 1 (read_model model))) ∙ none_of_model model (read_model model) 1 (arc_value gate.plan) stands.model

pub none_passed : (model : Data) (text : List ℕ) (gate : Gate) (refused : List RefusedLine) → refused ≡ [] → IsOpenAfter gate (Says (Model model) ∷ []) → Passed model text 0 text gate refused 0
none_passed model text gate refused none stands = record {
  seen = [];
  all = refl;
  many = refl;
  readings = [];
  read = tt;
  stands = stands;
  are = λ lanes less. none ∙ sym (take_all most_refused [] (omega arith)) ∙ ap (take most_refused) (sym (nothing_refused model gate lanes stands));
  counts = λ lanes less. sym (ap length (nothing_refused model gate lanes stands));
  few = omega arith;
}

-- there are as many readings as lines
as_many : (seen : List (List ℕ)) (readings : List (Reading Line)) → AreRead (reverse seen) readings → length readings ≡ length seen
as_many seen readings read = read-length (reverse seen) readings read ∙ length-reverse seen

pub few_refused : (model : Data) (text : List ℕ) (index : ℕ) (rest : List ℕ) (gate : Gate) (refused : List RefusedLine) (count : ℕ) → Passed model text index rest gate refused count → length refused ≤ most_refused
few_refused model text index rest gate refused count p =
    let lanes = suc (length p.seen) in
    let xs = refused_lines lanes (behind model p.readings) in
    omega (arith, ap length (p.are lanes (omega arith)), length-take most_refused xs)

pub one_at_most : (found : Option RefusedLine) → length (listed found) ≤ 1
one_at_most None = omega arith
one_at_most (Some line) = omega arith

pub one_passed : (model : Data) (text : List ℕ) (index : ℕ) (rest line left : List ℕ) (old new : Gate) (refused refused' : List RefusedLine) (count count' : ℕ) (found : Option RefusedLine)
    → Passed model text index rest old refused count → count' ≡ count + length (listed found) → 0 < length rest → line ≡ take (prefix_len goes_on rest) rest → left ≡ drop (prefix_len goes_on rest) rest
    → PassesText old (index + 2) line found new → (length refused ≤ most_refused → refused' ≡ take most_refused (refused ++ listed found))
    → Passed model text (index + 1) (drop 1 left) new refused' count'
one_passed model text index rest line left old new refused refused' count count' found p counted some first others passes adds =
    let earlier = behind model p.readings in
    let long : length earlier ≡ index + 1 = omega (arith, length-append p.readings (Says (Model model) ∷ []), as_many p.seen p.readings p.read, p.many) in
    let number : index + 2 ≡ number_after earlier = omega (arith, long) in
    let passed = passes.2 earlier p.stands number in
    let split : lines_of rest ≡ line ∷ lines_of (drop 1 left) =
    first_of_text rest some ∙ ap (λ l. l ∷ lines_of (drop 1 (drop (prefix_len goes_on rest) rest))) (sym first) ∙ ap (λ t. line ∷ lines_of (drop 1 t)) (sym others) in
    record {
      seen = p.seen ++ line ∷ [];
      all = p.all ∙ ap (λ ls. p.seen ++ ls) split ∙ sym (append_assoc p.seen (line ∷ []) (lines_of (drop 1 left)));
      many = omega (arith, length-append p.seen (line ∷ []), p.many);
      readings = passes.0 ∷ p.readings;
      read = rw (reverse-append p.seen (line ∷ [])) (passes.1, p.read);
      stands = passed.1;
      are = λ lanes less.
          let enough : length earlier < lanes = omega (arith, length-append p.seen (line ∷ []), p.many, long, less) in
          let fewer : length p.seen < lanes = omega (arith, p.many, long, enough) in
          let xs = refused_lines lanes earlier in
          adds (few_refused model text index rest old refused count p)
          ∙ ap (λ rs. take most_refused (rs ++ listed found)) (p.are lanes fewer)
          ∙ take_more most_refused xs (listed found)
          ∙ ap (λ ys. take most_refused (xs ++ ys)) (sym (passed.0 lanes enough))
          ∙ ap (take most_refused) (sym (one_more_line lanes earlier passes.0));
      counts = λ lanes less.
          let enough : length earlier < lanes = omega (arith, length-append p.seen (line ∷ []), p.many, long, less) in
          let fewer : length p.seen < lanes = omega (arith, p.many, long, enough) in
          let xs = refused_lines lanes earlier in
          let all = one_more_line lanes earlier passes.0 ∙ ap (λ ys. xs ++ ys) (passed.0 lanes enough) in
          omega (arith, counted, p.counts lanes fewer, ap length all, length-append xs (listed found));
      few = omega (arith, counted, p.few, one_at_most found);
    }

no_text : (text : List ℕ) → length text ≤ 0 → text ≡ []
no_text [] h = refl
no_text (b ∷ text) h = absurd (omega (arith, h))

pub all_passed : (model : Data) (text : List ℕ) (index : ℕ) (rest : List ℕ) (gate : Gate) (refused : List RefusedLine) (count : ℕ) → Passed model text index rest gate refused count → length rest ≤ 0
    → AreRefused model (lines_of text) refused count
all_passed model text index rest gate refused count p done =
    let whole : lines_of text ≡ p.seen = p.all ∙ ap (λ t. p.seen ++ lines_of t) (no_text rest done) ∙ append-nil p.seen in
    record {
      readings = p.readings;
      read = subst (λ ls. AreRead (reverse ls) p.readings) (sym whole) p.read;
      first_are = λ lanes less. p.are lanes (omega (arith, ap length whole, less));
      count_is = λ lanes less. p.counts lanes (omega (arith, ap length whole, less));
    }
