use Rattle.std.proofs.Common.{rules, ◌≡◌, ℕ, List, Some, IfNone, MatchOption, true≢false, codes, bytes_eq, ap, sym, ◌∙◌}
use Rattle.serde_json.specs.Data.{Data, object}
use Rattle.json_reader.specs.Members.{members_of}
use Rattle.desk_wire.proofs.FirstKey.{first_key, first_is, neither}
use Rattle.desk_replaying.specs.Line.{Line, Open, Answer, AnswerWith, Resize, IsLine}
use Rattle.desk_replaying.proofs.line.line_in.Goals as goal

module _ (value : Data) where
  abbrev Starts : List ℕ → Type 0
  Starts key = first_key value ≡ key

  no_capacity : Starts (codes "capacity") → ((name : List ℕ) (n : ℕ) → ¬ IsLine (Open name n) value) → ((name : List ℕ) (n : ℕ) → ¬ IsLine (Resize name n) value)
      → (line : Line) → ¬ IsLine line value
  no_capacity starts opens resizes (Open name n) = opens name n
  no_capacity starts opens resizes (Resize name n) = resizes name n
  no_capacity starts opens resizes line = λ is. true≢false (sym (ap (λ k. bytes_eq k (codes "capacity")) (ap first_key is.0 ∙ starts)))

  no_answer : Starts (codes "answer") → ((name : List ℕ) (t : ℕ) → ¬ IsLine (Answer name t) value)
      → ((name : List ℕ) (t : ℕ) (service : List ℕ) (inputs : Data) → ¬ IsLine (AnswerWith name t service inputs) value) → (line : Line) → ¬ IsLine line value
  no_answer starts answer with_work (Answer name t) = answer name t
  no_answer starts answer with_work (AnswerWith name t service inputs) = with_work name t service inputs
  no_answer starts answer with_work line = λ is. true≢false (sym (ap (λ k. bytes_eq k (codes "answer")) (ap first_key is.0 ∙ starts)))

pub returns-in-capacity-clause-other : goal.returns-in-capacity-clause-other
returns-in-capacity-clause-other c =
    let value = object (members_of c.args.members.now) in
    let last : MatchOption c.open_line.result (IfNone c.or_else.result ((name : List ℕ) (n : ℕ) → ¬ IsLine (Resize name n) value)) (λ x. c.or_else.result ≡ Some x) = search rules in
    neither c.open_line.result c.or_else.result (no_capacity value (first_is c.args.members.now c.in_ok-first.first.now c.in_ok-first.ensures.value ∙ c.in-capacity.is))
    c.open_line.ensures.other last

pub returns-in-answer-clause-other : goal.returns-in-answer-clause-other
returns-in-answer-clause-other c =
    let value = object (members_of c.args.members.now) in
    let last : MatchOption c.answer_line.result (IfNone c.or_else-in-answer.result ((name : List ℕ) (t : ℕ) (service : List ℕ) (inputs : Data) → ¬ IsLine (AnswerWith name t service inputs) value)) (λ x. c.or_else-in-answer.result ≡ Some x) = search rules in
    neither c.answer_line.result c.or_else-in-answer.result (no_answer value (first_is c.args.members.now c.in_ok-first.first.now c.in_ok-first.ensures.value ∙ c.in-answer.is))
    c.answer_line.ensures.other last
