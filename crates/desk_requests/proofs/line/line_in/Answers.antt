use Rattle.std.proofs.Common.{rules, ◌≡◌, ℕ, List, Some, IfNone, MatchOption, true≢false, codes, bytes_eq, ap, sym, ◌∙◌}
use Rattle.serde_json.specs.Data.{Data, object}
use Rattle.json_reader.specs.Members.{members_of}
use Rattle.desk_wire.proofs.FirstKey.{first_key, first_is, neither}
use Rattle.desk_requests.specs.Line.{Line, Request, Close, IsLine}
use Rattle.desk_requests.proofs.line.line_in.Goals as goal

-- a line whose first key this is names a client
no_client : (value : Data) → first_key value ≡ codes "client" → ((name service : List ℕ) (inputs : Data) → ¬ IsLine (Request name service inputs) value)
    → ((name : List ℕ) → ¬ IsLine (Close name) value) → (line : Line) → ¬ IsLine line value
no_client value starts requests closes (Request name service inputs) = requests name service inputs
no_client value starts requests closes (Close name) = closes name
no_client value starts requests closes line = λ is. true≢false (sym (ap (λ k. bytes_eq k (codes "client")) (ap first_key is.0 ∙ starts)))

pub returns-in-client-clause-other : goal.returns-in-client-clause-other
returns-in-client-clause-other c =
    let value = object (members_of c.args.members.now) in
    let last : MatchOption c.request_line.result (IfNone c.or_else.result ((name : List ℕ) → ¬ IsLine (Close name) value)) (λ x. c.or_else.result ≡ Some x) = search rules in
    neither c.request_line.result c.or_else.result (no_client value (first_is c.args.members.now c.in_ok-first.first.now c.in_ok-first.ensures.value ∙ c.in-client.is))
    c.request_line.ensures.other last
