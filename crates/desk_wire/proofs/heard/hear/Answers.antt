use Rattle.std.proofs.Common.{◌≡◌, ◌⊎◌, None, sym, subst, true, true≢false, ◌∙◌}
use Rattle.std.specs.Str.{IsUtf8}
use Rattle.serde_json.specs.Read.{read}
use Rattle.desk_wire.specs.Reading.{is_blank}
use Rattle.desk_wire.proofs.Hearing.{kept_heard, long_heard}
use Rattle.desk_wire.proofs.heard.hear.Goals as goal

pub returns-in_default : goal.returns-in_default
returns-in_default c = λ it e. long_heard c.args.line.now it c.in_default.ensures e

pub returns-then-is_blank : goal.returns-then-is_blank
returns-then-is_blank c = λ it e.
    let k = kept_heard c.args.line.now it c.in-Some.bytes.now c.in-Some.ensures e in
    (k.1, subst (λ t. is_blank t ≡ true) k.0 (sym c.if-is_blank.ensures))

pub returns-in-Object : goal.returns-in-Object
returns-in-Object c = λ it e.
    let k = kept_heard c.args.line.now it c.in-Some.bytes.now c.in-Some.ensures e in
    let parsed = rw c.in-Object.is at c.in_ok-members.ensures in
    (k.1, rw (← k.0) (λ b. true≢false (sym b ∙ sym c.if-is_blank.ensures)), rw (← k.0) parsed.0, rw (← k.0) parsed.1)

pub returns-in-Other : goal.returns-in-Other
returns-in-Other c = λ it e.
    let k = kept_heard c.args.line.now it c.in-Some.bytes.now c.in-Some.ensures e in
    let parsed = rw c.in-Other.is at c.in_ok-members.ensures in
    (k.1, rw (← k.0) (λ b. true≢false (sym b ∙ sym c.if-is_blank.ensures)), rw (← k.0) parsed.0, (parsed.1.0, rw (← k.0) parsed.1.1, parsed.1.2))

pub returns-in-Syntax : goal.returns-in-Syntax
returns-in-Syntax c = λ it e.
    let k = kept_heard c.args.line.now it c.in-Some.bytes.now c.in-Some.ensures e in
    let parsed = rw c.in-Syntax.is at c.in_ok-members.ensures in
    (k.1, rw (← k.0) (λ b. true≢false (sym b ∙ sym c.if-is_blank.ensures)), subst (λ t. ¬ IsUtf8 t ⊎ (read t ≡ None)) k.0 parsed)
