use Rattle.std.proofs.Common.{ap, ap₂, ◌≡◌, ◌∙◌, Some, [], ◌∷◌, Option, Bool}
use Rattle.clap.specs.Words.{Rule, Text, new_rule, rule_of}
use Rattle.clap.specs.declared.builder.action.ArgAction.TheVariants.{Set}
use Rattle.clap.specs.declared.builder.arg.Arg.{Arg}
use Rattle.clap.specs.declared.builder.value_parser.ValueParser.{ValueParser}
use Rattle.clap.specs.declared.builder.value_parser.ValueParser.TheVariants.{Unsigned}
use Rattle.desk_commands.proofs.command.number_option.Goals as goal

abbrev is_global : Arg → Bool
is_global a = a.global

pub returns-clause-local : goal.returns-clause-local
returns-clause-local c = ap is_global c.help.ensures ∙ ap is_global c.value_parser.ensures.others ∙ ap is_global c.default_value.ensures ∙ ap is_global c.action.ensures
    ∙ ap is_global c.value_name.ensures ∙ ap is_global c.long.ensures ∙ c.new.ensures.optional.1

pub returns-clause-help : goal.returns-clause-help
returns-clause-help c = ap (λ (a : Arg). a.help) c.help.ensures

abbrev with_name : Text → Rule
with_name name = record (new_rule name) { long = Some name }

abbrev with_value : Text → Rule
with_value name = record (with_name name) { value_names = 1 }

abbrev with_action : Text → Rule
with_action name = record (with_value name) { action = Some Set }

abbrev with_usual : Text → Text → Rule
with_usual name usual = record (with_action name) { defaults = usual ∷ [] }

pub returns-clause-rule : goal.returns-clause-rule
returns-clause-rule c =
    let name : Text = c.args.name.now in
    let long : rule_of c.long.result ≡ with_name name = ap rule_of c.long.ensures ∙ ap (λ (r : Rule). record r { long = Some name }) c.new.ensures.rule in
    let named : rule_of c.value_name.result ≡ with_value name = ap rule_of c.value_name.ensures ∙ ap (λ (r : Rule). record r { value_names = 1 }) long in
    let set : rule_of c.action.result ≡ with_action name = ap rule_of c.action.ensures ∙ ap (λ (r : Rule). record r { action = Some Set }) named in
    let usual : rule_of c.default_value.result ≡ with_usual name c.args.usual.now
    = ap rule_of c.default_value.ensures ∙ ap (λ (r : Rule). record r { defaults = c.args.usual.now ∷ [] }) set in
    let given = c.value_parser.ensures.given in
    let parser : c.value_parser.result.value_parser ≡ Some (Unsigned 1 c.args.most) = given.1 ∙ ap Some (given.2 ∙ c.unsigned.ensures) in
    ap rule_of c.help.ensures ∙ ap rule_of c.value_parser.ensures.others ∙ ap₂ (λ (r : Rule) (p : Option ValueParser). record r { parser = p }) usual parser
