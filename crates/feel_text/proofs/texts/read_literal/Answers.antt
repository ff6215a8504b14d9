use Rattle.std.proofs.Common.{List, sym, subst, Option}
use Rattle.std.proofs.lemmas.Result.{err_from_is_err_and}
use Rattle.feel_value.specs.Datum.{Datum}
use Rattle.feel_text.specs.declared.token.Token as code
use Rattle.feel_text.specs.Gives.{Gives}
use Rattle.feel_text.specs.Lexical.{IsCut}
use Rattle.feel_text.specs.Readings.{literal_of}
use Rattle.feel_text.specs.Spells.{SpellsLiteral}
use Rattle.feel_text.specs.Token.{views}
use Rattle.feel_text.proofs.ReadingLaws.{answers_found, answers_alone, answers_none, literal_of_spells, literal_fails, literal_from_cut, same_fault}
use Rattle.feel_text.proofs.texts.read_literal.Goals as goal

pub returns-in_err-tokens-clause-reading : goal.returns-in_err-tokens-clause-reading
returns-in_err-tokens-clause-reading c =
    let p = err_from_is_err_and c.from_residual.result c.from_residual.ensures.1 in
    rw (p.1, p.2) (literal_fails c.in_err-tokens.field-0.0 c.args.text.now (λ is. c.in_err-tokens.ensures.none (same_fault is)))

pub returns-clause-reading : goal.returns-clause-reading
returns-clause-reading c =
    let cut : IsCut c.args.text.now (views c.deref.result.now) = subst (λ (items : List code.Token). IsCut c.args.text.now (views items)) (sym c.deref.ensures.value) c.in_ok-tokens.ensures.found in
    subst (λ (o : Option Datum). Gives (λ d. d) c.literal.result o) (literal_from_cut c.args.text.now (views c.deref.result.now) cut) c.literal.ensures

pub returns-clause-found : goal.returns-clause-found
returns-clause-found c = answers_found (literal_of c.args.text.now) (SpellsLiteral c.args.text.now) c.literal.result (literal_of_spells c.args.text.now) (returns-clause-reading c)

pub returns-clause-alone : goal.returns-clause-alone
returns-clause-alone c = answers_alone (literal_of c.args.text.now) (SpellsLiteral c.args.text.now) c.literal.result (literal_of_spells c.args.text.now) (returns-clause-reading c)

pub returns-clause-none : goal.returns-clause-none
returns-clause-none c = answers_none (literal_of c.args.text.now) (SpellsLiteral c.args.text.now) c.literal.result (literal_of_spells c.args.text.now) (returns-clause-reading c)
