use Rattle.std.proofs.Common.{◌∙◌, ap, refl, sym, subst, Err}
use Rattle.std.proofs.lemmas.Result.{err_from_is_err_and}
use Rattle.desk_checking.specs.Domains.{FitsDomains}
use Rattle.desk_checking.specs.FirstFault.{IsFirstFault}
use Rattle.desk_checking.specs.Input.{model_text, request_lines}
use Rattle.desk_checking.specs.Verdicts.{failures_in}
use Rattle.desk_checking.proofs.Telling.{both_failures, cut_short, run_whole, told_same}
use Rattle.desk_checking.proofs.model_check.check.Goals as goal

pub returns-in_err-write_told : goal.returns-in_err-write_told
returns-in_err-write_told g c =
    let input = c.in_ok-text.text.items in
    let options = c.args.options in
    let verdict = c.in_ok-verdict.verdict in
    let cut = c.in_err-write_told.ensures in
    let p = err_from_is_err_and c.from_residual-in_err-write_told.result c.from_residual-in_err-write_told.ensures.1 in
    let model = c.model_and_requests.ensures.model ∙ ap (model_text options) c.deref.ensures.value in
    let lines = c.model_and_requests.ensures.requests ∙ ap (request_lines options) c.deref.ensures.value in
    let failures = both_failures (failures_in options verdict) _ _ c.is_strict_failure-is_strict_failure.ensures.is c.is_null_failure-is_null_failure.ensures.is in
    cut_short options _ _ _ _ _ (p.1 ∙ ap Err (p.2 ∙ cut.0)) (record {
      findings = record { fault = verdict.fault; is_strict_failure = c.is_strict_failure-is_strict_failure.result; is_null_failure = c.is_null_failure-is_null_failure.result; refused = verdict.refused };
      told = cut.2.told;
      untold = cut.2.untold;
      finds = record {
        input = input;
        read = c.in_ok-text.ensures.whole.0;
        at_end = c.in_ok-text.ensures.whole.1;
        first = subst (λ t. IsFirstFault t verdict.fault) model c.in_ok-verdict.ensures.first;
        domains = subst (λ t. FitsDomains t verdict.fault) model c.in_ok-verdict.ensures.domains;
        tells = told_same options _ _ _ _ _ _ _ _ _ _ model lines failures cut.2.begins c.in_ok-verdict.ensures.tells;
      };
      written = cut.2.written;
    }) cut.1 (c.in_ok-text.ensures.counts (λ e. cc))

pub returns : goal.returns
returns g c =
    let input = c.in_ok-text.text.items in
    let options = c.args.options in
    let verdict = c.in_ok-verdict.verdict in
    let model = c.model_and_requests.ensures.model ∙ ap (model_text options) c.deref.ensures.value in
    let lines = c.model_and_requests.ensures.requests ∙ ap (request_lines options) c.deref.ensures.value in
    let failures = both_failures (failures_in options verdict) _ _ c.is_strict_failure-is_strict_failure.ensures.is c.is_null_failure-is_null_failure.ensures.is in
    run_whole options _ _ _ _ (record { fault = verdict.fault; is_strict_failure = c.is_strict_failure-is_strict_failure.result; is_null_failure = c.is_null_failure-is_null_failure.result; refused = verdict.refused }) verdict.text.items
    (record {
      input = input;
      read = c.in_ok-text.ensures.whole.0;
      at_end = c.in_ok-text.ensures.whole.1;
      first = subst (λ t. IsFirstFault t verdict.fault) model c.in_ok-verdict.ensures.first;
      domains = subst (λ t. FitsDomains t verdict.fault) model c.in_ok-verdict.ensures.domains;
      tells = told_same options _ _ _ _ _ _ _ _ _ _ model lines failures refl c.in_ok-verdict.ensures.tells;
    }) c.in_ok-write_told.ensures.0 (λ e. c.is_strict_failure-is_strict_failure.ensures.only e) (λ e. c.is_null_failure-is_null_failure.ensures.only e) c.in_ok-write_told.ensures.1 (c.in_ok-text.ensures.counts (λ e. cc))
