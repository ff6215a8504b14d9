-- There is a refused table exactly where the model has the fault.
use Rattle.std.proofs.Common.{◌≡◌, ℕ, List, [], ◌∷◌, length, refl, ◌∙◌, ap, false, ◌||◌, nat_lt, Option, None, Some}
use Rattle.std.specs.List.{list_any}
use Rattle.std.specs.Option.{is_some}
use Rattle.dmn_table.specs.declared.fault.TableFault.{TableFault}
use Rattle.dmn_form.specs.Draft.{Draft}
use Rattle.dmn_logic.specs.Parts.{texts_in, tables_in}
use Rattle.dmn_logic.specs.Faults.{is_refused, has_refused_table}
use Rattle.dmn_check.specs.Told.{have_any, capped}
use Rattle.dmn_check.specs.Refused.{fault_of_table, refused, refused_look, refused_tables}
use Rattle.dmn_check.proofs.Presence.{any-decisions}
use Rattle.dmn_check.proofs.ToldLaws.{some_told}

any-refused : (o : Option TableFault) → have_any (refused o) ≡ is_some o
any-refused None = refl
any-refused (Some f) = refl

pub no_text : (ss : List (List ℕ)) → list_any (λ s. false) ss ≡ false
no_text [] = refl
no_text (s ∷ ss) = no_text ss

pub any-refused_table : (m : Draft) → have_any (refused_tables m) ≡ has_refused_table m.decisions
any-refused_table m =
    any-decisions refused_look (λ s. false) is_refused (λ s. refl) (λ t. any-refused (fault_of_table t)) (λ ns. refl)
    (λ d. list_any is_refused (tables_in d.logic)) (λ d. ap (λ b. b || list_any is_refused (tables_in d.logic)) (no_text (texts_in d.logic))) m.decisions

pub refused_exactly : (m : Draft) → nat_lt 0 (capped (length (refused_tables m))) ≡ has_refused_table m.decisions
refused_exactly m = some_told (refused_tables m) ∙ any-refused_table m
