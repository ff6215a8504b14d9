-- The first fault of the model in a text.
use Rattle.std.proofs.Common.{◌≡◌, ◌∙◌, ℕ, List, Option, None, Some, option_map, Err, IsUtf8, sym, ap, subst}
use Rattle.serde_json.specs.Data.{Data}
use Rattle.serde_json.specs.Read.{read}
use Rattle.dmn_plan.specs.declared.fault.ModelFault.{ModelFault}
use Rattle.dmn_plan.specs.declared.fault.ModelFault.TheVariants as fault
use Rattle.dmn_form.specs.Draft.{draft_of}
use Rattle.dmn_plan.specs.ReadModel.{checked, of_data, read_model}
use Rattle.desk_checking.specs.Domains.{AreDomainsOf, FitsDomains, domains_beside, refused_by}
use Rattle.desk_checking.specs.FirstFault.{subject, fault_in, first_fault_of, IsFirstFault, IsTakenBy, model_fault}
use Rattle.desk_checking.specs.declared.findings.CheckFault.{CheckFault}
use Rattle.desk_checking.specs.declared.findings.CheckFault.TheVariants as found

of_text : (s : List ℕ) (d e : Data) (f : Option ModelFault) → read s ≡ Some d → e ≡ subject d → f ≡ fault_in (read_model e) → first_fault_of s ≡ f
of_text s d e f r is h = ap (λ o. fault_in (of_data (option_map subject o))) r ∙ ap (λ (x : Data). fault_in (read_model x)) (sym is) ∙ sym h

same_value : (a b : Data) → Some a ≡ Some b → a ≡ b
same_value a b e = cc

-- the value of a text is taken as the one that was read
of_value : (s : List ℕ) (d e : Data) (f : Option CheckFault) → read s ≡ Some d → e ≡ subject d → IsTakenBy f e → (x : Data) → read s ≡ Some x → IsTakenBy f (subject x)
of_value s d e f r is h x y = subst (λ (v : Data). IsTakenBy f v) (is ∙ ap subject (same_value d x (sym r ∙ y))) h

pub first_of_value : (s : List ℕ) (d e : Data) (f : Option CheckFault) → IsUtf8 s → read s ≡ Some d → e ≡ subject d → model_fault f ≡ fault_in (read_model e) → IsTakenBy f e → IsFirstFault s f
first_of_value s d e None u r is h t = (u, of_text s d e None r is h, of_value s d e None r is t)
first_of_value s d e (Some found.Long) u r is h t = (u, of_text s d e None r is h, of_value s d e (Some found.Long) r is t)
first_of_value s d e (Some found.Domain) u r is h t = (u, of_text s d e None r is h, of_value s d e (Some found.Domain) r is t)
first_of_value s d e (Some (found.Model fault.Syntax)) u r is h t = λ v. of_text s d e (Some fault.Syntax) r is h
first_of_value s d e (Some (found.Model fault.Shape)) u r is h t = (u, of_text s d e (Some fault.Shape) r is h, of_value s d e (Some (found.Model fault.Shape)) r is t)
first_of_value s d e (Some (found.Model fault.Name)) u r is h t = (u, of_text s d e (Some fault.Name) r is h, of_value s d e (Some (found.Model fault.Name)) r is t)
first_of_value s d e (Some (found.Model fault.Twice)) u r is h t = (u, of_text s d e (Some fault.Twice) r is h, of_value s d e (Some (found.Model fault.Twice)) r is t)
first_of_value s d e (Some (found.Model fault.Expression)) u r is h t = (u, of_text s d e (Some fault.Expression) r is h, of_value s d e (Some (found.Model fault.Expression)) r is t)
first_of_value s d e (Some (found.Model fault.Table)) u r is h t = (u, of_text s d e (Some fault.Table) r is h, of_value s d e (Some (found.Model fault.Table)) r is t)
first_of_value s d e (Some (found.Model fault.Unknown)) u r is h t = (u, of_text s d e (Some fault.Unknown) r is h, of_value s d e (Some (found.Model fault.Unknown)) r is t)
first_of_value s d e (Some (found.Model fault.Cycle)) u r is h t = (u, of_text s d e (Some fault.Cycle) r is h, of_value s d e (Some (found.Model fault.Cycle)) r is t)
first_of_value s d e (Some (found.Model fault.Service)) u r is h t = (u, of_text s d e (Some fault.Service) r is h, of_value s d e (Some (found.Model fault.Service)) r is t)
first_of_value s d e (Some (found.Model fault.Large)) u r is h t = (u, of_text s d e (Some fault.Large) r is h, of_value s d e (Some (found.Model fault.Large)) r is t)
first_of_value s d e (Some (found.Model fault.Memory)) u r is h t = (u, of_text s d e (Some fault.Memory) r is h, of_value s d e (Some (found.Model fault.Memory)) r is t)

pub none_of_text : (s : List ℕ) → (IsUtf8 s → read s ≡ None) → IsFirstFault s (Some (found.Model fault.Syntax))
none_of_text s h = λ u. ap (λ o. fault_in (of_data (option_map subject o))) (h u)

-- what has not the form of a model
pub no_form : (d : Data) → draft_of d ≡ None → read_model d ≡ Err fault.Shape
unfolding read_model
no_form d none = ap checked none

-- of what is declared beside the model of a value that is read
pub fits_domains : (s : List ℕ) (d e : Data) (beside : Option Data) (f : Option CheckFault) → read s ≡ Some d → e ≡ subject d → beside ≡ domains_beside d → AreDomainsOf f (refused_by (draft_of e) beside) → FitsDomains s f
fits_domains s d e beside f r is stands h = λ x y.
    let same : d ≡ x = same_value d x (sym r ∙ y) in
    subst (λ (v : Data). AreDomainsOf f (refused_by (draft_of (subject v)) (domains_beside v))) same
    (subst (λ (v : Data). AreDomainsOf f (refused_by (draft_of v) (domains_beside d))) is (subst (λ (b : Option Data). AreDomainsOf f (refused_by (draft_of e) b)) stands h))

-- of a text that is no JSON nothing
pub fits_none : (s : List ℕ) (f : ModelFault) → FitsDomains s (Some (found.Model f))
fits_none s f = λ x y. tt
