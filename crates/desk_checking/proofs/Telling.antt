-- What is told of a value is what is due.
use Rattle.std.proofs.Common.{◌≡◌, ◌≢◌, ◌<◌, ◌≤◌, ◌∙◌, ℕ, Bool, true, false, List, [], ◌∷◌, ◌++◌, append-nil, length, Option, None, Some, option_map, IfSome, Result, Ok, Err, is_ok, if◌then◌else◌, sym, ap, subst, refl}
use Rattle.std.specs.Io.KnownBytes.{Appends}
use Rattle.std.specs.List.{flat_map}
use Rattle.serde_json.specs.Data.{Data}
use Rattle.serde_json.specs.Read.{read}
use Rattle.feel_value.specs.Found.{◌>>=◌}
use Rattle.feel_text.specs.Expr.{Expr}
use Rattle.dmn_table.specs.Table.{Table}
use Rattle.dmn_form.specs.Model.{Model, Name}
use Rattle.dmn_form.specs.Draft.{Draft, draft_of}
use Rattle.dmn_plan.specs.declared.fault.ModelFault.{ModelFault}
use Rattle.dmn_plan.specs.declared.fault.ModelFault.TheVariants as fault
use Rattle.dmn_plan.specs.Due.{IsDue}
use Rattle.dmn_plan.specs.ReadModel.{checked, faults, first_among, first_fault, found_or, read_draft, read_model, unless}
use Rattle.desk_lines.specs.Lines.{ended, max_line}
use Rattle.desk_requests.specs.declared.refused.RefusedLine.{RefusedLine}
use Rattle.desk_lines.specs.Device.{Reader, Writer}
use Rattle.desk_lines.specs.declared.fault.FrontFault.{FrontFault}
use Rattle.desk_lines.specs.declared.fault.FrontFault.TheVariants.{Write}
use Rattle.desk_checking.specs.Checked.{Breaks, Checked, Finds}
use Rattle.desk_checking.specs.Domains.{AreDomainsOf, domains_beside, refused_by, refused_in}
use Rattle.desk_checking.specs.FirstFault.{IsTakenBy, fault_in, model_fault, model_line, subject}
use Rattle.desk_checking.specs.Output.{Failures, TellsModel, TellsText, beside_in, no_failure, value_in}
use Rattle.desk_checking.specs.Told.{domain_lines, fault_line, faulty_lines, lines_behind, long_line, place_lines}
use Rattle.desk_checking.specs.Verdicts.{IsDueTo, TellsValue, failure_of}
use Rattle.desk_checking.specs.declared.findings.CheckFault.{CheckFault}
use Rattle.desk_checking.specs.declared.findings.CheckFault.TheVariants as found
use Rattle.desk_checking.specs.declared.findings.CheckFindings.{CheckFindings}
use Rattle.desk_checking.specs.declared.model_check.Verdict.{Verdict}
use Rattle.desk_checking.specs.declared.options.CheckOptions.{CheckOptions}

-- ---- which fault it is

pub due_of : {Y : Type 0} (r : Result Y ModelFault) (f : ModelFault) → IsDue r f → f ≢ fault.Memory → r ≡ Err f
due_of r fault.Syntax h other = h
due_of r fault.Shape h other = h
due_of r fault.Name h other = h
due_of r fault.Twice h other = h
due_of r fault.Expression h other = h
due_of r fault.Table h other = h
due_of r fault.Unknown h other = h
due_of r fault.Cycle h other = h
due_of r fault.Service h other = h
due_of r fault.Large h other = h
due_of r fault.Memory h other = absurd (other refl)

abbrev NoSyntax : ModelFault → Type 0
NoSyntax f = f ≢ fault.Syntax

at_front : (b : Bool) (f : ModelFault) (rest : Option ModelFault) → NoSyntax f → IfSome rest NoSyntax → IfSome (if b then Some f else rest) NoSyntax
at_front true f rest h k = h
at_front false f rest h k = k

abbrev NoneSyntax : List (ModelFault × (Draft → Bool)) → Type 0
NoneSyntax [] = Unit {0}
NoneSyntax (f ∷ fs) = NoSyntax f.0 × NoneSyntax fs

among : (fs : List (ModelFault × (Draft → Bool))) (m : Draft) → NoneSyntax fs → IfSome (first_among fs m) NoSyntax
among [] m h = tt
among (f ∷ fs) m h = at_front (f.1 m) f.0 (first_among fs m) h.0 (among fs m h.1)

name : NoSyntax fault.Name
name e = cc

twice : NoSyntax fault.Twice
twice e = cc

expression : NoSyntax fault.Expression
expression e = cc

refused_table : NoSyntax fault.Table
refused_table e = cc

unknown : NoSyntax fault.Unknown
unknown e = cc

cycle : NoSyntax fault.Cycle
cycle e = cc

service : NoSyntax fault.Service
service e = cc

large : NoSyntax fault.Large
large e = cc

found_not : (o : Option (Model Expr Table)) → found_or fault.Expression o ≡ Err fault.Syntax → ⊥
found_not None e = cc
found_not (Some m) e = cc

unless_not : (o : Option ModelFault) (m : Draft) → IfSome o NoSyntax → unless o m ≡ Err fault.Syntax → ⊥
unless_not None m h e = found_not (read_draft m) e
unless_not (Some f) m h e = let same : f ≡ fault.Syntax = cc in h same

checked_not : (o : Option Draft) → checked o ≡ Err fault.Syntax → ⊥
checked_not None e = cc
checked_not (Some m) e =
    unless_not (first_fault m) m (among faults m (name, (twice, (expression, (refused_table, (unknown, (cycle, (service, (large, tt))))))))) e

-- a JSON value is read
pub no_syntax : (d : Data) → read_model d ≡ Err fault.Syntax → ⊥
unfolding read_model
no_syntax d e = checked_not (draft_of d) e

-- ---- the lines of a fault

behind_of : (d : Data) (beside : Option Data) (f : ModelFault) → f ≢ fault.Syntax → lines_behind (Some d) beside (found.Model f) ≡ place_lines (draft_of d)
behind_of d beside fault.Syntax h = absurd (h refl)
behind_of d beside fault.Shape h = refl
behind_of d beside fault.Name h = refl
behind_of d beside fault.Twice h = refl
behind_of d beside fault.Expression h = refl
behind_of d beside fault.Table h = refl
behind_of d beside fault.Unknown h = refl
behind_of d beside fault.Cycle h = refl
behind_of d beside fault.Service h = refl
behind_of d beside fault.Large h = refl
behind_of d beside fault.Memory h = refl

pub told_with : (d : Data) (beside : Option Data) (f : ModelFault) (o : Option Draft) (text : List ℕ) → draft_of d ≡ o → text ≡ ended (fault_line (found.Model f)) ++ flat_map ended (place_lines o) → f ≢ fault.Syntax
    → text ≡ flat_map ended (faulty_lines (Some d) beside (found.Model f))
told_with d beside f o text form is h =
    is ∙ ap (λ ls. ended (fault_line (found.Model f)) ++ flat_map ended ls) (ap place_lines (sym form) ∙ sym (behind_of d beside f h))

pub told_alone : (d : Data) (beside : Option Data) (f : ModelFault) (text : List ℕ) → draft_of d ≡ None → text ≡ ended (fault_line (found.Model f)) → f ≢ fault.Syntax
    → text ≡ flat_map ended (faulty_lines (Some d) beside (found.Model f))
told_alone d beside f text form is h = told_with d beside f None text form (is ∙ sym (append-nil (ended (fault_line (found.Model f))))) h

-- ---- verdicts

abbrev TellsBy : CheckOptions → Data → Option Data → List (List ℕ) → Verdict → Option CheckFault → Type 0
TellsBy options d beside requests v f = TellsValue options d beside requests f v.refused.items (failure_of options f v.are_tables_refused v.can_fail) v.text.items

pub faulty_due : (options : CheckOptions) (d : Data) (beside : Option Data) (requests : List (List ℕ)) (f : ModelFault) (v : Verdict) → read_model d ≡ Err f → v.fault ≡ Some (found.Model f) → v.refused.items ≡ []
    → v.text.items ≡ flat_map ended (faulty_lines (Some d) beside (found.Model f)) → IsDueTo options d beside requests v
faulty_due options d beside requests f v r is none text = record {
  fault = ap model_fault is ∙ sym (ap fault_in r);
  taken = subst (λ o. IsTakenBy o d) (sym is) tt;
  domains = subst (λ o. AreDomainsOf o (refused_by (draft_of d) beside)) (sym is) tt;
  tells = subst (TellsBy options d beside requests v) (sym is) (none, refl, text);
}

lawful_fault : (r : Result (Model Expr Table) ModelFault) → is_ok r ≡ true → fault_in r ≡ None
lawful_fault (Ok m) h = refl
lawful_fault (Err f) h = cc

pub long_due : (options : CheckOptions) (d : Data) (beside : Option Data) (requests : List (List ℕ)) (v : Verdict) → is_ok (read_model d) ≡ true → max_line < length (model_line d) → v.fault ≡ Some found.Long → v.refused.items ≡ []
    → v.text.items ≡ ended (fault_line found.Long) ++ ended (long_line (length (model_line d))) → IsDueTo options d beside requests v
long_due options d beside requests v lawful long is none text = record {
  fault = ap model_fault is ∙ sym (lawful_fault (read_model d) lawful);
  taken = subst (λ o. IsTakenBy o d) (sym is) long;
  domains = subst (λ o. AreDomainsOf o (refused_by (draft_of d) beside)) (sym is) tt;
  tells = subst (TellsBy options d beside requests v) (sym is) (none, refl, text ∙ ap (λ s. ended (fault_line found.Long) ++ s) (sym (append-nil (ended (long_line (length (model_line d)))))));
}

refused_are : (d : Data) (m : Draft) (beside : Option Data) (names : List (Option Name)) → draft_of d ≡ Some m → names ≡ refused_in m beside → names ≡ refused_by (draft_of d) beside
refused_are d m beside names form is = is ∙ sym (ap (λ (o : Option Draft). refused_by o beside) form)

some_refused : (names all : List (Option Name)) → names ≡ all → 0 < length names → 0 < length all
some_refused names all is h = subst (λ (ns : List (Option Name)). 0 < length ns) is h

pub domain_due : (options : CheckOptions) (d : Data) (m : Draft) (beside : Option Data) (names : List (Option Name)) (requests : List (List ℕ)) (v : Verdict) → is_ok (read_model d) ≡ true → length (model_line d) ≤ max_line → draft_of d ≡ Some m
    → names ≡ refused_in m beside → 0 < length names → v.fault ≡ Some found.Domain → v.refused.items ≡ [] → v.text.items ≡ ended (fault_line found.Domain) ++ flat_map ended (domain_lines names) → IsDueTo options d beside requests v
domain_due options d m beside names requests v lawful short form are some is none text =
    let same = refused_are d m beside names form are in
    record {
      fault = ap model_fault is ∙ sym (lawful_fault (read_model d) lawful);
      taken = subst (λ o. IsTakenBy o d) (sym is) short;
      domains = subst (λ o. AreDomainsOf o (refused_by (draft_of d) beside)) (sym is) (some_refused names (refused_by (draft_of d) beside) same some);
      tells = subst (TellsBy options d beside requests v) (sym is)
          (none, refl, text ∙ ap (λ (ns : List (Option Name)). ended (fault_line found.Domain) ++ flat_map ended (domain_lines ns)) same);
    }

pub lawful_due : (options : CheckOptions) (d : Data) (m : Draft) (beside : Option Data) (names : List (Option Name)) (requests : List (List ℕ)) (v : Verdict) → is_ok (read_model d) ≡ true → length (model_line d) ≤ max_line → draft_of d ≡ Some m
    → names ≡ refused_in m beside → names ≡ [] → v.fault ≡ None → TellsModel options d beside requests v.refused.items (failure_of options None v.are_tables_refused v.can_fail) v.text.items → IsDueTo options d beside requests v
lawful_due options d m beside names requests v lawful short form are nothing is tells = record {
  fault = ap model_fault is ∙ sym (lawful_fault (read_model d) lawful);
  taken = subst (λ o. IsTakenBy o d) (sym is) short;
  domains = subst (λ o. AreDomainsOf o (refused_by (draft_of d) beside)) (sym is) (sym (refused_are d m beside names form are) ∙ nothing);
  tells = subst (TellsBy options d beside requests v) (sym is) tells;
}

-- ---- texts

same_value : (a b : Data) → Some a ≡ Some b → a ≡ b
same_value a b e = cc

pub text_told : (options : CheckOptions) (s : List ℕ) (d e : Data) (beside : Option Data) (requests : List (List ℕ)) (f : Option CheckFault) (refused : List RefusedLine) (failures : Failures) (text : List ℕ) → read s ≡ Some d → e ≡ subject d → beside ≡ domains_beside d
    → TellsValue options e beside requests f refused failures text → TellsText options s requests f refused failures text
text_told options s d e beside requests None refused failures text r is stands h = λ x y.
    let same = same_value d x (sym r ∙ y) in
    subst (λ (v : Data). TellsModel options (subject v) (domains_beside v) requests refused failures text) same
    (subst (λ (b : Option Data). TellsModel options (subject d) b requests refused failures text) stands (subst (λ (v : Data). TellsModel options v beside requests refused failures text) is h))
text_told options s d e beside requests (Some f) refused failures text r is stands h =
    let value : Some e ≡ value_in s = ap (λ (v : Data). Some v) is ∙ sym (ap (option_map subject) r) in
    let others : beside ≡ beside_in s = stands ∙ sym (ap (λ (o : Option Data). o >>= domains_beside) r) in
    (h.0, h.1, h.2 ∙ ap (λ (o : Option Data). flat_map ended (faulty_lines o beside f)) value ∙ ap (λ (b : Option Data). flat_map ended (faulty_lines (value_in s) b f)) others)

-- the same texts
pub told_same : (options : CheckOptions) (s s' : List ℕ) (requests requests' : List (List ℕ)) (f : Option CheckFault) (refused : List RefusedLine) (failures failures' : Failures) (text text' : List ℕ) → s ≡ s' → requests ≡ requests'
    → failures ≡ failures' → text ≡ text' → TellsText options s requests f refused failures text → TellsText options s' requests' f refused failures' text'
told_same options s s' requests requests' f refused failures failures' text text' a b e c h =
    subst (λ t. TellsText options s' requests' f refused failures' t) c
    (subst (λ x. TellsText options s' requests' f refused x text) e (subst (λ ls. TellsText options s' ls f refused failures text) b (subst (λ x. TellsText options x requests f refused failures text) a h)))

pub both_failures : (failures : Failures) (tables nulls : Bool) → tables ≡ failures.tables → nulls ≡ failures.nulls → failures ≡ record { tables = tables; nulls = nulls }
both_failures failures tables nulls t n = λ i. record { tables = sym t i; nulls = sym n i }

-- ---- runs

pub cut_short : (options : CheckOptions) (reader reader' : Reader) (writer writer' : Writer) (r : Result CheckFindings FrontFault) → r ≡ Err Write
    → Breaks options reader reader' writer writer' → writer.faults < writer'.faults → reader'.faults ≡ reader.faults → Checked options reader reader' writer writer' r
cut_short options reader reader' writer writer' r is breaks more same = subst (λ x. Checked options reader reader' writer writer' x) (sym is) (record {
  tells = tt;
  strict = tt;
  nulls = tt;
  long = λ e. let wrong : ⊥ = cc in absurd wrong;
  cut = λ _. breaks;
  unwritten = λ other. absurd (other refl);
  read_only_at_fault = λ e. let wrong : ⊥ = cc in absurd wrong;
  write_only_at_fault = λ _. more;
  ok_without_fault = tt;
  write_told = λ other. absurd (other refl);
  read_told = λ _. same;
})

pub run_whole : (options : CheckOptions) (reader reader' : Reader) (writer writer' : Writer) (findings : CheckFindings) (told : List ℕ) → Finds options reader reader' findings told → Appends writer.contents writer'.contents told
    → (findings.is_strict_failure ≡ true → (options.tables ≡ true) × (options.strict ≡ true) × (findings.fault ≡ None))
    → (findings.is_null_failure ≡ true → (options.strict_null ≡ true) × (findings.fault ≡ None)) → writer'.faults ≡ writer.faults → reader'.faults ≡ reader.faults
    → Checked options reader reader' writer writer' (Ok findings)
run_whole options reader reader' writer writer' findings told finds written strict nulls same same_read = record {
  tells = record { told = told; finds = finds; written = written };
  strict = strict;
  nulls = nulls;
  long = λ e. let wrong : ⊥ = cc in absurd wrong;
  cut = λ e. let wrong : ⊥ = cc in absurd wrong;
  unwritten = tt;
  read_only_at_fault = λ e. let wrong : ⊥ = cc in absurd wrong;
  write_only_at_fault = λ e. let wrong : ⊥ = cc in absurd wrong;
  ok_without_fault = (same_read, same);
  write_told = λ _. same;
  read_told = λ _. same_read;
}
