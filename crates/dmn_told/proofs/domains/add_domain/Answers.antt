use Rattle.std.proofs.Common.{◌≡◌, ◌∙◌, sym, ap, refl, subst, true, List, ℕ, [], ◌∷◌}
use Rattle.std.specs.Prelude.{bytes_eq}
use Rattle.dmn_ranges.specs.declared.range.MemberRange.{MemberRange}
use Rattle.dmn_ranges.specs.declared.range.ParameterRange.{ParameterRange}
use Rattle.dmn_told.specs.Parts.{parts}
use Rattle.dmn_told.proofs.Narrowing.{member_narrows, own_narrows}
use Rattle.dmn_told.proofs.domains.add_domain.Goals as goal

pub returns : goal.returns
returns c =
    let d = c.args.domain.now in
    let n = c.args.name.now in
    let old = c.args.parameter.now in
    let first = c.in-Some.first.now in
    let others = c.in-Some.others.now in
    let m : MemberRange = record { path = c.in-Some-2.path; range = c.range_of_domain-range.result } in
    let new : ParameterRange = record { range = old.range; members = c.push.new.self } in
    let same : bytes_eq first n ≡ true = sym c.eq-is_its.ensures ∙ c.if-not-is_its.false in
    member_narrows d n old new m first others (ap parts (sym c.as_str.ensures.value) ∙ (c.in-Some.ensures).0) same (rw c.in-Some-2.is at c.in_ok-path.ensures) (λ v is met. c.range_of_domain-range.ensures v is met) refl c.in_ok-push.ensures.items

pub returns-in_default : goal.returns-in_default
returns-in_default c =
    let d = c.args.domain.now in
    let n = c.args.name.now in
    let old = c.args.parameter.now in
    let new : ParameterRange = record { range = c.with_domain-parameter.result; members = old.members } in
    own_narrows d n old new (subst (λ (s : List ℕ). parts s ≡ s ∷ []) c.as_str.ensures.value c.in_default.ensures) c.with_domain-parameter.ensures refl
