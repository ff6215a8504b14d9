-- The first fault that has a place is the model's first fault.
use Rattle.std.proofs.Common.{◌≡◌, refl, ap₂, Bool, Option, Some, if◌then◌else◌}
use Rattle.dmn_form.specs.Draft.{Draft}
use Rattle.dmn_plan.specs.ReadModel.{first_fault}
use Rattle.dmn_plan.specs.declared.fault.ModelFault.{ModelFault}
use Rattle.dmn_check.specs.FirstFault.{findings_of, first_with_place}
use Rattle.dmn_check.proofs.NameLaws.{any-unlawful, any-repeated}
use Rattle.dmn_check.proofs.UnreadLaws.{any-unread}
use Rattle.dmn_check.proofs.RefusedLaws.{any-refused_table}
use Rattle.dmn_check.proofs.UnknownLaws.{any-unknown}
use Rattle.dmn_check.proofs.CycleLaws.{any-cycle}
use Rattle.dmn_check.proofs.ServiceLaws.{any-service}
use Rattle.dmn_check.proofs.LargeLaws.{any-large}

next : (f : ModelFault) (a b : Bool) (o p : Option ModelFault) → a ≡ b → o ≡ p → (if a then Some f else o) ≡ (if b then Some f else p)
next f a b o p e rest = ap₂ (λ c q. if c then Some f else q) e rest

pub first_place_is_first_fault : (m : Draft) → first_with_place findings_of m ≡ first_fault m
first_place_is_first_fault m =
    next _ _ _ _ _ (any-unlawful m) (next _ _ _ _ _ (any-repeated m) (next _ _ _ _ _ (any-unread m) (next _ _ _ _ _ (any-refused_table m)
    (next _ _ _ _ _ (any-unknown m) (next _ _ _ _ _ (any-cycle m) (next _ _ _ _ _ (any-service m) (next _ _ _ _ _ (any-large m) refl)))))))
