-- What is declared beside a model, member by member.
use Rattle.std.proofs.Common.{◌≡◌, ◌∙◌, List, [], ◌∷◌, ◌++◌, append-nil, append_assoc, map, Option, None, Some, sym, ap}
use Rattle.dmn_form.specs.Model.{Name}
use Rattle.desk_checking.specs.Domains.{Declared, with_domain, with_refused}

with_one : (ds rest : List Declared) (o : Option Declared) → ds ++ with_domain o rest ≡ (ds ++ with_domain o []) ++ rest
with_one ds rest None = ap (λ xs. xs ++ rest) (sym (append-nil ds))
with_one ds rest (Some d) = sym (append_assoc ds (d ∷ []) rest)

without_one : (ns : List (Option Name)) (rest : List Name) (n : Name) (o : Option Declared) → ns ++ map Some (with_refused n o rest) ≡ (ns ++ map Some (with_refused n o [])) ++ map Some rest
without_one ns rest n None = sym (append_assoc ns (Some n ∷ []) (map Some rest))
without_one ns rest n (Some d) = ap (λ xs. xs ++ map Some rest) (sym (append-nil ns))

-- one member more
pub domain_more : (ds more rest : List Declared) (o p : Option Declared) → p ≡ o → more ≡ ds ++ with_domain p [] → ds ++ with_domain o rest ≡ more ++ rest
domain_more ds more rest o p same is = with_one ds rest o ∙ ap (λ xs. xs ++ rest) (ap (λ q. ds ++ with_domain q []) (sym same) ∙ sym is)

pub refused_more : (ns more : List (Option Name)) (rest : List Name) (n m : Name) (o p : Option Declared) → m ≡ n → p ≡ o → more ≡ ns ++ map Some (with_refused m p []) → ns ++ map Some (with_refused n o rest) ≡ more ++ map Some rest
refused_more ns more rest n m o p named same is =
    without_one ns rest n o
    ∙ ap (λ xs. xs ++ map Some rest) (ap (λ q. ns ++ map Some (with_refused n q [])) (sym same) ∙ ap (λ (k : Name). ns ++ map Some (with_refused k p [])) (sym named) ∙ sym is)
