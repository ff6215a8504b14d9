-- Notes that are taken part by part are the notes of the whole.
use Rattle.std.proofs.Common.{◌≡◌, ℕ, zero, suc, ◌+◌, ◌-◌, ◌<◌, List, [], ◌∷◌, ◌++◌, map, length, take, drop, get_or, refl, sym, ap, ◌∙◌, append_assoc, arith}
use Rattle.std.proofs.lemmas.List.{at_drop_more}
use Rattle.std.proofs.lemmas.Grind.{common_steps}
use Rattle.dmn_check.specs.declared.place.Step.{Step}
use Rattle.dmn_check.specs.declared.place.Step.TheVariants.{Index}
use Rattle.dmn_check.specs.Findings.{Place, Finding, moved, behind, each_from}
use Rattle.dmn_check.specs.Notes.{Notes, empty, into, out, kept, counted, with_one, with_all}

pub with_all-append : (c : Notes) (fs gs : List Finding) → with_all c (fs ++ gs) ≡ with_all (with_all c fs) gs
with_all-append c [] gs = refl
with_all-append c (f ∷ fs) gs = with_all-append (with_one c f) fs gs

-- the notes at another place
abbrev at_path : Place → Notes → Notes
at_path p c = record { path = p; findings = c.findings; count = c.count }

path_kept : (c : Notes) (fs : List Finding) → (with_all c fs).path ≡ c.path
path_kept c [] = refl
path_kept c (f ∷ fs) = path_kept (with_one c f) fs

-- a finding of a part, noted before or after the step to the part
one_inside : (s : Step) (c : Notes) (f : Finding) → into s (with_one c (moved s f)) ≡ with_one (into s c) f
one_inside s c f =
    ap (λ (p : Place). record { path = c.path ++ s ∷ []; findings = kept c.findings (record { place = p; mistake = f.mistake }); count = counted c.count })
    (sym (append_assoc c.path (s ∷ []) f.place))

all_inside : (s : Step) (c : Notes) (fs : List Finding) → with_all c (behind s fs) ≡ at_path c.path (with_all (into s c) fs)
all_inside s c [] = refl
all_inside s c (f ∷ fs) = all_inside s (with_one c (moved s f)) fs ∙ ap (λ d. at_path c.path (with_all d fs)) (one_inside s c f)

but_last : (p : Place) (s : Step) → take (length (p ++ s ∷ []) - 1) (p ++ s ∷ []) ≡ p
but_last p s = grind (arith, common_steps)

back_out : (s : Step) (c : Notes) (fs : List Finding) → out (with_all (into s c) fs) ≡ at_path c.path (with_all (into s c) fs)
back_out s c fs =
    ap (λ p. at_path (take (length p - 1) p) (with_all (into s c) fs)) (path_kept (into s c) fs)
    ∙ ap (λ p. at_path p (with_all (into s c) fs)) (but_last c.path s)

-- into a part, through it, and out again
pub through : (s : Step) (fs : List Finding) (c c1 c2 c3 : Notes) → c1 ≡ into s c → with_all c1 fs ≡ c2 → c3 ≡ out c2 → with_all c (behind s fs) ≡ c3
through s fs c c1 c2 c3 entered walked left =
    all_inside s c fs ∙ sym (back_out s c fs) ∙ ap (λ d. out (with_all d fs)) (sym entered) ∙ ap out walked ∙ sym left

-- one turn of a walk along an array
pub turn : {X Y : Type 0} (view : X → Y) (f : Y → List Finding) (xs : List X) (i : ℕ) (x : X) (c d : Notes) (whole : Notes)
    → whole ≡ with_all c (each_from f i (map view (drop i xs))) → x ≡ get_or xs i x → i < length xs → with_all c (behind (Index i) (f (view x))) ≡ d
    → whole ≡ with_all d (each_from f (i + 1) (map view (drop (i + 1) xs)))
turn view f xs i x c d whole before here more after =
    before ∙ at_drop_more (λ ys. with_all c (each_from f i (map view ys))) xs i x more
    ∙ ap (λ y. with_all c (behind (Index i) (f (view y)) ++ each_from f (i + 1) (map view (drop (i + 1) xs)))) (sym here)
    ∙ with_all-append c (behind (Index i) (f (view x))) (each_from f (i + 1) (map view (drop (i + 1) xs)))
    ∙ ap (λ e. with_all e (each_from f (i + 1) (map view (drop (i + 1) xs)))) after

-- one part after another
pub then : (fs gs : List Finding) (c c1 c2 : Notes) → with_all c fs ≡ c1 → with_all c1 gs ≡ c2 → with_all c (fs ++ gs) ≡ c2
then fs gs c c1 c2 first second = with_all-append c fs gs ∙ ap (λ d. with_all d gs) first ∙ second

-- the same of the list that stands for another
pub along : {X : Type 0} (f : List X → List Finding) (xs ys : List X) (c d : Notes) → ys ≡ xs → with_all c (f ys) ≡ d → with_all c (f xs) ≡ d
along f xs ys c d e walked = ap (λ zs. with_all c (f zs)) (sym e) ∙ walked

-- one turn of a walk along an array: into the element, through it, and out again
pub turn_through : {X Y : Type 0} (view : X → Y) (f : Y → List Finding) (xs : List X) (i : ℕ) (x : X) (c c1 c2 c3 whole : Notes)
    → whole ≡ with_all c (each_from f i (map view (drop i xs))) → x ≡ get_or xs i x → i < length xs
    → c1 ≡ into (Index i) c → with_all c1 (f (view x)) ≡ c2 → c3 ≡ out c2 → whole ≡ with_all c3 (each_from f (i + 1) (map view (drop (i + 1) xs)))
turn_through view f xs i x c c1 c2 c3 whole before here more entered walked left =
    turn view f xs i x c c3 whole before here more (through (Index i) (f (view x)) c c1 c2 c3 entered walked left)

-- one turn of a walk, where the findings of the rest are given by a function
pub turn_by : {X : Type 0} (f : ℕ → List X → List Finding) (head : ℕ → X → List Finding) → ((i : ℕ) (x : X) (xs : List X) → f i (x ∷ xs) ≡ head i x ++ f (i + 1) xs)
    → (xs : List X) (i : ℕ) (x : X) (c d whole : Notes) → whole ≡ with_all c (f i (drop i xs)) → x ≡ get_or xs i x → i < length xs → with_all c (head i x) ≡ d
    → whole ≡ with_all d (f (i + 1) (drop (i + 1) xs))
turn_by f head one xs i x c d whole before here more after =
    before ∙ at_drop_more (λ ys. with_all c (f i ys)) xs i x more
    ∙ ap (λ y. with_all c (f i (y ∷ drop (i + 1) xs))) (sym here)
    ∙ ap (with_all c) (one i x (drop (i + 1) xs))
    ∙ with_all-append c (head i x) (f (i + 1) (drop (i + 1) xs))
    ∙ ap (λ e. with_all e (f (i + 1) (drop (i + 1) xs))) after

-- the same of what stands for another
pub alike : {X : Type 0} (f : X → List Finding) (x y : X) (c d : Notes) → x ≡ y → with_all c (f y) ≡ d → with_all c (f x) ≡ d
alike f x y c d e walked = ap (λ z. with_all c (f z)) e ∙ walked

-- a walk that begins with no findings
pub from_start : {X : Type 0} (f : List X → List Finding) (xs ys : List X) (c d : Notes) → c ≡ empty → ys ≡ xs → with_all c (f ys) ≡ d → with_all empty (f xs) ≡ d
from_start f xs ys c d begun e walked = ap (λ n. with_all n (f xs)) (sym begun) ∙ along f xs ys c d e walked

element_at : {X : Type 0} (xs : List X) (i : ℕ) → i < length xs → (x : X) × (x ≡ get_or xs i x)
element_at [] i more = absurd (omega arith)
element_at (x ∷ xs) zero more = (x, refl)
element_at (x ∷ xs) (suc i) more = element_at xs i (omega arith)

-- the same, where the element is known by its index alone
pub turn_at : {X Y : Type 0} (view : X → Y) (f : Y → List Finding) (xs : List X) (i : ℕ) (c c1 c2 c3 whole : Notes)
    → whole ≡ with_all c (each_from f i (map view (drop i xs))) → i < length xs
    → c1 ≡ into (Index i) c → ((x : X) → x ≡ get_or xs i x → with_all c1 (f (view x)) ≡ c2) → c3 ≡ out c2 → whole ≡ with_all c3 (each_from f (i + 1) (map view (drop (i + 1) xs)))
turn_at view f xs i c c1 c2 c3 whole before more entered walked left =
    let w = element_at xs i more in
    turn_through view f xs i w.0 c c1 c2 c3 whole before w.1 more entered (walked w.0 w.1) left
