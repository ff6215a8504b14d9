use Rattle.std.proofs.Common.{◌≡◌, ℕ, ℤ, List, [], ◌∷◌, ◌++◌, map, of_z, to_z, w64, refl, sym, ap, ◌∙◌}
use Rattle.std.proofs.Math.Facts.{to_z-of_z}
use Rattle.std.proofs.lemmas.List.{append-nil}
use Rattle.std.specs.Ordering.{int_eq}
use Rattle.dmn_table.specs.Hits.{kept}
use Rattle.dmn_table.proofs.ZipEnd.{at_zip_end}
use Rattle.dmn_table.proofs.deciders.with_value.Goals as goal

none_kept : (z : ℤ) (ns : List ℕ) → kept ns (map (int_eq z) []) ≡ []
none_kept z [] = refl
none_kept z (n ∷ ns) = refl

pub returns : goal.returns
returns c =
    let z : ℤ = to_z w64 (of_z w64 c.args.value) in
    let same : z ≡ c.args.value = to_z-of_z c.ranges.value in
    sym (ap (λ (y : ℤ). kept c.args.numbers.now (map (int_eq y) c.args.values.now)) (sym same)
    ∙ c.loop-number.invariant
    ∙ ap (λ ns. c.loop-number.found.items ++ ns)
    (at_zip_end (λ ns zs. kept ns (map (int_eq z) zs)) [] (λ zs. refl) (λ ns. none_kept z ns) c.loop-number.number-iterator c.next.new.self c.in-None.ensures.steps)
    ∙ append-nil c.loop-number.found.items)
