use Rattle.std.proofs.Common.{◌≡◌, ◌-◌, ◌∙◌, ℕ, zero, suc, List, [], ◌∷◌, ap, arith, codes, false, length, map, refl, take}
use Rattle.std.proofs.lemmas.List.{length-map}
use Rattle.dmn_analysis.specs.declared.cell.Words.{Words}
use Rattle.dmn_analysis.specs.declared.found.Gaps.{Gaps}
use Rattle.desk_checking.specs.TableTold.{gap_line, more_findings, more_others, other_gaps, room_left}
use Rattle.desk_checking.proofs.Lines.{first, then}
use Rattle.desk_checking.proofs.table_lines.add_others.Goals as goal

taken : {R X Y : Type 0} (f : X → Y) (now : R → X) (n : ℕ) (gs : List R) → map (λ g. f (now g)) (take n gs) ≡ map f (take n (map now gs))
taken f now zero gs = refl
taken f now (suc n) [] = refl
taken f now (suc n) (g ∷ gs) = ap (λ xs. f (now g) ∷ xs) (taken f now n gs)

pub returns : goal.returns
returns c =
    let t = c.args.text.now.items in
    let a = c.args.answers.now in
    let words = c.deref-2.result.now in
    let others = c.in_ok-others.others.items in
    let left = c.saturating_sub-left.result in
    let room : left ≡ room_left a = omega (arith, c.saturating_sub-left.ensures, c.len.ensures, c.gaps_of_kinds.result.now.found.ok.0, ap (λ (g : Gaps). length g.found.items) c.gaps_of_kinds.ensures) in
    let untold : c.saturating_sub-untold.result ≡ length (other_gaps a) - room_left a =
    omega (arith, c.saturating_sub-untold.ensures, c.len-2.ensures, c.in_ok-others.others.ok.0, room, ap length c.in_ok-others.ensures, length-map others (λ g. g.now)) in
    let all = map (gap_line a.every.words.items false) (take (room_left a) (other_gaps a)) in
    then t _ _ all (more_findings (codes "other gap") c.more_others-more.result) (more_findings (codes "other gap") (more_others a.of_kinds (length (other_gaps a) - room_left a) a.every.more))
    (first t _ (map (λ g. gap_line words false g.now) c.first_of-first.result.now) all c.in_ok-add_each_other.ensures
    (ap (λ gs. map (λ g. gap_line words false g.now) gs) (c.first_of-first.ensures ∙ ap (take left) c.deref.ensures.value) ∙ taken (gap_line words false) (λ g. g.now) left others
    ∙ ap (λ gs. map (gap_line words false) (take left gs)) c.in_ok-others.ensures ∙ ap (λ n. map (gap_line words false) (take n (other_gaps a))) room
    ∙ ap (λ (ws : List Words). map (gap_line ws false) (take (room_left a) (other_gaps a))) c.deref-2.ensures.value))
    c.in_ok-add_more.ensures (ap (more_findings (codes "other gap")) (c.more_others-more.ensures ∙ ap (λ n. more_others a.of_kinds n a.every.more) untold))
