use Rattle.std.proofs.Common.{◌≡◌, ◌∙◌, sym, ap, subst, ℕ, ◌<◌, arith, length, [], ◌∷◌}
use Rattle.std.specs.Int.{bit_at}
use Rattle.std.proofs.lemmas.List.{length-append}
use Rattle.table_classes.specs.Classes.{IsUnsetIn}
use Rattle.dmn_table.proofs.WordHits.{one_more_word}
use Rattle.dmn_table.proofs.may_hit.words_of.Goals as goal

pub loop-place-preserved : goal.loop-place-preserved
loop-place-preserved c =
    let old = c.loop-place.words.items in
    let last = c.common.result in
    let is = c.in_ok-push.ensures.items in
    record {
      long = ap length is ∙ omega (arith, c.loop-place.invariant.long, length-append old (last ∷ []));
      told = one_more_word c.args.rows.now old c.push.new.self.items last c.loop-place.invariant.told is
          (subst (λ w. (i : ℕ) → i < 64 → bit_at last i ≡ 0 → IsUnsetIn c.args.rows.now w i) (sym c.loop-place.invariant.long) c.common.ensures);
    }

pub returns : goal.returns
returns c = c.loop-place.invariant.told
