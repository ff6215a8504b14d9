use Rattle.std.proofs.Common.{◌≡◌, ◌∙◌, ◌++◌, ◌∷◌, ◌-◌, ◌<◌, List, [], IsTrue, sym, ap, length, subst, true, false, arith}
use Rattle.std.proofs.lemmas.List.{length_push}
use Rattle.feel_text.specs.NameOrder.{IsBefore, IsInOrder, name_ranked}
use Rattle.feel_text.specs.Needed.{names_of}
use Rattle.feel_text.specs.declared.needs.Need.{Need}
use Rattle.feel_text.proofs.Needed.{listed_more}
use Rattle.feel_text.proofs.needs.Needs.push.Goals.{then-self, else-self}
use Rattle.feel_text.proofs.needs.Needs.push.Goals as goal

pub invariant_of-self-2 : goal.invariant_of-self-2
invariant_of-self-2 c =
    let xs = c.self.inside.needs.items in
    let x : Need = record { name = c.of.result; place = c.args.place } in
    let order = c.self.inside.order.items in
    let items : c.push.new.self.items ≡ xs ++ x ∷ [] = c.in_ok-push.ensures.items in
    let name : c.args.name.now ≡ x.name = sym (c.of.ensures ∙ c.in_ok-name.ensures.ok) in
    record {
      size = omega (arith, ap length items, length_push xs x, c.self.invariant.size, c.if-len-ge-MOST_NEEDS.false, c.len.ensures);
      sorted = λ ordered. elim c.if-self.branch [
        | then-self w ↦
            let yes : IsTrue w.is_behind_all-is_ordered.result = sym w.is_ordered-is ∙ ordered in
            let behind = subst (λ (ys : List Need). 0 < length ys → IsBefore (name_ranked (names_of ys) w.deref-then-self.result.now (length ys - 1)) c.args.name.now) w.deref.ensures.value (w.is_behind_all-is_ordered.ensures yes) in
            let named = subst (λ os. 0 < length xs → IsBefore (name_ranked (names_of xs) os (length xs - 1)) c.args.name.now) w.deref-then-self.ensures.value behind in
            subst (λ ys. IsInOrder (names_of ys) order) (sym items)
            (listed_more xs x order (c.self.invariant.sorted w.if-self.true) (subst (λ n. 0 < length xs → IsBefore (name_ranked (names_of xs) order (length xs - 1)) n) name named))
        | else-self w ↦ (let no : true ≡ false = sym ordered ∙ w.is_ordered-is ∙ w.if-self.false in absurd (cc))
      ];
    }
