use Rattle.std.proofs.Common.{◌≡◌, ℕ, List, [], ◌∷◌, ◌++◌, append-nil, ap, ap₂, ◌∙◌, Result, Ok, Err, OnOk}
use Rattle.json.specs.Token.{Token, string}
use Rattle.json.specs.Print.{print, print_from, quoted}
use Rattle.json_writer.proofs.text.add_escaped.Goals as goal

-- one text in quotes
printed : (words : List ℕ) → print (string words ∷ []) ≡ quoted words
unfolding print_from
printed words = append-nil (quoted words)

then_is : {T E : Type 0} {P Q : Type 0} (r : Result T E) → (P → Q) → OnOk r P → OnOk r Q
then_is (Ok x) f p = f p
then_is (Err e) f p = tt

pub returns : goal.returns
returns c =
    let before = c.into_inner.ensures.items in
    then_is c.string-added.result
    (λ tokens. before ∙ ap₂ (λ (b : List ℕ) (t : List Token). b ++ print t) (c.string-added.ensures.room.0 ∙ c.new-writer.ensures.before ∙ ap (λ v. v.items) c.replace.ensures.value) (tokens ∙ ap (λ t. t ++ string c.args.words.now ∷ []) c.new-writer.ensures.tokens)
    ∙ ap (λ q. c.args.text.now.items ++ q) (printed c.args.words.now))
    c.string-added.ensures.ok
