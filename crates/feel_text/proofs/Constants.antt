-- The literals that ready values stand for.
use Rattle.std.proofs.Common.{◌≡◌, ap, refl, true, if◌then◌else◌, pos, negsuc}
use Rattle.feel_value.specs.Datum.{Datum, null, boolean, number, text, list, context}
use Rattle.feel_value.specs.Limits.{is_value}
use Rattle.feel_value.specs.declared.feel.Outcome.TheVariants.{Is, Limit}
use Rattle.feel_text.specs.Constants.{is_constant, expr_of_constant}
use Rattle.feel_text.specs.Meaning.{Bindings, den}

-- a literal has the value that is ready
pub meaning : (d : Datum) (m : Bindings) → is_constant d ≡ true → is_value d ≡ true → den (expr_of_constant d) m ≡ Is d
meaning null m c h = refl
meaning (boolean b) m c h = refl
meaning (number (pos n)) m c h = ap (λ t. if t then Is (number (pos n)) else Limit) h
meaning (number (negsuc n)) m c h = cc
meaning (text s) m c h = refl
meaning (list ds) m c h = cc
meaning (context es) m c h = cc
