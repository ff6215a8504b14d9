-- Texts in quotes.
use Rattle.std.proofs.Common.{◌≡◌, ℕ, ◌==◌, ◌||◌, nat_lt, false, List, [], ◌∷◌, ◌++◌, append_assoc, refl, ap}
use Rattle.std.specs.List.{list_any}
use Rattle.std.proofs.lemmas.Bool.{or_parts, eqb-false, ltb-false}
use Rattle.json.specs.Print.{escape, quoted}
use Rattle.json.specs.Run.{is_stop}
use Rattle.json.proofs.Printed.Strings.{escape_byte_plain}

pub escape_none : (s : List ℕ) → list_any is_stop s ≡ false → escape s ≡ s
escape_none [] e = refl
escape_none (x ∷ s) e =
    let parts = or_parts (is_stop x) (list_any is_stop s) e in
    let tests = or_parts ((x == 34) || (x == 92)) (nat_lt x 32) parts.0 in
    let quotes = or_parts (x == 34) (x == 92) tests.0 in
    rw (escape_byte_plain x (eqb-false x 34 quotes.0) (eqb-false x 92 quotes.1) (ltb-false x 32 tests.1)) (ap (λ l. x ∷ l) (escape_none s parts.1))

pub in_quotes : (line s : List ℕ) → list_any is_stop s ≡ false → ((line ++ 34 ∷ []) ++ s) ++ 34 ∷ [] ≡ line ++ quoted s
in_quotes line s e = rw (escape_none s e) (simp append_assoc)
