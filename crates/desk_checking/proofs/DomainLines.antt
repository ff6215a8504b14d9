-- Lines of domains that can't be read.
use denote.Ref.{Bor}
use Rattle.std.proofs.Common.{◌≡◌, ◌∙◌, ◌+◌, ◌-◌, length, map, take, ◌/◌, ◌%◌, ◌<◌, ℕ, suc, zero, Bool, true, false, not, ◌&&◌, ◌||◌, cond, nat_eq, nat_lt, List, [], ◌∷◌, ◌++◌, append_assoc, append-nil, codes, decimal, if◌then◌else◌, Option, Some, None, arith, refl, sym, ap, subst}
use Rattle.std.specs.Char.{digit_char}
use Rattle.std.specs.List.{flat_map, list_all}
use Rattle.std.proofs.lemmas.Grind.{flat_map-append}
use Rattle.std.proofs.lemmas.List.{length-map}
use Rattle.json.specs.Print.{escape, escape_byte, escape_letter, quoted}
use Rattle.desk_lines.specs.Lines.{ended}
use Rattle.dmn_check.specs.Notes.{most_findings}
use Rattle.dmn_check.specs.Pointer.{escaped, escaped_byte}
use Rattle.dmn_form.specs.Model.{Name}
use Rattle.desk_checking.specs.Domains.{domain_pointer}
use Rattle.desk_checking.specs.DomainsView.{name_view, name_views}
use Rattle.desk_checking.specs.Told.{domain_line, domain_lines, more_domains}

-- ---- a text of JSON has no byte more that a JSON Pointer escapes

abbrev is_plain : ℕ → Bool
is_plain b = not (nat_eq b 126) && not (nat_eq b 47)

plain_byte : (b : ℕ) → is_plain b ≡ true → escaped_byte b ≡ b ∷ []
plain_byte b h = grind arith

plain_bytes : (bs : List ℕ) → list_all is_plain bs ≡ true → escaped bs ≡ bs
plain_bytes [] h = refl
plain_bytes (b ∷ bs) h = grind (arith, plain_byte b, plain_bytes bs)

digit_plain : (d : ℕ) → d < 16 → is_plain (digit_char d) ≡ true
digit_plain d h = grind arith

letter_plain : (b : ℕ) → is_plain b ≡ true → is_plain (escape_letter b) ≡ true
letter_plain b h = grind arith

escape_plain : (b : ℕ) → is_plain b ≡ true → list_all is_plain (escape_byte b) ≡ true
unfolding escape_byte
escape_plain b h = grind (arith, letter_plain b, digit_plain (b / 16), digit_plain (b % 16))

tilde : escape (escaped_byte 126) ≡ escaped (escape_byte 126)
unfolding escape_byte
tilde = refl

slash : escape (escaped_byte 47) ≡ escaped (escape_byte 47)
unfolding escape_byte
slash = refl

other : (b : ℕ) → is_plain b ≡ true → escape (escaped_byte b) ≡ escaped (escape_byte b)
other b h = ap escape (plain_byte b h) ∙ append-nil (escape_byte b) ∙ sym (plain_bytes (escape_byte b) (escape_plain b h))

abbrev Escapes : ℕ → Type 0
Escapes b = escape (escaped_byte b) ≡ escaped (escape_byte b)

by_cases : (b : ℕ) (x y : Bool) → nat_eq b 126 ≡ x → nat_eq b 47 ≡ y → Escapes b
by_cases b true y e f = let same : 126 ≡ b = grind arith in subst Escapes same tilde
by_cases b false true e f = let same : 47 ≡ b = grind arith in subst Escapes same slash
by_cases b false false e f = other b (rw (e, f) refl)

one_byte : (b : ℕ) → Escapes b
one_byte b = by_cases b (nat_eq b 126) (nat_eq b 47) refl refl

escapes : (bs : List ℕ) → escape (escaped bs) ≡ escaped (escape bs)
escapes [] = refl
escapes (b ∷ bs) =
    flat_map-append escape_byte (escaped_byte b) (escaped bs) ∙ ap (λ xs. xs ++ escape (escaped bs)) (one_byte b) ∙ ap (λ xs. escaped (escape_byte b) ++ xs) (escapes bs)
    ∙ sym (flat_map-append escaped_byte (escape_byte b) (escape bs))

-- ---- lines

domain_shape : (t p : List ℕ)
    → ((t ++ codes "{\"fault\":\"domain\",\"pointer\":") ++ p) ++ codes "}\n"
    ≡ t ++ ((123 ∷ (quoted (codes "fault") ++ 58 ∷ (quoted (codes "domain") ++ 44 ∷ (quoted (codes "pointer") ++ 58 ∷ (p ++ 125 ∷ []))))) ++ 10 ∷ [])
unfolding escape_byte
domain_shape t p = simp append_assoc

pub place_pieces : (t : List ℕ) (n : Option Name) → ((t ++ codes "{\"fault\":\"domain\",\"pointer\":") ++ quoted (domain_pointer n)) ++ codes "}\n" ≡ t ++ ended (domain_line n)
place_pieces t n = domain_shape t (quoted (domain_pointer n))

more_pieces : (t : List ℕ) (n : ℕ) → ((t ++ codes "{\"fault\":\"domain\",\"more\":") ++ decimal (suc n)) ++ codes "}\n" ≡ t ++ flat_map ended (more_domains (suc n))
unfolding escape_byte
more_pieces t n = simp append_assoc

pub more_told : (t u v w : List ℕ) (n : ℕ) → 0 < n → u ≡ t ++ codes "{\"fault\":\"domain\",\"more\":" → v ≡ u ++ decimal n → w ≡ v ++ codes "}\n" → w ≡ t ++ flat_map ended (more_domains n)
more_told t u v w zero some first number last = let wrong : ⊥ = grind arith in absurd wrong
more_told t u v w (suc n) some first number last =
    last ∙ ap (λ xs. xs ++ codes "}\n") (number ∙ ap (λ xs. xs ++ decimal (suc n)) first) ∙ more_pieces t n

pub whole_pieces : (t : List ℕ) → t ++ codes "\"/domains\"" ≡ t ++ quoted (domain_pointer None)
unfolding escape_byte
whole_pieces t = refl

named_shape : (n : List ℕ) → quoted (codes "/domains/" ++ n) ≡ codes "\"/domains/" ++ (escape n ++ 34 ∷ [])
unfolding escape_byte
named_shape n = refl

last_quote : (n : List ℕ) → escaped (escape n ++ 34 ∷ []) ≡ escape (escaped n) ++ 34 ∷ []
last_quote n = flat_map-append escaped_byte (escape n) (34 ∷ []) ∙ ap (λ xs. xs ++ 34 ∷ []) (sym (escapes n))

pub named_pieces : (t n : List ℕ) (b : ℕ) (rest : List ℕ) → b ∷ rest ≡ quoted n → (t ++ codes "\"/domains/") ++ escaped rest ≡ t ++ quoted (domain_pointer (Some n))
named_pieces t n b rest is =
    let same : rest ≡ escape n ++ 34 ∷ [] = cc in
    ap (λ xs. (t ++ codes "\"/domains/") ++ escaped xs) same ∙ ap (λ xs. (t ++ codes "\"/domains/") ++ xs) (last_quote n)
    ∙ append_assoc t (codes "\"/domains/") (escape (escaped n) ++ 34 ∷ []) ∙ ap (λ xs. t ++ xs) (sym (named_shape (escaped n)))

first_named : (k : ℕ) (ns : List (Option (Bor (List ℕ)))) → name_views (take k ns) ≡ take k (name_views ns)
first_named zero ns = refl
first_named (suc k) [] = refl
first_named (suc k) (n ∷ ns) = ap (λ (ms : List (Option Name)). name_view n ∷ ms) (first_named k ns)

-- the lines of those that are told, and how many more there are
pub told_pieces : (t u v : List ℕ) (told refused : List (Option (Bor (List ℕ)))) (more : ℕ) → told ≡ take most_findings refused → more ≡ length refused - most_findings → u ≡ t ++ flat_map ended (map domain_line (name_views told))
    → v ≡ u ++ flat_map ended (more_domains more) → v ≡ t ++ flat_map ended (domain_lines (name_views refused))
told_pieces t u v told refused more are count lines last =
    let some = map domain_line (take most_findings (name_views refused)) in
    let others = more_domains (length (name_views refused) - most_findings) in
    last ∙ ap (λ xs. xs ++ flat_map ended (more_domains more)) (lines ∙ ap (λ ns. t ++ flat_map ended (map domain_line (name_views ns))) are ∙ ap (λ ns. t ++ flat_map ended (map domain_line ns)) (first_named most_findings refused))
    ∙ ap (λ k. (t ++ flat_map ended some) ++ flat_map ended (more_domains k)) (count ∙ ap (λ k. k - most_findings) (sym (length-map refused name_view)))
    ∙ append_assoc t (flat_map ended some) (flat_map ended others) ∙ ap (λ xs. t ++ xs) (sym (flat_map-append ended some others))
