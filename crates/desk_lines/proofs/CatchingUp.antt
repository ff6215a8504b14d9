-- What is said between lines.
use Rattle.std.proofs.Common.{◌≡◌, ◌+◌, ℕ, List, length, [], ◌∷◌, ◌++◌, sym, refl, subst, append-nil, append_assoc, Option}
use Rattle.std.specs.List.{flat_map}
use Rattle.std.proofs.lemmas.Grind.{flat_map-append}
use Rattle.desk_lines.specs.Answering.{Answers, SaysInPart, SaysMore}
use Rattle.desk_lines.specs.Gathers.{Gathers}
use Rattle.desk_lines.specs.Lines.{ended, kept_line}
use Rattle.desk_lines.proofs.Gathering.{gathers_none, gathers_quiet, gathers_then}

pub says_nothing : (After : List (List ℕ) → List (List ℕ) → Type 0) (wrote : Option (List ℕ)) (waits : List ℕ) → SaysMore After After wrote wrote waits waits
says_nothing After wrote waits = λ lines said a. ([], subst (After lines) (sym (append-nil said)) a, gathers_none wrote waits)

-- and then some of what waits is written
pub says_then : (After After' : List (List ℕ) → List (List ℕ) → Type 0) {a b c : Option (List ℕ)} {waits waits' waits'' : List ℕ}
    → SaysMore After After' a b waits waits' → Gathers b c waits' [] waits'' → SaysMore After After' a c waits waits''
says_then After After' s g = λ lines said a. let m = s lines said a in (m.0, m.1, gathers_quiet m.2 g)

pub says_weaker : (After After' Less : List (List ℕ) → List (List ℕ) → Type 0) {a b : Option (List ℕ)} {waits waits' : List ℕ}
    → ((lines said : List (List ℕ)) → After' lines said → Less lines said) → SaysMore After After' a b waits waits' → SaysMore After Less a b waits waits'
says_weaker After After' Less f s = λ lines said a. let m = s lines said a in (m.0, f lines _ m.1, m.2)

-- ## At a line

-- the line is not answered
pub part_before : (After Script : List (List ℕ) → List (List ℕ) → Type 0) {kept : Option (List ℕ)} {number : ℕ} {a b : Option (List ℕ)} {waits waits' : List ℕ}
    → SaysMore After Script a b waits waits' → SaysInPart After Script kept number a b waits waits'
part_before After Script s = λ lines said it h keeps num. let m = s lines said h in (lines, it ∷ [], m.0, refl, m.1, m.2)

pub part_weaker : (After Script Less : List (List ℕ) → List (List ℕ) → Type 0) {kept : Option (List ℕ)} {number : ℕ} {a b : Option (List ℕ)} {waits waits' : List ℕ}
    → ((lines said : List (List ℕ)) → Script lines said → Less lines said) → SaysInPart After Script kept number a b waits waits' → SaysInPart After Less kept number a b waits waits'
part_weaker After Script Less f s = λ lines said it h keeps num. let m = s lines said it h keeps num in (m.0, m.1, m.2, m.3, f m.0 _ m.4, m.5)

-- the text of an answer is said, and some of that may be lost
answer_gathers : {a b c : Option (List ℕ)} {waits waits' waits'' text : List ℕ} (before more : List (List ℕ)) → Gathers a b waits (flat_map ended before) waits' → text ≡ flat_map ended more → Gathers b c waits' text waits''
    → Gathers a c waits (flat_map ended (before ++ more)) waits''
answer_gathers {a} {b} {c} {waits} {waits'} {waits''} before more g is h =
    let then : Gathers b c waits' (flat_map ended more) waits'' = subst (λ t. Gathers b c waits' t waits'') is h in
    let all : Gathers a c waits (flat_map ended before ++ flat_map ended more) waits'' = gathers_then g then in
    rw (flat_map-append ended before more) all

module _ (After Script After' : List (List ℕ) → List (List ℕ) → Type 0) {kept : Option (List ℕ)} {number : ℕ} {a b c : Option (List ℕ)} {waits waits' waits'' text : List ℕ} where
  pub answered : Answers After Script After' kept number a b waits waits' text → Gathers b c waits' text waits''
      → (lines said : List (List ℕ)) (it : List ℕ) → After lines said → kept ≡ kept_line it → number ≡ length lines + 1
      → (more : List (List ℕ)) × After' (lines ++ it ∷ []) (said ++ more) × Gathers a c waits (flat_map ended more) waits''
  answered s h lines said it after keeps num =
      let m = s lines said it after keeps num in (
        m.0 ++ m.1,
        subst (After' (lines ++ it ∷ [])) (append_assoc said m.0 m.1) m.4,
        answer_gathers m.0 m.1 m.3 m.5 h,
      )

  -- the writer failed at its answer
  pub part_after : ((lines said : List (List ℕ)) → After' lines said → Script lines said) → Answers After Script After' kept number a b waits waits' text → Gathers b c waits' text waits''
      → SaysInPart After Script kept number a c waits waits''
  part_after f s h = λ lines said it after keeps num.
      let m = answered s h lines said it after keeps num in
      (lines ++ it ∷ [], [], m.0, sym (append-nil (lines ++ it ∷ [])), f _ _ m.1, m.2)

  -- memory was refused for its answer
  pub part_within : Answers After Script After' kept number a b waits waits' text → Gathers b c waits' [] waits''
      → SaysInPart After Script kept number a c waits waits''
  part_within s h = λ lines said it after keeps num.
      let m = s lines said it after keeps num in
      (lines, it ∷ [], m.0, refl, m.2, gathers_quiet m.3 h)
