-- What waits to be written.
use Rattle.std.proofs.Common.{◌≡◌, ℕ, List, [], ◌++◌, ap, sym, ◌∙◌, append_assoc, append-nil, Option}
use Rattle.std.specs.Io.KnownBytes.{Appends}
use Rattle.desk_lines.specs.Gathers.{Gathers}
use Rattle.desk_lines.proofs.Coming.{Appends-then, Appends-none}

pub gathers_none : (wrote : Option (List ℕ)) (waits : List ℕ) → Gathers wrote wrote waits [] waits
gathers_none wrote waits = record { out = []; written = Appends-none wrote; is = append-nil waits }

pub gathers_then : {a b c : Option (List ℕ)} {waits text waits' more waits'' : List ℕ} → Gathers a b waits text waits' → Gathers b c waits' more waits''
    → Gathers a c waits (text ++ more) waits''
gathers_then {a} {b} {c} {waits} {text} {waits'} {more} {waits''} g h = record {
  out = g.out ++ h.out;
  written = Appends-then a b c g.out h.out g.written h.written;
  is = sym (append_assoc waits text more) ∙ ap (λ t. t ++ more) g.is ∙ append_assoc g.out waits' more ∙ ap (λ t. g.out ++ t) h.is ∙ sym (append_assoc g.out h.out waits'');
}

-- nothing is said, though some of what waited may be written
pub gathers_quiet : {a b c : Option (List ℕ)} {waits text waits' waits'' : List ℕ} → Gathers a b waits text waits' → Gathers b c waits' [] waits''
    → Gathers a c waits text waits''
gathers_quiet {a} {b} {c} {waits} {text} {waits'} {waits''} g h =
    let both : Gathers a c waits (text ++ []) waits'' = gathers_then g h in rw append-nil at both

-- all is written
pub all_written : {a b : Option (List ℕ)} {text waits : List ℕ} → Gathers a b [] text waits → waits ≡ [] → Appends a b text
all_written {a} {b} {text} {waits} g e =
    let all : text ≡ g.out = g.is ∙ ap (λ t. g.out ++ t) e ∙ append-nil g.out in
    rw all g.written

-- a part is written
pub gathers_part : {a b : Option (List ℕ)} (out rest waits : List ℕ) → waits ≡ out ++ rest → Appends a b out → Gathers a b waits [] rest
gathers_part out rest waits e h = record { out = out; written = h; is = append-nil waits ∙ e }
