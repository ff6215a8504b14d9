-- Lines that are put together of pieces.
use Rattle.std.proofs.Common.{◌≡◌, ◌∙◌, ◌<◌, ℕ, zero, suc, List, [], ◌∷◌, ◌++◌, append_assoc, arith, codes, decimal, Some, ap}
use Rattle.std.specs.List.{flat_map}
use Rattle.json.specs.Print.{escape_byte, quoted}
use Rattle.serde_json.specs.Data.{boolean, number}
use Rattle.serde_json.specs.Find.{of_integer}
use Rattle.serde_json.specs.Written.{compact_text}
use Rattle.desk_lines.specs.Lines.{ended}
use Rattle.dmn_form.specs.Model.{Name}
use Rattle.dmn_ranges.specs.declared.interval.Interval.{Interval}
use Rattle.dmn_ranges.specs.declared.outcomes.Outcomes.{Outcomes}
use Rattle.desk_ranges.specs.Lines.{interval_told, texts_told, outcomes_told, service_line, decision_line, kinds_text, more_services, parts_text, head_text}

-- a piece goes onto a text that is known
pub onto : {x y z : List ℕ} (b : List ℕ) → x ≡ y ++ b → y ≡ z → x ≡ z ++ b
onto b e f = cc

pub four_pieces : (t a b c d : List ℕ) → (((t ++ a) ++ b) ++ c) ++ d ≡ t ++ (((a ++ b) ++ c) ++ d)
four_pieces t a b c d = simp append_assoc

pub six_pieces : (t a b c d e f : List ℕ) → (((((t ++ a) ++ b) ++ c) ++ d) ++ e) ++ f ≡ t ++ (((((a ++ b) ++ c) ++ d) ++ e) ++ f)
six_pieces t a b c d e f = simp append_assoc

pub eight_pieces : (t a b c d e f g h : List ℕ) → (((((((t ++ a) ++ b) ++ c) ++ d) ++ e) ++ f) ++ g) ++ h ≡ t ++ (((((((a ++ b) ++ c) ++ d) ++ e) ++ f) ++ g) ++ h)
eight_pieces t a b c d e f g h = simp append_assoc

pub interval_pieces : (t : List ℕ) (i : Interval)
    → ((((t ++ 91 ∷ []) ++ compact_text (number (of_integer i.low))) ++ 44 ∷ []) ++ compact_text (number (of_integer i.high))) ++ 93 ∷ [] ≡ t ++ compact_text (interval_told (Some i))
interval_pieces t i = simp append_assoc

outcomes_shape : (t n y f i x l c m : List ℕ)
    → (((t ++ (((((codes "{\"null\":" ++ n) ++ codes ",\"true\":") ++ y) ++ codes ",\"false\":") ++ f))
    ++ (((((((codes ",\"numbers\":" ++ i) ++ codes ",\"texts\":") ++ x) ++ codes ",\"lists\":") ++ l) ++ codes ",\"contexts\":") ++ c)) ++ codes ",\"limit\":") ++ (m ++ 125 ∷ [])
    ≡ t ++ 123 ∷ (quoted (codes "null") ++ 58 ∷ (n ++ 44 ∷ (quoted (codes "true") ++ 58 ∷ (y ++ 44 ∷ (quoted (codes "false") ++ 58 ∷ (f ++ 44 ∷ (quoted (codes "numbers") ++ 58 ∷ (i
    ++ 44 ∷ (quoted (codes "texts") ++ 58 ∷ (x ++ 44 ∷ (quoted (codes "lists") ++ 58 ∷ (l ++ 44 ∷ (quoted (codes "contexts") ++ 58 ∷ (c ++ 44 ∷ (quoted (codes "limit") ++ 58 ∷ (m ++ 125 ∷ []))))))))))))))))
unfolding escape_byte
outcomes_shape t n y f i x l c m = simp append_assoc

pub outcomes_pieces : (t : List ℕ) (o : Outcomes)
    → ((((t ++ kinds_text o.range) ++ parts_text o.range) ++ codes ",\"limit\":") ++ compact_text (boolean o.limit)) ++ 125 ∷ [] ≡ t ++ compact_text (outcomes_told o)
outcomes_pieces t o =
    append_assoc (((t ++ kinds_text o.range) ++ parts_text o.range) ++ codes ",\"limit\":") (compact_text (boolean o.limit)) (125 ∷ [])
    ∙ outcomes_shape t (compact_text (boolean o.range.nulls)) (compact_text (boolean o.range.trues)) (compact_text (boolean o.range.falses)) (compact_text (interval_told o.range.numbers))
    (compact_text (texts_told o.range.texts)) (compact_text (boolean o.range.lists)) (compact_text (boolean o.range.contexts)) (compact_text (boolean o.limit))

service_shape : (t s g : List ℕ) → ((((t ++ codes "{\"service\":") ++ s) ++ codes ",\"gives\":") ++ g) ++ codes "}\n" ≡ t ++ ((123 ∷ (quoted (codes "service") ++ 58 ∷ (s ++ 44 ∷ (quoted (codes "gives") ++ 58 ∷ (g ++ 125 ∷ []))))) ++ 10 ∷ [])
unfolding escape_byte
service_shape t s g = simp append_assoc

pub service_pieces : (t : List ℕ) (service : Name) (o : Outcomes)
    → ((((t ++ codes "{\"service\":") ++ quoted service) ++ codes ",\"gives\":") ++ compact_text (outcomes_told o)) ++ codes "}\n" ≡ t ++ ended (service_line service o)
service_pieces t service o = service_shape t (quoted service) (compact_text (outcomes_told o))

decision_shape : (t d s g : List ℕ) → (((t ++ (((codes "{\"decision\":" ++ d) ++ codes ",\"service\":") ++ s)) ++ codes ",\"gives\":") ++ g) ++ codes "}\n"
    ≡ t ++ ((123 ∷ (quoted (codes "decision") ++ 58 ∷ (d ++ 44 ∷ (quoted (codes "service") ++ 58 ∷ (s ++ 44 ∷ (quoted (codes "gives") ++ 58 ∷ (g ++ 125 ∷ []))))))) ++ 10 ∷ [])
unfolding escape_byte
decision_shape t d s g = simp append_assoc

pub decision_pieces : (t : List ℕ) (decision service : Name) (o : Outcomes)
    → (((t ++ head_text decision service) ++ codes ",\"gives\":") ++ compact_text (outcomes_told o)) ++ codes "}\n" ≡ t ++ ended (decision_line service (decision, o))
decision_pieces t decision service o = decision_shape t (quoted decision) (quoted service) (compact_text (outcomes_told o))

more_pieces : (t : List ℕ) (n : ℕ) → ((t ++ codes "{\"service\":null,\"more\":") ++ decimal (suc n)) ++ codes "}\n" ≡ t ++ flat_map ended (more_services (suc n))
unfolding escape_byte
more_pieces t n = simp append_assoc

pub more_told : (t u v w : List ℕ) (n : ℕ) → 0 < n → u ≡ t ++ codes "{\"service\":null,\"more\":" → v ≡ u ++ decimal n → w ≡ v ++ codes "}\n" → w ≡ t ++ flat_map ended (more_services n)
more_told t u v w zero some first digits last = let wrong : ⊥ = grind arith in absurd wrong
more_told t u v w (suc n) some first digits last =
    last ∙ ap (λ xs. xs ++ codes "}\n") (digits ∙ ap (λ xs. xs ++ decimal (suc n)) first) ∙ more_pieces t n
