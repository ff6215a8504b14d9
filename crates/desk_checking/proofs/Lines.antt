-- The lines that are put together of pieces.
use Rattle.std.proofs.Common.{◌≡◌, ℕ, suc, Bool, true, false, List, [], ◌∷◌, ◌++◌, append_assoc, append-nil, codes, decimal, refl, sym, ap, ◌∙◌, Option, Some, None, option_map, IfSome}
use Rattle.std.specs.List.{flat_map}
use Rattle.std.specs.Option.{is_none}
use Rattle.std.proofs.lemmas.Grind.{flat_map-append}
use Rattle.json.specs.Print.{escape_byte, quoted}
use Rattle.serde_json.specs.Data.{Data, array, Items, item, no_members}
use Rattle.serde_json.specs.Written.{comma_if, compact_text, items_text, members_text}
use Rattle.desk_lines.specs.Lines.{ended}
use Rattle.desk_wire.specs.Words.{fault_word, word_text}
use Rattle.desk_wire.specs.declared.word.Word.{Word}
use Rattle.dmn_plan.specs.declared.fault.ModelFault.{ModelFault}
use Rattle.dmn_form.specs.Model.{Service}
use Rattle.dmn_form.specs.Draft.{Draft, Written}
use Rattle.dmn_check.specs.Findings.{Finding}
use Rattle.dmn_check.specs.Pointer.{pointer_of}
use Rattle.dmn_check.specs.Told.{Told}
use Rattle.dmn_check.specs.ToldView.{told_view}
use Rattle.dmn_check.specs.declared.told.Told as told
use Rattle.desk_requests.specs.declared.refused.RefusedLine.{RefusedLine}
use Rattle.desk_checking.specs.declared.findings.CheckFault.{CheckFault}
use Rattle.desk_checking.specs.Known.{known_lines}
use Rattle.desk_checking.specs.Told.{decision_told, decisions_told, fault_line, fault_of, found_word, kind_of, lawful_line, lines_of_fault, long_line, more_line, more_refused, place_line, refused_line, service_told, services_told, texts_told, unless_unknown, with_word}

-- ---- a model with a fault

pub fault_pieces : (t : List ℕ) (f : CheckFault) → ((t ++ codes "{\"fault\":") ++ quoted (found_word f)) ++ codes "}\n" ≡ t ++ ended (fault_line f)
unfolding escape_byte
fault_pieces t f = simp append_assoc

pub place_pieces : (t : List ℕ) (f : ModelFault) (finding : Finding)
    → ((((t ++ codes "{\"fault\":") ++ quoted (word_text (fault_word f))) ++ codes ",\"pointer\":") ++ quoted (pointer_of finding.place)) ++ codes "}\n" ≡ t ++ ended (place_line f finding)
unfolding escape_byte
place_pieces t f finding = simp append_assoc

pub more_pieces : (t : List ℕ) (f : ModelFault) (n : ℕ)
    → ((((t ++ codes "{\"fault\":") ++ quoted (word_text (fault_word f))) ++ codes ",\"more\":") ++ decimal n) ++ codes "}\n" ≡ t ++ ended (more_line f n)
unfolding escape_byte
more_pieces t f n = simp append_assoc

pub long_pieces : (t : List ℕ) (n : ℕ) → ((t ++ codes "{\"fault\":\"long\",\"length\":") ++ decimal n) ++ codes "}\n" ≡ t ++ ended (long_line n)
unfolding escape_byte
long_pieces t n = simp append_assoc

-- ---- a model without a fault

pub decision_pieces : (t : List ℕ) (d : Written)
    → ((((t ++ codes "{\"name\":") ++ quoted d.name) ++ codes ",\"kind\":") ++ quoted (kind_of d.logic)) ++ codes "}" ≡ t ++ compact_text (decision_told d)
unfolding escape_byte
decision_pieces t d = simp append_assoc

pub service_pieces : (t : List ℕ) (s : Service)
    → ((((t ++ codes "{\"name\":") ++ quoted s.name) ++ codes ",\"parameters\":") ++ compact_text (array (texts_told (s.input_decisions ++ s.input_data)))) ++ codes "}" ≡ t ++ compact_text (service_told s)
unfolding escape_byte
service_pieces t s = simp append_assoc

model_shape : (t i d s : List ℕ)
    → ((((((t ++ codes "{\"lawful\":true,\"inputs\":") ++ i) ++ codes ",\"decisions\":") ++ d) ++ codes ",\"services\":") ++ s) ++ codes "}\n"
    ≡ t ++ ended (123 ∷ (quoted (codes "lawful") ++ 58 ∷ (codes "true" ++ 44 ∷ (quoted (codes "inputs") ++ 58 ∷ (i ++ 44 ∷ (quoted (codes "decisions") ++ 58 ∷ (d ++ 44 ∷ (quoted (codes "services") ++ 58 ∷ (s ++ 125 ∷ [])))))))))
unfolding escape_byte
model_shape t i d s = simp append_assoc

pub model_pieces : (t : List ℕ) (m : Draft)
    → ((((((t ++ codes "{\"lawful\":true,\"inputs\":") ++ compact_text (array (texts_told m.inputs))) ++ codes ",\"decisions\":") ++ compact_text (array (decisions_told m.decisions))) ++ codes ",\"services\":") ++ compact_text (array (services_told m.services))) ++ codes "}\n"
    ≡ t ++ ended (lawful_line m)
model_pieces t m = model_shape t (compact_text (array (texts_told m.inputs))) (compact_text (array (decisions_told m.decisions))) (compact_text (array (services_told m.services)))

-- ---- lines of requests

pub fault_member : (t : List ℕ) (w : Word) → ((t ++ codes ",\"fault\":") ++ quoted (word_text w)) ++ codes "}" ≡ t ++ members_text true (with_word w no_members)
unfolding escape_byte
fault_member t w = simp append_assoc

pub refused_pieces : (t : List ℕ) (r : RefusedLine)
    → (((((t ++ codes "{\"line\":") ++ decimal r.number) ++ codes ",\"note\":") ++ quoted (word_text r.why)) ++ members_text true (fault_of r.fault)) ++ codes "\n" ≡ t ++ ended (refused_line r)
unfolding escape_byte
refused_pieces t r = simp append_assoc

pub more_refused_pieces : (t : List ℕ) (n : ℕ) → ((t ++ codes "{\"more\":") ++ decimal (suc n)) ++ codes "}\n" ≡ t ++ flat_map ended (more_refused (suc n))
unfolding escape_byte
more_refused_pieces t n = simp append_assoc

-- ---- arrays, element by element

-- an element more, where something stands before or not
pub item_more : (t : List ℕ) (later : Bool) (d : Data) (ds : Items) → ((t ++ comma_if later) ++ compact_text d) ++ items_text true ds ≡ t ++ items_text later (item d ds)
item_more t later d ds = simp append_assoc

-- ---- several lines

pub lines_then : (t : List ℕ) (a b : List (List ℕ)) → (t ++ flat_map ended a) ++ flat_map ended b ≡ t ++ flat_map ended (a ++ b)
lines_then t a b = append_assoc t (flat_map ended a) (flat_map ended b) ∙ ap (λ s. t ++ s) (sym (flat_map-append ended a b))

pub one_line : (t line : List ℕ) → t ++ ended line ≡ t ++ flat_map ended (line ∷ [])
one_line t line = ap (λ s. t ++ s) (sym (append-nil (ended line)))

-- lines behind others
pub then : (t t1 t2 : List ℕ) (a b b' : List (List ℕ)) → t1 ≡ t ++ flat_map ended a → t2 ≡ t1 ++ flat_map ended b → b ≡ b' → t2 ≡ t ++ flat_map ended (a ++ b')
then t t1 t2 a b b' first second is = second ∙ ap (λ s. s ++ flat_map ended b) first ∙ ap (λ ls. (t ++ flat_map ended a) ++ flat_map ended ls) is ∙ lines_then t a b'

-- the first ones
pub first : (t t1 : List ℕ) (a a' : List (List ℕ)) → t1 ≡ t ++ flat_map ended a → a ≡ a' → t1 ≡ t ++ flat_map ended a'
first t t1 a a' lines is = lines ∙ ap (λ ls. t ++ flat_map ended ls) is

-- the lines of what may not be known
pub known_as : (o : Option told.Told) (b : Bool) (f : ModelFault) (u : Told) → is_none o ≡ b → IfSome o (λ v. told_view v ≡ u) → known_lines f (option_map told_view o) ≡ unless_unknown b (lines_of_fault f u)
known_as None true f u none is = refl
known_as None false f u none is = let wrong : ⊥ = cc in absurd wrong
known_as (Some v) true f u none is = let wrong : ⊥ = cc in absurd wrong
known_as (Some v) false f u none is = ap (lines_of_fault f) is

-- ---- pieces that are added one after another

pub five : (t t1 t2 t3 t4 t5 a b c d e b' d' whole : List ℕ) → t1 ≡ t ++ a → t2 ≡ t1 ++ b → t3 ≡ t2 ++ c → t4 ≡ t3 ++ d → t5 ≡ t4 ++ e → b ≡ b' → d ≡ d'
    → ((((t ++ a) ++ b') ++ c) ++ d') ++ e ≡ whole → t5 ≡ whole
five t t1 t2 t3 t4 t5 a b c d e b' d' whole one two three four last second fourth is =
    last ∙ ap (λ s. s ++ e)
    (four ∙ ap (λ s. s ++ d) (three ∙ ap (λ s. s ++ c) (two ∙ ap (λ s. s ++ b) one ∙ ap (λ s. (t ++ a) ++ s) second)) ∙ ap (λ s. (((t ++ a) ++ b') ++ c) ++ s) fourth)
    ∙ is

pub seven : (t t1 t2 t3 t4 t5 t6 t7 a b c d e f g b' d' f' whole : List ℕ) → t1 ≡ t ++ a → t2 ≡ t1 ++ b → t3 ≡ t2 ++ c → t4 ≡ t3 ++ d → t5 ≡ t4 ++ e → t6 ≡ t5 ++ f → t7 ≡ t6 ++ g
    → b ≡ b' → d ≡ d' → f ≡ f' → ((((((t ++ a) ++ b') ++ c) ++ d') ++ e) ++ f') ++ g ≡ whole → t7 ≡ whole
seven t t1 t2 t3 t4 t5 t6 t7 a b c d e f g b' d' f' whole one two three four last six end second fourth sixth is =
    five t5 t5 t5 t5 t6 t7 [] [] [] f g [] f' whole (sym (append-nil t5)) (sym (append-nil t5)) (sym (append-nil t5)) six end refl sixth
    (ap (λ s. ((((s ++ []) ++ []) ++ []) ++ f') ++ g) (five t t1 t2 t3 t4 t5 a b c d e b' d' (((((t ++ a) ++ b') ++ c) ++ d') ++ e) one two three four last second fourth refl)
    ∙ simp append-nil is)

pub four : (t t1 t2 t3 t4 a b c d b' d' whole : List ℕ) → t1 ≡ t ++ a → t2 ≡ t1 ++ b → t3 ≡ t2 ++ c → t4 ≡ t3 ++ d → b ≡ b' → d ≡ d' → (((t ++ a) ++ b') ++ c) ++ d' ≡ whole → t4 ≡ whole
four t t1 t2 t3 t4 a b c d b' d' whole one two three last second fourth is =
    last ∙ ap (λ s. s ++ d) (three ∙ ap (λ s. s ++ c) (two ∙ ap (λ s. s ++ b) one ∙ ap (λ s. (t ++ a) ++ s) second)) ∙ ap (λ s. (((t ++ a) ++ b') ++ c) ++ s) fourth
    ∙ is

pub nine : (t t1 t2 t3 t4 t5 t6 t7 t8 t9 a b c d e f g h i b' d' f' h' whole : List ℕ) → t1 ≡ t ++ a → t2 ≡ t1 ++ b → t3 ≡ t2 ++ c → t4 ≡ t3 ++ d → t5 ≡ t4 ++ e → t6 ≡ t5 ++ f → t7 ≡ t6 ++ g → t8 ≡ t7 ++ h
    → t9 ≡ t8 ++ i → b ≡ b' → d ≡ d' → f ≡ f' → h ≡ h' → ((((((((t ++ a) ++ b') ++ c) ++ d') ++ e) ++ f') ++ g) ++ h') ++ i ≡ whole → t9 ≡ whole
nine t t1 t2 t3 t4 t5 t6 t7 t8 t9 a b c d e f g h i b' d' f' h' whole one two three four five six end eighth last second fourth sixth more is =
    last ∙ ap (λ s. s ++ i)
    (eighth
    ∙ ap (λ s. s ++ h) (seven t t1 t2 t3 t4 t5 t6 t7 a b c d e f g b' d' f' (((((((t ++ a) ++ b') ++ c) ++ d') ++ e) ++ f') ++ g) one two three four five six end second fourth sixth refl)
    ∙ ap (λ s. (((((((t ++ a) ++ b') ++ c) ++ d') ++ e) ++ f') ++ g) ++ s) more)
    ∙ is

pub eleven : (t t1 t2 t3 t4 t5 t6 t7 t8 t9 t10 t11 a b c d e f g h i j k b' d' f' h' j' whole : List ℕ) → t1 ≡ t ++ a → t2 ≡ t1 ++ b → t3 ≡ t2 ++ c → t4 ≡ t3 ++ d → t5 ≡ t4 ++ e → t6 ≡ t5 ++ f → t7 ≡ t6 ++ g
    → t8 ≡ t7 ++ h → t9 ≡ t8 ++ i → t10 ≡ t9 ++ j → t11 ≡ t10 ++ k → b ≡ b' → d ≡ d' → f ≡ f' → h ≡ h' → j ≡ j'
    → ((((((((((t ++ a) ++ b') ++ c) ++ d') ++ e) ++ f') ++ g) ++ h') ++ i) ++ j') ++ k ≡ whole → t11 ≡ whole
eleven t t1 t2 t3 t4 t5 t6 t7 t8 t9 t10 t11 a b c d e f g h i j k b' d' f' h' j' whole one two three four five six end eighth ninth tenth last second fourth sixth more most is =
    last ∙ ap (λ s. s ++ k)
    (tenth
    ∙ ap (λ s. s ++ j)
    (nine t t1 t2 t3 t4 t5 t6 t7 t8 t9 a b c d e f g h i b' d' f' h' (((((((((t ++ a) ++ b') ++ c) ++ d') ++ e) ++ f') ++ g) ++ h') ++ i) one two three four five six end eighth ninth second fourth sixth more refl)
    ∙ ap (λ s. (((((((((t ++ a) ++ b') ++ c) ++ d') ++ e) ++ f') ++ g) ++ h') ++ i) ++ s) most)
    ∙ is
