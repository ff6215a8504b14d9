-- Paths into contexts and lists.
use Rattle.std.proofs.Common.{◌≡◌, ◌∙◌, refl, sym, ap, ℕ, ◌+◌, ◌<◌, true, List, [], ◌∷◌, ◌++◌, length, get_or, drop, Some, if◌then◌else◌, unwrap_or}
use Rattle.feel_value.specs.Datum.{Datum, null, boolean, number, text, list, context, item, entry_named}
use Rattle.feel_value.specs.Limits.{is_value}
use Rattle.feel_value.specs.Outcome.{held}
use Rattle.feel_value.specs.View.{datum_of, items_view}
use Rattle.feel_value.specs.declared.value.Value.{Value}
use Rattle.feel_value.specs.declared.feel.Outcome.TheVariants.{Is, Limit}
use Rattle.feel_value.proofs.Entries.{items_from}
use Rattle.feel_value.proofs.FromJson.{items_after, items_after-push}
use Rattle.feel_value.proofs.Parts.{entry_lawful}
use Rattle.feel_text.specs.Meaning.{path_of, paths_of}

-- the path to an entry is the entry
entry_path : (name : List ℕ) (d e : Datum) → entry_named name d ≡ Some e → path_of name d ≡ e
entry_path name null e q = cc
entry_path name (boolean b) e q = cc
entry_path name (number z) e q = cc
entry_path name (text s) e q = cc
entry_path name (list ds) e q = cc
entry_path name (context es) e q = ap (λ o. unwrap_or o null) q

pub entry_held : (name : List ℕ) (d e : Datum) → is_value d ≡ true → entry_named name d ≡ Some e → held (path_of name d) ≡ Is e
entry_held name d e h q = ap held (entry_path name d e q) ∙ ap (λ t. if t then Is e else Limit) (entry_lawful name d e h q)

-- the path of an empty list is that list
pub path_of_empty : (name : List ℕ) (vs : List Value) → length vs ≡ 0 → list (items_view vs) ≡ path_of name (list (items_view vs))
path_of_empty name [] e = refl
path_of_empty name (v ∷ vs) e = cc

-- one more member's path
pub paths_step : (name : List ℕ) (vs xs : List Value) (v x : Value) (i : ℕ) → x ≡ get_or xs i x → i < length xs → datum_of v ≡ path_of name (datum_of x)
    → items_after vs (paths_of name (items_view (drop i xs))) ≡ items_after (vs ++ v ∷ []) (paths_of name (items_view (drop (i + 1) xs)))
paths_step name vs xs v x i e h q =
    ap (λ ds. items_after vs (paths_of name ds)) (items_from xs i x e h)
    ∙ ap (λ d. items_after vs (item d (paths_of name (items_view (drop (i + 1) xs))))) (sym q)
    ∙ items_after-push vs v (paths_of name (items_view (drop (i + 1) xs)))
