-- The rules that hit and those that miss, rule by rule, with their numbers.
use Rattle.std.proofs.Common.{◌≡◌, ℕ, ◌+◌, ◌<◌, ◌≤◌, List, [], ◌∷◌, ◌++◌, map, length, get_or, drop, Bool, true, false, ◌&&◌, Option, None, Some, option_map, refl, sym, ap, ap₂, ◌∙◌, append_assoc, append-nil}
use Rattle.std.specs.Option.{is_none}
use Rattle.std.specs.Prelude.{nat_eq}
use Rattle.std.proofs.lemmas.List.{at_drop_more, drop_all}
use Rattle.std.specs.List.{slice_get}
use Rattle.std.proofs.lemmas.Option.{same_Some, slice_get-map, slice_get_read}
use Rattle.serde_json.specs.Data.{Members}
use Rattle.feel_value.specs.Datum.{Datum}
use Rattle.feel_value.specs.Found.{each, ◌>>=◌}
use Rattle.feel_text.specs.Meaning.{Bindings}
use Rattle.dmn_table.specs.Hits.{does_hit, first_miss, kept}
use Rattle.dmn_table.specs.Parts.{have_entries, rule_view}
use Rattle.dmn_table.specs.Table.{Rule, Table}
use Rattle.dmn_table.specs.declared.table.Rule as code
use Rattle.dmn_table.proofs.EqualPlaces.{and_first, and_second}
use Rattle.dmn_table.proofs.FirstMiss.{hits_without_miss}
use Rattle.dmn_explain.specs.How.{hits_then, members_from, misses, misses_if, missed, numbered, numbered_hits}
use Rattle.dmn_explain.specs.Numbered.{Found, found_from, missed_if, one_more}

-- what was found, and what is found of the rules behind
abbrev pub after_found : Found → Option Found → Option Found
after_found a o = option_map (λ b. (a.0 ++ b.0, a.1 ++ b.1)) o

-- what is found of a rule and of those behind it, by their answers
abbrev found_by : Bool → ℕ → Rule → List Rule → List (Option ℕ) → Found
found_by w n r rs columns = (kept ((n, r) ∷ numbered (n + 1) rs) (map is_none columns), missed_if w n columns)

found_behind : (w : Bool) (n : ℕ) (r : Rule) (rs : List Rule) (miss : Option ℕ) (o : Option (List (Option ℕ))) (a : Found)
    → after_found a (option_map (found_by w n r rs) (o >>= λ ys. Some (miss ∷ ys)))
    ≡ after_found (one_more w n r miss a) (option_map (λ columns. (kept (numbered (n + 1) rs) (map is_none columns), missed_if w (n + 1) columns)) o)
found_behind w n r rs None None a = refl
found_behind w n r rs (Some c) None a = refl
found_behind w n r rs None (Some ys) a =
    ap (λ (hs : List (ℕ × Rule)). Some (hs, a.1 ++ missed_if w (n + 1) ys)) (sym (append_assoc a.0 ((n, r) ∷ []) (kept (numbered (n + 1) rs) (map is_none ys))))
found_behind true n r rs (Some c) (Some ys) a =
    ap (λ (xs : List (ℕ × ℕ)). Some (a.0 ++ kept (numbered (n + 1) rs) (map is_none ys), xs)) (sym (append_assoc a.1 ((n, c) ∷ []) (missed (n + 1) ys)))
found_behind false n r rs (Some c) (Some ys) a = refl

none_behind : (w : Bool) (n : ℕ) (a : Found) → after_found a (Some ([], missed_if w n [])) ≡ Some a
none_behind true n a = ap₂ (λ (hs : List (ℕ × Rule)) (xs : List (ℕ × ℕ)). Some (hs, xs)) (append-nil a.0) (append-nil a.1)
none_behind false n a = ap₂ (λ (hs : List (ℕ × Rule)) (xs : List (ℕ × ℕ)). Some (hs, xs)) (append-nil a.0) (append-nil a.1)

from_rule : (w : Bool) (n : ℕ) (m : Bindings) (values : List Datum) (rs : List code.Rule) (i : ℕ) (x : code.Rule) (o : Option (Option ℕ)) → x ≡ get_or rs i x → i < length rs → o ≡ first_miss m values (rule_view x)
    → found_from w n m values (map rule_view (drop i rs))
    ≡ option_map (found_by w n (rule_view x) (map rule_view (drop (i + 1) rs))) (o >>= λ y. each (first_miss m values) (map rule_view (drop (i + 1) rs)) >>= λ ys. Some (y ∷ ys))
from_rule w n m values rs i x o e h miss =
    at_drop_more (λ (ys : List code.Rule). found_from w n m values (map rule_view ys)) rs i x h
    ∙ ap (λ (y : code.Rule). found_from w n m values (rule_view y ∷ map rule_view (drop (i + 1) rs))) (sym e)
    ∙ ap (λ (p : Option (Option ℕ)). option_map (found_by w n (rule_view x) (map rule_view (drop (i + 1) rs))) (p >>= λ y. each (first_miss m values) (map rule_view (drop (i + 1) rs)) >>= λ ys. Some (y ∷ ys))) (sym miss)

pub found_begun : (a : Found) (o : Option Found) → a.0 ≡ [] → a.1 ≡ [] → o ≡ after_found a o
found_begun a None e f = refl
found_begun a (Some b) e f = ap₂ (λ (hs : List (ℕ × Rule)) (xs : List (ℕ × ℕ)). Some (hs ++ b.0, xs ++ b.1)) (sym e) (sym f)

module _ (w : Bool) (whole : Option Found) (a : Found) (m : Bindings) (values : List Datum) (rs : List code.Rule) (i : ℕ) (before : whole ≡ after_found a (found_from w (i + 1) m values (map rule_view (drop i rs)))) where
  pub found_done : length rs ≤ i → Some a ≡ whole
  found_done h = sym (before ∙ ap (λ (ys : List code.Rule). after_found a (found_from w (i + 1) m values (map rule_view ys))) (drop_all i rs h) ∙ none_behind w (i + 1) a)

  module _ (x : code.Rule) (here : x ≡ get_or rs i x) (more : i < length rs) where
    pub found_broken : None ≡ first_miss m values (rule_view x) → None ≡ whole
    found_broken miss = sym (before ∙ ap (after_found a) (from_rule w (i + 1) m values rs i x None here more miss))

    pub found_more : (miss : Option ℕ) (b : Found) → Some miss ≡ first_miss m values (rule_view x) → b ≡ one_more w (i + 1) (rule_view x) miss a
        → whole ≡ after_found b (found_from w (i + 1 + 1) m values (map rule_view (drop (i + 1) rs)))
    found_more miss b is added =
        before ∙ ap (after_found a) (from_rule w (i + 1) m values rs i x (Some miss) here more is)
        ∙ found_behind w (i + 1) (rule_view x) (map rule_view (drop (i + 1) rs)) miss (each (first_miss m values) (map rule_view (drop (i + 1) rs))) a
        ∙ ap (λ (c : Found). after_found c (found_from w (i + 1 + 1) m values (map rule_view (drop (i + 1) rs)))) (sym added)

    pub rule_there : slice_get (map rule_view rs) i ≡ Some (rule_view x)
    rule_there = slice_get-map rule_view rs i ∙ ap (option_map rule_view) (slice_get_read rs (length rs) i x refl more here)

    -- a rule that misses is passed over where misses aren't asked for
    pub found_passed : w ≡ false → does_hit m values (rule_view x) ≡ Some false → whole ≡ after_found a (found_from w (i + 1 + 1) m values (map rule_view (drop (i + 1) rs)))
    found_passed off miss = go (first_miss m values (rule_view x)) refl
      where
        misses_by : (o : Option (Option ℕ)) → first_miss m values (rule_view x) ≡ o → option_map is_none o ≡ Some false
        misses_by o e = ap (option_map is_none) (sym e) ∙ hits_without_miss m values (rule_view x) ∙ miss

        go : (o : Option (Option ℕ)) → first_miss m values (rule_view x) ≡ o → whole ≡ after_found a (found_from w (i + 1 + 1) m values (map rule_view (drop (i + 1) rs)))
        go None e = let no : None ≡ Some false = misses_by None e in cc
        go (Some None) e = let no : Some true ≡ Some false = misses_by (Some None) e in cc
        go (Some (Some c)) e = found_more (Some c) a (sym e) (sym (ap (λ b. one_more b (i + 1) (rule_view x) (Some c) a) off))

-- ---- of a whole table

each_hit : (m : Bindings) (values : List Datum) (rs : List Rule) → option_map (map is_none) (each (first_miss m values) rs) ≡ each (does_hit m values) rs
each_hit m values [] = refl
each_hit m values (r ∷ rs) =
    go (first_miss m values r) (each (first_miss m values) rs)
    ∙ ap₂ (λ (o : Option Bool) (p : Option (List Bool)). o >>= λ y. p >>= λ ys. Some (y ∷ ys)) (hits_without_miss m values r) (each_hit m values rs)
  where
    go : (o : Option (Option ℕ)) (p : Option (List (Option ℕ)))
        → option_map (map is_none) (o >>= λ y. p >>= λ ys. Some (y ∷ ys)) ≡ (option_map is_none o >>= λ y. option_map (map is_none) p >>= λ ys. Some (y ∷ ys))
    go None p = refl
    go (Some c) None = refl
    go (Some c) (Some ys) = refl

-- what is told of what was found
abbrev pub told_of : Bool → Table → Bindings → Option Found → Members
told_of w t m o = members_from (λ a. hits_then t m (misses_if w (Some a.1)) a.0) o

pub told_same : (w : Bool) (t : Table) (m : Bindings) (values : List Datum)
    → told_of w t m (found_from w 1 m values t.rules) ≡ members_from (hits_then t m (misses_if w (misses t m values))) (numbered_hits t m values)
told_same w t m values =
    go w (each (first_miss m values) t.rules)
    ∙ ap (λ (o : Option (List Bool)). members_from (hits_then t m (misses_if w (misses t m values))) (o >>= λ answers. Some (kept (numbered 1 t.rules) answers))) (each_hit m values t.rules)
  where
    go : (w : Bool) (o : Option (List (Option ℕ)))
        → told_of w t m (option_map (λ columns. (kept (numbered 1 t.rules) (map is_none columns), missed_if w 1 columns)) o)
        ≡ members_from (hits_then t m (misses_if w (option_map (missed 1) o))) (option_map (map is_none) o >>= λ answers. Some (kept (numbered 1 t.rules) answers))
    go w None = refl
    go true (Some columns) = refl
    go false (Some columns) = refl

kept_entries : (n k : ℕ) (rs : List Rule) (answers : List Bool) → have_entries n rs ≡ true → have_entries n (map (λ h. h.1) (kept (numbered k rs) answers)) ≡ true
kept_entries n k [] answers e = refl
kept_entries n k (r ∷ rs) [] e = refl
kept_entries n k (r ∷ rs) (true ∷ answers) e =
    ap₂ (λ a b. a && b) (and_first (nat_eq (length r.gives) n) (have_entries n rs) e) (kept_entries n (k + 1) rs answers (and_second (nat_eq (length r.gives) n) (have_entries n rs) e))
kept_entries n k (r ∷ rs) (false ∷ answers) e = kept_entries n (k + 1) rs answers (and_second (nat_eq (length r.gives) n) (have_entries n rs) e)

-- each rule that hits has an entry for each output column, where all rules have
pub found_entries : (w : Bool) (n : ℕ) (m : Bindings) (values : List Datum) (rs : List Rule) (a : Found) → have_entries n rs ≡ true → Some a ≡ found_from w 1 m values rs → have_entries n (map (λ h. h.1) a.0) ≡ true
found_entries w n m values rs a e is = go (each (first_miss m values) rs) is
  where
    go : (o : Option (List (Option ℕ))) → Some a ≡ option_map (λ columns. (kept (numbered 1 rs) (map is_none columns), missed_if w 1 columns)) o → have_entries n (map (λ h. h.1) a.0) ≡ true
    go None f = cc
    go (Some columns) f =
        ap (λ (b : Found). have_entries n (map (λ h. h.1) b.0)) (same_Some a (kept (numbered 1 rs) (map is_none columns), missed_if w 1 columns) f)
        ∙ kept_entries n 1 rs (map is_none columns) e
