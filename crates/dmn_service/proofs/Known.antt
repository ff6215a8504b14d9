-- What is known to be found along an order in which each place comes after all that it needs.
use Rattle.std.proofs.Common.{◌≡◌, ◌∙◌, sym, ap, refl, subst, ℕ, ◌<◌, Bool, true, false, cond, ◌||◌, ◌&&◌, List, [], ◌∷◌, length, get_or, Option, Some, is_some, inl, inr, ◌⊎◌, arith}
use Rattle.std.specs.Prelude.{nat_eq, ◌≢◌}
use Rattle.std.specs.List.{list_any, list_all}
use Rattle.std.proofs.lemmas.Bool.{cases_Bool}
use Rattle.std.proofs.lemmas.Bool.Decides.{eqb_tells}
use Rattle.std.proofs.lemmas.List.{get_or-map}
use Rattle.feel_value.specs.Datum.{Datum}
use Rattle.feel_value.specs.Found.{value_of}
use Rattle.feel_value.specs.declared.feel.Outcome.{Outcome}
use Rattle.feel_value.specs.declared.feel.Outcome.TheVariants.{Is}
use Rattle.feel_text.specs.Needed.{is_found}
use Rattle.dmn_form.specs.Model.{Name}
use Rattle.dmn_graph.specs.Reach.{Each, IsInOrder, has_same}
use Rattle.dmn_service.specs.Places.{name_at, needs_at, named_places}
use Rattle.dmn_service.specs.Run.{Found, values_in, kept_at, given_at, AreKnown}
use Rattle.dmn_service.specs.declared.plan.Item.{Item}

kept_some : (b : Bool) (w o : Option Datum) → is_some w ≡ true → (b ≡ false → is_some o ≡ true) → is_some (cond b w o) ≡ true
kept_some true w o h g = h
kept_some false w o h g = g refl

apart_turned : (k q : ℕ) → nat_eq k q ≡ false → nat_eq q k ≡ false
apart_turned k q apart = go (eqb_tells q k)
  where
    go : ((nat_eq q k ≡ true) × (q ≡ k)) ⊎ ((nat_eq q k ≡ false) × (q ≢ k)) → nat_eq q k ≡ false
    go (inl e) =
        let same : nat_eq k q ≡ nat_eq q k = ap (λ n. nat_eq n q) (sym e.1) ∙ ap (nat_eq q) e.1 in
        sym same ∙ apart
    go (inr e) = e.0

or_else : (b c : Bool) → b ≡ false → (b || c) ≡ true → c ≡ true
or_else b c e h = sym (ap (λ t. t || c) e) ∙ h

later : (q k : ℕ) (seen : List ℕ) → nat_eq k q ≡ false → has_same nat_eq (k ∷ seen) q ≡ true → has_same nat_eq seen q ≡ true
later q k seen apart among = or_else (nat_eq q k) (list_any (nat_eq q) seen) (apart_turned k q apart) among

-- one place more, where a value was found
pub known_more : (items : List Item) (f new : Found) (k : ℕ) (rest : List ℕ) (o : Outcome) → AreKnown items f (k ∷ rest) → new ≡ kept_at f k o → is_some (value_of o) ≡ true → AreKnown items new rest
known_more items f new k rest o h e some = record {
  seen = k ∷ h.seen;
  behind = h.behind.1;
  all = λ q among. ap (λ (g : Found). is_some (g q)) e ∙ kept_some (nat_eq k q) (value_of o) (f q) some (λ apart. h.all q (later q k h.seen apart among));
}

all_named : (name : ℕ → Name) (found : List Outcome) (seen qs : List ℕ) → Each (λ q. has_same nat_eq seen q ≡ true) qs → ((q : ℕ) → has_same nat_eq seen q ≡ true → is_some (values_in found q) ≡ true)
    → list_all (is_found found) (named_places name qs) ≡ true
all_named name found seen [] h all = refl
all_named name found seen (q ∷ qs) h all = ap (λ b. b && list_all (is_found found) (named_places name qs)) (all q h.0) ∙ all_named name found seen qs h.1 all

-- a value was found for each need of the next one
pub known_needs : (items : List Item) (found : List Outcome) (k : ℕ) (rest : List ℕ) (x : Item) → AreKnown items (values_in found) (k ∷ rest) → k < length items → x ≡ get_or items k x
    → x.named ≡ named_places (name_at items) x.needs.items → list_all (is_found found) x.named ≡ true
known_needs items found k rest x h inside here named =
    let needs : needs_at items k ≡ x.needs.items = get_or-map (λ (y : Item). y.needs.items) items k x _ inside ∙ ap (λ (y : Item). y.needs.items) (sym here) in
    ap (list_all (is_found found)) named
    ∙ all_named (name_at items) found h.seen x.needs.items (subst (λ qs. Each (λ q. has_same nat_eq h.seen q ≡ true) qs) needs h.behind.0) h.all

given_kept : (ps : List ℕ) (vs : List Datum) (f : Found) (q : ℕ) → is_some (f q) ≡ true → is_some (given_at ps vs f q) ≡ true
given_kept [] vs f q h = h
given_kept (p ∷ ps) [] f q h = h
given_kept (p ∷ ps) (v ∷ vs) f q h = given_kept ps vs (kept_at f p (Is v)) q (kept_some (nat_eq p q) (Some v) (f q) refl (λ apart. h))

given_some : (ps : List ℕ) (vs : List Datum) (f : Found) (q : ℕ) → length vs ≡ length ps → has_same nat_eq ps q ≡ true → is_some (given_at ps vs f q) ≡ true
given_some [] vs f q len among = absurd (cc)
given_some (p ∷ ps) [] f q len among = absurd (omega (arith, len))
given_some (p ∷ ps) (v ∷ vs) f q len among = elim (cases_Bool (nat_eq p q)) [
  | inl e ↦ given_kept ps vs (kept_at f p (Is v)) q (ap (λ b. is_some (cond b (Some v) (f q))) e)
  | inr e ↦ given_some ps vs (kept_at f p (Is v)) q (omega (arith, len)) (later q p ps e among)
]

-- a value is given for each parameter
pub known_first : (items : List Item) (ps order : List ℕ) (vs : List Datum) (f : Found) → IsInOrder nat_eq (needs_at items) ps order → length vs ≡ length ps → AreKnown items (given_at ps vs f) order
known_first items ps order vs f h len = record { seen = ps; behind = h; all = λ q among. given_some ps vs f q len among }
