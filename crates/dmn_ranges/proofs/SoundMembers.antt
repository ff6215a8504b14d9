-- What is said of the members of what a name stands for holds of a path into it.
use Rattle.std.proofs.Common.{◌≡◌, ◌∙◌, refl, sym, ap, subst, ℕ, ◌+◌, ◌<◌, List, [], ◌∷◌, length, get_or, drop, map, Bool, true, false, ◌&&◌, Option, None, Some, unwrap_or, if◌then◌else◌}
use Rattle.std.specs.Prelude.{bytes_eq, string_bytes, ⊤}
use Rattle.std.specs.List.{list_all}
use Rattle.std.proofs.lemmas.List.{at_drop_more}
use Rattle.std.proofs.lemmas.Slice.Eq.{bytes_eq-Decides}
use Rattle.feel_value.proofs.Booleans.{both_true}
use Rattle.feel_value.specs.Datum.{Datum, null, boolean, number, text, list, context}
use Rattle.feel_value.specs.Limits.{is_value, nodes, depth}
use Rattle.feel_value.specs.Outcome.{held}
use Rattle.feel_value.specs.declared.feel.Outcome.{Outcome}
use Rattle.feel_value.specs.declared.feel.Outcome.TheVariants.{Is, Limit}
use Rattle.feel_text.specs.Expr.{Expr, Null, Boolean, Number, Text, Name, Group, Members as Listed, Call, Modulo, Not, Negate, Path, Binary, Between, If}
use Rattle.feel_text.specs.Meaning.{Bindings, bound, den, with_value, path_of}
use Rattle.dmn_ranges.specs.Ranges.{Extent, Fits, Members, Scope, covers, extent_named, lie_in, lies_in, lies_within, members_of, null_alone, plain, reached}
use Rattle.dmn_ranges.specs.Steps.{given, is_path, known_or, member_at, members_behind}
use Rattle.dmn_ranges.specs.declared.outcomes.Outcomes.{Outcomes}
use Rattle.dmn_ranges.specs.declared.range.MemberRange.{MemberRange}
use Rattle.dmn_ranges.specs.declared.range.Range.{Range}
use Rattle.dmn_ranges.specs.declared.size.Size.{Size}
use Rattle.dmn_ranges.proofs.Joins.{and_both, context_keeps, list_keeps}
use Rattle.dmn_ranges.proofs.Paths.{path_keeps}
use Rattle.dmn_ranges.proofs.Sizes.{is_kept, kept_value, same}

-- ---- extents

pub range_within : (s : Extent) (v : Datum) → lies_within s v ≡ true → lies_in s.0 v ≡ true
range_within s v h = (both_true (lies_in s.0 v) (lie_in s.1 v) h).0

pub members_within : (s : Extent) (v : Datum) → lies_within s v ≡ true → lie_in s.1 v ≡ true
members_within s v h = (both_true (lies_in s.0 v) (lie_in s.1 v) h).1

pub plain_within : (r : Range) (v : Datum) → lies_in r v ≡ true → lies_within (plain r) v ≡ true
plain_within r v h = and_both (lies_in r v) true h refl

-- ---- values that a path leads to

path_value : (n : List ℕ) (d : Datum) → is_value d ≡ true → is_value (path_of n d) ≡ true
path_value n d h =
    let s : Size = record { nodes = nodes d; depth = depth d } in
    kept_value s (path_of n d) (path_keeps n s d (is_kept s d h (same (nodes d)) (same (depth d))))

path_within : (n : List ℕ) (r : Range) (d : Datum) → lies_in r d ≡ true → is_value (path_of n d) ≡ true
path_within n r null h = refl
path_within n r (boolean b) h = refl
path_within n r (number z) h = refl
path_within n r (text s) h = refl
path_within n r (list ds) h = kept_value r.size (path_of n (list ds)) (path_keeps n r.size (list ds) (list_keeps r ds h))
path_within n r (context es) h = kept_value r.size (path_of n (context es)) (path_keeps n r.size (context es) (context_keeps r es h))

pub reached_kept : (ns : List (List ℕ)) (d : Datum) → is_value d ≡ true → is_value (reached ns d) ≡ true
reached_kept [] d h = h
reached_kept (n ∷ ns) d h = path_value n (reached ns d) (reached_kept ns d h)

reached_value : (n : List ℕ) (ns : List (List ℕ)) (r : Range) (d : Datum) → lies_in r d ≡ true → is_value (path_of n (reached ns d)) ≡ true
reached_value n [] r d h = path_within n r d h
reached_value n (p ∷ ns) r d h = path_value n (path_of p (reached ns d)) (reached_value p ns r d h)

held_if : (t : Bool) (d : Datum) → t ≡ true → (if t then Is d else Limit) ≡ Is d
held_if true d e = refl
held_if false d e = cc

held_value : (d : Datum) → is_value d ≡ true → held d ≡ Is d
held_value d h = held_if (is_value d) d h

-- ---- what a path leads into

abbrev base : Expr → Bindings → Datum
base (Name name) m = unwrap_or (bound name m) null
base (Group e) m = base e m
base (Path e name) m = base e m
base e m = null

along : (o : Outcome) (n p : List ℕ) (ns : List (List ℕ)) (r : Range) (d : Datum) → lies_in r d ≡ true → p ≡ n → o ≡ Is (reached ns d) → with_value o (λ v. held (path_of n v)) ≡ Is (path_of p (reached ns d))
along o n p ns r d h same is =
    ap (λ (q : Outcome). with_value q (λ v. held (path_of n v))) is ∙ held_value (path_of n (reached ns d)) (reached_value n ns r d h) ∙ ap (λ (k : List ℕ). Is (path_of k (reached ns d))) (sym same)

path_reaches : (e : Expr) (ns : List (List ℕ)) (m : Bindings) (r : Range) → lies_in r (base e m) ≡ true → is_path e ns ≡ true → den e m ≡ Is (reached ns (base e m))
path_reaches (Name name) [] m r h k = refl
path_reaches (Name name) (n ∷ ns) m r h k = cc
path_reaches (Group e) ns m r h k = path_reaches e ns m r h k
path_reaches (Path e name) [] m r h k = cc
path_reaches (Path e name) (n ∷ ns) m r h k =
    let q = both_true (bytes_eq n name) (is_path e ns) k in
    along (den e m) name n ns r (base e m) h ((bytes_eq-Decides n name).0 q.0) (path_reaches e ns m r h q.1)
path_reaches e ns m r h k = cc

-- ---- what is known

abbrev pub CoversIf : Option Range → Outcome → Type 0
CoversIf None p = ⊤
CoversIf (Some r) p = covers (given r) p ≡ true

pub known_covers : (k : Option Range) (o : Outcomes) (p : Outcome) → CoversIf k p → covers o p ≡ true → covers (known_or k o) p ≡ true
known_covers None o p h g = g
known_covers (Some r) o p h g = h

known_by : (t : Bool) (r : Range) (k : Option Range) (p : Outcome) → (t ≡ true → covers (given r) p ≡ true) → CoversIf k p → CoversIf (if t then Some r else k) p
known_by true r k p h g = h refl
known_by false r k p h g = g

found_known : (e : Expr) (ms : Members) (m : Bindings) (r : Range) → lies_in r (base e m) ≡ true → lie_in ms (base e m) ≡ true → CoversIf (member_at e ms) (den e m)
found_known e [] m r h k = tt
found_known e (x ∷ ms) m r h k =
    let q = both_true (lies_in x.1 (reached x.0 (base e m))) (lie_in ms (base e m)) k in
    known_by (is_path e x.0) x.1 (member_at e ms) (den e m) (λ is. subst (λ (o : Outcome). covers (given x.1) o ≡ true) (sym (path_reaches e x.0 m r h is)) q.0) (found_known e ms m r h q.1)

-- what is said of what a path leads into
record Behind (e : Expr) (xs : Scope) (m : Bindings) : Type 0 where
  range : Range
  inside : lies_in range (base e m) ≡ true
  members : lie_in (members_behind e xs) (base e m) ≡ true

behind : (e : Expr) (xs : Scope) (m : Bindings) → Fits xs m → Behind e xs m
behind (Name name) xs m h = record {
  range = (extent_named xs name).0;
  inside = range_within (extent_named xs name) (unwrap_or (bound name m) null) (h name);
  members = members_within (extent_named xs name) (unwrap_or (bound name m) null) (h name);
}
behind (Group e) xs m h = let b = behind e xs m h in record { range = b.range; inside = b.inside; members = b.members }
behind (Path e name) xs m h = let b = behind e xs m h in record { range = b.range; inside = b.inside; members = b.members }
behind e xs m h = record { range = null_alone; inside = refl; members = refl }

pub path_known : (e : Expr) (xs : Scope) (m : Bindings) → Fits xs m → CoversIf (member_at e (members_behind e xs)) (den e m)
path_known e xs m h = let b = behind e xs m h in found_known e (members_behind e xs) m b.range b.inside b.members

-- ---- the code's loop

pub member_turn : (e : Expr) (ms : List MemberRange) (i : ℕ) (x : MemberRange) (whole : Option Range) → whole ≡ member_at e (members_of (drop i ms)) → i < length ms → x ≡ get_or ms i x
    → whole ≡ (if is_path e (map string_bytes x.path.items) then Some x.range else member_at e (members_of (drop (i + 1) ms)))
member_turn e ms i x whole so_far more here =
    so_far ∙ at_drop_more (λ xs. member_at e (members_of xs)) ms i x more
    ∙ ap (λ (y : MemberRange). if is_path e (map string_bytes y.path.items) then Some y.range else member_at e (members_of (drop (i + 1) ms))) (sym here)

pub member_here : (b : Bool) (r : Range) (whole o : Option Range) → whole ≡ (if b then Some r else o) → b ≡ true → whole ≡ Some r
member_here true r whole o e h = e
member_here false r whole o e h = cc

pub member_later : (b : Bool) (r : Range) (whole o : Option Range) → whole ≡ (if b then Some r else o) → b ≡ false → whole ≡ o
member_later true r whole o e h = cc
member_later false r whole o e h = e
