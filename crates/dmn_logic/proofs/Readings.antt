-- Reading boxed expressions member by member.
use Rattle.std.proofs.Common.{◌≡◌, ℕ, ◌+◌, ◌<◌, ◌≤◌, List, [], ◌∷◌, ◌++◌, length, get_or, drop, Bool, true, false, refl, sym, ap, ap₂, ◌∙◌, append_assoc, append-nil}
use Rattle.std.proofs.lemmas.List.{at_drop_more, drop_all}
use Rattle.dmn_logic.specs.Reading.{mapped, both}
use Rattle.dmn_logic.specs.declared.reading.Reading.{Reading}
use Rattle.dmn_logic.specs.declared.reading.Reading.TheVariants.{Found, Refused, Unread}

-- what was read so far, and whether a table was refused so far, and then the rest
abbrev pub read_after : {X : Type 0} → Bool → List X → Reading (List X) → Reading (List X)
read_after false xs r = mapped (λ ys. xs ++ ys) r
read_after true xs (Found ys) = Refused
read_after true xs Refused = Refused
read_after true xs Unread = Unread

pub read_after-none : {X : Type 0} (r : Reading (List X)) → r ≡ read_after false [] r
read_after-none (Found ys) = refl
read_after-none Refused = refl
read_after-none Unread = refl

pub read_after-found : {X : Type 0} (refused : Bool) (xs : List X) (x : X) (r : Reading (List X)) → read_after refused xs (both (λ y ys. y ∷ ys) (Found x) r) ≡ read_after refused (xs ++ x ∷ []) r
read_after-found false xs x (Found ys) = ap Found (sym (append_assoc xs (x ∷ []) ys))
read_after-found false xs x Refused = refl
read_after-found false xs x Unread = refl
read_after-found true xs x (Found ys) = refl
read_after-found true xs x Refused = refl
read_after-found true xs x Unread = refl

pub read_after-refused : {X : Type 0} (refused : Bool) (xs : List X) (r : Reading (List X)) → read_after refused xs (both (λ y ys. y ∷ ys) Refused r) ≡ read_after true xs r
read_after-refused false xs (Found ys) = refl
read_after-refused false xs Refused = refl
read_after-refused false xs Unread = refl
read_after-refused true xs (Found ys) = refl
read_after-refused true xs Refused = refl
read_after-refused true xs Unread = refl

pub read_after-unread : {X : Type 0} (refused : Bool) (xs : List X) (r : Reading (List X)) → read_after refused xs (both (λ y ys. y ∷ ys) Unread r) ≡ Unread
read_after-unread false xs r = refl
read_after-unread true xs r = refl

pub read_after-all : {X : Type 0} (xs : List X) → read_after false xs (Found []) ≡ Found xs
read_after-all xs = ap Found (append-nil xs)

-- nothing is read yet
pub parts_begun : {A X : Type 0} (each : List A → Reading (List X)) (ys : List X) (xs : List A) → ys ≡ [] → each xs ≡ read_after false ys (each (drop 0 xs))
parts_begun each ys xs e = read_after-none (each xs) ∙ ap (λ zs. read_after false zs (each xs)) (sym e)

-- all parts are read
pub parts_read : {A X : Type 0} (each : List A → Reading (List X)) → each [] ≡ Found [] → (whole : Reading (List X)) (refused : Bool) (ys : List X) (xs : List A) (i : ℕ)
    → whole ≡ read_after refused ys (each (drop i xs)) → length xs ≤ i → refused ≡ false → Found ys ≡ whole
parts_read each ended whole refused ys xs i before h told =
    sym (before ∙ ap₂ (λ b zs. read_after b ys (each zs)) told (drop_all i xs h) ∙ ap (read_after false ys) ended ∙ read_after-all ys)

-- all parts are read, and some table is refused
pub parts_refused : {A X : Type 0} (each : List A → Reading (List X)) → each [] ≡ Found [] → (whole : Reading (List X)) (refused : Bool) (ys : List X) (xs : List A) (i : ℕ)
    → whole ≡ read_after refused ys (each (drop i xs)) → length xs ≤ i → refused ≡ true → Refused ≡ whole
parts_refused each ended whole refused ys xs i before h told =
    sym (before ∙ ap₂ (λ b zs. read_after b ys (each zs)) told (drop_all i xs h) ∙ ap (read_after true ys) ended)

-- what reading gives for a list, by what it gives for the part at i
part_from : {A X : Type 0} (part : A → Reading X) (each : List A → Reading (List X)) → ((a : A) (bs : List A) → each (a ∷ bs) ≡ both (λ y ys. y ∷ ys) (part a) (each bs))
    → (xs : List A) (i : ℕ) (a : A) (r : Reading X) → a ≡ get_or xs i a → i < length xs → r ≡ part a
    → each (drop i xs) ≡ both (λ y ys. y ∷ ys) r (each (drop (i + 1) xs))
part_from part each step xs i a r e h read =
    at_drop_more each xs i a h ∙ ap (λ b. each (b ∷ drop (i + 1) xs)) (sym e) ∙ step a (drop (i + 1) xs)
    ∙ ap (λ p. both (λ y ys. y ∷ ys) p (each (drop (i + 1) xs))) (sym read)

-- one part more was read
pub found_turn : {A X : Type 0} (part : A → Reading X) (each : List A → Reading (List X)) → ((a : A) (bs : List A) → each (a ∷ bs) ≡ both (λ y ys. y ∷ ys) (part a) (each bs))
    → (whole : Reading (List X)) (refused now : Bool) (ys zs : List X) (y : X) (xs : List A) (i : ℕ) (a : A)
    → whole ≡ read_after refused ys (each (drop i xs)) → a ≡ get_or xs i a → i < length xs → Found y ≡ part a → now ≡ refused → zs ≡ ys ++ y ∷ []
    → whole ≡ read_after now zs (each (drop (i + 1) xs))
found_turn part each step whole refused now ys zs y xs i a before e h read same pushed =
    before ∙ ap (read_after refused ys) (part_from part each step xs i a (Found y) e h read)
    ∙ read_after-found refused ys y (each (drop (i + 1) xs)) ∙ sym (ap₂ (λ b bs. read_after b bs (each (drop (i + 1) xs))) same pushed)

-- one part more holds a table that is refused
pub refused_turn : {A X : Type 0} (part : A → Reading X) (each : List A → Reading (List X)) → ((a : A) (bs : List A) → each (a ∷ bs) ≡ both (λ y ys. y ∷ ys) (part a) (each bs))
    → (whole : Reading (List X)) (refused now : Bool) (ys zs : List X) (xs : List A) (i : ℕ) (a : A)
    → whole ≡ read_after refused ys (each (drop i xs)) → a ≡ get_or xs i a → i < length xs → Refused ≡ part a → now ≡ true → zs ≡ ys
    → whole ≡ read_after now zs (each (drop (i + 1) xs))
refused_turn part each step whole refused now ys zs xs i a before e h read told same =
    before ∙ ap (read_after refused ys) (part_from part each step xs i a Refused e h read) ∙ read_after-refused refused ys (each (drop (i + 1) xs))
    ∙ sym (ap₂ (λ b bs. read_after b bs (each (drop (i + 1) xs))) told same)

-- one part more holds a text without a reading
pub unread_turn : {A X : Type 0} (part : A → Reading X) (each : List A → Reading (List X)) → ((a : A) (bs : List A) → each (a ∷ bs) ≡ both (λ y ys. y ∷ ys) (part a) (each bs))
    → (whole : Reading (List X)) (refused : Bool) (ys : List X) (xs : List A) (i : ℕ) (a : A)
    → whole ≡ read_after refused ys (each (drop i xs)) → a ≡ get_or xs i a → i < length xs → Unread ≡ part a → Unread ≡ whole
unread_turn part each step whole refused ys xs i a before e h read =
    sym (before ∙ ap (read_after refused ys) (part_from part each step xs i a Unread e h read) ∙ read_after-unread refused ys (each (drop (i + 1) xs)))
