-- What came of an input, and what is left of it.
use Rattle.std.proofs.Common.{◌≡◌, ℕ, ◌+◌, ◌-◌, ◌<◌, ◌≤◌, List, [], ◌∷◌, ◌++◌, length, take, drop, slice_range, refl, ap, sym, ◌∙◌, arith, append_assoc, Option, Some, None, append-nil, length-append, length-take-le, subst}
use Rattle.std.proofs.lemmas.List.Concat.{flat_map-append}
use Rattle.std.specs.Io.KnownBytes.{Consumes, IsAtEnd, Keeps, prepend_known}
use Rattle.desk_lines.specs.Ahead.{bytes_in, bytes_of, Comes, Follows, Reaches, piece_bytes}
use Rattle.desk_lines.specs.declared.given.Given.{Given}
use Rattle.desk_lines.specs.declared.given.Given.TheVariants.{Bytes, End, Fault}

pub consumes_then : (a b c : Option (List ℕ)) (xs ys : List ℕ) → Consumes a b xs → Consumes b c ys → Consumes a c (xs ++ ys)
consumes_then None b c xs ys h k = tt
consumes_then (Some us) None c xs ys h k = absurd h
consumes_then (Some us) (Some vs) None xs ys h k = absurd k
consumes_then (Some us) (Some vs) (Some ws) xs ys h k = rw append_assoc (h ∙ ap (λ t. xs ++ t) k)

pub consumes_kept : (a b : Option (List ℕ)) → Keeps a b → Consumes a b []
consumes_kept None b h = tt
consumes_kept (Some xs) None h = absurd h
consumes_kept (Some xs) (Some ys) h = sym h

pub bytes_of-more : (before : List Given) (given : Given) → bytes_of (before ++ given ∷ []) ≡ bytes_of before ++ bytes_in given
bytes_of-more before given = flat_map-append bytes_in before (given ∷ []) ∙ ap (λ t. bytes_of before ++ t) (append-nil (bytes_in given))

-- what comes of the rest comes of the whole
pub comes_behind : (input left : Option (List ℕ)) (came : List ℕ) (given : Given) → Consumes input left came → Comes left [] given → Comes input came given
comes_behind input left came (Bytes piece) h k = (k.0, consumes_then input left k.0 came (piece_bytes piece) h k.1, k.2)
comes_behind input left came End h k = (k.0, subst (λ t. Consumes input k.0 t) (append-nil came) (consumes_then input left k.0 came [] h k.1), k.2)
comes_behind input left came Fault h k = tt

-- the front of a buffer
pub first_of : (n : ℕ) (buffer : List ℕ) → slice_range buffer 0 n ≡ take n buffer
first_of n buffer = let same : n - 0 ≡ n = omega arith in ap (λ k. take k buffer) same

-- what was read to the front of a buffer came
pub piece_taken : (left left' : Option (List ℕ)) (n : ℕ) (buffer items : List ℕ) → items ≡ buffer → Consumes left left' (take n buffer) → Consumes left left' (slice_range items 0 n)
piece_taken left left' n buffer items is h = rw is (subst (λ l. Consumes left left' l) (sym (first_of n buffer)) h)

pub piece_comes : (left left' : Option (List ℕ)) (n : ℕ) (buffer items : List ℕ) → items ≡ buffer → n ≤ length buffer → 0 < n → Consumes left left' (take n buffer)
    → (x : Option (List ℕ)) × Consumes left x (slice_range items 0 n) × (0 < length (slice_range items 0 n))
piece_comes left left' n buffer items is within some h =
    rw is (left', subst (λ l. Consumes left left' l) (sym (first_of n buffer)) h, omega (arith, ap length (first_of n buffer), length-take-le n buffer within, some))

pub follows_there : (input left : Option (List ℕ)) (before : List Given) (given : Given) → Reaches input left before → Comes left [] given → Follows input before given
follows_there input left before given h k = comes_behind input left (bytes_of before) given h k

pub reaches_more : (input left left' : Option (List ℕ)) (before : List Given) (given : Given) → Reaches input left before → Consumes left left' (bytes_in given) → Reaches input left' (before ++ given ∷ [])
reaches_more input left left' before given h k = rw (bytes_of-more before given) (consumes_then input left left' (bytes_of before) (bytes_in given) h k)

pub reaches_start : (input left : Option (List ℕ)) (before : List Given) → left ≡ input → before ≡ [] → Reaches input left before
reaches_start None left before h k = tt
reaches_start (Some xs) left before h k = rw (h, k) refl
