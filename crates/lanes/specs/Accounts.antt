-- Internal but for `is_open`, `works_of`, `taken_of` and `all_true`: what a client's mailbox has of the requests that were put.
use Rattle.std.specs.Prelude.{◌≡◌, ◌≢◌, ℕ, ◌+◌, ◌<◌, Bool, true, false, All, List, [], ◌∷◌, length, map, slice_get, Option, Some, None, is_some, if◌then◌else◌}
use Rattle.box_core.specs.Answer.{Ticketed}
use Rattle.box_core.specs.Mail.{Mail, Place, open_in}

module _ {W O : Type 0} where
  -- whether the ticket was accepted, and no answer for it was kept
  abbrev pub is_open : Mail W O → ℕ → Bool
  is_open mail ticket = is_some (open_in mail ticket)

  -- the works of outstanding requests, in order
  abbrev pub works_of : List (Place W O) → List W
  works_of places = map (λ place. place.work) places

  -- whether each request counts as taken
  abbrev pub taken_of : List (Place W O) → List Bool
  taken_of places = map (λ place. place.taken) places

  -- as many yeses
  abbrev pub all_true : List (Place W O) → List Bool
  all_true places = map (λ _. true) places

  -- how many outcomes are kept
  abbrev pub kept_count : List (Place W O) → ℕ
  kept_count [] = 0
  kept_count (place ∷ places) = (if is_some place.kept then 1 else 0) + kept_count places

-- what is kept, if anything
abbrev pub kept_or : {O : Type 0} → O → Option O → O
kept_or outcome None = outcome
kept_or outcome (Some kept) = kept

module _ {W R O : Type 0} (request : W → R) (result_of : R → O) where
  -- the results of the requests, in order
  abbrev pub results_of : List (Place W O) → List O
  results_of places = map (λ place. result_of (request place.work)) places

  -- the same, with what is kept in place of a result
  abbrev pub kept_of : List (Place W O) → List O
  kept_of places = map (λ place. kept_or (result_of (request place.work)) place.kept) places

module _ {W R O : Type 0} (request : W → R) where
  -- an answer that came is for a ticket that was given, and where it is for the request that was put under it, the ticket is not open any more
  abbrev pub IsCredited : List (Ticketed W) → Mail W O → Ticketed W → Type 0
  IsCredited put mail x = (x.ticket < length put) × ((y : Ticketed W) → slice_get put x.ticket ≡ Some y → request x.work ≡ request y.work → is_open mail x.ticket ≡ false)

module _ {W O : Type 0} where
  -- each ticket that is not open had an answer among those that came
  abbrev pub AreAccounted : List (Ticketed W) → Mail W O → List (Ticketed W) → Type 0
  AreAccounted put mail came = (t : ℕ) → t < length put → is_open mail t ≡ false → ¬ All (λ x. x.ticket ≢ t) came
