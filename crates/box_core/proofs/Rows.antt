-- The table at worked histories. A work is the number asked for, and its result is the next number.
use Rattle.std.proofs.Common.{◌≡◌, ℕ, ◌+◌, [], ◌∷◌, ◌++◌, Some, inl, inr, refl, false, arith}
use Rattle.box_core.specs.Answer.{Ticketed}
use Rattle.box_core.specs.History.{AddClient, Submit, Take, Answer, Release, Close, Resize, Added, NotAdded, Accepted, Taken, Kept, Strange, Repeated, Handed, Nothing, Closed, Resized, Refused, History, capacity, accepted, handed, state}
use Rattle.box_core.specs.Table.{Reports, Legal}
use Rattle.box_core.specs.declared.faults.Refusal.TheVariants as refusal
use Rattle.box_core.specs.declared.faults.AddRefusal.TheVariants as unadded

abbrev asked : ℕ → ℕ
asked n = n

abbrev next : ℕ → ℕ
next n = n + 1

abbrev for_ticket : ℕ → ℕ → Ticketed ℕ
for_ticket t n = record { ticket = t; work = n }

-- two requests, both taken
abbrev two_taken : History ℕ ℕ
two_taken = (AddClient 2, Added 0) ∷ (Submit 0 1, Accepted 0) ∷ (Submit 0 2, Accepted 1) ∷ (Take 0 0, Taken (for_ticket 0 1)) ∷ (Take 0 1, Taken (for_ticket 1 2)) ∷ []

-- answered out of order
abbrev answered : History ℕ ℕ
answered = two_taken ++ (Answer 0 (for_ticket 1 2), Kept) ∷ (Release 0, Nothing) ∷ (Answer 0 (for_ticket 0 1), Kept) ∷ (Release 0, Handed 0 2) ∷ (Release 0, Handed 1 3) ∷ (Release 0, Nothing) ∷ []

answered_legal : Legal asked next answered
answered_legal = (inl refl, (refl, (refl, (inl refl, (inl refl, (inl (refl, refl), (refl, (inl (refl, refl), (refl, (refl, (refl, tt)))))))))))

answered_handed : handed answered 0 ≡ 2 ∷ 3 ∷ []
answered_handed = refl

answered_accepted : accepted answered 0 ≡ 1 ∷ 2 ∷ []
answered_accepted = refl

answered_state : state next answered ≡ record { capacity = 2; closed = false; handed = 2; outstanding = [] } ∷ []
answered_state = refl

-- full, with as many outstanding as the capacity
full : Reports asked next two_taken (Submit 0 3) (Refused refusal.Full)
full = refl

-- closed comes before full
closed_first : Reports asked next (two_taken ++ (Close 0, Closed) ∷ []) (Submit 0 3) (Refused refusal.Closed)
closed_first = refl

-- what is taken is not taken again, though memory may be refused for the first
taken_once : Reports asked next two_taken (Take 0 0) (Refused refusal.NotWaiting)
taken_once = inl refl

-- an answer for a ticket that was never accepted, for another request, and again
never_accepted : Reports asked next two_taken (Answer 0 (for_ticket 7 1)) Strange
never_accepted = refl

another_request : Reports asked next two_taken (Answer 0 (for_ticket 0 9)) Strange
another_request = inr ((λ e. omega (arith, e)), refl)

again : Reports asked next answered (Answer 0 (for_ticket 0 9)) Repeated
again = refl

-- clients
no_client : Reports asked next two_taken (Release 1) (Refused refusal.NoClient)
no_client = refl

is_no_capacity : Reports asked next two_taken (AddClient 4097) (NotAdded unadded.Capacity)
is_no_capacity = inl refl

another_client : Reports asked next two_taken (AddClient 4096) (Added 1)
another_client = inl refl

-- changes of the capacity
abbrev widened : History ℕ ℕ
widened = two_taken ++ (Resize 0 3, Resized 3) ∷ []

widened_capacity : capacity widened 0 ≡ Some 3
widened_capacity = refl

widened_legal : Reports asked next two_taken (Resize 0 3) (Resized 3)
widened_legal = inl refl

room_again : Reports asked next widened (Submit 0 3) (Accepted 2)
room_again = refl

small : Reports asked next two_taken (Resize 0 1) (Refused refusal.Small)
small = inl refl

no_new_capacity : Reports asked next two_taken (Resize 0 4097) (Refused refusal.Capacity)
no_new_capacity = inl refl

closed_before_capacity : Reports asked next (two_taken ++ (Close 0, Closed) ∷ []) (Resize 0 0) (Refused refusal.Closed)
closed_before_capacity = inl refl

no_memory_for_another : Reports asked next two_taken (Resize 0 3) (Refused refusal.Memory)
no_memory_for_another = inr ((λ e. omega (arith, e)), refl)
