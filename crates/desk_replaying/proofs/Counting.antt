-- A broker never loses a client.
use Rattle.std.proofs.Common.{◌≡◌, ℕ, zero, suc, ◌+◌, ◌≤◌, ◌<◌, nat_le, Bool, true, false, if◌then◌else◌, inl, inr, List, [], ◌∷◌, length, refl, ap, arith, length-append}
use Rattle.box_core.specs.Mail.{Mail, changed_at, is_no_capacity, fresh, with_request, with_taken, with_kept, with_handed, with_close, with_capacity}
use Rattle.box_core.specs.History.{Event, AddClient, Submit, Take, Answer, Release, Close, Resize, Report, Added, NotAdded, Accepted, Taken, Kept, Handed, Closed, Resized}
use Rattle.box_core.specs.Table.{after, Step, OrMemory}
use Rattle.box_core.specs.declared.faults.AddRefusal.TheVariants as unadded
use Rattle.std.proofs.lemmas.Bool.{leb-false}
use Rattle.dmn_plan.specs.Request.{Request, request_result}
use Rattle.feel_value.specs.declared.feel.Outcome.{Outcome}

length-changed : {A : Type 0} (f : A → A) (xs : List A) (i : ℕ) → length (changed_at f xs i) ≡ length xs
length-changed f [] i = refl
length-changed f (x ∷ xs) zero = refl
length-changed f (x ∷ xs) (suc i) = ap suc (length-changed f xs i)

same_length : (mails : List (Mail Request Outcome)) (f : Mail Request Outcome → Mail Request Outcome) (i : ℕ) → length mails ≤ length (changed_at f mails i)
same_length mails f i = omega (arith, length-changed f mails i)

length-after : (mails : List (Mail Request Outcome)) (e : Event Request) (r : Report Request Outcome)
    → length mails ≤ length (after (λ (q : Request). q) request_result mails e r)
length-after mails (AddClient n) (Added c) = omega (arith, length-append mails (fresh 0 n ∷ []))
length-after mails (Submit c work) (Accepted t) = same_length mails (with_request work false) c
length-after mails (Take c t) (Taken job) = same_length mails (with_taken t) c
length-after mails (Answer c done) Kept = same_length mails (with_kept (request_result done.work) done.ticket) c
length-after mails (Release c) (Handed t outcome) = same_length mails with_handed c
length-after mails (Close c) Closed = same_length mails with_close c
length-after mails (Resize c n) (Resized given) = same_length mails (with_capacity n) c
length-after mails e r = omega arith

pub still_counted : (names : ℕ) (old : List (Mail Request Outcome)) (e : Event Request) (r : Report Request Outcome) (new : List (Mail Request Outcome))
    → Step (λ (q : Request). q) request_result old e r new → names ≤ length old → names ≤ length new
still_counted names old e r new step counted = omega (arith, counted, length-after old e r, ap length step.left)

pub added_counted : (names : ℕ) (old : List (Mail Request Outcome)) (n c : ℕ) (new : List (Mail Request Outcome))
    → Step (λ (q : Request). q) request_result old (AddClient n) (Added c) new → names ≤ length old → names + 1 ≤ length new
added_counted names old n c new step counted = omega (arith, counted, length-append old (fresh 0 n ∷ []), ap length step.left)

added_where : (b many : Bool) (k c : ℕ) → OrMemory {W = Request} {O = Outcome} (if b then NotAdded unadded.Capacity else (if many then NotAdded unadded.Many else Added k)) (Added c) → many ≡ false
added_where true many k c (inl e) = let wrong : ⊥ = cc in absurd wrong
added_where true many k c (inr e) = let wrong : ⊥ = cc in absurd wrong
added_where false true k c (inl e) = let wrong : ⊥ = cc in absurd wrong
added_where false true k c (inr e) = let wrong : ⊥ = cc in absurd wrong
added_where false false k c h = refl

-- a client is added only where there are fewer than 64
pub added_few : (names : ℕ) (old : List (Mail Request Outcome)) (n c : ℕ) (new : List (Mail Request Outcome))
    → Step (λ (q : Request). q) request_result old (AddClient n) (Added c) new → names ≤ length old → names + 1 ≤ 64
added_few names old n c new step counted =
    let below : length old < 64 = leb-false 64 (length old) (added_where (is_no_capacity n) (nat_le 64 (length old)) (length old) c step.reported) in
    omega (arith, below, counted)
