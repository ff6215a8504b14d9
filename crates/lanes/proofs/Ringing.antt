-- The rings are looked into, one after another.
use Rattle.std.proofs.Common.{◌≡◌, ℕ, zero, suc, ◌<◌, All, List, [], ◌∷◌, ◌++◌, length, get_or, set, refl, ap, sym, ◌∙◌, subst, append_assoc, arith}
use Rattle.std.specs.Prelude.{IsPermutation}
use Rattle.std.proofs.lemmas.List.Elements.{All-append}
use Rattle.std.proofs.lemmas.List.Sorted.{IsPermutation-refl, IsPermutation-trans, IsPermutation-append_right}
use Rattle.std.specs.declared.alloc.Global.{Global}
use Rattle.rtrb.specs.Ring.{received, SameConsumer}
use Rattle.rtrb.specs.declared.consumer.Consumer.{Consumer}
use Rattle.rtrb.specs.declared.AnyItems.{AnyItems}
use Rattle.box_core.specs.Answer.{Ticketed}
use Rattle.box_core.specs.Mail.{Mail, accepted_in}
use Rattle.lanes.specs.Joined.{received_of}
use Rattle.lanes.specs.Identities.{ring_of, ring_links}
use Rattle.lanes.specs.Polls.{TakenIn}
use Rattle.lanes.proofs.Carried.{over}
use Rattle.lanes.proofs.Crossing.{none}
use Rattle.lanes.proofs.Taking.{taken_append}

module _ {T : Type 0} where
  -- more came out of one ring
  pub came_more : (rings : List (Consumer T Global AnyItems)) (i : ℕ) (r r' : Consumer T Global AnyItems) (more : List T) → i < length rings → r ≡ get_or rings i r → received r' ≡ received r ++ more
      → IsPermutation (received_of (set rings i r')) (more ++ received_of rings)
  came_more [] i r r' more h is e = absurd (omega (arith, h))
  came_more (s ∷ rings) zero r r' more h is e =
      let first : received r' ≡ received s ++ more = e ∙ ap (λ (x : Consumer T Global AnyItems). received x ++ more) is in
      let whole : received r' ++ received_of rings ≡ received s ++ (more ++ received_of rings) = ap (λ l. l ++ received_of rings) first ∙ append_assoc (received s) more (received_of rings) in
      subst (λ l. IsPermutation l (more ++ (received s ++ received_of rings))) (sym whole) (over (received s) more (received_of rings))
  came_more (s ∷ rings) (suc i) r r' more h is e =
      IsPermutation-trans (received s ++ received_of (set rings i r')) (received s ++ (more ++ received_of rings)) (more ++ (received s ++ received_of rings))
      (IsPermutation-append_right (received s) (received_of (set rings i r')) (more ++ received_of rings) (came_more rings i r r' more (omega (arith, h)) is e)) (over (received s) more (received_of rings))

  ring_same : (r r' : Consumer T Global AnyItems) → SameConsumer r r' → ring_of r' ≡ ring_of r
  ring_same r r' s = λ i. (s.0.0 i, (s.0.1 i, (s.0.2 i, s.0.3 i)))

  pub rings_same : (rings : List (Consumer T Global AnyItems)) (i : ℕ) (r r' : Consumer T Global AnyItems) → i < length rings → r ≡ get_or rings i r → SameConsumer r r' → ring_links (set rings i r') ≡ ring_links rings
  rings_same [] i r r' h is s = refl
  rings_same (x ∷ rings) zero r r' h is s = (let e = ring_same r r' s ∙ ap (λ (y : Consumer T Global AnyItems). ring_of y) is in ap (λ l. l ∷ ring_links rings) e)
  rings_same (x ∷ rings) (suc i) r r' h is s = ap (λ l. ring_of x ∷ l) (rings_same rings i r r' (omega (arith, h)) is s)

module _ {W R O : Type 0} (request : W → R) (result_of : R → O) where
  -- What stands at the loop's head.
  pub record Ringing (old new : List (Consumer (Ticketed W) Global AnyItems)) (mail0 mail : Mail W O) : Type 0 where
    pub more : List (Ticketed W)
    pub came : IsPermutation (received_of new) (more ++ received_of old)
    pub taken : TakenIn request result_of mail0 more mail
    pub below : All (λ x. x.ticket < accepted_in mail0) more
    pub links : ring_links new ≡ ring_links old
    pub count : accepted_in mail ≡ accepted_in mail0

  pub ringing_none : (rings : List (Consumer (Ticketed W) Global AnyItems)) (mail : Mail W O) → Ringing rings rings mail mail
  ringing_none rings mail = record { more = []; came = IsPermutation-refl (received_of rings); taken = refl; below = none (λ (x : Ticketed W). x.ticket < accepted_in mail); links = refl; count = refl }

  pub ringing_step : (old rings : List (Consumer (Ticketed W) Global AnyItems)) (mail0 mail mail' : Mail W O) (i : ℕ) (r r' : Consumer (Ticketed W) Global AnyItems) (m : List (Ticketed W))
      → Ringing old rings mail0 mail → i < length rings → r ≡ get_or rings i r → SameConsumer r r' → received r' ≡ received r ++ m → TakenIn request result_of mail m mail'
      → All (λ x. x.ticket < accepted_in mail) m → accepted_in mail' ≡ accepted_in mail → Ringing old (set rings i r') mail0 mail'
  ringing_step old rings mail0 mail mail' i r r' m h inside is same got taken below count = record {
    more = h.more ++ m;
    came =
        let one : IsPermutation (received_of (set rings i r')) (m ++ received_of rings) = came_more rings i r r' m inside is got in
        let two : IsPermutation (m ++ received_of rings) (m ++ (h.more ++ received_of old)) = IsPermutation-append_right m (received_of rings) (h.more ++ received_of old) h.came in
        let three : IsPermutation (m ++ (h.more ++ received_of old)) (h.more ++ (m ++ received_of old)) = over m h.more (received_of old) in
        subst (λ l. IsPermutation (received_of (set rings i r')) l) (sym (append_assoc h.more m (received_of old)))
        (IsPermutation-trans (received_of (set rings i r')) (m ++ received_of rings) (h.more ++ (m ++ received_of old)) one
        (IsPermutation-trans (m ++ received_of rings) (m ++ (h.more ++ received_of old)) (h.more ++ (m ++ received_of old)) two three));
    taken = taken_append request result_of mail0 mail mail' h.more m h.taken taken;
    below = All-append (λ x. x.ticket < accepted_in mail0) h.more m h.below (subst (λ n. All (λ (x : Ticketed W). x.ticket < n) m) h.count below);
    links = rings_same rings i r r' inside is same ∙ h.links;
    count = count ∙ h.count;
  }
