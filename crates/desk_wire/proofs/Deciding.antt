-- What can be decided: whether a JSON value is of a form, and how a line of an input is read.
use Rattle.std.proofs.Common.{◌≡◌, ◌≢◌, ◌⊎◌, inl, inr, ℕ, ◌<◌, ◌≤◌, ◌^◌, nat_le, nat_lt, Bool, true, false, true≢false, List, [], length, Option, Some, None, arith, refl, sym, ap, subst, ◌∙◌}
use Rattle.std.specs.Prelude.{bytes_eq}
use Rattle.std.specs.Bool.{Decides}
use Rattle.std.specs.Str.{IsUtf8, is_utf8}
use Rattle.std.proofs.lemmas.Str.{IsUtf8-from_is_utf8, is_utf8-from_IsUtf8}
use Rattle.std.proofs.lemmas.Bool.{leb-true, leb-false, ltb-true, ltb-false}
use Rattle.std.proofs.lemmas.Slice.Eq.{bytes_eq-Decides}
use Rattle.serde_json.specs.Data.{Data, null, boolean, number, string, array, object, Members, no_members, member, unsigned, negative, float}
use Rattle.serde_json.specs.Read.{read}
use Rattle.desk_lines.specs.Lines.{max_line}
use Rattle.desk_wire.specs.Parts.{IsName, IsTicket, IsObject}
use Rattle.desk_wire.specs.Reading.{Reading, ReadsAs, Blank, Long, Syntax, Shape, Says, is_blank}

-- it is so, or it is not
abbrev pub Decision : Type 0 → Type 0
Decision P = P ⊎ (P → ⊥)

decided_by : {P : Type 0} (b : Bool) → Decides b P → Decision P
decided_by true d = inl (d.0 refl)
decided_by false d = inr (λ p. true≢false (sym (d.1 p)))

pub by_turns : {P Q : Type 0} → (P → Q) → (Q → P) → Decision P → Decision Q
by_turns f g (inl p) = inl (f p)
by_turns f g (inr n) = inr (λ q. n (g q))

pub both : {P Q : Type 0} → Decision P → Decision Q → Decision (P × Q)
both (inl p) (inl q) = inl (p, q)
both (inl p) (inr n) = inr (λ pq. n pq.1)
both (inr n) q = inr (λ pq. n pq.0)

yes : Decision (Unit {0})
yes = inl tt

-- ---- texts and numbers

same_text : (s t : List ℕ) → Decision (s ≡ t)
same_text s t = decided_by (bytes_eq s t) (bytes_eq-Decides s t)

pub at_most : (m n : ℕ) → Decision (m ≤ n)
at_most m n = at_most_by (nat_le m n) refl
  where
    at_most_by : (b : Bool) → nat_le m n ≡ b → Decision (m ≤ n)
    at_most_by true e = inl (leb-true m n e)
    at_most_by false e = inr (λ le. let below : n < m = leb-false m n e in omega (arith, below, le))

pub below : (m n : ℕ) → Decision (m < n)
below m n = below_by (nat_lt m n) refl
  where
    below_by : (b : Bool) → nat_lt m n ≡ b → Decision (m < n)
    below_by true e = inl (ltb-true m n e)
    below_by false e = inr (λ lt. let above : n ≤ m = ltb-false m n e in omega (arith, above, lt))

pub is_name : (s : List ℕ) → Decision (IsName s)
is_name s = both (at_most 1 (length s)) (at_most (length s) 64)

-- ---- JSON values

module _ {P : List ℕ → Type 0} (decide : (s : List ℕ) → Decision (P s)) where
  pub is_string : (d : Data) → Decision ((s : List ℕ) × (d ≡ string s) × P s)
  is_string (string s) = by_turns (λ p. (s, refl, p)) (λ q. subst P (sym (ap text_in q.1)) q.2) (decide s)
    where
      text_in : Data → List ℕ
      text_in (string t) = t
      text_in _ = []
  is_string null = inr (λ q. cc)
  is_string (boolean b) = inr (λ q. cc)
  is_string (number n) = inr (λ q. cc)
  is_string (array ds) = inr (λ q. cc)
  is_string (object ms) = inr (λ q. cc)

module _ {P : ℕ → Type 0} (decide : (n : ℕ) → Decision (P n)) where
  pub is_unsigned : (d : Data) → Decision ((n : ℕ) × (d ≡ number (unsigned n)) × P n)
  is_unsigned (number (unsigned n)) = by_turns (λ p. (n, refl, p)) (λ q. subst P (sym (ap number_in q.1)) q.2) (decide n)
    where
      number_in : Data → ℕ
      number_in (number (unsigned m)) = m
      number_in _ = 0
  is_unsigned (number (negative z)) = inr (λ q. cc)
  is_unsigned (number (float x)) = inr (λ q. cc)
  is_unsigned null = inr (λ q. cc)
  is_unsigned (boolean b) = inr (λ q. cc)
  is_unsigned (string s) = inr (λ q. cc)
  is_unsigned (array ds) = inr (λ q. cc)
  is_unsigned (object ms) = inr (λ q. cc)

module _ {P : Members → Type 0} (decide : (ms : Members) → Decision (P ms)) where
  pub is_object : (d : Data) → Decision ((ms : Members) × (d ≡ object ms) × P ms)
  is_object (object ms) = by_turns (λ p. (ms, refl, p)) (λ q. subst P (sym (ap members_in q.1)) q.2) (decide ms)
    where
      members_in : Data → Members
      members_in (object xs) = xs
      members_in _ = no_members
  is_object null = inr (λ q. cc)
  is_object (boolean b) = inr (λ q. cc)
  is_object (string s) = inr (λ q. cc)
  is_object (number n) = inr (λ q. cc)
  is_object (array ds) = inr (λ q. cc)

pub is_end : (ms : Members) → Decision (ms ≡ no_members)
is_end no_members = inl refl
is_end (member k d ms) = inr (λ q. cc)

abbrev first_key : Members → List ℕ
first_key (member k d ms) = k
first_key no_members = []

abbrev first_value : Members → Data
first_value (member k d ms) = d
first_value no_members = null

abbrev later : Members → Members
later (member k d ms) = ms
later no_members = no_members

-- the first member has this key, a value that is so, and members behind it that are so
module _ (key : List ℕ) {P : Data → Type 0} {Q : Members → Type 0} (value : (d : Data) → Decision (P d)) (rest : (ms : Members) → Decision (Q ms)) where
  abbrev pub Begins : Members → Type 0
  Begins ms = (d : Data) × (others : Members) × (ms ≡ member key d others) × P d × Q others

  begins_with : (k : List ℕ) (d : Data) (ms : Members) → Decision (k ≡ key) → Decision (P d) → Decision (Q ms) → Decision (Begins (member k d ms))
  begins_with k d ms (inl e) (inl p) (inl q) = inl (d, ms, ap (λ l. member l d ms) e, p, q)
  begins_with k d ms (inr n) p q = inr (λ b. n (ap first_key b.2))
  begins_with k d ms (inl e) (inr n) q = inr (λ b. n (subst P (sym (ap first_value b.2)) b.3))
  begins_with k d ms (inl e) (inl p) (inr n) = inr (λ b. n (subst Q (sym (ap later b.2)) b.4))

  pub begins : (ms : Members) → Decision (Begins ms)
  begins no_members = inr (λ b. cc)
  begins (member k d ms) = begins_with k d ms (same_text k key) (value d) (rest ms)

-- ---- the parts of lines

pub is_any : (d : Data) → Decision (Unit {0})
is_any d = yes

pub is_ticket : (n : ℕ) → Decision (IsTicket n)
is_ticket n = below n (2 ^ 63)

pub is_capacity : (n : ℕ) → Decision (n < 2 ^ 32)
is_capacity n = below n (2 ^ 32)

pub is_inputs : (d : Data) → Decision (IsObject d)
is_inputs (object ms) = inl (ms, refl)
is_inputs null = inr (λ q. cc)
is_inputs (boolean b) = inr (λ q. cc)
is_inputs (string s) = inr (λ q. cc)
is_inputs (number n) = inr (λ q. cc)
is_inputs (array ds) = inr (λ q. cc)

-- the forms: an object of a name; of a name and a number, in one order or the other
module _ (key : List ℕ) where
  pub is_named : (d : Data) → Decision ((name : List ℕ) × (object (member key (string name) no_members) ≡ d) × IsName name)
  is_named d =
      by_turns
      (λ q. let e = q.1 in let f = q.2.2 in let g = q.2.3.1 in let h = q.2.4 in (q.2.3.0, cc, q.2.3.2))
      (λ p. (member key (string p.0) no_members, sym p.1, (string p.0, no_members, refl, (p.0, refl, p.2), refl)))
      (is_object (begins key (is_string is_name) is_end) d)

module _ (first second : List ℕ) {P : ℕ → Type 0} (number? : (n : ℕ) → Decision (P n)) where
  pub is_named_number : (d : Data) → Decision ((a : List ℕ × ℕ) × (object (member first (string a.0) (member second (number (unsigned a.1)) no_members)) ≡ d) × (IsName a.0 × P a.1))
  is_named_number d =
      by_turns
      (λ q. let e = q.1 in let f = q.2.2 in let g = q.2.3.1 in let h = q.2.4.2 in let i = q.2.4.3.1 in let j = q.2.4.4 in
      ((q.2.3.0, q.2.4.3.0), cc, (q.2.3.2, q.2.4.3.2)))
      (λ p. (
        member first (string p.0.0) (member second (number (unsigned p.0.1)) no_members),
        sym p.1,
        (
          string p.0.0,
          member second (number (unsigned p.0.1)) no_members,
          refl,
          (p.0.0, refl, p.2.0),
          (number (unsigned p.0.1), no_members, refl, (p.0.1, refl, p.2.1), refl),
        ),
      ))
      (is_object (begins first (is_string is_name) (begins second (is_unsigned number?) is_end)) d)

  pub is_numbered_name : (d : Data) → Decision ((a : List ℕ × ℕ) × (object (member second (number (unsigned a.1)) (member first (string a.0) no_members)) ≡ d) × (IsName a.0 × P a.1))
  is_numbered_name d =
      by_turns
      (λ q. let e = q.1 in let f = q.2.2 in let g = q.2.3.1 in let h = q.2.4.2 in let i = q.2.4.3.1 in let j = q.2.4.4 in
      ((q.2.4.3.0, q.2.3.0), cc, (q.2.4.3.2, q.2.3.2)))
      (λ p. (
        member second (number (unsigned p.0.1)) (member first (string p.0.0) no_members),
        sym p.1,
        (
          number (unsigned p.0.1),
          member first (string p.0.0) no_members,
          refl,
          (p.0.1, refl, p.2.1),
          (string p.0.0, no_members, refl, (p.0.0, refl, p.2.0), refl),
        ),
      ))
      (is_object (begins second (is_unsigned number?) (begins first (is_string is_name) is_end)) d)

pub any_text : (s : List ℕ) → Decision (Unit {0})
any_text s = yes

-- ---- lines

module _ {L : Type 0} (object_of : L → Data) (IsLawful : L → Type 0) where
  -- the value is a lawful line that these fields make
  abbrev pub IsOf : (A : Type 0) → (A → L) → Data → Type 0
  IsOf A line d = (a : A) × (object_of (line a) ≡ d) × IsLawful (line a)

  abbrev pub IsSome : Data → Type 0
  IsSome d = (line : L) × (object_of line ≡ d) × IsLawful line

  abbrev pub IsNone : Data → Type 0
  IsNone d = (line : L) → IsLawful line → object_of line ≢ d

  -- the first of the tests that says yes tells the line
  pub or_else : {A : Type 0} {d : Data} (line : A → L) → Decision (IsOf A line d) → (((a : A) → IsLawful (line a) → object_of (line a) ≢ d) → IsSome d ⊎ IsNone d) → IsSome d ⊎ IsNone d
  or_else line (inl p) next = inl (line p.0, p.1, p.2)
  or_else line (inr n) next = next (λ a lawful e. n (a, e, lawful))

  -- where it is known of each value which line it is, every text has a reading
  module _ (line_or_none : (d : Data) → IsSome d ⊎ IsNone d) where
    abbrev Read : List ℕ → Type 0
    Read text = (reading : Reading L) × ReadsAs object_of IsLawful text reading

    read_as : (text : List ℕ) (o : Option Data) → read text ≡ o → length text ≤ max_line → is_blank text ≢ true → IsUtf8 text → Read text
    read_as text None e short full utf8 = (Syntax, (short, full, inr e))
    read_as text (Some d) e short full utf8 = by_line (line_or_none d)
      where
        by_line : IsSome d ⊎ IsNone d → Read text
        by_line (inl p) = (Says p.0, (short, full, utf8, e ∙ ap Some (sym p.1), p.2))
        by_line (inr n) = (Shape, (short, full, utf8, (d, e, n)))

    pub reading_of : (text : List ℕ) → (reading : Reading L) × ReadsAs object_of IsLawful text reading
    reading_of text = by_length (at_most (length text) max_line)
      where
        by_bytes : length text ≤ max_line → is_blank text ≢ true → (b : Bool) → is_utf8 text ≡ b → Read text
        by_bytes short full true e = read_as text (read text) refl short full (IsUtf8-from_is_utf8 text e)
        by_bytes short full false e = (Syntax, (short, full, inl (λ utf8. true≢false (sym (is_utf8-from_IsUtf8 text utf8) ∙ e))))

        by_blanks : length text ≤ max_line → (b : Bool) → is_blank text ≡ b → Read text
        by_blanks short true e = (Blank, (short, e))
        by_blanks short false e = by_bytes short (λ blank. true≢false (sym blank ∙ e)) (is_utf8 text) refl

        by_length : Decision (length text ≤ max_line) → Read text
        by_length (inl short) = by_blanks short (is_blank text) refl
        by_length (inr long) = (Long, omega (arith, long))
