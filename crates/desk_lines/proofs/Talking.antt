-- Lines that were answered so far.
use Rattle.std.proofs.Common.{◌≡◌, ℕ, ◌+◌, ◌-◌, ◌<◌, ◌≤◌, List, [], ◌∷◌, ◌++◌, length, take, refl, ap, sym, ◌∙◌, arith, append_assoc, append-nil, length-append, Option, Some, ◌≢◌, Result, Ok, Err, IfOk, IfErr, OnOk, inl, inr, IsTrue, ◌↔◌, true, false, Bool, ◌^◌, subst}
use Rattle.std.specs.List.{flat_map}
use Rattle.std.specs.Io.KnownBytes.{Consumes, Appends}
use Rattle.std.proofs.lemmas.Grind.{flat_map-append}
use Rattle.desk_lines.specs.Lines.{newline, kept_line, heard, max_input, IsOneLine, ended, Splits, lines_of, whole_lines_of}
use Rattle.desk_lines.specs.declared.fault.FrontFault.{FrontFault}
use Rattle.desk_lines.specs.declared.fault.FrontFault.TheVariants.{Read, Write, Long, Memory}
use Rattle.desk_lines.specs.declared.lines.Next.TheVariants.{Line, Last, End, Open}
use Rattle.desk_lines.specs.Answering.{SaysInPart, SaysMore}
use Rattle.desk_lines.specs.Gathers.{Gathers, Ended}
use Rattle.desk_lines.specs.LineReader.{Comes, IsInStep, Took}
use Rattle.desk_lines.specs.Talk.{IsHeard, Replays, IsCut, Stops, EndsAs}
use Rattle.std.proofs.lemmas.List.{length-take, take_all}
use Rattle.desk_lines.proofs.Coming.{Consumes-none, Comes-then, heard-append}
use Rattle.desk_lines.proofs.Gathering.{gathers_none, gathers_then, gathers_quiet, all_written}
use Rattle.desk_lines.proofs.Splitting.{Splits-line, lines_of-ended, lines_of-last, whole_lines_of-ended, whole_lines_of-rest}

-- how far the input is answered

pub record Progress (After : List (List ℕ) → List (List ℕ) → Type 0) (left left' wrote wrote' : Option (List ℕ)) (came : ℕ) (rest waits : List ℕ) (number : ℕ) : Type 0 where
  pub bytes : List ℕ
  pub done : List (List ℕ)
  pub said : List (List ℕ)
  pub comes : Comes left left' 0 came bytes
  pub splits : Splits (heard 0 bytes) done rest
  pub stands : After done said
  pub gathers : Gathers wrote wrote' [] (flat_map ended said) waits
  pub counted : number ≡ length done + 1

pub progress_start : (After : List (List ℕ) → List (List ℕ) → Type 0) (left wrote : Option (List ℕ)) (came : ℕ) (rest waits : List ℕ) → After [] [] → came ≡ 0 → rest ≡ [] → waits ≡ []
    → Progress After left left wrote wrote came rest waits 1
progress_start After left wrote came rest waits h e f w = record {
  bytes = [];
  done = [];
  said = [];
  comes = record { taken = Consumes-none left; count = rw e (omega arith) };
  splits = record { is = rw f refl; each = tt };
  stands = h;
  gathers = rw w (gathers_none wrote []);
  counted = omega arith;
}

heard_all : (bytes : List ℕ) → length bytes ≤ max_input → heard 0 bytes ≡ bytes
heard_all bytes h = take_all (max_input - 0) bytes (omega arith)

module _ {After : List (List ℕ) → List (List ℕ) → Type 0} {left left' wrote wrote' : Option (List ℕ)} {came : ℕ} {rest waits : List ℕ} {number : ℕ} where
  -- the text so far, and what comes
  progress_text : (p : Progress After left left' wrote wrote' came rest waits number) (bytes : List ℕ)
      → Splits (heard 0 (p.bytes ++ bytes)) p.done (rest ++ heard came bytes)
  progress_text p bytes = record {
    is =
        let more : heard (0 + length p.bytes) bytes ≡ heard came bytes = ap (λ n. heard n bytes) (sym p.comes.count) in
        heard-append 0 p.bytes bytes ∙ ap (λ t. heard 0 p.bytes ++ t) more ∙ ap (λ t. t ++ heard came bytes) p.splits.is
        ∙ append_assoc (flat_map ended p.done) rest (heard came bytes);
    each = p.splits.each;
  }

  -- the whole lines so far
  progress_lines : (p : Progress After left left' wrote wrote' came rest waits number) (bytes : List ℕ)
      → whole_lines_of (take max_input (p.bytes ++ bytes)) ≡ p.done ++ whole_lines_of (rest ++ heard came bytes)
  progress_lines p bytes =
      let s = progress_text p bytes in
      ap whole_lines_of s.is ∙ whole_lines_of-ended p.done (rest ++ heard came bytes) s.each

  -- what is said and written before more is read
  pub progress_caught : {After' : List (List ℕ) → List (List ℕ) → Type 0} {wrote'' : Option (List ℕ)} {waits' : List ℕ} → Progress After left left' wrote wrote' came rest waits number
      → SaysMore After After' wrote' wrote'' waits waits' → Progress After' left left' wrote wrote'' came rest waits' number
  progress_caught {After'} {wrote''} {waits'} p s =
      let m = s p.done p.said p.stands in
      let g : Gathers wrote wrote'' [] (flat_map ended p.said ++ flat_map ended m.0) waits' = gathers_then p.gathers m.2 in
      record {
        bytes = p.bytes;
        done = p.done;
        said = p.said ++ m.0;
        comes = p.comes;
        splits = p.splits;
        stands = m.1;
        gathers = rw (flat_map-append ended p.said m.0) g;
        counted = p.counted;
      }

module _ (Script : List (List ℕ) → List (List ℕ) → Type 0) {After : List (List ℕ) → List (List ℕ) → Type 0} {left left' left'' wrote wrote' : Option (List ℕ)} {came came'' : ℕ} {rest waits : List ℕ} {number : ℕ} where
  pub progress_end : (p : Progress After left left' wrote wrote' came rest waits number) (bytes : List ℕ) (rest'' : List ℕ) (kept : Option (List ℕ))
      → Comes left' left'' came came'' bytes → Took End (rest ++ heard came bytes) rest'' kept left'' → came'' ≤ max_input
      → ((lines said : List (List ℕ)) → After lines said → Script lines said)
      → Replays Script left left'' (Some []) (Some (flat_map ended p.said))
  progress_end p bytes rest'' kept h took short follows =
      let all : Comes left left'' 0 came'' (p.bytes ++ bytes) = Comes-then left left' left'' 0 came came'' p.bytes bytes p.comes h in
      let s = progress_text p bytes in
      let size : length (p.bytes ++ bytes) ≤ max_input = omega (arith, all.count) in
      let text : p.bytes ++ bytes ≡ flat_map ended p.done ++ [] = sym (heard_all (p.bytes ++ bytes) size) ∙ s.is ∙ ap (λ t. flat_map ended p.done ++ t) took.0 in
      let lines : lines_of (p.bytes ++ bytes) ≡ p.done = ap lines_of text ∙ lines_of-ended p.done [] p.splits.each ∙ append-nil p.done in
      record {
        input = p.bytes ++ bytes;
        output = p.said;
        read = all.taken;
        at_end = took.2;
        within = size;
        written = refl;
        said = rw lines (follows p.done p.said p.stands);
      }

module _ (Whole Part : List (List ℕ) → List (List ℕ) → Type 0) {After : List (List ℕ) → List (List ℕ) → Type 0} {left left' left'' wrote wrote' : Option (List ℕ)} {came came'' : ℕ} {rest waits : List ℕ} {number : ℕ} where
  -- the reader failed, or more came than may, or memory was refused
  pub progress_lost : (p : Progress After left left' wrote wrote' came rest waits number) (e : FrontFault) (bytes : List ℕ)
      → Comes left' left'' came came'' bytes → (e ≢ Memory → IsOneLine (rest ++ heard came bytes))
      → (e ≢ Write) → (e ≡ Read → came'' ≤ max_input) → (e ≡ Long → max_input < came'')
      → ((lines said : List (List ℕ)) → After lines said → Whole lines said)
      → ((lines said : List (List ℕ)) → After lines said → Part lines said)
      → EndsAs Whole Part left left'' (Some []) (Some (flat_map ended p.said)) e
  progress_lost p Read bytes h one other short long follows part =
      let all : Comes left left'' 0 came'' (p.bytes ++ bytes) = Comes-then left left' left'' 0 came came'' p.bytes bytes p.comes h in
      let size : length (p.bytes ++ bytes) ≤ max_input = let c = short refl in omega (arith, all.count) in
      let whole : IsOneLine (rest ++ heard came bytes) = one (λ e. cc) in
      let lines : whole_lines_of (p.bytes ++ bytes) ≡ p.done =
      ap whole_lines_of (sym (heard_all (p.bytes ++ bytes) size)) ∙ progress_lines p bytes
      ∙ ap (λ t. p.done ++ t) (whole_lines_of-rest (rest ++ heard came bytes) whole) ∙ append-nil p.done in
      record {
        input = p.bytes ++ bytes;
        output = p.said;
        read = all.taken;
        within = size;
        written = refl;
        said = rw lines (follows p.done p.said p.stands);
      }
  progress_lost p Long bytes h one other short long follows part =
      let all : Comes left left'' 0 came'' (p.bytes ++ bytes) = Comes-then left left' left'' 0 came came'' p.bytes bytes p.comes h in
      let whole : IsOneLine (rest ++ heard came bytes) = one (λ e. cc) in
      let lines : whole_lines_of (take max_input (p.bytes ++ bytes)) ≡ p.done =
      progress_lines p bytes ∙ ap (λ t. p.done ++ t) (whole_lines_of-rest (rest ++ heard came bytes) whole) ∙ append-nil p.done in
      record {
        input = p.bytes ++ bytes;
        output = p.said;
        read = all.taken;
        too_long = let c = long refl in omega (arith, all.count);
        written = refl;
        said = rw lines (follows p.done p.said p.stands);
      }
  progress_lost p Write bytes h one other short long follows part = absurd (other refl)
  progress_lost p Memory bytes h one other short long follows part =
      let all : Comes left left'' 0 came'' (p.bytes ++ bytes) = Comes-then left left' left'' 0 came came'' p.bytes bytes p.comes h in
      record {
        input = p.bytes ++ bytes;
        lines = whole_lines_of (take max_input (p.bytes ++ bytes));
        answered = p.done;
        unanswered = whole_lines_of (rest ++ heard came bytes);
        output = p.said;
        read = all.taken;
        heard = inl refl;
        splits = progress_lines p bytes;
        written = refl;
        said = part p.done p.said p.stands;
      }

module _ (Script : List (List ℕ) → List (List ℕ) → Type 0) {After : List (List ℕ) → List (List ℕ) → Type 0} {left left' wrote wrote' : Option (List ℕ)} {came : ℕ} {rest waits : List ℕ} {number : ℕ} where
  -- the writer failed before more was read
  pub progress_cut : {wrote'' : Option (List ℕ)} {waits' : List ℕ} → Progress After left left' wrote wrote' came rest waits number → SaysMore After Script wrote' wrote'' waits waits'
      → IsCut Script left left' wrote wrote''
  progress_cut {wrote''} {waits'} q s =
      let p : Progress Script left left' wrote wrote'' came rest waits' number = progress_caught q s in
      record {
        input = p.bytes;
        lines = whole_lines_of (take max_input p.bytes);
        answered = p.done;
        unanswered = whole_lines_of rest;
        output = p.said;
        text = p.gathers.out;
        unsaid = waits';
        read = p.comes.taken;
        heard = inl refl;
        splits = ap whole_lines_of p.splits.is ∙ whole_lines_of-ended p.done rest p.splits.each;
        written = p.gathers.written;
        begins = p.gathers.is;
        said = p.stands;
      }

  -- memory was refused before more was read
  pub progress_held : (Whole : List (List ℕ) → List (List ℕ) → Type 0) {wrote'' : Option (List ℕ)} {waits' : List ℕ} → Progress After left left' wrote wrote' came rest waits number → (e : FrontFault)
      → (e ≢ Read) × (e ≢ Long) → e ≢ Write → (e ≡ Memory → SaysMore After Script wrote' wrote'' waits waits')
      → Ended (λ w w'. EndsAs Whole Script left left' w w' e) wrote wrote'' waits'
  progress_held Whole q Read only other memory = absurd (only.0 refl)
  progress_held Whole q Long only other memory = absurd (only.1 refl)
  progress_held Whole q Write only other memory = absurd (other refl)
  progress_held Whole {wrote''} {waits'} q Memory only other memory =
      let p : Progress Script left left' wrote wrote'' came rest waits' number = progress_caught q (memory refl) in
      record {
        text = flat_map ended p.said;
        gathers = p.gathers;
        ends = record {
          input = p.bytes;
          lines = whole_lines_of (take max_input p.bytes);
          answered = p.done;
          unanswered = whole_lines_of rest;
          output = p.said;
          read = p.comes.taken;
          heard = inl refl;
          splits = ap whole_lines_of p.splits.is ∙ whole_lines_of-ended p.done rest p.splits.each;
          written = refl;
          said = p.stands;
        };
      }

-- the next line of those that were heard, which is kept
pub record First (input : List ℕ) (left : Option (List ℕ)) (done : List (List ℕ)) (kept : Option (List ℕ)) : Type 0 where
  pub lines : List (List ℕ)
  pub line : List ℕ
  pub others : List (List ℕ)
  pub hears : IsHeard input left lines
  pub is : lines ≡ (done ++ line ∷ []) ++ others
  pub keeps : kept ≡ kept_line line

last_lines : (text : List ℕ) → IsOneLine text → 0 < length text → lines_of text ≡ text ∷ []
last_lines [] h k = absurd (omega arith)
last_lines (b ∷ text) h k = lines_of-last b text h

module _ {After : List (List ℕ) → List (List ℕ) → Type 0} {left left' wrote wrote' : Option (List ℕ)} {came : ℕ} {rest waits : List ℕ} {number : ℕ} where
  pub first_line : (p : Progress After left left' wrote wrote' came rest waits number) (left'' : Option (List ℕ)) (bytes rest'' : List ℕ) (kept : Option (List ℕ))
      → Took Line (rest ++ heard came bytes) rest'' kept left'' → First (p.bytes ++ bytes) left'' p.done kept
  first_line p left'' bytes rest'' kept took =
      let s = progress_text p bytes in
      let t : Splits (heard 0 (p.bytes ++ bytes)) (p.done ++ took.0 ∷ []) rest'' =
      Splits-line (heard 0 (p.bytes ++ bytes)) p.done took.0 rest'' (record { is = s.is ∙ ap (λ t. flat_map ended p.done ++ t) took.2; each = s.each }) took.1 in
      record {
        lines = whole_lines_of (take max_input (p.bytes ++ bytes));
        line = took.0;
        others = whole_lines_of rest'';
        hears = inl refl;
        is = ap whole_lines_of t.is ∙ whole_lines_of-ended (p.done ++ took.0 ∷ []) rest'' t.each;
        keeps = took.3;
      }

module _ {After : List (List ℕ) → List (List ℕ) → Type 0} {left left' left'' wrote wrote' : Option (List ℕ)} {came came'' : ℕ} {rest waits : List ℕ} {number : ℕ} where
  last_line : (p : Progress After left left' wrote wrote' came rest waits number) (bytes rest'' : List ℕ) (kept : Option (List ℕ))
      → Comes left' left'' came came'' bytes → Took Last (rest ++ heard came bytes) rest'' kept left'' → came'' ≤ max_input
      → (lines_of (p.bytes ++ bytes) ≡ p.done ++ (rest ++ heard came bytes) ∷ []) × (length (p.bytes ++ bytes) ≤ max_input)
  last_line p bytes rest'' kept h took short =
      let all : Comes left left'' 0 came'' (p.bytes ++ bytes) = Comes-then left left' left'' 0 came came'' p.bytes bytes p.comes h in
      let s = progress_text p bytes in
      let size : length (p.bytes ++ bytes) ≤ max_input = omega (arith, all.count) in (
        ap lines_of (sym (heard_all (p.bytes ++ bytes) size) ∙ s.is)
            ∙ lines_of-ended p.done (rest ++ heard came bytes) p.splits.each
            ∙ ap (λ t. p.done ++ t) (last_lines (rest ++ heard came bytes) took.0 took.1),
        size,
      )

  pub first_of_last : (p : Progress After left left' wrote wrote' came rest waits number) (bytes rest'' : List ℕ) (kept : Option (List ℕ))
      → Comes left' left'' came came'' bytes → Took Last (rest ++ heard came bytes) rest'' kept left'' → came'' ≤ max_input
      → First (p.bytes ++ bytes) left'' p.done kept
  first_of_last p bytes rest'' kept h took short =
      let l = last_line p bytes rest'' kept h took short in
      record {
        lines = lines_of (p.bytes ++ bytes);
        line = rest ++ heard came bytes;
        others = [];
        hears = inr (refl, took.4, l.1);
        is = l.0 ∙ sym (append-nil (p.done ++ (rest ++ heard came bytes) ∷ []));
        keeps = took.3;
      }

module _ (Script : List (List ℕ) → List (List ℕ) → Type 0) {After : List (List ℕ) → List (List ℕ) → Type 0} {left left' left'' wrote wrote' : Option (List ℕ)} {came came'' : ℕ} {rest waits : List ℕ} {number : ℕ} where
  -- memory was refused at a line
  progress_stopped : (p : Progress After left left' wrote wrote' came rest waits number) (bytes : List ℕ) (kept : Option (List ℕ))
      → Comes left' left'' came came'' bytes → (f : First (p.bytes ++ bytes) left'' p.done kept)
      → (done others more : List (List ℕ)) → p.done ++ f.line ∷ [] ≡ done ++ others → Script done (p.said ++ more)
      → Stops Script left left'' (Some []) (Some (flat_map ended (p.said ++ more)))
  progress_stopped p bytes kept h f done others more is script =
      let all : Comes left left'' 0 came'' (p.bytes ++ bytes) = Comes-then left left' left'' 0 came came'' p.bytes bytes p.comes h in
      record {
        input = p.bytes ++ bytes;
        lines = f.lines;
        answered = done;
        unanswered = others ++ f.others;
        output = p.said ++ more;
        read = all.taken;
        heard = f.hears;
        splits = f.is ∙ ap (λ t. t ++ f.others) is ∙ append_assoc done others f.others;
        written = refl;
        said = script;
      }

  pub progress_refused_by : (Whole : List (List ℕ) → List (List ℕ) → Type 0) {wrote'' : Option (List ℕ)} {waits'' : List ℕ} (p : Progress After left left' wrote wrote' came rest waits number) (bytes : List ℕ) (kept : Option (List ℕ)) (e : FrontFault)
      → Comes left' left'' came came'' bytes → First (p.bytes ++ bytes) left'' p.done kept
      → (e ≢ Read) × (e ≢ Long) → e ≢ Write → (e ≡ Memory → SaysInPart After Script kept number wrote' wrote'' waits waits'')
      → Ended (λ w w'. EndsAs Whole Script left left'' w w' e) wrote wrote'' waits''
  progress_refused_by Whole p bytes kept Read h f only other memory = absurd (only.0 refl)
  progress_refused_by Whole p bytes kept Long h f only other memory = absurd (only.1 refl)
  progress_refused_by Whole p bytes kept Write h f only other memory = absurd (other refl)
  progress_refused_by Whole {wrote''} {waits''} p bytes kept Memory h f only other memory =
      let m = memory refl p.done p.said f.line p.stands f.keeps p.counted in
      let g : Gathers wrote wrote'' [] (flat_map ended p.said ++ flat_map ended m.2) waits'' = gathers_then p.gathers m.5 in
      record {
        text = flat_map ended (p.said ++ m.2);
        gathers = rw (flat_map-append ended p.said m.2) g;
        ends = progress_stopped p bytes kept h f m.0 m.1 m.2 m.3 m.4;
      }

  -- the writer failed at a line
  pub progress_refused : {wrote'' : Option (List ℕ)} {unsaid : List ℕ} (p : Progress After left left' wrote wrote' came rest waits number) (bytes : List ℕ) (kept : Option (List ℕ))
      → Comes left' left'' came came'' bytes → First (p.bytes ++ bytes) left'' p.done kept
      → SaysInPart After Script kept number wrote' wrote'' waits unsaid
      → IsCut Script left left'' wrote wrote''
  progress_refused {wrote''} {unsaid} p bytes kept h f write =
      let all : Comes left left'' 0 came'' (p.bytes ++ bytes) = Comes-then left left' left'' 0 came came'' p.bytes bytes p.comes h in
      let m = write p.done p.said f.line p.stands f.keeps p.counted in
      let g : Gathers wrote wrote'' [] (flat_map ended p.said ++ flat_map ended m.2) unsaid = gathers_then p.gathers m.5 in
      record {
        input = p.bytes ++ bytes;
        lines = f.lines;
        answered = m.0;
        unanswered = m.1 ++ f.others;
        output = p.said ++ m.2;
        text = g.out;
        unsaid = unsaid;
        read = all.taken;
        heard = f.hears;
        splits = f.is ∙ ap (λ t. t ++ f.others) m.3 ∙ append_assoc m.0 m.1 f.others;
        written = g.written;
        begins = flat_map-append ended p.said m.2 ∙ g.is;
        said = m.4;
      }

module _ (Script : List (List ℕ) → List (List ℕ) → Type 0) {After After' : List (List ℕ) → List (List ℕ) → Type 0} {left left' left'' wrote wrote' wrote'' : Option (List ℕ)} {came came'' : ℕ} {rest waits : List ℕ} {number : ℕ} where
  -- the last line is answered
  pub progress_last : (p : Progress After left left' wrote wrote' came rest waits number) (bytes rest'' waits'' : List ℕ) (kept : Option (List ℕ))
      → Comes left' left'' came came'' bytes → Took Last (rest ++ heard came bytes) rest'' kept left'' → came'' ≤ max_input
      → ((lines said : List (List ℕ)) (it : List ℕ) → After lines said → kept ≡ kept_line it → number ≡ length lines + 1
      → (more : List (List ℕ)) × After' (lines ++ it ∷ []) (said ++ more) × Gathers wrote' wrote'' waits (flat_map ended more) waits'')
      → ((lines said : List (List ℕ)) → After' lines said → Script lines said)
      → Ended (Replays Script left left'') wrote wrote'' waits''
  progress_last p bytes rest'' waits'' kept h took short answered follows =
      let all : Comes left left'' 0 came'' (p.bytes ++ bytes) = Comes-then left left' left'' 0 came came'' p.bytes bytes p.comes h in
      let l = last_line p bytes rest'' kept h took short in
      let a = answered p.done p.said (rest ++ heard came bytes) p.stands took.3 p.counted in
      let g : Gathers wrote wrote'' [] (flat_map ended p.said ++ flat_map ended a.0) waits'' = gathers_then p.gathers a.2 in
      record {
        text = flat_map ended (p.said ++ a.0);
        gathers = rw (flat_map-append ended p.said a.0) g;
        ends = record {
          input = p.bytes ++ bytes;
          output = p.said ++ a.0;
          read = all.taken;
          at_end = took.4;
          within = l.1;
          written = refl;
          said = rw l.0 (follows (p.done ++ (rest ++ heard came bytes) ∷ []) (p.said ++ a.0) a.1);
        };
      }

module _ {After After' : List (List ℕ) → List (List ℕ) → Type 0} {left left' left'' wrote wrote' wrote'' : Option (List ℕ)} {came came'' : ℕ} {rest waits : List ℕ} {number : ℕ} where
  -- one more line is answered
  pub progress_next : (p : Progress After left left' wrote wrote' came rest waits number) (bytes rest'' waits'' : List ℕ) (kept : Option (List ℕ))
      → Comes left' left'' came came'' bytes → Took Line (rest ++ heard came bytes) rest'' kept left''
      → ((lines said : List (List ℕ)) (it : List ℕ) → After lines said → kept ≡ kept_line it → number ≡ length lines + 1
      → (more : List (List ℕ)) × After' (lines ++ it ∷ []) (said ++ more) × Gathers wrote' wrote'' waits (flat_map ended more) waits'')
      → Progress After' left left'' wrote wrote'' came'' rest'' waits'' (number + 1)
  progress_next p bytes rest'' waits'' kept h took answered =
      let s = progress_text p bytes in
      let a = answered p.done p.said took.0 p.stands took.3 p.counted in
      let g : Gathers wrote wrote'' [] (flat_map ended p.said ++ flat_map ended a.0) waits'' = gathers_then p.gathers a.2 in
      record {
        bytes = p.bytes ++ bytes;
        done = p.done ++ took.0 ∷ [];
        said = p.said ++ a.0;
        comes = Comes-then left left' left'' 0 came came'' p.bytes bytes p.comes h;
        splits = Splits-line (heard 0 (p.bytes ++ bytes)) p.done took.0 rest'' (record { is = s.is ∙ ap (λ t. flat_map ended p.done ++ t) took.2; each = s.each }) took.1;
        stands = a.1;
        gathers = rw (flat_map-append ended p.said a.0) g;
        counted = omega (arith, p.counted, length-append p.done (took.0 ∷ []));
      }

-- the line that comes next has begun so, and this is how far the input is answered
pub record Underway (After : List (List ℕ) → List (List ℕ) → Type 0) (left left' wrote wrote' : Option (List ℕ)) (came : ℕ) (kept : Option (List ℕ)) (rest waits : List ℕ) (number : ℕ) : Type 0 where
  pub begun : List ℕ
  pub one : IsOneLine begun
  pub keeps : kept ≡ kept_line begun
  pub progress : Progress After left left' wrote wrote' came (begun ++ rest) waits number

module _ {After : List (List ℕ) → List (List ℕ) → Type 0} {left left' wrote wrote' : Option (List ℕ)} {came : ℕ} {rest waits : List ℕ} {number : ℕ} where
  -- the reader is seen as it was
  pub progress_seen : {left'' : Option (List ℕ)} → left'' ≡ left' → Progress After left left' wrote wrote' came rest waits number → Progress After left left'' wrote wrote' came rest waits number
  progress_seen {left''} e p = rw e p

  -- no line has begun
  pub none_begun : {kept : Option (List ℕ)} → kept ≡ Some [] → Progress After left left' wrote wrote' came rest waits number → Underway After left left' wrote wrote' came kept rest waits number
  none_begun {kept} e p = record { begun = []; one = refl; keeps = e; progress = p }

  -- more of the line that has begun came, and it is open yet
  pub still_open : {left'' kept : Option (List ℕ)} {came'' : ℕ} (p : Progress After left left' wrote wrote' came rest waits number) (bytes rest'' : List ℕ)
      → Comes left' left'' came came'' bytes → Took Open (rest ++ heard came bytes) rest'' kept left''
      → Underway After left left'' wrote wrote' came'' kept rest'' waits number
  still_open {left''} {kept} {came''} p bytes rest'' h took =
      let text = rest ++ heard came bytes in
      let more : Progress After left left'' wrote wrote' came'' text waits number = record {
        bytes = p.bytes ++ bytes;
        done = p.done;
        said = p.said;
        comes = Comes-then left left' left'' 0 came came'' p.bytes bytes p.comes h;
        splits = progress_text p bytes;
        stands = p.stands;
        gathers = p.gathers;
        counted = p.counted;
      } in
      let all : text ++ rest'' ≡ text = ap (λ t. text ++ t) took.1 ∙ append-nil text in
      record { begun = text; one = took.0; keeps = took.2; progress = subst (λ t. Progress After left left'' wrote wrote' came'' t waits number) (sym all) more }

-- what is said is written

module _ (Whole Part : List (List ℕ) → List (List ℕ) → Type 0) (left left' wrote wrote' : Option (List ℕ)) (text : List ℕ) where
  pub replays_written : Replays Whole left left' (Some []) (Some text) → Appends wrote wrote' text → Replays Whole left left' wrote wrote'
  replays_written r w = record {
    input = r.input;
    output = r.output;
    read = r.read;
    at_end = r.at_end;
    within = r.within;
    written = rw r.written at w;
    said = r.said;
  }

  pub ends_written : (e : FrontFault) → e ≢ Write → EndsAs Whole Part left left' (Some []) (Some text) e → Appends wrote wrote' text → EndsAs Whole Part left left' wrote wrote' e
  ends_written Read n r w = record { input = r.input; output = r.output; read = r.read; within = r.within; written = rw r.written at w; said = r.said }
  ends_written Long n r w = record { input = r.input; output = r.output; read = r.read; too_long = r.too_long; written = rw r.written at w; said = r.said }
  ends_written Write n r w = absurd (n refl)
  ends_written Memory n r w = record {
    input = r.input;
    lines = r.lines;
    answered = r.answered;
    unanswered = r.unanswered;
    output = r.output;
    read = r.read;
    heard = r.heard;
    splits = r.splits;
    written = rw r.written at w;
    said = r.said;
  }

  -- all heard lines are answered, and a part of what is said is written
  cut_short : {rest : List ℕ} (input : List ℕ) (lines output : List (List ℕ)) → Consumes left left' input → IsHeard input left' lines → text ≡ flat_map ended output
      → Part lines output → Gathers wrote wrote' [] text rest → IsCut Part left left' wrote wrote'
  cut_short {rest} input lines output read h e said g = record {
    input = input;
    lines = lines;
    answered = lines;
    unanswered = [];
    output = output;
    text = g.out;
    unsaid = rest;
    read = read;
    heard = h;
    splits = sym (append-nil lines);
    written = g.written;
    begins = sym e ∙ g.is;
    said = said;
  }

  pub replays_cut : {rest : List ℕ} → ((lines said : List (List ℕ)) → Whole lines said → Part lines said) → Replays Whole left left' (Some []) (Some text) → Gathers wrote wrote' [] text rest → IsCut Part left left' wrote wrote'
  replays_cut part r g = cut_short r.input (lines_of r.input) r.output r.read (inr (refl, r.at_end, r.within)) r.written (part _ _ r.said) g

  pub ends_cut : {rest : List ℕ} (e : FrontFault) → ((lines said : List (List ℕ)) → Whole lines said → Part lines said) → e ≢ Write → EndsAs Whole Part left left' (Some []) (Some text) e → Gathers wrote wrote' [] text rest → IsCut Part left left' wrote wrote'
  ends_cut Read part n r g =
      let all : take max_input r.input ≡ r.input = take_all max_input r.input r.within in
      cut_short r.input (whole_lines_of r.input) r.output r.read (inl (ap whole_lines_of (sym all))) r.written (part _ _ r.said) g
  ends_cut Long part n r g = cut_short r.input (whole_lines_of (take max_input r.input)) r.output r.read (inl refl) r.written (part _ _ r.said) g
  ends_cut Write part n r g = absurd (n refl)
  ends_cut {rest} Memory part n r g = record {
    input = r.input;
    lines = r.lines;
    answered = r.answered;
    unanswered = r.unanswered;
    output = r.output;
    text = g.out;
    unsaid = rest;
    read = r.read;
    heard = r.heard;
    splits = r.splits;
    written = g.written;
    begins = sym r.written ∙ g.is;
    said = r.said;
  }

-- each line is at least its newline
lines_short : (lines : List (List ℕ)) → length lines ≤ length (flat_map ended lines)
lines_short [] = omega arith
lines_short (line ∷ lines) = omega (arith, lines_short lines, length-append (ended line) (flat_map ended lines), length-append line (newline ∷ []))

module _ {After : List (List ℕ) → List (List ℕ) → Type 0} {left left' wrote wrote' : Option (List ℕ)} {came : ℕ} {rest waits : List ℕ} {number : ℕ} where
  -- the number of the line stays small
  pub number_small : Progress After left left' wrote wrote' came rest waits number → number ≤ max_input + 1
  number_small p =
      let size : length (heard 0 p.bytes) ≤ max_input = omega (arith, length-take (max_input - 0) p.bytes) in
      let cut : length (heard 0 p.bytes) ≡ length (flat_map ended p.done) + length rest = ap length p.splits.is ∙ length-append (flat_map ended p.done) rest in
      omega (arith, p.counted, lines_short p.done)

pub on_err : {T E : Type 0} (r : Result T E) (Q : E → Type 0) → ((e : E) → r ≡ Err e → Q e) → IfErr r Q
on_err (Ok x) Q f = tt
on_err (Err e) Q f = f e refl

pub on_ok : {T E : Type 0} (r : Result T E) (Q : T → Type 0) → ((x : T) → r ≡ Ok x → Q x) → IfOk r Q
on_ok (Ok x) Q f = f x refl
on_ok (Err e) Q f = tt

-- nothing is read or said
pub stops_at_once : (Script : List (List ℕ) → List (List ℕ) → Type 0) (left : Option (List ℕ)) → Script [] [] → Stops Script left left (Some []) (Some [])
stops_at_once Script left h = record {
  input = [];
  lines = whole_lines_of (take max_input []);
  answered = [];
  unanswered = whole_lines_of (take max_input []);
  output = [];
  read = Consumes-none left;
  heard = inl refl;
  splits = refl;
  written = refl;
  said = h;
}

-- what is said last is written

module _ {X : Type 0} (Whole Part : List (List ℕ) → List (List ℕ) → Type 0) (left left' wrote wrote' wrote'' : Option (List ℕ)) {waits : List ℕ} where
  pub ok_written : {waits' : List ℕ} (r : Result X FrontFault) → OnOk r (Ended (Replays Whole left left') wrote wrote' waits)
      → Gathers wrote' wrote'' waits [] waits' → waits' ≡ [] → OnOk r (Replays Whole left left' wrote wrote'')
  ok_written (Ok x) h g none = replays_written Whole Part left left' wrote wrote'' h.text h.ends (all_written (gathers_quiet h.gathers g) none)
  ok_written (Err e) h g none = tt

  pub fault_written : {waits' : List ℕ} (r : Result X FrontFault) → IfErr r (λ e. e ≢ Write → Ended (λ w w'. EndsAs Whole Part left left' w w' e) wrote wrote' waits)
      → r ≢ Err Write → Gathers wrote' wrote'' waits [] waits' → waits' ≡ [] → IfErr r (λ e. EndsAs Whole Part left left' wrote wrote'' e)
  fault_written (Ok x) h n g none = tt
  fault_written (Err e) h n g none =
      let other : e ≢ Write = λ w. n (ap Err w) in
      let r = h other in
      ends_written Whole Part left left' wrote wrote'' r.text e other r.ends (all_written (gathers_quiet r.gathers g) none)

  pub cut_at_last : {rest : List ℕ} (r : Result X FrontFault) → ((lines said : List (List ℕ)) → Whole lines said → Part lines said) → OnOk r (Ended (Replays Whole left left') wrote wrote' waits)
      → IfErr r (λ e. e ≢ Write → Ended (λ w w'. EndsAs Whole Part left left' w w' e) wrote wrote' waits)
      → r ≢ Err Write → Gathers wrote' wrote'' waits [] rest → IsCut Part left left' wrote wrote''
  cut_at_last (Ok x) part o h n g = replays_cut Whole Part left left' wrote wrote'' o.text part o.ends (gathers_quiet o.gathers g)
  cut_at_last (Err e) part o h n g =
      let other : e ≢ Write = λ w. n (ap Err w) in
      let r = h other in
      ends_cut Whole Part left left' wrote wrote'' r.text e part other r.ends (gathers_quiet r.gathers g)

pub not_so : (b : Bool) (P : Type 0) → (IsTrue b ↔ P) → b ≡ false → ¬ P
not_so b P e f p = let t : b ≡ true = e.1 p in cc

-- the device's own count

pub past_limit : (device device' came : ℕ) → IsInStep device device' came → max_input < came → device < 2 ^ 63 → max_input < device' - device
past_limit device device' came s h k = grind (arith, s.below, s.above)

pub within_limit : (device device' came : ℕ) → IsInStep device device' came → came ≤ max_input → device' ≤ device + max_input
within_limit device device' came s h = omega (arith, s.above)

-- what a relation says, a weaker one says too

module _ {Whole Whole' : List (List ℕ) → List (List ℕ) → Type 0} (left left' wrote wrote' : Option (List ℕ)) where
  pub replays_weaker : ((lines said : List (List ℕ)) → Whole lines said → Whole' lines said) → Replays Whole left left' wrote wrote' → Replays Whole' left left' wrote wrote'
  replays_weaker f r = record { input = r.input; output = r.output; read = r.read; at_end = r.at_end; within = r.within; written = r.written; said = f _ _ r.said }

module _ {Whole Whole' Part Part' : List (List ℕ) → List (List ℕ) → Type 0} (left left' wrote wrote' : Option (List ℕ)) where
  pub ends_weaker : ((lines said : List (List ℕ)) → Whole lines said → Whole' lines said) → ((lines said : List (List ℕ)) → Part lines said → Part' lines said)
      → (e : FrontFault) → EndsAs Whole Part left left' wrote wrote' e → EndsAs Whole' Part' left left' wrote wrote' e
  ends_weaker f h Read r = record { input = r.input; output = r.output; read = r.read; within = r.within; written = r.written; said = f _ _ r.said }
  ends_weaker f h Long r = record { input = r.input; output = r.output; read = r.read; too_long = r.too_long; written = r.written; said = f _ _ r.said }
  ends_weaker f h Write r = record {
    input = r.input;
    lines = r.lines;
    answered = r.answered;
    unanswered = r.unanswered;
    output = r.output;
    text = r.text;
    unsaid = r.unsaid;
    read = r.read;
    heard = r.heard;
    splits = r.splits;
    written = r.written;
    begins = r.begins;
    said = h _ _ r.said;
  }
  ends_weaker f h Memory r = record {
    input = r.input;
    lines = r.lines;
    answered = r.answered;
    unanswered = r.unanswered;
    output = r.output;
    read = r.read;
    heard = r.heard;
    splits = r.splits;
    written = r.written;
    said = h _ _ r.said;
  }
