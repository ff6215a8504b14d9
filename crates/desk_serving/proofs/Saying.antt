-- Reports that are said, after those that were said before.
use Rattle.std.proofs.Common.{◌≡◌, ℕ, List, [], ◌∷◌, ◌++◌, length, take, refl, ap, sym, ◌∙◌, append_assoc, append-nil, Option, Result, Ok, Err, inl, inr, ◌≤◌, subst}
use Rattle.std.specs.List.{flat_map}
use Rattle.std.specs.Io.KnownBytes.{Appends, Consumes}
use Rattle.std.proofs.lemmas.Grind.{flat_map-append}
use Rattle.std.proofs.lemmas.List.{take_all}
use Rattle.desk_serving.specs.Running.{GoesOn}
use Rattle.desk_lines.specs.Gathers.{Gathers}
use Rattle.desk_lines.specs.Lines.{ended, lines_of, whole_lines_of, max_input}
use Rattle.desk_serving.specs.Owed.{AreHanded, Hands, Queue}
use Rattle.desk_wire.specs.Reports.{Report, report_text}
use Rattle.desk_serving.specs.Script.{texts_of}
use Rattle.desk_lines.specs.Talk.{IsHeard, Replays, Breaks, Overflows, IsCut, Stops, Ends}
use Rattle.desk_serving.specs.Telling.{Tells, TellsAll, TellsInPart}
use Rattle.desk_lines.specs.declared.fault.FrontFault.{FrontFault}
use Rattle.desk_lines.specs.declared.fault.FrontFault.TheVariants.{Read, Write, Long, Memory}
use Rattle.desk_lines.proofs.Coming.{Appends-then}
use Rattle.desk_lines.proofs.Gathering.{gathers_none, gathers_then, gathers_quiet}
use Rattle.desk_serving.proofs.Owing.{handed_then, lines-append}

-- ## On the way to the writer

pub tells_none : (Are : List Report → Type 0) (wrote : Option (List ℕ)) (waits : List ℕ) → Are [] → Tells Are wrote wrote waits waits
tells_none Are wrote waits h = record { more = []; are = h; gathers = gathers_none wrote waits }

pub tells_then : (A B C : List Report → Type 0) (a b c : Option (List ℕ)) (r s t : List ℕ) → ((m k : List Report) → A m → B k → C (m ++ k)) → Tells A a b r s → Tells B b c s t → Tells C a c r t
tells_then A B C a b c r s t f x y = record {
  more = x.more ++ y.more;
  are = f x.more y.more x.are y.are;
  gathers = rw (lines-append x.more y.more) (gathers_then x.gathers y.gathers);
}

pub tells_weaker : (A B : List Report → Type 0) (a b : Option (List ℕ)) (r s : List ℕ) → ((m : List Report) → A m → B m) → Tells A a b r s → Tells B a b r s
tells_weaker A B a b r s f x = record { more = x.more; are = f x.more x.are; gathers = x.gathers }

-- a text of reports goes on its way
pub tells_more : (A B : List Report → Type 0) (a b c : Option (List ℕ)) (r s t text : List ℕ) (k : List Report) → ((m : List Report) → A m → B (m ++ k)) → Tells A a b r s → text ≡ flat_map ended (texts_of k) → Gathers b c s text t → Tells B a c r t
tells_more A B a b c r s t text k f x is g = record {
  more = x.more ++ k;
  are = f x.more x.are;
  gathers = rw (lines-append x.more k) (gathers_then x.gathers (subst (λ v. Gathers b c s v t) is g));
}

-- a report alone, as a line in a text
pub said_alone : (e : Report) (empty text piece : List ℕ) → empty ≡ [] → text ≡ empty ++ ended (report_text e) → piece ≡ text → piece ≡ flat_map ended (texts_of (e ∷ []))
said_alone e empty text piece none is whole = whole ∙ is ∙ ap (λ v. v ++ ended (report_text e)) none ∙ sym (append-nil (ended (report_text e)))

-- nothing more is said, though some of what waited may be written
pub tells_quiet : (A : List Report → Type 0) (a b c : Option (List ℕ)) (r s t : List ℕ) → Tells A a b r s → Gathers b c s [] t → Tells A a c r t
tells_quiet A a b c r s t x g = record { more = x.more; are = x.are; gathers = gathers_quiet x.gathers g }

-- what lanes hand out stands in a text
pub hands_text : (names ns : List (List ℕ)) (x y z : List Queue) (empty text piece : List ℕ) → ns ≡ names → empty ≡ [] → piece ≡ text → Hands ns y z empty text
    → (k : List Report) × (piece ≡ flat_map ended (texts_of k)) × ((m : List Report) → AreHanded names x y m → AreHanded names x z (m ++ k))
hands_text names ns x y z empty text piece same none whole h = (
  h.more,
  whole ∙ h.is ∙ ap (λ v. v ++ flat_map ended (texts_of h.more)) none,
  λ m p. handed_then names x y z m h.more p (subst (λ n. AreHanded n y z h.more) same h.handed),
)

-- and goes on its way
pub hands_tell : (names ns : List (List ℕ)) (x y z : List Queue) (a b c : Option (List ℕ)) (r s t empty text piece : List ℕ) → ns ≡ names → empty ≡ [] → piece ≡ text
    → Tells (AreHanded names x y) a b r s → Hands ns y z empty text → Gathers b c s piece t → Tells (AreHanded names x z) a c r t
hands_tell names ns x y z a b c r s t empty text piece same none whole told h g =
    let out = hands_text names ns x y z empty text piece same none whole h in
    tells_more (AreHanded names x y) (AreHanded names x z) a b c r s t piece out.0 out.2 told out.1 g

-- what waits is written, or a beginning of it
pub tells_cut : (A : List Report → Type 0) (a b c : Option (List ℕ)) (s t : List ℕ) → Tells A a b [] s → Gathers b c s [] t → TellsInPart A a c
tells_cut A a b c s t x g =
    let all = gathers_quiet x.gathers g in
    record { more = x.more; are = x.are; text = all.out; unsaid = t; written = all.written; begins = all.is }

-- ## After the lines that were heard

module _ (Whole Part : List (List ℕ) → List (List ℕ) → Type 0) (left left' a b c : Option (List ℕ)) (A : List Report → Type 0) where
  told_text : (output : List (List ℕ)) (more : List Report) → Appends a b (flat_map ended output) → Appends b c (flat_map ended (texts_of more)) → Appends a c (flat_map ended (output ++ texts_of more))
  told_text output more x y = rw (flat_map-append ended output (texts_of more)) (Appends-then a b c (flat_map ended output) (flat_map ended (texts_of more)) x y)

  pub replays_more : (Whole' : List (List ℕ) → List (List ℕ) → Type 0) → ((lines said : List (List ℕ)) (more : List Report) → Whole lines said → A more → Whole' lines (said ++ texts_of more))
      → Replays Whole left left' a b → TellsAll A b c → Replays Whole' left left' a c
  replays_more Whole' f r t = record {
    input = r.input;
    output = r.output ++ texts_of t.more;
    read = r.read;
    at_end = r.at_end;
    within = r.within;
    written = told_text r.output t.more r.written t.written;
    said = f (lines_of r.input) r.output t.more r.said t.are;
  }

  pub breaks_more : (Whole' : List (List ℕ) → List (List ℕ) → Type 0) → ((lines said : List (List ℕ)) (more : List Report) → Whole lines said → A more → Whole' lines (said ++ texts_of more))
      → Breaks Whole left left' a b → TellsAll A b c → Breaks Whole' left left' a c
  breaks_more Whole' f r t = record {
    input = r.input;
    output = r.output ++ texts_of t.more;
    read = r.read;
    within = r.within;
    written = told_text r.output t.more r.written t.written;
    said = f (whole_lines_of r.input) r.output t.more r.said t.are;
  }

  pub overflows_more : (Whole' : List (List ℕ) → List (List ℕ) → Type 0) → ((lines said : List (List ℕ)) (more : List Report) → Whole lines said → A more → Whole' lines (said ++ texts_of more))
      → Overflows Whole left left' a b → TellsAll A b c → Overflows Whole' left left' a c
  overflows_more Whole' f r t = record {
    input = r.input;
    output = r.output ++ texts_of t.more;
    read = r.read;
    too_long = r.too_long;
    written = told_text r.output t.more r.written t.written;
    said = f (whole_lines_of (take max_input r.input)) r.output t.more r.said t.are;
  }

-- some of what is left is said, and then memory is refused, or the writer fails

module _ (Whole Part : List (List ℕ) → List (List ℕ) → Type 0) (left left' a b c : Option (List ℕ)) (A : List Report → Type 0)
    (f : (lines said : List (List ℕ)) (more : List Report) → Whole lines said → A more → Part lines (said ++ texts_of more)) where
  stops_more : (input : List ℕ) (lines output : List (List ℕ)) → Consumes left left' input → IsHeard input left' lines → Appends a b (flat_map ended output) → Whole lines output → TellsAll A b c → Stops Part left left' a c
  stops_more input lines output read heard written said t = record {
    input = input;
    lines = lines;
    answered = lines;
    unanswered = [];
    output = output ++ texts_of t.more;
    read = read;
    heard = heard;
    splits = sym (append-nil lines);
    written = rw (flat_map-append ended output (texts_of t.more)) (Appends-then a b c (flat_map ended output) (flat_map ended (texts_of t.more)) written t.written);
    said = f lines output t.more said t.are;
  }

  cut_more : (input : List ℕ) (lines output : List (List ℕ)) → Consumes left left' input → IsHeard input left' lines → Appends a b (flat_map ended output) → Whole lines output → TellsInPart A b c → IsCut Part left left' a c
  cut_more input lines output read heard written said t = record {
    input = input;
    lines = lines;
    answered = lines;
    unanswered = [];
    output = output ++ texts_of t.more;
    text = flat_map ended output ++ t.text;
    unsaid = t.unsaid;
    read = read;
    heard = heard;
    splits = sym (append-nil lines);
    written = Appends-then a b c (flat_map ended output) t.text written t.written;
    begins = flat_map-append ended output (texts_of t.more) ∙ ap (λ v. flat_map ended output ++ v) t.begins ∙ sym (append_assoc (flat_map ended output) t.text t.unsaid);
    said = f lines output t.more said t.are;
  }

  whole_within : (r : List ℕ) → length r ≤ max_input → IsHeard r left' (whole_lines_of r)
  whole_within r h = inl (ap whole_lines_of (sym (take_all max_input r h)))

  pub replays_stop : Replays Whole left left' a b → TellsAll A b c → Stops Part left left' a c
  replays_stop r t = stops_more r.input (lines_of r.input) r.output r.read (inr (refl, r.at_end, r.within)) r.written r.said t

  pub breaks_stop : Breaks Whole left left' a b → TellsAll A b c → Stops Part left left' a c
  breaks_stop r t = stops_more r.input (whole_lines_of r.input) r.output r.read (whole_within r.input r.within) r.written r.said t

  pub overflows_stop : Overflows Whole left left' a b → TellsAll A b c → Stops Part left left' a c
  overflows_stop r t = stops_more r.input (whole_lines_of (take max_input r.input)) r.output r.read (inl refl) r.written r.said t

  pub replays_cut_off : Replays Whole left left' a b → TellsInPart A b c → IsCut Part left left' a c
  replays_cut_off r t = cut_more r.input (lines_of r.input) r.output r.read (inr (refl, r.at_end, r.within)) r.written r.said t

  pub breaks_cut_off : Breaks Whole left left' a b → TellsInPart A b c → IsCut Part left left' a c
  breaks_cut_off r t = cut_more r.input (whole_lines_of r.input) r.output r.read (whole_within r.input r.within) r.written r.said t

  pub overflows_cut_off : Overflows Whole left left' a b → TellsInPart A b c → IsCut Part left left' a c
  overflows_cut_off r t = cut_more r.input (whole_lines_of (take max_input r.input)) r.output r.read (inl refl) r.written r.said t

-- the same, however the reader ended the input

module _ (Whole Part : List (List ℕ) → List (List ℕ) → Type 0) (left left' a b c : Option (List ℕ)) (A : List Report → Type 0) {X : Type 0} where
  pub ends_stop : ((lines said : List (List ℕ)) (more : List Report) → Whole lines said → A more → Part lines (said ++ texts_of more))
      → (ended : Result X FrontFault) → GoesOn ended → Ends Whole Part left left' a b ended → TellsAll A b c → Stops Part left left' a c
  ends_stop f (Ok x) g e t = replays_stop Whole Part left left' a b c A f e t
  ends_stop f (Err Read) g e t = breaks_stop Whole Part left left' a b c A f e t
  ends_stop f (Err Long) g e t = overflows_stop Whole Part left left' a b c A f e t
  ends_stop f (Err Write) g e t = absurd g
  ends_stop f (Err Memory) g e t = absurd g

  pub ends_cut_off : ((lines said : List (List ℕ)) (more : List Report) → Whole lines said → A more → Part lines (said ++ texts_of more))
      → (ended : Result X FrontFault) → GoesOn ended → Ends Whole Part left left' a b ended → TellsInPart A b c → IsCut Part left left' a c
  ends_cut_off f (Ok x) g e t = replays_cut_off Whole Part left left' a b c A f e t
  ends_cut_off f (Err Read) g e t = breaks_cut_off Whole Part left left' a b c A f e t
  ends_cut_off f (Err Long) g e t = overflows_cut_off Whole Part left left' a b c A f e t
  ends_cut_off f (Err Write) g e t = absurd g
  ends_cut_off f (Err Memory) g e t = absurd g

  pub ends_more : (Whole' : List (List ℕ) → List (List ℕ) → Type 0) → ((lines said : List (List ℕ)) (more : List Report) → Whole lines said → A more → Whole' lines (said ++ texts_of more))
      → (ended : Result X FrontFault) → GoesOn ended → Ends Whole Part left left' a b ended → TellsAll A b c → Ends Whole' Part left left' a c ended
  ends_more Whole' f (Ok x) g e t = replays_more Whole Part left left' a b c A Whole' f e t
  ends_more Whole' f (Err Read) g e t = breaks_more Whole Part left left' a b c A Whole' f e t
  ends_more Whole' f (Err Long) g e t = overflows_more Whole Part left left' a b c A Whole' f e t
  ends_more Whole' f (Err Write) g e t = absurd g
  ends_more Whole' f (Err Memory) g e t = absurd g
