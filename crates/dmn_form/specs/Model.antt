-- What a decision model is. The leaves of its logic are FEEL texts and tables, as written (E is then a text) or as read.
use Rattle.std.specs.Prelude.{ℕ, List, [], ◌∷◌}

abbrev pub Name : Type 0
Name = List ℕ

-- boxed expressions over expressions E and tables T
mutual
  pub data Boxed (E T : Type 0) : Type 0 where
    expression : E → Boxed E T
    table : T → Boxed E T
    list : Members E T → Boxed E T
    context : Entries E T → Boxed E T
    context_with : Entries E T → Boxed E T → Boxed E T

  pub data Members (E T : Type 0) : Type 0 where
    no_members : Members E T
    member : Boxed E T → Members E T → Members E T

  pub data Entries (E T : Type 0) : Type 0 where
    no_entries : Entries E T
    entry : List ℕ → Boxed E T → Entries E T → Entries E T

-- the members and the entries of a list of them
abbrev pub members_of : {E T : Type 0} → List (Boxed E T) → Members E T
members_of [] = no_members
members_of (b ∷ bs) = member b (members_of bs)

abbrev pub entries_of : {E T : Type 0} → List (Name × Boxed E T) → Entries E T
entries_of [] = no_entries
entries_of (e ∷ es) = entry e.0 e.1 (entries_of es)

-- a decision, with the inputs and decisions that it requires
pub record Decision (E T : Type 0) : Type 0 where
  pub name : Name
  pub needs : List Name
  pub logic : Boxed E T

-- a decision service
pub record Service : Type 0 where
  pub name : Name
  pub outputs : List Name
  pub encapsulated : List Name
  pub input_decisions : List Name
  pub input_data : List Name

pub record Model (E T : Type 0) : Type 0 where
  pub inputs : List Name
  pub decisions : List (Decision E T)
  pub services : List Service
