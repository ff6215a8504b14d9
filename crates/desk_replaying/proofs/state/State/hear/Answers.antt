-- Each kind of line is heard as its call says.
use Rattle.std.proofs.Common.{ℕ, List, ap, refl}
use Rattle.serde_json.specs.Data.{Data}
use Rattle.box_core.specs.History as broker
use Rattle.desk_replaying.specs.Due.{Asks, asks_with, request_under}
use Rattle.desk_replaying.specs.Line.{Submit, Take, AnswerWith, Release, Close, Resize}
use Rattle.desk_replaying.specs.StateView.{Answers, AsksFor, HasEffect, client_in, model_of}
use Rattle.desk_replaying.specs.declared.state.Effect.{Effect}
use Rattle.desk_replaying.specs.declared.state.State.{State}
use Rattle.model_marks.specs.declared.mark.Catalog.{Ghosts}
use Rattle.desk_replaying.proofs.Hearing.{ok_map}
use Rattle.desk_replaying.proofs.Turning.{client_same, heard_answer, heard_answers, heard_asked, heard_load, heard_open}
use Rattle.desk_replaying.proofs.state.State.hear.Goals as goal

-- ## Lines that ask the broker

heard_submit : {C : Type 0} {G : Ghosts C} (old new : State C G) (name service : List ℕ) (inputs : Data) (eff : Effect C)
    → Answers old (asks_with (request_under (model_of old) service inputs) (broker.Submit (client_in old name))) eff new
    → HasEffect old (Submit name service inputs) eff new
heard_submit old new name service inputs eff h = heard_answers old new (Submit name service inputs)
    (asks_with (request_under (model_of old) service inputs) (broker.Submit (client_in old name))) eff (λ e r. refl) tt
    (λ turns stands. ap (λ c. asks_with (request_under (model_of old) service inputs) (broker.Submit c)) (client_same old name)) h

heard_answer_with : {C : Type 0} {G : Ghosts C} (old new : State C G) (name : List ℕ) (t : ℕ) (service : List ℕ) (inputs : Data) (eff : Effect C)
    → Answers old (asks_with (request_under (model_of old) service inputs) (λ request. broker.Answer (client_in old name) (record { ticket = t; work = request }))) eff new
    → HasEffect old (AnswerWith name t service inputs) eff new
heard_answer_with old new name t service inputs eff h = heard_answers old new (AnswerWith name t service inputs)
    (asks_with (request_under (model_of old) service inputs) (λ request. broker.Answer (client_in old name) (record { ticket = t; work = request })))
    eff (λ e r. refl) tt
    (λ turns stands. ap (λ c. asks_with (request_under (model_of old) service inputs) (λ request. broker.Answer c (record { ticket = t; work = request }))) (client_same old name)) h

heard_take : {C : Type 0} {G : Ghosts C} (old new : State C G) (name : List ℕ) (t : ℕ) (eff : Effect C) → AsksFor old (broker.Take (client_in old name) t) eff new → HasEffect old (Take name t) eff new
heard_take old new name t eff h = heard_asked old new (Take name t) (broker.Take (client_in old name) t) eff (λ e r. refl) (λ turns stands. ap (λ c. Asks (broker.Take c t)) (client_same old name)) h

heard_release : {C : Type 0} {G : Ghosts C} (old new : State C G) (name : List ℕ) (eff : Effect C) → AsksFor old (broker.Release (client_in old name)) eff new → HasEffect old (Release name) eff new
heard_release old new name eff h = heard_asked old new (Release name) (broker.Release (client_in old name)) eff (λ e r. refl) (λ turns stands. ap (λ c. Asks (broker.Release c)) (client_same old name)) h

heard_close : {C : Type 0} {G : Ghosts C} (old new : State C G) (name : List ℕ) (eff : Effect C) → AsksFor old (broker.Close (client_in old name)) eff new → HasEffect old (Close name) eff new
heard_close old new name eff h = heard_asked old new (Close name) (broker.Close (client_in old name)) eff (λ e r. refl) (λ turns stands. ap (λ c. Asks (broker.Close c)) (client_same old name)) h

heard_resize : {C : Type 0} {G : Ghosts C} (old new : State C G) (name : List ℕ) (n : ℕ) (eff : Effect C) → AsksFor old (broker.Resize (client_in old name) n) eff new → HasEffect old (Resize name n) eff new
heard_resize old new name n eff h = heard_asked old new (Resize name n) (broker.Resize (client_in old name) n) eff (λ e r. refl) (λ turns stands. ap (λ c. Asks (broker.Resize c n)) (client_same old name)) h

-- ## Each kind

pub returns-in-Model : goal.returns-in-Model
returns-in-Model g c = rw c.in-Model.is (heard_load _ _ _ _ c.load.ensures)

pub returns-in-Open : goal.returns-in-Open
returns-in-Open g c = rw c.in-Open.is (ok_map c.open.result _ _ c.open.ensures (λ eff h. heard_open _ _ _ _ eff h))

pub returns-in-Submit : goal.returns-in-Submit
returns-in-Submit g c = rw c.in-Submit.is (heard_submit _ _ _ _ _ _ c.submit.ensures)

pub returns-in-Take : goal.returns-in-Take
returns-in-Take g c = rw c.in-Take.is (heard_take _ _ _ _ _ c.take.ensures)

pub returns-in-Answer : goal.returns-in-Answer
returns-in-Answer g c = rw c.in-Answer.is (heard_answer _ _ _ _ _ c.answer.ensures)

pub returns-in-AnswerWith : goal.returns-in-AnswerWith
returns-in-AnswerWith g c = rw c.in-AnswerWith.is (heard_answer_with _ _ _ _ _ _ _ c.answer_with.ensures)

pub returns-in-Release : goal.returns-in-Release
returns-in-Release g c = rw c.in-Release.is (heard_release _ _ _ _ c.release.ensures)

pub returns-in-Close : goal.returns-in-Close
returns-in-Close g c = rw c.in-Close.is (heard_close _ _ _ _ c.close.ensures)

pub returns-in-Resize : goal.returns-in-Resize
returns-in-Resize g c = rw c.in-Resize.is (heard_resize _ _ _ _ _ c.resize.ensures)
