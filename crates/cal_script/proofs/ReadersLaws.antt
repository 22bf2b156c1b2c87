-- Replies to requests that only read, in states that look alike.
use Rattle.std.proofs.Common.{◌≡◌, sym, ap, ap₂, ◌∙◌, inl, inr}
use Rattle.cal_model.specs.declared.reply.Reply.{Reply}
use Rattle.cal_model.specs.Requests.AskedRequests.{asked}
use Rattle.cal_model.specs.State.ServerState.{ServerState, directory_of}
use Rattle.cal_model.specs.Transcripts.Transcript.{Answer, event_of, answer_to}
use Rattle.cal_model.proofs.Sight.LookingAlikeLaws.{replies_are_alike, reading_changes_nothing}
use Rattle.cal_script.specs.ReadersSight.{ReadersSeeAlike}

pub readers_see_alike : ReadersSeeAlike
readers_see_alike users state other connection moment who wire request given asks reads alike (inl is) =
    let event = event_of connection who moment request in
    let directory = directory_of users in
    let here : given ≡ answer_to users state connection moment (asked who request) = is ∙ ap (answer_to users state connection moment) asks in
    inl (ap₂ (λ (r : Reply) (s : ServerState). record { reply = r; server = s })
    (ap (λ (a : Answer). a.reply) here ∙ replies_are_alike directory state other event reads alike)
    (sym (reading_changes_nothing directory other event reads))
    ∙ sym (ap (answer_to users other connection moment) asks))
readers_see_alike users state other connection moment who wire request given asks reads alike (inr is) =
    inr (ap (λ (r : Reply). record { reply = r; server = other }) (ap (λ (a : Answer). a.reply) is))
