-- A script goes on from where its frames so far leave it.
use Rattle.std.proofs.Common.{ℕ, List, [], ◌∷◌, ◌++◌, refl, sym, ap, ◌∙◌, subst}
use Rattle.std.proofs.lemmas.List.{append_assoc, append-nil}
use Rattle.cal_model.specs.Transcripts.ScriptFrames.{Frame}
use Rattle.cal_model.specs.Transcripts.Transcript.{Standing, Turn, Follows}
use Rattle.cal_model.specs.Transcripts.TranscriptLaws.{Leads, ScriptsGoOn}
use Rattle.cal_model.specs.Users.UsersFile.{Users}

Leads-Follows : (users : Users) (standing after : Standing) (frames : List Frame) (output : List ℕ) → Leads users standing frames output after → Follows users standing frames output
Leads-Follows users standing after [] output leads = leads.0
Leads-Follows users standing after (frame ∷ frames) output leads =
    (leads.0, leads.1, leads.2, leads.3, leads.4, Leads-Follows users leads.2 after frames leads.1 leads.5)

Leads-push : (users : Users) (standing after next : Standing) (frames : List Frame) (frame : Frame) (output printed : List ℕ)
    → Leads users standing frames output after → Turn users after frame printed next → Leads users standing (frames ++ frame ∷ []) (output ++ printed) next
Leads-push users standing after next [] frame output printed leads turn =
    (printed, [], next, ap (λ xs. xs ++ printed) leads.0 ∙ sym (append-nil printed), subst (λ s. Turn users s frame printed next) leads.1 turn, (refl, refl))
Leads-push users standing after next (first ∷ frames) frame output printed leads turn = (
  leads.0,
  leads.1 ++ printed,
  leads.2,
  ap (λ xs. xs ++ printed) leads.3 ∙ append_assoc leads.0 leads.1 printed,
  leads.4,
  Leads-push users leads.2 after next frames frame leads.1 printed leads.5 turn,
)

pub scripts_go_on : ScriptsGoOn
scripts_go_on = record { follows = Leads-Follows; one_more = Leads-push }
