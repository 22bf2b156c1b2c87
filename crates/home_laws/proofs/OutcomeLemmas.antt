-- What a request about a home does, in two states that have the same home there.
use Rattle.std.proofs.Common.{◌≡◌, ◌≢◌, ℕ, Bool, true, false, Option, Some, None, refl, sym, ap, ◌∙◌, subst}
use Rattle.std.specs.Prelude.{option_and_then}
use Rattle.cal_model.specs.declared.reply.Reply.{Reply}
use Rattle.cal_model.specs.declared.request.Event.{Event}
use Rattle.cal_model.specs.declared.request.Method.{Method}
use Rattle.cal_model.specs.declared.request.Request.{Request}
use Rattle.cal_model.specs.Objects.ObjectReading.{first_there}
use Rattle.cal_model.specs.Serving.EventReplies.{reply_of, state_of, state_after}
use Rattle.cal_model.specs.Serving.Outcomes.{Outcome, scene_by, is_reading, reading_outcome, changed, unless_refused, rows_of_change, changing_outcome, outcome_where, outcome}
use Rattle.cal_model.specs.Serving.ReadingReplies.{reading_reply}
use Rattle.cal_model.specs.Sight.Scenes.{Scene}
use Rattle.cal_model.specs.Sight.Views.{sight_of, whole_sight}
use Rattle.cal_model.specs.State.Changes.{Change, change_of}
use Rattle.cal_model.specs.State.ServerState.{Directory, ServerState, home_at}
use Rattle.home_laws.specs.Homes.{IsAbout, HomesAreApart, on_session, SessionsPlayNoPart}
use Rattle.home_laws.proofs.ChangeLemmas.{IsIn, effect-same, effect-other, change_of-in}
use Rattle.home_laws.proofs.RowLemmas.{HaveSameHome, rows_of_change-same}
use Rattle.home_laws.proofs.SceneLemmas.{scene_at-same, scene_at-user}

-- two outcomes are the same but for other homes
abbrev AreSame : ServerState → ServerState → ℕ → Request → Outcome → Outcome → Type 0
AreSame a b home request one other = (reply_of request one ≡ reply_of request other) × (home_at (state_of a one) home ≡ home_at (state_of b other) home)

changed-same : (a b : ServerState) (home : ℕ) (scene : Scene) (request : Request) (change : Option Change) → IsIn home change → home_at a home ≡ home_at b home
    → AreSame a b home request (changed a scene request.method change) (changed b scene request.method change)
changed-same a b home scene request None inside same = (refl, same)
changed-same a b home scene request (Some change) inside same = (refl, effect-same change a b home inside same)

unless_refused-same : (a b : ServerState) (home : ℕ) (request : Request) (refusal : Option Reply) (one other : Outcome) → home_at a home ≡ home_at b home
    → AreSame a b home request one other → AreSame a b home request (unless_refused refusal one) (unless_refused refusal other)
unless_refused-same a b home request None one other same made = made
unless_refused-same a b home request (Some reply) one other same made = (refl, same)

-- a request that changes something, by what stands at its path
made_in : Directory → ServerState → Request → Scene → Outcome
made_in directory state request scene =
    unless_refused (first_there (rows_of_change state scene request)) (changed state scene request.method (change_of directory request))

made_in-same : (directory : Directory) (a b : ServerState) (home : ℕ) (request : Request) (scene : Scene) → IsAbout directory request home → HaveSameHome a b scene
    → home_at a home ≡ home_at b home → AreSame a b home request (made_in directory a request scene) (made_in directory b request scene)
unfolding made_in
made_in-same directory a b home request scene about there same =
    subst (λ rows. AreSame a b home request
    (unless_refused (first_there (rows_of_change a scene request)) (changed a scene request.method (change_of directory request)))
    (unless_refused (first_there rows) (changed b scene request.method (change_of directory request))))
    (rows_of_change-same a b scene request there)
    (unless_refused-same a b home request (first_there (rows_of_change a scene request)) _ _ same
    (changed-same a b home scene request (change_of directory request) (change_of-in directory request home about) same))

changing-same : (directory : Directory) (a b : ServerState) (event : Event) (home : ℕ) → IsAbout directory event.request home → home_at a home ≡ home_at b home
    → AreSame a b home event.request (changing_outcome directory a event) (changing_outcome directory b event)
unfolding made_in
changing-same directory a b event home about same =
    let of_a = scene_by whole_sight directory a event in
    let scenes = scene_at-same whole_sight directory a b event.who home event.request.path about same in
    let user : of_a.user ≡ Some home = scene_at-user whole_sight directory a event.who event.request.path ∙ about in
    let there : HaveSameHome a b of_a = subst (λ u. option_and_then (home_at a) u ≡ option_and_then (home_at b) u) (sym user) same in
    subst (λ scene. AreSame a b home event.request (made_in directory a event.request of_a) (made_in directory b event.request scene)) scenes
    (made_in-same directory a b home event.request of_a about there same)

reading-same : (directory : Directory) (a b : ServerState) (event : Event) (home : ℕ) → IsAbout directory event.request home → home_at a home ≡ home_at b home
    → AreSame a b home event.request (reading_outcome directory a event) (reading_outcome directory b event)
reading-same directory a b event home about same =
    (ap (λ scene. reading_reply scene event.moment event.request) (scene_at-same sight_of directory a b event.who home event.request.path about same), same)

where-same : (reads : Bool) (directory : Directory) (a b : ServerState) (event : Event) (home : ℕ) → IsAbout directory event.request home → home_at a home ≡ home_at b home
    → AreSame a b home event.request (outcome_where reads directory a event) (outcome_where reads directory b event)
where-same true directory a b event home about same = reading-same directory a b event home about same
where-same false directory a b event home about same = changing-same directory a b event home about same

outcome-same : (directory : Directory) (a b : ServerState) (event : Event) (home : ℕ) → IsAbout directory event.request home → home_at a home ≡ home_at b home
    → AreSame a b home event.request (outcome directory a event) (outcome directory b event)
unfolding outcome
outcome-same directory a b event home about same = where-same (is_reading event.request.method) directory a b event home about same

-- Other homes

changed-kept : (state : ServerState) (home other : ℕ) (scene : Scene) (how : Method) (change : Option Change) → IsIn home change → other ≢ home
    → home_at (state_of state (changed state scene how change)) other ≡ home_at state other
changed-kept state home other scene how None inside apart = refl
changed-kept state home other scene how (Some change) inside apart = effect-other change state home other inside apart

unless_refused-kept : (state : ServerState) (other : ℕ) (refusal : Option Reply) (made : Outcome) → home_at (state_of state made) other ≡ home_at state other
    → home_at (state_of state (unless_refused refusal made)) other ≡ home_at state other
unless_refused-kept state other None made kept = kept
unless_refused-kept state other (Some reply) made kept = refl

where-kept : (reads : Bool) (directory : Directory) (state : ServerState) (event : Event) (home other : ℕ) → IsAbout directory event.request home → other ≢ home
    → home_at (state_of state (outcome_where reads directory state event)) other ≡ home_at state other
where-kept true directory state event home other about apart = refl
where-kept false directory state event home other about apart =
    let scene = scene_by whole_sight directory state event in
    unless_refused-kept state other (first_there (rows_of_change state scene event.request)) (changed state scene event.request.method (change_of directory event.request))
    (changed-kept state home other scene event.request.method (change_of directory event.request) (change_of-in directory event.request home about) apart)

state_after-other : (directory : Directory) (state : ServerState) (event : Event) (home other : ℕ) → IsAbout directory event.request home → other ≢ home
    → home_at (state_after directory state event) other ≡ home_at state other
unfolding outcome
state_after-other directory state event home other about apart = where-kept (is_reading event.request.method) directory state event home other about apart

-- Sessions

-- on which session a request came is looked at nowhere
where-session : (reads : Bool) (directory : Directory) (state : ServerState) (event : Event) (session : ℕ) → outcome_where reads directory state (on_session session event) ≡ outcome_where reads directory state event
where-session true directory state event session = refl
where-session false directory state event session = refl

outcome-session : (directory : Directory) (state : ServerState) (event : Event) (session : ℕ) → outcome directory state (on_session session event) ≡ outcome directory state event
unfolding outcome
outcome-session directory state event session = where-session (is_reading event.request.method) directory state event session

-- The laws

pub homes_are_apart : HomesAreApart
homes_are_apart = record {
  reply = λ directory a b event home about same. (outcome-same directory a b event home about same).0;
  after = λ directory a b event home about same. (outcome-same directory a b event home about same).1;
  others = state_after-other;
}

pub sessions_play_no_part : SessionsPlayNoPart
sessions_play_no_part = record {
  reply = λ directory state event session. ap (reply_of event.request) (outcome-session directory state event session);
  after = λ directory state event session. ap (state_of state) (outcome-session directory state event session);
}
