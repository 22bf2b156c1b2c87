-- The laws of sight: views have no more and no less than what two states that look alike have in common, and no request that only reads tells such states apart (RFC 3744, 3; RFC 4791, 6.1.1).
-- Given: the users, two states, and who looks or asks.
use Rattle.std.specs.Prelude.{◌≡◌, ℕ, true, List, ◌∷◌, ◌++◌, length, Some}
use Rattle.cal_base.specs.Lists.NameMap.{value_at}
use Rattle.cal_model.specs.declared.request.Event.{Event}
use Rattle.cal_model.specs.Serving.EventReplies.{reply_to, state_after}
use Rattle.cal_model.specs.Serving.Outcomes.{is_reading}
use Rattle.cal_model.specs.Sight.LookingAlike.{LookAlike}
use Rattle.cal_model.specs.Sight.Views.{held_on, seen_by}
use Rattle.cal_model.specs.State.Changes.{without_calendar}
use Rattle.cal_model.specs.State.ServerState.{Directory, Calendar, Home, ServerState}

-- two states look alike to a user exactly where the user has one view of both
pub record ViewsDecide : Type 0 where
  pub alike : (directory : Directory) (a b : ServerState) (who : ℕ) → LookAlike directory a b who → seen_by directory a who ≡ seen_by directory b who
  pub seen : (directory : Directory) (a b : ServerState) (who : ℕ) → seen_by directory a who ≡ seen_by directory b who → LookAlike directory a b who

-- The reply to a request that only reads is the same in all states that look alike to its caller.
abbrev pub RepliesAreAlike : Type 0
RepliesAreAlike =
    (directory : Directory) (a b : ServerState) (event : Event) → is_reading event.request.method ≡ true → LookAlike directory a b event.who
    → reply_to directory a event ≡ reply_to directory b event

-- such a request leaves the state as it is
abbrev pub ReadingChangesNothing : Type 0
ReadingChangesNothing = (directory : Directory) (state : ServerState) (event : Event) → is_reading event.request.method ≡ true → state_after directory state event ≡ state

-- a state in which some homes stand before one and some behind it
abbrev pub homes_with : List Home → Home → List Home → ServerState
homes_with before home behind = record { homes = before ++ home ∷ behind }

-- no such reply shows whether there is a calendar on which its caller holds nothing
abbrev pub HiddenIsAbsent : Type 0
HiddenIsAbsent =
    (directory : Directory) (before behind : List Home) (home : Home) (name : List ℕ) (calendar : Calendar) (event : Event)
    → is_reading event.request.method ≡ true → value_at home.calendars name ≡ Some calendar → held_on directory (length before) event.who calendar ≡ 0
    → reply_to directory (homes_with before (without_calendar name home) behind) event ≡ reply_to directory (homes_with before home behind) event
