-- The rows of the methods as they are looked at, once the calendar and the home are known (RFC 4918, 11.5; RFC 4791, 5.3.2.1).
-- Given: a state, a home's number, and what a PUT puts where.
use Rattle.std.specs.Prelude.{ℕ, ◌+◌, Bool, true, nat_lt, nat_le, List, length, Option, option_map}
use Rattle.std.specs.Option.{option_map_or}
use Rattle.cal_base.specs.Lists.NameMap.{Named}
use Rattle.cal_model.specs.declared.reply.Reply.{Reply}
use Rattle.cal_model.specs.Refusals.Preconditions.{holder, conflict}
use Rattle.cal_model.specs.Refusals.RefusalReplies.{refuse}
use Rattle.cal_model.specs.Refusals.RequestLimits.{calendars_limit}
use Rattle.cal_model.specs.State.ServerState.{Calendar, Home, ServerState, home_at}
use Rattle.cal_model.specs.Words.Limits.{home_limit, change_cost}
use Rattle.cal_book.specs.declared.changes.places.Target.{Target}
use Rattle.cal_book.specs.Checking.Places.{may_read}

-- the home of a number has not so much left of what it may accept
abbrev pub is_full_at : ServerState → ℕ → ℕ → Bool
is_full_at state home size = option_map_or (λ (h : Home). nat_lt home_limit (h.accepted + change_cost size)) (home_at state home) true

-- it has as many calendars as it may have
abbrev pub has_all_calendars_at : ServerState → ℕ → Bool
has_all_calendars_at state home = option_map_or (λ (h : Home). nat_le calendars_limit (length h.calendars)) (home_at state home) true

-- the name of the object that has the UID of another, or of the one that has another UID
abbrev pub holder_name : Named (List ℕ) → List ℕ → List ℕ → Option (List ℕ)
holder_name objects name octets = option_map (λ (entry : List ℕ × List ℕ). entry.0) (holder objects name octets)

-- the row of a PUT for that
abbrev pub conflict_row : Target → Calendar → List ℕ → Option Reply
conflict_row target within octets = refuse (conflict (may_read target) target.user.now target.place.calendar.now within.objects target.object.now octets)
