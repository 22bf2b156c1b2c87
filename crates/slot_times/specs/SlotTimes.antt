-- The free time that several calendars have in common, as a user sees them, and the text that tells it.
-- Given: the users, and what one of them sees of a state (`Sight.Views`), of which no more is used than the class of each second: who may see a calendar as busy or free learns nothing else of it. What a free time is says `FreeTimes` of `slot_finder`.
use Rattle.std.specs.Prelude.{◌≡◌, ℕ, ◌*◌, Bool, not, List, [], ◌∷◌, ◌++◌, flat_map, take, codes, is_none, is_some, Option, Some, None, option_and_then, option_to_list, ℤ}
use Rattle.std.specs.List.{list_any, position_from}
use Rattle.std.specs.Option.{option_map_or}
use Rattle.cal_model.specs.declared.object.Class.{Class}
use Rattle.cal_model.specs.declared.path.Path.{Path}
use Rattle.cal_model.specs.declared.path.Path.TheVariants.{Calendar}
use Rattle.cal_model.specs.declared.row.Range.{Range}
use Rattle.cal_model.specs.Busy.FreeBusyText.{utc_text}
use Rattle.cal_model.specs.Paths.TargetPaths.{target_path}
use Rattle.cal_model.specs.Sight.LookingAlike.{LookAlike}
use Rattle.cal_model.specs.Sight.Scenes.{scene_at}
use Rattle.cal_model.specs.Sight.Views.{Sight, View, seen_by}
use Rattle.cal_model.specs.State.ServerState.{Directory, ServerState, user_number}
use Rattle.slot_finder.specs.FreeTimes.{free_times}

-- What is asked: the name of the user who looks, the range, how many minutes a free time has at least, how many are wanted, and the paths of the calendars.
pub record Asked : Type 0 where
  pub user : List ℕ
  pub range : Range
  pub minutes : ℕ
  pub most : ℕ
  pub paths : List (List ℕ)

-- the calendar that a path names, if the user sees it; a path of anything else names none
abbrev pub calendar_seen : Directory → View → ℕ → Path → Option Sight
calendar_seen directory view who (Calendar user name) = (scene_at directory view who (Calendar user name)).calendar
calendar_seen directory view who other = None

-- the class of each second of the calendar of a path, where the user may see it as busy or free
abbrev pub busy_seen : Directory → View → ℕ → List ℕ → Option (ℤ → Option Class)
busy_seen directory view who text =
    option_and_then (λ (sight : Sight). sight.busy) (option_and_then (calendar_seen directory view who) (target_path text))

-- the number of the first path, counted from 1, that is of no calendar of which the user may see that
abbrev pub first_unseen : Directory → View → ℕ → List (List ℕ) → Option ℕ
first_unseen directory view who paths = position_from (λ text. is_none (busy_seen directory view who text)) 1 paths

-- The first word that is refused: 0 where no user has the name, and else the number of the first path that is of no calendar which the user may see as busy or free. A calendar that may not be seen so is refused as one that is not there.
abbrev pub refused_word : Directory → ServerState → Asked → Option ℕ
refused_word directory state asked =
    option_map_or (λ who. first_unseen directory (seen_by directory state who) who asked.paths) (user_number directory asked.user) (Some 0)

-- the classes of those that are seen
abbrev pub classes_seen : Directory → View → ℕ → List (List ℕ) → List (ℤ → Option Class)
classes_seen directory view who paths = flat_map (λ text. option_to_list (busy_seen directory view who text)) paths

-- a second is free where it has no class in any calendar
abbrev pub is_free_in : List (ℤ → Option Class) → ℤ → Bool
is_free_in classes t = not (list_any (λ (class : ℤ → Option Class). is_some (class t)) classes)

-- the first free times of the range, as many as are asked for; a minute has 60 seconds
abbrev pub times_seen : Directory → View → ℕ → Asked → List Range
times_seen directory view who asked = take asked.most (free_times (is_free_in (classes_seen directory view who asked.paths)) asked.range (60 * asked.minutes))

-- a line for each free time, or one that says that there is none
abbrev pub time_line : Range → List ℕ
time_line time = codes "free " ++ (utc_text time.start.0 ++ (codes " " ++ (utc_text time.end.0 ++ codes "\n")))

abbrev pub times_text : List Range → List ℕ
times_text [] = codes "none\n"
times_text (time ∷ times) = flat_map time_line (time ∷ times)

-- What is printed in a state: the text of the user's free times; nothing where no user has the name.
abbrev pub printed : Directory → ServerState → Asked → List ℕ
printed directory state asked = option_map_or (λ who. times_text (times_seen directory (seen_by directory state who) who asked)) (user_number directory asked.user) []

-- In all states that look alike to the user the same word is refused, and the same text is printed (RFC 3744, 3; RFC 4791, 6.1.1).
pub record SlotsAreAlike : Type 0 where
  pub refused : (directory : Directory) (a b : ServerState) (asked : Asked) → ((who : ℕ) → user_number directory asked.user ≡ Some who → LookAlike directory a b who)
      → refused_word directory a asked ≡ refused_word directory b asked
  pub text : (directory : Directory) (a b : ServerState) (asked : Asked) → ((who : ℕ) → user_number directory asked.user ≡ Some who → LookAlike directory a b who)
      → printed directory a asked ≡ printed directory b asked
