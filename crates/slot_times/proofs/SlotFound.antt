-- What is printed in a state, by the calendars that were found in it.
use Rattle.std.proofs.Common.{◌≡◌, ℕ, ◌*◌, List, [], Option, Some, None, sym, ap, ◌∙◌}
use Rattle.std.specs.Prelude.{ℤ, take, Result, Ok, Err}
use Rattle.std.specs.Option.{option_map_or}
use Rattle.cal_model.specs.declared.object.Class.{Class}
use Rattle.cal_model.specs.Sight.Views.{seen_by}
use Rattle.cal_model.specs.State.ServerState.{Directory, ServerState, user_number}
use Rattle.slot_finder.specs.FreeTimes.{free_times}
use Rattle.slot_times.specs.SlotCalendars.{AreCalendarsOf, times_of}
use Rattle.slot_times.specs.SlotAnswers.{IsSeenAs, IsTextOf}
use Rattle.slot_times.specs.SlotTimes.{Asked, first_unseen, is_free_in, printed, refused_word, times_seen, times_text}
use Rattle.slot_times.specs.declared.slot_calendars.CalendarPlace.{CalendarPlace}
use Rattle.slot_times.specs.declared.slot_calendars.Unseen.{Unseen}
use Rattle.slot_times.specs.declared.slot_calendars.Unseen.TheVariants.{Word, NoMemory}
use Rattle.slot_times.proofs.SlotPaths.{same_classes}

module _ (directory : Directory) (state : ServerState) (asked : Asked) where
  -- where no user has the name
  pub no_user : None ≡ user_number directory asked.user → refused_word directory state asked ≡ Some 0
  no_user none = sym (ap (λ (user : Option ℕ). option_map_or (λ who. first_unseen directory (seen_by directory state who) who asked.paths) user (Some 0)) none)

  word_by : (who : ℕ) → user_number directory asked.user ≡ Some who → refused_word directory state asked ≡ first_unseen directory (seen_by directory state who) who asked.paths
  word_by who known = ap (λ (user : Option ℕ). option_map_or (λ who. first_unseen directory (seen_by directory state who) who asked.paths) user (Some 0)) known

  printed_by : (who : ℕ) → user_number directory asked.user ≡ Some who → printed directory state asked ≡ times_text (times_seen directory (seen_by directory state who) who asked)
  printed_by who known = ap (λ (user : Option ℕ). option_map_or (λ who. times_text (times_seen directory (seen_by directory state who) who asked)) user []) known

  -- where a path has no calendar
  pub word_hidden : (who : ℕ) (why : Unseen) → user_number directory asked.user ≡ Some who → AreCalendarsOf directory state who asked.paths (Err why) → IsSeenAs directory state asked (Err why)
  word_hidden who (Word place) known hidden = word_by who known ∙ hidden
  word_hidden who NoMemory known hidden = tt

  -- where all have one
  text_seen : (who : ℕ) (places : List CalendarPlace) (text : List ℕ) → user_number directory asked.user ≡ Some who → AreCalendarsOf directory state who asked.paths (Ok places)
      → text ≡ times_text (times_of state places asked.range (60 * asked.minutes) asked.most) → IsSeenAs directory state asked (Ok text)
  text_seen who places text known found is = (
    word_by who known ∙ found.0,
    is
        ∙ ap (λ (classes : List (ℤ → Option Class)). times_text (take asked.most (free_times (is_free_in classes) asked.range (60 * asked.minutes)))) (same_classes directory state who asked.paths places found.1)
        ∙ sym (printed_by who known),
  )

  pub told_seen : (who : ℕ) (places : List CalendarPlace) (told : Result (List ℕ) Unseen) → user_number directory asked.user ≡ Some who → AreCalendarsOf directory state who asked.paths (Ok places)
      → IsTextOf (times_of state places asked.range (60 * asked.minutes) asked.most) told → IsSeenAs directory state asked told
  told_seen who places (Ok text) known found is = text_seen who places text known found is
  told_seen who places (Err (Word place)) known found is = absurd is
  told_seen who places (Err NoMemory) known found is = tt
