-- What a question about free times is answered in a state.
-- Given: the users, and a state.
use Rattle.std.specs.Prelude.{◌≡◌, ℕ, List, Result, Ok, Err, Some, None}
use Rattle.cal_model.specs.declared.row.Range.{Range}
use Rattle.cal_model.specs.State.ServerState.{Directory, ServerState}
use Rattle.slot_times.specs.SlotTimes.{Asked, printed, refused_word, times_text}
use Rattle.slot_times.specs.declared.slot_calendars.Unseen.{Unseen}
use Rattle.slot_times.specs.declared.slot_calendars.Unseen.TheVariants as unseen
use Rattle.slot_times.specs.declared.slot_view.Question.{Question}

-- what a question asks
abbrev pub asked_in : Question → Asked
asked_in question = record { user = question.user.now; range = question.range; minutes = question.minutes; most = question.most; paths = question.paths.now }

-- what is printed in a state, or the first word that is refused there
abbrev pub IsSeenAs : Directory → ServerState → Asked → Result (List ℕ) Unseen → Type 0
IsSeenAs directory state asked (Ok text) = (refused_word directory state asked ≡ None) × (text ≡ printed directory state asked)
IsSeenAs directory state asked (Err (unseen.Word place)) = refused_word directory state asked ≡ Some place
IsSeenAs directory state asked (Err unseen.NoMemory) = Unit {0}

-- the text of these times, or a want of memory
abbrev pub IsTextOf : List Range → Result (List ℕ) Unseen → Type 0
IsTextOf times (Ok text) = text ≡ times_text times
IsTextOf times (Err (unseen.Word place)) = ⊥
IsTextOf times (Err unseen.NoMemory) = Unit {0}
