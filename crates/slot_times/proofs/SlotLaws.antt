-- In states that look alike to the user of `slot` the same word is refused and the same text is printed: both go by what the user sees alone.
use Rattle.std.proofs.Common.{◌≡◌, ℕ, [], Option, Some, None, refl, ap}
use Rattle.std.specs.Option.{option_map_or}
use Rattle.cal_model.specs.Sight.LookingAlike.{LookAlike}
use Rattle.cal_model.specs.Sight.Views.{View, seen_by}
use Rattle.cal_model.specs.State.ServerState.{Directory, ServerState, user_number}
use Rattle.cal_model.proofs.Sight.LookingAlikeLaws.{seen_by-LookAlike}
use Rattle.slot_times.specs.SlotTimes.{SlotsAreAlike, first_unseen, times_seen, times_text}

-- what goes by the view of a user who may be there
by_view : {X : Type 0} (directory : Directory) (a b : ServerState) (f : ℕ → View → X) (other : X) (user : Option ℕ) → ((who : ℕ) → user ≡ Some who → LookAlike directory a b who)
    → option_map_or (λ who. f who (seen_by directory a who)) user other ≡ option_map_or (λ who. f who (seen_by directory b who)) user other
by_view directory a b f other None alike = refl
by_view directory a b f other (Some who) alike = ap (f who) (seen_by-LookAlike directory a b who (alike who refl))

pub slots_alike : SlotsAreAlike
slots_alike = record {
  refused = λ directory a b asked alike. by_view directory a b (λ who view. first_unseen directory view who asked.paths) (Some 0) (user_number directory asked.user) alike;
  text = λ directory a b asked alike. by_view directory a b (λ who view. times_text (times_seen directory view who asked)) [] (user_number directory asked.user) alike;
}
