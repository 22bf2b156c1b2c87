-- The paths that are gone through, of which each so far names a calendar that the user may see as busy or free.
use Rattle.std.proofs.Common.{◌≡◌, ℕ, ◌+◌, Bool, List, [], ◌∷◌, ◌++◌, length, Option, Some, None, refl, sym, ap, subst, ◌∙◌, arith, append_assoc, append-nil}
use Rattle.std.specs.Prelude.{ℤ, is_none, All, Err, IsSome, option_map, option_to_list}
use Rattle.std.specs.List.{AllZip, position_from}
use Rattle.std.proofs.lemmas.Bool.{cond-true, cond-false}
use Rattle.std.proofs.lemmas.List.Elements.{All-nil, All-cons}
use Rattle.cal_model.specs.declared.object.Class.{Class}
use Rattle.cal_model.specs.Sight.Views.{seen_by, served_class}
use Rattle.cal_model.specs.State.ServerState.{Directory, ServerState, calendar_at}
use Rattle.slot_times.specs.SlotCalendars.{AreCalendarsOf, IsCalendarOf, IsPut, IsThere, classes_of}
use Rattle.slot_times.specs.SlotTimes.{busy_seen, classes_seen, first_unseen}
use Rattle.slot_times.specs.declared.slot_calendars.CalendarPlace.{CalendarPlace}
use Rattle.slot_times.specs.declared.slot_calendars.Unseen.{Unseen}
use Rattle.slot_times.specs.declared.slot_calendars.Unseen.TheVariants.{Word, NoMemory}

module _ (directory : Directory) (state : ServerState) (who : ℕ) where
  abbrev hidden : List ℕ → Bool
  hidden text = is_none (busy_seen directory (seen_by directory state who) who text)

  abbrev IsOf : List ℕ → CalendarPlace → Type 0
  IsOf text place = IsCalendarOf directory state who text (Some place)

  pub record AreFoundSo (paths rest : List (List ℕ)) (found : List CalendarPlace) (number : ℕ) : Type 0 where
    pub numbered : position_from hidden 1 paths ≡ position_from hidden number rest
    pub counted : number + length rest ≡ length paths + 1
    pub placed : (places : List CalendarPlace) → AllZip IsOf rest places → AllZip IsOf paths (found ++ places)

  pub paths_first : (paths : List (List ℕ)) (found : List CalendarPlace) (number : ℕ) → found ≡ [] → number ≡ 1 → AreFoundSo paths paths found number
  paths_first paths found number none one = record {
    numbered = ap (λ (n : ℕ). position_from hidden n paths) (sym one);
    counted = omega (arith, one);
    placed = λ places all. subst (λ (xs : List CalendarPlace). AllZip IsOf paths (xs ++ places)) (sym none) all;
  }

  pub paths_next : (paths rest behind : List (List ℕ)) (path text : List ℕ) (found more : List CalendarPlace) (number next : ℕ) → rest ≡ path ∷ behind → text ≡ path
      → AreFoundSo paths rest found number → next ≡ number + 1 → (place : CalendarPlace) × IsCalendarOf directory state who text (Some place) × (more ≡ found ++ place ∷ []) → AreFoundSo paths behind more next
  paths_next paths rest behind path text found more number next is same so one h =
      let put = subst (λ (t : List ℕ). (place : CalendarPlace) × IsCalendarOf directory state who t (Some place) × (more ≡ found ++ place ∷ [])) same h in
      let counted = so.counted in
      let long = ap length is in
      record {
        numbered = so.numbered ∙ ap (position_from hidden number) is ∙ cond-false (hidden path) (Some number) (position_from hidden (number + 1) behind) (ap is_none put.1.2)
            ∙ ap (λ (n : ℕ). position_from hidden n behind) (sym one);
        counted = omega (arith, counted, long, one);
        placed = λ places all.
            subst (AllZip IsOf paths) (sym (ap (λ (xs : List CalendarPlace). xs ++ places) put.2 ∙ append_assoc found (put.0 ∷ []) places))
            (so.placed (put.0 ∷ places) (subst (λ (xs : List (List ℕ)). AllZip IsOf xs (put.0 ∷ places)) (sym is) (put.1, all)));
      }

  pub path_refused : (T : Type 0) (why : Unseen) (paths rest behind : List (List ℕ)) (path text : List ℕ) (found more : List CalendarPlace) (number told : ℕ) → rest ≡ path ∷ behind → text ≡ path
      → AreFoundSo paths rest found number → told ≡ number → IsPut {T = T} directory state who text told found more (Err why) → AreCalendarsOf directory state who paths (Err why)
  path_refused T (Word place) paths rest behind path text found more number told is said so same put =
      so.numbered ∙ ap (position_from hidden number) is
      ∙ cond-true (hidden path) (Some number) (position_from hidden (number + 1) behind) (ap hidden (sym said) ∙ ap is_none put.1)
      ∙ ap Some (sym (put.0 ∙ same))
  path_refused T NoMemory paths rest behind path text found more number told is said so same put = tt

  pub paths_end : (paths rest : List (List ℕ)) (found : List CalendarPlace) (number : ℕ) → rest ≡ [] → AreFoundSo paths rest found number
      → (first_unseen directory (seen_by directory state who) who paths ≡ None) × AllZip IsOf paths found
  paths_end paths rest found number none so = (
    so.numbered ∙ ap (position_from hidden number) none,
    subst (AllZip IsOf paths) (append-nil found) (so.placed [] (subst (λ (xs : List (List ℕ)). AllZip IsOf xs []) (sym none) tt)),
  )

  -- The calendars that are found are there.
  pub all_there : (paths : List (List ℕ)) (places : List CalendarPlace) → AllZip IsOf paths places → All (IsThere state) places
  all_there [] [] are = All-nil (IsThere state)
  all_there [] (place ∷ places) are = absurd are
  all_there (path ∷ paths) [] are = absurd are
  all_there (path ∷ paths) (place ∷ places) are =
      All-cons (IsThere state) place places (subst IsSome (sym are.0.1) refl) (all_there paths places are.1)

  -- Their classes are those that the user sees.
  pub same_classes : (paths : List (List ℕ)) (places : List CalendarPlace) → AllZip IsOf paths places → classes_of state places ≡ classes_seen directory (seen_by directory state who) who paths
  same_classes [] [] are = refl
  same_classes [] (place ∷ places) are = absurd are
  same_classes (path ∷ paths) [] are = absurd are
  same_classes (path ∷ paths) (place ∷ places) are =
      let here : option_map served_class (calendar_at state place.home place.name) ≡ busy_seen directory (seen_by directory state who) who path =
      ap (option_map served_class) are.0.1 ∙ sym are.0.2 in
      ap (λ (o : Option (ℤ → Option Class)). option_to_list o ++ classes_of state places) here
      ∙ ap (λ (rest : List (ℤ → Option Class)). option_to_list (busy_seen directory (seen_by directory state who) who path) ++ rest) (same_classes paths places are.1)
