-- The runs of calendars that are there leave those seconds of the range free that have no class in any of them; so their free times are those of the calendars.
use Rattle.std.proofs.Common.{◌≡◌, ℕ, Bool, not, ◌||◌, List, [], ◌∷◌, ◌++◌, map, Option, Some, None, refl, sym, ap, subst, ◌∙◌, arith, append_assoc, append-nil}
use Rattle.std.specs.Prelude.{ℤ, ◌≤ℤ◌, ◌<ℤ◌, All, IsSome, is_some, option_map, option_to_list, take}
use Rattle.std.specs.List.{list_any}
use Rattle.std.proofs.lemmas.Int.{ints}
use Rattle.std.proofs.lemmas.List.Elements.{All-head, All-nil, All-push, All-tail, All-take, All-weaker}
use Rattle.cal_model.specs.declared.object.Class.{Class}
use Rattle.cal_model.specs.declared.row.Range.{Range}
use Rattle.cal_model.specs.Busy.BusyRuns.{calendar_times, covers, runs}
use Rattle.cal_model.specs.Reports.FloatingZone.{floating_zone}
use Rattle.cal_model.specs.Sight.Views.{served_class}
use Rattle.cal_model.specs.State.ServerState.{Calendar, ServerState, calendar_at, objects_of, own_zone}
use Rattle.cal_model.proofs.Busy.BusyRunLaws.{AreRuns-runs}
use Rattle.cal_model.proofs.Sight.ViewLaws.{class_served}
use Rattle.freebusy.specs.declared.busy.Run.{Run}
use Rattle.freebusy.specs.Times.{time_of_run}
use Rattle.slot_finder.specs.FreeTimes.{AreInOrder, free_of_runs, free_times}
use Rattle.slot_finder.proofs.FreeTimeLaws.{LiesIn, free_times-same, free_times_within}
use Rattle.slot_finder.proofs.OrderedRuns.{has_class, runs_in_order}
use Rattle.slot_times.specs.SlotCalendars.{AreRunsAt, AreRunsOf, IsServedRange, IsThere, IsWritable, classes_of, times_of}
use Rattle.slot_times.specs.SlotTimes.{is_free_in}
use Rattle.slot_times.specs.declared.slot_calendars.CalendarPlace.{CalendarPlace}

calendar_there : (o : Option Calendar) → IsSome o → (c : Calendar) × (o ≡ Some c)
calendar_there None e = absurd cc
calendar_there (Some c) e = (c, refl)

module _ (state : ServerState) (range : Range) where
  -- One calendar

  -- a second of the range is in a run exactly where it has a class
  busy_second : (c : Calendar) (t : ℤ) → IsServedRange range → range.start.0 ≤ℤ t → t <ℤ range.end.0
      → list_any (covers t) (runs (calendar_times (floating_zone None (own_zone c.texts)) (objects_of c.objects)) range) ≡ is_some (served_class c t)
  busy_second c t served from before =
      let times = calendar_times (floating_zone None (own_zone c.texts)) (objects_of c.objects) in
      let first = served.0 in
      let last = served.1 in
      sym (has_class (runs times range) t) ∙ ap is_some ((AreRuns-runs times range).classes t from before)
      ∙ ap is_some (sym (class_served c t (omega (arith, ints, first, from)) (omega (arith, ints, last, before))))

  -- the runs of a calendar that is there stand in order
  pub in_order : (place : CalendarPlace) (found : List Run) → IsThere state place → AreRunsAt state range place found → AreInOrder found
  in_order place found there are =
      let known = calendar_there (calendar_at state place.home place.name) there in
      runs_in_order (calendar_times (floating_zone None (own_zone known.0.texts)) (objects_of known.0.objects)) range found (are known.0 known.1)

  -- All of them

  busy_in_any : (t : ℤ) → IsServedRange range → range.start.0 ≤ℤ t → t <ℤ range.end.0 → (places : List CalendarPlace) (found : List (List Run)) → All (IsThere state) places → AreRunsOf state range places found
      → list_any (list_any (covers t)) (map (map time_of_run) found) ≡ list_any (λ (class : ℤ → Option Class). is_some (class t)) (classes_of state places)
  busy_in_any t served from before [] [] there are = refl
  busy_in_any t served from before [] (run ∷ found) there are = absurd are
  busy_in_any t served from before (place ∷ places) [] there are = absurd are
  busy_in_any t served from before (place ∷ places) (own ∷ found) there are =
      let known = calendar_there (calendar_at state place.home place.name) (All-head (IsThere state) place places there) in
      let here : list_any (covers t) (map time_of_run own) ≡ is_some (served_class known.0 t) = ap (list_any (covers t)) (are.0 known.0 known.1) ∙ busy_second known.0 t served from before in
      let classes : classes_of state (place ∷ places) ≡ served_class known.0 ∷ classes_of state places =
      ap (λ (o : Option Calendar). option_to_list (option_map served_class o) ++ classes_of state places) known.1 in
      ap (λ (b : Bool). b || list_any (list_any (covers t)) (map (map time_of_run) found)) here
      ∙ ap (λ (b : Bool). is_some (served_class known.0 t) || b) (busy_in_any t served from before places found (All-tail (IsThere state) place places there) are.1)
      ∙ sym (ap (list_any (λ (class : ℤ → Option Class). is_some (class t))) classes)

  -- Their free times are those of the runs.
  pub times_known : (seconds most : ℕ) (places : List CalendarPlace) (found : List (List Run)) (times : List Range) → IsServedRange range → All (IsThere state) places → AreRunsOf state range places found
      → times ≡ take most (free_times (free_of_runs found) range seconds) → times ≡ times_of state places range seconds most
  times_known seconds most places found times served there are is =
      is ∙ ap (take most) (free_times-same (free_of_runs found) (is_free_in (classes_of state places)) range seconds (λ t from before. ap not (busy_in_any t served from before places found there are)))

  -- The runs of calendars that are gone through

  pub record AreRunsSo (places rest : List CalendarPlace) (found : List (List Run)) : Type 0 where
    pub made : (more : List (List Run)) → AreRunsOf state range rest more → AreRunsOf state range places (found ++ more)
    pub order : All AreInOrder found
    pub left : All (IsThere state) rest

  pub runs_first : (places : List CalendarPlace) (found : List (List Run)) → found ≡ [] → All (IsThere state) places → AreRunsSo places places found
  runs_first places found none there = record {
    made = λ more all. subst (λ (xs : List (List Run)). AreRunsOf state range places (xs ++ more)) (sym none) all;
    order = subst (All AreInOrder) (sym none) (All-nil AreInOrder);
    left = there;
  }

  pub runs_next : (places rest behind : List CalendarPlace) (place : CalendarPlace) (found next : List (List Run)) (own : List Run) → rest ≡ place ∷ behind
      → AreRunsSo places rest found → AreRunsAt state range place own → next ≡ found ++ own ∷ [] → AreRunsSo places behind next
  runs_next places rest behind place found next own is so here pushed =
      let there = subst (All (IsThere state)) is so.left in
      record {
        made = λ more all.
            subst (AreRunsOf state range places) (sym (ap (λ (xs : List (List Run)). xs ++ more) pushed ∙ append_assoc found (own ∷ []) more))
            (so.made (own ∷ more) (subst (λ (xs : List CalendarPlace). AreRunsOf state range xs (own ∷ more)) (sym is) (here, all)));
        order = subst (All AreInOrder) (sym pushed) (All-push AreInOrder found own so.order (in_order place own (All-head (IsThere state) place behind there) here));
        left = All-tail (IsThere state) place behind there;
      }

  pub runs_end : (places rest : List CalendarPlace) (found : List (List Run)) → rest ≡ [] → AreRunsSo places rest found → AreRunsOf state range places found
  runs_end places rest found none so =
      subst (AreRunsOf state range places) (append-nil found) (so.made [] (subst (λ (xs : List CalendarPlace). AreRunsOf state range xs []) (sym none) tt))

-- The free times of a range that is served can be written.
pub writable : (state : ServerState) (places : List CalendarPlace) (range : Range) (seconds most : ℕ) → IsServedRange range → All IsWritable (times_of state places range seconds most)
writable state places range seconds most served =
    All-weaker (LiesIn range) IsWritable
    (λ time within.
    let first = served.0 in
    let last = served.1 in
    let a = within.0 in
    let b = within.1 in
    let z = within.2 in
    ((grind (arith, ints), grind (arith, ints)), (grind (arith, ints), grind (arith, ints))))
    (times_of state places range seconds most)
    (All-take (LiesIn range) most (free_times (is_free_in (classes_of state places)) range seconds) (free_times_within (is_free_in (classes_of state places)) range seconds))
