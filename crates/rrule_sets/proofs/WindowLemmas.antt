-- The starts in the digits that a window needs are enough to find its rows, and cost no more than the window does.
use Rattle.std.proofs.Common.{◌≡◌, ℕ, ◌+◌, ◌*◌, ◌<◌, ◌≤◌, get_or, List, [], ◌∷◌, ◌++◌, length, map, refl, sym, ap, ap₂, subst, ◌∙◌, arith, Bool, true, false, ℤ, pos, negsuc, ◌+ℤ◌, ◌-ℤ◌, ◌*ℤ◌, ◌<ℤ◌, ◌≤ℤ◌, inl, inr}
use Rattle.std.specs.Prelude.{All, filter, filter_map, flat_map, not, int_le, int_lt, option_to_list, is_none, option_and_then, slice_get, Option, Some, None, if◌then◌else◌}
use Rattle.std.specs.Int.{int_div_euclid}
use Rattle.std.proofs.lemmas.Int.{ints}
use Rattle.std.proofs.lemmas.Bool.{cases_Bool}
use Rattle.std.proofs.lemmas.List.{append-nil}
use Rattle.std.proofs.lemmas.List.Elements.{All-head, All-tail, All-nil, All-cons, All-append, All-map, All-filter, All-weaker, All-contains, filter_map-append}
use Rattle.cal_moment.specs.Calendar.{epoch_day, seconds_since_1970}
use Rattle.cal_moment.specs.declared.stamp.Stamp.{Stamp}
use Rattle.cal_moment.specs.declared.stamp.Stamp.TheVariants.{Date, Floating, Zoned, Utc}
use Rattle.cal_model.specs.declared.object.Component.{Component}
use Rattle.cal_model.specs.declared.object.Extent.{Extent}
use Rattle.cal_model.specs.declared.object.Extent.TheVariants as extent
use Rattle.cal_model.specs.declared.object.Kind.{Kind}
use Rattle.cal_model.specs.declared.object.Kind.TheVariants.{Event, Todo, Journal, FreeBusy}
use Rattle.cal_model.specs.declared.object.Object.{Object}
use Rattle.cal_model.specs.declared.row.Row.{Row}
use Rattle.cal_model.specs.declared.zone.ZoneTable.{ZoneTable}
use Rattle.cal_model.specs.Instances.Alignment.{Aligned, at, on_day, align, kind_of, midnight_of, names_start, reading_of, value_of}
use Rattle.cal_model.specs.Instances.Starts.{end_from, end_of_instance, own_start, own_start_of, start_or_due, starts_from, starts_of}
use Rattle.cal_model.specs.Instances.Rows.{Numbered, dated_rows, first_of, has_id, ids_start, in_order, is_named, lies_in_window, Governor, are_served, governors, greatest_id, moved_digits, moves_later, move_of, id_of_override, master_row, master_rows, master_stamp, masters, named_by, nominal_beside, numbered, numbered_from, override_row, overrides, row_at, row_of, rows_in, starts, undated_row, undated_rows, window_at, window_seconds}
use Rattle.cal_model.specs.Objects.ObjectFacts.{IsReadObject}
use Rattle.cal_model.specs.Ranges.Cost.{day_named, days_apart, days_earlier, days_named_from, greatest, last_day, last_of_window, natural_part, number_of_day}
use Rattle.cal_model.specs.Recurrence.RecurrenceSet.{every_moment}
use Rattle.cal_model.specs.Words.Integers.{same_int}
use Rattle.cal_model.proofs.Instances.DayLaws.{midnight_of-holds, midnight_of-is}
use Rattle.cal_model.proofs.Instances.EachRowLemmas.{All-greatest, All-numbered_from}
use Rattle.cal_model.proofs.Instances.GovernedRows.{Governs, row_at-holds, moved_to, moved_row-holds}
use Rattle.cal_model.proofs.Instances.KeptStarts.{stand_in, stand_in_by, rows-stand_in}
use Rattle.cal_model.proofs.Instances.RowsInOrder.{StandsAt, IsGovernor, governors_known, GiveSameId, HasOneRow, ids_of_master, master_has, same_own_rows, ids-given, masters_stand, overrides_stand}
use Rattle.cal_model.proofs.Ranges.MovedWindows.{moved-by_last, moved-near_window}
use Rattle.cal_model.specs.Ranges.Nearness.{HasOffsetsBelow, HasShortOffsets}
use Rattle.cal_model.specs.Words.Limits.{first_date, last_date}
use Rattle.cal_model.specs.Words.Lists.{first_or_else}
use Rattle.cal_model.proofs.Instances.ServedStarts.{IsStatedBy, starts-served}
use Rattle.cal_model.proofs.Ranges.NearRanges.{window-holds}
use Rattle.cal_model.proofs.Ranges.RowBounds.{instant-near, local-near}
use Rattle.cal_model.proofs.Ranges.WindowLaws.{lies_in_window-one}
use Rattle.cal_model.proofs.Words.AllLemmas.{All-each_part, All-everywhere, All-flat_map, All-left, All-option, All-right, All-slice_get}
use Rattle.cal_model.proofs.Words.EachLemmas.{both_hold}
use Rattle.cal_model.proofs.Words.IntegerLemmas.{same_int-self, same_int-true}
use Rattle.override_merge.specs.Conversions.{HasRowTimes, IsRowTime}
use Rattle.override_merge.specs.ExpandableComponents.{IsExpandable}
use Rattle.override_merge.specs.NamedStarts.{days_in, named_beside}
use Rattle.rrule_sets.specs.declared.range.Digits.{Digits}
use Rattle.rrule_sets.specs.AskedStarts.{instance_row, instances_in}
use Rattle.rrule_sets.specs.DigitRanges.{in_digits, starts_in}
use Rattle.rrule_sets.specs.MasterRows.{governed_rows, masters_from, rows_of_master, starts_within}
use Rattle.rrule_sets.specs.NeededDigits.{EndsBy, HasDay, HasMoved, HasWindow, days_needed, days_of_start, id_days}
use Rattle.rrule_sets.proofs.LastDayLemmas.{moved_within, named_within, window_within}
use Rattle.rrule_sets.proofs.WindowedRows.{KeepsGoverning, KeepsNamed, KeepsNamedBy, KeepsWindow, filter_within, rows_in-kept}

pub filter-none : {X : Type 0} (p : X → Bool) (xs : List X) → All (λ x. p x ≡ false) xs → filter p xs ≡ []
filter-none p [] all = refl
filter-none p (x ∷ xs) all = let here = All-head (λ x. p x ≡ false) x xs all in rw here (filter-none p xs (All-tail (λ x. p x ≡ false) x xs all))

-- an object beside whose stamps no id is aligned has no row in a window
pub rows_in-none : (object : Object) (window : ℤ) → None ≡ ids_start object → rows_in object window ≡ []
rows_in-none object window none =
    ap (λ (ids : Option Stamp). filter (lies_in_window object window) (undated_rows object ++ flat_map (dated_rows (row_at every_moment object) every_moment object) (option_to_list ids))) (sym none)
    ∙ (ap (filter (lies_in_window object window)) (append-nil (undated_rows object))
    ∙ filter-none (lies_in_window object window) (undated_rows object)
    (All-map (λ row. lies_in_window object window row ≡ false) undated_row undated (All-everywhere (λ n. lies_in_window object window (undated_row n) ≡ false) (λ n. refl) undated)))
  where
    undated : List Numbered
    undated = filter (λ (n : Numbered). is_none (own_start n.component)) (numbered object)

-- The stamp of the ids is that from which the master starts.

stamp_of_own : (kind : Kind) (start : Option Stamp) (said : Extent) (s : Stamp) → own_start_of kind start said ≡ Some s → start_or_due kind start said ≡ Some s
stamp_of_own FreeBusy start (extent.End e) s own = own
stamp_of_own FreeBusy start (extent.Due e) s own = absurd cc
stamp_of_own FreeBusy start (extent.Lasting l) s own = absurd cc
stamp_of_own FreeBusy start extent.Point s own = absurd cc
stamp_of_own FreeBusy start extent.WholeDay s own = absurd cc
stamp_of_own FreeBusy start extent.None s own = absurd cc
stamp_of_own Event start said s own = own
stamp_of_own Todo start said s own = own
stamp_of_own Journal start said s own = own

pub ids_first : (object : Object) (s : Stamp) (n : Numbered) (rest : List Numbered) → masters object ≡ n ∷ rest → own_start n.component ≡ Some s → ids_start object ≡ Some s
ids_first object s n rest first own =
    let stamp : master_stamp n ≡ Some s = stamp_of_own n.component.kind n.component.start n.component.extent s own in
    let others = filter_map (λ (m : Numbered). m.component.recurrence_id) (overrides object) in
    let its : first_of (filter_map master_stamp (n ∷ rest) ++ others) ≡ Some s = rw stamp refl in
    ap (λ (ns : List Numbered). first_of (filter_map master_stamp ns ++ others)) first ∙ its

pub ids_own : (object : Object) (ids s : Stamp) (n : Numbered) (rest : List Numbered) → Some ids ≡ ids_start object → masters object ≡ n ∷ rest → own_start n.component ≡ Some s → ids ≡ s
ids_own object ids s n rest e first own = let same : Some ids ≡ Some s = e ∙ ids_first object s n rest first own in cc

-- A range of digits keeps what lies in it.

in_digits-of : (range : Digits) (l : ℤ) → range.low ≤ℤ l → l <ℤ range.high → in_digits range l ≡ true
in_digits-of range l from to =
    let a : int_le range.low l ≡ true = grind (arith, ints, from) in
    let b : int_lt l range.high ≡ true = grind (arith, ints, to) in
    rw (a, b) refl

window_kept : (range : Digits) (window l : ℤ) → HasWindow window range → window_at l ≡ window → in_digits range l ≡ true
window_kept range window l has e =
    let holds = window-holds l in
    let from = has.from in
    let to = has.to in
    in_digits-of range l (omega (arith, ints, holds, from, e)) (omega (arith, ints, holds, to, e))

day_kept : (range : Digits) (midnight l : ℤ) → HasDay range midnight → midnight ≡ midnight_of l → in_digits range l ≡ true
day_kept range midnight l has e =
    let holds = midnight_of-holds l in
    let from = has.from in
    let to = has.to in
    in_digits-of range l (omega (arith, ints, holds, from, e)) (omega (arith, ints, holds, to, e))

module _ (object : Object) (ids : Stamp) (window : ℤ) (range : Digits) (aligned : Some ids ≡ ids_start object) where
  abbrev keep : ℤ → Bool
  keep r = starts_in object.zones ids range r

  abbrev lies : Row → Bool
  lies = lies_in_window object window

  -- a row that lies in the window starts there by the clock of its component
  row_there : (is_override : Bool) (n : Numbered) (s : Stamp) (row : Row) → StandsAt object is_override n → own_start n.component ≡ Some s → row.component ≡ n.number → lies row ≡ true → window_at ((reading_of object.zones s).local row.start) ≡ window
  row_there is_override n s row stands own number there =
      let both = lies_in_window-one object window row there in
      let component : slice_get object.components row.component ≡ Some n.component = ap (slice_get object.components) number ∙ stands.found in
      let start : option_and_then own_start (slice_get object.components row.component) ≡ Some s = ap (option_and_then own_start) component ∙ own in
      sym (ap (λ (stamp : Option Stamp). window_at (nominal_beside object.zones row.start stamp)) start) ∙ both.1

  -- Instances.

  not_there : (n : Numbered) (s : Stamp) (row : Row) → HasWindow window range → StandsAt object false n → own_start n.component ≡ Some s → ids ≡ s → row.component ≡ n.number → keep row.start ≡ false → lies row ≡ false
  not_there n s row has stands own same number out = elim (cases_Bool (lies row)) [
    | inl w ↦ absurd (let there = row_there false n s row stands own number w in
        let inside : in_digits range ((reading_of object.zones s).local row.start) ≡ true = window_kept range window ((reading_of object.zones s).local row.start) has there in
        let kept : keep row.start ≡ true = ap (λ (t : Stamp). in_digits range ((reading_of object.zones t).local row.start)) same ∙ inside in
        cc)
    | inr w ↦ w
  ]

  of_masters : (r : ℤ) (ns : List Numbered) → masters object ≡ ns → length ns ≤ 1 → HasWindow window range → All (StandsAt object false) ns → keep r ≡ false → All (λ row. lies row ≡ false) (flat_map (master_row every_moment object ids r) ns)
  of_masters r [] e one has stand out = All-nil (λ row. lies row ≡ false)
  of_masters r (n ∷ []) e one has stand out =
      let stands = All-head (StandsAt object false) n [] stand in
      rw (append-nil (master_row every_moment object ids r n))
      (All-map (λ row. lies row ≡ false) (λ s. row_of r r (end_of_instance every_moment object.zones s n.component r) n.number (kind_of ids) (kind_of s)) (option_to_list (own_start n.component))
      (All-option (λ s. lies (row_of r r (end_of_instance every_moment object.zones s n.component r) n.number (kind_of ids) (kind_of s)) ≡ false) (own_start n.component)
      (λ s own. not_there n s (row_of r r (end_of_instance every_moment object.zones s n.component r) n.number (kind_of ids) (kind_of s)) has stands own (ids_own object ids s n [] aligned e own) refl out)))
  of_masters r (n ∷ m ∷ ns) e one has stand out = absurd (omega (arith, one))

  -- a start whose row an override moves into the window
  moved_there : (n : ℕ) (r : ℤ) (g : Governor) → 0 < n → All (HasOffsetsBelow n) object.zones → All HasShortOffsets object.zones → HasMoved n window range (move_of object.zones g) g.id → g.id <ℤ r → StandsAt object true g.override → own_start g.override.component ≡ Some g.start → lies (moved_to object ids r g) ≡ true → keep r ≡ true
  moved_there n r g some below short moved before stands own w =
      let there = row_there true g.override g.start (moved_to object ids r g) stands own refl w in
      let near = moved-near_window n some object.zones ids g r window below there in
      let clock = local-near object.zones ids r short in
      let inside = moved.has ((reading_of object.zones ids).local r) (omega (arith, ints, near)) (omega (arith, ints, near)) (omega (arith, ints, before, clock)) in
      in_digits-of range ((reading_of object.zones ids).local r) inside.0 inside.1

  -- the overrides that govern move no start into the window that isn't kept
  abbrev pub HasMovedBy : ℕ → Type 0
  HasMovedBy n = All (λ g. HasMoved n window range (move_of object.zones g) g.id) (governors object ids (starts every_moment object))

  pub keeps_window : (n : ℕ) → 0 < n → All (HasOffsetsBelow n) object.zones → All HasShortOffsets object.zones → HasMovedBy n → length (masters object) ≤ 1 → HasWindow window range → KeepsWindow every_moment object ids window keep
  keeps_window n some below short moved one has = λ r out.
      row_at-holds (λ rows. filter lies rows ≡ []) every_moment object ids (starts every_moment object) r
      (filter-none lies (flat_map (master_row every_moment object ids r) (masters object)) (of_masters r (masters object) refl one has (masters_stand object) out))
      (λ g governs. moved_row-holds (λ rows. filter lies rows ≡ []) object ids r g refl
      (λ served. filter-none lies (moved_to object ids r g ∷ []) (All-cons (λ row. lies row ≡ false) (moved_to object ids r g) [] (not_moved r g governs out) (All-nil (λ row. lies row ≡ false)))))
    where
      not_moved : (r : ℤ) (g : Governor) → Governs object ids (starts every_moment object) r g → keep r ≡ false → lies (moved_to object ids r g) ≡ false
      not_moved r g governs out =
          let known = All-contains (IsGovernor object ids (starts every_moment object)) (governors object ids (starts every_moment object)) g (governors_known object ids (starts every_moment object)) governs.among in
          let its = All-contains (λ h. HasMoved n window range (move_of object.zones h) h.id) (governors object ids (starts every_moment object)) g moved governs.among in
          elim (cases_Bool (lies (moved_to object ids r g))) [
            | inl w ↦ absurd (let kept = moved_there n r g some below short its governs.before known.stands known.own w in cc)
            | inr w ↦ w
          ]

  -- Overrides.

  named_days : (midnight r : ℤ) (xs : List Aligned) → All (HasDay range) (days_in xs) → All (λ x. x ≡ on_day midnight → names_start (reading_of object.zones ids) r (on_day midnight) ≡ true → keep r ≡ true) xs
  named_days midnight r [] days = All-nil (λ x. x ≡ on_day midnight → names_start (reading_of object.zones ids) r (on_day midnight) ≡ true → keep r ≡ true)
  named_days midnight r (at v ∷ xs) days = All-cons (λ x. x ≡ on_day midnight → names_start (reading_of object.zones ids) r (on_day midnight) ≡ true → keep r ≡ true) (at v) xs (λ e named. absurd cc) (named_days midnight r xs days)
  named_days midnight r (on_day m ∷ xs) days =
      All-cons (λ x. x ≡ on_day midnight → names_start (reading_of object.zones ids) r (on_day midnight) ≡ true → keep r ≡ true) (on_day m) xs
      (λ e named. let same : m ≡ midnight = cc in
      let there = same_int-true midnight (midnight_of ((reading_of object.zones ids).local r)) named in
      day_kept range m ((reading_of object.zones ids).local r) (All-head (HasDay range) m (days_in xs) days) (same ∙ there))
      (named_days midnight r xs (All-tail (HasDay range) m (days_in xs) days))

  by_override : (n : Numbered) → StandsAt object true n → All (HasDay range) (days_needed object.zones ids window n.component) → KeepsNamedBy every_moment object ids window keep n
  by_override n stands days = λ s midnight r own c there.
      let inside = row_there true n s (row_of r (value_of object.zones s) (end_from object.zones n.component (value_of object.zones s)) n.number (kind_of ids) (kind_of s)) stands own refl there in
      let same : same_int (window_at ((reading_of object.zones s).local (value_of object.zones s))) window ≡ true = ap (λ (w : ℤ). same_int w window) inside ∙ same_int-self window in
      let all : days_needed object.zones ids window n.component ≡ id_days object.zones ids n.component =
      ap (λ (start : Option Stamp). flat_map (days_of_start object.zones ids window n.component) (option_to_list start)) own
      ∙ (append-nil (days_of_start object.zones ids window n.component s) ∙ ap (λ (b : Bool). if b then id_days object.zones ids n.component else []) same) in
      named_days midnight r (named_by object.zones ids n) (subst (All (HasDay range)) all days)

  pub keeps_named : All (HasDay range) (flat_map (days_needed object.zones ids window) object.components) → KeepsNamed every_moment object ids window keep
  keeps_named days =
      let each = All-each_part (HasDay range) (days_needed object.zones ids window) object.components days in
      let at_number : All (λ (n : Numbered). All (HasDay range) (days_needed object.zones ids window n.component)) (overrides object) =
      All-filter has_id (λ (n : Numbered). All (HasDay range) (days_needed object.zones ids window n.component)) (numbered object)
      (All-numbered_from (λ (n : Numbered). All (HasDay range) (days_needed object.zones ids window n.component)) 0 object.components
      (λ i j c e found. All-slice_get (λ (c : Component). All (HasDay range) (days_needed object.zones ids window c)) object.components i c each found)) in
      λ k d lt. by_override _ (overrides_stand object k d lt) (at_number k d lt)

  -- Overrides that move later instances.

  -- the range has the local days that they name
  abbrev pub HasTheirDays : Type 0
  HasTheirDays = All (λ n. moves_later n ≡ true → All (HasDay range) (days_in (named_by object.zones ids n))) (overrides object)

  -- starts that are kept with those of the range tell the ids by which overrides govern
  pub governing_by : (kept_too : ℤ → Bool) → ((r : ℤ) → keep r ≡ true → kept_too r ≡ true) → HasTheirDays → KeepsGoverning every_moment object ids window kept_too
  governing_by kept_too wider days =
      All-weaker (λ n. moves_later n ≡ true → All (HasDay range) (days_in (named_by object.zones ids n))) (λ n. moves_later n ≡ true → GiveSameId object ids (starts every_moment object) kept n)
      (λ n has later. of_days (named_by object.zones ids n) (has later)) (overrides object) days
    where
      kept : List ℤ
      kept = filter kept_too (starts every_moment object)

      same_id : (x : Aligned) → ((midnight r : ℤ) → x ≡ on_day midnight → names_start (reading_of object.zones ids) r (on_day midnight) ≡ true → keep r ≡ true) → id_of_override object ids (starts every_moment object) x ≡ id_of_override object ids kept x
      same_id (at v) h = refl
      same_id (on_day midnight) h =
          ap (first_or_else ((reading_of object.zones ids).instant midnight)) (sym (filter_within kept_too (λ r. names_start (reading_of object.zones ids) r (on_day midnight)) (starts every_moment object) (λ r c named. wider r (h midnight r refl named))))

      of_days : (xs : List Aligned) → All (HasDay range) (days_in xs) → All (λ x. id_of_override object ids (starts every_moment object) x ≡ id_of_override object ids kept x) xs
      of_days xs has = λ k d lt. same_id (get_or xs k d) (λ midnight r e named. named_days midnight r xs has k d lt e named)

  pub keeps_governing : HasTheirDays → KeepsGoverning every_moment object ids window keep
  keeps_governing = governing_by keep (λ r kept. kept)

-- The master's rows in the range.

flat_map_one : {X Y : Type 0} (f : X → Y) (g : X → List Y) → ((x : X) → g x ≡ f x ∷ []) → (xs : List X) → map f xs ≡ flat_map g xs
flat_map_one f g one [] = refl
flat_map_one f g one (x ∷ xs) = rw (one x) (ap (λ rest. f x ∷ rest) (flat_map_one f g one xs))

module _ (object : Object) (ids : Stamp) (range : Digits) where
  abbrev keep_there : ℤ → Bool
  keep_there r = starts_in object.zones ids range r

  abbrev kept_of : List Numbered → List ℤ
  kept_of ns = filter keep_there (flat_map (λ (n : Numbered). starts_of every_moment object.zones n.component) ns)

  abbrev pub keeps : List ℤ
  keeps = filter keep_there (starts every_moment object)

  abbrev rows_of : List Numbered → List Row
  rows_of ns = flat_map (λ r. flat_map (master_row every_moment object ids r) ns) (kept_of ns)

  -- with one master that starts at the stamp of the ids
  of_start : (n : Numbered) (s : Stamp) → own_start n.component ≡ Some s → ids ≡ s → rows_of_master object.zones range n ++ [] ≡ rows_of (n ∷ [])
  of_start n s e same =
      let made = instances_in object.zones s n.component n.number range in
      let first : rows_of_master object.zones range n ++ [] ≡ made = append-nil (rows_of_master object.zones range n) ∙ (ap (λ (own : Option Stamp). flat_map (λ s. instances_in object.zones s n.component n.number range) (option_to_list own)) e ∙ append-nil made) in
      let kept : kept_of (n ∷ []) ≡ filter (starts_in object.zones s range) (starts_of every_moment object.zones n.component) =
      ap (filter keep_there) (append-nil (starts_of every_moment object.zones n.component)) ∙ ap (λ (t : Stamp). filter (starts_in object.zones t range) (starts_of every_moment object.zones n.component)) same in
      let each : (r : ℤ) → flat_map (master_row every_moment object ids r) (n ∷ []) ≡ instance_row object.zones s n.component n.number r ∷ [] =
      λ r. append-nil (master_row every_moment object ids r n)
      ∙ ap₂ (λ (own : Option Stamp) (t : Stamp). map (λ s. row_of r r (end_of_instance every_moment object.zones s n.component r) n.number (kind_of t) (kind_of s)) (option_to_list own)) e same in
      first
      ∙ (flat_map_one (instance_row object.zones s n.component n.number) (λ r. flat_map (master_row every_moment object ids r) (n ∷ [])) each (filter (starts_in object.zones s range) (starts_of every_moment object.zones n.component))
      ∙ ap (flat_map (λ r. flat_map (master_row every_moment object ids r) (n ∷ []))) (sym kept))

  no_starts_kept : (n : Numbered) → own_start n.component ≡ None → kept_of (n ∷ []) ≡ []
  no_starts_kept n e = ap (λ (own : Option Stamp). filter keep_there (starts_from every_moment object.zones n.component own ++ [])) e

  -- and with one that has no start
  of_none : (n : Numbered) → own_start n.component ≡ None → rows_of_master object.zones range n ++ [] ≡ rows_of (n ∷ [])
  of_none n e =
      let first : rows_of_master object.zones range n ++ [] ≡ [] = append-nil (rows_of_master object.zones range n) ∙ ap (λ (own : Option Stamp). flat_map (λ s. instances_in object.zones s n.component n.number range) (option_to_list own)) e in
      first ∙ sym (ap (flat_map (λ r. flat_map (master_row every_moment object ids r) (n ∷ []))) (no_starts_kept n e))

  of_one_master : (n : Numbered) (own : Option Stamp) → own_start n.component ≡ own → ((s : Stamp) → own ≡ Some s → ids ≡ s) → rows_of_master object.zones range n ++ [] ≡ rows_of (n ∷ [])
  of_one_master n None e same = of_none n e
  of_one_master n (Some s) e same = of_start n s e (same s refl)

  master_made : (ns : List Numbered) → length ns ≤ 1 → ((n : Numbered) (rest : List Numbered) (s : Stamp) → ns ≡ n ∷ rest → own_start n.component ≡ Some s → ids ≡ s) → flat_map (rows_of_master object.zones range) ns ≡ rows_of ns
  master_made [] one same = refl
  master_made (n ∷ []) one same = of_one_master n (own_start n.component) refl (λ s own. same n [] s refl own)
  master_made (n ∷ m ∷ ns) one same = absurd (omega (arith, one))

  master_ids : (ns : List Numbered) → length ns ≤ 1 → map (λ (r : Row). r.id) (rows_of ns) ≡ kept_of ns
  master_ids [] one = refl
  master_ids (n ∷ []) one = ids_of_master every_moment object ids n (own_start n.component) (kept_of (n ∷ [])) (no_starts_kept n)
  master_ids (n ∷ m ∷ ns) one = absurd (omega (arith, one))

  pub rows_of_masters : Some ids ≡ ids_start object → length (masters object) ≤ 1 →
      flat_map (rows_of_master object.zones range) (masters object) ≡ flat_map (master_rows every_moment object ids) keeps
  rows_of_masters aligned one = master_made (masters object) one (λ n rest s first own. ids_own object ids s n rest aligned first own)

  -- the master has a row at each start that is kept
  pub has_kept : length (masters object) ≤ 1 → All (HasOneRow every_moment object ids) keeps
  has_kept one = All-filter keep_there (HasOneRow every_moment object ids) (starts every_moment object) (master_has every_moment object ids one)

  -- with the governed ones moved
  pub moved_kept : Some ids ≡ ids_start object → length (masters object) ≤ 1 →
      flat_map (stand_in object ids keeps) (flat_map (rows_of_master object.zones range) (masters object)) ≡ flat_map (row_at every_moment object ids keeps) keeps
  moved_kept aligned one =
      ap (flat_map (stand_in object ids keeps)) (rows_of_masters aligned one) ∙ rows-stand_in every_moment object ids keeps keeps (has_kept one)

  -- their ids are the starts that are kept
  pub ids_of_rows : Some ids ≡ ids_start object → length (masters object) ≤ 1 → map (λ (r : Row). r.id) (flat_map (rows_of_master object.zones range) (masters object)) ≡ keeps
  ids_of_rows aligned one = ap (map (λ (r : Row). r.id)) (rows_of_masters aligned one) ∙ master_ids (masters object) one

  pub rows_moved : (made moved : List Row) → Some ids ≡ ids_start object → length (masters object) ≤ 1 → made ≡ flat_map (rows_of_master object.zones range) (masters object) →
      moved ≡ flat_map (stand_in object ids (map (λ (r : Row). r.id) made)) made → moved ≡ governed_rows object ids range
  rows_moved made moved aligned one is from = from ∙ ap₂ (λ (all : List ℤ) (rs : List Row). flat_map (stand_in object ids all) rs) (ap (map (λ (r : Row). r.id)) is ∙ ids_of_rows aligned one) is

-- they start between 1599 and 2102
pub rows_near : (object : Object) (range : Digits) → IsReadObject object → All HasRowTimes (flat_map (rows_of_master object.zones range) (masters object))
rows_near object range is =
    All-flat_map HasRowTimes (rows_of_master object.zones range) (masters object)
    (All-weaker (λ (n : Numbered). All (IsStatedBy 172800) (starts_of every_moment object.zones n.component)) (λ n. All HasRowTimes (rows_of_master object.zones range n)) of_master (masters object)
    (All-each_part (IsStatedBy 172800) (λ (n : Numbered). starts_of every_moment object.zones n.component) (masters object) (starts-served every_moment object is)))
  where
    times : (zones : List ZoneTable) (s : Stamp) (n : Numbered) (r : ℤ) → IsStatedBy 172800 r → HasRowTimes (instance_row zones s n.component n.number r)
    times zones s n r stated = let time : IsRowTime r = (omega (arith, ints, stated), omega (arith, ints, stated)) in record { id = time; start = time }

    of_master : (n : Numbered) → All (IsStatedBy 172800) (starts_of every_moment object.zones n.component) → All HasRowTimes (rows_of_master object.zones range n)
    of_master n stated =
        All-flat_map HasRowTimes (λ s. instances_in object.zones s n.component n.number range) (option_to_list (own_start n.component))
        (All-everywhere (λ s. All HasRowTimes (instances_in object.zones s n.component n.number range))
        (λ s. All-map HasRowTimes (instance_row object.zones s n.component n.number) (filter (starts_in object.zones s range) (starts_of every_moment object.zones n.component))
        (All-filter (starts_in object.zones s range) (λ r. HasRowTimes (instance_row object.zones s n.component n.number r)) (starts_of every_moment object.zones n.component)
        (All-weaker (IsStatedBy 172800) (λ r. HasRowTimes (instance_row object.zones s n.component n.number r)) (times object.zones s n) (starts_of every_moment object.zones n.component) stated)))
        (option_to_list (own_start n.component)))

-- and so do those that are moved, since their digits are those of dates that are served
module _ (object : Object) (ids : Stamp) (all : List ℤ) (short : All HasShortOffsets object.zones) where
  moved_time : (row : Row) (g : Governor) → HasRowTimes row → are_served (moved_digits object.zones g row.id) ≡ true → HasRowTimes (moved_to object ids row.id g)
  moved_time row g its served =
      let digits = moved_digits object.zones g row.id in
      let both = both_hold (int_le first_date digits) (int_le digits last_date) served in
      let from : first_date ≤ℤ digits = grind (arith, ints, both.0) in
      let to : digits ≤ℤ last_date = grind (arith, ints, both.1) in
      let near = instant-near object.zones g.start digits short in
      record { id = its.id; start = (omega (arith, ints, from, to, near), omega (arith, ints, from, to, near)) }

  by_governors : (row : Row) → HasRowTimes row → (gs : List Governor) → All HasRowTimes (stand_in_by object ids row gs)
  by_governors row its [] = All-cons HasRowTimes row [] its (All-nil HasRowTimes)
  by_governors row its (g ∷ gs) =
      moved_row-holds (All HasRowTimes) object ids row.id (greatest_id g gs) (All-nil HasRowTimes)
      (λ served. All-cons HasRowTimes (moved_to object ids row.id (greatest_id g gs)) [] (moved_time row (greatest_id g gs) its served) (All-nil HasRowTimes))

  stands_near : (row : Row) → HasRowTimes row → All HasRowTimes (stand_in object ids all row)
  stands_near row its = elim (cases_Bool (is_named object ids row.id)) [
    | inl w ↦ rw w (All-cons HasRowTimes row [] its (All-nil HasRowTimes))
    | inr w ↦ rw w (by_governors row its (filter (λ (g : Governor). int_lt g.id row.id) (governors object ids all)))
  ]

pub governed_near : (object : Object) (ids : Stamp) (range : Digits) → IsReadObject object → All HasShortOffsets object.zones → All HasRowTimes (governed_rows object ids range)
governed_near object ids range is short =
    All-flat_map HasRowTimes (stand_in object ids (starts_within object ids range)) (flat_map (rows_of_master object.zones range) (masters object))
    (All-weaker HasRowTimes (λ row. All HasRowTimes (stand_in object ids (starts_within object ids range) row)) (stands_near object ids (starts_within object ids range) short)
    (flat_map (rows_of_master object.zones range) (masters object)) (rows_near object range is))

-- The end of the range.

natural_from : (z : ℤ) → z ≤ℤ pos (natural_part z)
natural_from (pos n) = omega (arith, ints)
natural_from (negsuc n) = omega (arith, ints)

-- a day ends with the day of its number, or before it
number_from : (day : ℤ) (last : ℕ) → number_of_day day ≤ last → (day *ℤ pos 86400 +ℤ pos 86400) ≤ℤ seconds_since_1970 (86400 * (last + 1))
number_from day last le = let from = natural_from (day +ℤ pos epoch_day) in omega (arith, ints, from, le)

window_by : (window : ℤ) (last : ℕ) → last_of_window window ≤ last → ((window +ℤ pos 1) *ℤ window_seconds) ≤ℤ seconds_since_1970 (86400 * (last + 1))
window_by window last le = let by = number_from (window *ℤ pos 64 +ℤ pos 63) last le in omega (arith, ints, by)

abbrev pub IsMidnight : ℤ → Type 0
IsMidnight m = midnight_of m ≡ m

midnight_by : (m : ℤ) (last : ℕ) → IsMidnight m → number_of_day (int_div_euclid m (pos 86400)) ≤ last → (m +ℤ pos 86400) ≤ℤ seconds_since_1970 (86400 * (last + 1))
midnight_by m last is le = let by = number_from (int_div_euclid m (pos 86400)) last le in omega (arith, ints, by, is)

date_midnight : (d : ℤ) → IsMidnight (d *ℤ pos 86400)
date_midnight d = midnight_of-is (d *ℤ pos 86400) d (omega (arith, ints)) (omega (arith, ints))

aligned_midnight : (zones : List ZoneTable) (x ids : Stamp) → All IsMidnight (days_in (align zones x ids ∷ []))
aligned_midnight zones x (Date d) = All-nil IsMidnight
aligned_midnight zones (Date d) (Floating l) = All-cons IsMidnight (d.0 *ℤ pos 86400) [] (date_midnight d.0) (All-nil IsMidnight)
aligned_midnight zones (Floating k) (Floating l) = All-nil IsMidnight
aligned_midnight zones (Zoned k n) (Floating l) = All-nil IsMidnight
aligned_midnight zones (Utc u) (Floating l) = All-nil IsMidnight
aligned_midnight zones (Date d) (Zoned l n) = All-cons IsMidnight (d.0 *ℤ pos 86400) [] (date_midnight d.0) (All-nil IsMidnight)
aligned_midnight zones (Floating k) (Zoned l n) = All-nil IsMidnight
aligned_midnight zones (Zoned k m) (Zoned l n) = All-nil IsMidnight
aligned_midnight zones (Utc u) (Zoned l n) = All-nil IsMidnight
aligned_midnight zones (Date d) (Utc v) = All-cons IsMidnight (d.0 *ℤ pos 86400) [] (date_midnight d.0) (All-nil IsMidnight)
aligned_midnight zones (Floating k) (Utc v) = All-nil IsMidnight
aligned_midnight zones (Zoned k n) (Utc v) = All-nil IsMidnight
aligned_midnight zones (Utc u) (Utc v) = All-nil IsMidnight

pub midnights_of : (zones : List ZoneTable) (ids : Stamp) (id : Option Stamp) → All IsMidnight (days_in (map (λ x. align zones x ids) (option_to_list id)))
midnights_of zones ids None = All-nil IsMidnight
midnights_of zones ids (Some x) = aligned_midnight zones x ids

module _ (last : ℕ) where
  abbrev IsCounted : ℕ → Type 0
  IsCounted k = k ≤ last

  abbrev EndsBefore : ℤ → Type 0
  EndsBefore m = (m +ℤ pos 86400) ≤ℤ seconds_since_1970 (86400 * (last + 1))

  -- the days that RECURRENCE-IDs name
  names_by : (names : List Aligned) → All IsMidnight (days_in names) → All IsCounted (filter_map day_named names) → All EndsBefore (days_in names)
  names_by [] midnights numbers = All-nil EndsBefore
  names_by (at v ∷ names) midnights numbers = names_by names midnights numbers
  names_by (on_day m ∷ names) midnights numbers =
      All-cons EndsBefore m (days_in names)
      (midnight_by m last (All-head IsMidnight m (days_in names) midnights) (All-head IsCounted (number_of_day (int_div_euclid m (pos 86400))) (filter_map day_named names) numbers))
      (names_by names (All-tail IsMidnight m (days_in names) midnights) (All-tail IsCounted (number_of_day (int_div_euclid m (pos 86400))) (filter_map day_named names) numbers))

  module _ (zones : List ZoneTable) (ids : Stamp) where
    abbrev names_of : Component → List Aligned
    names_of c = map (λ x. align zones x ids) (option_to_list c.recurrence_id)

    all_named : (cs : List Component) → All IsCounted (filter_map day_named (named_beside zones ids cs)) → All EndsBefore (flat_map (id_days zones ids) cs)
    all_named [] all = All-nil EndsBefore
    all_named (c ∷ cs) all =
        let parts = subst (All IsCounted) (filter_map-append day_named (names_of c) (named_beside zones ids cs)) all in
        let here = names_by (names_of c) (midnights_of zones ids c.recurrence_id) (All-left IsCounted (filter_map day_named (names_of c)) (filter_map day_named (named_beside zones ids cs)) parts) in
        All-append EndsBefore (id_days zones ids c) (flat_map (id_days zones ids) cs) here
        (all_named cs (All-right IsCounted (filter_map day_named (names_of c)) (filter_map day_named (named_beside zones ids cs)) parts))

-- the names of the overrides are those of the components
named_one : (zones : List ZoneTable) (ids : Stamp) (number : ℕ) (c : Component) (cs : List Component) (id : Option Stamp) → c.recurrence_id ≡ id →
    flat_map (named_by zones ids) (filter has_id (numbered_from (number + 1) cs)) ≡ named_beside zones ids cs → flat_map (named_by zones ids) (filter has_id (numbered_from number (c ∷ cs))) ≡ named_beside zones ids (c ∷ cs)
named_one zones ids number c cs None e rest = rw e rest
named_one zones ids number c cs (Some x) e rest = rw e (ap (λ more. align zones x ids ∷ more) rest)

named_all : (zones : List ZoneTable) (ids : Stamp) (number : ℕ) (cs : List Component) → flat_map (named_by zones ids) (filter has_id (numbered_from number cs)) ≡ named_beside zones ids cs
named_all zones ids number [] = refl
named_all zones ids number (c ∷ cs) = named_one zones ids number c cs c.recurrence_id refl (named_all zones ids (number + 1) cs)

greatest_below : (ns : List ℕ) (last : ℕ) → greatest ns ≤ last → All (λ k. k ≤ last) ns
greatest_below ns last le = All-weaker (λ k. k ≤ greatest ns) (λ k. k ≤ last) (λ k at_most. omega (arith, at_most, le)) ns (All-greatest ns)

-- what is needed of a window ends by the last day that it may cost
pub ends_by_last : (object : Object) (ids : Stamp) (window : ℤ) (range : Digits) → Some ids ≡ ids_start object →
    ((z : ℤ) → ((window +ℤ pos 1) *ℤ window_seconds) ≤ℤ z → All (λ midnight. (midnight +ℤ pos 86400) ≤ℤ z) (flat_map (id_days object.zones ids) object.components) →
    All (λ g. (((window +ℤ pos 1) *ℤ window_seconds +ℤ pos (86400 * days_apart object)) -ℤ move_of object.zones g) ≤ℤ z) (governors object ids (starts every_moment object)) → range.high ≤ℤ z) →
    EndsBy range (last_day every_moment object window)
ends_by_last object ids window range aligned least =
    let last = last_day every_moment object window in
    let days = filter_map day_named (flat_map (named_by object.zones ids) (overrides object)) in
    let same : greatest days ≡ greatest (days_named_from object (ids_start object)) = ap (λ (start : Option Stamp). greatest (days_named_from object start)) aligned in
    let within = named_within object window in
    let counted : greatest days ≤ last = omega (arith, same, within) in
    let named : All (λ k. k ≤ last) (filter_map day_named (named_beside object.zones ids object.components)) =
    subst (λ (names : List Aligned). All (λ k. k ≤ last) (filter_map day_named names)) (named_all object.zones ids 0 object.components) (greatest_below days last counted) in
    least (seconds_since_1970 (86400 * (last + 1))) (window_by window last (window_within object window)) (all_named last object.zones ids object.components named)
    (All-weaker (λ g. last_of_window window + (days_apart object + days_earlier (move_of object.zones g)) ≤ last) (λ g. (((window +ℤ pos 1) *ℤ window_seconds +ℤ pos (86400 * days_apart object)) -ℤ move_of object.zones g) ≤ℤ seconds_since_1970 (86400 * (last + 1)))
    (λ g le. let by = moved-by_last (21600 * days_apart object) (days_apart object) (move_of object.zones g) window last (omega arith) le in omega (arith, ints, by)) (governors object ids (starts every_moment object)) (moved_within object ids window aligned))

-- The rows of a window are made of the rows of the starts in the digits that it needs.
pub window_found : (n : ℕ) → 0 < n → (object : Object) (ids : Stamp) (window : ℤ) (range : Digits) (rows : List Row) → All (HasOffsetsBelow n) object.zones → All HasShortOffsets object.zones → (aligned : Some ids ≡ ids_start object) → HasMovedBy object ids window range aligned n → HasTheirDays object ids window range aligned →
    length (masters object) ≤ 1 → HasWindow window range →
    All (HasDay range) (flat_map (days_needed object.zones ids window) object.components) → rows ≡ flat_map (stand_in object ids (keeps object ids range)) (flat_map (rows_of_master object.zones range) (masters object)) →
    in_order (filter (lies_in_window object window) (flat_map (override_row object ids (map (λ (r : Row). r.id) rows)) (overrides object)) ++ filter (lies_in_window object window) (filter (λ (r : Row). not (is_named object ids r.id)) rows)) ≡ rows_in object window
window_found n some object ids window range rows below short aligned moved their_days one has days made =
    let keep_it : ℤ → Bool = λ r. starts_in object.zones ids range r in
    let kept = filter keep_it (starts every_moment object) in
    let all : rows ≡ flat_map (row_at every_moment object ids kept) kept = made ∙ moved_kept object ids range aligned one in
    let own : flat_map (override_row object ids (map (λ (r : Row). r.id) rows)) (overrides object) ≡ flat_map (override_row object ids kept) (overrides object) =
    ap (λ rs. flat_map (override_row object ids (map (λ (r : Row). r.id) rs)) (overrides object)) all
    ∙ same_own_rows object ids (map (λ (r : Row). r.id) (flat_map (row_at every_moment object ids kept) kept)) kept (ids-given every_moment object ids kept kept (has_kept object ids range one)) in
    ap₂ (λ (xs rs : List Row). in_order (filter (lies_in_window object window) xs ++ filter (lies_in_window object window) (filter (λ (r : Row). not (is_named object ids r.id)) rs))) own all
    ∙ sym (rows_in-kept every_moment object ids window keep_it (keeps_window object ids window range aligned n some below short moved one has) (keeps_named object ids window range aligned days) (keeps_governing object ids window range aligned their_days) (sym aligned) one)

-- the first master has what each component has
pub expandable_master : (zones : ℕ) (cs : List Component) (m : Numbered) (rest : List Numbered) → All (IsExpandable zones) cs → masters_from 0 cs ≡ m ∷ rest → IsExpandable zones m.component
expandable_master zones cs m rest all first =
    All-head (λ (n : Numbered). IsExpandable zones n.component) m rest
    (subst (All (λ (n : Numbered). IsExpandable zones n.component)) first
    (All-filter (λ (n : Numbered). not (has_id n)) (λ (n : Numbered). IsExpandable zones n.component) (numbered_from 0 cs)
    (All-numbered_from (λ (n : Numbered). IsExpandable zones n.component) 0 cs (λ i j c e found. All-slice_get (IsExpandable zones) cs i c all found))))
