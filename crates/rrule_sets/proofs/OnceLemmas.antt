-- An object of one plain component with a start has one row.
use Rattle.std.proofs.Common.{◌≡◌, List, [], ◌∷◌, ◌++◌, length, refl, sym, ap, ap₂, subst, ◌∙◌, arith, Bool, true, false, ℤ}
use Rattle.std.specs.Prelude.{All, flat_map, is_none, Option, Some, None, if◌then◌else◌}
use Rattle.std.proofs.lemmas.List.{append-nil}
use Rattle.std.proofs.lemmas.List.Elements.{All-head}
use Rattle.cal_moment.specs.declared.stamp.Stamp.{Stamp}
use Rattle.cal_moment.specs.declared.stamp.Stamp.TheVariants.{Date, Floating, Zoned, Utc}
use Rattle.cal_model.proofs.Instances.KeptStarts.{row_at-plain}
use Rattle.cal_model.specs.declared.object.Component.{Component}
use Rattle.cal_model.specs.declared.object.Object.{Object}
use Rattle.cal_model.specs.declared.row.Row.{Row}
use Rattle.cal_model.specs.declared.zone.ZoneTable.{ZoneTable}
use Rattle.cal_model.specs.Instances.Alignment.{kind_of, value_of}
use Rattle.cal_model.specs.Instances.HappensOnce.{is_plain, row_from_start, window_of_start}
use Rattle.cal_model.specs.Instances.Starts.{end_of_extent, end_of_instance, is_date, own_start, recurs, starts_of}
use Rattle.cal_model.specs.Instances.Rows.{Numbered, dated_rows, has_date, ids_start, lies_in_window, masters, numbered, numbered_from, overrides, row_at, rows, rows_in, starts, undated_rows}
use Rattle.cal_model.specs.Recurrence.RecurrenceSet.{every_moment}
use Rattle.cal_model.specs.Words.Integers.{same_int}
use Rattle.cal_model.specs.Words.Lists.{is_empty}
use Rattle.cal_model.proofs.Words.EachLemmas.{both_hold}
use Rattle.cal_model.proofs.Words.IntegerLemmas.{same_int-self}
use Rattle.cal_model.specs.Objects.ObjectFacts.{IsRead}
use Rattle.override_merge.specs.Conversions.{HasConvertibleRow, HasConvertibleRows, IsConvertible}
use Rattle.override_merge.proofs.ReadObjects.{HasConvertibleRows-read}
use Rattle.override_merge.proofs.StampLemmas.{convertible_some, own_start_convertible}
use Rattle.rrule_sets.proofs.WindowLemmas.{ids_first}

-- what a plain component lacks
pub record IsPlain (c : Component) : Type 0 where
  pub id : c.recurrence_id ≡ None
  pub rules : c.rules ≡ []
  pub dates : c.dates ≡ []
  pub periods : c.periods ≡ []
  pub except : c.except ≡ []

none_of : {X : Type 0} (o : Option X) → is_none o ≡ true → o ≡ None
none_of None is = refl
none_of (Some x) is = absurd cc

nil_of : {X : Type 0} (xs : List X) → is_empty xs ≡ true → xs ≡ []
nil_of [] is = refl
nil_of (x ∷ xs) is = absurd (grind (arith, is))

pub plain_is : (c : Component) → is_plain c ≡ true → IsPlain c
plain_is c is =
    let excepted = both_hold _ (is_empty c.except) is in
    let periods = both_hold _ (is_empty c.periods) excepted.0 in
    let dates = both_hold _ (is_empty c.dates) periods.0 in
    let rules = both_hold (is_none c.recurrence_id) (is_empty c.rules) dates.0 in
    record {
      id = none_of c.recurrence_id rules.0;
      rules = nil_of c.rules rules.1;
      dates = nil_of c.dates dates.1;
      periods = nil_of c.periods periods.1;
      except = nil_of c.except excepted.1;
    }

-- What the conversions of an object's one row ask for.

pub convertible_once : (object : Object) (c : Component) → IsRead object → object.components ≡ c ∷ [] → HasConvertibleRows object
convertible_once object c read one = let count = ap (λ (cs : List Component). length cs) one in HasConvertibleRows-read object read (omega (arith, count))

pub row_convertible : (object : Object) (c : Component) → IsRead object → object.components ≡ c ∷ [] → HasConvertibleRow (length object.zones) c
row_convertible object c read one = All-head (HasConvertibleRow (length object.zones)) c [] (subst (All (HasConvertibleRow (length object.zones))) one (convertible_once object c read one).components)

pub start_convertible : (object : Object) (c : Component) (s : Stamp) → IsRead object → object.components ≡ c ∷ [] → own_start c ≡ Some s → IsConvertible (length object.zones) s
start_convertible object c s read one own = convertible_some (length object.zones) (own_start c) s own (own_start_convertible (length object.zones) c (row_convertible object c read one))

-- Its one start, end and row.

starts_plain : (zones : List ZoneTable) (s : Stamp) (c : Component) (recurring dated : Bool) → IsPlain c → own_start c ≡ Some s → recurs c ≡ recurring → is_date s ≡ dated → starts_of every_moment zones c ≡ value_of zones s ∷ []
starts_plain zones s c false dated plain own r d = rw (own, r) refl
starts_plain zones s c true false plain own r d = rw (own, r, plain.rules, plain.dates, plain.periods, plain.except, d) refl
starts_plain zones s c true true plain own r d = rw (own, r, plain.rules, plain.dates, plain.periods, plain.except, d) refl

end_plain : (zones : List ZoneTable) (s : Stamp) (c : Component) → end_of_instance every_moment zones s c (value_of zones s) ≡ end_of_extent zones s c.extent (value_of zones s)
end_plain zones s c = rw (same_int-self (value_of zones s)) refl

pub dated_kind : (s : Stamp) → has_date (kind_of s) ≡ true
dated_kind (Date day) = refl
dated_kind (Floating local) = refl
dated_kind (Zoned local zone) = refl
dated_kind (Utc moment) = refl

module _ (object : Object) (c : Component) (s : Stamp) (plain : IsPlain c) (one : object.components ≡ c ∷ []) (own : own_start c ≡ Some s) where
  abbrev first : Numbered
  first = record { number = 0; component = c }

  one_number : numbered object ≡ first ∷ []
  one_number = ap (numbered_from 0) one

  one_master : masters object ≡ first ∷ []
  one_master = rw (one_number, plain.id) refl

  pub no_override : overrides object ≡ []
  no_override = rw (one_number, plain.id) refl

  pub none_undated : undated_rows object ≡ []
  none_undated = rw (one_number, own) refl

  ids_own : ids_start object ≡ Some s
  ids_own = ids_first object s first [] one_master own

  all_starts : starts every_moment object ≡ value_of object.zones s ∷ []
  all_starts = rw (one_master, starts_plain object.zones s c (recurs c) (is_date s) plain own refl refl) refl

  plain_row : row_at every_moment object s (value_of object.zones s ∷ []) (value_of object.zones s) ≡ row_from_start object.zones s c.extent ∷ []
  plain_row = row_at-plain every_moment object s (value_of object.zones s ∷ []) (value_of object.zones s) (rw no_override refl) ∙ rw (one_master, own, end_plain object.zones s c) refl

  one_dated : dated_rows (row_at every_moment object) every_moment object s ≡ row_from_start object.zones s c.extent ∷ []
  one_dated = rw (all_starts, plain_row, no_override) refl

  one_row : rows object ≡ row_from_start object.zones s c.extent ∷ []
  one_row = rw (none_undated, ids_own, one_dated) refl

  lies_once : (window : ℤ) → lies_in_window object window (row_from_start object.zones s c.extent) ≡ same_int (window_of_start object.zones s) window
  lies_once window = rw (dated_kind s, one, own) refl

  pub rows_once : (window : ℤ) → rows_in object window ≡ (if same_int (window_of_start object.zones s) window then row_from_start object.zones s c.extent ∷ [] else [])
  rows_once window = rw (one_row, lies_once window) refl

-- Several windows.

-- the rows of an object with one row that lies in a window
abbrev pub when_in : Row → ℤ → ℤ → List Row
when_in row window asked = if same_int window asked then row ∷ [] else []

pub windows_once : (object : Object) (row : Row) (window : ℤ) (windows : List ℤ) → ((asked : ℤ) → rows_in object asked ≡ when_in row window asked) → flat_map (when_in row window) windows ≡ flat_map (rows_in object) windows
windows_once object row window [] each = refl
windows_once object row window (asked ∷ windows) each = ap₂ (λ (xs ys : List Row). xs ++ ys) (sym (each asked)) (windows_once object row window windows each)

pub window_once : (object : Object) (row : Row) (window asked : ℤ) → ((other : ℤ) → rows_in object other ≡ when_in row window other) → flat_map (when_in row window) (asked ∷ []) ≡ rows_in object asked
window_once object row window asked each = windows_once object row window (asked ∷ []) each ∙ append-nil (rows_in object asked)
