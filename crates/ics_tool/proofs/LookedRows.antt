-- The rows of an object that are looked at where some windows are: those without a date, and those of these windows, in order.
use Rattle.std.proofs.Common.{◌≡◌, Bool, true, false, cond, List, [], ◌∷◌, ◌++◌, refl, sym, ap, ◌∙◌, ℤ}
use Rattle.std.specs.Prelude.{◌&&◌, ◌||◌, All, filter, flat_map, not, option_to_list, is_none}
use Rattle.std.proofs.lemmas.List.Elements.{All-nil, All-cons, All-append, All-head, All-tail, All-map, All-filter, filter-append, filter_agree}
use Rattle.cal_moment.specs.declared.stamp.Stamp.{Stamp}
use Rattle.cal_moment.specs.declared.stamp.Stamp.TheVariants.{Date, Floating, Zoned, Utc}
use Rattle.cal_model.specs.declared.object.Object.{Object}
use Rattle.cal_model.specs.declared.row.Row.{Row}
use Rattle.cal_model.specs.Instances.Alignment.{Aligned, kind_of, value_of}
use Rattle.cal_model.specs.Instances.Starts.{own_start, end_from, end_of_instance}
use Rattle.cal_model.specs.Instances.Rows.{Numbered, numbered, masters, overrides, ids_start, id_of_override, named_by, is_named, row_of, has_date, is_dated, undated_row, undated_rows, starts, master_row, row_at, override_row, override_row_from, dated_rows, rows, rows_in, in_order, window_of}
use Rattle.cal_model.specs.Objects.ObjectFacts.{IsRead}
use Rattle.cal_model.specs.Recurrence.RecurrenceSet.{every_moment}
use Rattle.cal_model.specs.Reports.NeededWindows.{is_stated_window, stated_windows}
use Rattle.cal_model.proofs.Instances.EachRowLemmas.{All-in_order}
use Rattle.cal_model.proofs.Instances.GovernedRows.{moved_row-holds, moved_to, row_at-holds}
use Rattle.cal_model.proofs.Instances.RowsInOrder.{rows-in_order}
use Rattle.cal_model.proofs.Objects.ObjectFactLaws.{IsReadObject-read}
use Rattle.cal_model.proofs.Ranges.WindowLaws.{in_order-windows, lies_in_some}
use Rattle.cal_model.proofs.Words.AllLemmas.{All-everywhere, All-flat_map}
use Rattle.cal_model.proofs.Words.ListTests.{filter-filter}
use Rattle.ics_tool.proofs.StatedWindows.{among_stated, apart_stated}

-- Dated rows, window by window

-- a row has no date, or lies in a window of the dates that are served for which a test holds
abbrev pub is_looked_at : Object → (ℤ → Bool) → Row → Bool
is_looked_at object p row = not (is_dated row) || (is_stated_window (window_of object row) && p (window_of object row))

and_true : (s : Bool) → (s && true) ≡ s
and_true true = refl
and_true false = refl

looked_at-dated : (object : Object) (p : ℤ → Bool) (row : Row) (dated : Bool) → is_dated row ≡ dated
    → (is_looked_at object p row && is_dated row) ≡ lies_in_some object (filter p stated_windows) row
looked_at-dated object p row true e =
    let needed = among_stated p (window_of object row) in
    rw e (and_true (is_stated_window (window_of object row) && p (window_of object row)) ∙ sym needed)
looked_at-dated object p row false e = rw e refl

-- The dated rows among them are those of these windows, put in order.
pub looked_at-windows : (object : Object) (p : ℤ → Bool) → IsRead object
    → filter is_dated (filter (is_looked_at object p) (rows object)) ≡ in_order (flat_map (rows_in object) (filter p stated_windows))
looked_at-windows object p read =
    filter-filter is_dated (is_looked_at object p) (rows object)
    ∙ filter_agree (λ row. is_looked_at object p row && is_dated row) (lies_in_some object (filter p stated_windows)) (λ row. looked_at-dated object p row (is_dated row) refl) (rows object)
    ∙ in_order-windows every_moment object (filter p stated_windows) (rows-in_order every_moment object (IsReadObject-read object read).one_master)
    (apart_stated p)

-- Tests that all or none of a list pass

passing : {X : Type 0} (p : X → Bool) (xs : List X) → All (λ x. p x ≡ true) xs → filter p xs ≡ xs
passing p [] all = refl
passing p (x ∷ xs) all = ap (λ b. cond b (x ∷ filter p xs) (filter p xs)) (All-head (λ y. p y ≡ true) x xs all) ∙ ap (λ ys. x ∷ ys) (passing p xs (All-tail (λ y. p y ≡ true) x xs all))

failing : {X : Type 0} (p : X → Bool) (xs : List X) → All (λ x. p x ≡ false) xs → filter p xs ≡ []
failing p [] all = refl
failing p (x ∷ xs) all = ap (λ b. cond b (x ∷ filter p xs) (filter p xs)) (All-head (λ y. p y ≡ false) x xs all) ∙ failing p xs (All-tail (λ y. p y ≡ false) x xs all)

-- Rows with a date, and without

abbrev IsDated : Row → Type 0
IsDated row = is_dated row ≡ true

kind_dated : (s : Stamp) → has_date (kind_of s) ≡ true
kind_dated (Date d) = refl
kind_dated (Floating l) = refl
kind_dated (Zoned l zone) = refl
kind_dated (Utc u) = refl

overrides_dated : (object : Object) (ids : Stamp) (all : List ℤ) (n : Numbered) → All IsDated (override_row object ids all n)
overrides_dated object ids all n =
    All-flat_map IsDated (λ s. override_row_from object ids all n s (value_of object.zones s)) (option_to_list (own_start n.component))
    (All-everywhere (λ s. All IsDated (override_row_from object ids all n s (value_of object.zones s))) from (option_to_list (own_start n.component)))
  where
    row : Stamp → Aligned → Row
    row s x = row_of (id_of_override object ids all x) (value_of object.zones s) (end_from object.zones n.component (value_of object.zones s)) n.number (kind_of ids) (kind_of s)

    from : (s : Stamp) → All IsDated (override_row_from object ids all n s (value_of object.zones s))
    from s = All-map IsDated (row s) (named_by object.zones ids n) (All-everywhere (λ x. IsDated (row s x)) (λ x. kind_dated s) (named_by object.zones ids n))

masters_dated : (object : Object) (ids : Stamp) (r : ℤ) (n : Numbered) → All IsDated (master_row every_moment object ids r n)
masters_dated object ids r n =
    All-map IsDated row (option_to_list (own_start n.component)) (All-everywhere (λ s. IsDated (row s)) (λ s. kind_dated s) (option_to_list (own_start n.component)))
  where
    row : Stamp → Row
    row s = row_of r r (end_of_instance every_moment object.zones s n.component r) n.number (kind_of ids) (kind_of s)

-- of the master's rows of a start, and of one that an override moves
starts_dated : (object : Object) (ids : Stamp) (all : List ℤ) (r : ℤ) → All IsDated (row_at every_moment object ids all r)
starts_dated object ids all r =
    row_at-holds (All IsDated) every_moment object ids all r
    (All-flat_map IsDated (master_row every_moment object ids r) (masters object) (All-everywhere (λ n. All IsDated (master_row every_moment object ids r n)) (masters_dated object ids r) (masters object)))
    (λ g governs. moved_row-holds (All IsDated) object ids r g (All-nil IsDated) (λ served. All-cons IsDated (moved_to object ids r g) [] (kind_dated g.start) (All-nil IsDated)))

abbrev dated_of : Object → List Row
dated_of object = flat_map (dated_rows (row_at every_moment object) every_moment object) (option_to_list (ids_start object))

all_dated : (object : Object) → All IsDated (dated_of object)
all_dated object =
    All-flat_map IsDated (dated_rows (row_at every_moment object) every_moment object) (option_to_list (ids_start object))
    (All-everywhere (λ ids. All IsDated (dated_rows (row_at every_moment object) every_moment object ids)) dated (option_to_list (ids_start object)))
  where
    starts_of_object : List ℤ
    starts_of_object = starts every_moment object

    dated : (ids : Stamp) → All IsDated (dated_rows (row_at every_moment object) every_moment object ids)
    dated ids =
        All-in_order IsDated (flat_map (override_row object ids starts_of_object) (overrides object) ++ filter (λ (r : Row). not (is_named object ids r.id)) (flat_map (row_at every_moment object ids starts_of_object) starts_of_object))
        (All-append IsDated (flat_map (override_row object ids starts_of_object) (overrides object)) (filter (λ (r : Row). not (is_named object ids r.id)) (flat_map (row_at every_moment object ids starts_of_object) starts_of_object))
        (All-flat_map IsDated (override_row object ids starts_of_object) (overrides object) (All-everywhere (λ n. All IsDated (override_row object ids starts_of_object n)) (overrides_dated object ids starts_of_object) (overrides object)))
        (All-filter (λ (r : Row). not (is_named object ids r.id)) IsDated (flat_map (row_at every_moment object ids starts_of_object) starts_of_object)
        (All-flat_map IsDated (row_at every_moment object ids starts_of_object) starts_of_object
        (All-everywhere (λ r. All IsDated (row_at every_moment object ids starts_of_object r)) (starts_dated object ids starts_of_object) starts_of_object))))

pub without_date : (P : Row → Type 0) → ((n : Numbered) → P (undated_row n)) → (object : Object) → All P (undated_rows object)
without_date P each object =
    All-map P undated_row (filter (λ (n : Numbered). is_none (own_start n.component)) (numbered object))
    (All-everywhere (λ n. P (undated_row n)) each (filter (λ (n : Numbered). is_none (own_start n.component)) (numbered object)))

-- Of the rows of an object those without a date, and then those of the windows for which a test holds.
pub looked_rows : (object : Object) (p : ℤ → Bool) → IsRead object
    → undated_rows object ++ in_order (flat_map (rows_in object) (filter p stated_windows)) ≡ filter (is_looked_at object p) (rows object)
looked_rows object p read =
    ap (λ found. undated_rows object ++ found) (sym (looked_at-windows object p read) ∙ dated_part)
    ∙ sym parts
  where
    parts : filter (is_looked_at object p) (rows object) ≡ undated_rows object ++ filter (is_looked_at object p) (dated_of object)
    parts =
        filter-append (is_looked_at object p) (undated_rows object) (dated_of object)
        ∙ ap (λ front. front ++ filter (is_looked_at object p) (dated_of object)) (passing (is_looked_at object p) (undated_rows object) (without_date (λ row. is_looked_at object p row ≡ true) (λ n. refl) object))

    dated_part : filter is_dated (filter (is_looked_at object p) (rows object)) ≡ filter (is_looked_at object p) (dated_of object)
    dated_part =
        ap (filter is_dated) parts
        ∙ filter-append is_dated (undated_rows object) (filter (is_looked_at object p) (dated_of object))
        ∙ ap (λ front. front ++ filter is_dated (filter (is_looked_at object p) (dated_of object))) (failing is_dated (undated_rows object) (without_date (λ row. is_dated row ≡ false) (λ n. refl) object))
        ∙ passing is_dated (filter (is_looked_at object p) (dated_of object)) (All-filter (is_looked_at object p) IsDated (dated_of object) (all_dated object))
