-- What holds of the dates of a component's lines holds of all its stamps.
use Rattle.std.proofs.Common.{◌≡◌, ℕ, List, [], ◌∷◌, ◌++◌, map, length, refl, ap, sym, Bool, true, false}
use Rattle.std.specs.Prelude.{not, bytes_eq, flat_map, option_to_list, unwrap_or, Option, Some, None, option_map, codes, if◌then◌else◌}
use Rattle.std.specs.List.{AllByRecursion as Each, list_any}
use Rattle.std.proofs.lemmas.Bool.{false≢true}
use Rattle.std.proofs.lemmas.Slice.Eq.{bytes_eq-Decides}
use Rattle.std.proofs.lemmas.Option.{none-some}
use Rattle.cal_base.specs.declared.line.Node.{Node}
use Rattle.cal_base.specs.Lines.ComponentTrees.{first}
use Rattle.cal_base.specs.declared.line.Line.{Line}
use Rattle.cal_moment.specs.declared.stamp.Length.{Length}
use Rattle.cal_moment.specs.declared.stamp.Period.{Period}
use Rattle.cal_moment.specs.declared.stamp.Stamp.{Stamp}
use Rattle.cal_model.specs.declared.object.Class.{Class}
use Rattle.cal_moment.specs.declared.stamp.Stamp.TheVariants.{Date, Floating, Zoned, Utc}
use Rattle.cal_model.specs.declared.object.Component.{Component}
use Rattle.cal_model.specs.declared.object.Extent.{Extent}
use Rattle.cal_model.specs.declared.object.Extent.TheVariants as extent
use Rattle.cal_model.specs.declared.object.Kind.{Kind}
use Rattle.cal_model.specs.declared.object.Kind.TheVariants.{Event, Todo, Journal, FreeBusy}
use Rattle.cal_model.specs.Values.StampTexts.{is_known, is_one_of}
use Rattle.cal_model.specs.Objects.LineValues.{stamps_in, periods_in, stamps_at, periods_at, stamp_at, value_at}
use Rattle.cal_model.specs.Values.ValueTexts.{length_of}
use Rattle.cal_model.specs.Objects.ComponentLines.{has_name, all_of, component_kind, lines_of}
use Rattle.cal_model.specs.Objects.ComponentReading.{class_of, stored_busy_of, end_by_start, extent_without_end, extent_of, component_of}
use Rattle.cal_model.specs.Objects.ObjectFacts.{stamps_of_extent, component_stamps}
use Rattle.cal_model.proofs.Words.EachLemmas.{each_of_any, each-weaker, each-both, each-filter, each_passes, each-map, each-append, each_of_append, each-flat_map, each_of_flat_map}
use Rattle.cal_model.specs.Objects.ResourceFaults.{lacks_zone}
use Rattle.cal_model.specs.Objects.DatedLines.{dated_names, dated_stamps, stamps_of_period}
use Rattle.cal_model.specs.Objects.CalendarChildren.{Child, component_of_child}

-- Components

-- a component is made of a child of its kind
pub record IsMade (zones : List (List ℕ)) (child : Child) (component : Component) : Type 0 where
  pub kind : Kind
  pub of_kind : component_kind child.tree ≡ Some kind
  pub is : component ≡ component_of zones child.number kind child.tree

pub made_step : (zones : List (List ℕ)) (child : Child) (component : Component) (kind : Option Kind) → component_kind child.tree ≡ kind →
    option_map (λ k. component_of zones child.number k child.tree) kind ≡ Some component → IsMade zones child component
made_step zones child component None of_kind made = absurd (none-some component made)
made_step zones child component (Some kind) of_kind made =
    record { kind = kind; of_kind = of_kind; is = sym (ap (λ o. unwrap_or o (component_of zones child.number kind child.tree)) made) }

pub is_made : (zones : List (List ℕ)) (child : Child) (component : Component) → component_of_child zones child ≡ Some component → IsMade zones child component
is_made zones child component made = made_step zones child component (component_kind child.tree) refl made

-- Stamps with zones that are there

-- all dates of some lines are in zones that are there
abbrev pub IsNamed : List (List ℕ) → Stamp → Type 0
IsNamed zones stamp = is_known zones stamp ≡ true

pub known_by_test : (b : Bool) → not b ≡ false → b ≡ true
known_by_test true known = refl
known_by_test false known = absurd (false≢true (sym known))

pub lines_known : (zones : List (List ℕ)) (lines : List Line) → lacks_zone zones lines ≡ false → Each (λ line. Each (IsNamed zones) (dated_stamps zones line)) lines
lines_known zones lines known =
    each_of_flat_map (IsNamed zones) (dated_stamps zones) lines
    (each-weaker (λ stamp is. known_by_test (is_known zones stamp) is) (flat_map (dated_stamps zones) lines)
    (each_of_any (λ stamp. not (is_known zones stamp)) (flat_map (dated_stamps zones) lines) known))

-- the dates of a line are its stamps and those of its periods
pub dated_step : (P : Stamp → Type 0) (zones : List (List ℕ)) (stamps more : List Stamp) (b : Bool) → b ≡ true → Each P (if b then stamps ++ more else []) → Each P stamps × Each P more
dated_step P zones stamps more true is known = each_of_append P stamps more known
dated_step P zones stamps more false is known = absurd (false≢true is)

pub is_dated : (name : List ℕ) (line : Line) → list_any (bytes_eq name) dated_names ≡ true → has_name name line ≡ true → is_one_of dated_names line ≡ true
is_dated name line dated named = rw ((bytes_eq-Decides line.name name).0 named) dated

pub of_dated_line : (P : Stamp → Type 0) (zones : List (List ℕ)) (name : List ℕ) (line : Line) → list_any (bytes_eq name) dated_names ≡ true → has_name name line ≡ true →
    Each P (dated_stamps zones line) → Each P (stamps_in zones line) × Each P (flat_map stamps_of_period (periods_in zones line))
of_dated_line P zones name line dated named known =
    dated_step P zones (stamps_in zones line) (flat_map stamps_of_period (periods_in zones line)) (is_one_of dated_names line) (is_dated name line dated named) known

pub named_lines : (P : Stamp → Type 0) (zones : List (List ℕ)) (name : List ℕ) (lines : List Line) → Each (λ line. Each P (dated_stamps zones line)) lines →
    Each (λ (line : Line). Each P (dated_stamps zones line) × (has_name name line ≡ true)) (all_of name lines)
named_lines P zones name lines known =
    each-both (λ line. Each P (dated_stamps zones line)) (λ line. has_name name line ≡ true) (all_of name lines)
    (each-filter (λ line. Each P (dated_stamps zones line)) (has_name name) lines known)
    (each_passes (has_name name) lines)

pub each_stamp_at : (P : Stamp → Type 0) (zones : List (List ℕ)) (name : List ℕ) (lines : List Line) → list_any (bytes_eq name) dated_names ≡ true →
    Each (λ line. Each P (dated_stamps zones line)) lines → Each P (stamps_at zones name lines)
each_stamp_at P zones name lines dated known =
    each-flat_map P (stamps_in zones) (all_of name lines)
    (each-weaker (λ line facts. (of_dated_line P zones name line dated facts.1 facts.0).0) (all_of name lines) (named_lines P zones name lines known))

pub each_period_at : (P : Stamp → Type 0) (zones : List (List ℕ)) (name : List ℕ) (lines : List Line) → list_any (bytes_eq name) dated_names ≡ true →
    Each (λ line. Each P (dated_stamps zones line)) lines → Each P (flat_map stamps_of_period (periods_at zones name lines))
each_period_at P zones name lines dated known =
    each-flat_map P stamps_of_period (periods_at zones name lines)
    (each-flat_map (λ period. Each P (stamps_of_period period)) (periods_in zones) (all_of name lines)
    (each-weaker (λ line facts. each_of_flat_map P stamps_of_period (periods_in zones line) (of_dated_line P zones name line dated facts.1 facts.0).1) (all_of name lines) (named_lines P zones name lines known)))

pub each_stored : (P : Stamp → Type 0) (zones : List (List ℕ)) (lines : List Line) → Each (λ line. Each P (dated_stamps zones line)) lines →
    Each P (flat_map (λ (entry : Option Class × Period). stamps_of_period entry.1) (stored_busy_of zones lines))
each_stored P zones lines known =
    let all = all_of (codes "FREEBUSY") lines in
    each-flat_map P (λ (entry : Option Class × Period). stamps_of_period entry.1) (stored_busy_of zones lines)
    (each-flat_map (λ (entry : Option Class × Period). Each P (stamps_of_period entry.1)) (λ (line : Line). map (λ period. (class_of line, period)) (periods_in zones line)) all
    (each-weaker (λ line facts. each-map (λ (entry : Option Class × Period). Each P (stamps_of_period entry.1)) (λ period. (class_of line, period)) (periods_in zones line)
    (each_of_flat_map P stamps_of_period (periods_in zones line) (of_dated_line P zones (codes "FREEBUSY") line refl facts.1 facts.0).1)) all (named_lines P zones (codes "FREEBUSY") lines known)))

pub each_first_one : (P : Stamp → Type 0) (zones : List (List ℕ)) (stamps : List Stamp) → Each P stamps → Each P (option_to_list (first stamps))
each_first_one P zones [] known = tt
each_first_one P zones (stamp ∷ stamps) known = (known.0, tt)

pub each_one_at : (P : Stamp → Type 0) (zones : List (List ℕ)) (name : List ℕ) (lines : List Line) → list_any (bytes_eq name) dated_names ≡ true →
    Each (λ line. Each P (dated_stamps zones line)) lines → Each P (option_to_list (stamp_at zones name lines))
each_one_at P zones name lines dated known = each_first_one P zones (stamps_at zones name lines) (each_stamp_at P zones name lines dated known)

-- an extent that no end gives has no stamp
pub end_by_start-stamps : (kind : Kind) (start : Option Stamp) → stamps_of_extent (end_by_start kind start) ≡ []
end_by_start-stamps Event None = refl
end_by_start-stamps Event (Some (Date day)) = refl
end_by_start-stamps Event (Some (Floating local)) = refl
end_by_start-stamps Event (Some (Zoned local number)) = refl
end_by_start-stamps Event (Some (Utc moment)) = refl
end_by_start-stamps Journal None = refl
end_by_start-stamps Journal (Some (Date day)) = refl
end_by_start-stamps Journal (Some (Floating local)) = refl
end_by_start-stamps Journal (Some (Zoned local number)) = refl
end_by_start-stamps Journal (Some (Utc moment)) = refl
end_by_start-stamps Todo None = refl
end_by_start-stamps Todo (Some (Date day)) = refl
end_by_start-stamps Todo (Some (Floating local)) = refl
end_by_start-stamps Todo (Some (Zoned local number)) = refl
end_by_start-stamps Todo (Some (Utc moment)) = refl
end_by_start-stamps FreeBusy None = refl
end_by_start-stamps FreeBusy (Some (Date day)) = refl
end_by_start-stamps FreeBusy (Some (Floating local)) = refl
end_by_start-stamps FreeBusy (Some (Zoned local number)) = refl
end_by_start-stamps FreeBusy (Some (Utc moment)) = refl

pub extent_without_end-stamps : (kind : Kind) (start : Option Stamp) (length : Option Length) → stamps_of_extent (extent_without_end kind start length) ≡ []
extent_without_end-stamps kind start (Some length) = refl
extent_without_end-stamps kind start None = end_by_start-stamps kind start

pub each_due : (P : Stamp → Type 0) (zones : List (List ℕ)) (end : Option Stamp) (other : Extent) → stamps_of_extent other ≡ [] → Each P (option_to_list end) →
    Each P (stamps_of_extent (unwrap_or (option_map extent.Due end) other))
each_due P zones None other none known = rw none tt
each_due P zones (Some end) other none known = known

pub each_end : (P : Stamp → Type 0) (zones : List (List ℕ)) (end : Option Stamp) (other : Extent) → stamps_of_extent other ≡ [] → Each P (option_to_list end) →
    Each P (stamps_of_extent (unwrap_or (option_map extent.End end) other))
each_end P zones None other none known = rw none tt
each_end P zones (Some end) other none known = known

pub each_extent : (P : Stamp → Type 0) (zones : List (List ℕ)) (kind : Kind) (lines : List Line) → Each (λ line. Each P (dated_stamps zones line)) lines →
    Each P (stamps_of_extent (extent_of zones kind lines))
each_extent P zones Todo lines known =
    let start = stamp_at zones (codes "DTSTART") lines in
    let length = value_at length_of (codes "DURATION") lines in
    each_due P zones (stamp_at zones (codes "DUE") lines) (extent_without_end Todo start length) (extent_without_end-stamps Todo start length) (each_one_at P zones (codes "DUE") lines refl known)
each_extent P zones Event lines known =
    let start = stamp_at zones (codes "DTSTART") lines in
    let length = value_at length_of (codes "DURATION") lines in
    each_end P zones (stamp_at zones (codes "DTEND") lines) (extent_without_end Event start length) (extent_without_end-stamps Event start length) (each_one_at P zones (codes "DTEND") lines refl known)
each_extent P zones Journal lines known =
    let start = stamp_at zones (codes "DTSTART") lines in
    let length = value_at length_of (codes "DURATION") lines in
    each_end P zones (stamp_at zones (codes "DTEND") lines) (extent_without_end Journal start length) (extent_without_end-stamps Journal start length) (each_one_at P zones (codes "DTEND") lines refl known)
each_extent P zones FreeBusy lines known =
    let start = stamp_at zones (codes "DTSTART") lines in
    let length = value_at length_of (codes "DURATION") lines in
    each_end P zones (stamp_at zones (codes "DTEND") lines) (extent_without_end FreeBusy start length) (extent_without_end-stamps FreeBusy start length) (each_one_at P zones (codes "DTEND") lines refl known)

-- what holds of the dates of its lines holds of all stamps of a component
pub each_stamp : (P : Stamp → Type 0) (zones : List (List ℕ)) (number : ℕ) (kind : Kind) (node : Node) → Each (λ line. Each P (dated_stamps zones line)) (lines_of node) →
    Each P (component_stamps (component_of zones number kind node))
each_stamp P zones number kind node known =
    let lines = lines_of node in
    let made = component_of zones number kind node in
    let start = option_to_list made.start in
    let end = stamps_of_extent made.extent in
    let id = option_to_list made.recurrence_id in
    let periods = flat_map stamps_of_period made.periods in
    each-append P (start ++ end ++ id ++ made.dates ++ periods ++ made.except) (flat_map (λ (entry : Option Class × Period). stamps_of_period entry.1) made.stored_busy)
    (each-append P (start ++ end ++ id ++ made.dates ++ periods) made.except
    (each-append P (start ++ end ++ id ++ made.dates) periods
    (each-append P (start ++ end ++ id) made.dates
    (each-append P (start ++ end) id
    (each-append P start end
    (each_one_at P zones (codes "DTSTART") lines refl known)
    (each_extent P zones kind lines known))
    (each_one_at P zones (codes "RECURRENCE-ID") lines refl known))
    (each_stamp_at P zones (codes "RDATE") lines refl known))
    (each_period_at P zones (codes "RDATE") lines refl known))
    (each_stamp_at P zones (codes "EXDATE") lines refl known))
    (each_stored P zones lines known)
