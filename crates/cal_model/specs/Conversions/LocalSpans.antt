-- The local times of a zone as spans in rising order, for the contracts of the functions that make them and search in them. What a local time is stands in `TimeZones/Zones`, which knows no span.
use Rattle.std.specs.Prelude.{◌≡◌, ℕ, zero, suc, ◌-◌, ◌+◌, Bool, true, false, ◌==◌, if◌then◌else◌, List, [], ◌∷◌, ◌++◌, map, length, get_or, Contains, All, AllPairs, ◌⊎◌, ℤ, pos, neg_ℤ, ◌+ℤ◌, ◌-ℤ◌, ◌<ℤ◌, int_le, refl}
use Rattle.std.specs.Coded.{Coded-set, code_by, coded×, coded_ℕ, coded_ℤ}
use Rattle.std.proofs.Props.{props}
use Rattle.cal_model.specs.declared.local_span.Found.{Found}
use Rattle.cal_model.specs.declared.local_span.Found.TheVariants.{Shown, Skipped, Nowhere}
use Rattle.cal_model.specs.declared.local_span.Span.{Span}
use Rattle.cal_model.specs.declared.zone.ZoneTable.{ZoneTable}
use Rattle.cal_model.specs.Conversions.Stretches.{no_onset, offset_of_stretch, has_local, leads_past}
use Rattle.cal_model.specs.TimeZones.TableBounds.{IsDigits, IsTable}
use Rattle.cal_model.specs.Instances.Starts.{ascending}

-- of what earlier and later stretches make of a local time, what both make of it: the first that has it, else the first onset that leads past it
abbrev pub best : Found → Found → Found
best (Shown o) second = Shown o
best Nowhere second = second
best (Skipped o) (Shown p) = Shown p
best (Skipped o) (Skipped p) = Skipped o
best (Skipped o) Nowhere = Skipped o

-- the onset at which a stretch begins leads past a local time
abbrev pub leads_up : ZoneTable → ℤ → ℕ → Bool
leads_up table l k = if k == 0 then false else leads_past l (get_or table.onsets (k - 1) no_onset)

-- what one stretch makes of a local time
abbrev pub found_in : ZoneTable → ℤ → ℕ → Found
found_in table l k =
    if has_local table l k then Shown (offset_of_stretch table k)
    else (if leads_up table l k then Skipped (offset_of_stretch table (k - 1)) else Nowhere)

-- what so many stretches from one on make of it
abbrev pub found_from : ZoneTable → ℤ → ℕ → ℕ → Found
found_from table l k zero = Nowhere
found_from table l k (suc n) = best (found_in table l k) (found_from table l (k + 1) n)

-- what the last span at or before a local time says
abbrev pub value_among : Found → List Span → ℤ → Found
value_among none [] l = none
value_among none (span ∷ spans) l = value_among (if int_le span.from l then span.found else none) spans l

abbrev pub value_at : List Span → ℤ → Found
value_at spans l = value_among Nowhere spans l

-- a span at each of some borders
abbrev pub span_at : (ℤ → Found) → ℤ → Span
span_at g p = record { from = p; found = g p }

-- The borders of a stretch by its own clock.

abbrev pub begin_border : ZoneTable → ℕ → ℤ
begin_border table k = (get_or table.onsets (k - 1) no_onset).at.0 +ℤ offset_of_stretch table k

abbrev pub end_border : ZoneTable → ℕ → ℤ
end_border table k = (get_or table.onsets k no_onset).at.0 +ℤ offset_of_stretch table k

-- the least digits
abbrev pub lowest : ℤ
lowest = neg_ℤ (pos 200_000_000_000_000)

-- all digits lie on one side of a border
abbrev pub IsBeyond : ℤ → Type 0
IsBeyond b = (l m : ℤ) → IsDigits l → IsDigits m → int_le b l ≡ int_le b m

-- a border is among some, or lies beyond all digits
abbrev pub HasBorder : List ℤ → ℤ → Type 0
HasBorder borders b = Contains borders b ⊎ IsBeyond b

-- a list of borders with one more, unless it is absent
pub record IsWith (old new : List ℤ) (absent : Bool) (b : ℤ) : Type 0 where
  pub kept : (x : ℤ) → Contains old x → Contains new x
  pub digits : All IsDigits old → All IsDigits new
  pub there : absent ≡ false → HasBorder new b

-- spans in rising order that say of each local time what so many stretches make of it
pub record IsSpans (table : ZoneTable) (k n : ℕ) (spans : List Span) : Type 0 where
  pub rising : AllPairs (λ (a b : Span). a.from <ℤ b.from) spans
  pub right : (l : ℤ) → IsDigits l → value_at spans l ≡ found_from table l k n

-- the borders of a stretch, with the lowest digits
pub record HasBordersOf (table : ZoneTable) (k : ℕ) (borders : List ℤ) : Type 0 where
  pub low : Contains borders lowest
  pub digits : All IsDigits borders
  pub begin : (k == 0) ≡ false → HasBorder borders (begin_border table k)
  pub end : (k == length table.onsets) ≡ false → HasBorder borders (end_border table k)

-- spans at the borders of two lists of spans
abbrev pub IsJoined : List Span → List Span → List Span → Type 0
IsJoined first second spans =
    spans ≡ map (span_at (λ p. best (value_at first p) (value_at second p))) (ascending (lowest ∷ [] ++ map (λ (p : Span). p.from) first ++ map (λ (p : Span). p.from) second))

-- what was found is that the local time is shown
abbrev pub is_shown : Found → Bool
is_shown (Shown o) = true
is_shown (Skipped o) = false
is_shown Nowhere = false

-- the instant of a local time by what was found of it
abbrev pub instant_by : ℤ → Found → ℤ
instant_by l (Shown o) = l -ℤ o
instant_by l (Skipped o) = l -ℤ o
instant_by l Nowhere = l

-- the spans of all stretches of a zone's time
abbrev pub IsSpansOf : ZoneTable → List Span → Type 0
IsSpansOf table spans = IsSpans table 0 (length table.onsets + 1) spans

-- Each of these facts has one proof at most, so that a type may keep it.

found_pair : Found → ℕ × ℤ
found_pair (Shown o) = (0, o)
found_pair (Skipped o) = (1, o)
found_pair Nowhere = (2, pos 0)

pair_found : ℕ × ℤ → Found
pair_found p = if p.0 == 0 then Shown p.1 else (if p.0 == 1 then Skipped p.1 else Nowhere)

pair_back : (found : Found) → pair_found (found_pair found) ≡ found
unfolding found_pair pair_found
pair_back (Shown o) = refl
pair_back (Skipped o) = refl
pair_back Nowhere = refl

pub Found-set : (a b : Found) → IsProp (a ≡ b)
Found-set a b = Coded-set (code_by (ℕ × ℤ) (coded× coded_ℕ coded_ℤ) found_pair pair_found pair_back) a b

pub IsSpansOf-prop : (table : ZoneTable) (spans : List Span) → IsProp (IsSpansOf table spans)
IsSpansOf-prop table spans = hlevel (props, Found-set)

pub IsTable-prop : (table : ZoneTable) → IsProp (IsTable table)
IsTable-prop table = hlevel props
