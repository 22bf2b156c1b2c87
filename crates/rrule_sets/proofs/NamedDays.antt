-- The first start on each local day that overrides name which move later instances is enough to know the ids by which they govern.
use Rattle.std.proofs.Common.{◌≡◌, ℕ, ◌+◌, List, [], ◌∷◌, ◌++◌, map, refl, sym, ap, ap₂, subst, ◌∙◌, arith, Bool, true, false, ℤ, pos, ◌+ℤ◌, ◌≤ℤ◌, ◌<ℤ◌, inl, inr, ◌⊎◌}
use Rattle.std.specs.Prelude.{All, Contains, filter, flat_map, int_le, int_lt, take, if◌then◌else◌}
use Rattle.std.specs.List.{list_any}
use Rattle.std.proofs.lemmas.Int.{ints}
use Rattle.std.proofs.lemmas.Bool.{cases_Bool}
use Rattle.std.proofs.lemmas.List.{append-nil, append_assoc, map-append}
use Rattle.std.proofs.lemmas.List.Elements.{All-cons, All-filter, All-head, All-map, All-nil, All-tail, All-take, All-weaker, All-contains_itself, Contains-append_left, Contains-append_right, filter-append, filter_agree}
use Rattle.cal_moment.specs.declared.stamp.Stamp.{Stamp}
use Rattle.cal_model.specs.declared.object.Component.{Component}
use Rattle.cal_model.specs.declared.object.Object.{Object}
use Rattle.cal_model.specs.declared.row.Row.{Row}
use Rattle.cal_model.specs.declared.zone.ZoneTable.{ZoneTable}
use Rattle.cal_model.specs.Words.Integers.{same_int}
use Rattle.cal_model.specs.Words.Lists.{first_or_else}
use Rattle.cal_model.specs.Recurrence.RecurrenceSet.{Reading, every_moment}
use Rattle.cal_model.specs.Instances.Alignment.{Aligned, at, on_day, midnight_of, names_start, reading_of}
use Rattle.cal_model.specs.Instances.Starts.{own_start, starts_from, starts_of}
use Rattle.cal_model.specs.Instances.Rows.{Numbered, governors, has_id, id_of_override, moves_later, named_by, numbered, numbered_from, starts}
use Rattle.cal_model.proofs.Instances.DayLaws.{midnight_of-holds}
use Rattle.cal_model.proofs.Instances.KeptStarts.{GoverningsAgree, governors-none, governors-same}
use Rattle.cal_model.proofs.Instances.RisingLists.{Contains-split}
use Rattle.cal_model.proofs.Instances.RowsInOrder.{GiveSameId}
use Rattle.cal_model.proofs.Instances.ServedStarts.{IsStatedBy, starts-served}
use Rattle.cal_model.proofs.Words.AllLemmas.{All-everywhere, All-flat_map}
use Rattle.cal_model.proofs.Words.IntegerLemmas.{same_int-self, same_int-true}
use Rattle.cal_model.specs.Objects.ObjectFacts.{IsReadObject}
use Rattle.override_merge.specs.Conversions.{HasRowTimes, IsRowTime}
use Rattle.override_merge.specs.NamedStarts.{days_in}
use Rattle.rrule_sets.specs.AskedStarts.{instance_row, instances_in}
use Rattle.rrule_sets.specs.CountedRows.{IsMasterOf, first_row, whole_day}
use Rattle.rrule_sets.specs.DigitRanges.{in_digits, starts_in}
use Rattle.rrule_sets.specs.HeldGovernors.{HoldsGovernors, days_of_movers}
use Rattle.rrule_sets.specs.NeededDigits.{id_days}
use Rattle.rrule_sets.proofs.GovernorLemmas.{none_later}
use Rattle.rrule_sets.proofs.WindowLemmas.{IsMidnight, midnights_of}

-- The first start on some days.

-- what passes a test first, if anything does
one_first : {X : Type 0} (p : X → Bool) (xs : List X) → (filter p xs ≡ []) ⊎ ((x : X) × ((rest : List X) × ((filter p xs ≡ x ∷ rest) × (p x ≡ true))))
one_first p [] = inl refl
one_first p (x ∷ xs) = elim (cases_Bool (p x)) [
  | inl w ↦ inr (x, (filter p xs, (rw w refl, w)))
  | inr w ↦ elim (one_first p xs) [
    | inl none ↦ inl (rw w none)
    | inr some ↦ inr (some.0, (some.1.0, (rw w some.1.1.0, some.1.1.1)))
  ]
]

module _ (reading : Reading) (all : List ℤ) where
  abbrev on : ℤ → ℤ → Bool
  on midnight r = names_start reading r (on_day midnight)

  abbrev pub firsts_on : ℤ → List ℤ
  firsts_on midnight = take 1 (filter (on midnight) all)

  -- of those on a day the first one is on that day
  first_itself : (m : ℤ) → filter (on m) (firsts_on m) ≡ firsts_on m
  first_itself m = elim (one_first (on m) all) [
    | inl none ↦ ap (λ (xs : List ℤ). filter (on m) (take 1 xs)) none ∙ sym (ap (λ (xs : List ℤ). take 1 xs) none)
    | inr some ↦ (let is = some.1.1.0 in let passes = some.1.1.1 in
        ap (λ (xs : List ℤ). filter (on m) (take 1 xs)) is ∙ (ap (λ (b : Bool). if b then some.0 ∷ [] else []) passes ∙ sym (ap (λ (xs : List ℤ). take 1 xs) is)))
  ]

  -- and on no other
  elsewhere : (m d r : ℤ) → same_int m d ≡ false → on d r ≡ true → on m r ≡ false
  elsewhere m d r other there = ap (same_int m) (sym (same_int-true d (midnight_of (reading.local r)) there)) ∙ other

  first_of_other : (m d : ℤ) → same_int m d ≡ false → filter (on m) (firsts_on d) ≡ []
  first_of_other m d other = elim (one_first (on d) all) [
    | inl none ↦ ap (λ (xs : List ℤ). filter (on m) (take 1 xs)) none
    | inr some ↦ (let is = some.1.1.0 in let out = elsewhere m d some.0 other some.1.1.1 in
        ap (λ (xs : List ℤ). filter (on m) (take 1 xs)) is ∙ ap (λ (b : Bool). if b then some.0 ∷ [] else []) out)
  ]

  -- one day after the other
  by_first : (m d : ℤ) (ds : List ℤ) → filter (on m) (flat_map firsts_on (d ∷ ds)) ≡ (if same_int m d then firsts_on m else []) ++ filter (on m) (flat_map firsts_on ds)
  by_first m d ds =
      filter-append (on m) (firsts_on d) (flat_map firsts_on ds)
      ∙ ap (λ (xs : List ℤ). xs ++ filter (on m) (flat_map firsts_on ds))
      (elim (cases_Bool (same_int m d)) [
        | inl w ↦ rw w (ap (λ (k : ℤ). filter (on m) (firsts_on k)) (sym (same_int-true m d w)) ∙ first_itself m)
        | inr w ↦ rw w (first_of_other m d w)
      ])

  -- without a start on the day
  none_found : (m : ℤ) (ds : List ℤ) → filter (on m) all ≡ [] → filter (on m) (flat_map firsts_on ds) ≡ []
  none_found m [] none = refl
  none_found m (d ∷ ds) none =
      by_first m d ds ∙ (ap₂ (λ (xs ys : List ℤ). (if same_int m d then xs else []) ++ ys) (ap (λ (xs : List ℤ). take 1 xs) none) (none_found m ds none) ∙ no_more (same_int m d))
    where
      no_more : (b : Bool) → ◌++◌ {A = ℤ} (if b then [] else []) [] ≡ []
      no_more true = refl
      no_more false = refl

  -- with one
  one_found : (z m : ℤ) (ds : List ℤ) (r : ℤ) (rest : List ℤ) → filter (on m) all ≡ r ∷ rest → Contains ds m → first_or_else z (filter (on m) (flat_map firsts_on ds)) ≡ r
  one_found z m [] r rest is there = (let below = there.1 in absurd (omega (arith, below)))
  one_found z m (d ∷ ds) r rest is there =
      ap (first_or_else z) (by_first m d ds ∙ ap (λ (xs : List ℤ). (if same_int m d then xs else []) ++ filter (on m) (flat_map firsts_on ds)) (ap (λ (xs : List ℤ). take 1 xs) is))
      ∙ elim (cases_Bool (same_int m d)) [
        | inl w ↦ rw w refl
        | inr w ↦ rw w (elim (Contains-split d m ds there) [
          | inl e ↦ absurd (let same : same_int m d ≡ true = ap (same_int m) e ∙ same_int-self m in cc)
          | inr later ↦ one_found z m ds r rest is later
        ])
      ]

  -- the first start on a day is the first one on it of the first on several days
  pub first_kept : (z m : ℤ) (ds : List ℤ) → Contains ds m → first_or_else z (filter (on m) (flat_map firsts_on ds)) ≡ first_or_else z (filter (on m) all)
  first_kept z m ds there = elim (one_first (on m) all) [
    | inl none ↦ ap (first_or_else z) (none_found m ds none ∙ sym none)
    | inr some ↦ one_found z m ds some.0 some.1.0 some.1.1.0 there ∙ sym (ap (first_or_else z) some.1.1.0)
  ]

-- A local day as a range of digits.

the_day : (m l : ℤ) → IsMidnight m → in_digits (whole_day m) l ≡ true → m ≡ midnight_of l
the_day m l is inside = elim (cases_Bool (int_le m l)) [
  | inl v ↦ elim (cases_Bool (int_lt l (m +ℤ pos 86400))) [
    | inl w ↦ (let from : m ≤ℤ l = grind (arith, ints, v) in
        let to : l <ℤ (m +ℤ pos 86400) = grind (arith, ints, w) in
        let holds = midnight_of-holds l in
        omega (arith, ints, is, holds, from, to))
    | inr w ↦ absurd (let out = rw (v, w) at inside in cc)
  ]
  | inr v ↦ absurd (let out = rw v at inside in cc)
]

-- a day has the digits whose midnight is its own
in_day : (m l : ℤ) → IsMidnight m → in_digits (whole_day m) l ≡ same_int m (midnight_of l)
in_day m l is = elim (cases_Bool (same_int m (midnight_of l))) [
  | inl w ↦ (let same = same_int-true m (midnight_of l) w in
      let holds = midnight_of-holds l in
      let from : int_le m l ≡ true = grind (arith, ints, same, holds) in
      let to : int_lt l (m +ℤ pos 86400) ≡ true = grind (arith, ints, same, holds) in
      rw (w, from, to) refl)
  | inr w ↦ elim (cases_Bool (in_digits (whole_day m) l)) [
    | inl v ↦ absurd (let same : same_int m (midnight_of l) ≡ true = ap (same_int m) (sym (the_day m l is v)) ∙ same_int-self m in cc)
    | inr v ↦ v ∙ sym w
  ]
]

-- The rows of the first starts.

module _ (zones : List ZoneTable) (s : Stamp) (c : Component) where
  abbrev all_starts : List ℤ
  all_starts = starts_from every_moment zones c (own_start c)

  first_ids : (rs : List ℤ) → map (λ (row : Row). row.id) (take 1 (map (instance_row zones s c 0) rs)) ≡ take 1 rs
  first_ids [] = refl
  first_ids (r ∷ rs) = refl

  ids_of_day : (d : ℤ) → IsMidnight d → map (λ (row : Row). row.id) (first_row zones s c d) ≡ firsts_on (reading_of zones s) all_starts d
  ids_of_day d is =
      first_ids (filter (starts_in zones s (whole_day d)) all_starts)
      ∙ ap (λ (rs : List ℤ). take 1 rs) (filter_agree (starts_in zones s (whole_day d)) (λ r. names_start (reading_of zones s) r (on_day d)) (λ r. in_day d ((reading_of zones s).local r) is) all_starts)

  pub ids_of_days : (ds : List ℤ) → All IsMidnight ds → map (λ (row : Row). row.id) (flat_map (first_row zones s c) ds) ≡ flat_map (firsts_on (reading_of zones s) all_starts) ds
  ids_of_days [] all = refl
  ids_of_days (d ∷ ds) all =
      map-append (λ (row : Row). row.id) (first_row zones s c d) (flat_map (first_row zones s c) ds)
      ∙ ap₂ (λ (xs ys : List ℤ). xs ++ ys) (ids_of_day d (All-head IsMidnight d ds all)) (ids_of_days ds (All-tail IsMidnight d ds all))

  -- one component after the other, those before it done
  days_first : (m : Component) (cs : List Component) (ds : List ℤ) → ds ≡ days_of_movers zones s (m ∷ []) → days_of_movers zones s (m ∷ cs) ≡ ds ++ days_of_movers zones s cs
  days_first m cs ds e =
      ap (λ (xs : List ℤ). xs ++ days_of_movers zones s cs) (sym (append-nil (if m.future then id_days zones s m else [])) ∙ sym e)

  pub one_first_more : (m : Component) (cs : List Component) (midnight : ℤ) (done more whole : List Row) → midnight ∷ [] ≡ days_of_movers zones s (m ∷ []) → more ≡ done ++ first_row zones s c midnight →
      done ++ flat_map (first_row zones s c) (days_of_movers zones s (m ∷ cs)) ≡ whole → more ++ flat_map (first_row zones s c) (days_of_movers zones s cs) ≡ whole
  one_first_more m cs midnight done more whole day put all =
      let rest = flat_map (first_row zones s c) (days_of_movers zones s cs) in
      ap (λ (rows : List Row). rows ++ rest) put
      ∙ (append_assoc done (first_row zones s c midnight) rest
      ∙ (ap (λ (ds : List ℤ). done ++ flat_map (first_row zones s c) ds) (sym (days_first m cs (midnight ∷ []) day)) ∙ all))

  pub no_first : (m : Component) (cs : List Component) (done whole : List Row) → [] ≡ days_of_movers zones s (m ∷ []) →
      done ++ flat_map (first_row zones s c) (days_of_movers zones s (m ∷ cs)) ≡ whole → done ++ flat_map (first_row zones s c) (days_of_movers zones s cs) ≡ whole
  no_first m cs done whole day all =
      ap (λ (ds : List ℤ). done ++ flat_map (first_row zones s c) ds) (sym (days_first m cs [] day)) ∙ all

-- The days that the overrides name.

module _ (zones : List ZoneTable) (ids : Stamp) where
  abbrev days_of : List Component → List ℤ
  days_of cs = days_of_movers zones ids cs

  midnight_days : (cs : List Component) → All IsMidnight (days_of cs)
  midnight_days cs = All-flat_map IsMidnight (λ (c : Component). if c.future then id_days zones ids c else []) cs (All-everywhere (λ (c : Component). All IsMidnight (if c.future then id_days zones ids c else [])) (λ c. of_test c c.future) cs)
    where
      of_test : (c : Component) (b : Bool) → All IsMidnight (if b then id_days zones ids c else [])
      of_test c true = midnights_of zones ids c.recurrence_id
      of_test c false = All-nil IsMidnight

  abbrev AmongDays : List Component → Numbered → Type 0
  AmongDays cs n = moves_later n ≡ true → All (Contains (days_of cs)) (days_in (named_by zones ids n))

  first_among : (k : ℕ) (c : Component) (cs : List Component) → AmongDays (c ∷ cs) (record { number = k; component = c })
  first_among k c cs later =
      All-weaker (Contains (id_days zones ids c)) (Contains (days_of (c ∷ cs)))
      (λ m there. Contains-append_left (if c.future then id_days zones ids c else []) (days_of cs) m (subst (λ (b : Bool). Contains (if b then id_days zones ids c else []) m) (sym later) there))
      (id_days zones ids c) (All-contains_itself (id_days zones ids c))

  days_among : (k : ℕ) (cs : List Component) → All (AmongDays cs) (numbered_from k cs)
  days_among k [] = All-nil (AmongDays [])
  days_among k (c ∷ cs) =
      All-cons (AmongDays (c ∷ cs)) (record { number = k; component = c }) (numbered_from (k + 1) cs) (first_among k c cs)
      (All-weaker (AmongDays cs) (AmongDays (c ∷ cs))
      (λ n among later. All-weaker (Contains (days_of cs)) (Contains (days_of (c ∷ cs))) (λ m there. Contains-append_right (if c.future then id_days zones ids c else []) (days_of cs) m there) (days_in (named_by zones ids n)) (among later))
      (numbered_from (k + 1) cs) (days_among (k + 1) cs))

-- What the first starts tell.

module _ (object : Object) (ids : Stamp) (all : List ℤ) where
  abbrev its_days : List ℤ
  its_days = days_of_movers object.zones ids object.components

  abbrev firsts : List ℤ
  firsts = flat_map (firsts_on (reading_of object.zones ids) all) its_days

  same_ids : (xs : List Aligned) → All (Contains its_days) (days_in xs) → All (λ x. id_of_override object ids firsts x ≡ id_of_override object ids all x) xs
  same_ids [] among = All-nil (λ x. id_of_override object ids firsts x ≡ id_of_override object ids all x)
  same_ids (at v ∷ xs) among = All-cons (λ x. id_of_override object ids firsts x ≡ id_of_override object ids all x) (at v) xs refl (same_ids xs among)
  same_ids (on_day m ∷ xs) among =
      All-cons (λ x. id_of_override object ids firsts x ≡ id_of_override object ids all x) (on_day m) xs
      (first_kept (reading_of object.zones ids) all ((reading_of object.zones ids).instant m) m its_days (All-head (Contains its_days) m (days_in xs) among))
      (same_ids xs (All-tail (Contains its_days) m (days_in xs) among))

  firsts_agree : GoverningsAgree object ids firsts all
  firsts_agree =
      All-filter has_id (λ n. moves_later n ≡ true → GiveSameId object ids firsts all n) (numbered object)
      (All-weaker (AmongDays object.zones ids object.components) (λ n. moves_later n ≡ true → GiveSameId object ids firsts all n) (λ n among later. same_ids (named_by object.zones ids n) (among later)) (numbered object) (days_among object.zones ids 0 object.components))

all_of_master : (object : Object) (c : Component) → IsMasterOf object c → starts every_moment object ≡ starts_from every_moment object.zones c (own_start c)
all_of_master object c master =
    ap (flat_map (λ (n : Numbered). starts_of every_moment object.zones n.component)) master.1 ∙ append-nil (starts_from every_moment object.zones c (own_start c))

-- the first rows of a master on the days that overrides name which move later instances tell these
pub governors-first : (object : Object) (s : Stamp) (c : Component) → IsMasterOf object c →
    governors object s (map (λ (row : Row). row.id) (flat_map (first_row object.zones s c) (days_of_movers object.zones s object.components))) ≡ governors object s (starts every_moment object)
governors-first object s c master =
    let days = days_of_movers object.zones s object.components in
    let all = all_of_master object c master in
    let found : map (λ (row : Row). row.id) (flat_map (first_row object.zones s c) days) ≡ flat_map (firsts_on (reading_of object.zones s) (starts every_moment object)) days =
    ids_of_days object.zones s c days (midnight_days object.zones s object.components) ∙ sym (ap (λ (rs : List ℤ). flat_map (firsts_on (reading_of object.zones s) rs) days) all) in
    ap (governors object s) found ∙ governors-same object s (flat_map (firsts_on (reading_of object.zones s) (starts every_moment object)) days) (starts every_moment object) (firsts_agree object s (starts every_moment object))

-- The rows of the first starts are near.

first_near : (zones : List ZoneTable) (s : Stamp) (c : Component) (d : ℤ) → All (IsStatedBy 172800) (starts_from every_moment zones c (own_start c)) → All HasRowTimes (first_row zones s c d)
first_near zones s c d stated =
    All-take HasRowTimes 1 (instances_in zones s c 0 (whole_day d))
    (All-map HasRowTimes (instance_row zones s c 0) (filter (starts_in zones s (whole_day d)) (starts_from every_moment zones c (own_start c)))
    (All-filter (starts_in zones s (whole_day d)) (λ r. HasRowTimes (instance_row zones s c 0 r)) (starts_from every_moment zones c (own_start c))
    (All-weaker (IsStatedBy 172800) (λ r. HasRowTimes (instance_row zones s c 0 r)) (λ r is. let time : IsRowTime r = (omega (arith, ints, is), omega (arith, ints, is)) in record { id = time; start = time }) (starts_from every_moment zones c (own_start c)) stated)))

pub first_rows_near : (object : Object) (s : Stamp) (c : Component) → IsReadObject object → IsMasterOf object c → (ds : List ℤ) → All HasRowTimes (flat_map (first_row object.zones s c) ds)
first_rows_near object s c is master ds =
    All-flat_map HasRowTimes (first_row object.zones s c) ds
    (All-everywhere (λ d. All HasRowTimes (first_row object.zones s c d)) (λ d. first_near object.zones s c d stated) ds)
  where
    stated : All (IsStatedBy 172800) (starts_from every_moment object.zones c (own_start c))
    stated = subst (All (IsStatedBy 172800)) (all_of_master object c master) (starts-served every_moment object is)

-- Without an override that moves later instances.

pub holds_none : (object : Object) (ids : Stamp) (all : List ℤ) → list_any (λ (c : Component). c.future) object.components ≡ false → HoldsGovernors object.zones (governors object ids all) []
holds_none object ids all none =
    subst (λ gs. HoldsGovernors object.zones gs []) (sym (governors-none object ids all (none_later object none)))
    (record { rising = λ i j d lt below. absurd (omega (arith, below)); kept = λ id. refl })
