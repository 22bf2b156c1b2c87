-- The table of a zone has its onsets in rising order, and says at each instant what the latest change of any part says.
use Rattle.std.proofs.Common.{◌≡◌, ℕ, zero, suc, ◌<◌, List, [], ◌∷◌, ◌++◌, length, get_or, map, refl, sym, ap, subst, ◌∙◌, arith, true, false, ℤ, ◌-ℤ◌, ◌<ℤ◌, ◌≤ℤ◌, inl, inr, ◌⊎◌}
use Rattle.std.specs.Prelude.{All, int_le, int_lt, if◌then◌else◌, filter, fold, flat_map, Option, Some, None}
use Rattle.std.proofs.lemmas.Int.{ints, by_lt_z}
use Rattle.std.proofs.lemmas.Bool.{cases_Bool}
use Rattle.std.proofs.lemmas.List.Elements.{All-cons}
use Rattle.cal_moment.specs.Calendar.{seconds_since_1970}
use Rattle.cal_model.specs.declared.zone.Onset.{Onset}
use Rattle.cal_model.specs.declared.zone.ZonePart.{ZonePart}
use Rattle.cal_model.specs.Words.Integers.{same_int}
use Rattle.cal_model.specs.Words.Lists.{last_or_else}
use Rattle.cal_model.specs.TimeZones.TableBounds.{IsRising, IsOffset, IsPart, IsTable}
use Rattle.cal_model.specs.TimeZones.ZoneOnsets.{Change, put_change, part_moments, part_changes, changes, first_from, offset_before, as_onset, table_over, table_of}
use Rattle.cal_model.specs.Recurrence.RecurrenceSet.{every_moment}
use Rattle.cal_model.specs.TimeZones.Zones.{offset_at}
use Rattle.cal_model.proofs.TimeZones.Instants.{same_int-true, same_int-self}

-- all changes of a list come after a moment
unfoldable pub AllAfter : ℤ → List Change → Type 0
AllAfter z [] = Unit {0}
AllAfter z (c ∷ cs) = (z <ℤ c.at) × AllAfter z cs

-- each comes after those before it
unfoldable pub AreInOrder : List Change → Type 0
AreInOrder [] = Unit {0}
AreInOrder (c ∷ cs) = AllAfter c.at cs × AreInOrder cs

AllAfter-put_change : (z : ℤ) (cs : List Change) (c : Change) → z <ℤ c.at → AllAfter z cs → AllAfter z (put_change cs c)
unfolding AllAfter
AllAfter-put_change z [] c lt h = (lt, tt)
AllAfter-put_change z (x ∷ xs) c lt h = elim (cases_Bool (int_lt c.at x.at)) [
  | inl before ↦ rw before (lt, h)
  | inr from ↦ elim (cases_Bool (same_int c.at x.at)) [
    | inl same ↦ rw (from, same) (lt, h.1)
    | inr other ↦ rw (from, other) (h.0, AllAfter-put_change z xs c lt h.1)
  ]
]

pub AllAfter-earlier : (y z : ℤ) (cs : List Change) → y <ℤ z → AllAfter z cs → AllAfter y cs
unfolding AllAfter
AllAfter-earlier y z [] lt h = tt
AllAfter-earlier y z (c ∷ cs) lt h = let first = h.0 in (omega (arith, ints, lt, first), AllAfter-earlier y z cs lt h.1)

pub AreInOrder-put_change : (cs : List Change) (c : Change) → AreInOrder cs → AreInOrder (put_change cs c)
unfolding AllAfter AreInOrder
AreInOrder-put_change [] c h = (tt, tt)
AreInOrder-put_change (x ∷ xs) c h = elim (cases_Bool (int_lt c.at x.at)) [
  | inl before ↦ (let lt : c.at <ℤ x.at = grind (arith, ints, before) in rw before ((lt, AllAfter-earlier c.at x.at xs lt h.0), h))
  | inr from ↦ elim (cases_Bool (same_int c.at x.at)) [
    | inl same ↦ (let e : x.at ≡ c.at = sym (same_int-true c.at x.at same) in rw (from, same) (rw e at h.0, h.1))
    | inr other ↦ (let lt = later from other in rw (from, other) (AllAfter-put_change x.at xs c lt h.0, AreInOrder-put_change xs c h.1))
  ]
]
  where
    later : int_lt c.at x.at ≡ false → same_int c.at x.at ≡ false → x.at <ℤ c.at
    later from other =
        by_lt_z x.at c.at
        (λ lt. lt)
        (λ ge. let le : x.at ≤ℤ c.at = grind (arith, ints, from) in
        let e : c.at ≡ x.at = omega (arith, ints, le, ge) in
        let same : same_int c.at x.at ≡ true = rw e (same_int-self x.at) in
        let clash : true ≡ false = rw same at other in absurd cc)

pub AreInOrder-fold : (cs more : List Change) → AreInOrder cs → AreInOrder (fold put_change cs more)
AreInOrder-fold cs [] h = h
AreInOrder-fold cs (c ∷ more) h = AreInOrder-fold (put_change cs c) more (AreInOrder-put_change cs c h)

nth_after : (z : ℤ) (cs : List Change) (k : ℕ) (d : Onset) → k < length (map as_onset cs) → AllAfter z cs → z <ℤ (get_or (map as_onset cs) k d).at.0
unfolding AllAfter
nth_after z [] k d lt h = absurd (omega arith)
nth_after z (c ∷ cs) zero d lt h = h.0
nth_after z (c ∷ cs) (suc k) d lt h = nth_after z cs k d (omega arith) h.1

each_after : (cs : List Change) → AreInOrder cs → (i j : ℕ) (d : Onset) → i < j → j < length (map as_onset cs) → (get_or (map as_onset cs) i d).at.0 <ℤ (get_or (map as_onset cs) j d).at.0
unfolding AreInOrder
each_after [] h i j d lt below = absurd (omega arith)
each_after (c ∷ cs) h zero zero d lt below = absurd (omega arith)
each_after (c ∷ cs) h zero (suc j) d lt below = nth_after c.at cs j d (omega arith) h.0
each_after (c ∷ cs) h (suc i) zero d lt below = absurd (omega arith)
each_after (c ∷ cs) h (suc i) (suc j) d lt below = each_after cs h.1 i j d (omega arith) (omega arith)

-- over any list of moments
pub IsRising-table_over : (moments name : List ℕ) (parts : List ZonePart) → IsRising (table_over moments name parts).onsets
unfolding AreInOrder
IsRising-table_over moments name parts = record {
  each = each_after (changes moments parts) (AreInOrder-fold [] (flat_map (part_changes moments) parts) tt);
}

-- A table keeps what its parts keep: offsets of less than a day.

AllSmall : List Change → Type 0
AllSmall [] = Unit {0}
AllSmall (c ∷ cs) = (IsOffset c.from × IsOffset c.to) × AllSmall cs

AllSmall-put_change : (cs : List Change) (c : Change) → IsOffset c.from × IsOffset c.to → AllSmall cs → AllSmall (put_change cs c)
unfolding AllSmall
AllSmall-put_change [] c small h = (small, tt)
AllSmall-put_change (x ∷ xs) c small h = elim (cases_Bool (int_lt c.at x.at)) [
  | inl before ↦ rw before (small, h)
  | inr from ↦ elim (cases_Bool (same_int c.at x.at)) [
    | inl same ↦ rw (from, same) (small, h.1)
    | inr other ↦ rw (from, other) (h.0, AllSmall-put_change xs c small h.1)
  ]
]

AllSmall-fold : (cs more : List Change) → AllSmall cs → AllSmall more → AllSmall (fold put_change cs more)
unfolding AllSmall
AllSmall-fold cs [] h k = h
AllSmall-fold cs (c ∷ more) h k = AllSmall-fold (put_change cs c) more (AllSmall-put_change cs c k.0 h) k.1

AllSmall-append : (xs ys : List Change) → AllSmall xs → AllSmall ys → AllSmall (xs ++ ys)
unfolding AllSmall
AllSmall-append [] ys h k = k
AllSmall-append (x ∷ xs) ys h k = (h.0, AllSmall-append xs ys h.1 k)

AllSmall-at : (part : ZonePart) (ms : List ℕ) → IsOffset part.from → IsOffset part.to →
    AllSmall (map (λ m. record { at = seconds_since_1970 m -ℤ part.from; from = part.from; to = part.to }) ms)
unfolding AllSmall
AllSmall-at part [] from to = tt
AllSmall-at part (m ∷ ms) from to = ((from, to), AllSmall-at part ms from to)

AllSmall-parts : (moments : List ℕ) (parts : List ZonePart) → All IsPart parts → AllSmall (flat_map (part_changes moments) parts)
unfolding AllSmall
AllSmall-parts moments [] h = tt
AllSmall-parts moments (p ∷ ps) h =
    let first = h 0 p (omega arith) in
    AllSmall-append (part_changes moments p) (flat_map (part_changes moments) ps) (AllSmall-at p (part_moments moments p) first.from first.to)
    (AllSmall-parts moments ps (λ k d lt. h (suc k) d (omega arith)))

small_before : (cs : List Change) (parts : List ZonePart) → AllSmall cs → All IsPart parts → IsOffset (offset_before cs parts)
unfolding AllSmall
small_before [] [] h k = (omega (arith, ints), omega (arith, ints))
small_before [] (p ∷ ps) h k = (k 0 p (omega arith)).from
small_before (c ∷ cs) parts h k = h.0.0

small_offsets : (cs : List Change) → AllSmall cs → All (λ (o : Onset). IsOffset o.offset) (map as_onset cs)
unfolding AllSmall
small_offsets [] h = λ k d lt. absurd (omega arith)
small_offsets (c ∷ cs) h = All-cons (λ (o : Onset). IsOffset o.offset) (as_onset c) (map as_onset cs) h.0.1 (small_offsets cs h.1)

-- so the conversions may be asked of a table that is made of parts
pub IsTable-table_over : (moments name : List ℕ) (parts : List ZonePart) → All IsPart parts → IsTable (table_over moments name parts)
unfolding AllSmall
IsTable-table_over moments name parts h =
    let small = AllSmall-fold [] (flat_map (part_changes moments) parts) tt (AllSmall-parts moments parts h) in record {
      rising = IsRising-table_over moments name parts;
      before = small_before (changes moments parts) parts small h;
      offsets = small_offsets (changes moments parts) small;
    }

pub IsTable-table_of : (name : List ℕ) (parts : List ZonePart) → All IsPart parts → IsTable (table_of name parts)
IsTable-table_of name parts h = IsTable-table_over every_moment name parts h

-- What a table says, without its order: of all changes the latest at or before an instant holds, and of several at one moment the last.

-- a change after those that were seen
abbrev pub later_change : ℤ → Option Change → Change → Option Change
later_change u None c = if int_le c.at u then Some c else None
later_change u (Some b) c = if int_le c.at u then (if int_lt c.at b.at then Some b else Some c) else Some b

abbrev pub latest_change : ℤ → List Change → Option Change
latest_change u all = fold (later_change u) None all

-- the offset that it leads to, or the one before
abbrev pub offset_to : ℤ → Option Change → ℤ
offset_to before None = before
offset_to before (Some c) = c.to

-- the last of a list in order that is at or before an instant
unfoldable pub last_by : ℤ → Option Change → List Change → Option Change
last_by u best [] = best
last_by u best (x ∷ xs) = last_by u (if int_le x.at u then Some x else best) xs

IsNoLater : Option Change → Change → Type 0
IsNoLater None c = Unit {0}
IsNoLater (Some b) c = b.at ≤ℤ c.at

offset_among-last_by : (before u : ℤ) (best : Option Change) (cs : List Change) →
    last_or_else (offset_to before best) (map (λ (o : Onset). o.offset) (filter (λ (o : Onset). int_le o.at.0 u) (map as_onset cs))) ≡ offset_to before (last_by u best cs)
unfolding last_by
offset_among-last_by before u best [] = refl
offset_among-last_by before u best (x ∷ xs) = elim (cases_Bool (int_le x.at u)) [
  | inl by ↦ rw by (offset_among-last_by before u (Some x) xs)
  | inr after ↦ rw after (offset_among-last_by before u best xs)
]

later_change-after : (u : ℤ) (best : Option Change) (c : Change) → int_le c.at u ≡ false → later_change u best c ≡ best
later_change-after u None c h = rw h refl
later_change-after u (Some b) c h = rw h refl

later_change-no_later : (u : ℤ) (best : Option Change) (c : Change) → int_le c.at u ≡ true → IsNoLater best c → later_change u best c ≡ Some c
unfolding IsNoLater
later_change-no_later u None c h k = rw h refl
later_change-no_later u (Some b) c h k = let test : int_lt c.at b.at ≡ false = grind (arith, ints, k) in rw (h, test) refl

-- an earlier change changes nothing
later_change-earlier : (u : ℤ) (y c : Change) (ys : List Change) → c.at <ℤ y.at → AllAfter c.at ys → later_change u (last_by u (Some y) ys) c ≡ last_by u (Some y) ys
unfolding last_by AllAfter
later_change-earlier u y c [] lt h = elim (cases_Bool (int_le c.at u)) [
  | inl by ↦ (let test : int_lt c.at y.at ≡ true = grind (arith, ints, lt) in rw (by, test) refl)
  | inr after ↦ rw after refl
]
later_change-earlier u y c (z ∷ zs) lt h = elim (cases_Bool (int_le z.at u)) [
  | inl by ↦ rw by (later_change-earlier u z c zs h.0 h.1)
  | inr after ↦ rw after (later_change-earlier u y c zs lt h.1)
]

last_by-from : (u : ℤ) (best : Option Change) (c : Change) (ys : List Change) → int_le c.at u ≡ true → IsNoLater best c → AllAfter c.at ys → last_by u (Some c) ys ≡ later_change u (last_by u best ys) c
unfolding last_by AllAfter
last_by-from u best c [] by k h = sym (later_change-no_later u best c by k)
last_by-from u best c (y ∷ ys) by k h = elim (cases_Bool (int_le y.at u)) [
  | inl over ↦ rw over (sym (later_change-earlier u y c ys h.0 h.1))
  | inr after ↦ rw after (last_by-from u best c ys by k h.1)
]

-- to put a change among those in order is to take it as the latest where it is
last_by-put_change : (u : ℤ) (best : Option Change) (cs : List Change) (c : Change) → AreInOrder cs → IsNoLater best c → last_by u best (put_change cs c) ≡ later_change u (last_by u best cs) c
unfolding last_by AllAfter AreInOrder IsNoLater
last_by-put_change u best [] c h k = elim (cases_Bool (int_le c.at u)) [
  | inl by ↦ rw by (sym (later_change-no_later u best c by k))
  | inr after ↦ rw after (sym (later_change-after u best c after))
]
last_by-put_change u best (x ∷ xs) c h k = elim (cases_Bool (int_lt c.at x.at)) [
  | inl before ↦ rw before (first before (cases_Bool (int_le c.at u)))
  | inr from ↦ elim (cases_Bool (same_int c.at x.at)) [
    | inl same ↦ rw (from, same) (one (same_int-true c.at x.at same) (cases_Bool (int_le c.at u)))
    | inr other ↦ rw (from, other) (last_by-put_change u (if int_le x.at u then Some x else best) xs c h.1 (rest from (cases_Bool (int_le x.at u))))
  ]
]
  where
    first : int_lt c.at x.at ≡ true → (int_le c.at u ≡ true) ⊎ (int_le c.at u ≡ false) → last_by u best (c ∷ x ∷ xs) ≡ later_change u (last_by u best (x ∷ xs)) c
    first before (inl by) = let lt : c.at <ℤ x.at = grind (arith, ints, before) in rw by (last_by-from u best c (x ∷ xs) by k (lt, AllAfter-earlier c.at x.at xs lt h.0))
    first before (inr after) = rw after (sym (later_change-after u (last_by u best (x ∷ xs)) c after))

    one : c.at ≡ x.at → (int_le c.at u ≡ true) ⊎ (int_le c.at u ≡ false) → last_by u best (c ∷ xs) ≡ later_change u (last_by u best (x ∷ xs)) c
    one e (inl by) =
        let there : int_le x.at u ≡ true = rw e at by in
        let le : x.at ≤ℤ c.at = omega (arith, ints, e) in
        rw (by, there) (last_by-from u (Some x) c xs by le (rw e h.0))
    one e (inr after) =
        let there : int_le x.at u ≡ false = rw e at after in
        rw (after, there) (sym (later_change-after u (last_by u best xs) c after))

    rest : int_lt c.at x.at ≡ false → (int_le x.at u ≡ true) ⊎ (int_le x.at u ≡ false) → IsNoLater (if int_le x.at u then Some x else best) c
    rest from (inl by) = let le : x.at ≤ℤ c.at = grind (arith, ints, from) in rw by le
    rest from (inr after) = rw after k

last_by-fold : (u : ℤ) (cs more : List Change) → AreInOrder cs → last_by u None (fold put_change cs more) ≡ fold (later_change u) (last_by u None cs) more
unfolding IsNoLater
last_by-fold u cs [] h = refl
last_by-fold u cs (c ∷ more) h = last_by-fold u (put_change cs c) more (AreInOrder-put_change cs c h) ∙ ap (λ best. fold (later_change u) best more) (last_by-put_change u None cs c h tt)

-- the offset at an instant is that of the latest change at or before it
pub offset_at-table_over : (moments name : List ℕ) (parts : List ZonePart) (u : ℤ) →
    offset_at (table_over moments name parts) u ≡ offset_to (table_over moments name parts).before (latest_change u (flat_map (part_changes moments) parts))
unfolding offset_at AreInOrder last_by
offset_at-table_over moments name parts u =
    offset_among-last_by (table_over moments name parts).before u None (changes moments parts)
    ∙ ap (λ best. offset_to (table_over moments name parts).before best) (last_by-fold u [] (flat_map (part_changes moments) parts) tt)

-- What fixes a list in order.

AllAfter-best : (u : ℤ) (best : Option Change) (cs : List Change) → AllAfter u cs → last_by u best cs ≡ best
unfolding AllAfter last_by
AllAfter-best u best [] h = refl
AllAfter-best u best (c ∷ cs) h = let lt : u <ℤ c.at = h.0 in let test : int_le c.at u ≡ false = grind (arith, ints, lt) in rw test (AllAfter-best u best cs h.1)

-- at its own moment the first of a list in order is the last
first_holds : (c : Change) (cs : List Change) (best : Option Change) → AllAfter c.at cs → last_by c.at best (c ∷ cs) ≡ Some c
unfolding last_by
first_holds c cs best h = let test : int_le c.at c.at ≡ true = grind (arith, ints) in rw test (AllAfter-best c.at (Some c) cs h)

-- before it there is none
none_before : (u : ℤ) (c : Change) (cs : List Change) → u <ℤ c.at → AllAfter c.at cs → last_by u None (c ∷ cs) ≡ None
unfolding AllAfter
none_before u c cs lt h = AllAfter-best u None (c ∷ cs) (lt, AllAfter-earlier u c.at cs lt h)

-- two lists in order that have the same last change at each instant start with the same one
same_first : (x y : Change) (xs ys : List Change) → AllAfter x.at xs → AllAfter y.at ys → ((u : ℤ) → last_by u None (x ∷ xs) ≡ last_by u None (y ∷ ys)) → x ≡ y
same_first x y xs ys h k same =
    by_lt_z x.at y.at
    (λ lt. let a = first_holds x xs None h in let b = none_before x.at y ys lt k in let e : Some x ≡ None = sym a ∙ same x.at ∙ b in absurd cc)
    (λ ge. by_lt_z y.at x.at
    (λ lt. let a = first_holds y ys None k in let b = none_before y.at x xs lt h in let e : Some y ≡ None = sym a ∙ sym (same y.at) ∙ b in absurd cc)
    (λ le. let at : x.at ≡ y.at = omega (arith, ints, ge, le) in
    let a = first_holds x xs None h in
    let b = first_holds y ys None k in
    let e : Some x ≡ Some y = sym a ∙ same x.at ∙ ap (λ u. last_by u None (y ∷ ys)) at ∙ b in cc))

-- what was seen before a list takes part only where none of the list does
after_best : (u : ℤ) (c : Change) (cs : List Change) → (last_by u None cs ≡ None) ⊎ (last_by u (Some c) cs ≡ last_by u None cs)
unfolding last_by
after_best u c [] = inl refl
after_best u c (x ∷ xs) = elim (cases_Bool (int_le x.at u)) [
  | inl w ↦ inr (rw w refl)
  | inr w ↦ elim (after_best u c xs) [ inl none ↦ inl (rw w none) | inr some ↦ inr (rw w some) ]
]

none_stays : (u : ℤ) (c : Change) (cs : List Change) → last_by u None cs ≡ None → last_by u (Some c) cs ≡ Some c
unfolding last_by
none_stays u c [] h = refl
none_stays u c (x ∷ xs) h = elim (cases_Bool (int_le x.at u)) [
  | inl w ↦ absurd (some_first (rw w at h))
  | inr w ↦ rw w (none_stays u c xs (rw w at h))
]
  where
    some_some : (ys : List Change) (y : Change) → last_by u (Some y) ys ≡ None → ⊥
    some_some [] y e = absurd cc
    some_some (z ∷ zs) y e = elim (cases_Bool (int_le z.at u)) [ inl v ↦ some_some zs z (rw v at e) | inr v ↦ some_some zs y (rw v at e) ]

    some_first : last_by u (Some x) xs ≡ None → ⊥
    some_first e = some_some xs x e

found_after : (t u : ℤ) (best : Option Change) (cs : List Change) (z : Change) → AllAfter t cs → last_by u best cs ≡ Some z → (best ≡ Some z) ⊎ (t <ℤ z.at)
unfolding AllAfter last_by
found_after t u best [] z h e = inl e
found_after t u best (c ∷ cs) z h e = elim (cases_Bool (int_le c.at u)) [
  | inl w ↦ elim (found_after t u (Some c) cs z h.1 (rw w at e)) [
    | inl same ↦ inr (let lt : t <ℤ c.at = h.0 in let is : c ≡ z = cc in rw is at lt)
    | inr lt ↦ inr lt
  ]
  | inr w ↦ found_after t u best cs z h.1 (rw w at e)
]

not_itself : (x : Change) (u : ℤ) (cs : List Change) → AllAfter x.at cs → last_by u None cs ≡ Some x → ⊥
not_itself x u cs h e = elim (found_after x.at u None cs x h e) [ inl none ↦ absurd cc | inr lt ↦ absurd (omega (arith, ints, lt)) ]

same_rest : (x : Change) (u : ℤ) (xs ys : List Change) → AllAfter x.at xs → AllAfter x.at ys → last_by u (Some x) xs ≡ last_by u (Some x) ys → last_by u None xs ≡ last_by u None ys
same_rest x u xs ys h k same = elim (after_best u x xs) [
  | inl a ↦ elim (after_best u x ys) [
    | inl b ↦ a ∙ sym b
    | inr b ↦ absurd (not_itself x u ys k (sym b ∙ sym same ∙ none_stays u x xs a))
  ]
  | inr a ↦ elim (after_best u x ys) [
    | inl b ↦ absurd (not_itself x u xs h (sym a ∙ same ∙ none_stays u x ys b))
    | inr b ↦ sym a ∙ same ∙ b
  ]
]

-- two lists in order with the same latest change at each instant are equal
pub AreInOrder-same : (xs ys : List Change) → AreInOrder xs → AreInOrder ys → ((u : ℤ) → last_by u None xs ≡ last_by u None ys) → xs ≡ ys
unfolding AreInOrder last_by
AreInOrder-same [] [] h k same = refl
AreInOrder-same [] (y ∷ ys) h k same = absurd (let a = first_holds y ys None k.0 in let e : None ≡ Some y = same y.at ∙ a in cc)
AreInOrder-same (x ∷ xs) [] h k same = absurd (let a = first_holds x xs None h.0 in let e : Some x ≡ None = sym a ∙ same x.at in cc)
AreInOrder-same (x ∷ xs) (y ∷ ys) h k same =
    let e : x ≡ y = same_first x y xs ys h.0 k.0 same in
    let k_x : AllAfter x.at ys = subst (λ (c : Change). AllAfter c.at ys) (sym e) k.0 in
    ap (λ c. c ∷ xs) e ∙ ap (λ cs. y ∷ cs) (AreInOrder-same xs ys h.1 k.1 (λ u. elim (cases_Bool (int_le x.at u)) [
      | inl w ↦ same_rest x u xs ys h.0 k_x (let both = subst (λ (c : Change). last_by u None (x ∷ xs) ≡ last_by u None (c ∷ ys)) (sym e) (same u) in rw w at both)
      | inr w ↦ (let lt : u <ℤ x.at = grind (arith, ints, w) in AllAfter-best u None xs (AllAfter-earlier u x.at xs lt h.0) ∙ sym (AllAfter-best u None ys (AllAfter-earlier u x.at ys lt k_x)))
    ]))

-- so the changes of a table are the one list in order whose latest change at each instant is that of all parts, the later in the text of two at one moment
pub changes-is : (moments : List ℕ) (parts : List ZonePart) (cs : List Change) → AreInOrder cs → ((u : ℤ) → last_by u None cs ≡ latest_change u (flat_map (part_changes moments) parts)) → cs ≡ changes moments parts
unfolding AreInOrder last_by
changes-is moments parts cs h same =
    let all = flat_map (part_changes moments) parts in
    AreInOrder-same cs (fold put_change [] all) h (AreInOrder-fold [] all tt) (λ u. same u ∙ sym (last_by-fold u [] all tt))

-- The offset before all onsets is that from which the earliest change goes, of several at its moment the last.
pub before-table_over : (moments name : List ℕ) (parts : List ZonePart) (u : ℤ) (c : Change) → latest_change u (flat_map (part_changes moments) parts) ≡ Some c →
    ((v : ℤ) → v <ℤ u → latest_change v (flat_map (part_changes moments) parts) ≡ None) → (table_over moments name parts).before ≡ c.from
unfolding AreInOrder last_by
before-table_over moments name parts u c latest none =
    first_from_is (changes moments parts) (AreInOrder-fold [] (flat_map (part_changes moments) parts) tt)
    (last_by-fold u [] (flat_map (part_changes moments) parts) tt ∙ latest)
    (λ v lt. last_by-fold v [] (flat_map (part_changes moments) parts) tt ∙ none v lt)
  where
    first_from_is : (cs : List Change) → AreInOrder cs → last_by u None cs ≡ Some c → ((v : ℤ) → v <ℤ u → last_by v None cs ≡ None) → offset_before cs parts ≡ c.from
    first_from_is [] order is before = absurd cc
    first_from_is (x ∷ xs) order is before =
        by_lt_z u x.at
        (λ lt. absurd (let e : None ≡ Some c = sym (none_before u x xs lt order.0) ∙ is in cc))
        (λ ge. by_lt_z x.at u
        (λ lt. absurd (let e : None ≡ Some x = sym (before x.at lt) ∙ first_holds x xs None order.0 in cc))
        (λ le. let at : x.at ≡ u = omega (arith, ints, ge, le) in
        let e : Some x ≡ Some c = sym (first_holds x xs None order.0) ∙ ap (λ t. last_by t None (x ∷ xs)) at ∙ is in
        let same : x ≡ c = cc in
        ap (λ (d : Change). d.from) same))

-- where there is no change it is the first part's
pub before-no_change : (moments name : List ℕ) (parts : List ZonePart) → flat_map (part_changes moments) parts ≡ [] → (table_over moments name parts).before ≡ first_from parts
before-no_change moments name parts none = ap (λ all. offset_before (fold put_change [] all) parts) none
