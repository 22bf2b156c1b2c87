-- Spans that are taken at all borders say what holds between them, and what stretches make of a local time is put together from parts of them.
use Rattle.std.proofs.Common.{◌≡◌, ℕ, zero, suc, ◌+◌, ◌-◌, ◌<◌, ◌≤◌, List, [], ◌∷◌, ◌++◌, map, refl, sym, ap, ap₂, ◌∙◌, subst, arith, Bool, true, false, ℤ, ◌+ℤ◌, ◌-ℤ◌, ◌<ℤ◌, length, get_or, nat_lt, ◌≤ℤ◌, inl, inr}
use Rattle.std.specs.Prelude.{Option, Some, IfSome, All, AllPairs, Contains, int_le, int_lt, ◌==◌, ◌&&◌, if◌then◌else◌}
use Rattle.std.proofs.Math.Logic.{∥∥₁_elim}
use Rattle.std.proofs.lemmas.Int.{ints}
use Rattle.std.proofs.lemmas.Bool.{cases_Bool, ltb-true, ltb-false}
use Rattle.std.specs.List.{AllWithin}
use Rattle.std.specs.List.Sorted.{IsPartitionedBy}
use Rattle.std.proofs.lemmas.List.{get_or_default}
use Rattle.std.proofs.lemmas.List.Elements.{All-head, All-tail, All-nil, All-cons, All-append, All-map, All-contains, All-contains_itself, All-weaker, Contains-append_left, Contains-append_right}
use Rattle.std.proofs.lemmas.List.Kept.{AllPairs-cons}
use Rattle.cal_model.specs.declared.local_span.Found.{Found}
use Rattle.cal_model.specs.declared.local_span.Found.TheVariants.{Shown, Skipped, Nowhere}
use Rattle.cal_model.specs.declared.local_span.Span.{Span}
use Rattle.cal_model.specs.declared.zone.Onset.{Onset}
use Rattle.cal_model.specs.declared.zone.ZoneTable.{ZoneTable}
use Rattle.cal_model.specs.Conversions.Stretches.{no_onset, offset_of_stretch, begins_by, ends_after, has_local, leads_past}
use Rattle.cal_model.specs.TimeZones.TableBounds.{IsRising, IsDigits}
use Rattle.cal_model.specs.TimeZones.Zones.{exists_in, instant_of, IsInstantOf}
use Rattle.cal_model.specs.Instances.Starts.{ascending}
use Rattle.cal_model.specs.Conversions.LocalSpans.{is_shown, instant_by, IsSpansOf, IsSpansOf-prop, best, leads_up, found_in, found_from, value_among, value_at, span_at, begin_border, end_border, IsBeyond, HasBorder, IsWith, HasBordersOf, IsJoined, lowest, IsSpans}
use Rattle.cal_model.proofs.Words.AllLemmas.{All-unmap}
use Rattle.cal_model.proofs.TimeZones.Instants.{IsInstantOf-instant_of}
use Rattle.cal_model.proofs.Conversions.StretchLemmas.{IsLeastInstant-stretch, IsSkipped-stretches, IsInstantOf-first_past, some_leads_past, exists_in_stretch, exists_in_none}
use Rattle.cal_model.proofs.Instances.RisingLists.{IsBelow, All-ascending, ascending-rising, ascending-has, AllPairs-head, AllPairs-tail, Contains-here, Contains-there, Contains-split}

best-assoc : (a b c : Found) → best (best a b) c ≡ best a (best b c)
best-assoc (Shown o) b c = refl
best-assoc Nowhere b c = refl
best-assoc (Skipped o) (Shown p) c = refl
best-assoc (Skipped o) Nowhere c = refl
best-assoc (Skipped o) (Skipped p) (Shown q) = refl
best-assoc (Skipped o) (Skipped p) (Skipped q) = refl
best-assoc (Skipped o) (Skipped p) Nowhere = refl

best-nowhere : (a : Found) → best a Nowhere ≡ a
best-nowhere (Shown o) = refl
best-nowhere (Skipped o) = refl
best-nowhere Nowhere = refl

-- stretches in two parts
pub found_from-split : (table : ZoneTable) (l : ℤ) (k m n : ℕ) → found_from table l k (m + n) ≡ best (found_from table l k m) (found_from table l (k + m) n)
found_from-split table l k zero n = ap₂ (λ a b. found_from table l a b) {x = k} {y = k + 0} {u = 0 + n} {v = n} (omega arith) (omega arith)
found_from-split table l k (suc m) n =
    ap (λ a. found_from table l k a) {x = suc m + n} {y = suc (m + n)} (omega arith)
    ∙ (ap (best (found_in table l k)) (found_from-split table l (k + 1) m n ∙ ap (λ a. best (found_from table l (k + 1) m) (found_from table l a n)) {x = k + 1 + m} {y = k + suc m} (omega arith))
    ∙ sym (best-assoc (found_in table l k) (found_from table l (k + 1) m) (found_from table l (k + suc m) n)))

pub found_from-one : (table : ZoneTable) (l : ℤ) (k : ℕ) → found_from table l k 1 ≡ found_in table l k
found_from-one table l k = best-nowhere (found_in table l k)

-- the greatest border at or before a local time is what its span is taken at
pub record LastBorder (g : ℤ → Found) (l : ℤ) (borders : List ℤ) (value : Found) : Type 0 where
  pub border : ℤ
  pub member : Contains borders border
  pub by : border ≤ℤ l
  pub last : All (λ b. b ≤ℤ l → b ≤ℤ border) borders
  pub taken : value ≡ g border

from_border : (g : ℤ → Found) (l q : ℤ) (ps : List ℤ) → AllPairs IsBelow (q ∷ ps) → q ≤ℤ l → LastBorder g l (q ∷ ps) (value_among (g q) (map (span_at g) ps) l)
from_border g l q [] up le = record { border = q; member = Contains-here q []; by = le; last = All-cons (λ b. b ≤ℤ l → b ≤ℤ q) q [] (λ h. omega (arith, ints)) (All-nil _); taken = refl }
from_border g l q (p ∷ ps) up le = elim (cases_Bool (int_le p l)) [
  | inl w ↦
      (let same : value_among (g q) (map (span_at g) (p ∷ ps)) l ≡ value_among (g p) (map (span_at g) ps) l = ap (λ b. value_among (if b then g p else g q) (map (span_at g) ps) l) w in
      let r = from_border g l p ps (AllPairs-tail IsBelow q (p ∷ ps) up) (grind (arith, ints, w)) in
      let above = All-head (IsBelow q) p ps (AllPairs-head IsBelow q (p ∷ ps) up) in
      let first = All-head (λ b. b ≤ℤ l → b ≤ℤ r.border) p ps r.last (grind (arith, ints, w)) in
      record { border = r.border; member = Contains-there q r.border (p ∷ ps) r.member; by = r.by; last = All-cons (λ b. b ≤ℤ l → b ≤ℤ r.border) q (p ∷ ps) (λ h. omega (arith, ints, above, first)) r.last; taken = same ∙ r.taken })
  | inr w ↦
      (let same : value_among (g q) (map (span_at g) (p ∷ ps)) l ≡ value_among (g q) (map (span_at g) ps) l = ap (λ b. value_among (if b then g p else g q) (map (span_at g) ps) l) w in
      let past : l <ℤ p = grind (arith, ints, w) in
      let r = from_border g l q ps (without up) le in
      record { border = r.border; member = skipped r.border r.member; by = r.by; last = All-cons (λ b. b ≤ℤ l → b ≤ℤ r.border) q (p ∷ ps) (All-head (λ b. b ≤ℤ l → b ≤ℤ r.border) q ps r.last) (All-cons (λ b. b ≤ℤ l → b ≤ℤ r.border) p ps (λ h. absurd (omega (arith, ints, h, past))) (All-tail (λ b. b ≤ℤ l → b ≤ℤ r.border) q ps r.last)); taken = same ∙ r.taken })
]
  where
    without : AllPairs IsBelow (q ∷ p ∷ ps) → AllPairs IsBelow (q ∷ ps)
    without h = AllPairs-cons IsBelow q ps (All-tail (IsBelow q) p ps (AllPairs-head IsBelow q (p ∷ ps) h)) (AllPairs-tail IsBelow p ps (AllPairs-tail IsBelow q (p ∷ ps) h))

    skipped : (b : ℤ) → Contains (q ∷ ps) b → Contains (q ∷ p ∷ ps) b
    skipped b c = elim (Contains-split q b ps c) [ inl e ↦ (0, omega arith, e) | inr r ↦ Contains-there q b (p ∷ ps) (Contains-there p b ps r) ]

-- where some border lies at or before it
pub last_border : (g : ℤ → Found) (l p₀ : ℤ) (ps : List ℤ) → AllPairs IsBelow ps → Contains ps p₀ → p₀ ≤ℤ l → LastBorder g l ps (value_at (map (span_at g) ps) l)
last_border g l p₀ [] up c le = let below = c.1 in absurd (omega (arith, below))
last_border g l p₀ (p ∷ ps) up c le =
    let first : p ≤ℤ l = elim (Contains-split p p₀ ps c) [ inl e ↦ omega (arith, ints, e, le) | inr r ↦ (let lt = All-contains (IsBelow p) ps p₀ (AllPairs-head IsBelow p ps up) r in omega (arith, ints, lt, le)) ] in
    let test : int_le p l ≡ true = grind (arith, ints, first) in
    let same : value_at (map (span_at g) (p ∷ ps)) l ≡ value_among (g p) (map (span_at g) ps) l = ap (λ b. value_among (if b then g p else Nowhere) (map (span_at g) ps) l) test in
    let r = from_border g l p ps up first in
    record { border = r.border; member = r.member; by = r.by; last = r.last; taken = same ∙ r.taken }

-- spans say the same of two local times with the same borders before them
pub value_among-same : (none : Found) (spans : List Span) (l m : ℤ) → All (λ (x : Span). int_le x.from l ≡ int_le x.from m) spans → value_among none spans l ≡ value_among none spans m
value_among-same none [] l m all = refl
value_among-same none (x ∷ xs) l m all =
    let here = All-head (λ (x : Span). int_le x.from l ≡ int_le x.from m) x xs all in
    rw here (value_among-same (if int_le x.from m then x.found else none) xs l m (All-tail (λ (x : Span). int_le x.from l ≡ int_le x.from m) x xs all))

-- The borders of one stretch.

moved_le : (a o l : ℤ) → int_le a (l -ℤ o) ≡ int_le (a +ℤ o) l
moved_le a o l = elim (cases_Bool (int_le (a +ℤ o) l)) [
  | inl w ↦ (let le : a ≤ℤ (l -ℤ o) = grind (arith, ints, w) in let t : int_le a (l -ℤ o) ≡ true = grind (arith, ints, le) in t ∙ sym w)
  | inr w ↦ (let lt : (l -ℤ o) <ℤ a = grind (arith, ints, w) in let t : int_le a (l -ℤ o) ≡ false = grind (arith, ints, lt) in t ∙ sym w)
]

-- two local times on one side of a border
same_le : (a o l m : ℤ) → int_le (a +ℤ o) l ≡ int_le (a +ℤ o) m → int_le a (l -ℤ o) ≡ int_le a (m -ℤ o)
same_le a o l m h = moved_le a o l ∙ h ∙ sym (moved_le a o m)

lt_by_le : (a b c : ℤ) → int_le a b ≡ int_le a c → int_lt b a ≡ int_lt c a
lt_by_le a b c h = elim (cases_Bool (int_le a b)) [
  | inl w ↦ (let v : int_le a c ≡ true = sym h ∙ w in let x : int_lt b a ≡ false = grind (arith, ints, w) in let y : int_lt c a ≡ false = grind (arith, ints, v) in x ∙ sym y)
  | inr w ↦ (let v : int_le a c ≡ false = sym h ∙ w in let x : int_lt b a ≡ true = grind (arith, ints, w) in let y : int_lt c a ≡ true = grind (arith, ints, v) in x ∙ sym y)
]

same_lt : (a o l m : ℤ) → int_le (a +ℤ o) l ≡ int_le (a +ℤ o) m → int_lt (l -ℤ o) a ≡ int_lt (m -ℤ o) a
same_lt a o l m h = lt_by_le a (l -ℤ o) (m -ℤ o) (same_le a o l m h)

has_local-same : (table : ZoneTable) (l m : ℤ) (k : ℕ) → begins_by table.onsets k (l -ℤ offset_of_stretch table k) ≡ begins_by table.onsets k (m -ℤ offset_of_stretch table k) →
    ends_after table.onsets k (l -ℤ offset_of_stretch table k) ≡ ends_after table.onsets k (m -ℤ offset_of_stretch table k) → has_local table l k ≡ has_local table m k
unfolding has_local
has_local-same table l m k begins ends = ap₂ (λ a b. a && b) begins ends

-- a stretch makes the same of two local times that have its borders on the same sides
pub found_in-same : (table : ZoneTable) (l m : ℤ) (k : ℕ) → ((k == 0) ≡ false → int_le (begin_border table k) l ≡ int_le (begin_border table k) m) →
    ((k == length table.onsets) ≡ false → int_le (end_border table k) l ≡ int_le (end_border table k) m) → found_in table l k ≡ found_in table m k
found_in-same table l m k begin end = rw (here, up) refl
  where
    begins : begins_by table.onsets k (l -ℤ offset_of_stretch table k) ≡ begins_by table.onsets k (m -ℤ offset_of_stretch table k)
    begins = elim (cases_Bool (k == 0)) [
      | inl w ↦ rw w refl
      | inr w ↦ (let same = same_le (get_or table.onsets (k - 1) no_onset).at.0 (offset_of_stretch table k) l m (begin w) in rw w (rw w at same))
    ]

    ends : ends_after table.onsets k (l -ℤ offset_of_stretch table k) ≡ ends_after table.onsets k (m -ℤ offset_of_stretch table k)
    ends = elim (cases_Bool (k == length table.onsets)) [
      | inl w ↦ rw w refl
      | inr w ↦ (let same = same_lt (get_or table.onsets k no_onset).at.0 (offset_of_stretch table k) l m (end w) in rw w same)
    ]

    here : has_local table l k ≡ has_local table m k
    here = has_local-same table l m k begins ends

    up : leads_up table l k ≡ leads_up table m k
    up = elim (cases_Bool (k == 0)) [
      | inl w ↦ rw w refl
      | inr w ↦ (let same = same_lt (get_or table.onsets (k - 1) no_onset).at.0 (offset_of_stretch table k) l m (begin w) in rw w (rw w at same))
    ]

-- the last border at or before a local time has all borders on the same side
pub same_side : (g : ℤ → Found) (l : ℤ) (ps : List ℤ) (value : Found) (r : LastBorder g l ps value) (b : ℤ) → Contains ps b → int_le b l ≡ int_le b r.border
same_side g l ps value r b c = elim (cases_Bool (int_le b l)) [
  | inl w ↦ (let le = All-contains (λ b. b ≤ℤ l → b ≤ℤ r.border) ps b r.last c (grind (arith, ints, w)) in let v : int_le b r.border ≡ true = grind (arith, ints, le) in w ∙ sym v)
  | inr w ↦ (let by = r.by in let v : int_le b r.border ≡ false = grind (arith, ints, w, by) in w ∙ sym v)
]

-- it has digits where the lowest ones are a border
border_digits : (g : ℤ → Found) (l : ℤ) (ps : List ℤ) (value : Found) (r : LastBorder g l ps value) → IsDigits l → Contains ps lowest → IsDigits r.border
border_digits g l ps value r digits c =
    let low = All-contains (λ b. b ≤ℤ l → b ≤ℤ r.border) ps lowest r.last c digits.0 in
    let by = r.by in
    (low, omega (arith, ints, by, digits))

on_side : (g : ℤ → Found) (l : ℤ) (ps : List ℤ) (value : Found) (r : LastBorder g l ps value) (b : ℤ) → IsDigits l → IsDigits r.border → HasBorder ps b → int_le b l ≡ int_le b r.border
on_side g l ps value r b digits there (inl c) = same_side g l ps value r b c
on_side g l ps value r b digits there (inr beyond) = beyond l r.border digits there

-- spans of one stretch, taken at its borders
pub one-right : (table : ZoneTable) (k : ℕ) (ps : List ℤ) → AllPairs IsBelow ps → Contains ps lowest → ((k == 0) ≡ false → HasBorder ps (begin_border table k)) → ((k == length table.onsets) ≡ false → HasBorder ps (end_border table k)) →
    (l : ℤ) → IsDigits l → value_at (map (span_at (λ p. found_in table p k)) ps) l ≡ found_from table l k 1
one-right table k ps up low begin end l digits =
    let g : ℤ → Found = λ p. found_in table p k in
    let r = last_border g l lowest ps up low digits.0 in
    let there = border_digits g l ps (value_at (map (span_at g) ps) l) r digits low in
    r.taken
    ∙ sym (found_in-same table l r.border k (λ w. on_side g l ps (value_at (map (span_at g) ps) l) r (begin_border table k) digits there (begin w)) (λ w. on_side g l ps (value_at (map (span_at g) ps) l) r (end_border table k) digits there (end w)))
    ∙ sym (found_from-one table l k)

-- spans of two parts, taken at the borders of both
each_side : (g : ℤ → Found) (l : ℤ) (ps : List ℤ) (value : Found) (r : LastBorder g l ps value) (xs : List Span) → All (λ (x : Span). Contains ps x.from) xs → All (λ (x : Span). int_le x.from l ≡ int_le x.from r.border) xs
each_side g l ps value r xs all = All-weaker (λ (x : Span). Contains ps x.from) (λ (x : Span). int_le x.from l ≡ int_le x.from r.border) (λ x c. same_side g l ps value r x.from c) xs all

pub both-right : (table : ZoneTable) (k m n : ℕ) (xs ys : List Span) (ps : List ℤ) → IsSpans table k m xs → IsSpans table (k + m) n ys → AllPairs IsBelow ps → Contains ps lowest →
    All (λ (x : Span). Contains ps x.from) xs → All (λ (y : Span). Contains ps y.from) ys →
    (l : ℤ) → IsDigits l → value_at (map (span_at (λ p. best (value_at xs p) (value_at ys p))) ps) l ≡ found_from table l k (m + n)
both-right table k m n xs ys ps first second up low all_x all_y l digits =
    let g : ℤ → Found = λ p. best (value_at xs p) (value_at ys p) in
    let r = last_border g l lowest ps up low digits.0 in
    r.taken
    ∙ sym (ap₂ best (value_among-same Nowhere xs l r.border (each_side g l ps (value_at (map (span_at g) ps) l) r xs all_x)) (value_among-same Nowhere ys l r.border (each_side g l ps (value_at (map (span_at g) ps) l) r ys all_y)))
    ∙ ap₂ best (first.right l digits) (second.right l digits)
    ∙ sym (found_from-split table l k m n)

-- The search in spans.

pub spans_partitioned : (spans : List Span) (l : ℤ) → AllPairs (λ (a b : Span). a.from <ℤ b.from) spans → IsPartitionedBy (λ (p : Span). int_le p.from l) spans
spans_partitioned spans l up i j d le lt p =
    elim (cases_Bool (nat_lt i j)) [
      | inl w ↦ (let below = up i j d (ltb-true i j w) lt in grind (arith, ints, below, p))
      | inr w ↦ (let ge : j ≤ i = ltb-false i j w in let same : i ≡ j = omega (arith, ge, le) in rw same p)
    ]

pub value_at_none : (none : Found) (spans : List Span) (l : ℤ) → AllWithin (λ (p : Span). int_le p.from l ≡ false) spans 0 (length spans) → value_among none spans l ≡ none
value_at_none none [] l after = refl
value_at_none none (x ∷ xs) l after =
    let first : int_le x.from l ≡ false = after 0 x (omega arith) (omega arith) in
    rw first (value_at_none none xs l (λ k d low high. after (suc k) d (omega arith) (omega arith)))

value_at_last : (none : Found) (spans : List Span) (l : ℤ) (n : ℕ) (d : Span) → n < length spans → AllWithin (λ (p : Span). int_le p.from l ≡ true) spans 0 (n + 1) →
    AllWithin (λ (p : Span). int_le p.from l ≡ false) spans (n + 1) (length spans) → value_among none spans l ≡ (get_or spans n d).found
value_at_last none [] l n d lt before after = absurd (omega arith)
value_at_last none (x ∷ xs) l zero d lt before after =
    let first : int_le x.from l ≡ true = before 0 x (omega arith) (omega arith) in
    rw first (value_at_none x.found xs l (λ i e low high. after (suc i) e (omega arith) (omega arith)))
value_at_last none (x ∷ xs) l (suc n) d lt before after =
    let first : int_le x.from l ≡ true = before 0 x (omega arith) (omega arith) in
    rw first (value_at_last x.found xs l n d (omega arith) (λ i e low high. before (suc i) e (omega arith) (omega arith)) (λ i e low high. after (suc i) e (omega arith) (omega arith)))

pub value_among-at : (none : Found) (spans : List Span) (l : ℤ) (n : ℕ) (d : Span) → 0 < n → n ≤ length spans → AllWithin (λ (p : Span). int_le p.from l ≡ true) spans 0 n →
    AllWithin (λ (p : Span). int_le p.from l ≡ false) spans n (length spans) → value_among none spans l ≡ (get_or spans (n - 1) d).found
value_among-at none spans l n d some le before after =
    let same : n - 1 + 1 ≡ n = omega arith in
    value_at_last none spans l (n - 1) d (omega arith) (rw same before) (rw same after)

-- Borders one after the other.

spans_rising : (g : ℤ → Found) (ps : List ℤ) → AllPairs IsBelow ps → AllPairs (λ (a b : Span). a.from <ℤ b.from) (map (span_at g) ps)
spans_rising g [] up = λ i j d lt below. absurd (omega (arith, below))
spans_rising g (p ∷ ps) up =
    AllPairs-cons (λ (a b : Span). a.from <ℤ b.from) (span_at g p) (map (span_at g) ps) (All-map (λ (b : Span). p <ℤ b.from) (span_at g) ps (AllPairs-head IsBelow p ps up)) (spans_rising g ps (AllPairs-tail IsBelow p ps up))

pub with_beyond : (old : List ℤ) (absent : Bool) (b : ℤ) → IsBeyond b → IsWith old old absent b
with_beyond old absent b h = record { kept = λ x c. c; digits = λ all. all; there = λ no. inr h }

pub with_pushed : (old new : List ℤ) (absent : Bool) (b : ℤ) → new ≡ old ++ b ∷ [] → IsDigits b → IsWith old new absent b
with_pushed old new absent b e digits = subst (λ (n : List ℤ). IsWith old n absent b) (sym e) (record {
  kept = λ x c. Contains-append_left old (b ∷ []) x c;
  digits = λ all. All-append IsDigits old (b ∷ []) all (All-cons IsDigits b [] digits (All-nil IsDigits));
  there = λ no. inl (Contains-append_right old (b ∷ []) b (Contains-here b []));
})

has_kept : (old new : List ℤ) (b : ℤ) → ((x : ℤ) → Contains old x → Contains new x) → HasBorder old b → HasBorder new b
has_kept old new b kept (inl c) = inl (kept b c)
has_kept old new b kept (inr h) = inr h

pub borders_of : (table : ZoneTable) (k : ℕ) (one two three : List ℤ) → one ≡ lowest ∷ [] → IsWith one two (k == 0) (begin_border table k) → IsWith two three (k == length table.onsets) (end_border table k) → HasBordersOf table k three
borders_of table k one two three start begin end = record {
  low = end.kept lowest (begin.kept lowest (subst (λ (n : List ℤ). Contains n lowest) (sym start) (Contains-here lowest [])));
  digits = end.digits (begin.digits (subst (All IsDigits) (sym start) (All-cons IsDigits lowest [] (omega (arith, ints), omega (arith, ints)) (All-nil IsDigits))));
  begin = λ w. has_kept two three (begin_border table k) end.kept (begin.there w);
  end = end.there;
}

pub digits_rising : (borders sorted : List ℤ) → All IsDigits borders → sorted ≡ ascending borders → All IsDigits sorted
digits_rising borders sorted all e = subst (All IsDigits) (sym e) (All-ascending IsDigits borders all)

-- the spans of one stretch
pub IsSpans-stretch : (table : ZoneTable) (k : ℕ) (borders sorted : List ℤ) (spans : List Span) → HasBordersOf table k borders → sorted ≡ ascending borders →
    spans ≡ map (span_at (λ p. found_in table p k)) sorted → IsSpans table k 1 spans
IsSpans-stretch table k borders sorted spans has order made =
    subst (IsSpans table k 1) (sym (made ∙ ap (map (span_at (λ p. found_in table p k))) order)) (record {
      rising = spans_rising (λ p. found_in table p k) (ascending borders) (ascending-rising borders);
      right = one-right table k (ascending borders) (ascending-rising borders) (ascending-has lowest borders has.low)
          (λ w. has_kept borders (ascending borders) (begin_border table k) (λ x c. ascending-has x borders c) (has.begin w))
          (λ w. has_kept borders (ascending borders) (end_border table k) (λ x c. ascending-has x borders c) (has.end w));
    })

-- and of two parts
pub IsSpans-joined : (table : ZoneTable) (k m n : ℕ) (xs ys : List Span) (borders : List ℤ) (spans : List Span) → IsSpans table k m xs → IsSpans table (k + m) n ys →
    borders ≡ lowest ∷ [] ++ map (λ (p : Span). p.from) xs ++ map (λ (p : Span). p.from) ys → spans ≡ map (span_at (λ p. best (value_at xs p) (value_at ys p))) (ascending borders) → IsSpans table k (m + n) spans
IsSpans-joined table k m n xs ys borders spans first second are made =
    subst (IsSpans table k (m + n)) (sym made) (record {
      rising = spans_rising (λ p. best (value_at xs p) (value_at ys p)) (ascending borders) (ascending-rising borders);
      right = both-right table k m n xs ys (ascending borders) first second (ascending-rising borders) (has lowest (Contains-append_left (lowest ∷ [] ++ froms xs) (froms ys) lowest (Contains-append_left (lowest ∷ []) (froms xs) lowest (Contains-here lowest []))))
          (each xs (λ x c. has x (Contains-append_left (lowest ∷ [] ++ froms xs) (froms ys) x (Contains-append_right (lowest ∷ []) (froms xs) x c))))
          (each ys (λ x c. has x (Contains-append_right (lowest ∷ [] ++ froms xs) (froms ys) x c)));
    })
  where
    froms : List Span → List ℤ
    froms zs = map (λ (p : Span). p.from) zs

    has : (x : ℤ) → Contains (lowest ∷ [] ++ froms xs ++ froms ys) x → Contains (ascending borders) x
    has x c = ascending-has x borders (subst (λ (n : List ℤ). Contains n x) (sym are) c)

    each : (zs : List Span) → ((x : ℤ) → Contains (froms zs) x → Contains (ascending borders) x) → All (λ (z : Span). Contains (ascending borders) z.from) zs
    each zs h = All-unmap (Contains (ascending borders)) (λ (p : Span). p.from) zs (All-weaker (Contains (froms zs)) (Contains (ascending borders)) h (froms zs) (All-contains_itself (froms zs)))

pub IsSpans-between : (table : ZoneTable) (first middle last : ℕ) (xs ys spans : List Span) → first ≤ middle → middle < last → IsSpans table first (middle - first + 1) xs → IsSpans table (middle + 1) (last - (middle + 1) + 1) ys → IsJoined xs ys spans →
    IsSpans table first (last - first + 1) spans
IsSpans-between table first middle last xs ys spans from to earlier later made =
    let count : middle - first + 1 + (last - (middle + 1) + 1) ≡ last - first + 1 = omega (arith, from, to) in
    let place : middle + 1 ≡ first + (middle - first + 1) = omega (arith, from) in
    subst (λ n. IsSpans table first n spans) count
    (IsSpans-joined table first (middle - first + 1) (last - (middle + 1) + 1) xs ys (lowest ∷ [] ++ map (λ (p : Span). p.from) xs ++ map (λ (p : Span). p.from) ys) spans earlier (subst (λ k. IsSpans table k (last - (middle + 1) + 1) ys) place later) refl made)

-- Bounds.

-- What is found means.

pub data Meaning (table : ZoneTable) (l : ℤ) (k n : ℕ) : Found → Type 0 where
  shown : (j : ℕ) (o : ℤ) → k ≤ j → j < k + n → has_local table l j ≡ true → ((i : ℕ) → k ≤ i → i < j → has_local table l i ≡ false) → o ≡ offset_of_stretch table j → Meaning table l k n (Shown o)
  skipped : (j : ℕ) (o : ℤ) → ((i : ℕ) → k ≤ i → i < k + n → has_local table l i ≡ false) → k ≤ j → j < k + n → leads_up table l j ≡ true → ((i : ℕ) → k ≤ i → i < j → leads_up table l i ≡ false) → o ≡ offset_of_stretch table (j - 1) → Meaning table l k n (Skipped o)
  nowhere : ((i : ℕ) → k ≤ i → i < k + n → has_local table l i ≡ false) → ((i : ℕ) → k ≤ i → i < k + n → leads_up table l i ≡ false) → Meaning table l k n Nowhere

at_first : (P : ℕ → Type 0) (k i : ℕ) → P k → ((j : ℕ) → k + 1 ≤ j → j ≤ i → P j) → k ≤ i → P i
at_first P k i here later le = elim (cases_Bool (nat_lt k i)) [
  | inl w ↦ (let lt = ltb-true k i w in later i (omega (arith, lt)) (omega arith))
  | inr w ↦ (let ge = ltb-false k i w in let same : k ≡ i = omega (arith, ge, le) in subst P same here)
]

not_here : (table : ZoneTable) (l : ℤ) (k n : ℕ) (found : Found) → has_local table l k ≡ false → leads_up table l k ≡ false → Meaning table l (k + 1) n found → Meaning table l k (suc n) found
not_here table l k n (Shown o₁) here up (shown j o from to there earlier same) =
    shown j o (omega (arith, from)) (omega (arith, to)) there (λ i le lt. at_first (λ i. has_local table l i ≡ false) k i here (λ m a b. earlier m a (omega (arith, b, lt))) le) same
not_here table l k n (Skipped o₁) here up (skipped j o none from to past earlier same) =
    skipped j o (λ i le lt. at_first (λ i. has_local table l i ≡ false) k i here (λ m a b. none m a (omega (arith, b, lt))) le) (omega (arith, from)) (omega (arith, to)) past
    (λ i le lt. at_first (λ i. leads_up table l i ≡ false) k i up (λ m a b. earlier m a (omega (arith, b, lt))) le) same
not_here table l k n Nowhere here up (nowhere none past) =
    nowhere (λ i le lt. at_first (λ i. has_local table l i ≡ false) k i here (λ m a b. none m a (omega (arith, b, lt))) le) (λ i le lt. at_first (λ i. leads_up table l i ≡ false) k i up (λ m a b. past m a (omega (arith, b, lt))) le)

gap_here : (table : ZoneTable) (l : ℤ) (k n : ℕ) (found : Found) → has_local table l k ≡ false → leads_up table l k ≡ true → Meaning table l (k + 1) n found → Meaning table l k (suc n) (best (Skipped (offset_of_stretch table (k - 1))) found)
gap_here table l k n (Shown o₁) here up (shown j o from to there earlier same) =
    shown j o (omega (arith, from)) (omega (arith, to)) there (λ i le lt. at_first (λ i. has_local table l i ≡ false) k i here (λ m a b. earlier m a (omega (arith, b, lt))) le) same
gap_here table l k n (Skipped o₁) here up (skipped j o none from to past earlier same) =
    skipped k (offset_of_stretch table (k - 1)) (λ i le lt. at_first (λ i. has_local table l i ≡ false) k i here (λ m a b. none m a (omega (arith, b, lt))) le) (omega arith) (omega arith) up (λ i le lt. absurd (omega (arith, le, lt))) refl
gap_here table l k n Nowhere here up (nowhere none past) =
    skipped k (offset_of_stretch table (k - 1)) (λ i le lt. at_first (λ i. has_local table l i ≡ false) k i here (λ m a b. none m a (omega (arith, b, lt))) le) (omega arith) (omega arith) up (λ i le lt. absurd (omega (arith, le, lt))) refl

-- what so many stretches make of a local time means that
pub found_from-means : (table : ZoneTable) (l : ℤ) (k n : ℕ) → Meaning table l k n (found_from table l k n)
found_from-means table l k zero = nowhere (λ i le lt. absurd (omega (arith, le, lt))) (λ i le lt. absurd (omega (arith, le, lt)))
found_from-means table l k (suc n) = elim (cases_Bool (has_local table l k)) [
  | inl w ↦ subst (Meaning table l k (suc n)) (sym (ap (λ b. best (if b then Shown (offset_of_stretch table k) else (if leads_up table l k then Skipped (offset_of_stretch table (k - 1)) else Nowhere)) (found_from table l (k + 1) n)) w))
      (shown k (offset_of_stretch table k) (omega arith) (omega arith) w (λ i le lt. absurd (omega (arith, le, lt))) refl)
  | inr w ↦ elim (cases_Bool (leads_up table l k)) [
    | inl v ↦ subst (Meaning table l k (suc n)) (sym (ap (λ b. best (if b then Shown (offset_of_stretch table k) else (if leads_up table l k then Skipped (offset_of_stretch table (k - 1)) else Nowhere)) (found_from table l (k + 1) n)) w ∙ ap (λ b. best (if b then Skipped (offset_of_stretch table (k - 1)) else Nowhere) (found_from table l (k + 1) n)) v))
        (gap_here table l k n (found_from table l (k + 1) n) w v (found_from-means table l (k + 1) n))
    | inr v ↦ subst (Meaning table l k (suc n)) (sym (ap (λ b. best (if b then Shown (offset_of_stretch table k) else (if leads_up table l k then Skipped (offset_of_stretch table (k - 1)) else Nowhere)) (found_from table l (k + 1) n)) w ∙ ap (λ b. best (if b then Skipped (offset_of_stretch table (k - 1)) else Nowhere) (found_from table l (k + 1) n)) v))
        (not_here table l k n (found_from table l (k + 1) n) w v (found_from-means table l (k + 1) n))
  ]
]

-- So much for the conversions.

leads_up-next : (table : ZoneTable) (l : ℤ) (k : ℕ) (b : Bool) → leads_up table l (suc k) ≡ b → leads_past l (get_or table.onsets k no_onset) ≡ b
leads_up-next table l k b h =
    let some : (suc k == 0) ≡ false = grind arith in
    let before : suc k - 1 ≡ k = omega arith in
    rw (some, before) at h

none_leads : (table : ZoneTable) (l : ℤ) (n : ℕ) → n ≤ length table.onsets → ((i : ℕ) → i < suc n → leads_up table l i ≡ false) → AllWithin (λ (o : Onset). leads_past l o ≡ false) table.onsets 0 n
none_leads table l n le none k d low high =
    let up = leads_up-next table l k false (none (suc k) (omega (arith, high))) in
    rw (get_or_default table.onsets k d no_onset (omega (arith, le, high))) up

-- the instant by what all stretches make of a local time
pub IsInstantOf-found : (table : ZoneTable) (l : ℤ) (found : Found) → IsRising table.onsets → Meaning table l 0 (length table.onsets + 1) found → IsInstantOf table l (instant_by l found)
IsInstantOf-found table l (Shown o₁) rising (shown j o from to there earlier same) =
    subst (λ o. IsInstantOf table l (l -ℤ o)) (sym same) (inl (IsLeastInstant-stretch table l j rising (omega (arith, to)) there (λ i lt. earlier i (omega arith) lt)))
IsInstantOf-found table l (Skipped o₁) rising (skipped zero o none from to past earlier same) = absurd (let no : false ≡ true = past in cc)
IsInstantOf-found table l (Skipped o₁) rising (skipped (suc j) o none from to past earlier same) =
    let skip = IsSkipped-stretches table l rising (λ i le. none i (omega arith) (omega (arith, le))) in
    let before : suc j - 1 ≡ j = omega arith in
    subst (λ o. IsInstantOf table l (l -ℤ o)) (sym (same ∙ ap (offset_of_stretch table) before)) (IsInstantOf-first_past table l j rising skip (omega (arith, to)) (leads_up-next table l j true past) (none_leads table l j (omega (arith, to)) (λ i lt. earlier i (omega arith) lt)))
IsInstantOf-found table l Nowhere rising (nowhere none past) =
    let skip = IsSkipped-stretches table l rising (λ i le. none i (omega arith) (omega (arith, le))) in
    absurd (some_leads_past table l rising skip (none_leads table l (length table.onsets) (omega arith) (λ i lt. past i (omega arith) (omega (arith, lt)))))

pub instant_by-found : (table : ZoneTable) (l : ℤ) (found : Found) → IsRising table.onsets → found ≡ found_from table l 0 (length table.onsets + 1) → instant_by l found ≡ instant_of table l
instant_by-found table l found rising same =
    rw same (IsInstantOf-instant_of table l (instant_by l (found_from table l 0 (length table.onsets + 1))) rising (IsInstantOf-found table l (found_from table l 0 (length table.onsets + 1)) rising (found_from-means table l 0 (length table.onsets + 1))))

-- and whether it is shown
shown_if : (table : ZoneTable) (l : ℤ) (found : Found) → IsRising table.onsets → Meaning table l 0 (length table.onsets + 1) found → is_shown found ≡ exists_in table l
shown_if table l (Shown o₁) rising (shown j o from to there earlier same) = sym (exists_in_stretch table l j rising (omega (arith, to)) there)
shown_if table l (Skipped o₁) rising (skipped j o none from to past earlier same) = sym (exists_in_none table l rising (λ i le. none i (omega arith) (omega (arith, le))))
shown_if table l Nowhere rising (nowhere none past) = sym (exists_in_none table l rising (λ i le. none i (omega arith) (omega (arith, le))))

pub is_shown-found : (table : ZoneTable) (l : ℤ) (found : Found) → IsRising table.onsets → found ≡ found_from table l 0 (length table.onsets + 1) → is_shown found ≡ exists_in table l
is_shown-found table l found rising same =
    rw same (shown_if table l (found_from table l 0 (length table.onsets + 1)) rising (found_from-means table l 0 (length table.onsets + 1)))

-- what a type keeps of its spans, where it has some
pub spans_kept : (table : ZoneTable) (kept : Option (List Span)) (spans slice : List Span) → ∥ IfSome kept (IsSpansOf table) ∥₁ → kept ≡ Some spans → slice ≡ spans → IsSpansOf table slice
spans_kept table kept spans slice right is same =
    rw same (∥∥₁_elim right (IsSpansOf-prop table spans) (λ h. subst (λ (k : Option (List Span)). IfSome k (IsSpansOf table)) is h))
