-- The instant of a local time, found stretch by stretch.
use Rattle.std.proofs.Common.{◌≡◌, ℕ, zero, suc, ◌-◌, ◌<◌, ◌≤◌, List, [], ◌∷◌, length, refl, arith, Bool, true, false, nat_lt, ◌==◌, ◌&&◌, ℤ, pos, ◌+ℤ◌, ◌-ℤ◌, ◌<ℤ◌, ◌≤ℤ◌, inl, inr}
use Rattle.std.specs.Prelude.{int_le, int_lt, filter, not}
use Rattle.std.specs.List.{AllWithin}
use Rattle.std.proofs.lemmas.Int.{ints, by_lt_z}
use Rattle.std.proofs.lemmas.Bool.{cases_Bool, ltb-true, ltb-false}
use Rattle.cal_model.specs.declared.zone.Onset.{Onset}
use Rattle.cal_model.specs.declared.zone.ZoneTable.{ZoneTable}
use Rattle.cal_model.specs.Conversions.Stretches.{no_onset, offset_of_stretch, begins_by, ends_after, is_in_stretch, has_local, leads_past}
use Rattle.cal_model.specs.TimeZones.TableBounds.{IsRising, IsTable, IsOffset}
use Rattle.cal_model.specs.TimeZones.Zones.{offset_at, local_at, exists_in, instants_of, IsLeastInstant, IsSkipped, IsInstantOf}
use Rattle.cal_model.proofs.TimeZones.Instants.{In, here, nth, Latest, FirstPast, latest_onset, offset_from, later_onset, first_moment_past, is_past, some_past, instants_of-all, instants_of-only}

-- what lies in a stretch, without tests
record Lies (onsets : List Onset) (k : ℕ) (u : ℤ) : Type 0 where
  within : k ≤ length onsets
  begun : (j : ℕ) → suc j ≡ k → (nth onsets j).at.0 ≤ℤ u
  open_end : k < length onsets → u <ℤ (nth onsets k).at.0

and_first : (a b : Bool) → (a && b) ≡ true → a ≡ true
and_first true b h = refl
and_first false b h = h

and_second : (a b : Bool) → (a && b) ≡ true → b ≡ true
and_second true b h = h
and_second false b h = absurd cc

and_both : (a b : Bool) → a ≡ true → b ≡ true → (a && b) ≡ true
and_both a b h k = rw (h, k) refl

lies_begun : (onsets : List Onset) (k : ℕ) (u : ℤ) → begins_by onsets k u ≡ true → (j : ℕ) → suc j ≡ k → (nth onsets j).at.0 ≤ℤ u
lies_begun onsets k u h j e =
    let some : (k == 0) ≡ false = grind (arith, e) in
    let before : k - 1 ≡ j = omega arith in
    let test : int_le (nth onsets j).at.0 u ≡ true = rw (some, before) at h in
    grind (arith, ints, test)

lies_open : (onsets : List Onset) (k : ℕ) (u : ℤ) → ends_after onsets k u ≡ true → k < length onsets → u <ℤ (nth onsets k).at.0
lies_open onsets k u h lt =
    let inside : (k == length onsets) ≡ false = grind (arith, lt) in
    let test : int_lt u (nth onsets k).at.0 ≡ true = rw inside at h in
    grind (arith, ints, test)

lies : (onsets : List Onset) (k : ℕ) (u : ℤ) → k ≤ length onsets → is_in_stretch onsets k u ≡ true → Lies onsets k u
lies onsets k u within h = record {
  within = within;
  begun = lies_begun onsets k u (and_first (begins_by onsets k u) (ends_after onsets k u) h);
  open_end = lies_open onsets k u (and_second (begins_by onsets k u) (ends_after onsets k u) h);
}

in_stretch_begins : (onsets : List Onset) (k : ℕ) (u : ℤ) → ((j : ℕ) → suc j ≡ k → (nth onsets j).at.0 ≤ℤ u) → begins_by onsets k u ≡ true
in_stretch_begins onsets zero u h = refl
in_stretch_begins onsets (suc k) u h =
    let le = h k refl in
    let before : suc k - 1 ≡ k = omega arith in
    let some : (suc k == 0) ≡ false = grind arith in
    let test : int_le (nth onsets k).at.0 u ≡ true = grind (arith, ints, le) in
    rw (some, before) test

in_stretch_ends : (onsets : List Onset) (k : ℕ) (u : ℤ) → k ≤ length onsets → (k < length onsets → u <ℤ (nth onsets k).at.0) → ends_after onsets k u ≡ true
in_stretch_ends onsets k u within h = elim (cases_Bool (k == length onsets)) [
  | inl at_end ↦ rw at_end refl
  | inr inside ↦
      (let below : k < length onsets = grind (arith, within, inside) in
      let lt = h below in
      let test : int_lt u (nth onsets k).at.0 ≡ true = grind (arith, ints, lt) in
      rw inside test)
]

-- in a stretch its offset holds
offset_in_stretch : (table : ZoneTable) (k : ℕ) (u : ℤ) → IsRising table.onsets → Lies table.onsets k u → offset_at table u ≡ offset_of_stretch table k
unfolding offset_at
offset_in_stretch table zero u h r = elim (latest_onset table.before u table.onsets h) [
  | inl late ↦
      (let b = late.below in
      let up = r.open_end (omega (arith, b)) in
      let between = later_onset table.onsets h 0 late.place (omega arith) b in
      let le = late.at_or_before in
      absurd (omega (arith, ints, up, between, le)))
  | inr early ↦ early.offset
]
offset_in_stretch table (suc k) u h r =
    let some : (suc k == 0) ≡ false = grind arith in
    let before : suc k - 1 ≡ k = omega arith in
    let w = r.within in
    rw (some, before) (offset_from table.before u table.onsets h k (omega (arith, w)) (r.begun k refl) top)
  where
    top : (j : ℕ) → j < length table.onsets → (nth table.onsets j).at.0 ≤ℤ u → (nth table.onsets j).at.0 ≤ℤ (nth table.onsets k).at.0
    top j b le = elim (cases_Bool (nat_lt k j)) [
      | inl after ↦ (let lt = ltb-true _ _ after in
          let low = later_onset table.onsets h (suc k) j lt b in
          let up = r.open_end (omega (arith, lt, b)) in
          absurd (omega (arith, ints, low, up, le)))
      | inr until ↦ (let w = r.within in later_onset table.onsets h j k (ltb-false _ _ until) (omega (arith, w)))
    ]

-- each instant lies in a stretch
stretch_of : (table : ZoneTable) (u : ℤ) → IsRising table.onsets → (k : ℕ) × Lies table.onsets k u
stretch_of table u h = elim (latest_onset table.before u table.onsets h) [
  | inl r ↦ (suc r.place, after_onset r)
  | inr e ↦ (zero, record { within = omega arith; begun = λ j q. absurd (omega arith); open_end = λ lt. e.all_after 0 lt })
]
  where
    after_onset : (r : Latest table.before u table.onsets) → Lies table.onsets (suc r.place) u
    after_onset r = record {
      within = (let b = r.below in omega (arith, b));
      begun = λ j q. let same : j ≡ r.place = omega arith in rw same r.at_or_before;
      open_end = λ lt. by_lt_z u (nth table.onsets (suc r.place)).at.0
          (λ ok. ok)
          (λ le. let up = h.each r.place (suc r.place) no_onset (omega arith) lt in let top = r.latest (suc r.place) lt le in absurd (omega (arith, ints, up, top)));
    }

-- of two moments with one local time the one in the later stretch is the later
later_stretch : (onsets : List Onset) (j k : ℕ) (u v : ℤ) → IsRising onsets → Lies onsets j u → Lies onsets k v → j < k → u <ℤ v
later_stretch onsets j zero u v h a b lt = absurd (omega arith)
later_stretch onsets j (suc k) u v h a b lt =
    let w = b.within in
    let up = a.open_end (omega (arith, w, lt)) in
    let from = b.begun k refl in
    let between = later_onset onsets h j k (omega arith) (omega (arith, w)) in
    omega (arith, ints, up, from, between)

-- a stretch has the moment l less its offset, and no other with that local time
test_of : (table : ZoneTable) (l v : ℤ) (k : ℕ) → IsRising table.onsets → Lies table.onsets k v → local_at table v ≡ l → (v ≡ l -ℤ offset_of_stretch table k) × (has_local table l k ≡ true)
unfolding has_local
test_of table l v k h r same =
    let off = offset_in_stretch table k v h r in
    let e : l -ℤ offset_of_stretch table k ≡ v = omega (arith, ints, off, same) in
    (omega (arith, ints, off, same), rw e (and_both _ _ (in_stretch_begins table.onsets k v r.begun) (in_stretch_ends table.onsets k v r.within r.open_end)))

-- the first stretch with that local time has the least instant
pub IsLeastInstant-stretch : (table : ZoneTable) (l : ℤ) (k : ℕ) → IsRising table.onsets → k ≤ length table.onsets → has_local table l k ≡ true → ((j : ℕ) → j < k → has_local table l j ≡ false) →
    IsLeastInstant table l (l -ℤ offset_of_stretch table k)
unfolding has_local
IsLeastInstant-stretch table l k h within there earlier =
    let r = lies table.onsets k (l -ℤ offset_of_stretch table k) within there in
    let off = offset_in_stretch table k (l -ℤ offset_of_stretch table k) h r in
    (omega (arith, ints, off), λ v lt same. none_before r v lt same)
  where
    none_before : Lies table.onsets k (l -ℤ offset_of_stretch table k) → (v : ℤ) → v <ℤ (l -ℤ offset_of_stretch table k) → local_at table v ≡ l → ⊥
    none_before r v lt same =
        let s = stretch_of table v h in
        let t = test_of table l v s.0 h s.1 same in
        elim (cases_Bool (nat_lt s.0 k)) [
          | inl before ↦ (let fails = earlier s.0 (ltb-true _ _ before) in let clash : true ≡ false = rw t.1 at fails in absurd cc)
          | inr from ↦ elim (cases_Bool (nat_lt k s.0)) [
            | inl after ↦ (let late = later_stretch table.onsets k s.0 (l -ℤ offset_of_stretch table k) v h r s.1 (ltb-true _ _ after) in absurd (omega (arith, ints, lt, late)))
            | inr until ↦ (let ge = ltb-false _ _ from in let le = ltb-false _ _ until in
                let one : s.0 ≡ k = omega (arith, ge, le) in
                let e = t.0 in let f = rw one at e in absurd (omega (arith, ints, lt, f)))
          ]
        ]

-- where no stretch has it, it is skipped
pub IsSkipped-stretches : (table : ZoneTable) (l : ℤ) → IsRising table.onsets → ((j : ℕ) → j ≤ length table.onsets → has_local table l j ≡ false) → IsSkipped table l
IsSkipped-stretches table l h none = λ v same.
    let s = stretch_of table v h in
    let t = test_of table l v s.0 h s.1 same in
    let fails = none s.0 s.1.within in
    let clash : true ≡ false = rw t.1 at fails in absurd cc

-- and the stretch before the first onset that leads past it has the offset before the gap
pub IsInstantOf-gap : (table : ZoneTable) (l : ℤ) (k : ℕ) → IsRising table.onsets → IsSkipped table l → k < length table.onsets →
    l <ℤ ((nth table.onsets k).at.0 +ℤ (nth table.onsets k).offset) → ((j : ℕ) → j < k → ((nth table.onsets j).at.0 +ℤ (nth table.onsets j).offset) ≤ℤ l) → IsInstantOf table l (l -ℤ offset_of_stretch table k)
IsInstantOf-gap table l k h skip below past earlier =
    let first : FirstPast l table.onsets (nth table.onsets k) = record {
      place = k;
      below = below;
      same = refl;
      past = grind (arith, ints, past);
      earlier = λ j lt. let le = earlier j lt in grind (arith, ints, le);
    } in
    let off = offset_in_stretch table k ((nth table.onsets k).at.0 -ℤ pos 1) h before_it in
    inr (skip, ((nth table.onsets k).at.0, first_moment_past table l (nth table.onsets k) h skip first, rw off refl))
  where
    before_it : Lies table.onsets k ((nth table.onsets k).at.0 -ℤ pos 1)
    before_it = record {
      within = omega (arith, below);
      begun = λ j q. let lt = h.each j k no_onset (omega (arith, q)) below in omega (arith, ints, lt);
      open_end = λ lt. omega (arith, ints);
    }

leads : (l : ℤ) (o : Onset) → leads_past l o ≡ true → l <ℤ (o.at.0 +ℤ o.offset)
leads l o h = let lt : (l -ℤ o.offset) <ℤ o.at.0 = grind (arith, ints, h) in omega (arith, ints, lt)

leads_not : (l : ℤ) (o : Onset) → leads_past l o ≡ false → (o.at.0 +ℤ o.offset) ≤ℤ l
leads_not l o h = let le : o.at.0 ≤ℤ (l -ℤ o.offset) = grind (arith, ints, h) in omega (arith, ints, le)

-- so with the first onset of a list that leads past it
pub IsInstantOf-first_past : (table : ZoneTable) (l : ℤ) (k : ℕ) → IsRising table.onsets → IsSkipped table l → k < length table.onsets → leads_past l (nth table.onsets k) ≡ true →
    AllWithin (λ (o : Onset). leads_past l o ≡ false) table.onsets 0 k → IsInstantOf table l (l -ℤ offset_of_stretch table k)
IsInstantOf-first_past table l k h skip below past earlier =
    IsInstantOf-gap table l k h skip below (leads l (nth table.onsets k) past) (λ j lt. leads_not l (nth table.onsets j) (earlier j no_onset (omega arith) (omega arith)))

-- and there is one
pub some_leads_past : (table : ZoneTable) (l : ℤ) → IsRising table.onsets → IsSkipped table l → AllWithin (λ (o : Onset). leads_past l o ≡ false) table.onsets 0 (length table.onsets) → ⊥
some_leads_past table l h skip none = some_past table l h skip (no_past table.onsets none)
  where
    no_past : (xs : List Onset) → AllWithin (λ (o : Onset). leads_past l o ≡ false) xs 0 (length xs) → filter (is_past l) xs ≡ []
    no_past [] k = refl
    no_past (x ∷ xs) k =
        let le = leads_not l x (k 0 x (omega arith) (omega arith)) in
        let test : is_past l x ≡ false = grind (arith, ints, le) in
        rw test (no_past xs (λ j d low high. k (suc j) d (omega arith) (omega arith)))

-- So much for `exists_in`.

none_in : (v : ℤ) (found : List ℤ) → In v found → (length found == 0) ≡ false
none_in v [] h = elim h [ ]
none_in v (u ∷ us) h = grind arith

pub exists_in_stretch : (table : ZoneTable) (l : ℤ) (k : ℕ) → IsRising table.onsets → k ≤ length table.onsets → has_local table l k ≡ true → exists_in table l ≡ true
unfolding exists_in has_local
exists_in_stretch table l k h within there =
    let r = lies table.onsets k (l -ℤ offset_of_stretch table k) within there in
    let off = offset_in_stretch table k (l -ℤ offset_of_stretch table k) h r in
    let some = none_in _ (instants_of table l) (instants_of-all table l (l -ℤ offset_of_stretch table k) (omega (arith, ints, off))) in
    rw some refl

pub exists_in_none : (table : ZoneTable) (l : ℤ) → IsRising table.onsets → ((j : ℕ) → j ≤ length table.onsets → has_local table l j ≡ false) → exists_in table l ≡ false
unfolding exists_in
exists_in_none table l h none = no_instant (instants_of table l) (λ v r. IsSkipped-stretches table l h none v (instants_of-only table l v r))
  where
    no_instant : (found : List ℤ) → ((v : ℤ) → In v found → ⊥) → not (length found == 0) ≡ false
    no_instant [] h = refl
    no_instant (u ∷ us) h = absurd (h u here)

-- A stretch that lies a day or more before or after a local time has it not, since an offset is less than a day.

offset_of_stretch-bound : (table : ZoneTable) (k : ℕ) → IsTable table → k ≤ length table.onsets → IsOffset (offset_of_stretch table k)
offset_of_stretch-bound table zero h within = h.before
offset_of_stretch-bound table (suc k) h within =
    let before : suc k - 1 ≡ k = omega arith in
    let some : (suc k == 0) ≡ false = grind arith in
    rw (some, before) (h.offsets k no_onset (omega (arith, within)))

and_not : (a b : Bool) → b ≡ false → (a && b) ≡ false
and_not true b h = h
and_not false b h = refl

not_and : (a b : Bool) → a ≡ false → (a && b) ≡ false
not_and true b h = absurd cc
not_and false b h = refl

pub has_local-early : (table : ZoneTable) (l : ℤ) (n j : ℕ) → IsTable table → AllWithin (λ (o : Onset). int_le o.at.0 (l -ℤ pos 86400) ≡ true) table.onsets 0 n → n ≤ length table.onsets → j < n → has_local table l j ≡ false
unfolding has_local
has_local-early table l n j h early within lt =
    let bound = offset_of_stretch-bound table j h (omega (arith, lt, within)) in
    let by = early j no_onset (omega arith) lt in
    let le : (nth table.onsets j).at.0 ≤ℤ (l -ℤ pos 86400) = grind (arith, ints, by) in
    let low = bound.1 in
    let over : (nth table.onsets j).at.0 ≤ℤ (l -ℤ offset_of_stretch table j) = omega (arith, ints, le, low) in
    let inside : (j == length table.onsets) ≡ false = grind (arith, lt, within) in
    let test : int_lt (l -ℤ offset_of_stretch table j) (nth table.onsets j).at.0 ≡ false = grind (arith, ints, over) in
    and_not (begins_by table.onsets j (l -ℤ offset_of_stretch table j)) (ends_after table.onsets j (l -ℤ offset_of_stretch table j)) (rw inside test)

begins_by-after : (onsets : List Onset) (j : ℕ) (u : ℤ) → u <ℤ (nth onsets j).at.0 → begins_by onsets (suc j) u ≡ false
begins_by-after onsets j u lt =
    let before : suc j - 1 ≡ j = omega arith in
    let some : (suc j == 0) ≡ false = grind arith in
    let test : int_le (nth onsets j).at.0 u ≡ false = grind (arith, ints, lt) in
    rw (some, before) test

pub has_local-late : (table : ZoneTable) (l : ℤ) (n j : ℕ) → IsTable table → AllWithin (λ (o : Onset). int_le o.at.0 (l +ℤ pos 86400) ≡ false) table.onsets n (length table.onsets) → n < j → j ≤ length table.onsets → has_local table l j ≡ false
unfolding has_local
has_local-late table l n zero h late lt within = absurd (omega arith)
has_local-late table l n (suc j) h late lt within =
    let bound = offset_of_stretch-bound table (suc j) h within in
    let after = late j no_onset (omega (arith, lt)) (omega (arith, within)) in
    let gt : (l +ℤ pos 86400) <ℤ (nth table.onsets j).at.0 = grind (arith, ints, after) in
    let high = bound.0 in
    let under : (l -ℤ offset_of_stretch table (suc j)) <ℤ (nth table.onsets j).at.0 = omega (arith, ints, gt, high) in
    not_and (begins_by table.onsets (suc j) (l -ℤ offset_of_stretch table (suc j))) (ends_after table.onsets (suc j) (l -ℤ offset_of_stretch table (suc j)))
    (begins_by-after table.onsets j (l -ℤ offset_of_stretch table (suc j)) under)
