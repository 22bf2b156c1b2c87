-- `instant_of` meets the standard's own words.
use Rattle.std.proofs.Common.{◌≡◌, ℕ, zero, suc, ◌-◌, ◌<◌, ◌≤◌, List, [], ◌∷◌, length, get_or, map, refl, sym, ap, ◌∙◌, arith, Bool, true, false, nat_lt, ℤ, pos, negsuc, ◌+ℤ◌, ◌-ℤ◌, ◌<ℤ◌, ◌≤ℤ◌, inl, inr, ◌⊎◌}
use Rattle.std.specs.Prelude.{int_le, int_lt, filter}
use Rattle.std.proofs.lemmas.Int.{ints, by_lt_z}
use Rattle.std.proofs.lemmas.Bool.{cases_Bool, ltb-true, ltb-false}
use Rattle.cal_model.specs.declared.zone.Onset.{Onset}
use Rattle.cal_model.specs.declared.zone.ZoneTable.{ZoneTable}
use Rattle.cal_model.specs.Words.Integers.{same_int, least_of}
use Rattle.cal_model.specs.Conversions.Stretches.{no_onset}
use Rattle.cal_model.specs.TimeZones.TableBounds.{IsRising}
use Rattle.cal_model.proofs.TimeZones.Onsets.{offset_among_none}
use Rattle.cal_model.specs.TimeZones.Zones.{offset_among, offset_at, local_at, offsets, instants_of, instant_of, onsets_past, after_gap, least_or_after_gap, IsLeastInstant, IsFirstPast, IsSkipped, IsInstantOf}

-- x is in a list
pub data In (x : ℤ) : List ℤ → Type 0 where
  here : {xs : List ℤ} → In x (x ∷ xs)
  there : {y : ℤ} {xs : List ℤ} → In x xs → In x (y ∷ xs)

pub same_int-self : (z : ℤ) → same_int z z ≡ true
same_int-self (pos n) = grind arith
same_int-self (negsuc n) = grind arith

pub same_int-true : (a b : ℤ) → same_int a b ≡ true → a ≡ b
same_int-true (pos a) (pos b) h = ap pos (grind (arith, h))
same_int-true (pos a) (negsuc b) h = absurd (cc)
same_int-true (negsuc a) (pos b) h = absurd (cc)
same_int-true (negsuc a) (negsuc b) h = ap negsuc (grind (arith, h))

In-second : (y b x : ℤ) (ys : List ℤ) → In y (b ∷ ys) → In y (b ∷ x ∷ ys)
In-second b₁ b x ys here = here
In-second y b x ys (there r) = there (there r)

In-map : (f : ℤ → ℤ) (x : ℤ) (xs : List ℤ) → In x xs → In (f x) (map f xs)
In-map f x [] h = elim h [ ]
In-map f x (x₁ ∷ xs) here = here
In-map f x (y ∷ xs) (there r) = there (In-map f x xs r)

In-filter : (p : ℤ → Bool) (x : ℤ) (xs : List ℤ) → In x xs → p x ≡ true → In x (filter p xs)
In-filter p x [] h t = elim h [ ]
In-filter p x (x₁ ∷ xs) here h = rw h here
In-filter p x (y ∷ xs) (there r) h =
    elim (cases_Bool (p y)) [ inl w ↦ rw w (there (In-filter p x xs r h)) | inr w ↦ rw w (In-filter p x xs r h) ]

In-split : (P : Type 0) (x y : ℤ) (ys : List ℤ) → In x (y ∷ ys) → (x ≡ y → P) → (In x ys → P) → P
In-split P y₁ y ys here f g = f refl
In-split P x y ys (there r) f g = g r

In-passes : (p : ℤ → Bool) (x : ℤ) (xs : List ℤ) → In x (filter p xs) → p x ≡ true
In-passes p x [] h = elim h [ ]
In-passes p x (y ∷ xs) h = elim (cases_Bool (p y)) [
  | inl w ↦ In-split (p x ≡ true) x y (filter p xs) (rw w at h) (λ e. rw e w) (λ r. In-passes p x xs r)
  | inr w ↦ In-passes p x xs (rw w at h)
]

-- the offset at an instant is one that the zone has
offset_in : (before : ℤ) (onsets : List Onset) (u : ℤ) → In (offset_among before onsets u) (before ∷ map (λ (o : Onset). o.offset) onsets)
offset_in before [] u = here
offset_in before (x ∷ xs) u = elim (cases_Bool (int_le x.at.0 u)) [
  | inl w ↦ rw w (there (offset_in x.offset xs u))
  | inr w ↦ rw w (In-second _ _ _ _ (offset_in before xs u))
]

-- each instant with that local time is among the candidates
pub instants_of-all : (table : ZoneTable) (l v : ℤ) → local_at table v ≡ l → In v (instants_of table l)
unfolding offset_at
instants_of-all table l v h =
    let o = offset_at table v in
    let same : l -ℤ offset_at table v ≡ v = omega (arith, ints, h) in
    let candidate = In-map (λ o. l -ℤ o) (offset_at table v) (offsets table) (offset_in table.before table.onsets v) in
    In-filter (λ u. same_int (local_at table u) l) v (map (λ o. l -ℤ o) (offsets table)) (rw same at candidate) (rw h (same_int-self l))

pub instants_of-only : (table : ZoneTable) (l v : ℤ) → In v (instants_of table l) → local_at table v ≡ l
instants_of-only table l v h = same_int-true _ _ (In-passes (λ u. same_int (local_at table u) l) v (map (λ o. l -ℤ o) (offsets table)) h)

least_in : (z : ℤ) (xs : List ℤ) → In (least_of z xs) (z ∷ xs)
least_in z [] = here
least_in z (x ∷ xs) = elim (cases_Bool (int_lt x z)) [
  | inl w ↦ rw w (there (least_in x xs))
  | inr w ↦ rw w (In-second _ _ _ _ (least_in z xs))
]

least_below : (z x : ℤ) (xs : List ℤ) → In x (z ∷ xs) → least_of z xs ≤ℤ x
least_below z x [] h = In-split (z ≤ℤ x) x z [] h (λ e. rw e (omega (arith, ints))) (λ r. elim r [ ])
least_below z x (y ∷ ys) h = elim (cases_Bool (int_lt y z)) [
  | inl w ↦ (let lt : y <ℤ z = grind (arith, ints, w) in rw w (In-split (least_of y ys ≤ℤ x) x z (y ∷ ys) h
      (λ e. let le = least_below y y ys here in omega (arith, ints, e, le, lt))
      (λ r. least_below y x ys r)))
  | inr w ↦ (let le : z ≤ℤ y = grind (arith, ints, w) in rw w (In-split (least_of z ys ≤ℤ x) x z (y ∷ ys) h
      (λ e. least_below z x ys (rw e here))
      (λ r. In-split (least_of z ys ≤ℤ x) x y ys r (λ e. let b = least_below z z ys here in omega (arith, ints, e, b, le)) (λ q. least_below z x ys (there q)))))
]

-- The latest onset at or before an instant.

abbrev pub nth : List Onset → ℕ → Onset
nth xs k = get_or xs k no_onset

pub record Latest (before u : ℤ) (xs : List Onset) : Type 0 where
  pub place : ℕ
  pub below : place < length xs
  pub at_or_before : (nth xs place).at.0 ≤ℤ u
  pub offset : offset_among before xs u ≡ (nth xs place).offset
  pub latest : (j : ℕ) → j < length xs → (nth xs j).at.0 ≤ℤ u → (nth xs j).at.0 ≤ℤ (nth xs place).at.0

pub record Earlier (before u : ℤ) (xs : List Onset) : Type 0 where
  pub all_after : (j : ℕ) → j < length xs → u <ℤ (nth xs j).at.0
  pub offset : offset_among before xs u ≡ before

tail_rising : (x : Onset) (xs : List Onset) → IsRising (x ∷ xs) → IsRising xs
tail_rising x xs h = record { each = λ i j d a b. h.each (suc i) (suc j) d (omega arith) (omega arith) }

after_first : (x : Onset) (xs : List Onset) (u : ℤ) → IsRising (x ∷ xs) → u <ℤ x.at.0 → (k : ℕ) (d : Onset) → k < length (x ∷ xs) → u <ℤ (get_or (x ∷ xs) k d).at.0
after_first x xs u h lt zero d below = lt
after_first x xs u h lt (suc k) d below = let up = h.each 0 (suc k) d (omega arith) below in omega (arith, ints, up, lt)

first_or_later : (before u : ℤ) (x : Onset) (xs : List Onset) → IsRising (x ∷ xs) → int_le x.at.0 u ≡ true → Latest x.offset u xs ⊎ Earlier x.offset u xs → Latest before u (x ∷ xs)
first_or_later before u x xs h w (inl r) = record {
  place = suc r.place;
  below = (let b = r.below in omega (arith, b));
  at_or_before = r.at_or_before;
  offset = rw w r.offset;
  latest = at_most;
}
  where
    at_most : (j : ℕ) → j < length (x ∷ xs) → (nth (x ∷ xs) j).at.0 ≤ℤ u → (nth (x ∷ xs) j).at.0 ≤ℤ (nth xs r.place).at.0
    at_most zero lt le = let b = r.below in let up = h.each 0 (suc r.place) no_onset (omega arith) (omega (arith, b)) in omega (arith, ints, up)
    at_most (suc j) lt le = r.latest j (omega arith) le
first_or_later before u x xs h w (inr e) = record {
  place = 0;
  below = omega arith;
  at_or_before = grind (arith, ints, w);
  offset = rw w e.offset;
  latest = at_most;
}
  where
    at_most : (j : ℕ) → j < length (x ∷ xs) → (nth (x ∷ xs) j).at.0 ≤ℤ u → (nth (x ∷ xs) j).at.0 ≤ℤ x.at.0
    at_most zero lt le = omega (arith, ints)
    at_most (suc j) lt le = let up = e.all_after j (omega arith) in absurd (omega (arith, ints, up, le))

pub latest_onset : (before u : ℤ) (xs : List Onset) → IsRising xs → Latest before u xs ⊎ Earlier before u xs
latest_onset before u [] h = inr (record { all_after = λ j lt. absurd (omega arith); offset = refl })
latest_onset before u (x ∷ xs) h = elim (cases_Bool (int_le x.at.0 u)) [
  | inl w ↦ inl (first_or_later before u x xs h w (latest_onset x.offset u xs (tail_rising x xs h)))
  | inr w ↦ (let lt : u <ℤ x.at.0 = grind (arith, ints, w) in inr (record {
    all_after = λ j b. after_first x xs u h lt j no_onset b;
    offset = offset_among_none before u (x ∷ xs) (λ k d low high. let up = after_first x xs u h lt k d high in grind (arith, ints, up));
  }))
]

-- The first onset that leads past a local time.

pub record FirstPast (l : ℤ) (xs : List Onset) (o : Onset) : Type 0 where
  pub place : ℕ
  pub below : place < length xs
  pub same : nth xs place ≡ o
  pub past : int_lt l (o.at.0 +ℤ o.offset) ≡ true
  pub earlier : (j : ℕ) → j < place → int_lt l ((nth xs j).at.0 +ℤ (nth xs j).offset) ≡ false

abbrev pub is_past : ℤ → Onset → Bool
is_past l o = int_lt l (o.at.0 +ℤ o.offset)

first_past : (l : ℤ) (xs : List Onset) (o : Onset) (later : List Onset) → filter (is_past l) xs ≡ o ∷ later → FirstPast l xs o
first_past l [] o later h = absurd cc
first_past l (x ∷ xs) o later h = elim (cases_Bool (is_past l x)) [
  | inl w ↦ (let e = rw w at h in let same : x ≡ o = cc in record { place = 0; below = omega arith; same = same; past = rw same at w; earlier = λ j lt. absurd (omega arith) })
  | inr w ↦ (let r = first_past l xs o later (rw w at h) in let b = r.below in record { place = suc r.place; below = omega (arith, b); same = r.same; past = r.past; earlier = earlier_of w r })
]
  where
    earlier_of : is_past l x ≡ false → (r : FirstPast l xs o) → (j : ℕ) → j < suc r.place → int_lt l ((nth (x ∷ xs) j).at.0 +ℤ (nth (x ∷ xs) j).offset) ≡ false
    earlier_of w r zero lt = w
    earlier_of w r (suc j) lt = r.earlier j (omega arith)

none_past : (l : ℤ) (xs : List Onset) → filter (is_past l) xs ≡ [] → (j : ℕ) → j < length xs → is_past l (nth xs j) ≡ false
none_past l [] h j lt = absurd (omega arith)
none_past l (x ∷ xs) h j lt = elim (cases_Bool (is_past l x)) [
  | inl w ↦ (let e = rw w at h in absurd cc)
  | inr w ↦ at_each w (none_past l xs (rw w at h)) j lt
]
  where
    at_each : is_past l x ≡ false → ((j : ℕ) → j < length xs → is_past l (nth xs j) ≡ false) → (j : ℕ) → j < length (x ∷ xs) → is_past l (nth (x ∷ xs) j) ≡ false
    at_each w rest zero lt = w
    at_each w rest (suc j) lt = rest j (omega arith)

same_place : (xs : List Onset) → IsRising xs → (i k : ℕ) → i < length xs → k < length xs → (nth xs i).at.0 ≤ℤ (nth xs k).at.0 → (nth xs k).at.0 ≤ℤ (nth xs i).at.0 → i ≡ k
same_place xs h i k a b p q = elim (cases_Bool (nat_lt i k)) [
  | inl w ↦ (let up = h.each i k no_onset (ltb-true _ _ w) b in absurd (omega (arith, ints, up, p, q)))
  | inr w ↦ (let ge = ltb-false _ _ w in elim (cases_Bool (nat_lt k i)) [
    | inl v ↦ (let up = h.each k i no_onset (ltb-true _ _ v) a in absurd (omega (arith, ints, up, p, q)))
    | inr v ↦ (let le = ltb-false _ _ v in omega (arith, ge, le))
  ])
]

-- from an onset on, while none follows, its offset holds
pub offset_from : (before u : ℤ) (xs : List Onset) → IsRising xs → (k : ℕ) → k < length xs → (nth xs k).at.0 ≤ℤ u → ((j : ℕ) → j < length xs → (nth xs j).at.0 ≤ℤ u → (nth xs j).at.0 ≤ℤ (nth xs k).at.0) →
    offset_among before xs u ≡ (nth xs k).offset
offset_from before u xs h k b le top = elim (latest_onset before u xs h) [
  | inl r ↦ (let same = same_place xs h r.place k r.below b (top r.place r.below r.at_or_before) (r.latest k b le) in r.offset ∙ rw same refl)
  | inr e ↦ (let up = e.all_after k b in absurd (omega (arith, ints, up, le)))
]

-- where a local time is skipped, whatever is past it lies at or after an onset that leads past it
pub past_onset : (table : ZoneTable) (l v : ℤ) → IsRising table.onsets → IsSkipped table l → l <ℤ local_at table v →
    (k : ℕ) × (k < length table.onsets) × ((nth table.onsets k).at.0 ≤ℤ v) × (l <ℤ ((nth table.onsets k).at.0 +ℤ (nth table.onsets k).offset))
unfolding offset_at
past_onset table l v h skip past = elim (latest_onset table.before v table.onsets h) [
  | inl r ↦
      (let y = nth table.onsets r.place in
      let o = r.offset in
      by_lt_z l ((nth table.onsets r.place).at.0 +ℤ (nth table.onsets r.place).offset)
      (λ lt. (r.place, r.below, r.at_or_before, lt))
      (λ ge.
      let low : (nth table.onsets r.place).at.0 ≤ℤ (l -ℤ (nth table.onsets r.place).offset) = omega (arith, ints, ge) in
      let up : (l -ℤ (nth table.onsets r.place).offset) <ℤ v = omega (arith, ints, past, o) in
      let e = offset_from table.before (l -ℤ (nth table.onsets r.place).offset) table.onsets h r.place r.below low (λ j b le. r.latest j b (omega (arith, ints, le, up))) in
      absurd (skip (l -ℤ (nth table.onsets r.place).offset) (omega (arith, ints, e)))))
  | inr e ↦
      (let o = e.offset in
      let up : (l -ℤ table.before) <ℤ v = omega (arith, ints, past, o) in
      elim (latest_onset table.before (l -ℤ table.before) table.onsets h) [
        | inl r ↦ (let a = e.all_after r.place r.below in let b = r.at_or_before in absurd (omega (arith, ints, a, b, up)))
        | inr f ↦ (let p = f.offset in absurd (skip (l -ℤ table.before) (omega (arith, ints, p))))
      ])
]

-- some onset leads past a local time that is skipped
pub some_past : (table : ZoneTable) (l : ℤ) → IsRising table.onsets → IsSkipped table l → filter (is_past l) table.onsets ≡ [] → ⊥
unfolding offset_at
some_past table l h skip e = elim (cases_Bool (nat_lt 0 (length table.onsets))) [
  | inl w ↦
      (let some = ltb-true _ _ w in
      let k = length table.onsets - 1 in
      let below : length table.onsets - 1 < length table.onsets = omega (arith, some) in
      let off = (nth table.onsets (length table.onsets - 1)).offset in
      let fails = none_past l table.onsets e (length table.onsets - 1) below in
      let le : ((nth table.onsets (length table.onsets - 1)).at.0 +ℤ (nth table.onsets (length table.onsets - 1)).offset) ≤ℤ l = grind (arith, ints, fails) in
      let low : (nth table.onsets (length table.onsets - 1)).at.0 ≤ℤ (l -ℤ (nth table.onsets (length table.onsets - 1)).offset) = omega (arith, ints, le) in
      let o = offset_from table.before (l -ℤ (nth table.onsets (length table.onsets - 1)).offset) table.onsets h (length table.onsets - 1) below low (λ j b q. last_is j b some) in
      skip (l -ℤ (nth table.onsets (length table.onsets - 1)).offset) (omega (arith, ints, o)))
  | inr w ↦
      (let empty = ltb-false _ _ w in
      elim (latest_onset table.before (l -ℤ table.before) table.onsets h) [
        | inl r ↦ (let b = r.below in absurd (omega (arith, b, empty)))
        | inr f ↦ (let p = f.offset in skip (l -ℤ table.before) (omega (arith, ints, p)))
      ])
]
  where
    last_is : (j : ℕ) → j < length table.onsets → 0 < length table.onsets → (nth table.onsets j).at.0 ≤ℤ (nth table.onsets (length table.onsets - 1)).at.0
    last_is j b some = elim (cases_Bool (nat_lt j (length table.onsets - 1))) [
      | inl w ↦ (let up = h.each j (length table.onsets - 1) no_onset (ltb-true _ _ w) (omega (arith, some)) in omega (arith, ints, up))
      | inr w ↦ (let ge = ltb-false _ _ w in let same : j ≡ length table.onsets - 1 = omega (arith, ge, b) in rw same (omega (arith, ints)))
    ]

pub later_onset : (xs : List Onset) → IsRising xs → (i k : ℕ) → i ≤ k → k < length xs → (nth xs i).at.0 ≤ℤ (nth xs k).at.0
later_onset xs h i k le b = elim (cases_Bool (nat_lt i k)) [
  | inl w ↦ (let up = h.each i k no_onset (ltb-true i k w) b in omega (arith, ints, up))
  | inr w ↦ (let ge = ltb-false i k w in let same : i ≡ k = omega (arith, ge, le) in rw same (omega (arith, ints)))
]

-- an onset that leads past stands no earlier than the first that does
pub no_earlier : (l : ℤ) (xs : List Onset) (o : Onset) → IsRising xs → FirstPast l xs o → (k : ℕ) → k < length xs → l <ℤ ((nth xs k).at.0 +ℤ (nth xs k).offset) → o.at.0 ≤ℤ (nth xs k).at.0
no_earlier l xs o h r k b past = elim (cases_Bool (nat_lt k r.place)) [
  | inl w ↦ (let fails = r.earlier k (ltb-true k r.place w) in absurd (grind (arith, ints, fails, past)))
  | inr w ↦ (let ge = ltb-false k r.place w in let s = r.same in rw s at (later_onset xs h r.place k ge b))
]

-- the first onset that leads past a skipped local time is the first moment past it
pub first_moment_past : (table : ZoneTable) (l : ℤ) (o : Onset) → IsRising table.onsets → IsSkipped table l → FirstPast l table.onsets o → IsFirstPast table l o.at.0
unfolding offset_at
first_moment_past table l o h skip r =
    let s = r.same in
    let here : (nth table.onsets r.place).at.0 ≤ℤ o.at.0 = rw s (omega (arith, ints)) in
    let off = offset_from table.before o.at.0 table.onsets h r.place r.below here (λ j b le. rw s le) in
    let mine : offset_among table.before table.onsets o.at.0 ≡ o.offset = rw s at off in
    let p = r.past in
    let past : l <ℤ (o.at.0 +ℤ o.offset) = grind (arith, ints, p) in (
      omega (arith, ints, mine, past),
      λ v lt. by_lt_z l (local_at table v)
          (λ over. let q = past_onset table l v h skip over in
          let le = no_earlier l table.onsets o h r q.0 q.1 q.3 in
          let le2 = q.2 in
          absurd (omega (arith, ints, le, le2, lt)))
          (λ ok. ok),
    )

least_or_gap : (table : ZoneTable) (l : ℤ) → IsRising table.onsets → (found : List ℤ) → instants_of table l ≡ found → (past : List Onset) → onsets_past table l ≡ past → IsInstantOf table l (least_or_after_gap table l found)
least_or_gap table l h (u ∷ us) e past p = inl (
  instants_of-only table l (least_of u us) (rw e (least_in u us)),
  λ v lt same.
      let found = rw e at (instants_of-all table l v same) in
      let le = least_below u v us found in absurd (omega (arith, ints, le, lt)),
)
least_or_gap table l h [] e past p =
    let skip : IsSkipped table l = λ v same. elim (rw e at (instants_of-all table l v same)) [ ] in
    after table l h skip past p
  where
    after : (table : ZoneTable) (l : ℤ) → IsRising table.onsets → IsSkipped table l → (past : List Onset) → onsets_past table l ≡ past → IsInstantOf table l (after_gap table l (onsets_past table l))
    after table l h skip [] p = absurd (some_past table l h skip p)
    after table l h skip (o ∷ later) p = inr (skip, rw p (o.at.0, first_moment_past table l o h skip (first_past l table.onsets o later p), refl))

-- the instant of a local time is what the standard says
pub instant_of-is : (table : ZoneTable) (l : ℤ) → IsRising table.onsets → IsInstantOf table l (instant_of table l)
unfolding instant_of
instant_of-is table l h = least_or_gap table l h (instants_of table l) refl (onsets_past table l) refl

-- A local time has one instant.

least_instant-same : (table : ZoneTable) (l u v : ℤ) → IsLeastInstant table l u → IsLeastInstant table l v → u ≡ v
least_instant-same table l u v a b =
    by_lt_z u v
    (λ lt. absurd (b.1 u lt a.0))
    (λ ge. by_lt_z v u (λ lt. absurd (a.1 v lt b.0)) (λ le. omega (arith, ints, ge, le)))

first_past-same : (table : ZoneTable) (l s t : ℤ) → IsFirstPast table l s → IsFirstPast table l t → s ≡ t
first_past-same table l s t a b =
    by_lt_z s t
    (λ lt. let le = b.1 s lt in let past = a.0 in absurd (omega (arith, ints, le, past)))
    (λ ge. by_lt_z t s
    (λ lt. let le = a.1 t lt in let past = b.0 in absurd (omega (arith, ints, le, past)))
    (λ le. omega (arith, ints, ge, le)))

pub IsInstantOf-same : (table : ZoneTable) (l u v : ℤ) → IsInstantOf table l u → IsInstantOf table l v → u ≡ v
IsInstantOf-same table l u v (inl a) (inl b) = least_instant-same table l u v a b
IsInstantOf-same table l u v (inl a) (inr b) = absurd (b.0 u a.0)
IsInstantOf-same table l u v (inr a) (inl b) = absurd (a.0 v b.0)
IsInstantOf-same table l u v (inr a) (inr b) =
    let first = first_past-same table l a.1.0 b.1.0 a.1.1 b.1.1 in
    let mine = a.1.2 in let theirs = b.1.2 in
    mine ∙ rw first (sym theirs)

-- so what is the instant of a local time is what the function gives
pub IsInstantOf-instant_of : (table : ZoneTable) (l u : ℤ) → IsRising table.onsets → IsInstantOf table l u → u ≡ instant_of table l
IsInstantOf-instant_of table l u rising h = IsInstantOf-same table l u (instant_of table l) h (instant_of-is table l rising)
