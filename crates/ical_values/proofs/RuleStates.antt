-- What is known of the parts of a rule that are read: a rule and their names. So the parts that fit are those that can stand behind them.
use Rattle.std.proofs.Common.{◌≡◌, ℕ, Bool, true, false, cond, not, ◌&&◌, ◌||◌, nat_eq, if◌then◌else◌, List, [], ◌∷◌, ◌++◌, find, bytes_eq, codes, Option, Some, None, is_some, ℤ, option_map, option_and_then, refl, sym, ap, subst, ◌∙◌, ◌⊎◌, inl, inr}
use Rattle.std.specs.List.{list_any, starts_with}
use Rattle.std.proofs.lemmas.Bool.{cases_Bool, false≢true}
use Rattle.std.proofs.lemmas.Option.{none-some, same_Some}
use Rattle.cal_base.specs.Lists.NameMap.{Named, value_at, with_value}
use Rattle.cal_base.proofs.Lists.NameMapLemmas.{value_at_with}
use Rattle.cal_model.specs.declared.rule.Freq.{Freq}
use Rattle.cal_model.specs.declared.rule.Freq.TheVariants.{Secondly, Minutely, Hourly, Daily, Weekly, Monthly, Yearly}
use Rattle.cal_model.specs.declared.rule.Rule.{Rule}
use Rattle.cal_model.specs.Values.RuleTexts.{Part, part_of, is_part_named, is_each_once, freq_of, freq_in, number_of, until_of, weekday_named, day_of, list_of, meanings, with_part, with_parts, every_time, rule_of_freq, is_ordinal, has_some, refuses, has_ordinals, is_allowed, rule_of_parts}
use Rattle.cal_model.proofs.Values.CutLemmas.{cases_Option, and_then_some, option_map_some, if_some, same_text, is_same_text}
use Rattle.cal_model.proofs.Values.PartFronts.{by_row}
use Rattle.cal_model.proofs.Values.RuleFronts.{Apart, Stand, apart_from_none, apart_lacks, apart_more, find-left, find-right, freq_part, freq_says_nothing, once-join, once-split, or_false, parts_made, parts_make, with-join, with-split}
use Rattle.cal_model.proofs.Values.RuleRows.{Row, three_parts, all_three}
use Rattle.ical_values.specs.declared.rule_lists.CountForm.{CountForm}
use Rattle.ical_values.specs.declared.rule_lists.CountForm.TheVariants.{Month, Hour, Minute, Second}
use Rattle.ical_values.specs.declared.rule_lists.PlaceForm.{PlaceForm}
use Rattle.ical_values.specs.declared.rule_lists.PlaceForm.TheVariants.{Week, YearDay, MonthDay, SetPos}
use Rattle.ical_values.specs.declared.rule_parts.RulePart.{RulePart}
use Rattle.ical_values.specs.declared.rule_parts.RulePart.TheVariants.{Freq as FreqPart, Interval, Count, Until as UntilPart, WeekStart, Days, Counts, Places}
use Rattle.ical_values.specs.declared.rule_parts.PartValue.{PartValue}
use Rattle.ical_values.specs.declared.rule_parts.PartValue.TheVariants.{Freq as OfFreq, Interval as OfInterval, Count as OfCount, Until as OfUntil, WeekStart as OfWeekStart, Days as OfDays, Counts as OfCounts, Places as OfPlaces}
use Rattle.ical_values.specs.RuleForms.{count_by, place_by}
use Rattle.ical_values.specs.RuleParts.{name_of, named_in, parts, part_named, value_of, put, put_counts, put_places, put_named, put_part}
use Rattle.ical_values.specs.RuleReading.{Fits}

-- The table of the parts, and that of their meanings

abbrev with_freq : Freq → Rule → Rule
with_freq freq rule = record rule { freq = freq }

-- what a row puts into a rule, the frequency left aside, is what a part says
abbrev IsRowOf : Row → RulePart → Type 0
IsRowOf row part = (value : List ℕ) (rule : Rule) (freq : Freq) → row.1 value (with_freq freq rule) ≡ option_map (with_freq freq) (option_map (λ v. put v rule) (value_of part value))

abbrev AreRowsOf : List Row → List RulePart → Type 0
AreRowsOf [] [] = Unit {0}
AreRowsOf [] (part ∷ parts) = ⊥
AreRowsOf (row ∷ rows) [] = ⊥
AreRowsOf (row ∷ rows) (part ∷ parts) = ((row.0 ≡ name_of part) × IsRowOf row part) × AreRowsOf rows parts

thrice : {A B C D : Type 0} (f : A → B) (g : B → C) (h : C → D) (o : Option A) → option_map (λ x. h (g (f x))) o ≡ option_map h (option_map g (option_map f o))
thrice f g h None = refl
thrice f g h (Some x) = refl

counts_row : (form : CountForm) (value : List ℕ) (rule : Rule) (freq : Freq) → option_map (λ ns. put_counts form ns (with_freq freq rule)) (list_of (count_by form) value) ≡ option_map (with_freq freq) (option_map (λ v. put v rule) (value_of (Counts form) value))
counts_row Month value rule freq = thrice (OfCounts Month) (λ v. put v rule) (with_freq freq) (list_of (count_by Month) value)
counts_row Hour value rule freq = thrice (OfCounts Hour) (λ v. put v rule) (with_freq freq) (list_of (count_by Hour) value)
counts_row Minute value rule freq = thrice (OfCounts Minute) (λ v. put v rule) (with_freq freq) (list_of (count_by Minute) value)
counts_row Second value rule freq = thrice (OfCounts Second) (λ v. put v rule) (with_freq freq) (list_of (count_by Second) value)

places_row : (form : PlaceForm) (value : List ℕ) (rule : Rule) (freq : Freq) → option_map (λ ns. put_places form ns (with_freq freq rule)) (list_of (place_by form) value) ≡ option_map (with_freq freq) (option_map (λ v. put v rule) (value_of (Places form) value))
places_row Week value rule freq = thrice (OfPlaces Week) (λ v. put v rule) (with_freq freq) (list_of (place_by Week) value)
places_row YearDay value rule freq = thrice (OfPlaces YearDay) (λ v. put v rule) (with_freq freq) (list_of (place_by YearDay) value)
places_row MonthDay value rule freq = thrice (OfPlaces MonthDay) (λ v. put v rule) (with_freq freq) (list_of (place_by MonthDay) value)
places_row SetPos value rule freq = thrice (OfPlaces SetPos) (λ v. put v rule) (with_freq freq) (list_of (place_by SetPos) value)

rows_of_parts : AreRowsOf meanings parts
rows_of_parts = (
  (refl, λ value rule freq. thrice OfFreq (λ v. put v rule) (with_freq freq) (freq_of value)),
  (
    (refl, λ value rule freq. thrice OfInterval (λ v. put v rule) (with_freq freq) (number_of 1 999999999 value)),
    (
      (refl, λ value rule freq. thrice OfCount (λ v. put v rule) (with_freq freq) (number_of 1 999999999 value)),
      (
        (refl, λ value rule freq. thrice OfUntil (λ v. put v rule) (with_freq freq) (until_of value)),
        (
          (refl, λ value rule freq. thrice OfWeekStart (λ v. put v rule) (with_freq freq) (weekday_named value)),
          (
            (refl, counts_row Month),
            (
              (refl, places_row Week),
              (
                (refl, places_row YearDay),
                (
                  (refl, places_row MonthDay),
                  (
                    (refl, λ value rule freq. thrice OfDays (λ v. put v rule) (with_freq freq) (list_of day_of value)),
                    (
                      (refl, counts_row Hour),
                      (
                        (refl, counts_row Minute),
                        (
                          (refl, counts_row Second),
                          (
                            (refl, places_row SetPos),
                            tt,
                          ),
                        ),
                      ),
                    ),
                  ),
                ),
              ),
            ),
          ),
        ),
      ),
    ),
  ),
)

-- a name's row and its part, or neither
record HasBoth (rows : List Row) (known : List RulePart) (part : Part) : Type 0 where
  row : Row
  its : RulePart
  has_row : find (λ (row : Row). is_part_named row.0 part) rows ≡ Some row
  has_part : named_in known part.0 ≡ Some its
  name : part.0 ≡ name_of its
  is_row : IsRowOf row its

record HasNone (rows : List Row) (known : List RulePart) (part : Part) : Type 0 where
  no_row : find (λ (row : Row). is_part_named row.0 part) rows ≡ None
  no_part : named_in known part.0 ≡ None

both_found : (rows : List Row) (known : List RulePart) (part : Part) → AreRowsOf rows known → HasNone rows known part ⊎ HasBoth rows known part
both_found [] [] part all = inl (record { no_row = refl; no_part = refl })
both_found [] (p ∷ known) part all = absurd all
both_found (row ∷ rows) [] part all = absurd all
both_found (row ∷ rows) (p ∷ known) part all =
    let by_rows = λ (b : Bool). if b then Some row else find (λ (row : Row). is_part_named row.0 part) rows in
    let by_parts = λ (b : Bool). if b then Some p else named_in known part.0 in
    elim (cases_Bool (bytes_eq part.0 (name_of p))) [
      | inl is ↦ inr (record { row = row; its = p; has_row = ap by_rows (ap (bytes_eq part.0) all.0.0 ∙ is); has_part = ap by_parts is; name = is_same_text part.0 (name_of p) is; is_row = all.0.1 })
      | inr other ↦ (let no_row = ap by_rows (ap (bytes_eq part.0) all.0.0 ∙ other) in
          let no_part = ap by_parts other in
          elim (both_found rows known part all.1) [
            | inl none ↦ inl (record { no_row = no_row ∙ none.no_row; no_part = no_part ∙ none.no_part })
            | inr both ↦ inr (record { row = both.row; its = both.its; has_row = no_row ∙ both.has_row; has_part = no_part ∙ both.has_part; name = both.name; is_row = both.is_row })
          ])
    ]

-- What the definition puts into a rule with any frequency.
pub put-with_part : (part : Part) (rule : Rule) (freq : Freq) → with_part part (record rule { freq = freq }) ≡ option_map (λ (r : Rule). record r { freq = freq }) (put_part part rule)
put-with_part part rule freq =
    elim (both_found meanings parts part rows_of_parts) [
      | inl none ↦ ap (by_row part (with_freq freq rule)) none.no_row ∙ (by_test (starts_with nat_eq part.0 (codes "X-")) ∙ sym (ap (λ o. option_map (with_freq freq) (put_named o part rule)) none.no_part))
      | inr both ↦ ap (by_row part (with_freq freq rule)) both.has_row ∙ (both.is_row part.1 rule freq ∙ sym (ap (λ o. option_map (with_freq freq) (put_named o part rule)) both.has_part))
    ]
  where
    by_test : (b : Bool) → (if b then Some (with_freq freq rule) else None) ≡ option_map (with_freq freq) (if b then Some rule else None)
    by_test true = refl
    by_test false = refl

-- The frequency of a rule that a part is put into

-- it is that of FREQ, or of the rule before
abbrev pub FreqBehind : List ℕ → List ℕ → Rule → Rule → Type 0
FreqBehind name value rule made = ((name ≡ codes "FREQ") × (freq_of value ≡ Some made.freq)) ⊎ ((bytes_eq name (codes "FREQ") ≡ false) × (made.freq ≡ rule.freq))

counts_keep : (form : CountForm) (ns : List ℕ) (rule : Rule) → (bytes_eq (name_of (Counts form)) (codes "FREQ") ≡ false) × ((put_counts form ns rule).freq ≡ rule.freq)
counts_keep Month ns rule = (refl, refl)
counts_keep Hour ns rule = (refl, refl)
counts_keep Minute ns rule = (refl, refl)
counts_keep Second ns rule = (refl, refl)

places_keep : (form : PlaceForm) (ns : List ℤ) (rule : Rule) → (bytes_eq (name_of (Places form)) (codes "FREQ") ≡ false) × ((put_places form ns rule).freq ≡ rule.freq)
places_keep Week ns rule = (refl, refl)
places_keep YearDay ns rule = (refl, refl)
places_keep MonthDay ns rule = (refl, refl)
places_keep SetPos ns rule = (refl, refl)

-- a part that reads a value of one kind, which leaves the frequency
keeps : {X : Type 0} (c : X → PartValue) (o : Option X) (rule made : Rule) → ((x : X) → (put (c x) rule).freq ≡ rule.freq) → option_map (λ v. put v rule) (option_map c o) ≡ Some made → made.freq ≡ rule.freq
keeps {X} c o rule made all e =
    let v = option_map_some (λ v. put v rule) (option_map c o) made e in
    let x = option_map_some c o v.0 v.1 in
    ap (λ (r : Rule). r.freq) (sym (ap (λ v. put v rule) x.2 ∙ v.2)) ∙ all x.0

value_freq : (part : RulePart) (value : List ℕ) (rule made : Rule) → option_map (λ v. put v rule) (value_of part value) ≡ Some made → FreqBehind (name_of part) value rule made
value_freq FreqPart value rule made e =
    let v = option_map_some (λ v. put v rule) (option_map OfFreq (freq_of value)) made e in
    let f = option_map_some OfFreq (freq_of value) v.0 v.1 in
    inl (refl, f.1 ∙ ap (λ (r : Rule). Some r.freq) (ap (λ v. put v rule) f.2 ∙ v.2))
value_freq Interval value rule made e = inr (refl, keeps OfInterval (number_of 1 999999999 value) rule made (λ x. refl) e)
value_freq Count value rule made e = inr (refl, keeps OfCount (number_of 1 999999999 value) rule made (λ x. refl) e)
value_freq UntilPart value rule made e = inr (refl, keeps OfUntil (until_of value) rule made (λ x. refl) e)
value_freq WeekStart value rule made e = inr (refl, keeps OfWeekStart (weekday_named value) rule made (λ x. refl) e)
value_freq Days value rule made e = inr (refl, keeps OfDays (list_of day_of value) rule made (λ x. refl) e)
value_freq (Counts form) value rule made e = inr ((counts_keep form [] rule).0, keeps (OfCounts form) (list_of (count_by form) value) rule made (λ ns. (counts_keep form ns rule).1) e)
value_freq (Places form) value rule made e = inr ((places_keep form [] rule).0, keeps (OfPlaces form) (list_of (place_by form) value) rule made (λ ns. (places_keep form ns rule).1) e)

pub part_freq : (part : Part) (rule made : Rule) → put_part part rule ≡ Some made → FreqBehind part.0 part.1 rule made
part_freq part rule made e =
    elim (both_found meanings parts part rows_of_parts) [
      | inl none ↦ (let own = if_some (starts_with nat_eq part.0 (codes "X-")) (Some rule) made (sym (ap (λ o. put_named o part rule) none.no_part) ∙ e) in
          inr (not_first none.no_part, ap (λ (r : Rule). r.freq) (sym (same_Some rule made own.1))))
      | inr both ↦ (let here = value_freq both.its part.1 rule made (sym (ap (λ o. put_named o part rule) both.has_part) ∙ e) in
          subst (λ (name : List ℕ). FreqBehind name part.1 rule made) (sym both.name) here)
    ]
  where
    not_first : part_named part.0 ≡ None → bytes_eq part.0 (codes "FREQ") ≡ false
    not_first none =
        elim (cases_Bool (bytes_eq part.0 (codes "FREQ"))) [
          | inl is ↦ absurd (none-some FreqPart (sym none ∙ ap (λ n. part_named n) (is_same_text part.0 (codes "FREQ") is)))
          | inr other ↦ other
        ]

-- What is known of the parts that are read

-- the frequency of the first part FREQ, YEARLY where there is none
abbrev pub FreqIs : Option Part → Freq → Type 0
FreqIs None freq = freq ≡ Yearly
FreqIs (Some part) freq = freq_of part.1 ≡ Some freq

abbrev pub first_freq : List Part → Option Part
first_freq done = find (is_part_named (codes "FREQ")) done

pub record AreReadAs (done : List Part) (rule : Rule) (names : Named Bool) : Type 0 where
  pub once : is_each_once done ≡ true
  pub said : (freq : Freq) → with_parts done (every_time freq) ≡ Some (record rule { freq = freq })
  pub allowed : is_allowed rule ≡ true
  pub named : (name : List ℕ) → is_some (value_at names name) ≡ list_any (is_part_named name) done
  pub freq : FreqIs (first_freq done) rule.freq

-- before the first part
pub nothing_read : (rule : Rule) → rule ≡ every_time Yearly → AreReadAs [] rule []
nothing_read rule is = subst (λ (r : Rule). AreReadAs [] r []) (sym is) (record { once = refl; said = λ freq. refl; allowed = refl; named = λ name. refl; freq = refl })

-- a name that has not come, and the first part of that name
pub not_in : (name : List ℕ) (done : List Part) → list_any (is_part_named name) done ≡ false → find (is_part_named name) done ≡ None
not_in name [] none = refl
not_in name (part ∷ done) none =
    let both = or_false (is_part_named name part) (list_any (is_part_named name) done) none in
    ap (λ b. if b then Some part else find (is_part_named name) done) both.0 ∙ not_in name done both.1

any_last : (test : Part → Bool) (done : List Part) (part : Part) → list_any test (done ++ part ∷ []) ≡ (list_any test done || test part)
any_last test [] part = or_same (test part)
  where
    or_same : (b : Bool) → (b || false) ≡ b
    or_same true = refl
    or_same false = refl
any_last test (first ∷ done) part = ap (λ b. test first || b) (any_last test done part) ∙ or_three (test first) (list_any test done) (test part)
  where
    or_three : (a b c : Bool) → (a || (b || c)) ≡ ((a || b) || c)
    or_three true b c = refl
    or_three false b c = refl

other_way : (a b : List ℕ) → bytes_eq a b ≡ false → bytes_eq b a ≡ false
other_way a b e =
    elim (cases_Bool (bytes_eq b a)) [
      | inl same ↦ absurd (false≢true (sym e ∙ (ap (λ t. bytes_eq a t) (is_same_text b a same) ∙ same_text a)))
      | inr other ↦ other
    ]

named_more : (names : Named Bool) (done : List Part) (part : Part) → ((name : List ℕ) → is_some (value_at names name) ≡ list_any (is_part_named name) done) → (name : List ℕ) → is_some (value_at (with_value names part.0 true) name) ≡ list_any (is_part_named name) (done ++ part ∷ [])
named_more names done part so_far name =
    let after = ap is_some (value_at_with part.0 true name names) in
    let all = any_last (is_part_named name) done part in
    elim (cases_Bool (bytes_eq name part.0)) [
      | inl same ↦ (let this : bytes_eq part.0 name ≡ true = ap (λ n. bytes_eq part.0 n) (is_same_text name part.0 same) ∙ same_text part.0 in
          after ∙ (ap (λ b. is_some (cond b (Some true) (value_at names name))) same ∙ sym (all ∙ (ap (λ b. list_any (is_part_named name) done || b) this ∙ or_true (list_any (is_part_named name) done)))))
      | inr other ↦ (let another = other_way name part.0 other in
          after ∙ (ap (λ b. is_some (cond b (Some true) (value_at names name))) other ∙ (so_far name ∙ sym (all ∙ (ap (λ b. list_any (is_part_named name) done || b) another ∙ or_none (list_any (is_part_named name) done))))))
    ]
  where
    or_true : (b : Bool) → (b || true) ≡ true
    or_true true = refl
    or_true false = refl

    or_none : (b : Bool) → (b || false) ≡ b
    or_none true = refl
    or_none false = refl

-- rules that are allowed by a frequency are so by the year
pub allowed_yearly : (r : Rule) (freq : Freq) → is_allowed (record r { freq = freq }) ≡ true → is_allowed (record r { freq = Yearly }) ≡ true
allowed_yearly r freq e =
    let its = three_parts (not (is_some r.count && is_some r.until)) (not (refuses freq r)) (not (list_any is_ordinal r.by_day) || (has_ordinals freq && not (has_some r.by_week))) (as_parts freq ∙ e) in
    all_three (not (is_some r.count && is_some r.until)) true (not (list_any is_ordinal r.by_day) || (true && not (has_some r.by_week))) its.0 refl (by_year (list_any is_ordinal r.by_day) (has_ordinals freq) (has_some r.by_week) its.2)
  where
    as_parts : (f : Freq) → (not (is_some r.count && is_some r.until) && not (refuses f r) && (not (list_any is_ordinal r.by_day) || (has_ordinals f && not (has_some r.by_week)))) ≡ is_allowed (record r { freq = f })
    as_parts Yearly = refl
    as_parts Monthly = refl
    as_parts Weekly = refl
    as_parts Daily = refl
    as_parts Hourly = refl
    as_parts Minutely = refl
    as_parts Secondly = refl

    by_year : (o h w : Bool) → (not o || (h && not w)) ≡ true → (not o || (true && not w)) ≡ true
    by_year false h w e = refl
    by_year true true w e = e
    by_year true false w e = absurd (false≢true e)

-- The parts that are read stand.
pub are_standing : (done : List Part) (rule : Rule) (names : Named Bool) → AreReadAs done rule names → Stand done
are_standing done rule names s =
    elim (cases_Option (first_freq done)) [
      | inr q ↦ (let freq : freq_of q.0.1 ≡ Some rule.freq = subst (λ (o : Option Part). FreqIs o rule.freq) q.1 s.freq in
          inl (rule, parts_make done rule.freq rule (record { once = s.once; freq = ap (option_and_then (λ (part : Part). freq_of part.1)) q.1 ∙ freq; said = s.said rule.freq; allowed = s.allowed })))
      | inl none ↦ (let year : rule.freq ≡ Yearly = subst (λ (o : Option Part). FreqIs o rule.freq) none s.freq in
          let r = with_freq Yearly rule in
          let found = find-right (is_part_named (codes "FREQ")) done (freq_part Yearly ∷ []) none in
          inr (
            Yearly,
            r,
            parts_make (done ++ (freq_part Yearly ∷ [])) Yearly r (record {
              once = once-join done (freq_part Yearly ∷ []) s.once (apart_more done [] (freq_part Yearly) (apart_from_none done) found.0) refl;
              freq = ap (option_and_then (λ (part : Part). freq_of part.1)) found.1;
              said = with-join done (freq_part Yearly ∷ []) (every_time Yearly) r (s.said Yearly) ∙ ap (option_and_then (with_parts [])) (freq_says_nothing Yearly r);
              allowed = ap (λ f. is_allowed (with_freq f rule)) (sym year) ∙ s.allowed;
            }),
          ))
    ]

-- where FREQ has come they are the rule, and else none
pub read_rule_is : (done : List Part) (rule : Rule) (names : Named Bool) → AreReadAs done rule names → is_some (value_at names (codes "FREQ")) ≡ true → rule_of_parts done ≡ Some rule
read_rule_is done rule names s has =
    elim (cases_Option (first_freq done)) [
      | inr q ↦ (let freq : freq_of q.0.1 ≡ Some rule.freq = subst (λ (o : Option Part). FreqIs o rule.freq) q.1 s.freq in
          parts_make done rule.freq rule (record { once = s.once; freq = ap (option_and_then (λ (part : Part). freq_of part.1)) q.1 ∙ freq; said = s.said rule.freq; allowed = s.allowed }))
      | inl none ↦ absurd (false≢true (sym (find-right (is_part_named (codes "FREQ")) done [] none).0 ∙ (sym (s.named (codes "FREQ")) ∙ has)))
    ]

pub no_rule_is : (done : List Part) (rule : Rule) (names : Named Bool) → AreReadAs done rule names → is_some (value_at names (codes "FREQ")) ≡ false → rule_of_parts done ≡ None
no_rule_is done rule names s none =
    let freq : freq_in done ≡ None = ap (option_and_then (λ (part : Part). freq_of part.1)) (not_in (codes "FREQ") done (sym (s.named (codes "FREQ")) ∙ none)) in
    ap (λ b. if b then option_and_then (rule_of_freq done) (freq_in done) else None) s.once ∙ ap (option_and_then (rule_of_freq done)) freq

-- One more part

module _ (done : List Part) (rule : Rule) (names : Named Bool) (s : AreReadAs done rule names) where
  pub new_here : (part : Part) → is_some (value_at names part.0) ≡ false → list_any (is_part_named part.0) done ≡ false
  new_here part fresh = sym (s.named part.0) ∙ fresh

  freq_behind : (part : Part) (made : Rule) → list_any (is_part_named part.0) done ≡ false → put_part part rule ≡ Some made → FreqIs (first_freq (done ++ part ∷ [])) made.freq
  freq_behind part made fresh puts =
      let behind = part_freq part rule made puts in
      elim (cases_Option (first_freq done)) [
        | inr q ↦ (let whole = find-left (is_part_named (codes "FREQ")) done (part ∷ []) q.0 q.1 in
            let old : freq_of q.0.1 ≡ Some rule.freq = subst (λ (o : Option Part). FreqIs o rule.freq) q.1 s.freq in
            subst (λ (o : Option Part). FreqIs o made.freq) (sym whole) (elim behind [
              | inl is ↦ absurd (none-some q.0 (sym (not_in (codes "FREQ") done (ap (λ n. list_any (is_part_named n) done) (sym is.0) ∙ fresh)) ∙ q.1))
              | inr other ↦ old ∙ ap (λ f. Some f) (sym other.1)
            ]))
        | inl none ↦ (let year : rule.freq ≡ Yearly = subst (λ (o : Option Part). FreqIs o rule.freq) none s.freq in
            let whole = (find-right (is_part_named (codes "FREQ")) done (part ∷ []) none).1 in
            let by_test = λ (b : Bool). if b then Some part else None in
            elim behind [
              | inl is ↦ subst (λ (o : Option Part). FreqIs o made.freq) (sym (whole ∙ ap by_test (ap (λ n. bytes_eq n (codes "FREQ")) is.0))) is.1
              | inr other ↦ subst (λ (o : Option Part). FreqIs o made.freq) (sym (whole ∙ ap by_test other.0)) (other.1 ∙ year)
            ])
      ]

  pub one_more_read : (text : List ℕ) (part : Part) (f : Fits rule names text part) → AreReadAs (done ++ part ∷ []) f.made (with_value names part.0 true)
  one_more_read text part f =
      let fresh = new_here part f.fresh in
      record {
        once = once-join done (part ∷ []) s.once (apart_more done [] part (apart_from_none done) fresh) refl;
        said = λ freq. with-join done (part ∷ []) (every_time freq) (with_freq freq rule) (s.said freq) ∙ ap (option_and_then (with_parts [])) (put-with_part part rule freq ∙ ap (option_map (with_freq freq)) f.puts);
        allowed = f.allowed;
        named = named_more names done part s.named;
        freq = freq_behind part f.made fresh f.puts;
      }

  -- what a part is put into is what the definition puts it into
  put_back : (part : Part) (freq : Freq) (r : Rule) → with_parts (done ++ part ∷ []) (every_time freq) ≡ Some r → (made : Rule) × (put_part part rule ≡ Some made) × (with_freq freq made ≡ r)
  put_back part freq r e =
      let first = with-split done (part ∷ []) (every_time freq) r e in
      let same : with_freq freq rule ≡ first.0 = same_Some (with_freq freq rule) first.0 (sym (s.said freq) ∙ first.1) in
      let last = and_then_some (with_parts []) (with_part part first.0) r first.2 in
      let puts = sym (put-with_part part rule freq) ∙ (ap (with_part part) same ∙ (last.1 ∙ last.2)) in
      let made = option_map_some (with_freq freq) (put_part part rule) r puts in
      (made.0, made.1, made.2)

  -- Parts that can stand fit.
  stands_new : (part : Part) (more : List Part) → Apart done (part ∷ more) → list_any (is_part_named part.0) done ≡ false
  stands_new part more apart = apart_lacks part.0 done (part ∷ more) apart (ap (λ b. b || list_any (is_part_named part.0) more) (same_text part.0))

  pub stands_fit : (text : List ℕ) (part : Part) → part_of text ≡ Some part → Stand (done ++ part ∷ []) → Fits rule names text part
  stands_fit text part reads stands =
      elim stands [
        | inl alone ↦ (let made = parts_made (done ++ part ∷ []) alone.0 alone.1 in
            let fresh = stands_new part [] (once-split done (part ∷ []) made.1.once).1 in
            let puts = put_back part made.0 alone.0 made.1.said in
            let freq : made.0 ≡ puts.0.freq = same_freq made.0 puts.0.freq (first_freq (done ++ part ∷ [])) (freq_behind part puts.0 fresh puts.1) made.1.freq in
            record { reads = reads; fresh = s.named part.0 ∙ fresh; made = puts.0; puts = puts.1; allowed = ap (λ f. is_allowed (with_freq f puts.0)) (sym freq) ∙ (ap is_allowed puts.2 ∙ made.1.allowed) })
        | inr with_freq_behind ↦ (let f = with_freq_behind.0 in
            let r = with_freq_behind.1 in
            let all = done ++ part ∷ [] in
            let made = parts_made (all ++ (freq_part f ∷ [])) r with_freq_behind.2 in
            let split = once-split all (freq_part f ∷ []) made.1.once in
            let fresh = stands_new part [] (once-split done (part ∷ []) split.0).1 in
            let first = with-split all (freq_part f ∷ []) (every_time made.0) r made.1.said in
            let last : first.0 ≡ r = same_Some first.0 r (sym (ap (option_and_then (with_parts [])) (freq_says_nothing f first.0)) ∙ first.2) in
            let puts = put_back part made.0 first.0 first.1 in
            let none : first_freq all ≡ None = not_in (codes "FREQ") all (apart_lacks (codes "FREQ") all (freq_part f ∷ []) split.1 refl) in
            let year : puts.0.freq ≡ Yearly = subst (λ (o : Option Part). FreqIs o puts.0.freq) none (freq_behind part puts.0 fresh puts.1) in
            let yearly = allowed_yearly puts.0 made.0 (ap is_allowed (puts.2 ∙ last) ∙ made.1.allowed) in
            record { reads = reads; fresh = s.named part.0 ∙ fresh; made = puts.0; puts = puts.1; allowed = ap (λ f. is_allowed (with_freq f puts.0)) year ∙ yearly })
      ]
    where
      same_freq : (f g : Freq) (o : Option Part) → FreqIs o g → option_and_then (λ (part : Part). freq_of part.1) o ≡ Some f → f ≡ g
      same_freq f g None is e = absurd (none-some f e)
      same_freq f g (Some part) is e = same_Some f g (sym e ∙ is)
