-- What a day of BYDAY is: a weekday, or an ordinal and a weekday.
use Rattle.std.proofs.Common.{◌≡◌, ℕ, suc, ◌-◌, max, Bool, true, false, if◌then◌else◌, List, [], ◌∷◌, ◌++◌, length, take, drop, Option, Some, None, ℤ, pos, refl, sym, ap, ap₂, subst, ◌∙◌, arith, ◌⊎◌, inl, inr}
use Rattle.std.proofs.Math.Seq.{take-append_seam, drop-append_seam}
use Rattle.std.proofs.lemmas.Bool.{ne_eqb}
use Rattle.std.proofs.lemmas.List.{length-append, take-append-drop}
use Rattle.std.proofs.lemmas.Option.{none-some, same_Some}
use Rattle.cal_base.specs.Texts.Text.{raised, raised_all}
use Rattle.cal_moment.specs.BadPlace.{IsIn, IsBadAt}
use Rattle.cal_model.specs.declared.rule.DayPart.{DayPart}
use Rattle.cal_model.specs.Values.BadValues.{Reads}
use Rattle.cal_model.specs.Values.RuleTexts.{weekdays, weekday_named, place_number, if_place, ordinal_of, day_part, day_of}
use Rattle.cal_model.specs.Values.ValueTexts.{count_of, integer_of}
use Rattle.cal_model.proofs.Values.DayFronts.{HasRow, word_row}
use Rattle.ical_values.specs.DayForms.{SpellsOrdinalDay}
use Rattle.cal_model.proofs.Values.CutLemmas.{Lacks, and_then_some, option_map_some, lacks-append}
use Rattle.ical_values.specs.Parts.{LacksComma}
use Rattle.ical_values.specs.RuleBeside.{day_by, each_weekday}
use Rattle.ical_values.proofs.FormPlaces.{as_lacks_comma}
use Rattle.ical_values.proofs.NumberLists.{integer_lacks}
use Rattle.ical_values.proofs.PeriodPlaces.{bad_either}

length-raised : (text : List ℕ) → length (raised_all text) ≡ length text
length-raised [] = refl
length-raised (c ∷ text) = ap suc (length-raised text)

weekday_two : (text : List ℕ) (day : ℕ) → weekday_named text ≡ Some day → length text ≡ 2
weekday_two text day is = by_row weekdays all_two (word_row weekdays text day is)
  where
    AllTwo : List (List ℕ × ℕ) → Type 0
    AllTwo [] = Unit {0}
    AllTwo (row ∷ rows) = (length row.0 ≡ 2) × AllTwo rows

    by_row : (rows : List (List ℕ × ℕ)) → AllTwo rows → HasRow rows text day → length text ≡ 2
    by_row [] all has = absurd has
    by_row (row ∷ rows) all has = elim has [ inl here ↦ sym (length-raised text) ∙ (ap length here.0 ∙ all.0) | inr more ↦ by_row rows all.1 more ]

    all_two : AllTwo weekdays
    all_two = (refl, (refl, (refl, (refl, (refl, (refl, (refl, tt)))))))

-- a text whose last two octets are known
day_cut : (front behind : List ℕ) → length behind ≡ 2 → day_of (front ++ behind) ≡ day_part (ordinal_of front) (weekday_named behind)
day_cut front behind two =
    let text = front ++ behind in
    let size : length text - 2 ≡ length front = omega (arith, length-append front behind, two) in
    ap₂ (λ f w. day_part (ordinal_of f) (weekday_named w)) (ap (λ n. take n text) size ∙ take-append_seam front behind) (ap (λ n. drop n text) size ∙ drop-append_seam front behind)

pub weekday_is_day : (text : List ℕ) (weekday : ℕ) → weekday_named text ≡ Some weekday → day_of text ≡ Some (record { ordinal = pos 0; weekday = weekday })
weekday_is_day text weekday is = day_cut [] text (weekday_two text weekday is) ∙ ap (day_part (Some (pos 0))) is

no_empty_place : (z : ℤ) → place_number 53 [] ≡ Some z → ⊥
unfolding integer_of count_of
no_empty_place z is = none-some z is

some_place : (front : List ℕ) (z : ℤ) → place_number 53 front ≡ Some z → ordinal_of front ≡ Some z
some_place [] z is = absurd (no_empty_place z is)
some_place (c ∷ front) z is = ap (λ b. if b then Some (pos 0) else place_number 53 (c ∷ front)) (ne_eqb (length (c ∷ front)) 0 (λ e. omega (arith, e))) ∙ is

pub ordinal_is_day : (text : List ℕ) (day : DayPart) → SpellsOrdinalDay text day → day_of text ≡ Some day
ordinal_is_day text day s = ap day_of s.split ∙ (day_cut s.front s.behind (weekday_two s.behind day.weekday s.weekday) ∙ ap₂ day_part (some_place s.front day.ordinal s.ordinal) s.weekday)

-- the parts of a day that is read
record DayParts (ordinal : Option ℤ) (weekday : Option ℕ) (day : DayPart) : Type 0 where
  its_ordinal : ordinal ≡ Some day.ordinal
  its_weekday : weekday ≡ Some day.weekday

day_parts : (ordinal : Option ℤ) (weekday : Option ℕ) (day : DayPart) → day_part ordinal weekday ≡ Some day → DayParts ordinal weekday day
day_parts (Some o) (Some w) day e =
    let is = same_Some (record { ordinal = o; weekday = w }) day e in
    record { its_ordinal = ap (λ (d : DayPart). Some d.ordinal) is; its_weekday = ap (λ (d : DayPart). Some d.weekday) is }
day_parts (Some o) None day e = absurd (none-some day e)
day_parts None weekday day e = absurd (none-some day e)

pub day_in : (text : List ℕ) → IsIn (Reads day_of) text → IsIn (Reads weekday_named) text ⊎ IsIn SpellsOrdinalDay text
day_in text is =
    let front = take (length text - 2) text in
    let behind = drop (length text - 2) text in
    let parts = day_parts (ordinal_of front) (weekday_named behind) is.0 is.1 in
    by_front front behind (sym (take-append-drop (length text - 2) text)) parts
  where
    by_front : (front behind : List ℕ) → text ≡ front ++ behind → DayParts (ordinal_of front) (weekday_named behind) is.0 → IsIn (Reads weekday_named) text ⊎ IsIn SpellsOrdinalDay text
    by_front [] behind split parts = inl (is.0.weekday, ap weekday_named split ∙ parts.its_weekday)
    by_front (c ∷ front) behind split parts =
        inr (
          is.0,
          record {
            front = c ∷ front;
            behind = behind;
            split = split;
            ordinal = sym (ap (λ b. if b then Some (pos 0) else place_number 53 (c ∷ front)) (ne_eqb (length (c ∷ front)) 0 (λ e. omega (arith, e)))) ∙ parts.its_ordinal;
            weekday = parts.its_weekday;
          },
        )

-- A text that is neither is bad at the later place of the two.
pub bad_day : (text : List ℕ) (a b place : ℕ) → IsBadAt (Reads weekday_named) text a → IsBadAt SpellsOrdinalDay text b → place ≡ max a b → IsBadAt (Reads day_of) text place
bad_day = bad_either (Reads weekday_named) SpellsOrdinalDay (Reads day_of) day_in (λ text is. (record { ordinal = pos 0; weekday = is.0 }, weekday_is_day text is.0 is.1)) (λ text is. (is.0, ordinal_is_day text is.0 is.1))

-- No day has a comma

lacks_raised : (text word : List ℕ) → raised_all text ≡ word → Lacks 44 word → Lacks 44 text
lacks_raised [] word same lacks = tt
lacks_raised (c ∷ text) word same lacks =
    let whole = subst (Lacks 44) (sym same) lacks in
    (λ is. whole.0 (ap raised is), lacks_raised text (raised_all text) refl whole.1)

weekday_lacks : (text : List ℕ) (day : ℕ) → weekday_named text ≡ Some day → Lacks 44 text
weekday_lacks text day is = by_row weekdays all_lack (word_row weekdays text day is)
  where
    AllLack : List (List ℕ × ℕ) → Type 0
    AllLack [] = Unit {0}
    AllLack (row ∷ rows) = Lacks 44 row.0 × AllLack rows

    by_row : (rows : List (List ℕ × ℕ)) → AllLack rows → HasRow rows text day → Lacks 44 text
    by_row [] all has = absurd has
    by_row (row ∷ rows) all has = elim has [ inl here ↦ lacks_raised text row.0 here.0 all.0 | inr more ↦ by_row rows all.1 more ]

    all_lack : AllLack weekdays
    all_lack = grind arith

day_lacks : (text : List ℕ) → IsIn (Reads day_of) text → Lacks 44 text
day_lacks text is =
    elim (day_in text is) [
      | inl weekday ↦ weekday_lacks text weekday.0 weekday.1
      | inr day ↦ (let s = day.1 in
          let z = and_then_some (if_place 53) (integer_of s.front) day.0.ordinal s.ordinal in
          subst (Lacks 44) (sym s.split) (lacks-append 44 s.front s.behind (integer_lacks s.front z.0 z.1) (weekday_lacks s.behind day.0.weekday s.weekday)))
    ]

pub days_lack_commas : (ordinals : Bool) (text : List ℕ) → IsIn (Reads (day_by ordinals)) text → LacksComma text
days_lack_commas true text is = as_lacks_comma text (day_lacks text is)
days_lack_commas false text is = let weekday = option_map_some each_weekday (weekday_named text) is.0 is.1 in as_lacks_comma text (weekday_lacks text weekday.0 weekday.1)
