-- An UNTIL is a stamp without a zone: a date where it has eight octets, else a time.
use Rattle.std.proofs.Common.{◌≡◌, ℕ, Bool, true, false, ◌==◌, if◌then◌else◌, List, length, Option, Some, None, option_map, refl, sym, ap, ◌∙◌, arith, inl, inr}
use Rattle.std.proofs.lemmas.Bool.{cases_Bool, eqb-true, eqb-false}
use Rattle.cal_base.specs.Lines.ComponentTrees.{or_else}
use Rattle.cal_moment.specs.declared.stamp.Day.{Day}
use Rattle.cal_moment.specs.declared.stamp.Local.{Local}
use Rattle.cal_moment.specs.declared.stamp.Stamp.TheVariants.{Date as AtDate}
use Rattle.cal_model.specs.declared.rule.Until.TheVariants.{Day as UntilDay}
use Rattle.cal_model.specs.Values.RuleTexts.{until_of, until_time}
use Rattle.cal_model.specs.Values.ValueTexts.{date_of, date_time_of}
use Rattle.cal_model.proofs.Values.CutLemmas.{cases_Option}
use Rattle.cal_model.proofs.Values.ValueLaws.{SpellsDate-date_of, SpellsDateTime-date_time_of}
use Rattle.ical_values.specs.declared.stamps.TimeForm.TheVariants.{Local as InZone}
use Rattle.ical_values.specs.declared.stamps.StampForm.TheVariants.{DateOrTime}
use Rattle.ical_values.specs.Forms.{stamp_in, stamp_by, time_by}
use Rattle.ical_values.specs.UntilForms.{until_at}
use Rattle.ical_values.proofs.FormPlaces.{time_is_long}

no_time : (text : List ℕ) → (length text == 8) ≡ true → date_time_of text ≡ None
no_time text eight =
    elim (cases_Option (date_time_of text)) [
      | inl none ↦ none
      | inr time ↦ absurd (omega (arith, eqb-true (length text) 8 eight, time_is_long text (time.0, SpellsDateTime-date_time_of text time.0 time.1)))
    ]

no_date : (text : List ℕ) → (length text == 8) ≡ false → date_of text ≡ None
no_date text other =
    elim (cases_Option (date_of text)) [
      | inl none ↦ none
      | inr day ↦ (let d = SpellsDate-date_of text day.0 day.1 in absurd (eqb-false (length text) 8 other (ap length d.spelled)))
    ]

of_day : (o : Option Day) → or_else (option_map UntilDay o) None ≡ option_map until_at (option_map AtDate o)
of_day None = refl
of_day (Some day) = refl

of_time : (o : Option (Local × Bool)) → option_map until_time o ≡ option_map until_at (option_map (stamp_in (InZone None)) o)
of_time None = refl
of_time (Some (local, true)) = refl
of_time (Some (local, false)) = refl

pub until_is : (text : List ℕ) → until_of text ≡ option_map until_at (stamp_by (DateOrTime None) text)
until_is text =
    let either = λ (b : Bool). option_map until_at (if b then option_map AtDate (date_of text) else time_by (InZone None) text) in
    elim (cases_Bool (length text == 8)) [
      | inl eight ↦ ap (λ t. or_else (option_map UntilDay (date_of text)) (option_map until_time t)) (no_time text eight) ∙ (of_day (date_of text) ∙ sym (ap either eight))
      | inr other ↦ ap (λ d. or_else (option_map UntilDay d) (option_map until_time (date_time_of text))) (no_date text other) ∙ (of_time (date_time_of text) ∙ sym (ap either other))
    ]
