-- The stamps and the periods of a line, by the form in which they are read.
use Rattle.std.proofs.Common.{◌≡◌, ℕ, Bool, true, false, if◌then◌else◌, List, [], ◌∷◌, map, Option, Some, None, option_map, option_and_then, Result, Ok, Err, length, nat_lt, refl, sym, ap, subst, ◌∙◌, inl, inr}
use Rattle.std.specs.Prelude.{IfOk}
use Rattle.std.specs.List.{list_all}
use Rattle.cal_base.specs.declared.line.Line.{Line}
use Rattle.cal_base.specs.Lines.ContentLines.{pieces, every}
use Rattle.cal_moment.specs.BadPlace.{IsIn, IsBadAt}
use Rattle.cal_moment.specs.declared.stamp.Period.{Period}
use Rattle.cal_moment.specs.declared.stamp.Stamp.{Stamp}
use Rattle.cal_moment.specs.declared.stamp.Stamp.TheVariants.{Date, Floating, Zoned, Utc as AtUtc}
use Rattle.cal_model.specs.Values.BadValues.{Reads, IsBadStampsAt, IsBadPeriodsAt, stamps_by_value, periods_by_value}
use Rattle.cal_model.specs.Values.RuleTexts.{list_of}
use Rattle.cal_model.specs.Values.StampTexts.{if_known, if_periods_known, is_known, is_one_of, is_period_known, list_names, period_of, periods_in_grammar, periods_of, stamp_of, stamps_in_grammar, stamps_of}
use Rattle.cal_model.proofs.Values.BadValueLaws.{bad_by_same}
use Rattle.cal_model.proofs.Values.CutLemmas.{cases_Option}
use Rattle.ical_values.specs.Forms.{alone, has_zone_below}

-- the same values, the same places
pub bad_by_values : {X : Type 0} → (read other : List ℕ → Option X) → ((text : List ℕ) → read text ≡ other text) → (text : List ℕ) (place : ℕ) → IsBadAt (Reads read) text place → IsBadAt (Reads other) text place
bad_by_values {X} read other same = bad_by_same (Reads read) (Reads other) (λ text is. (is.0, sym (same text) ∙ is.1)) (λ text is. (is.0, same text ∙ is.1))

pub ok_by : {X E : Type 0} → (P Q : X → Type 0) (r : Result X E) → ((x : X) → P x → Q x) → IfOk r P → IfOk r Q
ok_by {X} {E} P Q (Ok x) to is = to x is
ok_by {X} {E} P Q (Err e) to is = is

-- zones that are below the count of the names
pub zone_known : (zones : List (List ℕ)) (count : ℕ) (stamp : Stamp) → length zones ≡ count → has_zone_below count stamp ≡ is_known zones stamp
zone_known zones count (Zoned local number) same = ap (nat_lt number) (sym same)
zone_known zones count (Date day) same = refl
zone_known zones count (Floating local) same = refl
zone_known zones count (AtUtc moment) same = refl

every_alone : {X : Type 0} → (o : Option X) → every (o ∷ []) ≡ option_map alone o
every_alone {X} None = refl
every_alone {X} (Some x) = refl

-- a text outside a grammar says no value
pub no_value : {X : Type 0} → (read : List ℕ → Option X) (text : List ℕ) → ¬ IsIn (Reads read) text → read text ≡ None
no_value {X} read text outside = elim (cases_Option (read text)) [ inl none ↦ none | inr some ↦ absurd (outside some) ]

module _ (zones : List (List ℕ)) (line : Line) where
  -- Stamps

  abbrev stamps_by : (List ℕ → Option Stamp) → List ℕ → Bool → Option (List Stamp)
  stamps_by read text list = every (map read (if list then pieces 44 text else text ∷ []))

  by_stamps : (text : List ℕ) (list : Bool) → is_one_of list_names line ≡ list → stamps_by_value zones line text ≡ stamps_by (stamp_of zones line) text list
  unfolding stamps_in_grammar
  by_stamps text list named = ap (stamps_by (stamp_of zones line) text) named

  module _ (read : List ℕ → Option Stamp) (same : (text : List ℕ) → read text ≡ stamp_of zones line text) where
    pub stamps_listed : is_one_of list_names line ≡ true → (text : List ℕ) → list_of read text ≡ stamps_by_value zones line text
    stamps_listed named text = ap (λ f. every (map f (pieces 44 text))) (λ i t. same t i) ∙ sym (by_stamps text true named)

    pub stamps_alone : is_one_of list_names line ≡ false → (text : List ℕ) → option_map alone (read text) ≡ stamps_by_value zones line text
    stamps_alone named text = ap (option_map alone) (same text) ∙ (sym (every_alone (stamp_of zones line text)) ∙ sym (by_stamps text false named))

  pub stamps_known : (stamps : List Stamp) → stamps_in_grammar zones line ≡ Some stamps → list_all (is_known zones) stamps ≡ true → stamps_of zones line ≡ Some stamps
  stamps_known stamps is known = ap (option_and_then (if_known zones)) is ∙ ap (λ b. if b then Some stamps else None) known

  pub stamps_unknown : (stamps : List Stamp) → stamps_in_grammar zones line ≡ Some stamps → list_all (is_known zones) stamps ≡ false → stamps_of zones line ≡ None
  stamps_unknown stamps is known = ap (option_and_then (if_known zones)) is ∙ ap (λ b. if b then Some stamps else None) known

  pub no_stamps : (place : ℕ) → IsBadAt (Reads (stamps_by_value zones line)) line.value place → stamps_of zones line ≡ None
  no_stamps place bad = ap (option_and_then (if_known zones)) (no_value (stamps_by_value zones line) line.value bad.outside)

  abbrev stamps_place : ℕ → Option (List Stamp) → Type 0
  stamps_place place o = elim o [
    | None ↦ IsBadAt (Reads (stamps_by_value zones line)) line.value place
    | Some stamps ↦ (list_all (is_known zones) stamps ≡ false) × (place ≡ 0)
  ]

  pub bad_stamps : (place : ℕ) → IsBadAt (Reads (stamps_by_value zones line)) line.value place → IsBadStampsAt zones line place
  bad_stamps place bad = subst (stamps_place place) (sym (no_value (stamps_by_value zones line) line.value bad.outside)) bad

  pub bad_unknown_stamps : (stamps : List Stamp) (place : ℕ) → stamps_in_grammar zones line ≡ Some stamps → list_all (is_known zones) stamps ≡ false → place ≡ 0 → IsBadStampsAt zones line place
  bad_unknown_stamps stamps place is known none = subst (stamps_place place) (sym is) (known, none)

  -- Periods

  abbrev periods_by : (List ℕ → Option Period) → List ℕ → Bool → Option (List Period)
  periods_by read text list = every (map read (if list then pieces 44 text else text ∷ []))

  by_periods : (text : List ℕ) (list : Bool) → is_one_of list_names line ≡ list → periods_by_value zones line text ≡ periods_by (period_of zones line) text list
  unfolding periods_in_grammar
  by_periods text list named = ap (periods_by (period_of zones line) text) named

  module _ (read : List ℕ → Option Period) (same : (text : List ℕ) → read text ≡ period_of zones line text) where
    pub periods_listed : is_one_of list_names line ≡ true → (text : List ℕ) → list_of read text ≡ periods_by_value zones line text
    periods_listed named text = ap (λ f. every (map f (pieces 44 text))) (λ i t. same t i) ∙ sym (by_periods text true named)

    pub periods_alone : is_one_of list_names line ≡ false → (text : List ℕ) → option_map alone (read text) ≡ periods_by_value zones line text
    periods_alone named text = ap (option_map alone) (same text) ∙ (sym (every_alone (period_of zones line text)) ∙ sym (by_periods text false named))

  pub periods_known : (periods : List Period) → periods_in_grammar zones line ≡ Some periods → list_all (is_period_known zones) periods ≡ true → periods_of zones line ≡ Some periods
  periods_known periods is known = ap (option_and_then (if_periods_known zones)) is ∙ ap (λ b. if b then Some periods else None) known

  pub periods_unknown : (periods : List Period) → periods_in_grammar zones line ≡ Some periods → list_all (is_period_known zones) periods ≡ false → periods_of zones line ≡ None
  periods_unknown periods is known = ap (option_and_then (if_periods_known zones)) is ∙ ap (λ b. if b then Some periods else None) known

  pub no_periods : (place : ℕ) → IsBadAt (Reads (periods_by_value zones line)) line.value place → periods_of zones line ≡ None
  no_periods place bad = ap (option_and_then (if_periods_known zones)) (no_value (periods_by_value zones line) line.value bad.outside)

  abbrev periods_place : ℕ → Option (List Period) → Type 0
  periods_place place o = elim o [
    | None ↦ IsBadAt (Reads (periods_by_value zones line)) line.value place
    | Some periods ↦ (list_all (is_period_known zones) periods ≡ false) × (place ≡ 0)
  ]

  pub bad_periods : (place : ℕ) → IsBadAt (Reads (periods_by_value zones line)) line.value place → IsBadPeriodsAt zones line place
  bad_periods place bad = subst (periods_place place) (sym (no_value (periods_by_value zones line) line.value bad.outside)) bad

  pub bad_unknown_periods : (periods : List Period) (place : ℕ) → periods_in_grammar zones line ≡ Some periods → list_all (is_period_known zones) periods ≡ false → place ≡ 0 → IsBadPeriodsAt zones line place
  bad_unknown_periods periods place is known none = subst (periods_place place) (sym is) (known, none)
