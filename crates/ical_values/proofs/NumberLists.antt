-- Lists of the numbers of rules: no number has a comma, and what is made of numbers is bad where they are.
use Rattle.std.proofs.Common.{◌≡◌, ℕ, List, drop, Some, ℤ, sym, subst, arith}
use Rattle.cal_moment.specs.BadPlace.{IsIn}
use Rattle.cal_moment.specs.Texts.{signed}
use Rattle.cal_model.specs.Values.BadValues.{Reads}
use Rattle.cal_model.specs.Values.RuleTexts.{if_between, number_of, if_place}
use Rattle.cal_model.specs.Values.ValueTexts.{count_of, integer_of, is_negative}
use Rattle.std.specs.Prelude.{min}
use Rattle.cal_model.proofs.Values.CutLemmas.{Lacks, option_map_some, and_then_some, SpellsCount-count_of}
use Rattle.ical_values.specs.declared.rule_lists.CountForm.{CountForm}
use Rattle.ical_values.specs.declared.rule_lists.CountForm.TheVariants.{Month, Hour, Minute, Second}
use Rattle.ical_values.specs.declared.rule_lists.PlaceForm.{PlaceForm}
use Rattle.ical_values.specs.Parts.{LacksComma}
use Rattle.ical_values.specs.RuleForms.{count_by, most_of, place_by}
use Rattle.ical_values.proofs.FormPlaces.{lacks_low, as_lacks_comma}
use Rattle.ical_values.proofs.SignPlaces.{sign_case, unsigned}
use Rattle.ical_values.proofs.SignPlaces.SignCase.{has_minus, has_plus, no_sign}

count_lacks : (text : List ℕ) (n : ℕ) → count_of text ≡ Some n → Lacks 44 text
count_lacks text n is = let s = SpellsCount-count_of text n is in subst (Lacks 44) (sym s.spelled) (lacks_low 44 s.width n (omega arith))

pub integer_lacks : (text : List ℕ) (z : ℤ) → integer_of text ≡ Some z → Lacks 44 text
unfolding integer_of
integer_lacks text z is =
    let count = option_map_some (signed (is_negative text)) (count_of (unsigned text)) z is in
    let digits = count_lacks (unsigned text) count.0 count.1 in
    elim (sign_case text) [
      | has_minus rest e ↦ subst (Lacks 44) (sym e) (λ same. omega (arith, same), subst (λ (t : List ℕ). Lacks 44 (unsigned t)) e digits)
      | has_plus rest e ↦ subst (Lacks 44) (sym e) (λ same. omega (arith, same), subst (λ (t : List ℕ). Lacks 44 (unsigned t)) e digits)
      | no_sign size _ ↦ subst (λ (k : ℕ). Lacks 44 (drop k text)) size digits
    ]

number_lacks : (low high : ℕ) (text : List ℕ) → IsIn (Reads (number_of low high)) text → Lacks 44 text
number_lacks low high text is = let z = and_then_some (if_between low high) (integer_of text) is.0 is.1 in integer_lacks text z.0 z.1

count_form_lacks : (form : CountForm) (text : List ℕ) → IsIn (Reads (count_by form)) text → Lacks 44 text
count_form_lacks Month text is = number_lacks 1 12 text is
count_form_lacks Hour text is = number_lacks 0 23 text is
count_form_lacks Minute text is = number_lacks 0 59 text is
count_form_lacks Second text is = let n = option_map_some (λ n. min n 59) (number_of 0 60 text) is.0 is.1 in number_lacks 0 60 text (n.0, n.1)

pub counts_lack_commas : (form : CountForm) (text : List ℕ) → IsIn (Reads (count_by form)) text → LacksComma text
counts_lack_commas form text is = as_lacks_comma text (count_form_lacks form text is)

pub places_lack_commas : (form : PlaceForm) (text : List ℕ) → IsIn (Reads (place_by form)) text → LacksComma text
places_lack_commas form text is = let z = and_then_some (if_place (most_of form)) (integer_of text) is.0 is.1 in as_lacks_comma text (integer_lacks text z.0 z.1)
