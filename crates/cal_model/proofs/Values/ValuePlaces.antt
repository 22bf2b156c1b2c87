-- Places of faults: those of a computed value are those of the texts that spell it, and a rule is bad where its longest front ends that passes the trial.
use Rattle.std.proofs.Common.{◌≡◌, ℕ, ◌+◌, ◌<◌, ◌≤◌, true, false, List, length, take, Option, Some, None, sym, subst, ◌∙◌}
use Rattle.std.proofs.lemmas.Bool.{false≢true}
use Rattle.std.proofs.lemmas.Option.{none-some}
use Rattle.cal_moment.specs.BadPlace.{IsBadAt}
use Rattle.cal_moment.specs.LengthTexts.{SpellsLength}
use Rattle.cal_moment.specs.Texts.{SpellsDate, SpellsDateTime, SpellsOffset}
use Rattle.cal_model.specs.declared.rule.Rule.{Rule}
use Rattle.cal_model.specs.Values.ValueTexts.{date_of, date_time_of, length_of, offset_of}
use Rattle.cal_model.specs.Values.RuleTexts.{rule_in_grammar, is_within_bound}
use Rattle.cal_model.specs.Values.BadValues.{Reads, IsBadRuleAt}
use Rattle.cal_model.specs.Values.RuleTrial.{can_go_on}
use Rattle.cal_model.proofs.Values.BadValueLaws.{bad_by_same, bad_by_next}
use Rattle.cal_model.proofs.Values.LengthLaws.{length_of-SpellsLength, SpellsLength-length_of}
use Rattle.cal_model.proofs.Values.RuleFronts.{trial_is_exact}
use Rattle.cal_model.proofs.Values.ValueLaws.{date_of-SpellsDate, SpellsDate-date_of, date_time_of-SpellsDateTime, SpellsDateTime-date_time_of, offset_of-SpellsOffset, SpellsOffset-offset_of}

-- Values

pub bad_date : (text : List ℕ) (place : ℕ) → IsBadAt SpellsDate text place → IsBadAt (Reads date_of) text place
bad_date = bad_by_same SpellsDate (Reads date_of) (λ text is. (is.0, date_of-SpellsDate text is.0 is.1)) (λ text is. (is.0, SpellsDate-date_of text is.0 is.1))

pub bad_date_time : (text : List ℕ) (place : ℕ) → IsBadAt SpellsDateTime text place → IsBadAt (Reads date_time_of) text place
bad_date_time = bad_by_same SpellsDateTime (Reads date_time_of) (λ text is. (is.0, date_time_of-SpellsDateTime text is.0 is.1)) (λ text is. (is.0, SpellsDateTime-date_time_of text is.0 is.1))

pub bad_length : (text : List ℕ) (place : ℕ) → IsBadAt SpellsLength text place → IsBadAt (Reads length_of) text place
bad_length = bad_by_same SpellsLength (Reads length_of) (λ text is. (is.0, length_of-SpellsLength text is.0 is.1)) (λ text is. (is.0, SpellsLength-length_of text is.0 is.1))

pub bad_offset : (text : List ℕ) (place : ℕ) → IsBadAt SpellsOffset text place → IsBadAt (Reads offset_of) text place
bad_offset = bad_by_same SpellsOffset (Reads offset_of) (λ text is. (is.0, offset_of-SpellsOffset text is.0 is.1)) (λ text is. (is.0, SpellsOffset-offset_of text is.0 is.1))

-- Rules

-- the place by the rule that a text is in the grammar
abbrev place_by : List ℕ → ℕ → Option Rule → Type 0
place_by text place o = elim o [
  | None ↦ IsBadAt (Reads rule_in_grammar) text place
  | Some rule ↦ (is_within_bound rule ≡ false) × (place ≡ 0)
]

-- The place of a text that is no rule is where the trial ends.
pub bad_rule : (text : List ℕ) (place : ℕ) → rule_in_grammar text ≡ None → place ≤ length text → can_go_on (take place text) ≡ true → (place < length text → can_go_on (take (place + 1) text) ≡ false) → IsBadRuleAt text place
bad_rule text place none within passes next =
    let bad : IsBadAt (Reads rule_in_grammar) text place = bad_by_next (Reads rule_in_grammar) text place
    (λ is. none-some is.0 (sym none ∙ is.1)) within ((trial_is_exact (take place text)).0 passes)
    (λ more begins. false≢true (sym (next more) ∙ (trial_is_exact (take (place + 1) text)).1 begins)) in
    subst (place_by text place) (sym none) bad
