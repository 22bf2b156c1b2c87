-- Where the value of a line or the text of a rule leaves its grammar (RFC 5545, 3.3). Each place is that of a whole text, as in `cal_moment`: the first
-- octet at which no text of the grammar goes on. Each of the three is a table, which is read from top to bottom.
use Rattle.std.specs.Prelude.{◌≡◌, ℕ, false, List, Option, Some, None}
use Rattle.std.specs.List.{list_all}
use Rattle.cal_base.specs.declared.line.Line.{Line}
use Rattle.cal_moment.specs.declared.stamp.Period.{Period}
use Rattle.cal_moment.specs.declared.stamp.Stamp.{Stamp}
use Rattle.cal_moment.specs.BadPlace.{IsBadAt}
use Rattle.cal_model.specs.Values.StampTexts.{stamps_in_grammar, is_known, periods_in_grammar, is_period_known}
use Rattle.cal_model.specs.Values.RuleTexts.{rule_in_grammar, is_within_bound}

-- the texts that a function reads, each with its value
abbrev pub Reads : {V : Type 0} → (List ℕ → Option V) → List ℕ → V → Type 0
Reads {V} read text value = read text ≡ Some value

-- Lines: only the value varies, the name and the parameters stay

abbrev pub stamps_by_value : List (List ℕ) → Line → List ℕ → Option (List Stamp)
stamps_by_value zones line text = stamps_in_grammar zones (record line { value = text })

-- outside the grammar the place is that of the value; where only a zone is missing it is 0
abbrev pub IsBadStampsAt : List (List ℕ) → Line → ℕ → Type 0
IsBadStampsAt zones line place = elim (stamps_in_grammar zones line) [
  | None ↦ IsBadAt (Reads (stamps_by_value zones line)) line.value place
  | Some stamps ↦ (list_all (is_known zones) stamps ≡ false) × (place ≡ 0)
]

abbrev pub periods_by_value : List (List ℕ) → Line → List ℕ → Option (List Period)
periods_by_value zones line text = periods_in_grammar zones (record line { value = text })

abbrev pub IsBadPeriodsAt : List (List ℕ) → Line → ℕ → Type 0
IsBadPeriodsAt zones line place = elim (periods_in_grammar zones line) [
  | None ↦ IsBadAt (Reads (periods_by_value zones line)) line.value place
  | Some periods ↦ (list_all (is_period_known zones) periods ≡ false) × (place ≡ 0)
]

-- Rules

-- outside the grammar the place is that of the text; where only the bound on BYSETPOS refuses it is 0
abbrev pub IsBadRuleAt : List ℕ → ℕ → Type 0
IsBadRuleAt text place = elim (rule_in_grammar text) [
  | None ↦ IsBadAt (Reads rule_in_grammar) text place
  | Some rule ↦ (is_within_bound rule ≡ false) × (place ≡ 0)
]
