-- How a rule is read part by part: which part fits behind those that are read, and what is known then (RFC 5545, 3.3.10).
use Rattle.std.specs.Prelude.{◌≡◌, ℕ, ◌+◌, ◌<◌, Bool, true, false, List, [], length, codes, Some, is_some, ◌⊎◌}
use Rattle.cal_base.specs.Lists.NameMap.{Named, value_at, with_value}
use Rattle.cal_moment.specs.BadPlace.{IsBadAt}
use Rattle.cal_model.specs.declared.rule.Rule.{Rule}
use Rattle.cal_model.specs.Values.BadValues.{Reads}
use Rattle.cal_model.specs.Values.RuleTexts.{Part, part_of, is_allowed, rule_in_grammar}
use Rattle.ical_values.specs.RuleParts.{put_part}

-- A part that fits: it has a name that has not come, and with it the rule is still one that may stand, its frequency YEARLY as long as it is not known.
pub record Fits (rule : Rule) (names : Named Bool) (text : List ℕ) (part : Part) : Type 0 where
  pub reads : part_of text ≡ Some part
  pub fresh : is_some (value_at names part.0) ≡ false
  pub made : Rule
  pub puts : put_part part rule ≡ Some made
  pub allowed : is_allowed made ≡ true

-- a rule and the names of its parts, and both with such a part
pub record HasTaken (rule : Rule) (names : Named Bool) (text : List ℕ) (later : Rule) (more : Named Bool) : Type 0 where
  pub part : Part
  pub fits : Fits rule names text part
  pub made : later ≡ fits.made
  pub named : more ≡ with_value names part.0 true

-- the same of a text between semicolons, which, where it is the last one and empty, is passed over
abbrev pub HasTakenPiece : Rule → Named Bool → List ℕ → Bool → Rule → Named Bool → Type 0
HasTakenPiece rule names text last later more =
    HasTaken rule names text later more ⊎ ((last ≡ true) × (text ≡ []) × (later ≡ rule) × (more ≡ names))

-- a place at which a text between semicolons is bad, counted from an octet on
pub record IsBadPiece (rule : Rule) (names : Named Bool) (text : List ℕ) (last : Bool) (at place : ℕ) : Type 0 where
  pub own : ℕ
  pub place_is : place ≡ at + own
  pub bad : IsBadAt (Fits rule names) text own
  pub counts : last ≡ true → 0 < length text

-- All parts of a text are read: with FREQ among them they are a rule, and else the text ends too early.
pub record IsReadWhole (text : List ℕ) (rule : Rule) (names : Named Bool) : Type 0 where
  pub whole : is_some (value_at names (codes "FREQ")) ≡ true → rule_in_grammar text ≡ Some rule
  pub early : is_some (value_at names (codes "FREQ")) ≡ false → IsBadAt (Reads rule_in_grammar) text (length text)
