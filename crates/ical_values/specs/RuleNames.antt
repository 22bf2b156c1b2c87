-- How far a text goes along the names that a next part may have (RFC 5545, 3.3.10).
use Rattle.std.specs.Prelude.{ℕ, ◌+◌, max, nat_le, Bool, not, ◌&&◌, ◌==◌, if◌then◌else◌, List, [], ◌∷◌, length, is_some}
use Rattle.cal_base.specs.Lines.ContentLines.{is_name_octet}
use Rattle.cal_base.specs.Lists.NameMap.{Named, value_at}
use Rattle.cal_base.specs.Texts.Text.{raised, raised_all}
use Rattle.cal_model.specs.declared.rule.Rule.{Rule}
use Rattle.ical_values.specs.declared.rule_parts.RulePart.{RulePart}
use Rattle.ical_values.specs.RuleBeside.{takes}
use Rattle.ical_values.specs.RuleParts.{name_of, parts}
use Rattle.ical_values.specs.RuleWords.{common}

-- whether a part has not come, and may
abbrev pub is_free : Rule → Named Bool → RulePart → Bool
is_free rule names part = takes rule part && not (is_some (value_at names (name_of part)))

-- what a text in upper case has in common with the name of a part that is free
abbrev pub free_common : Rule → Named Bool → List ℕ → RulePart → ℕ
free_common rule names text part = if is_free rule names part then common text (name_of part) else 0

-- the most that it has in common with such a name
abbrev pub most_free : Rule → Named Bool → List ℕ → List RulePart → ℕ
most_free rule names text [] = 0
most_free rule names text (part ∷ some) = max (free_common rule names text part) (most_free rule names text some)

-- how many octets in front are those of a name
abbrev pub name_length : List ℕ → ℕ
name_length [] = 0
name_length (octet ∷ text) = if is_name_octet octet then 1 + name_length text else 0

-- how far a text goes along `-` and octets of a name
abbrev pub hyphen_length : List ℕ → ℕ
hyphen_length [] = 0
hyphen_length (octet ∷ text) = if raised octet == 45 then 1 + name_length text else 0

-- how far a text goes along the name of a part of others' own, `X-` before it
abbrev pub own_length : List ℕ → ℕ
own_length [] = 0
own_length (octet ∷ text) = if raised octet == 88 then 1 + hyphen_length text else 0

-- where a text leaves the names that a next part may have
abbrev pub name_place : Rule → Named Bool → List ℕ → ℕ
name_place rule names text = max (most_free rule names (raised_all text) parts) (own_length text)

-- whether a name is one of a part of others' own
abbrev pub is_own : List ℕ → Bool
is_own name = nat_le 2 (length name) && (own_length name == length name)
