-- Whether some rule begins with a front, as a trial (RFC 5545, 3.3.10). If one does, then so does one whose rest is a short end of the part that the front
-- breaks off, and perhaps FREQ behind it; so a few rests are tried. A reader keeps a state instead and goes on octet by octet; that the trial is exact is proved (`RuleFronts`).
use Rattle.std.specs.Prelude.{◌≡◌, ℕ, Bool, true, List, [], ◌∷◌, ◌++◌, map, length, drop, flat_map, replicate, codes, None, is_some, unwrap_or, ◌↔◌}
use Rattle.std.specs.List.{list_any, last_or}
use Rattle.cal_base.specs.Lines.ContentLines.{pieces}
use Rattle.cal_base.specs.Texts.Octets.{semicolon}
use Rattle.cal_moment.specs.BadPlace.{BeginsOne}
use Rattle.cal_model.specs.Values.BadValues.{Reads}
use Rattle.cal_model.specs.Values.RuleTexts.{rule_in_grammar}

-- FREQ with each of its words
abbrev pub frequency_parts : List (List ℕ)
frequency_parts =
    codes "FREQ=SECONDLY" ∷ codes "FREQ=MINUTELY" ∷ codes "FREQ=HOURLY" ∷ codes "FREQ=DAILY" ∷ codes "FREQ=WEEKLY" ∷ codes "FREQ=MONTHLY" ∷ codes "FREQ=YEARLY" ∷ []

-- whole parts, one of each other name; of UNTIL two, since a day that begins with 3 goes on with 0 and one that begins with 0 does not
abbrev pub other_parts : List (List ℕ)
other_parts =
    codes "UNTIL=00040101T000000"
    ∷ codes "UNTIL=00040100T000000"
    ∷ codes "INTERVAL=1"
    ∷ codes "COUNT=1"
    ∷ codes "WKST=MO"
    ∷ codes "BYMONTH=1"
    ∷ codes "BYWEEKNO=1"
    ∷ codes "BYYEARDAY=1"
    ∷ codes "BYMONTHDAY=1"
    ∷ codes "BYDAY=MO"
    ∷ codes "BYHOUR=1"
    ∷ codes "BYMINUTE=1"
    ∷ codes "BYSECOND=1"
    ∷ codes "BYSETPOS=1"
    ∷ []

-- a part of another's own, whose name is longer than each in a front
abbrev pub own_part : List ℕ → List ℕ
own_part front = codes "X-" ++ replicate (length front) 65 ++ codes "="

-- the part that a front breaks off
abbrev pub last_part : List ℕ → List ℕ
last_part front = unwrap_or (last_or None (pieces semicolon front)) []

-- ends of a value: nothing, a digit, a weekday with or without its ordinal, and the second letter of one
abbrev pub value_ends : List (List ℕ)
value_ends = [] ∷ codes "0" ∷ codes "1" ∷ codes "MO" ∷ codes "1MO" ∷ codes "O" ∷ codes "U" ∷ codes "E" ∷ codes "R" ∷ codes "A" ∷ []

-- ends of that part: those of a value, and what a whole part has behind so many octets
abbrev pub part_ends : List ℕ → List (List ℕ)
part_ends front = value_ends ++ map (drop (length (last_part front))) (frequency_parts ++ other_parts ++ own_part front ∷ [])

-- nothing more, or FREQ
abbrev pub endings : List (List ℕ)
endings = [] ∷ map (λ part. semicolon ∷ part) frequency_parts

abbrev pub rests : List ℕ → List (List ℕ)
rests front = flat_map (λ end. map (λ ending. end ++ ending) endings) (part_ends front)

-- whether one of these rests makes a front a rule
abbrev pub can_go_on : List ℕ → Bool
can_go_on front = list_any (λ rest. is_some (rule_in_grammar (front ++ rest))) (rests front)

-- the trial is exact: it passes for the fronts of rules, and for no others
abbrev pub FrontsOfRulesAreTried : Type 0
FrontsOfRulesAreTried = (front : List ℕ) → (can_go_on front ≡ true) ↔ BeginsOne (Reads rule_in_grammar) front
