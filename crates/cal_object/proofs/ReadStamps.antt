-- A line that has no list and is of no periods has one stamp or none.
use Rattle.std.proofs.Common.{◌≡◌, ℕ, Bool, true, false, ◌||◌, ◌&&◌, cond, List, [], ◌∷◌, refl, ap, ◌∙◌, Option, Some, None}
use Rattle.std.specs.Prelude.{codes, unwrap_or, bytes_eq, map}
use Rattle.std.specs.List.{list_any}
use Rattle.cal_base.specs.declared.line.Line.{Line}
use Rattle.cal_base.specs.Lines.ComponentTrees.{first}
use Rattle.cal_base.specs.Lines.ContentLines.{every, pieces}
use Rattle.cal_base.specs.Texts.Octets.{comma}
use Rattle.cal_moment.specs.declared.stamp.Stamp.{Stamp}
use Rattle.cal_model.specs.Values.StampTexts.{list_names, stamp_of, stamps_in_grammar, is_one_of}
use Rattle.cal_model.specs.Objects.LineValues.{stamps_in}

-- a name that is no list's is none of those of periods
single_periods : (a b c : Bool) (d : Bool) → a || (b || (c || false)) ≡ false → (b && d) || c ≡ false
single_periods false false false d none = refl
single_periods false false true d none = none
single_periods false true c d none = absurd cc
single_periods true b c d none = absurd cc

first_of_one : (found : Option Stamp) → first (unwrap_or (every (found ∷ [])) []) ≡ found
first_of_one None = refl
first_of_one (Some stamp) = refl

in_grammar : (zones : List (List ℕ)) (line : Line) (b : Bool) → b ≡ false →
    first (unwrap_or (every (map (stamp_of zones line) (cond b (pieces comma line.value) (line.value ∷ [])))) []) ≡ stamp_of zones line line.value
in_grammar zones line true single = absurd cc
in_grammar zones line false single = first_of_one (stamp_of zones line line.value)

pub first_stamp : (zones : List (List ℕ)) (line : Line) → list_any (bytes_eq line.name) list_names ≡ false → first (stamps_in zones line) ≡ stamp_of zones line line.value
unfolding stamps_in_grammar
first_stamp zones line single =
    ap (λ b. first (cond b [] (unwrap_or (stamps_in_grammar zones line) []))) (single_periods (bytes_eq line.name (codes "EXDATE")) (bytes_eq line.name (codes "RDATE")) (bytes_eq line.name (codes "FREEBUSY")) _ single)
    ∙ in_grammar zones line (is_one_of list_names line) single
