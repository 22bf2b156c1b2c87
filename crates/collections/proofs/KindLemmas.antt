-- Lists of kinds.
use Rattle.std.proofs.Common.{◌≡◌, ℕ, ◌+◌, Bool, true, false, cond, List, [], ◌∷◌, map, length, refl, sym}
use Rattle.std.specs.Prelude.{◌==◌, if◌then◌else◌, codes}
use Rattle.std.specs.List.{slice_split}
use Rattle.std.proofs.lemmas.Bool.{false≢true}
use Rattle.cal_model.specs.Access.Privileges.{united}
use Rattle.cal_model.specs.Properties.Settings.{kinds_in}

pub kinds_in_split : (value : List ℕ) → (length value == 0) ≡ false → kinds_in value ≡ slice_split (λ octet. octet == 44) value
kinds_in_split [] some = absurd (false≢true (sym some))
kinds_in_split (octet ∷ value) some = refl

abbrev kind_or : Bool → ℕ → ℕ
kind_or listed kind = if listed then kind else 0

abbrev picked : Bool → List ℕ × ℕ → List (List ℕ × ℕ) → List (List ℕ × ℕ)
picked listed kind rest = cond listed (kind ∷ rest) rest

-- the sum of the kinds that are listed is their union
pub sum_of_kinds : (a b c d : Bool) → kind_or a 1 + kind_or b 2 + kind_or c 4 + kind_or d 8
    ≡ united (map (λ (kind : List ℕ × ℕ). kind.1) (picked a (codes "VEVENT", 1) (picked b (codes "VTODO", 2) (picked c (codes "VJOURNAL", 4) (picked d (codes "VFREEBUSY", 8) [])))))
sum_of_kinds false false false false = refl
sum_of_kinds false false false true = refl
sum_of_kinds false false true false = refl
sum_of_kinds false false true true = refl
sum_of_kinds false true false false = refl
sum_of_kinds false true false true = refl
sum_of_kinds false true true false = refl
sum_of_kinds false true true true = refl
sum_of_kinds true false false false = refl
sum_of_kinds true false false true = refl
sum_of_kinds true false true false = refl
sum_of_kinds true false true true = refl
sum_of_kinds true true false false = refl
sum_of_kinds true true false true = refl
sum_of_kinds true true true false = refl
sum_of_kinds true true true true = refl
