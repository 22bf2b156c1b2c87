-- The parts of a payload: which part stands in front of octets is told by the octets.
use Rattle.std.proofs.Common.{◌≡◌, ℕ, suc, ◌+◌, ◌<◌, ◌≤◌, ◌^◌, All, List, [], ◌∷◌, ◌++◌, length, get_or, take, drop, flat_map, Option, Some, None, refl, sym, ◌∙◌, ap, arith, length-append, append_assoc}
use Rattle.std.specs.Int.{w16, w32, w64, to_be_bytes, from_be_bytes}
use Rattle.std.specs.List.{AllByRecursion}
use Rattle.std.proofs.lemmas.Nat.{from_be_bytes-to_be_bytes_2, from_be_bytes-to_be_bytes_4, from_be_bytes-to_be_bytes_8}
use Rattle.std.proofs.lemmas.List.{take_at, drop_at}
use Rattle.cal_model.specs.declared.property.PropSet.{PropSet}
use Rattle.cal_keeper.specs.Steps.Decoding.{HasNo, IsAny}
use Rattle.cal_keeper.specs.Files.Payloads.{name_text, long_text, value_text, set_text}

-- Parts in front

-- the octets tell which part stands in front of them
abbrev pub IsTold : {X : Type 0} → (X → List ℕ) → (X → Type 0) → Type 0
IsTold text fits = (octets : List ℕ) (a b : _) (r s : List ℕ) → length octets < 2 ^ 32 → fits a → fits b → octets ≡ text a ++ r → octets ≡ text b ++ s → (a ≡ b) × (r ≡ s)

pub same_front : (a b r s : List ℕ) → length a ≡ length b → a ++ r ≡ b ++ s → (a ≡ b) × (r ≡ s)
same_front a b r s size same = (
  sym (take_at a r (length a) refl) ∙ ap (take (length a)) same ∙ take_at b s (length a) (sym size),
  sym (drop_at a r (length a) refl) ∙ ap (drop (length a)) same ∙ drop_at b s (length a) (sym size),
)

-- Numbers

pub same_2 : (a b : ℕ) → a < 2 ^ 16 → b < 2 ^ 16 → to_be_bytes w16 a ≡ to_be_bytes w16 b → a ≡ b
same_2 a b small_a small_b same = sym (from_be_bytes-to_be_bytes_2 a small_a) ∙ ap (from_be_bytes w16) same ∙ from_be_bytes-to_be_bytes_2 b small_b

pub same_4 : (a b : ℕ) → a < 2 ^ 32 → b < 2 ^ 32 → to_be_bytes w32 a ≡ to_be_bytes w32 b → a ≡ b
same_4 a b small_a small_b same = sym (from_be_bytes-to_be_bytes_4 a small_a) ∙ ap (from_be_bytes w32) same ∙ from_be_bytes-to_be_bytes_4 b small_b

pub same_8 : (a b : ℕ) → a < 2 ^ 64 → b < 2 ^ 64 → to_be_bytes w64 a ≡ to_be_bytes w64 b → a ≡ b
same_8 a b small_a small_b same = sym (from_be_bytes-to_be_bytes_8 a small_a) ∙ ap (from_be_bytes w64) same ∙ from_be_bytes-to_be_bytes_8 b small_b

-- Names and octets behind their number

pub name_told : (octets a b r s : List ℕ) → octets ≡ name_text a ++ r → octets ≡ name_text b ++ s → (a ≡ b) × (r ≡ s)
name_told octets a b r s is_a is_b =
    let same : name_text a ++ r ≡ name_text b ++ s = sym is_a ∙ is_b in
    same_front a b r s (ap (λ (xs : List ℕ). get_or xs 0 0) same) (ap (drop 1) same)

long_small : (octets a r : List ℕ) → length octets < 2 ^ 32 → octets ≡ long_text a ++ r → length a < 2 ^ 32
long_small octets a r small is = omega (arith, small, ap length is, length-append a r)

pub long_told : (octets a b r s : List ℕ) → length octets < 2 ^ 32 → octets ≡ long_text a ++ r → octets ≡ long_text b ++ s → (a ≡ b) × (r ≡ s)
long_told octets a b r s small is_a is_b =
    let same : long_text a ++ r ≡ long_text b ++ s = sym is_a ∙ is_b in
    let size = same_4 (length a) (length b) (long_small octets a r small is_a) (long_small octets b s small is_b) (ap (take 4) same) in
    same_front a b r s size (ap (drop 4) same)

pub behind_long : (octets a r : List ℕ) → length octets < 2 ^ 32 → octets ≡ long_text a ++ r → length r < 2 ^ 32
behind_long octets a r small is = omega (arith, small, ap length is, length-append a r)

-- Settings

value_told : (a b : Option (List ℕ)) (octets r s : List ℕ) → length octets < 2 ^ 32 → octets ≡ value_text a ++ r → octets ≡ value_text b ++ s → (a ≡ b) × (r ≡ s)
value_told None None octets r s small is_a is_b = (refl, ap (drop 1) (sym is_a ∙ is_b))
value_told None (Some b) octets r s small is_a is_b =
    let kinds : 0 ≡ 1 = ap (λ (xs : List ℕ). get_or xs 0 0) (sym is_a ∙ is_b) in
    absurd (omega (arith, kinds))
value_told (Some a) None octets r s small is_a is_b =
    let kinds : 1 ≡ 0 = ap (λ (xs : List ℕ). get_or xs 0 0) (sym is_a ∙ is_b) in
    absurd (omega (arith, kinds))
value_told (Some a) (Some b) octets r s small is_a is_b =
    let size : length (long_text a ++ r) < 2 ^ 32 = omega (arith, small, ap length is_a) in
    let both = long_told (long_text a ++ r) a b r s size refl (ap (drop 1) (sym is_a ∙ is_b)) in
    (ap (λ (xs : List ℕ). Some xs) both.0, both.1)

-- a setting by its parts
set_parts : (set : PropSet) (octets r : List ℕ) → octets ≡ set_text set ++ r → octets ≡ long_text set.name.space ++ (long_text set.name.name ++ (value_text set.value ++ r))
set_parts set octets r is =
    is ∙ append_assoc (long_text set.name.space ++ long_text set.name.name) (value_text set.value) r ∙ append_assoc (long_text set.name.space) (long_text set.name.name) (value_text set.value ++ r)

pub set_told : (octets : List ℕ) (a b : PropSet) (r s : List ℕ) → length octets < 2 ^ 32 → IsAny a → IsAny b → octets ≡ set_text a ++ r → octets ≡ set_text b ++ s → (a ≡ b) × (r ≡ s)
set_told octets a b r s small any_a any_b is_a is_b =
    let in_a = set_parts a octets r is_a in
    let in_b = set_parts b octets s is_b in
    let space = long_told octets a.name.space b.name.space _ _ small in_a in_b in
    let behind = behind_long octets a.name.space _ small in_a in
    let name = long_told (long_text a.name.name ++ (value_text a.value ++ r)) a.name.name b.name.name _ _ behind refl space.1 in
    let behind_name = behind_long (long_text a.name.name ++ (value_text a.value ++ r)) a.name.name _ behind refl in
    let value = value_told a.value b.value (value_text a.value ++ r) r s behind_name refl name.1 in
    let make : List ℕ → List ℕ → Option (List ℕ) → PropSet = λ x y z. record { name = record { space = x; name = y }; value = z } in (
      ap (λ (x : List ℕ). make x a.name.name a.value) space.0 ∙ ap (λ (y : List ℕ). make b.name.space y a.value) name.0 ∙ ap (λ (z : Option (List ℕ)). make b.name.space b.name.name z) value.0,
      value.1,
    )

-- where its name or its value is missing, there is none
pub set_without_name : (octets space rest : List ℕ) → length octets < 2 ^ 32 → octets ≡ long_text space ++ rest → HasNo long_text IsAny rest → HasNo set_text IsAny octets
set_without_name octets space rest small is none = λ set more any has.
    let told = long_told octets space set.name.space rest _ small is (set_parts set octets more has) in
    none set.name.name (value_text set.value ++ more) tt told.1

pub set_without_value : (octets space rest name after : List ℕ) → length octets < 2 ^ 32 → octets ≡ long_text space ++ rest → rest ≡ long_text name ++ after → HasNo value_text IsAny after → HasNo set_text IsAny octets
set_without_value octets space rest name after small is name_is none = λ set more any has.
    let told = long_told octets space set.name.space rest _ small is (set_parts set octets more has) in
    let told_name = long_told rest name set.name.name after _ (behind_long octets space rest small is) name_is told.1 in
    none set.value more tt told_name.1

-- Lists

-- values in front of a list's text are the first of the list
front_told : {X : Type 0} (text : X → List ℕ) (fits : X → Type 0) (told : IsTold text fits) (done xs : List X) (octets rest : List ℕ) → length octets < 2 ^ 32 → AllByRecursion fits done → AllByRecursion fits xs
    → octets ≡ flat_map text done ++ rest → octets ≡ flat_map text xs → length done ≤ length xs
    → (more : List X) × (length xs ≡ length done + length more) × (rest ≡ flat_map text more) × AllByRecursion fits more
front_told text fits told [] xs octets rest small fits_done fits_all is_done is_all few = (xs, omega arith, sym is_done ∙ is_all, fits_all)
front_told text fits told (d ∷ done) [] octets rest small fits_done fits_all is_done is_all few = absurd (omega arith)
front_told text fits told (d ∷ done) (x ∷ xs) octets rest small fits_done fits_all is_done is_all few =
    let cut : octets ≡ text d ++ (flat_map text done ++ rest) = is_done ∙ append_assoc (text d) (flat_map text done) rest in
    let first = told octets d x (flat_map text done ++ rest) (flat_map text xs) small fits_done.0 fits_all.0 cut is_all in
    let smaller : length (flat_map text done ++ rest) < 2 ^ 32 = omega (arith, small, ap length cut, length-append (text d) (flat_map text done ++ rest)) in
    let others = front_told text fits told done xs (flat_map text done ++ rest) rest smaller fits_done.1 fits_all.1 refl first.1 (omega arith) in
    (others.0, omega (arith, others.1), others.2, others.3)

-- so there is a next one
pub next_is : {X : Type 0} (text : X → List ℕ) (fits : X → Type 0) (told : IsTold text fits) (done xs : List X) (octets rest : List ℕ) → length octets < 2 ^ 32 → AllByRecursion fits done → AllByRecursion fits xs
    → octets ≡ flat_map text done ++ rest → octets ≡ flat_map text xs → length done < length xs → HasNo text fits rest → ⊥
next_is text fits told done xs octets rest small fits_done fits_all is_done is_all few none =
    let others = front_told text fits told done xs octets rest small fits_done fits_all is_done is_all (omega arith) in
    by others.0 (omega (arith, others.1, few)) others.2 others.3
  where
    by : (more : List _) → 0 < length more → rest ≡ flat_map text more → AllByRecursion fits more → ⊥
    by [] some is fit = absurd (omega arith)
    by (x ∷ more) some is fit = none x (flat_map text more) fit.0 is

-- and behind the last there is nothing
pub nothing_left : {X : Type 0} (text : X → List ℕ) (fits : X → Type 0) (told : IsTold text fits) (done xs : List X) (octets rest : List ℕ) → length octets < 2 ^ 32 → AllByRecursion fits done → AllByRecursion fits xs
    → octets ≡ flat_map text done ++ rest → octets ≡ flat_map text xs → length done ≡ length xs → length rest ≡ 0
nothing_left text fits told done xs octets rest small fits_done fits_all is_done is_all all_done =
    let others = front_told text fits told done xs octets rest small fits_done fits_all is_done is_all (omega arith) in
    by others.0 (omega (arith, others.1, all_done)) others.2
  where
    by : (more : List _) → length more ≡ 0 → rest ≡ flat_map text more → length rest ≡ 0
    by [] none is = ap length is
    by (x ∷ more) none is = absurd (omega arith)

-- as many values with the same text are the same
pub whole_told : {X : Type 0} (text : X → List ℕ) (fits : X → Type 0) (told : IsTold text fits) (xs ys : List X) (octets : List ℕ) → length octets < 2 ^ 32 → AllByRecursion fits xs → AllByRecursion fits ys → octets ≡ flat_map text xs → octets ≡ flat_map text ys
    → length xs ≡ length ys → xs ≡ ys
whole_told text fits told [] [] octets small fits_xs fits_ys is_xs is_ys size = refl
whole_told text fits told [] (y ∷ ys) octets small fits_xs fits_ys is_xs is_ys size = absurd (omega arith)
whole_told text fits told (x ∷ xs) [] octets small fits_xs fits_ys is_xs is_ys size = absurd (omega arith)
whole_told text fits told (x ∷ xs) (y ∷ ys) octets small fits_xs fits_ys is_xs is_ys size =
    let first = told octets x y (flat_map text xs) (flat_map text ys) small fits_xs.0 fits_ys.0 is_xs is_ys in
    let smaller : length (flat_map text xs) < 2 ^ 32 = omega (arith, small, ap length is_xs, length-append (text x) (flat_map text xs)) in
    let others = whole_told text fits told xs ys (flat_map text xs) smaller fits_xs.1 fits_ys.1 refl first.1 (omega arith) in
    ap (λ (z : _). z ∷ xs) first.0 ∙ ap (λ (zs : List _). y ∷ zs) others

-- facts of each item, by recursion
pub by_recursion : {X : Type 0} (P : X → Type 0) (xs : List X) → All P xs → AllByRecursion P xs
by_recursion P [] all = tt
by_recursion P (x ∷ xs) all = (all 0 x (omega arith), by_recursion P xs (λ k d within. all (suc k) d (omega (arith, within))))

pub all_any : {X : Type 0} (xs : List X) → AllByRecursion (λ (x : X). IsAny x) xs
all_any [] = tt
all_any (x ∷ xs) = (tt, all_any xs)
