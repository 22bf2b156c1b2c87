-- Windows of which no rows are held, as far as they follow one another.
use Rattle.std.proofs.Common.{◌≡◌, ℕ, zero, suc, ◌+◌, ◌≤◌, List, [], ◌∷◌, ◌++◌, map, refl, sym, ap, ◌∙◌, arith, ℤ, append_assoc, false}
use Rattle.std.specs.Prelude.{All, drop, flat_map, sum, take, is_some, if◌then◌else◌, Option, Some, None}
use Rattle.std.proofs.lemmas.List.{take-append-drop}
use Rattle.std.proofs.lemmas.List.Elements.{All-cons, All-head, All-tail}
use Rattle.std.specs.Borrow.{Bor}
use Rattle.std.specs.Option.{option_copied}
use Rattle.std.proofs.lemmas.Grind.{flat_map-append}
use Rattle.cal_model.specs.declared.object.Object.{Object}
use Rattle.cal_model.specs.declared.row.Row.{Row}
use Rattle.cal_model.specs.declared.zone.ZoneTable.{ZoneTable}
use Rattle.cal_model.specs.Busy.BusyTimes.{times_of_row}
use Rattle.cal_model.specs.Instances.Rows.{rows_in}
use Rattle.cal_model.specs.Ranges.Cost.{cost}
use Rattle.dav_reports.specs.ObjectTimes.{times_in, times_of_rows}
use Rattle.dav_reports.specs.PieceRows.{Held, IsMissing, window_cost, windows_cost}
use Rattle.rrule_sets.proofs.AskedLemmas.{sum-cons}

-- one more of the elements that were passed over
pub take_next : {X : Type 0} (n : ℕ) (xs : List X) (x : X) (behind : List X) → drop n xs ≡ x ∷ behind → take (n + 1) xs ≡ take n xs ++ x ∷ []
take_next zero [] x behind e = absurd cc
take_next zero (y ∷ ys) x behind e = let same : y ≡ x = cc in ap (λ z. z ∷ []) same
take_next (suc n) [] x behind e = absurd cc
take_next (suc n) (y ∷ ys) x behind e = let next : suc n + 1 ≡ suc (n + 1) = omega arith in rw next (ap (λ rest. y ∷ rest) (take_next n ys x behind e))

pub drop_next : {X : Type 0} (n : ℕ) (xs : List X) (x : X) (behind : List X) → drop n xs ≡ x ∷ behind → drop (n + 1) xs ≡ behind
drop_next zero [] x behind e = absurd cc
drop_next zero (y ∷ ys) x behind e = cc
drop_next (suc n) [] x behind e = absurd cc
drop_next (suc n) (y ∷ ys) x behind e = let next : suc n + 1 ≡ suc (n + 1) = omega arith in rw next (drop_next n ys x behind e)

-- Their cost: all of it where nothing is held, and none of a window of which something is held.

pub held_cost : (held : Held) (origin : ℕ) (object : Object) (window : ℤ) (behind : List ℤ) (rows : List Row) → Some rows ≡ held origin window → windows_cost held origin object (window ∷ behind) ≡ windows_cost held origin object behind
held_cost held origin object window behind rows there =
    let first : window_cost held origin object window ≡ 0 = ap (λ (found : Option (List Row)). if is_some found then 0 else cost object window) (sym there) in
    let whole = sum-cons (window_cost held origin object window) (map (window_cost held origin object) behind) in
    omega (arith, first, whole)

pub missing_cost : (held : Held) (origin : ℕ) (object : Object) (run left : List ℤ) → All (IsMissing held origin) run → windows_cost held origin object (run ++ left) ≡ sum (map (cost object) run) + windows_cost held origin object left
missing_cost held origin object [] left missing = omega arith
missing_cost held origin object (window ∷ run) left missing =
    let none = All-head (IsMissing held origin) window run missing in
    let first : window_cost held origin object window ≡ cost object window = ap (λ (found : Option (List Row)). if is_some found then 0 else cost object window) none in
    let rest = missing_cost held origin object run left (All-tail (IsMissing held origin) window run missing) in
    let before = sum-cons (window_cost held origin object window) (map (window_cost held origin object) (run ++ left)) in
    let after = sum-cons (cost object window) (map (cost object) run) in
    omega (arith, first, rest, before, after)

-- the windows from one without rows on, and those that are left
pub run_split : (held : Held) (origin : ℕ) (window : ℤ) (windows behind run left : List ℤ) (count : ℕ) → windows ≡ window ∷ behind → None ≡ held origin window → All (IsMissing held origin) (take count behind) →
    run ≡ take (1 + count) windows → left ≡ drop (1 + count) windows → (run ++ left ≡ windows) × All (IsMissing held origin) run
run_split held origin window windows behind run left count first none missing front back =
    let next : 1 + count ≡ suc count = omega arith in
    (rw (front, back) (take-append-drop (1 + count) windows), rw (front, first, next) (All-cons (IsMissing held origin) window (take count behind) (sym none) missing))

-- the steps of such a run and of those that are left
pub run_counted : (held : Held) (origin : ℕ) (object : Object) (windows run left : List ℤ) (before after all : ℕ) → run ++ left ≡ windows → All (IsMissing held origin) run →
    after ≤ before + sum (map (cost object) run) → before + windows_cost held origin object windows ≤ all → after + windows_cost held origin object left ≤ all
run_counted held origin object windows run left before after all split missing took so_far =
    let parts = ap (windows_cost held origin object) (sym split) ∙ missing_cost held origin object run left missing in
    omega (arith, parts, took, so_far)

pub run_within : (held : Held) (origin : ℕ) (object : Object) (windows run left : List ℤ) (before after all : ℕ) → run ++ left ≡ windows → All (IsMissing held origin) run →
    after ≤ before + sum (map (cost object) run) → before + windows_cost held origin object windows ≤ all → after ≤ all
run_within held origin object windows run left before after all split missing took so_far =
    let counted = run_counted held origin object windows run left before after all split missing took so_far in omega (arith, counted)

-- What a run of windows gives.

pub put_run : {X Y : Type 0} (f : X → List Y) (out new all : List Y) (xs run left : List X) → run ++ left ≡ xs → new ≡ out ++ flat_map f run → out ++ flat_map f xs ≡ all → new ++ flat_map f left ≡ all
put_run f out new all xs run left split e so_far =
    ap (λ ys. ys ++ flat_map f left) e ∙ (append_assoc out (flat_map f run) (flat_map f left)
    ∙ (ap (λ ys. out ++ ys) (sym (flat_map-append f run left) ∙ ap (flat_map f) split) ∙ so_far))

pub times_by_window : (zone : ZoneTable) (object : Object) (windows : List ℤ) → times_of_rows zone object (flat_map (rows_in object) windows) ≡ times_in zone object windows
times_by_window zone object [] = refl
times_by_window zone object (window ∷ windows) =
    flat_map-append (times_of_row zone object) (rows_in object window) (flat_map (rows_in object) windows)
    ∙ ap (λ times. times_of_rows zone object (rows_in object window) ++ times) (times_by_window zone object windows)

-- what a look for a piece says where it finds none
pub none_held : (found : Option (Bor (List Row))) (held : Option (List Row)) → option_copied found ≡ held → is_some found ≡ false → held ≡ None
none_held None held e none = sym e
none_held (Some rows) held e none = absurd cc
