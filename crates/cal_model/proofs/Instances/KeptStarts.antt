-- Some of the starts are enough to know which overrides govern, if they have those of each local day that such an override names; and the rows of starts are those of the master with the governed ones moved.
use Rattle.std.proofs.Common.{◌≡◌, List, [], ◌∷◌, ◌++◌, map, get_or, refl, ap, ap₂, sym, ◌∙◌, Bool, true, false, ℤ, ℕ, inl, inr}
use Rattle.std.specs.Prelude.{All, filter, flat_map, option_to_list, int_lt, if◌then◌else◌, Option, Some, None}
use Rattle.std.specs.List.{list_any}
use Rattle.std.proofs.lemmas.Bool.{cases_Bool}
use Rattle.std.proofs.lemmas.List.{append-nil}
use Rattle.std.proofs.lemmas.List.Elements.{All-head, All-tail, All-weaker, filter_passes, All-filter}
use Rattle.std.proofs.lemmas.Grind.{flat_map-append}
use Rattle.cal_moment.specs.declared.stamp.Stamp.{Stamp}
use Rattle.cal_model.specs.declared.object.Object.{Object}
use Rattle.cal_model.specs.declared.row.Row.{Row}
use Rattle.cal_model.specs.Instances.Alignment.{Aligned}
use Rattle.cal_model.specs.Instances.Starts.{own_start}
use Rattle.cal_model.specs.Instances.Rows.{Numbered, overrides, named_by, is_named, id_of_override, Governor, governors_by, moves_later, governors, greatest_id, moved_row, master_rows, governed_row, row_at}
use Rattle.cal_model.proofs.Instances.RowsInOrder.{GiveSameId, HasOneRow, map_same, flat_map_same}

-- Which overrides govern.

-- two lists of starts give the same id to each override that moves later instances
abbrev pub GoverningsAgree : Object → Stamp → List ℤ → List ℤ → Type 0
GoverningsAgree object ids some all = All (λ n. moves_later n ≡ true → GiveSameId object ids some all n) (overrides object)

abbrev governor_at : Numbered → Stamp → ℤ → Governor
governor_at n s id = record { id = id; start = s; override = n }

one_governor : (object : Object) (ids : Stamp) (some all : List ℤ) (n : Numbered) → GiveSameId object ids some all n → (own : Option Stamp) →
    flat_map (λ s. map (λ x. governor_at n s (id_of_override object ids some x)) (named_by object.zones ids n)) (option_to_list own)
    ≡ flat_map (λ s. map (λ x. governor_at n s (id_of_override object ids all x)) (named_by object.zones ids n)) (option_to_list own)
one_governor object ids some all n same None = refl
one_governor object ids some all n same (Some s) =
    ap (λ ys. ys ++ []) (map_same (λ x. governor_at n s (id_of_override object ids some x)) (λ x. governor_at n s (id_of_override object ids all x)) (named_by object.zones ids n)
    (All-weaker (λ x. id_of_override object ids some x ≡ id_of_override object ids all x) (λ x. governor_at n s (id_of_override object ids some x) ≡ governor_at n s (id_of_override object ids all x)) (λ x e. ap (governor_at n s) e) (named_by object.zones ids n) same))

pub governors-same : (object : Object) (ids : Stamp) (some all : List ℤ) → GoverningsAgree object ids some all → governors object ids some ≡ governors object ids all
governors-same object ids some all agree =
    let agreeing = All-filter moves_later (λ n. moves_later n ≡ true → GiveSameId object ids some all n) (overrides object) agree in
    let later = filter_passes moves_later (overrides object) in
    flat_map_same (governors_by object ids some) (governors_by object ids all) (filter moves_later (overrides object))
    (λ k d lt. let n = get_or (filter moves_later (overrides object)) k d in one_governor object ids some all n (agreeing k d lt (later k d lt)) (own_start n.component))

pub row_at-same : (moments : List ℕ) (object : Object) (ids : Stamp) (some all : List ℤ) (r : ℤ) → GoverningsAgree object ids some all → row_at moments object ids some r ≡ row_at moments object ids all r
row_at-same moments object ids some all r agree =
    ap (λ gs. if is_named object ids r then master_rows moments object ids r else governed_row moments object ids r (filter (λ (g : Governor). int_lt g.id r) gs)) (governors-same object ids some all agree)

-- The rows of starts from those of the master.

-- what stands for a row of the master, by the overrides whose ids lie before its start
abbrev pub stand_in_by : Object → Stamp → Row → List Governor → List Row
stand_in_by object ids row [] = row ∷ []
stand_in_by object ids row (g ∷ gs) = moved_row object ids row.id (greatest_id g gs)

abbrev pub stand_in : Object → Stamp → List ℤ → Row → List Row
stand_in object ids all row =
    if is_named object ids row.id then row ∷ []
    else stand_in_by object ids row (filter (λ (g : Governor). int_lt g.id row.id) (governors object ids all))

at_one : (moments : List ℕ) (object : Object) (ids : Stamp) (all : List ℤ) (r : ℤ) → HasOneRow moments object ids r → flat_map (stand_in object ids all) (master_rows moments object ids r) ≡ row_at moments object ids all r
at_one moments object ids all r has =
    let row = has.row in
    ap (flat_map (stand_in object ids all)) has.is
    ∙ (append-nil (stand_in object ids all row)
    ∙ (ap (λ i. if is_named object ids i then row ∷ [] else by_start i (filter (λ (g : Governor). int_lt g.id i) (governors object ids all))) has.id ∙ named (is_named object ids r)))
  where
    by_start : ℤ → List Governor → List Row
    by_start i [] = has.row ∷ []
    by_start i (g ∷ gs) = moved_row object ids i (greatest_id g gs)

    each : (gs : List Governor) → by_start r gs ≡ governed_row moments object ids r gs
    each [] = sym has.is
    each (g ∷ gs) = refl

    named : (b : Bool) → (if b then has.row ∷ [] else by_start r (filter (λ (g : Governor). int_lt g.id r) (governors object ids all))) ≡ (if b then master_rows moments object ids r else governed_row moments object ids r (filter (λ (g : Governor). int_lt g.id r) (governors object ids all)))
    named true = sym has.is
    named false = each (filter (λ (g : Governor). int_lt g.id r) (governors object ids all))

pub rows-stand_in : (moments : List ℕ) (object : Object) (ids : Stamp) (all rs : List ℤ) → All (HasOneRow moments object ids) rs →
    flat_map (stand_in object ids all) (flat_map (master_rows moments object ids) rs) ≡ flat_map (row_at moments object ids all) rs
rows-stand_in moments object ids all [] each = refl
rows-stand_in moments object ids all (r ∷ rs) each =
    flat_map-append (stand_in object ids all) (master_rows moments object ids r) (flat_map (master_rows moments object ids) rs)
    ∙ ap₂ (λ xs ys. xs ++ ys) (at_one moments object ids all r (All-head (HasOneRow moments object ids) r rs each)) (rows-stand_in moments object ids all rs (All-tail (HasOneRow moments object ids) r rs each))

-- Where no override moves later instances.

pub governors-none : (object : Object) (ids : Stamp) (all : List ℤ) → list_any moves_later (overrides object) ≡ false → governors object ids all ≡ []
governors-none object ids all none = ap (flat_map (governors_by object ids all)) (no_movers (overrides object) none)
  where
    no_movers : (ns : List Numbered) → list_any moves_later ns ≡ false → filter moves_later ns ≡ []
    no_movers [] e = refl
    no_movers (n ∷ ns) e = elim (cases_Bool (moves_later n)) [
      | inl w ↦ absurd (let yes = rw w at e in cc)
      | inr w ↦ rw w (no_movers ns (rw w at e))
    ]

pub row_at-plain : (moments : List ℕ) (object : Object) (ids : Stamp) (all : List ℤ) (r : ℤ) → list_any moves_later (overrides object) ≡ false → row_at moments object ids all r ≡ master_rows moments object ids r
row_at-plain moments object ids all r none =
    ap (λ gs. if is_named object ids r then master_rows moments object ids r else governed_row moments object ids r (filter (λ (g : Governor). int_lt g.id r) gs)) (governors-none object ids all none)
    ∙ same (is_named object ids r)
  where
    same : (b : Bool) → (if b then master_rows moments object ids r else master_rows moments object ids r) ≡ master_rows moments object ids r
    same true = refl
    same false = refl
