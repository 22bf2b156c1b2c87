-- The first range that leaves the dates, over lists of ranges put together.
use Rattle.std.proofs.Common.{◌≡◌, ℕ, ◌+◌, ◌<◌, List, [], ◌∷◌, ◌++◌, length, map, take, drop, get_or, Option, Some, None, refl, sym, ap, ◌∙◌, append-nil, append_assoc}
use Rattle.std.specs.Prelude.{flat_map, option_to_list}
use Rattle.std.proofs.lemmas.Grind.{flat_map-append}
use Rattle.std.proofs.lemmas.List.{take_more, take-append-drop}
use Rattle.cal_base.specs.Lines.ComponentTrees.{or_else}
use Rattle.cal_model.specs.declared.filter.CompFilter.{CompFilter}
use Rattle.cal_model.specs.declared.filter.CompFilter.TheViews.{out-CompFilter}
use Rattle.cal_model.specs.declared.filter.CompFilter.TheFolds.{fold_out-CompFilter}
use Rattle.cal_model.specs.declared.row.Range.{Range}
use Rattle.cal_model.specs.Objects.ObjectReading.{first_there}
use Rattle.cal_model.specs.Refusals.ReportRefusals.{range_refusal}
use Rattle.cal_model.specs.Reports.NamedRanges.{ranges_of_filter, ranges_step}
use Rattle.dav_reports.specs.declared.dates.Outside.{Outside}
use Rattle.dav_reports.specs.RangeDates.{IsFirst, first_refusal, own_ranges, ranges_of_props}

pub first-cons : {X : Type 0} (o : Option X) (os : List (Option X)) → first_there (o ∷ os) ≡ or_else o (first_there os)
first-cons None os = refl
first-cons (Some x) os = refl

pub or_else-nothing : {X : Type 0} (o : Option X) → or_else o None ≡ o
or_else-nothing None = refl
or_else-nothing (Some x) = refl

or_else_assoc : {X : Type 0} (a b c : Option X) → or_else a (or_else b c) ≡ or_else (or_else a b) c
or_else_assoc None b c = refl
or_else_assoc (Some x) b c = refl

pub first_refusal-append : (xs ys : List Range) → first_refusal (xs ++ ys) ≡ or_else (first_refusal xs) (first_refusal ys)
first_refusal-append [] ys = refl
first_refusal-append (x ∷ xs) ys =
    first-cons (range_refusal x) (map range_refusal (xs ++ ys))
    ∙ ap (or_else (range_refusal x)) (first_refusal-append xs ys)
    ∙ or_else_assoc (range_refusal x) (first_refusal xs) (first_refusal ys)
    ∙ ap (λ o. or_else o (first_refusal ys)) (sym (first-cons (range_refusal x) (map range_refusal xs)))

-- of two lists
pub first_before : (xs ys : List Range) (found : Outside) → IsFirst xs (Some found) → IsFirst (xs ++ ys) (Some found)
first_before xs ys found e = ap (λ o. or_else o (first_refusal ys)) e ∙ sym (first_refusal-append xs ys)

pub first_behind : (xs ys : List Range) (found : Option Outside) → IsFirst xs None → IsFirst ys found → IsFirst (xs ++ ys) found
first_behind xs ys found none e = e ∙ ap (λ o. or_else o (first_refusal ys)) none ∙ sym (first_refusal-append xs ys)

-- a loop over items whose ranges are looked at one after another
pub none_more : {X : Type 0} (ranges : X → List Range) (items : List X) (i : ℕ) (item : X) → i < length items → item ≡ get_or items i item
    → IsFirst (flat_map ranges (take i items)) None → IsFirst (ranges item) None → IsFirst (flat_map ranges (take (i + 1) items)) None
none_more ranges items i item within here before own =
    let more : flat_map ranges (take (i + 1) items) ≡ flat_map ranges (take i items) ++ ranges item =
    ap (flat_map ranges) (take_more items i item within ∙ ap (λ y. take i items ++ y ∷ []) (sym here))
    ∙ flat_map-append ranges (take i items) (item ∷ [])
    ∙ ap (λ ys. flat_map ranges (take i items) ++ ys) (append-nil (ranges item)) in
    first_behind (flat_map ranges (take i items)) (ranges item) None before own ∙ ap first_refusal (sym more)

pub found_at : {X : Type 0} (ranges : X → List Range) (items : List X) (i : ℕ) (item : X) (found : Outside) → i < length items → item ≡ get_or items i item
    → IsFirst (flat_map ranges (take i items)) None → IsFirst (ranges item) (Some found) → IsFirst (flat_map ranges items) (Some found)
found_at ranges items i item found within here before own =
    let more : flat_map ranges (take (i + 1) items) ≡ flat_map ranges (take i items) ++ ranges item =
    ap (flat_map ranges) (take_more items i item within ∙ ap (λ y. take i items ++ y ∷ []) (sym here))
    ∙ flat_map-append ranges (take i items) (item ∷ [])
    ∙ ap (λ ys. flat_map ranges (take i items) ++ ys) (append-nil (ranges item)) in
    first_before (flat_map ranges (take i items) ++ ranges item) (flat_map ranges (drop (i + 1) items)) found (first_behind (flat_map ranges (take i items)) (ranges item) (Some found) before own)
    ∙ ap first_refusal
    (ap (λ ys. ys ++ flat_map ranges (drop (i + 1) items)) (sym more)
    ∙ sym (flat_map-append ranges (take (i + 1) items) (drop (i + 1) items))
    ∙ ap (flat_map ranges) (take-append-drop (i + 1) items))

-- the ranges of a comp-filter: its own, and those of the comp-filters in it
inner_ranges : {X : Type 0} (f : X → List Range) (xs : List X) → flat_map (λ (inner : List Range). inner) (map f xs) ≡ flat_map f xs
inner_ranges f [] = refl
inner_ranges f (x ∷ xs) = ap (λ ys. f x ++ ys) (inner_ranges f xs)

pub ranges_of_filter-own : (filter : CompFilter) → ranges_of_filter filter ≡ own_ranges filter ++ flat_map ranges_of_filter (out-CompFilter filter).comps
ranges_of_filter-own filter =
    let x = out-CompFilter filter in
    fold_out-CompFilter (List Range) ranges_step filter
    ∙ ap (λ inner. option_to_list x.time ++ (ranges_of_props x.props ++ inner)) (inner_ranges ranges_of_filter x.comps)
    ∙ sym (append_assoc (option_to_list x.time) (ranges_of_props x.props) (flat_map ranges_of_filter x.comps))

pub first_within : (filter : CompFilter) (comps : List CompFilter) (found : Option Outside) → comps ≡ (out-CompFilter filter).comps → IsFirst (own_ranges filter) None → IsFirst (flat_map ranges_of_filter comps) found → IsFirst (ranges_of_filter filter) found
first_within filter comps found same own inner =
    first_behind (own_ranges filter) (flat_map ranges_of_filter comps) found own inner
    ∙ ap first_refusal (ap (λ xs. own_ranges filter ++ flat_map ranges_of_filter xs) same ∙ sym (ranges_of_filter-own filter))
