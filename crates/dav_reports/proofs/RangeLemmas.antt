-- The ranges of a test of components, from its parts.
use Rattle.std.proofs.Common.{◌≡◌, List, [], ◌∷◌, ◌++◌, map, refl, sym, ap, ◌∙◌}
use Rattle.std.specs.Prelude.{flat_map, option_to_list}
use Rattle.cal_model.specs.declared.filter.CompFilter.{CompFilter}
use Rattle.cal_model.specs.declared.filter.CompFilter.TheViews.{out-CompFilter, roll-out-CompFilter}
use Rattle.cal_model.specs.declared.filter.PropFilter.{PropFilter}
use Rattle.cal_model.specs.Reports.NamedRanges.{ranges_of_filter, ranges_of_test}
use Rattle.cal_model.proofs.Filters.FilterLemmas.{ranges_of_filter_roll}

joined : {X Y : Type 0} (f : X → List Y) (xs : List X) → flat_map (λ (ys : List Y). ys) (map f xs) ≡ flat_map f xs
joined f [] = refl
joined f (x ∷ xs) = ap (λ ys. f x ++ ys) (joined f xs)

pub ranges_parts : (filter : CompFilter) → ranges_of_filter filter ≡ option_to_list (out-CompFilter filter).time ++ (flat_map (λ (p : PropFilter). ranges_of_test p.test) (out-CompFilter filter).props ++ flat_map ranges_of_filter (out-CompFilter filter).comps)
ranges_parts filter =
    ap ranges_of_filter (sym (roll-out-CompFilter filter))
    ∙ ranges_of_filter_roll (out-CompFilter filter)
    ∙ ap (λ inner. option_to_list (out-CompFilter filter).time ++ (flat_map (λ (p : PropFilter). ranges_of_test p.test) (out-CompFilter filter).props ++ inner)) (joined ranges_of_filter (out-CompFilter filter).comps)
