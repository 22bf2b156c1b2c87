-- Filters that no object without rows matches: in the outermost component they ask a range of a component that passes one by its rows alone (RFC 4791, 9.7.1 and 9.9).
use Rattle.std.specs.Prelude.{Bool, not, ◌&&◌, is_some, codes}
use Rattle.std.specs.List.{list_any}
use Rattle.std.specs.Str.{bytes_eq}
use Rattle.cal_model.specs.declared.filter.CompFilter.{CompFilter}
use Rattle.cal_model.specs.declared.filter.CompFilter.TheViews.{out-CompFilter}

-- a comp-filter that asks a range of a component that is no VALARM
abbrev pub asks_row : CompFilter → Bool
asks_row filter =
    not (out-CompFilter filter).absent
    && is_some (out-CompFilter filter).time
    && not (bytes_eq (out-CompFilter filter).name (codes "VALARM"))

-- the comp-filter of the outermost component, in which there is such a one
abbrev pub needs_row : CompFilter → Bool
needs_row filter = not (out-CompFilter filter).absent && list_any asks_row (out-CompFilter filter).comps
