use Rattle.std.proofs.Common.{◌≡◌, Bool, List, sym, ap, ◌∙◌, rules, FitsSigned, w32, to_z-of_z}
use Rattle.std.specs.List.{list_any}
use Rattle.std.proofs.lemmas.List.{nil_from_length}
use Rattle.cal_model.specs.declared.row.Range.{Range}
use Rattle.cal_model.specs.Ranges.Cost.{window_meets}
use Rattle.needed_windows.proofs.windows.meets_some.Goals as goal

pub returns : goal.returns
returns c =
    let meets : List Range → Bool = list_any (λ (range : Range). window_meets c.args.by range c.args.window) in
    let fits : FitsSigned w32 c.args.window = search rules in
    let left : meets c.meeting.rest.now ≡ meets c.args.ranges.now = simp to_z-of_z at c.meeting.invariant in
    ap meets (sym (nil_from_length c.meeting.rest.now c.in_default.ensures.cases)) ∙ left
