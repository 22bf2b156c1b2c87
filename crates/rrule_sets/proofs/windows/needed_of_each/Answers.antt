use Rattle.std.proofs.Common.{◌∙◌, [], ◌∷◌, map, rules, arith, FitsSigned, w32, to_z-of_z}
use Rattle.std.proofs.lemmas.List.Elements.{All-append, All-cons, All-nil}
use Rattle.override_merge.specs.Conversions.{tables_of}
use Rattle.rrule_sets.specs.declared.windows.Needed.{Needed}
use Rattle.rrule_sets.specs.SeveralWindows.{HasNeeded, looks_of}
use Rattle.rrule_sets.proofs.AskedLemmas.{counted_more}
use Rattle.rrule_sets.proofs.SeveralLemmas.{map_pushed}
use Rattle.rrule_sets.proofs.windows.needed_of_each.Goals as goal

pub windows-preserved : goal.windows-preserved
windows-preserved g c =
    let first = c.in-Some.ensures.cases.0 in
    let window = c.in-Some.window.now in
    let fits : FitsSigned w32 window = search rules in
    let one : Needed = record { window = window; range = c.needed-range.result } in
    let pushed = simp to_z-of_z at c.in_ok-push.ensures.ok in
    let counted = rw first at c.windows.invariant.counted in
    let step = c.tick.ensures in
    let looked = c.needed-range.ensures.steps in
    let is : HasNeeded (tables_of c.args.zones.now) c.args.ids c.args.components.now one = simp to_z-of_z at c.needed-range.ensures.needed in
    record {
      done = rw pushed (map_pushed (λ (n : Needed). n.window) c.windows.each one c.in-Some.behind.now ∙ (rw first at c.windows.invariant.done));
      needed = rw pushed (All-append (HasNeeded (tables_of c.args.zones.now) c.args.ids c.args.components.now) c.windows.each (one ∷ []) c.windows.invariant.needed (All-cons (HasNeeded (tables_of c.args.zones.now) c.args.ids c.args.components.now) one [] is (All-nil _)));
      counted = counted_more c.windows.steps c.needed-range.new.steps (looks_of c.args.components.now window) (map (looks_of c.args.components.now) c.in-Some.behind.now) _ (omega (arith, step, looked)) counted;
    }
