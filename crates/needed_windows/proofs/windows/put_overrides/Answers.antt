use Rattle.std.proofs.Common.{ℕ, ℤ, Bool, List, ◌∷◌, ap, length}
use Rattle.std.specs.Prelude.{flat_map}
use Rattle.std.specs.List.{list_any}
use Rattle.std.proofs.lemmas.List.{nil_from_length}
use Rattle.std.proofs.lemmas.List.Elements.{All-head, All-tail}
use Rattle.std.proofs.lemmas.List.Folds.{list_any-append}
use Rattle.cal_model.specs.declared.object.Component.{Component}
use Rattle.cal_model.specs.Words.Integers.{same_int}
use Rattle.override_merge.specs.Conversions.{tables_of}
use Rattle.override_merge.specs.ExpandableComponents.{IsExpandable}
use Rattle.needed_windows.specs.Stretches.{override_windows, window_of_place}
use Rattle.needed_windows.proofs.StretchLemmas.{IsPutting-end, IsPutting-more}
use Rattle.needed_windows.proofs.windows.put_overrides.Goals as goal

pub put_override-requires : goal.put_override-requires
put_override-requires c = (All-head (IsExpandable (length c.args.zones.now)) c.in-Some.component.now c.in-Some.behind.now (rw c.in-Some.ensures.cases.0 at c.overrides.invariant.left)).row

pub overrides-preserved : goal.overrides-preserved
overrides-preserved c =
    let first = c.in-Some.ensures.cases.0 in
    let own : Component → List ℤ = override_windows (tables_of c.args.zones.now) in
    let test : List Component → ℕ → Bool = λ components place. list_any (same_int (window_of_place place)) (flat_map own components) in
    record {
      made = IsPutting-more (λ place. list_any (same_int (window_of_place place)) (own c.in-Some.component.now)) (test (c.in-Some.component.now ∷ c.in-Some.behind.now)) (test c.in-Some.behind.now) (test c.args.components.now)
          c.args.out.now c.overrides.out c.put_override.new.out
          (λ place. list_any-append (same_int (window_of_place place)) (own c.in-Some.component.now) (flat_map own c.in-Some.behind.now))
          (rw first at c.overrides.invariant.made) c.in_ok-put_override.ensures;
      left = All-tail (IsExpandable (length c.args.zones.now)) c.in-Some.component.now c.in-Some.behind.now (rw first at c.overrides.invariant.left);
    }

pub returns : goal.returns
returns c =
    let test : List Component → ℕ → Bool = λ components place. list_any (same_int (window_of_place place)) (flat_map (override_windows (tables_of c.args.zones.now)) components) in
    IsPutting-end (test c.overrides.rest.now) (test c.args.components.now) c.args.out.now c.overrides.out (λ place. ap (λ components. test components place) (nil_from_length c.overrides.rest.now c.in_default.ensures.cases)) c.overrides.invariant.made
