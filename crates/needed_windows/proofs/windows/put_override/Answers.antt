use Rattle.std.proofs.Common.{Bool, ℕ, ℤ, List, sym, ◌∙◌, ap, length}
use Rattle.std.specs.List.{list_any}
use Rattle.std.proofs.lemmas.Result.{on_ok_weaker}
use Rattle.cal_model.specs.Instances.HappensOnce.{window_of_start}
use Rattle.cal_model.specs.Instances.Starts.{own_start}
use Rattle.cal_model.specs.Words.Integers.{same_int}
use Rattle.override_merge.specs.Conversions.{tables_of}
use Rattle.override_merge.proofs.StampLemmas.{convertible_some, own_start_convertible}
use Rattle.needed_windows.specs.Stretches.{override_windows, window_of_place}
use Rattle.needed_windows.proofs.StretchLemmas.{Puts-none, Puts-one, or_false}
use Rattle.needed_windows.proofs.WindowsFound.{no_override, no_start, one_override}
use Rattle.needed_windows.proofs.windows.put_override.Goals as goal

abbrev among : List ℤ → ℕ → Bool
among windows place = list_any (same_int (window_of_place place)) windows

pub stretch_of_start-requires : goal.stretch_of_start-requires
stretch_of_start-requires c =
    convertible_some (length c.args.zones.now) (own_start c.args.component.now) c.in-Some.stamp (sym c.own_start.ensures ∙ c.in-Some.is) (own_start_convertible (length c.args.zones.now) c.args.component.now c.requires)

pub returns-then-is_none : goal.returns-then-is_none
returns-then-is_none c =
    let zones = tables_of c.args.zones.now in
    Puts-none (among (override_windows zones c.args.component.now)) c.args.out.now (λ place below. ap (λ ws. among ws place) (no_override zones c.args.component.now c.if-is_none.ensures))

pub returns-in-None : goal.returns-in-None
returns-in-None c =
    let zones = tables_of c.args.zones.now in
    Puts-none (among (override_windows zones c.args.component.now)) c.args.out.now (λ place below. ap (λ ws. among ws place) (no_start zones c.args.component.now (sym c.own_start.ensures ∙ c.in-None.is)))

pub returns-in-Some : goal.returns-in-Some
returns-in-Some c =
    let zones = tables_of c.args.zones.now in
    let component = c.args.component.now in
    let one = one_override zones component c.in-Some.stamp c.if-is_none.ensures (sym c.own_start.ensures ∙ c.in-Some.is) in
    on_ok_weaker c.push.result
    (λ e. Puts-one (among (override_windows zones component)) c.args.out.now c.push.new.self c.stretch_of_start.result e c.stretch_of_start.ensures.stretch
    (λ place below. c.stretch_of_start.ensures.window place below ∙ sym (ap (λ ws. among ws place) one ∙ or_false (same_int (window_of_place place) (window_of_start zones c.in-Some.stamp)))))
    c.push.ensures.ok
