use Rattle.std.proofs.Common.{[], arith, FitsSigned, w64, to_z-of_z}
use Rattle.std.proofs.lemmas.Int.{ints}
use Rattle.std.proofs.lemmas.List.Elements.{All-cons, All-head, All-nil}
use Rattle.rrule_sets.specs.NeededDigits.{HasDay}
use Rattle.rrule_sets.proofs.NeededLemmas.{EndsBefore}
use Rattle.rrule_sets.proofs.needed.with_day.Goals as goal

pub returns-in-Some-clause-day : goal.returns-in-Some-clause-day
returns-in-Some-clause-day c =
    let near = rw c.in-Some.is at c.requires in
    let fits : FitsSigned w64 c.in-Some.midnight = omega (arith, ints, near) in
    let day = simp to_z-of_z at c.with_midnight.ensures.day in
    rw c.in-Some.is (All-cons (HasDay c.with_midnight.result) c.in-Some.midnight [] day (All-nil (HasDay c.with_midnight.result)))

pub returns-in-Some-clause-least : goal.returns-in-Some-clause-least
returns-in-Some-clause-least c =
    let near = rw c.in-Some.is at c.requires in
    let fits : FitsSigned w64 c.in-Some.midnight = omega (arith, ints, near) in
    let least = simp to_z-of_z at c.with_midnight.ensures.least in
    λ z by days. least z by (All-head (EndsBefore z) c.in-Some.midnight [] (rw c.in-Some.is at days))
