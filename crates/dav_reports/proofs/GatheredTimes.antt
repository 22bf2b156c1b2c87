-- Times that are gathered one part after another.
use Rattle.std.proofs.Common.{◌≡◌, List, [], ◌∷◌, ◌++◌, sym, ap, ◌∙◌, subst}
use Rattle.std.specs.Prelude.{flat_map}
use Rattle.std.proofs.lemmas.Grind.{flat_map-append}
use Rattle.cal_model.specs.declared.object.Component.{Component}
use Rattle.cal_model.specs.Busy.BusyTimes.{BusyTime, stored_periods, times_of_stored}
use Rattle.freebusy.specs.declared.gathering.Gathered.{Gathered}
use Rattle.freebusy.specs.Gathering.{Gathers}
use Rattle.freebusy.proofs.Gatherings.{Gathers-more, Gathers-none}
use Rattle.dav_reports.specs.ObjectTimes.{stored_times}

-- Of all times some are left: what gathers these from now on has gathered all.
pub record AreLeftOf (old now : Gathered) (all left : List BusyTime) : Type 0 where
  pub complete : (new : Gathered) → Gathers now new left → Gathers old new all

pub left-all : (old : Gathered) (all : List BusyTime) → AreLeftOf old old all all
left-all old all = record { complete = λ new gathers. gathers }

pub left-none : (old now : Gathered) (all : List BusyTime) → AreLeftOf old now all [] → Gathers old now all
left-none old now all left = left.complete now (Gathers-none now)

pub left-behind : (old now next : Gathered) (all xs ys : List BusyTime) → Gathers now next xs → AreLeftOf old now all (xs ++ ys) → AreLeftOf old next all ys
left-behind old now next all xs ys put left = record { complete = λ new gathers. left.complete new (Gathers-more now next new xs ys put gathers) }

-- the times of one element, as at a step of a loop, and those of several
pub left-next : {X : Type 0} (f : X → List BusyTime) (old now next : Gathered) (all : List BusyTime) (x : X) (xs : List X) → Gathers now next (f x) → AreLeftOf old now all (flat_map f (x ∷ xs))
    → AreLeftOf old next all (flat_map f xs)
left-next f old now next all x xs put left = left-behind old now next all (f x) (flat_map f xs) put left

pub left-run : {X : Type 0} (f : X → List BusyTime) (old now next : Gathered) (all : List BusyTime) (xs run left : List X) → run ++ left ≡ xs → Gathers now next (flat_map f run)
    → AreLeftOf old now all (flat_map f xs) → AreLeftOf old next all (flat_map f left)
left-run f old now next all xs run left split put so_far =
    left-behind old now next all (flat_map f run) (flat_map f left) put
    (subst (λ (times : List BusyTime). AreLeftOf old now all times) (ap (flat_map f) (sym split) ∙ flat_map-append f run left) so_far)

-- the stored periods of one component
pub left-stored : (old now next : Gathered) (all : List BusyTime) (c : Component) (cs : List Component) → Gathers now next (flat_map times_of_stored (stored_periods c.kind c))
    → AreLeftOf old now all (stored_times (c ∷ cs)) → AreLeftOf old next all (stored_times cs)
left-stored old now next all c cs put so_far =
    left-behind old now next all (flat_map times_of_stored (stored_periods c.kind c)) (stored_times cs) put
    (subst (λ (times : List BusyTime). AreLeftOf old now all times)
    (flat_map-append times_of_stored (stored_periods c.kind c) (flat_map (λ (x : Component). stored_periods x.kind x) cs)) so_far)
