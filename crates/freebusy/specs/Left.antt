-- How many starts and ends of each class lie before a moment, and the last of these.
use Rattle.std.specs.Prelude.{◌≡◌, ℕ, true, false, ◌≤◌, List, length, Option, ℤ, ◌≤ℤ◌, ◌<ℤ◌, int_lt, nat_lt}
use Rattle.std.specs.List.{AllWithin}
use Rattle.cal_model.specs.declared.object.Class.{Class}
use Rattle.freebusy.specs.declared.ends.Ends.{Ends}
use Rattle.freebusy.specs.declared.ends.Classes.{Classes}
use Rattle.freebusy.specs.declared.left.Counts.{Counts}
use Rattle.freebusy.specs.declared.left.Left.{Left}
use Rattle.freebusy.specs.Ends.{greatest_open}

-- the first so many of some moments lie before a moment, and the others do not
pub record AreBefore (moments : List ℤ) (upper : ℤ) (count : ℕ) : Type 0 where
  pub bound : count ≤ length moments
  pub before : AllWithin (λ (x : ℤ). int_lt x upper ≡ true) moments 0 count
  pub after : AllWithin (λ (x : ℤ). int_lt x upper ≡ false) moments count (length moments)

pub record HaveCounts (moments : Ends) (upper : ℤ) (counts : Counts) : Type 0 where
  pub starts : AreBefore moments.starts upper counts.starts
  pub ends : AreBefore moments.ends upper counts.ends

pub record AreLeft (classes : Classes) (left : Left) : Type 0 where
  pub busy : HaveCounts classes.busy left.upper left.busy
  pub unavailable : HaveCounts classes.unavailable left.upper left.unavailable
  pub tentative : HaveCounts classes.tentative left.upper left.tentative

-- the first so many of some moments come no later than a moment
abbrev pub AreFirstUpTo : List ℤ → ℕ → ℤ → Type 0
AreFirstUpTo moments count last = AllWithin (λ (x : ℤ). x ≤ℤ last) moments 0 count

-- the last of the first so many of some moments, or the least moment: whatever these all lie before, it does too
pub record IsLast (moments : List ℤ) (count : ℕ) (least last : ℤ) : Type 0 where
  pub later : least ≤ℤ last
  pub up_to : AreFirstUpTo moments count last
  pub before : (upper : ℤ) → least <ℤ upper → AllWithin (λ (x : ℤ). int_lt x upper ≡ true) moments 0 count → last <ℤ upper

pub record AreCountedUpTo (moments : Ends) (counts : Counts) (last : ℤ) : Type 0 where
  pub starts : AreFirstUpTo moments.starts counts.starts last
  pub ends : AreFirstUpTo moments.ends counts.ends last

pub record IsLastOf (moments : Ends) (counts : Counts) (least last : ℤ) : Type 0 where
  pub later : least ≤ℤ last
  pub up_to : AreCountedUpTo moments counts last
  pub before : (upper : ℤ) → least <ℤ upper → HaveCounts moments upper counts → last <ℤ upper

pub record AreUpTo (classes : Classes) (left : Left) (last : ℤ) : Type 0 where
  pub busy : AreCountedUpTo classes.busy left.busy last
  pub unavailable : AreCountedUpTo classes.unavailable left.unavailable last
  pub tentative : AreCountedUpTo classes.tentative left.tentative last

-- the greatest class that has opened more often than closed
abbrev pub class_left : Left → Option Class
class_left left =
    greatest_open (nat_lt left.busy.ends left.busy.starts) (nat_lt left.unavailable.ends left.unavailable.starts) (nat_lt left.tentative.ends left.tentative.starts)
