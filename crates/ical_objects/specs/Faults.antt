-- The faults that `build` tells.
use Rattle.std.specs.Prelude.{◌≡◌, Option, Some}
use Rattle.cal_base.specs.Lines.ComponentTrees.{NestingFault, unclosed, wrong_end, too_deep}
use Rattle.ical_objects.specs.declared.fault.TreeFault.{TreeFault}
use Rattle.ical_objects.specs.declared.fault.TreeFault.TheVariants.{Unclosed, WrongEnd, TooDeep, NoMemory}

-- a told fault is that of the nesting, with its line; memory may be wanting whatever the lines are
abbrev pub IsFaultOf : Option NestingFault → TreeFault → Type 0
IsFaultOf found (Unclosed line) = found ≡ Some (unclosed line)
IsFaultOf found (WrongEnd line) = found ≡ Some (wrong_end line)
IsFaultOf found (TooDeep line) = found ≡ Some (too_deep line)
IsFaultOf found NoMemory = Unit {0}
