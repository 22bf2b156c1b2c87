-- A fault that is told is what was found.
use Rattle.std.proofs.Common.{◌≡◌, refl}
use Rattle.std.specs.Prelude.{Result}
use Rattle.cal_model.specs.declared.object.Object.{Object}
use Rattle.cal_model.specs.Objects.ObjectReading.{Unread}
use Rattle.cal_object.specs.declared.fault.ReadFault.{ReadFault}
use Rattle.cal_object.specs.declared.fault.ReadFault.TheVariants.{NotCalendar, NotResource, DateOutside, NoMemory}
use Rattle.cal_object.specs.Faults.{IsFaultOf}
use Rattle.preconditions.specs.declared.found.Found.TheVariants.{Fault}
use Rattle.preconditions.specs.FoundOctets.{reading_found}

pub fault_found : (reading : Result Object Unread) (fault : ReadFault) → IsFaultOf reading fault → reading ≡ reading_found (Fault fault) reading
fault_found reading (NotCalendar place) is = is
fault_found reading (NotResource why) is = is
fault_found reading (DateOutside kind stamp) is = is
fault_found reading NoMemory is = refl

pub found_fault : (reading : Result Object Unread) (fault : ReadFault) → reading ≡ reading_found (Fault fault) reading → IsFaultOf reading fault
found_fault reading (NotCalendar place) is = is
found_fault reading (NotResource why) is = is
found_fault reading (DateOutside kind stamp) is = is
found_fault reading NoMemory is = tt
