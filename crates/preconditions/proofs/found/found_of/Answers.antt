use Rattle.cal_model.specs.Objects.ObjectReading.{read_object}
use Rattle.preconditions.proofs.FoundReadings.{fault_found}
use Rattle.preconditions.proofs.found.found_of.Goals as goal

pub returns-in-Err : goal.returns-in-Err
returns-in-Err c = fault_found (read_object c.args.octets.now) c.in-Err.fault c.in-Err.ensures.fault
