use Rattle.cal_model.proofs.Paths.NamedPaths.{targets_name_paths, paths_are_read_back}
use Rattle.cal_model.proofs.Paths.PathLaws.{hrefs_are_read_back}
use Rattle.dav_write.proofs.ReadBack.Law.{canonical_read_back, given_can_stand, round_trip}
use Rattle.dav_write.proofs.laws.read_back_laws.Goals as goal

pub returns-clause-hrefs : goal.returns-clause-hrefs
returns-clause-hrefs c = hrefs_are_read_back

pub returns-clause-targets : goal.returns-clause-targets
returns-clause-targets c = targets_name_paths

pub returns-clause-paths : goal.returns-clause-paths
returns-clause-paths c = paths_are_read_back

pub returns-clause-written : goal.returns-clause-written
returns-clause-written c = canonical_read_back

pub returns-clause-read : goal.returns-clause-read
returns-clause-read c = given_can_stand

pub returns-clause-elements : goal.returns-clause-elements
returns-clause-elements c = round_trip
