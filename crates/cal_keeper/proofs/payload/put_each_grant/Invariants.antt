use Rattle.std.proofs.Common.{◌≡◌, ◌+◌, ◌≤◌, ◌^◌, true, length, take, flat_map}
use Rattle.cal_keeper.specs.Steps.WriteRuns.{Puts}
use Rattle.cal_keeper.specs.Files.Payloads.{grant_text}
use Rattle.cal_keeper.proofs.payload.put_each_grant.Given as goal

abbrev pub invariant-granting : goal.invariant-granting
invariant-granting g l = record {
  puts : Puts l.place (flat_map grant_text (take l.grant-index l.grants)) true (g.D.Disk.past l.initial.disk) (g.D.Disk.past l.disk);
  at_is : l.at ≡ l.place + length (flat_map grant_text (take l.grant-index l.grants));
  within : l.at ≤ 2 ^ 62;
  never_falls : g.D.Disk.faults l.initial.disk ≤ g.D.Disk.faults l.disk;
}
