use Rattle.std.proofs.Common.{◌≡◌, ◌+◌, ◌≤◌, ◌^◌, true, length, take, flat_map}
use Rattle.cal_keeper.specs.Steps.WriteRuns.{Puts}
use Rattle.cal_keeper.specs.Files.Payloads.{set_text}
use Rattle.cal_keeper.proofs.payload.put_each_set.Given as goal

abbrev pub invariant-setting : goal.invariant-setting
invariant-setting g l = record {
  puts : Puts l.place (flat_map set_text (take l.set-index l.sets)) true (g.D.Disk.past l.initial.disk) (g.D.Disk.past l.disk);
  at_is : l.at ≡ l.place + length (flat_map set_text (take l.set-index l.sets));
  within : l.at ≤ 2 ^ 62;
  never_falls : g.D.Disk.faults l.initial.disk ≤ g.D.Disk.faults l.disk;
}
