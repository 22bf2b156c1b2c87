use Rattle.std.proofs.Common.{◌≡◌, ◌++◌, All, length, flat_map}
use Rattle.cal_keeper.specs.Files.Payloads.{grant_text, GrantHasForm}
use Rattle.cal_keeper.proofs.grant_reading.grants_at.Given as goal

abbrev pub invariant-granting : goal.invariant-granting
invariant-granting l = record {
  so_far : l.octets ≡ flat_map grant_text l.grants ++ l.rest;
  count_is : length l.grants ≡ l.done;
  form : All (GrantHasForm l.counts) l.grants;
}
