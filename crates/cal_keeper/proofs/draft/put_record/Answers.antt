use Rattle.std.proofs.Common.{◌∷◌, [], refl}
use Rattle.cal_journal.specs.KeptEntries.{kept_entry}
use Rattle.cal_keeper.specs.Files.Payloads as spec
use Rattle.cal_keeper.specs.Files.RecordForm.{counted_payload, open_record}
use Rattle.cal_keeper.proofs.Runs.{puts_on}
use Rattle.cal_keeper.proofs.draft.put_record.Goals as goal

pub returns-clause-puts : goal.returns-clause-puts
returns-clause-puts g c =
    let payload = spec.payload_of (kept_entry c.args.entry.now) in
    puts_on c.args.place c.in_ok-at.at (1 ∷ []) (counted_payload payload) (open_record payload) _ _ _ _ c.in_ok-at.ensures.end refl c.in_ok-at.ensures.puts c.put_counted.ensures.puts
