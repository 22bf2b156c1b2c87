use Rattle.std.proofs.Common.{◌≡◌, ℕ, List, ◌++◌, length, sym, ◌∙◌, ap}
use Rattle.std.specs.Int.{w32, to_be_bytes}
use Rattle.cal_journal.specs.KeptEntries.{kept_entry}
use Rattle.cal_keeper.specs.Files.Payloads as spec
use Rattle.cal_keeper.specs.Files.RecordForm.{counted_payload}
use Rattle.cal_keeper.proofs.Runs.{puts_on}
use Rattle.cal_keeper.proofs.commit.put_counted.Goals as goal

pub returns-clause-puts : goal.returns-clause-puts
returns-clause-puts g c =
    let size_is : c.to_be_bytes.result ≡ to_be_bytes w32 (length (spec.payload_of (kept_entry c.args.entry.now))) = c.to_be_bytes.ensures ∙ ap (λ (n : ℕ). to_be_bytes w32 n) c.payload_size.ensures in
    puts_on c.args.place c.in_ok-at.at c.to_be_bytes.result (spec.payload_of (kept_entry c.args.entry.now)) (counted_payload (spec.payload_of (kept_entry c.args.entry.now))) _ _ _ _ c.in_ok-at.ensures.end
    (sym (ap (λ (xs : List ℕ). xs ++ spec.payload_of (kept_entry c.args.entry.now)) size_is)) c.in_ok-at.ensures.puts c.put_payload.ensures.puts
