use Rattle.std.proofs.Common.{[]}
use Rattle.http_wire.proofs.HeadBlocks.{fields_fit, found_whole}
use Rattle.http_wire.proofs.head.parse_block.Goals as goal

-- a head at the front that is not the whole block
pub returns-in_default-clause-none : goal.returns-in_default-clause-none
returns-in_default-clause-none c = λ _ head reads.
    let at = rw c.in-Ok-Complete.field-0-is at c.in-Ok-Complete.ensures.complete in
    let within = rw c.in-Ok-Complete.field-0-is at c.in-Ok-Complete.ensures.within in
    c.if-spans-block.false (found_whole _ _ _ head at within reads)

-- an error, also for want of room
pub returns-in_default-3-clause-none : goal.returns-in_default-3-clause-none
returns-in_default-3-clause-none c = λ _ head reads. rw c.in_default.is at (c.parse_request.ensures.found head [] reads (fields_fit _ _ head c.requires reads))
