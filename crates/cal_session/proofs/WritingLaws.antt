-- Octets that are written in two pieces, a head and the content behind it: what became of them all.
use Rattle.std.proofs.Common.{ℕ, ◌+◌, ◌<◌, ◌≤◌, List, ◌++◌, length, take, arith, sym, subst, Option, Some, None}
use Rattle.std.proofs.lemmas.List.{length-append, take-append-le}
use Rattle.std.proofs.Math.Seq.{take-append-add}
use Rattle.cal_base.specs.World.Outside.{Rose, Adds}
use Rattle.cal_session.specs.SessionStates.{LinkTold}
use Rattle.cal_session.specs.WrittenReplies.{IsSent}
use Rattle.cal_session.specs.declared.served.How.{How}
use Rattle.cal_session.specs.declared.served.How.TheVariants.{WriteFault, NoMemory}
use Rattle.cal_session.proofs.SessionLaws.{rose_since}
use Rattle.cal_session.proofs.StepLemmas.{adds_on}

module _ (head content : List ℕ) (before between after : LinkTold) where
  -- the head was not written whole
  pub sent_in_head : ((many : ℕ) × (many < length head) × Adds before.written (take many head) after.written) → Rose before.faults after.faults → IsSent (head ++ content) before after (Some WriteFault)
  sent_in_head (many, few, added) rose =
      let fits : many ≤ length head = omega (arith, few) in
      let fewer : many < length (head ++ content) = omega (arith, few, length-append head content) in
      ((many, fewer, subst (λ piece. Adds before.written piece after.written) (sym (take-append-le many head content fits)) added), rose)

  -- a front of the content behind the whole head is one of both
  front_behind : (many : ℕ) → Adds before.written head between.written → Adds between.written (take many content) after.written → Adds before.written (take (length head + many) (head ++ content)) after.written
  front_behind many whole added =
      subst (λ piece. Adds before.written piece after.written) (sym (take-append-add head content many)) (adds_on before.written between.written after.written head (take many content) whole added)

  -- the head was, and the content became what it became
  pub sent_behind_head : (result : Option How) → Adds before.written head between.written → before.faults ≤ between.faults → between.faults ≤ after.faults → IsSent content between after result → IsSent (head ++ content) before after result
  sent_behind_head None whole first later sent = adds_on before.written between.written after.written head content whole sent
  sent_behind_head (Some WriteFault) whole first later ((many, few, added), rose) =
      let fewer : length head + many < length (head ++ content) = omega (arith, few, length-append head content) in
      ((length head + many, fewer, front_behind many whole added), rose_since before.faults between.faults after.faults first later rose)
  sent_behind_head (Some NoMemory) whole first later (many, added) = (length head + many, front_behind many whole added)
  sent_behind_head (Some other) whole first later sent = absurd sent
