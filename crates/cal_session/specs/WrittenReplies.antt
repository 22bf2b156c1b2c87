-- What became of octets that were to be written to a link, and whether a session goes on behind a request.
use Rattle.std.specs.Prelude.{◌≡◌, ℕ, ◌+◌, ◌<◌, true, false, List, length, take, Option, Some, None, Result, Ok, Err}
use Rattle.cal_base.specs.World.Outside.{Rose, Adds}
use Rattle.cal_model.specs.declared.wire.WireRequest.{WireRequest}
use Rattle.cal_model.specs.Streams.WireLimits.{request_limit}
use Rattle.cal_session.specs.SessionStates.{LinkTold}
use Rattle.cal_session.specs.declared.answering.Stop.{Stop}
use Rattle.cal_session.specs.declared.answering.Stop.TheVariants.{Ended}
use Rattle.cal_session.specs.declared.served.How.{How}
use Rattle.cal_session.specs.declared.served.How.TheVariants.{Closed, Limit, WriteFault, NoMemory}

-- all were written; or a write failed, and a front of them was, and not all; or memory was missing, and a front of them was
abbrev pub IsSent : List ℕ → LinkTold → LinkTold → Option How → Type 0
IsSent octets before after None = Adds before.written octets after.written
IsSent octets before after (Some WriteFault) = ((many : ℕ) × (many < length octets) × Adds before.written (take many octets) after.written) × Rose before.faults after.faults
IsSent octets before after (Some NoMemory) = (many : ℕ) × Adds before.written (take many octets) after.written
IsSent octets before after (Some other) = ⊥

-- Behind the last request that a connection has it is at its limit, and behind another that asks so it is closed.
abbrev pub GoesOnBehind : {X : Type 0} → ℕ → WireRequest → Result (Unit {0}) (Stop X) → Type 0
GoesOnBehind before wire (Ok nothing) = (wire.close ≡ false) × (before + 1 < request_limit)
GoesOnBehind before wire (Err (Ended Limit)) = before + 1 ≡ request_limit
GoesOnBehind before wire (Err (Ended Closed)) = (wire.close ≡ true) × (before + 1 < request_limit)
GoesOnBehind before wire (Err other) = ⊥
