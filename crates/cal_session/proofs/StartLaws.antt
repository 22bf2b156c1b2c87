-- A session before its first request, and from one time on to the next.
use Rattle.std.proofs.Common.{List, [], arith, refl, sym, subst, inl}
use Rattle.http_wire.specs.Wires.{Stands}
use Rattle.http_wire.specs.declared.wire.Wire.{Wire}
use Rattle.cal_session.specs.SessionStates.{Environment, SessionState}
use Rattle.cal_session.specs.Sessions.{whole_exchange, HasRun, HasServedOn}
use Rattle.cal_session.specs.UnderWay.{IsUnderWay, EndsIn, StopsSo, IsEndWith}
use Rattle.cal_session.specs.declared.answering.Stop.{Stop}
use Rattle.cal_session.specs.declared.answering.Stop.TheVariants.{Ended, Broken}
use Rattle.cal_session.specs.declared.served.OnEnd.{OnEnd}
use Rattle.cal_session.specs.declared.served.Served.{Served}
use Rattle.cal_session.specs.declared.served.How.TheVariants.{NoMemory}
use Rattle.cal_session.proofs.SessionLaws.{answered_some, all_front}
use Rattle.cal_session.proofs.StepLemmas.{adds_none, takes_none, looks_none}
use Rattle.cal_session.proofs.TurnLaws.{none_yet}

module _ (environment : Environment) (start : SessionState) where
  nothing_ran : HasRun environment start start [] (whole_exchange [] [])
  nothing_ran = record {
    taken = takes_none start.link.left;
    turns_are = refl;
    session = none_yet environment.users start.pass.number start.pass.seen;
    looks = looks_none environment.users start.pass.looks;
    moments = tt;
    written = adds_none start.link.written;
  }

  -- a new wire stands in front of all octets
  pub begun : (wire : Wire) → Stands [] wire → IsUnderWay environment start start [] wire
  begun wire stands = record {
    stream = [];
    rest = [];
    reached = record { pass = refl; answers = []; run = nothing_ran; still_open = refl; spelled = refl; faults = omega arith; seen = refl };
    stands = stands;
  }

  -- without memory for the first read nothing is done
  pub not_begun : EndsIn environment start start [] NoMemory
  not_begun =
      let some = answered_some [] [] [] refl refl in
      record { exchange = whole_exchange [] []; run = nothing_ran; ended = record { missing = some.0; answered = some.1; front = inl (all_front []) } }

-- a session that stopped so has ended so, with the turns that were noted
pub ended_on : {X : Type 0} (environment : Environment) (before after : SessionState) (turns : List Served) (stop : Stop X) (end : OnEnd X)
    → StopsSo environment before after turns stop → IsEndWith stop turns end → HasServedOn environment before after end
ended_on environment before after turns (Ended how) end stops is = subst (HasServedOn environment before after) (sym is) stops
ended_on environment before after turns (Broken fault) end stops is = subst (HasServedOn environment before after) (sym is) stops
