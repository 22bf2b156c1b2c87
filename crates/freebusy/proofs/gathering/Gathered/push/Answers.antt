use Rattle.std.proofs.Common.{[], subst, sym}
use Rattle.std.proofs.lemmas.Result.{on_err_weaker, on_ok_weaker}
use Rattle.freebusy.specs.Gathering.{Gathers}
use Rattle.freebusy.proofs.Gatherings.{Gathers-push, Gathers-room}
use Rattle.freebusy.proofs.gathering.Gathered.push.Goals as goal

pub returns-clause-gathers : goal.returns-clause-gathers
returns-clause-gathers c =
    on_ok_weaker c.push.result
    (λ pushed. Gathers-push c.args.self.now c.condense_when_full.new.self c.push.new.self c.args.row c.in_ok-condense_when_full.ensures.ok pushed)
    c.push.ensures.ok

pub returns-clause-same : goal.returns-clause-same
returns-clause-same c =
    on_err_weaker c.push.result
    (λ same. subst (λ rows. Gathers c.args.self.now (record c.condense_when_full.new.self { rows = rows }) []) (sym same)
    (Gathers-room c.args.self.now c.condense_when_full.new.self c.in_ok-condense_when_full.ensures.ok))
    c.push.ensures.err
