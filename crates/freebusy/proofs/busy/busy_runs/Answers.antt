use Rattle.freebusy.proofs.Counts.{rising-are, runs-are}
use Rattle.freebusy.proofs.busy.busy_runs.Goals as goal

pub sweep-requires : goal.sweep-requires
sweep-requires c = rising-are c.args.rows.now c.in_ok-classes.classes c.in_ok-classes.ensures

pub returns : goal.returns
returns c =
    runs-are c.args.rows.now c.in_ok-classes.classes c.args.range c.in_ok-found.found c.turned_round.result c.in_ok-classes.ensures c.in_ok-found.ensures c.turned_round.ensures
