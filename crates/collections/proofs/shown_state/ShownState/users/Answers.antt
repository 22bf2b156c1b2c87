use Rattle.collections.proofs.LookLemmas.{have_origins}
use Rattle.collections.proofs.shown_state.ShownState.users.Goals as goal

pub returns-clause-everywhere : goal.returns-clause-everywhere
returns-clause-everywhere c = have_origins c.args.self.now
