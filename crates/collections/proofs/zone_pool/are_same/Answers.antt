use Rattle.std.proofs.lemmas.Bool.{OnTrue_from}
use Rattle.std.proofs.lemmas.Slice.Eq.{slice_eq-Decides}
use Rattle.collections.proofs.SameOnsets.{same_onset}
use Rattle.collections.proofs.zone_pool.are_same.Goals as goal

pub returns-then-these-those : goal.returns-then-these-those
returns-then-these-those c = OnTrue_from _ _ (slice_eq-Decides same_onset c.args.these.now c.args.those.now _ c.eq.ensures).0
