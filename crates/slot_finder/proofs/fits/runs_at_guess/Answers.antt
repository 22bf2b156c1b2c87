use Rattle.std.proofs.Common.{rules, ◌≡◌, refl, w64, to_z, of_z}
use Rattle.slot_finder.proofs.Guessing.{guessed, order_left, order_right}
use Rattle.slot_finder.proofs.fits.runs_at_guess.Goals as goal

pub are_over-requires : goal.are_over-requires
are_over-requires c = order_left _ _ (rw c.split_at.ensures.by_index.0 at c.requires)

pub end_behind-requires : goal.end_behind-requires
end_behind-requires c = order_right _ _ (rw c.split_at.ensures.by_index.0 at c.requires)

pub returns : goal.returns
returns c =
    let from : to_z w64 (of_z w64 c.args.at) ≡ c.args.at = search rules in
    let over = rw from at c.if-not-are_over.ensures in
    let later = rw from at c.if-not-end_behind.ensures in
    guessed c.args.runs.now c.split_at.result.0.now c.split_at.result.1.now c.args.at c.split_at.ensures.by_index.0 (over refl) (later refl)
