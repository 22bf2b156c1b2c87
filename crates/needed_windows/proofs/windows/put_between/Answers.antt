use Rattle.std.proofs.Common.{rules, FitsSigned, w32, to_z-of_z}
use Rattle.needed_windows.proofs.StretchLemmas.{put_end, put_more}
use Rattle.needed_windows.proofs.windows.put_between.Goals as goal

pub places-preserved : goal.places-preserved
places-preserved c =
    let fits : FitsSigned w32 c.window_at.result = search (rules, c.window_at.type_inv) in
    let put = simp to_z-of_z at c.in_ok-push.ensures.ok in
    rw (put, c.window_at.ensures) (put_more c.places.out _ c.places.place c.args.end c.places-test.true c.places.invariant)

pub returns : goal.returns
returns c = put_end c.places.out _ c.places.place c.args.end c.places-test.false c.places.invariant
