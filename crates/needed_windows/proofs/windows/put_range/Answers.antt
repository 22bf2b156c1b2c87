use Rattle.std.proofs.lemmas.Result.{on_ok_weaker}
use Rattle.cal_model.specs.Ranges.Cost.{window_meets}
use Rattle.needed_windows.specs.Stretches.{window_of_place}
use Rattle.needed_windows.proofs.StretchLemmas.{Puts-one}
use Rattle.needed_windows.proofs.windows.put_range.Goals as goal

pub returns : goal.returns
returns c =
    on_ok_weaker c.push.result
    (λ e. Puts-one (λ place. window_meets c.args.by c.args.range (window_of_place place)) c.args.out.now c.push.new.self c.widened.result e c.widened.ensures.stretch c.widened.ensures.windows)
    c.push.ensures.ok
