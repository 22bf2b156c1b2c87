use Rattle.std.proofs.Common.{◌≡◌, ◌++◌, ◌∷◌, [], sym, ap, ◌∙◌, rules, w64}
use Rattle.std.specs.Prelude.{FitsSigned}
use Rattle.std.proofs.lemmas.Int.{to_z-of_z}
use Rattle.cal_moment.specs.Calendar.{seconds_since_1970}
use Rattle.cal_model.specs.Values.LocalTimes.{moment_of_local}
use Rattle.cal_model.specs.Walks.Clocks.{reading_by}
use Rattle.cal_model.proofs.Walks.KeptLemmas.{seconds_of_written}
use Rattle.cal_model.proofs.Walks.WantedLemmas.{starts_by-append}
use Rattle.cal_model.proofs.walk.starts.add_start.Goals as goal

pub returns : goal.returns
returns c = λ rest.
    let value : (reading_by c.args.clock.now).instant (seconds_since_1970 (moment_of_local c.args.m)) ≡ c.instant.result = ap (λ l. (reading_by c.args.clock.now).instant l) (seconds_of_written c.args.m c.requires.m) ∙ sym c.instant.ensures in
    let fits : FitsSigned w64 c.instant.result = search rules in
    let pushed : c.push.new.self ≡ c.args.out.now ++ c.instant.result ∷ [] = simp to_z-of_z at c.in_ok-push.ensures.ok in
    rw (pushed, ← value) (starts_by-append (reading_by c.args.clock.now) (moment_of_local c.args.m) rest c.args.out.now)
