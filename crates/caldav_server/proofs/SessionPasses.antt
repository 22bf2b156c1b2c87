-- What a pass has seen behind a connection that was served at a desk begins with what it had seen.
use Rattle.std.proofs.Common.{◌≡◌, List, ◌++◌, ap, ◌∙◌, append_assoc, ◌⊎◌, inl, inr}
use Rattle.std.specs.Prelude.{ℤ, Option}
use Rattle.cal_model.specs.History.Journal.{Entry}
use Rattle.cal_model.specs.Users.UsersFile.{Users}
use Rattle.cal_session.specs.SessionStates.{LinkTold}
use Rattle.cal_session.specs.Sessions.{HasServedOn}
use Rattle.cal_session.specs.declared.served.OnEnd.{OnEnd}
use Rattle.cal_session.specs.declared.served.OnEnd.TheVariants.{Ended, Broken}
use Rattle.caldav_server.specs.ThreadPasses.{Grows}
use Rattle.caldav_server.specs.LoadJobs.{Known}

kept-grows : (old mid now more : List Entry) → Grows old mid → (now ≡ mid) ⊎ (now ≡ mid ++ more) → Grows old now
kept-grows old mid now more before (inl same) = (before.0, same ∙ before.1)
kept-grows old mid now more before (inr longer) = (before.0 ++ more, longer ∙ ap (λ seen. seen ++ more) before.1 ∙ append_assoc old before.0 more)

pub session-grows : {X : Type 0} (users : Users) (clock : Option ℤ) (pass now : Known) (before after : LinkTold) (end : OnEnd X)
    → HasServedOn (record { users = users; clock = clock }) (record { pass = pass; link = before }) (record { pass = now; link = after }) end → Grows pass.seen now.seen
session-grows users clock pass now before after (Ended ended) served = served.run.session.begins
session-grows users clock pass now before after (Broken fault turns) broken = kept-grows pass.seen broken.seen now.seen _ broken.run.session.begins broken.kept
