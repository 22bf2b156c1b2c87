-- The replies to requests that only read and that no row of the shared table refuses.
use Rattle.std.specs.Prelude.{◌≡◌, [], ◌∷◌, ◌++◌, None, unwrap_or, ℤ}
use Rattle.cal_model.specs.declared.reply.Reply.{Reply}
use Rattle.cal_model.specs.declared.request.Request.{Request}
use Rattle.cal_model.specs.Objects.ObjectReading.{first_there}
use Rattle.cal_model.specs.Refusals.SharedRefusals.{shared_rows}
use Rattle.cal_model.specs.Serving.ReadingReplies.{answer_of, report_rows, too_long}
use Rattle.cal_model.specs.Sight.Scenes.{Scene}

-- no row of the shared table refuses a request
abbrev pub IsUnrefused : Scene → Request → Type 0
IsUnrefused scene request = first_there (shared_rows scene request) ≡ None

-- the rows of a report, or that the answer is too long; or else the answer
abbrev pub own_reply : Scene → ℤ → Request → Reply
own_reply scene moment request =
    let answered = answer_of scene moment request request.method in
    unwrap_or (first_there (report_rows request.content ++ (too_long request.method answered ∷ []))) answered
