use Rattle.std.proofs.Common.{[], ◌∷◌, ap, ◌∙◌}
use Rattle.percent_encoding.specs.Percent.{percent_decode}
use Rattle.dav_write.specs.Segments.{named_path}
use Rattle.dav_write.proofs.targets.path_of_three.Goals as goal

pub returns : goal.returns
returns c = λ ends.
    c.named_three.ensures ends
    ∙ ap (λ kind. named_path ends (kind ∷ c.in_ok-user.user ∷ c.in_ok-calendar.calendar ∷ [])) (c.as_slice.ensures ∙ c.in_ok-kind.ensures)
    ∙ ap (λ user. named_path ends (percent_decode c.args.kind.now ∷ user ∷ c.in_ok-calendar.calendar ∷ [])) c.in_ok-user.ensures
    ∙ ap (λ calendar. named_path ends (percent_decode c.args.kind.now ∷ percent_decode c.args.user.now ∷ calendar ∷ [])) c.in_ok-calendar.ensures
