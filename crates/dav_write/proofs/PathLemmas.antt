-- A path written piece by piece, and read back.
use Rattle.std.proofs.Common.{◌≡◌, ℕ, List, [], ◌++◌, Some, IsTrue, ap, ◌∙◌, append_assoc, length, refl}
use Rattle.std.specs.Prelude.{codes}
use Rattle.percent_encoding.specs.Percent.{percent_encode_byte}
use Rattle.cal_model.specs.declared.path.Path.{Path}
use Rattle.cal_model.specs.declared.path.Path.TheVariants.{Calendar, Object}
use Rattle.cal_model.specs.Replies.Hrefs.{segment, href}
use Rattle.cal_model.specs.Paths.TargetPaths.{target_path, is_path}
use Rattle.cal_model.specs.Paths.TargetPathLaws.{HasOctets}
use Rattle.cal_model.proofs.Paths.PathLaws.{hrefs_are_read_back}

-- what stands before a name, the name and a slash
abbrev pub step : List ℕ → List ℕ → List ℕ
step front name = front ++ (segment name ++ codes "/")

pub written_calendar : (user calendar old middle new : List ℕ) → middle ≡ old ++ step (codes "/calendars/") user → new ≡ middle ++ step [] calendar → new ≡ old ++ href (Calendar user calendar)
written_calendar user calendar old middle new first second =
    second ∙ ap (λ text. text ++ step [] calendar) first ∙ append_assoc old (step (codes "/calendars/") user) (step [] calendar)
    ∙ ap (λ text. old ++ text) (append_assoc (codes "/calendars/") (segment user ++ codes "/") (step [] calendar) ∙ ap (λ text. codes "/calendars/" ++ text) (append_assoc (segment user) (codes "/") (step [] calendar)))

pub written_object : (user calendar object old middle last new : List ℕ) → middle ≡ old ++ step (codes "/calendars/") user → last ≡ middle ++ step [] calendar → new ≡ last ++ segment object → new ≡ old ++ href (Object user calendar object)
written_object user calendar object old middle last new first second third =
    third ∙ ap (λ text. text ++ segment object) (written_calendar user calendar old middle last first second) ∙ append_assoc old (href (Calendar user calendar)) (segment object)
    ∙ ap (λ text. old ++ text)
    (append_assoc (codes "/calendars/") (segment user ++ (codes "/" ++ (segment calendar ++ codes "/"))) (segment object)
    ∙ ap (λ text. codes "/calendars/" ++ text)
    (append_assoc (segment user) (codes "/" ++ (segment calendar ++ codes "/")) (segment object)
    ∙ ap (λ text. segment user ++ (codes "/" ++ text)) (append_assoc (segment calendar) (codes "/") (segment object))))

pub read_back : (path : Path) (octets : List ℕ) → octets ≡ href path → HasOctets path → IsTrue (is_path path) → target_path octets ≡ Some path
read_back path octets is small there = ap target_path is ∙ hrefs_are_read_back path small there

pub escape_length : (octet : ℕ) → length (percent_encode_byte octet) ≡ 3
unfolding percent_encode_byte
escape_length octet = refl
