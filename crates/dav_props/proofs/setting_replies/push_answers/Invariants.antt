use Rattle.std.proofs.Common.{ℕ, List, [], map, take}
use Rattle.multistatus.specs.Answered.{IsAnswered}
use Rattle.dav_props.specs.KeptTexts.{answer_in}
use Rattle.dav_props.proofs.setting_replies.push_answers.Given as goal

-- the names so far are answered
abbrev pub invariant-loop-name : goal.invariant-loop-name
invariant-loop-name l = (front href : List ℕ) → IsAnswered front href [] l.fn.response l.fn.out → IsAnswered front href (map (answer_in l.refused l.otherwise) (take l.name-index l.names)) l.response l.out
