-- Which requests of the octets that were taken from a link are answered, and what is written for them (RFC 9112, 9.3 and 9.6).
-- Given: the octets that were taken, and the answers. Which requests a stream has is `Streams.StreamRequests`.
use Rattle.std.specs.Prelude.{◌≡◌, ℕ, ◌+◌, ◌≤◌, List, [], ◌∷◌, ◌++◌, length, map, take}
use Rattle.cal_model.specs.declared.wire.WireRequest.{WireRequest}
use Rattle.cal_model.specs.Replies.WireReplies.{answer_octets}
use Rattle.cal_model.specs.Streams.StreamRequests.{Ending, IsStream, served}
use Rattle.cal_session.specs.Turns.{Answer}

abbrev pub requests_of : List Answer → List WireRequest
requests_of answers = map (λ (answer : Answer). answer.wire) answers

-- all requests that a connection answers were answered
pub record AnsweredAll (stream : List ℕ) (answers : List Answer) (ending : Ending) : Type 0 where
  pub requests : List WireRequest
  pub rest : List ℕ
  pub reading : IsStream stream requests rest ending
  pub all : requests_of answers ≡ served requests

-- those in front were; the last may be missing
pub record AnsweredSome (stream : List ℕ) (answers : List Answer) (missing : List WireRequest) : Type 0 where
  pub requests : List WireRequest
  pub rest : List ℕ
  pub ending : Ending
  pub reading : IsStream stream requests rest ending
  pub some : served requests ≡ requests_of answers ++ missing

-- What is written

-- the replies in order, where so many were answered before
abbrev pub replies_from : ℕ → List Answer → List ℕ
replies_from before [] = []
replies_from before (answer ∷ answers) = answer_octets before answer.wire answer.reply answer.turn.moment ++ replies_from (before + 1) answers

abbrev pub replies_of : List Answer → List ℕ
replies_of answers = replies_from 0 answers

-- a beginning of them, which may lack all or part of the last one, and of nothing before it
pub record IsFrontOfReplies (answers : List Answer) (printed : List ℕ) : Type 0 where
  pub whole : List Answer
  pub last : List Answer
  pub parts : answers ≡ whole ++ last
  pub one : length last ≤ 1
  pub many : ℕ
  pub printed_is : printed ≡ replies_of whole ++ take many (replies_from (length whole) last)
