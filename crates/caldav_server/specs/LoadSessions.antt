-- What the sessions of `load` ask and do, each over octets in memory.
-- Given: the users, and the number of a session, which is that of its user.
use Rattle.std.specs.Prelude.{◌≡◌, ◌≢◌, ℕ, Bool, ◌&&◌, nat_le, List, length, map, count_by, pos}
use Rattle.std.specs.List.{AllZip}
use Rattle.turn_lock.specs.Passes.{PassState}
use Rattle.cal_model.specs.declared.reply.Reply.{Reply}
use Rattle.cal_model.specs.declared.request.Request.{Request}
use Rattle.cal_model.specs.History.Journal.{Entry, IsLegal}
use Rattle.cal_model.specs.Load.LoadRequests.{load_moment}
use Rattle.cal_model.specs.Load.LoadSummary.{is_accepted, all_octets}
use Rattle.cal_model.specs.State.ServerState.{directory_of}
use Rattle.cal_model.specs.Users.UsersFile.{Users}
use Rattle.load_requests.specs.MeantRequests.{Means}
use Rattle.cal_session.specs.Turns.{Answer, IsSession}
use Rattle.cal_session.specs.declared.served.Served.{Served}

-- an answer to what is meant, at the moment of all sessions, and not for want of memory
pub record Answers (users : Users) (session : ℕ) (request : Request) (answer : Answer) : Type 0 where
  pub means : Means users session request answer.wire
  pub moment : answer.turn.moment ≡ pos load_moment
  pub there : answer.reply.status ≢ 503

abbrev pub replies_in : List Answer → List Reply
replies_in answers = map (λ (answer : Answer). answer.reply) answers

-- a turn that was accepted, and one that did not want memory
abbrev pub was_accepted : Served → Bool
was_accepted turn = nat_le 200 turn.status && nat_le turn.status 299

abbrev pub HadMemory : Served → Type 0
HadMemory turn = turn.status ≢ 503

-- What a session did: all requests were answered, in the journal that its pass has seen at its end.
pub record HasAnswered (users : Users) (session : ℕ) (requests : List Request) (pass now : PassState Entry Users) (count accepted : ℕ) (written : List ℕ) : Type 0 where
  pub answers : List Answer
  pub each : AllZip (Answers users session) requests answers
  pub session_is : IsSession users pass.number pass.seen answers now.seen
  pub legal : IsLegal (directory_of users) now.seen
  pub count_is : count ≡ length (replies_in answers)
  pub accepted_is : accepted ≡ count_by is_accepted (replies_in answers)
  pub written_is : written ≡ all_octets (replies_in answers)
