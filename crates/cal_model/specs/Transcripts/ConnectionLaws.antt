-- The laws of connections: each stream completes one list, and what it completes stays whatever octets follow (RFC 9112, 9.3).
-- Given: the octets of a connection, and more of them.
use Rattle.std.specs.Prelude.{◌≡◌, ℕ, List, ◌++◌}
use Rattle.cal_model.specs.Transcripts.ConnectionAnswers.{Completed, Completes}

-- each stream completes a list
abbrev pub StreamsComplete : Type 0
StreamsComplete = (stream : List ℕ) → (done : List Completed) × Completes stream done

-- and no other
abbrev pub CompletionsAgree : Type 0
CompletionsAgree = (stream : List ℕ) (done other : List Completed) → Completes stream done → Completes stream other → done ≡ other

-- what a longer stream completes begins with what the stream completes
abbrev pub CompletionsStay : Type 0
CompletionsStay =
    (stream more : List ℕ) (done later : List Completed) → Completes stream done → Completes (stream ++ more) later
    → (rest : List Completed) × (later ≡ done ++ rest)
