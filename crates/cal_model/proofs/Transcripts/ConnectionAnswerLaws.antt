-- What a stream completes is one list, and what a longer one completes begins with it: requests that are whole stay, and so does a fault that shows.
use Rattle.std.proofs.Common.{◌≡◌, ℕ, zero, suc, ◌+◌, Bool, true, false, List, [], ◌∷◌, ◌++◌, take, map, refl, sym, ap, ◌∙◌, subst}
use Rattle.std.specs.Prelude.{if◌then◌else◌}
use Rattle.std.specs.List.{enumerate_from}
use Rattle.std.proofs.lemmas.List.{append_assoc, append-nil}
use Rattle.cal_model.specs.declared.wire.WireRequest.{WireRequest}
use Rattle.cal_model.specs.Streams.StreamRequests.{Ending, ends_idle, ends_cut, ends_at, Ends, IsStream, up_to_close, served}
use Rattle.cal_model.specs.Streams.WireLimits.{request_limit}
use Rattle.cal_model.specs.Transcripts.ConnectionAnswers.{Completed, whole, is_open, fault_in, answered, Completes}
use Rattle.cal_model.specs.Transcripts.ConnectionLaws.{StreamsComplete, CompletionsAgree, CompletionsStay}
use Rattle.cal_model.proofs.Streams.FrontLaws.{faults_stay}
use Rattle.cal_model.proofs.Streams.ReadingLaws.{streams_are_read, readings_agree, streams_grow}

pub streams_complete : StreamsComplete
streams_complete stream =
    let read = streams_are_read stream in
    (answered read.0 read.2, record { requests = read.0; rest = read.1; ending = read.2; reading = read.3; are_done = refl })

pub completions_agree : CompletionsAgree
completions_agree stream done other one two =
    let same = readings_agree stream one.requests two.requests one.rest two.rest one.ending two.ending one.reading two.reading in
    one.are_done ∙ ap (λ requests. answered requests one.ending) same.0 ∙ ap (answered two.requests) same.2 ∙ sym two.are_done

-- Lists that begin with others

abbrev Begins : {X : Type 0} → List X → List X → Type 0
Begins {X} longer xs = (more : List X) × (longer ≡ xs ++ more)

take-begins : {X : Type 0} (n : ℕ) (xs ys : List X) → Begins (take n (xs ++ ys)) (take n xs)
take-begins zero xs ys = ([], refl)
take-begins (suc n) [] ys = (take (suc n) ys, refl)
take-begins (suc n) (x ∷ xs) ys = let more = take-begins n xs ys in (more.0, ap (λ rest. x ∷ rest) more.1)

closed-begins : (closes : Bool) (first : WireRequest) (xs longer : List WireRequest) → Begins longer xs → Begins (if closes then first ∷ [] else first ∷ longer) (if closes then first ∷ [] else first ∷ xs)
closed-begins true first xs longer more = ([], refl)
closed-begins false first xs longer more = (more.0, ap (λ rest. first ∷ rest) more.1)

up_to_close-begins : (xs ys : List WireRequest) → Begins (up_to_close (xs ++ ys)) (up_to_close xs)
up_to_close-begins [] ys = (up_to_close ys, refl)
up_to_close-begins (x ∷ xs) ys = closed-begins x.close x (up_to_close xs) (up_to_close (xs ++ ys)) (up_to_close-begins xs ys)

served-begins : (xs ys : List WireRequest) → Begins (served (xs ++ ys)) (served xs)
served-begins xs ys =
    let taken = take-begins request_limit xs ys in
    let more = up_to_close-begins (take request_limit xs) taken.0 in
    (more.0, ap up_to_close taken.1 ∙ more.1)

numbered : ℕ × WireRequest → Completed
numbered entry = whole entry.0 entry.1

-- the numbers go on
numbered-begins : (n : ℕ) (xs ys : List WireRequest) → Begins (map numbered (enumerate_from n (xs ++ ys))) (map numbered (enumerate_from n xs))
numbered-begins n [] ys = (map numbered (enumerate_from n ys), refl)
numbered-begins n (x ∷ xs) ys = let more = numbered-begins (n + 1) xs ys in (more.0, ap (λ rest. numbered (n, x) ∷ rest) more.1)

all_numbered : List WireRequest → List Completed
all_numbered requests = map numbered (enumerate_from 0 (served requests))

all-begins : (xs ys : List WireRequest) → Begins (all_numbered (xs ++ ys)) (all_numbered xs)
unfolding all_numbered
all-begins xs ys =
    let more = served-begins xs ys in
    let longer = numbered-begins 0 (served xs) more.0 in
    (longer.0, ap (λ requests. map numbered (enumerate_from 0 requests)) more.1 ∙ longer.1)

-- Where no fault shows nothing stands behind the requests

behind : List WireRequest → Ending → List Completed
behind requests ending = if is_open requests then fault_in ending else []

none_behind : (stays : Bool) (found : List Completed) → found ≡ [] → (if stays then found else []) ≡ []
none_behind true found none = none
none_behind false found none = refl

without_fault : (requests later : List WireRequest) (ending next : Ending) → fault_in ending ≡ [] → Begins (answered (requests ++ later) next) (answered requests ending)
unfolding numbered all_numbered behind
without_fault requests later ending next none =
    let more = all-begins requests later in
    let nothing : behind requests ending ≡ [] = none_behind (is_open requests) (fault_in ending) none in
    let alone : all_numbered requests ++ behind requests ending ≡ all_numbered requests = ap (λ rest. all_numbered requests ++ rest) nothing ∙ append-nil (all_numbered requests) in (
      more.0 ++ behind (requests ++ later) next,
      ap (λ xs. xs ++ behind (requests ++ later) next) more.1
          ∙ append_assoc (all_numbered requests) more.0 (behind (requests ++ later) next)
          ∙ ap (λ xs. xs ++ (more.0 ++ behind (requests ++ later) next)) (sym alone),
    )

-- Streams

-- what is read of the longer stream behind the requests of the shorter one
by_ending : (stream more : List ℕ) (done later : List Completed) (one : Completes stream done) (two : Completes (stream ++ more) later) (ending : Ending)
    → one.ending ≡ ending → fault_in ending ≡ [] → Begins later done
by_ending stream more done later one two ending is none =
    let next = streams_are_read (one.rest ++ more) in
    let grown : IsStream (stream ++ more) (one.requests ++ next.0) next.1 next.2 = record {
      spelled = streams_grow stream more one.requests next.0 one.rest next.1 one.reading.spelled next.3.spelled;
      ended = next.3.ended;
    } in
    let same = completions_agree (stream ++ more) later (answered (one.requests ++ next.0) next.2) two
    (record { requests = one.requests ++ next.0; rest = next.1; ending = next.2; reading = grown; are_done = refl }) in
    let begins = without_fault one.requests next.0 one.ending next.2 (ap fault_in is ∙ none) in
    (begins.0, same ∙ begins.1 ∙ ap (λ xs. xs ++ begins.0) (sym one.are_done))

at_fault : (stream more : List ℕ) (done later : List Completed) (one : Completes stream done) (two : Completes (stream ++ more) later)
    → IsStream (stream ++ more) (one.requests ++ []) (one.rest ++ more) one.ending → Begins later done
at_fault stream more done later one two grown =
    let same = completions_agree (stream ++ more) later (answered (one.requests ++ []) one.ending) two
    (record { requests = one.requests ++ []; rest = one.rest ++ more; ending = one.ending; reading = grown; are_done = refl }) in
    ([], same ∙ ap (λ requests. answered requests one.ending) (append-nil one.requests) ∙ sym one.are_done ∙ sym (append-nil done))

pub completions_stay : CompletionsStay
completions_stay stream more done later one two = by_its_end one.ending refl where
  by_its_end : (ending : Ending) → one.ending ≡ ending → Begins later done
  by_its_end ends_idle is = by_ending stream more done later one two ends_idle is refl
  by_its_end ends_cut is = by_ending stream more done later one two ends_cut is refl
  by_its_end (ends_at why) is = at_fault stream more done later one two (record {
    spelled = streams_grow stream more one.requests [] one.rest (one.rest ++ more) one.reading.spelled refl;
    ended = subst (λ ending. Ends (one.rest ++ more) ending) (sym is) (faults_stay one.rest more why (subst (λ ending. Ends one.rest ending) is one.reading.ended));
  })
