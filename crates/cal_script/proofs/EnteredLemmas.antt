-- Which events of frames, one after the other, were entered, up to the whole run.
use Rattle.std.proofs.Common.{◌≡◌, ℕ, ◌+◌, ◌-◌, ◌≤◌, List, [], ◌∷◌, ◌++◌, length, take, drop, replicate, refl, sym, ap, subst, ◌∙◌, append_assoc, Option}
use Rattle.std.proofs.lemmas.List.{append-nil, take-append-drop}
use Rattle.std.proofs.lemmas.List.Elements.{All-nil, All-cons, All-append}
use Rattle.cal_base.specs.World.Outside.{Takes, Goes}
use Rattle.cal_base.proofs.World.Taking.{Takes-more}
use Rattle.cal_model.specs.declared.request.Event.{Event}
use Rattle.cal_model.specs.History.Journal.{Entry}
use Rattle.cal_model.specs.State.ServerState.{ServerState}
use Rattle.cal_model.specs.Transcripts.ScriptFrames.{Frame, bytes, worker, frame_text, frames_text, IsFrame, last_connection}
use Rattle.cal_model.specs.Transcripts.Transcript.{Standing, Turn}
use Rattle.cal_model.specs.Users.UsersFile.{Users}
use Rattle.cal_script.specs.AnsweredFrames.{TookTurn, EnteredWhole, streams_behind}
use Rattle.cal_script.specs.EnteredRequests.{FrameEnters, FramesAsk, FrontEnters, IsEnteredBy, streams_after}
use Rattle.cal_script.specs.FirstFrames.{IsFrameThen}
use Rattle.cal_script.specs.Standings.{Running, StandsAt, standing_in}
use Rattle.cal_script.proofs.AnsweredLemmas.{behind_place, frames_text-append}
use Rattle.cal_script.proofs.EnteringLemmas.{enters_on}
use Rattle.cal_script.proofs.RunLemmas.{input_of, takes_none}

-- What frames ask

streams_behind-append : (streams : List (List ℕ)) (frames more : List Frame) → streams_behind streams (frames ++ more) ≡ streams_behind (streams_behind streams frames) more
streams_behind-append streams [] more = refl
streams_behind-append streams (frame ∷ frames) more = streams_behind-append (streams_after streams frame) frames more

ask-append : (users : Users) (streams : List (List ℕ)) (frames more : List Frame) (events rest : List Event)
    → FramesAsk users streams frames events → FramesAsk users (streams_behind streams frames) more rest → FramesAsk users streams (frames ++ more) (events ++ rest)
ask-append users streams [] more events rest h k = subst (λ xs. FramesAsk users streams more (xs ++ rest)) (sym h) k
ask-append users streams (frame ∷ frames) more events rest h k =
    (h.0, h.1 ++ rest, ap (λ xs. xs ++ rest) h.2 ∙ append_assoc h.0 h.1 rest, h.3, ask-append users (streams_after streams frame) frames more h.1 rest h.4 k)

-- a turn leaves what came as the frame does
turn_streams : (users : Users) (before after : Standing) (frame : Frame) (printed : List ℕ) → Turn users before frame printed after → after.streams ≡ streams_after before.streams frame
turn_streams users before after (bytes connection moment payload) printed turn = ap (λ (s : Standing). s.streams) turn.stands
turn_streams users before after (worker step slot) printed turn = ap (λ (s : Standing). s.streams) turn.1

-- nothing was asked yet
pub entered_none : (users : Users) (standing : Standing) (script : Running) → StandsAt standing script → EnteredWhole users [] standing.streams script.book.work.journal script
entered_none users standing script stands = record {
  frames = [];
  bounds = All-nil IsFrame;
  spelled = refl;
  events = [];
  ask = refl;
  enters = refl;
  there = standing;
  came = refl;
  stands = stands;
}

-- first some octets, then more
entered_append : (users : Users) (xs ys : List ℕ) (streams : List (List ℕ)) (journal : List Entry) (script next : Running)
    → (a : EnteredWhole users xs streams journal script) → EnteredWhole users ys a.there.streams script.book.work.journal next → EnteredWhole users (xs ++ ys) streams journal next
entered_append users xs ys streams journal script next a b = record {
  frames = a.frames ++ b.frames;
  bounds = All-append IsFrame a.frames b.frames a.bounds b.bounds;
  spelled = ap (λ l. l ++ ys) a.spelled ∙ (ap (λ l. frames_text a.frames ++ l) b.spelled ∙ sym (frames_text-append a.frames b.frames));
  events = a.events ++ b.events;
  ask = ask-append users streams a.frames b.frames a.events b.events a.ask (subst (λ came. FramesAsk users came b.frames b.events) a.came b.ask);
  enters = enters_on users a.events b.events journal script.book.work.journal next.book.work.journal a.enters b.enters;
  there = b.there;
  came = b.came ∙ (ap (λ came. streams_behind came b.frames) a.came ∙ sym (streams_behind-append streams a.frames b.frames));
  stands = b.stands;
}

-- first some octets, then frames in front of others
front_append : (users : Users) (xs ys : List ℕ) (streams : List (List ℕ)) (journal after : List Entry) (script : Running)
    → (a : EnteredWhole users xs streams journal script) → FrontEnters users a.there.streams ys script.book.work.journal after → FrontEnters users streams (xs ++ ys) journal after
front_append users xs ys streams journal after script a b = record {
  frames = a.frames ++ b.frames;
  bounds = All-append IsFrame a.frames b.frames a.bounds b.bounds;
  behind = b.behind;
  spelled = ap (λ l. l ++ ys) a.spelled ∙ (ap (λ l. frames_text a.frames ++ l) b.spelled
      ∙ (sym (append_assoc (frames_text a.frames) (frames_text b.frames) b.behind) ∙ ap (λ l. l ++ b.behind) (sym (frames_text-append a.frames b.frames))));
  events = a.events ++ b.events;
  ask = ask-append users streams a.frames b.frames a.events b.events a.ask (subst (λ came. FramesAsk users came b.frames b.events) a.came b.ask);
  enters = enters_on users a.events b.events journal script.book.work.journal after a.enters b.enters;
}

-- no frame of some octets asked
front_none : (users : Users) (streams : List (List ℕ)) (octets : List ℕ) (journal : List Entry) → FrontEnters users streams octets journal journal
front_none users streams octets journal =
    record { frames = []; bounds = All-nil IsFrame; behind = octets; spelled = refl; events = []; ask = refl; enters = refl }

-- the first frame did
front_one : (users : Users) (streams : List (List ℕ)) (octets : List ℕ) (frame : Frame) (rest : List ℕ) (before after : List Entry) → IsFrameThen octets frame rest
    → FrameEnters users streams frame before after → FrontEnters users streams octets before after
front_one users streams octets frame rest before after found (events, asks, enters) = record {
  frames = frame ∷ [];
  bounds = All-cons IsFrame frame [] found.bounds (All-nil IsFrame);
  behind = rest;
  spelled = found.spelled ∙ ap (λ l. l ++ rest) (sym (append-nil (frame_text frame)));
  events = events;
  ask = (events, [], sym (append-nil events), asks, refl);
  enters = enters;
}

-- and the script stands behind it
entered_one : (users : Users) (frame : Frame) (standing : Standing) (journal : List Entry) (next : Running) (written now : Option (List ℕ)) → IsFrame frame
    → TookTurn users frame standing next written now → FrameEnters users standing.streams frame journal next.book.work.journal
    → EnteredWhole users (frame_text frame) standing.streams journal next
entered_one users frame standing journal next written now bounds took (events, asks, enters) = record {
  frames = frame ∷ [];
  bounds = All-cons IsFrame frame [] bounds (All-nil IsFrame);
  spelled = sym (append-nil (frame_text frame));
  events = events;
  ask = (events, [], sym (append-nil events), asks, refl);
  enters = enters;
  there = took.after;
  came = turn_streams users standing took.after frame took.printed took.turn;
  stands = took.stands;
}

-- The loop over frames

pub entered_next : (users : Users) (at : ℕ) (octets here rest : List ℕ) (frame : Frame) (streams : List (List ℕ)) (journal : List Entry) (script next : Running) (written now : Option (List ℕ))
    → here ≡ drop at octets → at ≤ length octets → EnteredWhole users (take at octets) streams journal script → IsFrameThen here frame rest
    → ((standing : Standing) → StandsAt standing script → TookTurn users frame standing next written now)
    → ((standing : Standing) → StandsAt standing script → FrameEnters users standing.streams frame script.book.work.journal next.book.work.journal)
    → EnteredWhole users (take (length octets - length rest) octets) streams journal next
entered_next users at octets here rest frame streams journal script next written now is_here within a found took enters =
    let place = behind_place at octets here rest frame is_here within found in
    subst (λ l. EnteredWhole users l streams journal next) (sym place.1)
    (entered_append users (take at octets) (frame_text frame) streams journal script next a
    (entered_one users frame a.there script.book.work.journal next written now found.bounds (took a.there a.stands) (enters a.there a.stands)))

-- the ways out of it
front_of : (users : Users) (at : ℕ) (octets : List ℕ) (streams : List (List ℕ)) (journal after : List Entry) (script : Running)
    → (a : EnteredWhole users (take at octets) streams journal script) → FrontEnters users a.there.streams (drop at octets) script.book.work.journal after → FrontEnters users streams octets journal after
front_of users at octets streams journal after script a b =
    subst (λ l. FrontEnters users streams l journal after) (take-append-drop at octets) (front_append users (take at octets) (drop at octets) streams journal after script a b)

pub front_so_far : (users : Users) (at : ℕ) (octets : List ℕ) (streams : List (List ℕ)) (journal : List Entry) (script : Running)
    → EnteredWhole users (take at octets) streams journal script → FrontEnters users streams octets journal script.book.work.journal
front_so_far users at octets streams journal script a =
    front_of users at octets streams journal script.book.work.journal script a (front_none users a.there.streams (drop at octets) script.book.work.journal)

pub front_stopped : (users : Users) (at : ℕ) (octets here rest : List ℕ) (frame : Frame) (streams : List (List ℕ)) (journal after : List Entry) (script : Running)
    → here ≡ drop at octets → EnteredWhole users (take at octets) streams journal script → IsFrameThen here frame rest
    → ((standing : Standing) → StandsAt standing script → FrameEnters users standing.streams frame script.book.work.journal after)
    → FrontEnters users streams octets journal after
front_stopped users at octets here rest frame streams journal after script is_here a found enters =
    front_of users at octets streams journal after script a
    (subst (λ l. FrontEnters users a.there.streams l script.book.work.journal after) is_here
    (front_one users a.there.streams here frame rest script.book.work.journal after found (enters a.there a.stands)))

-- The run

-- the octets before those that are kept are whole frames, some of whose events were entered
pub record HasEnteredSoFar (users : Users) (left : Option (List ℕ)) (journal : List Entry) (kept : List ℕ) (script : Running) (left_now : Option (List ℕ)) : Type 0 where
  pub done : List ℕ
  pub entered : EnteredWhole users done (replicate (last_connection + 1) []) journal script
  pub took : Takes left (done ++ kept) left_now

-- the start of a run
pub run_enters_none : (users : Users) (state : ServerState) (left : Option (List ℕ)) (kept : List ℕ) (script : Running) → kept ≡ [] → StandsAt (standing_in state) script
    → HasEnteredSoFar users left script.book.work.journal kept script left
run_enters_none users state left kept script e stands =
    record { done = []; entered = entered_none users (standing_in state) script stands; took = subst (λ l. Takes left l left) (sym e) (takes_none left) }

-- a piece was taken
pub run_enters_more : (users : Users) (left : Option (List ℕ)) (journal : List Entry) (kept more : List ℕ) (script : Running) (left_now left_next : Option (List ℕ))
    → HasEnteredSoFar users left journal kept script left_now → Goes left_now left_next kept more → HasEnteredSoFar users left journal more script left_next
run_enters_more users left journal kept more script left_now left_next h (octets, took, e) = record {
  done = h.done;
  entered = h.entered;
  took = subst (λ l. Takes left l left_next) (append_assoc h.done kept octets ∙ ap (λ l. h.done ++ l) (sym e))
      (Takes-more left left_now left_next (h.done ++ kept) octets h.took took);
}

-- the whole frames in front of what is kept were answered
pub run_enters_on : (users : Users) (len : ℕ) (octets rest : List ℕ) (left : Option (List ℕ)) (journal : List Entry) (kept : List ℕ) (script next : Running) (left_now : Option (List ℕ))
    → octets ≡ kept → rest ≡ drop len kept → HasEnteredSoFar users left journal kept script left_now
    → ((standing : Standing) → StandsAt standing script → EnteredWhole users (take len octets) standing.streams script.book.work.journal next)
    → HasEnteredSoFar users left journal rest next left_now
run_enters_on users len octets rest left journal kept script next left_now e f h entered =
    let a = h.entered in
    record {
      done = h.done ++ take len kept;
      entered = entered_append users h.done (take len kept) (replicate (last_connection + 1) []) journal script next a
          (subst (λ l. EnteredWhole users (take len l) a.there.streams script.book.work.journal next) e (entered a.there a.stands));
      took = subst (λ l. Takes left l left_now)
          (ap (λ l. h.done ++ l) (sym (take-append-drop len kept)) ∙ (sym (append_assoc h.done (take len kept) (drop len kept)) ∙ ap (λ l. (h.done ++ take len kept) ++ l) (sym f))) h.took;
    }

-- frames in front of the octets that were taken are in front of the input
front_of_input : (users : Users) (left left_now : Option (List ℕ)) (octets : List ℕ) (before after : List Entry) → Takes left octets left_now
    → FrontEnters users (replicate (last_connection + 1) []) octets before after → IsEnteredBy users left before after
front_of_input users left left_now octets before after took a =
    let input = input_of left left_now octets (frames_text a.frames) a.behind took a.spelled in
    record {
      input = input.0;
      told = input.1;
      front = record { frames = a.frames; bounds = a.bounds; behind = input.2.0; spelled = input.2.1; events = a.events; ask = a.ask; enters = a.enters };
    }

-- the run ends with what frames in front of what is kept ask
run_entered_front : (users : Users) (left : Option (List ℕ)) (journal after : List Entry) (kept : List ℕ) (script : Running) (left_now : Option (List ℕ))
    → (h : HasEnteredSoFar users left journal kept script left_now) → FrontEnters users h.entered.there.streams kept script.book.work.journal after
    → IsEnteredBy users left journal after
run_entered_front users left journal after kept script left_now h front =
    front_of_input users left left_now (h.done ++ kept) journal after h.took
    (front_append users h.done kept (replicate (last_connection + 1) []) journal after script h.entered front)

pub run_entered_last : (users : Users) (octets : List ℕ) (left : Option (List ℕ)) (journal after : List Entry) (kept : List ℕ) (script : Running) (left_now : Option (List ℕ))
    → octets ≡ kept → HasEnteredSoFar users left journal kept script left_now
    → ((standing : Standing) → StandsAt standing script → FrontEnters users standing.streams octets script.book.work.journal after)
    → IsEnteredBy users left journal after
run_entered_last users octets left journal after kept script left_now e h enters =
    run_entered_front users left journal after kept script left_now h
    (subst (λ l. FrontEnters users h.entered.there.streams l script.book.work.journal after) e (enters h.entered.there h.entered.stands))

-- or with what was entered so far
pub run_entered : (users : Users) (left : Option (List ℕ)) (journal : List Entry) (kept : List ℕ) (script : Running) (left_now : Option (List ℕ))
    → HasEnteredSoFar users left journal kept script left_now → IsEnteredBy users left journal script.book.work.journal
run_entered users left journal kept script left_now h =
    run_entered_front users left journal script.book.work.journal kept script left_now h (front_none users h.entered.there.streams kept script.book.work.journal)

-- nothing was done at all
pub run_entered_none : (users : Users) (left : Option (List ℕ)) (journal : List Entry) → IsEnteredBy users left journal journal
run_entered_none users left journal = front_of_input users left left [] journal journal (takes_none left) (front_none users (replicate (last_connection + 1) []) [] journal)
