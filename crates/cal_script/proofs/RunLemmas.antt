-- How far a run has come, and how it ends there.
use Rattle.std.proofs.Common.{◌≡◌, ◌≢◌, ℕ, ◌+◌, ◌-◌, ◌^◌, ◌<◌, ◌≤◌, List, [], ◌∷◌, ◌++◌, length, take, drop, refl, sym, ap, subst, ◌∙◌, arith, append_assoc, length-append, length-take, Option, Some, None, IfSome, inl, inr, Bool, true, false, ◌==◌, if◌then◌else◌}
use Rattle.std.proofs.lemmas.Bool.{eqb-true, eqb-false}
use Rattle.std.proofs.lemmas.Bool.Decides.{eqb_tells}
use Rattle.std.proofs.lemmas.List.{append-nil, take-append-drop}
use Rattle.std.proofs.lemmas.List.Elements.{All-nil, All-append}
use Rattle.std.proofs.lemmas.Option.{same_Some}
use Rattle.std.specs.Prelude.{pos}
use Rattle.cal_base.specs.World.Outside.{Rose, Takes, Goes}
use Rattle.cal_base.proofs.World.Taking.{Takes-more, Adds-more}
use Rattle.cal_model.specs.Transcripts.ScriptFrames.{bytes, Frame, frame_text, frames_text, IsFrame}
use Rattle.cal_model.specs.History.Claims.{Work}
use Rattle.cal_model.specs.History.Journal.{replay, IsLegal}
use Rattle.cal_model.specs.State.ServerState.{ServerState, directory_of, opening_state}
use Rattle.cal_model.specs.Transcripts.Transcript.{Standing, IsPrinted, IsPrintedInPart, at_start}
use Rattle.cal_model.proofs.Transcripts.GrowingScripts.{scripts_go_on}
use Rattle.cal_model.specs.Users.UsersFile.{Users}
use Rattle.cal_book.specs.Cores.{Core, state_in}
use Rattle.cal_book.specs.LegalJournals.{is_legal, LegalIsTold}
use Rattle.cal_script.specs.Answering.{IsBookOf}
use Rattle.cal_script.specs.AnsweredFrames.{AnsweredWhole, AnsweredInPart, AnsweredTo, BrokeAmong}
use Rattle.cal_script.specs.declared.running.FrameEnd.{FrameEnd}
use Rattle.cal_script.specs.declared.running.FrameEnd.TheVariants.{Done, Frame as BadFrame, Input, Output, NoMemory}
use Rattle.cal_script.specs.declared.running.FramesOn.{FramesOn}
use Rattle.cal_script.specs.declared.running.FramesOn.TheVariants.{End, Broken}
use Rattle.cal_script.specs.FrameHeads.{IsFrameStart}
use Rattle.cal_script.specs.FirstFrames.{BeginsNoFrame, NeverBeginsFrame}
use Rattle.cal_script.specs.ScriptEnds.{IsPrintedFrom, IsPrintedInPartFrom, RunTold, HasEnded, RanToEnd, MetBadFrame, StoppedReading, WroteFront, BrokeOff, HasEndedOn, IsLeft}
use Rattle.cal_script.specs.Standings.{Running, StandsAt, standing_in}
use Rattle.cal_script.proofs.FrameLemmas.{no_frame_yet}
use Rattle.cal_script.proofs.AnsweringLemmas.{adds_none}
use Rattle.cal_script.proofs.AnsweredLemmas.{whole_none, whole_append, part_append, part_none, length-frame_text, leads_append, frames_text-append}

-- a run that took and wrote nothing yet
abbrev pub nothing_told : Option (List ℕ) → Option (List ℕ) → RunTold
nothing_told left written = record { left = left; left_after = left; written = written; written_after = written }

-- how far a run has come: the octets that are answered, and those that were taken and are kept
pub record HasCome (users : Users) (before : Standing) (told : RunTold) (place : ℕ) (kept : List ℕ) (script : Running) : Type 0 where
  pub done : List ℕ
  pub answered : AnsweredWhole users done before script told.written told.written_after
  pub took : Takes told.left (done ++ kept) told.left_after
  pub place_is : place ≡ length done

-- no frame stands in no octets
no_frame_in_none : BeginsNoFrame []
no_frame_in_none frame more bounds e = omega (arith, ap length e, length-append (frame_text frame) more, length-frame_text frame)

-- no octets are the start of a frame
pub start_of_none : IsFrameStart []
start_of_none = inl (record { lacks = All-nil (λ (c : ℕ). c ≢ 10); short = omega arith })

pub takes_none : (left : Option (List ℕ)) → Takes left [] left
takes_none None = tt
takes_none (Some xs) = (xs, refl, refl)

-- the start of a run
pub come_start : (users : Users) (before : Standing) (left written : Option (List ℕ)) (kept : List ℕ) (script : Running) → kept ≡ [] → StandsAt before script → HasCome users before (nothing_told left written) 0 kept script
come_start users before left written kept script e stands =
    subst (λ l. HasCome users before (nothing_told left written) 0 l script) (sym e)
    (record { done = []; answered = whole_none users before script written stands; took = takes_none left; place_is = refl })

-- a piece was taken
pub come_more : (users : Users) (before : Standing) (told : RunTold) (place : ℕ) (kept more : List ℕ) (script : Running) (left_next : Option (List ℕ))
    → HasCome users before told place kept script → Goes told.left_after left_next kept more → HasCome users before (record told { left_after = left_next }) place more script
come_more users before told place kept more script left_next h (octets, took, e) = record {
  done = h.done;
  answered = h.answered;
  took = subst (λ l. Takes told.left l left_next) (append_assoc h.done kept octets ∙ ap (λ l. h.done ++ l) (sym e))
      (Takes-more told.left told.left_after left_next (h.done ++ kept) octets h.took took);
  place_is = h.place_is;
}

-- frames in front of what is kept were answered
come_on : (users : Users) (before : Standing) (told : RunTold) (place len : ℕ) (kept : List ℕ) (script next : Running) (written_next : Option (List ℕ))
    → (h : HasCome users before told place kept script) → AnsweredTo users len kept h.answered.after next told.written_after written_next
    → HasCome users before (record told { written_after = written_next }) (place + len) (drop len kept) next
come_on users before told place len kept script next written_next h a = record {
  done = h.done ++ take len kept;
  answered = whole_append users h.done (take len kept) before script next told.written told.written_after written_next h.answered a.whole;
  took = subst (λ l. Takes told.left l told.left_after) (ap (λ l. h.done ++ l) (sym (take-append-drop len kept)) ∙ sym (append_assoc h.done (take len kept) (drop len kept))) h.took;
  place_is = omega (arith, h.place_is, length-append h.done (take len kept), length-take len kept, a.within);
}

-- whole frames in front of what is kept were answered, and behind them stands the start of one
pub come_cut : (users : Users) (before : Standing) (len : ℕ) (octets rest : List ℕ) (told : RunTold) (place : ℕ) (kept : List ℕ) (script next : Running) (written_next : Option (List ℕ))
    → octets ≡ kept → rest ≡ drop len kept → HasCome users before told place kept script
    → ((standing : Standing) → StandsAt standing script → AnsweredTo users len octets standing next told.written_after written_next × IsFrameStart (drop len octets))
    → HasCome users before (record told { written_after = written_next }) (place + len) rest next × IsFrameStart rest × (len ≤ length kept)
come_cut users before len octets rest told place kept script next written_next e f h answered =
    let a = answered h.answered.after h.answered.stands in
    let to : AnsweredTo users len kept h.answered.after next told.written_after written_next = subst (λ l. AnsweredTo users len l h.answered.after next told.written_after written_next) e a.0 in
    let start : IsFrameStart (drop len octets) = a.1 in (
      subst (λ l. HasCome users before (record told { written_after = written_next }) (place + len) l next) (sym f) (come_on users before told place len kept script next written_next h to),
      subst IsFrameStart (ap (drop len) e ∙ sym f) start,
      to.within,
    )

-- octets that are answered, and a rest in which no frame stands, are cut there
printed_for : (users : Users) (before : Standing) (octets rest : List ℕ) (written written_now : Option (List ℕ)) (script : Running) (a : AnsweredWhole users octets before script written written_now)
    → BeginsNoFrame rest → IsPrintedFrom users before (state_in script.book) (octets ++ rest) rest a.printed
printed_for users before octets rest written written_now script a none = record {
  frames = a.frames;
  cut = record { bounds = a.bounds; spelled = ap (λ l. l ++ rest) a.spelled; ended = none };
  after = a.after;
  leads = a.leads;
  state = a.stands.server;
}

-- what was taken is all, where nothing is left
all_taken : (left left_now : Option (List ℕ)) (octets : List ℕ) → Takes left octets left_now → left_now ≡ Some [] → IfSome left (λ all. all ≡ octets)
all_taken None left_now octets took e = tt
all_taken (Some xs) left_now octets (rest, f, h) e = h ∙ (ap (λ l. octets ++ l) (same_Some rest [] (sym f ∙ e)) ∙ append-nil octets)

-- the end of the input, with nothing kept
ran_to_end : (users : Users) (before : Standing) (told : RunTold) (place : ℕ) (kept : List ℕ) (script : Running)
    → HasCome users before told place kept script → kept ≡ [] → told.left_after ≡ Some [] → RanToEnd (IsPrintedFrom users before (state_in script.book)) told place
ran_to_end users before told place kept script h none e = record {
  all = h.done ++ [];
  input_is = all_taken told.left told.left_after (h.done ++ []) (subst (λ l. Takes told.left (h.done ++ l) told.left_after) none h.took) e;
  ended = e;
  printed = h.answered.printed;
  follows = printed_for users before h.done [] told.written told.written_after script h.answered no_frame_in_none;
  added = h.answered.added;
  place_is = h.place_is ∙ ap length (sym (append-nil h.done));
}

-- the end of the input, with a rest kept
cut_at_end : (users : Users) (before : Standing) (told : RunTold) (place : ℕ) (kept : List ℕ) (script : Running)
    → HasCome users before told place kept script → BeginsNoFrame kept → kept ≢ [] → told.left_after ≡ Some [] → MetBadFrame (IsPrintedFrom users before (state_in script.book)) told place
cut_at_end users before told place kept script h unmet some e = record {
  all = h.done ++ kept;
  input_is = all_taken told.left told.left_after (h.done ++ kept) h.took e;
  rest = kept;
  some = some;
  printed = h.answered.printed;
  follows = printed_for users before h.done kept told.written told.written_after script h.answered unmet;
  added = h.answered.added;
  place_is = omega (arith, h.place_is, length-append h.done kept);
}

-- nothing at all
empty : (octets : List ℕ) → length octets ≡ 0 → octets ≡ []
empty [] e = refl
empty (octet ∷ octets) e = absurd (omega (arith, e))

-- what no frame begins with is not nothing
never_none : ¬ NeverBeginsFrame []
never_none h = h (frame_text (bytes 0 0 [])) (bytes 0 0 []) []
    (record { connection_to = omega arith; moment_to = omega arith; payload_to = omega arith }) (sym (append-nil (frame_text (bytes 0 0 []))))

bad_with : (users : Users) (before : Standing) (told : RunTold) (place : ℕ) (kept behind : List ℕ) (script : Running)
    → (h : HasCome users before told place kept script) → NeverBeginsFrame kept → IfSome told.left (λ octets. octets ≡ h.done ++ (kept ++ behind))
    → MetBadFrame (IsPrintedFrom users before (state_in script.book)) told place
bad_with users before told place kept behind script h never input_is = record {
  all = h.done ++ (kept ++ behind);
  input_is = input_is;
  rest = kept ++ behind;
  some = λ e. never_none (subst NeverBeginsFrame (empty kept (omega (arith, ap length e, length-append kept behind))) never);
  printed = h.answered.printed;
  follows = printed_for users before h.done (kept ++ behind) told.written told.written_after script h.answered (never behind);
  added = h.answered.added;
  place_is = omega (arith, h.place_is, length-append h.done (kept ++ behind));
}

-- what is kept begins with no frame, whatever follows
met_bad_frame : (users : Users) (before : Standing) (told : RunTold) (place : ℕ) (kept : List ℕ) (script : Running)
    → HasCome users before told place kept script → NeverBeginsFrame kept → MetBadFrame (IsPrintedFrom users before (state_in script.book)) told place
met_bad_frame users before told place kept script h never =
    let all = all_left told.left told.left_after h.done kept h.took in
    bad_with users before told place kept all.0 script h never all.1
  where
    all_left : (left left_now : Option (List ℕ)) (done kept : List ℕ) → Takes left (done ++ kept) left_now → (behind : List ℕ) × IfSome left (λ octets. octets ≡ done ++ (kept ++ behind))
    all_left None left_now done kept took = ([], tt)
    all_left (Some xs) left_now done kept took = (took.0, took.2 ∙ append_assoc done kept took.0)

-- nothing was taken any more
pub stopped_reading : (users : Users) (before : Standing) (told : RunTold) (place : ℕ) (kept : List ℕ) (script : Running) (left_next : Option (List ℕ))
    → HasCome users before told place kept script → IsFrameStart kept → left_next ≡ told.left_after → StoppedReading (IsPrintedFrom users before (state_in script.book)) (record told { left_after = left_next })
stopped_reading users before told place kept script left_next h start e = record {
  taken = h.done ++ kept;
  took = subst (λ l. Takes told.left (h.done ++ kept) l) (sym e) h.took;
  rest = kept;
  start = start;
  printed = h.answered.printed;
  follows = printed_for users before h.done kept told.written told.written_after script h.answered (no_frame_yet kept start);
  added = h.answered.added;
}

-- an input begins with what was taken from it
pub input_of : (left left_now : Option (List ℕ)) (octets front behind : List ℕ) → Takes left octets left_now → octets ≡ front ++ behind
    → (input : List ℕ) × IfSome left (λ all. all ≡ input) × ((rest : List ℕ) × (input ≡ front ++ rest))
input_of None left_now octets front behind took e = (front, tt, ([], sym (append-nil front)))
input_of (Some xs) left_now octets front behind took e =
    (xs, refl, (behind ++ took.0, took.2 ∙ (ap (λ l. l ++ took.0) e ∙ append_assoc front behind took.0)))

-- what is kept was answered in part
wrote_front : (users : Users) (before : Standing) (told : RunTold) (place : ℕ) (kept : List ℕ) (script : Running) (left_next written_next : Option (List ℕ))
    → (h : HasCome users before told place kept script) → AnsweredInPart users kept h.answered.after told.written_after written_next
    → WroteFront (IsPrintedInPartFrom users before) (record told { left_after = left_next; written_after = written_next })
wrote_front users before told place kept script left_next written_next h a =
    let all = part_append users h.done kept before script told.written told.written_after written_next h.answered a in
    let input = input_of told.left told.left_after (h.done ++ kept) (frames_text all.frames) all.behind h.took all.spelled in
    record {
      input = input.0;
      input_is = input.1;
      printed = all.printed;
      follows = record {
        frames = all.frames;
        bounds = all.bounds;
        behind = input.2.0;
        spelled = input.2.1;
        missing = all.missing;
        follows = scripts_go_on.follows users before all.after all.frames (all.printed ++ all.missing) all.leads;
      };
      added = all.added;
    }

-- nothing of it was answered
pub wrote_before : (users : Users) (before : Standing) (told : RunTold) (place : ℕ) (kept : List ℕ) (script : Running) (left_next : Option (List ℕ))
    → HasCome users before told place kept script → WroteFront (IsPrintedInPartFrom users before) (record told { left_after = left_next })
wrote_before users before told place kept script left_next h =
    wrote_front users before told place kept script left_next told.written_after h (part_none users kept h.answered.after told.written_after)

-- nothing was done at all
pub wrote_none : (users : Users) (before : Standing) (left written : Option (List ℕ)) → WroteFront (IsPrintedInPartFrom users before) (nothing_told left written)
wrote_none users before left written =
    let input = input_of left left [] [] [] (takes_none left) refl in
    record {
      input = input.0;
      input_is = input.1;
      printed = [];
      follows = record { frames = []; bounds = All-nil IsFrame; behind = input.2.0; spelled = input.2.1; missing = []; follows = refl };
      added = adds_none written;
    }

-- what is kept was answered in part, wherever the script stood
pub wrote_cut : (users : Users) (before : Standing) (octets : List ℕ) (told : RunTold) (place : ℕ) (kept : List ℕ) (script : Running) (written_next : Option (List ℕ))
    → octets ≡ kept → HasCome users before told place kept script
    → ((standing : Standing) → StandsAt standing script → AnsweredInPart users octets standing told.written_after written_next) → WroteFront (IsPrintedInPartFrom users before) (record told { written_after = written_next })
wrote_cut users before octets told place kept script written_next e h answered =
    wrote_front users before told place kept script told.left_after written_next h
    (subst (λ xs. AnsweredInPart users xs h.answered.after told.written_after written_next) e
    (answered h.answered.after h.answered.stands))

-- the desk told its fault among what is kept
pub broke_here : (users : Users) (before : Standing) (octets : List ℕ) (told : RunTold) (place : ℕ) (kept : List ℕ) (script : Running) (written_next : Option (List ℕ))
    → octets ≡ kept → HasCome users before told place kept script
    → ((standing : Standing) → StandsAt standing script → BrokeAmong users octets standing told.written_after written_next) → BrokeOff users before (record told { written_after = written_next })
broke_here users before octets told place kept script written_next e h broken =
    let all = h.answered in
    let b : BrokeAmong users kept all.after told.written_after written_next = subst (λ xs. BrokeAmong users xs all.after told.written_after written_next) e (broken all.after all.stands) in
    let frames : List Frame = all.frames ++ b.frames in
    let text : List ℕ = frame_text b.frame in
    let spelled : h.done ++ kept ≡ (frames_text frames ++ text) ++ b.behind =
    ap (λ l. l ++ kept) all.spelled
    ∙ (ap (λ l. frames_text all.frames ++ l) b.spelled
    ∙ (sym (append_assoc (frames_text all.frames) (frames_text b.frames) (text ++ b.behind))
    ∙ (ap (λ l. l ++ (text ++ b.behind)) (sym (frames_text-append all.frames b.frames))
    ∙ sym (append_assoc (frames_text frames) text b.behind)))) in
    let input = input_of told.left told.left_after (h.done ++ kept) (frames_text frames ++ text) b.behind h.took spelled in
    record {
      input = input.0;
      input_is = input.1;
      broke = record {
        frames = frames;
        bounds = All-append IsFrame all.frames b.frames all.bounds b.bounds;
        frame = b.frame;
        is_frame = b.is_frame;
        behind = input.2.0;
        spelled = input.2.1 ∙ append_assoc (frames_text frames) text input.2.0;
        printed = all.printed ++ b.printed;
        there = b.there;
        leads = leads_append users before all.after b.there all.frames b.frames all.printed b.printed all.leads b.leads;
        middle = b.middle;
        added = Adds-more told.written told.written_after b.middle all.printed b.printed all.added b.added;
        last = b.last;
      };
    }

-- the end of the input, where a piece of no octets was taken
pub at_end : (users : Users) (before : Standing) (nothing_left : Bool) (ended : FrameEnd) (told : RunTold) (place : ℕ) (kept more : List ℕ) (script : Running) (left_next : Option (List ℕ))
    → HasCome users before told place kept script → IsFrameStart kept → Goes told.left_after left_next kept more → (left_next ≡ Some []) × (more ≡ kept)
    → nothing_left ≡ (length more == 0) → ended ≡ (if nothing_left then Done place else BadFrame place)
    → HasEnded (IsPrintedFrom users before (state_in script.book)) (IsPrintedInPartFrom users before) ended (record told { left_after = left_next })
at_end users before true ended told place kept more script left_next h start goes e b f =
    let come = come_more users before told place kept more script left_next h goes in
    subst (λ x. HasEnded (IsPrintedFrom users before (state_in script.book)) (IsPrintedInPartFrom users before) x (record told { left_after = left_next })) (sym f)
    (ran_to_end users before (record told { left_after = left_next }) place more script come (empty more (eqb-true (length more) 0 (sym b))) e.0)
at_end users before false ended told place kept more script left_next h start goes e b f =
    let come = come_more users before told place kept more script left_next h goes in
    subst (λ x. HasEnded (IsPrintedFrom users before (state_in script.book)) (IsPrintedInPartFrom users before) x (record told { left_after = left_next })) (sym f)
    (cut_at_end users before (record told { left_after = left_next }) place more script come (subst BeginsNoFrame (sym e.1) (no_frame_yet kept start))
    (λ none. eqb-false (length more) 0 (sym b) (ap length none)) e.0)

-- behind the whole frames of what is kept begins none, whatever follows
pub bad_behind : (users : Users) (before : Standing) (len : ℕ) (octets : List ℕ) (told : RunTold) (place : ℕ) (kept : List ℕ) (script next : Running) (written_next : Option (List ℕ))
    → octets ≡ kept → HasCome users before told place kept script
    → ((standing : Standing) → StandsAt standing script → AnsweredTo users len octets standing next told.written_after written_next × NeverBeginsFrame (drop len octets))
    → MetBadFrame (IsPrintedFrom users before (state_in next.book)) (record told { written_after = written_next }) (place + len)
bad_behind users before len octets told place kept script next written_next e h answered =
    let a = answered h.answered.after h.answered.stands in
    let to : AnsweredTo users len kept h.answered.after next told.written_after written_next = subst (λ l. AnsweredTo users len l h.answered.after next told.written_after written_next) e a.0 in
    let never : NeverBeginsFrame (drop len octets) = a.1 in
    met_bad_frame users before (record told { written_after = written_next }) (place + len) (drop len kept) next
    (come_on users before told place len kept script next written_next h to) (subst NeverBeginsFrame (ap (drop len) e) never)

-- the octets that came so far are at most all that a source may give
pub bounded_next : (place len kept more rest n allowed allowed_next : ℕ) → (0 < place + kept → place + kept + allowed ≤ 2 ^ 62) → more ≡ kept + n
    → n + allowed_next ≤ allowed → allowed ≤ 2 ^ 62 → rest ≡ more - len → len ≤ more → 0 < place + len + rest → place + len + rest + allowed_next ≤ 2 ^ 62
bounded_next place len kept more rest n allowed allowed_next before longer given bounded rest_is within some =
    elim (eqb_tells (place + kept) 0) [ inl none ↦ omega (arith, none.1) | inr came ↦ omega (arith, before (omega (arith, came.1))) ]

-- From the opening state

printed_at_start : (users : Users) (server : ServerState) (input rest output : List ℕ) → IsPrintedFrom users (at_start users) server input rest output → IsPrinted users input rest output
printed_at_start users server input rest output h = record { frames = h.frames; cut = h.cut; follows = scripts_go_on.follows users (at_start users) h.after h.frames output h.leads }

front_at_start : (users : Users) (told : RunTold) → WroteFront (IsPrintedInPartFrom users (at_start users)) told → WroteFront (IsPrintedInPart users) told
front_at_start users told h = record {
  input = h.input;
  input_is = h.input_is;
  printed = h.printed;
  follows = record { frames = h.follows.frames; bounds = h.follows.bounds; behind = h.follows.behind; spelled = h.follows.spelled; missing = h.follows.missing; follows = h.follows.follows };
  added = h.added;
}

opened_at_start : (users : Users) (server : ServerState) (ended : FrameEnd) (told : RunTold)
    → HasEnded (IsPrintedFrom users (at_start users) server) (IsPrintedInPartFrom users (at_start users)) ended told → HasEnded (IsPrinted users) (IsPrintedInPart users) ended told
opened_at_start users server (Done place) told h = record {
  all = h.all;
  input_is = h.input_is;
  ended = h.ended;
  printed = h.printed;
  follows = printed_at_start users server h.all [] h.printed h.follows;
  added = h.added;
  place_is = h.place_is;
}
opened_at_start users server (BadFrame place) told h = record {
  all = h.all;
  input_is = h.input_is;
  rest = h.rest;
  some = h.some;
  printed = h.printed;
  follows = printed_at_start users server h.all h.rest h.printed h.follows;
  added = h.added;
  place_is = h.place_is;
}
opened_at_start users server Input told h = record {
  taken = h.taken;
  took = h.took;
  rest = h.rest;
  start = h.start;
  printed = h.printed;
  follows = printed_at_start users server h.taken h.rest h.printed h.follows;
  added = h.added;
}
opened_at_start users server Output told h = front_at_start users told h
opened_at_start users server NoMemory told h = front_at_start users told h

-- a run at a desk in the opening state is one from the start
pub run_from_start : (users : Users) (state server : ServerState) (ended : FrameEnd) (told : RunTold) → state ≡ opening_state (directory_of users)
    → HasEnded (IsPrintedFrom users (standing_in state) server) (IsPrintedInPartFrom users (standing_in state)) ended told → HasEnded (IsPrinted users) (IsPrintedInPart users) ended told
run_from_start users state server ended told e h =
    opened_at_start users server ended told
    (subst (λ s. HasEnded (IsPrintedFrom users (standing_in s) server) (IsPrintedInPartFrom users (standing_in s)) ended told) e h)

-- a book in which nothing happened shows the opening state
pub opening_book : (book : Core) (users : Users) → book.users ≡ users → book.work ≡ record { journal = []; latest = pos 0; pieces = []; out = [] } → state_in book ≡ opening_state (directory_of users)
opening_book book users e work =
    ap (λ (w : Work). replay (directory_of book.users) w.journal) work ∙ ap (λ (known : Users). opening_state (directory_of known)) e

-- Behind the run

-- the book's state is the same where its users and its journal are
pub same_state : (book other : Core) → other.users ≡ book.users → other.work.journal ≡ book.work.journal → state_in other ≡ state_in book
same_state book other e journal =
    ap (λ (known : Users). replay (directory_of known) other.work.journal) e ∙ ap (λ entries. replay (directory_of book.users) entries) journal

pub ended_later : {X : Type 0} (users : Users) (before mid after : ServerState) (ended : FramesOn X) (told : RunTold) → after ≡ mid
    → HasEndedOn users before mid ended told → HasEndedOn users before after ended told
ended_later users before mid after ended told e h = subst (λ s. HasEndedOn users before s ended told) (sym e) h

-- the desk is as the run left it
pub left_later : {X : Type 0} (ended : FramesOn X) (before mid after : Bool) (count counted counted_now : ℕ) → after ≡ mid → counted ≤ counted_now
    → IsLeft ended before count mid counted → IsLeft ended before count after counted_now
left_later (End ended) before mid after count counted counted_now e h k = e ∙ k
left_later (Broken fault) before mid after count counted counted_now e h k = (e ∙ k.0, λ unbroken. rose_on (k.1 unbroken)) where
  rose_on : Rose count counted → Rose count counted_now
  rose_on (inl less) = inl (omega (arith, less, h))
  rose_on (inr full) = inr full

-- the book of a desk whose test of its journal passes is legal
pub told_book : (users : Users) (book : Core) → LegalIsTold → book.users ≡ users → is_legal (directory_of book.users) book.work.journal ≡ true → IsBookOf users book
told_book users book told e passes = record {
  users_are = e;
  legal = subst (λ (known : Users). IsLegal (directory_of known) book.work.journal) e (told.is (directory_of book.users) book.work.journal passes);
}

-- nothing was done at all
pub nothing_at_start : (users : Users) (left written : Option (List ℕ)) → WroteFront (IsPrintedInPart users) (nothing_told left written)
nothing_at_start users left written = front_at_start users (nothing_told left written) (wrote_none users (at_start users) left written)
