-- Answering frames one after the other.
use Rattle.std.proofs.Common.{◌≡◌, ℕ, ◌+◌, ◌-◌, ◌<◌, ◌≤◌, List, [], ◌∷◌, ◌++◌, length, take, drop, refl, sym, ap, subst, ◌∙◌, arith, append_assoc, length-append, length-drop, Option}
use Rattle.std.proofs.lemmas.Grind.{flat_map-append}
use Rattle.std.proofs.lemmas.List.{append-nil, take-append-drop}
use Rattle.std.proofs.lemmas.List.Elements.{All-nil, All-cons, All-append}
use Rattle.std.proofs.Math.Seq.{take-add, take-append_seam}
use Rattle.cal_base.proofs.World.Taking.{Adds-more}
use Rattle.cal_model.specs.Transcripts.ScriptFrames.{claim, expand, publish, abandon, Frame, bytes, worker, frame_text, frames_text, IsFrame}
use Rattle.cal_model.specs.Transcripts.Transcript.{Standing, Turn}
use Rattle.cal_model.specs.Transcripts.TranscriptLaws.{Leads}
use Rattle.cal_model.specs.Users.UsersFile.{Users}
use Rattle.cal_script.specs.AnsweredFrames.{TookTurn, TookTurnInPart, BrokeInTurn, AnsweredWhole, AnsweredInPart, AnsweredTo, BrokeAmong}
use Rattle.cal_script.specs.FirstFrames.{IsFrameThen}
use Rattle.cal_script.specs.Standings.{Running, StandsAt}
use Rattle.cal_script.proofs.AnsweringLemmas.{adds_none}

-- one list of frames after another
pub leads_append : (users : Users) (before between after : Standing) (frames more : List Frame) (output rest : List ℕ)
    → Leads users before frames output between → Leads users between more rest after → Leads users before (frames ++ more) (output ++ rest) after
leads_append users before between after [] more output rest h r =
    subst (λ xs. Leads users before more (xs ++ rest) after) (sym h.0) (subst (λ s. Leads users s more rest after) h.1 r)
leads_append users before between after (frame ∷ frames) more output rest h r =
    (h.0, h.1 ++ rest, h.2, ap (λ xs. xs ++ rest) h.3 ∙ append_assoc h.0 h.1 rest, h.4, leads_append users h.2 between after frames more h.1 rest h.5 r)

-- one frame
leads_one : (users : Users) (before after : Standing) (frame : Frame) (printed : List ℕ) → Turn users before frame printed after → Leads users before (frame ∷ []) printed after
leads_one users before after frame printed turn = (printed, [], after, sym (append-nil printed), turn, (refl, refl))

-- the spellings of two lists of frames
pub frames_text-append : (frames more : List Frame) → frames_text (frames ++ more) ≡ frames_text frames ++ frames_text more
frames_text-append frames more = flat_map-append frame_text frames more

-- first some octets, then more
pub whole_append : (users : Users) (xs ys : List ℕ) (before : Standing) (script next : Running) (written mid now : Option (List ℕ))
    → (a : AnsweredWhole users xs before script written mid) → AnsweredWhole users ys a.after next mid now → AnsweredWhole users (xs ++ ys) before next written now
whole_append users xs ys before script next written mid now a b = record {
  frames = a.frames ++ b.frames;
  bounds = All-append IsFrame a.frames b.frames a.bounds b.bounds;
  spelled = ap (λ l. l ++ ys) a.spelled ∙ (ap (λ l. frames_text a.frames ++ l) b.spelled ∙ sym (frames_text-append a.frames b.frames));
  printed = a.printed ++ b.printed;
  after = b.after;
  leads = leads_append users before a.after b.after a.frames b.frames a.printed b.printed a.leads b.leads;
  added = Adds-more written mid now a.printed b.printed a.added b.added;
  stands = b.stands;
}

-- first some octets, then others in part
pub part_append : (users : Users) (xs ys : List ℕ) (before : Standing) (script : Running) (written mid now : Option (List ℕ))
    → (a : AnsweredWhole users xs before script written mid) → AnsweredInPart users ys a.after mid now → AnsweredInPart users (xs ++ ys) before written now
part_append users xs ys before script written mid now a b = record {
  frames = a.frames ++ b.frames;
  bounds = All-append IsFrame a.frames b.frames a.bounds b.bounds;
  behind = b.behind;
  spelled = ap (λ l. l ++ ys) a.spelled ∙ (ap (λ l. frames_text a.frames ++ l) b.spelled
      ∙ (sym (append_assoc (frames_text a.frames) (frames_text b.frames) b.behind) ∙ ap (λ l. l ++ b.behind) (sym (frames_text-append a.frames b.frames))));
  printed = a.printed ++ b.printed;
  missing = b.missing;
  after = b.after;
  leads = subst (λ l. Leads users before (a.frames ++ b.frames) l b.after) (sym (append_assoc a.printed b.printed b.missing))
      (leads_append users before a.after b.after a.frames b.frames a.printed (b.printed ++ b.missing) a.leads b.leads);
  added = Adds-more written mid now a.printed b.printed a.added b.added;
}

-- nothing was answered yet
pub whole_none : (users : Users) (before : Standing) (script : Running) (written : Option (List ℕ)) → StandsAt before script → AnsweredWhole users [] before script written written
whole_none users before script written stands = record {
  frames = [];
  bounds = All-nil IsFrame;
  spelled = refl;
  printed = [];
  after = before;
  leads = (refl, refl);
  added = adds_none written;
  stands = stands;
}

-- one frame was answered
frame_whole : (users : Users) (frame : Frame) (before : Standing) (script : Running) (written now : Option (List ℕ)) → IsFrame frame
    → TookTurn users frame before script written now → AnsweredWhole users (frame_text frame) before script written now
frame_whole users frame before script written now bounds a = record {
  frames = frame ∷ [];
  bounds = All-cons IsFrame frame [] bounds (All-nil IsFrame);
  spelled = sym (append-nil (frame_text frame));
  printed = a.printed;
  after = a.after;
  leads = leads_one users before a.after frame a.printed a.turn;
  added = a.added;
  stands = a.stands;
}

-- one frame was answered in part
frame_part : (users : Users) (octets : List ℕ) (frame : Frame) (rest : List ℕ) (before : Standing) (written now : Option (List ℕ)) → IsFrameThen octets frame rest
    → TookTurnInPart users frame before written now → AnsweredInPart users octets before written now
frame_part users octets frame rest before written now found a = record {
  frames = frame ∷ [];
  bounds = All-cons IsFrame frame [] found.bounds (All-nil IsFrame);
  behind = rest;
  spelled = found.spelled ∙ ap (λ l. l ++ rest) (sym (append-nil (frame_text frame)));
  printed = a.printed;
  missing = a.missing;
  after = a.after;
  leads = leads_one users before a.after frame (a.printed ++ a.missing) a.turn;
  added = a.added;
}

-- none of some octets was answered
pub part_none : (users : Users) (octets : List ℕ) (before : Standing) (written : Option (List ℕ)) → AnsweredInPart users octets before written written
part_none users octets before written = record {
  frames = [];
  bounds = All-nil IsFrame;
  behind = octets;
  spelled = refl;
  printed = [];
  missing = [];
  after = before;
  leads = (refl, refl);
  added = adds_none written;
}

-- a frame takes octets
pub length-frame_text : (frame : Frame) → 0 < length (frame_text frame)
unfolding frame_text
length-frame_text (bytes connection moment payload) = omega arith
length-frame_text (worker claim slot) = omega arith
length-frame_text (worker expand slot) = omega arith
length-frame_text (worker publish slot) = omega arith
length-frame_text (worker abandon slot) = omega arith

-- The loop

pub answered_start : (users : Users) (octets : List ℕ) (before : Standing) (script : Running) (written : Option (List ℕ)) → StandsAt before script → AnsweredTo users 0 octets before script written written
answered_start users octets before script written stands = record { within = omega arith; whole = whole_none users before script written stands }

-- the frame at a place was answered
pub behind_place : (at : ℕ) (octets here rest : List ℕ) (frame : Frame) → here ≡ drop at octets → at ≤ length octets → IsFrameThen here frame rest
    → (length octets - length rest ≡ at + length (frame_text frame)) × (take (length octets - length rest) octets ≡ take at octets ++ frame_text frame)
behind_place at octets here rest frame is_here within found =
    let text : List ℕ = frame_text frame in
    let spelled : drop at octets ≡ text ++ rest = sym is_here ∙ found.spelled in
    let len : length octets ≡ at + (length text + length rest) = omega (arith, length-drop at octets, ap length spelled, length-append text rest, within) in
    let next : length octets - length rest ≡ at + length text = omega arith in (
      next,
      ap (λ n. take n octets) next ∙ (take-add at (length text) octets ∙ ap (λ l. take at octets ++ l) (ap (take (length text)) spelled ∙ take-append_seam text rest)),
    )

pub place_rises : (at : ℕ) (octets here rest : List ℕ) (frame : Frame) → here ≡ drop at octets → at ≤ length octets → IsFrameThen here frame rest
    → (at < length octets - length rest) × (length octets - length rest ≤ length octets)
place_rises at octets here rest frame is_here within found =
    let place = behind_place at octets here rest frame is_here within found in
    (omega (arith, place.0, length-frame_text frame), omega arith)

pub answered_next : (users : Users) (at : ℕ) (octets here rest : List ℕ) (frame : Frame) (before : Standing) (script next : Running) (written mid now : Option (List ℕ))
    → here ≡ drop at octets → AnsweredTo users at octets before script written mid → IsFrameThen here frame rest
    → ((standing : Standing) → StandsAt standing script → TookTurn users frame standing next mid now)
    → AnsweredTo users (length octets - length rest) octets before next written now
answered_next users at octets here rest frame before script next written mid now is_here a found turn =
    let place = behind_place at octets here rest frame is_here a.within found in
    record {
      within = omega arith;
      whole = subst (λ l. AnsweredWhole users l before next written now) (sym place.1)
          (whole_append users (take at octets) (frame_text frame) before script next written mid now a.whole
          (frame_whole users frame a.whole.after next mid now found.bounds (turn a.whole.after a.whole.stands)));
    }

-- the ways out of the loop
part_of : (users : Users) (at : ℕ) (octets : List ℕ) (before : Standing) (script : Running) (written mid now : Option (List ℕ))
    → (a : AnsweredTo users at octets before script written mid) → AnsweredInPart users (drop at octets) a.whole.after mid now → AnsweredInPart users octets before written now
part_of users at octets before script written mid now a b =
    subst (λ l. AnsweredInPart users l before written now) (take-append-drop at octets) (part_append users (take at octets) (drop at octets) before script written mid now a.whole b)

pub cut_off : (users : Users) (at : ℕ) (octets here rest : List ℕ) (frame : Frame) (before : Standing) (script : Running) (written mid now : Option (List ℕ))
    → here ≡ drop at octets → AnsweredTo users at octets before script written mid → IsFrameThen here frame rest
    → ((standing : Standing) → StandsAt standing script → TookTurnInPart users frame standing mid now) → AnsweredInPart users octets before written now
cut_off users at octets here rest frame before script written mid now is_here a found turn =
    part_of users at octets before script written mid now a
    (subst (λ l. AnsweredInPart users l a.whole.after mid now) is_here (frame_part users here frame rest a.whole.after mid now found (turn a.whole.after a.whole.stands)))

-- the desk told its fault in the turn of the frame at the place
pub broke_off : (users : Users) (at : ℕ) (octets here rest : List ℕ) (frame : Frame) (before : Standing) (script : Running) (written mid now : Option (List ℕ))
    → here ≡ drop at octets → AnsweredTo users at octets before script written mid → IsFrameThen here frame rest
    → ((standing : Standing) → StandsAt standing script → BrokeInTurn users frame standing mid now) → BrokeAmong users octets before written now
broke_off users at octets here rest frame before script written mid now is_here a found turn = record {
  frames = a.whole.frames;
  bounds = a.whole.bounds;
  frame = frame;
  is_frame = found.bounds;
  behind = rest;
  spelled = sym (take-append-drop at octets) ∙ (ap (λ l. l ++ drop at octets) a.whole.spelled ∙ ap (λ l. frames_text a.whole.frames ++ l) (sym is_here ∙ found.spelled));
  printed = a.whole.printed;
  there = a.whole.after;
  leads = a.whole.leads;
  middle = mid;
  added = a.whole.added;
  last = turn a.whole.after a.whole.stands;
}
