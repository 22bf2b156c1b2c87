-- How answering what the octets of a frame complete goes on, and how it ends.
use Rattle.std.proofs.Common.{◌≡◌, ℕ, ◌≤◌, Bool, true, false, List, [], ◌∷◌, ◌++◌, take, drop, refl, sym, ap, subst, ◌∙◌, append_assoc, arith, Option, Some, None, inl, inr}
use Rattle.std.specs.Prelude.{pos}
use Rattle.std.proofs.lemmas.Bool.Decides.{leb_tells}
use Rattle.std.proofs.lemmas.List.{append-nil, take-append-drop}
use Rattle.cal_base.specs.World.Outside.{Rose, Adds}
use Rattle.cal_base.proofs.World.Taking.{Adds-more}
use Rattle.cal_model.specs.declared.wire.WireFault.{WireFault}
use Rattle.cal_model.specs.declared.wire.WireRequest.{WireRequest}
use Rattle.cal_model.specs.Replies.WireReplies.{answer_octets, fault_octets}
use Rattle.cal_model.specs.Requests.AskedRequests.{asked_of}
use Rattle.cal_model.specs.State.ServerState.{ServerState}
use Rattle.cal_model.specs.Transcripts.ConnectionAnswers.{Completed, whole, faulty, Completes}
use Rattle.cal_model.specs.Transcripts.ScriptFrames.{reply_frame}
use Rattle.cal_model.specs.Transcripts.Transcript.{Answer, answer_to, without_memory, IsAnswer, Prints}
use Rattle.cal_model.specs.Users.UsersFile.{Users}
use Rattle.cal_script.specs.declared.connections.Connection.{Connection}
use Rattle.cal_script.specs.Answering.{answer_frame, IsAnswered, WroteAnswer, WroteAnswerInPart, WroteAll, WroteInPart, WroteBefore, StopsBy, IsStoppedBy}
use Rattle.cal_script.specs.declared.answering.Stop.{Stop}
use Rattle.cal_script.specs.declared.answering.Stop.TheVariants.{Unwritten as Stopped, Broken}
use Rattle.cal_script.specs.declared.answering.Unwritten.{Unwritten}
use Rattle.cal_script.specs.Readings.{IsReading, Rests}
use Rattle.cal_model.proofs.Transcripts.ConnectionAnswerLaws.{streams_complete, completions_stay}
use Rattle.cal_script.proofs.ReadingLemmas.{more_to_come}

-- Output

pub adds_none : (old : Option (List ℕ)) → Adds old [] old
adds_none None = tt
adds_none (Some xs) = ap (λ (l : List ℕ). Some l) (sym (append-nil xs))

-- Printing

-- what is printed for more goes behind
prints_more : (users : Users) (number moment : ℕ) (before mid after : ServerState) (done more : List Completed) (printed rest : List ℕ)
    → Prints users number moment before done printed mid → Prints users number moment mid more rest after → Prints users number moment before (done ++ more) (printed ++ rest) after
prints_more users number moment before mid after [] more printed rest h k =
    subst (λ xs. Prints users number moment before more (xs ++ rest) after) (sym h.0) (subst (λ s. Prints users number moment s more rest after) h.1 k)
prints_more users number moment before mid after (whole place wire ∷ done) more printed rest h k = (
  h.0,
  h.1 ++ rest,
  h.2,
  ap (λ xs. xs ++ rest) h.3 ∙ append_assoc (reply_frame number (answer_octets place wire h.0.reply (pos moment))) h.1 rest,
  prints_more users number moment h.0.server mid after done more h.1 rest h.4 k,
)
prints_more users number moment before mid after (faulty why ∷ done) more printed rest h k = (
  h.0 ++ rest,
  ap (λ xs. xs ++ rest) h.1 ∙ append_assoc (reply_frame number (fault_octets why (pos moment))) h.0 rest,
  prints_more users number moment before mid after done more h.0 rest h.2 k,
)

prints_answer : (users : Users) (number moment place : ℕ) (wire : WireRequest) (before : ServerState) (given : Answer) → IsAnswer users before number moment wire given
    → Prints users number moment before (whole place wire ∷ []) (answer_frame number moment place wire given) given.server
prints_answer users number moment place wire before given h =
    (given, [], h, sym (append-nil (answer_frame number moment place wire given)), (refl, refl))

prints_fault : (users : Users) (number moment : ℕ) (why : WireFault) (before : ServerState)
    → Prints users number moment before (faulty why ∷ []) (reply_frame number (fault_octets why (pos moment))) before
prints_fault users number moment why before = ([], sym (append-nil (reply_frame number (fault_octets why (pos moment)))), (refl, refl))

-- whatever is completed, something is printed for it
some_prints : (users : Users) (number moment : ℕ) (before : ServerState) (more : List Completed) → (printed : List ℕ) × (after : ServerState) × Prints users number moment before more printed after
some_prints users number moment before [] = ([], before, (refl, refl))
some_prints users number moment before (whole place wire ∷ more) =
    let given : Answer = answer_to users before number moment (asked_of users wire) in
    let rest = some_prints users number moment given.server more in
    (answer_frame number moment place wire given ++ rest.0, rest.1, (given, rest.0, inl refl, refl, rest.2))
some_prints users number moment before (faulty why ∷ more) =
    let rest = some_prints users number moment before more in
    (reply_frame number (fault_octets why (pos moment)) ++ rest.0, rest.1, (rest.0, refl, rest.2))

-- How far answering has come

-- so much of what the stream with the payload completes was answered
pub record HasAnsweredSoFar (users : Users) (number moment : ℕ) (stream payload : List ℕ) (connection : Connection) (state now : ServerState) (written written_now : Option (List ℕ)) : Type 0 where
  pub done : List Completed
  pub more : List Completed
  pub before_them : Completes stream done
  pub reading : IsReading (stream ++ payload) (done ++ more) connection
  pub printed : List ℕ
  pub prints : Prints users number moment state more printed now
  pub added : Adds written printed written_now

pub answering_starts : (users : Users) (number moment : ℕ) (stream payload : List ℕ) (before connection : Connection) (state : ServerState) (written : Option (List ℕ)) → Rests stream before
    → ((given : List Completed) → IsReading stream given before → IsReading (stream ++ payload) given connection)
    → HasAnsweredSoFar users number moment stream payload connection state state written written
answering_starts users number moment stream payload before connection state written rests fed = record {
  done = rests.given;
  more = [];
  before_them = rests.all;
  reading = subst (λ given. IsReading (stream ++ payload) given connection) (sym (append-nil rests.given)) (fed rests.given rests.reading);
  printed = [];
  prints = (refl, refl);
  added = adds_none written;
}

goes_further : (users : Users) (number moment : ℕ) (stream payload : List ℕ) (connection next : Connection) (state now later : ServerState) (written written_now written_later : Option (List ℕ))
    (completed : Completed) (printed : List ℕ)
    → (far : HasAnsweredSoFar users number moment stream payload connection state now written written_now)
    → ((given : List Completed) → IsReading (stream ++ payload) given connection → IsReading (stream ++ payload) (given ++ completed ∷ []) next)
    → Prints users number moment now (completed ∷ []) printed later → Adds written_now printed written_later
    → HasAnsweredSoFar users number moment stream payload next state later written written_later
goes_further users number moment stream payload connection next state now later written written_now written_later completed printed far due prints added = record {
  done = far.done;
  more = far.more ++ completed ∷ [];
  before_them = far.before_them;
  reading = subst (λ given. IsReading (stream ++ payload) given next) (append_assoc far.done far.more (completed ∷ [])) (due (far.done ++ far.more) far.reading);
  printed = far.printed ++ printed;
  prints = prints_more users number moment state now later far.more (completed ∷ []) far.printed printed far.prints prints;
  added = Adds-more written written_now written_later far.printed printed far.added added;
}

pub request_answered : (users : Users) (number moment place : ℕ) (wire : WireRequest) (stream payload : List ℕ) (connection next : Connection) (state now later : ServerState) (written written_now written_later : Option (List ℕ))
    → HasAnsweredSoFar users number moment stream payload connection state now written written_now
    → ((given : List Completed) → IsReading (stream ++ payload) given connection → IsReading (stream ++ payload) (given ++ whole place wire ∷ []) next)
    → WroteAnswer users number moment place wire now later written_now written_later
    → HasAnsweredSoFar users number moment stream payload next state later written written_later
request_answered users number moment place wire stream payload connection next state now later written written_now written_later far due wrote =
    subst (λ s. HasAnsweredSoFar users number moment stream payload next state s written written_later) (sym wrote.stands)
    (goes_further users number moment stream payload connection next state now wrote.given.server written written_now written_later (whole place wire) (answer_frame number moment place wire wrote.given)
    far due (prints_answer users number moment place wire now wrote.given wrote.is) wrote.added)

pub fault_answered : (users : Users) (number moment : ℕ) (why : WireFault) (stream payload : List ℕ) (connection next : Connection) (state now : ServerState) (written written_now written_later : Option (List ℕ))
    → HasAnsweredSoFar users number moment stream payload connection state now written written_now
    → ((given : List Completed) → IsReading (stream ++ payload) given connection → IsReading (stream ++ payload) (given ++ faulty why ∷ []) next)
    → Adds written_now (reply_frame number (fault_octets why (pos moment))) written_later
    → HasAnsweredSoFar users number moment stream payload next state now written written_later
fault_answered users number moment why stream payload connection next state now written written_now written_later far due added =
    goes_further users number moment stream payload connection next state now now written written_now written_later (faulty why) (reply_frame number (fault_octets why (pos moment)))
    far due (prints_fault users number moment why now) added

-- Ends

pub all_answered : (users : Users) (number moment : ℕ) (stream payload : List ℕ) (connection next : Connection) (state now : ServerState) (written written_now : Option (List ℕ))
    → (far : HasAnsweredSoFar users number moment stream payload connection state now written written_now)
    → ((given : List Completed) → IsReading (stream ++ payload) given connection → IsReading (stream ++ payload) given next × Completes (stream ++ payload) given)
    → WroteAll users number moment stream payload state now written written_now × Rests (stream ++ payload) next
all_answered users number moment stream payload connection next state now written written_now far due =
    let last = due (far.done ++ far.more) far.reading in (
      record {
        printed = far.printed;
        prints = record { done = far.done; more = far.more; before_them = far.before_them; with_them = last.1; prints = far.prints };
        added = far.added;
      },
      record { given = far.done ++ far.more; reading = last.0; all = last.1 },
    )

-- a beginning of what is due next was written, and what comes behind is missing
cut_short : (users : Users) (number moment : ℕ) (stream payload : List ℕ) (connection next : Connection) (state now later : ServerState) (written written_now written_later : Option (List ℕ))
    (completed : List Completed) (printed : List ℕ) (many : ℕ)
    → (far : HasAnsweredSoFar users number moment stream payload connection state now written written_now)
    → ((given : List Completed) → IsReading (stream ++ payload) given connection → IsReading (stream ++ payload) (given ++ completed) next)
    → Prints users number moment now completed printed later → Adds written_now (take many printed) written_later
    → WroteInPart users number moment stream payload state written written_later
cut_short users number moment stream payload connection next state now later written written_now written_later completed printed many far due prints added =
    let reading : IsReading (stream ++ payload) (far.done ++ (far.more ++ completed)) next =
    subst (λ given. IsReading (stream ++ payload) given next) (append_assoc far.done far.more completed) (due (far.done ++ far.more) far.reading) in
    let rest = more_to_come (stream ++ payload) (far.done ++ (far.more ++ completed)) next reading in
    let others = some_prints users number moment later rest.0 in
    let all : Prints users number moment state ((far.more ++ completed) ++ rest.0) ((far.printed ++ printed) ++ others.0) others.1 =
    prints_more users number moment state later others.1 (far.more ++ completed) rest.0 (far.printed ++ printed) others.0
    (prints_more users number moment state now later far.more completed far.printed printed far.prints prints) others.2 in
    let parts : (far.printed ++ printed) ++ others.0 ≡ (far.printed ++ take many printed) ++ (drop many printed ++ others.0) =
    ap (λ xs. (far.printed ++ xs) ++ others.0) (sym (take-append-drop many printed))
    ∙ (ap (λ xs. xs ++ others.0) (sym (append_assoc far.printed (take many printed) (drop many printed))) ∙ append_assoc (far.printed ++ take many printed) (drop many printed) others.0) in
    record {
      printed = far.printed ++ take many printed;
      missing = drop many printed ++ others.0;
      after = others.1;
      prints = record {
        done = far.done;
        more = (far.more ++ completed) ++ rest.0;
        before_them = far.before_them;
        with_them = subst (Completes (stream ++ payload)) (append_assoc far.done (far.more ++ completed) rest.0) rest.1;
        prints = subst (λ xs. Prints users number moment state ((far.more ++ completed) ++ rest.0) xs others.1) parts all;
      };
      added = Adds-more written written_now written_later far.printed (take many printed) far.added added;
    }

pub request_cut_short : (users : Users) (number moment place : ℕ) (wire : WireRequest) (stream payload : List ℕ) (connection next : Connection) (state now : ServerState) (written written_now written_later : Option (List ℕ))
    → HasAnsweredSoFar users number moment stream payload connection state now written written_now
    → ((given : List Completed) → IsReading (stream ++ payload) given connection → IsReading (stream ++ payload) (given ++ whole place wire ∷ []) next)
    → WroteAnswerInPart users number moment place wire now written_now written_later
    → WroteInPart users number moment stream payload state written written_later
request_cut_short users number moment place wire stream payload connection next state now written written_now written_later far due wrote =
    cut_short users number moment stream payload connection next state now wrote.given.server written written_now written_later (whole place wire ∷ []) (answer_frame number moment place wire wrote.given) wrote.many
    far due (prints_answer users number moment place wire now wrote.given wrote.is) wrote.added

pub fault_cut_short : (users : Users) (number moment many : ℕ) (why : WireFault) (stream payload : List ℕ) (connection next : Connection) (state now : ServerState) (written written_now written_later : Option (List ℕ))
    → HasAnsweredSoFar users number moment stream payload connection state now written written_now
    → ((given : List Completed) → IsReading (stream ++ payload) given connection → IsReading (stream ++ payload) (given ++ faulty why ∷ []) next)
    → Adds written_now (take many (reply_frame number (fault_octets why (pos moment)))) written_later
    → WroteInPart users number moment stream payload state written written_later
fault_cut_short users number moment many why stream payload connection next state now written written_now written_later far due added =
    cut_short users number moment stream payload connection next state now now written written_now written_later (faulty why ∷ []) (reply_frame number (fault_octets why (pos moment))) many
    far due (prints_fault users number moment why now) added

-- the desk told its fault when it was asked what is due next
pub request_broke : (users : Users) (number moment place : ℕ) (wire : WireRequest) (stream payload : List ℕ) (connection next : Connection) (state now : ServerState) (written written_now written_later : Option (List ℕ))
    → HasAnsweredSoFar users number moment stream payload connection state now written written_now
    → ((given : List Completed) → IsReading (stream ++ payload) given connection → IsReading (stream ++ payload) (given ++ whole place wire ∷ []) next)
    → written_later ≡ written_now → WroteBefore users number moment stream payload state written written_later
request_broke users number moment place wire stream payload connection next state now written written_now written_later far due same =
    let one : List Completed = whole place wire ∷ [] in
    let reading : IsReading (stream ++ payload) (far.done ++ (far.more ++ one)) next =
    subst (λ given. IsReading (stream ++ payload) given next) (append_assoc far.done far.more one) (due (far.done ++ far.more) far.reading) in
    let rest = more_to_come (stream ++ payload) (far.done ++ (far.more ++ one)) next reading in
    record {
      printed = far.printed;
      prints = record {
        done = far.done;
        more = far.more;
        place = place;
        wire = wire;
        behind = rest.0;
        before_them = far.before_them;
        with_them = subst (Completes (stream ++ payload)) (append_assoc far.done (far.more ++ one) rest.0 ∙ ap (λ xs. far.done ++ xs) (append_assoc far.more one rest.0)) rest.1;
        server = now;
        prints = far.prints;
      };
      added = subst (λ w. Adds written far.printed w) (sym same) far.added;
    }

-- nothing more was read
pub stopped_there : (users : Users) (number moment : ℕ) (stream payload : List ℕ) (connection next : Connection) (state now : ServerState) (written written_now : Option (List ℕ))
    → HasAnsweredSoFar users number moment stream payload connection state now written written_now
    → ((given : List Completed) → IsReading (stream ++ payload) given connection → IsReading (stream ++ payload) given next)
    → WroteInPart users number moment stream payload state written written_now
stopped_there users number moment stream payload connection next state now written written_now far due =
    cut_short users number moment stream payload connection next state now now written written_now written_now [] [] 0 far
    (λ given reading. subst (λ xs. IsReading (stream ++ payload) xs next) (sym (append-nil given)) (due given reading)) (refl, refl) (adds_none written_now)

-- the octets were not taken
pub stopped_before : (users : Users) (number moment : ℕ) (stream payload : List ℕ) (connection : Connection) (state : ServerState) (written : Option (List ℕ)) → Rests stream connection
    → WroteInPart users number moment stream payload state written written
stopped_before users number moment stream payload connection state written rests =
    let next = streams_complete (stream ++ payload) in
    let more = completions_stay stream payload rests.given next.0 rests.all next.1 in
    let printed = some_prints users number moment state more.0 in
    record {
      printed = [];
      missing = printed.0;
      after = printed.1;
      prints = record {
        done = rests.given;
        more = more.0;
        before_them = rests.all;
        with_them = subst (Completes (stream ++ payload)) more.1 next.1;
        prints = printed.2;
      };
      added = adds_none written;
    }

-- The reply to one request

pub wrote_answer : (users : Users) (number moment before : ℕ) (wire : WireRequest) (state after : ServerState) (octets slice : List ℕ) (written now : Option (List ℕ))
    → slice ≡ octets → IsAnswered users number moment before wire state after octets → Adds written (reply_frame number slice) now → WroteAnswer users number moment before wire state after written now
wrote_answer users number moment before wire state after octets slice written now e a added =
    record { given = a.given; is = a.is; stands = a.stands; added = subst (λ xs. Adds written (reply_frame number xs) now) (e ∙ a.octets_are) added }

pub wrote_answer_in_part : (users : Users) (number moment before : ℕ) (wire : WireRequest) (state after : ServerState) (octets slice : List ℕ) (written now : Option (List ℕ))
    → slice ≡ octets → IsAnswered users number moment before wire state after octets → (many : ℕ) × Adds written (take many (reply_frame number slice)) now
    → WroteAnswerInPart users number moment before wire state written now
wrote_answer_in_part users number moment before wire state after octets slice written now e a (many, added) =
    record { given = a.given; is = a.is; many = many; added = subst (λ xs. Adds written (take many (reply_frame number xs)) now) (e ∙ a.octets_are) added }

pub wrote_no_answer : (users : Users) (number moment before : ℕ) (wire : WireRequest) (state : ServerState) (written : Option (List ℕ))
    → WroteAnswerInPart users number moment before wire state written written
wrote_no_answer users number moment before wire state written = record { given = without_memory state; is = inr refl; many = 0; added = adds_none written }

-- Stops

-- a count that rose later rose since before
pub rose_since : (first second third : ℕ) → first ≤ second → second ≤ third → Rose second third → Rose first third
rose_since first second third h g (inl less) = inl (omega (arith, h, less))
rose_since first second third h g (inr full) = elim (leb_tells second first) [
  | inl same ↦ inr (omega (arith, h, same.1, full))
  | inr less ↦ inl (omega (arith, less.1, g))
]

-- a stop is handed on
pub stops_on : {X : Type 0} (stop : Stop X) (short broken short_of broken_of : Type 0) → (short → short_of) → (broken → broken_of) → StopsBy stop short broken → StopsBy stop short_of broken_of
stops_on (Stopped why) short broken short_of broken_of f g h = f h
stops_on (Broken fault) short broken short_of broken_of f g h = g h

-- the desk is left as the last of several turns leaves it
pub broken_on : {X : Type 0} (stop : Stop X) (before now after : Bool) (count counted counted_now : ℕ) → now ≡ before → count ≤ counted → counted ≤ counted_now
    → IsStoppedBy stop now counted after counted_now → IsStoppedBy stop before count after counted_now
broken_on (Stopped why) before now after count counted counted_now e h g k = k ∙ e
broken_on (Broken fault) before now after count counted counted_now e h g k = (k.0, λ unbroken. rose_since count counted counted_now h g (k.1 (e ∙ unbroken)))

-- what a stop was decides what holds
pub stopped_short : {X : Type 0} (stop : Stop X) (why : Unwritten) (short broken : Type 0) → stop ≡ Stopped why → StopsBy stop short broken → short
stopped_short stop why short broken e h = subst (λ s. StopsBy s short broken) e h

pub stopped_broken : {X : Type 0} (stop : Stop X) (fault : X) (short broken : Type 0) → stop ≡ Broken fault → StopsBy stop short broken → broken
stopped_broken stop fault short broken e h = subst (λ s. StopsBy s short broken) e h

pub stopped_same : {X : Type 0} (stop : Stop X) (why : Unwritten) (before after : Bool) (count counted : ℕ) → stop ≡ Stopped why → IsStoppedBy stop before count after counted → after ≡ before
stopped_same stop why before after count counted e h = subst (λ s. IsStoppedBy s before count after counted) e h

pub stopped_by : {X : Type 0} (stop : Stop X) (fault : X) (before after : Bool) (count counted : ℕ) → stop ≡ Broken fault → IsStoppedBy stop before count after counted
    → (after ≡ true) × (before ≡ false → Rose count counted)
stopped_by stop fault before after count counted e h = subst (λ s. IsStoppedBy s before count after counted) e h
