-- Where a script stands after the turn of a frame.
use Rattle.std.proofs.Common.{◌≡◌, ◌≢◌, ℕ, zero, suc, ◌<◌, Bool, true, false, not, ◌&&◌, eq-eqb, List, [], ◌∷◌, ◌++◌, length, Option, Some, refl, sym, ap, subst, ◌∙◌, arith, length-set, if◌then◌else◌, inl, inr}
use Rattle.std.specs.Prelude.{option_and_then, slice_get, slice_set, replicate, get_or, filter}
use Rattle.std.specs.List.{AllZip, All, Contains}
use Rattle.std.proofs.lemmas.Bool.{false≢true}
use Rattle.std.proofs.lemmas.Bool.Decides.{eqb_tells}
use Rattle.std.proofs.lemmas.List.{length-replicate, get_or-set_same, get_or-set_other}
use Rattle.std.proofs.lemmas.List.Elements.{All-nil, All-cons, All-head, All-tail, All-append, All-set, Contains-get_or}
use Rattle.std.proofs.lemmas.Slice.Zip.{AllZip-long}
use Rattle.std.proofs.lemmas.Option.{unwrap_or-slice_get, same_Some}
use Rattle.cal_model.specs.Words.Integers.{same_int}
use Rattle.cal_model.proofs.TimeZones.Instants.{same_int-self}
use Rattle.cal_model.specs.History.Claims.{Pair, Work, same_pair, with_claim, without_claim}
use Rattle.cal_model.specs.History.LiveObjects.{Placed, placed_by}
use Rattle.cal_book.specs.declared.claims.Claim.{Claim}
use Rattle.cal_model.specs.History.Journal.{Entry, IsLegal, replay}
use Rattle.cal_model.specs.State.ServerState.{directory_of}
use Rattle.cal_model.specs.Transcripts.ScriptFrames.{bytes, worker}
use Rattle.cal_model.specs.Transcripts.Transcript.{Standing, stream_of, fed, Prints}
use Rattle.cal_model.specs.Users.UsersFile.{Users}
use Rattle.cal_book.specs.Publishing.{IsClaimIn, pair_of_claim}
use Rattle.cal_book.specs.Cores.{Core, state_in}
use Rattle.cal_script.specs.Answering.{GoesOnBy, IsBookOf, PrintsBefore, WroteAll, WroteInPart, WroteBefore}
use Rattle.cal_script.specs.AnsweredFrames.{TookTurn, TookTurnInPart, BrokeInTurn}
use Rattle.cal_script.specs.EnteredRequests.{FrameEnters}
use Rattle.cal_script.specs.FrameHeads.{step_of}
use Rattle.cal_script.specs.Readings.{Rests}
use Rattle.cal_script.specs.SlotTurns.{IsSlotIn, IsHeld, IsKeptOrHeld, pair_in, out_without, SlotTurn, EndsClaim}
use Rattle.cal_script.specs.Standings.{Running, IsSound, StandsAt, standing_in}
use Rattle.cal_script.specs.declared.connections.Connection.{Connection}
use Rattle.cal_script.specs.declared.head.Action.{Action}
use Rattle.cal_script.specs.declared.head.Action.TheVariants as action
use Rattle.cal_script.specs.declared.slots.Slot.{Slot}
use Rattle.cal_script.specs.declared.slots.Slot.TheVariants.{Empty, Claimed, Expanded}
use Rattle.cal_script.proofs.AnsweringLemmas.{adds_none}
use Rattle.cal_script.proofs.EnteringLemmas.{Grows, enters_grows}

-- Lists side by side

pub side_more : (connections : List Connection) (connection : Connection) → AllZip Rests (replicate (length connections) []) connections → Rests [] connection
    → AllZip Rests (replicate (length (connections ++ connection ∷ [])) []) (connections ++ connection ∷ [])
side_more [] connection all one = (one, tt)
side_more (c ∷ connections) connection all one = (all.0, side_more connections connection all.1 one)

side_at : (streams : List (List ℕ)) (connections : List Connection) (k : ℕ) (d : List ℕ) (e : Connection) → AllZip Rests streams connections → k < length connections
    → Rests (get_or streams k d) (get_or connections k e)
side_at [] [] k d e all h = absurd (omega (arith, h))
side_at [] (c ∷ connections) k d e all h = elim all [ ]
side_at (s ∷ streams) [] k d e all h = elim all [ ]
side_at (s ∷ streams) (c ∷ connections) zero d e all h = all.0
side_at (s ∷ streams) (c ∷ connections) (suc k) d e all h = side_at streams connections k d e all.1 (omega (arith, h))

side_set : (streams : List (List ℕ)) (connections : List Connection) (k : ℕ) (s : List ℕ) (c : Connection) → AllZip Rests streams connections → Rests s c
    → AllZip Rests (slice_set streams k s) (slice_set connections k c)
side_set [] [] k s c all one = tt
side_set [] (y ∷ connections) k s c all one = elim all [ ]
side_set (x ∷ streams) [] k s c all one = elim all [ ]
side_set (x ∷ streams) (y ∷ connections) zero s c all one = (one, all.1)
side_set (x ∷ streams) (y ∷ connections) (suc k) s c all one = (all.0, side_set streams connections k s c all.1 one)

-- Slots and claims

-- an entry that is there stays
entry_stays : (journal more : List Entry) (n : ℕ) (placed : Placed) → option_and_then (λ (entry : Entry). placed_by entry.change) (slice_get journal n) ≡ Some placed
    → option_and_then (λ (entry : Entry). placed_by entry.change) (slice_get (journal ++ more) n) ≡ Some placed
entry_stays [] more n placed e = absurd (cc)
entry_stays (x ∷ xs) more zero placed e = e
entry_stays (x ∷ xs) more (suc n) placed e = entry_stays xs more n placed e

claims_stay : (journal more : List Entry) (claim : Claim) → IsClaimIn journal claim → IsClaimIn (journal ++ more) claim
claims_stay journal more claim h = entry_stays journal more claim.origin _ h

slot_stays : (journal more : List Entry) (slot : Slot) → IsSlotIn journal slot → IsSlotIn (journal ++ more) slot
slot_stays journal more Empty h = tt
slot_stays journal more (Claimed claim) h = claims_stay journal more claim h
slot_stays journal more (Expanded expanded) h = claims_stay journal more expanded.claim h

slots_stay : (before after : List Entry) (slots : List Slot) → Grows before after → All (IsSlotIn before) slots → All (IsSlotIn after) slots
slots_stay before after slots (more, e) h k d within = subst (λ journal. IsSlotIn journal (get_or slots k d)) (sym e) (slot_stays before more (get_or slots k d) (h k d within))

-- what a turn leaves: the journal as it was
pub turn_journal : (what : Action) (before : Slot) (work : Work) (after : Slot) (now : Work) → SlotTurn what before work after now → now.journal ≡ work.journal
turn_journal action.Claim Empty work after now (inl h) = ap (λ (w : Work). w.journal) h.work_is
turn_journal action.Claim Empty work after now (inr h) = ap (λ (w : Work). w.journal) h.1
turn_journal action.Claim (Claimed claim) work after now h = ap (λ (w : Work). w.journal) h.1
turn_journal action.Claim (Expanded expanded) work after now h = ap (λ (w : Work). w.journal) h.1
turn_journal action.Expand Empty work after now h = ap (λ (w : Work). w.journal) h.1
turn_journal action.Expand (Claimed claim) work after now h = ap (λ (w : Work). w.journal) h.1
turn_journal action.Expand (Expanded expanded) work after now h = ap (λ (w : Work). w.journal) h.1
turn_journal action.Publish Empty work after now h = ap (λ (w : Work). w.journal) h.1
turn_journal action.Publish (Claimed claim) work after now h = ap (λ (w : Work). w.journal) h.1
turn_journal action.Publish (Expanded expanded) work after now h = h.journal
turn_journal action.Abandon Empty work after now h = ap (λ (w : Work). w.journal) h.1
turn_journal action.Abandon (Claimed claim) work after now h = h.journal
turn_journal action.Abandon (Expanded expanded) work after now h = h.journal

-- the claim in the slot is of the journal
ended_slot : (journal : List Entry) (pair : Pair) (work : Work) (after : Slot) (now : Work) → EndsClaim pair work after now → IsSlotIn journal after
ended_slot journal pair work after now h = subst (IsSlotIn journal) (sym h.slot) tt

kept_slot : (journal : List Entry) (before after : Slot) → after ≡ before → IsSlotIn journal before → IsSlotIn journal after
kept_slot journal before after e h = subst (IsSlotIn journal) (sym e) h

turn_slot : (what : Action) (before : Slot) (work : Work) (after : Slot) (now : Work) → SlotTurn what before work after now → IsSlotIn work.journal before → IsSlotIn work.journal after
turn_slot action.Claim Empty work after now (inl h) s = subst (IsSlotIn work.journal) (sym h.slot) h.of_journal
turn_slot action.Claim Empty work after now (inr h) s = kept_slot work.journal Empty after h.0 s
turn_slot action.Claim (Claimed claim) work after now h s = kept_slot work.journal (Claimed claim) after h.0 s
turn_slot action.Claim (Expanded expanded) work after now h s = kept_slot work.journal (Expanded expanded) after h.0 s
turn_slot action.Expand Empty work after now h s = kept_slot work.journal Empty after h.0 s
turn_slot action.Expand (Claimed claim) work after now (inl h, e) s = subst (IsSlotIn work.journal) (sym h.slot) (subst (IsClaimIn work.journal) (sym h.same) s)
turn_slot action.Expand (Claimed claim) work after now (inr h, e) s = kept_slot work.journal (Claimed claim) after h s
turn_slot action.Expand (Expanded expanded) work after now h s = kept_slot work.journal (Expanded expanded) after h.0 s
turn_slot action.Publish Empty work after now h s = kept_slot work.journal Empty after h.0 s
turn_slot action.Publish (Claimed claim) work after now h s = kept_slot work.journal (Claimed claim) after h.0 s
turn_slot action.Publish (Expanded expanded) work after now h s = ended_slot work.journal _ work after now h
turn_slot action.Abandon Empty work after now h s = kept_slot work.journal Empty after h.0 s
turn_slot action.Abandon (Claimed claim) work after now h s = ended_slot work.journal _ work after now h
turn_slot action.Abandon (Expanded expanded) work after now h s = ended_slot work.journal _ work after now h

-- each claim that is out is in a slot

at_any : (slots : List Slot) (j : ℕ) (d e : Slot) → j < length slots → get_or slots j d ≡ get_or slots j e
at_any [] j d e h = absurd (omega (arith, h))
at_any (s ∷ slots) zero d e h = refl
at_any (s ∷ slots) (suc j) d e h = at_any slots j d e (omega (arith, h))

held_same : (slots : List Slot) (k : ℕ) (before after : Slot) (pair : Pair) → k < length slots → get_or slots k before ≡ before → pair_in after ≡ pair_in before
    → IsHeld slots pair → IsHeld (slice_set slots k after) pair
held_same slots k before after pair h here same (j, slot, within, at, holds) = elim (eqb_tells j k) [
  | inl e ↦ (
    k,
    after,
    omega (arith, length-set slots k after, h),
    get_or-set_same slots k after after h,
    same ∙ ap pair_in (sym here ∙ (ap (λ n. get_or slots n before) (sym e.1) ∙ at_any slots j before slot within ∙ at)) ∙ holds,
  )
  | inr e ↦ (j, slot, omega (arith, length-set slots k after, within), get_or-set_other slots k j after slot e.1 ∙ at, holds)
]

held_else : (slots : List Slot) (k : ℕ) (before after : Slot) (pair : Pair) → k < length slots → get_or slots k before ≡ before → pair_in before ≢ Some pair
    → IsHeld slots pair → IsHeld (slice_set slots k after) pair
held_else slots k before after pair h here other (j, slot, within, at, holds) = elim (eqb_tells j k) [
  | inl e ↦ absurd (other (ap pair_in (sym here ∙ (ap (λ n. get_or slots n before) (sym e.1) ∙ at_any slots j before slot within ∙ at)) ∙ holds))
  | inr e ↦ (j, slot, omega (arith, length-set slots k after, within), get_or-set_other slots k j after slot e.1 ∙ at, holds)
]

held_here : (slots : List Slot) (k : ℕ) (after : Slot) (pair : Pair) → k < length slots → pair_in after ≡ Some pair → IsHeld (slice_set slots k after) pair
held_here slots k after pair h holds = (k, after, omega (arith, length-set slots k after, h), get_or-set_same slots k after after h, holds)

-- or was out before

kept_same : (kept : List Pair) (slots : List Slot) (k : ℕ) (before after : Slot) (pair : Pair) → k < length slots → get_or slots k before ≡ before → pair_in after ≡ pair_in before
    → IsKeptOrHeld kept slots pair → IsKeptOrHeld kept (slice_set slots k after) pair
kept_same kept slots k before after pair h here same (inl was) = inl was
kept_same kept slots k before after pair h here same (inr held) = inr (held_same slots k before after pair h here same held)

kept_else : (kept : List Pair) (slots : List Slot) (k : ℕ) (before after : Slot) (pair : Pair) → k < length slots → get_or slots k before ≡ before → pair_in before ≢ Some pair
    → IsKeptOrHeld kept slots pair → IsKeptOrHeld kept (slice_set slots k after) pair
kept_else kept slots k before after pair h here other (inl was) = inl was
kept_else kept slots k before after pair h here other (inr held) = inr (held_else slots k before after pair h here other held)

-- pairs that stay
kept_one : (Q : Pair → Type 0) (test : Pair → Bool) (p : Pair) (rest : List Pair) (b : Bool) → test p ≡ b → (test p ≡ true → Q p) → All Q rest → All Q (if b then p ∷ rest else rest)
kept_one Q test p rest true e step all = All-cons Q p rest (step e) all
kept_one Q test p rest false e step all = all

kept_pairs : (P Q : Pair → Type 0) (test : Pair → Bool) (pairs : List Pair) → ((p : Pair) → P p → test p ≡ true → Q p) → All P pairs → All Q (filter test pairs)
kept_pairs P Q test [] step all = All-nil Q
kept_pairs P Q test (p ∷ pairs) step all =
    kept_one Q test p (filter test pairs) (test p) refl (step p (All-head P p pairs all)) (kept_pairs P Q test pairs step (All-tail P p pairs all))

same_out : (kept : List Pair) (slots : List Slot) (k : ℕ) (before after : Slot) (work now : Work) → k < length slots → get_or slots k before ≡ before → pair_in after ≡ pair_in before → now.out ≡ work.out
    → All (IsKeptOrHeld kept slots) work.out → All (IsKeptOrHeld kept (slice_set slots k after)) now.out
same_out kept slots k before after work now h here same out held =
    subst (λ pairs. All (IsKeptOrHeld kept (slice_set slots k after)) pairs) (sym out) (λ i d within. kept_same kept slots k before after (get_or work.out i d) h here same (held i d within))

takes_out : (kept : List Pair) (slots : List Slot) (k : ℕ) (after : Slot) (pair : Pair) (work now : Work) → k < length slots → get_or slots k Empty ≡ Empty → pair_in after ≡ Some pair → now.out ≡ with_claim pair work.out
    → All (IsKeptOrHeld kept slots) work.out → All (IsKeptOrHeld kept (slice_set slots k after)) now.out
takes_out kept slots k after pair work now h here same out held =
    subst (λ pairs. All (IsKeptOrHeld kept (slice_set slots k after)) pairs) (sym out)
    (All-append (IsKeptOrHeld kept (slice_set slots k after)) work.out (pair ∷ []) (λ i d within. kept_else kept slots k Empty after (get_or work.out i d) h here (λ e. cc) (held i d within))
    (All-cons (IsKeptOrHeld kept (slice_set slots k after)) pair [] (inr (held_here slots k after pair h same)) (All-nil (IsKeptOrHeld kept (slice_set slots k after)))))

same_pair-self : (pair : Pair) → same_pair pair pair ≡ true
same_pair-self pair = ap (λ b. b && same_int pair.window pair.window) (eq-eqb pair.origin pair.origin refl) ∙ same_int-self pair.window

not_it : (pair other : Pair) → not (same_pair pair other) ≡ true → Some pair ≢ Some other
not_it pair other passes e =
    false≢true (ap not (sym (same_pair-self pair)) ∙ (ap (λ p. not (same_pair pair p)) (same_Some pair other e) ∙ passes))

ends_out : (kept : List Pair) (slots : List Slot) (k : ℕ) (before after : Slot) (pair : Pair) (work now : Work) → k < length slots → get_or slots k before ≡ before → pair_in before ≡ Some pair → now.out ≡ without_claim pair work.out
    → All (IsKeptOrHeld kept slots) work.out → All (IsKeptOrHeld kept (slice_set slots k after)) now.out
ends_out kept slots k before after pair work now h here same out held =
    subst (λ pairs. All (IsKeptOrHeld kept (slice_set slots k after)) pairs) (sym out)
    (kept_pairs (IsKeptOrHeld kept slots) (IsKeptOrHeld kept (slice_set slots k after)) (λ other. not (same_pair pair other)) work.out
    (λ other holds passes. kept_else kept slots k before after other h here (λ e. not_it pair other passes (sym same ∙ e)) holds) held)

nothing_out : (kept : List Pair) (slots : List Slot) (k : ℕ) (before after : Slot) (work now : Work) → k < length slots → get_or slots k before ≡ before → (after ≡ before) × (now ≡ work)
    → All (IsKeptOrHeld kept slots) work.out → All (IsKeptOrHeld kept (slice_set slots k after)) now.out
nothing_out kept slots k before after work now h here (e, f) held = same_out kept slots k before after work now h here (ap pair_in e) (ap (λ (w : Work). w.out) f) held

turn_held : (kept : List Pair) (what : Action) (slots : List Slot) (k : ℕ) (before after : Slot) (work now : Work) → k < length slots → get_or slots k before ≡ before → SlotTurn what before work after now
    → All (IsKeptOrHeld kept slots) work.out → All (IsKeptOrHeld kept (slice_set slots k after)) now.out
turn_held kept action.Claim slots k Empty after work now h here (inl t) held =
    takes_out kept slots k after (pair_of_claim t.claim) work now h here (ap pair_in t.slot) (ap (λ (w : Work). w.out) t.work_is) held
turn_held kept action.Claim slots k Empty after work now h here (inr t) held = nothing_out kept slots k Empty after work now h here t held
turn_held kept action.Claim slots k (Claimed claim) after work now h here t held = nothing_out kept slots k (Claimed claim) after work now h here t held
turn_held kept action.Claim slots k (Expanded expanded) after work now h here t held = nothing_out kept slots k (Expanded expanded) after work now h here t held
turn_held kept action.Expand slots k Empty after work now h here t held = nothing_out kept slots k Empty after work now h here t held
turn_held kept action.Expand slots k (Claimed claim) after work now h here (inl t, e) held =
    same_out kept slots k (Claimed claim) after work now h here (ap pair_in t.slot ∙ ap (λ c. Some (pair_of_claim c)) t.same) (ap (λ (w : Work). w.out) e) held
turn_held kept action.Expand slots k (Claimed claim) after work now h here (inr t, e) held = nothing_out kept slots k (Claimed claim) after work now h here (t, e) held
turn_held kept action.Expand slots k (Expanded expanded) after work now h here t held = nothing_out kept slots k (Expanded expanded) after work now h here t held
turn_held kept action.Publish slots k Empty after work now h here t held = nothing_out kept slots k Empty after work now h here t held
turn_held kept action.Publish slots k (Claimed claim) after work now h here t held = nothing_out kept slots k (Claimed claim) after work now h here t held
turn_held kept action.Publish slots k (Expanded expanded) after work now h here t held = ends_out kept slots k (Expanded expanded) after (pair_of_claim expanded.claim) work now h here refl t.out held
turn_held kept action.Abandon slots k Empty after work now h here t held = nothing_out kept slots k Empty after work now h here t held
turn_held kept action.Abandon slots k (Claimed claim) after work now h here t held = ends_out kept slots k (Claimed claim) after (pair_of_claim claim) work now h here refl t.out held
turn_held kept action.Abandon slots k (Expanded expanded) after work now h here t held = ends_out kept slots k (Expanded expanded) after (pair_of_claim expanded.claim) work now h here refl t.out held

-- The claims that slots hold are given up

held_front : (rest : List Slot) (slot : Slot) (pair : Pair) → pair_in slot ≢ Some pair → IsHeld (rest ++ slot ∷ []) pair → IsHeld rest pair
held_front [] slot pair other (zero, d, within, at, holds) = absurd (other (ap pair_in at ∙ holds))
held_front [] slot pair other (suc j, d, within, at, holds) = absurd (omega (arith, within))
held_front (x ∷ rest) slot pair other (zero, d, within, at, holds) = (zero, d, omega arith, at, holds)
held_front (x ∷ rest) slot pair other (suc j, d, within, at, holds) =
    let front = held_front rest slot pair other (j, d, omega (arith, within), at, holds) in
    (suc front.0, front.1, omega (arith, front.2), front.3, front.4)

kept_front : (kept : List Pair) (rest : List Slot) (slot : Slot) (pair : Pair) → pair_in slot ≢ Some pair → IsKeptOrHeld kept (rest ++ slot ∷ []) pair → IsKeptOrHeld kept rest pair
kept_front kept rest slot pair other (inl was) = inl was
kept_front kept rest slot pair other (inr held) = inr (held_front rest slot pair other held)

ended_front : (kept : List Pair) (rest : List Slot) (slot : Slot) (ended : Pair) (out : List Pair) → pair_in slot ≡ Some ended → All (IsKeptOrHeld kept (rest ++ slot ∷ [])) out
    → All (IsKeptOrHeld kept rest) (without_claim ended out)
ended_front kept rest slot ended out same held =
    kept_pairs (IsKeptOrHeld kept (rest ++ slot ∷ [])) (IsKeptOrHeld kept rest) (λ other. not (same_pair ended other)) out
    (λ other holds passes. kept_front kept rest slot other (λ e. not_it ended other passes (sym same ∙ e)) holds) held

-- what the last slot holds is given up
pub gave_up : (kept : List Pair) (rest : List Slot) (slot : Slot) (out : List Pair) → All (IsKeptOrHeld kept (rest ++ slot ∷ [])) out → All (IsKeptOrHeld kept rest) (out_without slot out)
gave_up kept rest Empty out held = λ i d within. kept_front kept rest Empty (get_or out i d) (λ e. cc) (held i d within)
gave_up kept rest (Claimed claim) out held = ended_front kept rest (Claimed claim) (pair_of_claim claim) out refl held
gave_up kept rest (Expanded expanded) out held = ended_front kept rest (Expanded expanded) (pair_of_claim expanded.claim) out refl held

-- no slot is left
pub all_kept : (kept out : List Pair) → All (IsKeptOrHeld kept []) out → All (Contains kept) out
all_kept kept out held i d within = by (held i d within) where
  by : IsKeptOrHeld kept [] (get_or out i d) → Contains kept (get_or out i d)
  by (inl was) = was
  by (inr (j, slot, none, at, holds)) = absurd (omega (arith, none))

-- The turn of octets that come

stream_at : (standing : Standing) (script : Running) (k : ℕ) (d : Connection) → StandsAt standing script → k < length script.connections → Rests (stream_of standing k) (get_or script.connections k d)
stream_at standing script k d stands h =
    subst (λ stream. Rests stream (get_or script.connections k d)) (sym (unwrap_or-slice_get standing.streams k [])) (side_at standing.streams script.connections k [] d stands.streams h)

pub sound_answered : (users : Users) (kept : List Pair) (script next : Running) (k moment : ℕ) (payload : List ℕ) (connection d : Connection) → IsSound users kept script → (standing : Standing) × StandsAt standing script
    → k < length script.connections → IsBookOf users next.book → ((stream : List ℕ) → Rests stream (get_or script.connections k d) → GoesOnBy users k moment stream payload script.book next.book)
    → next.connections ≡ slice_set script.connections k connection → next.slots ≡ script.slots → IsSound users kept next
sound_answered users kept script next k moment payload connection d sound (standing, stands) h book goes connections slots =
    let on = goes (stream_of standing k) (stream_at standing script k d stands h) in
    let grown = enters_grows users on.0 script.book.work.journal next.book.work.journal on.2.enters in
    record {
      book_of = book;
      connections = ap length connections ∙ (length-set script.connections k connection ∙ sound.connections);
      slots = ap length slots ∙ sound.slots;
      claims = subst (λ xs. All (IsSlotIn next.book.work.journal) xs) (sym slots) (slots_stay script.book.work.journal next.book.work.journal script.slots grown sound.claims);
      held = subst (λ xs. All (IsKeptOrHeld kept xs) next.book.work.out) (sym slots) (subst (λ pairs. All (IsKeptOrHeld kept script.slots) pairs) (sym on.2.out) sound.held);
    }

-- what the octets ask was entered, wherever the script stood
pub bytes_entered : (users : Users) (standing : Standing) (script : Running) (now : Core) (k moment : ℕ) (payload : List ℕ) (d : Connection)
    → StandsAt standing script → k < length script.connections → ((stream : List ℕ) → Rests stream (get_or script.connections k d) → GoesOnBy users k moment stream payload script.book now)
    → FrameEnters users standing.streams (bytes k moment payload) script.book.work.journal now.work.journal
bytes_entered users standing script now k moment payload d stands h goes =
    let on = goes (stream_of standing k) (stream_at standing script k d stands h) in
    (on.0, on.1, on.2.enters)

pub took_bytes : (users : Users) (standing : Standing) (script next : Running) (k moment : ℕ) (payload : List ℕ) (connection d : Connection) (written now : Option (List ℕ))
    → StandsAt standing script → k < length script.connections → next.connections ≡ slice_set script.connections k connection
    → ((stream : List ℕ) → Rests stream (get_or script.connections k d) → WroteAll users k moment stream payload (state_in script.book) (state_in next.book) written now)
    → ((stream : List ℕ) → Rests stream (get_or script.connections k d) → Rests (stream ++ payload) connection)
    → TookTurn users (bytes k moment payload) standing next written now
took_bytes users standing script next k moment payload connection d written now stands h connections all rests =
    let here = stream_at standing script k d stands h in
    let wrote = all (stream_of standing k) here in
    record {
      printed = wrote.printed;
      after = record (fed standing k payload) { server = state_in next.book };
      turn = record {
        done = wrote.prints.done;
        more = wrote.prints.more;
        before_them = wrote.prints.before_them;
        with_them = wrote.prints.with_them;
        server = state_in next.book;
        prints = subst (λ s. Prints users k moment s wrote.prints.more wrote.printed (state_in next.book)) (sym stands.server) wrote.prints.prints;
        stands = refl;
      };
      added = wrote.added;
      stands = record {
        server = refl;
        streams = subst (λ xs. AllZip Rests (slice_set standing.streams k (stream_of standing k ++ payload)) xs) (sym connections)
            (side_set standing.streams script.connections k (stream_of standing k ++ payload) connection stands.streams (rests (stream_of standing k) here));
      };
    }

pub took_bytes_in_part : (users : Users) (standing : Standing) (script : Running) (k moment : ℕ) (payload : List ℕ) (d : Connection) (written now : Option (List ℕ))
    → StandsAt standing script → k < length script.connections
    → ((stream : List ℕ) → Rests stream (get_or script.connections k d) → WroteInPart users k moment stream payload (state_in script.book) written now)
    → TookTurnInPart users (bytes k moment payload) standing written now
took_bytes_in_part users standing script k moment payload d written now stands h part =
    let wrote = part (stream_of standing k) (stream_at standing script k d stands h) in
    record {
      printed = wrote.printed;
      missing = wrote.missing;
      after = record (fed standing k payload) { server = wrote.after };
      turn = record {
        done = wrote.prints.done;
        more = wrote.prints.more;
        before_them = wrote.prints.before_them;
        with_them = wrote.prints.with_them;
        server = wrote.after;
        prints = subst (λ s. Prints users k moment s wrote.prints.more (wrote.printed ++ wrote.missing) wrote.after) (sym stands.server) wrote.prints.prints;
        stands = refl;
      };
      added = wrote.added;
    }

pub broke_in_bytes : (users : Users) (standing : Standing) (script : Running) (k moment : ℕ) (payload : List ℕ) (d : Connection) (written now : Option (List ℕ))
    → StandsAt standing script → k < length script.connections
    → ((stream : List ℕ) → Rests stream (get_or script.connections k d) → WroteBefore users k moment stream payload (state_in script.book) written now)
    → BrokeInTurn users (bytes k moment payload) standing written now
broke_in_bytes users standing script k moment payload d written now stands h broke =
    let wrote = broke (stream_of standing k) (stream_at standing script k d stands h) in
    record {
      connection = k;
      moment = moment;
      payload = payload;
      is = refl;
      printed = wrote.printed;
      prints = subst (λ s. PrintsBefore users k moment (stream_of standing k) payload s wrote.printed) (sym stands.server) wrote.prints;
      added = wrote.added;
    }

-- some stream stands at a connection
pub some_stream : (script : Running) (k : ℕ) (d : Connection) → (standing : Standing) × StandsAt standing script → k < length script.connections
    → (stream : List ℕ) × Rests stream (get_or script.connections k d)
some_stream script k d (standing, stands) h = (stream_of standing k, stream_at standing script k d stands h)

-- The turn of a worker

pub sound_turned : (users : Users) (kept : List Pair) (script next : Running) (what : Action) (k : ℕ) (before after : Slot) → IsSound users kept script → k < length script.slots → get_or script.slots k before ≡ before
    → SlotTurn what before script.book.work after next.book.work → next.book.users ≡ script.book.users
    → next.connections ≡ script.connections → next.slots ≡ slice_set script.slots k after → IsSound users kept next
sound_turned users kept script next what k before after sound h here turn book_users connections slots =
    let journal = turn_journal what before script.book.work after next.book.work turn in
    let before_in : IsSlotIn script.book.work.journal before = subst (IsSlotIn script.book.work.journal) here (sound.claims k before h) in
    record {
      book_of = record { users_are = book_users ∙ sound.book_of.users_are; legal = subst (IsLegal (directory_of users)) (sym journal) sound.book_of.legal };
      connections = ap length connections ∙ sound.connections;
      slots = ap length slots ∙ (length-set script.slots k after ∙ sound.slots);
      claims = subst (λ xs. All (IsSlotIn next.book.work.journal) xs) (sym slots)
          (subst (λ entries. All (IsSlotIn entries) (slice_set script.slots k after)) (sym journal)
          (All-set (IsSlotIn script.book.work.journal) script.slots k after (turn_slot what before script.book.work after next.book.work turn before_in) sound.claims));
      held = subst (λ xs. All (IsKeptOrHeld kept xs) next.book.work.out) (sym slots)
          (turn_held kept what script.slots k before after script.book.work next.book.work h here turn sound.held);
    }

pub stands_turned : (standing : Standing) (script next : Running) (what : Action) (before after : Slot)
    → StandsAt standing script → SlotTurn what before script.book.work after next.book.work → next.book.users ≡ script.book.users
    → next.connections ≡ script.connections → StandsAt standing next
stands_turned standing script next what before after stands turn book_users connections =
    let journal = turn_journal what before script.book.work after next.book.work turn in
    record {
      server = stands.server ∙ (ap (λ (known : Users). replay (directory_of known) script.book.work.journal) (sym book_users)
          ∙ ap (λ entries. replay (directory_of next.book.users) entries) (sym journal));
      streams = subst (AllZip Rests standing.streams) (sym connections) stands.streams;
    }

pub took_worker : (users : Users) (standing : Standing) (next : Running) (what : Action) (k : ℕ) (written : Option (List ℕ))
    → StandsAt standing next → TookTurn users (worker (step_of what) k) standing next written written
took_worker users standing next what k written stands = record { printed = []; after = standing; turn = (refl, refl); added = adds_none written; stands = stands }

pub worker_entered : (users : Users) (streams : List (List ℕ)) (what : Action) (k : ℕ) (before after : List Entry) → after ≡ before → FrameEnters users streams (worker (step_of what) k) before after
worker_entered users streams what k before after same = ([], refl, same)

-- The start

empty_slots_in : (journal : List Entry) (n : ℕ) → All (IsSlotIn journal) (replicate n Empty)
empty_slots_in journal zero = All-nil (IsSlotIn journal)
empty_slots_in journal (suc n) = All-cons (IsSlotIn journal) Empty (replicate n Empty) tt (empty_slots_in journal n)

pub sound_start : (users : Users) (script : Running) → IsBookOf users script.book → AllZip Rests (replicate 16 []) script.connections → script.slots ≡ replicate 64 Empty
    → IsSound users script.book.work.out script
sound_start users script book side slots = record {
  book_of = book;
  connections = AllZip-long Rests (replicate 16 []) script.connections side ∙ length-replicate {A = List ℕ} 16 [];
  slots = ap length slots ∙ length-replicate 64 Empty;
  claims = subst (λ xs. All (IsSlotIn script.book.work.journal) xs) (sym slots) (empty_slots_in script.book.work.journal 64);
  held = λ i d within. inl (Contains-get_or script.book.work.out i d within);
}

pub stands_start : (script : Running) → AllZip Rests (replicate 16 []) script.connections → StandsAt (standing_in (state_in script.book)) script
stands_start script side = record { server = refl; streams = side }
