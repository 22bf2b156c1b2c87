-- A session goes on by an answer.
-- What stands in a journal stays in a longer one, so each answer is looked up in the journal at the end.
use Rattle.std.proofs.Common.{◌≡◌, ℕ, zero, suc, ◌+◌, ◌≤◌, ◌⊎◌, List, [], ◌∷◌, ◌++◌, length, take, drop, arith, refl, sym, ap, subst, ◌∙◌, Bool, true, false, Option, Some, None, nat_eq, eqb}
use Rattle.std.specs.Prelude.{if◌then◌else◌, ℤ}
use Rattle.std.specs.List.{AllByRecursion}
use Rattle.std.proofs.lemmas.List.{take-append-le, append-nil, append_assoc, length-append}
use Rattle.std.proofs.lemmas.List.Elements.{filter-append}
use Rattle.std.proofs.Math.Seq.{take-append_seam}
use Rattle.std.proofs.lemmas.Bool.{ne_eqb, eq-eqb}
use Rattle.turn_lock.specs.Journals.{entries_by, IsFollowedByOthers}
use Rattle.turn_lock.specs.Numbers.{times, as_one}
use Rattle.turn_lock.proofs.Histories.{all_both, all_as}
use Rattle.cal_model.specs.declared.request.Event.{Event}
use Rattle.cal_model.specs.History.Journal.{Entry}
use Rattle.cal_model.specs.Replies.BareReplies.{bare_reply}
use Rattle.cal_model.specs.Requests.AskedRequests.{Asked, refused, asked, asked_of}
use Rattle.cal_model.specs.Serving.Outcomes.{Outcome, accepted, unchanged, outcome}
use Rattle.cal_model.specs.State.Changes.{Change, change_of}
use Rattle.cal_model.specs.State.ServerState.{ServerState, directory_of}
use Rattle.cal_model.specs.Users.UsersFile.{Users}
use Rattle.cal_book.specs.EventSteps.{entries_by as entries_of_outcome, entries_made, state_behind}
use Rattle.cal_session.specs.declared.served.Served.{Served}
use Rattle.cal_session.specs.Turns.{Answer, event_of, reply_in, entries_in, IsAlike, is_busy, state_at, entries_of, IsAnswered, WhereRefused, StandsBehind, Rises, seen_behind, all_entries_of, IsSession}

abbrev session_of : Entry → ℕ
session_of entry = entry.session

-- Lists

drop_seam : {X : Type 0} (xs ys : List X) → drop (length xs) (xs ++ ys) ≡ ys
drop_seam [] ys = refl
drop_seam (x ∷ xs) ys = drop_seam xs ys

drop_within : {X : Type 0} (n : ℕ) (xs ys : List X) → n ≤ length xs → drop n (xs ++ ys) ≡ drop n xs ++ ys
drop_within zero xs ys h = refl
drop_within (suc n) [] ys h = absurd (omega (arith, h))
drop_within (suc n) (x ∷ xs) ys h = drop_within n xs ys (omega (arith, h))

drop_len : {X : Type 0} (n : ℕ) (xs : List X) → n ≤ length xs → length (drop n xs) + n ≡ length xs
drop_len zero xs h = omega arith
drop_len (suc n) [] h = absurd (omega (arith, h))
drop_len (suc n) (x ∷ xs) h = let e = drop_len n xs (omega (arith, h)) in omega (arith, e)

take_all : {X : Type 0} (xs : List X) → take (length xs) xs ≡ xs
take_all [] = refl
take_all (x ∷ xs) = ap (λ l. x ∷ l) (take_all xs)

-- What an event enters bears its session

own_by : (event : Event) (change : Option Change) (made : Outcome) → AllByRecursion (λ (e : Entry). e.session ≡ event.session) (entries_of_outcome event change made)
own_by event None (accepted status after) = tt
own_by event None (unchanged reply) = tt
own_by event (Some change) (accepted status after) = (refl, tt)
own_by event (Some change) (unchanged reply) = tt

pub own_made : (users : Users) (state : ServerState) (event : Event) → AllByRecursion (λ (e : Entry). e.session ≡ event.session) (entries_made users state event)
own_made users state event = own_by event (change_of (directory_of users) event.request) (outcome (directory_of users) state event)

own_in : (users : Users) (number : ℕ) (state : ServerState) (moment : ℤ) (what : Asked) → AllByRecursion (λ (e : Entry). e.session ≡ number) (entries_in users number state moment what)
own_in users number state moment (refused reply) = tt
own_in users number state moment (asked who request) = own_made users state (event_of number who moment request)

own_unless : (busy : Bool) (number : ℕ) (es : List Entry) → AllByRecursion (λ (e : Entry). e.session ≡ number) es → AllByRecursion (λ (e : Entry). e.session ≡ number) (if busy then [] else es)
own_unless true number es h = tt
own_unless false number es h = h

keeps_own : (number : ℕ) (es : List Entry) → AllByRecursion (λ (e : Entry). e.session ≡ number) es → entries_by session_of number es ≡ es
keeps_own number [] h = refl
keeps_own number (e ∷ es) h = ap (λ b. if b then e ∷ entries_by session_of number es else entries_by session_of number es) (eq-eqb e.session number h.0) ∙ ap (λ l. e ∷ l) (keeps_own number es h.1)

drops_others : (number : ℕ) (gone : List ℕ) (es : List Entry) → AllByRecursion (λ (e : Entry). times e.session (number ∷ gone) ≡ 0) es → entries_by session_of number es ≡ []
drops_others number gone [] h = refl
drops_others number gone (e ∷ es) h = ap (λ b. if b then e ∷ entries_by session_of number es else entries_by session_of number es) (ne_eqb e.session number (other e h.0)) ∙ drops_others number gone es h.1
  where
    other : (e : Entry) → times e.session (number ∷ gone) ≡ 0 → e.session ≡ number → ⊥
    other e none same = let one : as_one (eqb number e.session) ≡ 1 = ap as_one (eq-eqb number e.session (sym same)) in omega (arith, none, one)

module _ (users : Users) (number : ℕ) where
  -- In a longer journal

  same_state : (journal more : List Entry) (turn : Served) → turn.at ≤ length journal → state_at users number (journal ++ more) turn ≡ state_at users number journal turn
  same_state journal more turn h = ap (state_behind users) (take-append-le turn.at journal more h)

  same_entries : (journal more : List Entry) (a : Answer) → a.turn.at ≤ length journal → entries_of users number (journal ++ more) a ≡ entries_of users number journal a
  same_entries journal more a h = ap (λ state. if is_busy a.reply then [] else entries_in users number state a.turn.moment (asked_of users a.wire)) (same_state journal more a.turn h)

  at_within : (journal : List Entry) (a : Answer) → IsAnswered users number journal a → a.turn.at ≤ length journal
  at_within journal a x = let h = x.within in omega (arith, h)

  answered_later : (journal more : List Entry) (a : Answer) → IsAnswered users number journal a → IsAnswered users number (journal ++ more) a
  answered_later journal more a x =
      let at = at_within journal a x in
      let same = same_entries journal more a at in
      let n = length (entries_of users number journal a) in
      let room : n ≤ length (drop a.turn.at journal) = (let h = x.within in let e = drop_len a.turn.at journal at in omega (arith, h, e)) in
      record {
        status = x.status;
        reply = subst (λ state. (a.reply ≡ reply_in users number state a.turn.moment (asked_of users a.wire)) ⊎ (a.reply ≡ bare_reply 503)) (sym (same_state journal more a.turn at)) x.reply;
        alike = subst (λ state. IsAlike users number state a.turn.moment (asked_of users a.wire) a.reply) (sym (same_state journal more a.turn at)) x.alike;
        within = subst (λ es. a.turn.at + length es ≤ length (journal ++ more)) (sym same) (let h = x.within in let e = length-append journal more in omega (arith, h, e));
        stand = subst (λ es. take (length es) (drop a.turn.at (journal ++ more)) ≡ es) (sym same) (ap (take n) (drop_within a.turn.at journal more at) ∙ (take-append-le n (drop a.turn.at journal) more room ∙ x.stand));
      }

  all_later : (journal more : List Entry) (answers : List Answer) → AllByRecursion (IsAnswered users number journal) answers → AllByRecursion (IsAnswered users number (journal ++ more)) answers
  all_later journal more answers h = all_as (IsAnswered users number journal) (IsAnswered users number (journal ++ more)) answers (λ a x. answered_later journal more a x) h

  rises_later : (journal more : List Entry) (from : ℕ) (answers : List Answer) (to : ℕ) → AllByRecursion (IsAnswered users number journal) answers → Rises users number journal from answers to → Rises users number (journal ++ more) from answers to
  rises_later journal more from [] to h r = r
  rises_later journal more from (a ∷ answers) to h r =
      (r.0, subst (λ es. Rises users number (journal ++ more) (a.turn.at + length es) answers to) (sym (same_entries journal more a (at_within journal a h.0))) (rises_later journal more (a.turn.at + length (entries_of users number journal a)) answers to h.1 r.1))

  entries_later : (journal more : List Entry) (answers : List Answer) → AllByRecursion (IsAnswered users number journal) answers → all_entries_of users number (journal ++ more) answers ≡ all_entries_of users number journal answers
  entries_later journal more [] h = refl
  entries_later journal more (a ∷ answers) h =
      ap (λ es. es ++ all_entries_of users number (journal ++ more) answers) (same_entries journal more a (at_within journal a h.0)) ∙ ap (λ es. entries_of users number journal a ++ es) (entries_later journal more answers h.1)

  -- One answer more

  rises_to : (journal : List Entry) (from : ℕ) (answers : List Answer) (to on : ℕ) → Rises users number journal from answers to → to ≤ on → Rises users number journal from answers on
  rises_to journal from [] to on r h = (let s = r in omega (arith, s, h))
  rises_to journal from (a ∷ answers) to on r h = (r.0, rises_to journal (a.turn.at + length (entries_of users number journal a)) answers to on r.1 h)

  rises_further : (journal : List Entry) (from : ℕ) (answers : List Answer) (to on : ℕ) (a : Answer) → Rises users number journal from answers to → StandsBehind (asked_of users a.wire) (seen_behind users number journal from answers) a.turn.at
      → a.turn.at + length (entries_of users number journal a) ≤ on → Rises users number journal from (answers ++ a ∷ []) on
  rises_further journal from [] to on a r h g = (h, g)
  rises_further journal from (b ∷ answers) to on a r h g = (r.0, rises_further journal (b.turn.at + length (entries_of users number journal b)) answers to on a r.1 h g)

  -- What was seen behind the answers

  seen_later : (journal more : List Entry) (from : ℕ) (answers : List Answer) → AllByRecursion (IsAnswered users number journal) answers → seen_behind users number (journal ++ more) from answers ≡ seen_behind users number journal from answers
  seen_later journal more from [] h = refl
  seen_later journal more from (a ∷ answers) h =
      ap (λ es. seen_behind users number (journal ++ more) (a.turn.at + length es) answers) (same_entries journal more a (at_within journal a h.0)) ∙ seen_later journal more (a.turn.at + length (entries_of users number journal a)) answers h.1

  seen_further : (journal : List Entry) (from : ℕ) (answers : List Answer) (a : Answer) → seen_behind users number journal from (answers ++ a ∷ []) ≡ a.turn.at + length (entries_of users number journal a)
  seen_further journal from [] a = refl
  seen_further journal from (b ∷ answers) a = seen_further journal (b.turn.at + length (entries_of users number journal b)) answers a

  -- an answer at a journal stands behind what was seen before, where a refusal's journal is that
  stands_at : (what : Asked) (seen journal : List Entry) (at : ℕ) → at ≡ length journal → length seen ≤ length journal → WhereRefused what (journal ≡ seen) → StandsBehind what (length seen) at
  stands_at (refused reply) seen journal at place longer same = place ∙ ap length same
  stands_at (asked who request) seen journal at place longer same = omega (arith, place, longer)

  entries_further : (journal : List Entry) (answers : List Answer) (a : Answer) → all_entries_of users number journal (answers ++ a ∷ []) ≡ all_entries_of users number journal answers ++ entries_of users number journal a
  entries_further journal [] a = append-nil (entries_of users number journal a)
  entries_further journal (b ∷ answers) a =
      ap (λ es. entries_of users number journal b ++ es) (entries_further journal answers a) ∙ sym (append_assoc (entries_of users number journal b) (all_entries_of users number journal answers) (entries_of users number journal a))

  -- before the first answer
  pub none_yet : (old : List Entry) → IsSession users number old [] old
  none_yet old = record { begins = ([], sym (append-nil old)); answered = tt; rises = omega arith; own = sym (append-nil (entries_by session_of number old)) }

  -- where only entries of others came
  pub session_later : (gone : List ℕ) (old : List Entry) (answers : List Answer) (seen journal : List Entry) → IsSession users number old answers seen → IsFollowedByOthers session_of (number ∷ gone) seen journal → IsSession users number old answers journal
  session_later gone old answers seen journal s (rest, more, others) = subst (IsSession users number old answers) (sym more) (record {
    begins = (s.begins.0 ++ rest, ap (λ l. l ++ rest) s.begins.1 ∙ append_assoc old s.begins.0 rest);
    answered = all_later seen rest answers s.answered;
    rises = rises_to (seen ++ rest) (length old) answers (length seen) (length (seen ++ rest)) (rises_later seen rest (length old) answers (length seen) s.answered s.rises) (let n = length-append seen rest in omega (arith, n));
    own = filter-append (λ (e : Entry). nat_eq e.session number) seen rest
        ∙ (ap (λ l. entries_by session_of number seen ++ l) (drops_others number gone rest others)
        ∙ (append-nil (entries_by session_of number seen) ∙ (s.own ∙ ap (λ l. entries_by session_of number old ++ l) (sym (entries_later seen rest answers s.answered)))));
  })

  pub stands_later : (gone : List ℕ) (old : List Entry) (answers : List Answer) (seen journal : List Entry) (a : Answer) → IsSession users number old answers seen → seen_behind users number seen (length old) answers ≡ length seen
      → IsFollowedByOthers session_of (number ∷ gone) seen journal → a.turn.at ≡ length journal → WhereRefused (asked_of users a.wire) (journal ≡ seen) → StandsBehind (asked_of users a.wire) (seen_behind users number journal (length old) answers) a.turn.at
  stands_later gone old answers seen journal a s all (rest, more, others) place same =
      subst (λ n. StandsBehind (asked_of users a.wire) n a.turn.at) (sym (ap (λ l. seen_behind users number l (length old) answers) more ∙ (seen_later seen rest (length old) answers s.answered ∙ all)))
      (stands_at (asked_of users a.wire) seen journal a.turn.at place (let e = ap length more in let n = length-append seen rest in omega (arith, e, n)) same)

  -- a session with these answers, which has seen no more than they tell
  abbrev pub HasSeenAll : List Entry → List Answer → List Entry → Type 0
  HasSeenAll old answers journal = IsSession users number old answers journal × (seen_behind users number journal (length old) answers ≡ length journal)

  -- one answer more, at the journal; behind it all of the journal and of what it entered has been seen
  pub one_here : (old : List Entry) (answers : List Answer) (journal : List Entry) (a : Answer) → IsSession users number old answers journal → a.turn.at ≡ length journal → StandsBehind (asked_of users a.wire) (seen_behind users number journal (length old) answers) a.turn.at
      → a.turn.status ≡ a.reply.status
      → (a.reply ≡ reply_in users number (state_behind users journal) a.turn.moment (asked_of users a.wire)) ⊎ (a.reply ≡ bare_reply 503)
      → IsAlike users number (state_behind users journal) a.turn.moment (asked_of users a.wire) a.reply
      → HasSeenAll old (answers ++ a ∷ []) (journal ++ (if is_busy a.reply then [] else entries_in users number (state_behind users journal) a.turn.moment (asked_of users a.wire)))
  one_here old answers journal a s at stands status reply alike = (session, seen_further (journal ++ added) (length old) answers a ∙ (ap (λ es. a.turn.at + length es) added_is ∙ (let n = length-append journal added in omega (arith, at, n))))
    where
      added : List Entry
      added = if is_busy a.reply then [] else entries_in users number (state_behind users journal) a.turn.moment (asked_of users a.wire)

      mine : AllByRecursion (λ (e : Entry). e.session ≡ number) added
      mine = own_unless (is_busy a.reply) number (entries_in users number (state_behind users journal) a.turn.moment (asked_of users a.wire)) (own_in users number (state_behind users journal) a.turn.moment (asked_of users a.wire))

      place : take a.turn.at (journal ++ added) ≡ journal
      place = ap (λ n. take n (journal ++ added)) at ∙ take-append_seam journal added

      state_is : state_at users number (journal ++ added) a.turn ≡ state_behind users journal
      state_is = ap (state_behind users) place

      added_is : entries_of users number (journal ++ added) a ≡ added
      added_is = ap (λ state. if is_busy a.reply then [] else entries_in users number state a.turn.moment (asked_of users a.wire)) state_is

      here : IsAnswered users number (journal ++ added) a
      here = record {
        status = status;
        reply = subst (λ state. (a.reply ≡ reply_in users number state a.turn.moment (asked_of users a.wire)) ⊎ (a.reply ≡ bare_reply 503)) (sym state_is) reply;
        alike = subst (λ state. IsAlike users number state a.turn.moment (asked_of users a.wire) a.reply) (sym state_is) alike;
        within = subst (λ es. a.turn.at + length es ≤ length (journal ++ added)) (sym added_is) (let e = length-append journal added in omega (arith, e, at));
        stand = subst (λ es. take (length es) (drop a.turn.at (journal ++ added)) ≡ es) (sym added_is) (ap (λ n. take (length added) (drop n (journal ++ added))) at ∙ (ap (take (length added)) (drop_seam journal added) ∙ take_all added));
      }

      session : IsSession users number old (answers ++ a ∷ []) (journal ++ added)
      session = record {
        begins = (s.begins.0 ++ added, ap (λ l. l ++ added) s.begins.1 ∙ append_assoc old s.begins.0 added);
        answered = all_both (IsAnswered users number (journal ++ added)) answers (a ∷ []) (all_later journal added answers s.answered) (here, tt);
        rises = rises_further (journal ++ added) (length old) answers (length journal) (length (journal ++ added)) a
            (rises_later journal added (length old) answers (length journal) s.answered s.rises)
            (subst (λ n. StandsBehind (asked_of users a.wire) n a.turn.at) (sym (seen_later journal added (length old) answers s.answered)) stands)
            here.within;
        own = filter-append (λ (e : Entry). nat_eq e.session number) journal added
            ∙ (ap (λ l. entries_by session_of number journal ++ l) (keeps_own number added mine)
            ∙ (ap (λ l. l ++ added) s.own
            ∙ (append_assoc (entries_by session_of number old) (all_entries_of users number journal answers) added
            ∙ ap (λ l. entries_by session_of number old ++ l) (ap (λ l. l ++ added) (sym (entries_later journal added answers s.answered))
            ∙ (ap (λ l. all_entries_of users number (journal ++ added) answers ++ l) (sym added_is) ∙ sym (entries_further (journal ++ added) answers a))))));
      }
