-- The turns of a session in a journal that several made: between two of them the home stays as it is.
use Rattle.std.proofs.Common.{◌≡◌, ℕ, ◌+◌, ◌-◌, ◌≤◌, List, [], ◌∷◌, ◌++◌, length, map, take, drop, refl, sym, ap, ◌∙◌, subst, arith, length-append}
use Rattle.std.specs.Prelude.{filter}
use Rattle.std.specs.List.{AllByRecursion}
use Rattle.std.proofs.Math.Seq.{take-add}
use Rattle.std.proofs.lemmas.List.{take-append-drop, drop-drop, append_cancel_left, nil_from_length}
use Rattle.std.proofs.lemmas.List.Elements.{filter-append}
use Rattle.cal_model.specs.History.Journal.{Entry, replay, replay_from, IsLegal}
use Rattle.cal_model.specs.Serving.EventReplies.{reply_to, state_after}
use Rattle.cal_model.specs.Serving.Outcomes.{outcome}
use Rattle.cal_model.specs.State.Changes.{change_of}
use Rattle.cal_model.specs.State.ServerState.{Directory, ServerState, home_at, opening_state}
use Rattle.cal_model.proofs.History.JournalLaws.{replay_from-append, beginnings_are_legal}
use Rattle.cal_model.proofs.Words.ListTests.{all_front, all_back}
use Rattle.home_laws.specs.Homes.{IsOwnOrApart}
use Rattle.home_laws.specs.LoneSessions.{replies_alone, Turn, is_of, state_at, entries_of, all_entries_of, IsTurn, Rises, SessionsAreAlone}
use Rattle.home_laws.proofs.JournalLemmas.{replay-behind, entries_by-own}
use Rattle.home_laws.proofs.OutcomeLemmas.{homes_are_apart}
use Rattle.home_laws.proofs.ReplayLemmas.{homes_follow_their_entries}

-- Lists

-- what is left behind some items, by a part of it
drop-parts : {X : Type 0} (xs : List X) (from more : ℕ) → drop from xs ≡ take more (drop from xs) ++ drop (from + more) xs
drop-parts xs from more = sym (ap (λ behind. take more (drop from xs) ++ behind) (sym (drop-drop more from xs)) ∙ take-append-drop more (drop from xs))

-- an item more of each list in front, where the second has at least as many behind
only-front : {X : Type 0} (front same xs ys : List X) → front ++ (same ++ xs) ≡ same ++ ys → length ys ≤ length xs → (front ≡ []) × (xs ≡ ys)
only-front front same xs ys e few =
    let lengths : length front + (length same + length xs) ≡ length same + length ys =
    sym (length-append front (same ++ xs) ∙ ap (λ n. length front + n) (length-append same xs)) ∙ ap length e ∙ length-append same ys in
    let none : length front ≡ 0 = omega arith in
    let empty = nil_from_length front none in
    (empty, append_cancel_left same xs ys (sym (ap (λ f. f ++ (same ++ xs)) empty) ∙ e))

module _ (directory : Directory) (journal : List Entry) (session home : ℕ) where
  -- the session's own entries among some
  abbrev own_of : List Entry → List Entry
  own_of entries = filter (is_of session) entries

  -- behind a place: what stands before a turn, what the turn entered, and what stands behind it
  own-parts : (from : ℕ) (turn : Turn) → IsTurn directory journal session home turn → from ≤ turn.at
      → own_of (drop from journal) ≡ own_of (take (turn.at - from) (drop from journal)) ++ (entries_of directory journal turn ++ own_of (drop (turn.at + length (entries_of directory journal turn)) journal))
  own-parts from turn is rises =
      let at : from + (turn.at - from) ≡ turn.at = omega arith in
      let entries = entries_of directory journal turn in
      let own : filter (is_of session) entries ≡ entries = entries_by-own session turn.event (change_of directory turn.event.request) (outcome directory (state_at directory journal turn) turn.event) is.session_is in
      let behind : drop turn.at journal ≡ entries ++ drop (turn.at + length entries) journal =
      drop-parts journal turn.at (length entries) ∙ ap (λ front. front ++ drop (turn.at + length entries) journal) is.stands in
      ap (filter (is_of session)) (drop-parts journal from (turn.at - from))
      ∙ filter-append (is_of session) (take (turn.at - from) (drop from journal)) (drop (from + (turn.at - from)) journal)
      ∙ ap (λ n. filter (is_of session) (take (turn.at - from) (drop from journal)) ++ filter (is_of session) (drop n journal)) at
      ∙ ap (λ rest. filter (is_of session) (take (turn.at - from) (drop from journal)) ++ filter (is_of session) rest) behind
      ∙ ap (λ rest. filter (is_of session) (take (turn.at - from) (drop from journal)) ++ rest)
      (filter-append (is_of session) entries (drop (turn.at + length entries) journal) ∙ ap (λ front. front ++ filter (is_of session) (drop (turn.at + length entries) journal)) own)

  -- there are at least as many as the turns entered
  as-many : (from : ℕ) (turns : List Turn) → AllByRecursion (IsTurn directory journal session home) turns → Rises directory journal from turns
      → length (all_entries_of directory journal turns) ≤ length (own_of (drop from journal))
  as-many from [] each rises = omega arith
  as-many from (turn ∷ turns) each rises =
      let entries = entries_of directory journal turn in
      let place = turn.at + length entries in
      let rest = as-many place turns each.1 rises.1 in
      let front = own_of (take (turn.at - from) (drop from journal)) in
      let parts = ap length (own-parts from turn each.0 rises.0) ∙ length-append front (entries ++ own_of (drop place journal)) ∙ ap (λ n. length front + n) (length-append entries (own_of (drop place journal))) in
      let lengths = length-append entries (all_entries_of directory journal turns) in
      omega (arith, rest, parts, lengths)

  -- the replies from a place on, where the home is as in the session's own state
  replies-from : (from : ℕ) (state : ServerState) (turns : List Turn) → IsLegal directory journal → AllByRecursion (IsOwnOrApart directory home (is_of session)) journal
      → AllByRecursion (IsTurn directory journal session home) turns → Rises directory journal from turns
      → own_of (drop from journal) ≡ all_entries_of directory journal turns → home_at (replay directory (take from journal)) home ≡ home_at state home
      → map (λ (turn : Turn). turn.reply) turns ≡ replies_alone directory state (map (λ (turn : Turn). turn.event) turns)
  replies-from from state [] legal apart each rises own same = refl
  replies-from from state (turn ∷ turns) legal apart each rises own same =
      let entries = entries_of directory journal turn in
      let place = turn.at + length entries in
      let between = take (turn.at - from) (drop from journal) in
      let at : from + (turn.at - from) ≡ turn.at = omega arith in
      let split = only-front (own_of between) entries (own_of (drop place journal)) (all_entries_of directory journal turns)
      (sym (own-parts from turn each.0 rises.0) ∙ own) (as-many place turns each.1 rises.1) in
      let upto : take turn.at journal ≡ take from journal ++ between = ap (λ n. take n journal) (sym at) ∙ take-add from (turn.at - from) journal in
      let between_apart : AllByRecursion (IsOwnOrApart directory home (is_of session)) between =
      all_front _ between (drop (turn.at - from) (drop from journal))
      (subst (AllByRecursion (IsOwnOrApart directory home (is_of session))) (sym (take-append-drop (turn.at - from) (drop from journal)))
      (all_back _ (take from journal) (drop from journal) (subst (AllByRecursion (IsOwnOrApart directory home (is_of session))) (sym (take-append-drop from journal)) apart))) in
      let here : home_at (state_at directory journal turn) home ≡ home_at state home =
      ap (λ entries. home_at (replay directory entries) home) upto
      ∙ ap (λ s. home_at s home) (replay_from-append directory (opening_state directory) (take from journal) between)
      ∙ homes_follow_their_entries directory (replay directory (take from journal)) state home (is_of session) between between_apart same
      ∙ ap (λ entries. home_at (replay_from directory state entries) home) split.0 in
      let legal_here = beginnings_are_legal directory (take turn.at journal) (drop turn.at journal) (subst (IsLegal directory) (sym (take-append-drop turn.at journal)) legal) in
      let behind : home_at (replay directory (take place journal)) home ≡ home_at (state_after directory state turn.event) home =
      ap (λ entries. home_at (replay directory entries) home) (take-add turn.at (length entries) journal ∙ ap (λ more. take turn.at journal ++ more) each.0.stands)
      ∙ ap (λ s. home_at s home) (replay-behind directory (take turn.at journal) turn.event legal_here each.0.size)
      ∙ homes_are_apart.after directory (state_at directory journal turn) state turn.event home each.0.about here in
      let first : turn.reply ≡ reply_to directory state turn.event = each.0.reply ∙ homes_are_apart.reply directory (state_at directory journal turn) state turn.event home each.0.about here in
      let others = replies-from place (state_after directory state turn.event) turns legal apart each.1 rises.1 split.1 behind in
      λ i. first i ∷ others i

pub sessions_are_alone : SessionsAreAlone
sessions_are_alone directory journal session home turns are =
    replies-from directory journal session home 0 (opening_state directory) turns are.legal are.apart are.each are.rises are.own refl
