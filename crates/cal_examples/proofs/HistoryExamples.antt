-- Journals: which objects are still there, where a journal leads, and what a worker does next.
use Rattle.std.specs.Prelude.{◌≡◌, refl, ℕ, List, [], ◌∷◌, Some, None, replicate, codes, pos, negsuc}
use Rattle.std.specs.Str.{is_utf8, chars}
use lib.Utf8.{encode}
use Rattle.cal_base.specs.declared.line.Node as N
use Rattle.cal_base.specs.declared.line.Node.TheBlock as B
use denote.Hole.Carrier as H
use Rattle.cal_model.specs.Access.Privileges.{privileges_held}
use Rattle.cal_model.specs.History.Claims.{Work, Pair, next_claim, latest_after}
use Rattle.cal_model.specs.History.Journal.{Entry, asked}
use Rattle.cal_model.specs.History.LiveObjects.{Placed, live_at}
use Rattle.cal_model.specs.History.Origins.{origins_after}
use Rattle.cal_model.specs.Refusals.Preconditions.{put_table}
use Rattle.cal_model.specs.Refusals.SharedRefusals.{shared_rows}
use Rattle.cal_model.specs.Serving.Outcomes.{accepted, outcome}
use Rattle.cal_model.specs.Sight.Scenes.{scene_at}
use Rattle.cal_model.specs.State.Changes.{Change, put, delete_object, delete_calendar, effect, change_of}
use Rattle.cal_model.specs.Values.RuleTexts.{rule_in_grammar}
use Rattle.cal_model.specs.Values.StampTexts.{stamps_in_grammar, periods_in_grammar, trigger_of}
use Rattle.cal_model.specs.Values.ValueTexts.{date_of, time_of, date_time_of, count_of, integer_of, length_of, offset_of}
use Rattle.cal_model.specs.Words.Lists.{counted_from}
use Rattle.cal_examples.proofs.ServingSamples.{three, alice_has, one_octets, two_octets}

abbrev entry_of : Change → ℕ → Entry
entry_of change status = record { session = 0; who = 0; moment = pos 1_741_600_000; change = change; status = status }

abbrev put_one : Entry
put_one = entry_of (put 0 (codes "calendar") (codes "one.ics") one_octets) 201

abbrev put_two : Entry
put_two = entry_of (put 0 (codes "calendar") (codes "two.ics") two_octets) 201

-- the same octets once more, which make another object
abbrev put_one_again : Entry
put_one_again = entry_of (put 0 (codes "calendar") (codes "one.ics") one_octets) 204

abbrev drop_two : Entry
drop_two = entry_of (delete_object 0 (codes "calendar") (codes "two.ics")) 204

abbrev journal : List Entry
journal = put_one ∷ put_two ∷ put_one_again ∷ drop_two ∷ []

-- Objects

abbrev one_placed : Placed
one_placed = record { home = 0; calendar = codes "calendar"; object = codes "one.ics"; octets = one_octets }

live : (live_at journal 0 ≡ None) × (live_at journal 1 ≡ None) × (live_at journal 2 ≡ Some one_placed) × (live_at journal 3 ≡ None) × (live_at journal 4 ≡ None)
live = (refl, refl, refl, refl, refl)

-- a calendar takes its objects with it
live_without_calendar : live_at (put_one ∷ entry_of (delete_calendar 0 (codes "calendar")) 204 ∷ []) 0 ≡ None
live_without_calendar = refl

-- the origins after a PUT in the place of the object that entry 0 made
origins : (origins_after (put 0 (codes "calendar") (codes "one.ics") one_octets) 2 (λ home calendar object. Some 0) 0 (codes "calendar") (codes "one.ics") ≡ Some 2)
    × (origins_after (put 0 (codes "calendar") (codes "one.ics") one_octets) 2 (λ home calendar object. Some 0) 0 (codes "calendar") (codes "two.ics") ≡ Some 0)
    × (origins_after (delete_object 0 (codes "calendar") (codes "one.ics")) 2 (λ home calendar object. Some 0) 0 (codes "calendar") (codes "one.ics") ≡ None)
origins = (refl, refl, refl)

-- Replay: each entry is accepted at its place

accepted_first : outcome three (alice_has 0 [] []) (asked three put_one) ≡ accepted 201 (alice_has 373 [] ((codes "one.ics", one_octets) ∷ []))
unfolding outcome privileges_held shared_rows scene_at change_of effect put_table is_utf8 chars encode counted_from date_of time_of date_time_of count_of integer_of length_of offset_of stamps_in_grammar periods_in_grammar trigger_of rule_in_grammar N.out-Node N.roll-Node B.shown-the_row-Node-0 B.hidden-the_row-Node-0 B.shape-the_row-Node-0 H.out H.roll H.shown H.hidden
accepted_first = refl

accepted_again : outcome three (alice_has 373 [] ((codes "one.ics", one_octets) ∷ [])) (asked three put_one_again) ≡ accepted 204 (alice_has 746 [] ((codes "one.ics", one_octets) ∷ []))
unfolding outcome privileges_held shared_rows scene_at change_of effect put_table is_utf8 chars encode counted_from date_of time_of date_time_of count_of integer_of length_of offset_of stamps_in_grammar periods_in_grammar trigger_of rule_in_grammar N.out-Node N.roll-Node B.shown-the_row-Node-0 B.hidden-the_row-Node-0 B.shape-the_row-Node-0 H.out H.roll H.shown H.hidden
accepted_again = refl

accepted_deletion : outcome three (alice_has 746 [] ((codes "one.ics", one_octets) ∷ (codes "two.ics", two_octets) ∷ [])) (asked three drop_two) ≡ accepted 204 (alice_has 746 [] ((codes "one.ics", one_octets) ∷ []))
unfolding outcome privileges_held shared_rows scene_at change_of effect
accepted_deletion = refl

-- Claims: the latest request was on 10 March 2025, in window 314, so the horizon is the windows 310 to 322

abbrev work : Work
work = record { journal = journal; latest = pos 1_741_600_000; pieces = []; out = [] }

abbrev one_in : ℕ → Pair
one_in window = record { origin = 2; window = pos window }

first_claim : next_claim work ≡ Some (one_in 310)
first_claim = refl

-- a window that has its piece is passed over, and so is one that is claimed out
next_claims : (next_claim (record work { pieces = record { origin = 2; window = pos 310; rows = [] } ∷ [] }) ≡ Some (one_in 311))
    × (next_claim (record work { out = one_in 310 ∷ one_in 311 ∷ [] }) ≡ Some (one_in 312))
    × (next_claim (record work { pieces = record { origin = 0; window = pos 310; rows = [] } ∷ [] }) ≡ Some (one_in 310))
next_claims = (refl, refl, refl)

-- before the first request the horizon begins four windows before that of 1 January 1970
claim_at_start : next_claim (record work { latest = pos 0 }) ≡ Some (record { origin = 2; window = negsuc 3 })
claim_at_start = refl

-- of two objects the one that an earlier entry made comes first, and windows come before objects
claim_of_two : (next_claim (record work { journal = put_one ∷ put_two ∷ [] }) ≡ Some (record { origin = 0; window = pos 310 }))
    × (next_claim (record work { journal = put_one ∷ put_two ∷ []; out = record { origin = 0; window = pos 310 } ∷ [] }) ≡ Some (record { origin = 1; window = pos 310 }))
claim_of_two = (refl, refl)

-- no claim where 64 are out, or where nothing is there
no_claim : (next_claim (record work { out = replicate 64 (record { origin = 9; window = pos 0 }) }) ≡ None) × (next_claim (record work { journal = put_two ∷ drop_two ∷ [] }) ≡ None)
no_claim = (refl, refl)

-- want of memory does not move the focus, and time does not run back
latest_moments : (latest_after (pos 5) (pos 9) 200 ≡ pos 9) × (latest_after (pos 5) (pos 9) 503 ≡ pos 5) × (latest_after (pos 9) (pos 5) 404 ≡ pos 9)
latest_moments = (refl, refl, refl)
