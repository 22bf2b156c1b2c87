-- The text of an event, from its parts.
use Rattle.std.proofs.Common.{◌≡◌, ℕ, ◌+◌, ◌*◌, Bool, true, false, List, [], ◌∷◌, ◌++◌, refl, ap, ◌∙◌, append_assoc}
use Rattle.std.specs.Prelude.{◌==◌, if◌then◌else◌, codes, decimal, pos}
use Rattle.cal_model.specs.Busy.FreeBusyText.{utc_text}
use Rattle.cal_model.specs.Load.LoadRequests.{load_body, load_moment, rule_lines}
use Rattle.cal_model.specs.Words.TextLines.{lines_text}
use Rattle.load_requests.specs.EventTexts.{event_front, length_lines, rule_text, event_end}

regrouped : (a d b x c m e r end : List ℕ) → ((((a ++ (d ++ b)) ++ x) ++ (c ++ (m ++ e))) ++ r) ++ end ≡ a ++ (d ++ (b ++ (x ++ (c ++ (m ++ (e ++ (r ++ end)))))))
regrouped a d b x c m e r end = simp append_assoc

-- the line of a rule, and the last lines
rules-text : (form : ℕ) → rule_text form ++ event_end ≡ lines_text (rule_lines form ++ (codes "END:VEVENT" ∷ codes "END:VCALENDAR" ∷ []))
rules-text form = by (form == 1) (form == 2) (form == 3) where
  by : (daily weekly monthly : Bool)
      → (if daily then codes "RRULE:FREQ=DAILY;COUNT=30\r\n" else (if weekly then codes "RRULE:FREQ=WEEKLY;COUNT=52\r\n" else (if monthly then codes "RRULE:FREQ=MONTHLY;COUNT=24\r\n" else codes ""))) ++ event_end
      ≡ lines_text ((if daily then codes "RRULE:FREQ=DAILY;COUNT=30" ∷ [] else (if weekly then codes "RRULE:FREQ=WEEKLY;COUNT=52" ∷ [] else (if monthly then codes "RRULE:FREQ=MONTHLY;COUNT=24" ∷ [] else []))) ++ (codes "END:VEVENT" ∷ codes "END:VCALENDAR" ∷ []))
  by true weekly monthly = refl
  by false true monthly = refl
  by false false true = refl
  by false false false = refl

body-parts : (k day hour form minutes : ℕ)
    → (((event_front k ++ utc_text (pos (load_moment + 86_400 * day + 3600 * hour))) ++ length_lines (minutes + 1)) ++ rule_text form) ++ event_end ≡ load_body k day hour form minutes
body-parts k day hour form minutes =
    let start = utc_text (pos (load_moment + 86_400 * day + 3600 * hour)) in
    regrouped (codes "BEGIN:VCALENDAR\r\nVERSION:2.0\r\nPRODID:-//caldav_server//EN\r\nBEGIN:VEVENT\r\nUID:") (decimal k) (codes "\r\nDTSTAMP:20250101T000000Z\r\nDTSTART:") start
    (codes "\r\nDURATION:PT") (decimal (minutes + 1)) (codes "M\r\n") (rule_text form) event_end
    ∙ ap (λ last. codes "BEGIN:VCALENDAR\r\nVERSION:2.0\r\nPRODID:-//caldav_server//EN\r\nBEGIN:VEVENT\r\nUID:" ++ (decimal k ++ (codes "\r\nDTSTAMP:20250101T000000Z\r\nDTSTART:" ++ (start
    ++ (codes "\r\nDURATION:PT" ++ (decimal (minutes + 1) ++ (codes "M\r\n" ++ last))))))) (rules-text form)
    ∙ ap (λ length. codes "BEGIN:VCALENDAR\r\nVERSION:2.0\r\nPRODID:-//caldav_server//EN\r\nBEGIN:VEVENT\r\nUID:" ++ (decimal k ++ (codes "\r\nDTSTAMP:20250101T000000Z\r\nDTSTART:" ++ (start
    ++ (codes "\r\nDURATION:PT" ++ length))))) (sym-assoc (decimal (minutes + 1)) (codes "M") (codes "\r\n" ++ lines_text (rule_lines form ++ (codes "END:VEVENT" ∷ codes "END:VCALENDAR" ∷ [])))) where
      sym-assoc : (m e r : List ℕ) → m ++ (e ++ r) ≡ (m ++ e) ++ r
      sym-assoc m e r = simp append_assoc

-- the same, as it is written piece by piece
pub event-made : (k day hour form minutes : ℕ) (front start length rule first second third fourth all : List ℕ)
    → front ≡ event_front k → first ≡ front → start ≡ utc_text (pos (load_moment + 86_400 * day + 3600 * hour)) → second ≡ first ++ start
    → length ≡ length_lines (minutes + 1) → third ≡ second ++ length → rule ≡ rule_text form → fourth ≡ third ++ rule → all ≡ fourth ++ event_end
    → all ≡ load_body k day hour form minutes
event-made k day hour form minutes front start length rule first second third fourth all front_is first_is start_is second_is length_is third_is rule_is fourth_is all_is =
    let one : first ≡ event_front k = first_is ∙ front_is in
    let two : second ≡ event_front k ++ utc_text (pos (load_moment + 86_400 * day + 3600 * hour)) = second_is ∙ (λ i. one i ++ start_is i) in
    let three : third ≡ (event_front k ++ utc_text (pos (load_moment + 86_400 * day + 3600 * hour))) ++ length_lines (minutes + 1) = third_is ∙ (λ i. two i ++ length_is i) in
    let four : fourth ≡ ((event_front k ++ utc_text (pos (load_moment + 86_400 * day + 3600 * hour))) ++ length_lines (minutes + 1)) ++ rule_text form = fourth_is ∙ (λ i. three i ++ rule_is i) in
    all_is ∙ (λ i. four i ++ event_end) ∙ body-parts k day hour form minutes
