-- What is drawn for a put, and the requests up to one.
use Rattle.std.specs.Prelude.{◌≡◌, ℕ, ◌+◌, ◌*◌, List, ◌∷◌, flat_map}
use Rattle.std.specs.List.{range_with_len}
use Rattle.cal_model.specs.declared.request.Request.{Request}
use Rattle.cal_model.specs.declared.report.ReportRequest.TheVariants.{FreeBusy}
use Rattle.cal_model.specs.Load.LoadRequests.{draw, put_of, asked_after, report_of, seconds, events_in}
use Rattle.load_requests.specs.declared.texts.Drawn.{Drawn}

-- what is drawn for put number k of a session
pub record IsDrawn (puts session k : ℕ) (drawn : Drawn) : Type 0 where
  pub day_is : drawn.day ≡ draw puts session (4 * k) 365
  pub hour_is : drawn.hour ≡ draw puts session (4 * k + 1) 24
  pub form_is : drawn.form ≡ draw puts session (4 * k + 2) 4
  pub minutes_is : drawn.minutes ≡ draw puts session (4 * k + 3) 180

-- the requests of the first puts
abbrev pub first_requests : ℕ → ℕ → ℕ → List Request
first_requests puts session many = flat_map (λ k. put_of puts session k ∷ asked_after session k) (range_with_len 0 many)

-- what is asked after each tenth put: the busy times of the year 2025, and the events of March
abbrev pub busy_year : ℕ → Request
busy_year session = report_of session 142 (FreeBusy (seconds 1_735_689_600 1_767_225_600))

abbrev pub events_of_march : ℕ → Request
events_of_march session = report_of session 316 (events_in (seconds 1_740_787_200 1_743_465_600))
