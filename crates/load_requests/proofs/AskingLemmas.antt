-- One more request was written and read.
use Rattle.std.proofs.Common.{◌≡◌, ℕ, zero, suc, ◌+◌, ◌*◌, List, [], ◌∷◌, ◌++◌, length, refl, sym, ap, ◌∙◌, subst, arith, append_assoc, length-append}
use Rattle.std.specs.Prelude.{flat_map, codes, decimal, ◌≤◌, Result, Ok, Err, OnOk}
use Rattle.std.specs.List.{AllZip, range_with_len}
use Rattle.std.proofs.lemmas.Grind.{flat_map-append}
use Rattle.std.proofs.lemmas.List.{append-nil}
use Rattle.cal_model.specs.declared.request.Request.{Request}
use Rattle.cal_model.specs.declared.wire.WireRequest.{WireRequest}
use Rattle.cal_model.specs.Load.LoadRequests.{load_user, load_body, drawn_body, after_draws, next_draw, first_number, drawn_below, put_of, asked_after}
use Rattle.cal_model.specs.Streams.StreamRequests.{Begins}
use Rattle.cal_model.specs.Streams.WireLimits.{body_limit}
use Rattle.cal_model.specs.Users.UsersFile.{Users}
use Rattle.cal_model.proofs.Streams.ReadingLaws.{streams_grow}
use Rattle.http_wire.specs.declared.wire.Wire.{Wire}
use Rattle.http_wire.specs.Wires.{Stands}
use Rattle.load_requests.specs.DrawnEvents.{IsDrawn, first_requests}
use Rattle.load_requests.specs.declared.texts.Drawn.{Drawn}
use Rattle.load_requests.specs.Meanings.{put_by}
use Rattle.load_requests.specs.MeantRequests.{Means}
use Rattle.load_requests.specs.WrittenRequests.{HasAsked}

-- Requests

zip-snoc : (users : Users) (session : ℕ) (requests : List Request) (wires : List WireRequest) (request : Request) (wire : WireRequest)
    → AllZip (Means users session) requests wires → Means users session request wire → AllZip (Means users session) (requests ++ request ∷ []) (wires ++ wire ∷ [])
zip-snoc users session [] [] request wire each here = (here, tt)
zip-snoc users session [] (first ∷ wires) request wire each here = absurd each
zip-snoc users session (first ∷ requests) [] request wire each here = absurd each
zip-snoc users session (first ∷ requests) (next ∷ wires) request wire each here = (each.0, zip-snoc users session requests wires request wire each.1 here)

-- one more: its octets came behind those before, the wire gave it, and it asks for what is meant
pub asked-more : (users : Users) (session : ℕ) (octets piece : List ℕ) (count : ℕ) (old fed now : Wire) (wire : WireRequest) (request : Request)
    → ((rest : List ℕ) → Stands rest old → Stands (rest ++ piece) fed)
    → ((rest : List ℕ) → Stands rest fed → (behind : List ℕ) × Begins rest wire behind × Stands behind now)
    → Means users session request wire
    → (requests : List Request) → HasAsked users session requests octets count old → HasAsked users session (requests ++ request ∷ []) (octets ++ piece) (count + 1) now
asked-more users session octets piece count old fed now wire request feeds gives means requests before =
    let next = gives (before.rest ++ piece) (feeds before.rest before.stands) in
    record {
      wires = before.wires ++ wire ∷ [];
      rest = next.0;
      spelled = streams_grow octets piece before.wires (wire ∷ []) before.rest next.0 before.spelled (next.0, next.1, refl);
      stands = next.2;
      each = zip-snoc users session requests before.wires request wire before.each means;
      count_is = ap (λ n. n + 1) before.count_is ∙ sym (length-append requests (request ∷ []));
    }

-- The requests of one more put

range-more : (a n : ℕ) → range_with_len a (suc n) ≡ range_with_len a n ++ (a + n) ∷ []
range-more a zero = ap (λ k. k ∷ []) (omega arith)
range-more a (suc n) = ap (λ rest. a ∷ rest) (range-more (a + 1) n ∙ ap (λ k. range_with_len (a + 1) n ++ k ∷ []) (omega arith))

pub requests-more : (puts session many : ℕ) → (first_requests puts session many ++ put_of puts session many ∷ []) ++ asked_after session many ≡ first_requests puts session (many + 1)
requests-more puts session many =
    let of = λ (k : ℕ). put_of puts session k ∷ asked_after session k in
    let next : many + 1 ≡ suc many = omega arith in
    let here : 0 + many ≡ many = omega arith in
    let more : first_requests puts session (many + 1) ≡ first_requests puts session many ++ (put_of puts session many ∷ asked_after session many) =
    ap (λ n. first_requests puts session n) next
    ∙ ap (flat_map of) (range-more 0 many)
    ∙ flat_map-append of (range_with_len 0 many) ((0 + many) ∷ [])
    ∙ ap (λ rest. first_requests puts session many ++ rest) (append-nil (of (0 + many)) ∙ ap of here) in
    append_assoc (first_requests puts session many) (put_of puts session many ∷ []) (asked_after session many) ∙ sym more

-- Draws

draws-more : (a b x : ℕ) → after_draws b (after_draws a x) ≡ after_draws (a + b) x
draws-more zero b x = let none : b ≡ 0 + b = omega arith in ap (λ n. after_draws n x) none
draws-more (suc a) b x = let more : suc (a + b) ≡ suc a + b = omega arith in draws-more a b (next_draw x) ∙ ap (λ n. after_draws n x) more

-- four more draws were made
pub drawn-next : (puts session k old new : ℕ) (drawn : Drawn) → old ≡ after_draws (4 * k) (first_number puts session)
    → drawn.day ≡ drawn_below 365 (after_draws 1 old) → drawn.hour ≡ drawn_below 24 (after_draws 2 old) → drawn.form ≡ drawn_below 4 (after_draws 3 old) → drawn.minutes ≡ drawn_below 180 (after_draws 4 old)
    → new ≡ after_draws 4 old → IsDrawn puts session k drawn × (new ≡ after_draws (4 * (k + 1)) (first_number puts session))
drawn-next puts session k old new drawn is day hour form minutes next =
    let first = first_number puts session in
    let at = λ (many : ℕ). ap (after_draws many) is ∙ draws-more (4 * k) many first in
    let second : 4 * k + 2 ≡ (4 * k + 1) + 1 = omega arith in
    let third : 4 * k + 3 ≡ (4 * k + 2) + 1 = omega arith in
    let fourth : 4 * k + 4 ≡ (4 * k + 3) + 1 = omega arith in
    let last : 4 * k + 4 ≡ 4 * (k + 1) = omega arith in (
      record {
        day_is = day ∙ ap (drawn_below 365) (at 1);
        hour_is = hour ∙ ap (drawn_below 24) (at 2 ∙ ap (λ many. after_draws many first) second);
        form_is = form ∙ ap (drawn_below 4) (at 3 ∙ ap (λ many. after_draws many first) third);
        minutes_is = minutes ∙ ap (drawn_below 180) (at 4 ∙ ap (λ many. after_draws many first) fourth);
      },
      next ∙ at 4 ∙ ap (λ many. after_draws many first) last,
    )

-- The steps of the functions

-- the request that was read, where it is meant
pub asked-ok : {A E : Type 0} (users : Users) (session : ℕ) (request : Request) (octets piece more : List ℕ) (count next : ℕ) (old fed now : Wire) (wire : WireRequest)
    → more ≡ octets ++ piece → next ≡ count + 1
    → ((rest : List ℕ) → Stands rest old → Stands (rest ++ piece) fed)
    → ((rest : List ℕ) → Stands rest fed → (behind : List ℕ) × Begins rest wire behind × Stands behind now × (length wire.body ≤ body_limit))
    → (r : Result A E) → OnOk r (Means users session request wire)
    → OnOk r ((requests : List Request) → HasAsked users session requests octets count old → HasAsked users session (requests ++ request ∷ []) more next now)
asked-ok users session request octets piece more count next old fed now wire more_is next_is feeds gives (Ok done) means = λ requests before.
    subst (λ (o : List ℕ). HasAsked users session (requests ++ request ∷ []) o next now) (sym more_is)
    (subst (λ n. HasAsked users session (requests ++ request ∷ []) (octets ++ piece) n now) (sym next_is)
    (asked-more users session octets piece count old fed now wire request feeds (λ rest stands. let given = gives rest stands in (given.0, given.1, given.2)) means requests before))
asked-ok users session request octets piece more count next old fed now wire more_is next_is feeds gives (Err e) means = tt

-- a request that is another
pub asked-as : {A E : Type 0} (users : Users) (session : ℕ) (request meant : Request) (octets more : List ℕ) (count next : ℕ) (old now : Wire) → request ≡ meant → (r : Result A E)
    → OnOk r ((requests : List Request) → HasAsked users session requests octets count old → HasAsked users session (requests ++ request ∷ []) more next now)
    → OnOk r ((requests : List Request) → HasAsked users session requests octets count old → HasAsked users session (requests ++ meant ∷ []) more next now)
asked-as users session request meant octets more count next old now is r step =
    subst (λ (m : Request). OnOk r ((requests : List Request) → HasAsked users session requests octets count old → HasAsked users session (requests ++ m ∷ []) more next now)) is step

-- the put of what was drawn
pub put-is : (puts session k : ℕ) (drawn : Drawn) (name event : List ℕ) → name ≡ decimal k ++ codes ".ics" → event ≡ load_body k drawn.day drawn.hour drawn.form drawn.minutes → IsDrawn puts session k drawn
    → put_by (load_user session) name event ≡ put_of puts session k
put-is puts session k drawn name event name_is event_is is =
    let body : event ≡ drawn_body puts session k = event_is ∙ (λ i. load_body k (is.day_is i) (is.hour_is i) (is.form_is i) (is.minutes_is i)) in
    λ i. put_by (load_user session) (name_is i) (body i)
