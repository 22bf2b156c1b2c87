-- Payloads as a whole.
use Rattle.std.proofs.Common.{◌≡◌, ℕ, ◌<◌, ◌≤◌, ◌^◌, List, ◌∷◌, ◌++◌, length, get_or, take, drop, pos, refl, sym, ◌∙◌, ap, subst, arith}
use Rattle.std.specs.Int.{w16, w32, w64, to_be_bytes}
use Rattle.cal_model.specs.declared.request.Request.{Request}
use Rattle.cal_model.specs.History.Journal.{Entry}
use Rattle.cal_model.specs.Users.UsersFile.{Users}
use Rattle.cal_model.specs.Words.Limits.{last_moment}
use Rattle.cal_keeper.specs.declared.decoding.Head.{Head}
use Rattle.cal_keeper.specs.Steps.Decoding.{head_text, AsksForOwn, HasNoOwn, ReadsEvent, IsOutside}
use Rattle.cal_keeper.specs.Files.Payloads.{name_text, own_text, kind_of, home_of, calendar_of, payload_of, IsName}
use Rattle.cal_keeper.specs.Files.RecordForm.{payload_limit}
use Rattle.cal_keeper.proofs.PartLaws.{name_told, same_4}

pub payload_outside : (users : Users) (payload rest calendar after : List ℕ) (head : Head) → payload ≡ head_text head ++ rest → head.home < length users.people → length users.people < 2 ^ 32 → rest ≡ name_text calendar ++ after
    → HasNoOwn users head.kind head.home calendar after → IsOutside users payload
payload_outside users payload rest calendar after head head_is known few rest_is none entry form is =
    let same : head_text head ++ rest ≡ payload_of entry = sym head_is ∙ is in
    let kind : head.kind ≡ kind_of entry.change = ap (λ (xs : List ℕ). get_or xs 0 0) same in
    let home = same_4 head.home (home_of entry.change) (omega (arith, known, few)) (omega (arith, form.home, few)) (ap (λ (xs : List ℕ). take 4 (drop 15 xs)) same) in
    let behind : rest ≡ name_text (calendar_of entry.change) ++ own_text entry.change = ap (drop 19) same in
    let told = name_told rest calendar (calendar_of entry.change) after (own_text entry.change) rest_is behind in
    none entry.change (record { kind_is = sym kind; home_is = sym home; calendar_is = sym told.0; form = form.change; text = told.1 })

pub payload_read : (users : Users) (payload rest calendar after : List ℕ) (head : Head) (request : Request) → length payload ≤ payload_limit → payload ≡ head_text head ++ rest → head.who < length users.people → head.home < length users.people
    → head.moment ≤ last_moment → head.status < 2 ^ 16 → IsName calendar → rest ≡ name_text calendar ++ after → AsksForOwn users head.kind head.home calendar after request
    → ReadsEvent users payload (record { session = 0; who = head.who; moment = pos head.moment; request = request }) head.status
payload_read users payload rest calendar after head request short head_is who_known home_known moment_known status_small name rest_is asks =
    let change = asks.0 in
    let own = asks.1 in
    let entry : Entry = record { session = 0; who = head.who; moment = pos head.moment; change = asks.0; status = head.status } in
    let make : ℕ → ℕ → List ℕ → List ℕ → List ℕ = λ kind home name octets.
    (kind ∷ to_be_bytes w32 head.who ++ to_be_bytes w64 head.moment ++ to_be_bytes w16 head.status ++ to_be_bytes w32 home ++ name_text name) ++ octets in
    let made : payload ≡ make head.kind head.home calendar after = head_is ∙ ap (λ (xs : List ℕ). head_text head ++ xs) rest_is in
    let is : payload ≡ payload_of entry =
    made
    ∙ ap (λ (kind : ℕ). make kind head.home calendar after) (sym own.kind_is)
    ∙ ap (λ (home : ℕ). make (kind_of change) home calendar after) (sym own.home_is)
    ∙ ap (λ (name : List ℕ). make (kind_of change) (home_of change) name after) (sym own.calendar_is)
    ∙ ap (λ (octets : List ℕ). make (kind_of change) (home_of change) (calendar_of change) octets) own.text in (
      entry,
      record {
        recorded = record {
          session = refl;
          form = record {
            who = who_known;
            home = subst (λ (home : ℕ). home < length users.people) (sym own.home_is) home_known;
            moment = refl;
            to_9999 = moment_known;
            status = status_small;
            calendar = subst IsName (sym own.calendar_is) name;
            change = own.form;
            short = subst (λ (xs : List ℕ). length xs ≤ payload_limit) is short;
          };
        };
        payload_is = is;
        event_is = ap (λ (r : Request). record { session = 0; who = head.who; moment = pos head.moment; request = r }) asks.2;
        status_is = refl;
      },
    )
