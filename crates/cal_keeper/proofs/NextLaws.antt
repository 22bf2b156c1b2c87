-- What a reader finds next of a file: a payload is that of one entry, and a file stands for one list of entries.
use Rattle.std.proofs.Common.{◌≡◌, ◌≢◌, ℕ, ◌<◌, ◌≤◌, ◌^◌, List, [], ◌∷◌, ◌++◌, length, get_or, take, drop, map, flat_map, ℤ, pos, refl, sym, ◌∙◌, ap, arith, length-append, append_assoc}
use Rattle.std.specs.List.{AllByRecursion}
use Rattle.std.proofs.lemmas.List.{append-nil, drop_at}
use Rattle.cal_model.specs.declared.privilege.Grant.{Grant}
use Rattle.cal_model.specs.declared.property.PropSet.{PropSet}
use Rattle.cal_model.specs.History.Journal.{Entry}
use Rattle.cal_model.specs.State.Changes.{Change, put, delete_object, delete_calendar, make, patch, acl}
use Rattle.cal_model.specs.Users.UsersFile.{Users}
use Rattle.cal_keeper.specs.Disks.CrashModel.{Past, reading}
use Rattle.cal_keeper.specs.Steps.Decoding.{IsAny}
use Rattle.cal_keeper.specs.Files.Headers.{header_of}
use Rattle.cal_keeper.specs.Files.Standing.{IsRead, IsRecorded, StandsFor}
use Rattle.cal_keeper.specs.Files.Payloads.{name_text, long_text, set_text, grant_text, sets_text, own_text, kind_of, home_of, calendar_of, seconds_of, payload_of, ChangeHasForm, GrantHasForm}
use Rattle.cal_keeper.specs.Files.RecordForm.{HasRecord, open_gate, open_record, front_of}
use Rattle.cal_keeper.proofs.GatePlaces.{one_record}
use Rattle.cal_keeper.proofs.GrantTexts.{grant_told}
use Rattle.cal_keeper.proofs.PartLaws.{same_2, same_4, same_8, same_front, name_told, long_told, set_told, whole_told, by_recursion, all_any}
use Rattle.cal_keeper.specs.Principals.{counts_of, AreFew}
use Rattle.cal_keeper.specs.declared.principals.PrincipalCounts.{PrincipalCounts}

-- A payload is that of one entry

sets_told : (size other_size : ℕ) (sets others : List PropSet) → length (flat_map set_text sets) < 2 ^ 30 → size < 2 ^ 32 → other_size < 2 ^ 32 → length sets < 2 ^ 32 → length others < 2 ^ 32 → sets_text size sets ≡ sets_text other_size others
    → (size ≡ other_size) × (sets ≡ others)
sets_told size other_size sets others short size_small other_small few other_few same =
    let counts = same_4 (length sets) (length others) few other_few (ap (λ (xs : List ℕ). take 4 (drop 4 xs)) same) in (
      same_4 size other_size size_small other_small (ap (take 4) same),
      whole_told set_text IsAny set_told sets others (flat_map set_text sets) (omega (arith, short)) (all_any sets) (all_any others) refl (ap (drop 8) same) counts,
    )

change_told : (counts : PrincipalCounts) → AreFew counts → (a b : Change) → length (own_text a) < 2 ^ 30 → kind_of a ≡ kind_of b → home_of a ≡ home_of b → calendar_of a ≡ calendar_of b → ChangeHasForm counts a → ChangeHasForm counts b → own_text a ≡ own_text b
    → a ≡ b
change_told counts few (put h c o x) (put k d p y) short kind home calendar form_a form_b same =
    let names = name_told (name_text o ++ long_text x) o p (long_text x) (long_text y) refl same in
    let size : length (long_text x) < 2 ^ 32 = omega (arith, short, length-append (name_text o) (long_text x)) in
    let texts = long_told (long_text x) x y [] [] size (sym (append-nil (long_text x))) (names.1 ∙ sym (append-nil (long_text y))) in
    ap (λ (n : ℕ). put n c o x) home ∙ ap (λ (n : List ℕ). put k n o x) calendar ∙ ap (λ (n : List ℕ). put k d n x) names.0 ∙ ap (λ (n : List ℕ). put k d p n) texts.0
change_told counts few (put h c o x) other short kind home calendar form_a form_b same = absurd (omega (arith, kind))
change_told counts few (delete_object h c o) (delete_object k d p) short kind home calendar form_a form_b same =
    ap (λ (n : ℕ). delete_object n c o) home ∙ ap (λ (n : List ℕ). delete_object k n o) calendar ∙ ap (λ (n : List ℕ). delete_object k d n) (ap (drop 1) same)
change_told counts few (delete_object h c o) other short kind home calendar form_a form_b same = absurd (omega (arith, kind))
change_told counts few (delete_calendar h c) (delete_calendar k d) short kind home calendar form_a form_b same =
    ap (λ (n : ℕ). delete_calendar n c) home ∙ ap (λ (n : List ℕ). delete_calendar k n) calendar
change_told counts few (delete_calendar h c) other short kind home calendar form_a form_b same = absurd (omega (arith, kind))
change_told counts few (make h c sets size) (make k d others other_size) short kind home calendar form_a form_b same =
    let told = sets_told size other_size sets others (omega (arith, short)) form_a.1 form_b.1 (omega (arith, form_a.0.0)) (omega (arith, form_b.0.0)) same in
    ap (λ (n : ℕ). make n c sets size) home ∙ ap (λ (n : List ℕ). make k n sets size) calendar ∙ ap (λ (n : List PropSet). make k d n size) told.1 ∙ ap (λ (n : ℕ). make k d others n) told.0
change_told counts few (make h c sets size) other short kind home calendar form_a form_b same = absurd (omega (arith, kind))
change_told counts few (patch h c sets size) (patch k d others other_size) short kind home calendar form_a form_b same =
    let told = sets_told size other_size sets others (omega (arith, short)) form_a.1 form_b.1 (omega (arith, form_a.0.0)) (omega (arith, form_b.0.0)) same in
    ap (λ (n : ℕ). patch n c sets size) home ∙ ap (λ (n : List ℕ). patch k n sets size) calendar ∙ ap (λ (n : List PropSet). patch k d n size) told.1 ∙ ap (λ (n : ℕ). patch k d others n) told.0
change_told counts few (patch h c sets size) other short kind home calendar form_a form_b same = absurd (omega (arith, kind))
change_told counts few (acl h c grants size) (acl k d others other_size) short kind home calendar form_a form_b same =
    let sizes = same_4 size other_size form_a.2 form_b.2 (ap (take 4) same) in
    let count : length grants ≡ length others = ap (λ (xs : List ℕ). get_or xs 4 0) same in
    let smaller : length (flat_map grant_text grants) < 2 ^ 32 = omega (arith, short) in
    let lists = whole_told grant_text (GrantHasForm counts) (grant_told counts few) grants others (flat_map grant_text grants) smaller (by_recursion (GrantHasForm counts) grants form_a.1) (by_recursion (GrantHasForm counts) others form_b.1) refl
    (ap (drop 5) same) count in
    ap (λ (n : ℕ). acl n c grants size) home ∙ ap (λ (n : List ℕ). acl k n grants size) calendar ∙ ap (λ (n : List Grant). acl k d n size) lists ∙ ap (λ (n : ℕ). acl k d others n) sizes
change_told counts few (acl h c grants size) other short kind home calendar form_a form_b same = absurd (omega (arith, kind))

pub entry_told : (users : Users) → AreFew (counts_of users) → (a b : Entry) → IsRecorded users a → IsRecorded users b → payload_of a ≡ payload_of b → a ≡ b
entry_told users few a b in_a in_b same =
    let form_a = in_a.form in
    let form_b = in_b.form in
    let kind : kind_of a.change ≡ kind_of b.change = ap (λ (xs : List ℕ). get_or xs 0 0) same in
    let who = same_4 a.who b.who (omega (arith, form_a.who, few.0)) (omega (arith, form_b.who, few.0)) (ap (λ (xs : List ℕ). take 4 (drop 1 xs)) same) in
    let seconds = same_8 (seconds_of a.moment) (seconds_of b.moment) (omega (arith, form_a.to_9999)) (omega (arith, form_b.to_9999)) (ap (λ (xs : List ℕ). take 8 (drop 5 xs)) same) in
    let moment : a.moment ≡ b.moment = form_a.moment ∙ ap (λ (n : ℕ). pos n) seconds ∙ sym form_b.moment in
    let status = same_2 a.status b.status form_a.status form_b.status (ap (λ (xs : List ℕ). take 2 (drop 13 xs)) same) in
    let home = same_4 (home_of a.change) (home_of b.change) (omega (arith, form_a.home, few.0)) (omega (arith, form_b.home, few.0)) (ap (λ (xs : List ℕ). take 4 (drop 15 xs)) same) in
    let behind : name_text (calendar_of a.change) ++ own_text a.change ≡ name_text (calendar_of b.change) ++ own_text b.change = ap (drop 19) same in
    let names = name_told (name_text (calendar_of a.change) ++ own_text a.change) (calendar_of a.change) (calendar_of b.change) (own_text a.change) (own_text b.change) refl behind in
    let short : length (own_text a.change) < 2 ^ 30 = omega (arith, form_a.short, length-append (calendar_of a.change) (own_text a.change)) in
    let change = change_told (counts_of users) few a.change b.change short kind home names.0 form_a.change form_b.change names.1 in
    let session : a.session ≡ b.session = in_a.session ∙ sym in_b.session in
    let whole : ℕ → ℕ → ℤ → Change → ℕ → Entry = λ s w m c t. record { session = s; who = w; moment = m; change = c; status = t } in
    ap (λ (s : ℕ). whole s a.who a.moment a.change a.status) session
    ∙ ap (λ (w : ℕ). whole b.session w a.moment a.change a.status) who
    ∙ ap (λ (m : ℤ). whole b.session b.who m a.change a.status) moment
    ∙ ap (λ (c : Change). whole b.session b.who b.moment c a.status) change
    ∙ ap (λ (t : ℕ). whole b.session b.who b.moment b.change t) status

-- A file stands for one list of entries

abbrev pub texts : List Entry → List ℕ
texts entries = flat_map open_record (map payload_of entries)

payload_some : (entry : Entry) → 1 ≤ length (payload_of entry)
payload_some entry = omega arith

-- the record of an entry stands in front of more
pub record_there : (users : Users) (entry : Entry) (octets more : List ℕ) → IsRecorded users entry → octets ≡ open_record (payload_of entry) ++ more → HasRecord (payload_of entry) octets
record_there users entry octets more recorded is = ((payload_some entry, recorded.form.short), more, is)

-- what is left of a file behind the first entries
left_behind : (users : Users) → AreFew (counts_of users) → (entries all : List Entry) (octets rest : List ℕ) (gate : ℕ) (tail : List ℕ) → gate ≢ open_gate → AllByRecursion (IsRecorded users) entries → AllByRecursion (IsRecorded users) all
    → octets ≡ texts entries ++ rest → octets ≡ texts all ++ gate ∷ tail → (more : List Entry) × (all ≡ entries ++ more) × (rest ≡ texts more ++ gate ∷ tail) × AllByRecursion (IsRecorded users) more
left_behind users few [] all octets rest gate tail closed in_entries in_all is_entries is_all = (all, refl, sym is_entries ∙ is_all, in_all)
left_behind users few (e ∷ entries) [] octets rest gate tail closed in_entries in_all is_entries is_all =
    absurd (closed (ap (λ (xs : List ℕ). get_or xs 0 0) (sym is_all ∙ is_entries)))
left_behind users few (e ∷ entries) (a ∷ all) octets rest gate tail closed in_entries in_all is_entries is_all =
    let one : octets ≡ open_record (payload_of e) ++ (texts entries ++ rest) = is_entries ∙ append_assoc (open_record (payload_of e)) (texts entries) rest in
    let other : octets ≡ open_record (payload_of a) ++ (texts all ++ gate ∷ tail) = is_all ∙ append_assoc (open_record (payload_of a)) (texts all) (gate ∷ tail) in
    let payloads : payload_of e ≡ payload_of a = one_record octets (payload_of e) (payload_of a) (record_there users e octets _ in_entries.0 one) (record_there users a octets _ in_all.0 other) in
    let same : e ≡ a = entry_told users few e a in_entries.0 in_all.0 payloads in
    let rests = same_front (open_record (payload_of e)) (open_record (payload_of a)) (texts entries ++ rest) (texts all ++ gate ∷ tail) (ap (λ (xs : List ℕ). length (open_record xs)) payloads) (sym one ∙ other) in
    let others = left_behind users few entries all (texts entries ++ rest) rest gate tail closed in_entries.1 in_all.1 refl rests.1 in
    (others.0, ap (λ (x : Entry). x ∷ all) (sym same) ∙ ap (λ (xs : List Entry). e ∷ xs) others.1, others.2, others.3)

-- behind what was read of a file that stands for entries
pub record IsLeft (users : Users) (entries all : List Entry) (octets : List ℕ) : Type 0 where
  pub more : List Entry
  pub all_are : all ≡ entries ++ more
  pub recorded : AllByRecursion (IsRecorded users) more
  pub gate : ℕ
  pub tail : List ℕ
  pub closed : gate ≢ open_gate
  pub octets_are : octets ≡ texts more ++ gate ∷ tail

pub behind_place : (users : Users) (entries : List Entry) (place : ℕ) (past : Past) (read : IsRead users entries place past) → drop place (reading past) ≡ read.rest
behind_place users entries place past read =
    ap (drop place) read.front ∙ drop_at (front_of (header_of users) (map payload_of entries)) read.rest place (sym read.place_is)

pub left_there : (users : Users) → AreFew (counts_of users) → (entries all : List Entry) (place : ℕ) (past : Past) → IsRead users entries place past → StandsFor users all (reading past) → IsLeft users entries all (drop place (reading past))
left_there users few entries all place past read stands =
    let file = stands.file in
    let header = header_of users in
    let one : reading past ≡ header_of users ++ (texts entries ++ read.rest) = read.front ∙ append_assoc (header_of users) (texts entries) read.rest in
    let other : reading past ≡ header_of users ++ (texts all ++ file.gate ∷ file.rest) = file.octets_are ∙ append_assoc (header_of users) (texts all) (file.gate ∷ file.rest) in
    let rests = same_front (header_of users) (header_of users) (texts entries ++ read.rest) (texts all ++ file.gate ∷ file.rest) refl (sym one ∙ other) in
    let left = left_behind users few entries all (texts entries ++ read.rest) read.rest file.gate file.rest file.is_closed read.recorded stands.recorded refl rests.1 in
    record {
      more = left.0;
      all_are = left.1;
      recorded = left.3;
      gate = file.gate;
      tail = file.rest;
      closed = file.is_closed;
      octets_are = behind_place users entries place past read ∙ left.2;
    }
