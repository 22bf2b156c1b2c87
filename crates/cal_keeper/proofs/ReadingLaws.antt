-- The laws of reading a journal file: by the clauses of `open`, `next` and `append` alone.
use Rattle.std.proofs.Common.{◌≡◌, ◌⊎◌, inl, inr, ℕ, ◌≤◌, List, [], ◌∷◌, ◌++◌, map, refl, sym, ◌∙◌, ap, subst, append_assoc, ⊎_elim, arith}
use Rattle.std.proofs.lemmas.List.{append-nil, map-append}
use Rattle.cal_model.specs.declared.request.Event.{Event}
use Rattle.cal_model.specs.History.Journal.{Entry, asked}
use Rattle.cal_model.specs.State.ServerState.{directory_of}
use Rattle.cal_model.specs.Users.UsersFile.{Users}
use Rattle.cal_keeper.specs.Disks.CrashModel.{Past, found, wrote, synced, reading, MayLeave, moment, LeftSince}
use Rattle.cal_keeper.specs.Files.Appending.{StandsWithOrWithout}
use Rattle.cal_keeper.specs.Files.ReadingLaws.{GoesThrough, ReadingsAreExact, StandingFilesAreRead, ReadsAs, CrashesAreRecovered, FailuresLeaveFiles, AppendsThrough, HistoriesAreKept}
use Rattle.cal_keeper.proofs.Commits.{only_now}
use Rattle.cal_keeper.specs.Files.Standing.{recorded, events_of, StandsFor, IsKeptFor, IsRead}

-- Entries were read so far, whose events these are, and they are the front of those for which the file stands.
record IsReached (users : Users) (past : Past) (given : List (Event × ℕ)) (place : ℕ) : Type 0 where
  pub entries : List Entry
  pub read : IsRead users entries place past
  pub events_are : events_of users entries ≡ given
  pub front : (all : List Entry) → StandsFor users all (reading past) → (more : List Entry) × (all ≡ entries ++ more)

started : (users : Users) (past : Past) (first : ℕ) → IsRead users [] first past → IsReached users past [] first
started users past first read = record { entries = []; read = read; events_are = refl; front = λ all stands. (all, refl) }

-- an event beside its status, by its parts
pair_is : (given : Event × ℕ) (event : Event) (status : ℕ) → given.0 ≡ event → given.1 ≡ status → (event, status) ≡ given
pair_is given event status event_is status_is = sym (ap (λ (e : Event). (e, given.1)) event_is ∙ ap (λ (s : ℕ). (event, s)) status_is)

reached : (users : Users) (past : Past) (done given : List (Event × ℕ)) (first last : ℕ) → IsReached users past done first → GoesThrough users past first given last → IsReached users past (done ++ given) last
reached users past done [] first last was through =
    subst (λ (place : ℕ). IsReached users past (done ++ []) place) through (subst (λ (events : List (Event × ℕ)). IsReached users past events first) (sym (append-nil done)) was)
reached users past done (one ∷ given) first last was through =
    let entry = through.0 in
    let goes = through.3 in
    let own : (asked (directory_of users) through.0, through.0.status) ≡ one = pair_is one (asked (directory_of users) through.0) through.0.status through.2.event_is through.2.status_is in
    let events : events_of users (was.entries ++ through.0 ∷ []) ≡ done ++ one ∷ [] =
    map-append (λ (e : Entry). (asked (directory_of users) e, e.status)) was.entries (through.0 ∷ [])
    ∙ ap (λ (xs : List (Event × ℕ)). xs ++ (asked (directory_of users) through.0, through.0.status) ∷ []) was.events_are
    ∙ ap (λ (x : Event × ℕ). done ++ x ∷ []) own in
    let step : IsReached users past (done ++ one ∷ []) through.1 = record {
      entries = was.entries ++ entry ∷ [];
      read = goes.read was.entries was.read;
      events_are = events;
      front = λ all stands. let next = goes.stands was.entries all was.read stands in (next.0, next.1 ∙ sym (append_assoc was.entries (entry ∷ []) next.0));
    } in
    subst (λ (events : List (Event × ℕ)). IsReached users past events last) (append_assoc done (one ∷ []) given) (reached users past (done ++ one ∷ []) given through.1 last step through.4)

kept_stands : (users : Users) (entries : List Entry) (place : ℕ) (past : Past) → IsKeptFor users entries place past → StandsFor users entries (reading past)
kept_stands users entries place past kept = record { recorded = kept.recorded; file = kept.kept.file }

pub readings_are_exact : ReadingsAreExact
readings_are_exact users events past through =
    let here = reached users past [] events through.first through.last (started users past through.first through.opened) through.gave in
    let kept = through.ended.kept here.entries here.read in
    record {
      stands = (here.entries, kept_stands users here.entries through.last past kept, sym here.events_are);
      no_others = λ others stands. stands.2 ∙ ap (events_of users) (through.ended.stands here.entries stands.0 here.read stands.1) ∙ here.events_are;
      kept = λ entries stands. subst (λ (es : List Entry). IsKeptFor users es through.last past) (sym (through.ended.stands here.entries entries here.read stands)) kept;
    }

pub standing_files_are_read : StandingFilesAreRead
standing_files_are_read users given all first place past opened through stands =
    let here = reached users past [] given first place (started users past first opened) through in
    let front = here.front stands.0 stands.1 in
    record {
      more = events_of users front.0;
      all_are =
          stands.2
          ∙ ap (events_of users) front.1
          ∙ map-append (λ (e : Entry). (asked (directory_of users) e, e.status)) here.entries front.0
          ∙ ap (λ (xs : List (Event × ℕ)). xs ++ events_of users front.0) here.events_are;
      not_bad = λ bad. bad.stands here.entries stands.0 here.read stands.1;
    }

-- what is read of octets that stand for entries
read_as : (users : Users) (entries : List Entry) (octets : List ℕ) (events : List (Event × ℕ)) → StandsFor users entries octets → ReadsAs users octets events → events ≡ events_of users entries
read_as users entries octets events stands reads =
    let there : StandsFor users entries (reading reads.0) = subst (StandsFor users entries) (sym reads.1) stands in
    let exact = readings_are_exact users events reads.0 reads.2 in
    sym (exact.no_others (events_of users entries) (entries, there, refl))

pub crashes_are_recovered : CrashesAreRecovered
crashes_are_recovered users entries entry place next went_through old new kept appends = record {
  any_moment = λ image events left reads. by image events reads ((appends.any_moment entries kept).each image left);
  acknowledged = λ went image events may reads.
      let both = appends.acknowledged went entries kept in
      let stands : StandsFor users (entries ++ recorded entry ∷ []) image =
      subst (StandsFor users (entries ++ recorded entry ∷ [])) (sym (both.kept.settled image may)) (kept_stands users (entries ++ recorded entry ∷ []) next new both) in
      read_as users (entries ++ recorded entry ∷ []) image events stands reads;
}
  where
    by : (image : List ℕ) (events : List (Event × ℕ)) → ReadsAs users image events → StandsWithOrWithout users entries (recorded entry) image → (events ≡ events_of users entries) ⊎ (events ≡ events_of users (entries ++ recorded entry ∷ []))
    by image events reads (inl before) = inl (read_as users entries image events before reads)
    by image events reads (inr both) = inr (read_as users (entries ++ recorded entry ∷ []) image events both reads)

-- what a crash now may leave, one since any moment may have left
left_now : (start : ℕ) (past : Past) (image : List ℕ) → MayLeave past image → LeftSince start past image
left_now start (found octets) image may = may
left_now start (wrote before place count octets) image may = inl may
left_now start (synced before) image may = inl may

pub failures_leave_files : FailuresLeaveFiles
failures_leave_files users entries entry place next went_through old new kept appends possible =
    (appends.any_moment entries kept).each (reading new) (left_now (moment old) new (reading new) possible)

-- Histories

-- an image stands for the entries before and the first of those appended since
record IsFrontStanding (users : Users) (entries appended : List Entry) (image : List ℕ) : Type 0 where
  pub front : List Entry
  pub rest : List Entry
  pub appended_are : appended ≡ front ++ rest
  pub stands : StandsFor users (entries ++ map recorded front) image

-- none of them
none_standing : (users : Users) (entries appended : List Entry) (image : List ℕ) → StandsFor users entries image → IsFrontStanding users entries appended image
none_standing users entries appended image stands = record {
  front = [];
  rest = appended;
  appended_are = refl;
  stands = subst (λ (es : List Entry). StandsFor users es image) (sym (append-nil entries)) stands;
}

-- the first of them, and none or some or all of the others
first_standing : (users : Users) (entries : List Entry) (entry : Entry) (more : List Entry) (image : List ℕ) → IsFrontStanding users (entries ++ recorded entry ∷ []) more image → IsFrontStanding users entries (entry ∷ more) image
first_standing users entries entry more image was = record {
  front = entry ∷ was.front;
  rest = was.rest;
  appended_are = ap (λ (es : List Entry). entry ∷ es) was.appended_are;
  stands = subst (λ (es : List Entry). StandsFor users es image) (append_assoc entries (recorded entry ∷ []) (map recorded was.front)) was.stands;
}

history_later : (users : Users) (appended : List Entry) (entries : List Entry) (place last : ℕ) (old new : Past) → IsKeptFor users entries place old → AppendsThrough users place old appended last new
    → (start : ℕ) (image : List ℕ) → start ≤ moment old → LeftSince start new image → LeftSince start old image ⊎ IsFrontStanding users entries appended image
history_later users [] entries place last old new kept through start image early left = inl (subst (λ (past : Past). LeftSince start past image) (sym through.1) left)
history_later users (entry ∷ more) entries place last old new kept through start image early left =
    let between = through.1 in
    let appends = through.2 in
    let only = appends.any_moment entries kept in
    let both = appends.acknowledged refl entries kept in
    ⊎_elim
    (λ (was : LeftSince start through.1 image). ⊎_elim (λ before. inl before) (λ stands. inr (by stands)) (only.before start image early was))
    (λ (stands : IsFrontStanding users (entries ++ recorded entry ∷ []) more image). inr (first_standing users entries entry more image stands))
    (history_later users more (entries ++ recorded entry ∷ []) through.0 last between new both through.3 start image (omega (arith, early, only.later)) left)
  where
    by : StandsWithOrWithout users entries (recorded entry) image → IsFrontStanding users entries (entry ∷ more) image
    by (inl before) = none_standing users entries (entry ∷ more) image before
    by (inr with_it) = first_standing users entries entry more image (none_standing users (entries ++ recorded entry ∷ []) more image with_it)

history_kept : (users : Users) (appended : List Entry) (entries : List Entry) (place last : ℕ) (old new : Past) → IsKeptFor users entries place old → AppendsThrough users place old appended last new
    → IsKeptFor users (entries ++ map recorded appended) last new
history_kept users [] entries place last old new kept through =
    subst (λ (past : Past). IsKeptFor users (entries ++ []) last past) through.1
    (subst (λ (at : ℕ). IsKeptFor users (entries ++ []) at old) through.0 (subst (λ (es : List Entry). IsKeptFor users es place old) (sym (append-nil entries)) kept))
history_kept users (entry ∷ more) entries place last old new kept through =
    let appends = through.2 in
    let both = appends.acknowledged refl entries kept in
    subst (λ (es : List Entry). IsKeptFor users es last new) (append_assoc entries (recorded entry ∷ []) (map recorded more))
    (history_kept users more (entries ++ recorded entry ∷ []) through.0 last through.1 new both through.3)

pub histories_are_kept : HistoriesAreKept
histories_are_kept users entries appended place last old new kept through = record {
  any_moment = λ image events left reads.
      let stands = front image left in
      record {
        front = stands.front;
        rest = stands.rest;
        appended_are = stands.appended_are;
        events_are = read_as users (entries ++ map recorded stands.front) image events stands.stands reads;
      };
  acknowledged = history_kept users appended entries place last old new kept through;
}
  where
    front : (image : List ℕ) → LeftSince (moment old) new image → IsFrontStanding users entries appended image
    front image left = ⊎_elim
        (λ (was : LeftSince (moment old) old image).
        none_standing users entries appended image (subst (StandsFor users entries) (sym (kept.kept.settled image (only_now old image was))) (kept_stands users entries place old kept)))
        (λ (stands : IsFrontStanding users entries appended image). stands)
        (history_later users appended entries place last old new kept through (moment old) image (omega arith) left)
