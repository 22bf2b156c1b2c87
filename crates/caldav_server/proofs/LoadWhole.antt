-- What all sessions of `load` did, once all passes are joined into one: the sums are those of the definition.
use Rattle.std.proofs.Common.{◌≡◌, ◌≢◌, ℕ, suc, ◌+◌, ◌<◌, ◌≤◌, true, false, List, [], ◌∷◌, ◌++◌, length, get_or, map, refl, sym, ap, ◌∙◌, subst, arith, append_assoc, ◌⊎◌, inl, inr}
use Rattle.std.specs.Prelude.{◌==◌, flat_map, sum_by, count_by}
use Rattle.std.specs.List.{AllZip, AllByRecursion, range_with_len}
use Rattle.std.proofs.lemmas.Bool.Decides.{eqb_tells}
use Rattle.std.proofs.lemmas.Grind.{flat_map-append}
use Rattle.std.proofs.lemmas.List.{append-nil}
use Rattle.std.proofs.lemmas.List.Sums.{sum_by-cons}
use Rattle.atomic_table.specs.Seated.{TableId}
use Rattle.turn_lock.specs.Journals.{entries_by}
use Rattle.turn_lock.specs.Numbers.{Has}
use Rattle.turn_lock.specs.Passes.{IsWhole}
use Rattle.cal_model.specs.History.Journal.{Entry}
use Rattle.cal_model.specs.Load.LoadRequests.{requests_of}
use Rattle.cal_model.specs.Load.LoadSummary.{load_users, replies_of, replies, is_accepted, all_octets}
use Rattle.cal_model.specs.State.ServerState.{Directory, directory_of, opening_state}
use Rattle.cal_model.specs.Users.UsersFile.{Users}
use Rattle.home_laws.specs.Homes.{IsOwnOrApart}
use Rattle.home_laws.specs.LoneSessions.{is_of}
use Rattle.load_requests.specs.NumberedUsers.{AreNumbered}
use Rattle.caldav_server.specs.LoadDone.{Did, HasDone}
use Rattle.caldav_server.specs.LoadJobs.{Known, author, IsWithin, numbers, HasJoined, IsJob, passes_at, JobsMade, ServeFrom, AreJobs}
use Rattle.caldav_server.specs.LoadSessions.{HasAnswered, replies_in}
use Rattle.caldav_server.specs.LoadSums.{passes_of, IsBack, accounts_in, accounts_of, HasNotFailed, requests_in, accepted_in, written_in, IsSumOf, IsSummed}
use Rattle.caldav_server.specs.LoadTallies.{given, IsTally}
use Rattle.caldav_server.specs.declared.load_joins.Tally.{Tally}
use Rattle.caldav_server.specs.declared.load_sessions.Account.{Account}
use Rattle.caldav_server.specs.declared.load_sessions.Done.{Done}
use Rattle.caldav_server.specs.declared.load_sessions.Role.{Role}
use Rattle.caldav_server.specs.declared.load_sessions.Role.TheVariants.{Serve, Expand}
use Rattle.caldav_server.specs.declared.load_sessions.Outcome.{Outcome}
use Rattle.caldav_server.specs.declared.load_sessions.Outcome.TheVariants.{Served, Worked, Failed}
use Rattle.caldav_server.specs.declared.load_sessions.Job.{Job}
use Rattle.caldav_server.proofs.LoadJoins.{AreAbout, OfUsers, all-placed, has-rest}
use Rattle.caldav_server.proofs.LoadPasses.{times-append, has-first, has-later}
use Rattle.caldav_server.proofs.LoadReplies.{replies-alone, own-about, requests-own}
use Rattle.caldav_server.proofs.LoadSums.{tally-none, tally-more}

-- Lists side by side

split : {X Y : Type 0} (R : X → Y → Type 0) (xs ys : List X) (zs : List Y) → AllZip R (xs ++ ys) zs
    → (front : List Y) × (behind : List Y) × (zs ≡ front ++ behind) × AllZip R xs front × AllZip R ys behind
split R [] ys zs each = ([], zs, refl, tt, each)
split R (x ∷ xs) ys [] each = absurd each
split R (x ∷ xs) ys (z ∷ zs) each =
    let more = split R xs ys zs each.1 in
    (z ∷ more.0, more.1, ap (λ rest. z ∷ rest) more.2, (each.0, more.3), more.4)

all-front : {X : Type 0} (P : X → Type 0) (xs ys : List X) → AllByRecursion P (xs ++ ys) → AllByRecursion P xs
all-front P [] ys all = tt
all-front P (x ∷ xs) ys all = (all.0, all-front P xs ys all.1)

all-behind : {X : Type 0} (P : X → Type 0) (xs ys : List X) → AllByRecursion P (xs ++ ys) → AllByRecursion P ys
all-behind P [] ys all = all
all-behind P (x ∷ xs) ys all = all-behind P xs ys all.1

map-both : {X Y : Type 0} (f : X → Y) (xs ys : List X) → map f (xs ++ ys) ≡ map f xs ++ map f ys
map-both f [] ys = refl
map-both f (x ∷ xs) ys = ap (λ rest. f x ∷ rest) (map-both f xs ys)

-- a number of one list or another is of one of them
has-either : (n : ℕ) (xs ys : List ℕ) → Has (xs ++ ys) n → Has xs n ⊎ Has ys n
has-either n [] ys has = inr has
has-either n (x ∷ xs) ys has = by (eqb_tells x n) (λ apart. has-either n xs ys (has-rest x n (xs ++ ys) apart has)) where
  by : (((x == n) ≡ true) × (x ≡ n)) ⊎ (((x == n) ≡ false) × (x ≢ n)) → ((x == n) ≡ false → Has xs n ⊎ Has ys n) → Has (x ∷ xs) n ⊎ Has ys n
  by (inl same) more = inl (subst (λ m. Has (m ∷ xs) n) (sym same.1) (has-first n xs))
  by (inr apart) more = side (more apart.0) where
    side : Has xs n ⊎ Has ys n → Has (x ∷ xs) n ⊎ Has ys n
    side (inl one) = inl (has-later n x xs one)
    side (inr other) = inr other

-- the first number may stand between two lists
has-between : (n first : ℕ) (xs ys : List ℕ) → Has (first ∷ (xs ++ ys)) n → Has (xs ++ first ∷ ys) n
has-between n first xs ys has =
    let here = times-append n xs ys in
    let there = times-append n xs (first ∷ ys) in
    omega (arith, has, here, there)

-- Passes

pub numbers-done : (users : Users) (puts : ℕ) (jobs : List Job) (dones : List Done) → AllZip (HasDone users puts) jobs dones → numbers (passes_of dones) ≡ numbers (passes_at jobs)
numbers-done users puts [] [] each = refl
numbers-done users puts [] (done ∷ dones) each = absurd each
numbers-done users puts (job ∷ jobs) [] each = absurd each
numbers-done users puts (job ∷ jobs) (done ∷ dones) each =
    let first = ap (λ (pass : Known). pass.number) each.0.pass in let rest = numbers-done users puts jobs dones each.1 in λ i. first i ∷ rest i

-- the passes come back as they were given, but for what they have seen
pub all-back : (users : Users) (puts : ℕ) (lock : TableId) (jobs : List Job) (dones : List Done) → AllByRecursion (IsJob lock users) jobs → AllZip (HasDone users puts) jobs dones
    → AllByRecursion (λ (done : Done). IsBack lock done.pass) dones
all-back users puts lock [] [] ready each = tt
all-back users puts lock [] (done ∷ dones) ready each = absurd each
all-back users puts lock (job ∷ jobs) [] ready each = absurd each
all-back users puts lock (job ∷ jobs) (done ∷ dones) ready each = (
  (
    ap (λ (pass : Known). pass.lock) each.0.pass ∙ ready.0.pass.0,
    ap (λ (pass : Known). pass.holds_turn) each.0.pass ∙ ready.0.pass.1,
    (ap (λ (pass : Known). pass.kin) each.0.pass ∙ ready.0.leaf.0, ap (λ (pass : Known). pass.gone) each.0.pass ∙ ready.0.leaf.1),
  ),
  all-back users puts lock jobs dones ready.1 each.1,
)

-- What was done

module _ (users : Users) (puts : ℕ) where
  -- a session that did not fail answered all
  answered : (session : ℕ) (role : Role) (pass now : Known) (outcome : Outcome) → role ≡ Serve session → Did users puts role pass now outcome → HasNotFailed outcome
      → (account : Account) × (outcome ≡ Served account) × HasAnswered users session (requests_of puts session) pass now account.requests account.accepted account.link.written
  answered session role pass now outcome is did done = by outcome (subst (λ d. Did users puts d pass now outcome) is did) done where
    by : (outcome : Outcome) → Did users puts (Serve session) pass now outcome → HasNotFailed outcome
        → (account : Account) × (outcome ≡ Served account) × HasAnswered users session (requests_of puts session) pass now account.requests account.accepted account.link.written
    by (Served account) did done = (account, refl, did)
    by Worked did done = absurd did
    by Failed did done = absurd done

  -- a worker entered nothing, and has no account
  worked : (role : Role) (pass now : Known) (outcome : Outcome) → role ≡ Expand → Did users puts role pass now outcome
      → (outcome ≡ Worked) × (entries_by author pass.number now.seen ≡ entries_by author pass.number pass.seen)
  worked role pass now outcome is did = by outcome (subst (λ d. Did users puts d pass now outcome) is did) where
    by : (outcome : Outcome) → Did users puts Expand pass now outcome → (outcome ≡ Worked) × (entries_by author pass.number now.seen ≡ entries_by author pass.number pass.seen)
    by (Served account) did = absurd did
    by Worked did = (refl, did)
    by Failed did = absurd did

  worked-accounts : (jobs : List Job) (dones : List Done) → AllByRecursion (λ (job : Job). job.role ≡ Expand) jobs → AllZip (HasDone users puts) jobs dones → accounts_of dones ≡ []
  worked-accounts [] [] expand each = refl
  worked-accounts [] (done ∷ dones) expand each = absurd each
  worked-accounts (job ∷ jobs) [] expand each = absurd each
  worked-accounts (job ∷ jobs) (done ∷ dones) expand each =
      let none = (worked job.role job.pass done.pass done.outcome expand.0 each.0.did).0 in
      let rest = worked-accounts jobs dones expand.1 each.1 in
      λ i. accounts_in (none i) ++ rest i

-- a session that answered, by its number in another place
known-number : (number other : ℕ) (journal : List Entry) (directory : Directory) (user : ℕ) → other ≡ number → AreAbout directory user (entries_by author number journal) → AreAbout directory user (entries_by author other journal)
known-number number other journal directory user is about = subst (λ n. AreAbout directory user (entries_by author n journal)) (sym is) about

-- All passes were joined into one
module _ (users : Users) (puts sessions : ℕ) (lock : TableId) (all : Known) (named : directory_of users ≡ load_users sessions) (found : AreNumbered users sessions) where
  abbrev AreIn : List Done → Type 0
  AreIn dones = AllByRecursion (λ other. IsWithin other all) (passes_of dones)

  -- what a session entered is about its own home
  entered : (session : ℕ) (job : Job) (done : Done) → session < sessions → job.role ≡ Serve session → IsJob lock users job → HasDone users puts job done → HasNotFailed done.outcome
      → AreAbout (directory_of users) session (entries_by author done.pass.number done.pass.seen)
  entered session job done few serve ready has ok =
      let did = answered users puts session job.role job.pass done.pass done.outcome serve has.did ok in
      known-number job.pass.number done.pass.number done.pass.seen (directory_of users) session (ap (λ (pass : Known). pass.number) has.pass)
      (own-about users job.pass.number session done.pass.seen (requests_of puts session) did.2.answers job.pass.seen
      (requests-own users puts session (found session few) (range_with_len 0 puts)) did.2.each did.2.session_is ready.fresh)

  of-users : (session : ℕ) (jobs : List Job) (dones : List Done) → session + length jobs ≤ sessions → ServeFrom session jobs → AllByRecursion (IsJob lock users) jobs → AllZip (HasDone users puts) jobs dones
      → AllByRecursion (λ (done : Done). HasNotFailed done.outcome) dones → AreIn dones → OfUsers (directory_of users) all.seen session (numbers (passes_of dones))
  of-users session [] [] few serve ready each ok within = tt
  of-users session [] (done ∷ dones) few serve ready each ok within = absurd each
  of-users session (job ∷ jobs) [] few serve ready each ok within = absurd each
  of-users session (job ∷ jobs) (done ∷ dones) few serve ready each ok within = (
    subst (AreAbout (directory_of users) session) (sym within.0.same) (entered session job done (omega arith) serve.0 ready.0 each.0 ok.0),
    of-users (session + 1) jobs dones (omega arith) serve.1 ready.1 each.1 ok.1 within.1,
  )

  -- workers entered nothing
  idle : (n : ℕ) (jobs : List Job) (dones : List Done) → AllByRecursion (λ (job : Job). job.role ≡ Expand) jobs → AllByRecursion (IsJob lock users) jobs → AllZip (HasDone users puts) jobs dones
      → AreIn dones → Has (numbers (passes_of dones)) n → entries_by author n all.seen ≡ []
  idle n [] [] expand ready each within has = absurd (omega arith)
  idle n [] (done ∷ dones) expand ready each within has = absurd each
  idle n (job ∷ jobs) [] expand ready each within has = absurd each
  idle n (job ∷ jobs) (done ∷ dones) expand ready each within has =
      by (eqb_tells done.pass.number n) (λ apart. idle n jobs dones expand.1 ready.1 each.1 within.1 (has-rest done.pass.number n (numbers (passes_of dones)) apart has)) where
        by : (((done.pass.number == n) ≡ true) × (done.pass.number ≡ n)) ⊎ (((done.pass.number == n) ≡ false) × (done.pass.number ≢ n)) → ((done.pass.number == n) ≡ false → entries_by author n all.seen ≡ [])
            → entries_by author n all.seen ≡ []
        by (inl same) more =
            let number : done.pass.number ≡ job.pass.number = ap (λ (pass : Known). pass.number) each.0.pass in
            ap (λ m. entries_by author m all.seen) (sym same.1) ∙ within.0.same ∙ ap (λ m. entries_by author m done.pass.seen) number
            ∙ (worked users puts job.role job.pass done.pass done.outcome expand.0 each.0.did).1 ∙ ready.0.fresh
        by (inr apart) more = more apart.0

  -- where the journal is known to be of these sessions and of no others, each is answered as if it were alone
  module _ (members resting : List ℕ) (are : OfUsers (directory_of users) all.seen 0 members) (nothing : (n : ℕ) → Has resting n → entries_by author n all.seen ≡ [])
      (among : AllByRecursion (λ entry. Has (members ++ resting) (author entry)) all.seen) where
    replied : (session : ℕ) (job : Job) (done : Done) (account : Account) → session < sessions → session < length members → done.pass.number ≡ get_or members session 0 → job.role ≡ Serve session → IsJob lock users job
        → HasDone users puts job done → IsWithin done.pass all → (did : HasAnswered users session (requests_of puts session) job.pass done.pass account.requests account.accepted account.link.written)
        → AreAbout (directory_of users) session (entries_by author done.pass.number done.pass.seen) → replies_in did.answers ≡ replies_of puts sessions session
    replied session job done account few within number serve ready has inside did about =
        let own : AreAbout (directory_of users) session (entries_by author (get_or members session 0) all.seen) =
        subst (λ n. AreAbout (directory_of users) session (entries_by author n all.seen)) number (subst (AreAbout (directory_of users) session) (sym inside.same) about) in
        let placed : AllByRecursion (IsOwnOrApart (directory_of users) session (is_of (get_or members session 0))) all.seen =
        all-placed (directory_of users) all.seen members resting session within are nothing (λ n has. has-either n members resting has) among own in
        let same : get_or members session 0 ≡ job.pass.number = sym number ∙ ap (λ (pass : Known). pass.number) has.pass in
        let apart : AllByRecursion (IsOwnOrApart (directory_of users) session (is_of job.pass.number)) done.pass.seen =
        all-front (IsOwnOrApart (directory_of users) session (is_of job.pass.number)) done.pass.seen inside.begins.0
        (subst (AllByRecursion (IsOwnOrApart (directory_of users) session (is_of job.pass.number))) inside.begins.1
        (subst (λ n. AllByRecursion (IsOwnOrApart (directory_of users) session (is_of n)) all.seen) same placed)) in
        replies-alone users job.pass.number session done.pass.seen (requests_of puts session) did.answers job.pass.seen
        (requests-own users puts session (found session few) (range_with_len 0 puts)) did.each did.legal apart did.session_is ready.fresh
        ∙ ap (λ directory. replies directory (opening_state directory) session (requests_of puts session)) named

    -- so the sums of the first ones, and then of all
    tallied : (session requests accepted octets : ℕ) (written : List ℕ) (jobs : List Job) (dones : List Done) → session + length jobs ≤ sessions → session + length jobs ≤ length members
        → ((k : ℕ) → k < length jobs → get_or (numbers (passes_of dones)) k 0 ≡ get_or members (session + k) 0) → ServeFrom session jobs → AllByRecursion (IsJob lock users) jobs
        → AllZip (HasDone users puts) jobs dones → AllByRecursion (λ (done : Done). HasNotFailed done.outcome) dones → AreIn dones → IsTally puts sessions session requests accepted octets written
        → IsTally puts sessions (session + length jobs) (requests + requests_in dones) (accepted + accepted_in dones) (length (written ++ written_in dones)) (written ++ written_in dones)
    tallied session requests accepted octets written [] [] few within place serve ready each ok inside sums =
        let same : session ≡ session + 0 = omega arith in
        let no_requests : requests + 0 ≡ requests = omega arith in
        let none_accepted : accepted + 0 ≡ accepted = omega arith in
        record {
          requests_is = no_requests ∙ sums.requests_is ∙ ap (λ n. length (given puts sessions n)) same;
          accepted_is = none_accepted ∙ sums.accepted_is ∙ ap (λ n. count_by is_accepted (given puts sessions n)) same;
          octets_is = refl;
          written_is = append-nil written ∙ sums.written_is ∙ ap (λ n. all_octets (given puts sessions n)) same;
        }
    tallied session requests accepted octets written [] (done ∷ dones) few within place serve ready each ok inside sums = absurd each
    tallied session requests accepted octets written (job ∷ jobs) [] few within place serve ready each ok inside sums = absurd each
    tallied session requests accepted octets written (job ∷ jobs) (done ∷ dones) few within place serve ready each ok inside sums =
        let did = answered users puts session job.role job.pass done.pass done.outcome serve.0 each.0.did ok.0 in
        let account = did.0 in
        let first : session + 0 ≡ session = omega arith in
        let here : done.pass.number ≡ get_or members session 0 = place 0 (omega arith) ∙ ap (λ n. get_or members n 0) first in
        let replies_are = replied session job done account (omega arith) (omega arith) here serve.0 ready.0 each.0 inside.0 did.2 (entered session job done (omega arith) serve.0 ready.0 each.0 ok.0) in
        let next = tally-more puts sessions session requests accepted octets written (replies_in did.2.answers) account.requests account.accepted account.link.written sums replies_are did.2.count_is did.2.accepted_is did.2.written_is in
        let rest = tallied (session + 1) (requests + account.requests) (accepted + account.accepted) (length (written ++ account.link.written)) (written ++ account.link.written) jobs dones
        (omega arith) (omega arith) (λ k less. let later : session + suc k ≡ (session + 1) + k = omega arith in place (suc k) (omega arith) ∙ ap (λ n. get_or members n 0) later) serve.1 ready.1 each.1 ok.1 inside.1 next in
        let requests_are : requests_in (done ∷ dones) ≡ account.requests + requests_in dones =
        ap (λ outcome. sum_by (λ (a : Account). a.requests) (accounts_in outcome ++ accounts_of dones)) did.1 ∙ sum_by-cons (λ (a : Account). a.requests) account (accounts_of dones) in
        let accepted_are : accepted_in (done ∷ dones) ≡ account.accepted + accepted_in dones =
        ap (λ outcome. sum_by (λ (a : Account). a.accepted) (accounts_in outcome ++ accounts_of dones)) did.1 ∙ sum_by-cons (λ (a : Account). a.accepted) account (accounts_of dones) in
        let written_are : written ++ written_in (done ∷ dones) ≡ (written ++ account.link.written) ++ written_in dones =
        ap (λ outcome. written ++ flat_map (λ (a : Account). a.link.written) (accounts_in outcome ++ accounts_of dones)) did.1 ∙ sym (append_assoc written account.link.written (written_in dones)) in
        let count : (session + 1) + length jobs ≡ session + length (job ∷ jobs) = omega arith in
        let requests_sum : requests + requests_in (done ∷ dones) ≡ (requests + account.requests) + requests_in dones = omega (arith, requests_are) in
        let accepted_sum : accepted + accepted_in (done ∷ dones) ≡ (accepted + account.accepted) + accepted_in dones = omega (arith, accepted_are) in
        record {
          requests_is = requests_sum ∙ rest.requests_is ∙ ap (λ n. length (given puts sessions n)) count;
          accepted_is = accepted_sum ∙ rest.accepted_is ∙ ap (λ n. count_by is_accepted (given puts sessions n)) count;
          octets_is = refl;
          written_is = written_are ∙ rest.written_is ∙ ap (λ n. all_octets (given puts sessions n)) count;
        }

-- Whole

has-zero : (numbers_of : List ℕ) → Has (0 ∷ numbers_of) 0
has-zero numbers_of = has-first 0 numbers_of

length-done : (users : Users) (puts : ℕ) (jobs : List Job) (dones : List Done) → AllZip (HasDone users puts) jobs dones → length (numbers (passes_of dones)) ≡ length jobs
length-done users puts [] [] each = refl
length-done users puts [] (done ∷ dones) each = absurd each
length-done users puts (job ∷ jobs) [] each = absurd each
length-done users puts (job ∷ jobs) (done ∷ dones) each = ap suc (length-done users puts jobs dones each.1)

first-or-idle : (n : ℕ) (ns : List ℕ) (journal : List Entry) → entries_by author 0 journal ≡ [] → (Has ns n → entries_by author n journal ≡ []) → Has (0 ∷ ns) n → entries_by author n journal ≡ []
first-or-idle n ns journal unwritten later has = by (eqb_tells 0 n) where
  by : (((0 == n) ≡ true) × (0 ≡ n)) ⊎ (((0 == n) ≡ false) × (0 ≢ n)) → entries_by author n journal ≡ []
  by (inl same) = subst (λ m. entries_by author m journal ≡ []) same.1 unwritten
  by (inr apart) = later (has-rest 0 n ns apart.0 has)

pub all-summed : (users : Users) (puts sessions : ℕ) (lock : TableId) (made all : Known) (jobs : List Job) (dones : List Done) (tally : Tally)
    → directory_of users ≡ load_users sessions → AreNumbered users sessions → 0 < sessions → JobsMade lock users made jobs → AreJobs sessions jobs
    → AllZip (HasDone users puts) jobs dones → HasJoined made all (passes_of dones) → IsSumOf dones tally → IsSummed puts sessions tally
all-summed users puts sessions lock made all jobs dones tally named found some from at each joined sums =
    let serving = at.serving in
    let expanding = at.expanding in
    let parted = split (HasDone users puts) serving expanding dones (subst (λ s. AllZip (HasDone users puts) s dones) at.jobs_are each) in
    let served = parted.0 in
    let others = parted.1 in
    let ready : AllByRecursion (IsJob lock users) (serving ++ expanding) = subst (AllByRecursion (IsJob lock users)) at.jobs_are from.each in
    let ok : AllByRecursion (λ (done : Done). HasNotFailed done.outcome) (served ++ others) = subst (AllByRecursion (λ (done : Done). HasNotFailed done.outcome)) parted.2 sums.done in
    let inside : AllByRecursion (λ other. IsWithin other all) (passes_of served ++ passes_of others) =
    subst (AllByRecursion (λ other. IsWithin other all)) (ap passes_of parted.2 ∙ map-both (λ (done : Done). done.pass) served others) joined.each in
    let members = numbers (passes_of served) in
    let resting = 0 ∷ numbers (passes_of others) in
    let all_numbers : numbers (passes_of dones) ≡ members ++ numbers (passes_of others) =
    ap (λ d. numbers (passes_of d)) parted.2 ∙ ap numbers (map-both (λ (done : Done). done.pass) served others) ∙ map-both (λ (pass : Known). pass.number) (passes_of served) (passes_of others) in
    let number : all.number ≡ 0 = joined.number_is ∙ ap (λ (pass : Known). pass.number) from.pass_is in
    let gone : all.gone ≡ numbers (passes_of dones) = joined.gone_is ∙ ap (λ g. g ++ numbers (passes_of dones)) (ap (λ (pass : Known). pass.gone) from.pass_is) in
    let kin : all.kin ≡ numbers (passes_of dones) = joined.kin_is ∙ ap (λ (pass : Known). pass.kin) from.pass_is ∙ sym (numbers-done users puts jobs dones each) in
    let held : all.number ∷ all.gone ≡ 0 ∷ numbers (passes_of dones) = λ i. number i ∷ gone i in
    let whole : IsWhole all = (
      subst (λ h. Has h 0) (sym held) (has-zero (numbers (passes_of dones))),
      λ n has. subst (λ h. Has h n) (sym held) (has-later n 0 (numbers (passes_of dones)) (subst (λ k. Has k n) kin has)),
    ) in
    let long : length members ≡ sessions = length-done users puts serving served parted.3 ∙ at.many in
    let not_none : passes_of dones ≢ [] = λ none. nobody sessions some (sym long ∙ shorter members (numbers (passes_of others)) (sym all_numbers ∙ ap numbers none)) in
    let are = of-users users puts sessions lock all named found 0 serving served (omega (arith, at.many)) at.serve (all-front (IsJob lock users) serving expanding ready) parted.3
    (all-front (λ (done : Done). HasNotFailed done.outcome) served others ok) (all-front (λ other. IsWithin other all) (passes_of served) (passes_of others) inside) in
    let unwritten : entries_by author 0 all.seen ≡ [] =
    joined.own 0 (subst (λ m. Has (m ∷ made.gone) 0) (sym (ap (λ (pass : Known). pass.number) from.pass_is)) (has-zero made.gone)) ∙ from.nothing in
    let nothing : (n : ℕ) → Has resting n → entries_by author n all.seen ≡ [] =
    λ n has. first-or-idle n (numbers (passes_of others)) all.seen unwritten (λ later. idle users puts sessions lock all named found n expanding others at.expand (all-behind (IsJob lock users) serving expanding ready) parted.4
    (all-behind (λ other. IsWithin other all) (passes_of served) (passes_of others) inside) later) has in
    let among : AllByRecursion (λ entry. Has (members ++ resting) (author entry)) all.seen =
    each-has (Has (all.number ∷ all.gone)) (Has (members ++ resting)) (λ n has. has-between n 0 members (numbers (passes_of others)) (subst (λ ns. Has (0 ∷ ns) n) all_numbers (subst (λ h. Has h n) held has))) all.seen (joined.whole not_none whole) in
    let tallied_all = tallied users puts sessions lock all named found members resting are nothing among 0 0 0 0 [] serving served (omega (arith, at.many)) (omega (arith, at.many, long))
    (λ k less. let same : k ≡ 0 + k = omega arith in ap (λ n. get_or members n 0) same) at.serve (all-front (IsJob lock users) serving expanding ready) parted.3
    (all-front (λ (done : Done). HasNotFailed done.outcome) served others ok) (all-front (λ other. IsWithin other all) (passes_of served) (passes_of others) inside) (tally-none puts sessions) in
    let accounts : accounts_of dones ≡ accounts_of served =
    ap accounts_of parted.2 ∙ flat_map-append (λ (done : Done). accounts_in done.outcome) served others
    ∙ ap (λ more. accounts_of served ++ more) (worked-accounts users puts expanding others at.expand parted.4) ∙ append-nil (accounts_of served) in
    let written : written_in dones ≡ written_in served = ap (flat_map (λ (a : Account). a.link.written)) accounts in
    let count : 0 + length serving ≡ sessions = omega (arith, at.many) in
    let requests_more : requests_in served ≡ 0 + requests_in served = omega arith in
    let accepted_more : accepted_in served ≡ 0 + accepted_in served = omega arith in
    record {
      written = written_in dones;
      digest_is = sums.digest_is;
      sums = record {
        requests_is = sums.requests_is ∙ ap (sum_by (λ (a : Account). a.requests)) accounts ∙ requests_more ∙ tallied_all.requests_is ∙ ap (λ n. length (given puts sessions n)) count;
        accepted_is = sums.accepted_is ∙ ap (sum_by (λ (a : Account). a.accepted)) accounts ∙ accepted_more ∙ tallied_all.accepted_is ∙ ap (λ n. count_by is_accepted (given puts sessions n)) count;
        octets_is = sums.octets_is;
        written_is = written ∙ tallied_all.written_is ∙ ap (λ n. all_octets (given puts sessions n)) count;
      };
    } where
      shorter : (xs ys : List ℕ) → xs ++ ys ≡ [] → length xs ≡ 0
      shorter [] ys none = refl
      shorter (x ∷ xs) ys none = absurd cc

      nobody : (n : ℕ) → 0 < n → n ≡ 0 → ⊥
      nobody n more none = omega arith

      each-has : (P Q : ℕ → Type 0) → ((n : ℕ) → P n → Q n) → (journal : List Entry) → AllByRecursion (λ entry. P (author entry)) journal → AllByRecursion (λ entry. Q (author entry)) journal
      each-has P Q f [] all = tt
      each-has P Q f (entry ∷ journal) all = (f (author entry) all.0, each-has P Q f journal all.1)
