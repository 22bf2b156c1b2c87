use Rattle.std.proofs.Common.{◌≤◌, ◌∙◌, sym, ap, subst, map, length, arith}
use Rattle.std.proofs.lemmas.List.{length-map}
use Rattle.cal_model.specs.History.Origins.{AreLive}
use Rattle.cal_journal.specs.KeptEntries.{kept_entry}
use Rattle.collections.specs.Kept.{Kept as KeptStore, users_of, state_of, origins_of}
use Rattle.cal_book.proofs.Keeping.ShownLemmas.{live_now, origins_apart, state_of_now}
use Rattle.cal_book.proofs.history.look_behind.Goals as goal

pub of-requires : goal.of-requires
of-requires c =
    let journal = map kept_entry c.args.journal.now.items in
    let shown = c.follow.new.store in
    let state = c.in_ok-state.state in
    let count = length-map c.args.journal.now.items kept_entry in
    let entries = c.len-count.ensures in
    let test = c.if-followed-count.false in
    let all : length journal ≤ c.follow.new.place = omega (arith, count, entries, test) in
    let live = live_now (users_of c.args.shown.now) journal c.follow.new.place (state_of shown) (origins_of shown) c.follow.ensures.behind all in
    record { origins = origins_apart journal (state_of state) (origins_of state) (subst (λ (k : KeptStore). AreLive journal (origins_of k)) (sym c.in_ok-state.ensures) live) c.users-users.ensures.everywhere }

pub returns-clause-directory : goal.returns-clause-directory
returns-clause-directory c = ap users_of (c.of.ensures ∙ c.in_ok-state.ensures) ∙ c.follow.ensures.users

pub returns-clause-state : goal.returns-clause-state
returns-clause-state c =
    let journal = map kept_entry c.args.journal.now.items in
    let shown = c.follow.new.store in
    let count = length-map c.args.journal.now.items kept_entry in
    let entries = c.len-count.ensures in
    let test = c.if-followed-count.false in
    let all : length journal ≤ c.follow.new.place = omega (arith, count, entries, test) in
    ap state_of (c.of.ensures ∙ c.in_ok-state.ensures) ∙ state_of_now (users_of c.args.shown.now) journal c.follow.new.place (state_of shown) (origins_of shown) c.follow.ensures.behind all

pub returns-clause-origins : goal.returns-clause-origins
returns-clause-origins c =
    let journal = map kept_entry c.args.journal.now.items in
    let shown = c.follow.new.store in
    let count = length-map c.args.journal.now.items kept_entry in
    let entries = c.len-count.ensures in
    let test = c.if-followed-count.false in
    let all : length journal ≤ c.follow.new.place = omega (arith, count, entries, test) in
    subst (λ (k : KeptStore). AreLive journal (origins_of k)) (sym (c.of.ensures ∙ c.in_ok-state.ensures))
    (live_now (users_of c.args.shown.now) journal c.follow.new.place (state_of shown) (origins_of shown) c.follow.ensures.behind all)
