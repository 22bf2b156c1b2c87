-- The passes that are out: one more is split off, or one of them is joined.
use Rattle.std.proofs.Common.{◌≡◌, ℕ, ◌+◌, ◌<◌, ◌≤◌, List, [], ◌∷◌, ◌++◌, map, refl, sym, ap, ◌∙◌, subst, arith, append_assoc, ◌⊎◌, inl, inr}
use Rattle.std.specs.Prelude.{◌==◌, Result, Ok, Err, IsOk, OnOk}
use Rattle.std.specs.List.{AllByRecursion}
use Rattle.std.proofs.lemmas.Bool.{cases_lt, false≢true}
use Rattle.std.proofs.lemmas.List.{append-nil, map-append}
use Rattle.atomic_table.specs.Seated.{TableId}
use Rattle.turn_lock.specs.Numbers.{times, as_one, Has}
use Rattle.cal_model.specs.History.Journal.{Entry}
use Rattle.cal_model.specs.Users.UsersFile.{Users}
use Rattle.caldav_server.specs.ThreadPasses.{Grows, HasTakenTurns, IsSpare, Awaits, GoesOn, TakesBack}
use Rattle.caldav_server.specs.LoadJobs.{Known, numbers}
use Rattle.caldav_server.specs.Shares.{IsPassFor}
use Rattle.caldav_server.proofs.LoadPasses.{times-append, all-snoc, numbers-snoc}

-- Journals

pub grows_none : (journal : List Entry) → Grows journal journal
grows_none journal = ([], sym (append-nil journal))

pub grows_more : (first second third : List Entry) → Grows first second → Grows second third → Grows first third
grows_more first second third early late = (early.0 ++ late.0, late.1 ∙ ap (λ seen. seen ++ late.0) early.1 ∙ append_assoc first early.0 late.0)

-- Turns

pub turns_none : (pass : Known) → HasTakenTurns pass pass
turns_none pass = record { same = refl; grown = grows_none pass.seen }

pub turns_more : (first second third : Known) → HasTakenTurns first second → HasTakenTurns second third → HasTakenTurns first third
turns_more first second third early late = record {
  same = late.same ∙ ap (λ (pass : Known). record pass { seen = third.seen; looks = third.looks }) early.same;
  grown = grows_more first.seen second.seen third.seen early.grown late.grown;
}

-- Ends

pub ok_since : {T E : Type 0} (first mid new : Result T E) → OnOk mid (IsOk first) → OnOk new (IsOk mid) → OnOk new (IsOk first)
ok_since first (Ok x) (Ok y) early late = early
ok_since first (Err e) (Ok y) early late = absurd (false≢true late)
ok_since first mid (Err e) early late = tt

-- Numbers in lists

-- one of them stands between the others
times-between : (n : ℕ) (before behind : List Known) (one : Known) → times n (numbers (before ++ one ∷ behind)) ≡ times n (numbers (before ++ behind)) + as_one (one.number == n)
times-between n [] behind one = omega arith
times-between n (first ∷ before) behind one = let rest = times-between n before behind one in omega (arith, rest)

all-without : (P : Known → Type 0) (before behind : List Known) (one : Known) → AllByRecursion P (before ++ one ∷ behind) → AllByRecursion P (before ++ behind)
all-without P [] behind one all = all.1
all-without P (first ∷ before) behind one all = (all.0, all-without P before behind one all.1)

all-here : (P : Known → Type 0) (before behind : List Known) (one : Known) → AllByRecursion P (before ++ one ∷ behind) → P one
all-here P [] behind one all = all.0
all-here P (first ∷ before) behind one all = all-here P before behind one all.1

module _ (lock : TableId) (users : Users) where
  -- it took turns
  pub ready_on : (old new : Known) → HasTakenTurns old new → IsPassFor lock users old → IsPassFor lock users new
  ready_on old new turned ready = subst (IsPassFor lock users) (sym turned.same) ready

  pub spare_on : (old new : Known) → HasTakenTurns old new → IsSpare lock users old → IsSpare lock users new
  spare_on old new turned spare = subst (IsSpare lock users) (sym turned.same) (record { ready = spare.ready; leaf = spare.leaf })

  pub awaits_on : (out : List Known) (old new : Known) (seen : List Entry) (looks : List ℕ) → new ≡ record old { seen = seen; looks = looks } → Awaits lock users out old → Awaits lock users out new
  awaits_on out old new seen looks is awaits = subst (Awaits lock users out) (sym is) (record { ready = awaits.ready; each = awaits.each; whole = awaits.whole })

  pub goes_on_more : (before out : List Known) (first second third : Known) → GoesOn lock users before first second → GoesOn lock users out second third → GoesOn lock users out first third
  goes_on_more before out first second third early late = record { awaits = late.awaits; grown = grows_more first.seen second.seen third.seen early.grown late.grown }

  -- one of those that are out
  pub awaits_one : (before behind : List Known) (one pass : Known) → Awaits lock users (before ++ one ∷ behind) pass → IsSpare lock users one
  awaits_one before behind one pass awaits = all-here (IsSpare lock users) before behind one awaits.each

  -- one more is split off
  pub awaits_more : (out : List Known) (old new spare : Known) (seen : List Entry) (looks : List ℕ) → Awaits lock users out old
      → new ≡ record old { seen = seen; looks = looks; kin = old.kin ++ spare.number ∷ [] } → spare ≡ record old { number = spare.number; seen = seen; looks = []; kin = []; gone = [] }
      → Awaits lock users (out ++ spare ∷ []) new
  awaits_more out old new spare seen looks awaits new_is spare_is =
      subst (Awaits lock users (out ++ spare ∷ [])) (sym new_is) (record {
        ready = awaits.ready;
        each = all-snoc (IsSpare lock users) out spare awaits.each (subst (IsSpare lock users) (sym spare_is) (record { ready = awaits.ready; leaf = (refl, refl) }));
        whole = (
          (let some = awaits.whole.0 in let here = grown 0 in omega (arith, some, here)),
          λ n has. by n has (cases_lt 0 (times n old.kin)),
        );
      })
    where
      grown : (n : ℕ) → times n (numbers (out ++ spare ∷ []) ++ old.gone) ≡ times n (numbers out ++ old.gone) + times n (spare.number ∷ [])
      grown n =
          let all : times n (numbers (out ++ spare ∷ []) ++ old.gone) ≡ times n (numbers out ++ spare.number ∷ []) + times n old.gone =
          ap (λ ns. times n (ns ++ old.gone)) (numbers-snoc out spare) ∙ times-append n (numbers out ++ spare.number ∷ []) old.gone in
          let front = times-append n (numbers out) (spare.number ∷ []) in
          let before = times-append n (numbers out) old.gone in
          omega (arith, all, front, before)

      by : (n : ℕ) → Has (old.kin ++ spare.number ∷ []) n → (0 < times n old.kin) ⊎ (times n old.kin ≤ 0) → Has (old.number ∷ (numbers (out ++ spare ∷ []) ++ old.gone)) n
      by n has (inl known) = let some = awaits.whole.1 n known in let here = grown n in omega (arith, some, here)
      by n has (inr new) = let all = times-append n old.kin (spare.number ∷ []) in let here = grown n in omega (arith, has, new, all, here)

  -- one of them is joined
  pub awaits_less : (before behind : List Known) (was back old new : Known) (seen : List Entry) → Awaits lock users (before ++ was ∷ behind) old → HasTakenTurns was back
      → new ≡ record old { seen = seen; kin = old.kin ++ back.kin; gone = old.gone ++ back.number ∷ back.gone }
      → Awaits lock users (before ++ behind) new
  awaits_less before behind was back old new seen awaits turned new_is =
      subst (Awaits lock users (before ++ behind)) (sym new_is) (record {
        ready = awaits.ready;
        each = all-without (IsSpare lock users) before behind was awaits.each;
        whole = (moved 0 awaits.whole.0, λ n has. moved n (awaits.whole.1 n (subst (λ kin. Has kin n) kin_is has)));
      })
    where
      spare : IsSpare lock users back
      spare = spare_on was back turned (awaits_one before behind was old awaits)

      kin_is : old.kin ++ back.kin ≡ old.kin
      kin_is = ap (λ kin. old.kin ++ kin) spare.leaf.0 ∙ append-nil old.kin

      gone_is : old.gone ++ back.number ∷ back.gone ≡ old.gone ++ was.number ∷ []
      gone_is = ap (λ gone. old.gone ++ back.number ∷ gone) spare.leaf.1 ∙ ap (λ (pass : Known). old.gone ++ pass.number ∷ []) turned.same

      moved : (n : ℕ) → Has (old.number ∷ (numbers (before ++ was ∷ behind) ++ old.gone)) n → Has (old.number ∷ (numbers (before ++ behind) ++ (old.gone ++ back.number ∷ back.gone))) n
      moved n has =
          let old_all = times-append n (numbers (before ++ was ∷ behind)) old.gone in
          let between = times-between n before behind was in
          let new_all = times-append n (numbers (before ++ behind)) (old.gone ++ back.number ∷ back.gone) in
          let joined : times n (old.gone ++ back.number ∷ back.gone) ≡ times n old.gone + times n (was.number ∷ []) = ap (times n) gone_is ∙ times-append n old.gone (was.number ∷ []) in
          omega (arith, has, old_all, between, new_all, joined)

  -- Lists of what has a pass each

  -- one more was split off
  pub goes_on_split : {T : Type 0} (jobs mid all : List T) (job : T) (pass_of : T → Known) (old new spare : Known) (seen : List Entry) (looks : List ℕ)
      → all ≡ mid ++ job ∷ [] → mid ≡ jobs → pass_of job ≡ spare → Awaits lock users (map pass_of jobs) old → Grows old.seen new.seen
      → new ≡ record old { seen = seen; looks = looks; kin = old.kin ++ spare.number ∷ [] } → spare ≡ record old { number = spare.number; seen = seen; looks = []; kin = []; gone = [] }
      → GoesOn lock users (map pass_of all) old new
  goes_on_split jobs mid all job pass_of old new spare seen looks all_is mid_is is awaits grown new_is spare_is =
      let out : map pass_of all ≡ map pass_of jobs ++ spare ∷ [] =
      ap (map pass_of) all_is ∙ ap (λ ps. map pass_of (ps ++ job ∷ [])) mid_is ∙ map-append pass_of jobs (job ∷ []) ∙ ap (λ one. map pass_of jobs ++ one ∷ []) is in
      record { awaits = subst (λ ps. Awaits lock users ps new) (sym out) (awaits_more (map pass_of jobs) old new spare seen looks awaits new_is spare_is); grown = grown }

  -- the first of these was taken back
  pub goes_on_taken : {T : Type 0} (before : List Known) (jobs rest : List T) (job : T) (pass_of : T → Known) (first mid new back : Known)
      → jobs ≡ job ∷ rest → GoesOn lock users (before ++ map pass_of jobs) first mid → HasTakenTurns (pass_of job) back → TakesBack lock users back mid new
      → GoesOn lock users (before ++ map pass_of rest) first new
  goes_on_taken before jobs rest job pass_of first mid new back is early turned takes =
      let awaits = subst (λ ps. Awaits lock users (before ++ map pass_of ps) mid) is early.awaits in
      goes_on_more (before ++ map pass_of jobs) (before ++ map pass_of rest) first mid new early (takes before (map pass_of rest) (pass_of job) turned awaits)

  -- it may be taken back
  pub spare_taken : {T : Type 0} (before : List Known) (jobs rest : List T) (job : T) (pass_of : T → Known) (first mid back : Known)
      → jobs ≡ job ∷ rest → GoesOn lock users (before ++ map pass_of jobs) first mid → HasTakenTurns (pass_of job) back → IsSpare lock users back
  spare_taken before jobs rest job pass_of first mid back is early turned =
      let awaits = subst (λ ps. Awaits lock users (before ++ map pass_of ps) mid) is early.awaits in
      spare_on (pass_of job) back turned (awaits_one before (map pass_of rest) (pass_of job) mid awaits)

  -- it was started
  pub goes_on_started : {T S : Type 0} (jobs rest : List T) (job : T) (job_of : T → Known) (threads all : List S) (thread : S) (thread_of : S → Known) (first pass : Known)
      → jobs ≡ job ∷ rest → all ≡ threads ++ thread ∷ [] → thread_of thread ≡ job_of job → GoesOn lock users (map thread_of threads ++ map job_of jobs) first pass
      → GoesOn lock users (map thread_of all ++ map job_of rest) first pass
  goes_on_started jobs rest job job_of threads all thread thread_of first pass is all_is same early =
      let out : map thread_of all ++ map job_of rest ≡ map thread_of threads ++ map job_of jobs =
      ap (λ ts. map thread_of ts ++ map job_of rest) all_is ∙ ap (λ ps. ps ++ map job_of rest) (map-append thread_of threads (thread ∷ []))
      ∙ append_assoc (map thread_of threads) (thread_of thread ∷ []) (map job_of rest) ∙ ap (λ one. map thread_of threads ++ one ∷ map job_of rest) same
      ∙ ap (λ ps. map thread_of threads ++ map job_of ps) (sym is) in
      record { awaits = subst (λ ps. Awaits lock users ps pass) (sym out) early.awaits; grown = early.grown }

  -- all were started
  pub awaits_started : {T S : Type 0} (jobs : List T) (job_of : T → Known) (threads all : List S) (thread_of : S → Known) (first pass new : Known)
      → jobs ≡ [] → all ≡ threads → GoesOn lock users (map thread_of threads ++ map job_of jobs) first pass → HasTakenTurns pass new → Awaits lock users (map thread_of all) new
  awaits_started jobs job_of threads all thread_of first pass new none all_is early turned =
      let out : map thread_of all ≡ map thread_of threads ++ map job_of jobs =
      ap (map thread_of) all_is ∙ sym (append-nil (map thread_of threads)) ∙ ap (λ ps. map thread_of threads ++ map job_of ps) (sym none) in
      awaits_on (map thread_of all) pass new new.seen new.looks turned.same (subst (λ ps. Awaits lock users ps pass) (sym out) early.awaits)
