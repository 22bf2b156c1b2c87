use Rattle.std.proofs.Common.{Some, rules, refl, sym, ap, ◌∙◌, FitsSigned, w32}
use Rattle.std.proofs.lemmas.Int.{to_z-of_z}
use Rattle.cal_model.specs.History.Claims.{next_claim}
use Rattle.piece_claims.specs.Boards.{Shows, out_after, pair_at}
use Rattle.cal_book.specs.Cores.{Core}
use Rattle.cal_book.specs.UpToDate.{work_with}
use Rattle.dav_reports.proofs.KeptObjects.{IsKept-stored}
use Rattle.cal_book.proofs.PublishLemmas.{rows-limited}
use Rattle.cal_book.proofs.book.Book.claim.Goals as goal

pub returns-in_default-clause-pair : goal.returns-in_default-clause-pair
returns-in_default-clause-pair c =
    let work = work_with c.self.inside.history.journal c.self.inside.claims in
    let up = c.self.invariant.up_to_date in
    let shows : Shows c.self.inside.claims work = record { entries = up.entries; live = up.live; latest = refl; pieces = refl; out = refl } in
    c.in_default.ensures.pair ∙ sym (c.next_is_of_work.ensures c.self.inside.claims work shows) ∙ ap (λ (core : Core). next_claim core.work) c.self.view_is

pub returns-in_default-clause-work : goal.returns-in_default-clause-work
returns-in_default-clause-work c =
    let work = work_with c.self.inside.history.journal c.self.inside.claims in
    let up = c.self.invariant.up_to_date in
    let shows : Shows c.self.inside.claims work = record { entries = up.entries; live = up.live; latest = refl; pieces = refl; out = refl } in
    ap (λ o. record c.args.self.now.work { out = out_after o c.args.self.now.work.out })
    (c.in_default.ensures.pair ∙ sym (c.next_is_of_work.ensures c.self.inside.claims work shows) ∙ ap (λ (core : Core). next_claim core.work) c.self.view_is)

pub returns-clause-pair : goal.returns-clause-pair
returns-clause-pair c =
    let work = work_with c.self.inside.history.journal c.self.inside.claims in
    let up = c.self.invariant.up_to_date in
    let shows : Shows c.self.inside.claims work = record { entries = up.entries; live = up.live; latest = refl; pieces = refl; out = refl } in
    let fits : FitsSigned w32 c.in-Some.window = search rules in
    ap (λ window. Some (pair_at c.in-Some.origin window)) (to_z-of_z w32 c.in-Some.window fits)
    ∙ c.in-Some.ensures.pair ∙ sym (c.next_is_of_work.ensures c.self.inside.claims work shows) ∙ ap (λ (core : Core). next_claim core.work) c.self.view_is

pub returns-clause-work : goal.returns-clause-work
returns-clause-work c =
    let work = work_with c.self.inside.history.journal c.self.inside.claims in
    let up = c.self.invariant.up_to_date in
    let shows : Shows c.self.inside.claims work = record { entries = up.entries; live = up.live; latest = refl; pieces = refl; out = refl } in
    ap (work_with c.self.inside.history.journal) c.claim.ensures.board
    ∙ ap (λ o. record work { out = out_after o work.out }) (sym (c.next_is_of_work.ensures c.self.inside.claims work shows))
    ∙ ap (λ (core : Core). record core.work { out = out_after (next_claim core.work) core.work.out }) c.self.view_is

pub invariant_of-result : goal.invariant_of-result
invariant_of-result c =
    let stored = c.in_ok-stored.stored in
    let servable = c.in_ok-stored.ensures.servable in
    let kept = IsKept-stored stored.octets stored.object servable stored.stored.reading in
    record { few = kept.few; coarse = kept.coarse; limited = rows-limited stored.octets stored.object servable stored.stored.reading }
