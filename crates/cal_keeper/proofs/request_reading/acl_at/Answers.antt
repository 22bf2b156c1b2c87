use Rattle.std.proofs.Common.{All, ◌∙◌, ap, subst}
use Rattle.cal_model.specs.declared.path.Path.{Path}
use Rattle.cal_model.specs.declared.request.Content.TheVariants as content
use Rattle.cal_model.specs.declared.request.Method.TheVariants.{Acl}
use Rattle.cal_model.specs.History.Journal.{plain}
use Rattle.cal_keeper.specs.Files.Payloads.{GrantHasForm}
use Rattle.cal_keeper.proofs.RequestParts.{acl_asks}
use Rattle.cal_keeper.proofs.request_reading.acl_at.Goals as goal

pub returns-clause-found : goal.returns-clause-found
returns-clause-found c =
    let found = rw c.in-Some.is at c.in_ok-size.ensures.found in
    let few = rw c.in-Some.is at c.in_ok-size.ensures.few in
    let form = rw c.in-Some.is at c.in_ok-size.ensures.form in
    let own_form = subst (λ counts. All (GrantHasForm counts) c.in-Some.grants) c.counts_of.ensures.counts form in
    let small = rw c.in-Some.is at c.in_ok-size.ensures.small in
    acl_asks c.args.users.now c.args.home c.args.calendar.now c.args.octets.now c.in-Some.size c.in-Some.grants c.plain.result found few own_form small
    (c.plain.ensures ∙ ap (λ (path : Path). plain Acl path c.in-Some.size (content.Acl c.in-Some.grants)) c.in_ok-path.ensures)
