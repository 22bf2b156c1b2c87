use Rattle.std.proofs.Common.{rules, ◌≡◌, ◌<◌, ◌^◌, length, pos, to_z, w64, refl, sym, subst, arith}
use Rattle.cal_keeper.specs.Steps.Decoding.{ReadsEvent}
use Rattle.cal_keeper.proofs.Decodings.{payload_read, payload_outside}
use Rattle.cal_keeper.proofs.decoding.read_event.Goals as goal

pub returns-in_default-2-clause-none : goal.returns-in_default-2-clause-none
returns-in_default-2-clause-none c = λ is_none.
    let none = rw c.in_default-2.is at c.in_ok-request.ensures.none in
    let known : c.in-Some.head.home < length c.args.users.now.people = omega (arith, c.len-2.ensures.len, c.if-len-head-2.false) in
    let few : length c.args.users.now.people < 2 ^ 32 = omega (arith, c.len-2.ensures.len, c.len-2.ensures.few) in
    payload_outside c.args.users.now c.args.payload.now c.in-Some.rest.now c.in-Some-name_at.calendar.now c.in-Some-name_at.rest.now c.in-Some.head c.in-Some.ensures.found known few c.in-Some-name_at.ensures.found (none refl)

pub returns-clause-found : goal.returns-clause-found
returns-clause-found c =
    let asks = rw c.in-Some-2.is at c.in_ok-request.ensures.found in
    let who_known : c.in-Some.head.who < length c.args.users.now.people = omega (arith, c.len.ensures.len, c.if-len-head.false) in
    let home_known : c.in-Some.head.home < length c.args.users.now.people = omega (arith, c.len-2.ensures.len, c.if-len-head-2.false) in
    let moment : to_z w64 c.in-Some.head.moment ≡ pos c.in-Some.head.moment = search rules in
    let read = payload_read c.args.users.now c.args.payload.now c.in-Some.rest.now c.in-Some-name_at.calendar.now c.in-Some-name_at.rest.now c.in-Some.head c.in-Some-2.request c.requires c.in-Some.ensures.found who_known home_known
    (omega (arith, c.if-head-gt-LAST_MOMENT.false)) c.in-Some.ensures.small c.in-Some-name_at.ensures.name c.in-Some-name_at.ensures.found asks in
    subst (λ (m : _). ReadsEvent c.args.users.now c.args.payload.now (record { session = 0; who = c.in-Some.head.who; moment = m; request = c.in-Some-2.request }) c.in-Some.head.status) (sym moment) read
