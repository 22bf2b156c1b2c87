use Rattle.std.proofs.Common.{rules, ◌<◌, ◌^◌}
use Rattle.cal_session.proofs.LoadLaws.{asks_change, read_on_to, read_other}
use Rattle.cal_session.proofs.loading.read_one.Goals as goal

pub ask_again-remade-requires-clause-asks : goal.ask_again-remade-requires-clause-asks
ask_again-remade-requires-clause-asks g c =
    asks_change g.D.Disk.past g.D.Disk.faults c.args.users.now c.args.book.now c.args.reader c.in-Entry.behind c.in-Entry.event c.in-Entry.status c.requires c.in-Entry.ensures.found c.len-users.ensures.told

pub returns-in-Same-clause-read : goal.returns-in-Same-clause-read
returns-in-Same-clause-read g c =
    let within : c.args.reader.place < 2 ^ 64 = search rules in
    read_on_to g.D.Disk.past g.D.Disk.faults c.args.users.now c.args.book.now c.args.reader c.in-Entry.behind c.in-Entry.event c.in-Entry.status c.requires c.in-Entry.ensures.found
    c.ask_again-remade.new.book c.len-users.ensures.told c.ask_again-remade.ensures.users c.in-Entry.ensures.past_kept within c.in-Same.ensures.remade

pub returns-in-Other-clause-read : goal.returns-in-Other-clause-read
returns-in-Other-clause-read g c =
    read_other g.D.Disk.past g.D.Disk.faults c.args.users.now c.args.book.now c.args.reader c.in-Entry.behind c.in-Entry.event c.in-Entry.status c.requires c.in-Entry.ensures.found
    c.in-Other.made c.place-place.result c.ask_again-remade.new.book c.into_disk.result c.into_disk.ensures c.place-place.ensures c.in-Entry.ensures.past_kept c.entries-entries.ensures.kept.legal c.in-Other.ensures.remade
