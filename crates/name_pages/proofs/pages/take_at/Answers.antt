use Rattle.name_pages.proofs.ChangeLemmas.{taken_pages, taken_ok, unchanged, kept_pages}
use Rattle.name_pages.proofs.pages.take_at.Goals as goal

pub returns-clause-left : goal.returns-clause-left
returns-clause-left g c =
    taken_pages c.args.name.now c.args.at c.args.pages.now.items c.requires.place c.requires.pages c.index_mut.result.now c.take_from_page.new.page c.index_mut.ensures.value c.take_from_page.ensures.bound
    c.take_from_page.result c.take_from_page.ensures.ok c.take_from_page.ensures.in_order c.take_from_page.ensures.err

pub returns-clause-ok : goal.returns-clause-ok
returns-clause-ok g c =
    taken_ok c.args.name.now c.args.at c.args.pages.now.items c.requires.place c.requires.pages c.index_mut.result.now c.take_from_page.new.page c.index_mut.ensures.value c.take_from_page.ensures.bound
    c.take_from_page.result c.take_from_page.ensures.ok

pub returns-clause-err : goal.returns-clause-err
returns-clause-err g c =
    unchanged c.args.name.now c.args.at c.args.pages.now.items c.requires.place c.requires.pages c.index_mut.result.now c.take_from_page.new.page c.index_mut.ensures.value c.take_from_page.ensures.bound
    c.take_from_page.result c.take_from_page.ensures.err

pub returns-clause-pages : goal.returns-clause-pages
returns-clause-pages g c =
    kept_pages c.args.name.now c.args.at c.args.pages.now.items c.requires.place c.requires.pages c.index_mut.result.now c.take_from_page.new.page c.index_mut.ensures.value c.take_from_page.ensures.bound
    c.take_from_page.result c.take_from_page.ensures.err
