use Rattle.name_pages.proofs.ChangeLemmas.{put_pages, put_ok, unchanged}
use Rattle.name_pages.proofs.pages.put_at.Goals as goal

pub returns-clause-pages : goal.returns-clause-pages
returns-clause-pages g c =
    put_pages c.args.name c.args.at c.args.pages.now.items c.requires.place.place c.requires.pages c.index_mut.result.now c.put_in_page.new.page c.index_mut.ensures.value c.put_in_page.ensures.bound c.requires.place.room c.args.value
    c.put_in_page.result c.put_in_page.ensures.ok c.put_in_page.ensures.in_order c.put_in_page.ensures.err

pub returns-clause-ok : goal.returns-clause-ok
returns-clause-ok g c =
    put_ok c.args.name c.args.at c.args.pages.now.items c.requires.place.place c.requires.pages c.index_mut.result.now c.put_in_page.new.page c.index_mut.ensures.value c.put_in_page.ensures.bound c.args.value
    c.put_in_page.result c.put_in_page.ensures.ok

pub returns-clause-err : goal.returns-clause-err
returns-clause-err g c =
    unchanged c.args.name c.args.at c.args.pages.now.items c.requires.place.place c.requires.pages c.index_mut.result.now c.put_in_page.new.page c.index_mut.ensures.value c.put_in_page.ensures.bound
    c.put_in_page.result c.put_in_page.ensures.err
