use Rattle.std.proofs.Common.{◌++◌, ap, ◌∙◌}
use Rattle.cal_model.specs.Replies.Hrefs.{href}
use Rattle.dav_write.proofs.PathLemmas.{read_back}
use Rattle.dav_write.proofs.paths.write_path.Goals as goal

pub returns-clause-read_back : goal.returns-clause-read_back
returns-clause-read_back c = read_back c.args.path.now c.push_path.new.out (c.in_ok-push_path.ensures.text ∙ ap (λ text. text ++ href c.args.path.now) c.new-out.ensures) c.in_ok-push_path.ensures.octets
