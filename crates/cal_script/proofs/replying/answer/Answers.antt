use Rattle.std.proofs.Common.{ap, rules, refl, ◌∙◌, FitsSigned, w64}
use Rattle.std.proofs.lemmas.Int.{to_z-of_z}
use Rattle.cal_model.specs.Replies.WireReplies.{answer_octets}
use Rattle.cal_script.proofs.replying.answer.Goals as goal

pub returns-in-Ok-clause-answered : goal.returns-in-Ok-clause-answered
returns-in-Ok-clause-answered g c =
    let fits : FitsSigned w64 c.seconds.result = search (rules, c.seconds.type_inv) in
    record {
      given = _;
      is = c.in-Reply.ensures.answer;
      stands = refl;
      octets_are = c.in-Ok.ensures ∙ ap (answer_octets c.args.before c.args.wire.now c.in-Reply.reply) (to_z-of_z w64 c.seconds.result fits ∙ c.seconds.ensures.value);
    }
