use Rattle.std.proofs.Common.{rules, ◌∙◌, sym, arith, pos, to_z-of_z, FitsSigned, w32, w64, subst, ◌<◌}
use Rattle.cal_model.specs.declared.zone.Onset.{Onset}
use Rattle.cal_model.specs.TimeZones.Zones.{offset_at, IsOffsetAt}
use Rattle.cal_model.proofs.TimeZones.Onsets.{offset_among_at}
use Rattle.cal_model.proofs.TimeZones.ConversionLaws.{IsOffsetAt-offset_at}
use Rattle.cal_model.proofs.zone_time.offset_at.Goals as goal

none : Onset
none = record { at = record { 0 = pos 0 }; offset = pos 0 }

pub returns-clause-value : goal.returns-clause-value
unfolding offset_at
returns-clause-value c =
    let fits : FitsSigned w32 c.offset_of.result = search (rules, c.offset_of.type_inv) in
    let in_range : FitsSigned w64 c.args.at.0 = search rules in
    let same = c.as_slice-onsets.ensures in
    let some : 0 < c.onsets_until-n.result = omega (arith, c.if-n-eq0.false) in
    let before = rw (to_z-of_z in_range) at c.onsets_until-n.ensures.before in
    let after = rw (to_z-of_z in_range) at c.onsets_until-n.ensures.after in
    let last = offset_among_at c.args.table.now.before c.args.at.0 c.as_slice-onsets.result.now c.onsets_until-n.result none some c.onsets_until-n.ensures.bound before after in
    let mine = rw same at (c.offset_of.ensures none) in
    let theirs = rw same at last in
    rw (to_z-of_z fits) (mine ∙ sym theirs)

pub returns-clause-meaning : goal.returns-clause-meaning
returns-clause-meaning c =
    subst (λ z. IsOffsetAt c.args.table.now c.args.at.0 z) (sym (returns-clause-value c)) (IsOffsetAt-offset_at c.args.table.now c.args.at.0 c.requires)
