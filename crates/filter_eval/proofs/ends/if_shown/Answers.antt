use Rattle.std.proofs.Common.{◌≡◌, Bool, cond, true, false, ap, sym, ◌∙◌, Some, None, ℤ, rules, FitsSigned, w64, to_z-of_z}
use Rattle.cal_model.specs.TimeZones.Zones.{local_at}
use Rattle.cal_model.specs.Words.Integers.{same_int}
use Rattle.filter_eval.proofs.ends.if_shown.Goals as goal

pub returns-then-is_same : goal.returns-then-is_same
returns-then-is_same c =
    let digits : FitsSigned w64 c.args.digits = search rules in
    let instant : FitsSigned w64 c.args.instant = search rules in
    let shown : FitsSigned w64 c.local_time.result = search (rules, c.local_time.type_inv) in
    let same = simp to_z-of_z at c.is_same.ensures in
    let local = simp to_z-of_z at c.local_time.ensures in
    let test : same_int (local_at c.args.zone.now c.args.instant) c.args.digits ≡ true = sym (ap (λ (z : ℤ). same_int z c.args.digits) local) ∙ (sym same ∙ c.if-is_same.true) in
    simp to_z-of_z (ap (λ (b : Bool). cond b (Some c.args.instant) None) (sym test))

pub returns-else-is_same : goal.returns-else-is_same
returns-else-is_same c =
    let digits : FitsSigned w64 c.args.digits = search rules in
    let instant : FitsSigned w64 c.args.instant = search rules in
    let shown : FitsSigned w64 c.local_time.result = search (rules, c.local_time.type_inv) in
    let same = simp to_z-of_z at c.is_same.ensures in
    let local = simp to_z-of_z at c.local_time.ensures in
    let test : same_int (local_at c.args.zone.now c.args.instant) c.args.digits ≡ false = sym (ap (λ (z : ℤ). same_int z c.args.digits) local) ∙ (sym same ∙ c.if-is_same.false) in
    ap (λ (b : Bool). cond b (Some c.args.instant) None) (sym test)
