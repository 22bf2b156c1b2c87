use Rattle.std.proofs.Common.{◌∙◌, sym, ap, map}
use borrow.Follows.Closed.{read_of}
use Rattle.std.specs.Option.{ghost_name_of}
use Rattle.cal_base.proofs.Lists.NameMapLemmas.{shown, value_at-shown, with_changed-shown}
use Rattle.cal_base.proofs.name_map.NameMap.get_mut.Goals as goal

pub returns : goal.returns
returns g c =
    let entries = c.self.inside.entries.entries in
    let name = c.args.name.now in
    rw (← c.self.view_is) (
      λ t. read_of (ghost_name_of c.get_mut.result)
          (λ (w : g.row.V.Denot). (ap (map (shown (λ key. key.items))) (c.get_mut.follows.holds w).0 ∙ with_changed-shown (λ key. key.items) entries name w) t)
          (ap (λ m. map (shown (λ key. key.items)) m.entries) c.get_mut.follows.holds-at-none t),
      record { writes_back = tt; value = c.get_mut.ensures.value ∙ sym (value_at-shown (λ key. key.items) entries name) },
    )
