use Rattle.std.proofs.Common.{sym, ◌∙◌}
use Rattle.std.specs.Prelude.{codes}
use Rattle.dav_elements.proofs.SetLemmas.{set_of_text, no_set}
use Rattle.dav_elements.proofs.aces.dav_set.Goals as goal

pub returns-then-is_text : goal.returns-then-is_text
returns-then-is_text c = set_of_text c.args.name.now (codes "read") (sym c.is_text.ensures ∙ c.if-is_text.true)

pub returns-then-is_text-2 : goal.returns-then-is_text-2
returns-then-is_text-2 c = set_of_text c.args.name.now (codes "write-content") (sym c.is_text-else-is_text.ensures ∙ c.if-is_text-2.true)

pub returns-then-is_text-3 : goal.returns-then-is_text-3
returns-then-is_text-3 c = set_of_text c.args.name.now (codes "write-properties") (sym c.is_text-else-is_text-2.ensures ∙ c.if-is_text-3.true)

pub returns-then-is_text-4 : goal.returns-then-is_text-4
returns-then-is_text-4 c = set_of_text c.args.name.now (codes "bind") (sym c.is_text-else-is_text-3.ensures ∙ c.if-is_text-4.true)

pub returns-then-is_text-5 : goal.returns-then-is_text-5
returns-then-is_text-5 c = set_of_text c.args.name.now (codes "unbind") (sym c.is_text-else-is_text-4.ensures ∙ c.if-is_text-5.true)

pub returns-then-is_text-6 : goal.returns-then-is_text-6
returns-then-is_text-6 c = set_of_text c.args.name.now (codes "read-acl") (sym c.is_text-else-is_text-5.ensures ∙ c.if-is_text-6.true)

pub returns-then-is_text-7 : goal.returns-then-is_text-7
returns-then-is_text-7 c = set_of_text c.args.name.now (codes "write-acl") (sym c.is_text-else-is_text-6.ensures ∙ c.if-is_text-7.true)

pub returns-then-is_text-8 : goal.returns-then-is_text-8
returns-then-is_text-8 c = set_of_text c.args.name.now (codes "read-current-user-privilege-set") (sym c.is_text-else-is_text-7.ensures ∙ c.if-is_text-8.true)

pub returns-then-is_text-9 : goal.returns-then-is_text-9
returns-then-is_text-9 c = set_of_text c.args.name.now (codes "write") (sym c.is_text-else-is_text-8.ensures ∙ c.if-is_text-9.true)

pub returns-then-is_text-10 : goal.returns-then-is_text-10
returns-then-is_text-10 c = set_of_text c.args.name.now (codes "all") (sym c.is_text-else-is_text-9.ensures ∙ c.if-is_text-10.true)

pub returns-else-is_text-10 : goal.returns-else-is_text-10
returns-else-is_text-10 c = no_set c.args.name.now (record {
  read = sym c.is_text.ensures ∙ c.if-is_text.false;
  write_content = sym c.is_text-else-is_text.ensures ∙ c.if-is_text-2.false;
  write_properties = sym c.is_text-else-is_text-2.ensures ∙ c.if-is_text-3.false;
  bind = sym c.is_text-else-is_text-3.ensures ∙ c.if-is_text-4.false;
  unbind = sym c.is_text-else-is_text-4.ensures ∙ c.if-is_text-5.false;
  read_acl = sym c.is_text-else-is_text-5.ensures ∙ c.if-is_text-6.false;
  write_acl = sym c.is_text-else-is_text-6.ensures ∙ c.if-is_text-7.false;
  read_held = sym c.is_text-else-is_text-7.ensures ∙ c.if-is_text-8.false;
  write = sym c.is_text-else-is_text-8.ensures ∙ c.if-is_text-9.false;
  all = sym c.is_text-else-is_text-9.ensures ∙ c.if-is_text-10.false;
})
