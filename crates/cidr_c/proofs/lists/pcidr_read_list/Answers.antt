use Rattle.std.proofs.Common.{List, ℕ, inl, inr, refl, subst, ◌∙◌}
use Rattle.cidr_lists.specs.Lists.{text_by}
use Rattle.cidr_lists.specs.Reading.{listed}
use Rattle.cidr_lists.specs.Texts.{HaveNetworks, IsListError}
use Rattle.cidr_lists.specs.declared.lines.HostBits.{HostBits}
use Rattle.cidr_c.specs.calls.Calls.{IsPrintedInto}
use Rattle.cidr_c.specs.calls.Lists.{AreListNetworks, list_by, of_both}
use Rattle.cidr_c.proofs.ListsRead.{networks_read, networks_said}
use Rattle.cidr_c.proofs.lists.pcidr_read_list.Goals as goal

pub returns-in-Ok : goal.returns-in-Ok
returns-in-Ok c =
    let text = list_by c.args.host_bits c.args.text.now in
    let lists = c.in-Ok.lists in
    let said = subst (λ (bits : HostBits). HaveNetworks (text_by bits c.args.text.now) lists) c.host_bits_by.ensures c.in-Ok.ensures in
    inl (
      networks_read (AreListNetworks text) (of_both (listed lists)) c.args.out.now c.put_lists.new.out c.args.count.now c.put_lists.new.count
          c.put_lists.result (networks_said text lists said) c.put_lists.ensures,
      refl,
      refl,
    )

pub returns-in-Err-Line : goal.returns-in-Err-Line
returns-in-Err-Line c =
    let bad = c.in-Err-Line in
    let text = list_by c.args.host_bits c.args.text.now in
    let why = subst (λ (bits : HostBits). IsListError (text_by bits c.args.text.now) bad.field-0) c.host_bits_by.ensures bad.ensures in
    inr record {
      error = bad.error;
      first = subst (IsListError text) bad.field-0-is why;
      number = c.line_code.ensures;
      len = c.print.result;
      told = subst (λ (told : List ℕ). IsPrintedInto told c.args.message.now c.print.new.out c.print.result)
          (c.as_str.ensures.value ∙ c.message.ensures) c.print.ensures;
      stays = (refl, refl);
    }
