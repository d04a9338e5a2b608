use Rattle.cidr_files.specs.Contents.{key_addresses}
use Rattle.cidr_files.specs.Written.{spelled}
use Rattle.cidr_files.proofs.Joined.{aligned_part, filled_part}
use Rattle.cidr_files.proofs.writing.put_key_part.Goals as goal

pub returns-clause-part : goal.returns-clause-part
returns-clause-part g c =
    filled_part c.args.out.now.items (spelled g.W.FileAddress.bytes_of (key_addresses g.W.Address.value c.args.keys.now)) c.put_keys.new.out.items c.fill.new.out.items c.requires c.in_ok-put_keys.ensures c.in_ok-fill.ensures

pub returns-clause-aligned : goal.returns-clause-aligned
returns-clause-aligned g c =
    aligned_part c.args.out.now.items (spelled g.W.FileAddress.bytes_of (key_addresses g.W.Address.value c.args.keys.now)) c.fill.new.out.items c.requires
    (filled_part c.args.out.now.items (spelled g.W.FileAddress.bytes_of (key_addresses g.W.Address.value c.args.keys.now)) c.put_keys.new.out.items c.fill.new.out.items c.requires c.in_ok-put_keys.ensures c.in_ok-fill.ensures)
