use Rattle.std.proofs.Common.{◌<◌, ◌∙◌, arith, length}
use Rattle.std.proofs.lemmas.List.{drop-set-lt, length-set}
use Rattle.cidr_c.specs.model.Files.{IsFoundInFile}
use Rattle.cidr_c.proofs.Answering.{all_answered, one_answered}
use Rattle.cidr_c.proofs.files.pcidr_file_lookup_each.Goals as goal

pub loop-i-preserved : goal.loop-i-preserved
loop-i-preserved c =
    let l = c.loop-i in
    let fits : l.i < length l.out = omega (arith, l.invariant.fits) in
    record {
      fits = length-set l.out l.i c.found_in.result ∙ l.invariant.fits;
      first = one_answered (IsFoundInFile c.args.bytes.now c.args.file.now) l.i (record { high = 0; low = 0; tag = 0; zero_17 = 0; zero_18 = 0; zero_20 = 0 }) c.args.asked.now l.out c.found_in.result
          l.invariant.first fits c.found_in.ensures;
      behind = drop-set-lt (length c.args.asked.now) l.out l.i c.found_in.result (omega arith) ∙ l.invariant.behind;
    }

pub returns : goal.returns
returns c =
    let l = c.loop-i in
    all_answered (IsFoundInFile c.args.bytes.now c.args.file.now) l.i c.args.asked.now c.args.out.now l.out (omega arith) l.invariant.first l.invariant.behind
