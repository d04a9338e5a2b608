use Rattle.netset_uses.proofs.Opening.{IsBehind}
use Rattle.netset_uses.proofs.texts.TextFilesFiles.open.Given as goal

abbrev pub invariant-loop-file : goal.invariant-loop-file
invariant-loop-file l = IsBehind l.files l.name l.file-index
