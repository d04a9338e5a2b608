-- Files that are looked for by their names.
use Rattle.std.proofs.Common.{◌≡◌, ◌∙◌, ap, ℕ, ◌+◌, ◌<◌, ◌≤◌, Bool, true, false, if◌then◌else◌, List, length, drop, get_or, Some, None}
use Rattle.std.specs.Str.{bytes_eq}
use Rattle.std.proofs.lemmas.List.{drop_all, drop_more}
use Rattle.netset_uses.specs.Texts.{contents_of}
use Rattle.netset_uses.specs.declared.texts.TextFile.{TextFile}

module _ (files : List TextFile) (name : List ℕ) (i : ℕ) where
  -- none of the first files has the name
  abbrev pub IsBehind : Type 0
  IsBehind = contents_of files name ≡ contents_of (drop i files) name

  module _ (d : TextFile) (within : i < length files) (behind : IsBehind) where
    abbrev file : TextFile
    file = get_or files i d

    first : contents_of files name ≡ (if bytes_eq file.name.now name then Some file.bytes.now else contents_of (drop (i + 1) files) name)
    first = behind ∙ ap (λ (k : List TextFile). contents_of k name) (drop_more files i d within)

    pub found : bytes_eq (get_or files i d).name.now name ≡ true → contents_of files name ≡ Some (get_or files i d).bytes.now
    found is = first ∙ ap (λ (k : Bool). if k then Some file.bytes.now else contents_of (drop (i + 1) files) name) is

    pub passed : bytes_eq (get_or files i d).name.now name ≡ false → contents_of files name ≡ contents_of (drop (i + 1) files) name
    passed is = first ∙ ap (λ (k : Bool). if k then Some file.bytes.now else contents_of (drop (i + 1) files) name) is

  pub none_found : length files ≤ i → IsBehind → contents_of files name ≡ None
  none_found past behind = behind ∙ ap (λ (k : List TextFile). contents_of k name) (drop_all i files past)
