-- What bytes look like that are handed in for a transfer form, and what is said of it.
use Rattle.std.specs.Prelude.{ℕ, Bool, List, [], ◌∷◌, ◌++◌, Option, Some, None, codes, drop, nat_eq, if◌then◌else◌}
use Rattle.std.specs.List.{starts_with}
use Rattle.bag_text.specs.declared.set_fault.SetFault.{SetFault}
use Rattle.bag_text.specs.declared.set_fault.SetFault.TheVariants.{BadOpening}
use Rattle.fault_words.specs.FaultWords.{form_words}
use Rattle.fault_words.specs.declared.other_file.OtherFile.{OtherFile}
use Rattle.fault_words.specs.declared.other_file.OtherFile.TheVariants.{Folder, Zip, Gzip, Tar, Declaration, ChangedForm}

-- the bytes begin with these
abbrev pub begins : List ℕ → List ℕ → Bool
begins bytes front = starts_with nat_eq bytes front

-- `ustar` is at byte 257
abbrev pub has_tar_mark : List ℕ → Bool
has_tar_mark bytes = begins (drop 257 bytes) (codes "ustar")

-- The first of these that the bytes look like, by the marks that each kind of file has.
abbrev pub likeness : List ℕ → Option OtherFile
likeness bytes =
    if begins bytes (codes "PK" ++ 3 ∷ 4 ∷ []) then Some Zip
    else if begins bytes (31 ∷ 139 ∷ []) then Some Gzip
    else if begins bytes (codes "BagIt-Version:") then Some Declaration
    else if begins bytes (codes "BAGSET 1" ++ 13 ∷ 10 ∷ []) then Some ChangedForm
    else if has_tar_mark bytes then Some Tar
    else None

-- what is said of a file that looks like one of this kind
abbrev pub looks_like : List ℕ → List ℕ
looks_like kind = codes "this looks like " ++ (kind ++ codes "; a bag's transfer form is wanted, which depot pack makes of a folder")

abbrev pub other_file_words : OtherFile → List ℕ
other_file_words Folder = codes "this is a folder; a bag's transfer form is wanted, which depot pack makes of it"
other_file_words Zip = looks_like (codes "a zip file")
other_file_words Gzip = looks_like (codes "a gzip file")
other_file_words Tar = looks_like (codes "a tar file")
other_file_words Declaration = looks_like (codes "a bag's bagit.txt")
other_file_words ChangedForm = codes "this looks like a transfer form whose line ends were changed; a form is carried byte for byte"

-- ---- what is said of a form that is refused

-- what the bytes look like, where they begin otherwise than a form
abbrev pub hint_for : SetFault → List ℕ → Option OtherFile
hint_for BadOpening bytes = likeness bytes
hint_for fault bytes = None

-- the fault's sentence, and what the bytes look like where that is known, each a line with its end
abbrev pub form_lines : SetFault → Option OtherFile → List ℕ
form_lines fault None = form_words fault ++ 10 ∷ []
form_lines fault (Some other) = (form_words fault ++ 10 ∷ []) ++ (other_file_words other ++ 10 ∷ [])
